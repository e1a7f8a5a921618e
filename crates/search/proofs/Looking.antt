-- A search, place by place, chunk by chunk, run by run and strip by strip: what is left decides as long as nothing bad was met.
-- Assumes nothing.
use Prim.Native.Nat.{ℕ, suc, ◌+◌, ◌-◌, ◌*◌, ◌≤◌, ◌<◌}
use mathlib.Core.Path.{◌≡◌, refl, sym, ◌∙◌, ap}
use mathlib.Core.Bool.{Bool, true, false, cond, ◌||◌, true≢false}
use mathlib.Core.List.{List, [], ◌∷◌, ◌++◌, map}
use native.Mathlib.Omega.{arith}
use native.Mathlib.Nat.{add-zero}
use native.Mathlib.Numerals.{unary_clauses}
use lib.ListN.{length}
use lib.IntN.{ℤ, pos, ◌+ℤ◌, ◌*ℤ◌}
use lib.Ieee.{Float}
use Rattle.integers.proofs.Places.{place-first, place-sum}
use Rattle.offsets.specs.InnerLists.{steps, runs_places}
use Rattle.offsets.specs.Values.{value_at}
use Rattle.offsets.proofs.Writing.{steps-append, length-steps}
use Rattle.floats.specs.Splitting.{is_bad}
use Rattle.kernels.specs.Lanes.{some}
use Rattle.laws.proofs.Tests.{neither}
use Rattle.search.specs.Searching.{SearchAnswer, found, none_bad, refusal, lowest_bad}

-- the first of two answers that tells of something
abbrev after : SearchAnswer → SearchAnswer → SearchAnswer
after none_bad rest = rest
after (found k z) rest = found k z
after (refusal n) rest = refusal n

abbrev tells : SearchAnswer → Bool
tells none_bad = false
tells (found k z) = true
tells (refusal n) = true

module _ (values : List Float) where
  -- one place: its value is bad, or it is not
  pub here-bad : (k : ℕ) (z : ℤ) (zs : List ℤ) → is_bad (value_at values z) ≡ true → lowest_bad values k (z ∷ zs) ≡ found k z
  unfolding lowest_bad
  here-bad k z zs e = ap (λ (b : Bool). cond b (found k z) (lowest_bad values (suc k) zs)) e

  pub here-good : (k : ℕ) (z : ℤ) (zs : List ℤ) → is_bad (value_at values z) ≡ false → lowest_bad values k (z ∷ zs) ≡ lowest_bad values (suc k) zs
  unfolding lowest_bad
  here-good k z zs e = ap (λ (b : Bool). cond b (found k z) (lowest_bad values (suc k) zs)) e

  -- no value is bad
  pub all-good : (k : ℕ) (zs : List ℤ) → some is_bad (map (value_at values) zs) ≡ false → lowest_bad values k zs ≡ none_bad
  unfolding lowest_bad some
  all-good k [] e = refl
  all-good k (z ∷ zs) e =
      let n = neither (is_bad (value_at values z)) (some is_bad (map (value_at values) zs)) e in
      here-good k z zs n.0 ∙ all-good (suc k) zs n.1

  pub none-bad : (k : ℕ) (zs : List ℤ) → lowest_bad values k zs ≡ none_bad → some is_bad (map (value_at values) zs) ≡ false
  unfolding lowest_bad some
  none-bad k [] e = refl
  none-bad k (z ∷ zs) e = go (is_bad (value_at values z)) refl (none-bad (suc k) zs)
    where
      go : (b : Bool) → is_bad (value_at values z) ≡ b → (lowest_bad values (suc k) zs ≡ none_bad → some is_bad (map (value_at values) zs) ≡ false)
          → (is_bad (value_at values z) || some is_bad (map (value_at values) zs)) ≡ false
      go true h t = absurd (true≢false (ap tells (sym (here-bad k z zs h) ∙ e)))
      go false h t = ap (λ (b : Bool). b || some is_bad (map (value_at values) zs)) h ∙ t (sym (here-good k z zs h) ∙ e)

  -- places, and those after them
  search-append : (k : ℕ) (zs ys : List ℤ) → lowest_bad values k (zs ++ ys) ≡ after (lowest_bad values k zs) (lowest_bad values (k + length zs) ys)
  unfolding lowest_bad
  search-append k [] ys = ap (λ (n : ℕ). lowest_bad values n ys) (let e : k ≡ k + 0 = omega arith in e)
  search-append k (z ∷ zs) ys = go (is_bad (value_at values z)) refl (search-append (suc k) zs ys)
    where
      rest : SearchAnswer
      rest = lowest_bad values (k + suc (length zs)) ys

      go : (b : Bool) → is_bad (value_at values z) ≡ b
          → lowest_bad values (suc k) (zs ++ ys) ≡ after (lowest_bad values (suc k) zs) (lowest_bad values (suc k + length zs) ys)
          → lowest_bad values k (z ∷ zs ++ ys) ≡ after (lowest_bad values k (z ∷ zs)) rest
      go true h t = here-bad k z (zs ++ ys) h ∙ ap (λ (a : SearchAnswer). after a rest) (sym (here-bad k z zs h))
      go false h t =
          here-good k z (zs ++ ys) h
          ∙ t
          ∙ ap (λ (n : ℕ). after (lowest_bad values (suc k) zs) (lowest_bad values n ys)) (let e : suc k + length zs ≡ k + suc (length zs) = omega arith in e)
          ∙ ap (λ (a : SearchAnswer). after a rest) (sym (here-good k z zs h))

  -- the next of the places that are left: its value is bad, and so the answer, or what is left after it decides
  module _ (k : ℕ) (left : List ℤ) (z : ℤ) (rest : List ℤ) (cut : left ≡ z ∷ rest) (whole : SearchAnswer) (decides : lowest_bad values k left ≡ whole) where
    pub bad-next : is_bad (value_at values z) ≡ true → found k z ≡ whole
    bad-next e = sym (here-bad k z rest e) ∙ ap (lowest_bad values k) (sym cut) ∙ decides

    pub good-next : is_bad (value_at values z) ≡ false → lowest_bad values (k + 1) rest ≡ whole
    good-next e =
        ap (λ (n : ℕ). lowest_bad values n rest) (let s : k + 1 ≡ suc k = omega arith in s)
        ∙ sym (here-good k z rest e)
        ∙ ap (lowest_bad values k) (sym cut)
        ∙ decides

  -- a part of the places was looked at, first among those that are left
  module _ (k : ℕ) (left part rest : List ℤ) (cut : left ≡ part ++ rest) (whole : SearchAnswer) (decides : lowest_bad values k left ≡ whole) where
    by_part : (r : SearchAnswer) → r ≡ lowest_bad values k part → whole ≡ after r (lowest_bad values (k + length part) rest)
    by_part r told =
        sym decides
        ∙ ap (lowest_bad values k) cut
        ∙ search-append k part rest
        ∙ ap (λ (a : SearchAnswer). after a (lowest_bad values (k + length part) rest)) (sym told)

    -- it held a bad one: that is the answer
    pub met : (n : ℕ) (z : ℤ) → found n z ≡ lowest_bad values k part → found n z ≡ whole
    met n z told = sym (by_part (found n z) told)

    -- it held none: what is left now decides
    pub passed : none_bad ≡ lowest_bad values k part → (n : ℕ) → length part ≡ n → lowest_bad values (k + n) rest ≡ whole
    passed told n l = ap (λ (m : ℕ). lowest_bad values (k + m) rest) (sym l) ∙ sym (by_part none_bad told)

-- ---- a run from place i on: m places, and those after them
-- all of it is left, and nothing
pub steps-whole : (z s : ℤ) (n : ℕ) → steps (z +ℤ s *ℤ pos 0) s (n - 0) ≡ steps z s n
steps-whole z s n = simp unary_clauses (ap (λ (y : ℤ). steps y s n) (sym (place-first z s)))

pub steps-none : (z s : ℤ) (n i : ℕ) → n ≤ i → steps z s (n - i) ≡ []
unfolding steps
steps-none z s n i h = ap (steps z s) (let e : n - i ≡ 0 = omega arith in e)

pub run-whole : (values : List Float) (k : ℕ) (z s : ℤ) (n : ℕ)
    → lowest_bad values (k + 0) (steps (z +ℤ s *ℤ pos 0) s (n - 0)) ≡ lowest_bad values k (steps z s n)
run-whole values k z s n = ap (λ (m : ℕ). lowest_bad values m (steps (z +ℤ s *ℤ pos 0) s (n - 0))) (add-zero k) ∙ ap (lowest_bad values k) (steps-whole z s n)

pub run-cut : (z s : ℤ) (n i m : ℕ) → i + m ≤ n
    → steps (z +ℤ s *ℤ pos i) s (n - i) ≡ steps (z +ℤ s *ℤ pos i) s m ++ steps (z +ℤ s *ℤ pos (i + m)) s (n - (i + m))
run-cut z s n i m h =
    ap (steps (z +ℤ s *ℤ pos i) s) (let e : n - i ≡ m + (n - (i + m)) = omega arith in e)
    ∙ steps-append (z +ℤ s *ℤ pos i) s m (n - (i + m))
    ∙ ap (λ (y : ℤ). steps (z +ℤ s *ℤ pos i) s m ++ steps y s (n - (i + m))) (place-sum z s i m)

pub run-next : (z s : ℤ) (n i : ℕ) → i < n → steps (z +ℤ s *ℤ pos i) s (n - i) ≡ (z +ℤ s *ℤ pos i) ∷ steps (z +ℤ s *ℤ pos (i + 1)) s (n - (i + 1))
unfolding steps
run-next z s n i h = run-cut z s n i 1 (omega arith)

pub run-over : (values : List Float) (k : ℕ) (z s : ℤ) (n i : ℕ) → n ≤ i → lowest_bad values k (steps z s (n - i)) ≡ none_bad
unfolding lowest_bad
run-over values k z s n i h = ap (lowest_bad values k) (steps-none z s n i h)

-- place i of a run is looked at, with nothing bad before it
module _ (values : List Float) (element : ℕ) (first stride : ℤ) (len i : ℕ) (below : i < len) (at : ℤ) (here : at ≡ first +ℤ stride *ℤ pos i)
    (decides : lowest_bad values (element + i) (steps (first +ℤ stride *ℤ pos i) stride (len - i)) ≡ lowest_bad values element (steps first stride len)) where
  pub place_bad : is_bad (value_at values at) ≡ true → found (element + i) at ≡ lowest_bad values element (steps first stride len)
  place_bad e =
      ap (found (element + i)) here
      ∙ bad-next values (element + i) _ (first +ℤ stride *ℤ pos i) _ (run-next first stride len i below) _ decides
      (ap (λ (z : ℤ). is_bad (value_at values z)) (sym here) ∙ e)

  pub place_good : is_bad (value_at values at) ≡ false
      → lowest_bad values (element + (i + 1)) (steps (first +ℤ stride *ℤ pos (i + 1)) stride (len - (i + 1))) ≡ lowest_bad values element (steps first stride len)
  place_good e =
      ap (λ (k : ℕ). lowest_bad values k (steps (first +ℤ stride *ℤ pos (i + 1)) stride (len - (i + 1))))
      (let k : element + (i + 1) ≡ element + i + 1 = omega arith in k)
      ∙ good-next values (element + i) _ (first +ℤ stride *ℤ pos i) _ (run-next first stride len i below) _ decides
      (ap (λ (z : ℤ). is_bad (value_at values z)) (sym here) ∙ e)

-- nothing bad is met to the end
pub run-done : (values : List Float) (element : ℕ) (first stride : ℤ) (len i : ℕ) → len ≤ i
    → lowest_bad values (element + i) (steps (first +ℤ stride *ℤ pos i) stride (len - i)) ≡ lowest_bad values element (steps first stride len)
    → none_bad ≡ lowest_bad values element (steps first stride len)
run-done values element first stride len i h e = sym (run-over values (element + i) (first +ℤ stride *ℤ pos i) stride len i h) ∙ e

-- ---- runs from run j on: one, and those after it
pub runs-cut : (z step stride : ℤ) (n count j : ℕ) → j < count
    → runs_places stride n (steps (z +ℤ step *ℤ pos j) step (count - j))
    ≡ steps (z +ℤ step *ℤ pos j) stride n ++ runs_places stride n (steps (z +ℤ step *ℤ pos (j + 1)) step (count - (j + 1)))
unfolding runs_places
runs-cut z step stride n count j h = ap (runs_places stride n) (run-next z step count j h)

pub runs-over : (values : List Float) (k : ℕ) (z step stride : ℤ) (n count j : ℕ) → count ≤ j
    → lowest_bad values k (runs_places stride n (steps z step (count - j))) ≡ none_bad
unfolding lowest_bad runs_places
runs-over values k z step stride n count j h = ap (λ (zs : List ℤ). lowest_bad values k (runs_places stride n zs)) (steps-none z step count j h)

-- a chunk of n vectors from vector i on was looked at, with nothing bad before it
module _ (values : List Float) (element : ℕ) (first stride : ℤ) (vectors i n : ℕ) (ends : i + n ≤ vectors) (at : ℤ) (here : at ≡ first +ℤ stride *ℤ pos (8 * i))
    (decides : lowest_bad values (element + 8 * i) (steps (first +ℤ stride *ℤ pos (8 * i)) stride (8 * vectors - 8 * i))
    ≡ lowest_bad values element (steps first stride (8 * vectors))) where
  abbrev whole-chunks : SearchAnswer
  whole-chunks = lowest_bad values element (steps first stride (8 * vectors))

  abbrev chunk : List ℤ
  chunk = steps (first +ℤ stride *ℤ pos (8 * i)) stride (8 * n)

  -- the places after it
  rest : List ℤ
  rest = steps (first +ℤ stride *ℤ pos (8 * (i + n))) stride (8 * vectors - 8 * (i + n))

  cut : steps (first +ℤ stride *ℤ pos (8 * i)) stride (8 * vectors - 8 * i) ≡ chunk ++ rest
  unfolding rest
  cut =
      run-cut first stride (8 * vectors) (8 * i) (8 * n) (omega (arith, ends))
      ∙ ap (λ (k : ℕ). chunk ++ steps (first +ℤ stride *ℤ pos k) stride (8 * vectors - k)) (let e : 8 * i + 8 * n ≡ 8 * (i + n) = omega arith in e)

  of-chunk : lowest_bad values (element + 8 * i) (steps at stride (8 * n)) ≡ lowest_bad values (element + 8 * i) chunk
  of-chunk = ap (λ (z : ℤ). lowest_bad values (element + 8 * i) (steps z stride (8 * n))) here

  pub chunk_bad : (k : ℕ) (z : ℤ) → found k z ≡ lowest_bad values (element + 8 * i) (steps at stride (8 * n)) → found k z ≡ whole-chunks
  chunk_bad k z e = met values (element + 8 * i) _ chunk rest cut whole-chunks decides k z (e ∙ of-chunk)

  pub chunk_good : none_bad ≡ lowest_bad values (element + 8 * i) (steps at stride (8 * n))
      → lowest_bad values (element + 8 * (i + n)) (steps (first +ℤ stride *ℤ pos (8 * (i + n))) stride (8 * vectors - 8 * (i + n))) ≡ whole-chunks
  unfolding rest
  chunk_good e =
      ap (λ (k : ℕ). lowest_bad values k rest) (let q : element + 8 * (i + n) ≡ element + 8 * i + 8 * n = omega arith in q)
      ∙ passed values (element + 8 * i) _ chunk rest cut whole-chunks decides (e ∙ of-chunk) (8 * n) (length-steps _ _ (8 * n))

-- run j was looked at, with nothing bad before it
module _ (values : List Float) (from : ℕ) (first step stride : ℤ) (len count j : ℕ) (below : j < count) (at : ℤ) (here : at ≡ first +ℤ step *ℤ pos j)
    (whole : SearchAnswer) (decides : lowest_bad values from (runs_places stride len (steps (first +ℤ step *ℤ pos j) step (count - j))) ≡ whole) where
  of-run : lowest_bad values from (steps at stride len) ≡ lowest_bad values from (steps (first +ℤ step *ℤ pos j) stride len)
  of-run = ap (λ (z : ℤ). lowest_bad values from (steps z stride len)) here

  pub run_bad : (k : ℕ) (z : ℤ) → found k z ≡ lowest_bad values from (steps at stride len) → found k z ≡ whole
  run_bad k z e = met values from _ _ _ (runs-cut first step stride len count j below) whole decides k z (e ∙ of-run)

  pub run_good : none_bad ≡ lowest_bad values from (steps at stride len)
      → lowest_bad values (from + len) (runs_places stride len (steps (first +ℤ step *ℤ pos (j + 1)) step (count - (j + 1)))) ≡ whole
  run_good e = passed values from _ _ _ (runs-cut first step stride len count j below) whole decides (e ∙ of-run) len (length-steps _ _ len)
