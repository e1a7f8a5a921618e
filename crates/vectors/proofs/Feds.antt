-- What values make of lanes: one list after another, whole vectors, and the product at the end. Assumes nothing.
use Prim.Native.Nat.{ℕ, zero, suc, ◌+◌, ◌*◌, ◌^◌, ◌≤◌, ◌<◌, zero-le}
use mathlib.Core.Path.{◌≡◌, refl, sym, ap, ◌∙◌, subst}
use mathlib.Core.Bool.{Bool, true, false, not, ◌&&◌, ◌||◌, or-false, or_assoc, true≢false}
use mathlib.Core.List.{List, [], ◌∷◌, ◌++◌, map, map-append}
use native.Mathlib.Nat.{le_trans}
use native.Mathlib.Omega.{arith}
use lib.ListN.{length, get_or, set, replicate, length-map, get_or-eq_default}
use lib.Seq.{set-get_or}
use lib.IntN.{ℤ, pos, nat_abs, ◌+ℤ◌}
use lib.Dec.{ltb, lit≤}
use borrow.Author.Tests.{ltb-true, ltb-false}
use lib.Ieee.{Float, to_bits, size, odd}
use Rattle.floats.specs.Factor.{Factor, Normalised, unit, times}
use Rattle.floats.specs.Splitting.{is_bad, rate_factor, split}
use Rattle.floats.proofs.Factor.{times-unit-right}
use Rattle.floats.proofs.Splitting.{farthest, rate-normal}
use Rattle.accumulator.specs.declared.StableProductFloatAcc.{StableProductFloatAcc}
use Rattle.kernels.specs.declared.lanes.Lanes.{Lanes}
use Rattle.laws.specs.Lists.{Each, none, more}
use Rattle.kernels.specs.Lanes.{feed, lane_of, some}
use Rattle.kernels.specs.InnerPlain.{lane_times, lanes, piece_product}
use Rattle.kernels.specs.Stepped.{stepped}
use Rattle.kernels.specs.Pieces.{GoodRate, acc_of, worked}
use Rattle.kernels.specs.Blocks.{start_lanes, m_of, e_of, contiguous}
use Rattle.kernels.specs.InnerLanes.{SmallLanes, LanesRepresent, LanesAfter, zeros, plain_after}
use Rattle.kernels.specs.InnerStrided.{strided}
use Rattle.kernels.proofs.Feeding.{feed-append, some-append}
use Rattle.kernels.proofs.Factors.{NormalLanes, lane-normal, lane-lt}
use Rattle.kernels.proofs.Standing.{represents-split, represents-acc}
use Rattle.kernels.proofs.Stepping.{stepped-agrees}
use Rattle.kernels.proofs.Blocking.{Value, each-rate, lanes-append, represent-start, contiguous-is, contiguous-mark, contiguous-agrees}
use Rattle.kernels.proofs.Striding.{length-strided}
use Rattle.kernels.proofs.Bounded.{Short, lane-size, rate-short}
use Rattle.vectors.specs.InnerWaiting.{one, chained, exponents_of, lanes_product}
use Rattle.vectors.proofs.Chaining.{chain-represents}

-- ---- one list after another
pub fed-append : (s r q : Lanes) (xs ys : List Float) (n : ℕ) → length xs ≡ 8 * n → LanesAfter s xs r → LanesAfter r ys q → LanesAfter s (xs ++ ys) q
fed-append s r q xs ys n l F G = record {
  represent = λ fs H. subst (LanesRepresent zeros q) (sym (lanes-append n fs xs ys l)) (G.represent (plain_after fs xs) (F.represent fs H));
  mark = λ fs H.
      G.mark (plain_after fs xs) (F.represent fs H)
      ∙ ap (λ (b : Bool). b || some is_bad ys) (F.mark fs H)
      ∙ or_assoc s.bad (some is_bad xs) (some is_bad ys)
      ∙ ap (λ (b : Bool). s.bad || b) (sym (some-append is_bad xs ys));
}

-- no value changes nothing
pub fed-none : (s : Lanes) → LanesAfter s [] s
unfolding feed some
fed-none s = record { represent = λ fs H. H; mark = λ fs H. sym (or-false s.bad) }

-- ---- 1.0 changes nothing
one-rate : rate_factor one ≡ unit 52
unfolding rate_factor to_bits size odd
one-rate = refl

one-good : is_bad one ≡ false
unfolding is_bad to_bits size odd
one-good = refl

ones-times : (n i : ℕ) (gs : List Factor) → ((k : ℕ) → k < 8 → Normalised 52 (get_or gs k (unit 52)))
    → feed (lane_times 52) i gs (map rate_factor (replicate n one)) ≡ gs
unfolding feed
ones-times zero i gs N = refl
ones-times (suc n) i gs N =
    let k = lane_of i in
    ap (λ (g : List Factor). feed (lane_times 52) (suc i) g (map rate_factor (replicate n one)))
    (ap (λ (f : Factor). set gs k (times 52 (get_or gs k (unit 52)) f)) one-rate
    ∙ ap (set gs k) (times-unit-right 52 (get_or gs k (unit 52)) (N k (lane-lt i)))
    ∙ set-get_or gs k (unit 52))
    ∙ ones-times n (suc i) gs N

ones-good : (n : ℕ) → some is_bad (replicate n one) ≡ false
unfolding some
ones-good zero = refl
ones-good (suc n) = ap (λ (b : Bool). b || some is_bad (replicate n one)) one-good ∙ ones-good n

-- the plain lanes of values with 1.0 after them
pub ones-after : (fs : List Factor) (xs : List Float) (n : ℕ) → ((k : ℕ) → k < 8 → Normalised 52 (get_or (plain_after fs xs) k (unit 52)))
    → plain_after fs (xs ++ replicate n one) ≡ plain_after fs xs
ones-after fs xs n N =
    ap (feed (lane_times 52) 0 fs) (map-append rate_factor xs (replicate n one))
    ∙ feed-append (lane_times 52) 0 fs (map rate_factor xs) (map rate_factor (replicate n one))
    ∙ ones-times n (0 + length (map rate_factor xs)) (plain_after fs xs) N

pub fed-normal : (i : ℕ) (fs : List Factor) (xs : List Float) → NormalLanes 52 fs → NormalLanes 52 (feed (lane_times 52) i fs (map rate_factor xs))
unfolding feed
fed-normal i fs [] N = N
fed-normal i fs (x ∷ xs) N = fed-normal (suc i) (lane_times 52 i fs (rate_factor x)) xs (lane-normal 52 i fs (rate_factor x) (rate-normal x) N)

represent-normal : (s : Lanes) (fs : List Factor) → LanesRepresent zeros s fs → NormalLanes 52 fs
represent-normal s fs H = record { long = H.f_long; at = λ k i. (H.at k i).normal }

pub fed-pad : (s r : Lanes) (xs : List Float) (n : ℕ) → LanesAfter s (xs ++ replicate n one) r → LanesAfter s xs r
fed-pad s r xs n F = record {
  represent = λ fs H. subst (LanesRepresent zeros r) (ones-after fs xs n (fed-normal 0 fs xs (represent-normal s fs H)).at) (F.represent fs H);
  mark = λ fs H.
      F.mark fs H
      ∙ ap (λ (b : Bool). s.bad || b)
      (some-append is_bad xs (replicate n one) ∙ ap (λ (b : Bool). some is_bad xs || b) (ones-good n) ∙ or-false (some is_bad xs));
}

-- ---- from the start
module _ (xs : List Float) (r : Lanes) (F : LanesAfter start_lanes xs r) where
  represent : LanesRepresent zeros r (lanes 52 (map rate_factor xs))
  unfolding lanes
  represent = F.represent (replicate 8 (unit 52)) represent-start

  mark : r.bad ≡ some is_bad xs
  mark = F.mark (replicate 8 (unit 52)) represent-start

  -- a lane's exponent is its factor's
  lane-exponent : (k : ℕ) → k < 8 → e_of r k ≡ (get_or (lanes 52 (map rate_factor xs)) k (unit 52)).exp
  lane-exponent k i =
      let s = represent.at k i in
      ap (λ (a : StableProductFloatAcc). a.e) (represents-acc (m_of r k) (e_of r k) (get_or (lanes 52 (map rate_factor xs)) k (unit 52)) s)

  short-rates : (ys : List Float) → Each (Short 52 farthest) (map rate_factor ys)
  short-rates [] = none
  short-rates (y ∷ ys) = more (rate-short y) (short-rates ys)

  pub fed-small : (n : ℕ) → suc farthest * length xs ≤ n → SmallLanes n r
  fed-small n h = record { at = λ k. go k (ltb k 8) refl }
    where
      far : (k : ℕ) → 8 ≤ k → e_of r k ≡ pos 0
      far k l = get_or-eq_default r.e (pos 0) (subst (λ (m : ℕ). m ≤ k) (sym represent.e_long) l)

      go : (k : ℕ) (b : Bool) → ltb k 8 ≡ b → nat_abs (e_of r k) ≤ n
      go k true e =
          subst (λ (z : ℤ). nat_abs z ≤ n) (sym (lane-exponent k (ltb-true k 8 e)))
          (le_trans (lane-size 52 farthest (short-rates xs) k) (subst (λ (m : ℕ). suc farthest * m ≤ n) (sym (length-map xs rate_factor)) h))
      go k false e = subst (λ (z : ℤ). nat_abs z ≤ n) (sym (far k (ltb-false k 8 e))) zero-le

  -- the lanes multiplied are the piece in blocks of 64
  pub fed-contiguous : Each Value xs → lanes_product r ≡ contiguous xs
  unfolding lanes_product piece_product
  fed-contiguous v =
      let p = chained r.m in
      let S = represents-split 8 p (exponents_of r) (piece_product 52 (map rate_factor xs)) (lit≤ tt)
      (chain-represents r (lanes 52 (map rate_factor xs)) represent) in
      ap (λ (a : StableProductFloatAcc). record { m = a.m; e = a.e; bad = r.bad })
      (represents-acc (split p).m (exponents_of r +ℤ (split p).e) (piece_product 52 (map rate_factor xs)) S)
      ∙ ap (λ (b : Bool). record { m = (acc_of (piece_product 52 (map rate_factor xs))).m; e = (piece_product 52 (map rate_factor xs)).exp; bad = b }) mark
      ∙ sym (contiguous-is v)

-- with no bad value, both ways give the same
pub unmarked-worked : (b : Bool) (xs : List Float) → Each Value xs → (contiguous xs).bad ≡ false → contiguous xs ≡ worked b xs
unmarked-worked true xs v e = refl
unmarked-worked false xs v e = contiguous-agrees rates ∙ sym (stepped-agrees rates)
  where
    rates : Each GoodRate xs
    rates = each-rate v (sym (contiguous-mark xs v) ∙ e)

pub stepped-worked : (b : Bool) (xs : List Float) (a : StableProductFloatAcc) → not b ≡ true → a ≡ stepped xs → a ≡ worked b xs
stepped-worked true xs a e p = absurd (true≢false (sym e))
stepped-worked false xs a e p = p

pub fed-worked : (b : Bool) (xs : List Float) (r : Lanes) → LanesAfter start_lanes xs r → Each Value xs
    → (not b && r.bad) ≡ false → lanes_product r ≡ worked b xs
unfolding lanes_product
fed-worked true xs r F v e = fed-contiguous xs r F v
fed-worked false xs r F v e =
    let c = fed-contiguous xs r F v in
    c ∙ unmarked-worked false xs v (ap (λ (a : StableProductFloatAcc). a.bad) (sym c) ∙ e)

-- the lanes of at most 2^40 values are far from the ends of i64
pub vectors-small : (xs : List Float) (b d : ℤ) (n : ℕ) (s : Lanes) → n ≤ 2 ^ 40 → LanesAfter start_lanes (strided xs b d n) s → SmallLanes (2 ^ 56) s
vectors-small xs b d n s h F = fed-small (strided xs b d n) s F (2 ^ 56) (subst (λ (m : ℕ). suc farthest * m ≤ 2 ^ 56) (sym (length-strided xs b d n)) (omega arith))
