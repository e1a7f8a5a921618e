-- The bounds test, axis by axis.
-- Assumes nothing.
use Prim.Native.Nat.{ℕ, zero, suc, ◌+◌, ◌-◌, ◌^◌, ◌≤◌, ◌<◌, min}
use mathlib.Core.Path.{◌≡◌, refl, sym, ◌∙◌, ap}
use mathlib.Core.Bool.{Bool, true, false, ◌&&◌, and-false, and-true}
use mathlib.Core.List.{List, [], ◌∷◌}
use Rattle.std.specs.Prelude.{Option, None, Some, MatchOption}
use native.Mathlib.Omega.{arith}
use native.Mathlib.Decide.{dec_lt}
use lib.IntN.{ℤ, pos, negsuc, neg_ℤ, nat_abs, ◌+ℤ◌}
use lib.Signed.{le_z, lt_z, ◌≤ℤ◌}
use borrow.Author.Tests.{lt-ltb, le-ltb}
use Rattle.integers.proofs.Difference.{ints, atoms}
use Rattle.layout.specs.declared.axis.ReduceOuterAxis.{ReduceOuterAxis}
use Rattle.layout.specs.Axes.{span, axis_of, axes_in}
use Rattle.layout.specs.InnerTables.{elements}
use Rattle.offsets.specs.declared.bounds.Span.{Span}
use Rattle.offsets.specs.Elements.{all_inside}
use Rattle.offsets.specs.InnerBounds.{negative_part, positive_part, low_sum, high_sum, lowest_offset, highest_offset, widened, stay_inside}
use Rattle.offsets.specs.InnerCursors.{Axis, Axes}
use Rattle.offsets.proofs.Stepping.{axes-at}
use Rattle.offsets.proofs.Ends.{low-zero, zero_high, ends_inside, ends-exact}

-- one axis: its reset is r, its share z
module _ (lo hi last : ℕ) (L H : ℤ) (lz : L ≤ℤ pos 0) (hz : pos 0 ≤ℤ H) where
  -- a backward axis
  back-out : (n : ℕ) → lo < suc n → le_z (pos 0) (pos lo +ℤ (negsuc n +ℤ L)) ≡ false
  back-out n h = go lo n L h lz
    where
      go : (lo n : ℕ) (L : ℤ) → lo < suc n → L ≤ℤ pos 0 → le_z (pos 0) (pos lo +ℤ (negsuc n +ℤ L)) ≡ false
      go lo n L h = simp ints (simp atoms (omega arith))

  back_in : (n : ℕ) → suc n ≤ lo → pos lo +ℤ (negsuc n +ℤ L) ≡ pos (lo - suc n) +ℤ L
  back_in n h = go (lo - suc n) n L lo (omega arith)
    where
      go : (x n : ℕ) (L : ℤ) (lo : ℕ) → lo ≡ x + suc n → pos lo +ℤ (negsuc n +ℤ L) ≡ pos x +ℤ L
      go x n L lo e = rw e (simp ints (simp atoms (omega arith)))

  -- a forward axis
  forth-out : (n : ℕ) → hi ≤ last → last - hi < n → le_z (pos hi +ℤ (pos n +ℤ H)) (pos last) ≡ false
  forth-out n k h = go hi n last H (omega arith) hz
    where
      go : (hi n last : ℕ) (H : ℤ) → last < hi + n → pos 0 ≤ℤ H → le_z (pos hi +ℤ (pos n +ℤ H)) (pos last) ≡ false
      go hi n last H h = simp ints (simp atoms (omega arith))

  forth-in : (n : ℕ) → pos hi +ℤ (pos n +ℤ H) ≡ pos (hi + n) +ℤ H
  forth-in n = go hi n H
    where
      go : (hi n : ℕ) (H : ℤ) → pos hi +ℤ (pos n +ℤ H) ≡ pos (hi + n) +ℤ H
      go hi n H = simp ints (simp atoms (omega arith))

no-share : (lo : ℕ) (L : ℤ) → pos lo +ℤ (pos 0 +ℤ L) ≡ pos lo +ℤ L
no-share lo L = simp ints (simp atoms (omega arith))

opposite-size : (n : ℕ) → nat_abs (neg_ℤ (pos n)) ≡ n
opposite-size zero = refl
opposite-size (suc n) = refl

opposite-test : (n : ℕ) → lt_z (pos 0) (neg_ℤ (pos n)) ≡ false
opposite-test zero = refl
opposite-test (suc n) = refl

-- what one axis does to the test
abbrev pub Widens : ReduceOuterAxis → List ReduceOuterAxis → Span → Option Span → ℕ → Type 0
Widens a xs s r last =
    MatchOption r (stay_inside (a ∷ xs) s.low s.high last ≡ false)
    (λ t. (t.high ≤ last) × (stay_inside xs t.low t.high last ≡ stay_inside (a ∷ xs) s.low s.high last))

pub widens : (a : ReduceOuterAxis) (xs : List ReduceOuterAxis) (s : Span) (last : ℕ) (r : ℤ) → r ≡ neg_ℤ (span a.extent a.source_step)
    → s.high ≤ last → Widens a xs s (widened s r last) last
unfolding stay_inside low_sum high_sum negative_part positive_part
widens a xs s last r e h = rw e (go (span a.extent a.source_step) refl)
  where
    L : ℤ
    L = low_sum xs

    H : ℤ
    H = high_sum xs

    z : ℤ
    z = span a.extent a.source_step

    go : (y : ℤ) → z ≡ y → Widens a xs s (widened s (neg_ℤ z) last) last
    go (negsuc n) q = back (dec_lt s.low (suc n))
      where
        back : Dec (s.low < suc n) → Widens a xs s (widened s (neg_ℤ z) last) last
        back (yes l) =
            let w : widened s (neg_ℤ z) last ≡ None = rw (q, lt-ltb 0 (suc n) (omega arith), lt-ltb s.low (suc n) l) in
            rw w (rw (q, back-out s.low s.high last L H (low-zero xs) (zero_high xs) n l))
        back (no l) =
            let m : suc n ≤ s.low = omega arith in
            let w : widened s (neg_ℤ z) last ≡ Some (record { low = s.low - suc n; high = s.high }) = rw (
              q,
              lt-ltb 0 (suc n) (omega arith),
              le-ltb s.low (suc n) m,
            ) in
            rw w (h, rw (q, back_in s.low s.high last L H (low-zero xs) (zero_high xs) n m, no-share s.high H))
    go (pos n) q = forth (dec_lt (last - s.high) n)
      where
        forth : Dec (last - s.high < n) → Widens a xs s (widened s (neg_ℤ z) last) last
        forth (yes l) =
            let w : widened s (neg_ℤ z) last ≡ None = rw (q, opposite-test n, opposite-size n, lt-ltb (last - s.high) n l) in
            rw w (rw (q, forth-out s.low s.high last L H (low-zero xs) (zero_high xs) n h l) (and-false (le_z (pos 0) (pos s.low +ℤ (pos 0 +ℤ L)))))
        forth (no l) =
            let m : n ≤ last - s.high = omega arith in
            let w : widened s (neg_ℤ z) last ≡ Some (record { low = s.low; high = s.high + n }) = rw (
              q,
              opposite-test n,
              opposite-size n,
              le-ltb (last - s.high) n m,
            ) in
            rw w (omega arith, rw (q, forth-in s.low s.high last L H (low-zero xs) (zero_high xs) n, no-share s.low L))

-- no axis left: the span is inside
pub stays-in : (lo hi last : ℕ) → hi ≤ last → stay_inside [] lo hi last ≡ true
unfolding stay_inside low_sum high_sum
stays-in lo hi last h = rw (low lo, high hi last h)
  where
    low : (lo : ℕ) → le_z (pos 0) (pos lo +ℤ pos 0) ≡ true
    low lo = simp ints (simp atoms (omega arith))

    high : (hi last : ℕ) → hi ≤ last → le_z (pos hi +ℤ pos 0) (pos last) ≡ true
    high hi last h = simp ints (simp atoms (omega arith))

-- ---- the loop over the axes
pub record Spanning (all xs : List ReduceOuterAxis) (b last : ℕ) (s : Span) : Type 0 where
  pub high : s.high ≤ last
  pub same : stay_inside xs s.low s.high last ≡ stay_inside all b b last

pub spanning-first : (all : List ReduceOuterAxis) (b last : ℕ) → b ≤ last → Spanning all all b last (record { low = b; high = b })
spanning-first all b last h = record { high = h; same = refl }

-- one more axis, of the first size and stride of those left
module _ (ns ms : List ℕ) (ss ts : List ℤ) (n : ℕ) (d : ℤ) (e : ns ≡ n ∷ ms) (f : ss ≡ d ∷ ts) (w : Axes (axes_in ns ss)) where
  here : axes_in ns ss ≡ axis_of n d ∷ axes_in ms ts
  unfolding axes_in
  here = rw (e, f) refl

  pub left-axis : Axis (axis_of n d)
  left-axis = (axes-at _ _ _ here w).0

  pub left-axes : Axes (axes_in ms ts)
  left-axes = (axes-at _ _ _ here w).1

  module _ (all : List ReduceOuterAxis) (b last : ℕ) (s : Span) (a : ReduceOuterAxis) (q : a ≡ axis_of n d)
      (p : Spanning all (axes_in ns ss) b last s) where
    at-axis : stay_inside (axis_of n d ∷ axes_in ms ts) s.low s.high last ≡ stay_inside all b b last
    at-axis = ap (λ (l : List ReduceOuterAxis). stay_inside l s.low s.high last) (sym here) ∙ p.same

    widening : Widens (axis_of n d) (axes_in ms ts) s (widened s a.source_reset last) last
    unfolding axis_of
    widening = widens (axis_of n d) (axes_in ms ts) s last a.source_reset (ap (λ (x : ReduceOuterAxis). x.source_reset) q) p.high

    pub spanning-more : (r : Span) → widened s a.source_reset last ≡ Some r → Spanning all (axes_in ms ts) b last r
    spanning-more r v = let k = rw v at widening in record { high = k.0; same = k.1 ∙ at-axis }

    pub spanning-out : widened s a.source_reset last ≡ None → false ≡ stay_inside all b b last
    spanning-out v = let k = rw v at widening in sym k ∙ at-axis

pub spanning-all : (all xs : List ReduceOuterAxis) (b last : ℕ) (s : Span) → xs ≡ [] → Spanning all xs b last s → true ≡ stay_inside all b b last
spanning-all all xs b last s e p =
    sym (stays-in s.low s.high last p.high) ∙ ap (λ (l : List ReduceOuterAxis). stay_inside l s.low s.high last) (sym e) ∙ p.same

-- ---- from the ends to every element
module _ (xs : List ReduceOuterAxis) (w : Axes xs) (length : ℕ) where
  pub base-below : (base : ℤ) → lt_z base (pos 0) ≡ true → false ≡ all_inside xs (elements xs) base length
  unfolding ends_inside lowest_offset
  base-below base h = sym (ends-exact xs w base length ∙ rw (low base (low_sum xs) h (low-zero xs)))
    where
      low : (b L : ℤ) → lt_z b (pos 0) ≡ true → L ≤ℤ pos 0 → le_z (pos 0) (b +ℤ L) ≡ false
      low b L = simp ints (simp atoms (omega arith))

  pub base-past : (b : ℕ) → length ≤ b → false ≡ all_inside xs (elements xs) (pos b) length
  unfolding ends_inside highest_offset
  base-past b h =
      sym (ends-exact xs w (pos b) length
      ∙ rw (high b (high_sum xs) length h (zero_high xs)) (and-false (le_z (pos 0) (lowest_offset xs (pos b)) && lt_z (pos b +ℤ high_sum xs) (pos (2 ^ 63)))))
    where
      high : (b : ℕ) (H : ℤ) (n : ℕ) → n ≤ b → pos 0 ≤ℤ H → lt_z (pos b +ℤ H) (pos n) ≡ false
      high b H n h = simp ints (simp atoms (omega arith))

  last-short : (b : ℕ) → 0 < length → length < 2 ^ 63 → stay_inside xs b b (length - 1) ≡ all_inside xs (elements xs) (pos b) length
  unfolding ends_inside stay_inside lowest_offset highest_offset
  last-short b n h = sym (ends-exact xs w (pos b) length ∙ go (le_z (pos 0) (pos b +ℤ low_sum xs)) (lt_z (pos b +ℤ high_sum xs) (pos length)) refl)
    where
      wide : (z : ℤ) (k : ℕ) → k < 2 ^ 63 → lt_z z (pos k) ≡ true → lt_z z (pos (2 ^ 63)) ≡ true
      wide z k h = simp ints (simp atoms (omega arith))

      one : (z : ℤ) (k m : ℕ) → k ≡ m + 1 → lt_z z (pos k) ≡ true → le_z z (pos m) ≡ true
      one z k m e = rw e (simp ints (simp atoms (omega arith)))

      over : (z : ℤ) (k m : ℕ) → k ≡ m + 1 → lt_z z (pos k) ≡ false → le_z z (pos m) ≡ false
      over z k m e = rw e (simp ints (simp atoms (omega arith)))

      go : (x y : Bool) → lt_z (pos b +ℤ high_sum xs) (pos length) ≡ y
          → (x && lt_z (pos b +ℤ high_sum xs) (pos (2 ^ 63)) && lt_z (pos b +ℤ high_sum xs) (pos length)) ≡ (x && le_z (pos b +ℤ high_sum xs) (pos (length - 1)))
      go x true k = rw (k, wide (pos b +ℤ high_sum xs) length h k, one (pos b +ℤ high_sum xs) length (length - 1) (omega arith) k) (and-true (x && true))
      go x false k =
          rw (k, over (pos b +ℤ high_sum xs) length (length - 1) (omega arith) k) (and-false (x && lt_z (pos b +ℤ high_sum xs) (pos (2 ^ 63))) ∙ sym (and-false x))

  last-long : (b : ℕ) → 2 ^ 63 ≤ length → stay_inside xs b b (2 ^ 63 - 1) ≡ all_inside xs (elements xs) (pos b) length
  unfolding ends_inside stay_inside lowest_offset highest_offset
  last-long b h = sym (ends-exact xs w (pos b) length ∙ go (le_z (pos 0) (pos b +ℤ low_sum xs)) (lt_z (pos b +ℤ high_sum xs) (pos (2 ^ 63))) refl)
    where
      wide : (z : ℤ) (k : ℕ) → 2 ^ 63 ≤ k → lt_z z (pos (2 ^ 63)) ≡ true → lt_z z (pos k) ≡ true
      wide z k h = simp ints (simp atoms (omega arith))

      one : (z : ℤ) → lt_z z (pos (2 ^ 63)) ≡ true → le_z z (pos (2 ^ 63 - 1)) ≡ true
      one z = simp ints (simp atoms (omega arith))

      over : (z : ℤ) → lt_z z (pos (2 ^ 63)) ≡ false → le_z z (pos (2 ^ 63 - 1)) ≡ false
      over z = simp ints (simp atoms (omega arith))

      go : (x y : Bool) → lt_z (pos b +ℤ high_sum xs) (pos (2 ^ 63)) ≡ y
          → (x && lt_z (pos b +ℤ high_sum xs) (pos (2 ^ 63)) && lt_z (pos b +ℤ high_sum xs) (pos length))
          ≡ (x && le_z (pos b +ℤ high_sum xs) (pos (2 ^ 63 - 1)))
      go x true k = rw (k, wide (pos b +ℤ high_sum xs) length h k, one (pos b +ℤ high_sum xs) k) (and-true (x && true))
      go x false k = rw (k, over (pos b +ℤ high_sum xs) k) (none x (lt_z (pos b +ℤ high_sum xs) (pos length)))
        where
          none : (x y : Bool) → (x && false && y) ≡ (x && false)
          none true y = refl
          none false y = refl

  pub last-inside : (b : ℕ) → 0 < length → stay_inside xs b b (min (length - 1) (2 ^ 63 - 1)) ≡ all_inside xs (elements xs) (pos b) length
  last-inside b n = go (dec_lt length (2 ^ 63))
    where
      go : Dec (length < 2 ^ 63) → stay_inside xs b b (min (length - 1) (2 ^ 63 - 1)) ≡ all_inside xs (elements xs) (pos b) length
      go (yes h) = let e : min (length - 1) (2 ^ 63 - 1) ≡ length - 1 = omega arith in rw e (last-short b n h)
      go (no h) = let e : min (length - 1) (2 ^ 63 - 1) ≡ 2 ^ 63 - 1 = omega arith in rw e (last-long b (omega arith))
