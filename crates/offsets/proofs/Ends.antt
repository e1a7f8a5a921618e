-- The smallest and the largest offset: every element lies between them, and each is an element's.
-- Assumes nothing.
use Prim.Native.Nat.{ℕ, zero, suc, ◌+◌, ◌-◌, ◌*◌, ◌/◌, ◌%◌, ◌^◌, ◌≤◌, ◌<◌}
use mathlib.Core.Path.{◌≡◌, refl, sym, ◌∙◌, ap}
use mathlib.Core.Bool.{Bool, true, false, cond, ◌&&◌}
use mathlib.Core.Logic.{◌↔◌}
use mathlib.Core.List.{List, [], ◌∷◌, map}
use native.Mathlib.Omega.{arith}
use native.Mathlib.Nat.{mul-le-mul_left, mod-lt, mul_comm, not-suc-le-zero}
use native.Mathlib.Decide.{dec_lt}
use borrow.Author.Tests.{le-ltb}
use lib.ListN.{length}
use lib.Arith.{digits_div, digits_mod, digits_lt}
use lib.IntN.{ℤ, pos, negsuc, ◌+ℤ◌, ◌*ℤ◌, *ℤ-zero}
use lib.Signed.{le_z, lt_z, ◌≤ℤ◌, ◌<ℤ◌}
use Rattle.laws.proofs.Tests.{and_both}
use Rattle.integers.proofs.Difference.{ints, atoms}
use Rattle.layout.specs.declared.axis.ReduceOuterAxis.{ReduceOuterAxis}
use Rattle.layout.specs.Axes.{span}
use Rattle.offsets.specs.Elements.{digits, shift, offset, inside_values, every_below, all_inside}
use Rattle.layout.specs.InnerTables.{elements}
use Rattle.offsets.specs.InnerBounds.{negative_part, positive_part, low_sum, high_sum, lowest_offset, highest_offset}
use Rattle.offsets.specs.InnerCursors.{Axes, Bounded}

below-le : (z : ℤ) → negative_part z ≤ℤ z
unfolding negative_part
below-le (pos n) = simp ints (simp atoms (omega arith))
below-le (negsuc n) = simp ints (simp atoms (omega arith))

pub below-zero : (z : ℤ) → negative_part z ≤ℤ pos 0
unfolding negative_part
below-zero (pos n) = simp ints (simp atoms (omega arith))
below-zero (negsuc n) = simp ints (simp atoms (omega arith))

le-above : (z : ℤ) → z ≤ℤ positive_part z
unfolding positive_part
le-above (pos n) = simp ints (simp atoms (omega arith))
le-above (negsuc n) = simp ints (simp atoms (omega arith))

pub zero-above : (z : ℤ) → pos 0 ≤ℤ positive_part z
unfolding positive_part
zero-above (pos n) = simp ints (simp atoms (omega arith))
zero-above (negsuc n) = simp ints (simp atoms (omega arith))

pub and3 : (a b c : Bool) → (a && b && c) ≡ true → (a ≡ true) × (b ≡ true) × (c ≡ true)
and3 a b c e =
    let p = and_both (a && b) c e in
    let q = and_both a b p.0 in
    (q.0, q.1, p.1)

-- a digit's share lies between 0 and the last digit's
share-pos : (n e d : ℕ) → d < e → (pos 0 ≤ℤ (pos n *ℤ pos d)) × ((pos n *ℤ pos d) ≤ℤ span e (pos n))
unfolding span
share-pos n e d h =
    (simp ints (simp atoms (omega arith)), (let k : n * d ≤ n * (e - 1) = mul-le-mul_left n (omega arith) in simp ints (simp atoms (omega arith))))

share-neg : (n e d : ℕ) → d < e → (span e (negsuc n) ≤ℤ (negsuc n *ℤ pos d)) × ((negsuc n *ℤ pos d) ≤ℤ pos 0)
unfolding span
share-neg n e d h = (
  (let k : suc n * d ≤ suc n * (e - 1) = mul-le-mul_left (suc n) (omega arith) in simp ints (simp atoms (omega arith))),
  simp ints (simp atoms (omega arith)),
)

le_trans : (a b c : ℤ) → a ≤ℤ b → b ≤ℤ c → a ≤ℤ c
le_trans a b c = simp ints (simp atoms (omega arith))

pub share-low : (e : ℕ) (s : ℤ) (d : ℕ) → d < e → negative_part (span e s) ≤ℤ (s *ℤ pos d)
share-low e (pos n) d h = le_trans _ (pos 0) _ (below-zero (span e (pos n))) (share-pos n e d h).0
share-low e (negsuc n) d h = le_trans _ (span e (negsuc n)) _ (below-le (span e (negsuc n))) (share-neg n e d h).0

pub share-high : (e : ℕ) (s : ℤ) (d : ℕ) → d < e → (s *ℤ pos d) ≤ℤ positive_part (span e s)
share-high e (pos n) d h = le_trans _ (span e (pos n)) _ (share-pos n e d h).1 (le-above (span e (pos n)))
share-high e (negsuc n) d h = le_trans _ (pos 0) _ (share-neg n e d h).1 (zero-above (span e (negsuc n)))

-- ---- the sums
pub low-zero : (xs : List ReduceOuterAxis) → low_sum xs ≤ℤ pos 0
unfolding low_sum
low-zero [] = simp ints (simp atoms (omega arith))
low-zero (a ∷ xs) = sum (negative_part (span a.extent a.source_step)) (low_sum xs) (below-zero (span a.extent a.source_step)) (low-zero xs)
  where
    sum : (y z : ℤ) → y ≤ℤ pos 0 → z ≤ℤ pos 0 → (y +ℤ z) ≤ℤ pos 0
    sum y z = simp ints (simp atoms (omega arith))

pub zero_high : (xs : List ReduceOuterAxis) → pos 0 ≤ℤ high_sum xs
unfolding high_sum
zero_high [] = simp ints (simp atoms (omega arith))
zero_high (a ∷ xs) = sum (positive_part (span a.extent a.source_step)) (high_sum xs) (zero-above (span a.extent a.source_step)) (zero_high xs)
  where
    sum : (y z : ℤ) → pos 0 ≤ℤ y → pos 0 ≤ℤ z → pos 0 ≤ℤ (y +ℤ z)
    sum y z = simp ints (simp atoms (omega arith))

sum-le : (a b c d : ℤ) → a ≤ℤ b → c ≤ℤ d → (a +ℤ c) ≤ℤ (b +ℤ d)
sum-le a b c d = simp ints (simp atoms (omega arith))

pub shift-low : (xs : List ReduceOuterAxis) → Axes xs → (k : ℕ) → low_sum xs ≤ℤ shift xs (digits xs k)
unfolding low_sum shift digits Axes
shift-low [] w k = simp ints (simp atoms (omega arith))
shift-low (a ∷ xs) w k =
    sum-le _ _ _ _ (share-low a.extent a.source_step (k % a.extent) (mod-lt k w.0.1)) (shift-low xs w.1 (k / a.extent))

pub shift-high : (xs : List ReduceOuterAxis) → Axes xs → (k : ℕ) → shift xs (digits xs k) ≤ℤ high_sum xs
unfolding high_sum shift digits Axes
shift-high [] w k = simp ints (simp atoms (omega arith))
shift-high (a ∷ xs) w k =
    sum-le _ _ _ _ (share-high a.extent a.source_step (k % a.extent) (mod-lt k w.0.1)) (shift-high xs w.1 (k / a.extent))

-- ---- the ends are reached: a layout has every combination of digits
unfoldable pub number_by : (ReduceOuterAxis → ℕ) → List ReduceOuterAxis → ℕ
number_by f [] = 0
number_by f (a ∷ xs) = number_by f xs * a.extent + f a

module _ (f : ReduceOuterAxis → ℕ) (small : (a : ReduceOuterAxis) → 1 ≤ a.extent → f a < a.extent) where
  pub number_digits : (xs : List ReduceOuterAxis) → Axes xs → digits xs (number_by f xs) ≡ map f xs
  unfolding number_by digits Axes
  number_digits [] w = refl
  number_digits (a ∷ xs) w =
      rw (digits_mod (number_by f xs) (small a w.0.1), digits_div (number_by f xs) (small a w.0.1))
      (ap (λ (ds : List ℕ). f a ∷ ds) (number_digits xs w.1))

  pub number_lt : (xs : List ReduceOuterAxis) → Axes xs → number_by f xs < elements xs
  unfolding number_by elements Axes
  number_lt [] w = omega arith
  number_lt (a ∷ xs) w = rw (mul_comm a.extent (elements xs)) (digits_lt (number_lt xs w.1) (small a w.0.1))

-- the digit that reaches the low end, and the high end
low_digit : ReduceOuterAxis → ℕ
low_digit a = cond (lt_z (span a.extent a.source_step) (pos 0)) (a.extent - 1) 0

high_digit : ReduceOuterAxis → ℕ
high_digit a = cond (lt_z (span a.extent a.source_step) (pos 0)) 0 (a.extent - 1)

digit-small : (e : ℕ) → 1 ≤ e → (b : Bool) → cond b (e - 1) 0 < e
digit-small e h true = omega arith
digit-small e h false = omega arith

digit-small' : (e : ℕ) → 1 ≤ e → (b : Bool) → cond b 0 (e - 1) < e
digit-small' e h true = omega arith
digit-small' e h false = omega arith

span-is : (e : ℕ) (s : ℤ) → s *ℤ pos (e - 1) ≡ span e s
unfolding span
span-is e s = refl

low-share : (e : ℕ) (s : ℤ) → s *ℤ pos (cond (lt_z (span e s) (pos 0)) (e - 1) 0) ≡ negative_part (span e s)
unfolding negative_part
low-share e s = go (span e s) refl
  where
    go : (z : ℤ) → span e s ≡ z → s *ℤ pos (cond (lt_z (span e s) (pos 0)) (e - 1) 0) ≡ negative_part (span e s)
    go (pos n) q = rw (q, le-ltb n 0 (omega arith)) (*ℤ-zero s)
    go (negsuc n) q = rw q (span-is e s ∙ q)

high-share : (e : ℕ) (s : ℤ) → s *ℤ pos (cond (lt_z (span e s) (pos 0)) 0 (e - 1)) ≡ positive_part (span e s)
unfolding positive_part
high-share e s = go (span e s) refl
  where
    go : (z : ℤ) → span e s ≡ z → s *ℤ pos (cond (lt_z (span e s) (pos 0)) 0 (e - 1)) ≡ positive_part (span e s)
    go (pos n) q = rw (q, le-ltb n 0 (omega arith)) (span-is e s ∙ q)
    go (negsuc n) q = rw q (*ℤ-zero s)

low-reached : (xs : List ReduceOuterAxis) → shift xs (map low_digit xs) ≡ low_sum xs
unfolding shift low_sum low_digit
low-reached [] = refl
low-reached (a ∷ xs) = rw (low-share a.extent a.source_step, low-reached xs)

high-reached : (xs : List ReduceOuterAxis) → shift xs (map high_digit xs) ≡ high_sum xs
unfolding shift high_sum high_digit
high-reached [] = refl
high-reached (a ∷ xs) = rw (high-share a.extent a.source_step, high-reached xs)

-- the element at each end
module _ (xs : List ReduceOuterAxis) (w : Axes xs) (base : ℤ) where
  low_number : ℕ
  low_number = number_by low_digit xs

  high_number : ℕ
  high_number = number_by high_digit xs

  low-number : low_number < elements xs
  unfolding low_digit low_number
  low-number = number_lt low_digit (λ a h. digit-small a.extent h (lt_z (span a.extent a.source_step) (pos 0))) xs w

  high-number : high_number < elements xs
  unfolding high_digit high_number
  high-number = number_lt high_digit (λ a h. digit-small' a.extent h (lt_z (span a.extent a.source_step) (pos 0))) xs w

  low-offset : offset xs base low_number ≡ lowest_offset xs base
  unfolding offset lowest_offset low_number low_digit
  low-offset = ap (λ (ds : List ℕ). base +ℤ shift xs ds) (number_digits low_digit small xs w) ∙ ap (λ (z : ℤ). base +ℤ z) (low-reached xs)
    where
      small : (a : ReduceOuterAxis) → 1 ≤ a.extent → low_digit a < a.extent
      small a h = digit-small a.extent h (lt_z (span a.extent a.source_step) (pos 0))

  high-offset : offset xs base high_number ≡ highest_offset xs base
  unfolding offset highest_offset high_number high_digit
  high-offset = ap (λ (ds : List ℕ). base +ℤ shift xs ds) (number_digits high_digit small xs w) ∙ ap (λ (z : ℤ). base +ℤ z) (high-reached xs)
    where
      small : (a : ReduceOuterAxis) → 1 ≤ a.extent → high_digit a < a.extent
      small a h = digit-small' a.extent h (lt_z (span a.extent a.source_step) (pos 0))

  itself : (z : ℤ) → z ≤ℤ z
  itself z = simp ints (simp atoms (omega arith))

  -- every element lies between the ends
  pub offset-low : (k : ℕ) → lowest_offset xs base ≤ℤ offset xs base k
  unfolding offset lowest_offset
  offset-low k = sum-le base base (low_sum xs) (shift xs (digits xs k)) (itself base) (shift-low xs w k)

  pub offset-high : (k : ℕ) → offset xs base k ≤ℤ highest_offset xs base
  unfolding offset highest_offset
  offset-high k = sum-le base base (shift xs (digits xs k)) (high_sum xs) (itself base) (shift-high xs w k)

-- ---- a test of every number
pub every-below-true : (n : ℕ) (p : ℕ → Bool) → ((k : ℕ) → k < n → p k ≡ true) → every_below n p ≡ true
unfolding every_below
every-below-true zero p f = refl
every-below-true (suc n) p f = rw (every-below-true n p (λ k h. f k (omega arith)), f n (omega arith))

pub every-below-at : (n : ℕ) (p : ℕ → Bool) → every_below n p ≡ true → (k : ℕ) → k < n → p k ≡ true
unfolding every_below
every-below-at zero p e k h = absurd (not-suc-le-zero h)
every-below-at (suc n) p e k h = go (every-below-at n p (and_both (every_below n p) (p n) e).0 k) (dec_lt k n)
  where
    go : (k < n → p k ≡ true) → Dec (k < n) → p k ≡ true
    go f (yes l) = f l
    go f (no l) = let q : k ≡ n = omega arith in rw q (and_both (every_below n p) (p n) e).1

-- ---- refusal 7: by its definition over every element, and by the two ends
unfoldable pub ends_inside : List ReduceOuterAxis → ℤ → ℕ → Bool
ends_inside xs base length = le_z (pos 0) (lowest_offset xs base) && lt_z (highest_offset xs base) (pos (2 ^ 63)) && lt_z (highest_offset xs base) (pos length)

up-zero : (a b : ℤ) → le_z (pos 0) a ≡ true → a ≤ℤ b → le_z (pos 0) b ≡ true
up-zero a b = simp ints (simp atoms (omega arith))

down_lt : (a b c : ℤ) → lt_z b c ≡ true → a ≤ℤ b → lt_z a c ≡ true
down_lt a b c = simp ints (simp atoms (omega arith))

of_le : (a b : ℤ) → le_z a b ≡ true → a ≤ℤ b
of_le a b = simp ints (simp atoms (omega arith))

of_lt : (a b : ℤ) → lt_z a b ≡ true → a <ℤ b
of_lt a b = simp ints (simp atoms (omega arith))

-- an offset that refusal 7 lets through lies in the values
pub inside-low : (n : ℕ) (z : ℤ) → inside_values n z ≡ true → pos 0 ≤ℤ z
unfolding inside_values
inside-low n z e = of_le (pos 0) z (and3 (le_z (pos 0) z) (lt_z z (pos (2 ^ 63))) (lt_z z (pos n)) e).0

pub inside-high : (n : ℕ) (z : ℤ) → inside_values n z ≡ true → z <ℤ pos n
unfolding inside_values
inside-high n z e = of_lt z (pos n) (and3 (le_z (pos 0) z) (lt_z z (pos (2 ^ 63))) (lt_z z (pos n)) e).2

module _ (xs : List ReduceOuterAxis) (w : Axes xs) (base : ℤ) (length : ℕ) where
  -- refusal 7 is given exactly if some element lies outside
  pub seven-exact : (all_inside xs (elements xs) base length ≡ true) ↔ ((k : ℕ) → k < elements xs → inside_values length (offset xs base k) ≡ true)
  unfolding all_inside
  seven-exact =
      (every-below-at (elements xs) (λ k. inside_values length (offset xs base k)), every-below-true (elements xs) (λ k. inside_values length (offset xs base k)))

  ends-all : ends_inside xs base length ≡ true → (k : ℕ) → inside_values length (offset xs base k) ≡ true
  unfolding ends_inside inside_values
  ends-all e k =
      let l = offset-low xs w base k in
      let h = offset-high xs w base k in
      let p = and3 (le_z (pos 0) (lowest_offset xs base)) (lt_z (highest_offset xs base) (pos (2 ^ 63))) (lt_z (highest_offset xs base) (pos length)) e in
      rw (
        up-zero (lowest_offset xs base) (offset xs base k) p.0 l,
        down_lt (offset xs base k) (highest_offset xs base) (pos (2 ^ 63)) p.1 h,
        down_lt (offset xs base k) (highest_offset xs base) (pos length) p.2 h,
      )

  all-ends : all_inside xs (elements xs) base length ≡ true → ends_inside xs base length ≡ true
  unfolding ends_inside inside_values
  all-ends e =
      let f = seven-exact.0 e in
      let lo = offset xs base (low_number xs w base) in
      let hi = offset xs base (high_number xs w base) in
      let l = and3 (le_z (pos 0) lo) (lt_z lo (pos (2 ^ 63))) (lt_z lo (pos length)) (f (low_number xs w base) (low-number xs w base)) in
      let h = and3 (le_z (pos 0) hi) (lt_z hi (pos (2 ^ 63))) (lt_z hi (pos length)) (f (high_number xs w base) (high-number xs w base)) in
      rw (← (low-offset xs w base), ← (high-offset xs w base), l.0, h.1, h.2)

  -- the test of the two ends is the test of every element
  pub ends-exact : all_inside xs (elements xs) base length ≡ ends_inside xs base length
  ends-exact = go (all_inside xs (elements xs) base length) (ends_inside xs base length) refl refl
    where
      go : (a b : Bool) → all_inside xs (elements xs) base length ≡ a → ends_inside xs base length ≡ b
          → all_inside xs (elements xs) base length ≡ ends_inside xs base length
      go true b e f = e ∙ sym (all-ends e)
      go false true e f = seven-exact.1 (λ k h. ends-all f k) ∙ sym f
      go false false e f = e ∙ sym f

  -- what an accepted layout and base give the cursor
  pub ends-bounded : ends_inside xs base length ≡ true → Bounded xs base
  unfolding ends_inside
  ends-bounded e =
      let p = and3 (le_z (pos 0) (lowest_offset xs base)) (lt_z (highest_offset xs base) (pos (2 ^ 63))) (lt_z (highest_offset xs base) (pos length)) e in
      record { low = of_le (pos 0) (lowest_offset xs base) p.0; high = of_lt (highest_offset xs base) (pos (2 ^ 63)) p.1 }
