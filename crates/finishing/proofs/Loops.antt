-- The two loops of `f64_ldexp`: each multiplies at most twice, the first time exactly, the second time into an infinity or a zero. So m × 2^e is rounded once.
-- Assumes nothing.
use mathlib.Core.Path.{◌≡◌, refl, sym, ap, ◌∙◌, subst}
use mathlib.Core.Bool.{Bool, true, false, cond, ◌&&◌, ◌||◌, beq, true≢false}
use Prim.Native.Nat.{ℕ, zero, suc, ◌+◌, ◌*◌, ◌/◌, ◌%◌, ◌^◌, ◌≤◌, ◌<◌, ◌-◌}
use native.Mathlib.Nat.{le_trans, lt_of_lt_of_le, mul-pos, mod-eq_of_lt, div-eq_of_lt}
use native.Mathlib.Omega.{arith}
use lib.IntN.{ℤ, pos, negsuc, nat_abs, neg_ℤ, ◌+ℤ◌, ◌-ℤ◌}
use lib.Signed.{le_z, lt_z}
use lib.Dec.{T, ltb, eqb, lit<, lit≤}
use lib.Pow.{pow_pos, pow_mono}
use lib.Ieee.{Float, nan, inf, fin, binary64, up, down, fits, mul, eq, of_bits, odd}
use lib.Ieee.Fits.{down_pos}
use lib.Ieee.Exact.{HasValue}
use mir.Syntax.{w64}
use mir.Val.{SFits}
use borrow.Author.Tests.{lt-ltb, ne_eqb}
use Rattle.laws.proofs.Tests.{and_both}
use Rattle.integers.proofs.Difference.{ints, atoms}
use Rattle.integers.proofs.Machine.{nonneg_pos}
use Rattle.floats.specs.Rounding.{ties_to_even}
use Rattle.floats.specs.Factor.{Normalised, float_of}
use Rattle.floats.specs.Magnitude.{in_unit, is_minus, factor_at}
use Rattle.floats.proofs.Product.{mul-binary64}
use Rattle.floats.proofs.Bridge.{float_of-value}
use Rattle.floats.proofs.Magnitude.{at-normal, float_at}
use Rattle.floats.proofs.Overflow.{float-above}
use Rattle.accumulator.specs.Joining.{within_limit}
use Rattle.accumulator.proofs.Exponents.{limits}
use Rattle.accumulator.proofs.Comparing.{nought, nought-is}
use Rattle.finishing.specs.Once.{counted, past_largest, from_least_normal, rounded_once}
use Rattle.std.specs.Float.{float_is_infinite}
use Rattle.finishing.proofs.Once.{range, float-low, once_is}
use Rattle.finishing.proofs.Scaling.{float-times-power}

-- ---- the constants of the code
abbrev pub highest : Float
highest = of_bits binary64 9214364837600034816

abbrev pub lowest : Float
lowest = of_bits binary64 (2 ^ 52)

highest-is : highest ≡ fin false 1 (pos 1023)
unfolding of_bits
highest-is = refl

lowest-is : lowest ≡ fin false 1 (negsuc 1021)
unfolding of_bits
lowest-is = refl

-- ---- numbers that are neither infinite nor zero
value-finite : (x : Float) (s : Bool) (a c : ℕ) → HasValue x s a c → float_is_infinite x ≡ false
unfolding float_is_infinite
value-finite nan s a c h = absurd h
value-finite (inf u) s a c h = absurd h
value-finite (fin u m e) s a c h = refl

value-nonzero : (x : Float) (s : Bool) (a c : ℕ) → 0 < a → HasValue x s a c → eq x (fin false 0 (pos 0)) ≡ false
unfolding eq
value-nonzero nan s a c A h = absurd h
value-nonzero (inf u) s a c A h = absurd h
value-nonzero (fin u m e) s a c A h =
    ap (λ (t : Bool). t && (beq u false || eqb (m * up e * 1) 0)) (ne_eqb (m * up e * 1) (0 * 1 * down e) (no (m * up e) (down e) (down_pos e) h.1))
  where
    no : (n d : ℕ) → 0 < d → n * c ≡ a * d → n * 1 ≡ 0 * 1 * d → ⊥
    no n d D e z =
        let n-is : n ≡ 0 = omega arith in
        let p : 0 < a * d = mul-pos A D in
        let q : 0 * c ≡ a * d = subst (λ (x : ℕ). x * c ≡ a * d) n-is e in
        omega arith

infinite-is : (s : Bool) → float_is_infinite (inf s) ≡ true
unfolding float_is_infinite
infinite-is s = refl

zero_is : (s : Bool) → eq (fin s 0 (pos 0)) (fin false 0 (pos 0)) ≡ true
unfolding eq
zero_is true = refl
zero_is false = refl

-- less than half of a unit is none
ties-none : (S n : ℕ) → S < 2 ^ 53 → 54 ≤ n → ties_to_even S (2 ^ n) ≡ 0
ties-none S n h l =
    let b = 2 ^ n in
    let big : 2 ^ 54 ≤ b = pow_mono l in
    let small : S < b = lt_of_lt_of_le h (le_trans (lit≤ tt) big) in
    let r : S % b ≡ S = mod-eq_of_lt small in
    let q : S / b ≡ 0 = div-eq_of_lt small in
    let t : S * 2 < b = lt_of_lt_of_le (let u : S * 2 < 2 ^ 54 = omega arith in u) big in
    ap (λ (x : Bool). cond x (S / b) (cond (ltb b (S % b * 2)) (S / b + 1) (S / b + S / b % 2))) (ap (λ (x : ℕ). ltb (x * 2) b) r ∙ lt-ltb (S * 2) b t)
    ∙ q

-- ---- exponents
pub record Limited (e : ℤ) : Type 0 where
  pub low : le_z (negsuc (2 ^ 52 - 1)) e ≡ true
  pub high : le_z e (pos (2 ^ 52)) ≡ true

pub limited : (e : ℤ) → within_limit e ≡ true → Limited e
limited e h = record { low = both.0; high = both.1 }
  where
    both : (le_z (negsuc (2 ^ 52 - 1)) e ≡ true) × (le_z e (pos (2 ^ 52)) ≡ true)
    both = and_both (le_z (negsuc (2 ^ 52 - 1)) e) (le_z e (pos (2 ^ 52))) (limits (2 ^ 52 - 1) e ∙ h)

-- e below -1076, where |m| × 2^e is less than half of the least positive number
module _ (e : ℤ) where
  tiny-low : lt_z e (negsuc 1075) ≡ true → from_least_normal e ≡ false
  tiny-low = simp ints (simp atoms (omega arith))

  tiny-digits : (n : ℕ) → negsuc 1021 -ℤ e ≡ pos n → lt_z e (negsuc 1075) ≡ true → 54 ≤ n
  tiny-digits n = simp ints (simp atoms (omega arith))

  tiny-pos : lt_z e (negsuc 1075) ≡ true → lt_z (negsuc 1021 -ℤ e) (pos 0) ≡ false
  tiny-pos = simp ints (simp atoms (omega arith))

module _ (k e : ℤ) where
  raised-over : k +ℤ pos 1023 ≡ e → past_largest k ≡ true → past_largest e ≡ true
  raised-over = simp ints (simp atoms (omega arith))

  raised-sum : k ≡ e → k -ℤ pos 1023 +ℤ pos 1023 ≡ e
  raised-sum = simp ints (simp atoms (omega arith))

  raised-plus : past_largest k ≡ true → lt_z (pos 0) (k -ℤ pos 1023) ≡ true
  raised-plus = simp ints (simp atoms (omega arith))

  lowered-sum : k ≡ e → k +ℤ pos 1022 -ℤ pos 1022 ≡ e
  lowered-sum = simp ints (simp atoms (omega arith))

  lowered-minus : from_least_normal k ≡ false → lt_z (k +ℤ pos 1022) (pos 0) ≡ true
  lowered-minus = simp ints (simp atoms (omega arith))

  not-minus : lt_z k (pos 0) ≡ true → past_largest k ≡ true → ⊥
  not-minus = simp ints (simp atoms (omega arith))

  not-plus : lt_z (pos 0) k ≡ true → from_least_normal k ≡ false → ⊥
  not-plus = simp ints (simp atoms (omega arith))

  lowered-tiny : k -ℤ pos 1022 ≡ e → from_least_normal k ≡ false → lt_z e (negsuc 1075) ≡ true
  lowered-tiny = simp ints (simp atoms (omega arith))

  zero-sum : k ≡ e → pos 0 +ℤ k ≡ e
  zero-sum = simp ints (simp atoms (omega arith))

  raised-whole : k +ℤ pos 1023 ≡ e → pos 1023 +ℤ k ≡ e
  raised-whole = simp ints (simp atoms (omega arith))

  lowered-whole : k -ℤ pos 1022 ≡ e → negsuc 1021 +ℤ k ≡ e
  lowered-whole = simp ints (simp atoms (omega arith))

  same-fits : le_z (negsuc (2 ^ 52 - 1)) e ≡ true → le_z e (pos (2 ^ 52)) ≡ true → k ≡ e → SFits w64 (k -ℤ pos 1023) × SFits w64 (k +ℤ pos 1022)
  same-fits = simp ints (simp atoms (omega arith))

  raised-fits : le_z (negsuc (2 ^ 52 - 1)) e ≡ true → le_z e (pos (2 ^ 52)) ≡ true → k +ℤ pos 1023 ≡ e
      → SFits w64 (k -ℤ pos 1023) × SFits w64 (k +ℤ pos 1022)
  raised-fits = simp ints (simp atoms (omega arith))

  lowered-fits : le_z (negsuc (2 ^ 52 - 1)) e ≡ true → le_z e (pos (2 ^ 52)) ≡ true → k -ℤ pos 1022 ≡ e
      → SFits w64 (k -ℤ pos 1023) × SFits w64 (k +ℤ pos 1022)
  lowered-fits = simp ints (simp atoms (omega arith))

-- ---- each step goes towards zero
abs-turned : (x : ℤ) → nat_abs (neg_ℤ x) ≡ nat_abs x
abs-turned (pos zero) = refl
abs-turned (pos (suc n)) = refl
abs-turned (negsuc n) = refl

module _ (k : ℤ) where
  raised-sizes : (a b : ℕ) → k ≡ pos a → k -ℤ pos 1023 ≡ pos b → b < a
  raised-sizes a b = simp ints (simp atoms (omega arith))

  raised-signs : past_largest k ≡ true → (lt_z k (pos 0) ≡ false) × (lt_z (k -ℤ pos 1023) (pos 0) ≡ false)
  raised-signs = simp ints (simp atoms (omega arith))

  pub raised-less : past_largest k ≡ true → nat_abs (k -ℤ pos 1023) < nat_abs k
  raised-less h = raised-sizes (nat_abs k) (nat_abs (k -ℤ pos 1023)) (nonneg_pos k (raised-signs h).0) (nonneg_pos (k -ℤ pos 1023) (raised-signs h).1)

  lowered-sizes : (a b : ℕ) → neg_ℤ k ≡ pos a → neg_ℤ (k +ℤ pos 1022) ≡ pos b → b < a
  lowered-sizes a b = simp ints (simp atoms (omega arith))

  lowered-signs : from_least_normal k ≡ false → (lt_z (neg_ℤ k) (pos 0) ≡ false) × (lt_z (neg_ℤ (k +ℤ pos 1022)) (pos 0) ≡ false)
  lowered-signs = simp ints (simp atoms (omega arith))

  pub lowered-less : from_least_normal k ≡ false → nat_abs (k +ℤ pos 1022) < nat_abs k
  lowered-less h =
      lowered-sizes (nat_abs k) (nat_abs (k +ℤ pos 1022)) (nonneg_pos (neg_ℤ k) (lowered-signs h).0 ∙ ap pos (abs-turned k))
      (nonneg_pos (neg_ℤ (k +ℤ pos 1022)) (lowered-signs h).1 ∙ ap pos (abs-turned (k +ℤ pos 1022)))

  -- the tests of the second loop, as the code has them
  pub under-taken : lt_z k (negsuc 1021) ≡ true → from_least_normal k ≡ false
  under-taken = simp ints (simp atoms (omega arith))

  pub under_left : lt_z k (negsuc 1021) ≡ false → from_least_normal k ≡ true
  under_left = simp ints (simp atoms (omega arith))

  -- a step up keeps k at most 1023
  pub lowered-below : from_least_normal k ≡ false → past_largest (k +ℤ pos 1022) ≡ false
  lowered-below = simp ints (simp atoms (omega arith))

-- ---- the loops
-- x × 2^k is m × 2^e, and x is exact: nothing has been multiplied in; or 2^1023 has, and 2^k is still above 1; or 2^-1022 has, and 2^k is below 1.
abbrev pub at : Float → ℤ → Float
at m d = float_of 11 52 (factor_at 52 m d)

pub data Scaling (m : Float) (e : ℤ) (x : Float) (k : ℤ) : Type 0 where
  begun : x ≡ m → k ≡ e → Scaling m e x k
  raised : x ≡ at m (pos 1023) → k +ℤ pos 1023 ≡ e → lt_z (pos 0) k ≡ true → Scaling m e x k
  lowered : x ≡ at m (negsuc 1021) → k -ℤ pos 1022 ≡ e → lt_z k (pos 0) ≡ true → Scaling m e x k

pub scaling-none : (m : Float) (e : ℤ) → Scaling m e m e
scaling-none m e = begun refl refl

-- both steps fit i64
pub scaling-fits : (m : Float) (e : ℤ) (x : Float) (k : ℤ) → within_limit e ≡ true → Scaling m e x k → SFits w64 (k -ℤ pos 1023) × SFits w64 (k +ℤ pos 1022)
scaling-fits m e x k l (begun p q) = same-fits k e (limited e l).low (limited e l).high q
scaling-fits m e x k l (raised p q r) = raised-fits k e (limited e l).low (limited e l).high q
scaling-fits m e x k l (lowered p q r) = lowered-fits k e (limited e l).low (limited e l).high q

module _ (m : Float) (fm : T (fits binary64 m)) (um : in_unit m ≡ true) where
  N : (d : ℤ) → Normalised 52 (factor_at 52 m d)
  N d = at-normal binary64 11 52 refl refl (lit< tt) m fm um d

  begin : at m (pos 0) ≡ m
  begin = float_at binary64 11 52 refl refl (lit< tt) m fm um

  once : (e : ℤ) → at m e ≡ rounded_once (factor_at 52 m e)
  once e = sym (once_is (factor_at 52 m e) (N e))

  -- one more factor 2^z, of a normal number
  step : (d z : ℤ) → past_largest d ≡ false → from_least_normal d ≡ true → mul binary64 (at m d) (fin false 1 z) ≡ at m (d +ℤ z)
  unfolding factor_at
  step d z h k = mul-binary64 (at m d) (fin false 1 z) ∙ float-times-power (factor_at 52 m d) (N d) (range d 52 m h k) z

  over : (d : ℤ) → past_largest d ≡ true → at m d ≡ inf (is_minus m)
  unfolding factor_at
  over d h = float-above (factor_at 52 m d) (N d) h

  -- below half of the least positive number
  tiny : (d : ℤ) → lt_z d (negsuc 1075) ≡ true → at m d ≡ fin (is_minus m) 0 (pos 0)
  unfolding factor_at counted odd
  tiny d h =
      let f = factor_at 52 m d in
      let n = nat_abs (negsuc 1021 -ℤ d) in
      float-low f (N d) (tiny-low d h)
      ∙ ap (λ (x : ℕ). counted (is_minus m) x 0) (ties-none f.sig n (N d).most (tiny-digits d n (nonneg_pos (negsuc 1021 -ℤ d) (tiny-pos d h)) h))

  normal-value : (d : ℤ) (h : past_largest d ≡ false) (k : from_least_normal d ≡ true)
      → HasValue (at m d) (factor_at 52 m d).sign ((factor_at 52 m d).sig * 2 ^ (range d 52 m h k).place) (2 ^ 1074)
  normal-value d h k = float_of-value binary64 11 52 refl refl (factor_at 52 m d) (N d) (range d 52 m h k)

  finite : (d : ℤ) → past_largest d ≡ false → from_least_normal d ≡ true → float_is_infinite (at m d) ≡ false
  finite d h k = value-finite (at m d) (factor_at 52 m d).sign ((factor_at 52 m d).sig * 2 ^ (range d 52 m h k).place) (2 ^ 1074) (normal-value d h k)

  nonzero : (d : ℤ) → past_largest d ≡ false → from_least_normal d ≡ true → eq (at m d) (fin false 0 (pos 0)) ≡ false
  nonzero d h k =
      let j = (range d 52 m h k).place in
      value-nonzero (at m d) (factor_at 52 m d).sign ((factor_at 52 m d).sig * 2 ^ j) (2 ^ 1074)
      (mul-pos (lt_of_lt_of_le (pow_pos 52) (N d).least) (pow_pos j)) (normal-value d h k)

  module _ (e : ℤ) (x : Float) (k : ℤ) where
    -- the product of the first loop, and of the second
    rise : (d : ℤ) → x ≡ at m d → past_largest d ≡ false → from_least_normal d ≡ true → mul binary64 x highest ≡ at m (d +ℤ pos 1023)
    rise d p h g = ap (λ (y : Float). mul binary64 y highest) p ∙ ap (mul binary64 (at m d)) highest-is ∙ step d (pos 1023) h g

    fall : (d : ℤ) → x ≡ at m d → past_largest d ≡ false → from_least_normal d ≡ true → mul binary64 x lowest ≡ at m (d +ℤ negsuc 1021)
    fall d p h g = ap (λ (y : Float). mul binary64 y lowest) p ∙ ap (mul binary64 (at m d)) lowest-is ∙ step d (negsuc 1021) h g

    -- k is above 1023, and the product is infinite: the second time
    pub raised_all : Scaling m e x k → past_largest k ≡ true → float_is_infinite (mul binary64 x highest) ≡ true
        → mul binary64 x highest ≡ rounded_once (factor_at 52 m e)
    raised_all (begun p q) h i = absurd (true≢false (sym i ∙ ap float_is_infinite (rise (pos 0) (p ∙ sym begin) refl refl) ∙ finite (pos 1023) refl refl))
    raised_all (raised p q r) h i = rise (pos 1023) p refl refl ∙ over (pos 2046) refl ∙ sym (over e (raised-over k e q h)) ∙ once e
    raised_all (lowered p q r) h i = absurd (not-minus k e r h)

    -- and it is not: the first time
    pub raised-more : Scaling m e x k → past_largest k ≡ true → float_is_infinite (mul binary64 x highest) ≡ false
        → Scaling m e (mul binary64 x highest) (k -ℤ pos 1023)
    raised-more (begun p q) h i = raised (rise (pos 0) (p ∙ sym begin) refl refl) (raised-sum k e q) (raised-plus k e h)
    raised-more (raised p q r) h i =
        absurd (true≢false (sym (ap float_is_infinite (rise (pos 1023) p refl refl ∙ over (pos 2046) refl) ∙ infinite-is (is_minus m)) ∙ i))
    raised-more (lowered p q r) h i = absurd (not-minus k e r h)

    -- k is below -1022, and the product is zero: the second time
    pub lowered-all : Scaling m e x k → from_least_normal k ≡ false → eq (mul binary64 x lowest) nought ≡ true
        → mul binary64 x lowest ≡ rounded_once (factor_at 52 m e)
    lowered-all (begun p q) h i = absurd (true≢false
        (sym i
        ∙ ap (eq (mul binary64 x lowest)) nought-is
        ∙ ap (λ (y : Float). eq y (fin false 0 (pos 0))) (fall (pos 0) (p ∙ sym begin) refl refl)
        ∙ nonzero (negsuc 1021) refl refl))
    lowered-all (raised p q r) h i = absurd (not-plus k e r h)
    lowered-all (lowered p q r) h i = fall (negsuc 1021) p refl refl ∙ tiny (negsuc 2043) refl ∙ sym (tiny e (lowered-tiny k e q h)) ∙ once e

    -- and it is not: the first time
    pub lowered-more : Scaling m e x k → from_least_normal k ≡ false → eq (mul binary64 x lowest) nought ≡ false
        → Scaling m e (mul binary64 x lowest) (k +ℤ pos 1022)
    lowered-more (begun p q) h i = lowered (fall (pos 0) (p ∙ sym begin) refl refl) (lowered-sum k e q) (lowered-minus k e h)
    lowered-more (raised p q r) h i = absurd (not-plus k e r h)
    lowered-more (lowered p q r) h i = absurd (true≢false
        (sym
        (ap (eq (mul binary64 x lowest)) nought-is
        ∙ ap (λ (y : Float). eq y (fin false 0 (pos 0))) (fall (negsuc 1021) p refl refl ∙ tiny (negsuc 2043) refl)
        ∙ zero_is (is_minus m))
        ∙ i))

    -- k is the exponent of a normal number: the last product
    pub last : Scaling m e x k → mul binary64 x (fin false 1 k) ≡ rounded_once (factor_at 52 m e)
    last (begun p q) = ap (λ (y : Float). mul binary64 y (fin false 1 k)) (p ∙ sym begin) ∙ step (pos 0) k refl refl ∙ ap (at m) (zero-sum k e q) ∙ once e
    last (raised p q r) = ap (λ (y : Float). mul binary64 y (fin false 1 k)) p ∙ step (pos 1023) k refl refl ∙ ap (at m) (raised-whole k e q) ∙ once e
    last (lowered p q r) = ap (λ (y : Float). mul binary64 y (fin false 1 k)) p ∙ step (negsuc 1021) k refl refl ∙ ap (at m) (lowered-whole k e q) ∙ once e
