-- Comparisons of a float with -2, -1, 0, 1 and 2, and its size in whole numbers. Assumes nothing.
use mathlib.Core.Path.{◌≡◌, refl, sym, ap, ◌∙◌}
use mathlib.Core.Bool.{Bool, true, false, cond, ◌&&◌, ◌||◌, and-false, or-true, or-false}
use mathlib.Core.Logic.{◌⊎◌, inl, inr}
use Prim.Native.Nat.{ℕ, ◌+◌, ◌*◌, ◌<◌}
use native.Mathlib.Nat.{mul-one, one-mul, mul-pos, eq-zero-or-pos}
use native.Mathlib.Omega.{arith}
use lib.IntN.{pos}
use lib.Dec.{ltb, leb, eqb}
use lib.Ieee.{Float, nan, inf, fin, up, down, le, lt, neg, of_bits, binary64}
use lib.Ieee.Fits.{down_pos}
use borrow.Author.Tests.{lt-ltb, le-ltb, lt-leb, eq-eqb, ne_eqb, eqb-true, eqb-false}
use Rattle.laws.proofs.Tests.{le_test}
use Rattle.floats.specs.Magnitude.{in_unit, two_or_more}

-- ---- tests on numbers
-- of two numbers of unlike sign: equal only if both are zero
unlike-signs : (a b : ℕ) → 0 < b → (eqb a b && eqb a 0) ≡ false
unlike-signs a b B = go (eqb a b) refl
  where
    go : (t : Bool) → eqb a b ≡ t → (t && eqb a 0) ≡ false
    go true e = ne_eqb a 0 (λ (z : a ≡ 0). let h : a ≡ b = eqb-true a b e in omega arith)
    go false e = refl

unlike-signs-left : (a b : ℕ) → 0 < a → (eqb a b && eqb a 0) ≡ false
unlike-signs-left a b A = ap (λ (t : Bool). eqb a b && t) (ne_eqb a 0 (λ (z : a ≡ 0). omega arith)) ∙ and-false (eqb a b)

eqb_comm : (a b : ℕ) → eqb a b ≡ eqb b a
eqb_comm a b = go (eqb a b) refl
  where
    go : (t : Bool) → eqb a b ≡ t → eqb a b ≡ eqb b a
    go true e = e ∙ sym (eq-eqb b a (sym (eqb-true a b e)))
    go false e = e ∙ sym (ne_eqb b a (λ (h : b ≡ a). eqb-false a b e (sym h)))

-- ---- the constants
abbrev pub two : Float
two = of_bits binary64 4611686018427387904

abbrev pub one : Float
one = of_bits binary64 4607182418800017408

abbrev pub nought : Float
nought = of_bits binary64 0

pub two_is : two ≡ fin false 1 (pos 1)
unfolding of_bits
two_is = refl

pub one-is : one ≡ fin false 1 (pos 0)
unfolding of_bits
one-is = refl

pub nought-is : nought ≡ fin false 0 (pos 0)
unfolding of_bits
nought-is = refl

-- ---- 2 ≤ |m|
two_cases : (m : Float) → (le (fin false 1 (pos 1)) m || le m (neg (fin false 1 (pos 1)))) ≡ two_or_more m
unfolding le neg two_or_more
two_cases nan = refl
two_cases (inf true) = refl
two_cases (inf false) = refl
two_cases (fin false m e) =
    let a = m * up e in
    let d = down e in
    ap (λ (t : Bool). t || (false || (eqb (a * 1) (2 * d) && eqb (a * 1) 0))) (le_test (2 * d) (a * 1))
    ∙ ap (λ (t : Bool). leb (2 * d) (a * 1) || t) (unlike-signs (a * 1) (2 * d) (mul-pos (le-refl-two) (down_pos e)))
    ∙ or-false (leb (2 * d) (a * 1))
    ∙ ap (leb (2 * d)) (mul-one a)
  where
    le-refl-two : 0 < 2
    le-refl-two = omega arith
two_cases (fin true m e) =
    let a = m * up e in
    let d = down e in
    ap (λ (t : Bool). (false || t) || (ltb (2 * d) (a * 1) || (eqb (a * 1) (2 * d) && true))) (unlike-signs-left (2 * d) (a * 1) (mul-pos pos-two (down_pos e)))
    ∙ ap (λ (t : Bool). ltb (2 * d) (a * 1) || (t && true)) (eqb_comm (a * 1) (2 * d))
    ∙ le_test (2 * d) (a * 1)
    ∙ ap (leb (2 * d)) (mul-one a)
  where
    pos-two : 0 < 2
    pos-two = omega arith

two-test : (m : Float) → (le two m || le m (neg two)) ≡ two_or_more m
two-test m = ap (λ (x : Float). le x m || le m (neg x)) two_is ∙ two_cases m

pub two-taken : (m : Float) → le m (neg two) ≡ true → le m (neg two) ≡ two_or_more m
two-taken m h = h ∙ sym (or-true (le two m)) ∙ ap (λ (t : Bool). le two m || t) (sym h) ∙ two-test m

pub two-left : (m : Float) → le m (neg two) ≡ false → le two m ≡ two_or_more m
two-left m h = sym (or-false (le two m)) ∙ ap (λ (t : Bool). le two m || t) (sym h) ∙ two-test m

-- ---- 1 ≤ |m| < 2
unit-cases : (m : Float)
    → cond (lt m (fin false 0 (pos 0))) (le m (neg (fin false 1 (pos 0))) && lt (neg (fin false 1 (pos 1))) m)
    (le (fin false 1 (pos 0)) m && lt m (fin false 1 (pos 1)))
    ≡ in_unit m
unfolding le neg in_unit
unit-cases nan = refl
unit-cases (inf true) = refl
unit-cases (inf false) = refl
unit-cases (fin false m e) =
    let a = m * up e in
    let d = down e in
    ap (λ (t : Bool). cond t (less && lt (neg (fin false 1 (pos 1))) (fin false m e))
    ((ltb (1 * d) (a * 1) || (eqb (1 * d) (a * 1) && true)) && ltb (a * 1) (2 * d)))
    (le-ltb (a * 1) (0 * 1 * d) (omega arith))
    ∙ ap (λ (t : Bool). t && ltb (a * 1) (2 * d)) (le_test (1 * d) (a * 1))
    ∙ ap (λ (x : ℕ). leb x (a * 1) && ltb (a * 1) (2 * d)) (one-mul d)
    ∙ ap (λ (x : ℕ). leb d x && ltb x (2 * d)) (mul-one a)
  where
    less : Bool
    less = le (fin false m e) (neg (fin false 1 (pos 0)))
unit-cases (fin true m e) =
    let a = m * up e in
    let d = down e in
    go a d (down_pos e) (eq-zero-or-pos a)
  where
    go : (a d : ℕ) → 0 < d → (a ≡ 0) ⊎ (0 < a)
        → cond (ltb 0 (a * 1 + 0 * 1 * d)) ((ltb (1 * d) (a * 1) || (eqb (a * 1) (1 * d) && true)) && ltb (a * 1) (2 * d))
        ((false || (eqb (1 * d) (a * 1) && eqb (1 * d) 0)) && ltb 0 (a * 1 + 2 * d))
        ≡ (leb d a && ltb a (2 * d))
    go a d D (inl z) =
        ap (λ (t : Bool). cond t ((ltb (1 * d) (a * 1) || (eqb (a * 1) (1 * d) && true)) && ltb (a * 1) (2 * d))
        ((eqb (1 * d) (a * 1) && eqb (1 * d) 0) && ltb 0 (a * 1 + 2 * d))) (le-ltb 0 (a * 1 + 0 * 1 * d) (omega arith))
        ∙ ap (λ (t : Bool). t && ltb 0 (a * 1 + 2 * d)) (unlike-signs-left (1 * d) (a * 1) (omega arith))
        ∙ sym (ap (λ (t : Bool). t && ltb a (2 * d)) (lt-leb d a (omega arith)))
    go a d D (inr p) =
        ap (λ (t : Bool). cond t ((ltb (1 * d) (a * 1) || (eqb (a * 1) (1 * d) && true)) && ltb (a * 1) (2 * d))
        ((eqb (1 * d) (a * 1) && eqb (1 * d) 0) && ltb 0 (a * 1 + 2 * d))) (lt-ltb 0 (a * 1 + 0 * 1 * d) (omega arith))
        ∙ ap (λ (t : Bool). (ltb (1 * d) (a * 1) || (t && true)) && ltb (a * 1) (2 * d)) (eqb_comm (a * 1) (1 * d))
        ∙ ap (λ (t : Bool). t && ltb (a * 1) (2 * d)) (le_test (1 * d) (a * 1))
        ∙ ap (λ (x : ℕ). leb x (a * 1) && ltb (a * 1) (2 * d)) (one-mul d)
        ∙ ap (λ (x : ℕ). leb d x && ltb x (2 * d)) (mul-one a)

-- the test of the code, whole, and by its four ways
unit-test : (m : Float) → cond (lt m nought) (le m (neg one) && lt (neg two) m) (le one m && lt m two) ≡ in_unit m
unit-test m =
    ap (λ (x : Float). cond (lt m x) (le m (neg one) && lt (neg two) m) (le one m && lt m two)) nought-is
    ∙ ap (λ (x : Float). cond (lt m (fin false 0 (pos 0))) (le m (neg x) && lt (neg two) m) (le x m && lt m two)) one-is
    ∙ ap (λ (x : Float). cond (lt m (fin false 0 (pos 0))) (le m (neg (fin false 1 (pos 0))) && lt (neg x) m) (le (fin false 1 (pos 0)) m && lt m x)) two_is
    ∙ unit-cases m

unit-minus : (m : Float) → lt m nought ≡ true → (le m (neg one) && lt (neg two) m) ≡ in_unit m
unit-minus m h = ap (λ (t : Bool). cond t (le m (neg one) && lt (neg two) m) (le one m && lt m two)) (sym h) ∙ unit-test m

unit-plus : (m : Float) → lt m nought ≡ false → (le one m && lt m two) ≡ in_unit m
unit-plus m h = ap (λ (t : Bool). cond t (le m (neg one) && lt (neg two) m) (le one m && lt m two)) (sym h) ∙ unit-test m

-- a conjunction whose first part is known
and-taken : (p q r : Bool) → p ≡ true → (p && q) ≡ r → q ≡ r
and-taken p q r h e = ap (λ (t : Bool). t && q) (sym h) ∙ e

and-stops : (p q r : Bool) → p ≡ false → (p && q) ≡ r → p ≡ r
and-stops p q r h e = h ∙ ap (λ (t : Bool). t && q) (sym h) ∙ e

pub minus-taken : (m : Float) → lt m nought ≡ true → le m (neg one) ≡ true → lt (neg two) m ≡ in_unit m
minus-taken m h k = and-taken (le m (neg one)) (lt (neg two) m) (in_unit m) k (unit-minus m h)

pub minus-left : (m : Float) → lt m nought ≡ true → le m (neg one) ≡ false → le m (neg one) ≡ in_unit m
minus-left m h k = and-stops (le m (neg one)) (lt (neg two) m) (in_unit m) k (unit-minus m h)

pub plus-taken : (m : Float) → lt m nought ≡ false → le one m ≡ true → lt m two ≡ in_unit m
plus-taken m h k = and-taken (le one m) (lt m two) (in_unit m) k (unit-plus m h)

pub plus-left : (m : Float) → lt m nought ≡ false → le one m ≡ false → le one m ≡ in_unit m
plus-left m h k = and-stops (le one m) (lt m two) (in_unit m) k (unit-plus m h)
