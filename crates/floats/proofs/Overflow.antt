-- Past the largest exponent the float of a factor is an infinity, and so is the product of two floats; an infinity or a NaN stays one of the two in a product.
-- Assumes nothing.
use mathlib.Core.Path.{◌≡◌, refl, sym, ap, ◌∙◌}
use mathlib.Core.Bool.{Bool, true, false, cond, true≢false}
use Prim.Native.Nat.{ℕ, zero, suc, ◌+◌, ◌*◌, ◌^◌, ◌≤◌, ◌<◌}
use native.Mathlib.Nat.{le_trans, le_of_eq, mul-le-mul_right}
use native.Mathlib.Omega.{arith}
use lib.IntN.{ℤ, pos, negsuc, ◌+ℤ◌}
use lib.Signed.{lt_z}
use lib.Dec.{lit<}
use lib.Pow.{pow-add, pow_mono}
use lib.Ieee.{Float, nan, inf, fin, binary64, odd}
use borrow.Author.Tests.{ltb-true, le-ltb}
use Rattle.floats.specs.Rounding.{unit_places, delivered}
use Rattle.floats.specs.Product.{product, product_of}
use Rattle.floats.specs.Factor.{Factor, Normalised, NormalExponent, times, float_of}
use Rattle.floats.proofs.Factor.{times-normal}
use Rattle.floats.proofs.Bridge.{float_of-is, mul_is, mul-times}

-- ---- `delivered`, from the overflow on
delivered-over : (p em : ℕ) (s : Bool) (n j : ℕ) → 2 ^ (unit_places p em + suc em) ≤ n * 2 ^ j → delivered p em s n j ≡ inf s
unfolding delivered
delivered-over p em s n j h = ap (λ (t : Bool). cond t (odd (suc p) s n j (unit_places p em)) (inf s)) (le-ltb (n * 2 ^ j) (2 ^ (unit_places p em + suc em)) h)

-- a significand of t + 1 digits, at a place of twice the largest exponent or more
past-range : (t em S j : ℕ) → 0 < em → 2 ^ t ≤ S → 2 * em ≤ j → 2 ^ (unit_places (t + 1) em + suc em) ≤ S * 2 ^ j
past-range t em S j e h k =
    le_trans (pow_mono (let l : unit_places (t + 1) em + suc em ≤ t + j = omega arith in l)) (le_trans (le_of_eq (pow-add 2 t j)) (mul-le-mul_right (2 ^ j) h))

-- ---- an exponent above 1023: its place, the float of its factor, the product
place-above : (e : ℤ) → lt_z (pos 1023) e ≡ true → (j : ℕ) × (e +ℤ pos 1022 ≡ pos j) × (2046 ≤ j)
place-above (pos n) h = (n + 1022, refl, omega (arith, ltb-true 1023 n h))
place-above (negsuc n) h = absurd (true≢false (sym h))

pub float-above : (f : Factor) → Normalised 52 f → lt_z (pos 1023) f.exp ≡ true → float_of 11 52 f ≡ inf f.sign
float-above f N h =
    let p = place-above f.exp h in
    float_of-is 11 52 f p.0 N p.1 ∙ delivered-over 53 1023 f.sign f.sig p.0 (past-range 52 1023 f.sig p.0 (lit< tt) N.least p.2)

pub product-above : (f g : Factor) → Normalised 52 f → Normalised 52 g → NormalExponent 11 f → NormalExponent 11 g → lt_z (pos 1023) (times 52 f g).exp ≡ true
    → product_of 11 52 (float_of 11 52 f) (float_of 11 52 g) ≡ inf (times 52 f g).sign
product-above f g N M R Q h =
    let p = place-above (times 52 f g).exp h in
    sym (mul_is binary64 11 52 refl refl (float_of 11 52 f) (float_of 11 52 g))
    ∙ mul-times binary64 11 52 refl refl f g N M R Q p.0 p.1
    ∙ float-above (times 52 f g) (times-normal 52 f g N M) h

-- ---- no number any more
-- an infinity or a NaN
abbrev pub is_lost : Float → Bool
is_lost nan = true
is_lost (inf s) = true
is_lost (fin s m e) = false

-- it stays one of the two, whatever it is multiplied with
pub lost-product : (m x : Float) → is_lost m ≡ true → is_lost (product_of 11 52 m x) ≡ true
unfolding product
lost-product nan x h = refl
lost-product (inf a) nan h = refl
lost-product (inf a) (inf b) h = refl
lost-product (inf a) (fin b zero d) h = refl
lost-product (inf a) (fin b (suc n) d) h = refl
lost-product (fin a n d) x h = absurd (true≢false (sym h))

-- and so does any float that is multiplied with one
pub lost-factor : (m x : Float) → is_lost x ≡ true → is_lost (product_of 11 52 m x) ≡ true
unfolding product
lost-factor nan x h = refl
lost-factor (inf a) x h = lost-product (inf a) x refl
lost-factor (fin a n d) nan h = refl
lost-factor (fin a zero d) (inf b) h = refl
lost-factor (fin a (suc n) d) (inf b) h = refl
lost-factor (fin a n d) (fin b k e) h = absurd (true≢false (sym h))
