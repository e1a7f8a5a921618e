-- A normal number times a power of two is rounded once, wherever the product lies. Assumes nothing.
use mathlib.Core.Path.{◌≡◌, refl, sym, ap, ◌∙◌}
use mathlib.Core.Bool.{Bool, false}
use Prim.Native.Nat.{ℕ, ◌*◌, ◌^◌, ◌<◌}
use native.Mathlib.Nat.{mul-one, one-mul, mul_comm, mul_assoc, mul_left_comm, mul-pos, eq_of_mul-eq-mul_right}
use lib.IntN.{ℤ, pos, ◌+ℤ◌}
use lib.Ieee.{Float, nan, inf, fin, binary64, up, down}
use lib.Ieee.Fits.{down_pos}
use lib.Ieee.Exact.{HasValue}
use Rattle.laws.proofs.Sums.{sum-swap}
use Rattle.floats.specs.Rounding.{rounded}
use Rattle.floats.specs.Product.{product, product_of}
use Rattle.floats.specs.Factor.{Factor, Normalised, NormalExponent, float_of}
use Rattle.floats.specs.Magnitude.{with_exponent}
use Rattle.floats.proofs.Powers.{up-add}
use Rattle.floats.proofs.Factor.{signs-plus}
use Rattle.floats.proofs.Rounding.{rounded-same}
use Rattle.floats.proofs.Bridge.{float_of-value}

-- m × 2^e is S × I / L, where I is 2^i and L is 2^l; g is e + z, y is e + z + l, w is i + z
same-fraction : (m S I L ue de uz dz ug dg uy dy uw dw : ℕ) → 0 < dg → 0 < de → 0 < dz
    → m * ue * L ≡ S * I * de → uy * dg ≡ ug * L * dy → ug * (de * dz) ≡ ue * uz * dg → uw * dz ≡ I * uz * dw
    → m * uy * dw ≡ S * uw * dy
same-fraction m S I L ue de uz dz ug dg uy dy uw dw G D Z h signed_one two three =
    let a : m * uy * dw * (dg * (de * dz)) ≡ m * dw * (de * dz) * (uy * dg) = simp (mul_assoc, mul_comm, mul_left_comm) in
    let b : m * dw * (de * dz) * (ug * L * dy) ≡ m * dw * L * dy * (ug * (de * dz)) = simp (mul_assoc, mul_comm, mul_left_comm) in
    let c : m * dw * L * dy * (ue * uz * dg) ≡ dw * dy * uz * dg * (m * ue * L) = simp (mul_assoc, mul_comm, mul_left_comm) in
    let d : dw * dy * uz * dg * (S * I * de) ≡ S * dy * dg * de * (I * uz * dw) = simp (mul_assoc, mul_comm, mul_left_comm) in
    let e : S * dy * dg * de * (uw * dz) ≡ S * uw * dy * (dg * (de * dz)) = simp (mul_assoc, mul_comm, mul_left_comm) in
    eq_of_mul-eq-mul_right (dg * (de * dz)) (mul-pos G (mul-pos D Z)) (m * uy * dw) (S * uw * dy)
    (a
    ∙ ap (λ (x : ℕ). m * dw * (de * dz) * x) signed_one
    ∙ b
    ∙ ap (λ (x : ℕ). m * dw * L * dy * x) two
    ∙ c
    ∙ ap (λ (x : ℕ). dw * dy * uz * dg * x) h
    ∙ d
    ∙ ap (λ (x : ℕ). S * dy * dg * de * x) (sym three)
    ∙ e)

-- a number of S × 2^i units of 2^-1074, times 2^z, is S × 2^(i + z) units, rounded
value-power : (x : Float) (s : Bool) (S i : ℕ) (z : ℤ) → HasValue x s (S * 2 ^ i) (2 ^ 1074)
    → product_of 11 52 x (fin false 1 z) ≡ rounded 53 1023 s S (pos i +ℤ z)
unfolding product
value-power nan s S i z h = absurd h
value-power (inf u) s S i z h = absurd h
value-power (fin u m e) s S i z h =
    let y = e +ℤ z +ℤ pos 1074 in
    let w = pos i +ℤ z in
    ap (λ (t : Bool). rounded 53 1023 t (m * 1) y) (signs-plus u ∙ h.0)
    ∙ ap (λ (x : ℕ). rounded 53 1023 s x y) (mul-one m)
    ∙ rounded-same binary64 s m S y w
    (same-fraction m S (2 ^ i) (2 ^ 1074) (up e) (down e) (up z) (down z) (up (e +ℤ z)) (down (e +ℤ z)) (up y) (down y) (up w) (down w)
    (down_pos (e +ℤ z)) (down_pos e) (down_pos z) h.1
    (ap (λ (x : ℕ). up y * x) (sym (mul-one (down (e +ℤ z)))) ∙ up-add (e +ℤ z) (pos 1074))
    (up-add e z)
    (ap (λ (x : ℕ). up w * x) (sym (one-mul (down z))) ∙ up-add (pos i) z))

pub float-times-power : (f : Factor) → Normalised 52 f → NormalExponent 11 f → (z : ℤ)
    → product_of 11 52 (float_of 11 52 f) (fin false 1 z) ≡ float_of 11 52 (with_exponent f (f.exp +ℤ z))
unfolding float_of
float-times-power f N R z =
    value-power (float_of 11 52 f) f.sign f.sig R.place z (float_of-value binary64 11 52 refl refl f N R)
    ∙ ap (rounded 53 1023 f.sign f.sig) (ap (λ (x : ℤ). x +ℤ z) (sym R.above) ∙ sum-swap f.exp (pos 1022) z)
