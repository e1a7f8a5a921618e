-- Two values of a format with the same sign and the same size are one: the bits see nothing else. Assumes nothing.
use mathlib.Core.Path.{◌≡◌, refl, sym, ap, ◌∙◌}
use mathlib.Core.Bool.{Bool, cond}
use Prim.Native.Nat.{ℕ, ◌+◌, ◌-◌, ◌*◌, ◌/◌, ◌^◌, ◌<◌}
use native.Mathlib.Nat.{mul_right_comm, eq_of_mul-eq-mul_right}
use lib.IntN.{ℤ}
use lib.Dec.{T}
use lib.Ieee.{Float, nan, inf, fin, Format, prec, low, up, down, size, fits, hid, top, to_bits, of_bits}
use lib.Ieee.Fits.{down_pos}
use lib.Ieee.Exact.{HasValue}
use lib.Ieee.Bits.{of_bits-to_bits}
use lib.Ieee.Nearest.{div_same}

-- x / d and y / g are both a / c
pub cross : (x y d g a c : ℕ) → 0 < c → x * c ≡ a * d → y * c ≡ a * g → x * g ≡ y * d
cross x y d g a c C p q =
    eq_of_mul-eq-mul_right c C (x * g) (y * d)
    (mul_right_comm x g c ∙ ap (λ (z : ℕ). z * g) p ∙ mul_right_comm a d g ∙ ap (λ (z : ℕ). z * d) (sym q) ∙ mul_right_comm y c d)

-- the bits of a sign and a number of units
unfoldable pub pattern-of : Format → Bool → ℕ → ℕ
pattern-of f s n = cond s (top f) 0 + (size n - prec f) * hid f + n / 2 ^ (size n - prec f)

pub bits_are : (f : Format) (s : Bool) (m : ℕ) (e : ℤ) → to_bits f (fin s m e) ≡ pattern-of f s (m * up e * 2 ^ low f / down e)
unfolding to_bits pattern-of
bits_are f s m e = refl

fraction-units : (f : Format) (m n : ℕ) (e d : ℤ) (a c : ℕ) → 0 < c → m * up e * c ≡ a * down e → n * up d * c ≡ a * down d
    → m * up e * 2 ^ low f / down e ≡ n * up d * 2 ^ low f / down d
fraction-units f m n e d a c C p q =
    let l = 2 ^ low f in
    div_same (m * up e * l) (down e) (n * up d * l) (down d) (down_pos e) (down_pos d)
    (mul_right_comm (m * up e) l (down d)
    ∙ ap (λ (z : ℕ). z * l) (cross (m * up e) (n * up d) (down e) (down d) a c C p q)
    ∙ mul_right_comm (n * up d) (down e) l)

pub value-unique : (f : Format) (x y : Float) (s : Bool) (a c : ℕ) → 0 < c → T (fits f x) → T (fits f y) → HasValue x s a c → HasValue y s a c → x ≡ y
value-unique f nan y s a c C p q h k = absurd h
value-unique f (inf t) y s a c C p q h k = absurd h
value-unique f (fin t m e) nan s a c C p q h k = absurd k
value-unique f (fin t m e) (inf u) s a c C p q h k = absurd k
value-unique f (fin t m e) (fin u n d) s a c C p q h k =
    sym (of_bits-to_bits f (fin t m e) p)
    ∙ ap (of_bits f)
    (bits_are f t m e
    ∙ ap (λ (b : Bool). pattern-of f b (m * up e * 2 ^ low f / down e)) (h.0 ∙ sym k.0)
    ∙ ap (pattern-of f u) (fraction-units f m n e d a c C h.1 k.1)
    ∙ sym (bits_are f u n d))
    ∙ of_bits-to_bits f (fin u n d) q
