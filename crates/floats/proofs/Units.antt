-- Two f64 of size 1 to 2: their product is the float of `times` at the exponent 0 or 1, and half of the latter is the float at 0. Assumes nothing.
use mathlib.Core.Path.{◌≡◌, refl, sym, ap, ◌∙◌}
use mathlib.Core.Bool.{true, false}
use Prim.Native.Nat.{ℕ, ◌+◌, ◌*◌, ◌^◌, ◌≤◌}
use native.Mathlib.Nat.{zero-add, le_refl}
use lib.IntN.{ℤ, pos, negsuc, ◌+ℤ◌}
use lib.Dec.{T, lit<}
use lib.Ieee.{Float, fin, binary64, fits, mul}
use Rattle.floats.specs.Product.{product_of}
use Rattle.floats.specs.Factor.{Factor, Normalised, NormalExponent, carry, times, float_of}
use Rattle.floats.specs.Magnitude.{in_unit, scaled, factor_at, with_exponent}
use Rattle.floats.proofs.Product.{mul-binary64}
use Rattle.floats.proofs.Factor.{carry-le, times-exp, times-normal, times_power, factor-same}
use Rattle.floats.proofs.Bridge.{mul-times}
use Rattle.floats.proofs.Magnitude.{near-range, moved-normal, at-normal, float_at}

-- 0.5, as a factor
abbrev half-unit : Factor
half-unit = record { sign = false; sig = 2 ^ 52; exp = negsuc 0 }

half_is : fin false 1 (negsuc 0) ≡ float_of 11 52 half-unit
unfolding float_of
half_is = refl

half-normal : Normalised 52 half-unit
half-normal = record { least = le_refl (2 ^ 52); most = lit< tt }

half-range : NormalExponent 11 half-unit
half-range = record { place = 1021; above = refl; below = lit< tt }

-- half of the float of f at the exponent 1 is the float at 0
pub halved-unit : (f : Factor) → Normalised 52 f
    → product_of 11 52 (float_of 11 52 (with_exponent f (pos 1))) (fin false 1 (negsuc 0)) ≡ float_of 11 52 (with_exponent f (pos 0))
halved-unit f N =
    let g = with_exponent f (pos 1) in
    let G = moved-normal 52 f (pos 1) N in
    let p = times_power 52 g (negsuc 0) G in
    ap (product_of 11 52 (float_of 11 52 g)) half_is
    ∙ sym (mul-binary64 (float_of 11 52 g) (float_of 11 52 half-unit))
    ∙ mul-times binary64 11 52 refl refl g half-unit G half-normal (near-range binary64 11 52 refl refl (lit< tt) f 1 (le_refl 1)) half-range 1022
    (ap (λ (h : Factor). h.exp +ℤ pos 1022) p)
    ∙ ap (float_of 11 52) p

module _ (x y : Float) (fx : T (fits binary64 x)) (fy : T (fits binary64 y)) (ux : in_unit x ≡ true) (uy : in_unit y ≡ true) where
  abbrev f : Factor
  f = factor_at 52 x (pos 0)

  abbrev g : Factor
  g = factor_at 52 y (pos 0)

  -- the product of the two, at the exponent 0 or 1
  abbrev pub both : Factor
  both = times 52 f g

  unfoldable pub up : ℕ
  up = carry 52 (scaled 52 x * scaled 52 y)

  F : Normalised 52 f
  F = at-normal binary64 11 52 refl refl (lit< tt) x fx ux (pos 0)

  G : Normalised 52 g
  G = at-normal binary64 11 52 refl refl (lit< tt) y fy uy (pos 0)

  pub both-normal : Normalised 52 both
  both-normal = times-normal 52 f g F G

  pub up_le : up ≤ 1
  unfolding up factor_at
  up_le = carry-le 52 f g F G

  both-exp : both.exp ≡ pos up
  unfolding up factor_at
  both-exp = times-exp 52 f g ∙ ap pos (zero-add (carry 52 (scaled 52 x * scaled 52 y)))

  both-moved : both ≡ with_exponent both (pos up)
  both-moved = factor-same both.sign both.sign both.sig both.sig both.exp (pos up) refl refl both-exp

  range : (z : Float) → NormalExponent 11 (factor_at 52 z (pos 0))
  unfolding factor_at
  range z = record { place = 1022; above = refl; below = lit< tt }

  pub unit-product : product_of 11 52 x y ≡ float_of 11 52 (with_exponent both (pos up))
  unit-product =
      sym (mul-binary64 x y)
      ∙ ap (λ (u : Float). mul binary64 u y) (sym (float_at binary64 11 52 refl refl (lit< tt) x fx ux))
      ∙ ap (mul binary64 (float_of 11 52 f)) (sym (float_at binary64 11 52 refl refl (lit< tt) y fy uy))
      ∙ mul-times binary64 11 52 refl refl f g F G (range x) (range y) (up + 1022) (ap (λ (e : ℤ). e +ℤ pos 1022) both-exp)
      ∙ ap (float_of 11 52) both-moved
