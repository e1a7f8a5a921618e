-- The machine's product is the standard's, for all values, at each of the kit's formats; at the widths 11 and 52 it is binary64's. Assumes nothing.
use mathlib.Core.Path.{◌≡◌, refl, ap, ◌∙◌}
use mathlib.Core.Bool.{Bool, true, false, cond}
use Prim.Native.Nat.{ℕ, zero, suc, ◌*◌}
use native.Mathlib.Nat.{mul-pos}
use lib.IntN.{pos, ◌+ℤ◌}
use lib.Dec.{eqb, eqb-suc-zero}
use lib.Ieee.{Float, nan, inf, fin, Format, prec, emax, low, unlike, up, down, round, mul, binary64, binary32}
use lib.Ieee.Fits.{down_pos}
use Rattle.floats.specs.Product.{signs, infinity_times, product, product_of}
use Rattle.floats.proofs.Powers.{product-units}
use Rattle.floats.proofs.Rounding.{round-rounded}

pub signs-is : (a b : Bool) → unlike a b ≡ signs a b
signs-is true true = refl
signs-is true false = refl
signs-is false true = refl
signs-is false false = refl

infinity-times : (a b : Bool) (n : ℕ) → cond (eqb n 0) nan (inf (unlike a b)) ≡ infinity_times (signs a b) n
infinity-times a b zero = refl
infinity-times a b (suc n) = ap (λ (t : Bool). cond t nan (inf (unlike a b))) (eqb-suc-zero n) ∙ ap inf (signs-is a b)

pub mul-product : (f : Format) (x y : Float) → mul f x y ≡ product (prec f) (emax f) x y
unfolding mul product
mul-product f nan y = refl
mul-product f (inf a) nan = refl
mul-product f (inf a) (inf b) = ap inf (signs-is a b)
mul-product f (inf a) (fin b n d) = infinity-times a b n
mul-product f (fin a m e) nan = refl
mul-product f (fin a m e) (inf b) = infinity-times a b m
mul-product f (fin a m e) (fin b n d) =
    ap (λ (s : Bool). round f s (m * up e * (n * up d)) (down e * down d)) (signs-is a b)
    ∙ round-rounded f (signs a b) (m * up e * (n * up d)) (down e * down d) (m * n) (e +ℤ d +ℤ pos (low f)) (mul-pos (down_pos e) (down_pos d))
    (product-units m n e d (low f))

-- for all values of the format, f64's `*` is the standard's product
pub mul-binary64 : (x y : Float) → mul binary64 x y ≡ product_of 11 52 x y
mul-binary64 x y = mul-product binary64 x y

pub mul-binary32 : (x y : Float) → mul binary32 x y ≡ product_of 8 23 x y
mul-binary32 x y = mul-product binary32 x y
