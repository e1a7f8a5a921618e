-- What is proved about the numbers, each statement as a type that a proof inhabits (proofs/Theorems).
use Rattle.std.specs.Prelude.{◌≡◌, ℕ, ◌<◌, true, false, Float}
use Rattle.std.specs.Float.{binary64}
use Rattle.std.specs.Float.Ieee.{mul}
use Rattle.floats.specs.Product.{product_of}
use Rattle.floats.specs.Factor.{Factor, Normalised, NormalExponent, times, float_of}
use Rattle.floats.specs.Fields.{value_of, bad_bits, factor_of}
use Rattle.floats.specs.Magnitude.{in_unit, factor_at}
use Rattle.floats.specs.Splitting.{rate_factor, split}

-- Rule D2, the product law: for all values the language's f64 product (`mul`) is the product of IEEE 754-2019.
abbrev pub ProductLaw : Type 0
ProductLaw = (x y : Float) → mul binary64 x y ≡ product_of 11 52 x y

-- Rule W1: while exponents are those of normal numbers, that product is the whole-number rule's.
abbrev pub WholeNumberLaw : Type 0
WholeNumberLaw =
    (f g : Factor) → Normalised 52 f → Normalised 52 g → NormalExponent 11 f → NormalExponent 11 g → NormalExponent 11 (times 52 f g)
    → product_of 11 52 (float_of 11 52 f) (float_of 11 52 g) ≡ float_of 11 52 (times 52 f g)

-- Rules W1 and A2: the factor of a pattern that is not bad, subnormals too, has the value that IEEE 754-2019, 3.4, gives the pattern.
abbrev pub FactorLaw : Type 0
FactorLaw = (w t b : ℕ) → 1 < w → bad_bits w t b ≡ false → float_of w t (factor_of w t b) ≡ value_of w t b

-- Rule A2: split, every rate has 1 <= |m| < 2, and m and e are its factor.
abbrev pub SplittingLaw : Type 0
SplittingLaw = (x : Float) → (in_unit (split x).m ≡ true) × (factor_at 52 (split x).m (split x).e ≡ rate_factor x)
