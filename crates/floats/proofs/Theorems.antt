-- The statements of specs/Theorems hold.
use Rattle.floats.specs.Theorems.{ProductLaw, WholeNumberLaw, FactorLaw, SplittingLaw}
use Rattle.floats.proofs.Product.{mul-binary64}
use Rattle.floats.proofs.Bridge.{product-times}
use Rattle.floats.proofs.PatternFactor.{factor-value}
use Rattle.floats.proofs.Splitting.{split-unit, split-factor}

pub product_law : ProductLaw
product_law = mul-binary64

pub whole-number-law : WholeNumberLaw
whole-number-law = product-times

pub factor-law : FactorLaw
factor-law = factor-value

pub splitting-law : SplittingLaw
splitting-law x = (split-unit x, split-factor x)
