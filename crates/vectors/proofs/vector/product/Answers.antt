-- Assumes nothing.
use borrow.Author.Rules.{rules}
use mathlib.Core.Path.{◌∙◌}
use lib.Ieee.{mul, binary64, of_bits}
use Rattle.floats.specs.Product.{product_of}
use Rattle.floats.proofs.Product.{mul-binary64}
use Rattle.std.proofs.lemmas.Iterator.{YieldsList-from_slice}
use Rattle.std.proofs.lemmas.Iterator.Consumers.{fold_from_yields_List}
use Rattle.vectors.specs.InnerWaiting.{one}
use Rattle.vectors.proofs.Folds.{fold-same}
use Rattle.vectors.proofs.vector.product.Goals as goal

pub returns : goal.returns
unfolding of_bits
returns c =
    fold_from_yields_List _ (mul binary64) one c.fold.result c.fold.ensures.ran (YieldsList-from_slice c.args.lanes.now cc) (λ a x b f k. search rules)
    ∙ fold-same (mul binary64) (product_of 11 52) mul-binary64 one c.args.lanes.now
