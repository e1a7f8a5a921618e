-- Assumes nothing.
use Prim.Native.Nat.{ℕ}
use mathlib.Core.Path.{◌≡◌, ap, ◌∙◌}
use borrow.Author.Rules.{rules}
use lib.ListN.{length}
use lib.Ieee.{nan}
use Rattle.floats.specs.Product.{product_of}
use Rattle.kernels.specs.Lanes.{in_order}
use Rattle.vectors.specs.InnerWaiting.{one, chained}
use Rattle.vectors.proofs.Chaining.{product-in}
use Rattle.vectors.proofs.Folds.{fold-order}
use Rattle.vectors.proofs.vector.chain.Goals as goal

pub returns : goal.returns
unfolding chained
returns c =
    c.product.ensures
    ∙ fold-order (product_of 11 52) nan one c.args.vector.v
    ∙ ap (λ (n : ℕ). in_order (product-in c.args.vector.v) n one) (let e : length c.args.vector.v ≡ 8 = search rules in e)
