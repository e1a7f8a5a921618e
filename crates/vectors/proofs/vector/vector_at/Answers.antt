-- Assumes nothing.
use Prim.Native.Nat.{ℕ, ◌+◌}
use mathlib.Core.Path.{sym}
use borrow.Author.Rules.{rules}
use lib.ListN.{get_or}
use lib.Ieee.{nan}
use Rattle.kernels.specs.InnerLanes.{window}
use Rattle.kernels.proofs.Windows.{window-length, window-at}
use Rattle.vectors.proofs.Folds.{from_fn-list}
use Rattle.vectors.proofs.vector.vector_at.Goals as goal

pub returns : goal.returns
returns c =
    let xs = c.args.values.now in
    let at = c.args.at in
    from_fn-list _ _ (λ (k : ℕ). get_or xs (at + k) nan) (λ i y q k. search rules) nan c.from_fn.result (window xs at 8) 8 c.from_fn.ensures.items
    (window-length xs at 8 c.requires)
    (λ k l. sym (window-at xs at 8 k nan l))
