-- Assumes nothing.
use mathlib.Core.Path.{◌∙◌}
use mathlib.Core.Bool.{Bool, true, ◌&&◌}
use lib.Ieee.{Float}
use borrow.Author.Rules.{rules}
use Rattle.std.proofs.lemmas.Iterator.{YieldsList-from_slice}
use Rattle.std.proofs.lemmas.Iterator.Consumers.{fold_from_yields_List}
use Rattle.vectors.proofs.Folds.{fold-every}
use Rattle.vectors.proofs.vector.every_lane.Goals as goal

pub returns : goal.returns
returns g c q h =
    fold_from_yields_List _ (λ (ok : Bool) (x : Float). ok && q x) true c.fold.result c.fold.ensures.ran (YieldsList-from_slice c.args.lanes.now cc)
    (λ a x b f k. search (rules, h))
    ∙ fold-every q c.args.lanes.now
