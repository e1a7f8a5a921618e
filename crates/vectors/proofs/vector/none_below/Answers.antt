-- Assumes nothing.
use borrow.Author.Rules.{rules}
use Rattle.vectors.specs.InnerWaiting.{not_below}
use Rattle.vectors.proofs.vector.none_below.Goals as goal

pub returns : goal.returns
returns c = c.every_lane.ensures (not_below c.args.least) (λ x b p. search rules)
