-- Assumes nothing.
use borrow.Author.Rules.{rules}
use Rattle.vectors.specs.InnerWaiting.{below_normal}
use Rattle.vectors.proofs.vector.none_normal.Goals as goal

pub returns : goal.returns
returns c = c.every_lane.ensures below_normal (λ x b p. search rules)
