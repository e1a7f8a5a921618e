-- Assumes nothing.
use borrow.Author.Rules.{rules}
use Rattle.vectors.specs.InnerWaiting.{not_past}
use Rattle.vectors.proofs.vector.none_past.Goals as goal

pub returns : goal.returns
returns c = c.every_lane.ensures not_past (λ x b p. search rules)
