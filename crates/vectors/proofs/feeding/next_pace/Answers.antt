-- Patience is 6 at most.
use Rattle.std.proofs.Common.{ℕ, zero, suc, ◌≤◌, arith}
use Rattle.vectors.specs.InnerSteps.{patience}
use Rattle.vectors.proofs.feeding.next_pace.Goals as goal

at_most : (hold way : ℕ) → patience hold way ≤ 6
unfolding patience
at_most zero way = omega arith
at_most (suc hold) way = omega arith

pub returns-then-pace-ne0 : goal.returns-then-pace-ne0
returns-then-pace-ne0 c = at_most _ _

pub returns-then-pace : goal.returns-then-pace
returns-then-pace c = at_most _ _

pub returns-else-pace : goal.returns-else-pace
returns-else-pace c = at_most _ _
