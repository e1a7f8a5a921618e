-- A try that failed leaves fewer.
use Rattle.std.proofs.Common.{ℕ, suc, ◌+◌, ◌<◌, arith}
use Rattle.vectors.specs.InnerSteps.{patience}
use Rattle.vectors.proofs.feeding.failed_pace.Goals as goal

-- the next way, or none while steps are guarded
next-less : (way : ℕ) → way < 5 → patience 0 (way + 1) < patience 0 way
unfolding patience
next-less way l = omega arith

none-less : (hold before way : ℕ) → patience (suc hold) before < patience 0 way
unfolding patience
none-less hold before way = omega arith

pub returns-then-pace : goal.returns-then-pace
returns-then-pace c = none-less 1 _ _

pub returns-then-pace-lt-LAST_WAY : goal.returns-then-pace-lt-LAST_WAY
returns-then-pace-lt-LAST_WAY c = next-less _ c.if-pace-lt-LAST_WAY.true

pub returns : goal.returns
returns c = none-less 15 _ _
