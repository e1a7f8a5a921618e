-- The digits of what is left, and then those that are put, are the digits of n.
use Rattle.std.proofs.Common.{◌+◌, ◌<◌, ◌≡◌, ◌++◌, length, drop}
use Rattle.std.specs.Fmt.{decimal}
use Rattle.text.proofs.number.decimal.Given as goal

abbrev pub invariant-loop-rest : goal.invariant-loop-rest
invariant-loop-rest l = (l.at < 21) × (length l.space ≡ 21) × (decimal l.rest ++ drop (l.at + 1) l.space ≡ decimal l.n)

abbrev pub decreases-loop-rest : goal.decreases-loop-rest
decreases-loop-rest l = l.rest
