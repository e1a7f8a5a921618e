-- What is held lies within the space.
use Rattle.std.proofs.Common.{◌≤◌, length, IfSome}
use Rattle.replay.proofs.input.answer_input.Given as goal

abbrev pub invariant-loop : goal.invariant-loop
invariant-loop g l = IfSome l.held (λ n. n ≤ length l.space)
