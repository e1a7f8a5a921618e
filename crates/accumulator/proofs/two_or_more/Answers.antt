-- `accumulator::two_or_more`: each way of its test is one of `Comparing`.
use Rattle.accumulator.proofs.Comparing.{two-taken, two-left}
use Rattle.accumulator.proofs.two_or_more.Goals as goal

pub returns-then-m : goal.returns-then-m
returns-then-m c = two-taken c.args.m c.if-m.true

pub returns-else-m : goal.returns-else-m
returns-else-m c = two-left c.args.m c.if-m.false
