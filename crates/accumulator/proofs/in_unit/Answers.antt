-- `accumulator::in_unit`: each way of its tests is one of `Comparing`.
use Rattle.accumulator.proofs.Comparing.{minus-taken, minus-left, plus-taken, plus-left}
use Rattle.accumulator.proofs.in_unit.Goals as goal

pub returns-then-m-2 : goal.returns-then-m-2
returns-then-m-2 c = minus-taken c.args.m c.if-m.true c.if-m-2.true

pub returns-else-m-2 : goal.returns-else-m-2
returns-else-m-2 c = minus-left c.args.m c.if-m.true c.if-m-2.false

pub returns-then-m-3 : goal.returns-then-m-3
returns-then-m-3 c = plus-taken c.args.m c.if-m.false c.if-m-3.true

pub returns-else-m-3 : goal.returns-else-m-3
returns-else-m-3 c = plus-left c.args.m c.if-m.false c.if-m-3.false
