-- `accumulator::stable_float_combine`: each way of its tests is one of `Combining`.
use Rattle.std.proofs.Common.{sym, ◌∙◌}
use Rattle.accumulator.proofs.Combining.{code-bad, code-two, code-less}
use Rattle.accumulator.proofs.stable_float_combine.Goals as goal

pub returns-then-lhs-rhs : goal.returns-then-lhs-rhs
returns-then-lhs-rhs c = code-bad c.args.lhs c.args.rhs c.requires.0 c.requires.1 c.if-lhs-rhs.true

pub returns-then-two_or_more : goal.returns-then-two_or_more
returns-then-two_or_more c =
    code-two c.args.lhs c.args.rhs c.requires.0 c.requires.1 c.if-lhs-rhs.false (sym c.two_or_more.ensures ∙ c.if-two_or_more.true)

pub returns-else-two_or_more : goal.returns-else-two_or_more
returns-else-two_or_more c =
    code-less c.args.lhs c.args.rhs c.requires.0 c.requires.1 c.if-lhs-rhs.false (sym c.two_or_more.ensures ∙ c.if-two_or_more.false)
