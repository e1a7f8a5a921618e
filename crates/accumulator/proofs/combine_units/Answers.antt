-- `accumulator::combine_units`: one way is of `Combining`, the other of `Units`.
use Rattle.std.proofs.Common.{sym, rules}
use Rattle.accumulator.proofs.Combining.{combined-bad}
use Rattle.accumulator.proofs.Units.{split-fits, code-split}
use Rattle.accumulator.proofs.combine_units.Goals as goal

pub returns-then-lhs-rhs : goal.returns-then-lhs-rhs
returns-then-lhs-rhs c = sym (combined-bad c.args.lhs c.args.rhs c.if-lhs-rhs.true)

pub overflow_add-raised : goal.overflow_add-raised
overflow_add-raised c =
    split-fits c.args.lhs c.args.rhs (search rules) (search rules) c.requires.2 c.requires.3 c.split_fields-p.result c.split_fields-p.ensures c.requires.0
    c.requires.1 (search rules)

pub returns : goal.returns
returns c =
    code-split c.args.lhs c.args.rhs (search rules) (search rules) c.requires.2 c.requires.3 c.split_fields-p.result c.split_fields-p.ensures c.requires.0
    c.requires.1 (search rules) c.if-lhs-rhs.false
