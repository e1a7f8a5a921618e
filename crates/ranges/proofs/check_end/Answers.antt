-- 5 before 6.
use Rattle.std.proofs.Common.{sym}
use Rattle.offsets.proofs.Ranges.{ends-5, ends-6, ends-0}
use Rattle.ranges.proofs.check_end.Goals as goal

pub returns-then-end-start : goal.returns-then-end-start
returns-then-end-start c = sym (ends-5 c.args.total c.args.start c.args.end c.if-end-start.true)

pub returns-then-total-end : goal.returns-then-total-end
returns-then-total-end c = sym (ends-6 c.args.total c.args.start c.args.end c.if-end-start.false c.if-total-end.true)

pub returns : goal.returns
returns c = sym (ends-0 c.args.total c.args.start c.args.end c.if-end-start.false c.if-total-end.false)
