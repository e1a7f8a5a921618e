use Rattle.bookmarks.proofs.Telling.{more-told, done-told}
use Rattle.bookmarks.proofs.tell.Goals as goal

pub returns-then-next-end : goal.returns-then-next-end
returns-then-next-end c = more-told c.args.end c.args.p.stop c.args.p.pieces c.args.acc c.if-next-end.true

pub returns-else-next-end : goal.returns-else-next-end
returns-else-next-end c = done-told c.args.end c.args.p.stop c.args.p.pieces c.args.acc c.if-next-end.false
