-- `bookmarks::portion_from` meets its contract. Assumes nothing.
use Prim.Native.Nat.{◌-◌}
use mathlib.Core.Path.{sym}
use native.Mathlib.Nat.{div-le_self}
use native.Mathlib.Omega.{arith}
use borrow.Author.Rules.{rules}
use Rattle.bookmarks.proofs.Portions.{run-upto, left-few, stop-small, stop-all, stop-part}
use Rattle.bookmarks.proofs.portion_from.Statement.{statement}
use Rattle.bookmarks.proofs.portion_from.Tie as tie

nonzero_div-run : tie.Need-nonzero_div-run
nonzero_div-run c = search rules

overflow_sub-left : tie.Need-overflow_sub-left
overflow_sub-left c = search rules

nonzero_div-left : tie.Need-nonzero_div-left
nonzero_div-left c = search rules

overflow_sub-left-2 : tie.Need-overflow_sub-left-2
overflow_sub-left-2 c = run-upto c.args.len c.args.end c.args.k c.requires.0 c.requires.1

overflow_add-left : tie.Need-overflow_add-left
overflow_add-left c = record { fits = omega (arith, left-few c.args.len c.args.end c.args.k c.requires.0 c.requires.1, c.requires.2) }

returns-then-left-n : tie.Need-returns-then-left-n
returns-then-left-n c =
    (sym (stop-all c.args.len c.args.end c.args.n c.args.k c.if-left-n.true), omega (arith, c.if-left-n.true))

overflow_add-result : tie.Need-overflow_add-result
overflow_add-result c =
    let u = run-upto c.args.len c.args.end c.args.k c.requires.0 c.requires.1 in
    record { fits = omega (arith, u, left-few c.args.len c.args.end c.args.k c.requires.0 c.requires.1, div-le_self (c.args.end - 1) c.args.len, c.requires.2, c.if-left-n.false) }

overflow_mul-result : tie.Need-overflow_mul-result
overflow_mul-result c =
    let small = stop-small c.args.len c.args.end c.args.k c.requires.0 c.requires.1 c.args.n (omega (arith, c.if-left-n.false)) in
    record { fits = omega (arith, small, c.requires.1, c.requires.2) }

returns : tie.Need-returns
returns c =
    (sym (stop-part c.args.len c.args.end c.args.n c.args.k (omega (arith, c.if-left-n.false))), omega (arith, c.if-left-n.false))

pub portion_from_spec : {M : Type 1} → statement M
portion_from_spec = tie.close (tie.spec nonzero_div-run overflow_sub-left nonzero_div-left overflow_sub-left-2 overflow_add-left returns-then-left-n overflow_add-result overflow_mul-result returns)
