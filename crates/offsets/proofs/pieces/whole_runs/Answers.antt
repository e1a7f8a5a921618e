use Rattle.std.proofs.Common.{◌*◌, ◌/◌, ◌≤◌, ◌<◌, ◌-◌, arith, get_or}
use Rattle.std.proofs.Math.Nat.{mod-lt, mul-le-mul_right, le_of_mul-le-mul_right, div-mul-le_self}
use Rattle.layout.specs.declared.traversal.FullTraversal.{FullTraversal}
use Rattle.offsets.specs.declared.pieces.RangeCursor.{RangeCursor}
use Rattle.offsets.specs.InnerCursors.{Traversal}
use Rattle.offsets.specs.InnerPieces.{OnRange}
use Rattle.offsets.proofs.Skipping.{first_axis, first-axis, first-digit, runs_fit}
use Rattle.offsets.proofs.Runs.{run-some, runs-ahead}
use Rattle.offsets.proofs.pieces.whole_runs.Goals as goal

within : (l : FullTraversal) (c : RangeCursor) → Traversal l → OnRange l c → 0 < l.axis_count → get_or c.runs.digits 0 0 < (first_axis l).extent
within l c t o a =
    omega (arith, first-digit l t a o.base o.bounded c o.cursor_is, mod-lt (c.at / l.run_len) (first-axis l t a).1)

pub overflow_sub-left : goal.overflow_sub-left
overflow_sub-left c =
    let some : 0 < c.args.l.axis_count = omega (arith, c.if-l-eq0.false) in
    omega (arith, within c.args.l c.args.c c.requires.0 c.requires.2 some)

pub overflow_mul-left : goal.overflow_mul-left
overflow_mul-left c =
    let some : 0 < c.args.l.axis_count = omega (arith, c.if-l-eq0.false) in
    let a = first_axis c.args.l in
    let m : (a.extent - get_or c.args.c.runs.digits 0 0) * c.args.l.run_len ≤ a.extent * c.args.l.run_len = mul-le-mul_right
    c.args.l.run_len (omega arith) in
    let fit = runs_fit c.args.l c.requires.0 some in
    omega arith

pub returns-then-left-len : goal.returns-then-left-len
returns-then-left-len c = λ _.
    let some : 0 < c.args.l.axis_count = omega (arith, c.if-l-eq0.false) in
    runs-ahead c.args.l c.requires.0 c.args.c c.requires.2 c.args.end _ c.requires.1 some c.if-c-ne0.false (omega arith) c.if-left-len.true

pub returns-else-left-len : goal.returns-else-left-len
returns-else-left-len c = λ _.
    let some : 0 < c.args.l.axis_count = omega (arith, c.if-l-eq0.false) in
    let room = c.args.end - c.args.c.at in
    let len = c.args.l.run_len in
    let d : room / len * len ≤ room = div-mul-le_self room len in
    runs-ahead c.args.l c.requires.0 c.args.c c.requires.2 c.args.end (room / len) c.requires.1 some c.if-c-ne0.false
    (le_of_mul-le-mul_right (omega (arith, d, c.if-left-len.false)) (run-some c.args.l c.requires.0)) d
