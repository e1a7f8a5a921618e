-- `reduction::full::reduce_full_range`: a layout without outer axes is one piece.
use Rattle.std.proofs.Common.{◌∙◌, w64, FitsSigned, rules, arith}
use mir.Facts.{to_z-of_z}
use Rattle.reduction.proofs.Lines.{line-inside, line-joined}
use Rattle.reduction.proofs.full.reduce_full_range.Goals as goal

pub reduce_line-requires : goal.reduce_line-requires
reduce_line-requires c =
    let fits : FitsSigned w64 c.args.l.run_stride = search rules in
    let inside = line-inside c.args.l c.requires.0 c.if-l-eq0.true c.args.base c.requires.1 c.args.values.now c.requires.5 c.args.end c.requires.3
    (omega (arith, c.requires.2)) in
    simp (to_z-of_z c.ranges.base, to_z-of_z fits) (c.requires.2, inside, omega (arith, c.requires.3, c.requires.4))

pub returns-then-l-eq0 : goal.returns-then-l-eq0
returns-then-l-eq0 c =
    let fits : FitsSigned w64 c.args.l.run_stride = search rules in
    simp (to_z-of_z c.ranges.base, to_z-of_z fits) at c.reduce_line.ensures
    ∙ line-joined c.args.l c.requires.0 c.if-l-eq0.true c.args.base c.requires.1 c.args.values.now c.requires.5 c.args.end c.requires.3 c.args.start
    c.requires.2
