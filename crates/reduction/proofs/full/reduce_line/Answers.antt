-- `reduction::full::reduce_line`: the piece from its first place on.
use Rattle.std.proofs.Common.{◌-◌, length, arith}
use mir.Facts.{to_z-of_z}
use Rattle.kernels.proofs.Striding.{inside-part}
use Rattle.reduction.proofs.Strips.{line-place, place-exact}
use Rattle.reduction.proofs.full.reduce_line.Goals as goal

pub reduce_piece-requires : goal.reduce_piece-requires
reduce_piece-requires c =
    let size = length c.args.values.now in
    let p = line-place size c.args.base c.args.stride c.args.end c.requires.1 c.requires.2 (omega (arith, c.well_formed)) c.args.start c.requires.0 in
    let n = c.args.end - c.args.start in
    let inside = inside-part size c.args.base c.args.stride c.args.end c.args.start n c.requires.1 (omega (arith, c.requires.0)) in
    rw (place-exact c.args.base c.args.stride c.args.start c.ranges.base c.ranges.stride p, to_z-of_z c.ranges.stride)
    (omega (arith, c.requires.0), inside, omega (arith, c.requires.2))

pub returns : goal.returns
returns c =
    let size = length c.args.values.now in
    let p = line-place size c.args.base c.args.stride c.args.end c.requires.1 c.requires.2 (omega (arith, c.well_formed)) c.args.start c.requires.0 in
    rw (place-exact c.args.base c.args.stride c.args.start c.ranges.base c.ranges.stride p, to_z-of_z c.ranges.stride) at c.reduce_piece.ensures
