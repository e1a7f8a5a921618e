-- Values that pass hold no bad one, and others are looked at.
use Rattle.std.proofs.Common.{sym, ap, ◌∙◌, ◌*◌}
use mir.Facts.{to_z-of_z}
use Rattle.floats.specs.Splitting.{is_bad}
use Rattle.kernels.specs.Lanes.{some}
use Rattle.offsets.specs.InnerLists.{steps}
use Rattle.reduction.proofs.Pieces.{strided-steps}
use Rattle.search.proofs.Looking.{all-good}
use Rattle.search.proofs.first_in_chunk.Goals as goal

pub returns-then-passes : goal.returns-then-passes
returns-then-passes c =
    let good = simp (to_z-of_z c.ranges.first, to_z-of_z c.ranges.stride) at (c.passes.ensures c.if-passes.true) in
    sym (all-good c.args.values.now c.args.element (steps c.args.first c.args.stride (8 * c.args.vectors))
    (ap (some is_bad) (sym (strided-steps c.args.values.now c.args.first c.args.stride (8 * c.args.vectors))) ∙ good))
