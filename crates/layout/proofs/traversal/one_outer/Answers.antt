use Rattle.std.proofs.Common.{rules, w64}
use mir.Val.{SFits}
use mir.Facts.{to_z-of_z}
use Rattle.layout.specs.Axes.{places_of}
use Rattle.layout.specs.Compile.{layout_of}
use Rattle.layout.proofs.traversal.one_outer.Goals as goal

pub returns : goal.returns
unfolding layout_of places_of
returns c =
    let f : SFits w64 c.args.run.source_step = search rules in
    rw (to_z-of_z f, c.no_axis-z.ensures)
