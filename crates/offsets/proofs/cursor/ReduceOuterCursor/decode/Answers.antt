use Rattle.std.proofs.Common.{◌≡◌, ◌+◌, ◌%◌, ◌<◌, ◌^◌, pos, ◌+ℤ◌, ◌*ℤ◌, refl, arith, rules, get_or}
use Rattle.std.proofs.Math.Facts.{to_z-of_z}
use Rattle.std.proofs.Math.Nat.{mod-lt}
use Rattle.std.proofs.Math.ListN.{take, drop, length, length-take}
use Rattle.std.proofs.Math.Seq.{length-take-le}
use Rattle.layout.proofs.Tables.{take-from}
use mathlib.Core.List.{◌∷◌}
use mir.Val.{SFits}
use mir.Syntax.{w64}
use Rattle.layout.specs.Axes.{no_axis}
use Rattle.integers.proofs.Machine.{pos-fits, to_z-small}
use Rattle.offsets.specs.InnerCursors.{Axis}
use Rattle.offsets.proofs.Stepping.{Small, small-fits, share-fits, axis-small}
use Rattle.offsets.proofs.Cursors.{decode-axis, decode-here, decode-next, decoded-more, decoded-all}
use Rattle.offsets.proofs.cursor.ReduceOuterCursor.decode.Goals as goal
use Rattle.offsets.proofs.cursor.ReduceOuterCursor.decode.Goals.{In-loop-i}

here : (c : In-loop-i) → drop c.loop-i.i (take c.args.count c.args.axes)
    ≡ get_or c.args.axes c.loop-i.i no_axis ∷ drop (c.loop-i.i + 1) (take c.args.count c.args.axes)
here c = take-from c.args.axes c.args.count no_axis c.loop-i.i c.loop-i-test.true (omega (arith, c.requires.0, c.requires.1))

counted : (c : In-loop-i) → length (take c.args.count c.args.axes) ≡ c.args.count
counted c = length-take-le c.args.count c.args.axes (omega (arith, c.requires.0, c.requires.1))

-- the axis at i, its digit, and the offsets before and after it
axis : (c : In-loop-i) → Axis (get_or c.args.axes c.loop-i.i no_axis)
axis c = decode-axis _ _ _ _ _ _ c.loop-i.invariant _ (omega (arith, c.requires.1)) (here c)

small-digit : (c : In-loop-i) → c.loop-i.rest % (get_or c.args.axes c.loop-i.i no_axis).extent < 2 ^ 63
small-digit c = let w = axis c in omega (arith, mod-lt c.loop-i.rest w.1, axis-small _ w)

from-here : (c : In-loop-i) → Small c.loop-i.c.source_offset
from-here c = decode-here _ _ _ _ _ _ c.loop-i.invariant _ (omega (arith, c.requires.1)) (here c)

to-next : (c : In-loop-i) → Small (c.loop-i.c.source_offset
    +ℤ (get_or c.args.axes c.loop-i.i no_axis).source_step *ℤ pos (c.loop-i.rest % (get_or c.args.axes c.loop-i.i no_axis).extent))
to-next c = decode-next _ _ _ _ _ _ c.loop-i.invariant _ (omega (arith, c.requires.1)) (here c)

pub nonzero_rem-d : goal.nonzero_rem-d
nonzero_rem-d c = (axis (goal.at.nonzero_rem-d c).In-loop-i).1

pub nonzero_div-rest : goal.nonzero_div-rest
nonzero_div-rest c = (axis (goal.at.nonzero_div-rest c).In-loop-i).1

pub overflow_cast-c : goal.overflow_cast-c
overflow_cast-c c = pos-fits _ (small-digit (goal.at.overflow_cast-c c).In-loop-i)

pub overflow_mul-c : goal.overflow_mul-c
overflow_mul-c c =
    let f : SFits w64 (get_or c.args.axes c.loop-i.i no_axis).source_step = search rules in
    let t = (goal.at.overflow_mul-c c).In-loop-i in
    simp (to_z-of_z (f), to_z-small _ (small-digit t)) (share-fits _ _ (from-here t) (to-next t))

pub overflow_add-c : goal.overflow_add-c
overflow_add-c c =
    let f : SFits w64 (get_or c.args.axes c.loop-i.i no_axis).source_step = search rules in
    let t = (goal.at.overflow_add-c c).In-loop-i in
    simp (
      to_z-of_z (f),
      to_z-small _ (small-digit t),
      to_z-of_z (small-fits _ (from-here t)),
      to_z-of_z (share-fits _ _ (from-here t) (to-next t)),
    ) (small-fits _ (to-next t))

pub loop-i-preserved : goal.loop-i-preserved
loop-i-preserved c =
    let f : SFits w64 (get_or c.args.axes c.loop-i.i no_axis).source_step = search rules in
    let t = (goal.at.loop-i-preserved c).In-loop-i in
    simp (
      to_z-of_z (f),
      to_z-small _ (small-digit t),
      to_z-of_z (small-fits _ (from-here t)),
      to_z-of_z (share-fits _ _ (from-here t) (to-next t)),
      to_z-of_z (small-fits _ (to-next t)),
    )
    (decoded-more _ _ _ _ _ _ t.loop-i.invariant _ (omega (arith, t.requires.1)) (here t) (omega (arith, t.loop-i-test.true, counted t)) _ refl refl)

pub returns : goal.returns
returns c =
    decoded-all (take c.args.count c.args.axes) c.args.base c.args.index c.loop-i.c c.loop-i.rest c.loop-i.i
    (simp (to_z-of_z c.ranges.base) at c.loop-i.invariant) (simp length-take (omega (arith, c.loop-i-test.false)))
