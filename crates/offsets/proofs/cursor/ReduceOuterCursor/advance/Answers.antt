use Rattle.std.proofs.Common.{◌≡◌, ◌+◌, ◌%◌, ◌<◌, ◌≤◌, ℕ, refl, ap, arith, rules, get_or}
use Rattle.std.proofs.Math.ListN.{set}
use Rattle.std.proofs.Math.Facts.{to_z-of_z}
use Rattle.std.proofs.Math.Nat.{mod-lt}
use Rattle.std.proofs.Math.ListN.{take, drop, length, length-take}
use Rattle.std.proofs.Math.Seq.{length-take-le}
use Rattle.layout.proofs.Tables.{take-from}
use mathlib.Core.List.{◌∷◌}
use mir.Val.{SFits}
use mir.Syntax.{w64}
use Rattle.layout.specs.Axes.{no_axis}
use Rattle.offsets.specs.InnerCursors.{Axis}
use Rattle.offsets.proofs.Stepping.{Small, small-fits, axis-small}
use Rattle.offsets.proofs.Cursors.{advancing-none, advance-axis, advance-digit, advance-here, step-in-bounds, advanced-step, reset-in-bounds}
use Rattle.offsets.proofs.Cursors.{advancing-more, advanced-all}
use Rattle.offsets.proofs.cursor.ReduceOuterCursor.advance.Goals as goal
use Rattle.offsets.proofs.cursor.ReduceOuterCursor.advance.Goals.{In-loop-i}

here : (c : In-loop-i) → drop c.loop-i.i (take c.args.count c.args.axes)
    ≡ get_or c.args.axes c.loop-i.i no_axis ∷ drop (c.loop-i.i + 1) (take c.args.count c.args.axes)
here c = take-from c.args.axes c.args.count no_axis c.loop-i.i c.loop-i-test.true (omega (arith, c.requires.0, c.requires.1))

counted : (c : In-loop-i) → length (take c.args.count c.args.axes) ≡ c.args.count
counted c = length-take-le c.args.count c.args.axes (omega (arith, c.requires.0, c.requires.1))

-- the axis at i, its digit, and the offset so far
axis : (c : In-loop-i) → Axis (get_or c.args.axes c.loop-i.i no_axis)
axis c = advance-axis _ _ _ _ c.loop-i.invariant _ (here c)

digit : (c : In-loop-i) → get_or c.loop-i.c.digits c.loop-i.i 0 ≡ c.loop-i.invariant.index % (get_or c.args.axes c.loop-i.i no_axis).extent
digit c = advance-digit _ _ _ _ c.loop-i.invariant _ (here c)

from-here : (c : In-loop-i) → Small c.loop-i.c.source_offset
from-here c = advance-here _ _ _ _ c.loop-i.invariant _ (here c)

pub loop-i-init : goal.loop-i-init
loop-i-init c = advancing-none _ _ c.requires.2

pub overflow_add-d : goal.overflow_add-d
overflow_add-d c =
    let t = (goal.at.overflow_add-d c).In-loop-i in
    omega (arith, digit t, mod-lt t.loop-i.invariant.index (axis t).1, axis-small _ (axis t))

pub overflow_add-c : goal.overflow_add-c
overflow_add-c c =
    let t = (goal.at.overflow_add-c c).In-loop-i in
    let f : SFits w64 (get_or c.args.axes c.loop-i.i no_axis).source_step = search rules in
    simp (to_z-of_z f, to_z-of_z (small-fits _ (from-here t)))
    (small-fits _ (step-in-bounds _ _ _ _ t.loop-i.invariant _ (here t) (omega (arith, digit t, c.if-d-a.true))))

pub returns-then-d-a : goal.returns-then-d-a
returns-then-d-a c =
    let t = (goal.at.returns-then-d-a c).In-loop-i in
    let f : SFits w64 (get_or c.args.axes c.loop-i.i no_axis).source_step = search rules in
    let room : c.loop-i.invariant.index % (get_or c.args.axes c.loop-i.i no_axis).extent + 1 < (get_or c.args.axes c.loop-i.i no_axis).extent
    = omega (arith, digit t, c.if-d-a.true) in
    let l = here t in
    simp (to_z-of_z f, to_z-of_z (small-fits _ (from-here t)), to_z-of_z (small-fits _ (step-in-bounds _ _ _ _ t.loop-i.invariant _ l room)))
    (advanced-step _ _ _ _ t.loop-i.invariant _ l room _ refl (ap (λ (n : ℕ). set t.loop-i.c.digits t.loop-i.i (n + 1)) (digit t)))

pub overflow_add-c-in-loop-i : goal.overflow_add-c-in-loop-i
overflow_add-c-in-loop-i c =
    let t = (goal.at.overflow_add-c-in-loop-i c).In-loop-i in
    let f : SFits w64 (get_or c.args.axes c.loop-i.i no_axis).source_reset = search rules in
    simp (to_z-of_z f, to_z-of_z (small-fits _ (from-here t)))
    (small-fits _ (reset-in-bounds _ _ _ _ t.loop-i.invariant _ (here t) (omega (arith, digit t, c.if-d-a.false))))

pub loop-i-preserved : goal.loop-i-preserved
loop-i-preserved c =
    let t = (goal.at.loop-i-preserved c).In-loop-i in
    let f : SFits w64 (get_or c.args.axes c.loop-i.i no_axis).source_reset = search rules in
    let full : (get_or c.args.axes c.loop-i.i no_axis).extent ≤ c.loop-i.invariant.index % (get_or c.args.axes c.loop-i.i no_axis).extent + 1
    = omega (arith, digit t, c.if-d-a.false) in
    let l = here t in
    simp (to_z-of_z f, to_z-of_z (small-fits _ (from-here t)), to_z-of_z (small-fits _ (reset-in-bounds _ _ _ _ t.loop-i.invariant _ l full)))
    (advancing-more _ _ _ _ t.loop-i.invariant _ l full (omega (arith, t.loop-i-test.true, counted t)) _ refl refl)

pub returns : goal.returns
returns c = advanced-all (take c.args.count c.args.axes) _ _ c.loop-i.i c.loop-i.invariant (simp length-take (omega (arith, c.loop-i-test.false)))
