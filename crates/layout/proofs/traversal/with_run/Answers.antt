use Rattle.std.proofs.Common.{◌∙◌, ap, List, ◌++◌, ◌-◌, take, drop, get_or, replicate, arith, rules, w64}
use mir.Val.{SFits}
use mir.Facts.{to_z-of_z}
use Rattle.layout.specs.declared.axis.ReduceOuterAxis.{ReduceOuterAxis}
use Rattle.layout.specs.Axes.{PLACES, no_axis, places_of}
use Rattle.layout.specs.Compile.{layout_of}
use Rattle.layout.proofs.Outer.{others, run-first}
use Rattle.layout.proofs.traversal.with_run.Goals as goal

pub returns-then-count-eq0 : goal.returns-then-count-eq0
unfolding layout_of places_of
returns-then-count-eq0 c = rw (c.if-count-eq0.true, c.no_axis-z.ensures)

pub returns : goal.returns
returns c =
    let f : SFits w64 (get_or c.args.axes.now 0 no_axis).source_step = search rules in
    simp (to_z-of_z f)
    (run-first c.args.axes.now c.args.count (omega arith) (omega arith) c.args.total _
    (ap (λ (l : List ReduceOuterAxis). l ++ drop (c.args.count - 1) (replicate PLACES c.no_axis-z.result)) c.copy_from_slice.ensures.after
    ∙ ap (λ (a : ReduceOuterAxis). take (c.args.count - 1) (drop 1 c.args.axes.now) ++ drop (c.args.count - 1) (replicate PLACES a)) c.no_axis-z.ensures
    ∙ others c.args.axes.now c.args.count (omega arith) (omega arith) (omega arith)))
