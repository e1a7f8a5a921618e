use Rattle.std.proofs.Common.{rules, arith, refl, sym, ◌∙◌, ap, length, w64}
use Rattle.std.proofs.Math.Facts.{to_z-of_z}
use mir.Val.{SFits}
use Rattle.std.proofs.lemmas.Slice.Zip.{Zip-more}
use Rattle.std.proofs.lemmas.Iterator.{empty_from_Zip}
use Rattle.layout.specs.Axes.{axis_of, axes_in}
use Rattle.offsets.proofs.Inside.{left-axis, left-axes, spanning-more, spanning-out, spanning-all}
use Rattle.offsets.proofs.bounds.inside_from.Goals as goal

pub with_reset-axis-requires : goal.with_reset-axis-requires
unfolding axis_of
with_reset-axis-requires c =
    let f : SFits w64 c.in-Some.stride.now = search rules in
    let m = Zip-more c.loop-size.size-iterator c.next.new.self _ (c.in-Some.size, c.in-Some.stride) c.in-Some.is c.next.ensures.steps in
    simp (to_z-of_z f) (left-axis _ _ _ _ _ _ m.0 m.1 c.loop-size.invariant.1).2

pub returns-in_default : goal.returns-in_default
returns-in_default c =
    let f : SFits w64 c.in-Some.stride.now = search rules in
    let g : SFits w64 c.with_reset-axis.result.source_reset = search rules in
    let m = Zip-more c.loop-size.size-iterator c.next.new.self _ (c.in-Some.size, c.in-Some.stride) c.in-Some.is c.next.ensures.steps in
    spanning-out _ _ _ _ _ _ m.0 m.1 c.loop-size.invariant.1 _ c.args.base c.args.last c.loop-size.span _ (simp (to_z-of_z f) at c.with_reset-axis.ensures)
    c.loop-size.invariant.2 (sym (simp (to_z-of_z g) at c.widen.ensures) ∙ c.in_default.is)

pub loop-size-preserved : goal.loop-size-preserved
loop-size-preserved c =
    let f : SFits w64 c.in-Some.stride.now = search rules in
    let g : SFits w64 c.with_reset-axis.result.source_reset = search rules in
    let m = Zip-more c.loop-size.size-iterator c.next.new.self _ (c.in-Some.size, c.in-Some.stride) c.in-Some.is c.next.ensures.steps in (
      omega (arith, ap length m.0, ap length m.1, c.loop-size.invariant.0),
      left-axes _ _ _ _ _ _ m.0 m.1 c.loop-size.invariant.1,
      spanning-more _ _ _ _ _ _ m.0 m.1 c.loop-size.invariant.1 _ c.args.base c.args.last c.loop-size.span _ (simp (to_z-of_z f) at c.with_reset-axis.ensures)
          c.loop-size.invariant.2 _ (sym (simp (to_z-of_z g) at c.widen.ensures) ∙ c.in-Some-widen.is),
    )

pub returns : goal.returns
unfolding axes_in
returns c =
    let e = empty_from_Zip _ c.next.new.self _ c.in-None.is c.next.ensures.steps c.loop-size.invariant.0 in
    spanning-all _ _ c.args.base c.args.last c.loop-size.span (rw e.0 refl) c.loop-size.invariant.2
