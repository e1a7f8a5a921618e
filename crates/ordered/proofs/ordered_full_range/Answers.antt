use Rattle.std.proofs.Common.{◌∙◌, false, arith, rules, pos, length}
use Rattle.std.proofs.Math.Facts.{to_z-of_z}
use Rattle.std.specs.Float.{fin}
use Rattle.std.specs.Float.Ieee.{of_bits}
use mir.Val.{SFits}
use mir.Syntax.{w64}
use Rattle.offsets.specs.InnerPieces.{StripHere}
use Rattle.offsets.proofs.Runs.{strip-places-inside}
use Rattle.ordered.proofs.Folding.{folding-none, folding-more, folding-all}
use Rattle.ordered.proofs.ordered_full_range.Goals as goal
use Rattle.ordered.proofs.ordered_full_range.Goals.{After-next_strip-s}

-- the strip at the cursor
here : (c : After-next_strip-s) → StripHere c.args.l c.args.base c.args.end c.loop-c.c c.next_strip-s.result
here c =
    let f = simp (to_z-of_z c.ranges.base) at c.loop-c.invariant in
    c.next_strip-s.ensures c.args.base c.requires.1 (f.cursor_is c.loop-c-test.true)

pub loop-c-init : goal.loop-c-init
unfolding of_bits
loop-c-init c = folding-none c.args.l _ c.args.values.now c.args.start c.args.end (fin false 1 (pos 0)) c.begin-c.result c.requires.2 c.begin-c.ensures

pub fold_strip_ordered-product-requires : goal.fold_strip_ordered-product-requires
fold_strip_ordered-product-requires c =
    let p = here (goal.at.fold_strip_ordered-product-requires c).After-next_strip-s in
    let f : SFits w64 c.next_strip-s.result.first = search rules in
    let g : SFits w64 c.next_strip-s.result.step = search rules in
    let h : SFits w64 c.args.l.run_stride = search rules in
    simp (to_z-of_z f, to_z-of_z g, to_z-of_z h) (
      p.some_len,
      strip-places-inside c.args.l c.args.base c.args.end c.loop-c.c c.next_strip-s.result p (length c.args.values.now) c.requires.0
          c.requires.5 c.requires.3,
    )

pub loop-c-preserved : goal.loop-c-preserved
loop-c-preserved c =
    let p = here (goal.at.loop-c-preserved c).After-next_strip-s in
    let f : SFits w64 c.next_strip-s.result.first = search rules in
    let g : SFits w64 c.next_strip-s.result.step = search rules in
    let h : SFits w64 c.args.l.run_stride = search rules in
    let made = simp (to_z-of_z f, to_z-of_z g, to_z-of_z h) at c.fold_strip_ordered-product.ensures in
    let so_far = simp (to_z-of_z c.ranges.base) at c.loop-c.invariant in
    simp (to_z-of_z c.ranges.base)
    (folding-more c.args.l c.args.base c.args.values.now c.args.start c.args.end (fin false 1 (pos 0))
    c.loop-c.product c.loop-c.c so_far c.next_strip-s.result p c.fold_strip_ordered-product.result made)

pub returns : goal.returns
returns c =
    let so_far = simp (to_z-of_z c.ranges.base) at c.loop-c.invariant in
    c.one_nan.ensures
    ∙ folding-all c.args.l c.args.base c.args.values.now c.args.start c.args.end (fin false 1 (pos 0)) c.loop-c.product c.loop-c.c
    so_far (omega (arith, c.loop-c-test.false))
