use Rattle.std.proofs.Common.{◌≡◌, ◌+◌, ◌-◌, ℕ, ℤ, refl, sym, ◌∙◌, ap, subst, arith, pos, ◌+ℤ◌, ◌*ℤ◌, to_z, of_z}
use Rattle.std.proofs.Math.Facts.{to_z-of_z}
use Rattle.std.specs.Float.Ieee.{Float}
use mir.Val.{SFits}
use mir.Syntax.{w64}
use Rattle.integers.proofs.Places.{place-first}
use Rattle.offsets.specs.InnerLists.{steps}
use Rattle.offsets.proofs.Writing.{place-on, place-kept}
use Rattle.offsets.proofs.Visiting.{inside-index}
use Rattle.ordered.specs.InnerFolds.{fold_places}
use Rattle.ordered.proofs.Folding.{fold_more}
use Rattle.ordered.proofs.fold_strip_ordered.Goals as goal
use Rattle.ordered.proofs.fold_strip_ordered.Goals.{In-loop-j, Joined-j-gt0, then-j-gt0, else-j-gt0}

-- the place of run j, in i64
run_fits : (c : In-loop-j) → SFits w64 (c.args.first +ℤ c.args.step *ℤ pos c.loop-j.j)
run_fits c =
    subst (SFits w64) (sym (place-first (c.args.first +ℤ c.args.step *ℤ pos c.loop-j.j) c.args.stride))
    (inside-index _ _ (c.requires.1 c.loop-j.j c.loop-j-test.true 0 c.requires.0)).in_i64

here : (c : Joined-j-gt0) → SFits w64 (c.args.first +ℤ c.args.step *ℤ pos c.loop-j.j) → to_z w64 c.if-j-gt0.at-bits ≡ c.args.first +ℤ c.args.step *ℤ pos c.loop-j.j
here c f =
    let z = c.args.first in
    let s = c.args.step in
    let last = simp (to_z-of_z c.ranges.first, to_z-of_z c.ranges.step) at c.loop-j.invariant.0 in
    elim c.if-j-gt0.branch [
      | then-j-gt0 w ↦ let e = place-on z s _ c.loop-j.j last w.if-j-gt0.true in w.at-is ∙ simp (to_z-of_z c.ranges.step) (rw e (to_z-of_z f))
      | else-j-gt0 w ↦ w.at-is ∙ place-kept z s _ c.loop-j.j last w.if-j-gt0.false
    ]

pub loop-j-init : goal.loop-j-init
unfolding steps
loop-j-init c = (place-first _ (to_z w64 (of_z w64 c.args.step)), refl)

pub overflow_add-at : goal.overflow_add-at
overflow_add-at c =
    let last = simp (to_z-of_z c.ranges.first, to_z-of_z c.ranges.step) at c.loop-j.invariant.0 in
    let e = place-on c.args.first c.args.step _ c.loop-j.j last c.if-j-gt0.true in
    simp (to_z-of_z c.ranges.step) (rw e (run_fits (goal.at.overflow_add-at c).In-loop-j))

pub fold_run_ordered-product-requires : goal.fold_run_ordered-product-requires
fold_run_ordered-product-requires c =
    let at = here (goal.at.fold_run_ordered-product-requires c).Joined-j-gt0 (run_fits (goal.at.fold_run_ordered-product-requires c).In-loop-j) in
    simp (to_z-of_z c.ranges.stride) (rw at (c.requires.1 c.loop-j.j c.loop-j-test.true))

pub loop-j-preserved : goal.loop-j-preserved
loop-j-preserved c =
    let z = c.args.first in
    let s = c.args.step in
    let j = c.loop-j.j in
    let at = here (goal.at.loop-j-preserved c).Joined-j-gt0 (run_fits (goal.at.loop-j-preserved c).In-loop-j) in
    let made = simp (to_z-of_z c.ranges.first, to_z-of_z c.ranges.step, to_z-of_z c.ranges.stride) at c.loop-j.invariant.1 in
    let run = simp (to_z-of_z c.ranges.stride, at, made) at c.fold_run_ordered-product.ensures in
    let back : j + 1 - 1 ≡ j = omega arith in
    simp (to_z-of_z c.ranges.first, to_z-of_z c.ranges.step, to_z-of_z c.ranges.stride) (
      at ∙ ap (λ (m : ℕ). z +ℤ s *ℤ pos m) (sym back),
      run ∙ fold_more (λ (x : Float) (y : ℤ). fold_places c.args.values.now x (steps y c.args.stride c.args.len)) c.args.acc z s j,
    )
