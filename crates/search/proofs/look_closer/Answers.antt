use Rattle.std.proofs.Common.{ℕ, ◌^◌, ◌≡◌, sym, ◌∙◌, ap, subst, ◌+◌, ◌<◌, arith, length, ℤ, pos, ◌+ℤ◌, ◌*ℤ◌, FitsSigned, to_z, of_z, w64}
use mir.Facts.{to_z-of_z}
use Rattle.integers.proofs.Places.{place-next}
use Rattle.kernels.specs.InnerStrided.{PlacesInside}
use Rattle.vectors.proofs.Vectorwise.{place-fits}
use Rattle.search.proofs.Looking.{place_bad, place_good, run-done}
use Rattle.search.proofs.look_closer.Goals as goal
use Rattle.search.proofs.look_closer.Goals.{then-i-len, else-i-len}

pub returns-then-is_bad : goal.returns-then-is_bad
returns-then-is_bad c =
    let e = place_bad c.args.values.now c.args.element (to_z w64 (of_z w64 c.args.first)) (to_z w64 (of_z w64 c.args.stride)) c.args.len c.loop-i.i
    c.loop-i-test.true (to_z w64 c.loop-i.at-bits) (c.loop-i.invariant.0 c.loop-i-test.true) c.loop-i.invariant.1 (sym c.is_bad.ensures ∙ c.if-is_bad.true) in
    simp (to_z-of_z c.ranges.first, to_z-of_z c.ranges.stride) at e

-- the place of the next value
module _ (m : ℕ) (z d : ℤ) (n : ℕ) (inside : PlacesInside m z d n) (few : m < 2 ^ 63) (i : ℕ) (at : ℤ) (here : at ≡ z +ℤ d *ℤ pos i) where
  next : at +ℤ d ≡ z +ℤ d *ℤ pos (i + 1)
  next = ap (λ (z : ℤ). z +ℤ d) here ∙ place-next z d i

  next-fits : i + 1 < n → FitsSigned w64 (at +ℤ d)
  next-fits h = subst (FitsSigned w64) (sym next) (place-fits m z d n inside (i + 1) h few)

pub overflow_add-at : goal.overflow_add-at
overflow_add-at c =
    next-fits (length c.args.values.now) (to_z w64 (of_z w64 c.args.first)) (to_z w64 (of_z w64 c.args.stride)) c.args.len
    (simp (to_z-of_z c.ranges.first, to_z-of_z c.ranges.stride) c.requires.1) (omega (arith, c.well_formed.0.1)) c.loop-i.i _
    (c.loop-i.invariant.0 c.loop-i-test.true) c.if-i-len.true

pub loop-i-preserved : goal.loop-i-preserved
loop-i-preserved c =
    let z = to_z w64 (of_z w64 c.args.first) in
    let d = to_z w64 (of_z w64 c.args.stride) in
    let inside : PlacesInside (length c.args.values.now) z d c.args.len = simp (to_z-of_z c.ranges.first, to_z-of_z c.ranges.stride) c.requires.1 in
    let few : length c.args.values.now < 2 ^ 63 = omega (arith, c.well_formed.0.1) in
    let here : to_z w64 c.loop-i.at-bits ≡ z +ℤ d *ℤ pos c.loop-i.i = c.loop-i.invariant.0 c.loop-i-test.true in (
      elim c.if-i-len.branch [
        | then-i-len w ↦ λ h. w.at-is ∙ to_z-of_z (next-fits _ z d _ inside few c.loop-i.i _ here h) ∙ next _ z d _ inside few c.loop-i.i _ here
        | else-i-len w ↦ λ h. absurd (omega (arith, w.if-i-len.false))
      ],
      place_good c.args.values.now c.args.element z d c.args.len c.loop-i.i c.loop-i-test.true _ here c.loop-i.invariant.1
          (sym c.is_bad.ensures ∙ c.if-is_bad.false),
    )

pub returns : goal.returns
returns c =
    let e = run-done c.args.values.now c.args.element (to_z w64 (of_z w64 c.args.first)) (to_z w64 (of_z w64 c.args.stride)) c.args.len c.loop-i.i
    c.loop-i-test.false c.loop-i.invariant.1 in
    simp (to_z-of_z c.ranges.first, to_z-of_z c.ranges.stride) at e
