use Rattle.std.proofs.Common.{ℕ, suc, ◌≡◌, sym, ◌∙◌, ap, subst, ◌+◌, ◌*◌, ◌≤◌, ◌<◌, ◌^◌, arith, length, List, ℤ, pos, ◌+ℤ◌, ◌*ℤ◌, FitsSigned, to_z, of_z, w64}
use mir.Facts.{to_z-of_z}
use native.Mathlib.Nat.{mul-le-mul_right}
use Rattle.integers.proofs.Places.{place-first, place-next}
use Rattle.kernels.specs.InnerStrided.{PlacesInside}
use Rattle.vectors.proofs.Vectorwise.{place-fits}
use Rattle.offsets.specs.InnerLists.{runs_places}
use Rattle.search.specs.Searching.{lowest_bad}
use Rattle.search.specs.InnerLooks.{look_answer}
use Rattle.search.proofs.Looking.{steps-whole, runs-over, run_bad, run_good}
use Rattle.search.proofs.first_in_strip.Goals as goal
use Rattle.search.proofs.first_in_strip.Goals.{then-j-count, else-j-count}

-- the elements of run j have numbers that fit
ends : (from element len count j : ℕ) → from ≡ element + j * len → j < count → element + count * len < 2 ^ 64 → from + len < 2 ^ 64
ends from element len count j e l r = go (mul-le-mul_right len l)
  where
    go : suc j * len ≤ count * len → from + len < 2 ^ 64
    go h = omega (arith, e, r)

pub loop-j-init : goal.loop-j-init
loop-j-init c =
    let z = to_z w64 (of_z w64 c.args.first) in
    let d = to_z w64 (of_z w64 c.args.step) in (
      omega arith,
      λ h. place-first z d,
      ap (λ (zs : List ℤ). lowest_bad c.args.values.now c.args.element (runs_places (to_z w64 (of_z w64 c.args.stride)) c.args.len zs))
          (steps-whole z d c.args.count),
    )

pub first_in_run-requires : goal.first_in_run-requires
first_in_run-requires c =
    let s = to_z w64 (of_z w64 c.args.stride) in
    let inside : (j : ℕ) → j < c.args.count → PlacesInside (length c.args.values.now)
    (to_z w64 (of_z w64 c.args.first) +ℤ to_z w64 (of_z w64 c.args.step) *ℤ pos j) s c.args.len
    = simp (to_z-of_z c.ranges.first, to_z-of_z c.ranges.step, to_z-of_z c.ranges.stride) c.requires.3 in (
      c.requires.1,
      ends c.loop-j.from c.args.element c.args.len c.args.count c.loop-j.j c.loop-j.invariant.0 c.loop-j-test.true c.requires.2,
      subst (λ (y : ℤ). PlacesInside (length c.args.values.now) y s c.args.len) (sym (c.loop-j.invariant.1 c.loop-j-test.true))
          (inside c.loop-j.j c.loop-j-test.true),
    )

pub returns-in_err-signs : goal.returns-in_err-signs
returns-in_err-signs c =
    let b = c.in_err-signs.field-0.0 in
    let e = ap look_answer c.from_residual.ensures
    ∙ run_bad c.args.values.now c.loop-j.from (to_z w64 (of_z w64 c.args.first)) (to_z w64 (of_z w64 c.args.step)) (to_z w64 (of_z w64 c.args.stride))
    c.args.len c.args.count c.loop-j.j c.loop-j-test.true _ (c.loop-j.invariant.1 c.loop-j-test.true) _ c.loop-j.invariant.2 b.element b.offset
    c.in_err-signs.ensures in
    simp (to_z-of_z c.ranges.first, to_z-of_z c.ranges.step, to_z-of_z c.ranges.stride) at e

pub overflow_add-from : goal.overflow_add-from
overflow_add-from c =
    let e = ends c.loop-j.from c.args.element c.args.len c.args.count c.loop-j.j c.loop-j.invariant.0 c.loop-j-test.true c.requires.2 in omega arith

-- the place of a run, in i64
run-fits : (m : ℕ) (z s : ℤ) (len : ℕ) → PlacesInside m z s len → 1 ≤ len → m < 2 ^ 63 → FitsSigned w64 z
run-fits m z s len h some few = subst (FitsSigned w64) (sym (place-first z s)) (place-fits m z s len h 0 some few)

-- the place of the next run
module _ (m : ℕ) (z d s : ℤ) (len count : ℕ) (some : 1 ≤ len) (inside : (j : ℕ) → j < count → PlacesInside m (z +ℤ d *ℤ pos j) s len) (few : m < 2 ^ 63)
    (j : ℕ) (at : ℤ) (here : at ≡ z +ℤ d *ℤ pos j) where
  next : at +ℤ d ≡ z +ℤ d *ℤ pos (j + 1)
  next = ap (λ (y : ℤ). y +ℤ d) here ∙ place-next z d j

  next-fits : j + 1 < count → FitsSigned w64 (at +ℤ d)
  next-fits h = subst (FitsSigned w64) (sym next) (run-fits m _ s len (inside (j + 1) h) some few)

pub overflow_add-at : goal.overflow_add-at
overflow_add-at c =
    let z = to_z w64 (of_z w64 c.args.first) in
    let d = to_z w64 (of_z w64 c.args.step) in
    let s = to_z w64 (of_z w64 c.args.stride) in
    let inside : (j : ℕ) → j < c.args.count → PlacesInside (length c.args.values.now) (z +ℤ d *ℤ pos j) s c.args.len
    = simp (to_z-of_z c.ranges.first, to_z-of_z c.ranges.step, to_z-of_z c.ranges.stride) c.requires.3 in
    next-fits (length c.args.values.now) z d s c.args.len c.args.count c.requires.0 inside (omega (arith, c.well_formed.0.1)) c.loop-j.j _
    (c.loop-j.invariant.1 c.loop-j-test.true) c.if-j-count.true

pub loop-j-preserved : goal.loop-j-preserved
loop-j-preserved c =
    let z = to_z w64 (of_z w64 c.args.first) in
    let d = to_z w64 (of_z w64 c.args.step) in
    let s = to_z w64 (of_z w64 c.args.stride) in
    let inside : (j : ℕ) → j < c.args.count → PlacesInside (length c.args.values.now) (z +ℤ d *ℤ pos j) s c.args.len
    = simp (to_z-of_z c.ranges.first, to_z-of_z c.ranges.step, to_z-of_z c.ranges.stride) c.requires.3 in
    let few : length c.args.values.now < 2 ^ 63 = omega (arith, c.well_formed.0.1) in
    let here : to_z w64 c.loop-j.at-bits ≡ z +ℤ d *ℤ pos c.loop-j.j = c.loop-j.invariant.1 c.loop-j-test.true in (
      omega (arith, c.loop-j.invariant.0),
      elim c.if-j-count.branch [
        | then-j-count w ↦ λ h. w.at-is
            ∙ to_z-of_z (next-fits (length c.args.values.now) z d s c.args.len c.args.count c.requires.0 inside few c.loop-j.j _ here h)
            ∙ next (length c.args.values.now) z d s c.args.len c.args.count c.requires.0 inside few c.loop-j.j _ here
        | else-j-count w ↦ λ h. absurd (omega (arith, w.if-j-count.false))
      ],
      run_good c.args.values.now c.loop-j.from z d s c.args.len c.args.count c.loop-j.j c.loop-j-test.true _ here _ c.loop-j.invariant.2
          c.in_ok-signs.ensures,
    )

pub returns : goal.returns
returns c =
    let e = sym (runs-over c.args.values.now c.loop-j.from (to_z w64 (of_z w64 c.args.first) +ℤ to_z w64 (of_z w64 c.args.step) *ℤ pos c.loop-j.j)
    (to_z w64 (of_z w64 c.args.step)) (to_z w64 (of_z w64 c.args.stride)) c.args.len c.args.count c.loop-j.j c.loop-j-test.false)
    ∙ c.loop-j.invariant.2 in
    simp (to_z-of_z c.ranges.first, to_z-of_z c.ranges.step, to_z-of_z c.ranges.stride) at e
