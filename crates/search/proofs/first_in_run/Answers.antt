-- Whole vectors, and fewer values than make one.
use Rattle.std.proofs.Common.{ℕ, ◌≡◌, refl, sym, ◌∙◌, ap, subst, ◌+◌, ◌*◌, ◌/◌, ◌%◌, ◌<◌, ◌^◌, arith, length, List, ◌++◌, ℤ, pos, ◌+ℤ◌, ◌*ℤ◌, FitsSigned, to_z, of_z, w64}
use mir.Facts.{to_z-of_z}
use Rattle.kernels.specs.InnerStrided.{PlacesInside}
use Rattle.kernels.proofs.Striding.{inside-less, inside-part}
use Rattle.vectors.proofs.Vectorwise.{place-fits, step_fits}
use Rattle.offsets.specs.InnerLists.{steps}
use Rattle.offsets.proofs.Writing.{steps-append, length-steps}
use lib.Ieee.{Float}
use Rattle.search.specs.Searching.{none_bad, lowest_bad}
use Rattle.search.specs.InnerLooks.{look_answer}
use Rattle.search.proofs.Looking.{met, passed}
use Rattle.search.proofs.first_in_run.Goals as goal

pub far_stride-eight-requires : goal.far_stride-eight-requires
far_stride-eight-requires c =
    let inside : PlacesInside (length c.args.values.now) (to_z w64 (of_z w64 c.args.first)) (to_z w64 (of_z w64 c.args.stride)) c.args.len
    = simp (to_z-of_z c.ranges.first, to_z-of_z c.ranges.stride) c.requires.2 in
    (omega arith, λ l. step_fits (length c.args.values.now) _ _ c.args.len inside 8 l (omega (arith, c.well_formed.0.1)))

pub first_in_vectors-requires : goal.first_in_vectors-requires
first_in_vectors-requires c =
    let inside : PlacesInside (length c.args.values.now) (to_z w64 (of_z w64 c.args.first)) (to_z w64 (of_z w64 c.args.stride)) c.args.len
    = simp (to_z-of_z c.ranges.first, to_z-of_z c.ranges.stride) c.requires.2 in (
      omega (arith, c.requires.0),
      omega (arith, c.requires.1),
      λ l. to_z-of_z {w = w64} (record { sfits = c.far_stride-eight.type_inv }) ∙ c.far_stride-eight.ensures (omega arith),
      inside-less (length c.args.values.now) _ _ c.args.len (8 * (c.args.len / 8)) inside (omega arith),
    )

-- the places: those of whole vectors, and the others
cut : (z d : ℤ) (n : ℕ) → steps z d n ≡ steps z d (8 * (n / 8)) ++ steps (z +ℤ d *ℤ pos (8 * (n / 8))) d (n % 8)
cut z d n =
    ap (steps z d) (let e : n ≡ 8 * (n / 8) + n % 8 = omega arith in e) ∙ steps-append z d (8 * (n / 8)) (n % 8)

pub returns-in_err-signs : goal.returns-in_err-signs
returns-in_err-signs c =
    let b = c.in_err-signs.field-0.0 in
    let e = ap look_answer c.from_residual.ensures
    ∙ met c.args.values.now c.args.element _ _ _ (cut (to_z w64 (of_z w64 c.args.first)) (to_z w64 (of_z w64 c.args.stride)) c.args.len) _ refl
    b.element b.offset c.in_err-signs.ensures in
    simp (to_z-of_z c.ranges.first, to_z-of_z c.ranges.stride) at e

pub far_stride-requires : goal.far_stride-requires
far_stride-requires c =
    let inside : PlacesInside (length c.args.values.now) (to_z w64 (of_z w64 c.args.first)) (to_z w64 (of_z w64 c.args.stride)) c.args.len
    = simp (to_z-of_z c.ranges.first, to_z-of_z c.ranges.stride) c.requires.2 in
    (omega (arith, c.requires.0), λ l. step_fits (length c.args.values.now) _ _ c.args.len inside (8 * (c.args.len / 8)) l (omega (arith, c.well_formed.0.1)))

-- the place of the next value, as the code holds it
module _ (m : ℕ) (z d : ℤ) (n : ℕ) (inside : PlacesInside m z d n) (few : m < 2 ^ 63) (k : ℕ) (far : ℤ) (apart : far ≡ d *ℤ pos k) (left : k < n) where
  next-fits : FitsSigned w64 (z +ℤ far)
  next-fits = subst (λ (y : ℤ). FitsSigned w64 (z +ℤ y)) (sym apart) (place-fits m z d n inside k left few)

  next : to_z w64 (of_z w64 (z +ℤ far)) ≡ z +ℤ d *ℤ pos k
  next = to_z-of_z next-fits ∙ ap (λ (y : ℤ). z +ℤ y) apart

pub overflow_add-at : goal.overflow_add-at
overflow_add-at c =
    let inside : PlacesInside (length c.args.values.now) (to_z w64 (of_z w64 c.args.first)) (to_z w64 (of_z w64 c.args.stride)) c.args.len
    = simp (to_z-of_z c.ranges.first, to_z-of_z c.ranges.stride) c.requires.2 in
    let left : 8 * (c.args.len / 8) < c.args.len = omega arith in
    next-fits (length c.args.values.now) _ _ c.args.len inside (omega (arith, c.well_formed.0.1)) (8 * (c.args.len / 8)) _
    (to_z-of_z {w = w64} (record { sfits = c.far_stride.type_inv }) ∙ c.far_stride.ensures left) left

pub look_closer-requires : goal.look_closer-requires
look_closer-requires c =
    let z = to_z w64 (of_z w64 c.args.first) in
    let d = to_z w64 (of_z w64 c.args.stride) in
    let inside : PlacesInside (length c.args.values.now) z d c.args.len = simp (to_z-of_z c.ranges.first, to_z-of_z c.ranges.stride) c.requires.2 in
    let left : 8 * (c.args.len / 8) < c.args.len = omega arith in
    let here = next (length c.args.values.now) z d c.args.len inside (omega (arith, c.well_formed.0.1)) (8 * (c.args.len / 8)) _
    (to_z-of_z {w = w64} (record { sfits = c.far_stride.type_inv }) ∙ c.far_stride.ensures left) left in (
      omega (arith, c.requires.1),
      subst (λ (y : ℤ). PlacesInside (length c.args.values.now) y d (c.args.len % 8)) (sym here)
          (inside-part (length c.args.values.now) z d c.args.len (8 * (c.args.len / 8)) (c.args.len % 8) inside (omega arith)),
    )

-- the values that are left decide, as those of the whole vectors hold none
rest-decides : (values : List Float) (element m : ℕ) (z d : ℤ) (n : ℕ) (inside : PlacesInside m z d n) (few : m < 2 ^ 63) (far : ℤ)
    → far ≡ d *ℤ pos (8 * (n / 8)) → 8 * (n / 8) < n → none_bad ≡ lowest_bad values element (steps z d (8 * (n / 8)))
    → lowest_bad values (element + 8 * (n / 8)) (steps (to_z w64 (of_z w64 (z +ℤ far))) d (n % 8)) ≡ lowest_bad values element (steps z d n)
rest-decides values element m z d n inside few far apart left none =
    ap (λ (y : ℤ). lowest_bad values (element + 8 * (n / 8)) (steps y d (n % 8))) (next m z d n inside few (8 * (n / 8)) far apart left)
    ∙ passed values element _ _ _ (cut z d n) _ refl none (8 * (n / 8)) (length-steps _ _ (8 * (n / 8)))

pub returns-in_err-look_closer : goal.returns-in_err-look_closer
returns-in_err-look_closer c =
    let z = to_z w64 (of_z w64 c.args.first) in
    let d = to_z w64 (of_z w64 c.args.stride) in
    let inside : PlacesInside (length c.args.values.now) z d c.args.len = simp (to_z-of_z c.ranges.first, to_z-of_z c.ranges.stride) c.requires.2 in
    let left : 8 * (c.args.len / 8) < c.args.len = omega arith in
    let e = ap look_answer c.from_residual-in_err-look_closer.ensures
    ∙ c.in_err-look_closer.ensures
    ∙ rest-decides c.args.values.now c.args.element (length c.args.values.now) z d c.args.len inside (omega (arith, c.well_formed.0.1)) _
    (to_z-of_z {w = w64} (record { sfits = c.far_stride.type_inv }) ∙ c.far_stride.ensures left) left c.in_ok-signs.ensures in
    simp (to_z-of_z c.ranges.first, to_z-of_z c.ranges.stride) at e

pub returns-in_ok-look_closer : goal.returns-in_ok-look_closer
returns-in_ok-look_closer c =
    let z = to_z w64 (of_z w64 c.args.first) in
    let d = to_z w64 (of_z w64 c.args.stride) in
    let inside : PlacesInside (length c.args.values.now) z d c.args.len = simp (to_z-of_z c.ranges.first, to_z-of_z c.ranges.stride) c.requires.2 in
    let left : 8 * (c.args.len / 8) < c.args.len = omega arith in
    let e = c.in_ok-look_closer.ensures
    ∙ rest-decides c.args.values.now c.args.element (length c.args.values.now) z d c.args.len inside (omega (arith, c.well_formed.0.1)) _
    (to_z-of_z {w = w64} (record { sfits = c.far_stride.type_inv }) ∙ c.far_stride.ensures left) left c.in_ok-signs.ensures in
    simp (to_z-of_z c.ranges.first, to_z-of_z c.ranges.stride) at e
