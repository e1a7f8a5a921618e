use Rattle.std.proofs.Common.{ℕ, ◌≡◌, sym, ◌∙◌, ap, subst, ◌+◌, ◌*◌, ◌≤◌, ◌<◌, ◌^◌, arith, length, ℤ, pos, ◌+ℤ◌, ◌*ℤ◌, FitsSigned, to_z, of_z, w64}
use mir.Facts.{to_z-of_z}
use Rattle.integers.proofs.Places.{place-sum}
use Rattle.kernels.specs.InnerStrided.{PlacesInside}
use Rattle.kernels.proofs.Striding.{inside-part}
use Rattle.vectors.proofs.Vectorwise.{place-fits, step_fits}
use Rattle.search.specs.InnerLooks.{look_answer}
use Rattle.search.proofs.Looking.{chunk_bad, chunk_good, run-done}
use Rattle.search.proofs.first_in_vectors.Goals as goal
use Rattle.search.proofs.first_in_vectors.Goals.{then-n-left, else-n-left}

pub far_stride-apart-requires : goal.far_stride-apart-requires
far_stride-apart-requires c =
    let inside : PlacesInside (length c.args.values.now) (to_z w64 (of_z w64 c.args.first)) (to_z w64 (of_z w64 c.args.stride)) (8 * c.args.vectors)
    = simp (to_z-of_z c.ranges.first, to_z-of_z c.ranges.stride) c.requires.3 in
    (omega arith, λ l. step_fits (length c.args.values.now) _ _ (8 * c.args.vectors) inside 2048 l (omega (arith, c.well_formed.0.1)))

pub first_in_chunk-requires : goal.first_in_chunk-requires
first_in_chunk-requires c =
    let z = to_z w64 (of_z w64 c.args.first) in
    let d = to_z w64 (of_z w64 c.args.stride) in
    let n = c.min-n.result in
    let inside : PlacesInside (length c.args.values.now) z d (8 * c.args.vectors) = simp (to_z-of_z c.ranges.first, to_z-of_z c.ranges.stride) c.requires.3 in
    let ends : c.loop-i.i + n ≤ c.args.vectors = omega (arith, c.min-n.ensures) in (
      omega (arith, c.requires.0, ends),
      omega (arith, c.requires.1, ends),
      λ l. simp (to_z-of_z c.ranges.stride, to_z-of_z c.ranges.eight) (c.requires.2 (omega (arith, l, ends))),
      subst (λ (y : ℤ). PlacesInside (length c.args.values.now) y d (8 * n)) (sym (c.loop-i.invariant.0 c.loop-i-test.true))
          (inside-part (length c.args.values.now) z d (8 * c.args.vectors) (8 * c.loop-i.i) (8 * n) inside (omega (arith, ends))),
    )

pub returns-in_err-signs : goal.returns-in_err-signs
returns-in_err-signs c =
    let b = c.in_err-signs.field-0.0 in
    let ends : c.loop-i.i + c.min-n.result ≤ c.args.vectors = omega (arith, c.min-n.ensures) in
    let e = ap look_answer c.from_residual.ensures
    ∙ chunk_bad c.args.values.now c.args.element (to_z w64 (of_z w64 c.args.first)) (to_z w64 (of_z w64 c.args.stride)) c.args.vectors c.loop-i.i
    c.min-n.result ends _ (c.loop-i.invariant.0 c.loop-i-test.true) c.loop-i.invariant.1 b.element b.offset c.in_err-signs.ensures in
    simp (to_z-of_z c.ranges.first, to_z-of_z c.ranges.stride) at e

-- the place of the next chunk
module _ (m : ℕ) (z d : ℤ) (n : ℕ) (inside : PlacesInside m z d n) (few : m < 2 ^ 63) (i k : ℕ) (at far : ℤ) (here : at ≡ z +ℤ d *ℤ pos i)
    (apart : far ≡ d *ℤ pos k) where
  next : at +ℤ far ≡ z +ℤ d *ℤ pos (i + k)
  next = ap (λ (y : ℤ). y +ℤ far) here ∙ ap (λ (y : ℤ). z +ℤ d *ℤ pos i +ℤ y) apart ∙ place-sum z d i k

  next-fits : i + k < n → FitsSigned w64 (at +ℤ far)
  next-fits h = subst (FitsSigned w64) (sym next) (place-fits m z d n inside (i + k) h few)

pub overflow_add-at : goal.overflow_add-at
overflow_add-at c =
    let z = to_z w64 (of_z w64 c.args.first) in
    let d = to_z w64 (of_z w64 c.args.stride) in
    let inside : PlacesInside (length c.args.values.now) z d (8 * c.args.vectors) = simp (to_z-of_z c.ranges.first, to_z-of_z c.ranges.stride) c.requires.3 in
    let long : 8 * c.loop-i.i + 2048 < 8 * c.args.vectors = omega (arith, c.min-n.ensures, c.if-n-left.true) in
    let apart : to_z w64 (of_z w64 c.far_stride-apart.result) ≡ d *ℤ pos 2048
    = to_z-of_z {w = w64} (record { sfits = c.far_stride-apart.type_inv }) ∙ c.far_stride-apart.ensures (omega (arith, long)) in
    next-fits (length c.args.values.now) z d (8 * c.args.vectors) inside (omega (arith, c.well_formed.0.1)) (8 * c.loop-i.i) 2048 _ _
    (c.loop-i.invariant.0 c.loop-i-test.true) apart long

pub loop-i-preserved : goal.loop-i-preserved
loop-i-preserved c =
    let z = to_z w64 (of_z w64 c.args.first) in
    let d = to_z w64 (of_z w64 c.args.stride) in
    let inside : PlacesInside (length c.args.values.now) z d (8 * c.args.vectors) = simp (to_z-of_z c.ranges.first, to_z-of_z c.ranges.stride) c.requires.3 in
    let few : length c.args.values.now < 2 ^ 63 = omega (arith, c.well_formed.0.1) in
    let here : to_z w64 c.loop-i.at-bits ≡ z +ℤ d *ℤ pos (8 * c.loop-i.i) = c.loop-i.invariant.0 c.loop-i-test.true in
    let all : c.min-n.result ≡ 256 = omega (arith, c.min-n.ensures) in
    let apart : 2048 < 8 * c.args.vectors → to_z w64 (of_z w64 c.far_stride-apart.result) ≡ d *ℤ pos 2048
    = λ h. to_z-of_z {w = w64} (record { sfits = c.far_stride-apart.type_inv }) ∙ c.far_stride-apart.ensures h in (
      elim c.if-n-left.branch [
        | then-n-left w ↦ λ h.
            let long : 8 * c.loop-i.i + 2048 < 8 * c.args.vectors = omega arith in
            let a = apart (omega arith) in
            w.at-is
            ∙ to_z-of_z (next-fits (length c.args.values.now) z d (8 * c.args.vectors) inside few (8 * c.loop-i.i) 2048 _ _ here a long)
            ∙ next (length c.args.values.now) z d (8 * c.args.vectors) inside few (8 * c.loop-i.i) 2048 _ _ here a
            ∙ ap (λ (k : ℕ). z +ℤ d *ℤ pos k) (let e : 8 * c.loop-i.i + 2048 ≡ 8 * (c.loop-i.i + 256) = omega arith in e)
        | else-n-left w ↦ λ h. absurd (omega (arith, w.if-n-left.false, all))
      ],
      chunk_good c.args.values.now c.args.element z d c.args.vectors c.loop-i.i 256 (omega (arith, c.min-n.ensures)) _ here c.loop-i.invariant.1
          (rw all at c.in_ok-signs.ensures),
    )

pub returns : goal.returns
returns c =
    let e = run-done c.args.values.now c.args.element (to_z w64 (of_z w64 c.args.first)) (to_z w64 (of_z w64 c.args.stride)) (8 * c.args.vectors)
    (8 * c.loop-i.i) (omega (arith, c.loop-i-test.false)) c.loop-i.invariant.1 in
    simp (to_z-of_z c.ranges.first, to_z-of_z c.ranges.stride) at e
