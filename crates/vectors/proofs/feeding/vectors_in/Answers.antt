-- Vectors that are guarded, one after another.
use Rattle.std.proofs.Common.{◌≡◌, ◌∙◌, ap, sym, subst, arith, rules, ℕ, ◌*◌, ◌/◌, ◌-◌, ◌+◌, ◌<◌, ◌^◌, min, true, ◌||◌, length, ℤ, pos, ◌+ℤ◌, ◌*ℤ◌, to_z, of_z, w64, to_z-of_z, add-one, lit≤}
use Rattle.kernels.specs.declared.lanes.Lanes.{Lanes}
use Rattle.kernels.specs.Lanes.{every}
use Rattle.kernels.specs.InnerStrided.{strided, PlacesInside}
use Rattle.integers.specs.InnerPlaces.{PlacesFit}
use Rattle.integers.proofs.Places.{place-first, place-sum, fit-eighths}
use Rattle.kernels.proofs.Striding.{inside-part}
use Rattle.vectors.specs.InnerWaiting.{vector_of, not_past, guarded}
use Rattle.vectors.specs.InnerSteps.{NotYetNormalised}
use Rattle.vectors.proofs.Vectorwise.{fits-from}
use Rattle.vectors.proofs.Stepping.{Vectors, vectors-none, vectors-next, vectors-fed}
use Rattle.vectors.proofs.feeding.vectors_in.Goals as goal
use Rattle.vectors.proofs.feeding.vectors_in.Goals.{Start}

-- what is required, of the numbers as the code holds them
abbrev first : Start → ℤ
first c = to_z w64 (of_z w64 c.args.start)

abbrev apart : Start → ℤ
apart c = to_z w64 (of_z w64 c.args.stride)

inside : (c : Start) → PlacesInside (length c.args.values.now) (first c) (apart c) c.args.len
inside c = simp (to_z-of_z c.ranges.start, to_z-of_z c.ranges.stride) c.requires.3

eight_is : (c : Start) → 8 < c.args.len → to_z w64 (of_z w64 c.args.eight) ≡ apart c *ℤ pos 8
eight_is c l = simp (to_z-of_z c.ranges.stride, to_z-of_z c.ranges.eight) (c.requires.2 l)

pub loop-i-init : goal.loop-i-init
loop-i-init c =
    let s = (goal.at.loop-i-init c).Start in (
      vectors-none c.args.all (2 ^ 56) c.args.s c.args.values.now _ _ c.args.len (search rules) c.requires.0,
      λ h. place-first (first s) (apart s),
      λ h. place-first (first s) (apart s),
    )

pub some_vector-vector-requires : goal.some_vector-vector-requires
some_vector-vector-requires c =
    let s = (goal.at.some_vector-vector-requires c).Start in
    let l = c.loop-i-test.true in
    subst (λ (z : ℤ). PlacesInside (length c.args.values.now) z (apart s) (c.args.len - 8 * c.loop-i.i)) (sym (c.loop-i.invariant.1 c.loop-i-test.true))
    (inside-part (length c.args.values.now) (first s) (apart s) c.args.len (8 * c.loop-i.i) (c.args.len - 8 * c.loop-i.i) (inside s) (omega arith))

pub next_place-at-requires : goal.next_place-at-requires
next_place-at-requires c l =
    let s = (goal.at.next_place-at-requires c).Start in
    let i = c.loop-i.i in
    let n = c.args.len in
    let m = c.loop-i-test.true in
    subst (λ (z : ℤ). PlacesFit (to_z w64 c.loop-i.at-bits) z ((n + 7) / 8 - 1 - i + 1)) (sym (eight_is s (omega arith)))
    (fit-eighths (to_z w64 c.loop-i.at-bits) (apart s) (n - 8 * i) _ (omega arith)
    (fits-from (length c.args.values.now) (first s) (apart s) n (inside s) (omega (arith, c.well_formed)) (to_z w64 c.loop-i.at-bits) (8 * i)
    (n - 8 * i) (c.loop-i.invariant.1 c.loop-i-test.true) (omega arith)))

pub loop-i-preserved : goal.loop-i-preserved
loop-i-preserved c =
    let s = (goal.at.loop-i-preserved c).Start in
    let i = c.loop-i.i in
    let n = c.args.len in
    let xs = c.args.values.now in
    let t : Lanes = record { m = c.loop-i.m; e = c.loop-i.e; bad = c.loop-i.bad } in
    let l : i < (n + 7) / 8 = c.loop-i-test.true in
    let h = c.requires.1 in
    let here = c.loop-i.invariant.1 l in
    let place = to_z-of_z {w = w64} (record { sfits = c.next_place-at.type_inv }) in (
      subst (λ (m : ℕ). Vectors c.args.all (2 ^ 56) c.args.s xs (first s) (apart s) n m c.guarded_vector-t.result) (sym (add-one i))
          (vectors-next c.args.all (2 ^ 56) c.args.s xs (first s) (apart s) n c.type_inv.values i t c.guarded_vector-t.result c.loop-i.invariant.0
          (omega arith) (omega arith)
          (c.guarded_vector-t.ensures
          ∙ ap (guarded c.args.all t)
          (c.some_vector-vector.ensures ∙ ap (λ (z : ℤ). vector_of (strided xs z (apart s) (min 8 (n - 8 * i)))) here))),
      λ k.
          place
          ∙ c.next_place-at.ensures.0 (omega arith)
          ∙ ap (λ (z : ℤ). to_z w64 c.loop-i.at-bits +ℤ z) (eight_is s (omega arith))
          ∙ ap (λ (z : ℤ). z +ℤ apart s *ℤ pos 8) here
          ∙ place-sum (first s) (apart s) (8 * i) 8
          ∙ ap (λ (n : ℕ). first s +ℤ apart s *ℤ pos n) (let e : 8 * i + 8 ≡ 8 * (i + 1) = omega arith in e),
      λ k.
          place
          ∙ c.next_place-at.ensures.1 (omega arith)
          ∙ here
          ∙ ap (λ (n : ℕ). first s +ℤ apart s *ℤ pos (8 * n)) (let e : i ≡ i + 1 - 1 = omega arith in e),
    )

pub returns-clause-not_yet_normalised : goal.returns-clause-not_yet_normalised
returns-clause-not_yet_normalised c =
    let t : Lanes = record { m = c.loop-i.m; e = c.loop-i.e; bad = c.loop-i.bad } in
    let n = c.args.len in
    let h = c.requires.1 in
    let l = c.loop-i-test.false in
    let e : (c.args.all || every not_past c.loop-i.m) ≡ true
    → NotYetNormalised c.args.s (strided c.args.values.now (to_z w64 (of_z w64 c.args.start)) (to_z w64 (of_z w64 c.args.stride)) n) t =
    vectors-fed c.args.all (2 ^ 56) c.args.s c.args.values.now _ _ n (lit≤ tt) c.loop-i.i t c.loop-i.invariant.0 (omega arith) (omega arith)
    (omega arith) in
    simp (to_z-of_z c.ranges.start, to_z-of_z c.ranges.stride) at e
