-- The vectors but those that are left are in (`Walk`).
use Rattle.std.proofs.Common.{◌≡◌, ◌∙◌, ap, sym, subst, arith, ◌*◌, ◌+◌, ◌-◌, ◌<◌, length, ℤ, ◌+ℤ◌, to_z, of_z, w64, to_z-of_z}
use Rattle.integers.specs.InnerPlaces.{PlacesFit}
use Rattle.kernels.specs.Lanes.{feed}
use Rattle.kernels.specs.InnerStrided.{PlacesInside}
use Rattle.vectors.specs.InnerWaiting.{wait_step}
use Rattle.vectors.specs.InnerVectors.{EightApart}
use Rattle.vectors.proofs.Walks.{walk-begin, walk_inside, walk-fits, walk_step, walk-fed, walk-last}
use Rattle.vectors.proofs.unsplit.wait_each.Goals as goal
use Rattle.vectors.proofs.unsplit.wait_each.Goals.{Start}

-- what is required, of the numbers as the code holds them
inside : (c : Start) → PlacesInside (length c.args.values.now) (to_z w64 (of_z w64 c.args.start)) (to_z w64 (of_z w64 c.args.stride)) (8 * c.args.vectors)
inside c = simp (to_z-of_z c.ranges.start, to_z-of_z c.ranges.stride) c.requires.1

eight_is : (c : Start) → EightApart (to_z w64 (of_z w64 c.args.stride)) (8 * c.args.vectors) (to_z w64 (of_z w64 c.args.eight))
eight_is c l = simp (to_z-of_z c.ranges.stride, to_z-of_z c.ranges.eight) (c.requires.0 l)

pub loop-left-init : goal.loop-left-init
loop-left-init c = walk-begin c.args.signs c.args.w c.args.values.now (to_z w64 (of_z w64 c.args.start)) (to_z w64 (of_z w64 c.args.stride)) c.args.vectors

pub full_vector-vector-requires : goal.full_vector-vector-requires
full_vector-vector-requires c = walk_inside _ _ _ _ _ _ _ _ _ _ c.loop-left.invariant c.loop-left-test.true (inside (goal.at.full_vector-vector-requires c).Start)

-- the place of the next vector, of those that are left
pub next_place-next-requires : goal.next_place-next-requires
next_place-next-requires c l =
    let s = (goal.at.next_place-next-requires c).Start in
    let u = c.loop-left.invariant.upto in
    subst (λ (z : ℤ). PlacesFit (to_z w64 c.loop-left.next-bits) z (c.loop-left.left - 1 + 1)) (sym (eight_is s (omega arith)))
    (λ k b. walk-fits _ _ _ _ _ _ _ _ _ _ c.loop-left.invariant c.loop-left-test.true (inside s) (omega (arith, c.well_formed)) k (let h : k < c.loop-left.left = omega arith in h))

pub loop-left-preserved : goal.loop-left-preserved
loop-left-preserved c =
    let s = (goal.at.loop-left-preserved c).Start in
    let u = c.loop-left.invariant.upto in
    walk_step _ _ _ _ _ _ _ _ _ _ c.loop-left.invariant _ _ c.loop-left-test.true
    (c.wait_vector-lanes.ensures ∙ ap (feed (wait_step c.args.signs) 0 c.loop-left.lanes) c.full_vector-vector.ensures)
    (λ h.
    to_z-of_z {w = w64} (record { sfits = c.next_place-next.type_inv })
    ∙ c.next_place-next.ensures.0 h
    ∙ ap (λ (z : ℤ). to_z w64 c.loop-left.next-bits +ℤ z) (eight_is s (omega arith)))

pub returns : goal.returns
returns c =
    let z : c.loop-left.left ≡ 0 = (let l = c.loop-left-test.false in omega arith) in
    record {
      lanes_value = simp (to_z-of_z c.ranges.start, to_z-of_z c.ranges.stride) at (walk-fed _ _ _ _ _ _ _ _ _ _ c.loop-left.invariant z);
      at = simp (to_z-of_z c.ranges.start, to_z-of_z c.ranges.stride) at (walk-last _ _ _ _ _ _ _ _ _ _ c.loop-left.invariant z);
    }
