use Rattle.std.proofs.Common.{◌≡◌, ◌+◌, ◌-◌, ◌<◌, ℕ, ◌∙◌, ap, arith, ℤ, pos, ◌+ℤ◌, ◌*ℤ◌, to_z, of_z, w64, length}
use Rattle.std.proofs.Math.Facts.{to_z-of_z}
use Rattle.std.specs.Float.{Float, binary64}
use Rattle.std.specs.Float.Ieee.{mul}
use Rattle.integers.proofs.Places.{place-first, place-next, fit-later}
use Rattle.offsets.specs.InnerLists.{steps}
use Rattle.offsets.specs.Values.{value_at}
use Rattle.offsets.proofs.Visiting.{Index, inside-index}
use Rattle.ordered.specs.InnerFolds.{fold_places}
use Rattle.ordered.proofs.Folding.{fold_more}
use Rattle.ordered.proofs.fold_run_ordered.Goals as goal
use Rattle.ordered.proofs.fold_run_ordered.Goals.{Start, In-loop-left}

-- each place of the run is an index of the values
index : (c : Start) (i : ℕ) → i < c.args.len → Index (length c.args.values.now) (to_z w64 (of_z w64 c.args.first) +ℤ to_z w64 (of_z w64 c.args.stride) *ℤ pos i)
index c i h = simp (to_z-of_z c.ranges.first, to_z-of_z c.ranges.stride) (inside-index (length c.args.values.now) _ (c.requires i h))

-- the place of the next value
here : (c : In-loop-left) → to_z w64 c.loop-left.at-bits ≡ to_z w64 (of_z w64 c.args.first) +ℤ to_z w64 (of_z w64 c.args.stride) *ℤ pos (c.args.len - c.loop-left.left)
here c = c.loop-left.invariant.1 c.loop-left-test.true

here-index : (c : In-loop-left) → Index (length c.args.values.now) (to_z w64 c.loop-left.at-bits)
here-index c = rw (here c) (index (goal.at.In-loop-left c).Start (c.args.len - c.loop-left.left) (omega (arith, c.loop-left.invariant.0, c.loop-left-test.true)))

pub loop-left-init : goal.loop-left-init
unfolding steps
loop-left-init c =
    let n = c.args.len in
    let z = to_z w64 (of_z w64 c.args.first) in
    let s = to_z w64 (of_z w64 c.args.stride) in
    let none : 0 ≡ n - n = omega arith in (
      omega arith,
      λ h. place-first z s ∙ ap (λ (k : ℕ). z +ℤ s *ℤ pos k) none,
      ap (λ (k : ℕ). fold_places c.args.values.now c.args.acc (steps z s k)) none,
    )

pub overflow_cast-index : goal.overflow_cast-index
overflow_cast-index c = let n = here-index (goal.at.overflow_cast-index c).In-loop-left in (n.natural, record { fits = omega (arith, n.below, c.well_formed) })

pub offset_bounds-values-index : goal.offset_bounds-values-index
offset_bounds-values-index c = let n = here-index (goal.at.offset_bounds-values-index c).In-loop-left in omega (arith, n.below, c.well_formed)

pub bounds-values-index : goal.bounds-values-index
bounds-values-index c = (here-index (goal.at.bounds-values-index c).In-loop-left).below

pub next_place-at-requires : goal.next_place-at-requires
next_place-at-requires c l =
    let s = (goal.at.next_place-at-requires c).Start in
    fit-later _ _ _ c.args.len (c.args.len - c.loop-left.left) _ (here (goal.at.next_place-at-requires c).In-loop-left)
    (omega (arith, c.loop-left.invariant.0, c.loop-left-test.true))
    (λ j h. (index s j h).in_i64)

pub loop-left-preserved : goal.loop-left-preserved
loop-left-preserved c =
    let n = c.args.len in
    let k = n - c.loop-left.left in
    let z = to_z w64 (of_z w64 c.args.first) in
    let s = to_z w64 (of_z w64 c.args.stride) in
    let vs = c.args.values.now in
    let at = here (goal.at.loop-left-preserved c).In-loop-left in
    let more : k + 1 ≡ n - (c.loop-left.left - 1) = omega (arith, c.loop-left.invariant.0, c.loop-left-test.true) in (
      omega (arith, c.loop-left.invariant.0),
      λ l.
          to_z-of_z {w = w64} (record { sfits = c.next_place-at.type_inv })
          ∙ c.next_place-at.ensures.0 l
          ∙ ap (λ (y : ℤ). y +ℤ s) at
          ∙ place-next z s k
          ∙ ap (λ (m : ℕ). z +ℤ s *ℤ pos m) more,
      ap (λ (y : ℤ). mul binary64 c.loop-left.product (value_at vs y)) at
          ∙ ap (λ (x : Float). mul binary64 x (value_at vs (z +ℤ s *ℤ pos k))) c.loop-left.invariant.2
          ∙ fold_more (λ y w. mul binary64 y (value_at vs w)) c.args.acc z s k
          ∙ ap (λ (m : ℕ). fold_places vs c.args.acc (steps z s m)) more,
    )

pub returns : goal.returns
returns c =
    let all : c.args.len - c.loop-left.left ≡ c.args.len = omega (arith, c.loop-left-test.false) in
    let e = simp (to_z-of_z c.ranges.first, to_z-of_z c.ranges.stride) at c.loop-left.invariant.2 in
    rw all at e
