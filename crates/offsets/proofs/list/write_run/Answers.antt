use Rattle.std.proofs.Common.{◌≡◌, ◌+◌, ◌-◌, ℕ, List, ◌∙◌, ap, arith, ℤ, pos, ◌+ℤ◌, ◌*ℤ◌, to_z, of_z, w64, length}
use Rattle.std.proofs.Math.Facts.{to_z-of_z}
use Rattle.std.proofs.Math.ListN.{set}
use Rattle.integers.proofs.Places.{place-first, place-next, fit-later}
use Rattle.offsets.proofs.Writing.{filled, filled_none, filled_more, filled-all}
use Rattle.offsets.proofs.list.write_run.Goals as goal
use Rattle.offsets.proofs.list.write_run.Goals.{In-loop-left}

pub loop-left-init : goal.loop-left-init
loop-left-init c =
    let n = length c.args.run.now in
    let z = to_z w64 (of_z w64 c.args.first) in
    let s = to_z w64 (of_z w64 c.args.stride) in
    let none : 0 ≡ n - n = omega arith in (
      omega arith,
      omega arith,
      λ h. place-first z s ∙ ap (λ (k : ℕ). z +ℤ s *ℤ pos k) none,
      filled_none c.args.run.now z s ∙ ap (λ (k : ℕ). filled c.args.run.now z s k) none,
    )

-- the offset to be written
here : (c : In-loop-left) → to_z w64 c.loop-left.offset-bits ≡ to_z w64 (of_z w64 c.args.first) +ℤ to_z w64 (of_z w64 c.args.stride) *ℤ pos (length c.args.run.now - c.loop-left.left)
here c = c.loop-left.invariant.2 c.loop-left-test.true

pub next_place-offset-requires : goal.next_place-offset-requires
next_place-offset-requires c l =
    fit-later _ _ _ (length c.args.run.now) (length c.args.run.now - c.loop-left.left) _ (here (goal.at.next_place-offset-requires c).In-loop-left)
    (omega (arith, c.loop-left.invariant.0, c.loop-left-test.true))
    (simp (to_z-of_z c.ranges.first, to_z-of_z c.ranges.stride) c.requires)

pub loop-left-preserved : goal.loop-left-preserved
loop-left-preserved c =
    let n = length c.args.run.now in
    let k = n - c.loop-left.left in
    let z = to_z w64 (of_z w64 c.args.first) in
    let s = to_z w64 (of_z w64 c.args.stride) in
    let at = here (goal.at.loop-left-preserved c).In-loop-left in
    let more : k + 1 ≡ n - (c.loop-left.left - 1) = omega (arith, c.loop-left.invariant.0, c.loop-left-test.true) in (
      omega (arith, c.loop-left.invariant.0),
      omega (arith, c.loop-left.invariant.0, c.loop-left.invariant.1, c.loop-left-test.true),
      λ l.
          to_z-of_z {w = w64} (record { sfits = c.next_place-offset.type_inv })
          ∙ c.next_place-offset.ensures.0 l
          ∙ ap (λ (y : ℤ). y +ℤ s) at
          ∙ place-next z s k
          ∙ ap (λ (m : ℕ). z +ℤ s *ℤ pos m) more,
      ap (λ (y : ℤ). set c.loop-left.run c.loop-left.at y) at
          ∙ ap (λ (m : ℕ). set c.loop-left.run m (z +ℤ s *ℤ pos k)) c.loop-left.invariant.1
          ∙ ap (λ (o : List ℤ). set o k (z +ℤ s *ℤ pos k)) c.loop-left.invariant.3
          ∙ filled_more c.args.run.now z s k (omega (arith, c.loop-left.invariant.0, c.loop-left-test.true))
          ∙ ap (λ (m : ℕ). filled c.args.run.now z s m) more,
    )

pub returns : goal.returns
returns c =
    let all : length c.args.run.now - c.loop-left.left ≡ length c.args.run.now = omega (arith, c.loop-left-test.false) in
    let e = simp (to_z-of_z c.ranges.first, to_z-of_z c.ranges.stride) at c.loop-left.invariant.3 in
    rw all at e ∙ filled-all _ _ _
