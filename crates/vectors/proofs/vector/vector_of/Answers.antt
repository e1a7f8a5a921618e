-- Assumes nothing.
use Prim.Native.Nat.{ℕ, min}
use mathlib.Core.Path.{◌≡◌, ap, ◌∙◌}
use native.Mathlib.Omega.{arith}
use lib.ListN.{length}
use lib.IntN.{ℤ, ◌+ℤ◌}
use lib.Ieee.{of_bits}
use mir.Val.{to_z, of_z}
use mir.Syntax.{w64}
use mir.ValLaws.{to_z-of_z}
use Rattle.kernels.specs.Lanes.{feed}
use Rattle.kernels.specs.InnerStrided.{strided}
use Rattle.integers.proofs.Places.{place-first, place-next}
use Rattle.vectors.specs.declared.vector.Vector.{Vector}
use Rattle.vectors.specs.InnerWaiting.{vector_of}
use Rattle.vectors.proofs.Vectorwise.{fits-from, inside-held, lane-taken, lane-passed}
use Rattle.vectors.proofs.vector.vector_of.Goals as goal
use Rattle.vectors.proofs.vector.vector_of.Goals.{then-k-n, else-k-n, then-next-n, else-next-n}

pub loop-k-init : goal.loop-k-init
unfolding of_bits vector_of strided feed
loop-k-init c = record {
  taken = ap (λ (k : ℕ). vector_of (strided c.args.values.now (to_z w64 (of_z w64 c.args.at)) (to_z w64 (of_z w64 c.args.stride)) k))
      (let e : 0 ≡ min 0 c.args.n = omega arith in e);
  next = λ h. place-first (to_z w64 (of_z w64 c.args.at)) (to_z w64 (of_z w64 c.args.stride));
}

pub next_place-place-requires : goal.next_place-place-requires
next_place-place-requires c h =
    let n = length c.args.values.now in
    let l = c.if-next-n.true in
    fits-from n (to_z w64 (of_z w64 c.args.at)) (to_z w64 (of_z w64 c.args.stride)) c.args.n
    (inside-held n c.args.at c.args.stride c.args.n c.ranges.at c.ranges.stride c.requires.1) (omega (arith, c.well_formed.0.1))
    (to_z w64 c.loop-k.place-bits) c.loop-k.k _ (c.loop-k.invariant.next (omega arith)) (omega arith)

pub loop-k-preserved : goal.loop-k-preserved
loop-k-preserved c =
    let xs = c.args.values.now in
    let s = to_z w64 (of_z w64 c.args.at) in
    let t = to_z w64 (of_z w64 c.args.stride) in
    let k = c.loop-k.k in
    record {
      taken = elim c.if-k-n.branch [
        | then-k-n w ↦ ap (λ (u : Vector). u.v) w.r-is
            ∙ lane-taken xs s t c.args.n k c.loop-k.r.v c.loop-k.invariant.taken (to_z w64 c.loop-k.place-bits) (c.loop-k.invariant.next w.if-k-n.true) w.if-k-n.true
        | else-k-n w ↦ ap (λ (u : Vector). u.v) w.r-is ∙ lane-passed xs s t c.args.n k c.loop-k.r.v c.loop-k.invariant.taken w.if-k-n.false
      ];
      next = λ h. elim c.if-next-n.branch [
        | then-next-n w ↦ w.place-is
            ∙ to_z-of_z w64 w.next_place-place.result (record { sfits = w.next_place-place.type_inv })
            ∙ w.next_place-place.ensures.0 (omega arith)
            ∙ ap (λ (z : ℤ). z +ℤ t) (c.loop-k.invariant.next (omega arith))
            ∙ place-next s t k
        | else-next-n w ↦ let g = w.if-next-n.false in absurd (omega arith)
      ];
    }
