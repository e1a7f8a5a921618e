-- Assumes nothing.
use Prim.Native.Nat.{ℕ, min}
use mathlib.Core.Path.{◌≡◌, sym, ap, ◌∙◌, subst}
use native.Mathlib.Omega.{arith}
use lib.ListN.{length}
use lib.IntN.{ℤ, pos}
use mir.ValLaws.{to_z-of_z}
use mir.Syntax.{w64}
use Rattle.integers.proofs.Machine.{same_bits, pos-fits}
use Rattle.kernels.specs.InnerStrided.{strided, PlacesInside}
use Rattle.kernels.proofs.Striding.{inside-less}
use Rattle.vectors.specs.InnerWaiting.{vector_of}
use Rattle.vectors.proofs.Vectors.{vector-whole}
use Rattle.vectors.proofs.vector.some_vector.Goals as goal

pub vector_beside-requires : goal.vector_beside-requires
vector_beside-requires c =
    let e : c.args.stride ≡ pos 1 = same_bits _ (pos 1) c.ranges.stride (pos-fits 1 (omega arith)) c.if-stride-eq1.true in
    simp (to_z-of_z w64 c.args.at c.ranges.at)
    (subst (λ (d : ℤ). PlacesInside (length c.args.values.now) c.args.at d 8) e
    (inside-less (length c.args.values.now) c.args.at c.args.stride c.args.left 8 c.requires c.if-left-ge-LANES.true))

pub returns-then-left-ge-LANES : goal.returns-then-left-ge-LANES
returns-then-left-ge-LANES c =
    let e : c.args.stride ≡ pos 1 = same_bits _ (pos 1) c.ranges.stride (pos-fits 1 (omega arith)) c.if-stride-eq1.true in
    let h = c.if-left-ge-LANES.true in
    let xs = c.args.values.now in
    simp (to_z-of_z w64 c.args.at c.ranges.at) at c.vector_beside.ensures
    ∙ ap (λ (d : ℤ). strided xs c.args.at d 8) (sym e)
    ∙ sym (vector-whole xs c.args.at c.args.stride)
    ∙ ap (λ (n : ℕ). vector_of (strided xs c.args.at c.args.stride n)) (let e : 8 ≡ min 8 c.args.left = omega arith in e)
