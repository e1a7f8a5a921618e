-- The first value of a vector is lane 0's. Assumes nothing.
use Prim.Native.Nat.{ℕ, ◌+◌, ◌-◌, ◌*◌, ◌/◌, ◌<◌}
use mathlib.Core.Path.{◌≡◌, sym, ap, ◌∙◌, subst}
use native.Mathlib.Omega.{arith}
use lib.ListN.{length, get_or}
use lib.IntN.{ℤ, pos, nat_abs, ◌+ℤ◌, ◌*ℤ◌}
use lib.Ieee.{nan}
use mir.Val.{SFits, to_z, of_z}
use mir.Syntax.{w64}
use mir.ValLaws.{to_z-of_z}
use Rattle.integers.specs.InnerPlaces.{PlacesFit}
use Rattle.integers.proofs.Places.{place-sum, fit-eighths}
use Rattle.floats.specs.Splitting.{is_bad}
use Rattle.vectors.specs.InnerVectors.{EightApart}
use Rattle.vectors.proofs.Vectorwise.{fits-from, inside-held}
use Rattle.vectors.proofs.Parting.{first-none}
use Rattle.vectors.proofs.marked.soon_bad.Goals as goal

pub returns-then-is_bad : goal.returns-then-is_bad
returns-then-is_bad c q =
    let l = c.loop-i-test.true in
    let xs = c.args.values.now in
    let s = to_z w64 (of_z w64 c.args.start) in
    let t = to_z w64 (of_z w64 c.args.stride) in
    let e =
    first-none xs s t c.loop-i.i c.args.len (omega arith)
    (ap (λ (z : ℤ). is_bad (get_or xs (nat_abs z) nan)) (sym (c.loop-i.invariant l)) ∙ sym c.is_bad.ensures ∙ c.if-is_bad.true) in
    simp (to_z-of_z w64 c.args.start c.ranges.start, to_z-of_z w64 c.args.stride c.ranges.stride) at e

-- eight is there if further values are looked at
eight-held : (t eight : ℤ) (len i : ℕ) → SFits w64 t → SFits w64 eight → EightApart t len eight → 0 < len / 128 - (i + 1)
    → to_z w64 (of_z w64 eight) ≡ to_z w64 (of_z w64 t) *ℤ pos 8
eight-held t eight len i p q h l = simp (to_z-of_z w64 t p, to_z-of_z w64 eight q) (h (omega arith))

pub next_place-at-requires : goal.next_place-at-requires
next_place-at-requires c h =
    let l = c.loop-i-test.true in
    let n = length c.args.values.now in
    let s = to_z w64 (of_z w64 c.args.start) in
    let t = to_z w64 (of_z w64 c.args.stride) in
    let at = to_z w64 c.loop-i.at-bits in
    let i = c.loop-i.i in
    let v = c.args.len / 128 in
    subst (λ (z : ℤ). PlacesFit at z (v - (i + 1) + 1)) (sym (eight-held c.args.stride c.args.eight c.args.len i c.ranges.stride c.ranges.eight c.requires.0 h))
    (fit-eighths at t (8 * (v - i)) _ (omega arith)
    (fits-from n s t c.args.len (inside-held n c.args.start c.args.stride c.args.len c.ranges.start c.ranges.stride c.requires.1) (omega (arith, c.well_formed.0.1)) at
    (8 * i) (8 * (v - i)) (c.loop-i.invariant l) (omega arith)))

pub loop-i-preserved : goal.loop-i-preserved
loop-i-preserved c h =
    let l = c.loop-i-test.true in
    let s = to_z w64 (of_z w64 c.args.start) in
    let t = to_z w64 (of_z w64 c.args.stride) in
    let i = c.loop-i.i in
    to_z-of_z w64 c.next_place-at.result (record { sfits = c.next_place-at.type_inv })
    ∙ c.next_place-at.ensures.0 (omega arith)
    ∙ ap (λ (z : ℤ). to_z w64 c.loop-i.at-bits +ℤ z) (eight-held c.args.stride c.args.eight c.args.len i c.ranges.stride c.ranges.eight c.requires.0 (omega arith))
    ∙ ap (λ (z : ℤ). z +ℤ t *ℤ pos 8) (c.loop-i.invariant l)
    ∙ place-sum s t (8 * i) 8
    ∙ ap (λ (n : ℕ). s +ℤ t *ℤ pos n) (let e : 8 * i + 8 ≡ 8 * (i + 1) = omega arith in e)
