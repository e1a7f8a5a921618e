-- Assumes nothing.
use Prim.Native.Nat.{ℕ, ◌+◌}
use mathlib.Core.Path.{◌≡◌, refl, sym, ap, ◌∙◌}
use mathlib.Core.Bool.{Bool, true, false}
use mathlib.Core.List.{List}
use native.Mathlib.Omega.{arith}
use lib.ListN.{length, get_or}
use lib.IntN.{ℤ, pos, nat_abs, ◌+ℤ◌, ◌*ℤ◌}
use lib.Ieee.{Float, nan}
use mir.Val.{to_z, of_z}
use mir.Syntax.{w64}
use mir.ValLaws.{to_z-of_z}
use Rattle.integers.proofs.Places.{place-first, place-next}
use Rattle.floats.specs.Splitting.{is_bad}
use Rattle.kernels.specs.Lanes.{feed, lane_of}
use Rattle.kernels.specs.InnerStrided.{strided}
use Rattle.kernels.specs.InnerStepped.{lower, first_bad}
use Rattle.vectors.proofs.Vectorwise.{fits-from, inside-held}
use Rattle.vectors.proofs.Parting.{first_more, first-stays}
use Rattle.vectors.proofs.marked.first_bad.Goals as goal
use Rattle.vectors.proofs.marked.first_bad.Goals.{then-is_bad+else-first-eq0, else-is_bad}

-- one value more: the lower of two lanes, if it is bad
after : (xs : List Float) (s t : ℤ) (i first : ℕ) (place : ℤ) (bad : Bool) (k : ℕ) → first ≡ first_bad (strided xs s t i) → place ≡ s +ℤ t *ℤ pos i
    → bad ≡ is_bad (get_or xs (nat_abs place) nan) → (b : Bool) → bad ≡ b → k ≡ lower first (lane_of i) b → k ≡ first_bad (strided xs s t (i + 1))
after xs s t i first place bad k p e f b q h =
    h ∙ ap (lower first (lane_of i)) (sym q ∙ f ∙ ap (λ (z : ℤ). is_bad (get_or xs (nat_abs z) nan)) e) ∙ first_more xs s t i first p

pub loop-i-init : goal.loop-i-init
unfolding first_bad strided feed
loop-i-init c = record { lane = refl; next = λ h. place-first (to_z w64 (of_z w64 c.args.start)) (to_z w64 (of_z w64 c.args.stride)) }

pub returns-then-first-eq0 : goal.returns-then-first-eq0
returns-then-first-eq0 c =
    let l = c.loop-i-test.true in
    let xs = c.args.values.now in
    let s = to_z w64 (of_z w64 c.args.start) in
    let t = to_z w64 (of_z w64 c.args.stride) in
    let i = c.loop-i.i in
    let e =
    sym
    (first-stays xs s t (i + 1)
    (sym
    (after xs s t i c.loop-i.first (to_z w64 c.loop-i.at-bits) c.is_bad.result c.min-first.result c.loop-i.invariant.lane (c.loop-i.invariant.next l)
    c.is_bad.ensures true c.if-is_bad.true c.min-first.ensures) ∙ c.if-first-eq0.true)
    c.args.len
    (omega arith)) in
    simp (to_z-of_z w64 c.args.start c.ranges.start, to_z-of_z w64 c.args.stride c.ranges.stride) at e

pub next_place-at-requires : goal.next_place-at-requires
next_place-at-requires c h =
    let l = c.loop-i-test.true in
    let n = length c.args.values.now in
    fits-from n (to_z w64 (of_z w64 c.args.start)) (to_z w64 (of_z w64 c.args.stride)) c.args.len
    (inside-held n c.args.start c.args.stride c.args.len c.ranges.start c.ranges.stride c.requires) (omega (arith, c.well_formed.0.1))
    (to_z w64 c.loop-i.at-bits) c.loop-i.i _ (c.loop-i.invariant.next l) (omega arith)

pub loop-i-preserved : goal.loop-i-preserved
loop-i-preserved c =
    let l = c.loop-i-test.true in
    let xs = c.args.values.now in
    let s = to_z w64 (of_z w64 c.args.start) in
    let t = to_z w64 (of_z w64 c.args.stride) in
    let i = c.loop-i.i in
    let more : (b : Bool) → c.is_bad.result ≡ b → c.if-is_bad.first ≡ lower c.loop-i.first (lane_of i) b → c.if-is_bad.first ≡ first_bad (strided xs s t (i + 1)) =
    after xs s t i c.loop-i.first (to_z w64 c.loop-i.at-bits) c.is_bad.result c.if-is_bad.first c.loop-i.invariant.lane (c.loop-i.invariant.next l)
    c.is_bad.ensures in
    record {
      lane = elim c.if-is_bad.branch [
        | then-is_bad+else-first-eq0 w ↦ more true w.if-is_bad.true (w.first-is ∙ w.min-first.ensures)
        | else-is_bad w ↦ more false w.if-is_bad.false w.first-is
      ];
      next = λ h. to_z-of_z w64 c.next_place-at.result (record { sfits = c.next_place-at.type_inv })
          ∙ c.next_place-at.ensures.0 (omega arith)
          ∙ ap (λ (z : ℤ). z +ℤ t) (c.loop-i.invariant.next l)
          ∙ place-next s t i;
    }
