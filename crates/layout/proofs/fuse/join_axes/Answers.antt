-- Rule L4, check by check. A product of sizes past u64 has no reset either.
use Rattle.std.proofs.Common.{◌≡◌, true, sym, ◌∙◌, ap, ℕ, ℤ, pos, ◌*ℤ◌, Some, None, cond, rules, w64, to_z, of_z}
use mir.Val.{SFits}
use mir.Facts.{to_z-of_z}
use Rattle.integers.specs.Integers.{fits_i64, eq_z}
use Rattle.integers.specs.InnerChecked.{narrow_i64}
use Rattle.integers.proofs.Machine.{narrow_i64-some, narrow_i64-none, narrow_u64-some, narrow_u64-none, same_bits, ne-eq_z, eq_z-refl}
use Rattle.layout.specs.declared.axis.ReduceOuterAxis.{ReduceOuterAxis}
use Rattle.layout.specs.declared.fuse.Joined.TheVariants.{One}
use Rattle.layout.specs.Axes.{reset_fits, axis_of}
use Rattle.layout.specs.Fuse.{reach}
use Rattle.layout.proofs.Resets.{axis-some, axis-none}
use Rattle.layout.proofs.Fusing.{join-over, join-two, join-no-reset, join-large, join_one}
use Rattle.layout.proofs.fuse.join_axes.Goals as goal

-- the reach fits, and is the checked product
fitting : (a : ReduceOuterAxis) (r : ℤ) → SFits w64 a.source_step → Some r ≡ narrow_i64 (to_z w64 (of_z w64 a.source_step) *ℤ pos a.extent)
    → (r ≡ reach a) × (fits_i64 (reach a) ≡ true)
unfolding reach
fitting a r f e = narrow_i64-some _ _ (sym (simp (to_z-of_z f) at e))

-- the axes meet
meet : (a b : ReduceOuterAxis) (r : ℤ) → r ≡ reach a → SFits w64 r → SFits w64 b.source_step → of_z w64 r ≡ of_z w64 b.source_step
    → eq_z (reach a) b.source_step ≡ true
meet a b r e f g q = ap (λ (z : ℤ). eq_z (reach a) z) (sym (sym e ∙ same_bits r b.source_step f g q)) ∙ eq_z-refl (reach a)

pub returns-in_err-reach : goal.returns-in_err-reach
unfolding reach
returns-in_err-reach c =
    let f : SFits w64 c.args.a.source_step = search rules in
    let e : None ≡ narrow_i64 (to_z w64 (of_z w64 c.args.a.source_step) *ℤ pos c.args.a.extent) = c.in_err-reach.ensures in
    c.from_residual.ensures ∙ sym (join-over c.args.a c.args.b (narrow_i64-none _ (sym (simp (to_z-of_z f) at e))))

pub returns-then-reach-b : goal.returns-then-reach-b
returns-then-reach-b c =
    let f : SFits w64 c.args.a.source_step = search rules in
    let v = fitting c.args.a c.in_ok-reach.reach f c.in_ok-reach.ensures in
    sym (join-two c.args.a c.args.b v.1 (ne-eq_z _ _ (λ q. c.if-reach-b.true (ap (of_z w64) (v.0 ∙ q)))))

pub returns-in_err-extent : goal.returns-in_err-extent
returns-in_err-extent c =
    let f : SFits w64 c.args.a.source_step = search rules in
    let g : SFits w64 c.args.b.source_step = search rules in
    let r : SFits w64 c.in_ok-reach.reach = search rules in
    let v = fitting c.args.a c.in_ok-reach.reach f c.in_ok-reach.ensures in
    let m = meet c.args.a c.args.b c.in_ok-reach.reach v.0 r g c.if-reach-b.false in
    c.from_residual-in_err-extent.ensures ∙ sym (join-large c.args.a c.args.b v.1 m (narrow_u64-none _ (sym c.in_err-extent.ensures)))

pub returns-in_err-c : goal.returns-in_err-c
returns-in_err-c c =
    let f : SFits w64 c.args.a.source_step = search rules in
    let g : SFits w64 c.args.b.source_step = search rules in
    let r : SFits w64 c.in_ok-reach.reach = search rules in
    let v = fitting c.args.a c.in_ok-reach.reach f c.in_ok-reach.ensures in
    let m = meet c.args.a c.args.b c.in_ok-reach.reach v.0 r g c.if-reach-b.false in
    let n = (narrow_u64-some _ _ (sym c.in_ok-extent.ensures)).0 in
    let e : None ≡ cond (reset_fits c.in_ok-extent.extent (to_z w64 (of_z w64 c.args.a.source_step))) (Some (axis_of c.in_ok-extent.extent (to_z w64 (of_z w64 c.args.a.source_step)))) None
    = c.in_err-c.ensures in
    c.from_residual-in_err-c.ensures
    ∙ sym (join-no-reset c.args.a c.args.b v.1 m
    (ap (λ (k : ℕ). reset_fits k c.args.a.source_step) (sym n) ∙ axis-none _ _ _ (simp (to_z-of_z f) at e)))

pub returns : goal.returns
returns c =
    let f : SFits w64 c.args.a.source_step = search rules in
    let g : SFits w64 c.args.b.source_step = search rules in
    let r : SFits w64 c.in_ok-reach.reach = search rules in
    let v = fitting c.args.a c.in_ok-reach.reach f c.in_ok-reach.ensures in
    let m = meet c.args.a c.args.b c.in_ok-reach.reach v.0 r g c.if-reach-b.false in
    let n = (narrow_u64-some _ _ (sym c.in_ok-extent.ensures)).0 in
    let e : Some c.in_ok-c.c ≡ cond (reset_fits c.in_ok-extent.extent (to_z w64 (of_z w64 c.args.a.source_step))) (Some (axis_of c.in_ok-extent.extent (to_z w64 (of_z w64 c.args.a.source_step)))) None
    = c.in_ok-c.ensures in
    let k = axis-some _ _ _ (simp (to_z-of_z f) at e) in
    ap (λ (x : ReduceOuterAxis). Some (One x)) (k.1 ∙ ap (λ (j : ℕ). axis_of j c.args.a.source_step) n)
    ∙ sym (join_one c.args.a c.args.b v.1 m (ap (λ (j : ℕ). reset_fits j c.args.a.source_step) (sym n) ∙ k.0))
