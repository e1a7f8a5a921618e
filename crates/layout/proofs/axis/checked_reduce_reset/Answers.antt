-- Rule L3, check by check.
use Rattle.std.proofs.Common.{◌≡◌, sym, ◌∙◌, ap, ◌-◌, ℤ, pos, neg_ℤ, ◌*ℤ◌, Some, None, arith, w64, to_z, of_z}
use mir.Val.{SFits}
use mir.Facts.{to_z-of_z}
use Rattle.integers.specs.InnerChecked.{narrow_i64}
use Rattle.integers.proofs.Machine.{narrow_i64-some, narrow_i64-none, narrow_i64-fits, narrow_i64-is}
use Rattle.layout.proofs.Resets.{reset-large, reset-no-span, reset-is}
use Rattle.layout.proofs.axis.checked_reduce_reset.Goals as goal

pub returns-then-last : goal.returns-then-last
returns-then-last c = rw (reset-large c.args.extent c.args.step (omega (arith, c.saturating_sub-last.ensures)))

pub returns-in_err-span : goal.returns-in_err-span
returns-in_err-span c =
    let h : c.saturating_sub-last.result ≡ c.args.extent - 1 = c.saturating_sub-last.ensures in
    let e : None ≡ narrow_i64 (to_z w64 (of_z w64 c.args.step) *ℤ pos c.saturating_sub-last.result) = c.in_err-span.ensures in
    let q : None ≡ narrow_i64 (c.args.step *ℤ pos (c.args.extent - 1)) = simp (to_z-of_z c.ranges.step, h) at e in
    c.from_residual.ensures ∙ sym (rw (reset-no-span c.args.extent c.args.step (omega arith) (narrow_i64-none _ (sym q))))

pub returns : goal.returns
returns c =
    let h : c.saturating_sub-last.result ≡ c.args.extent - 1 = c.saturating_sub-last.ensures in
    let e : Some c.in_ok-span.span ≡ narrow_i64 (to_z w64 (of_z w64 c.args.step) *ℤ pos c.saturating_sub-last.result) = c.in_ok-span.ensures in
    let q : Some c.in_ok-span.span ≡ narrow_i64 (c.args.step *ℤ pos (c.args.extent - 1)) = simp (to_z-of_z c.ranges.step, h) at e in
    let v = narrow_i64-some _ _ (sym q) in
    let f : SFits w64 c.in_ok-span.span = rw v.0 (narrow_i64-fits _ v.1) in
    narrow_i64-is (neg_ℤ c.in_ok-span.span) _ (simp (to_z-of_z f) at c.checked_neg.ensures)
    ∙ ap (λ (z : ℤ). narrow_i64 (neg_ℤ z)) v.0
    ∙ reset-is c.args.extent c.args.step (omega arith) v.1
