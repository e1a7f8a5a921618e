-- The laws of one axis, condition by condition.
use Rattle.std.proofs.Common.{◌≡◌, sym, ◌∙◌, ap, cond, neg_ℤ, Some, None, w64, to_z, of_z}
use Rattle.std.proofs.lemmas.Option.{cond_some}
use Rattle.std.proofs.lemmas.Result.{err_from_is_err_and}
use Rattle.layout.specs.Axes.{reset_fits, span}
use mir.Facts.{to_z-of_z}
use Rattle.layout.proofs.Compiling.{accepted, refused-as}
use Rattle.layout.proofs.Resets.{axis-none}
use Rattle.layout.proofs.Line.{line-empty, line-one, line-3, line-4, line-run}
use Rattle.layout.proofs.traversal.compile_line.Goals as goal

pub returns-then-size-eq0-clause-value : goal.returns-then-size-eq0-clause-value
returns-then-size-eq0-clause-value c = ap accepted c.empty.ensures ∙ sym (line-empty c.args.size c.args.stride c.ranges.size.fits c.if-size-eq0.true)

pub returns-then-size-eq1-clause-value : goal.returns-then-size-eq1-clause-value
returns-then-size-eq1-clause-value c = ap accepted c.one_run.ensures ∙ sym (line-one c.args.size c.args.stride c.ranges.size.fits c.if-size-eq1.true)

pub returns-in_err-ok_or-clause-value : goal.returns-in_err-ok_or-clause-value
returns-in_err-ok_or-clause-value c =
    let p = err_from_is_err_and c.from_residual.result c.from_residual.ensures.1 in
    let n : c.checked_reduce_reset.result ≡ None = c.in_err-ok_or.ensures.ok_part in
    let e : None ≡ cond (reset_fits c.args.size (to_z w64 (of_z w64 c.args.stride))) (Some (neg_ℤ (span c.args.size (to_z w64 (of_z w64 c.args.stride))))) None
    = sym n ∙ c.checked_reduce_reset.ensures in
    refused-as _ c.from_residual.result p.0 c.in_err-ok_or.field-0.0 _ c.checked_reduce_reset.result p.1 p.2 n c.in_err-ok_or.ensures.value
    ∙ sym (line-3 c.args.size c.args.stride c.ranges.size.fits c.if-size-eq0.false c.if-size-eq1.false
    (axis-none c.args.size c.args.stride _ (simp (to_z-of_z c.ranges.stride) at e)))

pub returns-then-size-gt-MOST_ELEMENTS-clause-value : goal.returns-then-size-gt-MOST_ELEMENTS-clause-value
returns-then-size-gt-MOST_ELEMENTS-clause-value c =
    let e : Some c.in_ok-ok_or.field-0 ≡ cond (reset_fits c.args.size (to_z w64 (of_z w64 c.args.stride))) (Some (neg_ℤ (span c.args.size (to_z w64 (of_z w64 c.args.stride))))) None
    = sym c.in_ok-ok_or.ensures.ok_part ∙ c.checked_reduce_reset.ensures in
    let v = cond_some _ _ _ (sym (simp (to_z-of_z c.ranges.stride) at e)) in
    sym (line-4 c.args.size c.args.stride c.ranges.size.fits c.if-size-eq0.false c.if-size-eq1.false v.0 c.if-size-gt-MOST_ELEMENTS.true)

pub returns-clause-value : goal.returns-clause-value
returns-clause-value c =
    let e : Some c.in_ok-ok_or.field-0 ≡ cond (reset_fits c.args.size (to_z w64 (of_z w64 c.args.stride))) (Some (neg_ℤ (span c.args.size (to_z w64 (of_z w64 c.args.stride))))) None
    = sym c.in_ok-ok_or.ensures.ok_part ∙ c.checked_reduce_reset.ensures in
    let v = cond_some _ _ _ (sym (simp (to_z-of_z c.ranges.stride) at e)) in
    ap accepted (simp (to_z-of_z c.ranges.stride) at c.one_run-2.ensures)
    ∙ sym (line-run c.args.size c.args.stride c.ranges.size.fits c.if-size-eq0.false c.if-size-eq1.false v.0 c.if-size-gt-MOST_ELEMENTS.false)
