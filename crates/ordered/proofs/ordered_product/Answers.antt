use Rattle.std.proofs.Common.{sym, ◌∙◌, ap, length}
use Rattle.std.proofs.Math.Facts.{to_z-of_z}
use Rattle.std.proofs.lemmas.Result.{err_from_is_err_and}
use Rattle.finishing.specs.Finishing.{value, refusal}
use Rattle.refusals.proofs.Numbers.{some-number}
use Rattle.offsets.proofs.Checked.{Checked, checked, compile-refused}
use Rattle.ordered.proofs.Calls.{ordered-refused, ordered-number, ordered-accepted}
use Rattle.ordered.proofs.ordered_product.Goals as goal
use Rattle.ordered.proofs.ordered_product.Goals.{In_ok-check_range}

-- an accepted range
accepted : (c : In_ok-check_range) → Checked c.args.sizes.now c.args.strides.now c.args.base c.args.start c.args.end (length c.args.values.now) c.compile_in_place.new.self
accepted c =
    checked _ _ c.compile_in_place.new.self c.in_ok-compile_in_place.ensures.value c.args.base c.args.start c.args.end (length c.args.values.now)
    (sym (simp (to_z-of_z c.ranges.base) at c.in_ok-check_range.ensures))

pub returns-in_err-compile_in_place : goal.returns-in_err-compile_in_place
returns-in_err-compile_in_place c =
    let p = err_from_is_err_and c.from_residual.result c.from_residual.ensures.1 in
    let r = c.in_err-compile_in_place.field-0.0 in
    let k = compile-refused _ _ r c.in_err-compile_in_place.ensures.value c.args.base c.args.start c.args.end (length c.args.values.now) in
    rw (p.1, p.2) (ap refusal k ∙ sym (ordered-refused _ _ c.args.base c.args.start c.args.end c.args.values.now (λ e. some-number r (k ∙ e))))

pub returns-in_err-check_range : goal.returns-in_err-check_range
returns-in_err-check_range c =
    let p = err_from_is_err_and c.from_residual-in_err-check_range.result c.from_residual-in_err-check_range.ensures.1 in
    let r = c.in_err-check_range.field-0.0 in
    let k = simp (to_z-of_z c.ranges.base) at c.in_err-check_range.ensures in
    rw (p.1, p.2) (ap refusal k ∙ sym (ordered-refused _ _ c.args.base c.args.start c.args.end c.args.values.now (λ e. some-number r (k ∙ e))))

pub ordered_full_range-requires : goal.ordered_full_range-requires
ordered_full_range-requires c =
    let a = accepted (goal.at.ordered_full_range-requires c).In_ok-check_range in
    simp (to_z-of_z c.ranges.base) (a.traversal, a.bounded, a.forward, a.inside, a.few, a.within)

pub returns : goal.returns
returns c =
    let a = accepted (goal.at.returns c).In_ok-check_range in
    let made = simp (to_z-of_z c.ranges.base) at c.ordered_full_range.ensures in
    ap value (made ∙ ordered-accepted _ _ c.args.base c.args.start c.args.end c.args.values.now c.type_inv.values c.compile_in_place.new.self a)
    ∙ sym (ordered-number _ _ c.args.base c.args.start c.args.end c.args.values.now a.code)
