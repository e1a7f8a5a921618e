-- `figures::figure`: a refusal of the layout or of the range, the ordered product where the mark is set, or the finished number.
use Rattle.std.proofs.Common.{sym, ◌∙◌, ap, length, Ok}
use Rattle.std.proofs.Math.Facts.{to_z-of_z}
use Rattle.std.proofs.lemmas.Result.{err_from_is_err_and}
use Rattle.accumulator.specs.declared.StableProductFloatAcc.{StableProductFloatAcc}
use Rattle.accumulator.specs.Joining.{accumulator}
use Rattle.finishing.specs.Finishing.{value, finished_of}
use Rattle.finishing.proofs.Answers.{finished-told}
use Rattle.offsets.proofs.Checked.{Checked, checked, compile-refused}
use Rattle.reduction.proofs.Demand.{values-fit}
use Rattle.reduction.proofs.Whole.{rule-D3}
use Rattle.ordered.proofs.Calls.{ordered-accepted}
use Rattle.figures.proofs.Calls.{figure-bad, told-refused, reduced-range}
use Rattle.figures.proofs.Theorems.{rule-O4}
use Rattle.figures.proofs.figure.Goals as goal
use Rattle.figures.proofs.figure.Goals.{In_ok-check_range}

-- an accepted range
accepted : (c : In_ok-check_range) → Checked c.args.sizes.now c.args.strides.now c.args.base c.args.start c.args.end (length c.args.values.now) c.compile_in_place.new.self
accepted c =
    checked _ _ c.compile_in_place.new.self c.in_ok-compile_in_place.ensures.value c.args.base c.args.start c.args.end (length c.args.values.now)
    (sym (simp (to_z-of_z c.ranges.base) at c.in_ok-check_range.ensures))

pub returns-in_err-compile_in_place : goal.returns-in_err-compile_in_place
returns-in_err-compile_in_place c =
    let p = err_from_is_err_and c.from_residual.result c.from_residual.ensures.1 in
    let k = compile-refused _ _ c.in_err-compile_in_place.field-0.0 c.in_err-compile_in_place.ensures.value c.args.base c.args.start c.args.end (length c.args.values.now) in
    rw (p.1, p.2) (told-refused _ _ c.args.base c.args.start c.args.end c.args.values.now c.in_err-compile_in_place.field-0.0 k)

pub returns-in_err-check_range : goal.returns-in_err-check_range
returns-in_err-check_range c =
    let p = err_from_is_err_and c.from_residual-in_err-check_range.result c.from_residual-in_err-check_range.ensures.1 in
    let k = simp (to_z-of_z c.ranges.base) at c.in_err-check_range.ensures in
    rw (p.1, p.2) (told-refused _ _ c.args.base c.args.start c.args.end c.args.values.now c.in_err-check_range.field-0.0 k)

pub reduce_full_range-acc-requires : goal.reduce_full_range-acc-requires
reduce_full_range-acc-requires c =
    let a = accepted (goal.at.reduce_full_range-acc-requires c).In_ok-check_range in
    simp (to_z-of_z c.ranges.base) (a.traversal, a.bounded, a.forward, a.inside, a.few, a.within)

pub ordered_full_range-requires : goal.ordered_full_range-requires
ordered_full_range-requires c =
    let a = accepted (goal.at.ordered_full_range-requires c).In_ok-check_range in
    simp (to_z-of_z c.ranges.base) (a.traversal, a.bounded, a.forward, a.inside, a.few, a.within)

pub returns-then-acc : goal.returns-then-acc
returns-then-acc c =
    let a = accepted (goal.at.returns-then-acc c).In_ok-check_range in
    let made = simp (to_z-of_z c.ranges.base) at c.ordered_full_range.ensures in
    let reduced = reduced-range _ _ c.args.base c.args.start c.args.end c.args.values.now c.compile_in_place.new.self a c.reduce_full_range-acc.result
    (simp (to_z-of_z c.ranges.base) at c.reduce_full_range-acc.ensures) in
    ap value (made ∙ ordered-accepted _ _ c.args.base c.args.start c.args.end c.args.values.now c.type_inv.values c.compile_in_place.new.self a)
    ∙ sym (figure-bad _ _ c.args.base c.args.start c.args.end c.args.values.now a.code
    (sym (ap (λ (x : StableProductFloatAcc). x.bad) reduced) ∙ c.if-acc.true))

pub returns : goal.returns
returns c =
    let a = accepted (goal.at.returns c).In_ok-check_range in
    let v = values-fit c.args.values.now c.type_inv.values in
    let d = rule-D3 c.args.sizes.now c.args.strides.now c.args.base c.args.start c.args.end c.args.values.now v a.code in
    let o = rule-O4 c.args.sizes.now c.args.strides.now c.args.base c.args.start c.args.end c.args.values.now v a.code in
    let reduced = reduced-range _ _ c.args.base c.args.start c.args.end c.args.values.now c.compile_in_place.new.self a c.reduce_full_range-acc.result
    (simp (to_z-of_z c.ranges.base) at c.reduce_full_range-acc.ensures) in
    finished-told (Ok c.reduce_full_range-acc.result) c.finish.result c.finish.ensures
    ∙ ap finished_of (ap (λ (x : StableProductFloatAcc). accumulator x.m x.e x.bad) reduced ∙ sym d.answer)
    ∙ sym (o.finished (sym d.mark ∙ sym (ap (λ (x : StableProductFloatAcc). x.bad) reduced) ∙ c.if-acc.false))
