-- A refusal of the range, or the lowest bad rate.
use Rattle.std.proofs.Common.{◌-◌, ◌≡◌, refl, sym, ◌∙◌, ap, Bool, length}
use Rattle.std.specs.Prelude.{Ok}
use Rattle.std.specs.declared.ops.ControlFlow.{ControlFlow}
use Rattle.std.specs.declared.ops.ControlFlow.TheVariants.{Break, Continue}
use Rattle.std.specs.ControlFlow.{break_value}
use Rattle.std.proofs.lemmas.Result.{err_from_is_err_and}
use mir.Facts.{to_z-of_z}
use Rattle.refusals.specs.Codes.{number}
use Rattle.offsets.specs.Lists.{range_code}
use Rattle.refusals.proofs.Numbers.{some-number}
use Rattle.offsets.proofs.Checked.{checked, compiled, compile-refused}
use Rattle.search.specs.declared.BadRate.{BadRate}
use Rattle.search.specs.Searching.{refusal, lowest_bad, search_answer_of}
use Rattle.search.specs.InnerLooks.{look_answer}
use Rattle.search.proofs.Calls.{search-refused, search-accepted}
use Rattle.search.proofs.first_bad_rate.Goals as goal

pub returns-in_err-compile_in_place : goal.returns-in_err-compile_in_place
returns-in_err-compile_in_place c =
    let r = c.in_err-compile_in_place.field-0.0 in
    let p = err_from_is_err_and c.from_residual.result c.from_residual.ensures.1 in
    let same : p.0 ≡ r = cc in
    let e = compile-refused c.args.sizes.now c.args.strides.now r c.in_err-compile_in_place.ensures.value c.args.base c.args.start c.args.end (length c.args.values.now) in
    ap search_answer_of p.1
    ∙ ap refusal (ap number same ∙ e)
    ∙ sym (search-refused c.args.sizes.now c.args.strides.now c.args.base c.args.start c.args.end c.args.values.now (λ z. some-number r (e ∙ z)))

pub check_range-requires : goal.check_range-requires
check_range-requires c = compiled c.args.sizes.now c.args.strides.now _ c.in_ok-compile_in_place.ensures.value

pub returns-in_err-check_range : goal.returns-in_err-check_range
returns-in_err-check_range c =
    let r = c.in_err-check_range.field-0.0 in
    let p = err_from_is_err_and c.from_residual-in_err-check_range.result c.from_residual-in_err-check_range.ensures.1 in
    let same : p.0 ≡ r = cc in
    let e : number r ≡ range_code c.args.sizes.now c.args.strides.now c.args.base c.args.start c.args.end (length c.args.values.now)
    = simp (to_z-of_z c.ranges.base) at c.in_err-check_range.ensures in
    ap search_answer_of p.1
    ∙ ap refusal (ap number same ∙ e)
    ∙ sym (search-refused c.args.sizes.now c.args.strides.now c.args.base c.args.start c.args.end c.args.values.now (λ z. some-number r (e ∙ z)))

pub first_in_range-requires : goal.first_in_range-requires
first_in_range-requires c =
    let e = sym (simp (to_z-of_z c.ranges.base) at c.in_ok-check_range.ensures) in
    let a = checked c.args.sizes.now c.args.strides.now _ c.in_ok-compile_in_place.ensures.value c.args.base c.args.start c.args.end (length c.args.values.now) e in
    simp (to_z-of_z c.ranges.base) (a.traversal, a.bounded, a.forward, a.inside, a.few, a.within)

told-same : (x : ControlFlow BadRate Bool) → search_answer_of (Ok (break_value x)) ≡ look_answer x
told-same (Break b) = refl
told-same (Continue signs) = refl

pub returns : goal.returns
returns c =
    let e = sym (simp (to_z-of_z c.ranges.base) at c.in_ok-check_range.ensures) in
    let a = checked c.args.sizes.now c.args.strides.now _ c.in_ok-compile_in_place.ensures.value c.args.base c.args.start c.args.end (length c.args.values.now) e in
    ap (λ r. search_answer_of (Ok r)) c.break_value.ensures.value
    ∙ told-same _
    ∙ (simp (to_z-of_z c.ranges.base) at c.first_in_range.ensures)
    ∙ ap (lowest_bad c.args.values.now c.args.start) (a.offsets (c.args.end - c.args.start) c.args.start)
    ∙ sym (search-accepted c.args.sizes.now c.args.strides.now c.args.base c.args.start c.args.end c.args.values.now a.code)
