use Rattle.std.proofs.Common.{◌≡◌, sym, ◌∙◌, ap, length}
use native.Mathlib.Nat.{le_trans}
use mir.Facts.{to_z-of_z}
use Rattle.std.specs.Prelude.{Ok}
use Rattle.std.proofs.lemmas.Result.{err_from_is_err_and}
use Rattle.refusals.specs.Codes.{number}
use Rattle.offsets.specs.Lists.{range_code}
use Rattle.refusals.proofs.Numbers.{some-number}
use Rattle.offsets.proofs.Checked.{checked, compiled, compile-refused}
use Rattle.offsets.proofs.Runs.{run-some}
use Rattle.accumulator.specs.Joining.{refusal, answer_of}
use Rattle.bookmarks.specs.Steps.{Refused, step_answer_of}
use Rattle.bookmarks.proofs.Calls.{code-range, step-refused}
use Rattle.bookmarks.proofs.Stepping.{faults, below, stands, forward, upto, tells}
use Rattle.bookmarks.proofs.reduce_step.Goals as goal

pub returns-in_err-compile_in_place : goal.returns-in_err-compile_in_place
returns-in_err-compile_in_place c =
    let r = c.in_err-compile_in_place.field-0.0 in
    let p = err_from_is_err_and c.from_residual.result c.from_residual.ensures.1 in
    let same : p.0 ≡ r = cc in
    let e = compile-refused c.args.sizes.now c.args.strides.now r c.in_err-compile_in_place.ensures.value c.args.base c.args.start c.args.end (length c.args.values.now) in
    ap step_answer_of p.1
    ∙ ap Refused (ap number same)
    ∙ step-refused c.args.sizes.now c.args.strides.now c.args.base c.args.start c.args.end c.args.values.now c.args.mark c.args.n (number r)
    (e
    ∙ code-range c.args.sizes.now c.args.strides.now c.args.base c.args.start c.args.end c.args.values.now c.args.mark c.args.n
    (λ z. some-number r (e ∙ z))) (some-number r)

pub check_range-requires : goal.check_range-requires
check_range-requires c = compiled c.args.sizes.now c.args.strides.now _ c.in_ok-compile_in_place.ensures.value

pub returns-in_err-check_range : goal.returns-in_err-check_range
returns-in_err-check_range c =
    let r = c.in_err-check_range.field-0.0 in
    let p = err_from_is_err_and c.from_residual-in_err-check_range.result c.from_residual-in_err-check_range.ensures.1 in
    let same : p.0 ≡ r = cc in
    let e : number r ≡ range_code c.args.sizes.now c.args.strides.now c.args.base c.args.start c.args.end (length c.args.values.now)
    = simp (to_z-of_z c.ranges.base) at c.in_err-check_range.ensures in
    ap step_answer_of p.1
    ∙ ap Refused (ap number same)
    ∙ step-refused c.args.sizes.now c.args.strides.now c.args.base c.args.start c.args.end c.args.values.now c.args.mark c.args.n (number r)
    (e
    ∙ code-range c.args.sizes.now c.args.strides.now c.args.base c.args.start c.args.end c.args.values.now c.args.mark c.args.n
    (λ z. some-number r (e ∙ z))) (some-number r)

pub check_step-requires : goal.check_step-requires
check_step-requires c =
    let a = checked c.args.sizes.now c.args.strides.now _ c.in_ok-compile_in_place.ensures.value c.args.base c.args.start c.args.end (length c.args.values.now)
    (sym (simp (to_z-of_z c.ranges.base) at c.in_ok-check_range.ensures)) in
    run-some c.compile_in_place.new.self a.traversal

pub returns-in_err-check_step : goal.returns-in_err-check_step
returns-in_err-check_step c =
    let a = checked c.args.sizes.now c.args.strides.now _ c.in_ok-compile_in_place.ensures.value c.args.base c.args.start c.args.end (length c.args.values.now)
    (sym (simp (to_z-of_z c.ranges.base) at c.in_ok-check_range.ensures)) in
    let r = c.in_err-check_step.field-0.0 in
    let p = err_from_is_err_and c.from_residual-in_err-check_step.result c.from_residual-in_err-check_step.ensures.1 in
    let same : p.0 ≡ r = cc in
    ap step_answer_of p.1
    ∙ ap Refused (ap number same)
    ∙ step-refused c.args.sizes.now c.args.strides.now c.args.base c.args.start c.args.end c.args.values.now c.args.mark c.args.n (number r)
    (c.in_err-check_step.ensures
    ∙ faults c.args.sizes.now c.args.strides.now c.args.base c.args.start c.args.end c.args.values.now c.args.mark c.args.n c.compile_in_place.new.self a)
    (some-number r)

pub portion_from-p-requires : goal.portion_from-p-requires
portion_from-p-requires c =
    let a = checked c.args.sizes.now c.args.strides.now _ c.in_ok-compile_in_place.ensures.value c.args.base c.args.start c.args.end (length c.args.values.now)
    (sym (simp (to_z-of_z c.ranges.base) at c.in_ok-check_range.ensures)) in (
      run-some c.compile_in_place.new.self a.traversal,
      below c.args.sizes.now c.args.strides.now c.args.base c.args.start c.args.end c.args.values.now c.args.mark c.args.n c.compile_in_place.new.self a
          (sym c.in_ok-check_step.ensures),
      le_trans a.inside a.few,
    )

pub reduce_portion-requires : goal.reduce_portion-requires
reduce_portion-requires c =
    let a = checked c.args.sizes.now c.args.strides.now _ c.in_ok-compile_in_place.ensures.value c.args.base c.args.start c.args.end (length c.args.values.now)
    (sym (simp (to_z-of_z c.ranges.base) at c.in_ok-check_range.ensures)) in
    let z = sym c.in_ok-check_step.ensures in
    let s = c.portion_from-p.ensures.0 in
    let u = upto c.args.sizes.now c.args.strides.now c.args.base c.args.start c.args.end c.args.values.now c.args.mark c.args.n c.compile_in_place.new.self a z _ s in
    simp (to_z-of_z c.ranges.base) (
      a.traversal,
      a.bounded,
      forward c.args.sizes.now c.args.strides.now c.args.base c.args.start c.args.end c.args.values.now c.args.mark c.args.n c.compile_in_place.new.self a z _ s,
      le_trans u a.inside,
      a.few,
      a.within,
      stands c.args.sizes.now c.args.strides.now c.args.base c.args.start c.args.end c.args.values.now c.args.mark c.args.n c.compile_in_place.new.self a z,
    )

pub returns-in_err-acc : goal.returns-in_err-acc
returns-in_err-acc c =
    let a = checked c.args.sizes.now c.args.strides.now _ c.in_ok-compile_in_place.ensures.value c.args.base c.args.start c.args.end (length c.args.values.now)
    (sym (simp (to_z-of_z c.ranges.base) at c.in_ok-check_range.ensures)) in
    let r = c.in_err-acc.field-0.0 in
    let p = err_from_is_err_and c.from_residual-in_err-acc.result c.from_residual-in_err-acc.ensures.1 in
    let same : p.0 ≡ r = cc in
    ap step_answer_of p.1
    ∙ ap Refused (ap number same)
    ∙ tells c.args.sizes.now c.args.strides.now c.args.base c.args.start c.args.end c.args.values.now c.args.mark c.args.n c.compile_in_place.new.self a
    (sym c.in_ok-check_step.ensures) c.portion_from-p.result.stop c.portion_from-p.result.pieces c.portion_from-p.ensures.0 c.portion_from-p.ensures.1
    (refusal (number r)) (simp (to_z-of_z c.ranges.base) at c.in_err-acc.ensures)

pub returns : goal.returns
returns c =
    let a = checked c.args.sizes.now c.args.strides.now _ c.in_ok-compile_in_place.ensures.value c.args.base c.args.start c.args.end (length c.args.values.now)
    (sym (simp (to_z-of_z c.ranges.base) at c.in_ok-check_range.ensures)) in
    c.tell.ensures
    ∙ tells c.args.sizes.now c.args.strides.now c.args.base c.args.start c.args.end c.args.values.now c.args.mark c.args.n c.compile_in_place.new.self a
    (sym c.in_ok-check_step.ensures) c.portion_from-p.result.stop c.portion_from-p.result.pieces c.portion_from-p.ensures.0 c.portion_from-p.ensures.1
    (answer_of (Ok c.in_ok-acc.acc)) (simp (to_z-of_z c.ranges.base) at c.in_ok-acc.ensures)
