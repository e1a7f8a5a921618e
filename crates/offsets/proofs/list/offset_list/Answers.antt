use Rattle.std.proofs.Common.{◌≡◌, ◌-◌, ◌++◌, ℕ, List, ℤ, sym, ◌∙◌, ap, length, drop, arith}
use Rattle.std.proofs.Math.Facts.{to_z-of_z}
use Rattle.std.proofs.lemmas.Result.{err_from_is_err_and}
use Rattle.refusals.specs.declared.Refusal.{Refusal}
use Rattle.refusals.specs.Codes.{number}
use Rattle.offsets.specs.Lists.{range_code, list_code, list_buffer}
use Rattle.offsets.proofs.Ranges.{list-0, list-8, list-refused, list-kept, list-filled}
use Rattle.refusals.proofs.Numbers.{some-number}
use Rattle.offsets.proofs.Checked.{Checked, checked, compile-refused}
use Rattle.offsets.proofs.list.offset_list.Goals as goal
use Rattle.offsets.proofs.list.offset_list.Goals.{In_ok-check_range}

-- a range that is refused: the code, and the buffer as it was
module _ (ns : List ℕ) (ss : List ℤ) (base : ℤ) (start end len : ℕ) (e : Refusal) (k : number e ≡ range_code ns ss base start end len) where
  code-refused : (room : ℕ) → number e ≡ list_code ns ss base start end len room
  code-refused room = k ∙ sym (list-refused ns ss base start end len room (λ z. some-number e (k ∙ z)))

  buffer-refused : (out : List ℤ) → out ≡ list_buffer ns ss base start end len out
  buffer-refused out = list-kept ns ss base start end len out (λ z. some-number e (code-refused (length out) ∙ z))

accepted : (c : In_ok-check_range) → Checked c.args.sizes.now c.args.strides.now c.args.base c.args.start c.args.end c.args.length c.compile_in_place.new.self
accepted c =
    checked _ _ c.compile_in_place.new.self c.in_ok-compile_in_place.ensures.value c.args.base c.args.start c.args.end c.args.length (sym (simp (to_z-of_z c.ranges.base) at c.in_ok-check_range.ensures))

pub returns-in_err-compile_in_place-clause-result_value : goal.returns-in_err-compile_in_place-clause-result_value
returns-in_err-compile_in_place-clause-result_value c =
    let p = err_from_is_err_and c.from_residual.result c.from_residual.ensures.1 in
    let k = compile-refused _ _ c.in_err-compile_in_place.field-0.0 c.in_err-compile_in_place.ensures.value c.args.base c.args.start c.args.end c.args.length in
    rw (p.1, p.2) (code-refused _ _ c.args.base c.args.start c.args.end c.args.length c.in_err-compile_in_place.field-0.0 k (length c.args.out.now))

pub returns-in_err-compile_in_place-clause-out_after : goal.returns-in_err-compile_in_place-clause-out_after
returns-in_err-compile_in_place-clause-out_after c =
    let k = compile-refused _ _ c.in_err-compile_in_place.field-0.0 c.in_err-compile_in_place.ensures.value c.args.base c.args.start c.args.end c.args.length in
    buffer-refused _ _ c.args.base c.args.start c.args.end c.args.length c.in_err-compile_in_place.field-0.0 k c.args.out.now

pub returns-in_err-check_range-clause-result_value : goal.returns-in_err-check_range-clause-result_value
returns-in_err-check_range-clause-result_value c =
    let p = err_from_is_err_and c.from_residual-in_err-check_range.result c.from_residual-in_err-check_range.ensures.1 in
    let k = simp (to_z-of_z c.ranges.base) at c.in_err-check_range.ensures in
    rw (p.1, p.2) (code-refused _ _ c.args.base c.args.start c.args.end c.args.length c.in_err-check_range.field-0.0 k (length c.args.out.now))

pub returns-in_err-check_range-clause-out_after : goal.returns-in_err-check_range-clause-out_after
returns-in_err-check_range-clause-out_after c =
    let k = simp (to_z-of_z c.ranges.base) at c.in_err-check_range.ensures in
    buffer-refused _ _ c.args.base c.args.start c.args.end c.args.length c.in_err-check_range.field-0.0 k c.args.out.now

pub overflow_sub-end : goal.overflow_sub-end
overflow_sub-end c = let a = accepted c in omega (arith, a.forward)

pub returns-then-out-end-clause-result_value : goal.returns-then-out-end-clause-result_value
returns-then-out-end-clause-result_value c =
    let a = accepted (goal.at.returns-then-out-end-clause-result_value c).In_ok-check_range in
    sym (list-8 _ _ c.args.base c.args.start c.args.end c.args.length a.ranged (length c.args.out.now) c.if-out-end.true)

pub returns-then-out-end-clause-out_after : goal.returns-then-out-end-clause-out_after
returns-then-out-end-clause-out_after c =
    let a = accepted (goal.at.returns-then-out-end-clause-out_after c).In_ok-check_range in
    let k = list-8 _ _ c.args.base c.args.start c.args.end c.args.length a.ranged (length c.args.out.now) c.if-out-end.true in
    list-kept _ _ c.args.base c.args.start c.args.end c.args.length c.args.out.now (λ z. let no = sym k ∙ z in absurd (omega (arith, no)))

pub write_offsets-requires : goal.write_offsets-requires
write_offsets-requires c =
    let a = accepted (goal.at.write_offsets-requires c).In_ok-check_range in
    simp (to_z-of_z c.ranges.base) (a.traversal, a.bounded, a.forward, a.inside, c.if-out-end.false)

pub returns-clause-result_value : goal.returns-clause-result_value
returns-clause-result_value c =
    let a = accepted (goal.at.returns-clause-result_value c).In_ok-check_range in
    sym (list-0 _ _ c.args.base c.args.start c.args.end c.args.length a.ranged (length c.args.out.now) c.if-out-end.false)

pub returns-clause-out_after : goal.returns-clause-out_after
returns-clause-out_after c =
    let a = accepted (goal.at.returns-clause-out_after c).In_ok-check_range in
    let k = list-0 _ _ c.args.base c.args.start c.args.end c.args.length a.ranged (length c.args.out.now) c.if-out-end.false in
    let n = c.args.end - c.args.start in
    simp (to_z-of_z c.ranges.base) at c.write_offsets.ensures
    ∙ ap (λ (o : List ℤ). o ++ drop n c.args.out.now) (a.offsets n c.args.start)
    ∙ list-filled _ _ c.args.base c.args.start c.args.end c.args.length c.args.out.now k
