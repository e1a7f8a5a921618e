-- `reduction::full::reduce`: refused by the layout, refused by the range, or the range's product.
use Rattle.std.proofs.Common.{sym, length}
use Rattle.std.proofs.Math.Facts.{to_z-of_z}
use Rattle.std.proofs.lemmas.Result.{err_from_is_err_and}
use Rattle.offsets.proofs.Checked.{Checked, checked, compile-refused}
use Rattle.reduction.proofs.Calls.{told-refused, told-product}
use Rattle.reduction.proofs.full.reduce.Goals as goal
use Rattle.reduction.proofs.full.reduce.Goals.{In_ok-check_range}

-- an accepted range
accepted : (c : In_ok-check_range) → Checked c.args.sizes.now c.args.strides.now c.args.base c.args.start c.args.end (length c.args.values.now) c.compile_in_place.new.self
accepted c =
    checked _ _ c.compile_in_place.new.self c.in_ok-compile_in_place.ensures.value c.args.base c.args.start c.args.end (length c.args.values.now)
    (sym (simp (to_z-of_z c.ranges.base) at c.in_ok-check_range.ensures))

pub returns-in_err-compile_in_place : goal.returns-in_err-compile_in_place
returns-in_err-compile_in_place c =
    let p = err_from_is_err_and c.from_residual.result c.from_residual.ensures.1 in
    let k = compile-refused _ _ c.in_err-compile_in_place.field-0.0 c.in_err-compile_in_place.ensures.value c.args.base c.args.start c.args.end (length c.args.values.now) in
    rw (p.1, p.2) (told-refused _ _ c.args.base c.args.start c.args.end c.args.values.now c.in_err-compile_in_place.field-0.0 k)

pub returns-in_err-check_range : goal.returns-in_err-check_range
returns-in_err-check_range c =
    let p = err_from_is_err_and c.from_residual-in_err-check_range.result c.from_residual-in_err-check_range.ensures.1 in
    let k = simp (to_z-of_z c.ranges.base) at c.in_err-check_range.ensures in
    rw (p.1, p.2) (told-refused _ _ c.args.base c.args.start c.args.end c.args.values.now c.in_err-check_range.field-0.0 k)

pub reduce_full_range-requires : goal.reduce_full_range-requires
reduce_full_range-requires c =
    let a = accepted (goal.at.reduce_full_range-requires c).In_ok-check_range in
    simp (to_z-of_z c.ranges.base) (a.traversal, a.bounded, a.forward, a.inside, a.few, a.within)

pub returns : goal.returns
returns c =
    let a = accepted (goal.at.returns c).In_ok-check_range in
    told-product _ _ c.args.base c.args.start c.args.end c.args.values.now c.compile_in_place.new.self a c.reduce_full_range.result
    (simp (to_z-of_z c.ranges.base) at c.reduce_full_range.ensures)
