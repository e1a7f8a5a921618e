-- Each refusal by the first condition that holds, else the layout.
use Rattle.std.proofs.Common.{◌≡◌, true, sym, ◌∙◌, ap, ℕ, ◌≤◌, List, [], ◌∷◌, take, pos, get_or, Some, None, arith, rules, w64}
use Rattle.std.specs.Option.{is_some, option_map}
use Rattle.std.proofs.lemmas.Result.{err_from_is_err_and}
use mir.Val.{SFits}
use mir.Facts.{to_z-of_z}
use Rattle.layout.specs.Axes.{PLACES}
use Rattle.layout.specs.Order.{resets_fit, kept_axes, axes_of}
use Rattle.layout.specs.Fuse.{fuse}
use Rattle.layout.specs.Compile.{total_of, layout_of, empty_layout, compile_of}
use Rattle.layout.proofs.Compiling.{accepted, refused-as, no-total, no-elements, no-resets, no-fusing, is-layout, code-1, code-2, code-3, code-4, code-0}
use Rattle.layout.proofs.Line.{single}
use Rattle.layout.proofs.Outer.{take_two}
use Rattle.layout.proofs.traversal.FullTraversal.compile_in_place.Goals as goal

pub returns-then-sizes-strides-clause-value : goal.returns-then-sizes-strides-clause-value
returns-then-sizes-strides-clause-value c = sym (code-1 c.args.sizes.now c.args.strides.now c.if-sizes-strides.true)

pub returns-then-sizes-eq1-clause-value : goal.returns-then-sizes-eq1-clause-value
returns-then-sizes-eq1-clause-value c =
    let d : SFits w64 (get_or c.args.strides.now 0 (pos 0)) = search rules in
    simp (to_z-of_z d) at c.compile_line.ensures.value
    ∙ ap (λ (z : List ℕ). compile_of PLACES z (get_or c.args.strides.now 0 (pos 0) ∷ [])) (single 0 c.args.sizes.now c.if-sizes-eq1.true)
    ∙ ap (compile_of PLACES c.args.sizes.now) (single (pos 0) c.args.strides.now (sym c.if-sizes-strides.false ∙ c.if-sizes-eq1.true))

pub returns-then-sizes-gt-PLACES-clause-value : goal.returns-then-sizes-gt-PLACES-clause-value
returns-then-sizes-gt-PLACES-clause-value c = sym (code-2 c.args.sizes.now c.args.strides.now c.if-sizes-strides.false c.if-sizes-gt-PLACES.true)

pub returns-in_err-total-clause-value : goal.returns-in_err-total-clause-value
returns-in_err-total-clause-value c =
    let p = err_from_is_err_and c.from_residual.result c.from_residual.ensures.1 in
    let n : c.checked_total.result ≡ None = c.in_err-total.ensures.ok_part in
    refused-as _ c.from_residual.result p.0 c.in_err-total.field-0.0 _ c.checked_total.result p.1 p.2 n c.in_err-total.ensures.value
    ∙ sym (code-3 c.args.sizes.now c.args.strides.now c.if-sizes-strides.false c.if-sizes-gt-PLACES.false (no-total c.args.sizes.now c.args.strides.now (sym c.checked_total.ensures ∙ n)))

pub returns-then-total-eq0-clause-value : goal.returns-then-total-eq0-clause-value
returns-then-total-eq0-clause-value c =
    let t : total_of c.args.sizes.now ≡ Some c.in_ok-total.total = sym c.checked_total.ensures ∙ c.in_ok-total.ensures.ok_part in
    ap accepted c.empty.ensures
    ∙ sym (code-0 c.args.sizes.now c.args.strides.now c.if-sizes-strides.false c.if-sizes-gt-PLACES.false (empty_layout PLACES) c.in_ok-total.total
    (no-elements c.args.sizes.now c.args.strides.now c.in_ok-total.total t c.if-total-eq0.true) t (omega (arith, c.if-total-eq0.true)))

pub returns-in_err-kept-clause-value : goal.returns-in_err-kept-clause-value
returns-in_err-kept-clause-value c =
    let t : total_of c.args.sizes.now ≡ Some c.in_ok-total.total = sym c.checked_total.ensures ∙ c.in_ok-total.ensures.ok_part in
    let p = err_from_is_err_and c.from_residual-in_err-kept.result c.from_residual-in_err-kept.ensures.1 in
    let n : c.ordered_axes.result ≡ None = c.in_err-kept.ensures.ok_part in
    refused-as _ c.from_residual-in_err-kept.result p.0 c.in_err-kept.field-0.0 _ c.ordered_axes.result p.1 p.2 n c.in_err-kept.ensures.value
    ∙ sym (code-3 c.args.sizes.now c.args.strides.now c.if-sizes-strides.false c.if-sizes-gt-PLACES.false
    (no-resets c.args.sizes.now c.args.strides.now c.in_ok-total.total t c.if-total-eq0.false (sym c.ordered_axes.ensures.resets ∙ ap is_some n)))

pub compress_reduce_outer_axes-requires : goal.compress_reduce_outer_axes-requires
compress_reduce_outer_axes-requires c =
    let k : c.ordered_axes.result ≡ Some c.in_ok-kept.kept = c.in_ok-kept.ensures.ok_part in
    let r : resets_fit (kept_axes c.args.sizes.now c.args.strides.now) ≡ true = sym c.ordered_axes.ensures.resets ∙ ap is_some k in
    let a : (take c.in_ok-kept.kept c.ordered_axes.new.axes ≡ axes_of c.args.sizes.now c.args.strides.now) × (c.in_ok-kept.kept ≤ PLACES) = rw k at c.ordered_axes.ensures.axes_after in
    a.1

pub returns-in_err-count-clause-value : goal.returns-in_err-count-clause-value
returns-in_err-count-clause-value c =
    let t : total_of c.args.sizes.now ≡ Some c.in_ok-total.total = sym c.checked_total.ensures ∙ c.in_ok-total.ensures.ok_part in
    let k : c.ordered_axes.result ≡ Some c.in_ok-kept.kept = c.in_ok-kept.ensures.ok_part in
    let r : resets_fit (kept_axes c.args.sizes.now c.args.strides.now) ≡ true = sym c.ordered_axes.ensures.resets ∙ ap is_some k in
    let a : (take c.in_ok-kept.kept c.ordered_axes.new.axes ≡ axes_of c.args.sizes.now c.args.strides.now) × (c.in_ok-kept.kept ≤ PLACES) = rw k at c.ordered_axes.ensures.axes_after in
    let p = err_from_is_err_and c.from_residual-in_err-count.result c.from_residual-in_err-count.ensures.1 in
    let n : c.compress_reduce_outer_axes.result ≡ None = c.in_err-count.ensures.ok_part in
    refused-as _ c.from_residual-in_err-count.result p.0 c.in_err-count.field-0.0 _ c.compress_reduce_outer_axes.result p.1 p.2 n c.in_err-count.ensures.value
    ∙ sym (code-3 c.args.sizes.now c.args.strides.now c.if-sizes-strides.false c.if-sizes-gt-PLACES.false
    (no-fusing c.args.sizes.now c.args.strides.now c.in_ok-total.total t c.if-total-eq0.false r _ a.0
    (c.compress_reduce_outer_axes.ensures.axes_after ∙ ap (option_map (λ (m : ℕ). take m c.compress_reduce_outer_axes.new.axes)) n)))

pub returns-then-total-gt-MOST_ELEMENTS-clause-value : goal.returns-then-total-gt-MOST_ELEMENTS-clause-value
returns-then-total-gt-MOST_ELEMENTS-clause-value c =
    let t : total_of c.args.sizes.now ≡ Some c.in_ok-total.total = sym c.checked_total.ensures ∙ c.in_ok-total.ensures.ok_part in
    let k : c.ordered_axes.result ≡ Some c.in_ok-kept.kept = c.in_ok-kept.ensures.ok_part in
    let r : resets_fit (kept_axes c.args.sizes.now c.args.strides.now) ≡ true = sym c.ordered_axes.ensures.resets ∙ ap is_some k in
    let a : (take c.in_ok-kept.kept c.ordered_axes.new.axes ≡ axes_of c.args.sizes.now c.args.strides.now) × (c.in_ok-kept.kept ≤ PLACES) = rw k at c.ordered_axes.ensures.axes_after in
    let f : fuse (take c.in_ok-kept.kept c.ordered_axes.new.axes) ≡ Some (take c.in_ok-count.count c.compress_reduce_outer_axes.new.axes)
    = c.compress_reduce_outer_axes.ensures.axes_after ∙ ap (option_map (λ (n : ℕ). take n c.compress_reduce_outer_axes.new.axes)) c.in_ok-count.ensures.ok_part in
    let l = is-layout c.args.sizes.now c.args.strides.now c.in_ok-total.total t c.if-total-eq0.false r _ a.0 _ f in
    sym (code-4 c.args.sizes.now c.args.strides.now c.if-sizes-strides.false c.if-sizes-gt-PLACES.false _ c.in_ok-total.total l t c.if-total-gt-MOST_ELEMENTS.true)

pub returns-then-count-eq2-clause-value : goal.returns-then-count-eq2-clause-value
returns-then-count-eq2-clause-value c =
    let t : total_of c.args.sizes.now ≡ Some c.in_ok-total.total = sym c.checked_total.ensures ∙ c.in_ok-total.ensures.ok_part in
    let k : c.ordered_axes.result ≡ Some c.in_ok-kept.kept = c.in_ok-kept.ensures.ok_part in
    let r : resets_fit (kept_axes c.args.sizes.now c.args.strides.now) ≡ true = sym c.ordered_axes.ensures.resets ∙ ap is_some k in
    let a : (take c.in_ok-kept.kept c.ordered_axes.new.axes ≡ axes_of c.args.sizes.now c.args.strides.now) × (c.in_ok-kept.kept ≤ PLACES) = rw k at c.ordered_axes.ensures.axes_after in
    let f : fuse (take c.in_ok-kept.kept c.ordered_axes.new.axes) ≡ Some (take c.in_ok-count.count c.compress_reduce_outer_axes.new.axes)
    = c.compress_reduce_outer_axes.ensures.axes_after ∙ ap (option_map (λ (n : ℕ). take n c.compress_reduce_outer_axes.new.axes)) c.in_ok-count.ensures.ok_part in
    let l = is-layout c.args.sizes.now c.args.strides.now c.in_ok-total.total t c.if-total-eq0.false r _ a.0 _ f in
    ap accepted
    (c.one_outer.ensures
    ∙ ap (layout_of PLACES c.in_ok-total.total)
    (sym (ap (λ (n : ℕ). take n c.compress_reduce_outer_axes.new.axes) c.if-count-eq2.true ∙ take_two _ (omega arith))))
    ∙ sym (code-0 c.args.sizes.now c.args.strides.now c.if-sizes-strides.false c.if-sizes-gt-PLACES.false _ c.in_ok-total.total l t c.if-total-gt-MOST_ELEMENTS.false)

pub returns-clause-value : goal.returns-clause-value
returns-clause-value c =
    let t : total_of c.args.sizes.now ≡ Some c.in_ok-total.total = sym c.checked_total.ensures ∙ c.in_ok-total.ensures.ok_part in
    let k : c.ordered_axes.result ≡ Some c.in_ok-kept.kept = c.in_ok-kept.ensures.ok_part in
    let r : resets_fit (kept_axes c.args.sizes.now c.args.strides.now) ≡ true = sym c.ordered_axes.ensures.resets ∙ ap is_some k in
    let a : (take c.in_ok-kept.kept c.ordered_axes.new.axes ≡ axes_of c.args.sizes.now c.args.strides.now) × (c.in_ok-kept.kept ≤ PLACES) = rw k at c.ordered_axes.ensures.axes_after in
    let f : fuse (take c.in_ok-kept.kept c.ordered_axes.new.axes) ≡ Some (take c.in_ok-count.count c.compress_reduce_outer_axes.new.axes)
    = c.compress_reduce_outer_axes.ensures.axes_after ∙ ap (option_map (λ (n : ℕ). take n c.compress_reduce_outer_axes.new.axes)) c.in_ok-count.ensures.ok_part in
    let l = is-layout c.args.sizes.now c.args.strides.now c.in_ok-total.total t c.if-total-eq0.false r _ a.0 _ f in
    ap accepted c.with_run.ensures ∙ sym (code-0 c.args.sizes.now c.args.strides.now c.if-sizes-strides.false c.if-sizes-gt-PLACES.false _ c.in_ok-total.total l t c.if-total-gt-MOST_ELEMENTS.false)
