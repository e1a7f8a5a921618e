use Rattle.std.proofs.Common.{◌≤◌, ◌<◌, sym, ◌∙◌, arith, []}
use Rattle.std.proofs.Math.Facts.{to_z-of_z}
use Rattle.refusals.specs.Refusals.{first_of}
use Rattle.layout.specs.Axes.{PLACES}
use Rattle.layout.specs.Compile.{compile_of}
use Rattle.offsets.proofs.Ranges.{clear, clear-axes, tested, place-7, place-0, range-5, range-6, range-places}
use Rattle.offsets.proofs.list.check_range.Goals as goal

pub returns-then-end-start : goal.returns-then-end-start
returns-then-end-start c = sym (range-5 _ _ c.args.base c.args.start c.args.end c.args.length (clear _ _ c.requires.0) c.if-end-start.true)

pub returns-then-total-end : goal.returns-then-total-end
returns-then-total-end c =
    sym (range-6 _ _ c.args.base c.args.start c.args.end c.args.length (clear _ _ c.requires.0) c.if-end-start.false
    (omega (arith, c.requires.1, c.if-total-end.true)))

pub inside-requires : goal.inside-requires
inside-requires c =
    let cleared = clear _ _ c.requires.0 in
    let some : 0 < (compile_of PLACES c.args.sizes.now c.args.strides.now).traversal.total = omega (arith, c.requires.1) in
    (cleared.same, clear-axes _ _ c.args.base c.args.length cleared some)

pub returns-then-inside : goal.returns-then-inside
unfolding first_of
returns-then-inside c =
    let cleared = clear _ _ c.requires.0 in
    let within : c.args.end ≤ (compile_of PLACES c.args.sizes.now c.args.strides.now).traversal.total = omega (arith, c.requires.1) in
    let told = simp (to_z-of_z c.ranges.base) at c.inside.ensures in
    sym (place-0 _ _ c.args.base c.args.length (tested _ _ c.args.base c.args.length cleared (omega arith) _ (sym c.if-inside.true ∙ told)) [])
    ∙ sym (range-places _ _ c.args.base c.args.start c.args.end c.args.length cleared c.if-end-start.false within)

pub returns : goal.returns
returns c =
    let cleared = clear _ _ c.requires.0 in
    let within : c.args.end ≤ (compile_of PLACES c.args.sizes.now c.args.strides.now).traversal.total = omega (arith, c.requires.1) in
    let told = simp (to_z-of_z c.ranges.base) at c.inside.ensures in
    sym (place-7 _ _ c.args.base c.args.length (tested _ _ c.args.base c.args.length cleared (omega arith) _ (sym c.if-inside.false ∙ told)))
    ∙ sym (range-places _ _ c.args.base c.args.start c.args.end c.args.length cleared c.if-end-start.false within)
