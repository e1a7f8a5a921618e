-- What is left of the axes after those gone through, from the span so far, is the whole test.
use Rattle.std.proofs.Common.{◌≡◌, length}
use Rattle.std.specs.Iterator.Adapters.{zip_first, zip_second}
use Rattle.std.specs.Slice.Iter.{iter_rest}
use Rattle.layout.specs.Axes.{axes_in}
use Rattle.offsets.specs.InnerCursors.{Axes}
use Rattle.offsets.proofs.Inside.{Spanning}
use Rattle.offsets.proofs.bounds.inside_from.Given as goal

abbrev pub invariant-loop-size : goal.invariant-loop-size
invariant-loop-size l =
    let ns = iter_rest (zip_first l.size-iterator) in
    let ss = iter_rest (zip_second l.size-iterator) in
    (length ns ≡ length ss) × Axes (axes_in ns ss) × Spanning (axes_in l.sizes l.strides) (axes_in ns ss) l.base l.last l.span
