-- Inner: how many elements the axes of a layout have.
use Rattle.std.specs.Prelude.{ℕ, ◌*◌, List, [], ◌∷◌}
use Rattle.layout.specs.declared.axis.ReduceOuterAxis.{ReduceOuterAxis}

unfoldable pub elements : List ReduceOuterAxis → ℕ
elements [] = 1
elements (a ∷ xs) = a.extent * elements xs
