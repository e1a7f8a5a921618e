-- What is proved about the elements of a layout, each statement as a type that a proof inhabits (proofs/Theorems).
use Rattle.std.specs.Prelude.{ℕ, ◌<◌, ◌≡◌, List, ◌∷◌, length, ℤ}
use Rattle.layout.specs.Axes.{PLACES}
use Rattle.layout.specs.Order.{axes_of}
use Rattle.layout.specs.Compile.{compile_of}
use Rattle.layout.specs.Reordered.{SameAxes}
use Rattle.offsets.specs.Elements.{offset}
use Rattle.offsets.specs.Pieces.{run_of, outer_of}
use Rattle.offsets.specs.Lists.{list_code, list_buffer}

-- Rules L4 to L6: fusing changes nothing. The run and the outer axes of an accepted layout put each element where the axes of rule L2 put it.
abbrev pub FusingChangesNothing : Type 0
FusingChangesNothing =
    (ns : List ℕ) (ss : List ℤ) → (compile_of PLACES ns ss).code ≡ 0 → 0 < (compile_of PLACES ns ss).traversal.total → (base : ℤ) (k : ℕ)
    → offset (run_of (compile_of PLACES ns ss).traversal ∷ outer_of (compile_of PLACES ns ss).traversal) base k ≡ offset (axes_of ns ss) base k

-- Rules L2 and L8: inputs that have the same axes in another order, those of one stride in one order among themselves, have one list: the code, and the buffer.
abbrev pub OneList : Type 0
OneList =
    (ns ns' : List ℕ) (ss ss' : List ℤ) → SameAxes ns ss ns' ss' → (base : ℤ) (start end len : ℕ) (out : List ℤ)
    → (list_code ns ss base start end len (length out) ≡ list_code ns' ss' base start end len (length out))
    × (list_buffer ns ss base start end len out ≡ list_buffer ns' ss' base start end len out)
