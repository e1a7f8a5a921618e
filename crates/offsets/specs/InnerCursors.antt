-- Inner: the cursor over the runs (rule L7), and what the code knows of a compiled layout.
use Rattle.std.specs.Prelude.{ℕ, ◌+◌, ◌-◌, ◌≤◌, ◌^◌, ◌≡◌, true, cond, List, [], ◌∷◌, ◌++◌, length, replicate, ltb, ℤ, pos, ◌+ℤ◌, ◌≤ℤ◌, ◌<ℤ◌}
use Rattle.layout.specs.declared.axis.ReduceOuterAxis.{ReduceOuterAxis}
use Rattle.layout.specs.Axes.{PLACES, axis_of, reset_fits}
use Rattle.layout.specs.InnerTables.{elements}
use Rattle.offsets.specs.declared.cursor.ReduceOuterCursor.{ReduceOuterCursor}
use Rattle.offsets.specs.Elements.{digits, offset}
use Rattle.offsets.specs.InnerBounds.{lowest_offset, highest_offset}
use Rattle.layout.specs.declared.traversal.FullTraversal.{FullTraversal}
use Rattle.offsets.specs.Pieces.{run_of, outer_of}

-- the cursor at element k: its offset, its digits, and zeros past the axes
unfoldable pub cursor_at : List ReduceOuterAxis → ℤ → ℕ → ReduceOuterCursor
cursor_at xs base k = record { source_offset = offset xs base k; digits = digits xs k ++ replicate (PLACES - length xs) 0 }

-- one advance: the digits, and the offset
unfoldable pub next_digits : List ReduceOuterAxis → List ℕ → List ℕ
next_digits [] ds = ds
next_digits (a ∷ xs) [] = []
next_digits (a ∷ xs) (d ∷ ds) = cond (ltb (d + 1) a.extent) ((d + 1) ∷ ds) (0 ∷ next_digits xs ds)

unfoldable pub next_offset : List ReduceOuterAxis → List ℕ → ℤ → ℤ
next_offset [] ds o = o
next_offset (a ∷ xs) [] o = o
next_offset (a ∷ xs) (d ∷ ds) o = cond (ltb (d + 1) a.extent) (o +ℤ a.source_step) (next_offset xs ds (o +ℤ a.source_reset))

unfoldable pub advanced : List ReduceOuterAxis → ReduceOuterCursor → ReduceOuterCursor
advanced xs c = record { source_offset = next_offset xs c.digits c.source_offset; digits = next_digits xs c.digits }

-- an axis of a compiled layout: it holds its own reset, it is not empty, and rule L3 holds of it
abbrev pub Axis : ReduceOuterAxis → Type 0
Axis a = (a ≡ axis_of a.extent a.source_step) × (1 ≤ a.extent) × (reset_fits a.extent a.source_step ≡ true)

unfoldable pub Axes : List ReduceOuterAxis → Type 0
Axes [] = Unit {0}
Axes (a ∷ xs) = Axis a × Axes xs

-- every element lies from 0 to 2^63 - 1
pub record Bounded (xs : List ReduceOuterAxis) (base : ℤ) : Type 0 where
  pub low : pos 0 ≤ℤ lowest_offset xs base
  pub high : highest_offset xs base <ℤ pos (2 ^ 63)

-- a cursor at some element of such a layout
pub record AtElement (xs : List ReduceOuterAxis) (c : ReduceOuterCursor) : Type 0 where
  pub base : ℤ
  pub index : ℕ
  pub axes : Axes xs
  pub few : length xs ≤ PLACES
  pub bounded : Bounded xs base
  pub at : c ≡ cursor_at xs base index

-- a layout that compiling gives, with at least one element
pub record Traversal (l : FullTraversal) : Type 0 where
  pub few : l.axis_count ≤ PLACES
  pub places : length l.run_axes ≡ PLACES
  pub axes : Axes (run_of l ∷ outer_of l)
  pub total : elements (run_of l ∷ outer_of l) ≡ l.total
