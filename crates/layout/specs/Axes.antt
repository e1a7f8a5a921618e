-- Rules L3 and L5: an axis with its reset, and the table places that hold axes.
use Rattle.std.specs.Prelude.{ℕ, ◌-◌, Bool, ◌&&◌, List, [], ◌∷◌, ◌++◌, length, replicate, ℤ, pos, neg_ℤ, ◌*ℤ◌}
use Rattle.integers.specs.Integers.{fits_i64}
use Rattle.layout.specs.declared.axis.ReduceOuterAxis.{ReduceOuterAxis}

-- how many axes a layout may have, and a table holds
abbrev pub PLACES : ℕ
PLACES = 16

-- (size - 1) × stride: from an axis's first element to its last
unfoldable pub span : ℕ → ℤ → ℤ
span n s = s *ℤ pos (n - 1)

-- an axis of this size and stride, with its reset: -(size - 1) × stride
unfoldable pub axis_of : ℕ → ℤ → ReduceOuterAxis
axis_of n s = record { extent = n; source_step = s; source_reset = neg_ℤ (span n s) }

-- the axes of these sizes and strides, as they are given
unfoldable pub axes_in : List ℕ → List ℤ → List ReduceOuterAxis
axes_in [] ss = []
axes_in (n ∷ ns) [] = []
axes_in (n ∷ ns) (s ∷ ss) = axis_of n s ∷ axes_in ns ss

-- rule L3: size - 1, the product and the product with its sign turned must fit i64
unfoldable pub reset_fits : ℕ → ℤ → Bool
reset_fits n s = fits_i64 (pos (n - 1)) && fits_i64 (span n s) && fits_i64 (neg_ℤ (span n s))

-- a table place without an axis holds zeros
abbrev pub no_axis : ReduceOuterAxis
no_axis = record { extent = 0; source_step = pos 0; source_reset = pos 0 }

-- a table of so many places, with these in its first ones and z in each of the others
abbrev pub padded : {A : Type 0} → ℕ → A → List A → List A
padded places z xs = xs ++ replicate (places - length xs) z

-- a table of axes
unfoldable pub places_of : ℕ → List ReduceOuterAxis → List ReduceOuterAxis
places_of places xs = padded places no_axis xs
