-- Rule L4: from left to right, axes that meet become one.
use Rattle.std.specs.Prelude.{◌*◌, cond, List, [], ◌∷◌, ◌++◌, ℤ, pos, ◌*ℤ◌, Option, Some, None}
use Rattle.integers.specs.Integers.{fits_i64, eq_z}
use Rattle.layout.specs.declared.axis.ReduceOuterAxis.{ReduceOuterAxis}
use Rattle.layout.specs.declared.fuse.Joined.{Joined}
use Rattle.layout.specs.declared.fuse.Joined.TheVariants.{One, Two}
use Rattle.layout.specs.Axes.{axis_of, reset_fits}

-- step × size: where the axis so far would go on
unfoldable pub reach : ReduceOuterAxis → ℤ
reach a = a.source_step *ℤ pos a.extent

-- an axis and the next: the reach must fit; if it equals the next stride, the two become one, sizes multiplied, step kept, rule L3 checked again;
-- none where a check fails
unfoldable pub join_of : ReduceOuterAxis → ReduceOuterAxis → Option Joined
join_of a b =
    cond (fits_i64 (reach a))
    (cond (eq_z (reach a) b.source_step)
    (cond (reset_fits (a.extent * b.extent) a.source_step) (Some (One (axis_of (a.extent * b.extent) a.source_step))) None) (Some Two)) None

-- the axes done, the axis so far, those that follow; none where a check fails
unfoldable pub fuse_from : List ReduceOuterAxis → ReduceOuterAxis → List ReduceOuterAxis → Option (List ReduceOuterAxis)
fuse_from done a [] = Some (done ++ a ∷ [])
fuse_from done a (b ∷ bs) = elim (join_of a b) [
  | None ↦ None
  | Some j ↦ elim j [ One c ↦ fuse_from done c bs | Two ↦ fuse_from (done ++ a ∷ []) b bs ]
]

unfoldable pub fuse : List ReduceOuterAxis → Option (List ReduceOuterAxis)
fuse [] = Some []
fuse (a ∷ xs) = fuse_from [] a xs
