-- Inner: the test of a layout against a length (rule R7), as the code makes it: by the smallest and the largest offset, axis by axis.
use Rattle.std.specs.Prelude.{ℕ, ◌+◌, ◌-◌, Bool, cond, ◌&&◌, Option, None, Some, List, [], ◌∷◌, ltb, ℤ, pos, nat_abs, ◌+ℤ◌, negsuc}
use Rattle.std.specs.Int.Signed.{le_z, lt_z}
use Rattle.layout.specs.declared.axis.ReduceOuterAxis.{ReduceOuterAxis}
use Rattle.offsets.specs.declared.bounds.Span.{Span}
use Rattle.layout.specs.Axes.{span}

-- the part of (size - 1) × stride below 0, and the part above
unfoldable pub negative_part : ℤ → ℤ
negative_part (pos n) = pos 0
negative_part (negsuc n) = negsuc n

unfoldable pub positive_part : ℤ → ℤ
positive_part (pos n) = pos n
positive_part (negsuc n) = pos 0

-- the smallest and the largest offset of a layout
unfoldable pub low_sum : List ReduceOuterAxis → ℤ
low_sum [] = pos 0
low_sum (a ∷ xs) = negative_part (span a.extent a.source_step) +ℤ low_sum xs

unfoldable pub high_sum : List ReduceOuterAxis → ℤ
high_sum [] = pos 0
high_sum (a ∷ xs) = positive_part (span a.extent a.source_step) +ℤ high_sum xs

unfoldable pub lowest_offset : List ReduceOuterAxis → ℤ → ℤ
lowest_offset xs base = base +ℤ low_sum xs

unfoldable pub highest_offset : List ReduceOuterAxis → ℤ → ℤ
highest_offset xs base = base +ℤ high_sum xs

-- a span with one more axis, whose reset is r; none if it leaves 0 to last
abbrev pub widened : Span → ℤ → ℕ → Option Span
widened s r last =
    cond (lt_z (pos 0) r)
    (cond (ltb s.low (nat_abs r)) None (Some (record { low = s.low - nat_abs r; high = s.high })))
    (cond (ltb (last - s.high) (nat_abs r)) None (Some (record { low = s.low; high = s.high + nat_abs r })))

-- whether the offsets that begin at lo and at hi stay from 0 to last over the axes
unfoldable pub stay_inside : List ReduceOuterAxis → ℕ → ℕ → ℕ → Bool
stay_inside xs lo hi last = le_z (pos 0) (pos lo +ℤ low_sum xs) && le_z (pos hi +ℤ high_sum xs) (pos last)
