-- Rule L6, where the elements of a layout lie: element k lies at base plus the sum of digit × stride over the axes, the digits being k in
-- mixed radix, first axis fastest.
use Rattle.std.specs.Prelude.{ℕ, zero, suc, ◌/◌, ◌%◌, ◌^◌, Bool, true, ◌&&◌, List, [], ◌∷◌, ℤ, pos, ◌+ℤ◌, ◌*ℤ◌}
use Rattle.std.specs.Int.Signed.{le_z, lt_z}
use Rattle.layout.specs.declared.axis.ReduceOuterAxis.{ReduceOuterAxis}

-- k in mixed radix
unfoldable pub digits : List ReduceOuterAxis → ℕ → List ℕ
digits [] k = []
digits (a ∷ xs) k = k % a.extent ∷ digits xs (k / a.extent)

-- the sum of digit × stride
unfoldable pub shift : List ReduceOuterAxis → List ℕ → ℤ
shift [] ds = pos 0
shift (a ∷ xs) [] = pos 0
shift (a ∷ xs) (d ∷ ds) = a.source_step *ℤ pos d +ℤ shift xs ds

unfoldable pub offset : List ReduceOuterAxis → ℤ → ℕ → ℤ
offset xs base k = base +ℤ shift xs (digits xs k)

-- rule R7, an offset that it lets through: not below 0, not past 2^63 - 1, not at or past the values' length
unfoldable pub inside_values : ℕ → ℤ → Bool
inside_values length z = le_z (pos 0) z && lt_z z (pos (2 ^ 63)) && lt_z z (pos length)

-- whether p holds of every number below n
unfoldable pub every_below : ℕ → (ℕ → Bool) → Bool
every_below zero p = true
every_below (suc n) p = every_below n p && p n

-- whether every element of a layout, visited or not, lies inside the values
unfoldable pub all_inside : List ReduceOuterAxis → ℕ → ℤ → ℕ → Bool
all_inside xs total base length = every_below total (λ k. inside_values length (offset xs base k))
