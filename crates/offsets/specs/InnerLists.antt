-- Inner: offsets a stride apart, in one run and in several.
use Rattle.std.specs.Prelude.{ℕ, zero, suc, List, [], ◌∷◌, ◌++◌, ℤ, ◌+ℤ◌}

-- n numbers from z on, a stride apart
unfoldable pub steps : ℤ → ℤ → ℕ → List ℤ
steps z s zero = []
steps z s (suc n) = z ∷ steps (z +ℤ s) s n

-- runs of n numbers a stride apart that begin at some numbers, one after another
unfoldable pub runs_places : ℤ → ℕ → List ℤ → List ℤ
runs_places stride n [] = []
runs_places stride n (z ∷ zs) = steps z stride n ++ runs_places stride n zs
