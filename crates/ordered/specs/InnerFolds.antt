-- Inner: the folds that the code makes, over places of the values.
use Rattle.std.specs.Prelude.{ℕ, ℤ, Float}
use mathlib.Core.List.{List, foldl}
use Rattle.std.specs.Float.{binary64}
use Rattle.std.specs.Float.Ieee.{mul}
use Rattle.offsets.specs.InnerLists.{steps}
use Rattle.offsets.specs.Values.{value_at}

-- the values at some places, each multiplied in from the right by the language's product
abbrev pub fold_places : List Float → Float → List ℤ → Float
fold_places values x zs = foldl (λ y z. mul binary64 y (value_at values z)) x zs

-- runs of n values a stride apart that begin at some places
abbrev pub fold_runs : List Float → ℤ → ℕ → Float → List ℤ → Float
fold_runs values stride n x zs = foldl (λ y z. fold_places values y (steps z stride n)) x zs
