-- The values that a range visits (rule A6): those at the offsets of its elements, in the order of the offset list (rule L8).
use Rattle.std.specs.Prelude.{ℕ, ◌-◌, List, ◌∷◌, map, get_or, ℤ, nat_abs, Float}
use Rattle.std.specs.Float.{nan}
use Rattle.layout.specs.declared.traversal.FullTraversal.{FullTraversal}
use Rattle.layout.specs.Order.{axes_of}
use Rattle.offsets.specs.Pieces.{run_of, outer_of}
use Rattle.offsets.specs.Lists.{offsets_from}

-- the value at an offset
abbrev pub value_at : List Float → ℤ → Float
value_at values z = get_or values (nat_abs z) nan

-- the rates of n elements from k on
abbrev pub rates_from : FullTraversal → ℤ → List Float → ℕ → ℕ → List Float
rates_from l base values k n = map (value_at values) (offsets_from (run_of l ∷ outer_of l) base k n)

-- the rates that a range visits: element k lies where the axes of rule L2 put it (rule L6)
abbrev pub visited_rates : List ℕ → List ℤ → ℤ → ℕ → ℕ → List Float → List Float
visited_rates sizes strides base start end values = map (value_at values) (offsets_from (axes_of sizes strides) base start (end - start))
