-- Inner: a function that splits the values of a vector.
use Rattle.std.specs.Prelude.{ℕ, ◌<◌, ◌≡◌, List, get_or, Float}
use Rattle.std.specs.Fn.{Shared}
use Rattle.std.specs.Float.{nan}
use Rattle.floats.specs.declared.Split.{Split}
use Rattle.floats.specs.Splitting.{split}

-- it may be called at each of the eight, and gives its split
pub record SplitsEach {F : Type 0} (g : Shared F (Float × Unit {0}) Split) (f : F) (vector : List Float) : Type 0 where
  pub may : (k : ℕ) → k < 8 → g.pre f (get_or vector k nan, tt)
  pub gives : (k : ℕ) (p : Split) → k < 8 → g.post f (get_or vector k nan, tt) p → p ≡ split (get_or vector k nan)
