-- Inner: the values of a piece, where they lie in a slice.
use Rattle.std.specs.Prelude.{ℕ, zero, suc, ◌<◌, List, [], ◌∷◌, get_or, ℤ, pos, nat_abs, ◌+ℤ◌, ◌*ℤ◌, ◌≤ℤ◌, ◌<ℤ◌, Float}
use Rattle.std.specs.Float.{nan}

-- n values of a slice: those at start, start + stride, start + 2 × stride and so on
unfoldable pub strided : List Float → ℤ → ℤ → ℕ → List Float
strided xs start stride zero = []
strided xs start stride (suc n) = get_or xs (nat_abs start) nan ∷ strided xs (start +ℤ stride) stride n

-- each of the n places start + i × stride lies in a slice of `len` values
pub record PlacesInside (len : ℕ) (start stride : ℤ) (n : ℕ) : Type 0 where
  pub least : (i : ℕ) → i < n → pos 0 ≤ℤ (start +ℤ stride *ℤ pos i)
  pub most : (i : ℕ) → i < n → (start +ℤ stride *ℤ pos i) <ℤ pos len
