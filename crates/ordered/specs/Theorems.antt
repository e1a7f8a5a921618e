-- What is proved about the ordered product, as a type that a proof inhabits (proofs/Theorems).
use Rattle.std.specs.Prelude.{ℕ, ◌≡◌, false, length, get_or, T, ℤ, pos, Float}
use mathlib.Core.List.{List, foldl}
use Rattle.std.specs.Float.{nan, fin, binary64}
use Rattle.std.specs.Float.Ieee.{fits}
use Rattle.offsets.specs.Lists.{range_code}
use Rattle.offsets.specs.Values.{visited_rates}
use Rattle.floats.specs.Product.{product_of}
use Rattle.floats.specs.Fields.{value_of}
use Rattle.floats.specs.Splitting.{bits_of}
use Rattle.finishing.specs.Finishing.{value}
use Rattle.ordered.specs.Ranges.{range_bits, ordered_of}

-- rule O3 of an accepted range: whole numbers and floats give the same, and the order is that of the offset list
pub record RuleO3 (ns : List ℕ) (ss : List ℤ) (base : ℤ) (start end : ℕ) (values : List Float) : Type 0 where
  -- the call is accepted, and its answer has the pattern that whole numbers give; of a NaN that is 0x7FF8000000000000
  pub answer : ordered_of ns ss base start end values ≡ value (value_of 11 52 (range_bits ns ss base start end values))
  pub bits : bits_of (value_of 11 52 (range_bits ns ss base start end values)) ≡ range_bits ns ss base start end values
  -- it is the left fold, from 1.0, of IEEE 754's products over the values at the offsets of elements start to end - 1
  pub fold : value_of 11 52 (range_bits ns ss base start end values) ≡ foldl (product_of 11 52) (fin false 1 (pos 0)) (visited_rates ns ss base start end values)

-- it holds of every accepted range, over values of binary64, as every f64 is
abbrev pub RuleO3Law : Type 0
RuleO3Law =
    (ns : List ℕ) (ss : List ℤ) (base : ℤ) (start end : ℕ) (values : List Float) → ((i : ℕ) → T (fits binary64 (get_or values i nan)))
    → range_code ns ss base start end (length values) ≡ 0 → RuleO3 ns ss base start end values
