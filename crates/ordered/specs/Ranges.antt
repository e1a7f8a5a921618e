-- Rules O3 and C7: the ordered product of a range.
use Rattle.std.specs.Prelude.{ℕ, cond, List, map, length, eqb, ℤ, Float}
use Rattle.offsets.specs.Lists.{range_code}
use Rattle.offsets.specs.Values.{visited_rates}
use Rattle.floats.specs.Fields.{value_of}
use Rattle.floats.specs.Splitting.{bits_of}
use Rattle.finishing.specs.Finishing.{FinalAnswer, value, refusal}
use Rattle.ordered.specs.Units.{ordered_bits}

-- rule O3: the pattern of the ordered product, from the patterns of the visited rates
abbrev pub range_bits : List ℕ → List ℤ → ℤ → ℕ → ℕ → List Float → ℕ
range_bits sizes strides base start end values = ordered_bits 11 52 (map bits_of (visited_rates sizes strides base start end values))

-- rule C7, the ordered product: the number of the refusal, 1 to 7, or the number with that pattern
unfoldable pub ordered_of : List ℕ → List ℤ → ℤ → ℕ → ℕ → List Float → FinalAnswer
ordered_of sizes strides base start end values =
    let code = range_code sizes strides base start end (length values) in
    cond (eqb code 0) (value (value_of 11 52 (range_bits sizes strides base start end values))) (refusal code)
