-- Cases of the ordered product: what IEEE 754 makes of zeros, subnormals, infinities and NaNs on the way, and the order. Each row is an equation that holds
-- by computing.
use Rattle.std.specs.Prelude.{ℕ, ◌≡◌, List, [], ◌∷◌, map, ℤ, pos, negsuc}
use Rattle.floats.specs.Fields.{value_of}
use Rattle.finishing.specs.Finishing.{FinalAnswer, value, refusal}
use Rattle.ordered.specs.Units.{ordered_bits}
use Rattle.ordered.specs.Ranges.{ordered_of}

-- patterns of 0.5, -1.0, 2.0, an infinity, the NaN, the least normal number 2^-1022 and the largest
abbrev pub half_bits : ℕ
half_bits = 0x3fe0000000000000

abbrev pub minus_one_bits : ℕ
minus_one_bits = 0xbff0000000000000

abbrev pub two_bits : ℕ
two_bits = 0x4000000000000000

abbrev pub infinity_bits : ℕ
infinity_bits = 0x7ff0000000000000

abbrev pub the_nan_bits : ℕ
the_nan_bits = 0x7ff8000000000000

abbrev pub least_normal_bits : ℕ
least_normal_bits = 0x0010000000000000

abbrev pub largest_bits : ℕ
largest_bits = 0x7fefffffffffffff

abbrev pub Ordered : List ℕ → ℕ → Type 0
Ordered bs b = ordered_bits 11 52 bs ≡ b

-- nothing; a subnormal result; half a unit is a tie, to the even of two neighbours; just above it; zeros of either sign; an infinity, with its sign; an
-- infinity times a zero; a NaN of another pattern; a product that becomes subnormal, loses its last digit there, and grows again; the largest number, and
-- past it; an overflow that does not come back
abbrev pub OrderedTable : Type 0
OrderedTable =
    Ordered [] 0x3ff0000000000000 × Ordered (least_normal_bits ∷ half_bits ∷ []) 0x0008000000000000 × Ordered (3 ∷ half_bits ∷ []) 2 × Ordered (1 ∷ half_bits ∷ []) 0
    × Ordered (0x8000000000000001 ∷ half_bits ∷ []) 0x8000000000000000 × Ordered (1 ∷ 0x3fe0000000000001 ∷ []) 1
    × Ordered (0 ∷ minus_one_bits ∷ []) 0x8000000000000000 × Ordered (0x8000000000000000 ∷ minus_one_bits ∷ []) 0
    × Ordered (infinity_bits ∷ minus_one_bits ∷ []) 0xfff0000000000000 × Ordered (infinity_bits ∷ 0 ∷ two_bits ∷ []) the_nan_bits
    × Ordered (0x7ff0000000000001 ∷ two_bits ∷ []) the_nan_bits
    × Ordered (0x0010000000000001 ∷ half_bits ∷ two_bits ∷ []) least_normal_bits × Ordered (largest_bits ∷ minus_one_bits ∷ []) 0xffefffffffffffff
    × Ordered (largest_bits ∷ 0x3ff0000000000001 ∷ []) infinity_bits × Ordered (largest_bits ∷ two_bits ∷ half_bits ∷ []) infinity_bits
    × Ordered (largest_bits ∷ two_bits ∷ 0 ∷ []) the_nan_bits

-- the ordered product of elements start to end - 1, of rates by their patterns
abbrev pub OrderedRange : List ℕ → List ℤ → ℤ → ℕ → ℕ → List ℕ → FinalAnswer → Type 0
OrderedRange ns ss base start end bs answer = ordered_of ns ss base start end (map (value_of 11 52) bs) ≡ answer

-- 1.1, 1.3, 1.4: the last bit depends on the order
abbrev pub three_rates : List ℕ
three_rates = 0x3ff199999999999a ∷ 0x3ff4cccccccccccd ∷ 0x3ff6666666666666 ∷ []

-- two runs, 1.1, 1.3 and 1.7, 1.9, with a value between them that no element visits: their products multiplied would end in 45
abbrev pub two_runs : List ℕ
two_runs = 0x3ff199999999999a ∷ 0x3ff4cccccccccccd ∷ 0 ∷ 0x3ffb333333333333 ∷ 0x3ffe666666666666 ∷ []

-- forward and backward; one accumulator through both runs; from the middle of one run to the middle of the next; R5 to R7
abbrev pub OrderedRanges : Type 0
OrderedRanges =
    OrderedRange (3 ∷ []) (pos 1 ∷ []) (pos 0) 0 3 three_rates (value (value_of 11 52 0x400004189374bc6b))
    × OrderedRange (3 ∷ []) (negsuc 0 ∷ []) (pos 2) 0 3 three_rates (value (value_of 11 52 0x400004189374bc6a))
    × OrderedRange (2 ∷ 2 ∷ []) (pos 1 ∷ pos 3 ∷ []) (pos 0) 0 4 two_runs (value (value_of 11 52 0x401279c0ebedfa44))
    × OrderedRange (2 ∷ 2 ∷ []) (pos 1 ∷ pos 3 ∷ []) (pos 0) 1 3 two_runs (value (value_of 11 52 0x4001ae147ae147ae))
    × OrderedRange (3 ∷ []) (pos 1 ∷ []) (pos 0) 2 2 three_rates (refusal 5) × OrderedRange (3 ∷ []) (pos 1 ∷ []) (pos 0) 0 4 three_rates (refusal 6)
    × OrderedRange (3 ∷ []) (pos 1 ∷ []) (pos 1) 0 3 three_rates (refusal 7)
