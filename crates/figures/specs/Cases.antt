-- Cases of figures: where the mark is bad, where it is not, and where the two numbers differ. Each row is an equation that holds by computing.
use Rattle.std.specs.Prelude.{ℕ, ◌≡◌, List, [], ◌∷◌, map, ℤ, pos}
use Rattle.floats.specs.Fields.{value_of}
use Rattle.finishing.specs.Finishing.{FinalAnswer, value, refusal}
use Rattle.ordered.specs.Cases.{half_bits, two_bits, infinity_bits, the_nan_bits, two_runs}
use Rattle.figures.specs.Figures.{figure_of}

-- the figure of elements start to end - 1, of rates by their patterns
abbrev pub FigureRange : List ℕ → List ℤ → ℕ → ℕ → List ℕ → FinalAnswer → Type 0
FigureRange ns ss start end bs answer = figure_of ns ss (pos 0) start end (map (value_of 11 52) bs) ≡ answer

-- and of all elements of one axis, side by side, as a pattern
abbrev pub FigureRow : ℕ → List ℕ → ℕ → Type 0
FigureRow n bs b = FigureRange (n ∷ []) (pos 1 ∷ []) 0 n bs (value (value_of 11 52 b))

-- a zero; a subnormal, which is not bad: 2^-1074, 0.5 and 2.0, whose ordered product is 0; an infinity, alone and beside a zero; no bad rate: m × 2^e rounded
-- once. Two runs, with a zero in the gap that is not visited: the product of their two products, where the ordered product ends in 44. The same values in one
-- row, the zero visited: the ordered product. R5 to R7.
abbrev pub FigureTable : Type 0
FigureTable =
    FigureRow 2 (0 ∷ two_bits ∷ []) 0 × FigureRow 3 (1 ∷ half_bits ∷ two_bits ∷ []) 1 × FigureRow 2 (infinity_bits ∷ half_bits ∷ []) infinity_bits
    × FigureRow 2 (0 ∷ infinity_bits ∷ []) the_nan_bits × FigureRow 2 (half_bits ∷ two_bits ∷ []) 0x3ff0000000000000
    × FigureRange (2 ∷ 2 ∷ []) (pos 1 ∷ pos 3 ∷ []) 0 4 two_runs (value (value_of 11 52 0x401279c0ebedfa45))
    × FigureRange (5 ∷ []) (pos 1 ∷ []) 0 5 two_runs (value (value_of 11 52 0)) × FigureRange (5 ∷ []) (pos 1 ∷ []) 3 3 two_runs (refusal 5)
    × FigureRange (5 ∷ []) (pos 1 ∷ []) 0 6 two_runs (refusal 6) × FigureRange (6 ∷ []) (pos 1 ∷ []) 0 6 two_runs (refusal 7)
