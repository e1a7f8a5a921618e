-- Cases of the search: what is bad and what just is not, and which of several comes first. Each row is an equation that holds by computing.
use Rattle.std.specs.Prelude.{ℕ, ◌≡◌, List, [], ◌∷◌, map, ℤ, pos, negsuc}
use Rattle.floats.specs.Fields.{value_of}
use Rattle.search.specs.Searching.{SearchAnswer, found, none_bad, refusal, search_of}

-- the search over elements start to end - 1, of rates by their patterns
abbrev pub SearchRange : List ℕ → List ℤ → ℤ → ℕ → ℕ → List ℕ → SearchAnswer → Type 0
SearchRange ns ss base start end bs answer = search_of ns ss base start end (map (value_of 11 52) bs) ≡ answer

-- and over two elements side by side, 1.0 and one more
abbrev pub SearchSecond : ℕ → SearchAnswer → Type 0
SearchSecond b answer = SearchRange (2 ∷ []) (pos 1 ∷ []) (pos 0) 0 2 (0x3ff0000000000000 ∷ b ∷ []) answer

-- a zero of either sign, infinities, NaNs; then, of either sign, the least subnormal number and the greatest, the least normal number and the greatest
abbrev pub BadTable : Type 0
BadTable =
    SearchSecond 0 (found 1 (pos 1)) × SearchSecond 0x8000000000000000 (found 1 (pos 1)) × SearchSecond 0x7ff0000000000000 (found 1 (pos 1))
    × SearchSecond 0xfff0000000000000 (found 1 (pos 1)) × SearchSecond 0x7ff8000000000000 (found 1 (pos 1))
    × SearchSecond 0xfff0000000000001 (found 1 (pos 1)) × SearchSecond 1 none_bad × SearchSecond 0x8000000000000001 none_bad
    × SearchSecond 0x000fffffffffffff none_bad × SearchSecond 0x800fffffffffffff none_bad × SearchSecond 0x0010000000000000 none_bad
    × SearchSecond 0x8010000000000000 none_bad × SearchSecond 0x7fefffffffffffff none_bad × SearchSecond 0xffefffffffffffff none_bad

-- three rates, of which the first and the last are zeros
abbrev pub two_zeros : List ℕ
two_zeros = 0 ∷ 0x3ff0000000000000 ∷ 0 ∷ []

-- Forwards and backwards: the lower element number counts, not the lower offset. A range from the second element on: its number is the layout's. A range of
-- the second alone. Two axes, the second backwards. A zero that no element visits, and none besides. R5 to R7.
abbrev pub FirstTable : Type 0
FirstTable =
    SearchRange (3 ∷ []) (pos 1 ∷ []) (pos 0) 0 3 two_zeros (found 0 (pos 0)) × SearchRange (3 ∷ []) (negsuc 0 ∷ []) (pos 2) 0 3 two_zeros (found 0 (pos 2))
    × SearchRange (3 ∷ []) (pos 1 ∷ []) (pos 0) 1 3 two_zeros (found 2 (pos 2)) × SearchRange (3 ∷ []) (pos 1 ∷ []) (pos 0) 1 2 two_zeros none_bad
    × SearchRange (2 ∷ 2 ∷ []) (pos 1 ∷ negsuc 1 ∷ []) (pos 2) 0 4 (0 ∷ 0 ∷ 0x3ff0000000000000 ∷ 0 ∷ []) (found 1 (pos 3))
    × SearchRange (2 ∷ []) (pos 2 ∷ []) (pos 0) 0 2 (0x3ff0000000000000 ∷ 0 ∷ 0x3ff0000000000000 ∷ []) none_bad
    × SearchRange (3 ∷ []) (pos 1 ∷ []) (pos 0) 2 2 two_zeros (refusal 5) × SearchRange (3 ∷ []) (pos 1 ∷ []) (pos 0) 0 4 two_zeros (refusal 6)
    × SearchRange (4 ∷ []) (pos 1 ∷ []) (pos 0) 0 1 two_zeros (refusal 7)
