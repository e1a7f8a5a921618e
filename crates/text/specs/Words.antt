-- How a line is cut into words: at each space, whose code is 32.
use Rattle.std.specs.Prelude.{ℕ, ◌≡◌, ◌≢◌, List, ◌∷◌, ◌++◌, slice_index, EachIndex}

abbrev pub NoSpace : List ℕ → Type 0
NoSpace w = EachIndex w (λ k. slice_index w k ≢ 32)

-- The line s has one word, w.
abbrev pub IsLast : List ℕ → List ℕ → Type 0
IsLast s w = (s ≡ w) × NoSpace w

-- The first word of the line s is w, and behind its space stands r.
abbrev pub IsFirst : List ℕ → List ℕ → List ℕ → Type 0
IsFirst s w r = (s ≡ w ++ 32 ∷ r) × NoSpace w
