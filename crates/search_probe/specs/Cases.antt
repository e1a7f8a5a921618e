-- Rule C6 in cases: what a host is handed of a bad rate, of none, and of a refusal. Each row is an equation that holds by computing.
use Rattle.std.specs.Prelude.{ℕ, ◌≡◌, Bool, true, false, ℤ, pos}
use Rattle.search.specs.Searching.{SearchAnswer, found, none_bad, refusal}
use Rattle.search_probe.specs.Answers.{search_code, found_given, element_given, offset_given}

-- the code, and what stands in the three places, where before 8 and 9 stood
abbrev pub Handed : SearchAnswer → Bool → ℕ → Bool → ℕ → ℤ → Type 0
Handed answer before code b k z =
    (search_code answer ≡ code) × (found_given before answer ≡ b) × (element_given 8 answer ≡ k) × (offset_given (pos 9) answer ≡ z)

abbrev pub HandsSearchesOut : Type 0
HandsSearchesOut =
    Handed (found 3 (pos 5)) false 0 true 3 (pos 5) × Handed none_bad true 0 false 8 (pos 9) × Handed (refusal 7) true 7 true 8 (pos 9)
    × Handed (refusal 7) false 7 false 8 (pos 9)
