-- Rule C6: what a C host is handed of a search's answer: a code, and three places that a refusal leaves as they were, two of them also if no rate is bad.
use Rattle.std.specs.Prelude.{ℕ, Bool, true, false, ℤ}
use Rattle.search.specs.Searching.{SearchAnswer, found, none_bad, refusal}

unfoldable pub search_code : SearchAnswer → ℕ
search_code (found k z) = 0
search_code none_bad = 0
search_code (refusal n) = n

unfoldable pub found_given : Bool → SearchAnswer → Bool
found_given before (found k z) = true
found_given before none_bad = false
found_given before (refusal n) = before

unfoldable pub element_given : ℕ → SearchAnswer → ℕ
element_given before (found k z) = k
element_given before none_bad = before
element_given before (refusal n) = before

unfoldable pub offset_given : ℤ → SearchAnswer → ℤ
offset_given before (found k z) = z
offset_given before none_bad = before
offset_given before (refusal n) = before
