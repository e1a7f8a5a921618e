-- Rules S1 and C9: the first bad rate of a range.
use Rattle.std.specs.Prelude.{ℕ, suc, ◌-◌, cond, List, [], ◌∷◌, length, eqb, ℤ, Float, Option, Some, None, Result, Ok, Err}
use Rattle.refusals.specs.declared.Refusal.{Refusal}
use Rattle.refusals.specs.Codes.{number}
use Rattle.layout.specs.Order.{axes_of}
use Rattle.offsets.specs.Lists.{range_code, offsets_from}
use Rattle.offsets.specs.Values.{value_at}
use Rattle.floats.specs.Splitting.{is_bad}
use Rattle.search.specs.declared.BadRate.{BadRate}

-- What a search tells: the element number and the offset of a bad rate, that there is none, or a refusal's number with nothing beside it.
pub data SearchAnswer : Type 0 where
  found : ℕ → ℤ → SearchAnswer
  none_bad : SearchAnswer
  refusal : ℕ → SearchAnswer

abbrev pub search_answer_of : Result (Option BadRate) Refusal → SearchAnswer
search_answer_of (Ok (Some b)) = found b.element b.offset
search_answer_of (Ok None) = none_bad
search_answer_of (Err r) = refusal (number r)

-- rule S1, of elements k, k + 1 and so on with these offsets: the first whose value is bad
unfoldable pub lowest_bad : List Float → ℕ → List ℤ → SearchAnswer
unfolding is_bad
lowest_bad values k [] = none_bad
lowest_bad values k (z ∷ zs) = cond (is_bad (value_at values z)) (found k z) (lowest_bad values (suc k) zs)

-- rule C9, the search: the number of the refusal, 1 to 7, or the lowest of elements start to end - 1 whose value is bad
unfoldable pub search_of : List ℕ → List ℤ → ℤ → ℕ → ℕ → List Float → SearchAnswer
search_of sizes strides base start end values =
    let code = range_code sizes strides base start end (length values) in
    cond (eqb code 0) (lowest_bad values start (offsets_from (axes_of sizes strides) base start (end - start))) (refusal code)
