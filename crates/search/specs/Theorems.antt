-- What is proved about the search, as a type that a proof inhabits (proofs/Theorems).
use Rattle.std.specs.Prelude.{ℕ, ◌≤◌, ◌<◌, ◌≡◌, Bool, true, false, List, T, ℤ, Float}
use Rattle.std.specs.Float.{binary64}
use Rattle.std.specs.Float.Ieee.{fits}
use Rattle.layout.specs.declared.axis.ReduceOuterAxis.{ReduceOuterAxis}
use Rattle.layout.specs.Order.{axes_of}
use Rattle.offsets.specs.Elements.{offset}
use Rattle.offsets.specs.Values.{value_at}
use Rattle.floats.specs.Splitting.{is_bad}
use Rattle.accumulator.specs.Joining as joining
use Rattle.laws.specs.Lists.{Each}
use Rattle.reduction.specs.Ranges.{reduce_of}
use Rattle.search.specs.Searching.{found, none_bad, refusal, search_of}

-- whether the value of element k is bad
abbrev pub bad_element : List ReduceOuterAxis → ℤ → List Float → ℕ → Bool
bad_element xs base values k = is_bad (value_at values (offset xs base k))

-- element k with offset z is the first of elements start to end - 1 whose value is bad
pub record FirstBadRate (xs : List ReduceOuterAxis) (base : ℤ) (values : List Float) (start end k : ℕ) (z : ℤ) : Type 0 where
  pub from : start ≤ k
  pub below : k < end
  pub lies : z ≡ offset xs base k
  pub bad : bad_element xs base values k ≡ true
  pub lowest : (j : ℕ) → start ≤ j → j < k → bad_element xs base values j ≡ false

-- rule S1 of a call, refused or not, by its answer and the reduction's over the same layout, range and values
pub record RuleS1 (ns : List ℕ) (ss : List ℤ) (base : ℤ) (start end : ℕ) (values : List Float) : Type 0 where
  -- what is found is the first bad rate; where none is, no element of the range has a bad value
  pub first : (k : ℕ) (z : ℤ) → search_of ns ss base start end values ≡ found k z → FirstBadRate (axes_of ns ss) base values start end k z
  pub none : search_of ns ss base start end values ≡ none_bad → (j : ℕ) → start ≤ j → j < end → bad_element (axes_of ns ss) base values j ≡ false
  -- none exactly if the reduction's mark is unset
  pub if_unset : (m : Float) (e : ℤ) → reduce_of ns ss base start end values ≡ joining.accumulator m e false
      → search_of ns ss base start end values ≡ none_bad
  pub then_unset : search_of ns ss base start end values ≡ none_bad
      → (m : Float) × (e : ℤ) × (reduce_of ns ss base start end values ≡ joining.accumulator m e false)
  -- refused exactly if the reduction is, by the same number
  pub if_refused : (n : ℕ) → reduce_of ns ss base start end values ≡ joining.refusal n → search_of ns ss base start end values ≡ refusal n
  pub then_refused : (n : ℕ) → search_of ns ss base start end values ≡ refusal n → reduce_of ns ss base start end values ≡ joining.refusal n

-- it holds of every call, over values of binary64, as every f64 is
abbrev pub RuleS1Law : Type 0
RuleS1Law =
    (ns : List ℕ) (ss : List ℤ) (base : ℤ) (start end : ℕ) (values : List Float) → Each (λ (x : Float). T (fits binary64 x)) values
    → RuleS1 ns ss base start end values
