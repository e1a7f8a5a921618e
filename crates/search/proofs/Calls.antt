-- The two cases of a search's answer: a refusal, or the lowest bad rate. Assumes nothing.
use Prim.Native.Nat.{ℕ, ◌-◌}
use mathlib.Core.Path.{◌≡◌, ap}
use mathlib.Core.Bool.{Bool, cond}
use mathlib.Core.List.{List}
use lib.ListN.{length}
use lib.IntN.{ℤ}
use lib.Ieee.{Float}
use borrow.Author.Tests.{eq-eqb, ne_eqb}
use Rattle.layout.specs.Order.{axes_of}
use Rattle.offsets.specs.Lists.{offsets_from, range_code}
use Rattle.search.specs.Searching.{SearchAnswer, refusal, lowest_bad, search_of}

module _ (ns : List ℕ) (ss : List ℤ) (base : ℤ) (start end : ℕ) (values : List Float) where
  abbrev code : ℕ
  code = range_code ns ss base start end (length values)

  abbrev lowest : SearchAnswer
  lowest = lowest_bad values start (offsets_from (axes_of ns ss) base start (end - start))

  pub search-refused : (code ≡ 0 → ⊥) → search_of ns ss base start end values ≡ refusal code
  unfolding search_of
  search-refused n = ap (λ (b : Bool). cond b lowest (refusal code)) (ne_eqb code 0 n)

  pub search-accepted : code ≡ 0 → search_of ns ss base start end values ≡ lowest
  unfolding search_of
  search-accepted e = ap (λ (b : Bool). cond b lowest (refusal code)) (eq-eqb code 0 e)
