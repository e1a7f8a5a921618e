-- What is proved about a call over many ranges, as types that a proof inhabits (proofs/Theorems).
use Rattle.std.specs.Prelude.{ℕ, ◌-◌, ◌≤◌, ◌<◌, ◌≡◌, List, [], ◌∷◌, ◌++◌, length, get_or, take, T, eqb, ℤ, pos, Float}
use Rattle.std.specs.Float.{nan, binary64}
use Rattle.std.specs.Float.Ieee.{fits}
use Rattle.layout.specs.Order.{axes_of}
use Rattle.offsets.specs.Lists.{total_in, offsets_from}
use Rattle.accumulator.specs.declared.StableProductFloatAcc.{StableProductFloatAcc}
use Rattle.accumulator.specs.Joining.{accumulator}
use Rattle.laws.specs.Lists.{Each}
use Rattle.kernels.specs.Lanes.{some}
use Rattle.reduction.specs.Ranges.{range_product, reduce_of}
use Rattle.ranges.specs.Many.{ranges_of, many_code, ms_after, es_after, bads_after}

-- what rule M1 says of place i after a call: the reduction of range i alone answers with just what is written there, and the byte is 0 or 1
pub record RuleM1 (ns : List ℕ) (ss : List ℤ) (base : ℤ) (start end : ℕ) (values : List Float) (m : Float) (e : ℤ) (bad : ℕ) : Type 0 where
  pub own : reduce_of ns ss base start end values ≡ accumulator m e (eqb bad 1)
  pub byte : bad ≤ 1

abbrev pub RuleM1Law : Type 0
RuleM1Law =
    (ns : List ℕ) (ss : List ℤ) (base : ℤ) (starts ends : List ℕ) (values ms : List Float) (es : List ℤ) (bads : List ℕ)
    → many_code ns ss base starts ends values ms es bads ≡ 0 → (i : ℕ) → i < length starts
    → RuleM1 ns ss base (get_or starts i 0) (get_or ends i 0) values (get_or (ms_after ns ss base starts ends values ms es bads) i nan)
    (get_or (es_after ns ss base starts ends values ms es bads) i (pos 0)) (get_or (bads_after ns ss base starts ends values ms es bads) i 0)

-- ranges of which each begins where the one before it ends: the first at the first number, the last ends at the second
pub data Consecutive : ℕ → ℕ → List (ℕ × ℕ) → Type 0 where
  none : {k : ℕ} → Consecutive k k []
  more : {from via to : ℕ} {rs : List (ℕ × ℕ)} → Consecutive via to rs → Consecutive from to ((from, via) ∷ rs)

-- the offset lists of some ranges (rule L8), joined
unfoldable pub offsets_over : List ℕ → List ℤ → ℤ → List (ℕ × ℕ) → List ℤ
offsets_over ns ss base [] = []
offsets_over ns ss base (r ∷ rs) = offsets_from (axes_of ns ss) base r.0 (r.1 - r.0) ++ offsets_over ns ss base rs

-- what rule M2 says of a call whose ranges lead from 0 to the total
pub record RuleM2 (ns : List ℕ) (ss : List ℤ) (base : ℤ) (rs : List (ℕ × ℕ)) (values : List Float) (bads : List ℕ) (a : StableProductFloatAcc) : Type 0 where
  -- the whole is accepted too, and this is its answer
  pub whole : reduce_of ns ss base 0 (total_in ns ss) values ≡ accumulator a.m a.e a.bad
  -- the offset lists joined are the list of the whole
  pub offsets : offsets_over ns ss base rs ≡ offsets_from (axes_of ns ss) base 0 (total_in ns ss)
  -- some byte is 1 exactly if the whole is bad
  pub mark : some (eqb 1) bads ≡ a.bad

-- over values of binary64, as every f64 is
abbrev pub RuleM2Law : Type 0
RuleM2Law =
    (ns : List ℕ) (ss : List ℤ) (base : ℤ) (starts ends : List ℕ) (values ms : List Float) (es : List ℤ) (bads : List ℕ)
    → Each (λ (x : Float). T (fits binary64 x)) values → many_code ns ss base starts ends values ms es bads ≡ 0
    → 0 < total_in ns ss → Consecutive 0 (total_in ns ss) (ranges_of starts ends)
    → RuleM2 ns ss base (ranges_of starts ends) values (take (length starts) (bads_after ns ss base starts ends values ms es bads))
    (range_product ns ss base 0 (total_in ns ss) values)
