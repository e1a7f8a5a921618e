-- Rule D3, whole: of every accepted range of every layout, over the reduction's answer and what finishing makes of it.
-- Assumes that each value is one of binary64, as every f64 is.
use Prim.Native.Nat.{ℕ, ◌-◌}
use mathlib.Core.Path.{◌≡◌, sym, ◌∙◌, ap}
use mathlib.Core.Bool.{Bool, true, false}
use mathlib.Core.List.{List, map}
use native.Mathlib.Nat.{le_trans}
use lib.ListN.{length}
use lib.Dec.{T}
use lib.IntN.{ℤ}
use lib.Ieee.{Float, binary64, fits}
use Rattle.layout.specs.Axes.{PLACES}
use Rattle.layout.specs.Order.{axes_of}
use Rattle.layout.specs.Compile.{compile_of}
use Rattle.floats.specs.Splitting.{is_bad}
use Rattle.accumulator.specs.Joining.{Answer, accumulator, refusal}
use Rattle.accumulator.proofs.Answers.{in-limits-unit}
use Rattle.finishing.specs.Finishing.{finished_of}
use Rattle.finishing.proofs.Answers.{finished-bad, finished-once}
use Rattle.offsets.specs.Lists.{range_code}
use Rattle.offsets.proofs.Ranges.{ranged, ranged-accepted, ranged-bounded, ranged-few, offsets-same}
use Rattle.laws.specs.Lists.{Each}
use Rattle.kernels.specs.Lanes.{some}
use Rattle.offsets.specs.Values.{value_at}
use Rattle.reduction.specs.Ranges.{range_product}
use Rattle.reduction.specs.Theorems.{RuleD3, RuleD3Law}
use Rattle.reduction.proofs.Calls.{reduce-accepted}
use Rattle.reduction.proofs.Demand.{range-rates, range-mark, range-in-limits, range-agrees}

-- ---- what an answer tells
abbrev pub answer-bad : Answer → Bool
answer-bad (accumulator m e bad) = bad
answer-bad (refusal n) = false

abbrev pub is-accumulator : Answer → Bool
is-accumulator (accumulator m e bad) = true
is-accumulator (refusal n) = false

-- ---- rule D3
module _ (ns : List ℕ) (ss : List ℤ) (base : ℤ) (start end : ℕ) (values : List Float) (v : Each (λ (x : Float). T (fits binary64 x)) values)
    (e : range_code ns ss base start end (length values) ≡ 0) where
  range-rule : RuleD3 ns ss base start end values (range_product ns ss base start end values)
  range-rule =
      let l = (compile_of PLACES ns ss).traversal in
      let g = ranged ns ss base start end (length values) e in
      let a = ranged-accepted ns ss base start end (length values) g in
      let b = ranged-bounded ns ss base start end (length values) g in
      let few = le_trans g.inside (ranged-few ns ss base start end (length values) g) in
      let r = range_product ns ss base start end values in
      let same = ap (map (value_at values)) (offsets-same (axes_of ns ss) _ base a.same (end - start) start) in
      let mark = range-mark l a.traversal base b values v end start g.forward few ∙ ap (some is_bad) same in
      let up = range-in-limits l a.traversal base b values v end start g.forward few in
      let answer = reduce-accepted ns ss base start end values e in
      record {
        answer = answer;
        rates = range-rates l a.traversal base b values v end start g.forward few ∙ same;
        mark = mark;
        plain = λ k. range-agrees l a.traversal base b values v end start g.forward few (ap (some is_bad) same ∙ sym mark ∙ k);
        unit = in-limits-unit r up;
        once = λ k. ap finished_of answer ∙ finished-once r up k;
        marked = λ k. ap finished_of answer ∙ finished-bad r up k;
      }

pub rule-D3 : RuleD3Law
rule-D3 = range-rule
