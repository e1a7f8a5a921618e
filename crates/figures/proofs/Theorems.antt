-- Rule O4 of every accepted range.
-- Assumes that each value is one of binary64, as every f64 is.
use mathlib.Core.Path.{◌≡◌, sym, ◌∙◌, ap}
use Prim.Native.Nat.{ℕ}
use mathlib.Core.Bool.{Bool, false, cond}
use mathlib.Core.List.{List}
use lib.ListN.{length}
use lib.Dec.{T}
use lib.IntN.{ℤ}
use lib.Ieee.{Float, nan, binary64, fits}
use Rattle.offsets.specs.Lists.{range_code}
use Rattle.offsets.specs.Values.{visited_rates}
use Rattle.floats.specs.Splitting.{is_bad}
use Rattle.accumulator.specs.declared.StableProductFloatAcc.{StableProductFloatAcc}
use Rattle.accumulator.specs.Joining.{factor_of_acc}
use Rattle.laws.specs.Lists.{Each}
use Rattle.kernels.specs.Lanes.{some}
use Rattle.finishing.specs.Once.{rounded_once}
use Rattle.finishing.specs.Finishing.{value, value_of_acc}
use Rattle.reduction.specs.Ranges.{range_product}
use Rattle.reduction.proofs.Whole.{rule-D3}
use Rattle.ordered.proofs.Calls.{ordered-number}
use Rattle.figures.specs.Figures.{figure_of}
use Rattle.figures.specs.Theorems.{RuleO4, RuleO4Law}
use Rattle.figures.proofs.Calls.{figure-bad, figure-good}

rounded-value : (a : StableProductFloatAcc) → a.bad ≡ false → value_of_acc a ≡ rounded_once (factor_of_acc a)
unfolding value_of_acc
rounded-value a e = ap (λ (b : Bool). cond b nan (rounded_once (factor_of_acc a))) e

module _ (ns : List ℕ) (ss : List ℤ) (base : ℤ) (start end : ℕ) (values : List Float) (v : Each (λ (x : Float). T (fits binary64 x)) values)
    (e : range_code ns ss base start end (length values) ≡ 0) where
  rounded : some is_bad (visited_rates ns ss base start end values) ≡ false
      → figure_of ns ss base start end values ≡ value (rounded_once (factor_of_acc (range_product ns ss base start end values)))
  rounded b =
      let d = rule-D3 ns ss base start end values v e in
      figure-good ns ss base start end values e (d.mark ∙ b) ∙ ap value (rounded-value (range_product ns ss base start end values) (d.mark ∙ b))

  range-figure : RuleO4 ns ss base start end values
  range-figure =
      let d = rule-D3 ns ss base start end values v e in
      record {
        bad = λ b. figure-bad ns ss base start end values e (d.mark ∙ b) ∙ sym (ordered-number ns ss base start end values e);
        finished = λ b. rounded b ∙ sym (d.once (d.mark ∙ b));
        good = λ b. rounded b ∙ ap (λ (x : StableProductFloatAcc). value (rounded_once (factor_of_acc x))) (d.plain (d.mark ∙ b));
      }

pub rule-O4 : RuleO4Law
rule-O4 = range-figure
