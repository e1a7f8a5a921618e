-- Inputs that have the same axes in another order have one figure.
-- Assumes nothing.
use Prim.Native.Nat.{ℕ, ◌-◌}
use mathlib.Core.Path.{◌≡◌, ◌∙◌, ap}
use mathlib.Core.Bool.{cond}
use mathlib.Core.List.{List, map}
use lib.ListN.{length}
use lib.Dec.{eqb}
use lib.IntN.{ℤ}
use lib.Ieee.{Float}
use Rattle.layout.specs.declared.axis.ReduceOuterAxis.{ReduceOuterAxis}
use Rattle.layout.specs.Reordered.{SameAxes}
use Rattle.layout.proofs.OneOrder.{same-axes}
use Rattle.offsets.specs.Lists.{range_code, offsets_from}
use Rattle.offsets.specs.Values.{value_at}
use Rattle.offsets.proofs.Reordered.{same-range-code}
use Rattle.floats.specs.Fields.{value_of}
use Rattle.floats.specs.Splitting.{bits_of}
use Rattle.accumulator.specs.declared.StableProductFloatAcc.{StableProductFloatAcc}
use Rattle.finishing.specs.Finishing.{FinalAnswer, value, refusal, value_of_acc}
use Rattle.reduction.specs.Ranges.{range_product}
use Rattle.reduction.proofs.Reordered.{same-product}
use Rattle.ordered.specs.Ranges.{range_bits}
use Rattle.ordered.specs.Units.{ordered_bits}
use Rattle.figures.specs.Figures.{range_figure, figure_of}
use Rattle.figures.specs.Theorems.{OneFigure}

module _ (ns ns' : List ℕ) (ss ss' : List ℤ) (w : SameAxes ns ss ns' ss') (base : ℤ) (start end : ℕ) (values : List Float) where
  same-pattern : range_bits ns ss base start end values ≡ range_bits ns' ss' base start end values
  same-pattern =
      ap (λ (xs : List ReduceOuterAxis). ordered_bits 11 52 (map bits_of (map (value_at values) (offsets_from xs base start (end - start))))) (same-axes ns ns' ss ss' w)

  same-figure : range_figure ns ss base start end values ≡ range_figure ns' ss' base start end values
  unfolding range_figure
  same-figure =
      ap (by (range_bits ns ss base start end values)) (same-product ns ns' ss ss' w base start end values)
      ∙ ap (λ (b : ℕ). by b (range_product ns' ss' base start end values)) same-pattern
    where
      by : ℕ → StableProductFloatAcc → Float
      by b a = cond a.bad (value_of 11 52 b) (value_of_acc a)

  same-figure-answer : figure_of ns ss base start end values ≡ figure_of ns' ss' base start end values
  unfolding figure_of
  same-figure-answer =
      ap (by (range_figure ns ss base start end values)) (same-range-code ns ns' ss ss' w base start end (length values))
      ∙ ap (λ (x : Float). by x (range_code ns' ss' base start end (length values))) same-figure
    where
      by : Float → ℕ → FinalAnswer
      by x code = cond (eqb code 0) (value x) (refusal code)

pub one-figure : OneFigure
one-figure = same-figure-answer
