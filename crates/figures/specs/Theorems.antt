-- What is proved about figures, each statement as a type that a proof inhabits (proofs/Theorems, proofs/Reordered).
use Rattle.std.specs.Prelude.{ℕ, ◌≡◌, true, false, List, length, T, ℤ, Float}
use Rattle.std.specs.Float.{binary64}
use Rattle.std.specs.Float.Ieee.{fits}
use Rattle.layout.specs.Axes.{PLACES}
use Rattle.layout.specs.Compile.{compile_of}
use Rattle.layout.specs.Reordered.{SameAxes}
use Rattle.offsets.specs.Lists.{range_code}
use Rattle.offsets.specs.Values.{visited_rates}
use Rattle.floats.specs.Splitting.{is_bad}
use Rattle.accumulator.specs.Joining.{factor_of_acc}
use Rattle.laws.specs.Lists.{Each}
use Rattle.kernels.specs.Lanes.{some}
use Rattle.kernels.specs.Plain.{plain_product}
use Rattle.kernels.specs.Pieces.{patterns_of, acc_of}
use Rattle.finishing.specs.Once.{rounded_once}
use Rattle.finishing.specs.Finishing.{value, finished_of}
use Rattle.reduction.specs.Ranges.{pieces_of, reduce_of}
use Rattle.ordered.specs.Ranges.{ordered_of}
use Rattle.figures.specs.Figures.{figure_of}

-- rule O4 of an accepted range, by rule D3. The two numbers need not be equal, least of all in their last bits: the ordered product is rounded after each
-- value in turn, within the range of a double; the finished number is the plain product of the pieces, in eight lanes, rounded to that range once.
pub record RuleO4 (ns : List ℕ) (ss : List ℤ) (base : ℤ) (start end : ℕ) (values : List Float) : Type 0 where
  -- a visited rate is bad: the ordered product call's answer
  pub bad : some is_bad (visited_rates ns ss base start end values) ≡ true → figure_of ns ss base start end values ≡ ordered_of ns ss base start end values
  -- none is: what finishing makes of the reduction's answer, which is the plain product of the pieces, rounded once
  pub finished : some is_bad (visited_rates ns ss base start end values) ≡ false
      → figure_of ns ss base start end values ≡ finished_of (reduce_of ns ss base start end values)
  pub good : some is_bad (visited_rates ns ss base start end values) ≡ false → figure_of ns ss base start end values
      ≡ value (rounded_once (factor_of_acc (acc_of (plain_product 11 52 (patterns_of (pieces_of (compile_of PLACES ns ss).traversal base values start end))))))

-- it holds of every accepted range, over values of binary64, as every f64 is
abbrev pub RuleO4Law : Type 0
RuleO4Law =
    (ns : List ℕ) (ss : List ℤ) (base : ℤ) (start end : ℕ) (values : List Float)
    → Each (λ (x : Float). T (fits binary64 x)) values → range_code ns ss base start end (length values) ≡ 0
    → RuleO4 ns ss base start end values

-- Rules L2 and C8: inputs that have the same axes in another order, those of one stride in one order among themselves, have one figure, or one refusal.
abbrev pub OneFigure : Type 0
OneFigure =
    (ns ns' : List ℕ) (ss ss' : List ℤ) → SameAxes ns ss ns' ss' → (base : ℤ) (start end : ℕ) (values : List Float)
    → figure_of ns ss base start end values ≡ figure_of ns' ss' base start end values
