-- What is proved about reducing, each statement as a type that a proof inhabits (proofs/Whole, proofs/Reordered): rule D3 of every
-- accepted range of every layout, and what the order of the input's axes is to the answer.
use Rattle.std.specs.Prelude.{ℕ, ◌≡◌, true, false, List, length, T, ℤ, Float}
use Rattle.std.specs.Float.{nan, binary64}
use Rattle.std.specs.Float.Ieee.{fits}
use Rattle.layout.specs.Axes.{PLACES}
use Rattle.layout.specs.Compile.{compile_of}
use Rattle.layout.specs.Reordered.{SameAxes}
use Rattle.offsets.specs.Lists.{range_code}
use Rattle.floats.specs.Magnitude.{in_unit}
use Rattle.floats.specs.Splitting.{is_bad}
use Rattle.accumulator.specs.declared.StableProductFloatAcc.{StableProductFloatAcc}
use Rattle.accumulator.specs.Joining.{accumulator, factor_of_acc}
use Rattle.laws.specs.Lists.{Each}
use Rattle.kernels.specs.Lanes.{some}
use Rattle.kernels.specs.Plain.{plain_product}
use Rattle.kernels.specs.Pieces.{patterns_of, acc_of, rates_of}
use Rattle.finishing.specs.Once.{rounded_once}
use Rattle.finishing.specs.Finishing.{value, finished_of}
use Rattle.offsets.specs.Values.{visited_rates}
use Rattle.reduction.specs.Ranges.{pieces_of, range_product, reduce_of}

-- what rule D3 says of the answer `a` to a range
pub record RuleD3 (ns : List ℕ) (ss : List ℤ) (base : ℤ) (start end : ℕ) (values : List Float) (a : StableProductFloatAcc) : Type 0 where
  -- the call is accepted, and this is its answer
  pub answer : reduce_of ns ss base start end values ≡ accumulator a.m a.e a.bad
  -- the pieces hold the visited rates, in order
  pub rates : rates_of (pieces_of (compile_of PLACES ns ss).traversal base values start end) ≡ visited_rates ns ss base start end values
  -- the mark is set exactly if a visited rate is zero, infinite or NaN
  pub mark : a.bad ≡ some is_bad (visited_rates ns ss base start end values)
  -- not bad: m and e are the plain product's over the pieces
  pub plain : a.bad ≡ false → a ≡ acc_of (plain_product 11 52 (patterns_of (pieces_of (compile_of PLACES ns ss).traversal base values start end)))
  -- 1 <= |m| < 2, bad or not
  pub unit : in_unit a.m ≡ true
  -- finishing the answer gives m × 2^e rounded once, or the NaN of a bad mark; never a refusal
  pub once : a.bad ≡ false → finished_of (reduce_of ns ss base start end values) ≡ value (rounded_once (factor_of_acc a))
  pub marked : a.bad ≡ true → finished_of (reduce_of ns ss base start end values) ≡ value nan

-- it holds of every accepted range, over values of binary64, as every f64 is
abbrev pub RuleD3Law : Type 0
RuleD3Law =
    (ns : List ℕ) (ss : List ℤ) (base : ℤ) (start end : ℕ) (values : List Float)
    → Each (λ (x : Float). T (fits binary64 x)) values → range_code ns ss base start end (length values) ≡ 0
    → RuleD3 ns ss base start end values (range_product ns ss base start end values)

-- Rules L2, C3 and C5: inputs that have the same axes in another order, those of one stride in one order among themselves, have one product, or one refusal,
-- and one finished number.
abbrev pub OneProduct : Type 0
OneProduct =
    (ns ns' : List ℕ) (ss ss' : List ℤ) → SameAxes ns ss ns' ss' → (base : ℤ) (start end : ℕ) (values : List Float)
    → (reduce_of ns ss base start end values ≡ reduce_of ns' ss' base start end values)
    × (finished_of (reduce_of ns ss base start end values) ≡ finished_of (reduce_of ns' ss' base start end values))
