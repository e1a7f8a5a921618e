-- Rules O4 and C8: the figure of a range.
use Rattle.std.specs.Prelude.{ℕ, cond, List, length, eqb, ℤ, Float}
use Rattle.offsets.specs.Lists.{range_code}
use Rattle.floats.specs.Fields.{value_of}
use Rattle.finishing.specs.Finishing.{FinalAnswer, value, refusal, value_of_acc}
use Rattle.reduction.specs.Ranges.{range_product}
use Rattle.ordered.specs.Ranges.{range_bits}

-- rule O4, of an accepted range: the ordered product where the mark is bad, else the finished number
unfoldable pub range_figure : List ℕ → List ℤ → ℤ → ℕ → ℕ → List Float → Float
unfolding value_of_acc
range_figure sizes strides base start end values =
    let a = range_product sizes strides base start end values in
    cond a.bad (value_of 11 52 (range_bits sizes strides base start end values)) (value_of_acc a)

-- rule C8, the figure: the number of the refusal, 1 to 7, or the range's figure
unfoldable pub figure_of : List ℕ → List ℤ → ℤ → ℕ → ℕ → List Float → FinalAnswer
unfolding range_figure
figure_of sizes strides base start end values =
    let code = range_code sizes strides base start end (length values) in
    cond (eqb code 0) (value (range_figure sizes strides base start end values)) (refusal code)
