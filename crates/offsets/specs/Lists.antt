-- Rules R5 to R8, the refusals of a range, and rule L8, the offset list.
use Rattle.std.specs.Prelude.{ℕ, zero, suc, ◌-◌, not, List, [], ◌∷◌, ◌++◌, length, ltb, leb, ℤ}
use Rattle.layout.specs.declared.axis.ReduceOuterAxis.{ReduceOuterAxis}
use Rattle.layout.specs.Axes.{PLACES}
use Rattle.layout.specs.Order.{axes_of}
use Rattle.refusals.specs.Refusals.{Ranked, first_of, buffer_after, EMPTY_RANGE, RANGE_PAST_END, ELEMENT_OUTSIDE, BUFFER_TOO_SHORT}
use Rattle.layout.specs.Compile.{compile_refusals, compile_of}
use Rattle.offsets.specs.Elements.{offset, all_inside}

-- the total of a layout, 0 where compiling refuses it
unfoldable pub total_in : List ℕ → List ℤ → ℕ
total_in sizes strides = (compile_of PLACES sizes strides).traversal.total

-- rules R5 and R6, in rank: a range of a layout of so many elements
abbrev pub end_refusals : ℕ → ℕ → ℕ → List Ranked
end_refusals total start end = (EMPTY_RANGE, leb end start) ∷ (RANGE_PAST_END, ltb total end) ∷ []

-- rule R7: a layout over so many values, whatever the range
abbrev pub place_refusals : List ℕ → List ℤ → ℤ → ℕ → List Ranked
place_refusals sizes strides base length = (ELEMENT_OUTSIDE, not (all_inside (axes_of sizes strides) (total_in sizes strides) base length)) ∷ []

-- rules R5 to R7, in rank
unfoldable pub range_refusals : List ℕ → List ℤ → ℤ → ℕ → ℕ → ℕ → List Ranked
range_refusals sizes strides base start end length = end_refusals (total_in sizes strides) start end ++ place_refusals sizes strides base length

-- the code of a range: 1 to 7, or 0
unfoldable pub range_code : List ℕ → List ℤ → ℤ → ℕ → ℕ → ℕ → ℕ
range_code sizes strides base start end length =
    first_of (compile_refusals PLACES sizes strides ++ range_refusals sizes strides base start end length)

-- rule C2, the code of a list call: 8 for a buffer of `room` places that is too short
unfoldable pub list_code : List ℕ → List ℤ → ℤ → ℕ → ℕ → ℕ → ℕ → ℕ
list_code sizes strides base start end length room =
    first_of (compile_refusals PLACES sizes strides ++ range_refusals sizes strides base start end length ++ (BUFFER_TOO_SHORT, ltb room (end - start)) ∷ [])

-- the offsets of n elements from k on
unfoldable pub offsets_from : List ReduceOuterAxis → ℤ → ℕ → ℕ → List ℤ
offsets_from xs base k zero = []
offsets_from xs base k (suc n) = offset xs base k ∷ offsets_from xs base (suc k) n

-- rules L8 and R0, the buffer after a list call: an accepted call fills the first end - start places
unfoldable pub list_buffer : List ℕ → List ℤ → ℤ → ℕ → ℕ → ℕ → List ℤ → List ℤ
list_buffer sizes strides base start end len out =
    buffer_after (list_code sizes strides base start end len (length out)) (offsets_from (axes_of sizes strides) base start (end - start)) out
