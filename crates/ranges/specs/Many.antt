-- Rules M1, R16 and C13: all workers' ranges in one call.
use Rattle.std.specs.Prelude.{ℕ, Bool, cond, not, ◌||◌, List, [], ◌∷◌, ◌++◌, map, length, ltb, eqb, ℤ, Float}
use Rattle.refusals.specs.Refusals.{Ranked, first_of, buffer_after, ANSWER_BUFFER_TOO_SHORT}
use Rattle.layout.specs.Axes.{PLACES}
use Rattle.layout.specs.Compile.{compile_refusals}
use Rattle.offsets.specs.Lists.{total_in, end_refusals, place_refusals}
use Rattle.accumulator.specs.declared.StableProductFloatAcc.{StableProductFloatAcc}
use Rattle.reduction.specs.Ranges.{range_product}

-- rule C13, the ranges of two lists, in list order: each start with its end
unfoldable pub ranges_of : List ℕ → List ℕ → List (ℕ × ℕ)
ranges_of [] ends = []
ranges_of (start ∷ starts) [] = []
ranges_of (start ∷ starts) (end ∷ ends) = (start, end) ∷ ranges_of starts ends

-- rules R5 and R6 range by range, in list order: the first faulty range decides
unfoldable pub each_refusals : ℕ → List (ℕ × ℕ) → List Ranked
each_refusals total [] = []
each_refusals total (r ∷ rs) = end_refusals total r.0 r.1 ++ each_refusals total rs

-- rule R16, of the lengths alone: the two lists differ, or one of the three buffers is shorter than their count
abbrev pub unfit : ℕ → ℕ → ℕ → ℕ → ℕ → Bool
unfit starts ends ms es bads = not (eqb starts ends) || ltb ms starts || ltb es starts || ltb bads starts

-- rule M1, the byte of a mark
abbrev pub bad_byte : Bool → ℕ
bad_byte bad = cond bad 1 0

-- rule C13, the code, with what R16 asks known: 1 to 4, 16, then 5 and 6 of each range, then 7 over so many values, which is asked once; or 0
abbrev pub code_by : List ℕ → List ℤ → ℤ → List ℕ → List ℕ → ℕ → Bool → ℕ
code_by sizes strides base starts ends length misfit =
    first_of (compile_refusals PLACES sizes strides
    ++ ((ANSWER_BUFFER_TOO_SHORT, misfit) ∷ (each_refusals (total_in sizes strides) (ranges_of starts ends) ++ place_refusals sizes strides base length)))

-- what a call is given: a layout, two lists, the values and three buffers
module _ (sizes : List ℕ) (strides : List ℤ) (base : ℤ) (starts ends : List ℕ) (values ms : List Float) (es : List ℤ) (bads : List ℕ) where
  -- rules C13 and R16, the code of the call
  unfoldable pub many_code : ℕ
  many_code = code_by sizes strides base starts ends (length values) (unfit (length starts) (length ends) (length ms) (length es) (length bads))

  -- rule M1: each range's own product, in list order
  abbrev pub products : List StableProductFloatAcc
  products = map (λ (r : ℕ × ℕ). range_product sizes strides base r.0 r.1 values) (ranges_of starts ends)

  -- rules M1 and R0, the three buffers after the call
  unfoldable pub ms_after : List Float
  ms_after = buffer_after many_code (map (λ (a : StableProductFloatAcc). a.m) products) ms

  unfoldable pub es_after : List ℤ
  es_after = buffer_after many_code (map (λ (a : StableProductFloatAcc). a.e) products) es

  unfoldable pub bads_after : List ℕ
  bads_after = buffer_after many_code (map (λ (a : StableProductFloatAcc). bad_byte a.bad) products) bads
