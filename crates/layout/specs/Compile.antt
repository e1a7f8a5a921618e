-- Rule C1, compiling a layout: rules L1 and L5, refusals R1 to R4, and the answer.
use Rattle.std.specs.Prelude.{ℕ, zero, suc, ◌*◌, ◌^◌, Bool, true, false, cond, not, List, [], ◌∷◌, length, ltb, eqb, ℤ, pos, Option, Some, None, Result, Ok, Err}
use Rattle.refusals.specs.declared.Refusal.{Refusal}
use Rattle.refusals.specs.Codes.{number}
use Rattle.refusals.specs.Refusals.{Ranked, first_of, STRIDE_LENGTH_MISMATCH, TOO_MANY_AXES, OFFSET_OVERFLOW, TOO_MANY_ELEMENTS}
use Rattle.layout.specs.declared.axis.ReduceOuterAxis.{ReduceOuterAxis}
use Rattle.layout.specs.declared.traversal.FullTraversal.{FullTraversal}
use Rattle.layout.specs.Axes.{PLACES, places_of}
use Rattle.layout.specs.Order.{kept_axes, axes_of, resets_fit}
use Rattle.layout.specs.Fuse.{fuse}

-- rule L1: the product of the sizes, left to right, checked at each step
unfoldable pub total_from : ℕ → List ℕ → Option ℕ
total_from t [] = Some t
total_from t (n ∷ ns) = cond (ltb (t * n) (2 ^ 64)) (total_from (t * n) ns) None

unfoldable pub total_of : List ℕ → Option ℕ
total_of sizes = total_from 1 sizes

-- rules L2 to L4: the fused axes, where every check holds
unfoldable pub fused_of : List ℕ → List ℤ → Option (List ReduceOuterAxis)
fused_of sizes strides = cond (resets_fit (kept_axes sizes strides)) (fuse (axes_of sizes strides)) None

unfoldable pub overflows : Option FullTraversal → Bool
overflows None = true
overflows (Some l) = false

unfoldable pub above_most : Option ℕ → Bool
above_most None = false
above_most (Some t) = ltb (2 ^ 40) t

-- a compiled layout beside its code: 0, or the number of the refusal
pub record Compiled : Type 0 where
  pub code : ℕ
  pub traversal : FullTraversal

-- the rest is over any number of places for axes: the engine has `PLACES`
module _ (places : ℕ) where
  -- rule L5: the first axis is the run, the others are outer
  unfoldable pub layout_of : ℕ → List ReduceOuterAxis → FullTraversal
  layout_of t [] = record { total = t; run_len = 1; run_stride = pos 1; axis_count = 0; run_axes = places_of places [] }
  layout_of t (a ∷ xs) = record { total = t; run_len = a.extent; run_stride = a.source_step; axis_count = length xs; run_axes = places_of places xs }

  -- rule L1: the layout of total 0
  unfoldable pub empty_layout : FullTraversal
  empty_layout = record { total = 0; run_len = 0; run_stride = pos 1; axis_count = 0; run_axes = places_of places [] }

  -- rules L1 to L5: the layout, unless a check of rules L1, L3 or L4 overflows
  unfoldable pub traversal_at : List ℕ → List ℤ → Option ℕ → Option FullTraversal
  traversal_at sizes strides None = None
  traversal_at sizes strides (Some t) =
      cond (eqb t 0) (Some empty_layout) (elim (fused_of sizes strides) [ None ↦ None | Some xs ↦ Some (layout_of t xs) ])

  unfoldable pub traversal_of : List ℕ → List ℤ → Option FullTraversal
  traversal_of sizes strides = traversal_at sizes strides (total_of sizes)

  -- rules R1 to R4, in rank
  unfoldable pub compile_refusals : List ℕ → List ℤ → List Ranked
  compile_refusals sizes strides =
      (STRIDE_LENGTH_MISMATCH, not (eqb (length sizes) (length strides))) ∷ (TOO_MANY_AXES, ltb places (length sizes))
      ∷ (OFFSET_OVERFLOW, overflows (traversal_of sizes strides)) ∷ (TOO_MANY_ELEMENTS, above_most (total_of sizes)) ∷ []

  -- rule R0: the layout beside a code
  unfoldable pub layout_beside : ℕ → Option FullTraversal → FullTraversal
  layout_beside zero (Some l) = l
  layout_beside zero None = empty_layout
  layout_beside (suc n) l = empty_layout

  -- rule C1, the whole answer: the code, and beside a refusal the layout of total 0
  unfoldable pub compile_of : List ℕ → List ℤ → Compiled
  compile_of sizes strides =
      record { code = first_of (compile_refusals sizes strides); traversal = layout_beside (first_of (compile_refusals sizes strides)) (traversal_of sizes strides) }

-- the answer of the code, a refusal beside the layout of total 0
abbrev pub told : Result FullTraversal Refusal → Compiled
told (Ok l) = record { code = 0; traversal = l }
told (Err r) = record { code = number r; traversal = empty_layout PLACES }
