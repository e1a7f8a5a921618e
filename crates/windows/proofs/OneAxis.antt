-- The full reduction over one axis of w elements at stride 1, from base i on, is the product in blocks of the window of w rates at i.
-- Assumes nothing.
use Prim.Native.Nat.{ℕ, ◌+◌, ◌-◌, ◌%◌, ◌^◌, ◌≤◌, ◌<◌}
use mathlib.Core.Path.{◌≡◌, sym, ◌∙◌, ap}
use mathlib.Core.Bool.{true}
use mathlib.Core.List.{List, [], ◌∷◌}
use native.Mathlib.Omega.{arith}
use native.Mathlib.Nat.{mod-lt, sub-zero}
use native.Mathlib.Decide.{dec_lt}
use lib.ListN.{length, take, drop}
use lib.IntN.{ℤ, pos, neg_ℤ, ◌+ℤ◌, ◌*ℤ◌}
use lib.Ieee.{Float}
use borrow.Author.Tests.{lt-ltb, le-leb}
use mir.Val.{SFits}
use mir.Syntax.{w64}
use Rattle.refusals.specs.Refusals.{first_of}
use Rattle.integers.specs.Integers.{eq_z}
use Rattle.integers.proofs.Difference.{ints, atoms}
use Rattle.integers.proofs.Machine.{fits-test}
use Rattle.integers.proofs.Places.{place-first}
use Rattle.layout.specs.declared.traversal.FullTraversal.{FullTraversal}
use Rattle.layout.specs.Compile.{Compiled}
use Rattle.layout.specs.Axes.{PLACES, span, axis_of, axes_in, reset_fits}
use Rattle.layout.specs.Compile.{layout_of, compile_of}
use Rattle.layout.specs.InnerTables.{elements}
use Rattle.layout.proofs.Line.{line-one, line-run}
use Rattle.offsets.specs.Elements.{digits, shift, offset, inside_values, all_inside}
use Rattle.offsets.specs.Lists.{range_code}
use Rattle.offsets.proofs.Ends.{every-below-true}
use Rattle.offsets.proofs.Ranges.{Clear, clear, place-0, tested, range-places, Ranged, ranged, ranged-accepted, ranged-inside, ranged-bounded}
use Rattle.accumulator.specs.declared.StableProductFloatAcc.{StableProductFloatAcc}
use Rattle.accumulator.specs.Joining.{accumulator}
use Rattle.kernels.specs.Blocks.{contiguous}
use Rattle.kernels.specs.Pieces.{worked}
use Rattle.kernels.specs.InnerStrided.{strided}
use Rattle.kernels.proofs.Striding.{strided-window}
use Rattle.reduction.specs.Ranges.{range_product, reduce_of}
use Rattle.reduction.proofs.Calls.{reduce-accepted}
use Rattle.reduction.proofs.Lines.{line-joined}

-- ---- the layout: rule L3 holds of the axis, and it is the run, dropped or not
span_fits : (w : ℕ) → w ≤ 2 ^ 40 → (SFits w64 (pos (w - 1))) × (SFits w64 (span w (pos 1))) × (SFits w64 (neg_ℤ (span w (pos 1))))
unfolding span
span_fits w h = (simp ints (simp atoms (omega arith)), simp ints (simp atoms (omega arith)), simp ints (simp atoms (omega arith)))

reset-fits : (w : ℕ) → w ≤ 2 ^ 40 → reset_fits w (pos 1) ≡ true
unfolding reset_fits
reset-fits w h = let f = span_fits w h in rw (fits-test _ f.0, fits-test _ f.1, fits-test _ f.2)

-- a place that refusal 7 lets through
place_inside : (len n : ℕ) → n < len → len ≤ 2 ^ 63 → inside_values len (pos n) ≡ true
unfolding inside_values
place_inside len n h few = rw (le-leb 0 n (omega arith), lt-ltb n (2 ^ 63) (omega arith), lt-ltb n len h)

module _ (w : ℕ) (some_rate : 0 < w) (few : w ≤ 2 ^ 40) where
  abbrev sizes : List ℕ
  sizes = w ∷ []

  abbrev strides : List ℤ
  strides = pos 1 ∷ []

  abbrev layout : FullTraversal
  layout = (compile_of PLACES sizes strides).traversal

  compiled : compile_of PLACES sizes strides ≡ record { code = 0; traversal = layout_of PLACES w (axis_of w (pos 1) ∷ []) }
  compiled = go (dec_lt 1 w)
    where
      go : Dec (1 < w) → compile_of PLACES sizes strides ≡ record { code = 0; traversal = layout_of PLACES w (axis_of w (pos 1) ∷ []) }
      go (yes l) = line-run w (pos 1) (omega arith) (λ z. omega arith) (λ e. omega arith) (reset-fits w few) few
      go (no l) =
          let e : w ≡ 1 = omega arith in
          line-one w (pos 1) (omega arith) e ∙ sym (ap (λ (n : ℕ). record { code = 0; traversal = layout_of PLACES n (axis_of n (pos 1) ∷ []) }) e)

  total-is : layout.total ≡ w
  unfolding layout_of
  total-is = ap (λ (c : Compiled). c.traversal.total) compiled

  stride-is : layout.run_stride ≡ pos 1
  unfolding layout_of axis_of
  stride-is = ap (λ (c : Compiled). c.traversal.run_stride) compiled

  no_outer : layout.axis_count ≡ 0
  unfolding layout_of
  no_outer = ap (λ (c : Compiled). c.traversal.axis_count) compiled

  clears : Clear sizes strides
  clears = clear sizes strides (ap (λ (c : Compiled). c.code) compiled)

  -- ---- the code: no refusal applies
  module _ (values : List Float) (i : ℕ) (inside : i + w ≤ length values) (short : length values ≤ 2 ^ 63) where
    element-inside : (k : ℕ) → inside_values (length values) (offset (axes_in sizes strides) (pos i) k) ≡ true
    unfolding offset shift digits axes_in axis_of
    element-inside k =
        ap (inside_values (length values)) (at (k % w))
        ∙ place_inside (length values) (i + k % w) (let l : k % w < w = mod-lt k some_rate in omega arith) short
      where
        at : (d : ℕ) → pos i +ℤ (pos 1 *ℤ pos d +ℤ pos 0) ≡ pos (i + d)
        at d = simp ints (simp atoms (omega arith))

    all-inside : all_inside (axes_in sizes strides) (elements (axes_in sizes strides)) (pos i) (length values) ≡ true
    unfolding all_inside
    all-inside = every-below-true _ _ (λ k h. element-inside k)

    accepted : range_code sizes strides (pos i) 0 w (length values) ≡ 0
    unfolding first_of
    accepted =
        range-places sizes strides (pos i) 0 w (length values) clears some_rate (omega (arith, total-is))
        ∙ place-0 sizes strides (pos i) (length values)
        (tested sizes strides (pos i) (length values) clears (omega (arith, total-is)) true (sym all-inside)) []

    -- ---- the product: one piece, its rates side by side
    range : Ranged sizes strides (pos i) 0 w (length values)
    range = ranged sizes strides (pos i) 0 w (length values) accepted

    one_piece : worked (eq_z layout.run_stride (pos 1))
        (strided values (pos i +ℤ layout.run_stride *ℤ pos 0) layout.run_stride (w - 0))
        ≡ range_product sizes strides (pos i) 0 w values
    one_piece =
        line-joined layout (ranged-accepted sizes strides (pos i) 0 w (length values) range).traversal no_outer (pos i)
        (ranged-bounded sizes strides (pos i) 0 w (length values) range) values
        (ranged-inside sizes strides (pos i) 0 w (length values) range) w (omega (arith, total-is)) 0 some_rate

    in_blocks : worked (eq_z layout.run_stride (pos 1))
        (strided values (pos i +ℤ layout.run_stride *ℤ pos 0) layout.run_stride (w - 0))
        ≡ contiguous (strided values (pos i) (pos 1) w)
    unfolding eq_z
    in_blocks =
        ap (λ (s : ℤ). worked (eq_z s (pos 1)) (strided values (pos i +ℤ s *ℤ pos 0) s (w - 0))) stride-is
        ∙ ap (λ (z : ℤ). contiguous (strided values z (pos 1) (w - 0))) (sym (place-first (pos i) (pos 1)))
        ∙ ap (λ (n : ℕ). contiguous (strided values (pos i) (pos 1) n)) (sub-zero w)

    product : range_product sizes strides (pos i) 0 w values ≡ contiguous (take w (drop i values))
    product = sym one_piece ∙ in_blocks ∙ ap contiguous (sym (strided-window values i w inside))

-- a slice of more than 2^63 values would have places that refusal 7 does not let through
pub one-axis : (values : List Float) (w i : ℕ) → 0 < w → w ≤ 2 ^ 40 → i + w ≤ length values → length values ≤ 2 ^ 63
    → reduce_of (w ∷ []) (pos 1 ∷ []) (pos i) 0 w values
    ≡ accumulator (contiguous (take w (drop i values))).m (contiguous (take w (drop i values))).e (contiguous (take w (drop i values))).bad
one-axis values w i some_rate few inside short =
    reduce-accepted (w ∷ []) (pos 1 ∷ []) (pos i) 0 w values (accepted w some_rate few values i inside short)
    ∙ ap (λ (a : StableProductFloatAcc). accumulator a.m a.e a.bad) (product w some_rate few values i inside short)
