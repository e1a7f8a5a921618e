-- Inputs that have the same axes in another order are refused alike, over any range, and have one offset list.
-- Assumes nothing.
use Prim.Native.Nat.{ℕ, ◌-◌}
use mathlib.Core.Path.{◌≡◌, ◌∙◌, ap}
use mathlib.Core.Bool.{not}
use mathlib.Core.List.{List, [], ◌∷◌, ◌++◌}
use lib.ListN.{length}
use lib.Dec.{ltb}
use lib.IntN.{ℤ}
use Rattle.refusals.specs.Refusals.{Ranked, first_of, buffer_after, ELEMENT_OUTSIDE, BUFFER_TOO_SHORT}
use Rattle.layout.specs.declared.axis.ReduceOuterAxis.{ReduceOuterAxis}
use Rattle.layout.specs.Axes.{PLACES}
use Rattle.layout.specs.Order.{axes_of}
use Rattle.layout.specs.Compile.{Compiled, compile_refusals}
use Rattle.layout.specs.Reordered.{SameAxes}
use Rattle.layout.proofs.OneOrder.{same-axes, same-refusals, same-record}
use Rattle.offsets.specs.Elements.{all_inside}
use Rattle.offsets.specs.Lists.{total_in, end_refusals, range_refusals, range_code, list_code, offsets_from, list_buffer}

module _ (ns ns' : List ℕ) (ss ss' : List ℤ) (w : SameAxes ns ss ns' ss') (base : ℤ) (start end len : ℕ) where
  same-total-in : total_in ns ss ≡ total_in ns' ss'
  unfolding total_in
  same-total-in = ap (λ (c : Compiled). c.traversal.total) (same-record ns ns' ss ss' w)

  same-range-refusals : range_refusals ns ss base start end len ≡ range_refusals ns' ss' base start end len
  unfolding range_refusals
  same-range-refusals = ap (by (axes_of ns ss)) same-total-in ∙ ap (λ (xs : List ReduceOuterAxis). by xs (total_in ns' ss')) (same-axes ns ns' ss ss' w)
    where
      by : List ReduceOuterAxis → ℕ → List Ranked
      by xs t = end_refusals t start end ++ (ELEMENT_OUTSIDE, not (all_inside xs t base len)) ∷ []

  same-seven : compile_refusals PLACES ns ss ++ range_refusals ns ss base start end len ≡ compile_refusals PLACES ns' ss' ++ range_refusals ns' ss' base start end len
  same-seven =
      ap (λ (z : List Ranked). z ++ range_refusals ns ss base start end len) (same-refusals ns ns' ss ss' w)
      ∙ ap (λ (z : List Ranked). compile_refusals PLACES ns' ss' ++ z) same-range-refusals

  pub same-range-code : range_code ns ss base start end len ≡ range_code ns' ss' base start end len
  unfolding range_code
  same-range-code = ap first_of same-seven

  pub same-list-code : (room : ℕ) → list_code ns ss base start end len room ≡ list_code ns' ss' base start end len room
  unfolding list_code
  same-list-code room = ap (λ (z : List Ranked). first_of (z ++ (BUFFER_TOO_SHORT, ltb room (end - start)) ∷ [])) same-seven

  pub same-list-buffer : (out : List ℤ) → list_buffer ns ss base start end len out ≡ list_buffer ns' ss' base start end len out
  unfolding list_buffer
  same-list-buffer out =
      ap (λ (c : ℕ). buffer_after c (offsets_from (axes_of ns ss) base start (end - start)) out) (same-list-code (length out))
      ∙ ap (λ (xs : List ReduceOuterAxis). buffer_after (list_code ns' ss' base start end len (length out)) (offsets_from xs base start (end - start)) out)
      (same-axes ns ns' ss ss' w)
