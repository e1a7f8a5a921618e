-- Inputs that have the same axes in another order have one product, and one finished number.
-- Assumes nothing.
use Prim.Native.Nat.{ℕ}
use mathlib.Core.Path.{◌≡◌, ◌∙◌, ap}
use mathlib.Core.Bool.{cond}
use mathlib.Core.List.{List}
use lib.ListN.{length}
use lib.Dec.{eqb}
use lib.IntN.{ℤ}
use lib.Ieee.{Float}
use Rattle.layout.specs.Compile.{Compiled}
use Rattle.layout.specs.Reordered.{SameAxes}
use Rattle.layout.proofs.OneOrder.{same-record}
use Rattle.offsets.specs.Lists.{range_code}
use Rattle.offsets.proofs.Reordered.{same-range-code}
use Rattle.accumulator.specs.declared.StableProductFloatAcc.{StableProductFloatAcc}
use Rattle.accumulator.specs.Joining.{Answer, accumulator, refusal}
use Rattle.kernels.specs.Pieces.{joined_pieces}
use Rattle.finishing.specs.Finishing.{finished_of}
use Rattle.reduction.specs.Ranges.{pieces_of, range_product, reduce_of}
use Rattle.reduction.specs.Theorems.{OneProduct}

module _ (ns ns' : List ℕ) (ss ss' : List ℤ) (w : SameAxes ns ss ns' ss') (base : ℤ) (start end : ℕ) (values : List Float) where
  pub same-product : range_product ns ss base start end values ≡ range_product ns' ss' base start end values
  same-product = ap (λ (c : Compiled). joined_pieces (pieces_of c.traversal base values start end)) (same-record ns ns' ss ss' w)

  same-reduction : reduce_of ns ss base start end values ≡ reduce_of ns' ss' base start end values
  unfolding reduce_of
  same-reduction =
      ap (by (range_product ns ss base start end values)) (same-range-code ns ns' ss ss' w base start end (length values))
      ∙ ap (λ (r : StableProductFloatAcc). by r (range_code ns' ss' base start end (length values))) same-product
    where
      by : StableProductFloatAcc → ℕ → Answer
      by r code = cond (eqb code 0) (accumulator r.m r.e r.bad) (refusal code)

pub one_product : OneProduct
one_product ns ns' ss ss' w base start end values =
    let e = same-reduction ns ns' ss ss' w base start end values in
    (e, ap finished_of e)
