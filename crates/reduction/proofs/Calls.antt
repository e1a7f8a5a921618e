-- The two cases of the full reduction's answer.
-- Assumes nothing.
use Prim.Native.Nat.{ℕ}
use mathlib.Core.Path.{◌≡◌, sym, ◌∙◌, ap}
use mathlib.Core.Bool.{Bool, cond}
use mathlib.Core.List.{List}
use lib.ListN.{length}
use lib.IntN.{ℤ}
use lib.Ieee.{Float}
use borrow.Author.Tests.{eq-eqb, ne_eqb}
use Rattle.accumulator.specs.declared.StableProductFloatAcc.{StableProductFloatAcc}
use Rattle.accumulator.specs.Joining.{Answer, answer_of, accumulator, refusal}
use Rattle.std.specs.Prelude.{Ok, Err}
use Rattle.refusals.specs.declared.Refusal.{Refusal}
use Rattle.refusals.specs.Codes.{number}
use Rattle.layout.specs.declared.traversal.FullTraversal.{FullTraversal}
use Rattle.refusals.proofs.Numbers.{some-number}
use Rattle.offsets.proofs.Checked.{Checked}
use Rattle.kernels.specs.Pieces.{joined_pieces}
use Rattle.offsets.specs.Lists.{range_code}
use Rattle.reduction.specs.Ranges.{pieces_of, range_product, reduce_of}

module _ (ns : List ℕ) (ss : List ℤ) (base : ℤ) (start end : ℕ) (values : List Float) where
  abbrev code : ℕ
  code = range_code ns ss base start end (length values)

  abbrev product : StableProductFloatAcc
  product = range_product ns ss base start end values

  abbrev by-test : Bool → Answer
  by-test b = cond b (accumulator product.m product.e product.bad) (refusal code)

  pub reduce-refused : (code ≡ 0 → ⊥) → reduce_of ns ss base start end values ≡ refusal code
  unfolding reduce_of
  reduce-refused n = ap by-test (ne_eqb code 0 n)

  pub reduce-accepted : code ≡ 0 → reduce_of ns ss base start end values ≡ accumulator product.m product.e product.bad
  unfolding reduce_of
  reduce-accepted e = ap by-test (eq-eqb code 0 e)

  -- what the code answers
  pub told-refused : (r : Refusal) → number r ≡ code → answer_of (Err r) ≡ reduce_of ns ss base start end values
  told-refused r k = ap refusal k ∙ sym (reduce-refused (λ z. some-number r (k ∙ z)))

  pub told-product : (l : FullTraversal) → Checked ns ss base start end (length values) l → (a : StableProductFloatAcc)
      → a ≡ joined_pieces (pieces_of l base values start end) → answer_of (Ok a) ≡ reduce_of ns ss base start end values
  told-product l c a e =
      ap (λ (x : StableProductFloatAcc). accumulator x.m x.e x.bad)
      (e ∙ ap (λ (t : FullTraversal). joined_pieces (pieces_of t base values start end)) c.is)
      ∙ sym (reduce-accepted c.code)
