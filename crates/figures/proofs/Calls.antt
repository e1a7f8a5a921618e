-- The cases of the figure's answer.
-- Assumes nothing.
use Prim.Native.Nat.{ℕ}
use mathlib.Core.Path.{◌≡◌, sym, ap, ◌∙◌}
use mathlib.Core.Bool.{Bool, true, false, cond}
use mathlib.Core.List.{List}
use lib.ListN.{length}
use lib.IntN.{ℤ}
use lib.Ieee.{Float}
use borrow.Author.Tests.{eq-eqb, ne_eqb}
use Rattle.offsets.specs.Lists.{range_code}
use Rattle.floats.specs.Fields.{value_of}
use Rattle.finishing.specs.Finishing.{FinalAnswer, value, refusal, final_answer_of, value_of_acc}
use Rattle.std.specs.Prelude.{Err}
use Rattle.refusals.specs.declared.Refusal.{Refusal}
use Rattle.refusals.specs.Codes.{number}
use Rattle.layout.specs.declared.traversal.FullTraversal.{FullTraversal}
use Rattle.refusals.proofs.Numbers.{some-number}
use Rattle.offsets.proofs.Checked.{Checked}
use Rattle.accumulator.specs.declared.StableProductFloatAcc.{StableProductFloatAcc}
use Rattle.kernels.specs.Pieces.{joined_pieces}
use Rattle.reduction.specs.Ranges.{pieces_of, range_product}
use Rattle.ordered.specs.Ranges.{range_bits}
use Rattle.figures.specs.Figures.{range_figure, figure_of}

module _ (ns : List ℕ) (ss : List ℤ) (base : ℤ) (start end : ℕ) (values : List Float) where
  abbrev code : ℕ
  code = range_code ns ss base start end (length values)

  abbrev by-test : Bool → FinalAnswer
  by-test b = cond b (value (range_figure ns ss base start end values)) (refusal code)

  pub figure-refused : (code ≡ 0 → ⊥) → figure_of ns ss base start end values ≡ refusal code
  unfolding figure_of
  figure-refused n = ap by-test (ne_eqb code 0 n)

  figure-accepted : code ≡ 0 → figure_of ns ss base start end values ≡ value (range_figure ns ss base start end values)
  unfolding figure_of
  figure-accepted e = ap by-test (eq-eqb code 0 e)

  abbrev by-mark : Bool → FinalAnswer
  by-mark b =
      value (cond b (value_of 11 52 (range_bits ns ss base start end values)) (value_of_acc (range_product ns ss base start end values)))

  pub figure-bad : code ≡ 0 → (range_product ns ss base start end values).bad ≡ true
      → figure_of ns ss base start end values ≡ value (value_of 11 52 (range_bits ns ss base start end values))
  unfolding range_figure
  figure-bad e b = figure-accepted e ∙ ap by-mark b

  pub figure-good : code ≡ 0 → (range_product ns ss base start end values).bad ≡ false
      → figure_of ns ss base start end values ≡ value (value_of_acc (range_product ns ss base start end values))
  unfolding range_figure
  figure-good e b = figure-accepted e ∙ ap by-mark b

  -- what the code answers
  pub told-refused : (r : Refusal) → number r ≡ code → final_answer_of (Err r) ≡ figure_of ns ss base start end values
  told-refused r k = ap refusal k ∙ sym (figure-refused (λ z. some-number r (k ∙ z)))

  pub reduced-range : (l : FullTraversal) → Checked ns ss base start end (length values) l → (a : StableProductFloatAcc)
      → a ≡ joined_pieces (pieces_of l base values start end) → a ≡ range_product ns ss base start end values
  reduced-range l c a e = e ∙ ap (λ (t : FullTraversal). joined_pieces (pieces_of t base values start end)) c.is
