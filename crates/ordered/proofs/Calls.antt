-- The two cases of the ordered product's answer: a refusal, or the fold over the visited values, whose pattern whole numbers give.
-- Assumes nothing.
use Prim.Native.Nat.{ℕ, ◌-◌}
use mathlib.Core.Path.{◌≡◌, refl, ◌∙◌, ap}
use mathlib.Core.Bool.{Bool, false, cond}
use mathlib.Core.List.{List, ◌∷◌}
use lib.ListN.{length, get_or}
use lib.Dec.{T, lit<}
use lib.IntN.{ℤ, pos, nat_abs}
use lib.Ieee.{Float, nan, fin, binary64, fits}
use borrow.Author.Tests.{eq-eqb, ne_eqb}
use Rattle.layout.specs.declared.traversal.FullTraversal.{FullTraversal}
use Rattle.layout.specs.Order.{axes_of}
use Rattle.offsets.specs.Lists.{offsets_from, range_code}
use Rattle.offsets.specs.Pieces.{run_of, outer_of}
use Rattle.offsets.specs.Values.{value_at}
use Rattle.offsets.proofs.Checked.{Checked}
use Rattle.floats.specs.Fields.{value_of}
use Rattle.floats.specs.Splitting.{bits_of}
use Rattle.finishing.specs.Finishing.{FinalAnswer, value, refusal}
use Rattle.ordered.specs.InnerFolds.{fold_places}
use Rattle.ordered.specs.Ranges.{range_bits, ordered_of}
use Rattle.ordered.proofs.Units.{fold-bits, fold-value}

module _ (ns : List ℕ) (ss : List ℤ) (base : ℤ) (start end : ℕ) (values : List Float) where
  abbrev code : ℕ
  code = range_code ns ss base start end (length values)

  abbrev by-test : Bool → FinalAnswer
  by-test b = cond b (value (value_of 11 52 (range_bits ns ss base start end values))) (refusal code)

  pub ordered-refused : (code ≡ 0 → ⊥) → ordered_of ns ss base start end values ≡ refusal code
  unfolding ordered_of
  ordered-refused n = ap by-test (ne_eqb code 0 n)

  pub ordered-number : code ≡ 0 → ordered_of ns ss base start end values ≡ value (value_of 11 52 (range_bits ns ss base start end values))
  unfolding ordered_of
  ordered-number e = ap by-test (eq-eqb code 0 e)

  module _ (v : (i : ℕ) → T (fits binary64 (get_or values i nan))) where
    -- the fold over the visited values, in bits and as a value
    pub visited-bits : bits_of (fold_places values (fin false 1 (pos 0)) (offsets_from (axes_of ns ss) base start (end - start)))
        ≡ range_bits ns ss base start end values
    visited-bits =
        fold-bits binary64 11 52 refl refl (lit< tt) (lit< tt) (lit< tt) (value_at values) (λ z. v (nat_abs z))
        (offsets_from (axes_of ns ss) base start (end - start))

    pub visited-value : fold_places values (fin false 1 (pos 0)) (offsets_from (axes_of ns ss) base start (end - start))
        ≡ value_of 11 52 (range_bits ns ss base start end values)
    unfolding fits
    visited-value =
        fold-value binary64 11 52 refl refl (lit< tt) (lit< tt) (lit< tt) (value_at values) (λ z. v (nat_abs z)) tt
        (offsets_from (axes_of ns ss) base start (end - start))

    -- what the code multiplies, over the compiled layout, is that
    pub ordered-accepted : (l : FullTraversal) → Checked ns ss base start end (length values) l
        → fold_places values (fin false 1 (pos 0)) (offsets_from (run_of l ∷ outer_of l) base start (end - start))
        ≡ value_of 11 52 (range_bits ns ss base start end values)
    ordered-accepted l c = ap (fold_places values (fin false 1 (pos 0))) (c.offsets (end - start) start) ∙ visited-value
