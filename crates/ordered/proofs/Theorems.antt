-- Rule O3 of every accepted range.
-- Assumes that each value is one of binary64, as every f64 is.
use Prim.Native.Nat.{◌-◌}
use mathlib.Core.Path.{◌≡◌, refl, sym, ◌∙◌, ap}
use mathlib.Core.Bool.{false}
use mathlib.Core.List.{List, [], ◌∷◌, foldl, foldl-map}
use lib.IntN.{pos}
use lib.Ieee.{Float, fin, binary64, mul}
use Rattle.layout.specs.Order.{axes_of}
use Rattle.offsets.specs.Lists.{offsets_from}
use Rattle.offsets.specs.Values.{value_at, visited_rates}
use Rattle.floats.specs.Product.{product_of}
use Rattle.floats.specs.Splitting.{bits_of}
use Rattle.floats.proofs.Product.{mul-binary64}
use Rattle.ordered.specs.Theorems.{RuleO3Law}
use Rattle.ordered.proofs.Calls.{ordered-number, visited-bits, visited-value}

-- the language's product is the standard's, so a fold by one is a fold by the other
fold_law : (xs : List Float) (x : Float) → foldl (mul binary64) x xs ≡ foldl (product_of 11 52) x xs
fold_law [] x = refl
fold_law (y ∷ xs) x = ap (λ (z : Float). foldl (mul binary64) z xs) (mul-binary64 x y) ∙ fold_law xs (product_of 11 52 x y)

pub rule-O3 : RuleO3Law
rule-O3 ns ss base start end values v e =
    let one = fin false 1 (pos 0) in
    let is = visited-value ns ss base start end values v in
    record {
      answer = ordered-number ns ss base start end values e;
      bits = ap bits_of (sym is) ∙ visited-bits ns ss base start end values v;
      fold = sym is
          ∙ sym (foldl-map (value_at values) (mul binary64) (offsets_from (axes_of ns ss) base start (end - start)) one)
          ∙ fold_law (visited_rates ns ss base start end values) one;
    }
