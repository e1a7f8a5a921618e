-- The loops over lanes and windows, a turn at a time. Assumes nothing.
use Prim.Native.Nat.{ℕ, ◌+◌, ◌≤◌, ◌<◌}
use mathlib.Core.Path.{◌≡◌, sym, ap, ◌∙◌, subst}
use mathlib.Core.List.{List}
use native.Mathlib.Numerals.{add-one}
use native.Mathlib.Omega.{arith}
use lib.ListN.{length, get_or, set, length-set}
use lib.Ieee.{Float, nan, binary64, mul}
use Rattle.floats.specs.Product.{product_of}
use Rattle.floats.proofs.Product.{mul-binary64}
use Rattle.kernels.specs.Lanes.{in_order}
use Rattle.kernels.proofs.Factors.{set_cases}
use Rattle.vectors.specs.InnerWaiting.{one}
use Rattle.windows.specs.InnerEight.{TimesLane, TimesLanes}

-- ---- k lanes of either eight are written
pub record BesideUpto (a b : List Float) (k : ℕ) (r : List Float) : Type 0 where
  pub upto : k ≤ 8
  pub long : length r ≡ 16
  pub low : (j : ℕ) → j < k → get_or r j nan ≡ get_or a j nan
  pub high : (j : ℕ) → j < k → get_or r (8 + j) nan ≡ get_or b j nan

-- ---- the products of t windows are multiplied by their lane k
pub record LaneUpto (c lanes : List Float) (k t : ℕ) (r : List Float) : Type 0 where
  pub upto : t ≤ 8
  pub long : length r ≡ 8
  pub done : (j : ℕ) → j < t → get_or r j nan ≡ product_of 11 52 (get_or c j nan) (get_or lanes (j + k) nan)
  pub left : (j : ℕ) → t ≤ j → get_or r j nan ≡ get_or c j nan

module _ (c lanes : List Float) (k t : ℕ) (r : List Float) (R : LaneUpto c lanes k t r) where
  pub lane-more : t < 8 → LaneUpto c lanes k (t + 1) (set r t (mul binary64 (get_or r t nan) (get_or lanes (t + k) nan)))
  lane-more h = record {
    upto = omega arith;
    long = length-set r t y ∙ R.long;
    done = λ j l.
        set_cases (λ (z : Float). z ≡ product_of 11 52 (get_or c j nan) (get_or lanes (j + k) nan)) r t j y nan inside (here j) (λ n. R.done j (omega (arith, n)));
    left = λ j l. set_cases (λ (z : Float). z ≡ get_or c j nan) r t j y nan inside (λ e. absurd (omega (arith, e))) (λ n. R.left j (omega arith));
  }
    where
      y : Float
      y = mul binary64 (get_or r t nan) (get_or lanes (t + k) nan)

      inside : t < length r
      inside = subst (λ (n : ℕ). t < n) (sym R.long) h

      here : (j : ℕ) → j ≡ t → y ≡ product_of 11 52 (get_or c j nan) (get_or lanes (j + k) nan)
      here j e =
          mul-binary64 (get_or r t nan) (get_or lanes (t + k) nan)
          ∙ ap (λ (z : Float). product_of 11 52 z (get_or lanes (t + k) nan)) (R.left t (omega arith))
          ∙ ap (λ (i : ℕ). product_of 11 52 (get_or c i nan) (get_or lanes (i + k) nan)) (sym e)

-- ---- lane after lane
pub lanes-more : (c lanes : List Float) (first k : ℕ) (r s : List Float) → TimesLanes c lanes first k r → TimesLane r lanes k s → first ≤ k
    → TimesLanes c lanes first (k + 1) s
unfolding in_order
lanes-more c lanes first k r s R S h = record {
  long = S.long;
  at = λ t l f F e.
      S.at t l
      ∙ ap (λ (z : Float). product_of 11 52 z (get_or lanes (t + k) nan)) (R.at t l f (λ i a b p. F i a (omega arith) p) e)
      ∙ sym (F k h (omega arith) (in_order f k one))
      ∙ ap (λ (n : ℕ). in_order f n one) (sym (add-one k));
}
