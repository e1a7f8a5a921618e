-- The lanes of values side by side: lane k of n values from p on is the product of the values p + k, p + k + 8 and so on, so windows whose lanes begin at one
-- rate share them. Assumes nothing.
use Prim.Native.Nat.{ℕ, zero, suc, ◌+◌, ◌*◌, ◌<◌}
use mathlib.Core.Path.{◌≡◌, refl, sym, ap, ◌∙◌, subst}
use mathlib.Core.Bool.{false}
use mathlib.Core.List.{List, [], ◌∷◌}
use native.Mathlib.Nat.{zero-add}
use native.Mathlib.Numerals.{add-one}
use native.Mathlib.Omega.{arith}
use lib.ListN.{length, get_or, set, replicate, length-set, get_or-replicate}
use lib.IntN.{ℤ, pos, nat_abs, ◌+ℤ◌, ◌*ℤ◌}
use lib.Ieee.{Float, nan}
use Rattle.integers.proofs.Difference.{ints, atoms}
use Rattle.floats.specs.Product.{product_of}
use Rattle.kernels.specs.Lanes.{feed, lane_of}
use Rattle.kernels.specs.InnerStrided.{strided}
use Rattle.kernels.proofs.Feeding.{feed-holds, feed-append}
use Rattle.kernels.proofs.Factors.{lane-lt, set_cases}
use Rattle.kernels.proofs.Lanewise.{turns}
use Rattle.kernels.proofs.Striding.{length-strided, strided-append}
use Rattle.vectors.specs.declared.vector.Waiting.{Waiting}
use Rattle.vectors.specs.InnerWaiting.{one, wait_step}

-- value i multiplied as it is into lane i mod 8
abbrev pub times_in : ℕ → List Float → Float → List Float
times_in i ms x = set ms (lane_of i) (product_of 11 52 (get_or ms (lane_of i) nan) x)

abbrev pub lanes_of : List Float → List Float
lanes_of xs = feed times_in 0 (replicate 8 one) xs

-- so do lanes that wait
pub wait-lanes : (i : ℕ) (w : Waiting) (xs : List Float) → (feed (wait_step false) i w xs).m ≡ feed times_in i w.m xs
unfolding feed wait_step
wait-lanes i w [] = refl
wait-lanes i w (x ∷ xs) = wait-lanes (suc i) (wait_step false i w x) xs

-- the product of n values from p on, eight apart, from 1.0
pub column : List Float → ℕ → ℕ → Float
column vs p zero = one
column vs p (suc n) = product_of 11 52 (column vs p n) (get_or vs (p + 8 * n) nan)

module _ (vs : List Float) (p : ℕ) where
  abbrev after : ℕ → List Float
  after n = lanes_of (strided vs (pos p) (pos 1) n)

  after-long : (n : ℕ) → length (after n) ≡ 8
  after-long n =
      feed-holds times_in (λ (ms : List Float). length ms ≡ 8) (λ i ms x l. length-set ms (lane_of i) (product_of 11 52 (get_or ms (lane_of i) nan) x) ∙ l) 0 (replicate 8 one)
      (strided vs (pos p) (pos 1) n) refl

  -- one value more
  after_more : (n : ℕ) → after (suc n) ≡ times_in n (after n) (get_or vs (p + n) nan)
  unfolding feed strided
  after_more n =
      ap after (sym (add-one n))
      ∙ ap lanes_of (strided-append vs (pos p) (pos 1) n 1)
      ∙ feed-append times_in 0 (replicate 8 one) (strided vs (pos p) (pos 1) n) (strided vs (pos p +ℤ pos 1 *ℤ pos n) (pos 1) 1)
      ∙ ap (λ (i : ℕ). times_in i (after n) (get_or vs (nat_abs (pos p +ℤ pos 1 *ℤ pos n)) nan)) (zero-add (length (strided vs (pos p) (pos 1) n)) ∙ length-strided vs (pos p) (pos 1) n)
      ∙ ap (λ (z : ℤ). times_in n (after n) (get_or vs (nat_abs z) nan)) place
    where
      place : (pos p +ℤ pos 1 *ℤ pos n) ≡ pos (p + n)
      place = simp ints (simp atoms (omega arith))

  -- what the value n makes of lane k
  lane-more : (n k : ℕ) → k < 8 → get_or (after n) k nan ≡ column vs (p + k) (turns k n) → get_or (after (suc n)) k nan ≡ column vs (p + k) (turns k (suc n))
  unfolding column
  lane-more n k h before =
      ap (λ (ms : List Float). get_or ms k nan) (after_more n)
      ∙ set_cases (λ (z : Float). z ≡ column vs (p + k) (turns k (suc n))) (after n) (lane_of n) k y nan
      (subst (λ (m : ℕ). lane_of n < m) (sym (after-long n)) (lane-lt n)) here there
    where
      y : Float
      y = product_of 11 52 (get_or (after n) (lane_of n) nan) (get_or vs (p + n) nan)

      here : k ≡ lane_of n → y ≡ column vs (p + k) (turns k (suc n))
      here e =
          ap (λ (j : ℕ). product_of 11 52 (get_or (after n) j nan) (get_or vs (p + n) nan)) (sym e)
          ∙ ap (λ (z : Float). product_of 11 52 z (get_or vs (p + n) nan)) before
          ∙ ap (λ (j : ℕ). product_of 11 52 (column vs (p + k) (turns k n)) (get_or vs j nan)) (let q : p + n ≡ p + k + 8 * turns k n = omega arith in q)
          ∙ ap (column vs (p + k)) (let q : suc (turns k n) ≡ turns k (suc n) = omega arith in q)

      there : (k ≡ lane_of n → ⊥) → get_or (after n) k nan ≡ column vs (p + k) (turns k (suc n))
      there e = before ∙ ap (column vs (p + k)) (let q : turns k n ≡ turns k (suc n) = omega arith in q)

  pub lane-column : (n k : ℕ) → k < 8 → get_or (lanes_of (strided vs (pos p) (pos 1) n)) k nan ≡ column vs (p + k) (turns k n)
  unfolding feed strided column
  lane-column zero k h = get_or-replicate 8 k one nan h ∙ ap (column vs (p + k)) (let q : 0 ≡ turns k 0 = omega arith in q)
  lane-column (suc n) k h = lane-more n k h (lane-column n k h)
