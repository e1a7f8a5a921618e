-- Lanes multiplied in lane order, unsplit. Assumes nothing.
use Prim.Native.Nat.{ℕ, zero, suc, ◌+◌, ◌*◌, ◌≤◌, ◌<◌, zero-le}
use mathlib.Core.Path.{◌≡◌, refl, subst}
use mathlib.Core.Bool.{Bool, true, false}
use mathlib.Core.List.{List}
use mathlib.Core.Logic.{◌⊎◌, inl, inr}
use native.Mathlib.Nat.{le_refl, le_of_lt, le_trans, le_of_eq, mul-le-mul_left}
use native.Mathlib.Omega.{arith}
use lib.ListN.{get_or}
use lib.Dec.{ltb}
use borrow.Author.Tests.{ltb-true, ltb-false}
use lib.IntN.{ℤ, pos, ◌+ℤ◌}
use lib.Ieee.{Float, nan}
use Rattle.floats.specs.Product.{product_of}
use Rattle.floats.specs.Factor.{Factor, unit, times}
use Rattle.floats.proofs.Overflow.{is_lost, lost-product, lost-factor}
use Rattle.kernels.specs.declared.lanes.Lanes.{Lanes}
use Rattle.kernels.specs.Lanes.{in_order}
use Rattle.kernels.specs.Blocks.{m_of, e_of}
use Rattle.kernels.specs.InnerLanes.{Represents, LanesRepresent, zeros}
use Rattle.kernels.proofs.Stepping.{times-in}
use Rattle.kernels.proofs.Standing.{represents-times, represents-one, represents-more}
use Rattle.vectors.specs.InnerWaiting.{one, chained, exponents_of}
use Rattle.vectors.proofs.Waits.{Waits, WaitLanes, waits-more, waits-times, represents-waits}
use Rattle.vectors.proofs.Waiting.{LostLane}

abbrev pub product-in : List Float → ℕ → Float → Float
product-in ms k p = product_of 11 52 p (get_or ms k nan)

-- ---- lanes in [1, 2): the product is below 2^9
module _ (s : Lanes) (fs : List Factor) (H : LanesRepresent zeros s fs) where
  pub upto : (n : ℕ) → n ≤ 8
      → Represents n (in_order (product-in s.m) n one) (in_order (λ (k : ℕ) (e : ℤ). e +ℤ e_of s k) n (pos 0)) (in_order (times-in fs) n (unit 52))
  unfolding in_order
  upto zero h = represents-one
  upto (suc n) h =
      let P = upto n (le_of_lt h) in
      let p = in_order (product-in s.m) n one in
      let e = in_order (λ (k : ℕ) (e : ℤ). e +ℤ e_of s k) n (pos 0) in
      let f = in_order (times-in fs) n (unit 52) in
      represents-more (n + 0 + 1) (suc n) (product_of 11 52 p (m_of s n)) (e +ℤ e_of s n) (times 52 f (get_or fs n (unit 52))) (omega arith)
      (represents-times n 0 p (m_of s n) e (e_of s n) f (get_or fs n (unit 52)) P (H.at n h) (omega arith))

  pub chain-represents : Represents 8 (chained s.m) (exponents_of s) (in_order (times-in fs) 8 (unit 52))
  unfolding chained exponents_of
  chain-represents = upto 8 (le_refl 8)

-- ---- lanes that wait, each at most B deep and with the exponent 0
module _ (B : ℕ) (room : 8 * B ≤ 1022) (ms : List Float) (fs : List Factor) (es : List ℤ) (none : (k : ℕ) → get_or es k (pos 0) ≡ pos 0)
    (W : WaitLanes (λ (k : ℕ). B) ms es fs) where
  deep_room : (n : ℕ) → n < 8 → B * n + B ≤ 1022
  deep_room n h = le_trans (le_of_eq (let e : B * n + B ≡ B * suc n = omega arith in e)) (le_trans (mul-le-mul_left B h) (omega arith))

  on : (n : ℕ) → n ≤ 8
      → Waits (B * n) (in_order (product-in ms) n one) (pos 0) (in_order (times-in fs) n (unit 52)) ⊎ (is_lost (in_order (product-in ms) n one) ≡ true)
  unfolding in_order
  on zero h = inl (waits-more 0 (B * 0) one (pos 0) (unit 52) zero-le (represents-waits one (pos 0) (unit 52) represents-one))
  on (suc n) h = go (on n (le_of_lt h))
    where
      p : Float
      p = in_order (product-in ms) n one

      f : Factor
      f = in_order (times-in fs) n (unit 52)

      lane : Waits B (get_or ms n nan) (pos 0) (get_or fs n (unit 52))
      lane = subst (λ (e : ℤ). Waits B (get_or ms n nan) e (get_or fs n (unit 52))) (none n) (W.at n h)

      deeper : Waits (B * n + B) (product_of 11 52 p (get_or ms n nan)) (pos 0) (times 52 f (get_or fs n (unit 52)))
          ⊎ (is_lost (product_of 11 52 p (get_or ms n nan)) ≡ true)
          → Waits (B * suc n) (product_of 11 52 p (get_or ms n nan)) (pos 0) (times 52 f (get_or fs n (unit 52)))
          ⊎ (is_lost (product_of 11 52 p (get_or ms n nan)) ≡ true)
      deeper (inl w) =
          inl (waits-more (B * n + B) (B * suc n) (product_of 11 52 p (get_or ms n nan)) (pos 0) (times 52 f (get_or fs n (unit 52))) (omega arith) w)
      deeper (inr e) = inr e

      go : Waits (B * n) p (pos 0) f ⊎ (is_lost p ≡ true)
          → Waits (B * suc n) (product_of 11 52 p (get_or ms n nan)) (pos 0) (times 52 f (get_or fs n (unit 52)))
          ⊎ (is_lost (product_of 11 52 p (get_or ms n nan)) ≡ true)
      go (inl w) = deeper (waits-times (B * n) B p (get_or ms n nan) (pos 0) (pos 0) f (get_or fs n (unit 52)) w lane (deep_room n h))
      go (inr e) = inr (lost-product p (get_or ms n nan) e)

  pub chain-waits : Waits (B * 8) (chained ms) (pos 0) (in_order (times-in fs) 8 (unit 52)) ⊎ (is_lost (chained ms) ≡ true)
  unfolding chained
  chain-waits = on 8 (le_refl 8)

-- a lost lane loses the product
lost-after : (ms : List Float) (k : ℕ) → is_lost (get_or ms k nan) ≡ true → (n : ℕ) → k < n → is_lost (in_order (product-in ms) n one) ≡ true
unfolding in_order
lost-after ms k e zero h = absurd (omega arith)
lost-after ms k e (suc n) h = go (ltb k n) refl (λ l. lost-after ms k e n l)
  where
    p : Float
    p = in_order (product-in ms) n one

    same : n ≤ k → k ≡ n
    same l = omega arith

    go : (b : Bool) → ltb k n ≡ b → (k < n → is_lost p ≡ true) → is_lost (product_of 11 52 p (get_or ms n nan)) ≡ true
    go true q f = lost-product p (get_or ms n nan) (f (ltb-true k n q))
    go false q f = lost-factor p (get_or ms n nan) (subst (λ (j : ℕ). is_lost (get_or ms j nan) ≡ true) (same (ltb-false k n q)) e)

pub chain-lost : (ms : List Float) → LostLane ms → is_lost (chained ms) ≡ true
unfolding chained
chain-lost ms l = lost-after ms l.lane l.lost 8 l.below
