-- What a magnitude says of its value, by comparisons. Assumes nothing.
use Prim.Native.Nat.{ℕ, suc, ◌+◌, ◌*◌, ◌^◌, ◌≤◌, ◌<◌}
use mathlib.Core.Path.{◌≡◌, refl, sym}
use mathlib.Core.Bool.{Bool, true, false, cond, ◌&&◌, true≢false}
use mathlib.Core.Logic.{◌⊎◌, inl, inr}
use native.Mathlib.Nat.{lt_of_lt_of_le, le_of_eq, one-mul, mul-pos}
use lib.IntN.{negsuc}
use native.Mathlib.Omega.{arith}
use lib.Dec.{T, leb, ltb}
use lib.Ieee.{Float, nan, inf, fin, binary64, up, down, fits, is_nan, lt, eq, neg}
use lib.Ieee.Fits.{down_pos}
use lib.Ieee.Positive.{first_pos}
use borrow.Author.Tests.{leb-true, lt-leb, ltb-true, ltb-false}
use Rattle.floats.specs.InnerKinds.{is_subnormal, ZERO}
use Rattle.floats.proofs.Overflow.{is_lost}
use Rattle.kernels.proofs.Least.{reaches, Reached, either-reaches, reached, low-subnormal}
use Rattle.vectors.specs.InnerWaiting.{one, magnitude, magnitude_but, least_of, not_below, below_normal}

-- it is x or -x
either : (P : Float → Type 0) (x : Float) → P (magnitude x) → P x ⊎ P (neg x)
either P x = go (lt x (neg x))
  where
    go : (b : Bool) → P (cond b (neg x) x) → P x ⊎ P (neg x)
    go true h = inr h
    go false h = inl h

pub magnitude-nan : (x : Float) → is_nan (magnitude x) ≡ true → is_lost x ≡ true
unfolding is_nan neg
magnitude-nan nan h = refl
magnitude-nan (inf s) h = refl
magnitude-nan (fin s m e) h = no (either (λ (y : Float). is_nan y ≡ true) (fin s m e) h)
  where
    no : (false ≡ true) ⊎ (false ≡ true) → is_lost (fin s m e) ≡ true
    no (inl q) = absurd (true≢false (sym q))
    no (inr q) = absurd (true≢false (sym q))

-- 1.0 for a zero that is passed over, or its own magnitude
pub but : (P : Float → Type 0) (over : Bool) (x : Float) → P (magnitude_but over x) → ((eq x ZERO ≡ true) × P one) ⊎ P (magnitude x)
but P over x = go over (eq x ZERO) refl
  where
    go : (a b : Bool) → eq x ZERO ≡ b → P (cond (a && b) one (magnitude x)) → ((eq x ZERO ≡ true) × P one) ⊎ P (magnitude x)
    go true true e h = inl (e, h)
    go true false e h = inr h
    go false b e h = inr h

-- from 2^-(k + 1) on
magnitude-reaches : (k : ℕ) (x : Float) → not_below (least_of false (suc k)) (magnitude x) ≡ true → (is_lost x ≡ true) ⊎ (reaches (suc k) x ≡ true)
magnitude-reaches k x h = either-reaches k x (either (λ (y : Float). not_below (least_of false (suc k)) y ≡ true) x h)

pub magnitude-least : (k : ℕ) → suc k ≤ 1021 → (x : Float) → T (fits binary64 x) → not_below (least_of false (suc k)) (magnitude x) ≡ true → Reached k x
magnitude-least k small x v h = reached k small x v (magnitude-reaches k x h)

-- ---- below 2^-1022: a number; and one that is no zero does not reach 2^-1022
pub below-lost : (x : Float) → below_normal x ≡ true → is_lost x ≡ true → ⊥
unfolding lt neg
below-lost nan h e = true≢false (sym h)
below-lost (inf true) h e = true≢false (sym h)
below-lost (inf false) h e = true≢false (sym h)
below-lost (fin s m d) h e = true≢false (sym e)

below-low : (k : ℕ) (x : Float) → reaches (suc k) x ≡ true → below_normal x ≡ true → reaches 1022 x ≡ false
unfolding lt neg
below-low k nan w h = absurd (true≢false (sym w))
below-low k (inf s) w h = absurd (true≢false (sym w))
below-low k (fin false m e) w h = lt-leb (down e) (m * up e * 2 ^ 1022) (lt_of_lt_of_le (ltb-true (m * up e * 2 ^ 1022) (1 * down e) h) (le_of_eq (one-mul (down e))))
below-low k (fin true m e) w h = go (ltb 0 (m * up e * down e + m * up e * down e)) refl h
  where
    some : 0 < m * up e
    some = first_pos (m * up e) (2 ^ suc k) (lt_of_lt_of_le (down_pos e) (leb-true (down e) (m * up e * 2 ^ suc k) w))

    go : (b : Bool) → ltb 0 (m * up e * down e + m * up e * down e) ≡ b → lt (cond b (fin false m e) (fin true m e)) (fin false 1 (negsuc 1021)) ≡ true
        → leb (down e) (m * up e * 2 ^ 1022) ≡ false
    go true b h = lt-leb (down e) (m * up e * 2 ^ 1022) (lt_of_lt_of_le (ltb-true (m * up e * 2 ^ 1022) (1 * down e) h) (le_of_eq (one-mul (down e))))
    go false b h = absurd (no (m * up e * down e) (mul-pos some (down_pos e)) (ltb-false 0 (m * up e * down e + m * up e * down e) b))
      where
        no : (a : ℕ) → 0 < a → a + a ≤ 0 → ⊥
        no a p q = omega arith

pub magnitude-subnormal : (x : Float) → T (fits binary64 x) → not_below (least_of false 1074) (magnitude x) ≡ true → below_normal x ≡ true → is_subnormal x ≡ true
magnitude-subnormal x v h b = go (magnitude-reaches 1073 x h)
  where
    go : (is_lost x ≡ true) ⊎ (reaches 1074 x ≡ true) → is_subnormal x ≡ true
    go (inl l) = absurd (below-lost x b l)
    go (inr w) = low-subnormal x v w (below-low 1073 x w b)
