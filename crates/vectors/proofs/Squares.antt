-- What the square of a value says of its size. Assumes nothing.
use Prim.Native.Nat.{ℕ, suc, ◌+◌, ◌-◌, ◌*◌, ◌^◌, ◌≤◌, ◌<◌}
use mathlib.Core.Path.{◌≡◌, refl, sym, ap, ◌∙◌, subst}
use mathlib.Core.Bool.{Bool, true, false, true≢false}
use mathlib.Core.Logic.{◌⊎◌, inl, inr}
use native.Mathlib.Nat.{le_refl, le_trans, le_of_eq, le_of_lt, lt_of_le_of_lt, not-le_of_lt, mul-le-mul, mul-mul-mul_comm, one-mul, mul-pos}
use native.Mathlib.Omega.{arith}
use lib.Pow.{pow-add, pow_pos, pow_mono}
use lib.IntN.{ℤ, negsuc}
use lib.Signed.{le_z}
use lib.Dec.{T, leb, lit<}
use lib.Ieee.{Float, nan, inf, fin, binary64, up, down, round, mul, unlike, fits, is_nan, le}
use lib.Ieee.Fits.{down_pos}
use lib.Ieee.Order.{round_mono}
use lib.Ieee.Exact.{HasValue, round_exact}
use lib.Ieee.Positive.{positive, positive_of_value, values_of_le, between, le_trans_positive}
use borrow.Author.Tests.{leb-false}
use Rattle.floats.specs.Splitting.{is_bad, rate_factor}
use Rattle.floats.proofs.Product.{mul-binary64}
use Rattle.floats.proofs.Overflow.{is_lost}
use Rattle.kernels.proofs.Least.{reaching-good, reaching-exponent}
use Rattle.vectors.specs.InnerWaiting.{square, least_of, not_below}

truly : {b : Bool} → b ≡ true → T b
truly e = subst T (sym e) tt

-- x × x of ±a / c, by a bound 1 / p
module _ (s : Bool) (m : ℕ) (e : ℤ) where
  abbrev a : ℕ
  a = m * up e

  abbrev c : ℕ
  c = down e

  square-is : square (fin s m e) ≡ round binary64 false (a * a) (c * c)
  unfolding mul
  square-is = sym (mul-binary64 (fin s m e) (fin s m e)) ∙ go s
    where
      go : (b : Bool) → round binary64 (unlike b b) (m * up e * (m * up e)) (down e * down e) ≡ round binary64 false (m * up e * (m * up e)) (down e * down e)
      go true = refl
      go false = refl

  small : (p : ℕ) → 0 < p → a * p ≤ c → T (le (square (fin s m e)) (round binary64 false 1 (p * p)))
  small p P h =
      subst (λ (y : Float). T (le y (round binary64 false 1 (p * p)))) (sym square-is)
      (round_mono binary64 (a * a) (c * c) 1 (p * p) (mul-pos (down_pos e) (down_pos e)) (mul-pos P P)
      (le_trans (le_of_eq (mul-mul-mul_comm a a p p)) (le_trans (mul-le-mul h h) (le_of_eq (sym (one-mul (c * c)))))))

  ordered : T (le (square (fin s m e)) (square (fin s m e)))
  ordered =
      subst (λ (y : Float). T (le y y)) (sym square-is)
      (round_mono binary64 (a * a) (c * c) (a * a) (c * c) (mul-pos (down_pos e) (down_pos e)) (mul-pos (down_pos e) (down_pos e)) (le_refl (a * a * (c * c))))

-- from a positive number to another by what lies between
between_le : (lo y hi : Float) → T (positive lo) → T (positive hi) → T (le lo y) → T (le y hi) → T (le lo hi)
between_le lo y hi p q h k = le_trans_positive lo y hi p (between lo y hi p q h k) q h k

-- ---- a square from 2^-(2k + 1) on: an infinity, or a value from 2^-(k + 1) on
module _ (k : ℕ) (few : k ≤ 510) where
  p : ℕ
  p = 2 ^ suc k

  -- the square of 2^-(k + 1), which is rounded to itself
  low-square : Float
  low-square = round binary64 false 1 (p * p)

  low_value : HasValue low-square false 1 (p * p)
  unfolding low-square p
  low_value =
      round_exact binary64 false 1 (2 ^ suc k * 2 ^ suc k) 1 (1072 - (k + k)) (mul-pos (pow_pos (suc k)) (pow_pos (suc k))) (lit< tt)
      (lt_of_le_of_lt (le_of_eq (one-mul (2 ^ (1072 - (k + k))))) (lt_of_le_of_lt (pow_mono (let l : 1072 - (k + k) ≤ 1072 = omega arith in l)) (lit< tt)))
      (one-mul (2 ^ 1074)
      ∙ ap (λ (n : ℕ). 2 ^ n) (let e : 1074 ≡ 1072 - (k + k) + (suc k + suc k) = omega arith in e)
      ∙ pow-add 2 (1072 - (k + k)) (suc k + suc k)
      ∙ ap (λ (n : ℕ). 2 ^ (1072 - (k + k)) * n) (pow-add 2 (suc k) (suc k))
      ∙ ap (λ (n : ℕ). n * (2 ^ suc k * 2 ^ suc k)) (sym (one-mul (2 ^ (1072 - (k + k))))))

  low-positive : T (positive low-square)
  low-positive = positive_of_value low-square 1 (p * p) low_value (lit< tt)

  -- it is below the bound
  low-less : T (le (fin false 1 (negsuc (k + k))) low-square) → ⊥
  unfolding p
  low-less h =
      not-le_of_lt (pow-lt (k + k))
      (le_trans (le_of_eq (ap (λ (n : ℕ). 2 ^ n) (let e : suc (suc (k + k)) ≡ suc k + suc k = omega arith in e) ∙ pow-add 2 (suc k) (suc k)))
      (le_trans (le_of_eq (sym (one-mul (2 ^ suc k * 2 ^ suc k))))
      (le_trans (values_of_le (fin false 1 (negsuc (k + k))) low-square 1 (2 ^ suc (k + k)) 1 (p * p) tt low-positive (refl, refl) low_value h)
      (le_of_eq (one-mul (2 ^ suc (k + k)))))))
    where
      double : (a b : ℕ) → 0 < a → b ≡ a * 2 ^ 1 → a < b
      double a b h e = omega arith

      pow-lt : (n : ℕ) → 2 ^ suc n < 2 ^ suc (suc n)
      pow-lt n =
          let z : 0 < 2 ^ suc n = pow_pos (suc n) in
          let e : 2 ^ suc (suc n) ≡ 2 ^ suc n * 2 ^ 1 = ap (λ (m : ℕ). 2 ^ m) (let a : suc (suc n) ≡ suc n + 1 = omega arith in a) ∙ pow-add 2 (suc n) 1 in
          double (2 ^ suc n) (2 ^ suc (suc n)) z e

  pub square-least : (x : Float) → T (fits binary64 x) → not_below (least_of true (suc k)) (square x) ≡ true
      → (is_lost x ≡ true) ⊎ ((is_bad x ≡ false) × (le_z (negsuc k) (rate_factor x).exp ≡ true))
  unfolding low-square p
  square-least nan f h = inl refl
  square-least (inf s) f h = inl refl
  square-least (fin s m e) f h = go (leb (down e) (m * up e * 2 ^ suc k)) refl
    where
      go : (b : Bool) → leb (down e) (m * up e * 2 ^ suc k) ≡ b
          → (is_lost (fin s m e) ≡ true) ⊎ ((is_bad (fin s m e) ≡ false) × (le_z (negsuc k) (rate_factor (fin s m e)).exp ≡ true))
      go true q = inr (reaching-good (suc k) (omega arith) (fin s m e) f q, reaching-exponent k (fin s m e) (omega arith) f q)
      go false q =
          absurd
          (low-less
          (between_le (fin false 1 (negsuc (k + k))) (square (fin s m e)) low-square tt low-positive (truly h)
          (under (le_of_lt (leb-false (down e) (m * up e * 2 ^ suc k) q)))))
        where
          under : m * up e * 2 ^ suc k ≤ down e → T (le (square (fin s m e)) low-square)
          under l = small s m e (2 ^ suc k) (pow_pos (suc k)) l

-- only a NaN has a NaN for its square
pub square-nan : (x : Float) → is_nan (square x) ≡ true → is_lost x ≡ true
unfolding le is_nan
square-nan nan h = refl
square-nan (inf s) h = refl
square-nan (fin s m e) h = absurd (no (square (fin s m e)) h (ordered s m e))
  where
    no : (y : Float) → is_nan y ≡ true → T (le y y) → ⊥
    no nan h t = t
    no (inf u) h t = true≢false (sym h)
    no (fin u n d) h t = true≢false (sym h)
