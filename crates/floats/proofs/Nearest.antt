-- Whole numbers: `ties_to_even` is the kit's `closest`, and what that is at a whole quotient and at a power of two; how many digits a shifted number has.
-- Assumes nothing.
use mathlib.Core.Path.{◌≡◌, refl, sym, ap, ◌∙◌, subst}
use mathlib.Core.Bool.{not}
use Prim.Native.Nat.{ℕ, zero, suc, ◌+◌, ◌-◌, ◌*◌, ◌/◌, ◌%◌, ◌^◌, ◌≤◌, ◌<◌, max, compare, Ordering}
use native.Mathlib.Nat.{le_of_suc-le-suc, ne_of_lt, mod-lt, add-mul, suc-mul, div-add-mod', le_trans, le_of_eq, le_of_lt, le_antisymm, lt_of_lt_of_le}
use native.Mathlib.Nat.{lt_of_not-le, not-le_of_lt, mul-one, one-mul, mul_comm, mul_assoc, mul-pos, mul-le-mul_right, mul-lt-mul_of_pos_right, div-one, mod-one}
use native.Mathlib.Nat.{le-div_iff_mul-le, div-lt_iff_lt-mul}
use native.Mathlib.Omega.{arith}
use lib.Dec.{T, eqb, is_le, compare_is_eq, leb→le, nleb→lt, eqb→eq, eqb_refl}
use lib.Arith.{lt_of_le-ne}
use lib.Pow.{pow-add, pow_pos, pow_mono}
use lib.Ieee.{nearest, size}
use lib.Ieee.Digits.{size-lt, size-le, size_reaches}
use lib.Ieee.Fits.{nearest-le, kept-lt}
use lib.Ieee.Nearest.{closest, closest_same, closest_mono}
use borrow.Author.Tests.{lt-ltb, le-ltb}
use Rattle.floats.specs.Rounding.{ties_to_even}

-- ---- `ties_to_even` is `closest`
abbrev Cmp : Ordering → ℕ → ℕ → Type 0
Cmp Ordering.lt a b = a < b
Cmp Ordering.eq a b = a ≡ b
Cmp Ordering.gt a b = b < a

cmp : (a b : ℕ) → Cmp (compare a b) a b
cmp a b = go (compare a b) (leb→le a b) (nleb→lt a b) (eqb→eq a b) (λ (e : a ≡ b). subst (λ (x : ℕ). T (eqb a x)) e (eqb_refl a))
  where
    go : (o : Ordering) → (T (is_le o) → a ≤ b) → (T (not (is_le o)) → b < a) → (T (compare_is_eq o) → a ≡ b) → (a ≡ b → T (compare_is_eq o)) → Cmp o a b
    go Ordering.lt h k e n = lt_of_le-ne (h tt) n
    go Ordering.eq h k e n = e tt
    go Ordering.gt h k e n = k tt

suc-is : (q : ℕ) → q + 1 ≡ suc q
suc-is q = omega arith

pub ties-is : (a b : ℕ) → ties_to_even a b ≡ closest a b
ties-is a b = go (compare (a % b * 2) b) (cmp (a % b * 2) b)
  where
    go : (o : Ordering) → Cmp o (a % b * 2) b → ties_to_even a b ≡ nearest (a / b) o
    go Ordering.lt h = rw (lt-ltb (a % b * 2) b h)
    go Ordering.eq h = rw (le-ltb (a % b * 2) b (le_of_eq (sym h)), le-ltb b (a % b * 2) (le_of_eq h))
    go Ordering.gt h = rw (le-ltb (a % b * 2) b (le_of_lt h), lt-ltb b (a % b * 2) h) (suc-is (a / b))

-- ---- whole quotients
pub closest-one : (a : ℕ) → closest a 1 ≡ a
closest-one a = rw (div-one a, mod-one a)

pub closest-exact : (a u : ℕ) → 0 < u → closest (a * u) u ≡ a
closest-exact a u U = closest_same (a * u) u a 1 U (pow_pos 0) (mul-one (a * u)) ∙ closest-one a

-- ---- it is nearest: within half of b, and at a tie even
module _ (a b : ℕ) (B : 0 < b) where
  parts : a / b * b + a % b ≡ a
  parts = div-add-mod' a b

  tie-most : (q : ℕ) → (q + q % 2) * b ≤ q * b + b
  tie-most q = le_trans (mul-le-mul_right b (let h : q + q % 2 ≤ q + 1 = omega arith in h)) (le_of_eq (add-mul q 1 b ∙ ap (λ (x : ℕ). q * b + x) (one-mul b)))

  tie_least : (q : ℕ) → q * b ≤ (q + q % 2) * b
  tie_least q = mul-le-mul_right b (omega arith)

  next : (q : ℕ) → suc q * b ≡ q * b + b
  next q = suc-mul q b

  pub closest-above : closest a b * b * 2 ≤ a * 2 + b
  closest-above = go (compare (a % b * 2) b) (cmp (a % b * 2) b)
    where
      go : (o : Ordering) → Cmp o (a % b * 2) b → nearest (a / b) o * b * 2 ≤ a * 2 + b
      go Ordering.lt h = omega (arith, parts)
      go Ordering.eq h = omega (arith, parts, tie-most (a / b))
      go Ordering.gt h = omega (arith, parts, next (a / b))

  pub closest-below : a * 2 ≤ closest a b * b * 2 + b
  closest-below = go (compare (a % b * 2) b) (cmp (a % b * 2) b)
    where
      go : (o : Ordering) → Cmp o (a % b * 2) b → a * 2 ≤ nearest (a / b) o * b * 2 + b
      go Ordering.lt h = omega (arith, parts)
      go Ordering.eq h = omega (arith, parts, tie_least (a / b))
      go Ordering.gt h = omega (arith, parts, next (a / b), mod-lt a B)

  -- at a tie, where twice the remainder is b
  pub closest-even : a % b * 2 ≡ b → closest a b % 2 ≡ 0
  closest-even e = go (compare (a % b * 2) b) (cmp (a % b * 2) b)
    where
      go : (o : Ordering) → Cmp o (a % b * 2) b → nearest (a / b) o % 2 ≡ 0
      go Ordering.lt h = absurd (ne_of_lt h e)
      go Ordering.eq h = even (a / b)
        where
          even : (q : ℕ) → (q + q % 2) % 2 ≡ 0
          even q = omega arith
      go Ordering.gt h = absurd (ne_of_lt h (sym e))

-- a quotient that rounds up to 2 × q is rounded by half as many units to q
pub closest-half : (n u q : ℕ) → 0 < u → closest n u ≡ q * 2 → n ≤ q * 2 * u → closest n (u * 2) ≡ q
closest-half n u q U e h =
    let v = u * 2 in
    let W : 0 < v = mul-pos U (pow_pos 1) in
    let hi : closest n v ≤ q = le_trans (closest_mono n v (q * v) v W W
    (mul-le-mul_right v (le_trans h (le_of_eq (mul_assoc q 2 u ∙ ap (λ (x : ℕ). q * x) (mul_comm 2 u))))))
    (le_of_eq (closest-exact q v W)) in
    le_antisymm hi (le_of_not_lt (closest n v) q
    (λ (k : closest n v < q). clash (closest n v) k (subst (λ (x : ℕ). x * u * 2 ≤ n * 2 + u) e (closest-above n u U)) (closest-below n v W)))
  where
    le_of_not_lt : (x y : ℕ) → (x < y → ⊥) → y ≤ x
    le_of_not_lt x y f = le_of_suc-le-suc (lt_of_not-le (λ (g : suc x ≤ y). f g))

    clash : (r : ℕ) → r < q → q * 2 * u * 2 ≤ n * 2 + u → n * 2 ≤ r * (u * 2) * 2 + u * 2 → ⊥
    clash r k a b = omega (arith, mul-le-mul_right u k)

-- ---- what is kept of c has at most p digits, or is 2 ^ p
pub significand-le : (p c : ℕ) → closest c (2 ^ (size c - p)) ≤ 2 ^ p
significand-le p c = le_trans (nearest-le (c / 2 ^ (size c - p)) (compare (c % 2 ^ (size c - p) * 2) (2 ^ (size c - p)))) (kept-lt p c)

-- dropping more keeps less
pub significand-le-max : (p c j : ℕ) → closest c (2 ^ max (size c - p) j) ≤ 2 ^ p
significand-le-max p c j =
    let k = max (size c - p) j in
    le_trans
    (closest_mono c (2 ^ k) c (2 ^ (size c - p)) (pow_pos k) (pow_pos (size c - p))
    (le_trans (le_of_eq (mul_comm c (2 ^ (size c - p)))) (le_trans (mul-le-mul_right c (pow_mono (omega arith))) (le_of_eq (mul_comm (2 ^ k) c)))))
    (significand-le p c)

-- ---- the digits of a number: `size` is the only z with n < 2 ^ z and 2 ^ (z - 1) ≤ n
pub size-gt : (n j : ℕ) → 2 ^ j ≤ n → j < size n
size-gt n j h = lt_of_not-le (λ (g : size n ≤ j). not-le_of_lt (lt_of_lt_of_le (size-lt n) (pow_mono g)) h)

pub size_is : (n z : ℕ) → 2 ^ z ≤ n → n < 2 ^ suc z → size n ≡ suc z
size_is n z lo hi = le_antisymm (size-le n (suc z) hi) (size-gt n z lo)

pub size-shl : (c j : ℕ) → 0 < size c → size (c * 2 ^ j) ≡ size c + j
size-shl c j Z =
    let z = size c in
    let lo : 2 ^ (z - 1 + j) ≤ c * 2 ^ j = le_trans (le_of_eq (pow-add 2 (z - 1) j)) (mul-le-mul_right (2 ^ j) (size_reaches c (z - 1) (omega arith))) in
    let hi : c * 2 ^ j < 2 ^ (z + j) = lt_of_lt_of_le (mul-lt-mul_of_pos_right (size-lt c) (pow_pos j)) (le_of_eq (sym (pow-add 2 z j))) in
    let up : z - 1 + j < size (c * 2 ^ j) = size-gt (c * 2 ^ j) (z - 1 + j) lo in
    let dn : size (c * 2 ^ j) ≤ z + j = size-le (c * 2 ^ j) (z + j) hi in
    omega arith

pub size-shr : (c j : ℕ) → size (c / 2 ^ j) ≡ size c - j
size-shr c j =
    le_antisymm
    (size-le (c / 2 ^ j) (size c - j)
    ((div-lt_iff_lt-mul (pow_pos j)).1 (lt_of_lt_of_le (size-lt c) (le_trans (pow_mono (reach (size c) j)) (le_of_eq (pow-add 2 (size c - j) j))))))
    (at_least (size c - j) refl)
  where
    reach : (z j : ℕ) → z ≤ z - j + j
    reach z j = omega arith

    at_least : (y : ℕ) → size c - j ≡ y → y ≤ size (c / 2 ^ j)
    at_least zero e = omega arith
    at_least (suc y) e =
        size-gt (c / 2 ^ j) y ((le-div_iff_mul-le (pow_pos j)).1 (le_trans (le_of_eq (sym (pow-add 2 y j))) (size_reaches c (y + j) (omega arith))))
