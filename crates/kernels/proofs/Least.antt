-- A value from 2^-(k + 1) on: it is plus infinity, or it is not bad and its exponent is at least -(k + 1); and the least of values, by comparisons of floats.
-- Assumes nothing.
use Prim.Native.Nat.{ℕ, zero, suc, ◌+◌, ◌*◌, ◌^◌, ◌≤◌, ◌<◌}
use mathlib.Core.Path.{◌≡◌, refl, sym, ap, ◌∙◌, subst}
use mathlib.Core.Bool.{Bool, true, false, not, cond, ◌&&◌, true≢false, and-false}
use mathlib.Core.Logic.{◌⊎◌, inl, inr}
use native.Mathlib.Nat.{le_trans, le_of_eq, le_of_lt, lt_of_lt_of_le, lt_of_le_of_lt, not-le_of_lt, lt_of_not-le, mul_comm, mul_right_comm, mul-one, one-mul}
use native.Mathlib.Nat.{mul-pos, mul-le-mul, mul-le-mul_right, mul-lt-mul_of_pos_right, le_of_mul-le-mul_right}
use native.Mathlib.Omega.{arith}
use lib.IntN.{ℤ, pos, negsuc, ◌+ℤ◌}
use lib.Dec.{T, leb, eqb, lit<, lit≤}
use lib.Pow.{pow-add, pow_pos, pow_mono}
use lib.Signed.{le_z}
use lib.Ieee.{Float, nan, inf, fin, binary64, up, down, lt, le, neg, is_nan, fits}
use lib.Ieee.Fits.{down_pos}
use lib.Ieee.Exact.{HasValue, units_val}
use lib.Ieee.Positive.{first_pos}
use borrow.Author.Tests.{leb-true, le-leb, ltb-true, ltb-false, ne_eqb, eqb-true, eqb-false}
use Rattle.laws.proofs.Tests.{and_both, le_test}
use Rattle.integers.proofs.Difference.{ints, atoms}
use Rattle.floats.specs.Rounding.{delivered}
use Rattle.floats.specs.Factor.{Factor}
use Rattle.floats.specs.Fields.{sign_field, exp_field, fraction, of_parts}
use Rattle.floats.specs.Splitting.{bits_of, is_bad, rate_factor}
use Rattle.floats.specs.InnerKinds.{is_subnormal}
use Rattle.floats.proofs.Fields.{fraction-lt, field_lt}
use Rattle.floats.proofs.Bridge.{delivered-units, room, float_of-value}
use Rattle.floats.proofs.Overflow.{is_lost}
use Rattle.floats.proofs.PatternFactor.{normal-good}
use Rattle.floats.proofs.Splitting.{Normal, rate-parts, rate-normal, rate-range, rate-float}

not-nought : (a : ℕ) → 0 < a → eqb a 0 ≡ false
not-nought a h = ne_eqb a 0 (λ (z : a ≡ 0). omega arith)

-- a number, of a magnitude of 2^-B or more
abbrev pub reaches : ℕ → Float → Bool
reaches B nan = false
reaches B (inf s) = false
reaches B (fin s m e) = leb (down e) (m * up e * 2 ^ B)

-- by any fraction a / c that the value equals: 1 ≤ |x| × 2^B
value-least : (B : ℕ) (s : Bool) (a c : ℕ) (x : Float) → HasValue x s a c → reaches B x ≡ true → c ≤ a * 2 ^ B
value-least B s a c nan h w = absurd h
value-least B s a c (inf u) h w = absurd h
value-least B s a c (fin u m e) h w =
    let p = 2 ^ B in
    le_of_mul-le-mul_right
    (le_trans (le_of_eq (mul_comm c (down e)))
    (le_trans (mul-le-mul_right c (leb-true (down e) (m * up e * p) w))
    (le_of_eq (mul_right_comm (m * up e) p c ∙ ap (λ (y : ℕ). y * p) h.1 ∙ mul_right_comm a (down e) p))))
    (down_pos e)

-- and back
value-reaches : (B : ℕ) (s : Bool) (a c : ℕ) → 0 < c → (x : Float) → HasValue x s a c → c ≤ a * 2 ^ B → reaches B x ≡ true
value-reaches B s a c C nan h l = absurd h
value-reaches B s a c C (inf u) h l = absurd h
value-reaches B s a c C (fin u m e) h l =
    let p = 2 ^ B in
    le-leb (down e) (m * up e * p)
    (le_of_mul-le-mul_right
    (le_trans (le_of_eq (mul_comm (down e) c))
    (le_trans (mul-le-mul_right (down e) l)
    (le_of_eq (mul_right_comm a p (down e) ∙ ap (λ (y : ℕ). y * p) (sym h.1) ∙ mul_right_comm (m * up e) c p))))
    C)

-- powers of two are ordered as their exponents
power-less : (i j : ℕ) → 2 ^ i < 2 ^ j → i < j
power-less i j h = lt_of_not-le (λ (g : j ≤ i). not-le_of_lt h (pow_mono g))

-- ---- by the fields of its pattern
parts-value : (x : Float) (s : Bool) (n r : ℕ) → n < 2 ^ 53 → r < 2 * 1023 → x ≡ delivered 53 1023 s n r → HasValue x s (n * 2 ^ r) (2 ^ 1074)
parts-value x s n r h l e =
    subst (λ (y : Float). HasValue y s (n * 2 ^ r) (2 ^ 1074)) (sym (e ∙ delivered-units binary64 11 52 refl refl s n r))
    (units_val binary64 s n r (room binary64 11 52 refl refl n r h l))

-- an infinity and a NaN are no numbers
not-all-ones : (B : ℕ) (x : Float) → reaches B x ≡ true → (b : Bool) (s : Bool) → x ≡ cond b (inf s) nan → ⊥
not-all-ones B x w true s e = true≢false (sym w ∙ ap (reaches B) e)
not-all-ones B x w false s e = true≢false (sym w ∙ ap (reaches B) e)

-- ---- normal
module _ (B : ℕ) (small : B ≤ 1021) (x : Float) (f : T (fits binary64 x)) (w : reaches B x ≡ true) where
  -- a subnormal is too small
  not-zero : (s : Bool) (t : ℕ) → t < 2 ^ 52 → x ≡ of_parts 11 52 s 0 t → ⊥
  unfolding of_parts
  not-zero s t h e =
      not-le_of_lt below (value-least B s (t * 2 ^ 0) (2 ^ 1074) x (parts-value x s t 0 (lt_of_lt_of_le h (lit≤ tt)) (lit< tt) e) w)
    where
      below : t * 2 ^ 0 * 2 ^ B < 2 ^ 1074
      below =
          lt_of_lt_of_le (mul-lt-mul_of_pos_right (lt_of_le_of_lt (le_of_eq (mul-one t)) h) (pow_pos B))
          (le_trans (le_of_eq (sym (pow-add 2 52 B))) (pow_mono {j = 1074} (let l : 52 + B ≤ 1074 = omega arith in l)))

  field-normal : (s : Bool) (E t : ℕ) → t < 2 ^ 52 → exp_field 11 52 (bits_of x) ≡ E → x ≡ of_parts 11 52 s E t → Normal x
  unfolding of_parts
  field-normal s zero t h k e = absurd (not-zero s t h e)
  field-normal s (suc E) t h k e = go (eqb (suc E) 2047) refl e
    where
      go : (b : Bool) → eqb (suc E) 2047 ≡ b → x ≡ cond b (cond (eqb t 0) (inf s) nan) (delivered 53 1023 s (2 ^ 52 + t) E) → Normal x
      go true n e = absurd (not-all-ones B x w (eqb t 0) s e)
      go false n e = record { less_one = E; field_is = k; not_last = eqb-false (suc E) 2047 n }

  pub reaching-normal : Normal x
  reaching-normal = field-normal (sign_field 11 52 (bits_of x)) (exp_field 11 52 (bits_of x)) (fraction 52 (bits_of x)) (fraction-lt 52 (bits_of x)) refl (rate-parts x f)

  pub reaching-good : is_bad x ≡ false
  unfolding is_bad
  reaching-good = normal-good 11 52 (bits_of x) reaching-normal

-- ---- subnormal: a number below 2^-1022 that is no zero
module _ (x : Float) (f : T (fits binary64 x)) (some : reaches 1074 x ≡ true) (low : reaches 1022 x ≡ false) where
  not-nought-part : (s : Bool) → x ≡ delivered 53 1023 s 0 0 → ⊥
  not-nought-part s e = none (2 ^ 1074) (pow_pos 1074) (value-least 1074 s (0 * 2 ^ 0) (2 ^ 1074) x (parts-value x s 0 0 (lit< tt) (lit< tt) e) some)
    where
      none : (P : ℕ) → 0 < P → P ≤ 0 * 2 ^ 0 * P → ⊥
      none P h l = omega arith

  not-normal-part : (s : Bool) (t r : ℕ) → t < 2 ^ 52 → r < 2 * 1023 → x ≡ delivered 53 1023 s (2 ^ 52 + t) r → ⊥
  not-normal-part s t r h l e =
      true≢false
      (sym (value-reaches 1022 s ((2 ^ 52 + t) * 2 ^ r) (2 ^ 1074) (pow_pos 1074) x
      (parts-value x s (2 ^ 52 + t) r (let g : 2 ^ 52 + t < 2 ^ 53 = omega arith in g) l e) large)
      ∙ low)
    where
      large : 2 ^ 1074 ≤ (2 ^ 52 + t) * 2 ^ r * 2 ^ 1022
      large =
          le_trans (le_of_eq (pow-add 2 52 1022))
          (mul-le-mul_right (2 ^ 1022) (le_trans (le_of_eq (sym (mul-one (2 ^ 52)))) (mul-le-mul (let g : 2 ^ 52 ≤ 2 ^ 52 + t = omega arith in g) (pow_pos r))))

  field-subnormal : (s : Bool) (E t : ℕ) → E < 2048 → t < 2 ^ 52 → x ≡ of_parts 11 52 s E t → (eqb E 0 && not (eqb t 0)) ≡ true
  unfolding of_parts
  field-subnormal s zero t l h e = go (eqb t 0) refl
    where
      go : (q : Bool) → eqb t 0 ≡ q → (true && not q) ≡ true
      go true k = absurd (not-nought-part s (e ∙ ap (λ (n : ℕ). delivered 53 1023 s n 0) (eqb-true t 0 k)))
      go false k = refl
  field-subnormal s (suc E) t l h e = absurd (go (eqb (suc E) 2047) refl e)
    where
      go : (b : Bool) → eqb (suc E) 2047 ≡ b → x ≡ cond b (cond (eqb t 0) (inf s) nan) (delivered 53 1023 s (2 ^ 52 + t) E) → ⊥
      go true n e = not-all-ones 1074 x some (eqb t 0) s e
      go false n e = not-normal-part s t E h (below (eqb-false (suc E) 2047 n)) e
        where
          below : (suc E ≡ 2047 → ⊥) → E < 2 * 1023
          below g = lt_of_not-le (λ (m : 2 * 1023 ≤ E). g (omega arith))

  pub low-subnormal : is_subnormal x ≡ true
  unfolding is_subnormal
  low-subnormal =
      field-subnormal (sign_field 11 52 (bits_of x)) (exp_field 11 52 (bits_of x)) (fraction 52 (bits_of x)) (field_lt 11 52 (bits_of x)) (fraction-lt 52 (bits_of x))
      (rate-parts x f)

-- ---- the exponent
-- a normal number, by its factor
pub rate-value : (x : Float) → T (fits binary64 x) → (n : Normal x)
    → HasValue x (rate_factor x).sign ((rate_factor x).sig * 2 ^ (rate-range x n).place) (2 ^ 1074)
unfolding is_bad
rate-value x f n =
    let g = rate_factor x in
    let R = rate-range x n in
    subst (λ (y : Float). HasValue y g.sign (g.sig * 2 ^ R.place) (2 ^ 1074)) (rate-float x f (normal-good 11 52 (bits_of x) n))
    (float_of-value binary64 11 52 refl refl g (rate-normal x) R)

least-place : (e : ℤ) (p k : ℕ) → e +ℤ pos 1022 ≡ pos p → 1022 ≤ p + suc k → le_z (negsuc k) e ≡ true
least-place e p k = simp ints (simp atoms (omega arith))

pub reaching-exponent : (k : ℕ) (x : Float) → suc k ≤ 1021 → T (fits binary64 x) → reaches (suc k) x ≡ true → le_z (negsuc k) (rate_factor x).exp ≡ true
reaching-exponent k x small f w = least-place g.exp p k (rate-range x n).above least
  where
    B : ℕ
    B = suc k

    g : Factor
    g = rate_factor x

    n : Normal x
    n = reaching-normal B small x f w

    p : ℕ
    p = (rate-range x n).place

    least : 1022 ≤ p + suc k
    least =
        let l : 1074 < 53 + p + B = power-less 1074 (53 + p + B) (lt_of_le_of_lt (value-least B g.sign (g.sig * 2 ^ p) (2 ^ 1074) x (rate-value x f n) w)
        (lt_of_lt_of_le (mul-lt-mul_of_pos_right (mul-lt-mul_of_pos_right (rate-normal x).most (pow_pos p)) (pow_pos B))
        (le_of_eq (ap (λ (y : ℕ). y * 2 ^ B) (sym (pow-add 2 53 p)) ∙ sym (pow-add 2 (53 + p) B))))) in
        omega arith

-- ---- by a comparison with 2^-(k + 1)
-- plus infinity, or a plus number that reaches 2^-B
abbrev from : ℕ → Float → Bool
from B nan = false
from B (inf s) = not s
from B (fin s m e) = not s && reaches B (fin s m e)

le_from : (k : ℕ) (x : Float) → le (fin false 1 (negsuc k)) x ≡ from (suc k) x
unfolding le
le_from k nan = refl
le_from k (inf true) = refl
le_from k (inf false) = refl
le_from k (fin false m e) = le_test (1 * down e) (m * up e * 2 ^ suc k) ∙ ap (λ (n : ℕ). leb n (m * up e * 2 ^ suc k)) (one-mul (down e))
le_from k (fin true m e) =
    let t = eqb (1 * down e) (m * up e * 2 ^ suc k) in
    ap (λ (u : Bool). t && u) (not-nought (1 * down e) (lt_of_lt_of_le (down_pos e) (le_of_eq (sym (one-mul (down e)))))) ∙ and-false t

-- x or -x is from 2^-(k + 1) on
pub either-reaches : (k : ℕ) (x : Float) → (le (fin false 1 (negsuc k)) x ≡ true) ⊎ (le (fin false 1 (negsuc k)) (neg x) ≡ true)
    → (is_lost x ≡ true) ⊎ (reaches (suc k) x ≡ true)
unfolding neg
either-reaches k nan h = inl refl
either-reaches k (inf s) h = inl refl
either-reaches k (fin s m e) (inl h) = inr (and_both (not s) (reaches (suc k) (fin s m e)) (sym (le_from k (fin s m e)) ∙ h)).1
either-reaches k (fin s m e) (inr h) =
    inr (and_both (not (not s)) (reaches (suc k) (fin s m e)) (sym (le_from k (fin (not s) m e)) ∙ h)).1

-- lost, or a rate that is not bad, from 2^-(k + 1) on
abbrev pub Reached : ℕ → Float → Type 0
Reached k x = (is_lost x ≡ true) ⊎ ((is_bad x ≡ false) × (le_z (negsuc k) (rate_factor x).exp ≡ true))

pub reached : (k : ℕ) → suc k ≤ 1021 → (x : Float) → T (fits binary64 x) → (is_lost x ≡ true) ⊎ (reaches (suc k) x ≡ true) → Reached k x
reached k small x f (inl h) = inl h
reached k small x f (inr w) = inr (reaching-good (suc k) small x f w, reaching-exponent k x small f w)

pub least-value : (k : ℕ) → suc k ≤ 1021 → (x : Float) → T (fits binary64 x) → le (fin false 1 (negsuc k)) x ≡ true → Reached k x
least-value k small x f h = reached k small x f (either-reaches k x (inl h))

-- ---- the lesser of two
-- 1 ≤ a / d × p, and a / d ≤ b / c
reaches-on : (p a d b c : ℕ) → 0 < d → leb d (a * p) ≡ true → a * c ≤ b * d → leb c (b * p) ≡ true
reaches-on p a d b c D h l =
    le-leb c (b * p)
    (le_of_mul-le-mul_right
    (le_trans (le_of_eq (mul_comm c d))
    (le_trans (mul-le-mul_right c (leb-true d (a * p) h))
    (le_trans (le_of_eq (mul_right_comm a p c))
    (le_trans (mul-le-mul_right p l) (le_of_eq (mul_right_comm b d p))))))
    D)

-- above a value from 2^-B on there are only such values
from-above : (B : ℕ) (x a : Float) → from B x ≡ true → lt x a ≡ true → from B a ≡ true
unfolding lt
from-above B nan a h l = absurd (true≢false (sym h))
from-above B (inf true) a h l = absurd (true≢false (sym h))
from-above B (inf false) nan h l = absurd (true≢false (sym l))
from-above B (inf false) (inf t) h l = absurd (true≢false (sym l))
from-above B (inf false) (fin t n d) h l = absurd (true≢false (sym l))
from-above B (fin true m e) a h l = absurd (true≢false (sym h))
from-above B (fin false m e) nan h l = absurd (true≢false (sym l))
from-above B (fin false m e) (inf t) h l = l
from-above B (fin false m e) (fin true n d) h l = absurd (true≢false (sym l))
from-above B (fin false m e) (fin false n d) h l =
    reaches-on (2 ^ B) (m * up e) (down e) (n * up d) (down d) (down_pos e) h (le_of_lt (ltb-true (m * up e * down d) (n * up d * down e) l))

-- and what is not below one is one, or a NaN
from-not-below : (B : ℕ) (x a : Float) → from B a ≡ true → lt x a ≡ false → (from B x ≡ true) ⊎ (is_nan x ≡ true)
unfolding lt is_nan
from-not-below B nan a h l = inr refl
from-not-below B (inf false) a h l = inl refl
from-not-below B (inf true) nan h l = absurd (true≢false (sym h))
from-not-below B (inf true) (inf true) h l = absurd (true≢false (sym h))
from-not-below B (inf true) (inf false) h l = absurd (true≢false l)
from-not-below B (inf true) (fin t n d) h l = absurd (true≢false l)
from-not-below B (fin s m e) nan h l = absurd (true≢false (sym h))
from-not-below B (fin s m e) (inf true) h l = absurd (true≢false (sym h))
from-not-below B (fin s m e) (inf false) h l = absurd (true≢false l)
from-not-below B (fin s m e) (fin true n d) h l = absurd (true≢false (sym h))
from-not-below B (fin false m e) (fin false n d) h l =
    inl (reaches-on (2 ^ B) (n * up d) (down d) (m * up e) (down e) (down_pos d) h (ltb-false (m * up e * down d) (n * up d * down e) l))
from-not-below B (fin true m e) (fin false n d) h l =
    absurd (no (m * up e * down d) (n * up d * down e) (mul-pos least (down_pos e)) (ltb-false 0 (m * up e * down d + n * up d * down e) l))
  where
    least : 0 < n * up d
    least = first_pos (n * up d) (2 ^ B) (lt_of_lt_of_le (down_pos d) (leb-true (down d) (n * up d * 2 ^ B) h))

    no : (a b : ℕ) → 0 < b → a + b ≤ 0 → ⊥
    no a b h l = omega arith

-- the lesser of a value and the least so far: if it is not below 2^-(k + 1), neither was the least so far, nor the value unless it is a NaN
pub least-lesser : (k : ℕ) (x a : Float) → le (fin false 1 (negsuc k)) (cond (lt x a) x a) ≡ true
    → (le (fin false 1 (negsuc k)) a ≡ true) × ((le (fin false 1 (negsuc k)) x ≡ true) ⊎ (is_nan x ≡ true))
least-lesser k x a = go (lt x a) refl
  where
    back : (from (suc k) x ≡ true) ⊎ (is_nan x ≡ true) → (le (fin false 1 (negsuc k)) x ≡ true) ⊎ (is_nan x ≡ true)
    back (inl h) = inl (le_from k x ∙ h)
    back (inr h) = inr h

    go : (b : Bool) → lt x a ≡ b → le (fin false 1 (negsuc k)) (cond b x a) ≡ true
        → (le (fin false 1 (negsuc k)) a ≡ true) × ((le (fin false 1 (negsuc k)) x ≡ true) ⊎ (is_nan x ≡ true))
    go true l h = (le_from k a ∙ from-above (suc k) x a (sym (le_from k x) ∙ h) l, inl h)
    go false l h = (h, back (from-not-below (suc k) x a (sym (le_from k a) ∙ h) l))
