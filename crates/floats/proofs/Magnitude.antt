-- Floats of size 1 to 2 are the significands of t + 1 digits, at each of the kit's formats: `float_of` at the exponent 0 and `factor_at` go there and back.
-- Assumes nothing.
use mathlib.Core.Path.{◌≡◌, refl, sym, ap, ◌∙◌, subst}
use mathlib.Core.Bool.{Bool, true, false, ◌&&◌, true≢false}
use Prim.Native.Nat.{ℕ, zero, suc, ◌+◌, ◌-◌, ◌*◌, ◌/◌, ◌%◌, ◌^◌, ◌≤◌, ◌<◌}
use native.Mathlib.Nat.{le_of_suc-le-suc, le_refl, le_trans, le_of_eq, lt_of_lt_of_le, lt_of_le_of_lt, mul-one, one-mul, mul_comm, mul_assoc, mul_right_comm}
use native.Mathlib.Nat.{mul-le-mul_right, mul-lt-mul_of_pos_right, le_of_mul-le-mul_right, lt_of_mul-lt-mul_right, mul-div_cancel, eq_of_mul-eq-mul_right}
use native.Mathlib.Nat.{lt_of_not-le, not-le_of_lt}
use native.Mathlib.Omega.{arith}
use lib.IntN.{ℤ, pos, negsuc}
use lib.Dec.{T, leb, ltb, eqb, ltb→lt}
use lib.Pow.{pow-add, pow_pos, pow_mono}
use lib.Ieee.{Float, nan, inf, fin, Format, prec, emax, low, up, down, fits}
use lib.Ieee.Fits.{down_pos, and_l, and_r}
use lib.Ieee.Exact.{HasValue}
use lib.Ieee.Nearest.{div_same}
use borrow.Author.Tests.{le-leb, lt-leb, lt-ltb, leb-true, ltb-true}
use Rattle.laws.proofs.Tests.{and_both}
use Rattle.floats.specs.Product.{bias}
use Rattle.floats.specs.Factor.{Factor, Normalised, NormalExponent, float_of}
use Rattle.floats.specs.Magnitude.{in_unit, two_or_more, is_minus, scaled, factor_at, with_exponent}
use Rattle.floats.proofs.Unique.{value-unique}
use Rattle.floats.proofs.Factor.{factor-same}
use Rattle.floats.proofs.Bridge.{float_of-value, float_of-fits, low-is}

-- ---- a value by any fraction a / c that it equals
module _ (s : Bool) (a c : ℕ) (C : 0 < c) where
  pub minus-at : (x : Float) → HasValue x s a c → is_minus x ≡ s
  unfolding is_minus
  minus-at nan h = absurd h
  minus-at (inf u) h = absurd h
  minus-at (fin u m e) h = h.0

  pub scaled_at : (x : Float) (t q : ℕ) → a * 2 ^ t ≡ q * c → HasValue x s a c → scaled t x ≡ q
  unfolding scaled
  scaled_at nan t q k h = absurd h
  scaled_at (inf u) t q k h = absurd h
  scaled_at (fin u m e) t q k h =
      div_same (m * up e * 2 ^ t) (down e) (a * 2 ^ t) c (down_pos e) C
      (mul_right_comm (m * up e) (2 ^ t) c ∙ ap (λ (y : ℕ). y * 2 ^ t) h.1 ∙ mul_right_comm a (down e) (2 ^ t))
      ∙ ap (λ (y : ℕ). y / c) k
      ∙ mul-div_cancel q C

  -- k × down e ≤ m × up e exactly if k × c ≤ a
  over : (k m : ℕ) (e : ℤ) → m * up e * c ≡ a * down e → k * c ≤ a → k * down e ≤ m * up e
  over k m e h l = le_of_mul-le-mul_right (le_trans (le_of_eq (mul_right_comm k (down e) c)) (le_trans (mul-le-mul_right (down e) l) (le_of_eq (sym h)))) C

  under : (k m : ℕ) (e : ℤ) → m * up e * c ≡ a * down e → a < k * c → m * up e < k * down e
  under k m e h l =
      lt_of_mul-lt-mul_right c (lt_of_lt_of_le (lt_of_le_of_lt (le_of_eq h) (mul-lt-mul_of_pos_right l (down_pos e))) (le_of_eq (mul_right_comm k c (down e))))

  pub unit-at : (x : Float) → HasValue x s a c → c ≤ a → a < 2 * c → in_unit x ≡ true
  unfolding in_unit
  unit-at nan h l k = absurd h
  unit-at (inf u) h l k = absurd h
  unit-at (fin u m e) h l k =
      ap (λ (t : Bool). t && ltb (m * up e) (2 * down e))
      (le-leb (down e) (m * up e) (le_trans (le_of_eq (sym (one-mul (down e)))) (over 1 m e h.1 (le_trans (le_of_eq (one-mul c)) l))))
      ∙ lt-ltb (m * up e) (2 * down e) (under 2 m e h.1 k)

  pub two_at : (x : Float) → HasValue x s a c → 2 * c ≤ a → two_or_more x ≡ true
  unfolding two_or_more
  two_at nan h l = absurd h
  two_at (inf u) h l = absurd h
  two_at (fin u m e) h l = le-leb (2 * down e) (m * up e) (over 2 m e h.1 l)

  pub less-at : (x : Float) → HasValue x s a c → a < 2 * c → two_or_more x ≡ false
  unfolding two_or_more
  less-at nan h l = absurd h
  less-at (inf u) h l = absurd h
  less-at (fin u m e) h l = lt-leb (2 * down e) (m * up e) (under 2 m e h.1 l)

-- a common factor of a fraction goes
pub reduced : (x : Float) (s : Bool) (a c k : ℕ) → 0 < k → HasValue x s (a * k) (c * k) → HasValue x s a c
reduced nan s a c k K h = absurd h
reduced (inf u) s a c k K h = absurd h
reduced (fin u m e) s a c k K h = (h.0, eq_of_mul-eq-mul_right k K (m * up e * c) (a * down e) (mul_assoc (m * up e) c k ∙ h.1 ∙ mul_right_comm a k (down e)))

-- ---- a float of size 1 to 2 is a whole number of 2^-t
-- |x| is S / 2^t, with S of t + 1 digits
pub record Whole (t : ℕ) (x : Float) : Type 0 where
  pub sig : ℕ
  pub value : HasValue x (is_minus x) sig (2 ^ t)
  pub least : 2 ^ t ≤ sig
  pub most : sig < 2 ^ (t + 1)

module _ (t : ℕ) (s : Bool) (m : ℕ) where
  -- m × 2^a below 2, so m × 2^a × 2^t is below 2^(t + 1)
  whole-up : (a : ℕ) → 1 ≤ m * 2 ^ a → m * 2 ^ a < 2 * 1 → Whole t (fin s m (pos a))
  unfolding is_minus
  whole-up a lo hi = record {
    sig = m * 2 ^ a * 2 ^ t;
    value = (refl, sym (mul-one (m * 2 ^ a * 2 ^ t)));
    least = le_trans (le_of_eq (sym (one-mul (2 ^ t)))) (mul-le-mul_right (2 ^ t) lo);
    most = lt_of_lt_of_le (mul-lt-mul_of_pos_right hi (pow_pos t)) (le_of_eq (mul_comm 2 (2 ^ t) ∙ sym (pow-add 2 t 1)));
  }

  -- m is at least 2^J and below 2^(t + 1), so J is at most t
  whole-down : (j : ℕ) → m < 2 ^ (t + 1) → 2 ^ suc j ≤ m * 1 → m * 1 < 2 * 2 ^ suc j → Whole t (fin s m (negsuc j))
  unfolding is_minus
  whole-down j small lo hi = record {
    sig = m * 2 ^ (t - J);
    value = (refl, ap (λ (y : ℕ). y * 2 ^ t) (mul-one m) ∙ ap (λ (y : ℕ). m * y) (sym split) ∙ sym (mul_assoc m (2 ^ (t - J)) (2 ^ J)));
    least = le_trans (le_of_eq (sym split ∙ mul_comm (2 ^ (t - J)) (2 ^ J))) (mul-le-mul_right (2 ^ (t - J)) (le_trans lo (le_of_eq (mul-one m))));
    most =
        lt_of_lt_of_le (mul-lt-mul_of_pos_right (lt_of_le_of_lt (le_of_eq (sym (mul-one m))) hi) (pow_pos (t - J))) (le_of_eq
        (mul_assoc 2 (2 ^ J) (2 ^ (t - J)) ∙ ap (λ (y : ℕ). 2 * y) (mul_comm (2 ^ J) (2 ^ (t - J)) ∙ split) ∙ mul_comm 2 (2 ^ t) ∙ sym (pow-add 2 t 1)));
  }
    where
      J : ℕ
      J = suc j

      J-le : J ≤ t
      J-le =
          le-of-not (λ (g : t < J). not-le_of_lt (lt_of_lt_of_le small (pow_mono (let k : t + 1 ≤ J = omega arith in k))) (le_trans lo (le_of_eq (mul-one m))))
        where
          le-of-not : (t < J → ⊥) → J ≤ t
          le-of-not f = le_of_suc-le-suc (lt_of_not-le f)

      split : 2 ^ (t - J) * 2 ^ J ≡ 2 ^ t
      split = sym (pow-add 2 (t - J) J) ∙ ap (λ (y : ℕ). 2 ^ y) (let k = J-le in omega arith)

fits-small : (F : Format) (s : Bool) (m : ℕ) (e : ℤ) → T (fits F (fin s m e)) → m < 2 ^ prec F
unfolding fits
fits-small F s zero e f = pow_pos (prec F)
fits-small F s (suc m) e f =
    let a : Bool = eqb (suc m % 2) 1 in
    let b : Bool = ltb (suc m) (2 ^ prec F) in
    let c : Bool = leb (down e) (2 ^ low F) in
    let d : Bool = ltb (suc m * up e) (2 ^ suc (emax F) * down e) in
    ltb→lt (suc m) (2 ^ prec F) (and_r a b (and_l (a && b) c (and_l (a && b && c) d f)))

pub unit-whole : (F : Format) (t : ℕ) → prec F ≡ t + 1 → (x : Float) → T (fits F x) → in_unit x ≡ true → Whole t x
unfolding in_unit
unit-whole F t P nan f h = absurd (true≢false (sym h))
unit-whole F t P (inf u) f h = absurd (true≢false (sym h))
unit-whole F t P (fin u m (pos a)) f h =
    let b = and_both (leb 1 (m * 2 ^ a)) (ltb (m * 2 ^ a) (2 * 1)) h in
    whole-up t u m a (leb-true 1 (m * 2 ^ a) b.0) (ltb-true (m * 2 ^ a) (2 * 1) b.1)
unit-whole F t P (fin u m (negsuc j)) f h =
    let b = and_both (leb (2 ^ suc j) (m * 1)) (ltb (m * 1) (2 * 2 ^ suc j)) h in
    whole-down t u m j (subst (λ (p : ℕ). m < 2 ^ p) P (fits-small F u m (negsuc j) f)) (leb-true (2 ^ suc j) (m * 1) b.0)
    (ltb-true (m * 1) (2 * 2 ^ suc j) b.1)

pub moved-normal : (t : ℕ) (f : Factor) (z : ℤ) → Normalised t f → Normalised t (with_exponent f z)
moved-normal t f z N = record { least = N.least; most = N.most }

-- ---- at one of the kit's formats
module _ (F : Format) (w t : ℕ) (P : prec F ≡ t + 1) (E : emax F ≡ bias w) (B : 0 < bias w) where
  -- the exponents 0 and 1
  pub near-range : (f : Factor) (c : ℕ) → c ≤ 1 → NormalExponent w (with_exponent f (pos c))
  near-range f c h = record { place = c + (bias w - 1); above = refl; below = omega arith }

  -- S × 2^c / 2^t
  pub near-value : (f : Factor) (c : ℕ) → c ≤ 1 → Normalised t f → HasValue (float_of w t (with_exponent f (pos c))) f.sign (f.sig * 2 ^ c) (2 ^ t)
  unfolding near-range
  near-value f c h N =
      let x = float_of w t (with_exponent f (pos c)) in
      let k = 2 ^ (bias w - 1) in
      reduced x f.sign (f.sig * 2 ^ c) (2 ^ t) k (pow_pos (bias w - 1))
      (subst (λ (y : ℕ). HasValue x f.sign y (2 ^ t * k)) (ap (λ (y : ℕ). f.sig * y) (pow-add 2 c (bias w - 1)) ∙ sym (mul_assoc f.sig (2 ^ c) k))
      (subst (λ (y : ℕ). HasValue x f.sign (f.sig * 2 ^ (c + (bias w - 1))) y)
      (ap (λ (y : ℕ). 2 ^ y) (low-is F w t P E ∙ level (bias w) B) ∙ pow-add 2 t (bias w - 1))
      (float_of-value F w t P E (with_exponent f (pos c)) (moved-normal t f (pos c) N) (near-range f c h))))
    where
      level : (b : ℕ) → 0 < b → b + (t + 1) - 2 ≡ t + (b - 1)
      level b h = omega arith

  half-open : (f : Factor) → Normalised t f → f.sig * 2 ^ 0 < 2 * 2 ^ t
  half-open f N = omega (arith, N.most, pow-add 2 t 1)

  pub unit-float : (f : Factor) → Normalised t f → in_unit (float_of w t (with_exponent f (pos 0))) ≡ true
  unit-float f N =
      unit-at f.sign (f.sig * 2 ^ 0) (2 ^ t) (pow_pos t) (float_of w t (with_exponent f (pos 0))) (near-value f 0 (omega arith) N)
      (le_trans N.least (le_of_eq (sym (mul-one f.sig)))) (half-open f N)

  pub below_two : (f : Factor) → Normalised t f → two_or_more (float_of w t (with_exponent f (pos 0))) ≡ false
  below_two f N = less-at f.sign (f.sig * 2 ^ 0) (2 ^ t) (pow_pos t) (float_of w t (with_exponent f (pos 0))) (near-value f 0 (omega arith) N) (half-open f N)

  pub from-two : (f : Factor) → Normalised t f → two_or_more (float_of w t (with_exponent f (pos 1))) ≡ true
  from-two f N =
      two_at f.sign (f.sig * 2 ^ 1) (2 ^ t) (pow_pos t) (float_of w t (with_exponent f (pos 1))) (near-value f 1 (le_refl 1) N)
      (le_trans (le_of_eq (mul_comm 2 (2 ^ t))) (mul-le-mul_right 2 N.least))

  -- there and back
  pub factor-at-float : (f : Factor) (e : ℤ) → Normalised t f → factor_at t (float_of w t (with_exponent f (pos 0))) e ≡ with_exponent f e
  unfolding factor_at
  factor-at-float f e N =
      let x = float_of w t (with_exponent f (pos 0)) in
      let v = near-value f 0 (omega arith) N in
      factor-same (is_minus x) f.sign (scaled t x) f.sig e e
      (minus-at f.sign (f.sig * 2 ^ 0) (2 ^ t) (pow_pos t) x v)
      (scaled_at f.sign (f.sig * 2 ^ 0) (2 ^ t) (pow_pos t) x t f.sig (ap (λ (y : ℕ). y * 2 ^ t) (mul-one f.sig)) v)
      refl

  module _ (x : Float) (f : T (fits F x)) (h : in_unit x ≡ true) where
    whole : Whole t x
    whole = unit-whole F t P x f h

    scaled-whole : scaled t x ≡ whole.sig
    scaled-whole = scaled_at (is_minus x) whole.sig (2 ^ t) (pow_pos t) x t whole.sig refl whole.value

    pub at-normal : (e : ℤ) → Normalised t (factor_at t x e)
    unfolding factor_at
    at-normal e =
        record
        { least = subst (λ (y : ℕ). 2 ^ t ≤ y) (sym scaled-whole) whole.least; most = subst (λ (y : ℕ). y < 2 ^ (t + 1)) (sym scaled-whole) whole.most }

    pub float_at : float_of w t (factor_at t x (pos 0)) ≡ x
    unfolding factor_at
    float_at =
        let g = factor_at t x (pos 0) in
        let N = at-normal (pos 0) in
        value-unique F (float_of w t g) x (is_minus x) (scaled t x * 2 ^ 0) (2 ^ t) (pow_pos t) (float_of-fits F w t P E g) f (near-value g 0 (omega arith) N)
        (subst (λ (y : ℕ). HasValue x (is_minus x) y (2 ^ t)) (sym (mul-one (scaled t x) ∙ scaled-whole)) whole.value)
