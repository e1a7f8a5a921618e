-- Laws of the whole-number product `times`, for any width t of the fraction. Assumes nothing.
use mathlib.Core.Path.{◌≡◌, refl, sym, ap, ◌∙◌, subst}
use mathlib.Core.Bool.{Bool, true, false, cond}
use Prim.Native.Nat.{ℕ, suc, ◌+◌, ◌-◌, ◌*◌, ◌^◌, ◌≤◌, ◌<◌}
use native.Mathlib.Nat.{add-le-add, mul-sub, le_refl, le_trans, le_of_eq, le_of_lt, lt_of_lt_of_le, lt_of_le_of_lt, zero-add, mul-one, mul_comm, mul-le-mul}
use native.Mathlib.Nat.{mul-le-mul_left, mul-le-mul_right, mul-lt-mul_of_pos_right, ne_of_lt}
use native.Mathlib.Omega.{arith}
use lib.IntN.{ℤ, pos, negsuc, sub_ℕ, nat_abs, ◌+ℤ◌, +ℤ_idl, +ℤ_idr}
use lib.Dec.{ltb, eqb}
use lib.Arith.{lt_of_le-ne}
use lib.Pow.{pow-add, pow_pos, pow-lt}
use lib.Ieee.{size}
use lib.Ieee.Nearest.{closest_mono}
use borrow.Author.Tests.{ltb-true, ltb-false, lt-ltb, eqb-true, eqb-false, ne_eqb}
use Rattle.floats.specs.Rounding.{ties_to_even}
use Rattle.floats.specs.Product.{signs}
use Rattle.floats.specs.Factor.{Factor, Normalised, unit, long, quotient, significand, carry, times}
use Rattle.floats.proofs.Nearest.{ties-is, closest-exact, closest-above, closest-below, size_is}

-- ---- powers
pow-next : (t : ℕ) → 2 ^ (t + 1) ≡ 2 ^ t * 2
pow-next t = pow-add 2 t 1

pow-twice : (t : ℕ) → 2 ^ (2 * t) ≡ 2 ^ t * 2 ^ t
pow-twice t = ap (λ (x : ℕ). 2 ^ x) (let e : 2 * t ≡ t + t = omega arith in e) ∙ pow-add 2 t t

-- ---- the product n of two significands: 2^(2t) ≤ n, and n is at most (2^(t + 1) - 1)^2
module _ (t : ℕ) (f g : Factor) (F : Normalised t f) (G : Normalised t g) where
  pub product-least : 2 ^ (2 * t) ≤ f.sig * g.sig
  product-least = le_trans (le_of_eq (pow-twice t)) (mul-le-mul F.least G.least)

  -- below (2^(t + 1) - 1) × 2^(t + 1)
  pub product-most : f.sig * g.sig ≤ (2 ^ (t + 1) - 1) * 2 ^ (t + 1)
  product-most = mul-le-mul (let h : f.sig < 2 ^ (t + 1) = F.most in omega arith) (le_of_lt G.most)

  pub product-below : f.sig * g.sig < 2 ^ (2 * t + 2)
  product-below =
      lt_of_lt_of_le (lt_of_le_of_lt (mul-le-mul_left f.sig (le_of_lt G.most)) (mul-lt-mul_of_pos_right F.most (pow_pos (t + 1))))
      (le_of_eq (sym (pow-add 2 (t + 1) (t + 1)) ∙ ap (λ (x : ℕ). 2 ^ x) (omega arith)))

-- ---- a product n of at least 2^(2t): its digits, and its quotient
module _ (t n : ℕ) (lo : 2 ^ (2 * t) ≤ n) (hi : n < 2 ^ (2 * t + 2)) where
  pub long-size : size n ≡ suc (2 * t + long t n)
  long-size = go (ltb n (2 ^ (2 * t + 1))) refl
    where
      go : (b : Bool) → ltb n (2 ^ (2 * t + 1)) ≡ b → size n ≡ suc (2 * t + cond b 0 1)
      go true e =
          size_is n (2 * t + 0) (le_trans (le_of_eq (ap (λ (x : ℕ). 2 ^ x) (omega arith))) lo)
          (lt_of_lt_of_le (ltb-true n (2 ^ (2 * t + 1)) e) (le_of_eq (ap (λ (x : ℕ). 2 ^ x) (omega arith))))
      go false e = size_is n (2 * t + 1) (ltb-false n (2 ^ (2 * t + 1)) e) (lt_of_lt_of_le hi (le_of_eq (ap (λ (x : ℕ). 2 ^ x) (omega arith))))

  pub long-least : 2 ^ (2 * t + long t n) ≤ n
  long-least = go (ltb n (2 ^ (2 * t + 1))) refl
    where
      go : (b : Bool) → ltb n (2 ^ (2 * t + 1)) ≡ b → 2 ^ (2 * t + cond b 0 1) ≤ n
      go true e = le_trans (le_of_eq (ap (λ (x : ℕ). 2 ^ x) (omega arith))) lo
      go false e = ltb-false n (2 ^ (2 * t + 1)) e

  pub long-below : n < 2 ^ (2 * t + long t n + 1)
  long-below = go (ltb n (2 ^ (2 * t + 1))) refl
    where
      go : (b : Bool) → ltb n (2 ^ (2 * t + 1)) ≡ b → n < 2 ^ (2 * t + cond b 0 1 + 1)
      go true e = lt_of_lt_of_le (ltb-true n (2 ^ (2 * t + 1)) e) (le_of_eq (ap (λ (x : ℕ). 2 ^ x) (omega arith)))
      go false e = lt_of_lt_of_le hi (le_of_eq (ap (λ (x : ℕ). 2 ^ x) (omega arith)))

  pub quotient-least : 2 ^ t ≤ quotient t n
  quotient-least =
      let k = t + long t n in
      le_trans (le_of_eq (sym (closest-exact (2 ^ t) (2 ^ k) (pow_pos k))))
      (le_trans
      (closest_mono (2 ^ t * 2 ^ k) (2 ^ k) n (2 ^ k) (pow_pos k) (pow_pos k)
      (mul-le-mul_right (2 ^ k) (le_trans (le_of_eq (sym (pow-add 2 t k) ∙ ap (λ (x : ℕ). 2 ^ x) (omega arith))) long-least)))
      (le_of_eq (sym (ties-is n (2 ^ k)))))

  pub quotient-most : quotient t n ≤ 2 ^ (t + 1)
  quotient-most =
      let k = t + long t n in
      le_trans (le_of_eq (ties-is n (2 ^ k)))
      (le_trans
      (closest_mono n (2 ^ k) (2 ^ (t + 1) * 2 ^ k) (2 ^ k) (pow_pos k) (pow_pos k)
      (mul-le-mul_right (2 ^ k) (le_trans (le_of_lt long-below) (le_of_eq (ap (λ (x : ℕ). 2 ^ x) (omega arith) ∙ pow-add 2 (t + 1) k)))))
      (le_of_eq (closest-exact (2 ^ (t + 1)) (2 ^ k) (pow_pos k))))

  pub significand-least : 2 ^ t ≤ significand t n
  significand-least = go (eqb (quotient t n) (2 ^ (t + 1)))
    where
      go : (b : Bool) → 2 ^ t ≤ cond b (2 ^ t) (quotient t n)
      go true = le_refl (2 ^ t)
      go false = quotient-least

  pub significand-below : significand t n < 2 ^ (t + 1)
  significand-below = go (eqb (quotient t n) (2 ^ (t + 1))) refl
    where
      go : (b : Bool) → eqb (quotient t n) (2 ^ (t + 1)) ≡ b → cond b (2 ^ t) (quotient t n) < 2 ^ (t + 1)
      go true e = pow-lt (omega arith)
      go false e = lt_of_le-ne quotient-most (eqb-false (quotient t n) (2 ^ (t + 1)) e)

-- ---- significands stay in 2^t .. 2^(t + 1) - 1
pub times-normal : (t : ℕ) (f g : Factor) → Normalised t f → Normalised t g → Normalised t (times t f g)
unfolding times
times-normal t f g F G =
    let lo = product-least t f g F G in
    let hi = product-below t f g F G in
    record { least = significand-least t (f.sig * g.sig) lo hi; most = significand-below t (f.sig * g.sig) lo hi }

-- ---- the exponent of the product is the sum or one more
one-or-none : (q P : ℕ) (b : Bool) → q < P → eqb q P ≡ b → ◌≡◌ {A = ℕ} (cond b 1 0) 0
one-or-none q P true h e = absurd (ne_of_lt h (eqb-true q P e))
one-or-none q P false h e = refl

pub carry-le : (t : ℕ) (f g : Factor) → Normalised t f → Normalised t g → carry t (f.sig * g.sig) ≤ 1
carry-le t f g F G = go (ltb n (2 ^ (2 * t + 1))) refl
  where
    n : ℕ
    n = f.sig * g.sig

    bit : (b : Bool) → cond b 1 0 ≤ 1
    bit true = le_refl 1
    bit false = omega arith

    -- a long product is below 2^(t + 1) × (2^(t + 1) - 1), and its quotient below 2^(t + 1)
    small : ties_to_even n (2 ^ (t + 1)) < 2 ^ (t + 1)
    small =
        let P = 2 ^ (t + 1) in
        let P0 : 0 < P = pow_pos (t + 1) in
        lt_of_le_of_lt
        (le_trans (le_of_eq (ties-is n P))
        (le_trans (closest_mono n P ((P - 1) * P) P P0 P0 (mul-le-mul_right P (product-most t f g F G))) (le_of_eq (closest-exact (P - 1) P P0))))
        (omega arith)

    go : (b : Bool) → ltb n (2 ^ (2 * t + 1)) ≡ b → cond b 0 1 + cond (eqb (ties_to_even n (2 ^ (t + cond b 0 1))) (2 ^ (t + 1))) 1 0 ≤ 1
    go true e =
        le_trans (le_of_eq (zero-add (cond (eqb (ties_to_even n (2 ^ (t + 0))) (2 ^ (t + 1))) 1 0))) (bit (eqb (ties_to_even n (2 ^ (t + 0))) (2 ^ (t + 1))))
    go false e =
        le_of_eq (ap (λ (x : ℕ). 1 + x) (one-or-none (ties_to_even n (2 ^ (t + 1))) (2 ^ (t + 1)) (eqb (ties_to_even n (2 ^ (t + 1))) (2 ^ (t + 1))) small refl))

pub times-sign : (t : ℕ) (f g : Factor) → (times t f g).sign ≡ signs f.sign g.sign
unfolding times
times-sign t f g = refl

pub times-sig : (t : ℕ) (f g : Factor) → (times t f g).sig ≡ significand t (f.sig * g.sig)
unfolding times
times-sig t f g = refl

pub times-exp : (t : ℕ) (f g : Factor) → (times t f g).exp ≡ f.exp +ℤ g.exp +ℤ pos (carry t (f.sig * g.sig))
unfolding times
times-exp t f g = refl

-- ---- plus, 2^t, 0 is neutral
module _ (t S : ℕ) (most : S < 2 ^ (t + 1)) where
  short : ltb (S * 2 ^ t) (2 ^ (2 * t + 1)) ≡ true
  short =
      lt-ltb (S * 2 ^ t) (2 ^ (2 * t + 1))
      (lt_of_lt_of_le (mul-lt-mul_of_pos_right most (pow_pos t)) (le_of_eq (sym (pow-add 2 (t + 1) t) ∙ ap (λ (x : ℕ). 2 ^ x) (omega arith))))

  quotient-unit : quotient t (S * 2 ^ t) ≡ S
  quotient-unit =
      ap (λ (b : Bool). ties_to_even (S * 2 ^ t) (2 ^ (t + cond b 0 1))) short
      ∙ ap (λ (x : ℕ). ties_to_even (S * 2 ^ t) (2 ^ x)) (omega arith)
      ∙ ties-is (S * 2 ^ t) (2 ^ t)
      ∙ closest-exact S (2 ^ t) (pow_pos t)

  not_full : eqb (quotient t (S * 2 ^ t)) (2 ^ (t + 1)) ≡ false
  not_full = ap (λ (x : ℕ). eqb x (2 ^ (t + 1))) quotient-unit ∙ ne_eqb S (2 ^ (t + 1)) (ne_of_lt most)

  significand-unit : significand t (S * 2 ^ t) ≡ S
  significand-unit = ap (λ (b : Bool). cond b (2 ^ t) (quotient t (S * 2 ^ t))) not_full ∙ quotient-unit

  carry-unit : carry t (S * 2 ^ t) ≡ 0
  carry-unit = ap (λ (b : Bool). cond b 0 1 + cond (eqb (quotient t (S * 2 ^ t)) (2 ^ (t + 1))) 1 0) short ∙ ap (λ (b : Bool). 0 + cond b 1 0) not_full

pub factor-same : (s s' : Bool) (S S' : ℕ) (e e' : ℤ) → s ≡ s' → S ≡ S' → e ≡ e'
    → ◌≡◌ {A = Factor} (record { sign = s; sig = S; exp = e }) (record { sign = s'; sig = S'; exp = e' })
factor-same s s' S S' e e' p q r = cc

pub signs-plus : (a : Bool) → signs a false ≡ a
signs-plus true = refl
signs-plus false = refl

-- times a power of two, the exponents are added and nothing else changes
pub times_power : (t : ℕ) (f : Factor) (z : ℤ) → Normalised t f
    → times t f (record { sign = false; sig = 2 ^ t; exp = z }) ≡ record { sign = f.sign; sig = f.sig; exp = f.exp +ℤ z }
unfolding times
times_power t f z F =
    factor-same (signs f.sign false) f.sign (significand t (f.sig * 2 ^ t)) f.sig (f.exp +ℤ z +ℤ pos (carry t (f.sig * 2 ^ t))) (f.exp +ℤ z)
    (signs-plus f.sign) (significand-unit t f.sig F.most)
    (ap (λ (c : ℕ). f.exp +ℤ z +ℤ pos c) (carry-unit t f.sig F.most) ∙ +ℤ_idr (f.exp +ℤ z))

pub times-unit-right : (t : ℕ) (f : Factor) → Normalised t f → times t f (unit t) ≡ f
times-unit-right t f F = times_power t f (pos 0) F ∙ factor-same f.sign f.sign f.sig f.sig (f.exp +ℤ pos 0) f.exp refl refl (+ℤ_idr f.exp)

pub times-unit-left : (t : ℕ) (f : Factor) → Normalised t f → times t (unit t) f ≡ f
unfolding times
times-unit-left t f F =
    let n : 2 ^ t * f.sig ≡ f.sig * 2 ^ t = mul_comm (2 ^ t) f.sig in
    factor-same f.sign f.sign (significand t (2 ^ t * f.sig)) f.sig (pos 0 +ℤ f.exp +ℤ pos (carry t (2 ^ t * f.sig))) f.exp
    refl (ap (significand t) n ∙ significand-unit t f.sig F.most)
    (ap (λ (c : ℕ). pos 0 +ℤ f.exp +ℤ pos c) (ap (carry t) n ∙ carry-unit t f.sig F.most) ∙ +ℤ_idr (pos 0 +ℤ f.exp) ∙ +ℤ_idl f.exp)

pub unit-normal : (t : ℕ) → Normalised t (unit t)
unit-normal t = record { least = le_refl (2 ^ t); most = pow-lt (omega arith) }

-- ---- exponents within bounds
sub-size : (a b : ℕ) → nat_abs (sub_ℕ a b) ≤ a + b
sub-size a b = go (ltb a b) refl
  where
    go : (u : Bool) → ltb a b ≡ u → nat_abs (cond u (negsuc (b - suc a)) (pos (a - b))) ≤ a + b
    go true e = omega (arith, ltb-true a b e)
    go false e = omega arith

pub add-size : (x y : ℤ) → nat_abs (x +ℤ y) ≤ nat_abs x + nat_abs y
add-size (pos a) (pos b) = le_refl (a + b)
add-size (pos a) (negsuc b) = sub-size a (suc b)
add-size (negsuc a) (pos b) = le_trans (sub-size b (suc a)) (omega arith)
add-size (negsuc a) (negsuc b) = omega arith

pub times-size : (t : ℕ) (f g : Factor) → Normalised t f → Normalised t g → nat_abs (times t f g).exp ≤ nat_abs f.exp + nat_abs g.exp + 1
unfolding times
times-size t f g F G =
    le_trans (add-size (f.exp +ℤ g.exp) (pos (carry t (f.sig * g.sig)))) (add-le-add (add-size f.exp g.exp) (carry-le t f g F G))

-- ---- how near: the product of the significands is kept within one part in 2^(t + 1)
module _ (t : ℕ) (f g : Factor) (F : Normalised t f) (G : Normalised t g) where
  n : ℕ
  n = f.sig * g.sig

  u : ℕ
  u = 2 ^ (t + long t n)

  -- what is kept, with its carry, is the quotient with its divisor
  pub significand-whole : significand t (f.sig * g.sig) * 2 ^ (t + carry t (f.sig * g.sig))
      ≡ quotient t (f.sig * g.sig) * 2 ^ (t + long t (f.sig * g.sig))
  significand-whole = go (eqb (quotient t (f.sig * g.sig)) (2 ^ (t + 1))) refl
    where
      l : ℕ
      l = long t (f.sig * g.sig)

      q : ℕ
      q = quotient t (f.sig * g.sig)

      go : (b : Bool) → eqb q (2 ^ (t + 1)) ≡ b → cond b (2 ^ t) q * 2 ^ (t + (l + cond b 1 0)) ≡ q * 2 ^ (t + l)
      go true e =
          sym (pow-add 2 t (t + (l + 1)))
          ∙ ap (λ (x : ℕ). 2 ^ x) (omega arith)
          ∙ pow-add 2 (t + 1) (t + l)
          ∙ ap (λ (x : ℕ). x * 2 ^ (t + l)) (sym (eqb-true q (2 ^ (t + 1)) e))
      go false e = ap (λ (x : ℕ). q * 2 ^ (t + x)) (omega arith)

  unit-least : u * 2 ^ t ≤ n
  unfolding u n
  unit-least =
      le_trans (le_of_eq (sym (pow-add 2 (t + long t (f.sig * g.sig)) t) ∙ ap (λ (x : ℕ). 2 ^ x) (omega arith)))
      (long-least t (f.sig * g.sig) (product-least t f g F G) (product-below t f g F G))

  -- with P = 2^(t + 1): n × (P - 1) ≤ kept × 2^(t + carry) × P ≤ n × (P + 1)
  pub times-most : significand t (f.sig * g.sig) * 2 ^ (t + carry t (f.sig * g.sig)) * 2 ^ (t + 1) ≤ f.sig * g.sig * (2 ^ (t + 1) + 1)
  unfolding u n
  times-most =
      le_trans (le_of_eq (ap (λ (x : ℕ). x * 2 ^ (t + 1)) significand-whole))
      (scaled-most (quotient t n * u) n u (2 ^ t) (2 ^ (t + 1)) (pow-next t)
      (subst (λ (q : ℕ). q * u * 2 ≤ n * 2 + u) (sym (ties-is n u)) (closest-above n u (pow_pos (t + long t n)))) unit-least)
    where
      scaled-most : (x n u p P : ℕ) → P ≡ p * 2 → x * 2 ≤ n * 2 + u → u * p ≤ n → x * P ≤ n * (P + 1)
      scaled-most x n u p P e h k = rw e (omega (arith, mul-le-mul_right p h))

  pub times-least : f.sig * g.sig * (2 ^ (t + 1) - 1) ≤ significand t (f.sig * g.sig) * 2 ^ (t + carry t (f.sig * g.sig)) * 2 ^ (t + 1)
  unfolding u n
  times-least =
      le_trans
      (scaled-least (quotient t n * u) n u (2 ^ t) (2 ^ (t + 1)) (pow-next t)
      (subst (λ (q : ℕ). n * 2 ≤ q * u * 2 + u) (sym (ties-is n u)) (closest-below n u (pow_pos (t + long t n)))) unit-least)
      (le_of_eq (ap (λ (x : ℕ). x * 2 ^ (t + 1)) (sym significand-whole)))
    where
      scaled-least : (x n u p P : ℕ) → P ≡ p * 2 → n * 2 ≤ x * 2 + u → u * p ≤ n → n * (P - 1) ≤ x * P
      scaled-least x n u p P e h k = le_trans (le_of_eq (mul-sub n P 1 ∙ ap (λ (y : ℕ). n * P - y) (mul-one n))) (rw e (omega (arith, mul-le-mul_right p h)))
