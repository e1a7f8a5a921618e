-- The factor of a pattern: by its kind, normal or subnormal; it has t + 1 digits, and, where the pattern is not bad, the pattern's value. Floats and factors,
-- there and back. Over the widths. Assumes nothing.
use mathlib.Core.Path.{◌≡◌, refl, sym, ap, ◌∙◌, subst}
use mathlib.Core.Bool.{Bool, true, false, not, cond, ◌&&◌, ◌||◌, true≢false}
use mathlib.Core.Logic.{◌⊎◌, inl, inr, ⊎_elim}
use Prim.Native.Nat.{ℕ, zero, suc, ◌+◌, ◌-◌, ◌*◌, ◌^◌, ◌≤◌, ◌<◌}
use native.Mathlib.Nat.{lt_irrefl, lt_of_not-le, le_refl, le_of_eq, lt_of_lt_of_le, mul_comm, pos_of_ne-zero}
use native.Mathlib.Omega.{arith}
use lib.IntN.{ℤ, pos, negsuc, sub_ℕ, nat_abs, ◌+ℤ◌, ◌-ℤ◌, +ℤ_assoc, +ℤ-neg_ℤ_cancel}
use lib.Dec.{T, ltb, eqb}
use lib.Signed.{le_z}
use lib.Pow.{pow-add, pow_mono}
use lib.Ieee.{Float, nan, inf, fin, Format, prec, emax, low, fits, is_nan, of_bits, to_bits}
use lib.Ieee.Exact.{HasValue}
use lib.Ieee.Bits.{of_bits-to_bits, to_bits-of_bits}
use borrow.Author.Tests.{eqb-true, eqb-false, ne_eqb, lt-ltb, le-ltb, ltb-true, not-true}
use Rattle.laws.proofs.Tests.{and_both, neither}
use Rattle.integers.proofs.Difference.{ints, atoms}
use Rattle.floats.specs.Rounding.{unit_places, delivered}
use Rattle.floats.specs.Product.{bias}
use Rattle.floats.specs.Factor.{Factor, Normalised, NormalExponent, float_of}
use Rattle.floats.specs.Fields.{sign_field, exp_field, fraction, pattern, of_parts, value_of, bad_bits, subnormal_bits, moved_places, factor_of}
use Rattle.floats.proofs.Bridge.{float_of-is, float_of-value}
use Rattle.floats.proofs.Factor.{factor-same}
use Rattle.floats.proofs.Fields.{bias-next, sign-is, exp-is, fraction-is, pattern_lt, fraction-lt, field_lt, pattern-value, top-is, value-is}
use Rattle.floats.proofs.Subnormal.{moved-some, moved-few, moved-least, moved-most, moved-float}

-- ---- the factor of a pattern
pub subnormal-some : (w t b : ℕ) → subnormal_bits w t b ≡ true → (exp_field w t b ≡ 0) × (0 < fraction t b)
subnormal-some w t b h =
    let p = and_both (eqb (exp_field w t b) 0) (not (eqb (fraction t b) 0)) h in
    let n = eqb-false (fraction t b) 0 (not-true (eqb (fraction t b) 0) p.1) in
    (eqb-true (exp_field w t b) 0 p.0, pos_of_ne-zero n)

-- by its two ways
module _ (w t b : ℕ) where
  pub factor-subnormal : subnormal_bits w t b ≡ true
      → factor_of w t b
      ≡ record { sign = sign_field w t b; sig = fraction t b * 2 ^ moved_places t (fraction t b); exp = pos 1 -ℤ pos (bias w + moved_places t (fraction t b)) }
  unfolding factor_of
  factor-subnormal h =
      let T' = fraction t b in
      factor-same (sign_field w t b) (sign_field w t b) (factor_of w t b).sig (T' * 2 ^ moved_places t T') (factor_of w t b).exp
      (pos 1 -ℤ pos (bias w + moved_places t T'))
      refl
      (ap (λ (q : Bool). cond q (T' * 2 ^ moved_places t T') (2 ^ t + T')) h)
      (ap (λ (q : Bool). cond q (pos 1 -ℤ pos (bias w + moved_places t T')) (pos (exp_field w t b) -ℤ pos (bias w))) h)

  pub factor-other : subnormal_bits w t b ≡ false
      → factor_of w t b ≡ record { sign = sign_field w t b; sig = 2 ^ t + fraction t b; exp = pos (exp_field w t b) -ℤ pos (bias w) }
  unfolding factor_of
  factor-other h =
      let T' = fraction t b in
      factor-same (sign_field w t b) (sign_field w t b) (factor_of w t b).sig (2 ^ t + T') (factor_of w t b).exp (pos (exp_field w t b) -ℤ pos (bias w))
      refl
      (ap (λ (q : Bool). cond q (T' * 2 ^ moved_places t T') (2 ^ t + T')) h)
      (ap (λ (q : Bool). cond q (pos 1 -ℤ pos (bias w + moved_places t T')) (pos (exp_field w t b) -ℤ pos (bias w))) h)

  pub factor-normal : Normalised t (factor_of w t b)
  factor-normal = go (subnormal_bits w t b) refl
    where
      go : (q : Bool) → subnormal_bits w t b ≡ q → Normalised t (factor_of w t b)
      go true h =
          let p = subnormal-some w t b h in
          subst (Normalised t) (sym (factor-subnormal h))
          (record { least = moved-least t (fraction t b) p.1 (fraction-lt t b); most = moved-most t (fraction t b) p.1 (fraction-lt t b) })
      go false h =
          subst (Normalised t) (sym (factor-other h)) (record { least = omega arith; most = omega (arith, fraction-lt t b, pow-add 2 t 1) })

-- the pattern of a normal number: the field is neither 0 nor all ones
pub record NormalField (w t b : ℕ) : Type 0 where
  pub less_one : ℕ
  pub field_is : exp_field w t b ≡ suc less_one
  pub not_last : suc less_one ≡ 2 ^ w - 1 → ⊥

module _ (w t b : ℕ) where
  pub normal-other : NormalField w t b → subnormal_bits w t b ≡ false
  normal-other n =
      ap (λ (y : ℕ). eqb y 0 && not (eqb (fraction t b) 0)) n.field_is
      ∙ ap (λ (q : Bool). q && not (eqb (fraction t b) 0)) (ne_eqb (suc n.less_one) 0 (λ (h : suc n.less_one ≡ 0). omega arith))

  pub normal-good : NormalField w t b → bad_bits w t b ≡ false
  unfolding bad_bits
  normal-good n =
      ap (λ (y : ℕ). (eqb y 0 && eqb (fraction t b) 0) || eqb y (2 ^ w - 1)) n.field_is
      ∙ ap (λ (q : Bool). (q && eqb (fraction t b) 0) || eqb (suc n.less_one) (2 ^ w - 1))
      (ne_eqb (suc n.less_one) 0 (λ (h : suc n.less_one ≡ 0). omega arith))
      ∙ ne_eqb (suc n.less_one) (2 ^ w - 1) n.not_last

  pub subnormal-good : 0 < w → subnormal_bits w t b ≡ true → bad_bits w t b ≡ false
  unfolding bad_bits
  subnormal-good W h =
      let p = subnormal-some w t b h in
      ap (λ (y : ℕ). (eqb y 0 && eqb (fraction t b) 0) || eqb y (2 ^ w - 1)) p.0
      ∙ ap (λ (q : Bool). q || eqb 0 (2 ^ w - 1)) (ne_eqb (fraction t b) 0 (λ (e : fraction t b ≡ 0). omega (arith, p.1)))
      ∙ ne_eqb 0 (2 ^ w - 1) (λ (e : 0 ≡ 2 ^ w - 1). omega (arith, two-or-more))
    where
      two-or-more : 2 ^ 1 ≤ 2 ^ w
      two-or-more = pow_mono W

  -- what is not bad is normal or subnormal
  pub good-kinds : bad_bits w t b ≡ false → NormalField w t b ⊎ (subnormal_bits w t b ≡ true)
  unfolding bad_bits
  good-kinds h = go (exp_field w t b) refl (eqb (fraction t b) 0) refl h
    where
      go : (y : ℕ) → exp_field w t b ≡ y → (z : Bool) → eqb (fraction t b) 0 ≡ z → ((eqb y 0 && z) || eqb y (2 ^ w - 1)) ≡ false
          → NormalField w t b ⊎ (subnormal_bits w t b ≡ true)
      go zero e true f h = absurd (true≢false h)
      go zero e false f h = inr (ap (λ (y : ℕ). eqb y 0 && not (eqb (fraction t b) 0)) e ∙ ap not f)
      go (suc x) e z f h =
          inl (record { less_one = x; field_is = e; not_last = eqb-false (suc x) (2 ^ w - 1) (neither (eqb (suc x) 0 && z) (eqb (suc x) (2 ^ w - 1)) h).1 })

-- E - bias + (bias - 1) is E - 1
place_is : (x b : ℕ) → 0 < b → pos (suc x) -ℤ pos b +ℤ pos (b - 1) ≡ pos x
place_is x zero h = absurd (lt_irrefl 0 h)
place_is x (suc b) h =
    +ℤ_assoc (pos (suc x)) (negsuc b) (pos (suc b - 1))
    ∙ ap (λ (y : ℕ). pos (suc x) +ℤ sub_ℕ y (suc b)) (let e : suc b - 1 ≡ b = omega arith in e)
    ∙ ap (λ (y : ℤ). pos (suc x) +ℤ y) (less b)
    ∙ one-back x
  where
    less : (b : ℕ) → sub_ℕ b (suc b) ≡ negsuc 0
    less b = ap (λ (u : Bool). cond u (negsuc (suc b - suc b)) (pos (b - suc b))) (lt-ltb b (suc b) (le_refl (suc b))) ∙ ap negsuc (omega arith)

    one-back : (x : ℕ) → pos (suc x) +ℤ negsuc 0 ≡ pos x
    one-back x = ap (λ (u : Bool). cond u (negsuc (1 - suc (suc x))) (pos (suc x - 1))) (le-ltb (suc x) 1 (omega arith)) ∙ ap pos (omega arith)

bias-pos : (w : ℕ) → 1 < w → 0 < bias w
bias-pos w h = let l : 2 ≤ 2 ^ (w - 1) = pow_mono (let k : 1 ≤ w - 1 = omega arith in k) in omega arith

module _ (w t b : ℕ) (W : 1 < w) where
  pub factor-range : NormalField w t b → NormalExponent w (factor_of w t b)
  factor-range n =
      subst (NormalExponent w) (sym (factor-other w t b (normal-other w t b n)))
      (record {
        place = n.less_one;
        above = ap (λ (y : ℕ). pos y -ℤ pos (bias w) +ℤ pos (bias w - 1)) n.field_is ∙ place_is n.less_one (bias w) (bias-pos w W);
        below = under n.less_one (exp_field w t b) (2 ^ w) (bias w) n.field_is n.not_last (field_lt w t b) (bias-next w (omega arith));
      })
    where
      under : (x y P c : ℕ) → y ≡ suc x → (suc x ≡ P - 1 → ⊥) → y < P → P ≡ 2 * c + 2 → x < 2 * c
      under x y P c e n l q = lt_of_not-le (λ (g : 2 * c ≤ x). n (omega arith))

  normal-value : NormalField w t b → float_of w t (factor_of w t b) ≡ value_of w t b
  unfolding value_of of_parts
  normal-value n =
      ap (float_of w t) (factor-other w t b (normal-other w t b n))
      ∙ float_of-is w t (record { sign = sign_field w t b; sig = 2 ^ t + fraction t b; exp = pos (exp_field w t b) -ℤ pos (bias w) }) n.less_one
      (subst (Normalised t) (factor-other w t b (normal-other w t b n)) (factor-normal w t b))
      (ap (λ (y : ℕ). pos y -ℤ pos (bias w) +ℤ pos (bias w - 1)) n.field_is ∙ place_is n.less_one (bias w) (bias-pos w W))
      ∙ sym (ap (λ (y : ℕ). of_parts w t (sign_field w t b) y (fraction t b)) n.field_is
      ∙ ap (λ (q : Bool). cond q (cond (eqb (fraction t b) 0) (inf (sign_field w t b)) nan)
      (delivered (t + 1) (bias w) (sign_field w t b) (2 ^ t + fraction t b) n.less_one))
      (ne_eqb (suc n.less_one) (2 ^ w - 1) n.not_last))

  subnormal-value : subnormal_bits w t b ≡ true → float_of w t (factor_of w t b) ≡ value_of w t b
  unfolding float_of value_of of_parts
  subnormal-value h =
      let p = subnormal-some w t b h in
      ap (float_of w t) (factor-subnormal w t b h)
      ∙ moved-float t (fraction t b) p.1 (fraction-lt t b) w (sign_field w t b) (bias-pos w W)
      ∙ sym (ap (λ (y : ℕ). of_parts w t (sign_field w t b) y (fraction t b)) p.0)

  -- a rate from 2^-(k + 1) on is no subnormal
  pub high-normal : (k : ℕ) → suc k < bias w → bad_bits w t b ≡ false → le_z (negsuc k) (factor_of w t b).exp ≡ true → NormalField w t b
  high-normal k few h l = ⊎_elim (λ n. n) (λ q. absurd (low q)) (good-kinds w t b h)
    where
      least : (B m : ℕ) → le_z (negsuc k) (pos 1 -ℤ pos (B + m)) ≡ true → B + m ≤ suc (suc k)
      least B m = simp ints (simp atoms (omega arith))

      low : subnormal_bits w t b ≡ true → ⊥
      low q =
          let m = moved-some t (fraction t b) (subnormal-some w t b q).1 (fraction-lt t b) in
          let g = least (bias w) (moved_places t (fraction t b)) (ap (λ (f : Factor). le_z (negsuc k) f.exp) (sym (factor-subnormal w t b q)) ∙ l) in
          omega (arith, m, g)

  -- no exponent is further from 0 than that of the least positive number
  pub factor-size : 1 < t → nat_abs (factor_of w t b).exp ≤ unit_places (t + 1) (bias w)
  factor-size two = go (subnormal_bits w t b) refl
    where
      -- a - c, of either sign
      apart : (a c n : ℕ) → a ≤ c + n → c ≤ a + n → nat_abs (pos a -ℤ pos c) ≤ n
      apart a zero n h k = omega arith
      apart a (suc c) n h k = away (ltb a (suc c)) refl
        where
          away : (q : Bool) → ltb a (suc c) ≡ q → nat_abs (cond q (negsuc (suc c - suc a)) (pos (a - suc c))) ≤ n
          away true e = let l : a < suc c = ltb-true a (suc c) e in omega arith
          away false e = omega arith

      go : (q : Bool) → subnormal_bits w t b ≡ q → nat_abs (factor_of w t b).exp ≤ unit_places (t + 1) (bias w)
      go true h =
          let m = moved-few t (fraction t b) (subnormal-some w t b h).1 (fraction-lt t b) in
          subst (λ (f : Factor). nat_abs f.exp ≤ unit_places (t + 1) (bias w)) (sym (factor-subnormal w t b h))
          (apart 1 (bias w + moved_places t (fraction t b)) (unit_places (t + 1) (bias w)) (omega arith) (omega (arith, m)))
      go false h =
          subst (λ (f : Factor). nat_abs f.exp ≤ unit_places (t + 1) (bias w)) (sym (factor-other w t b h))
          (apart (exp_field w t b) (bias w) (unit_places (t + 1) (bias w)) (omega (arith, field_lt w t b, bias-next w (omega arith))) (omega arith))

  -- the factor of a pattern that is not bad has the pattern's value
  pub factor-value : bad_bits w t b ≡ false → float_of w t (factor_of w t b) ≡ value_of w t b
  factor-value h = ⊎_elim normal-value subnormal-value (good-kinds w t b h)

-- ---- at one of the kit's formats
module _ (F : Format) (w t : ℕ) (P : prec F ≡ t + 1) (E : emax F ≡ bias w) (W : 0 < w) where
  pub float-of-factor : (x : Float) → 1 < w → 0 < bias w → T (fits F x) → bad_bits w t (to_bits F x) ≡ false → float_of w t (factor_of w t (to_bits F x)) ≡ x
  float-of-factor x W1 B f h = factor-value w t (to_bits F x) W1 h ∙ sym (value-is F w t P E W (to_bits F x) B) ∙ of_bits-to_bits F x f

  module _ (f : Factor) (N : Normalised t f) (R : NormalExponent w f) where
    fraction-small : f.sig - 2 ^ t < 2 ^ t
    fraction-small = omega (arith, N.most, pow-add 2 t 1)

    field-small : suc R.place < 2 ^ w
    field-small = omega (arith, R.below, bias-next w W)

    bias-some : 0 < bias w
    bias-some = omega (arith, R.below)

    -- the pattern of a normal number
    code : ℕ
    code = pattern w t f.sign (suc R.place) (f.sig - 2 ^ t)

    float_is : of_bits F code ≡ float_of w t f
    unfolding code
    float_is =
        value-is F w t P E W (pattern w t f.sign (suc R.place) (f.sig - 2 ^ t)) bias-some
        ∙ pattern-value w t f.sign R.place (f.sig - 2 ^ t) (omega (arith, R.below, bias-next w W)) fraction-small
        ∙ ap (λ (q : ℕ). delivered (t + 1) (bias w) f.sign q R.place) (let l = N.least in omega arith)
        ∙ sym (float_of-is w t f R.place N R.above)

    pub bits-of-float : to_bits F (float_of w t f) ≡ pattern w t f.sign (suc R.place) (f.sig - 2 ^ t)
    unfolding code is_nan
    bits-of-float =
        ap (to_bits F) (sym float_is)
        ∙ to_bits-of_bits F code (lt_of_lt_of_le (pattern_lt w t f.sign (suc R.place) (f.sig - 2 ^ t) field-small fraction-small)
        (le_of_eq (mul_comm (2 ^ (w + t)) 2 ∙ ap (λ (x : ℕ). 2 * x) (sym (top-is F w t P E W)))))
        (subst (λ (x : Float). T (not (is_nan x))) (sym float_is)
        (number (float_of w t f) f.sign (f.sig * 2 ^ R.place) (2 ^ low F) (float_of-value F w t P E f N R)))
      where
        number : (x : Float) (s : Bool) (a c : ℕ) → HasValue x s a c → T (not (is_nan x))
        number nan s a c h = absurd h
        number (inf u) s a c h = absurd h
        number (fin u m e) s a c h = tt

    code-field : exp_field w t (to_bits F (float_of w t f)) ≡ suc R.place
    code-field = ap (exp_field w t) bits-of-float ∙ exp-is w t f.sign (suc R.place) (f.sig - 2 ^ t) field-small fraction-small

    pub float-normal : NormalField w t (to_bits F (float_of w t f))
    float-normal = record { less_one = R.place; field_is = code-field; not_last = last }
      where
        last : suc R.place ≡ 2 ^ w - 1 → ⊥
        last h = omega (arith, R.below, bias-next w W)

    pub factor-of-float : factor_of w t (to_bits F (float_of w t f)) ≡ f
    factor-of-float =
        let c = to_bits F (float_of w t f) in
        let s = f.sign in
        let x = suc R.place in
        let T' = f.sig - 2 ^ t in
        factor-other w t c (normal-other w t c float-normal)
        ∙ factor-same (sign_field w t c) s (2 ^ t + fraction t c) f.sig (pos (exp_field w t c) -ℤ pos (bias w)) f.exp
        (ap (sign_field w t) bits-of-float ∙ sign-is w t s x T' field-small fraction-small)
        (ap (λ (q : ℕ). 2 ^ t + fraction t q) bits-of-float
        ∙ ap (λ (q : ℕ). 2 ^ t + q) (fraction-is w t s x T' field-small fraction-small)
        ∙ (let l = N.least in let e : 2 ^ t + T' ≡ f.sig = omega arith in e))
        (ap (λ (q : ℕ). pos q -ℤ pos (bias w)) code-field ∙ exponent f.exp (bias w) bias-some R.place R.above)
      where
        -- e + (b - 1) = r, so r + 1 - b = e
        exponent : (e : ℤ) (b : ℕ) → 0 < b → (r : ℕ) → e +ℤ pos (b - 1) ≡ pos r → pos (suc r) -ℤ pos b ≡ e
        exponent e b B r h =
            ap (λ (q : ℤ). q -ℤ pos b) (one_more r
            ∙ ap (λ (q : ℤ). q +ℤ pos 1) (sym h)
            ∙ +ℤ_assoc e (pos (b - 1)) (pos 1)
            ∙ ap (λ (q : ℕ). e +ℤ pos q) (let l : b - 1 + 1 ≡ b = omega arith in l))
            ∙ +ℤ-neg_ℤ_cancel e (pos b)
          where
            one_more : (r : ℕ) → pos (suc r) ≡ pos r +ℤ pos 1
            one_more r = ap pos (omega arith)
