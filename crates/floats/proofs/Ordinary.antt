-- Zeros and normal numbers: their fields are their split, and what equals 0 is bad. Assumes nothing.
use mathlib.Core.Path.{◌≡◌, refl, sym, ap, ◌∙◌, subst}
use mathlib.Core.Bool.{Bool, true, false, not, ◌&&◌, ◌||◌, true≢false, or-false}
use Prim.Native.Nat.{ℕ, zero, suc, ◌*◌, ◌/◌, ◌^◌, ◌<◌}
use native.Mathlib.Nat.{zero-mul, zero-div, mul-pos, zero-lt-suc}
use native.Mathlib.Omega.{arith}
use lib.IntN.{ℤ, pos, ◌-ℤ◌}
use lib.Dec.{T, eqb}
use lib.Ieee.Fits.{up_pos}
use lib.Ieee.{Float, nan, inf, fin, binary64, low, size, up, down, odd, fits, is_nan, eq, to_bits, of_bits}
use mir.Syntax.{w64}
use mir.Val.{to_z, of_z}
use borrow.Author.Tests.{ne_eqb, eqb-true, not-true}
use Rattle.laws.proofs.Tests.{and_both}
use Rattle.floats.specs.declared.Split.{Split}
use Rattle.floats.specs.Fields.{sign_field, exp_field, fraction, of_parts, bad_bits, subnormal_bits}
use Rattle.floats.specs.Rounding.{delivered}
use Rattle.floats.specs.Splitting.{bits_of, is_bad, split}
use Rattle.floats.specs.InnerKinds.{is_subnormal, ZERO, is_ordinary}
use Rattle.floats.proofs.PatternFactor.{normal-other}
use Rattle.floats.proofs.Unique.{pattern-of, bits_are}
use Rattle.floats.proofs.Splitting.{Normal, bits-lt, raw, set, rate-parts, split-is}

pub normal-ordinary : (x : Float) → Normal x → is_ordinary x ≡ true
unfolding is_ordinary is_subnormal
normal-ordinary x n =
    ap (λ (q : Bool). not q && not (eqb (exp_field 11 52 (bits_of x)) 2047)) (normal-other 11 52 (bits_of x) n)
    ∙ ap (λ (y : ℕ). not (eqb y 2047)) n.field_is
    ∙ ap not (ne_eqb (suc n.less_one) 2047 n.not_last)

pub ordinary-number : (x : Float) → is_ordinary x ≡ true → T (not (is_nan x))
unfolding is_nan is_ordinary is_subnormal to_bits
ordinary-number nan h = absurd (true≢false (sym h))
ordinary-number (inf s) h = tt
ordinary-number (fin s m e) h = tt

-- ---- what equals 0 has the pattern of a zero
zero_bits : (s : Bool) (e : ℤ) → bits_of (fin s 0 e) ≡ pattern-of binary64 s 0
zero_bits s e =
    bits_are binary64 s 0 e
    ∙ ap (λ (n : ℕ). pattern-of binary64 s (n * 2 ^ low binary64 / down e)) (zero-mul (up e))
    ∙ ap (λ (n : ℕ). pattern-of binary64 s (n / down e)) (zero-mul (2 ^ low binary64))
    ∙ ap (pattern-of binary64 s) (zero-div (down e))

-- a law of the pattern of a zero
zero-law : (P : ℕ → Type 0) → ((s : Bool) → P (pattern-of binary64 s 0)) → (x : Float) → eq x ZERO ≡ true → P (bits_of x)
unfolding eq
zero-law P h nan e = absurd (true≢false (sym e))
zero-law P h (inf s) e = absurd (true≢false (sym e))
zero-law P h (fin s zero d) e = subst P (sym (zero_bits s d)) (h s)
zero-law P h (fin s (suc m) d) e =
    absurd
    (some (suc m * up d * 1) (mul-pos (mul-pos (zero-lt-suc m) (up_pos d)) (zero-lt-suc 0))
    (eqb-true (suc m * up d * 1) (0 * down d) (and_both (eqb (suc m * up d * 1) (0 * down d)) _ e).0 ∙ zero-mul (down d)))
  where
    some : (a : ℕ) → 0 < a → a ≡ 0 → ⊥
    some a p q = omega arith

pub zero-ordinary : (x : Float) → eq x ZERO ≡ true → is_ordinary x ≡ true
unfolding is_ordinary is_subnormal pattern-of size
zero-ordinary = zero-law (λ (b : ℕ). (not (subnormal_bits 11 52 b) && not (eqb (exp_field 11 52 b) 2047)) ≡ true) by_sign
  where
    by_sign : (s : Bool) → (not (subnormal_bits 11 52 (pattern-of binary64 s 0)) && not (eqb (exp_field 11 52 (pattern-of binary64 s 0)) 2047)) ≡ true
    by_sign true = refl
    by_sign false = refl

zero-bad : (x : Float) → eq x ZERO ≡ true → is_bad x ≡ true
unfolding is_bad bad_bits pattern-of size
zero-bad = zero-law (λ (b : ℕ). bad_bits 11 52 b ≡ true) by_sign
  where
    by_sign : (s : Bool) → bad_bits 11 52 (pattern-of binary64 s 0) ≡ true
    by_sign true = refl
    by_sign false = refl

-- ---- and the other way: an ordinary number with the mark equals 0
module _ (x : Float) (f : T (fits binary64 x)) (h : is_ordinary x ≡ true) where
  abbrev E : ℕ
  E = exp_field 11 52 (bits_of x)

  abbrev F : ℕ
  F = fraction 52 (bits_of x)

  apart : (is_subnormal x ≡ false) × (eqb E 2047 ≡ false)
  unfolding is_ordinary
  apart = let b = and_both (not (is_subnormal x)) (not (eqb E 2047)) h in (not-true (is_subnormal x) b.0, not-true (eqb E 2047) b.1)

  marked-zero : is_bad x ≡ true → eq x ZERO ≡ true
  unfolding is_bad bad_bits eq of_parts delivered odd
  marked-zero e = go (and_both (eqb E 0) (eqb F 0) (sym (or-false (eqb E 0 && eqb F 0)) ∙ ap (λ (q : Bool). (eqb E 0 && eqb F 0) || q) (sym apart.1) ∙ e))
    where
      at : (s : Bool) → eq (of_parts 11 52 s 0 0) ZERO ≡ true
      at true = refl
      at false = refl

      go : (eqb E 0 ≡ true) × (eqb F 0 ≡ true) → eq x ZERO ≡ true
      go q =
          ap (λ (y : Float). eq y ZERO)
          (rate-parts x f
          ∙ ap (λ (y : ℕ). of_parts 11 52 (sign_field 11 52 (bits_of x)) y F) (eqb-true E 0 q.0)
          ∙ ap (of_parts 11 52 (sign_field 11 52 (bits_of x)) 0) (eqb-true F 0 q.1))
          ∙ at (sign_field 11 52 (bits_of x))

  zero-is-bad : eq x ZERO ≡ is_bad x
  zero-is-bad = go (eq x ZERO) (is_bad x) refl refl
    where
      go : (a b : Bool) → eq x ZERO ≡ a → is_bad x ≡ b → a ≡ b
      go true true p q = refl
      go false false p q = refl
      go true false p q = sym (zero-bad x p) ∙ q
      go false true p q = sym p ∙ marked-zero q

  pub ordinary-split : ◌≡◌ {A = Split}
      (record { m = of_bits binary64 (set (bits_of x) (bits-lt x f)); e = to_z w64 (of_z w64 (to_z w64 (raw (bits_of x)) -ℤ pos 1023)); bad = eq x ZERO }) (split x)
  ordinary-split = split-is x f (eq x ZERO) apart.0 zero-is-bad
