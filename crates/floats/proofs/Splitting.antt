-- Laws of splitting: |m| is in [1, 2) always; a rate that is not bad is the float of its factor, whose exponent is e and whose sign and significand are m's.
-- Assumes nothing.
use mathlib.Core.Path.{◌≡◌, refl, sym, ap, ◌∙◌, subst}
use mathlib.Core.Bool.{Bool, true, false, not, cond, ◌&&◌, ◌||◌, true≢false}
use Prim.Native.Nat.{ℕ, suc, ◌+◌, ◌-◌, ◌*◌, ◌/◌, ◌%◌, ◌^◌, ◌≤◌, ◌<◌}
use native.Mathlib.Nat.{lt_of_lt_of_le}
use native.Mathlib.Omega.{arith}
use lib.IntN.{ℤ, pos, negsuc, nat_abs, ◌-ℤ◌}
use lib.Dec.{T, ltb, eqb, lit<, lit≤}
use lib.Signed.{mag, le_z}
use lib.Pow.{field}
use lib.Bits.{bit_and, bit_or}
use lib.Ieee.{Float, nan, inf, fin, binary64, fits, is_nan, ne, to_bits, of_bits, nan_bits}
use lib.Ieee.Compare.{nan_differs}
use lib.Ieee.Bits.{to_bits-lt, of_bits-to_bits}
use mir.Syntax.{w64}
use mir.Val.{SFits, to_z, of_z}
use mir.ValLaws.{to_z_pos, to_z-of_z}
use borrow.Author.Tests.{eq-eqb, ne_eqb, not-false}
use Rattle.floats.specs.declared.Split.{Split}
use Rattle.floats.specs.Rounding.{delivered}
use Rattle.floats.specs.Factor.{Factor, Normalised, NormalExponent, float_of}
use Rattle.floats.specs.Fields.{sign_field, exp_field, fraction, pattern, of_parts, value_of, moved_places, factor_of}
use Rattle.floats.specs.Magnitude.{in_unit, factor_at, with_exponent}
use Rattle.floats.specs.Splitting.{bits_of, is_bad, rate_factor, split}
use Rattle.floats.specs.InnerKinds.{is_subnormal}
use Rattle.floats.proofs.PatternFactor.{NormalField, factor-subnormal, factor-other, subnormal-good, normal-good, high-normal, factor-size}
use Rattle.floats.proofs.Fields.{value-is, pattern-value, exp-is, field_lt}
use Rattle.floats.proofs.PatternFactor.{factor-normal, factor-range, float-of-factor, factor-of-float, float-normal, normal-other, normal-good}
use Rattle.floats.proofs.Fields.{fraction-lt}
use Rattle.floats.proofs.Bridge.{float_of-is}
use Rattle.floats.proofs.Magnitude.{moved-normal, unit-float, factor-at-float}
use Rattle.floats.proofs.Masks.{masked-field, masked-set}

pub nan-bits : bits_of nan ≡ 0x7FF8000000000000
unfolding to_bits
nan-bits = refl

pub rate-normal : (x : Float) → Normalised 52 (rate_factor x)
unfolding rate_factor
rate-normal x = factor-normal 11 52 (bits_of x)

-- the pattern of a normal number
abbrev pub Normal : Float → Type 0
Normal x = NormalField 11 52 (bits_of x)

pub rate-range : (x : Float) → Normal x → NormalExponent 11 (rate_factor x)
unfolding rate_factor
rate-range x n = factor-range 11 52 (bits_of x) (lit< tt) n

-- a rate that is not bad, and from 2^-(k + 1) on
pub high-rate : (k : ℕ) (x : Float) → k ≤ 1021 → is_bad x ≡ false → le_z (negsuc k) (rate_factor x).exp ≡ true → Normal x
unfolding rate_factor is_bad
high-rate k x few h l = high-normal 11 52 (bits_of x) (lit< tt) k (let g : suc k < 1023 = omega arith in g) h l

-- the exponent of the least positive number, 2^-1074: no rate's is further from 0
abbrev pub farthest : ℕ
farthest = 1074

pub rate-size : (x : Float) → nat_abs (rate_factor x).exp ≤ farthest
unfolding rate_factor
rate-size x = factor-size 11 52 (bits_of x) (lit< tt) (lit< tt)

-- the rate by the fields of its pattern
pub rate-parts : (x : Float) → T (fits binary64 x) → x ≡ of_parts 11 52 (sign_field 11 52 (bits_of x)) (exp_field 11 52 (bits_of x)) (fraction 52 (bits_of x))
unfolding value_of
rate-parts x f = sym (of_bits-to_bits binary64 x f) ∙ value-is binary64 11 52 refl refl (lit< tt) (bits_of x) (lit< tt)

-- the rate is the float of its factor
pub rate-float : (x : Float) → T (fits binary64 x) → is_bad x ≡ false → float_of 11 52 (rate_factor x) ≡ x
unfolding rate_factor is_bad
rate-float x f h = float-of-factor binary64 11 52 refl refl (lit< tt) x (lit< tt) (lit< tt) f h

-- and back: the float of a normal factor is not bad, and its factor is that one
pub float-rate : (f : Factor) → Normalised 52 f → NormalExponent 11 f → rate_factor (float_of 11 52 f) ≡ f
unfolding rate_factor
float-rate f N R = factor-of-float binary64 11 52 refl refl (lit< tt) f N R

pub float_good : (f : Factor) → Normalised 52 f → NormalExponent 11 f → is_bad (float_of 11 52 f) ≡ false
unfolding is_bad
float_good f N R = normal-good 11 52 (bits_of (float_of 11 52 f)) (float-normal binary64 11 52 refl refl (lit< tt) f N R)

pub float-other : (f : Factor) → Normalised 52 f → NormalExponent 11 f → is_subnormal (float_of 11 52 f) ≡ false
unfolding is_subnormal
float-other f N R = normal-other 11 52 (bits_of (float_of 11 52 f)) (float-normal binary64 11 52 refl refl (lit< tt) f N R)

-- m is the float of the rate's sign and significand, at the exponent 0
pub split-m : (x : Float) → (split x).m ≡ float_of 11 52 (with_exponent (rate_factor x) (pos 0))
unfolding split
split-m x =
    let f = rate_factor x in
    let N = rate-normal x in
    pattern-value 11 52 f.sign 1022 (f.sig - 2 ^ 52) (lit< tt) (let l = N.least in let h = N.most in omega arith)
    ∙ ap (λ (q : ℕ). delivered 53 1023 f.sign q 1022) (let l = N.least in let e : 2 ^ 52 + (f.sig - 2 ^ 52) ≡ f.sig = omega arith in e)
    ∙ sym (float_of-is 11 52 (with_exponent f (pos 0)) 1022 (moved-normal 52 f (pos 0) N) refl)

-- |m| is in [1, 2), whatever the rate
pub split-unit : (x : Float) → in_unit (split x).m ≡ true
split-unit x = ap in_unit (split-m x) ∙ unit-float binary64 11 52 refl refl (lit< tt) (rate_factor x) (rate-normal x)

-- m and e are the rate's factor
pub split-factor : (x : Float) → factor_at 52 (split x).m (split x).e ≡ rate_factor x
unfolding split
split-factor x =
    let e = (split x).e in
    ap (λ (m : Float). factor_at 52 m e) (split-m x) ∙ factor-at-float binary64 11 52 refl refl (lit< tt) (rate_factor x) e (rate-normal x)

pub split-e : (x : Float) → (split x).e ≡ (rate_factor x).exp
unfolding factor_at
split-e x = ap (λ (f : Factor). f.exp) (split-factor x)

pub split-bad : (x : Float) → (split x).bad ≡ is_bad x
unfolding split
split-bad x = refl

-- ---- what the code works out, from the bits b of a rate
pub bits-lt : (x : Float) → T (fits binary64 x) → bits_of x < 2 ^ (11 + 52) * 2
bits-lt x f = lt_of_lt_of_le (to_bits-lt binary64 x f) (lit≤ tt)

-- a pattern with the exponent field 1023
module _ (c : ℕ) (s : Bool) (T' : ℕ) where
  pub unit-number : T' < 2 ^ 52 → c ≡ pattern 11 52 s 1023 T' → T (not (nan_bits binary64 c))
  unfolding nan_bits
  unit-number h e =
      subst (λ (y : ℕ). T (not (eqb y 2047 && not (eqb (c % 2 ^ 52) 0)))) (sym (field c 11 52 ∙ ap (exp_field 11 52) e ∙ exp-is 11 52 s 1023 T' (lit< tt) h)) tt

  pub unit-value : c ≡ pattern 11 52 s 1023 T' → of_bits binary64 c ≡ value_of 11 52 (pattern 11 52 s 1023 T')
  unit-value e = ap (of_bits binary64) e ∙ value-is binary64 11 52 refl refl (lit< tt) (pattern 11 52 s 1023 T') (lit< tt)

module _ (b : ℕ) where
  -- the exponent field, as the code has it
  abbrev pub raw : ℕ
  raw = bit_and b 0x7ff0000000000000 / 2 ^ 52

  pub raw-is : raw ≡ exp_field 11 52 b
  raw-is = masked-field 11 52 b

  raw-lt : raw < 2048
  raw-lt = subst (λ (y : ℕ). y < 2048) (sym raw-is) (field_lt 11 52 b)

  pub raw-fits : SFits w64 (pos raw)
  raw-fits = record { sfits = lt_of_lt_of_le raw-lt (lit≤ tt) }

  raw-to_z : to_z w64 raw ≡ pos raw
  raw-to_z = to_z_pos w64 raw raw-fits.sfits

  less-fits : (a : ℕ) → a < 2048 → SFits w64 (pos a -ℤ pos 1023)
  less-fits a h = record { sfits = go (ltb a 1023) }
    where
      go : (t : Bool) → mag (cond t (negsuc (1023 - suc a)) (pos (a - 1023))) < 2 ^ 63
      go true = lt_of_lt_of_le (let l : 1023 - suc a < 2048 = omega arith in l) (lit≤ tt)
      go false = lt_of_lt_of_le (let l : a - 1023 < 2048 = omega arith in l) (lit≤ tt)

  pub sub-fits : SFits w64 (to_z w64 raw -ℤ pos 1023)
  sub-fits = subst (λ (z : ℤ). SFits w64 (z -ℤ pos 1023)) (sym raw-to_z) (less-fits raw raw-lt)

  exponent-is : to_z w64 (of_z w64 (to_z w64 raw -ℤ pos 1023)) ≡ pos (exp_field 11 52 b) -ℤ pos 1023
  exponent-is = to_z-of_z w64 (to_z w64 raw -ℤ pos 1023) sub-fits ∙ ap (λ (z : ℤ). z -ℤ pos 1023) raw-to_z ∙ ap (λ (y : ℕ). pos y -ℤ pos 1023) raw-is

  module _ (B : b < 2 ^ (11 + 52) * 2) where
    -- the pattern of m, as the code has it
    abbrev pub set : ℕ
    set = bit_or (bit_and b 0x800fffffffffffff) 0x3ff0000000000000

    set_is : set ≡ pattern 11 52 (sign_field 11 52 b) 1023 (fraction 52 b)
    set_is = masked-set 11 52 b 1023 B (lit< tt)

    pub set-number : T (not (nan_bits binary64 set))
    set-number = unit-number set (sign_field 11 52 b) (fraction 52 b) (fraction-lt 52 b) set_is

    mantissa-is : of_bits binary64 set ≡ value_of 11 52 (pattern 11 52 (sign_field 11 52 b) 1023 (fraction 52 b))
    mantissa-is = unit-value set (sign_field 11 52 b) (fraction 52 b) set_is

split-same : (m m' : Float) (e e' : ℤ) (q q' : Bool) → m ≡ m' → e ≡ e' → q ≡ q'
    → ◌≡◌ {A = Split} (record { m = m; e = e; bad = q }) (record { m = m'; e = e'; bad = q' })
split-same m m' e e' q q' a b c = cc

module _ (x : Float) (m : Float) (e : ℤ) where
  abbrev b : ℕ
  b = bits_of x

  -- what is split, by its factor
  by-factor : (g : Factor) (q : Bool) → rate_factor x ≡ g → m ≡ value_of 11 52 (pattern 11 52 g.sign 1023 (g.sig - 2 ^ 52)) → e ≡ g.exp → q ≡ is_bad x
      → ◌≡◌ {A = Split} (record { m = m; e = e; bad = q }) (split x)
  unfolding split
  by-factor g q h p r z =
      split-same m (split x).m e (split x).e q (is_bad x)
      (p ∙ ap (λ (f : Factor). value_of 11 52 (pattern 11 52 f.sign 1023 (f.sig - 2 ^ 52))) (sym h)) (r ∙ ap (λ (f : Factor). f.exp) (sym h)) z

  -- a subnormal, with its highest one moved
  pub subnormal-split : is_subnormal x ≡ true
      → m ≡ value_of 11 52 (pattern 11 52 (sign_field 11 52 b) 1023 (fraction 52 b * 2 ^ moved_places 52 (fraction 52 b) - 2 ^ 52))
      → e ≡ pos 1 -ℤ pos (1023 + moved_places 52 (fraction 52 b))
      → ◌≡◌ {A = Split} (record { m = m; e = e; bad = false }) (split x)
  unfolding is_subnormal rate_factor is_bad
  subnormal-split h p r =
      by-factor
      (record {
        sign = sign_field 11 52 b;
        sig = fraction 52 b * 2 ^ moved_places 52 (fraction 52 b);
        exp = pos 1 -ℤ pos (1023 + moved_places 52 (fraction 52 b));
      })
      false (factor-subnormal 11 52 b h) p r (sym (subnormal-good 11 52 b (lit< tt) h))

  -- any other, by its fields
  pub other-split : (q : Bool) → is_subnormal x ≡ false → m ≡ value_of 11 52 (pattern 11 52 (sign_field 11 52 b) 1023 (fraction 52 b))
      → e ≡ pos (exp_field 11 52 b) -ℤ pos 1023 → q ≡ is_bad x → ◌≡◌ {A = Split} (record { m = m; e = e; bad = q }) (split x)
  unfolding is_subnormal rate_factor
  other-split q h p r z =
      by-factor (record { sign = sign_field 11 52 b; sig = 2 ^ 52 + fraction 52 b; exp = pos (exp_field 11 52 b) -ℤ pos 1023 }) q (factor-other 11 52 b h)
      (p ∙ ap (λ (T' : ℕ). value_of 11 52 (pattern 11 52 (sign_field 11 52 b) 1023 T')) (unled (fraction 52 b))) r z
    where
      unled : (y : ℕ) → y ≡ 2 ^ 52 + y - 2 ^ 52
      unled y = omega arith

pub split-is : (x : Float) (f : T (fits binary64 x)) (q : Bool) → is_subnormal x ≡ false → q ≡ is_bad x
    → ◌≡◌ {A = Split} (record { m = of_bits binary64 (set (bits_of x) (bits-lt x f)); e = to_z w64 (of_z w64 (to_z w64 (raw (bits_of x)) -ℤ pos 1023)); bad = q })
    (split x)
split-is x f q s h =
    let b = bits_of x in
    other-split x (of_bits binary64 (set b (bits-lt x f))) (to_z w64 (of_z w64 (to_z w64 (raw b) -ℤ pos 1023))) q s (mantissa-is b (bits-lt x f)) (exponent-is b) h

-- the mark, by the two ways of the code's test: the field 0 is a zero's, since it is no subnormal's here
pub bad-zero : (x : Float) → is_subnormal x ≡ false → raw (bits_of x) ≡ 0 → eqb (raw (bits_of x)) 0 ≡ is_bad x
unfolding is_bad is_subnormal
bad-zero x s h =
    let F = exp_field 11 52 (bits_of x) in
    let z = eq-eqb F 0 (sym (raw-is (bits_of x)) ∙ h) in
    let n = eqb (fraction 52 (bits_of x)) 0 in
    eq-eqb (raw (bits_of x)) 0 h
    ∙ sym (ap (λ (t : Bool). (t && n) || eqb F 2047) z
    ∙ ap (λ (t : Bool). t || eqb F 2047) (not-false n (ap (λ (t : Bool). t && not n) (sym z) ∙ s)))

pub bad-other : (x : Float) → (raw (bits_of x) ≡ 0 → ⊥) → eqb (raw (bits_of x)) 2047 ≡ is_bad x
unfolding is_bad
bad-other x h =
    let F = exp_field 11 52 (bits_of x) in
    ap (λ (y : ℕ). eqb y 2047) (raw-is (bits_of x))
    ∙ sym (ap (λ (t : Bool). (t && eqb (fraction 52 (bits_of x)) 0) || eqb F 2047) (ne_eqb F 0 (λ (e : F ≡ 0). h (raw-is (bits_of x) ∙ e))))

-- the NaN
pub split-nan : (x : Float) → x ≡ nan → ◌≡◌ {A = Split} (record { m = of_bits binary64 0x3ff8000000000000; e = pos 1024; bad = true }) (split x)
unfolding split rate_factor factor_of to_bits of_bits value_of is_bad
split-nan x h = subst (λ (y : Float). ◌≡◌ {A = Split} (record { m = of_bits binary64 0x3ff8000000000000; e = pos 1024; bad = true }) (split y)) (sym h) refl

-- a float argument fits its format
pub held : (x : Float) → fits binary64 x ≡ true → T (fits binary64 x)
held x e = subst T (sym e) tt

pub nan_is : (x : Float) → is_nan x ≡ true → x ≡ nan
unfolding is_nan
nan_is nan h = refl
nan_is (inf s) h = cc
nan_is (fin s m e) h = cc

pub subnormal-number : (x : Float) → is_subnormal x ≡ true → T (not (is_nan x))
unfolding is_nan is_subnormal to_bits
subnormal-number nan h = absurd (true≢false (sym h))
subnormal-number (inf s) h = tt
subnormal-number (fin s m e) h = tt

-- what does not differ from itself is no NaN
pub number_is : (x : Float) → ne x x ≡ false → T (not (is_nan x))
unfolding is_nan
number_is nan h = absurd (true≢false (sym nan_differs ∙ h))
number_is (inf s) h = tt
number_is (fin s m e) h = tt
