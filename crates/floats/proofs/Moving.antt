-- What the code works out of a subnormal's bits: the test for one, and the pattern and the exponent with the highest one moved. Assumes nothing.
use mathlib.Core.Path.{◌≡◌, refl, sym, ap, ◌∙◌, subst}
use mathlib.Core.Bool.{Bool, true, false, not, cond, ◌&&◌, ◌||◌, and-false}
use Prim.Native.Nat.{ℕ, ◌+◌, ◌-◌, ◌*◌, ◌/◌, ◌%◌, ◌^◌, ◌≤◌, ◌<◌}
use native.Mathlib.Nat.{lt_of_lt_of_le, lt_of_le_of_lt, le_of_suc-le-suc, pos_of_ne-zero, mod-eq_of_lt}
use lib.Arith.{lt_of_le-ne}
use native.Mathlib.Omega.{arith}
use lib.IntN.{ℤ, pos, negsuc, ◌-ℤ◌}
use lib.Dec.{leb, ltb, eqb, lit<, lit≤}
use lib.Bits.{bit_and, and_mask}
use lib.Count.{count_leading_zeros}
use lib.Ieee.{Float, nan, to_bits}
use mir.Syntax.{w64}
use mir.Val.{SFits, to_z, of_z}
use mir.ValLaws.{to_z_pos, to_z-of_z}
use borrow.Author.Tests.{eq-eqb, ne_eqb, eqb-true, eqb-false, le-leb, lt-leb, lt-ltb, le-ltb, leb-true, leb-false}
use Rattle.integers.proofs.Difference.{ints, atoms}
use Rattle.floats.specs.Splitting.{bits_of, is_bad}
use Rattle.floats.specs.InnerKinds.{is_subnormal}
use Rattle.floats.specs.Fields.{sign_field, exp_field, fraction, pattern, bad_bits, subnormal_bits, moved_places}
use Rattle.floats.proofs.Fields.{fraction-lt, field_lt}
use Rattle.floats.proofs.PatternFactor.{subnormal-some}
use Rattle.floats.proofs.Subnormal.{moved-some, moved-few, moved-least, moved-most, places-counted}

pub subnormal-bits : (x : Float) → is_subnormal x ≡ true → subnormal_bits 11 52 (bits_of x) ≡ true
unfolding is_subnormal
subnormal-bits x h = h

module _ (b : ℕ) where
  abbrev E : ℕ
  E = exp_field 11 52 b

  abbrev F : ℕ
  F = fraction 52 b

  -- all but the sign
  abbrev pub low : ℕ
  low = bit_and b 0x7fffffffffffffff

  low-is : low ≡ E * 2 ^ 52 + F
  low-is = and_mask b 63 ∙ (let e : b % 2 ^ 63 ≡ b / 2 ^ 52 % 2 ^ 11 * 2 ^ 52 + b % 2 ^ 52 = omega arith in e)

  pub subnormal-test : (ltb 0 low && ltb low 0x10000000000000) ≡ subnormal_bits 11 52 b
  subnormal-test = ap (λ (n : ℕ). ltb 0 n && ltb n (2 ^ 52)) low-is ∙ go (eqb E 0) (eqb F 0) refl refl
    where
      small : F < 2 ^ 52
      small = fraction-lt 52 b

      tests : {p q : Bool} → eqb E 0 ≡ p → eqb F 0 ≡ q → (eqb E 0 && not (eqb F 0)) ≡ (p && not q)
      tests {p} {q} h k = ap (λ (t : Bool). t && not (eqb F 0)) h ∙ ap (λ (t : Bool). p && not t) k

      go : (p q : Bool) → eqb E 0 ≡ p → eqb F 0 ≡ q → (ltb 0 (E * 2 ^ 52 + F) && ltb (E * 2 ^ 52 + F) (2 ^ 52)) ≡ (eqb E 0 && not (eqb F 0))
      go true true p q =
          let e = eqb-true E 0 p in
          let f = eqb-true F 0 q in
          ap (λ (t : Bool). t && ltb (E * 2 ^ 52 + F) (2 ^ 52)) (le-ltb 0 (E * 2 ^ 52 + F) (omega arith)) ∙ sym (tests p q)
      go true false p q =
          let e = eqb-true E 0 p in
          let f = pos_of_ne-zero (eqb-false F 0 q) in
          ap (λ (t : Bool). t && ltb (E * 2 ^ 52 + F) (2 ^ 52)) (lt-ltb 0 (E * 2 ^ 52 + F) (omega arith))
          ∙ lt-ltb (E * 2 ^ 52 + F) (2 ^ 52) (omega (arith, small))
          ∙ sym (tests p q)
      go false q p r =
          let e = pos_of_ne-zero (eqb-false E 0 p) in
          ap (λ (t : Bool). ltb 0 (E * 2 ^ 52 + F) && t) (le-ltb (E * 2 ^ 52 + F) (2 ^ 52) (omega arith))
          ∙ and-false (ltb 0 (E * 2 ^ 52 + F))
          ∙ sym (tests p r)

  pub bad-test : (eqb low 0 || leb 0x7ff0000000000000 low) ≡ bad_bits 11 52 b
  unfolding bad_bits
  bad-test = ap (λ (n : ℕ). eqb n 0 || leb (2047 * 2 ^ 52) n) low-is ∙ go (eqb E 0) (eqb F 0) (eqb E 2047) refl refl refl
    where
      small : F < 2 ^ 52
      small = fraction-lt 52 b

      ends : {p q r : Bool} → eqb E 0 ≡ p → eqb F 0 ≡ q → eqb E 2047 ≡ r → ((eqb E 0 && eqb F 0) || eqb E 2047) ≡ ((p && q) || r)
      ends {p} {q} {r} a b c =
          ap (λ (t : Bool). (t && eqb F 0) || eqb E 2047) a ∙ ap (λ (t : Bool). (p && t) || eqb E 2047) b ∙ ap (λ (t : Bool). (p && q) || t) c

      below : (E ≡ 2047 → ⊥) → E * 2 ^ 52 + F < 2047 * 2 ^ 52
      below n = let l : E < 2047 = lt_of_le-ne (le_of_suc-le-suc (field_lt 11 52 b)) n in omega (arith, small)

      go : (p q r : Bool) → eqb E 0 ≡ p → eqb F 0 ≡ q → eqb E 2047 ≡ r
          → (eqb (E * 2 ^ 52 + F) 0 || leb (2047 * 2 ^ 52) (E * 2 ^ 52 + F)) ≡ ((eqb E 0 && eqb F 0) || eqb E 2047)
      go true true r a b c =
          ap (λ (t : Bool). t || leb (2047 * 2 ^ 52) (E * 2 ^ 52 + F)) (eq-eqb (E * 2 ^ 52 + F) 0 (let e = eqb-true E 0 a in let f = eqb-true F 0 b in omega arith))
          ∙ sym (ends a b c)
      go true false true a b c = absurd (let e = eqb-true E 0 a in let f = eqb-true E 2047 c in omega arith)
      go true false false a b c =
          let e = eqb-true E 0 a in
          let f = pos_of_ne-zero (eqb-false F 0 b) in
          ap (λ (t : Bool). t || leb (2047 * 2 ^ 52) (E * 2 ^ 52 + F)) (ne_eqb (E * 2 ^ 52 + F) 0 (λ (z : E * 2 ^ 52 + F ≡ 0). omega arith))
          ∙ lt-leb (2047 * 2 ^ 52) (E * 2 ^ 52 + F) (omega (arith, small))
          ∙ sym (ends a b c)
      go false q true a b c =
          let e = eqb-true E 2047 c in
          ap (λ (t : Bool). t || leb (2047 * 2 ^ 52) (E * 2 ^ 52 + F)) (ne_eqb (E * 2 ^ 52 + F) 0 (λ (z : E * 2 ^ 52 + F ≡ 0). omega arith))
          ∙ le-leb (2047 * 2 ^ 52) (E * 2 ^ 52 + F) (omega arith)
          ∙ sym (ends a b c)
      go false q false a b c =
          let e = pos_of_ne-zero (eqb-false E 0 a) in
          ap (λ (t : Bool). t || leb (2047 * 2 ^ 52) (E * 2 ^ 52 + F)) (ne_eqb (E * 2 ^ 52 + F) 0 (λ (z : E * 2 ^ 52 + F ≡ 0). omega arith))
          ∙ lt-leb (2047 * 2 ^ 52) (E * 2 ^ 52 + F) (below (eqb-false E 2047 c))
          ∙ sym (ends a b c)

  -- ---- a subnormal's
  module _ (h : subnormal_bits 11 52 b ≡ true) where
    some : 0 < F
    some = (subnormal-some 11 52 b h).1

    small : F < 2 ^ 52
    small = fraction-lt 52 b

    -- the significand, less its leading place
    pub led-small : F * 2 ^ moved_places 52 F - 2 ^ 52 < 2 ^ 52
    led-small = let l = moved-least 52 F some small in let m = moved-most 52 F some small in omega arith

    pub low-fraction : low ≡ F
    low-fraction = low-is ∙ (let e = (subnormal-some 11 52 b h).0 in let g : E * 2 ^ 52 + F ≡ F = omega arith in g)

    pub shift_is : count_leading_zeros 64 low - 11 ≡ moved_places 52 F
    shift_is = ap (λ (n : ℕ). count_leading_zeros 64 n - 11) low-fraction ∙ places-counted 52 F some small 64 (lit< tt)

    pub shift-counts : 11 ≤ count_leading_zeros 64 low
    shift-counts = omega (arith, shift_is, moved-some 52 F some small)

    pub shift-few : count_leading_zeros 64 low - 11 ≤ 52
    shift-few = subst (λ (n : ℕ). n ≤ 52) (sym shift_is) (moved-few 52 F some small)

    pub low-le : low ≤ b
    low-le = subst (λ (n : ℕ). n ≤ b) (sym (and_mask b 63)) (let l : b % 2 ^ 63 ≤ b = omega arith in l)

    -- the fraction, moved
    moved-is : low * 2 ^ (count_leading_zeros 64 low - 11) % 2 ^ 64 ≡ F * 2 ^ moved_places 52 F
    moved-is =
        ap (λ (n : ℕ). n * 2 ^ (count_leading_zeros 64 low - 11) % 2 ^ 64) low-fraction
        ∙ ap (λ (n : ℕ). F * 2 ^ n % 2 ^ 64) shift_is
        ∙ mod-eq_of_lt (lt_of_lt_of_le (moved-most 52 F some small) (lit≤ tt))

    abbrev pub moved : ℕ
    moved = low * 2 ^ (count_leading_zeros 64 low - 11) % 2 ^ 64 + 0x3fe0000000000000

    pub moved-fits : moved < 2 ^ 63
    moved-fits = let e = moved-is in let l = moved-most 52 F some small in omega arith

    module _ (B : b < 2 ^ (11 + 52) * 2) where
      pub sign-left : b - low ≡ cond (sign_field 11 52 b) (2 ^ 63) 0
      sign-left = ap (λ (n : ℕ). b - n) (and_mask b 63) ∙ go (sign_field 11 52 b) refl
        where
          go : (q : Bool) → sign_field 11 52 b ≡ q → b - b % 2 ^ 63 ≡ cond q (2 ^ 63) 0
          go true e = let l = leb-true (2 ^ 63) b e in omega arith
          go false e = let l = leb-false (2 ^ 63) b e in omega arith

      pub set-fits : b - low + moved < 2 ^ 64
      set-fits = subst (λ (n : ℕ). n + moved < 2 ^ 64) (sym sign-left) (go (sign_field 11 52 b))
        where
          go : (q : Bool) → cond q (2 ^ 63) 0 + moved < 2 ^ 64
          go true = omega (arith, moved-fits)
          go false = omega (arith, moved-fits)

      pub set_is : b - low + moved ≡ pattern 11 52 (sign_field 11 52 b) 1023 (F * 2 ^ moved_places 52 F - 2 ^ 52)
      set_is =
          ap (λ (n : ℕ). n + moved) sign-left
          ∙ (let e = moved-is in let l = moved-least 52 F some small in
          let g : cond (sign_field 11 52 b) (2 ^ 63) 0 + moved ≡ cond (sign_field 11 52 b) (2 ^ 63) 0 + 1023 * 2 ^ 52 + (F * 2 ^ moved_places 52 F - 2 ^ 52) = omega arith
          in g)

-- -1022 - k, as the machine has it, is 1 - (1023 + k)
lowered : (k : ℕ) → negsuc 1021 -ℤ pos k ≡ pos 1 -ℤ pos (1023 + k)
lowered = simp ints (simp atoms (omega arith))

module _ (k : ℕ) (few : k ≤ 52) where
  pub places-fit : SFits w64 (pos k)
  places-fit = record { sfits = lt_of_le_of_lt few (lit< tt) }

  places-to_z : to_z w64 k ≡ pos k
  places-to_z = to_z_pos w64 k places-fit.sfits

  lowered-fits : SFits w64 (negsuc 1021 -ℤ pos k)
  lowered-fits = fits-of k few
    where
      fits-of : (k : ℕ) → k ≤ 52 → SFits w64 (negsuc 1021 -ℤ pos k)
      fits-of = simp ints (simp atoms (omega arith))

  pub sub-fits : SFits w64 (negsuc 1021 -ℤ to_z w64 k)
  sub-fits = subst (λ (z : ℤ). SFits w64 (negsuc 1021 -ℤ z)) (sym places-to_z) lowered-fits

  pub lowered_is : to_z w64 (of_z w64 (negsuc 1021 -ℤ to_z w64 k)) ≡ pos 1 -ℤ pos (1023 + k)
  lowered_is = to_z-of_z w64 (negsuc 1021 -ℤ to_z w64 k) sub-fits ∙ ap (λ (z : ℤ). negsuc 1021 -ℤ z) places-to_z ∙ lowered k

-- ---- of a rate
pub subnormal-nan : (x : Float) → x ≡ nan → false ≡ is_subnormal x
unfolding is_subnormal to_bits
subnormal-nan x h = ap is_subnormal (sym h)

pub subnormal-is : (x : Float) → (ltb 0 (low (bits_of x)) && ltb (low (bits_of x)) 0x10000000000000) ≡ is_subnormal x
unfolding is_subnormal
subnormal-is x = subnormal-test (bits_of x)

pub bad-nan : (x : Float) → x ≡ nan → true ≡ is_bad x
unfolding is_bad bad_bits to_bits
bad-nan x h = ap is_bad (sym h)

pub bad-is : (x : Float) → (eqb (low (bits_of x)) 0 || leb 0x7ff0000000000000 (low (bits_of x))) ≡ is_bad x
unfolding is_bad
bad-is x = bad-test (bits_of x)
