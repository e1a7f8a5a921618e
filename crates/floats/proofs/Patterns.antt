-- A power of two by its pattern: the exponent field alone. Assumes nothing.
use mathlib.Core.Path.{◌≡◌, refl, sym, ap, ◌∙◌, subst}
use mathlib.Core.Bool.{Bool, true, false, cond, not, ◌&&◌}
use Prim.Native.Nat.{ℕ, suc, ◌+◌, ◌-◌, ◌*◌, ◌/◌, ◌%◌, ◌^◌, ◌≤◌, ◌<◌}
use native.Mathlib.Omega.{arith}
use lib.IntN.{pos, negsuc}
use lib.Dec.{T, leb, eqb}
use lib.Ieee.{inf, fin, binary64, minus, odd, of_bits, of_fields, nan_bits}
use borrow.Author.Tests.{lt-leb, ne_eqb, leb-true, leb-false}
use Rattle.integers.proofs.Difference.{diff, at-pos, at-neg}

pub minus_is : (a b : ℕ) → minus a b ≡ diff a b
minus_is a b = go (leb b a) refl
  where
    go : (t : Bool) → leb b a ≡ t → cond t (pos (a - b)) (negsuc (b - suc a)) ≡ diff a b
    go true h = sym (at-pos a b (a - b) (let l : b ≤ a = leb-true b a h in omega arith))
    go false h = sym (at-neg a b (b - suc a) (let l : a < b = leb-false b a h in omega arith))

-- ---- the fields of (x + 1) × 2^52
module _ (x : ℕ) (h : x < 2046) where
  abbrev bits : ℕ
  bits = suc x * 2 ^ 52

  plus : leb (2 ^ 63) bits ≡ false
  plus = lt-leb (2 ^ 63) bits (omega arith)

  field : bits % 2 ^ 63 / 2 ^ 52 ≡ suc x
  field = omega arith

  none : bits % 2 ^ 52 ≡ 0
  none = omega arith

  not-all : eqb (suc x) 2047 ≡ false
  not-all = ne_eqb (suc x) 2047 (λ (z : suc x ≡ 2047). omega arith)

  fields : of_fields binary64 false (suc x) 0 ≡ fin false 1 (minus (x + 52) 1074)
  unfolding of_fields
  fields = ap (λ (t : Bool). cond t (inf false) (odd 53 false (2 ^ 52) x 1074)) not-all

  pub power-bits : of_bits binary64 bits ≡ fin false 1 (minus (x + 52) 1074)
  unfolding of_bits
  power-bits =
      ap (λ (s : Bool). of_fields binary64 s (bits % 2 ^ 63 / 2 ^ 52) (bits % 2 ^ 52)) plus
      ∙ ap (λ (y : ℕ). of_fields binary64 false y (bits % 2 ^ 52)) field
      ∙ ap (of_fields binary64 false (suc x)) none
      ∙ fields

  pub power-number : T (not (nan_bits binary64 bits))
  unfolding nan_bits
  power-number = subst (λ (t : Bool). T (not (t && not (eqb (bits % 2 ^ 52) 0)))) (sym (ap (λ (y : ℕ). eqb y 2047) field ∙ not-all)) tt

-- ---- 2^-(k + 1), by the field n
module _ (n k : ℕ) (e : n + suc k ≡ 1023) (some : 1 ≤ n) where
  shifted : n * 2 ^ 52 % 2 ^ 64 ≡ suc (n - 1) * 2 ^ 52
  shifted = omega arith

  pub power_below : of_bits binary64 (n * 2 ^ 52 % 2 ^ 64) ≡ fin false 1 (negsuc k)
  power_below =
      ap (of_bits binary64) shifted
      ∙ power-bits (n - 1) (omega arith)
      ∙ ap (fin false 1) (minus_is (n - 1 + 52) 1074 ∙ at-neg (n - 1 + 52) 1074 k (omega arith))

  pub below-number : T (not (nan_bits binary64 (n * 2 ^ 52 % 2 ^ 64)))
  below-number = subst (λ (y : ℕ). T (not (nan_bits binary64 y))) (sym shifted) (power-number (n - 1) (omega arith))
