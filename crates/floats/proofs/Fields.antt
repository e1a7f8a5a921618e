-- Bit fields: a pattern of three fields has those fields, and the value of a pattern is the kit's. Assumes nothing.
use mathlib.Core.Path.{◌≡◌, refl, sym, ap, ◌∙◌, subst}
use mathlib.Core.Bool.{Bool, true, false, cond}
use Prim.Native.Nat.{ℕ, zero, suc, ◌+◌, ◌-◌, ◌*◌, ◌/◌, ◌%◌, ◌^◌, ◌≤◌, ◌<◌}
use native.Mathlib.Nat.{ne_of_lt, two-pow-succ, lt_of_not-le, le_of_eq, le_of_lt, lt_of_lt_of_le, mul_comm, mod-lt}
use native.Mathlib.Omega.{arith}
use lib.Dec.{leb, eqb}
use lib.Pow.{pow-add, pow_pos, pow_mono, field}
use lib.Arith.{digits_lt, digits_div, digits_mod}
use lib.Ieee.{nan, inf, Format, prec, emax, low, hid, ones, top, odd, units, of_fields, of_bits}
use lib.Ieee.Fits.{odd-fits}
use lib.Ieee.Exact.{odd_sign}
use borrow.Author.Tests.{eqb-false, ne_eqb, le-leb, lt-leb, lt-ltb}
use Rattle.floats.specs.Rounding.{delivered}
use Rattle.floats.specs.Product.{bias}
use Rattle.floats.specs.Fields.{sign_field, exp_field, fraction, pattern, of_parts, value_of}
use Rattle.floats.proofs.Unique.{value-unique}
use Rattle.floats.proofs.Bridge.{delivered-units, room}

-- ---- the bias: 2^w is 2 × bias + 2
pub bias-next : (w : ℕ) → 0 < w → 2 ^ w ≡ 2 * bias w + 2
bias-next w h =
    ap (λ (x : ℕ). 2 ^ x) (let e : w ≡ suc (w - 1) = omega arith in e)
    ∙ two-pow-succ (w - 1)
    ∙ (let p : 0 < 2 ^ (w - 1) = pow_pos (w - 1) in omega arith)

-- ---- the fields of a pattern
module _ (w t : ℕ) (s : Bool) (E T' : ℕ) (e : E < 2 ^ w) (f : T' < 2 ^ t) where
  body : E * 2 ^ t + T' < 2 ^ (w + t)
  body = lt_of_lt_of_le (digits_lt e f) (le_of_eq (sym (pow-add 2 w t)))

  pub sign-is : sign_field w t (pattern w t s E T') ≡ s
  sign-is = go s
    where
      go : (s : Bool) → leb (2 ^ (w + t)) (cond s (2 ^ (w + t)) 0 + E * 2 ^ t + T') ≡ s
      go true = le-leb (2 ^ (w + t)) (2 ^ (w + t) + E * 2 ^ t + T') (omega arith)
      go false = lt-leb (2 ^ (w + t)) (0 + E * 2 ^ t + T') (omega (arith, body))

  -- the sign is a multiple of 2^w above the exponent field
  high : ℕ
  high = cond s 1 0 * 2 ^ w + E

  pub pattern-high : pattern w t s E T' ≡ (cond s 1 0 * 2 ^ w + E) * 2 ^ t + T'
  pattern-high = go s
    where
      go : (s : Bool) → cond s (2 ^ (w + t)) 0 + E * 2 ^ t + T' ≡ (cond s 1 0 * 2 ^ w + E) * 2 ^ t + T'
      go true = omega (arith, pow-add 2 w t)
      go false = omega arith

  pub exp-is : exp_field w t (pattern w t s E T') ≡ E
  exp-is = ap (λ (x : ℕ). x / 2 ^ t % 2 ^ w) pattern-high ∙ ap (λ (x : ℕ). x % 2 ^ w) (digits_div (cond s 1 0 * 2 ^ w + E) f) ∙ digits_mod (cond s 1 0) e

  pub fraction-is : fraction t (pattern w t s E T') ≡ T'
  fraction-is = ap (λ (x : ℕ). x % 2 ^ t) pattern-high ∙ digits_mod (cond s 1 0 * 2 ^ w + E) f

  pub pattern_lt : pattern w t s E T' < 2 ^ (w + t) * 2
  pattern_lt = go s
    where
      go : (s : Bool) → cond s (2 ^ (w + t)) 0 + E * 2 ^ t + T' < 2 ^ (w + t) * 2
      go true = omega (arith, body)
      go false = omega (arith, body)

pub fraction-lt : (t b : ℕ) → fraction t b < 2 ^ t
fraction-lt t b = mod-lt b (pow_pos t)

pub field_lt : (w t b : ℕ) → exp_field w t b < 2 ^ w
field_lt w t b = mod-lt (b / 2 ^ t) (pow_pos w)

-- the value of a pattern whose exponent field suc r is not all ones
pub pattern-value : (w t : ℕ) (s : Bool) (r T' : ℕ) → suc r < 2 ^ w - 1 → T' < 2 ^ t
    → value_of w t (pattern w t s (suc r) T') ≡ delivered (t + 1) (bias w) s (2 ^ t + T') r
unfolding value_of of_parts
pattern-value w t s r T' h k =
    let x = suc r in
    let H : x < 2 ^ w = omega arith in
    ap (λ (q : Bool). of_parts w t q (exp_field w t (pattern w t s x T')) (fraction t (pattern w t s x T'))) (sign-is w t s x T' H k)
    ∙ ap (λ (q : ℕ). of_parts w t s q (fraction t (pattern w t s x T'))) (exp-is w t s x T' H k)
    ∙ ap (λ (q : ℕ). of_parts w t s x q) (fraction-is w t s x T' H k)
    ∙ ap (λ (q : Bool). cond q (cond (eqb T' 0) (inf s) nan) (delivered (t + 1) (bias w) s (2 ^ t + T') r)) (ne_eqb x (2 ^ w - 1) (ne_of_lt h))

-- ---- the value of a pattern is the kit's, at each of its formats
module _ (F : Format) (w t : ℕ) (P : prec F ≡ t + 1) (E : emax F ≡ bias w) (W : 0 < w) where
  pub hid-is : hid F ≡ 2 ^ t
  hid-is = ap (λ (p : ℕ). 2 ^ (p - 1)) P ∙ ap (λ (x : ℕ). 2 ^ x) (omega arith)

  pub ones_is : ones F ≡ 2 ^ w - 1
  ones_is = ap (λ (x : ℕ). 2 * x + 1) E ∙ (let b = bias-next w W in omega arith)

  pub top-is : top F ≡ 2 ^ (w + t)
  top-is =
      ap (λ (x : ℕ). x * suc (ones F)) hid-is
      ∙ ap (λ (x : ℕ). 2 ^ t * suc x) ones_is
      ∙ ap (λ (x : ℕ). 2 ^ t * x) (let h : 0 < 2 ^ w = pow_pos w in let e : suc (2 ^ w - 1) ≡ 2 ^ w = omega arith in e)
      ∙ mul_comm (2 ^ t) (2 ^ w)
      ∙ sym (pow-add 2 w t)

  -- what the kit writes with at most p digits is what `delivered` writes
  odd-delivered : (s : Bool) (n j : ℕ) → n < 2 ^ prec F → n * 2 ^ j < 2 ^ (low F + suc (emax F)) → odd (prec F) s n j (low F) ≡ delivered (t + 1) (bias w) s n j
  unfolding units
  odd-delivered s n j a b =
      value-unique F (odd (prec F) s n j (low F)) (odd (suc (prec F)) s n j (low F)) s (n * 2 ^ j) (2 ^ low F) (pow_pos (low F))
      (odd-fits F (prec F) s n j a (le_of_lt a) b)
      (odd-fits F (suc (prec F)) s n j (lt_of_lt_of_le a (pow_mono (omega arith))) (le_of_lt a) b)
      (odd_sign (prec F) s n j (low F))
      (odd_sign (suc (prec F)) s n j (low F))
      ∙ sym (ap (λ (q : Bool). cond q (odd (suc (prec F)) s n j (low F)) (inf s)) (lt-ltb (n * 2 ^ j) (2 ^ (low F + suc (emax F))) b))
      ∙ sym (delivered-units F w t P E s n j)

  parts_are : (s : Bool) (x T' : ℕ) → 0 < bias w → x < 2 ^ w → T' < 2 ^ t → of_fields F s x T' ≡ of_parts w t s x T'
  unfolding of_fields of_parts
  parts_are s zero T' B e f = odd-delivered s T' 0 (subst (λ (p : ℕ). T' < 2 ^ p) (sym P) small) (room F w t P E T' 0 small (omega arith))
    where
      small : T' < 2 ^ (t + 1)
      small = lt_of_lt_of_le f (pow_mono (omega arith))
  parts_are s (suc x) T' B e f =
      ap (λ (o : ℕ). cond (eqb (suc x) o) (cond (eqb T' 0) (inf s) nan) (odd (prec F) s (hid F + T') x (low F))) ones_is
      ∙ ap (λ (h : ℕ). cond (eqb (suc x) (2 ^ w - 1)) (cond (eqb T' 0) (inf s) nan) (odd (prec F) s (h + T') x (low F))) hid-is
      ∙ go (eqb (suc x) (2 ^ w - 1)) refl
    where
      small : 2 ^ t + T' < 2 ^ (t + 1)
      small = omega (arith, pow-add 2 t 1)

      under : (P c : ℕ) → (suc x ≡ P - 1 → ⊥) → suc x < P → P ≡ 2 * c + 2 → x < 2 * c
      under P c n l q = lt_of_not-le (λ (g : 2 * c ≤ x). n (omega arith))

      go : (q : Bool) → eqb (suc x) (2 ^ w - 1) ≡ q
          → cond q (cond (eqb T' 0) (inf s) nan) (odd (prec F) s (2 ^ t + T') x (low F))
          ≡ cond q (cond (eqb T' 0) (inf s) nan) (delivered (t + 1) (bias w) s (2 ^ t + T') x)
      go true h = refl
      go false h =
          odd-delivered s (2 ^ t + T') x (subst (λ (p : ℕ). 2 ^ t + T' < 2 ^ p) (sym P) small)
          (room F w t P E (2 ^ t + T') x small (under (2 ^ w) (bias w) (eqb-false (suc x) (2 ^ w - 1) h) e (bias-next w W)))

  pub value-is : (b : ℕ) → 0 < bias w → of_bits F b ≡ value_of w t b
  unfolding of_bits value_of
  value-is b B =
      ap (λ (x : ℕ). of_fields F (leb x b) (b % x / hid F) (b % hid F)) top-is
      ∙ ap (λ (x : ℕ). of_fields F (leb (2 ^ (w + t)) b) (b % 2 ^ (w + t) / x) (b % x)) hid-is
      ∙ ap (λ (x : ℕ). of_fields F (leb (2 ^ (w + t)) b) x (b % 2 ^ t)) (field b w t)
      ∙ parts_are (sign_field w t b) (exp_field w t b) (fraction t b) B (field_lt w t b) (fraction-lt t b)
