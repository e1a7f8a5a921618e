-- What the machine's steps on i64 ask and give, over plain integers.
-- Assumes nothing.
use Prim.Native.Nat.{ℕ, suc, ◌+◌, ◌*◌, ◌-◌, ◌^◌, ◌≤◌, ◌<◌}
use mathlib.Core.Path.{◌≡◌, refl, sym, ◌∙◌, ap}
use mathlib.Core.Bool.{Bool, true, false, cond}
use native.Mathlib.Omega.{arith}
use native.Mathlib.Nat.{not-suc-le-zero}
use lib.Dec.{ltb}
use lib.IntN.{ℤ, pos, negsuc, neg_ℤ, ◌+ℤ◌, ◌-ℤ◌, ◌*ℤ◌, nat_abs, +ℤ_idl}
use lib.Signed.{lt_z, mag}
use mir.Val.{SFits, to_z, of_z}
use mir.Facts.{to_z-of_z}
use mir.Syntax.{w64}
use borrow.Author.Tests.{lt-ltb, le-ltb, ltb-true, ltb-false, eq-eqb, eqb-true}
use Rattle.std.specs.Prelude.{Option, Some, None, SomeIff}
use Rattle.std.proofs.lemmas.Option.{cond_some, none-some}
use Rattle.integers.specs.Integers.{fits_i64, eq_z}
use Rattle.integers.specs.InnerChecked.{narrow_u64, narrow_i64}
use Rattle.integers.proofs.Difference.{ints, atoms}

-- one step towards 0 from a negative number
pub up_fits : (x : ℤ) → SFits w64 x → lt_z x (pos 0) ≡ true → SFits w64 (x +ℤ pos 1)
up_fits x = simp ints (simp atoms (omega arith))

pub turned-fits : (x : ℤ) → SFits w64 x → lt_z x (pos 0) ≡ true → SFits w64 (pos 0 -ℤ (x +ℤ pos 1))
turned-fits x = simp ints (simp atoms (omega arith))

pub turned : (x : ℤ) → lt_z x (pos 0) ≡ true → pos 0 -ℤ (x +ℤ pos 1) ≡ pos (nat_abs x - 1)
turned (pos n) e = absurd (not-suc-le-zero (ltb-true n 0 e))
turned (negsuc n) e = let h : suc n - 1 ≡ n = omega arith in rw h (simp ints (simp atoms (omega arith)))

pub nat_abs-pos : (x : ℤ) → lt_z x (pos 0) ≡ true → nat_abs x - 1 + 1 ≡ nat_abs x
nat_abs-pos (pos n) e = let h : n < 0 = ltb-true n 0 e in omega arith
nat_abs-pos (negsuc n) e = omega arith

pub nonneg_pos : (x : ℤ) → lt_z x (pos 0) ≡ false → x ≡ pos (nat_abs x)
nonneg_pos (pos n) e = refl
nonneg_pos (negsuc n) e = cc

pub nat_abs-fits : (x : ℤ) → SFits w64 x → nat_abs x ≤ 2 ^ 63
nat_abs-fits (pos n) f = let h = f.sfits in omega arith
nat_abs-fits (negsuc n) f = let h = f.sfits in omega arith

-- ---- what a checked step answers
pub narrow_u64-yes : (n : ℕ) → n < 2 ^ 64 → narrow_u64 n ≡ Some n
unfolding narrow_u64
narrow_u64-yes n h = ap (λ (b : Bool). cond b (Some n) None) (lt-ltb n (2 ^ 64) h)

pub narrow_u64-no : (n : ℕ) → 2 ^ 64 ≤ n → narrow_u64 n ≡ None
unfolding narrow_u64
narrow_u64-no n h = ap (λ (b : Bool). cond b (Some n) None) (le-ltb n (2 ^ 64) h)

-- as the checked product of std answers
pub narrow_u64-is : (n : ℕ) (r : Option ℕ) → SomeIff r (n < 2 ^ 64) n → r ≡ narrow_u64 n
narrow_u64-is n None h = sym (narrow_u64-no n (over h))
  where
    over : (n < 2 ^ 64 → ⊥) → 2 ^ 64 ≤ n
    over k = omega arith
narrow_u64-is n (Some x) h = ap Some h.1 ∙ sym (narrow_u64-yes n h.0)

pub narrow_i64-yes : (z : ℤ) → SFits w64 z → narrow_i64 z ≡ Some z
unfolding narrow_i64 fits_i64
narrow_i64-yes z f = ap (λ (b : Bool). cond b (Some z) None) (lt-ltb (mag z) (2 ^ 63) f.sfits)

pub narrow_i64-no : (z : ℤ) → (SFits w64 z → ⊥) → narrow_i64 z ≡ None
unfolding narrow_i64 fits_i64
narrow_i64-no z f = ap (λ (b : Bool). cond b (Some z) None) (le-ltb (mag z) (2 ^ 63) (over (λ h. f (record { sfits = h }))))
  where
    over : (mag z < 2 ^ 63 → ⊥) → 2 ^ 63 ≤ mag z
    over n = omega arith

pub narrow_i64-is : (z : ℤ) (r : Option ℤ) → SomeIff r (SFits w64 z) z → r ≡ narrow_i64 z
narrow_i64-is z None h = sym (narrow_i64-no z h)
narrow_i64-is z (Some x) h = ap Some h.1 ∙ sym (narrow_i64-yes z h.0)

-- the product's sign and magnitude
pub times-neg : (a : ℤ) (n : ℕ) → lt_z a (pos 0) ≡ true → a *ℤ pos n ≡ pos 0 -ℤ pos (nat_abs a * n)
times-neg (pos k) n e = absurd (not-suc-le-zero (ltb-true k 0 e))
times-neg (negsuc k) n e = sym (+ℤ_idl (neg_ℤ (pos (suc k * n))))

pub times-pos : (a : ℤ) (n : ℕ) → lt_z a (pos 0) ≡ false → a *ℤ pos n ≡ pos (nat_abs a * n)
times-pos (pos k) n e = refl
times-pos (negsuc k) n e = cc

pub negated_fits : (p : ℕ) → p ≤ 2 ^ 63 → SFits w64 (pos 0 -ℤ pos p)
negated_fits p h = simp ints (simp atoms (omega arith))

pub negated-fits-only : (p : ℕ) → SFits w64 (pos 0 -ℤ pos p) → p ≤ 2 ^ 63
negated-fits-only p = simp ints (simp atoms (omega arith))

pub pos-fits : (p : ℕ) → p < 2 ^ 63 → SFits w64 (pos p)
pos-fits p h = record { sfits = h }

-- a u64 read as an i64
pub to_z-small : (p : ℕ) → p < 2 ^ 63 → to_z w64 p ≡ pos p
to_z-small p h = to_z-of_z {w = w64} {z = pos p} (record { sfits = h })

-- what an answer of `narrow_u64` says
pub narrow_u64-some : (n x : ℕ) → narrow_u64 n ≡ Some x → (x ≡ n) × (n < 2 ^ 64)
unfolding narrow_u64
narrow_u64-some n x e = let c = cond_some (ltb n (2 ^ 64)) n x e in (sym c.1, ltb-true n (2 ^ 64) c.0)

pub narrow_u64-none : (n : ℕ) → narrow_u64 n ≡ None → 2 ^ 64 ≤ n
narrow_u64-none n e = go (ltb n (2 ^ 64)) refl
  where
    go : (b : Bool) → ltb n (2 ^ 64) ≡ b → 2 ^ 64 ≤ n
    go true t = absurd (none-some n (sym e ∙ narrow_u64-yes n (ltb-true n (2 ^ 64) t)))
    go false t = ltb-false n (2 ^ 64) t

-- ---- a signed product, by its magnitude p
module _ (a : ℤ) (n p : ℕ) (e : p ≡ nat_abs a * n) where
  pub signed-neg : lt_z a (pos 0) ≡ true → p < 2 ^ 63 → narrow_i64 (a *ℤ pos n) ≡ Some (pos 0 -ℤ pos p)
  signed-neg l h = rw (times-neg a n l, ← e) (narrow_i64-yes (pos 0 -ℤ pos p) (negated_fits p (omega arith)))

  pub signed-pos : lt_z a (pos 0) ≡ false → p < 2 ^ 63 → narrow_i64 (a *ℤ pos n) ≡ Some (pos p)
  signed-pos l h = rw (times-pos a n l, ← e) (narrow_i64-yes (pos p) (pos-fits p h))

  pub signed-least : lt_z a (pos 0) ≡ true → p ≡ 2 ^ 63 → narrow_i64 (a *ℤ pos n) ≡ Some (negsuc (2 ^ 63 - 1))
  signed-least l h = rw (times-neg a n l, ← e, h) (narrow_i64-yes (negsuc (2 ^ 63 - 1)) (record { sfits = omega arith }))

  pub signed-over : lt_z a (pos 0) ≡ true → 2 ^ 63 < p → narrow_i64 (a *ℤ pos n) ≡ None
  signed-over l h = rw (times-neg a n l, ← e) (narrow_i64-no (pos 0 -ℤ pos p) (λ f. clash (negated-fits-only p f)))
    where
      clash : p ≤ 2 ^ 63 → ⊥
      clash k = omega arith

  pub unsigned-over : lt_z a (pos 0) ≡ false → 2 ^ 63 ≤ p → narrow_i64 (a *ℤ pos n) ≡ None
  unsigned-over l h = rw (times-pos a n l, ← e) (narrow_i64-no (pos p) (λ f. clash f.sfits))
    where
      clash : p < 2 ^ 63 → ⊥
      clash k = omega arith

  pub far-over : 2 ^ 64 ≤ p → narrow_i64 (a *ℤ pos n) ≡ None
  far-over h = go (lt_z a (pos 0)) refl
    where
      go : (b : Bool) → lt_z a (pos 0) ≡ b → narrow_i64 (a *ℤ pos n) ≡ None
      go true l = signed-over l (omega arith)
      go false l = unsigned-over l (omega arith)

-- ---- equality
pub eq_z-refl : (a : ℤ) → eq_z a a ≡ true
unfolding eq_z
eq_z-refl (pos n) = eq-eqb n n refl
eq_z-refl (negsuc n) = eq-eqb n n refl

pub eq_z-true : (a b : ℤ) → eq_z a b ≡ true → a ≡ b
unfolding eq_z
eq_z-true (pos a) (pos b) e = ap pos (eqb-true a b e)
eq_z-true (pos a) (negsuc b) e = cc
eq_z-true (negsuc a) (pos b) e = cc
eq_z-true (negsuc a) (negsuc b) e = ap negsuc (eqb-true a b e)

pub ne-eq_z : (a b : ℤ) → (a ≡ b → ⊥) → eq_z a b ≡ false
ne-eq_z a b n = go (eq_z a b) refl
  where
    go : (t : Bool) → eq_z a b ≡ t → eq_z a b ≡ false
    go true e = absurd (n (eq_z-true a b e))
    go false e = e

-- the machine compares two i64 by their bits
pub same_bits : (a b : ℤ) → SFits w64 a → SFits w64 b → of_z w64 a ≡ of_z w64 b → a ≡ b
same_bits a b f g e = sym (to_z-of_z f) ∙ ap (to_z w64) e ∙ to_z-of_z g

-- what an answer of `narrow` says
pub narrow_i64-fits : (z : ℤ) → fits_i64 z ≡ true → SFits w64 z
unfolding fits_i64
narrow_i64-fits z e = record { sfits = ltb-true (mag z) (2 ^ 63) e }

pub fits-test : (z : ℤ) → SFits w64 z → fits_i64 z ≡ true
unfolding fits_i64
fits-test z f = lt-ltb (mag z) (2 ^ 63) f.sfits

pub narrow_i64-some : (z x : ℤ) → narrow_i64 z ≡ Some x → (x ≡ z) × (fits_i64 z ≡ true)
unfolding narrow_i64
narrow_i64-some z x e = let c = cond_some (fits_i64 z) z x e in (sym c.1, c.0)

pub narrow_i64-none : (z : ℤ) → narrow_i64 z ≡ None → fits_i64 z ≡ false
unfolding narrow_i64
narrow_i64-none z e = go (fits_i64 z) refl
  where
    go : (b : Bool) → fits_i64 z ≡ b → fits_i64 z ≡ false
    go true t = absurd (none-some z (sym e ∙ ap (λ (b : Bool). cond b (Some z) None) t))
    go false t = t
