-- The coding of signed numbers, as the code goes.
-- Assumes nothing.
use Prim.Native.Nat.{ℕ, ◌+◌, ◌-◌, ◌/◌, ◌%◌, ◌^◌, ◌<◌}
use mathlib.Core.Path.{◌≡◌, refl, sym, ◌∙◌, ap}
use mathlib.Core.Bool.{Bool, true, false, cond}
use native.Mathlib.Omega.{arith}
use native.Mathlib.Nat.{not-suc-le-zero}
use lib.IntN.{ℤ, pos, negsuc, nat_abs, ◌-ℤ◌}
use lib.Signed.{lt_z}
use mir.Val.{SFits}
use mir.Syntax.{w64}
use borrow.Author.Tests.{ltb-true, eq-eqb, ne_eqb}
use Rattle.integers.proofs.Difference.{ints, atoms}
use Rattle.jobs.specs.Words.{sent_of, signed_of}

pub sent-negative : (x : ℤ) → lt_z x (pos 0) ≡ true → nat_abs x + (nat_abs x - 1) ≡ sent_of x
unfolding sent_of
sent-negative (pos n) e = absurd (not-suc-le-zero (ltb-true n 0 e))
sent-negative (negsuc k) e = omega arith

pub sent-other : (x : ℤ) → lt_z x (pos 0) ≡ false → nat_abs x + nat_abs x ≡ sent_of x
unfolding sent_of
sent-other (pos n) e = refl
sent-other (negsuc k) e = cc

pub signed-even : (n : ℕ) → n % 2 ≡ 0 → pos (n / 2) ≡ signed_of n
unfolding signed_of
signed-even n h = sym (ap (λ (t : Bool). cond t (pos (n / 2)) (negsuc (n / 2))) (eq-eqb (n % 2) 0 h))

pub signed_odd : (n : ℕ) → (n % 2 ≡ 0 → ⊥) → pos 0 -ℤ pos (n / 2) -ℤ pos 1 ≡ signed_of n
unfolding signed_of
signed_odd n h = less_one (n / 2) ∙ sym (ap (λ (t : Bool). cond t (pos (n / 2)) (negsuc (n / 2))) (ne_eqb (n % 2) 0 h))
  where
    less_one : (k : ℕ) → pos 0 -ℤ pos k -ℤ pos 1 ≡ negsuc k
    less_one k = simp ints (simp atoms (omega arith))

pub odd-fits : (k : ℕ) → k < 2 ^ 63 → SFits w64 (pos 0 -ℤ pos k -ℤ pos 1)
odd-fits k h = simp ints (simp atoms (omega arith))
