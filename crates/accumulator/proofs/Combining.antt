-- Joining without refusals: what the code works out is `combined`. Assumes nothing.
use mathlib.Core.Path.{◌≡◌, refl, sym, ap, ◌∙◌, subst}
use mathlib.Core.Bool.{Bool, true, false, cond, ◌||◌}
use Prim.Native.Nat.{◌^◌, ◌≤◌}
use lib.IntN.{ℤ, pos, nat_abs, ◌+ℤ◌}
use lib.Ieee.{Float, mul, of_bits, binary64}
use mir.Syntax.{w64}
use mir.Val.{to_z, of_z}
use Rattle.floats.specs.Product.{product_of}
use Rattle.floats.specs.Magnitude.{two_or_more}
use Rattle.floats.proofs.Product.{mul-binary64}
use Rattle.accumulator.specs.declared.StableProductFloatAcc.{StableProductFloatAcc}
use Rattle.accumulator.specs.Joining.{half, multiplied, combined}
use Rattle.accumulator.proofs.Exponents.{exact, sum, sum-exact, more-exact}

pub acc-same : (m m' : Float) (e e' : ℤ) (q q' : Bool) → m ≡ m' → e ≡ e' → q ≡ q'
    → ◌≡◌ {A = StableProductFloatAcc} (record { m = m; e = e; bad = q }) (record { m = m'; e = e'; bad = q' })
acc-same m m' e e' q q' a b c = cc

-- ---- the cases of `combined`
pub combined-bad : (a b : StableProductFloatAcc) → (a.bad || b.bad) ≡ true → combined a b ≡ record { m = a.m; e = a.e; bad = true }
unfolding combined
combined-bad a b h = ap (λ (t : Bool). cond t (record { m = a.m; e = a.e; bad = true }) (multiplied a b)) h

pub combined-good : (a b : StableProductFloatAcc) → (a.bad || b.bad) ≡ false → combined a b ≡ multiplied a b
unfolding combined
combined-good a b h = ap (λ (t : Bool). cond t (record { m = a.m; e = a.e; bad = true }) (multiplied a b)) h

module _ (a b : StableProductFloatAcc) where
  abbrev raw-product : Float
  raw-product = product_of 11 52 a.m b.m

  abbrev halved-m : StableProductFloatAcc
  halved-m = record { m = product_of 11 52 raw-product half; e = a.e +ℤ b.e +ℤ pos 1; bad = false }

  abbrev whole : StableProductFloatAcc
  whole = record { m = raw-product; e = a.e +ℤ b.e; bad = false }

  pub multiplied-two : two_or_more raw-product ≡ true → multiplied a b ≡ halved-m
  unfolding multiplied
  multiplied-two h = ap (λ (t : Bool). cond t halved-m whole) h

  pub multiplied-less : two_or_more raw-product ≡ false → multiplied a b ≡ whole
  unfolding multiplied
  multiplied-less h = ap (λ (t : Bool). cond t halved-m whole) h

half-bits : of_bits binary64 4602678819172646912 ≡ half
unfolding of_bits
half-bits = refl

-- ---- the three ways of the code
module _ (a b : StableProductFloatAcc) (hx : nat_abs a.e ≤ 2 ^ 61) (hy : nat_abs b.e ≤ 2 ^ 61) where
  pub code-bad : (a.bad || b.bad) ≡ true → ◌≡◌ {A = StableProductFloatAcc} (record { m = a.m; e = to_z w64 (of_z w64 a.e); bad = true }) (combined a b)
  code-bad h = acc-same a.m a.m (to_z w64 (of_z w64 a.e)) a.e true true refl (exact a.e b.e hx hy a.e hx) refl ∙ sym (combined-bad a b h)

  -- the product of the floats, as the machine has it
  abbrev raw : Float
  raw = mul binary64 a.m b.m

  raw-is : raw ≡ product_of 11 52 a.m b.m
  raw-is = mul-binary64 a.m b.m

  pub code-two : (a.bad || b.bad) ≡ false → two_or_more raw ≡ true
      → ◌≡◌ {A = StableProductFloatAcc}
      (record {
        m = mul binary64 raw (of_bits binary64 4602678819172646912);
        e = to_z w64 (of_z w64 (to_z w64 (of_z w64 (sum a.e b.e hx hy)) +ℤ pos 1));
        bad = false;
      }) (combined a b)
  code-two h t =
      let m = product_of 11 52 a.m b.m in
      acc-same (mul binary64 raw (of_bits binary64 4602678819172646912)) (product_of 11 52 m half)
      (to_z w64 (of_z w64 (to_z w64 (of_z w64 (sum a.e b.e hx hy)) +ℤ pos 1))) (a.e +ℤ b.e +ℤ pos 1) false false
      (mul-binary64 raw (of_bits binary64 4602678819172646912)
      ∙ ap (λ (x : Float). product_of 11 52 x (of_bits binary64 4602678819172646912)) raw-is
      ∙ ap (product_of 11 52 m) half-bits)
      (more-exact a.e b.e hx hy)
      refl
      ∙ sym (combined-good a b h ∙ multiplied-two a b (subst (λ (x : Float). two_or_more x ≡ true) raw-is t))

  pub code-less : (a.bad || b.bad) ≡ false → two_or_more raw ≡ false
      → ◌≡◌ {A = StableProductFloatAcc} (record { m = raw; e = to_z w64 (of_z w64 (sum a.e b.e hx hy)); bad = false }) (combined a b)
  code-less h t =
      acc-same raw (product_of 11 52 a.m b.m) (to_z w64 (of_z w64 (sum a.e b.e hx hy))) (a.e +ℤ b.e) false false raw-is
      (sum-exact a.e b.e hx hy) refl
      ∙ sym (combined-good a b h ∙ multiplied-less a b (subst (λ (x : Float). two_or_more x ≡ false) raw-is t))
