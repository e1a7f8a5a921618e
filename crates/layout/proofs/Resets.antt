-- Laws of rule L3: when an axis has a reset.
-- Assumes nothing.
use Prim.Native.Nat.{ℕ, ◌-◌, ◌^◌, ◌≤◌, ◌<◌}
use mathlib.Core.Path.{◌≡◌, refl, sym, ◌∙◌, ap}
use mathlib.Core.Bool.{Bool, true, false, cond, ◌&&◌, and-eq-true_iff}
use lib.IntN.{ℤ, pos, neg_ℤ, ◌*ℤ◌, ◌-ℤ◌, +ℤ_idl}
use mir.Val.{SFits}
use mir.Syntax.{w64}
use borrow.Author.Tests.{lt-ltb, le-ltb}
use Rattle.std.specs.Prelude.{Some, None}
use Rattle.std.proofs.lemmas.Option.{cond_some, none-some}
use Rattle.layout.specs.declared.axis.ReduceOuterAxis.{ReduceOuterAxis}
use Rattle.integers.specs.Integers.{fits_i64}
use Rattle.integers.specs.InnerChecked.{narrow_i64}
use Rattle.integers.proofs.Machine.{narrow_i64-fits}
use Rattle.layout.specs.Axes.{span, axis_of, reset_fits}

fits_below : (n : ℕ) → n < 2 ^ 63 → fits_i64 (pos n) ≡ true
unfolding fits_i64
fits_below n h = lt-ltb n (2 ^ 63) h

fits-large : (n : ℕ) → 2 ^ 63 ≤ n → fits_i64 (pos n) ≡ false
unfolding fits_i64
fits-large n h = le-ltb n (2 ^ 63) h

-- a size too large has no reset, whatever the stride
pub reset-large : (n : ℕ) (s : ℤ) → 2 ^ 63 ≤ n - 1 → reset_fits n s ≡ false
unfolding reset_fits
reset-large n s h = ap (λ (b : Bool). b && fits_i64 (span n s) && fits_i64 (neg_ℤ (span n s))) (fits-large (n - 1) h)

module _ (n : ℕ) (s : ℤ) (h : n - 1 < 2 ^ 63) where
  small : reset_fits n s ≡ fits_i64 (span n s) && fits_i64 (neg_ℤ (span n s))
  unfolding reset_fits
  small = ap (λ (b : Bool). b && fits_i64 (span n s) && fits_i64 (neg_ℤ (span n s))) (fits_below (n - 1) h)

  pub reset-no-span : fits_i64 (s *ℤ pos (n - 1)) ≡ false → reset_fits n s ≡ false
  unfolding span
  reset-no-span k = small ∙ ap (λ (b : Bool). b && fits_i64 (neg_ℤ (s *ℤ pos (n - 1)))) k

  -- where the span fits, what is left to check is its opposite
  pub reset-span : fits_i64 (s *ℤ pos (n - 1)) ≡ true → reset_fits n s ≡ fits_i64 (neg_ℤ (s *ℤ pos (n - 1)))
  unfolding span
  reset-span k = small ∙ ap (λ (b : Bool). b && fits_i64 (neg_ℤ (s *ℤ pos (n - 1)))) k

  pub reset-is : fits_i64 (s *ℤ pos (n - 1)) ≡ true
      → narrow_i64 (neg_ℤ (s *ℤ pos (n - 1))) ≡ cond (reset_fits n s) (Some (neg_ℤ (span n s))) None
  unfolding span narrow_i64
  reset-is k = ap (λ (b : Bool). cond b (Some (neg_ℤ (s *ℤ pos (n - 1)))) None) (sym (reset-span k))

-- what `checked_axis` says
pub axis-some : (n : ℕ) (s : ℤ) (a : ReduceOuterAxis) → Some a ≡ cond (reset_fits n s) (Some (axis_of n s)) None
    → (reset_fits n s ≡ true) × (a ≡ axis_of n s)
axis-some n s a e = let v = cond_some _ _ _ (sym e) in (v.0, sym v.1)

pub axis-none : {A : Type 0} (n : ℕ) (s : ℤ) (a : A) → None ≡ cond (reset_fits n s) (Some a) None → reset_fits n s ≡ false
axis-none n s a e = go (reset_fits n s) refl
  where
    go : (b : Bool) → reset_fits n s ≡ b → reset_fits n s ≡ false
    go true q = absurd (none-some a (e ∙ ap (λ (b : Bool). cond b (Some a) None) q))
    go false q = q

-- the three numbers of rule L3, where it holds
module _ (n : ℕ) (s : ℤ) (f : reset_fits n s ≡ true) where
  first_two : (fits_i64 (pos (n - 1)) && fits_i64 (span n s) ≡ true) × (fits_i64 (neg_ℤ (span n s)) ≡ true)
  unfolding reset_fits
  first_two = (and-eq-true_iff (fits_i64 (pos (n - 1)) && fits_i64 (span n s)) (fits_i64 (neg_ℤ (span n s)))).0 f

  pub last_fits : SFits w64 (pos (n - 1))
  last_fits = narrow_i64-fits (pos (n - 1)) ((and-eq-true_iff (fits_i64 (pos (n - 1))) (fits_i64 (span n s))).0 first_two.0).0

  pub span_fits : SFits w64 (s *ℤ pos (n - 1))
  unfolding span
  span_fits = narrow_i64-fits (s *ℤ pos (n - 1)) ((and-eq-true_iff (fits_i64 (pos (n - 1))) (fits_i64 (span n s))).0 first_two.0).1

  pub turned-span-fits : SFits w64 (pos 0 -ℤ (s *ℤ pos (n - 1)))
  unfolding span
  turned-span-fits =
      rw (+ℤ_idl (neg_ℤ (s *ℤ pos (n - 1)))) (narrow_i64-fits (neg_ℤ (s *ℤ pos (n - 1))) first_two.1)
