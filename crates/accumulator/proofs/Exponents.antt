-- Exponents of accumulators: far from the ends of i64, so that their sums are exact; and the test of |e| against the limit. Assumes nothing.
use mathlib.Core.Path.{◌≡◌, refl, sym, ap, ◌∙◌, subst}
use mathlib.Core.Bool.{Bool, true, false, ◌&&◌, and-true}
use Prim.Native.Nat.{ℕ, suc, ◌+◌, ◌^◌, ◌≤◌, ◌-◌}
use native.Mathlib.Nat.{le_refl, le_trans, le-suc, lt_of_le_of_lt, add-le-add}
use lib.IntN.{ℤ, pos, negsuc, nat_abs, ◌+ℤ◌}
use lib.Dec.{leb, leb-suc-suc, lit<, lit≤}
use lib.Signed.{mag, le_z}
use mir.Syntax.{w64}
use mir.Val.{SFits, to_z, of_z}
use mir.ValLaws.{to_z-of_z}
use Rattle.floats.proofs.Factor.{add-size}
use Rattle.accumulator.specs.Joining.{within_limit}

-- ---- sizes
mag-le : (z : ℤ) → mag z ≤ nat_abs z
mag-le (pos n) = le_refl n
mag-le (negsuc n) = le-suc n

-- ---- far from the ends
pub size_fits : (z : ℤ) → nat_abs z ≤ 2 ^ 62 + 1 → SFits w64 z
size_fits z h = record { sfits = lt_of_le_of_lt (le_trans (mag-le z) h) (lit< tt) }

module _ (x y : ℤ) (hx : nat_abs x ≤ 2 ^ 61) (hy : nat_abs y ≤ 2 ^ 61) where
  pub exact : (z : ℤ) → nat_abs z ≤ 2 ^ 61 → to_z w64 (of_z w64 z) ≡ z
  exact z h = to_z-of_z w64 z (size_fits z (le_trans h (lit≤ tt)))

  sum-size : nat_abs (x +ℤ y) ≤ 2 ^ 62
  sum-size = le_trans (add-size x y) (le_trans (add-le-add hx hy) (lit≤ tt))

  more-size : (c : ℕ) → c ≤ 1 → nat_abs (x +ℤ y +ℤ pos c) ≤ 2 ^ 62 + 1
  more-size c h = le_trans (add-size (x +ℤ y) (pos c)) (add-le-add sum-size h)

  -- x + y, as the machine has it
  abbrev pub sum : ℤ
  sum = to_z w64 (of_z w64 x) +ℤ to_z w64 (of_z w64 y)

  sum_is : sum ≡ x +ℤ y
  sum_is = ap (λ (z : ℤ). z +ℤ to_z w64 (of_z w64 y)) (exact x hx) ∙ ap (λ (z : ℤ). x +ℤ z) (exact y hy)

  pub sum_fits : SFits w64 sum
  sum_fits = subst (SFits w64) (sym sum_is) (size_fits (x +ℤ y) (le_trans sum-size (lit≤ tt)))

  pub sum-exact : to_z w64 (of_z w64 sum) ≡ x +ℤ y
  sum-exact = to_z-of_z w64 sum sum_fits ∙ sum_is

  -- x + y + c with c of 0 or 1, where z is the machine's c
  pub near_fits : (c : ℕ) (z : ℤ) → c ≤ 1 → z ≡ pos c → SFits w64 (to_z w64 (of_z w64 sum) +ℤ z)
  near_fits c z h e = subst (SFits w64) (sym (ap (λ (u : ℤ). u +ℤ z) sum-exact ∙ ap (λ (u : ℤ). x +ℤ y +ℤ u) e)) (size_fits (x +ℤ y +ℤ pos c) (more-size c h))

  pub near-exact : (c : ℕ) (z : ℤ) → c ≤ 1 → z ≡ pos c → to_z w64 (of_z w64 (to_z w64 (of_z w64 sum) +ℤ z)) ≡ x +ℤ y +ℤ pos c
  near-exact c z h e = to_z-of_z w64 (to_z w64 (of_z w64 sum) +ℤ z) (near_fits c z h e) ∙ ap (λ (u : ℤ). u +ℤ z) sum-exact ∙ ap (λ (u : ℤ). x +ℤ y +ℤ u) e

  pub more-fits : SFits w64 (to_z w64 (of_z w64 sum) +ℤ pos 1)
  more-fits = near_fits 1 (pos 1) (le_refl 1) refl

  pub more-exact : to_z w64 (of_z w64 (to_z w64 (of_z w64 sum) +ℤ pos 1)) ≡ x +ℤ y +ℤ pos 1
  more-exact = near-exact 1 (pos 1) (le_refl 1) refl

-- ---- -(k + 1) ≤ e ≤ k + 1
pub limits : (k : ℕ) (e : ℤ) → (le_z (negsuc k) e && le_z e (pos (suc k))) ≡ leb (nat_abs e) (suc k)
limits k (pos n) = refl
limits k (negsuc n) = and-true (leb n k) ∙ sym (leb-suc-suc n k)

-- the two ways of the code's test
pub limit-taken : (e : ℤ) → le_z (negsuc (2 ^ 52 - 1)) e ≡ true → le_z e (pos (2 ^ 52)) ≡ within_limit e
limit-taken e h = ap (λ (t : Bool). t && le_z e (pos (2 ^ 52))) (sym h) ∙ limits (2 ^ 52 - 1) e

pub limit-left : (e : ℤ) → le_z (negsuc (2 ^ 52 - 1)) e ≡ false → le_z (negsuc (2 ^ 52 - 1)) e ≡ within_limit e
limit-left e h = h ∙ ap (λ (t : Bool). t && le_z e (pos (2 ^ 52))) (sym h) ∙ limits (2 ^ 52 - 1) e
