-- Truth values, and tests on numbers as comparisons of floats come out. Assumes nothing.
use mathlib.Core.Path.{◌≡◌, refl, sym, ap, ◌∙◌}
use mathlib.Core.Bool.{Bool, true, false, cond, ◌&&◌, ◌||◌, true≢false, and-eq-true_iff}
use mathlib.Core.Logic.{◌⊎◌, inl, inr}
use Prim.Native.Nat.{ℕ, ◌<◌}
use native.Mathlib.Nat.{le_of_lt, le_of_eq, eq-or-lt_of_le, ne_of_gt}
use lib.Dec.{ltb, leb, eqb}
use borrow.Author.Tests.{lt-ltb, le-ltb, eq-eqb, ne_eqb, leb-true, leb-false}

pub and_both : (p q : Bool) → (p && q) ≡ true → (p ≡ true) × (q ≡ true)
and_both p q = (and-eq-true_iff p q).0

pub neither : (p q : Bool) → (p || q) ≡ false → (p ≡ false) × (q ≡ false)
neither false q e = (refl, e)
neither true q e = absurd (true≢false e)

-- a < b or a = b
pub le_test : (a b : ℕ) → (ltb a b || (eqb a b && true)) ≡ leb a b
le_test a b = go (leb a b) refl
  where
    at : (a ≡ b) ⊎ (a < b) → (ltb a b || (eqb a b && true)) ≡ true
    at (inl e) = ap (λ (t : Bool). t || (eqb a b && true)) (le-ltb a b (le_of_eq (sym e))) ∙ ap (λ (t : Bool). t && true) (eq-eqb a b e)
    at (inr l) = ap (λ (t : Bool). t || (eqb a b && true)) (lt-ltb a b l)

    go : (t : Bool) → leb a b ≡ t → (ltb a b || (eqb a b && true)) ≡ leb a b
    go true e = at (eq-or-lt_of_le (leb-true a b e)) ∙ sym e
    go false e =
        let l : b < a = leb-false a b e in
        ap (λ (t : Bool). t || (eqb a b && true)) (le-ltb a b (le_of_lt l))
        ∙ ap (λ (t : Bool). t && true) (ne_eqb a b (ne_of_gt l))
        ∙ sym e

-- what holds of either holds of the one that a test chooses
pub by-test : {A : Type 0} (P : A → Type 0) (b : Bool) {x y : A} → (b ≡ true → P x) → (b ≡ false → P y) → P (cond b x y)
by-test P true f g = f refl
by-test P false f g = g refl
