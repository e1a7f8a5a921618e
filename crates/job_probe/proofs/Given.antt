-- A place after a call whose answer is w: what an accepted call hands out, and what stood there before a refused one.
-- Assumes nothing.
use Prim.Native.Nat.{ℕ}
use mathlib.Core.Path.{◌≡◌, sym, ◌∙◌, ap}
use mathlib.Core.Bool.{Bool, cond}
use borrow.Author.Tests.{eq-eqb, ne_eqb}
use Rattle.job_probe.specs.Answers.{given}

module _ {R A : Type 0} (code : R → ℕ) (field : R → A) {r w : R} (e : r ≡ w) (before : A) where
  -- by what the code says of the answer
  by_code : given (code r) (field r) before ≡ given (code w) (field w) before
  by_code = ap (λ (x : R). given (code x) (field x) before) e

  pub handed : code r ≡ 0 → field r ≡ given (code w) (field w) before
  unfolding given
  handed z = sym (ap (λ (t : Bool). cond t (field r) before) (eq-eqb (code r) 0 z)) ∙ by_code

  pub kept : (code r ≡ 0 → ⊥) → before ≡ given (code w) (field w) before
  unfolding given
  kept z = sym (ap (λ (t : Bool). cond t (field r) before) (ne_eqb (code r) 0 z)) ∙ by_code
