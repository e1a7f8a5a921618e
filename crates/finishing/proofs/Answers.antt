-- The cases of finishing. Assumes nothing.
use mathlib.Core.Path.{◌≡◌, refl, sym, ap, ◌∙◌}
use mathlib.Core.Bool.{Bool, true, false, not, cond, true≢false}
use Prim.Native.Nat.{ℕ}
use lib.Dec.{T, lit<}
use lib.Ieee.{Float, nan, binary64, fits, of_bits}
use Rattle.std.specs.Prelude.{Result, Ok, Err, IsErrAnd}
use Rattle.refusals.specs.Codes.{number}
use Rattle.refusals.specs.declared.Refusal.{Refusal}
use Rattle.refusals.specs.declared.Refusal.TheVariants.{AccumulatorOutOfRange}
use Rattle.accumulator.specs.declared.StableProductFloatAcc.{StableProductFloatAcc}
use Rattle.accumulator.specs.Joining.{factor_of_acc, in_limits, accumulator, answer_of}
use Rattle.accumulator.proofs.Answers.{in-limits-unit}
use Rattle.floats.specs.Factor.{float_of}
use Rattle.floats.proofs.Magnitude.{at-normal}
use Rattle.finishing.specs.Once.{rounded_once}
use Rattle.finishing.specs.Finishing.{value, refusal, final_answer_of, value_of_acc, finished_of, IsFinished}
use Rattle.finishing.specs.Theorems.{answer_by, final_answer_by}
use Rattle.finishing.proofs.Once.{once_is}

-- ---- the value of an accumulator
pub value-bad : (a : StableProductFloatAcc) → a.bad ≡ true → nan ≡ value_of_acc a
unfolding value_of_acc
value-bad a h = ap (λ (t : Bool). cond t nan (rounded_once (factor_of_acc a))) (sym h)

pub value-good : (a : StableProductFloatAcc) → a.bad ≡ false → rounded_once (factor_of_acc a) ≡ value_of_acc a
unfolding value_of_acc
value-good a h = ap (λ (t : Bool). cond t nan (rounded_once (factor_of_acc a))) (sym h)

-- ---- an accumulator, by any kind of error
module _ {E : Type 0} (gives : Refusal → E → Type 0) (answer : Result StableProductFloatAcc E) (a : StableProductFloatAcc) (p : answer ≡ Ok a)
    (h : in_limits a ≡ true) where
  told : (x : Float) → x ≡ value_of_acc a → IsFinished gives answer (Ok x)
  told x e = rw p ((λ k. absurd (true≢false (sym h ∙ k))), (λ k. ap Ok e))

  pub told-bad : a.bad ≡ true → IsFinished gives answer (Ok (of_bits binary64 9221120237041090560))
  unfolding of_bits
  told-bad k = told nan (value-bad a k)

  pub told-good : a.bad ≡ false → (x : Float) → x ≡ rounded_once (factor_of_acc a) → IsFinished gives answer (Ok x)
  told-good k x e = told x (e ∙ value-good a k)

-- ---- what a finished answer tells
pub acc-refused : (a : StableProductFloatAcc) → in_limits a ≡ false → refusal 9 ≡ finished_of (accumulator a.m a.e a.bad)
unfolding finished_of
acc-refused a h = ap (λ (t : Bool). cond (not t) (refusal 9) (value (value_of_acc a))) (sym h)

pub acc-value : (a : StableProductFloatAcc) → in_limits a ≡ true → value (value_of_acc a) ≡ finished_of (accumulator a.m a.e a.bad)
unfolding finished_of
acc-value a h = ap (λ (t : Bool). cond (not t) (refusal 9) (value (value_of_acc a))) (sym h)

-- by numbers of the errors
module _ {E : Type 0} (gives : Refusal → E → Type 0) (code : E → ℕ) (numbers : (r : Refusal) (e : E) → gives r e → code e ≡ number r) where
  nine : (result : Result Float E) → IsErrAnd result (gives AccumulatorOutOfRange) → final_answer_by code result ≡ refusal 9
  nine (Ok x) h = absurd h
  nine (Err e) h = ap refusal (numbers AccumulatorOutOfRange e h)

  pub finished-by : (answer : Result StableProductFloatAcc E) (result : Result Float E) → IsFinished gives answer result
      → final_answer_by code result ≡ finished_of (answer_by code answer)
  unfolding finished_of
  finished-by (Err e) result h = ap (final_answer_by code) h
  finished-by (Ok a) result h = go (in_limits a) refl
    where
      go : (t : Bool) → in_limits a ≡ t → final_answer_by code result ≡ finished_of (answer_by code (Ok a))
      go true k = ap (final_answer_by code) (h.1 k) ∙ acc-value a k
      go false k = nine result (h.0 k) ∙ acc-refused a k

-- by the refusals themselves
answer-same : (answer : Result StableProductFloatAcc Refusal) → answer_by number answer ≡ answer_of answer
answer-same (Ok a) = refl
answer-same (Err r) = refl

final-same : (result : Result Float Refusal) → final_answer_of result ≡ final_answer_by number result
final-same (Ok x) = refl
final-same (Err r) = refl

pub finished-told : (answer : Result StableProductFloatAcc Refusal) (result : Result Float Refusal)
    → IsFinished (λ (x y : Refusal). y ≡ x) answer result → final_answer_of result ≡ finished_of (answer_of answer)
finished-told answer result h =
    final-same result
    ∙ finished-by (λ (x y : Refusal). y ≡ x) number (λ r e k. ap number k) answer result h
    ∙ ap finished_of (answer-same answer)

-- ---- finishing an accumulator that stands is never a refusal
module _ (a : StableProductFloatAcc) (h : in_limits a ≡ true) where
  pub finished-bad : a.bad ≡ true → finished_of (accumulator a.m a.e a.bad) ≡ value nan
  finished-bad k = sym (acc-value a h) ∙ ap value (sym (value-bad a k))

  -- not bad: its factor, rounded once
  pub finished-once : a.bad ≡ false → finished_of (accumulator a.m a.e a.bad) ≡ value (rounded_once (factor_of_acc a))
  finished-once k = sym (acc-value a h) ∙ ap value (sym (value-good a k))

  -- which is the one rounding of IEEE 754 of the exact m × 2^e
  pub finished-float : T (fits binary64 a.m) → a.bad ≡ false → finished_of (accumulator a.m a.e a.bad) ≡ value (float_of 11 52 (factor_of_acc a))
  finished-float f k =
      finished-once k
      ∙ ap value (once_is (factor_of_acc a) (at-normal binary64 11 52 refl refl (lit< tt) a.m f (in-limits-unit a h) a.e))
