-- What is proved about finishing, each statement as a type that a proof inhabits (proofs/Theorems).
use Rattle.std.specs.Prelude.{ℕ, ◌≡◌, Float, Result, Ok, Err}
use Rattle.refusals.specs.Codes.{number}
use Rattle.refusals.specs.declared.Refusal.{Refusal}
use Rattle.floats.specs.Factor.{Factor, Normalised, float_of}
use Rattle.accumulator.specs.declared.StableProductFloatAcc.{StableProductFloatAcc}
use Rattle.accumulator.specs.Joining.{Answer, accumulator}
use Rattle.accumulator.specs.Joining as joining
use Rattle.finishing.specs.Once.{rounded_once}
use Rattle.finishing.specs.Finishing.{FinalAnswer, value, refusal, finished_of, IsFinished}

-- Rule F2: rounding once is the one rounding of IEEE 754-2019 (4.3.1), for every exponent.
abbrev pub RoundedOnceLaw : Type 0
RoundedOnceLaw = (f : Factor) → Normalised 52 f → rounded_once f ≡ float_of 11 52 f

-- an answer, and a finished one, whose errors have these numbers
abbrev pub answer_by : {E : Type 0} → (E → ℕ) → Result StableProductFloatAcc E → Answer
answer_by code (Ok a) = accumulator a.m a.e a.bad
answer_by code (Err e) = joining.refusal (code e)

abbrev pub final_answer_by : {E : Type 0} → (E → ℕ) → Result Float E → FinalAnswer
final_answer_by code (Ok x) = value x
final_answer_by code (Err e) = refusal (code e)

-- Rule C5 over errors of any kind, numbers among them: where what stands for a refusal has its number, finishing tells `finished_of`.
abbrev pub FinishedLaw : Type 1
FinishedLaw =
    (E : Type 0) (gives : Refusal → E → Type 0) (code : E → ℕ)
    → ((r : Refusal) (e : E) → gives r e → code e ≡ number r)
    → (answer : Result StableProductFloatAcc E) (result : Result Float E) → IsFinished gives answer result
    → final_answer_by code result ≡ finished_of (answer_by code answer)
