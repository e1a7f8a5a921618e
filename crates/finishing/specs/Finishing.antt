-- Rules F1 and C5, finishing an answer.
use Rattle.std.specs.Prelude.{ℕ, true, false, ◌≡◌, not, cond, Float, Result, Ok, Err, IsErrAnd}
use Rattle.std.specs.Float.{nan}
use Rattle.refusals.specs.Refusals.{ACCUMULATOR_OUT_OF_RANGE}
use Rattle.refusals.specs.Codes.{number}
use Rattle.refusals.specs.declared.Refusal.{Refusal}
use Rattle.refusals.specs.declared.Refusal.TheVariants.{AccumulatorOutOfRange}
use Rattle.accumulator.specs.Joining.{factor_of_acc, in_limits, Answer, accumulator}
use Rattle.accumulator.specs.Joining as joining
use Rattle.accumulator.specs.declared.StableProductFloatAcc.{StableProductFloatAcc}
use Rattle.finishing.specs.Once.{rounded_once}

-- What a finishing call tells: a value, or a refusal's number with nothing beside it.
pub data FinalAnswer : Type 0 where
  value : Float → FinalAnswer
  refusal : ℕ → FinalAnswer

abbrev pub final_answer_of : Result Float Refusal → FinalAnswer
final_answer_of (Ok x) = value x
final_answer_of (Err r) = refusal (number r)

-- rule F1, of an accumulator within its limits: bad gives the NaN, whose pattern is 0x7FF8000000000000; else m × 2^e rounded once
unfoldable pub value_of_acc : StableProductFloatAcc → Float
unfolding rounded_once
value_of_acc a = cond a.bad nan (rounded_once (factor_of_acc a))

-- A refusal handed in comes out unchanged, whatever its number. Else 9 of an accumulator that is not within its limits, bad or not. Else its value.
unfoldable pub finished_of : Answer → FinalAnswer
unfolding in_limits value_of_acc
finished_of (joining.refusal n) = refusal n
finished_of (accumulator m e bad) =
    let a : StableProductFloatAcc = record { m = m; e = e; bad = bad } in
    cond (not (in_limits a)) (refusal ACCUMULATOR_OUT_OF_RANGE) (value (value_of_acc a))

-- The same over errors of any kind, of which `gives` says what stands for a refusal: an error handed in comes out unchanged.
abbrev pub IsFinished : {E : Type 0} → (Refusal → E → Type 0) → Result StableProductFloatAcc E → Result Float E → Type 0
IsFinished gives (Err e) result = result ≡ Err e
IsFinished gives (Ok a) result =
    (in_limits a ≡ false → IsErrAnd result (gives AccumulatorOutOfRange)) × (in_limits a ≡ true → result ≡ Ok (value_of_acc a))
