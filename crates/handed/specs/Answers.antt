-- Rule C6: what a C host is handed of an answer: a code, and places that a refusal leaves as they were.
use Rattle.std.specs.Prelude.{ℕ, Bool, ℤ, Float}
use Rattle.accumulator.specs.declared.StableProductFloatAcc.{StableProductFloatAcc}
use Rattle.accumulator.specs.Joining.{Answer, accumulator, refusal}
use Rattle.finishing.specs.Finishing.{FinalAnswer, value}
use Rattle.finishing.specs.Finishing as finishing

-- the accumulator that a host hands in by its three fields
abbrev pub handed_in : Float → ℤ → Bool → StableProductFloatAcc
handed_in m e bad = record { m = m; e = e; bad = bad }

-- of an accumulator
unfoldable pub code_given : Answer → ℕ
code_given (accumulator m e bad) = 0
code_given (refusal n) = n

unfoldable pub m_given : Float → Answer → Float
m_given before (accumulator m e bad) = m
m_given before (refusal n) = before

unfoldable pub e_given : ℤ → Answer → ℤ
e_given before (accumulator m e bad) = e
e_given before (refusal n) = before

unfoldable pub bad_given : Bool → Answer → Bool
bad_given before (accumulator m e bad) = bad
bad_given before (refusal n) = before

-- of a number
unfoldable pub number_code : FinalAnswer → ℕ
number_code (value x) = 0
number_code (finishing.refusal n) = n

unfoldable pub number_given : Float → FinalAnswer → Float
number_given before (value x) = x
number_given before (finishing.refusal n) = before
