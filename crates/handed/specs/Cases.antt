-- Rule C6 in cases: what a host is handed of an accumulator, of a number, and of a refusal, which leaves its places as they were. Each row is an equation that
-- holds by computing.
use Rattle.std.specs.Prelude.{◌≡◌, true, false, pos, negsuc}
use Rattle.accumulator.specs.Joining.{Answer, accumulator, refusal}
use Rattle.finishing.specs.Finishing.{value}
use Rattle.finishing.specs.Finishing as finishing
use Rattle.finishing.specs.Cases.{signed_one, one_half}
use Rattle.handed.specs.Answers.{code_given, m_given, e_given, bad_given, number_code, number_given}

abbrev pub handed_acc : Answer
handed_acc = accumulator one_half (negsuc 6) true

abbrev pub HandsOut : Type 0
HandsOut =
    (code_given handed_acc ≡ 0) × (m_given (signed_one true) handed_acc ≡ one_half) × (e_given (pos 5) handed_acc ≡ negsuc 6) × (bad_given false handed_acc ≡ true)
    × (code_given (refusal 7) ≡ 7) × (m_given (signed_one true) (refusal 7) ≡ signed_one true) × (e_given (pos 5) (refusal 7) ≡ pos 5)
    × (bad_given true (refusal 7) ≡ true)

abbrev pub HandsNumbersOut : Type 0
HandsNumbersOut =
    (number_code (value one_half) ≡ 0) × (number_given (signed_one true) (value one_half) ≡ one_half) × (number_code (finishing.refusal 7) ≡ 7)
    × (number_given (signed_one true) (finishing.refusal 7) ≡ signed_one true)
