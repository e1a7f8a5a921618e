-- Rule R0: the number of each refusal of the code, and the code of a call that answers with something or with a refusal.
use Rattle.std.specs.Prelude.{ℕ, Result, Ok, Err}
use Rattle.refusals.specs.declared.Refusal.{Refusal}
use Rattle.refusals.specs.declared.Refusal.TheVariants as refused
use Rattle.refusals.specs.Refusals as numbered

abbrev pub number : Refusal → ℕ
number refused.StrideLengthMismatch = numbered.STRIDE_LENGTH_MISMATCH
number refused.TooManyAxes = numbered.TOO_MANY_AXES
number refused.OffsetOverflow = numbered.OFFSET_OVERFLOW
number refused.TooManyElements = numbered.TOO_MANY_ELEMENTS
number refused.EmptyRange = numbered.EMPTY_RANGE
number refused.RangePastEnd = numbered.RANGE_PAST_END
number refused.ElementOutside = numbered.ELEMENT_OUTSIDE
number refused.BufferTooShort = numbered.BUFFER_TOO_SHORT
number refused.AccumulatorOutOfRange = numbered.ACCUMULATOR_OUT_OF_RANGE
number refused.ExponentOutOfRange = numbered.EXPONENT_OUT_OF_RANGE
number refused.BadWord = numbered.BAD_WORD
number refused.NumberTooLong = numbered.NUMBER_TOO_LONG
number refused.JobBufferTooShort = numbered.JOB_BUFFER_TOO_SHORT
number refused.NoPieces = numbered.NO_PIECES
number refused.NotAPiece = numbered.NOT_A_PIECE
number refused.AnswerBufferTooShort = numbered.ANSWER_BUFFER_TOO_SHORT
number refused.NoWindow = numbered.NO_WINDOW

-- 0 of a call that is accepted
abbrev pub code_of : {A : Type 0} → Result A Refusal → ℕ
code_of (Ok x) = 0
code_of (Err r) = number r
