-- Rules R0 to R17: a name for each refusal's number, as in src/lib, and which of several is given.
use Rattle.std.specs.Prelude.{ℕ, Bool, cond, List, [], ◌∷◌, ◌++◌, length, drop, eqb}

abbrev pub STRIDE_LENGTH_MISMATCH : ℕ
STRIDE_LENGTH_MISMATCH = 1

abbrev pub TOO_MANY_AXES : ℕ
TOO_MANY_AXES = 2

abbrev pub OFFSET_OVERFLOW : ℕ
OFFSET_OVERFLOW = 3

abbrev pub TOO_MANY_ELEMENTS : ℕ
TOO_MANY_ELEMENTS = 4

abbrev pub EMPTY_RANGE : ℕ
EMPTY_RANGE = 5

abbrev pub RANGE_PAST_END : ℕ
RANGE_PAST_END = 6

abbrev pub ELEMENT_OUTSIDE : ℕ
ELEMENT_OUTSIDE = 7

abbrev pub BUFFER_TOO_SHORT : ℕ
BUFFER_TOO_SHORT = 8

abbrev pub ACCUMULATOR_OUT_OF_RANGE : ℕ
ACCUMULATOR_OUT_OF_RANGE = 9

abbrev pub EXPONENT_OUT_OF_RANGE : ℕ
EXPONENT_OUT_OF_RANGE = 10

abbrev pub BAD_WORD : ℕ
BAD_WORD = 11

abbrev pub NUMBER_TOO_LONG : ℕ
NUMBER_TOO_LONG = 12

abbrev pub JOB_BUFFER_TOO_SHORT : ℕ
JOB_BUFFER_TOO_SHORT = 13

abbrev pub NO_PIECES : ℕ
NO_PIECES = 14

abbrev pub NOT_A_PIECE : ℕ
NOT_A_PIECE = 15

abbrev pub ANSWER_BUFFER_TOO_SHORT : ℕ
ANSWER_BUFFER_TOO_SHORT = 16

abbrev pub NO_WINDOW : ℕ
NO_WINDOW = 17

-- a refusal: its number, and whether its condition holds
abbrev pub Ranked : Type 0
Ranked = ℕ × Bool

-- R0: of a list in rank, the number of the first whose condition holds, or 0
unfoldable pub first_of : List Ranked → ℕ
first_of [] = 0
first_of (r ∷ rs) = cond r.1 r.0 (first_of rs)

-- R0: a buffer after a call with this code that has xs to write: an accepted call fills as many of the first places, a refused one changes none
abbrev pub buffer_after : {X : Type 0} → ℕ → List X → List X → List X
buffer_after code xs out = cond (eqb code 0) (xs ++ drop (length xs) out) out
