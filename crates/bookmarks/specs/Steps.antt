-- Rules B1 to B3, R14, R15 and C12: a reduction a few pieces at a time.
use Rattle.std.specs.Prelude.{ℕ, ◌+◌, ◌%◌, Bool, cond, not, ◌&&◌, ◌||◌, List, [], ◌∷◌, ◌++◌, length, ltb, leb, eqb, ℤ, Float, Result, Ok, Err}
use Rattle.refusals.specs.Refusals.{Ranked, first_of, NO_PIECES, NOT_A_PIECE, ACCUMULATOR_OUT_OF_RANGE}
use Rattle.refusals.specs.declared.Refusal.{Refusal}
use Rattle.refusals.specs.Codes.{number}
use Rattle.layout.specs.Axes.{PLACES}
use Rattle.layout.specs.Compile.{compile_refusals, compile_of}
use Rattle.offsets.specs.Lists.{range_refusals}
use Rattle.accumulator.specs.declared.StableProductFloatAcc.{StableProductFloatAcc}
use Rattle.accumulator.specs.Joining.{in_limits, Answer, accumulator, refusal, answered}
use Rattle.kernels.specs.Pieces.{Piece, worked_piece, joined_pieces, rates_of}
use Rattle.reduction.specs.Ranges.{pieces_from}
use Rattle.bookmarks.specs.declared.Bookmark.{Bookmark}
use Rattle.bookmarks.specs.declared.Step.{Step}
use Rattle.bookmarks.specs.declared.Step.TheVariants as step

-- rule B1, whether a piece of the range begins at element k: at its start, and inside it at each multiple of the run length
abbrev pub begins_piece : ℕ → ℕ → ℕ → ℕ → Bool
begins_piece len start end k = eqb k start || (leb start k && ltb k end && eqb (k % len) 0)

-- rules R14 and R15, and R9 of an accumulator that is not ignored, in rank
unfoldable pub step_refusals : ℕ → ℕ → ℕ → Bookmark → ℕ → List Ranked
step_refusals len start end mark n =
    (NO_PIECES, eqb n 0) ∷ (NOT_A_PIECE, not (begins_piece len start end mark.next))
    ∷ (ACCUMULATOR_OUT_OF_RANGE, not (eqb mark.next start) && not (in_limits mark.acc)) ∷ []

-- the code of a call before it works: 1 to 7, 14, 15 or 9, or 0
unfoldable pub step_code : List ℕ → List ℤ → ℤ → ℕ → ℕ → ℕ → Bookmark → ℕ → ℕ
step_code sizes strides base start end length mark n =
    first_of (compile_refusals PLACES sizes strides ++ range_refusals sizes strides base start end length
    ++ step_refusals (compile_of PLACES sizes strides).traversal.run_len start end mark n)

-- rule B2, pieces joined onto an accumulator one after another: R10 is asked after each join, and no refusal is taken back
abbrev pub and_then : Answer → (StableProductFloatAcc → Answer) → Answer
and_then (accumulator m e bad) next = next (record { m = m; e = e; bad = bad })
and_then (refusal n) next = refusal n

unfoldable pub joined_within : StableProductFloatAcc → List Piece → Answer
joined_within a [] = accumulator a.m a.e a.bad
joined_within a (p ∷ ps) = and_then (answered a (worked_piece p)) (λ (r : StableProductFloatAcc). joined_within r ps)

-- at the range's start the accumulator is ignored, and the first piece is taken as it is
abbrev pub portion_of : Bool → StableProductFloatAcc → List Piece → Answer
portion_of at_start a ps = let r = joined_pieces ps in cond at_start (accumulator r.m r.e r.bad) (joined_within a ps)

-- What a step tells: the range's product or a further bookmark, each with how many pieces were worked, or a refusal's number with nothing beside it.
pub data StepAnswer : Type 0 where
  Done : StableProductFloatAcc → ℕ → StepAnswer
  More : Bookmark → ℕ → StepAnswer
  Refused : ℕ → StepAnswer

abbrev pub step_answer_of : Result Step Refusal → StepAnswer
step_answer_of (Ok (step.Done a k)) = Done a k
step_answer_of (Ok (step.More to k)) = More to k
step_answer_of (Err r) = Refused (number r)

-- rule B3, what is told of so many pieces that end before element `stop`: done exactly if that is the range's end
abbrev pub told : ℕ → ℕ → ℕ → Answer → StepAnswer
told end stop pieces (accumulator m e bad) =
    let a : StableProductFloatAcc = record { m = m; e = e; bad = bad } in
    cond (ltb stop end) (More (record { next = stop; acc = a }) pieces) (Done a pieces)
told end stop pieces (refusal n) = Refused n

-- rule C12, the call: its refusal, or what is told of the next n pieces, or of those that are left if they are fewer
unfoldable pub step_of : List ℕ → List ℤ → ℤ → ℕ → ℕ → List Float → Bookmark → ℕ → StepAnswer
step_of sizes strides base start end values mark n =
    let code = step_code sizes strides base start end (length values) mark n in
    let ps = pieces_from (compile_of PLACES sizes strides).traversal base values end n mark.next in
    cond (eqb code 0)
    (told end (mark.next + length (rates_of ps)) (length ps) (portion_of (eqb mark.next start) mark.acc ps))
    (Refused code)
