-- Rule C6 in cases: what a host is handed of a range that is done, of one that is not, and of a refusal. Each row is an equation that holds by computing.
use Rattle.std.specs.Prelude.{ℕ, ◌≡◌, Bool, true, false, pos}
use Rattle.std.specs.Float.{fin}
use Rattle.accumulator.specs.Joining.{identity_acc}
use Rattle.bookmarks.specs.declared.Bookmark.{Bookmark}
use Rattle.bookmarks.specs.Steps.{StepAnswer, Done, More, Refused}
use Rattle.step_probe.specs.Answers.{bookmark_of, code_handed, mark_handed, pieces_handed, done_handed}

-- 3.0 with exponent 5, bad, at element 8: no accumulator that a call gives
abbrev pub before : Bookmark
before = bookmark_of 8 (fin false 3 (pos 0)) (pos 5) true

-- the code, and what stands in the places, where before 9 and a truth value stood
abbrev pub HandedStep : StepAnswer → Bool → ℕ → Bookmark → ℕ → Bool → Type 0
HandedStep answer was code mark k done =
    (code_handed answer ≡ code) × (mark_handed before answer ≡ mark) × (pieces_handed 9 answer ≡ k) × (done_handed was answer ≡ done)

abbrev pub HandsStepsOut : Type 0
HandsStepsOut =
    HandedStep (Done identity_acc 2) false 0 (record { next = 8; acc = identity_acc }) 2 true
    × HandedStep (More (record { next = 6; acc = identity_acc }) 2) true 0 (record { next = 6; acc = identity_acc }) 2 false
    × HandedStep (Refused 15) true 15 before 9 true × HandedStep (Refused 15) false 15 before 9 false
