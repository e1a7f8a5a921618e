-- Rule C6: what a C host is handed of a step's answer: a code, the bookmark in its four places, how many pieces were worked, and whether the range is done. A
-- refusal leaves all places as they were, a range that is done the next element number.
use Rattle.std.specs.Prelude.{ℕ, Bool, true, false, ℤ, Float}
use Rattle.bookmarks.specs.declared.Bookmark.{Bookmark}
use Rattle.bookmarks.specs.Steps.{StepAnswer, Done, More, Refused}

abbrev pub bookmark_of : ℕ → Float → ℤ → Bool → Bookmark
bookmark_of next m e bad = record { next = next; acc = record { m = m; e = e; bad = bad } }

unfoldable pub code_handed : StepAnswer → ℕ
code_handed (Done a k) = 0
code_handed (More to k) = 0
code_handed (Refused n) = n

unfoldable pub mark_handed : Bookmark → StepAnswer → Bookmark
mark_handed before (Done a k) = record { next = before.next; acc = a }
mark_handed before (More to k) = to
mark_handed before (Refused n) = before

unfoldable pub pieces_handed : ℕ → StepAnswer → ℕ
pieces_handed before (Done a k) = k
pieces_handed before (More to k) = k
pieces_handed before (Refused n) = before

unfoldable pub done_handed : Bool → StepAnswer → Bool
done_handed before (Done a k) = true
done_handed before (More to k) = false
done_handed before (Refused n) = before
