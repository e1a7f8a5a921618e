-- What is proved about the call, as types that proofs inhabit (proofs/Theorems).
use Rattle.std.specs.Prelude.{ℕ, zero, suc, ◌+◌, ◌-◌, ◌/◌, ◌≤◌, ◌<◌, ◌≡◌, Bool, true, cond, List, length, T, eqb, ℤ, Float}
use Rattle.std.specs.Float.{binary64}
use Rattle.std.specs.Float.Ieee.{fits}
use Rattle.laws.specs.Lists.{Each}
use Rattle.layout.specs.Axes.{PLACES}
use Rattle.layout.specs.Compile.{compile_of}
use Rattle.layout.specs.declared.traversal.FullTraversal.{FullTraversal}
use Rattle.offsets.specs.Lists.{range_code}
use Rattle.accumulator.specs.declared.StableProductFloatAcc.{StableProductFloatAcc}
use Rattle.kernels.specs.Pieces.{joined_onto, joined_pieces}
use Rattle.reduction.specs.Ranges.{pieces_of, range_product}
use Rattle.bookmarks.specs.declared.Bookmark.{Bookmark}
use Rattle.bookmarks.specs.Steps.{begins_piece, StepAnswer, Done, More, step_of}

-- how many of the n numbers from k on are such
unfoldable pub count_from : (ℕ → Bool) → ℕ → ℕ → ℕ
count_from p zero k = 0
count_from p (suc n) k = cond (p k) 1 0 + count_from p n (suc k)

-- rule B1, how many pieces of the range lie from element `from` to element `to` - 1: as many as begin there
abbrev pub pieces_between : ℕ → ℕ → ℕ → ℕ → ℕ → ℕ
pieces_between len start end from to = count_from (begins_piece len start end) (to - from) from

-- rules B2 and B3, of pieces that were worked from a bookmark on up to element `to`: how many they are, and what they give
pub record Worked (l : FullTraversal) (base : ℤ) (values : List Float) (start end : ℕ) (mark : Bookmark) (to pieces : ℕ) (a : StableProductFloatAcc) : Type 0 where
  pub forward : mark.next < to
  pub upto : to ≤ end
  pub count : pieces ≡ pieces_between l.run_len start end mark.next to
  -- the accumulator handed in, joined with the pieces between; at the start, these alone
  pub product : a ≡ cond (eqb mark.next start) (joined_pieces (pieces_of l base values start to)) (joined_onto mark.acc (pieces_of l base values mark.next to))

-- rule B3 of a call: done exactly if the pieces reach the range's end, and fewer than n only then
pub record RuleB3 (ns : List ℕ) (ss : List ℤ) (base : ℤ) (start end : ℕ) (values : List Float) (mark : Bookmark) (n : ℕ) : Type 0 where
  pub done : (a : StableProductFloatAcc) (pieces : ℕ) → step_of ns ss base start end values mark n ≡ Done a pieces
      → (pieces ≤ n) × Worked (compile_of PLACES ns ss).traversal base values start end mark end pieces a
  pub more : (to : Bookmark) (pieces : ℕ) → step_of ns ss base start end values mark n ≡ More to pieces
      → (pieces ≡ n) × (to.next < end) × (begins_piece (compile_of PLACES ns ss).traversal.run_len start end to.next ≡ true)
      × Worked (compile_of PLACES ns ss).traversal base values start end mark to.next pieces to.acc

-- it holds of every call
abbrev pub RuleB3Law : Type 0
RuleB3Law =
    (ns : List ℕ) (ss : List ℤ) (base : ℤ) (start end : ℕ) (values : List Float) (mark : Bookmark) (n : ℕ) → RuleB3 ns ss base start end values mark n

-- rule B4, a caller's loop from a bookmark on: after so many calls, none of them refused, it is done with the accumulator a
pub data Loop (call : Bookmark → StepAnswer) : Bookmark → ℕ → StableProductFloatAcc → Type 0 where
  last : {mark : Bookmark} {a : StableProductFloatAcc} {pieces : ℕ} → call mark ≡ Done a pieces → Loop call mark 1 a
  again : {mark to : Bookmark} {a : StableProductFloatAcc} {pieces calls : ℕ} → call mark ≡ More to pieces → Loop call to calls a
      → Loop call mark (suc calls) a

-- Over any accepted range, from its start on with any accumulator: p pieces, n a call, take p / n calls, rounded up, and give the unbroken reduction's
-- product. The values are of binary64, as every f64 is.
abbrev pub RuleB4Law : Type 0
RuleB4Law =
    (ns : List ℕ) (ss : List ℤ) (base : ℤ) (start end : ℕ) (values : List Float) (any : StableProductFloatAcc) (n : ℕ)
    → Each (λ (x : Float). T (fits binary64 x)) values → range_code ns ss base start end (length values) ≡ 0 → 0 < n
    → let p = pieces_between (compile_of PLACES ns ss).traversal.run_len start end start end in
    Loop (λ (mark : Bookmark). step_of ns ss base start end values mark n) (record { next = start; acc = any }) ((p + (n - 1)) / n)
    (range_product ns ss base start end values)
