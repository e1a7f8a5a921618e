-- What is told of an answer, by its cases, and what it tells. Assumes nothing.
use Prim.Native.Nat.{ℕ, ◌≤◌, ◌<◌}
use mathlib.Core.Path.{◌≡◌, refl, ap}
use mathlib.Core.Bool.{Bool, true, false, cond}
use mathlib.Core.List.{List}
use native.Mathlib.Omega.{arith}
use lib.Dec.{ltb}
use borrow.Author.Tests.{lt-ltb, le-ltb, ltb-true, ltb-false}
use Rattle.accumulator.specs.declared.StableProductFloatAcc.{StableProductFloatAcc}
use Rattle.std.specs.Prelude.{Ok}
use Rattle.accumulator.specs.Joining.{Answer, accumulator, refusal, answer_of}
use Rattle.kernels.specs.Pieces.{Piece, joined_onto, joined_pieces}
use Rattle.bookmarks.specs.declared.Bookmark.{Bookmark}
use Rattle.bookmarks.specs.Steps.{Done, More, portion_of, told}
use Rattle.bookmarks.proofs.Joins.{same-acc, joined_is}

-- ---- what is told
module _ (end stop pieces : ℕ) (a : StableProductFloatAcc) where
  pub more-told : stop < end → More (record { next = stop; acc = a }) pieces ≡ told end stop pieces (answer_of (Ok a))
  more-told h = rw (lt-ltb stop end h)

  pub done-told : end ≤ stop → Done a pieces ≡ told end stop pieces (answer_of (Ok a))
  done-told h = rw (le-ltb stop end h)

-- ---- what that tells
pub told-done : (end stop pieces : ℕ) (q : Answer) (a : StableProductFloatAcc) (n : ℕ) → told end stop pieces q ≡ Done a n
    → (q ≡ answer_of (Ok a)) × (end ≤ stop) × (pieces ≡ n)
told-done end stop pieces (refusal k) a n e = let z : ◌≡◌ {A = ℕ} 0 1 = cc in absurd (omega arith)
told-done end stop pieces (accumulator m x bad) a n e = go (record { m = m; e = x; bad = bad }) (ltb stop end) refl e
  where
    go : (r : StableProductFloatAcc) (b : Bool) → ltb stop end ≡ b → cond b (More (record { next = stop; acc = r }) pieces) (Done r pieces) ≡ Done a n
        → (answer_of (Ok r) ≡ answer_of (Ok a)) × (end ≤ stop) × (pieces ≡ n)
    go r true q e = let z : ◌≡◌ {A = ℕ} 0 1 = cc in absurd (omega arith)
    go r false q e = let z : r ≡ a = cc in (ap (λ (x : StableProductFloatAcc). answer_of (Ok x)) z, ltb-false stop end q, cc)

pub told_more : (end stop pieces : ℕ) (q : Answer) (to : Bookmark) (n : ℕ) → told end stop pieces q ≡ More to n
    → (q ≡ answer_of (Ok to.acc)) × (stop ≡ to.next) × (stop < end) × (pieces ≡ n)
told_more end stop pieces (refusal k) to n e = let z : ◌≡◌ {A = ℕ} 0 1 = cc in absurd (omega arith)
told_more end stop pieces (accumulator m x bad) to n e = go (record { m = m; e = x; bad = bad }) (ltb stop end) refl e
  where
    go : (r : StableProductFloatAcc) (b : Bool) → ltb stop end ≡ b → cond b (More (record { next = stop; acc = r }) pieces) (Done r pieces) ≡ More to n
        → (answer_of (Ok r) ≡ answer_of (Ok to.acc)) × (stop ≡ to.next) × (stop < end) × (pieces ≡ n)
    go r true q e =
        let z : ◌≡◌ {A = Bookmark} (record { next = stop; acc = r }) to = cc in
        (ap (λ (x : Bookmark). answer_of (Ok x.acc)) z, ap (λ (x : Bookmark). x.next) z, ltb-true stop end q, cc)
    go r false q e = let z : ◌≡◌ {A = ℕ} 0 1 = cc in absurd (omega arith)

-- an answer that is no refusal is the joined accumulator; at the start, the pieces alone
pub portion-is : (at_start : Bool) (acc : StableProductFloatAcc) (ps : List Piece) (a : StableProductFloatAcc) → portion_of at_start acc ps ≡ answer_of (Ok a)
    → a ≡ cond at_start (joined_pieces ps) (joined_onto acc ps)
portion-is true acc ps a e = same-acc (joined_pieces ps) a e
portion-is false acc ps a e = joined_is acc ps a e
