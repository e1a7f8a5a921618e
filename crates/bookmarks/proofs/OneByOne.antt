-- Pieces joined one by one, with rule R10 asked after each. Assumes nothing.
use Prim.Native.Nat.{ℕ, ◌^◌, ◌≤◌, ◌<◌}
use mathlib.Core.Path.{◌≡◌, refl, sym, ◌∙◌, ap, subst}
use mathlib.Core.Bool.{Bool, true, false}
use mathlib.Core.List.{List}
use native.Mathlib.Omega.{arith}
use native.Mathlib.Nat.{le_trans}
use lib.ListN.{get_or}
use lib.Dec.{T}
use lib.IntN.{ℤ, pos, nat_abs}
use lib.Ieee.{Float, nan, binary64, fits}
use borrow.Author.Tests.{le-leb}
use Rattle.integers.specs.Integers.{eq_z}
use Rattle.layout.specs.declared.traversal.FullTraversal.{FullTraversal}
use Rattle.offsets.specs.declared.pieces.RangeCursor.{RangeCursor}
use Rattle.offsets.specs.declared.pieces.RangePiece.{RangePiece}
use Rattle.offsets.specs.InnerPieces.{range_at}
use Rattle.accumulator.specs.declared.StableProductFloatAcc.{StableProductFloatAcc}
use Rattle.refusals.specs.declared.Refusal.{Refusal}
use Rattle.std.specs.Prelude.{Result, Ok, Err}
use Rattle.accumulator.specs.Joining.{combined, within_limit, in_limits, Answer, answer_of, answered, joined}
use Rattle.accumulator.proofs.Answers.{answered-joined, accepted, refused-joined}
use Rattle.kernels.specs.InnerStepped.{Sound}
use Rattle.kernels.specs.InnerStrided.{strided}
use Rattle.kernels.specs.Pieces.{worked}
use Rattle.kernels.proofs.Bounded.{combined-sound}
use Rattle.reduction.specs.Ranges.{pieces_of}
use Rattle.reduction.proofs.Pieces.{pieces_none}
use Rattle.reduction.proofs.Ranges.{PieceTaken, near, piece-sound, is-piece}
use Rattle.reduction.proofs.Whole.{is-accumulator}
use Rattle.bookmarks.specs.Steps.{and_then, joined_within}
use Rattle.bookmarks.proofs.Joins.{same-acc}

-- ---- what joining answers
pub in-limits : (a : StableProductFloatAcc) → Sound a → within_limit a.e ≡ true → in_limits a ≡ true
unfolding in_limits
in-limits a s h = rw (s.in_unit, h)

module _ (a b : StableProductFloatAcc) (A : in_limits a ≡ true) (B : in_limits b ≡ true) where
  -- an accumulator is the combined one, within its limits
  pub join_kept : (r : StableProductFloatAcc) → answer_of (Ok r) ≡ joined a b → (r ≡ combined a b) × (within_limit r.e ≡ true)
  join_kept r e = go (within_limit (combined a b).e) refl
    where
      same : within_limit (combined a b).e ≡ true → r ≡ combined a b
      same h = same-acc (combined a b) r (accepted a b A B h ∙ sym e)

      go : (t : Bool) → within_limit (combined a b).e ≡ t → (r ≡ combined a b) × (within_limit r.e ≡ true)
      go true h = (same h, ap (λ (c : StableProductFloatAcc). within_limit c.e) (same h) ∙ h)
      go false h = absurd (subst T (ap is-accumulator (e ∙ sym (refused-joined a b A B h))) tt)

-- ---- the loop: what is left joins to the whole
pub record Joining (l : FullTraversal) (base : ℤ) (values : List Float) (end : ℕ) (whole : Answer) (acc : StableProductFloatAcc) (c : RangeCursor) : Type 0
  where
    pub upto : c.at ≤ end
    pub cursor_is : c.at < end → c ≡ range_at l base c.at
    pub within : in_limits acc ≡ true
    pub sound : Sound acc
    pub rest : joined_within acc (pieces_of l base values c.at end) ≡ whole

pub joining-all : (l : FullTraversal) (base : ℤ) (values : List Float) (end : ℕ) (whole : Answer) (acc : StableProductFloatAcc) (c : RangeCursor)
    → Joining l base values end whole acc c → end ≤ c.at → answer_of (Ok acc) ≡ whole
unfolding joined_within
joining-all l base values end whole acc c s h = ap (joined_within acc) (sym (pieces_none l base values end _ c.at h)) ∙ s.rest

-- a piece joined, by what `join` answered of it
module _ (l : FullTraversal) (base : ℤ) (values : List Float) (end : ℕ) (c : RangeCursor) (p : RangePiece) (t : PieceTaken l base values end c p)
    (b : StableProductFloatAcc)
    (e : b ≡ worked (eq_z l.run_stride (pos 1)) (strided values p.first l.run_stride p.len))
    (v : (i : ℕ) → T (fits binary64 (get_or values i nan))) (few : p.len ≤ 2 ^ 40)
    (whole : Answer) (acc : StableProductFloatAcc) (s : Joining l base values end whole acc c) (r : Result StableProductFloatAcc Refusal) (j : answer_of r ≡ joined acc b) where
  piece-within : in_limits b ≡ true
  piece-within =
      in-limits b (piece-sound l base values end c p t b e v)
      (le-leb (nat_abs b.e) (2 ^ 52) (le_trans (near l base values end c p t b e v) (omega arith)))

  next : and_then (answer_of r) (λ (a : StableProductFloatAcc). joined_within a (pieces_of l base values p.next.at end)) ≡ whole
  unfolding joined_within
  next =
      ap (λ (x : Answer). and_then x (λ (a : StableProductFloatAcc). joined_within a (pieces_of l base values p.next.at end)))
      (j ∙ sym (answered-joined acc b s.within piece-within) ∙ ap (answered acc) (is-piece l base values end c p t b e v))
      ∙ ap (joined_within acc) (sym t.pieces) ∙ s.rest

  -- a refusal is the whole answer
  pub joining-refused : (n : Refusal) → r ≡ Err n → answer_of r ≡ whole
  joining-refused n e =
      subst
      (λ (x : Result StableProductFloatAcc Refusal). and_then (answer_of x) (λ (a : StableProductFloatAcc). joined_within a (pieces_of l base values p.next.at end)) ≡ whole → answer_of x ≡ whole)
      (sym e) (λ q. q) next

  pub joining-more : (a : StableProductFloatAcc) → r ≡ Ok a → Joining l base values end whole a p.next
  joining-more a g =
      let k = join_kept acc b s.within piece-within a (sym (ap answer_of g) ∙ j) in
      let sound = subst Sound (sym k.0) (combined-sound acc b s.sound (piece-sound l base values end c p t b e v)) in
      record {
        upto = omega (arith, t.next_at, t.ends);
        cursor_is = t.next_cursor_is;
        within = in-limits a sound k.1;
        sound = sound;
        rest = sym (ap (λ (x : Result StableProductFloatAcc Refusal). and_then (answer_of x) (λ (y : StableProductFloatAcc). joined_within y (pieces_of l base values p.next.at end))) g) ∙ next;
      }
