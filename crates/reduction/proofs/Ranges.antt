-- The pieces of an accepted range: inside the values, and worked as the definition has them.
-- Assumes nothing.
use Prim.Native.Nat.{ℕ, ◌+◌, ◌-◌, ◌*◌, ◌^◌, ◌≤◌, ◌<◌}
use mathlib.Core.Path.{◌≡◌, sym, ◌∙◌, ap, subst}
use mathlib.Core.Bool.{true}
use mathlib.Core.List.{List, ◌∷◌, map}
use native.Mathlib.Omega.{arith}
use native.Mathlib.Nat.{le_trans}
use lib.ListN.{length, get_or}
use lib.Dec.{T}
use lib.IntN.{ℤ, pos, nat_abs, ◌+ℤ◌, ◌*ℤ◌}
use lib.Ieee.{Float, nan, binary64, fits}
use Rattle.integers.specs.Integers.{eq_z}
use Rattle.layout.specs.declared.traversal.FullTraversal.{FullTraversal}
use Rattle.accumulator.specs.declared.StableProductFloatAcc.{StableProductFloatAcc}
use Rattle.accumulator.specs.Joining.{combined}
use Rattle.offsets.specs.declared.pieces.RangeCursor.{RangeCursor}
use Rattle.offsets.specs.declared.pieces.RangePiece.{RangePiece}
use Rattle.offsets.specs.Elements.{inside_values, all_inside}
use Rattle.offsets.specs.InnerCursors.{Bounded, Traversal}
use Rattle.offsets.specs.Pieces.{run_of, outer_of, piece_length}
use Rattle.offsets.specs.InnerPieces.{range_at, piece_of}
use Rattle.offsets.proofs.Ends.{inside-low, inside-high}
use Rattle.offsets.proofs.Walking.{len-pos, PieceHere, piece-here}
use Rattle.offsets.proofs.Writing.{piece-steps}
use Rattle.kernels.specs.Pieces.{worked, worked_piece, joined_onto, joined_pieces}
use Rattle.kernels.specs.InnerStrided.{strided, PlacesInside}
use Rattle.kernels.specs.InnerStepped.{Sound}
use Rattle.kernels.proofs.Sizes.{in_piece, in_list, combined-size}
use Rattle.kernels.proofs.Bounded.{combined-sound, worked-sound}
use Rattle.kernels.proofs.Striding.{strided-values}
use Rattle.offsets.specs.Values.{value_at, rates_from}
use Rattle.offsets.proofs.Visiting.{piece_inside}
use Rattle.reduction.specs.Ranges.{piece_at, pieces_of}
use Rattle.reduction.proofs.Pieces.{pieces_none, pieces_more, strided-steps, strided-near}

-- what the piece p at a cursor gives the loop
pub record PieceTaken (l : FullTraversal) (base : ℤ) (values : List Float) (end : ℕ) (c : RangeCursor) (p : RangePiece) : Type 0 where
  pub some_len : 1 ≤ p.len
  pub ends : c.at + p.len ≤ end
  pub next_at : p.next.at ≡ c.at + p.len
  pub next_cursor_is : p.next.at < end → p.next ≡ range_at l base p.next.at
  pub inside : PlacesInside (length values) p.first l.run_stride p.len
  pub worked_is : worked (eq_z l.run_stride (pos 1)) (strided values p.first l.run_stride p.len)
      ≡ worked_piece (piece_at l base values end c.at)
  pub pieces : pieces_of l base values c.at end ≡ piece_at l base values end c.at ∷ pieces_of l base values p.next.at end

module _ (l : FullTraversal) (t : Traversal l) (base : ℤ) (b : Bounded (run_of l ∷ outer_of l) base) (values : List Float)
    (w : all_inside (run_of l ∷ outer_of l) l.total base (length values) ≡ true) (end : ℕ) (few : end ≤ l.total)
    (c : RangeCursor) (e : c ≡ range_at l base c.at) (h : c.at < end) (p : RangePiece) (q : p ≡ piece_of l end c) where
  here : PieceHere l base end c p
  here = piece-here l t base b end c e h p q

  lies : (i : ℕ) → i < p.len → inside_values (length values) (p.first +ℤ l.run_stride *ℤ pos i) ≡ true
  lies = piece_inside l t base (length values) w end few c p here

  rates-are : strided values p.first l.run_stride p.len ≡ rates_from l base values c.at (piece_length l.run_len end c.at)
  rates-are =
      strided-steps values p.first l.run_stride p.len
      ∙ ap (λ (zs : List ℤ). map (value_at values) zs) (piece-steps l t base b end c p here)
      ∙ ap (λ (n : ℕ). rates_from l base values c.at n) here.len_is

  pub taken : PieceTaken l base values end c p
  taken =
      record {
        some_len = here.some_len;
        ends = here.ends;
        next_at = here.next_at;
        next_cursor_is = here.next_cursor_is;
        inside = record { least = λ i k. inside-low (length values) _ (lies i k); most = λ i k. inside-high (length values) _ (lies i k) };
        worked_is = ap (worked (eq_z l.run_stride (pos 1))) rates-are;
        pieces =
            pieces_more l base values end (λ k g. len-pos l t base b k end g) c.at h
            ∙ ap (λ (n : ℕ). piece_at l base values end c.at ∷ pieces_of l base values n end)
            (ap (λ (n : ℕ). c.at + n) (sym here.len_is) ∙ sym here.next_at);
      }

-- ---- the loop: the cursor stands at c.at while that is below the end, and what is left joins to the whole
pub record Reducing (l : FullTraversal) (base : ℤ) (values : List Float) (end : ℕ) (whole acc : StableProductFloatAcc) (c : RangeCursor) : Type 0 where
  pub upto : c.at ≤ end
  pub cursor_is : c.at < end → c ≡ range_at l base c.at
  pub small : nat_abs acc.e ≤ 2 ^ 53 + in_list * c.at
  pub sound : Sound acc
  pub rest : joined_onto acc (pieces_of l base values c.at end) ≡ whole

module _ (l : FullTraversal) (base : ℤ) (values : List Float) (end : ℕ) (c : RangeCursor) (p : RangePiece) (t : PieceTaken l base values end c p)
    (b : StableProductFloatAcc)
    (e : b ≡ worked (eq_z l.run_stride (pos 1)) (strided values p.first l.run_stride p.len))
    (v : (i : ℕ) → T (fits binary64 (get_or values i nan))) where
  pub near : nat_abs b.e ≤ in_piece * p.len
  near =
      subst (λ (a : StableProductFloatAcc). nat_abs a.e ≤ in_piece * p.len) (sym e) (strided-near values v p.first l.run_stride p.len t.some_len)

  -- |m| lies in [1, 2)
  pub piece-sound : Sound b
  piece-sound =
      subst Sound (sym e)
      (worked-sound (record { in_blocks = eq_z l.run_stride (pos 1); rates = strided values p.first l.run_stride p.len })
      (strided-values values v p.first l.run_stride p.len))

  pub is-piece : b ≡ worked_piece (piece_at l base values end c.at)
  is-piece = e ∙ t.worked_is

  -- the first piece is taken as it is
  pub joined-first : joined_onto b (pieces_of l base values p.next.at end) ≡ joined_pieces (pieces_of l base values c.at end)
  unfolding joined_pieces
  joined-first =
      ap (λ (a : StableProductFloatAcc). joined_onto a (pieces_of l base values p.next.at end)) is-piece ∙ ap joined_pieces (sym t.pieces)

  -- a later one is joined from the right
  pub joined-more : (acc r : StableProductFloatAcc) → r ≡ combined acc b
      → joined_onto r (pieces_of l base values p.next.at end) ≡ joined_onto acc (pieces_of l base values c.at end)
  joined-more acc r g =
      ap (λ (a : StableProductFloatAcc). joined_onto a (pieces_of l base values p.next.at end)) (g ∙ ap (combined acc) is-piece)
      ∙ ap (joined_onto acc) (sym t.pieces)

  pub reducing-more : (whole acc : StableProductFloatAcc) → Reducing l base values end whole acc c → (r : StableProductFloatAcc) → r ≡ combined acc b
      → Reducing l base values end whole r p.next
  reducing-more whole acc s r g =
      record {
        upto = omega (arith, t.next_at, t.ends);
        cursor_is = t.next_cursor_is;
        small =
            subst (λ (a : StableProductFloatAcc). nat_abs a.e ≤ 2 ^ 53 + in_list * p.next.at) (sym g)
            (le_trans (combined-size acc b) (omega (arith, t.next_at, near, s.small, t.some_len)));
        sound = subst Sound (sym g) (combined-sound acc b s.sound (piece-sound));
        rest = joined-more acc r g ∙ s.rest;
      }

pub reducing-all : (l : FullTraversal) (base : ℤ) (values : List Float) (end : ℕ) (whole acc : StableProductFloatAcc) (c : RangeCursor)
    → Reducing l base values end whole acc c → end ≤ c.at → acc ≡ whole
reducing-all l base values end whole acc c s h = ap (joined_onto acc) (sym (pieces_none l base values end (end - c.at) c.at h)) ∙ s.rest
