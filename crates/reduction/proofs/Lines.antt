-- A layout without outer axes is one run: element k lies at base + stride × k, and a range is one piece.
-- Assumes nothing.
use Prim.Native.Nat.{ℕ, ◌+◌, ◌-◌, ◌%◌, ◌^◌, ◌≤◌, ◌<◌}
use mathlib.Core.Path.{◌≡◌, refl, sym, ◌∙◌, ap, subst}
use mathlib.Core.Bool.{true}
use mathlib.Core.List.{List, [], ◌∷◌}
use native.Mathlib.Omega.{arith}
use native.Mathlib.Nat.{mod-eq_of_lt}
use native.Mathlib.Numerals.{unary_clauses}
use lib.ListN.{length, take}
use lib.IntN.{ℤ, pos, ◌+ℤ◌, ◌*ℤ◌}
use lib.Ieee.{Float}
use lib.Signed.{◌<ℤ◌}
use mir.Val.{SFits}
use mir.Syntax.{w64}
use Rattle.integers.specs.Integers.{eq_z}
use Rattle.integers.proofs.Difference.{ints, atoms}
use Rattle.integers.proofs.Places.{place-first}
use Rattle.layout.specs.Axes.{axis_of}
use Rattle.layout.specs.declared.axis.ReduceOuterAxis.{ReduceOuterAxis}
use Rattle.layout.specs.declared.traversal.FullTraversal.{FullTraversal}
use Rattle.offsets.specs.declared.pieces.RangePiece.{RangePiece}
use Rattle.offsets.specs.Elements.{digits, shift, offset, all_inside}
use Rattle.layout.specs.InnerTables.{elements}
use Rattle.offsets.specs.InnerCursors.{Bounded, Traversal}
use Rattle.offsets.specs.Pieces.{run_of, outer_of, piece_length}
use Rattle.offsets.specs.InnerPieces.{range_at, piece_of}
use Rattle.offsets.proofs.Stepping.{Small, small-fits, share-fits}
use Rattle.offsets.proofs.Walking.{PieceHere, piece-here}
use Rattle.kernels.specs.Pieces.{Piece, worked, joined_pieces}
use Rattle.kernels.specs.InnerStrided.{strided, PlacesInside}
use Rattle.reduction.specs.Ranges.{piece_at, pieces_of}
use Rattle.reduction.proofs.Pieces.{pieces_none}
use Rattle.reduction.proofs.Ranges.{PieceTaken, taken}

module _ (l : FullTraversal) (t : Traversal l) (none : l.axis_count ≡ 0) where
  no_outer : outer_of l ≡ []
  unfolding outer_of
  no_outer = ap (λ (n : ℕ). take n l.run_axes) none

  run-total : l.run_len ≡ l.total
  unfolding elements run_of axis_of
  run-total =
      let e : elements (run_of l ∷ []) ≡ l.total = ap (λ (xs : List ReduceOuterAxis). elements (run_of l ∷ xs)) (sym no_outer) ∙ t.total in
      omega (arith, e)

  module _ (base : ℤ) (k : ℕ) (h : k < l.total) where
    column : k % l.run_len ≡ k
    column = mod-eq_of_lt (omega (arith, run-total))

    element : offset (run_of l ∷ outer_of l) base k ≡ base +ℤ l.run_stride *ℤ pos k
    unfolding offset shift digits run_of axis_of
    element =
        ap (λ (xs : List ReduceOuterAxis). offset (run_of l ∷ xs) base k) no_outer
        ∙ ap (λ (d : ℕ). base +ℤ (l.run_stride *ℤ pos d +ℤ pos 0)) column
        ∙ ring base (l.run_stride *ℤ pos k)
      where
        ring : (b y : ℤ) → b +ℤ (y +ℤ pos 0) ≡ b +ℤ y
        ring b y = simp ints (simp atoms (omega arith))

  module _ (base : ℤ) (b : Bounded (run_of l ∷ outer_of l) base) (values : List Float)
      (w : all_inside (run_of l ∷ outer_of l) l.total base (length values) ≡ true) (end : ℕ) (few : end ≤ l.total) where
    module _ (k : ℕ) (h : k < end) where
      abbrev piece : RangePiece
      piece = piece_of l end (range_at l base k)

      here : PieceHere l base end (range_at l base k) piece
      unfolding range_at
      here = piece-here l t base b end (range_at l base k) refl h piece refl

      all : PieceTaken l base values end (range_at l base k) piece
      unfolding range_at
      all = taken l t base b values w end few (range_at l base k) refl h piece refl

      piece-first : piece.first ≡ base +ℤ l.run_stride *ℤ pos k
      unfolding range_at
      piece-first = here.first_is ∙ element base k (omega (arith, few))

      piece-len : piece.len ≡ end - k
      unfolding range_at
      piece-len = let e : piece.len ≡ piece_length l.run_len end k = here.len_is in omega (arith, e, column base k (omega (arith, few)), run-total)

      from-inside : PlacesInside (length values) (base +ℤ l.run_stride *ℤ pos k) l.run_stride (end - k)
      from-inside =
          subst (λ (n : ℕ). PlacesInside (length values) (base +ℤ l.run_stride *ℤ pos k) l.run_stride n) piece-len
          (subst (λ (z : ℤ). PlacesInside (length values) z l.run_stride piece.len) piece-first all.inside)

      one_piece : pieces_of l base values k end ≡ piece_at l base values end k ∷ []
      unfolding range_at
      one_piece =
          let e : piece.next.at ≡ k + piece.len = all.next_at in
          all.pieces
          ∙ ap (λ (ps : List Piece). piece_at l base values end k ∷ ps)
          (pieces_none l base values end (end - piece.next.at) piece.next.at (omega (arith, e, piece-len)))

      pub line-joined : worked (eq_z l.run_stride (pos 1)) (strided values (base +ℤ l.run_stride *ℤ pos k) l.run_stride (end - k))
          ≡ joined_pieces (pieces_of l base values k end)
      unfolding range_at joined_pieces
      line-joined =
          ap (λ (z : ℤ). worked (eq_z l.run_stride (pos 1)) (strided values z l.run_stride (end - k))) (sym piece-first)
          ∙ ap (λ (n : ℕ). worked (eq_z l.run_stride (pos 1)) (strided values piece.first l.run_stride n)) (sym piece-len)
          ∙ all.worked_is
          ∙ ap joined_pieces (sym one_piece)

    pub line-inside : 0 < end → PlacesInside (length values) base l.run_stride end
    line-inside h =
        subst (λ (z : ℤ). PlacesInside (length values) z l.run_stride end) (sym (place-first base l.run_stride))
        (simp unary_clauses at (from-inside 0 h))

-- ---- the machine's product and sum: the first place and place k lie inside the values, so the way between them fits
module _ (len : ℕ) (base stride : ℤ) (end : ℕ) (p : PlacesInside len base stride end) (few : len ≤ 2 ^ 63) (k : ℕ) (h : k < end) where
  small : (i : ℕ) → i < end → Small (base +ℤ stride *ℤ pos i)
  small i g = record { least = p.least i g; most = below (base +ℤ stride *ℤ pos i) (p.most i g) }
    where
      below : (z : ℤ) → z <ℤ pos len → z <ℤ pos (2 ^ 63)
      below z = simp ints (simp atoms (omega arith))

  pub way-fits : SFits w64 (stride *ℤ pos k)
  way-fits = share-fits base (stride *ℤ pos k) (subst Small (sym (place-first base stride)) (small 0 (omega arith))) (small k h)

  pub place-fits : SFits w64 (base +ℤ stride *ℤ pos k)
  place-fits = small-fits _ (small k h)
