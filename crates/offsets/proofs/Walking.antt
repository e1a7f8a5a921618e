-- The pieces of a range: along a run the offsets are a stride apart, and the next piece begins where this one ends.
-- Assumes nothing.
use Prim.Native.Nat.{ℕ, ◌+◌, ◌-◌, ◌*◌, ◌/◌, ◌%◌, ◌^◌, ◌≤◌, ◌<◌}
use mathlib.Core.Path.{◌≡◌, refl, sym, ◌∙◌, ap, subst}
use mathlib.Core.List.{List, [], ◌∷◌, ◌++◌}
use native.Mathlib.Omega.{arith}
use native.Mathlib.Nat.{div-add-mod', mod-lt, zero-mod, zero-div}
use mathlib.Core.Bool.{Bool, cond}
use borrow.Author.Tests.{lt-ltb}
use lib.ListN.{length, replicate, length-take, replicate-append-replicate}
use lib.Arith.{digits_div, digits_mod}
use lib.IntN.{ℤ, pos, ◌+ℤ◌, ◌*ℤ◌}
use Rattle.integers.proofs.Difference.{ints, atoms}
use Rattle.layout.specs.declared.axis.ReduceOuterAxis.{ReduceOuterAxis}
use Rattle.layout.specs.Axes.{PLACES, axis_of}
use Rattle.offsets.specs.declared.cursor.ReduceOuterCursor.{ReduceOuterCursor}
use Rattle.offsets.specs.Elements.{digits, shift, offset}
use Rattle.layout.specs.declared.traversal.FullTraversal.{FullTraversal}
use Rattle.offsets.specs.InnerCursors.{Axis, Axes, Bounded, AtElement, cursor_at, advanced, Traversal}
use Rattle.offsets.specs.Pieces.{run_of, outer_of, piece_length}
use Rattle.offsets.specs.declared.pieces.RangeCursor.{RangeCursor}
use Rattle.offsets.specs.declared.pieces.RangePiece.{RangePiece}
use Rattle.offsets.specs.InnerPieces.{range_at, piece_of, OnRange}
use Rattle.offsets.proofs.Stepping.{offset-cons, offset-moved, axis-small, axes-at, bounded-after, bounded-offset, Small, advance-next}

-- ---- along a run
module _ (a : ReduceOuterAxis) (xs : List ReduceOuterAxis) (base : ℤ) (k : ℕ) (h : 1 ≤ a.extent) where
  pub column-split : (j : ℕ) → k + j ≡ k / a.extent * a.extent + (k % a.extent + j)
  column-split j = let q = div-add-mod' k a.extent in omega arith

  -- the offset j further on in the run
  pub along : (j : ℕ) → k % a.extent + j < a.extent → offset (a ∷ xs) base (k + j) ≡ offset (a ∷ xs) base k +ℤ a.source_step *ℤ pos j
  along j l =
      offset-cons a xs base (k + j)
      ∙ ap (λ (d : ℕ). offset xs (base +ℤ a.source_step *ℤ pos d) ((k + j) / a.extent))
      (ap (λ (n : ℕ). n % a.extent) (column-split j) ∙ digits_mod (k / a.extent) l)
      ∙ ap (λ (q : ℕ). offset xs (base +ℤ a.source_step *ℤ pos (k % a.extent + j)) q)
      (ap (λ (n : ℕ). n / a.extent) (column-split j) ∙ digits_div (k / a.extent) l)
      ∙ ap (λ (z : ℤ). offset xs z (k / a.extent)) (ring base a.source_step (k % a.extent) j)
      ∙ offset-moved xs (base +ℤ a.source_step *ℤ pos (k % a.extent)) (a.source_step *ℤ pos j) (k / a.extent)
      ∙ ap (λ (z : ℤ). z +ℤ a.source_step *ℤ pos j) (sym (offset-cons a xs base k))
    where
      ring : (b s : ℤ) (d j : ℕ) → b +ℤ s *ℤ pos (d + j) ≡ (b +ℤ s *ℤ pos d) +ℤ s *ℤ pos j
      ring b s d j = simp ints (simp atoms (omega arith))

  -- the run's column, from the cursor's offset
  pub at-column : offset xs base (k / a.extent) +ℤ a.source_step *ℤ pos (k % a.extent) ≡ offset (a ∷ xs) base k
  at-column = sym (offset-cons a xs base k ∙ offset-moved xs base (a.source_step *ℤ pos (k % a.extent)) (k / a.extent))

-- ---- the first element: no digit is above 0, and the offset is the base
first-digits : (xs : List ReduceOuterAxis) → digits xs 0 ≡ replicate (length xs) 0
unfolding digits
first-digits [] = refl
first-digits (a ∷ xs) =
    ap (λ (d : ℕ). d ∷ digits xs (0 / a.extent)) (zero-mod a.extent)
    ∙ ap (λ (k : ℕ). 0 ∷ digits xs k) (zero-div a.extent)
    ∙ ap (λ (ds : List ℕ). 0 ∷ ds) (first-digits xs)

first-shift : (xs : List ReduceOuterAxis) → shift xs (replicate (length xs) 0) ≡ pos 0
unfolding shift
first-shift [] = refl
first-shift (a ∷ xs) = ap (λ (z : ℤ). a.source_step *ℤ pos 0 +ℤ z) (first-shift xs) ∙ ring a.source_step
  where
    ring : (s : ℤ) → s *ℤ pos 0 +ℤ pos 0 ≡ pos 0
    ring s = simp ints (simp atoms (omega arith))

pub first-element : (l : FullTraversal) → Traversal l → (base : ℤ)
    → record { at = 0; col = 0; runs = record { source_offset = base; digits = replicate PLACES 0 } } ≡ range_at l base 0
unfolding range_at cursor_at offset outer_of
first-element l t base =
    ap (λ (d : ℕ). record { at = 0; col = d; runs = record { source_offset = base; digits = replicate PLACES 0 } }) (sym (zero-mod l.run_len))
    ∙ ap (λ (c : ReduceOuterCursor). record { at = 0; col = 0 % l.run_len; runs = c }) start
    ∙ ap (λ (k : ℕ). record { at = 0; col = 0 % l.run_len; runs = cursor_at (outer_of l) base k }) (sym (zero-div l.run_len))
  where
    few : length (outer_of l) ≤ PLACES
    few = simp length-take (omega (arith, t.few))

    whole : replicate PLACES 0 ≡ digits (outer_of l) 0 ++ replicate (PLACES - length (outer_of l)) 0
    whole =
        let e : PLACES ≡ length (outer_of l) + (PLACES - length (outer_of l)) = omega (arith, few) in
        ap (λ (k : ℕ). replicate k 0) e
        ∙ sym (replicate-append-replicate (length (outer_of l)) (PLACES - length (outer_of l)) 0)
        ∙ ap (λ (ds : List ℕ). ds ++ replicate (PLACES - length (outer_of l)) 0) (sym (first-digits (outer_of l)))

    still : base ≡ base +ℤ shift (outer_of l) (digits (outer_of l) 0)
    still =
        sym (ap (λ (ds : List ℕ). base +ℤ shift (outer_of l) ds) (first-digits (outer_of l))
        ∙ ap (λ (z : ℤ). base +ℤ z) (first-shift (outer_of l))
        ∙ ring base)
      where
        ring : (b : ℤ) → b +ℤ pos 0 ≡ b
        ring b = simp ints (simp atoms (omega arith))

    start : record { source_offset = base; digits = replicate PLACES 0 } ≡ cursor_at (outer_of l) base 0
    start =
        ap (λ (z : ℤ). record { source_offset = z; digits = replicate PLACES 0 }) still
        ∙ ap (λ (ds : List ℕ). record { source_offset = base +ℤ shift (outer_of l) (digits (outer_of l) 0); digits = ds }) whole

-- ---- the piece at element k
module _ (l : FullTraversal) (t : Traversal l) (base : ℤ) (b : Bounded (run_of l ∷ outer_of l) base) (k : ℕ) where
  run-axis : Axis (run_of l)
  run-axis = (axes-at (run_of l) (outer_of l) (run_of l ∷ outer_of l) refl t.axes).0

  pub outer-axes : Axes (outer_of l)
  outer-axes = (axes-at (run_of l) (outer_of l) (run_of l ∷ outer_of l) refl t.axes).1

  pub outer-bounded : Bounded (outer_of l) base
  outer-bounded = bounded-after (run_of l) (outer_of l) base b

  pub some_left : 1 ≤ l.run_len
  unfolding run_of axis_of
  some_left = run-axis.1

  pub column-small : k % l.run_len < 2 ^ 63
  unfolding run_of axis_of
  column-small = omega (arith, mod-lt k some_left, axis-small (run_of l) run-axis)

  -- the cursor's offset, and with the column's share
  pub run_small : Small (offset (outer_of l) base (k / l.run_len))
  run_small = bounded-offset (outer_of l) base (k / l.run_len) outer-axes outer-bounded

  pub first_is : offset (outer_of l) base (k / l.run_len) +ℤ l.run_stride *ℤ pos (k % l.run_len) ≡ offset (run_of l ∷ outer_of l) base k
  unfolding run_of axis_of
  first_is = at-column (axis_of l.run_len l.run_stride) (outer_of l) base k some_left

  pub first_small : Small (offset (outer_of l) base (k / l.run_len) +ℤ l.run_stride *ℤ pos (k % l.run_len))
  first_small = rw first_is (bounded-offset (run_of l ∷ outer_of l) base k t.axes b)

  pub run-at-element : AtElement (outer_of l) (cursor_at (outer_of l) base (k / l.run_len))
  unfolding outer_of
  run-at-element =
      record { base = base; index = k / l.run_len; axes = outer-axes; few = simp length-take (omega (arith, t.few)); bounded = outer-bounded; at = refl }

  module _ (end : ℕ) (h : k < end) where
    pub len-pos : 1 ≤ piece_length l.run_len end k
    len-pos = omega (arith, mod-lt k some_left)

    pub len-run : k % l.run_len + piece_length l.run_len end k ≤ l.run_len
    len-run = omega (arith, mod-lt k some_left)

    pub len-end : k + piece_length l.run_len end k ≤ end
    len-end = omega arith

    -- every offset of the piece is an element's
    pub piece-offset : (i : ℕ) → i < piece_length l.run_len end k
        → offset (run_of l ∷ outer_of l) base k +ℤ l.run_stride *ℤ pos i ≡ offset (run_of l ∷ outer_of l) base (k + i)
    unfolding run_of axis_of
    piece-offset i q = sym (along (axis_of l.run_len l.run_stride) (outer_of l) base k some_left i (omega (arith, len-run)))

    -- a run that is done ends at a multiple of the run length
    whole : k + piece_length l.run_len end k < end → k + piece_length l.run_len end k ≡ (k / l.run_len + 1) * l.run_len + 0
    whole q = let d = div-add-mod' k l.run_len in omega (arith, mod-lt k some_left)

    -- the piece at the cursor of k
    pub piece-first : (piece_of l end (range_at l base k)).first ≡ offset (run_of l ∷ outer_of l) base k
    unfolding piece_of range_at cursor_at
    piece-first = first_is

    pub piece-len : (piece_of l end (range_at l base k)).len ≡ piece_length l.run_len end k
    unfolding piece_of range_at
    piece-len = refl

    pub piece-at : (piece_of l end (range_at l base k)).next.at ≡ k + piece_length l.run_len end k
    unfolding piece_of range_at
    piece-at = refl

    pub piece-next : k + piece_length l.run_len end k < end → (piece_of l end (range_at l base k)).next ≡ range_at l base (k + piece_length l.run_len end k)
    unfolding piece_of range_at
    piece-next q =
        ap (λ (x : Bool). record {
          at = k + len;
          col = 0;
          runs = cond x (advanced (outer_of l) (cursor_at (outer_of l) base (k / l.run_len))) (cursor_at (outer_of l) base (k / l.run_len));
        })
        (lt-ltb (k + len) end q)
        ∙ ap (λ (c : ReduceOuterCursor). record { at = k + len; col = 0; runs = c }) (advance-next (outer_of l) base (k / l.run_len) outer-axes)
        ∙ ap (λ (d : ℕ). record { at = k + len; col = d; runs = cursor_at (outer_of l) base (k / l.run_len + 1) })
        (sym (ap (λ (j : ℕ). j % l.run_len) (whole q) ∙ digits_mod (k / l.run_len + 1) some_left))
        ∙ ap (λ (d : ℕ). record { at = k + len; col = (k + len) % l.run_len; runs = cursor_at (outer_of l) base d })
        (sym (ap (λ (j : ℕ). j / l.run_len) (whole q) ∙ digits_div (k / l.run_len + 1) some_left))
      where
        len : ℕ
        len = piece_length l.run_len end k

-- ---- a cursor that stands on a range
module _ (l : FullTraversal) (t : Traversal l) (c : RangeCursor) (o : OnRange l c) where
  col-is : c.col ≡ c.at % l.run_len
  unfolding range_at
  col-is = ap (λ (x : RangeCursor). x.col) o.cursor_is

  runs-are : c.runs ≡ cursor_at (outer_of l) o.base (c.at / l.run_len)
  unfolding range_at
  runs-are = ap (λ (x : RangeCursor). x.runs) o.cursor_is

  from_is : c.runs.source_offset ≡ offset (outer_of l) o.base (c.at / l.run_len)
  unfolding cursor_at
  from_is = ap (λ (x : ReduceOuterCursor). x.source_offset) runs-are

  pub on-column : c.col < l.run_len
  on-column = rw col-is (mod-lt c.at (some_left l t o.base o.bounded c.at))

  pub on-column-small : c.col < 2 ^ 63
  on-column-small = rw col-is (column-small l t o.base o.bounded c.at)

  pub on-run : Small c.runs.source_offset
  on-run = rw from_is (run_small l t o.base o.bounded c.at)

  pub on-first : Small (c.runs.source_offset +ℤ l.run_stride *ℤ pos c.col)
  on-first = rw from_is (rw col-is (first_small l t o.base o.bounded c.at))

  pub on-element : AtElement (outer_of l) c.runs
  on-element = subst (AtElement (outer_of l)) (sym runs-are) (run-at-element l t o.base o.bounded c.at)

-- ---- the piece p at a cursor c, for the loops over a range
pub record PieceHere (l : FullTraversal) (base : ℤ) (end : ℕ) (c : RangeCursor) (p : RangePiece) : Type 0 where
  pub len_is : p.len ≡ piece_length l.run_len end c.at
  pub first_is : p.first ≡ offset (run_of l ∷ outer_of l) base c.at
  pub some_len : 1 ≤ p.len
  pub in_run : c.at % l.run_len + p.len ≤ l.run_len
  pub ends : c.at + p.len ≤ end
  pub offsets : (i : ℕ) → i < p.len → p.first +ℤ l.run_stride *ℤ pos i ≡ offset (run_of l ∷ outer_of l) base (c.at + i)
  pub next_at : p.next.at ≡ c.at + p.len
  pub next_cursor_is : p.next.at < end → p.next ≡ range_at l base p.next.at

module _ (l : FullTraversal) (t : Traversal l) (base : ℤ) (b : Bounded (run_of l ∷ outer_of l) base) (end : ℕ) (c : RangeCursor)
    (e : c ≡ range_at l base c.at) (h : c.at < end)
    (p : RangePiece) (q : p ≡ piece_of l end c) where
  piece_is : p ≡ piece_of l end (range_at l base c.at)
  piece_is = q ∙ ap (piece_of l end) e

  here-len : p.len ≡ piece_length l.run_len end c.at
  here-len = ap (λ (x : RangePiece). x.len) piece_is ∙ piece-len l t base b c.at end h

  here-first : p.first ≡ offset (run_of l ∷ outer_of l) base c.at
  here-first = ap (λ (x : RangePiece). x.first) piece_is ∙ piece-first l t base b c.at end h

  here-next : p.next.at ≡ c.at + p.len
  here-next = ap (λ (x : RangePiece). x.next.at) piece_is ∙ piece-at l t base b c.at end h ∙ ap (λ (n : ℕ). c.at + n) (sym here-len)

  pub piece-here : PieceHere l base end c p
  piece-here =
      record {
        len_is = here-len;
        first_is = here-first;
        some_len = rw here-len (len-pos l t base b c.at end h);
        in_run = rw here-len (len-run l t base b c.at end h);
        ends = rw here-len (len-end l t base b c.at end h);
        offsets = λ i k. rw here-first (piece-offset l t base b c.at end h i (rw here-len at k));
        next_at = here-next;
        next_cursor_is = λ k.
            ap (λ (x : RangePiece). x.next) piece_is
            ∙ piece-next l t base b c.at end h (omega (arith, here-next, here-len, k))
            ∙ ap (λ (n : ℕ). range_at l base (c.at + n)) (sym here-len) ∙ ap (range_at l base) (sym here-next);
      }
