-- The offset list, piece by piece.
-- Assumes nothing.
use Prim.Native.Nat.{ℕ, zero, suc, ◌+◌, ◌-◌, ◌/◌, ◌%◌, ◌≤◌, ◌<◌}
use mathlib.Core.Path.{◌≡◌, refl, sym, ◌∙◌, ap}
use mathlib.Core.List.{List, [], ◌∷◌, ◌++◌, append_assoc, append-nil}
use native.Mathlib.Omega.{arith}
use native.Mathlib.Numerals.{add-one}
use native.Mathlib.Nat.{add-zero, zero-add, suc-add, add-suc}
use lib.ListN.{length, take, drop, get_or, set, length-append, length-drop, drop_of_length-le}
use lib.Seq.{drop-cons, set_at, drop-append-add, drop-drop, take_at}
use lib.Arith.{digits_mod}
use lib.IntN.{ℤ, pos, ◌+ℤ◌, ◌*ℤ◌}
use Rattle.integers.proofs.Difference.{ints, atoms}
use Rattle.integers.proofs.Places.{place-first, place-next, place-later}
use Rattle.layout.specs.declared.axis.ReduceOuterAxis.{ReduceOuterAxis}
use Rattle.offsets.specs.Elements.{offset}
use Rattle.offsets.specs.InnerLists.{steps}
use Rattle.offsets.specs.Lists.{offsets_from}
use Rattle.layout.specs.Axes.{axis_of}
use Rattle.offsets.specs.InnerCursors.{Bounded, Traversal}
use mir.Val.{SFits}
use mir.Syntax.{w64}
use Rattle.layout.specs.declared.traversal.FullTraversal.{FullTraversal}
use Rattle.offsets.specs.declared.pieces.RangeCursor.{RangeCursor}
use Rattle.offsets.specs.declared.pieces.RangePiece.{RangePiece}
use Rattle.offsets.specs.Pieces.{run_of, outer_of}
use Rattle.offsets.specs.InnerPieces.{range_at, piece_of}
use Rattle.offsets.proofs.Stepping.{small-fits, bounded-offset}
use Rattle.offsets.proofs.Walking.{column-split, along, some_left, PieceHere, piece-here}

-- ---- numbers a stride apart
pub steps-append : (z s : ℤ) (m n : ℕ) → steps z s (m + n) ≡ steps z s m ++ steps (z +ℤ s *ℤ pos m) s n
unfolding steps
steps-append z s zero n = ap (steps z s) (zero-add n) ∙ ap (λ (y : ℤ). steps y s n) (place-first z s)
steps-append z s (suc m) n =
    ap (steps z s) (suc-add m n)
    ∙ ap (λ (l : List ℤ). z ∷ l) (steps-append (z +ℤ s) s m n ∙ ap (λ (y : ℤ). steps (z +ℤ s) s m ++ steps y s n) (place-later z s m))

pub steps-more : (z s : ℤ) (n : ℕ) → steps z s (n + 1) ≡ steps z s n ++ (z +ℤ s *ℤ pos n) ∷ []
unfolding steps
steps-more z s n = steps-append z s n 1

pub length-steps : (z s : ℤ) (n : ℕ) → length (steps z s n) ≡ n
unfolding steps
length-steps z s zero = refl
length-steps z s (suc n) = ap suc (length-steps (z +ℤ s) s n)

-- the number of place k, a stride on from that of the place before it; at the first place it is the first itself
pub place-on : (z s at : ℤ) (k : ℕ) → at ≡ z +ℤ s *ℤ pos (k - 1) → 0 < k → at +ℤ s ≡ z +ℤ s *ℤ pos k
place-on z s at k e h =
    let n : k - 1 + 1 ≡ k = omega arith in ap (λ (y : ℤ). y +ℤ s) e ∙ place-next z s (k - 1) ∙ ap (λ (m : ℕ). z +ℤ s *ℤ pos m) n

pub place-kept : (z s at : ℤ) (k : ℕ) → at ≡ z +ℤ s *ℤ pos (k - 1) → k ≤ 0 → at ≡ z +ℤ s *ℤ pos k
place-kept z s at k e h = let n : k - 1 ≡ k = omega arith in e ∙ ap (λ (m : ℕ). z +ℤ s *ℤ pos m) n

-- a run with its first i numbers written
unfoldable pub filled : List ℤ → ℤ → ℤ → ℕ → List ℤ
filled run z s i = steps z s i ++ drop i run

module _ (run : List ℤ) (z s : ℤ) where
  pub filled_none : run ≡ filled run z s 0
  unfolding filled steps
  filled_none = refl

  pub filled_more : (i : ℕ) → i < length run → set (filled run z s i) i (z +ℤ s *ℤ pos i) ≡ filled run z s (i + 1)
  unfolding filled
  filled_more i h =
      ap (λ (l : List ℤ). set (steps z s i ++ l) i (z +ℤ s *ℤ pos i)) (drop-cons run i (pos 0) h)
      ∙ set_at (steps z s i) (get_or run i (pos 0)) (drop (suc i) run) (z +ℤ s *ℤ pos i) i (length-steps z s i)
      ∙ rw (steps-more z s i, append_assoc, add-one) refl

  pub filled-all : filled run z s (length run) ≡ steps z s (length run)
  unfolding filled
  filled-all = let all : length run ≤ length run = omega arith in rw (drop_of_length-le run all) (append-nil (steps z s (length run)))

-- a piece of a run, as numbers a stride apart
pub piece-offsets : (a : ReduceOuterAxis) (xs : List ReduceOuterAxis) (base : ℤ) (n k : ℕ) → 1 ≤ a.extent → k % a.extent + n ≤ a.extent
    → steps (offset (a ∷ xs) base k) a.source_step n ≡ offsets_from (a ∷ xs) base k n
unfolding steps offsets_from
piece-offsets a xs base zero k h l = refl
piece-offsets a xs base (suc zero) k h l = refl
piece-offsets a xs base (suc (suc n)) k h l =
    let m : k % a.extent + 1 < a.extent = omega arith in
    let e : offset (a ∷ xs) base k +ℤ a.source_step ≡ offset (a ∷ xs) base (suc k) =
    sym (ap (λ (j : ℕ). offset (a ∷ xs) base j) (sym (add-one k)) ∙ along a xs base k h 1 m ∙ one (offset (a ∷ xs) base k) a.source_step) in
    let d : suc k % a.extent ≡ k % a.extent + 1 =
    ap (λ (j : ℕ). j % a.extent) (sym (add-one k) ∙ column-split a xs base k h 1) ∙ digits_mod (k / a.extent) m in
    ap (λ (z : ℤ). offset (a ∷ xs) base k ∷ steps z a.source_step (suc n)) e
    ∙ ap (λ (l : List ℤ). offset (a ∷ xs) base k ∷ l) (piece-offsets a xs base (suc n) (suc k) h (omega arith))
  where
    one : (z s : ℤ) → z +ℤ s *ℤ pos 1 ≡ z +ℤ s
    one z s = simp ints (simp atoms (omega arith))

-- the piece at a cursor, likewise
pub piece-steps : (l : FullTraversal) → Traversal l → (base : ℤ) → Bounded (run_of l ∷ outer_of l) base → (end : ℕ) (c : RangeCursor) (p : RangePiece)
    → PieceHere l base end c p
    → steps p.first l.run_stride p.len ≡ offsets_from (run_of l ∷ outer_of l) base c.at p.len
unfolding run_of axis_of
piece-steps l t base b end c p here =
    ap (λ (z : ℤ). steps z l.run_stride p.len) here.first_is
    ∙ piece-offsets (axis_of l.run_len l.run_stride) (outer_of l) base p.len c.at (some_left l t base b c.at) here.in_run

-- ---- lists of offsets, joined
pub offsets-append : (xs : List ReduceOuterAxis) (base : ℤ) (k m n : ℕ)
    → offsets_from xs base k (m + n) ≡ offsets_from xs base k m ++ offsets_from xs base (k + m) n
unfolding offsets_from
offsets-append xs base k zero n = ap (offsets_from xs base k) (zero-add n) ∙ ap (λ (j : ℕ). offsets_from xs base j n) (sym (add-zero k))
offsets-append xs base k (suc m) n =
    ap (offsets_from xs base k) (suc-add m n)
    ∙ ap (λ (l : List ℤ). offset xs base k ∷ l)
    (offsets-append xs base (suc k) m n ∙ ap (λ (j : ℕ). offsets_from xs base (suc k) m ++ offsets_from xs base j n) (suc-add k m ∙ sym (add-suc k m)))

pub length-offsets : (xs : List ReduceOuterAxis) (base : ℤ) (k n : ℕ) → length (offsets_from xs base k n) ≡ n
unfolding offsets_from
length-offsets xs base k zero = refl
length-offsets xs base k (suc n) = ap suc (length-offsets xs base (suc k) n)

-- the buffer with the offsets of start to k - 1 in it
unfoldable pub listed : List ReduceOuterAxis → ℤ → ℕ → ℕ → List ℤ → List ℤ
listed xs base start n out = offsets_from xs base start n ++ drop n out

pub listed_more : (xs : List ReduceOuterAxis) (base : ℤ) (start n m : ℕ) (out : List ℤ) → n + m ≤ length out
    → take n (listed xs base start n out) ++ offsets_from xs base (start + n) m ++ drop (n + m) (listed xs base start n out) ≡ listed xs base start (n + m) out
unfolding listed
listed_more xs base start n m out h =
    ap (λ (l : List ℤ). l ++ offsets_from xs base (start + n) m ++ drop (n + m) (offsets_from xs base start n ++ drop n out))
    (take_at (offsets_from xs base start n) (drop n out) n (length-offsets xs base start n))
    ∙ ap (λ (l : List ℤ). offsets_from xs base start n ++ offsets_from xs base (start + n) m ++ l) tail
    ∙ ap (λ (l : List ℤ). l ++ drop (n + m) out) (sym (offsets-append xs base start n m))
  where
    tail : drop (n + m) (offsets_from xs base start n ++ drop n out) ≡ drop (n + m) out
    tail =
        ap (λ (j : ℕ). drop (j + m) (offsets_from xs base start n ++ drop n out)) (sym (length-offsets xs base start n))
        ∙ drop-append-add (offsets_from xs base start n) (drop n out) m ∙ drop-drop m n out

pub length-listed : (xs : List ReduceOuterAxis) (base : ℤ) (start n : ℕ) (out : List ℤ) → n ≤ length out → length (listed xs base start n out) ≡ length out
unfolding listed
length-listed xs base start n out h = simp (length-append, length-offsets, length-drop) (omega arith)

-- ---- the loop over the pieces: the cursor stands at c.at while that is below the end, and the offsets before it are listed
pub record Listing (l : FullTraversal) (base : ℤ) (start end : ℕ) (out₀ out : List ℤ) (c : RangeCursor) : Type 0 where
  pub from : start ≤ c.at
  pub upto : c.at ≤ end
  pub cursor_is : c.at < end → c ≡ range_at l base c.at
  pub lists : out ≡ listed (run_of l ∷ outer_of l) base start (c.at - start) out₀

pub listing_none : (l : FullTraversal) (base : ℤ) (start end : ℕ) (out : List ℤ) (c : RangeCursor) → start < end → c ≡ range_at l base start
    → Listing l base start end out out c
unfolding range_at listed offsets_from
listing_none l base start end out c h e =
    let k : c.at ≡ start = ap (λ (x : RangeCursor). x.at) e in
    record {
      from = omega arith;
      upto = omega arith;
      cursor_is = λ _. e ∙ ap (range_at l base) (sym k);
      lists = ap (λ (m : ℕ). offsets_from (run_of l ∷ outer_of l) base start m ++ drop m out) (z k);
    }
  where
    z : c.at ≡ start → 0 ≡ c.at - start
    z k = omega arith

-- what the piece p at the cursor gives the loop
pub record ListTaken (l : FullTraversal) (base : ℤ) (start end : ℕ) (out₀ out : List ℤ) (c : RangeCursor) (p : RangePiece) : Type 0 where
  pub some_len : 1 ≤ p.len
  pub enough : c.at - start + p.len ≤ length out
  pub first_fits : SFits w64 p.first
  pub offsets_fit : (i : ℕ) → i < p.len → SFits w64 (p.first +ℤ l.run_stride *ℤ pos i)
  pub next_at : p.next.at ≡ c.at + p.len
  pub more : (r : List ℤ) → r ≡ take (c.at - start) out ++ steps p.first l.run_stride p.len ++ drop (c.at - start + p.len) out
      → Listing l base start end out₀ r p.next

module _ (l : FullTraversal) (t : Traversal l) (base : ℤ) (b : Bounded (run_of l ∷ outer_of l) base) (start end : ℕ) (out₀ out : List ℤ) (c : RangeCursor)
    (room : end - start ≤ length out₀)
    (q : Listing l base start end out₀ out c) (h : c.at < end) (p : RangePiece) (e : p ≡ piece_of l end c) where
  here : PieceHere l base end c p
  here = piece-here l t base b end c (q.cursor_is h) h p e

  -- the piece's offsets are the elements'
  listed-is : steps p.first l.run_stride p.len ≡ offsets_from (run_of l ∷ outer_of l) base c.at p.len
  listed-is = piece-steps l t base b end c p here

  enough : c.at - start + p.len ≤ length out
  enough =
      omega (arith, ap length q.lists, length-listed (run_of l ∷ outer_of l) base start (c.at - start) out₀ (omega (arith, q.from)), here.ends, q.from)

  first_fits : SFits w64 p.first
  first_fits = rw here.first_is (small-fits _ (bounded-offset (run_of l ∷ outer_of l) base c.at t.axes b))

  offsets_fit : (i : ℕ) → i < p.len → SFits w64 (p.first +ℤ l.run_stride *ℤ pos i)
  offsets_fit i k = rw (here.offsets i k) (small-fits _ (bounded-offset (run_of l ∷ outer_of l) base (c.at + i) t.axes b))

  listing-more : (r : List ℤ) → r ≡ take (c.at - start) out ++ steps p.first l.run_stride p.len ++ drop (c.at - start + p.len) out
      → Listing l base start end out₀ r p.next
  listing-more r g =
      record {
        from = omega (arith, here.next_at, q.from);
        upto = omega (arith, here.next_at, here.ends);
        cursor_is = here.next_cursor_is;
        lists =
            g
            ∙ ap (λ (x : List ℤ). take (c.at - start) out ++ x ++ drop (c.at - start + p.len) out) listed-is
            ∙ ap (λ (o : List ℤ). take (c.at - start) o ++ offsets_from (run_of l ∷ outer_of l) base c.at p.len ++ drop (c.at - start + p.len) o)
            q.lists
            ∙ ap (λ (j : ℕ). take (c.at - start) (listed (run_of l ∷ outer_of l) base start (c.at - start) out₀)
            ++ offsets_from (run_of l ∷ outer_of l) base j p.len
            ++ drop (c.at - start + p.len) (listed (run_of l ∷ outer_of l) base start (c.at - start) out₀)) back
            ∙ listed_more (run_of l ∷ outer_of l) base start (c.at - start) p.len out₀ (omega (arith, here.ends, q.from))
            ∙ ap (λ (m : ℕ). listed (run_of l ∷ outer_of l) base start m out₀) ahead;
      }
    where
      back : c.at ≡ start + (c.at - start)
      back = omega (arith, q.from)

      ahead : c.at - start + p.len ≡ p.next.at - start
      ahead = omega (arith, q.from, here.next_at)

  pub listing-taken : ListTaken l base start end out₀ out c p
  listing-taken =
      record { some_len = here.some_len; enough = enough; first_fits = first_fits; offsets_fit = offsets_fit; next_at = here.next_at; more = listing-more }
