-- Whole runs ahead of a cursor, along the first outer axis: how many, where they lie, and the cursor behind them.
-- Assumes nothing.
use Prim.Native.Nat.{ℕ, zero, suc, ◌+◌, ◌-◌, ◌*◌, ◌/◌, ◌%◌, ◌≤◌, ◌<◌}
use mathlib.Core.Path.{◌≡◌, refl, sym, ◌∙◌, ap}
use mathlib.Core.Bool.{true}
use mathlib.Core.List.{List, ◌∷◌, ◌++◌}
use native.Mathlib.Omega.{arith}
use native.Mathlib.Nat.{div-add-mod', mod-lt, add-zero, mul-le-mul_right}
use lib.ListN.{get_or}
use lib.Arith.{digits_div, digits_mod}
use lib.IntN.{ℤ, pos, ◌+ℤ◌, ◌*ℤ◌}
use Rattle.integers.proofs.Difference.{ints, atoms}
use Rattle.integers.proofs.Places.{place-first, place-next, place-later}
use Rattle.layout.specs.declared.axis.ReduceOuterAxis.{ReduceOuterAxis}
use Rattle.layout.specs.declared.traversal.FullTraversal.{FullTraversal}
use Rattle.layout.specs.Axes.{axis_of}
use Rattle.offsets.specs.declared.pieces.RangeCursor.{RangeCursor}
use Rattle.offsets.specs.declared.pieces.RangePiece.{RangePiece}
use Rattle.offsets.specs.declared.pieces.RangeStrip.{RangeStrip}
use Rattle.offsets.specs.Elements.{offset, inside_values, all_inside}
use Rattle.offsets.specs.InnerCursors.{Bounded, cursor_at, Traversal}
use Rattle.offsets.specs.Lists.{offsets_from}
use Rattle.offsets.specs.InnerLists.{steps, runs_places}
use Rattle.offsets.specs.Pieces.{run_of, outer_of}
use Rattle.offsets.specs.InnerPieces.{range_at, piece_of, skipped, OnRange, StripHere}
use Rattle.offsets.proofs.Stepping.{axes-at}
use Rattle.offsets.proofs.Walking.{PieceHere, piece-here, first_is}
use Rattle.offsets.proofs.Writing.{offsets-append}
use Rattle.offsets.proofs.Visiting.{element-inside}
use Rattle.offsets.proofs.Skipping.{first_axis, first-axis, runs-lie, first-digit, skipped-is}

pub run-some : (l : FullTraversal) → Traversal l → 1 ≤ l.run_len
unfolding run_of axis_of
run-some l t = (axes-at (run_of l) (outer_of l) (run_of l ∷ outer_of l) refl t.axes).0.1

-- ---- how many whole runs lie ahead of a cursor: to the end of the axis, and of the range
pub runs-ahead : (l : FullTraversal) (t : Traversal l) (c : RangeCursor) (o : OnRange l c) (end r : ℕ) → c.at < end → 0 < l.axis_count → c.col ≡ 0
    → r ≤ (first_axis l).extent - get_or c.runs.digits 0 0 → r * l.run_len ≤ end - c.at
    → (0 < l.axis_count) × (c.at % l.run_len ≡ 0) × (c.at / l.run_len % (first_axis l).extent + r ≤ (first_axis l).extent)
    × (c.at + r * l.run_len ≤ end)
unfolding range_at
runs-ahead l t c o end r h some-axis z a k =
    let d = first-digit l t some-axis o.base o.bounded c o.cursor_is in (
      some-axis,
      sym (ap (λ (x : RangeCursor). x.col) o.cursor_is) ∙ z,
      omega (arith, d, mod-lt (c.at / l.run_len) (first-axis l t some-axis).1),
      omega arith,
    )

-- ---- n whole runs from a cursor on
module _ (l : FullTraversal) (t : Traversal l) (base : ℤ) (b : Bounded (run_of l ∷ outer_of l) base) (end : ℕ)
    (c : RangeCursor) (cursor_is : c ≡ range_at l base c.at) (n : ℕ)
    (some-axis : 0 < l.axis_count) (at-run : c.at % l.run_len ≡ 0) (left : c.at / l.run_len % (first_axis l).extent + n ≤ (first_axis l).extent)
    (room : c.at + n * l.run_len ≤ end) where
  pub runs-begin : c.at ≡ c.at / l.run_len * l.run_len
  runs-begin = omega (arith, div-add-mod' c.at l.run_len)

  pub runs-end : (c.at / l.run_len + n) * l.run_len ≡ c.at + n * l.run_len
  runs-end = omega (arith, runs-begin)

  from_is : c.runs.source_offset ≡ offset (outer_of l) base (c.at / l.run_len)
  unfolding range_at cursor_at
  from_is = ap (λ (x : RangeCursor). x.runs.source_offset) cursor_is

  pub runs-at : (j : ℕ) → j < n → c.runs.source_offset +ℤ (first_axis l).source_step *ℤ pos j ≡ offset (outer_of l) base (c.at / l.run_len + j)
  runs-at j k = ap (λ (z : ℤ). z +ℤ (first_axis l).source_step *ℤ pos j) from_is ∙ runs-lie l t some-axis base b (c.at / l.run_len) n left j k

  -- the last of the runs, and the cursor at it
  pub last-digit : 1 ≤ n → get_or c.runs.digits 0 0 + (n - 1) < (first_axis l).extent
  last-digit one = omega (arith, first-digit l t some-axis base b c cursor_is)

  module _ (one : 1 ≤ n) (d : RangeCursor) (e : d ≡ skipped l (n - 1) c) where
    last-is : d ≡ range_at l base (c.at + (n - 1) * l.run_len)
    last-is = e ∙ skipped-is l t some-axis base b c cursor_is (n - 1) (last-digit one)

    last-at : d.at ≡ c.at + (n - 1) * l.run_len
    unfolding range_at
    last-at = ap (λ (x : RangeCursor). x.at) last-is

    last-cursor-is : d ≡ range_at l base d.at
    last-cursor-is = last-is ∙ ap (range_at l base) (sym last-at)

    last-run : d.at + l.run_len ≡ c.at + n * l.run_len
    last-run =
        let m : n ≡ n - 1 + 1 = omega arith in
        let k : n * l.run_len ≡ (n - 1 + 1) * l.run_len = ap (λ (x : ℕ). x * l.run_len) m in
        omega (arith, last-at)

    last-column : d.at % l.run_len ≡ 0
    last-column =
        ap (λ (k : ℕ). k % l.run_len)
        (let k : d.at ≡ (c.at / l.run_len + (n - 1)) * l.run_len + 0 = omega (arith, last-at, runs-begin) in k)
        ∙ digits_mod (c.at / l.run_len + (n - 1)) (run-some l t)

    pub on-last : (d.at < end) × OnRange l d
    on-last = (omega (arith, last-run, run-some l t), record { base = base; bounded = b; cursor_is = last-cursor-is })

    -- behind its piece the range goes on
    pub behind-strip : (q : RangePiece) → q ≡ piece_of l end d
        → (q.next.at ≡ c.at + n * l.run_len) × (q.next.at < end → q.next ≡ range_at l base q.next.at)
    behind-strip q f =
        let p = piece-here l t base b end d last-cursor-is on-last.0 q f in
        (omega (arith, p.next_at, p.len_is, last-column, last-run), p.next_cursor_is)

  -- the elements of the runs
  run-elements : (j : ℕ) → j < n → (i : ℕ) → i < l.run_len
      → c.runs.source_offset +ℤ (first_axis l).source_step *ℤ pos j +ℤ l.run_stride *ℤ pos i
      ≡ offset (run_of l ∷ outer_of l) base (c.at + j * l.run_len + i)
  run-elements j k i h =
      ap (λ (z : ℤ). z +ℤ l.run_stride *ℤ pos i) (runs-at j k)
      ∙ ap (λ (q : ℕ). offset (outer_of l) base q +ℤ l.run_stride *ℤ pos i) (sym (ap (λ (m : ℕ). m / l.run_len) split ∙ digits_div (q₀ + j) h))
      ∙ ap (λ (d : ℕ). offset (outer_of l) base ((c.at + j * l.run_len + i) / l.run_len) +ℤ l.run_stride *ℤ pos d)
      (sym (ap (λ (m : ℕ). m % l.run_len) split ∙ digits_mod (q₀ + j) h))
      ∙ first_is l t base b (c.at + j * l.run_len + i)
    where
      q₀ : ℕ
      q₀ = c.at / l.run_len

      split : c.at + j * l.run_len + i ≡ (c.at / l.run_len + j) * l.run_len + i
      split = omega (arith, runs-begin)

  -- they are the strip at the cursor
  pub runs-strip : 1 ≤ n → (d : RangeCursor) → d ≡ skipped l (n - 1) c → (q : RangePiece) → q ≡ piece_of l end d
      → StripHere l base end c
      (record { first = c.runs.source_offset; step = (first_axis l).source_step; len = l.run_len; count = n; next = q.next })
  runs-strip one d e q f =
      let g = behind-strip one d e q f in
      record { some_len = run-some l t; some_run = one; ends = room; offsets = run-elements; next_at = g.0; next_cursor_is = g.1 }

-- places a stride apart that are the offsets of elements in turn
steps-listed : (xs : List ReduceOuterAxis) (base s : ℤ) (n : ℕ) (z : ℤ) (k : ℕ) → ((i : ℕ) → i < n → z +ℤ s *ℤ pos i ≡ offset xs base (k + i))
    → steps z s n ≡ offsets_from xs base k n
unfolding steps offsets_from
steps-listed xs base s zero z k lies = refl
steps-listed xs base s (suc n) z k lies =
    ap (λ (y : ℤ). y ∷ steps (z +ℤ s) s n) (place-first z s ∙ lies 0 (omega arith) ∙ ap (offset xs base) (add-zero k))
    ∙ ap (λ (zs : List ℤ). offset xs base k ∷ zs)
    (steps-listed xs base s n (z +ℤ s) (suc k) (λ i h. place-later z s i ∙ lies (suc i) (omega arith) ∙ ap (offset xs base) (next i)))
  where
    next : (i : ℕ) → k + suc i ≡ suc k + i
    next i = omega arith

-- one piece is a strip
pub piece-strip : (l : FullTraversal) (base : ℤ) (end : ℕ) (c : RangeCursor) (p : RangePiece) → PieceHere l base end c p
    → StripHere l base end c (record { first = p.first; step = pos 0; len = p.len; count = 1; next = p.next })
piece-strip l base end c p here =
    record {
      some_len = here.some_len;
      some_run = omega arith;
      ends = omega (arith, here.ends);
      offsets = lies;
      next_at = here.next_at ∙ omega arith;
      next_cursor_is = here.next_cursor_is;
    }
  where
    still : (z s : ℤ) (i : ℕ) → z +ℤ pos 0 *ℤ pos 0 +ℤ s *ℤ pos i ≡ z +ℤ s *ℤ pos i
    still z s i = simp ints (simp atoms (omega arith))

    lies : (j : ℕ) → j < 1 → (i : ℕ) → i < p.len
        → p.first +ℤ pos 0 *ℤ pos j +ℤ l.run_stride *ℤ pos i ≡ offset (run_of l ∷ outer_of l) base (c.at + j * p.len + i)
    lies zero h i k =
        still p.first l.run_stride i ∙ here.offsets i k
        ∙ ap (offset (run_of l ∷ outer_of l) base) (let e : c.at + i ≡ c.at + 0 * p.len + i = omega arith in e)
    lies (suc j) h i k = absurd (omega arith)

-- ---- the places of a strip
module _ (l : FullTraversal) (base : ℤ) (end : ℕ) (c : RangeCursor) (s : RangeStrip) (here : StripHere l base end c s) where
  -- those of run j are its elements' offsets
  pub strip-run : (j : ℕ) → j < s.count
      → steps (s.first +ℤ s.step *ℤ pos j) l.run_stride s.len ≡ offsets_from (run_of l ∷ outer_of l) base (c.at + j * s.len) s.len
  strip-run j h = steps-listed (run_of l ∷ outer_of l) base l.run_stride s.len (s.first +ℤ s.step *ℤ pos j) (c.at + j * s.len) (here.offsets j h)

  -- and one run after another, from the cursor on
  runs-from : (n j : ℕ) → j + n ≡ s.count
      → runs_places l.run_stride s.len (steps (s.first +ℤ s.step *ℤ pos j) s.step n)
      ≡ offsets_from (run_of l ∷ outer_of l) base (c.at + j * s.len) (n * s.len)
  unfolding steps runs_places offsets_from
  runs-from zero j h = ap (offsets_from (run_of l ∷ outer_of l) base (c.at + j * s.len)) (let e : 0 ≡ 0 * s.len = omega arith in e)
  runs-from (suc n) j h =
      let run = offsets_from (run_of l ∷ outer_of l) base (c.at + j * s.len) s.len in
      ap (λ (zs : List ℤ). zs ++ runs_places l.run_stride s.len (steps (s.first +ℤ s.step *ℤ pos j +ℤ s.step) s.step n))
      (strip-run j (omega arith))
      ∙ ap (λ (z : ℤ). run ++ runs_places l.run_stride s.len (steps z s.step n)) (place-next s.first s.step j)
      ∙ ap (λ (zs : List ℤ). run ++ zs)
      (runs-from n (j + 1) (omega arith)
      ∙ ap (λ (k : ℕ). offsets_from (run_of l ∷ outer_of l) base k (n * s.len))
      (let e : c.at + (j + 1) * s.len ≡ c.at + j * s.len + s.len = omega arith in e))
      ∙ sym (offsets-append (run_of l ∷ outer_of l) base (c.at + j * s.len) s.len (n * s.len))
      ∙ ap (offsets_from (run_of l ∷ outer_of l) base (c.at + j * s.len)) (let e : s.len + n * s.len ≡ suc n * s.len = omega arith in e)

  pub strip-places : runs_places l.run_stride s.len (steps s.first s.step s.count)
      ≡ offsets_from (run_of l ∷ outer_of l) base c.at (s.count * s.len)
  strip-places =
      ap (λ (z : ℤ). runs_places l.run_stride s.len (steps z s.step s.count)) (place-first s.first s.step)
      ∙ runs-from s.count 0 (omega arith)
      ∙ ap (λ (k : ℕ). offsets_from (run_of l ∷ outer_of l) base k (s.count * s.len)) (let e : c.at + 0 * s.len ≡ c.at = omega arith in e)

  -- and lie inside the values
  pub strip-places-inside : (len : ℕ) → Traversal l → all_inside (run_of l ∷ outer_of l) l.total base len ≡ true → end ≤ l.total
      → (j : ℕ) → j < s.count → (i : ℕ) → i < s.len
      → inside_values len (s.first +ℤ s.step *ℤ pos j +ℤ l.run_stride *ℤ pos i) ≡ true
  strip-places-inside len t w few j h i k =
      ap (inside_values len) (here.offsets j h i k)
      ∙ element-inside l t base len w (c.at + j * s.len + i) (below (mul-le-mul_right s.len h))
    where
      below : suc j * s.len ≤ s.count * s.len → c.at + j * s.len + i < l.total
      below m = omega (arith, here.ends)
