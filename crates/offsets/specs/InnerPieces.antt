-- Inner: the cursor of a range, and the piece at it.
use Rattle.std.specs.Prelude.{ℕ, ◌+◌, ◌-◌, ◌*◌, ◌/◌, ◌%◌, ◌≤◌, ◌<◌, min, ◌≡◌, cond, ◌∷◌, ltb, get_or, set, ℤ, pos, ◌+ℤ◌, ◌*ℤ◌}
use Rattle.layout.specs.declared.traversal.FullTraversal.{FullTraversal}
use Rattle.layout.specs.Axes.{no_axis}
use Rattle.offsets.specs.declared.pieces.RangeCursor.{RangeCursor}
use Rattle.offsets.specs.declared.pieces.RangePiece.{RangePiece}
use Rattle.offsets.specs.declared.pieces.RangeStrip.{RangeStrip}
use Rattle.offsets.specs.Elements.{offset}
use Rattle.offsets.specs.InnerCursors.{Bounded, cursor_at, advanced}
use Rattle.offsets.specs.Pieces.{run_of, outer_of}

-- the cursor at element k
unfoldable pub range_at : FullTraversal → ℤ → ℕ → RangeCursor
range_at l base k = record { at = k; col = k % l.run_len; runs = cursor_at (outer_of l) base (k / l.run_len) }

-- the piece at a cursor, as the code makes it
unfoldable pub piece_of : FullTraversal → ℕ → RangeCursor → RangePiece
piece_of l end c =
    let len = min (l.run_len - c.col) (end - c.at) in
    record {
      first = c.runs.source_offset +ℤ l.run_stride *ℤ pos c.col;
      len = len;
      next = record { at = c.at + len; col = 0; runs = cond (ltb (c.at + len) end) (advanced (outer_of l) c.runs) c.runs };
    }

-- a cursor n runs further along the first outer axis
unfoldable pub skipped : FullTraversal → ℕ → RangeCursor → RangeCursor
skipped l n c =
    record {
      at = c.at + n * l.run_len;
      col = c.col;
      runs = record {
        source_offset = c.runs.source_offset +ℤ (get_or l.run_axes 0 no_axis).source_step *ℤ pos n;
        digits = set c.runs.digits 0 (get_or c.runs.digits 0 0 + n);
      };
    }

-- a cursor at some element of a layout that lies in 0 to 2^63 - 1
pub record OnRange (l : FullTraversal) (c : RangeCursor) : Type 0 where
  pub base : ℤ
  pub bounded : Bounded (run_of l ∷ outer_of l) base
  pub cursor_is : c ≡ range_at l base c.at

-- the strip s at a cursor c: the offsets of its runs' elements are those of the elements from c on, one run after another
pub record StripHere (l : FullTraversal) (base : ℤ) (end : ℕ) (c : RangeCursor) (s : RangeStrip) : Type 0 where
  pub some_len : 1 ≤ s.len
  pub some_run : 1 ≤ s.count
  pub ends : c.at + s.count * s.len ≤ end
  pub offsets : (j : ℕ) → j < s.count → (i : ℕ) → i < s.len
      → s.first +ℤ s.step *ℤ pos j +ℤ l.run_stride *ℤ pos i ≡ offset (run_of l ∷ outer_of l) base (c.at + j * s.len + i)
  pub next_at : s.next.at ≡ c.at + s.count * s.len
  pub next_cursor_is : s.next.at < end → s.next ≡ range_at l base s.next.at
