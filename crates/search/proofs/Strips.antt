-- The search over a range, strip by strip. Assumes nothing.
use Prim.Native.Nat.{ℕ, ◌+◌, ◌-◌, ◌*◌, ◌≤◌, ◌<◌}
use mathlib.Core.Path.{◌≡◌, sym, ◌∙◌, ap}
use mathlib.Core.List.{List, ◌∷◌, ◌++◌}
use native.Mathlib.Omega.{arith}
use lib.IntN.{ℤ}
use lib.Ieee.{Float}
use Rattle.layout.specs.declared.traversal.FullTraversal.{FullTraversal}
use Rattle.offsets.specs.declared.pieces.RangeCursor.{RangeCursor}
use Rattle.offsets.specs.declared.pieces.RangeStrip.{RangeStrip}
use Rattle.offsets.specs.InnerLists.{steps, runs_places}
use Rattle.offsets.specs.InnerPieces.{range_at, StripHere}
use Rattle.offsets.specs.Lists.{offsets_from}
use Rattle.offsets.specs.Pieces.{run_of, outer_of}
use Rattle.offsets.proofs.Writing.{offsets-append, length-offsets}
use Rattle.offsets.proofs.Runs.{strip-places}
use Rattle.search.specs.Searching.{SearchAnswer, found, none_bad, lowest_bad}
use Rattle.search.proofs.Looking.{met, passed}

-- ---- the loop over the strips: the cursor stands at c.at while that is below the end, and what is left decides
pub record Walked (l : FullTraversal) (base : ℤ) (values : List Float) (start end : ℕ) (c : RangeCursor) : Type 0 where
  pub upto : c.at ≤ end
  pub cursor_is : c.at < end → c ≡ range_at l base c.at
  pub rest : lowest_bad values c.at (offsets_from (run_of l ∷ outer_of l) base c.at (end - c.at))
      ≡ lowest_bad values start (offsets_from (run_of l ∷ outer_of l) base start (end - start))

module _ (l : FullTraversal) (base : ℤ) (values : List Float) (start end : ℕ) where
  abbrev whole : SearchAnswer
  whole = lowest_bad values start (offsets_from (run_of l ∷ outer_of l) base start (end - start))

  pub walked_none : (c : RangeCursor) → start < end → c ≡ range_at l base start → Walked l base values start end c
  unfolding range_at
  walked_none c h e =
      let k : c.at ≡ start = ap (λ (x : RangeCursor). x.at) e in
      record {
        upto = omega arith;
        cursor_is = λ _. e ∙ ap (range_at l base) (sym k);
        rest = ap (λ (n : ℕ). lowest_bad values n (offsets_from (run_of l ∷ outer_of l) base n (end - n))) k;
      }

  -- a strip was searched
  module _ (c : RangeCursor) (w : Walked l base values start end c) (s : RangeStrip) (here : StripHere l base end c s) where
    abbrev m : ℕ
    m = s.count * s.len

    abbrev told : SearchAnswer
    told = lowest_bad values c.at (runs_places l.run_stride s.len (steps s.first s.step s.count))

    strip : List ℤ
    strip = offsets_from (run_of l ∷ outer_of l) base c.at m

    others : List ℤ
    others = offsets_from (run_of l ∷ outer_of l) base (c.at + m) (end - (c.at + m))

    cut : offsets_from (run_of l ∷ outer_of l) base c.at (end - c.at) ≡ strip ++ others
    unfolding strip others
    cut =
        ap (offsets_from (run_of l ∷ outer_of l) base c.at) (let k : end - c.at ≡ m + (end - (c.at + m)) = omega (arith, here.ends) in k)
        ∙ offsets-append (run_of l ∷ outer_of l) base c.at m (end - (c.at + m))

    of-strip : told ≡ lowest_bad values c.at strip
    unfolding strip
    of-strip = ap (lowest_bad values c.at) (strip-places l base end c s here)

    pub walked-met : (k : ℕ) (z : ℤ) → found k z ≡ told → found k z ≡ whole
    walked-met k z e = met values c.at _ strip others cut whole w.rest k z (e ∙ of-strip)

    pub walked_more : none_bad ≡ told → Walked l base values start end s.next
    unfolding strip others
    walked_more e =
        record {
          upto = omega (arith, here.next_at, here.ends);
          cursor_is = here.next_cursor_is;
          rest =
              ap (λ (n : ℕ). lowest_bad values n (offsets_from (run_of l ∷ outer_of l) base n (end - n))) here.next_at
              ∙ passed values c.at _ strip others cut whole w.rest (e ∙ of-strip) m (length-offsets (run_of l ∷ outer_of l) base c.at m);
        }

  pub walked_all : (c : RangeCursor) → Walked l base values start end c → end ≤ c.at → none_bad ≡ whole
  unfolding lowest_bad offsets_from
  walked_all c w h =
      ap (λ (n : ℕ). lowest_bad values c.at (offsets_from (run_of l ∷ outer_of l) base c.at n)) (let k : 0 ≡ end - c.at = omega arith in k) ∙ w.rest
