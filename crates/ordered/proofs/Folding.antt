-- The fold over the values of a range, place by place, run by run and strip by strip.
-- Assumes nothing.
use Prim.Native.Nat.{ℕ, ◌+◌, ◌-◌, ◌*◌, ◌≤◌, ◌<◌}
use mathlib.Core.Path.{◌≡◌, refl, sym, ◌∙◌, ap}
use mathlib.Core.List.{List, [], ◌∷◌, foldl, foldl-append}
use native.Mathlib.Omega.{arith}
use lib.IntN.{ℤ, pos, ◌+ℤ◌, ◌*ℤ◌}
use lib.Ieee.{Float, binary64, mul}
use Rattle.layout.specs.declared.traversal.FullTraversal.{FullTraversal}
use Rattle.offsets.specs.declared.pieces.RangeCursor.{RangeCursor}
use Rattle.offsets.specs.declared.pieces.RangeStrip.{RangeStrip}
use Rattle.offsets.specs.InnerLists.{steps, runs_places}
use Rattle.offsets.specs.InnerPieces.{range_at, StripHere}
use Rattle.offsets.specs.Lists.{offsets_from}
use Rattle.offsets.specs.Pieces.{run_of, outer_of}
use Rattle.offsets.specs.Values.{value_at}
use Rattle.offsets.proofs.Writing.{steps-more, offsets-append}
use Rattle.offsets.proofs.Runs.{strip-places}
use Rattle.ordered.specs.InnerFolds.{fold_places, fold_runs}

-- one place more, a step further on
pub fold_more : {A : Type 0} (f : A → ℤ → A) (a : A) (z s : ℤ) (n : ℕ) → f (foldl f a (steps z s n)) (z +ℤ s *ℤ pos n) ≡ foldl f a (steps z s (n + 1))
fold_more f a z s n = sym (ap (foldl f a) (steps-more z s n) ∙ foldl-append f a (steps z s n) ((z +ℤ s *ℤ pos n) ∷ []))

-- runs, one after another, are their places
runs-folded : (values : List Float) (stride : ℤ) (n : ℕ) (x : Float) (zs : List ℤ)
    → fold_runs values stride n x zs ≡ fold_places values x (runs_places stride n zs)
unfolding runs_places
runs-folded values stride n x [] = refl
runs-folded values stride n x (z ∷ zs) =
    runs-folded values stride n (fold_places values x (steps z stride n)) zs
    ∙ sym (foldl-append (λ y z. mul binary64 y (value_at values z)) x (steps z stride n) (runs_places stride n zs))

-- ---- the loop over the strips: the cursor stands at c.at while that is below the end, and what is left makes the whole of what there is
pub record Folding (l : FullTraversal) (base : ℤ) (values : List Float) (start end : ℕ) (one x : Float) (c : RangeCursor) : Type 0 where
  pub upto : c.at ≤ end
  pub cursor_is : c.at < end → c ≡ range_at l base c.at
  pub rest : fold_places values x (offsets_from (run_of l ∷ outer_of l) base c.at (end - c.at))
      ≡ fold_places values one (offsets_from (run_of l ∷ outer_of l) base start (end - start))

module _ (l : FullTraversal) (base : ℤ) (values : List Float) (start end : ℕ) (one : Float) where
  pub folding-none : (c : RangeCursor) → start < end → c ≡ range_at l base start → Folding l base values start end one one c
  unfolding range_at
  folding-none c h e =
      let k : c.at ≡ start = ap (λ (x : RangeCursor). x.at) e in
      record {
        upto = omega arith;
        cursor_is = λ _. e ∙ ap (range_at l base) (sym k);
        rest = ap (λ (n : ℕ). fold_places values one (offsets_from (run_of l ∷ outer_of l) base n (end - n))) k;
      }

  -- a strip is in
  pub folding-more : (x : Float) (c : RangeCursor) → Folding l base values start end one x c → (s : RangeStrip) → StripHere l base end c s → (y : Float)
      → y ≡ fold_runs values l.run_stride s.len x (steps s.first s.step s.count) → Folding l base values start end one y s.next
  folding-more x c f s here y e =
      let axes = run_of l ∷ outer_of l in
      let m = s.count * s.len in
      record {
        upto = omega (arith, here.next_at, here.ends);
        cursor_is = here.next_cursor_is;
        rest =
            ap (λ (z : Float). fold_places values z (offsets_from axes base s.next.at (end - s.next.at)))
            (e
            ∙ runs-folded values l.run_stride s.len x (steps s.first s.step s.count)
            ∙ ap (fold_places values x) (strip-places l base end c s here))
            ∙ ap (λ (n : ℕ). fold_places values (fold_places values x (offsets_from axes base c.at m)) (offsets_from axes base n (end - n))) here.next_at
            ∙ sym (foldl-append (λ y z. mul binary64 y (value_at values z)) x (offsets_from axes base c.at m)
            (offsets_from axes base (c.at + m) (end - (c.at + m))))
            ∙ ap (fold_places values x) (sym (offsets-append axes base c.at m (end - (c.at + m))))
            ∙ ap (λ (n : ℕ). fold_places values x (offsets_from axes base c.at n))
            (let k : m + (end - (c.at + m)) ≡ end - c.at = omega (arith, here.ends) in k)
            ∙ f.rest;
      }

  pub folding-all : (x : Float) (c : RangeCursor) → Folding l base values start end one x c → end ≤ c.at
      → x ≡ fold_places values one (offsets_from (run_of l ∷ outer_of l) base start (end - start))
  unfolding offsets_from
  folding-all x c f h =
      ap (λ (n : ℕ). fold_places values x (offsets_from (run_of l ∷ outer_of l) base c.at n)) (let k : 0 ≡ end - c.at = omega arith in k) ∙ f.rest
