-- Rule L5: the first axis of the table is the run, and the others go to their places.
-- Assumes nothing.
use Prim.Native.Nat.{ℕ, ◌+◌, ◌-◌, ◌≤◌, ◌<◌}
use mathlib.Core.Path.{◌≡◌, refl, sym, ◌∙◌, ap}
use mathlib.Core.List.{List, [], ◌∷◌, ◌++◌}
use native.Mathlib.Omega.{arith}
use lib.ListN.{length, take, drop, get_or, replicate, length-take, length-drop}
use Rattle.std.proofs.lemmas.List.{drop-take, drop-replicate}
use Rattle.layout.specs.declared.axis.ReduceOuterAxis.{ReduceOuterAxis}
use Rattle.layout.specs.Axes.{PLACES, no_axis, places_of}
use Rattle.layout.specs.Compile.{layout_of}
use Rattle.layout.proofs.Tables.{take-from}

pub take_two : (axes : List ReduceOuterAxis) → 2 ≤ length axes → take 2 axes ≡ get_or axes 0 no_axis ∷ get_or axes 1 no_axis ∷ []
take_two [] h = absurd (omega arith)
take_two (a ∷ []) h = absurd (omega arith)
take_two (a ∷ b ∷ xs) h = refl

-- the first n places, of which there is one at least
module _ (axes : List ReduceOuterAxis) (n : ℕ) (h : 0 < n) (k : n ≤ length axes) where
  counted : length (drop 1 (take n axes)) ≡ n - 1
  counted = simp (length-drop, length-take) (omega arith)

  pub others : n ≤ PLACES → take (n - 1) (drop 1 axes) ++ drop (n - 1) (replicate PLACES no_axis) ≡ places_of PLACES (drop 1 (take n axes))
  unfolding places_of
  others m =
      ap (λ (l : List ReduceOuterAxis). take (n - 1) (drop 1 axes) ++ l) (drop-replicate (n - 1) PLACES no_axis)
      ∙ ap (λ (l : List ReduceOuterAxis). l ++ replicate (PLACES - (n - 1)) no_axis) (sym (drop-take 1 (n - 1) axes) ∙ ap (λ (j : ℕ). drop 1 (take j axes)) whole)
      ∙ ap (λ (j : ℕ). drop 1 (take n axes) ++ replicate (PLACES - j) no_axis) (sym counted)
    where
      whole : 1 + (n - 1) ≡ n
      whole = omega arith

  pub run-first : (t : ℕ) (places : List ReduceOuterAxis) → places ≡ places_of PLACES (drop 1 (take n axes))
      → record {
        total = t;
        run_len = (get_or axes 0 no_axis).extent;
        run_stride = (get_or axes 0 no_axis).source_step;
        axis_count = n - 1;
        run_axes = places;
      }
      ≡ layout_of PLACES t (take n axes)
  unfolding layout_of
  run-first t places e =
      ap (λ (l : List ReduceOuterAxis). record {
        total = t;
        run_len = (get_or axes 0 no_axis).extent;
        run_stride = (get_or axes 0 no_axis).source_step;
        axis_count = n - 1;
        run_axes = l;
      }) (e ∙ ap (λ (l : List ReduceOuterAxis). places_of PLACES (drop 1 l)) first)
      ∙ ap (λ (m : ℕ). record {
        total = t;
        run_len = (get_or axes 0 no_axis).extent;
        run_stride = (get_or axes 0 no_axis).source_step;
        axis_count = m;
        run_axes = places_of PLACES (drop 1 (take n axes));
      }) (sym counted)
      ∙ ap (layout_of PLACES t) (sym first)
    where
      first : take n axes ≡ get_or axes 0 no_axis ∷ drop 1 (take n axes)
      first = take-from axes n no_axis 0 h k
