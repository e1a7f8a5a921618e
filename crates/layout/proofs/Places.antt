-- A compile with more places: rules L5 and R2 for layouts that fit both.
-- Assumes nothing.
use Prim.Native.Nat.{ℕ, zero, suc, ◌+◌, ◌-◌, ◌≤◌}
use mathlib.Core.Path.{◌≡◌, refl, sym, ◌∙◌, ap}
use mathlib.Core.Bool.{Bool, true, false, cond}
use mathlib.Core.List.{List, [], ◌∷◌, ◌++◌, append_assoc}
use Rattle.std.specs.Prelude.{Option, None, Some, option_map}
use native.Mathlib.Omega.{arith}
use lib.Dec.{eqb}
use lib.ListN.{length, replicate, replicate-append-replicate}
use lib.IntN.{ℤ, pos}
use borrow.Author.Tests.{le-ltb}
use Rattle.refusals.specs.Refusals.{first_of}
use Rattle.layout.specs.declared.axis.ReduceOuterAxis.{ReduceOuterAxis}
use Rattle.layout.specs.declared.traversal.FullTraversal.{FullTraversal}
use Rattle.layout.specs.Axes.{no_axis, places_of}
use Rattle.layout.specs.Compile.{total_of, fused_of, layout_of, empty_layout, traversal_at, traversal_of, overflows, compile_refusals, layout_beside, compile_of}
use Rattle.layout.specs.Theorems.{with_places, MorePlaces}
use Rattle.layout.proofs.Compiling.{length-fused}

over-same : (f : FullTraversal → FullTraversal) (o : Option FullTraversal) → overflows (option_map f o) ≡ overflows o
unfolding overflows
over-same f None = refl
over-same f (Some l) = refl

module _ (p n : ℕ) where
  -- rule L5
  places-more : (xs : List ReduceOuterAxis) → length xs ≤ p → places_of (p + n) xs ≡ places_of p xs ++ replicate n no_axis
  unfolding places_of
  places-more xs h =
      ap (λ (m : ℕ). xs ++ replicate m no_axis) room
      ∙ ap (λ (l : List ReduceOuterAxis). xs ++ l) (sym (replicate-append-replicate (p - length xs) n no_axis))
      ∙ sym (append_assoc xs (replicate (p - length xs) no_axis) (replicate n no_axis))
    where
      room : p + n - length xs ≡ p - length xs + n
      room = omega arith

  empty-more : empty_layout (p + n) ≡ with_places n (empty_layout p)
  unfolding empty_layout
  empty-more =
      ap (λ (l : List ReduceOuterAxis). record { total = 0; run_len = 0; run_stride = pos 1; axis_count = 0; run_axes = l })
      (places-more [] (omega arith))

  layout-more : (t : ℕ) (xs : List ReduceOuterAxis) → length xs ≤ p → layout_of (p + n) t xs ≡ with_places n (layout_of p t xs)
  unfolding layout_of
  layout-more t [] h =
      ap (λ (l : List ReduceOuterAxis). record { total = t; run_len = 1; run_stride = pos 1; axis_count = 0; run_axes = l })
      (places-more [] (omega arith))
  layout-more t (a ∷ xs) h =
      ap (λ (l : List ReduceOuterAxis). record {
        total = t;
        run_len = a.extent;
        run_stride = a.source_step;
        axis_count = length xs;
        run_axes = l;
      }) (places-more xs (omega arith))

  beside-more : (c : ℕ) (o : Option FullTraversal) → layout_beside (p + n) c (option_map (with_places n) o) ≡ with_places n (layout_beside p c o)
  unfolding layout_beside
  beside-more zero None = empty-more
  beside-more zero (Some l) = refl
  beside-more (suc c) o = empty-more

  module _ (ns : List ℕ) (ss : List ℤ) (h : length ns ≤ p) where
    -- the fused axes are no more than those of the input, so they fit both tables
    at_more : (o : Option ℕ) → traversal_at (p + n) ns ss o ≡ option_map (with_places n) (traversal_at p ns ss o)
    unfolding traversal_at
    at_more None = refl
    at_more (Some t) = elements (eqb t 0)
      where
        fused : (o : Option (List ReduceOuterAxis)) → fused_of ns ss ≡ o
            → elim o [ None ↦ None | Some xs ↦ Some (layout_of (p + n) t xs) ]
            ≡ option_map (with_places n) (elim o [ None ↦ None | Some xs ↦ Some (layout_of p t xs) ])
        fused None e = refl
        fused (Some xs) e = ap Some (layout-more t xs (let few = length-fused ns ss xs e in omega arith))

        elements : (b : Bool)
            → cond b (Some (empty_layout (p + n))) (elim (fused_of ns ss) [ None ↦ None | Some xs ↦ Some (layout_of (p + n) t xs) ])
            ≡ option_map (with_places n) (cond b (Some (empty_layout p)) (elim (fused_of ns ss) [ None ↦ None | Some xs ↦ Some (layout_of p t xs) ]))
        elements true = ap Some empty-more
        elements false = fused (fused_of ns ss) refl

    traversal-more : traversal_of (p + n) ns ss ≡ option_map (with_places n) (traversal_of p ns ss)
    unfolding traversal_of
    traversal-more = at_more (total_of ns)

    -- rules R1 to R4: neither table is too small
    code-more : first_of (compile_refusals (p + n) ns ss) ≡ first_of (compile_refusals p ns ss)
    unfolding compile_refusals
    code-more = rw (le-ltb (p + n) (length ns) (omega arith), le-ltb p (length ns) h, traversal-more, over-same (with_places n) (traversal_of p ns ss)) refl

pub more-places : MorePlaces
unfolding compile_of
more-places p n ns ss h =
    ap (λ (c : ℕ). record { code = c; traversal = layout_beside (p + n) c (traversal_of (p + n) ns ss) }) (code-more p n ns ss h)
    ∙ ap (λ (o : Option FullTraversal). record { code = code; traversal = layout_beside (p + n) code o }) (traversal-more p n ns ss h)
    ∙ ap (λ (l : FullTraversal). record { code = code; traversal = l }) (beside-more p n code (traversal_of p ns ss))
  where
    code : ℕ
    code = first_of (compile_refusals p ns ss)
