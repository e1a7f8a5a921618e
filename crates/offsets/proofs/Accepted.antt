-- What compiling gives is a traversal, and has the elements of the given axes, in their order. Assumes nothing.
use Prim.Native.Nat.{ℕ, suc, ◌-◌, ◌*◌, ◌≤◌, ◌<◌}
use mathlib.Core.Path.{◌≡◌, refl, sym, ◌∙◌, ap, subst}
use mathlib.Core.Bool.{Bool, true, false, cond}
use mathlib.Core.List.{List, [], ◌∷◌}
use Rattle.std.specs.Prelude.{Option, None, Some}
use native.Mathlib.Omega.{arith}
use native.Mathlib.Nat.{mod-one}
use lib.Dec.{T, eqb}
use lib.ListN.{length, take, replicate}
use lib.IntN.{ℤ, pos, ◌+ℤ◌}
use Rattle.laws.proofs.Tests.{and_both}
use Rattle.integers.specs.Integers.{fits_i64}
use Rattle.integers.proofs.Difference.{ints, atoms}
use Rattle.layout.specs.declared.axis.ReduceOuterAxis.{ReduceOuterAxis}
use Rattle.layout.specs.Axes.{PLACES, no_axis, places_of, span, reset_fits, axis_of}
use borrow.Author.Tests.{ne_eqb}
use Rattle.layout.specs.Order.{kept_axes, precedes, insert_axis, order_from, axes_of, resets_fit}
use native.Mathlib.Decide.{dec_lt}
use lib.Seq.{take-append_seam}
use Rattle.layout.specs.declared.traversal.FullTraversal.{FullTraversal}
use Rattle.refusals.specs.Refusals.{Ranked, first_of}
use Rattle.layout.specs.Compile.{total_of, fused_of, layout_of, empty_layout, traversal_at, traversal_of, overflows}
use Rattle.layout.proofs.Tables.{length-places_of}
use Rattle.layout.proofs.Totals.{pos-of-mul-right, pos-of-mul-left, sizes-product, total-product, axes-elements}
use Rattle.layout.proofs.Compiling.{length-fused, layout-total}
use Rattle.offsets.specs.Pieces.{run_of, outer_of}
use Rattle.offsets.specs.InnerCursors.{Traversal, Axis, Axes}
use Rattle.layout.specs.Fuse.{fuse}
use Rattle.layout.proofs.Fusing.{some_inj, none-some}
use Rattle.offsets.specs.Elements.{digits, shift, offset}
use Rattle.layout.specs.InnerTables.{elements}
use Rattle.offsets.proofs.Fused.{SameElements, same-trans, fuse-same}
use Rattle.offsets.proofs.Stepping.{axes-at}

-- ---- small steps
no-axes : Axes []
unfolding Axes
no-axes = tt

one_more : (n : ℕ) (s : ℤ) (l : List ReduceOuterAxis) → 1 ≤ n → reset_fits n s ≡ true → Axes l → Axes (axis_of n s ∷ l)
unfolding Axes axis_of
one_more n s l h f w = ((refl, h, f), w)

first-fit : (n : ℕ) (s : ℤ) (l : List ReduceOuterAxis) → resets_fit (axis_of n s ∷ l) ≡ true → (reset_fits n s ≡ true) × (resets_fit l ≡ true)
unfolding resets_fit axis_of
first-fit n s l e = and_both (reset_fits n s) (resets_fit l) e

-- ---- rule L2 keeps the axes
kept-axes : (ns : List ℕ) (ss : List ℤ) → 0 < sizes-product ns → resets_fit (kept_axes ns ss) ≡ true → Axes (kept_axes ns ss)
unfolding kept_axes sizes-product
kept-axes [] ss h f = no-axes
kept-axes (n ∷ ns) [] h f = no-axes
kept-axes (n ∷ ns) (s ∷ ss) h f =
    go (eqb n 1) refl (kept-axes ns ss (later h))
  where
    later : 0 < n * sizes-product ns → 0 < sizes-product ns
    later h = pos-of-mul-right n (sizes-product ns) h

    some-n : 0 < n * sizes-product ns → 1 ≤ n
    some-n h = pos-of-mul-left n (sizes-product ns) h

    go : (b : Bool) → eqb n 1 ≡ b → (resets_fit (kept_axes ns ss) ≡ true → Axes (kept_axes ns ss))
        → Axes (cond (eqb n 1) (kept_axes ns ss) (axis_of n s ∷ kept_axes ns ss))
    go true q i = rw q (i (ap resets_fit (ap (λ (b : Bool). cond b (kept_axes ns ss) (axis_of n s ∷ kept_axes ns ss)) (sym q)) ∙ f))
    go false q i =
        let g : resets_fit (axis_of n s ∷ kept_axes ns ss) ≡ true = ap resets_fit (ap (λ (b : Bool). cond b (kept_axes ns ss) (axis_of n s ∷ kept_axes ns ss)) (sym q))
        ∙ f in
        let r = first-fit n s (kept_axes ns ss) g in
        rw q (one_more n s (kept_axes ns ss) (some-n h) r.0 (i r.1))

axes-inserted : (a : ReduceOuterAxis) (xs : List ReduceOuterAxis) → Axis a → Axes xs → Axes (insert_axis a xs)
unfolding insert_axis Axes
axes-inserted a [] w v = (w, v)
axes-inserted a (b ∷ bs) w v = go (precedes a.source_step b.source_step) (axes-inserted a bs w v.1)
  where
    go : (t : Bool) → Axes (insert_axis a bs) → Axes (cond t (a ∷ b ∷ bs) (b ∷ insert_axis a bs))
    go true i = (w, v)
    go false i = (v.0, i)

axes-ordered : (done xs : List ReduceOuterAxis) → Axes done → Axes xs → Axes (order_from done xs)
unfolding order_from Axes
axes-ordered done [] w v = w
axes-ordered done (a ∷ xs) w v = axes-ordered (insert_axis a done) xs (axes-inserted a done v.0 w) v.1

axes-kept : (ns : List ℕ) (ss : List ℤ) → Axes (kept_axes ns ss) → Axes (axes_of ns ss)
unfolding axes_of
axes-kept ns ss w = axes-ordered [] (kept_axes ns ss) no-axes w

placed : (xs : List ReduceOuterAxis) → take (length xs) (places_of PLACES xs) ≡ xs
unfolding places_of
placed xs = take-append_seam xs (replicate (PLACES - length xs) no_axis)

-- ---- rule L5: the run and the outer axes are the fused axes
no_run : SameElements [] (axis_of 1 (pos 1) ∷ [])
unfolding Axes axis_of elements offset digits shift reset_fits span fits_i64
no_run =
    record {
      axes = ((refl, omega arith, refl), tt);
      elements = refl;
      offsets = λ base k. rw (mod-one k) (ring base);
    }
  where
    ring : (b : ℤ) → b +ℤ (pos 0 +ℤ pos 0) ≡ b +ℤ pos 0
    ring b = simp ints (simp atoms (omega arith))

pub layout-traversal : (t : ℕ) (ys : List ReduceOuterAxis) → Axes ys → length ys ≤ PLACES → elements ys ≡ t
    → Traversal (layout_of PLACES t ys) × SameElements ys (run_of (layout_of PLACES t ys) ∷ outer_of (layout_of PLACES t ys))
unfolding layout_of run_of outer_of
layout-traversal t [] w h e =
    (record { few = omega arith; places = length-places_of [] (omega arith); axes = no_run.axes; total = no_run.elements ∙ e }, no_run)
layout-traversal t (a ∷ xs) w h e = (
  record {
    few = omega arith;
    places = length-places_of xs (omega arith);
    axes = rw same (w);
    total = rw same e;
  },
  rw same (record { axes = w; elements = refl; offsets = λ base k. refl }),
)
  where
    run : axis_of a.extent a.source_step ≡ a
    run = sym (axes-at a xs (a ∷ xs) refl w).0.0

    outer : take (length xs) (places_of PLACES xs) ≡ xs
    outer = placed xs

    same : ◌≡◌ {A = List ReduceOuterAxis} (axis_of a.extent a.source_step ∷ take (length xs) (places_of PLACES xs)) (a ∷ xs)
    same = ap (λ (b : ReduceOuterAxis). b ∷ take (length xs) (places_of PLACES xs)) run ∙ ap (λ (l : List ReduceOuterAxis). a ∷ l) outer

-- ---- what an accepted compile says
pub refused_none : (n : ℕ) (b : Bool) (rs : List Ranked) → first_of ((suc n, b) ∷ rs) ≡ 0 → (b ≡ false) × (first_of rs ≡ 0)
unfolding first_of
refused_none n true rs e = absurd (no e)
  where
    no : suc n ≡ 0 → ⊥
    no h = omega arith
refused_none n false rs e = (refl, e)

pub not-over : (o : Option FullTraversal) → overflows o ≡ false → (l : FullTraversal) × (o ≡ Some l)
unfolding overflows
not-over None e = absurd (subst T e tt)
not-over (Some l) e = (l, refl)

fuse-all : (xs ys : List ReduceOuterAxis) → Axes xs → fuse xs ≡ Some ys → SameElements xs ys
unfolding fuse
fuse-all [] ys w e = subst (SameElements []) (some_inj e) (record { axes = w; elements = refl; offsets = λ base k. refl })
fuse-all (a ∷ xs) ys w e = fuse-same [] a xs ys w e

pub record AcceptedLayout (ns : List ℕ) (ss : List ℤ) (l : FullTraversal) : Type 0 where
  pub traversal : Traversal l
  pub same : SameElements (axes_of ns ss) (run_of l ∷ outer_of l)
  pub axes : Axes (axes_of ns ss)
  pub total : elements (axes_of ns ss) ≡ l.total
  pub product : total_of ns ≡ Some l.total

module _ (ns : List ℕ) (ss : List ℤ) (eq : length ns ≡ length ss) (small : length ns ≤ PLACES) where
  with-fused : (t : ℕ) → total_of ns ≡ Some t → (t ≡ 0 → ⊥) → (xs : List ReduceOuterAxis) → fused_of ns ss ≡ Some xs → AcceptedLayout ns ss (layout_of PLACES t xs)
  unfolding fused_of total_of
  with-fused t e n xs f = go (resets_fit (kept_axes ns ss)) refl
    where
      go : (b : Bool) → resets_fit (kept_axes ns ss) ≡ b → AcceptedLayout ns ss (layout_of PLACES t xs)
      go false q = absurd (none-some (ap (λ (b : Bool). cond b (fuse (axes_of ns ss)) None) (sym q) ∙ f))
      go true q =
          let p : t ≡ 1 * sizes-product ns = total-product 1 ns t e in
          let k = axes-kept ns ss (kept-axes ns ss (omega arith) q) in
          let z : fuse (axes_of ns ss) ≡ Some xs = ap (λ (b : Bool). cond b (fuse (axes_of ns ss)) None) (sym q) ∙ f in
          let s = fuse-all (axes_of ns ss) xs k z in
          let m = axes-elements ns ss eq in
          let c : elements (axes_of ns ss) ≡ t = omega arith in
          let few = length-fused ns ss xs f in
          let r = layout-traversal t xs s.axes (omega arith) (s.elements ∙ c) in
          record {
            traversal = r.0;
            same = same-trans (axes_of ns ss) xs _ s r.1;
            axes = k;
            total = c ∙ sym (layout-total t xs);
            product = e ∙ ap Some (sym (layout-total t xs));
          }

  -- a layout that compiling gives
  pub is-accepted : (l : FullTraversal) → traversal_of PLACES ns ss ≡ Some l → 0 < l.total → AcceptedLayout ns ss l
  unfolding traversal_of traversal_at empty_layout
  is-accepted l e h = go (total_of ns) refl
    where
      go : (o : Option ℕ) → total_of ns ≡ o → AcceptedLayout ns ss l
      go None q = absurd (none-some (ap (traversal_at PLACES ns ss) (sym q) ∙ e))
      go (Some t) q = zero_or (dec_lt 0 t)
        where
          at-t : traversal_at PLACES ns ss (Some t) ≡ Some l
          at-t = ap (traversal_at PLACES ns ss) (sym q) ∙ e

          zero_or : Dec (0 < t) → AcceptedLayout ns ss l
          zero_or (no n) = absurd (empty (ap (λ (x : FullTraversal). x.total) (some_inj (ap (λ (m : ℕ). traversal_at PLACES ns ss (Some m)) z ∙ at-t))))
            where
              z : 0 ≡ t
              z = omega arith

              empty : 0 ≡ l.total → ⊥
              empty k = omega arith
          zero_or (yes n) = fused (fused_of ns ss) refl
            where
              nz : t ≡ 0 → ⊥
              nz k = omega arith

              fused : (o : Option (List ReduceOuterAxis)) → fused_of ns ss ≡ o → AcceptedLayout ns ss l
              fused None f =
                  absurd
                  (none-some (ap (λ (o : Option (List ReduceOuterAxis)). elim o [ None ↦ None | Some xs ↦ Some (layout_of PLACES t xs) ]) (sym f) ∙ at-fused))
                where
                  at-fused : elim (fused_of ns ss) [ None ↦ None | Some xs ↦ Some (layout_of PLACES t xs) ] ≡ Some l
                  at-fused =
                      ap (λ (b : Bool). cond b (Some (empty_layout PLACES)) (elim (fused_of ns ss) [ None ↦ None | Some xs ↦ Some (layout_of PLACES t xs) ]))
                      (sym (ne_eqb t 0 nz))
                      ∙ at-t
              fused (Some xs) f =
                  subst (AcceptedLayout ns ss)
                  (some_inj (ap (λ (o : Option (List ReduceOuterAxis)). elim o [ None ↦ None | Some xs ↦ Some (layout_of PLACES t xs) ]) (sym f) ∙ at-fused))
                  (with-fused t q nz xs f)
                where
                  at-fused : elim (fused_of ns ss) [ None ↦ None | Some xs ↦ Some (layout_of PLACES t xs) ] ≡ Some l
                  at-fused =
                      ap (λ (b : Bool). cond b (Some (empty_layout PLACES)) (elim (fused_of ns ss) [ None ↦ None | Some xs ↦ Some (layout_of PLACES t xs) ]))
                      (sym (ne_eqb t 0 nz))
                      ∙ at-t
