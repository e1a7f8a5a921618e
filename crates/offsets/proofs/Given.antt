-- The axes as they are given, none dropped and none moved: they reach as far as those of rule L2. Assumes nothing.
use Prim.Native.Nat.{ℕ, ◌^◌}
use mathlib.Core.Path.{◌≡◌, refl, sym, ◌∙◌, ap}
use mathlib.Core.Bool.{Bool, true, false, cond, ◌&&◌}
use mathlib.Core.List.{List, [], ◌∷◌}
use native.Mathlib.Omega.{arith}
use lib.Dec.{eqb}
use lib.IntN.{ℤ, pos, ◌+ℤ◌, *ℤ-zero}
use lib.Signed.{le_z, lt_z}
use borrow.Author.Tests.{eqb-true}
use Rattle.integers.specs.Integers.{fits_i64}
use Rattle.integers.proofs.Difference.{ints, atoms}
use Rattle.layout.specs.declared.axis.ReduceOuterAxis.{ReduceOuterAxis}
use Rattle.layout.specs.Axes.{span, reset_fits, axis_of, axes_in}
use Rattle.layout.specs.Order.{kept_axes, precedes, insert_axis, order_from, axes_of}
use Rattle.layout.specs.InnerTables.{elements}
use Rattle.layout.proofs.AnyOrder.{gathers}
use Rattle.offsets.specs.Elements.{all_inside}
use Rattle.offsets.specs.InnerCursors.{Axis, Axes}
use Rattle.offsets.specs.InnerBounds.{negative_part, positive_part, low_sum, high_sum, lowest_offset, highest_offset}
use Rattle.offsets.proofs.Ends.{ends_inside, ends-exact}

one_span : (s : ℤ) → span 1 s ≡ pos 0
unfolding span
one_span s = *ℤ-zero s

-- ---- ordering adds no axis, and what dropping leaves out is an axis too: rule L3 holds of every size 1
one-fits : (s : ℤ) → reset_fits 1 s ≡ true
unfolding reset_fits fits_i64
one-fits s = rw (one_span s)

insert-axes : (a : ReduceOuterAxis) (xs : List ReduceOuterAxis) → Axes (insert_axis a xs) → Axis a × Axes xs
unfolding insert_axis Axes
insert-axes a [] w = w
insert-axes a (b ∷ bs) w = go (precedes a.source_step b.source_step) w (insert-axes a bs)
  where
    go : (t : Bool) → Axes (cond t (a ∷ b ∷ bs) (b ∷ insert_axis a bs)) → (Axes (insert_axis a bs) → Axis a × Axes bs) → Axis a × Axes (b ∷ bs)
    go true w f = w
    go false w f = let r = f w.1 in (r.0, (w.0, r.1))

order-axes : (done xs : List ReduceOuterAxis) → Axes (order_from done xs) → Axes done × Axes xs
unfolding order_from Axes
order-axes done [] w = (w, tt)
order-axes done (a ∷ xs) w =
    let r = order-axes (insert_axis a done) xs w in
    let i = insert-axes a done r.0 in
    (i.1, (i.0, r.1))

kept-given : (ns : List ℕ) (ss : List ℤ) → Axes (kept_axes ns ss) → Axes (axes_in ns ss)
unfolding kept_axes axes_in axis_of Axes
kept-given [] ss w = tt
kept-given (n ∷ ns) [] w = tt
kept-given (n ∷ ns) (s ∷ ss) w = go (eqb n 1) refl w (kept-given ns ss)
  where
    go : (b : Bool) → eqb n 1 ≡ b → Axes (cond b (kept_axes ns ss) (axis_of n s ∷ kept_axes ns ss)) → (Axes (kept_axes ns ss) → Axes (axes_in ns ss))
        → Axes (axis_of n s ∷ axes_in ns ss)
    go true q w f = let e = eqb-true n 1 q in ((refl, omega arith, ap (λ (m : ℕ). reset_fits m s) e ∙ one-fits s), f w)
    go false q w f = (w.0, f w.1)

pub given-axes : (ns : List ℕ) (ss : List ℤ) → Axes (axes_of ns ss) → Axes (axes_in ns ss)
unfolding axes_of
given-axes ns ss w = kept-given ns ss (order-axes [] (kept_axes ns ss) w).1

-- ---- a sum over the axes does not ask for their order, nor for those whose share is 0
sum_by : (ReduceOuterAxis → ℤ) → List ReduceOuterAxis → ℤ
sum_by f [] = pos 0
sum_by f (a ∷ xs) = f a +ℤ sum_by f xs

module _ (f : ReduceOuterAxis → ℤ) where
  order-sum : (ns : List ℕ) (ss : List ℤ) → sum_by f (axes_of ns ss) ≡ sum_by f (kept_axes ns ss)
  unfolding sum_by
  order-sum = gathers (λ a z. f a +ℤ z) (λ a b z. swap (f a) (f b) z) (pos 0) (sum_by f) refl (λ a xs. refl)
    where
      swap : (x y z : ℤ) → x +ℤ (y +ℤ z) ≡ y +ℤ (x +ℤ z)
      swap x y z = simp ints (simp atoms (omega arith))

  module _ (none : (s : ℤ) → f (axis_of 1 s) ≡ pos 0) where
    kept-sum : (ns : List ℕ) (ss : List ℤ) → sum_by f (kept_axes ns ss) ≡ sum_by f (axes_in ns ss)
    unfolding kept_axes axes_in sum_by
    kept-sum [] ss = refl
    kept-sum (n ∷ ns) [] = refl
    kept-sum (n ∷ ns) (s ∷ ss) = go (eqb n 1) refl (kept-sum ns ss)
      where
        zero-first : (x y : ℤ) → x ≡ pos 0 → y ≡ x +ℤ y
        zero-first x y e = rw e (simp ints (simp atoms (omega arith)))

        go : (b : Bool) → eqb n 1 ≡ b → sum_by f (kept_axes ns ss) ≡ sum_by f (axes_in ns ss)
            → sum_by f (cond b (kept_axes ns ss) (axis_of n s ∷ kept_axes ns ss)) ≡ f (axis_of n s) +ℤ sum_by f (axes_in ns ss)
        go true q i = i ∙ zero-first (f (axis_of n s)) (sum_by f (axes_in ns ss)) (ap (λ (m : ℕ). f (axis_of m s)) (eqb-true n 1 q) ∙ none s)
        go false q i = ap (λ (z : ℤ). f (axis_of n s) +ℤ z) i

    given-sum : (ns : List ℕ) (ss : List ℤ) → sum_by f (axes_in ns ss) ≡ sum_by f (axes_of ns ss)
    given-sum ns ss = sym (order-sum ns ss ∙ kept-sum ns ss)

-- ---- both ends are such sums
low_share : ReduceOuterAxis → ℤ
low_share a = negative_part (span a.extent a.source_step)

high_share : ReduceOuterAxis → ℤ
high_share a = positive_part (span a.extent a.source_step)

low_sum_lem : (xs : List ReduceOuterAxis) → low_sum xs ≡ sum_by low_share xs
unfolding low_sum sum_by low_share
low_sum_lem [] = refl
low_sum_lem (a ∷ xs) = ap (λ (z : ℤ). negative_part (span a.extent a.source_step) +ℤ z) (low_sum_lem xs)

high_sum_lem : (xs : List ReduceOuterAxis) → high_sum xs ≡ sum_by high_share xs
unfolding high_sum sum_by high_share
high_sum_lem [] = refl
high_sum_lem (a ∷ xs) = ap (λ (z : ℤ). positive_part (span a.extent a.source_step) +ℤ z) (high_sum_lem xs)

low-one : (s : ℤ) → low_share (axis_of 1 s) ≡ pos 0
unfolding low_share axis_of negative_part
low-one s = rw (one_span s)

high_one : (s : ℤ) → high_share (axis_of 1 s) ≡ pos 0
unfolding high_share axis_of positive_part
high_one s = rw (one_span s)

given-low : (ns : List ℕ) (ss : List ℤ) → low_sum (axes_in ns ss) ≡ low_sum (axes_of ns ss)
given-low ns ss = low_sum_lem (axes_in ns ss) ∙ given-sum low_share low-one ns ss ∙ sym (low_sum_lem (axes_of ns ss))

given-high : (ns : List ℕ) (ss : List ℤ) → high_sum (axes_in ns ss) ≡ high_sum (axes_of ns ss)
given-high ns ss = high_sum_lem (axes_in ns ss) ∙ given-sum high_share high_one ns ss ∙ sym (high_sum_lem (axes_of ns ss))

pub given_inside : (ns : List ℕ) (ss : List ℤ) (base : ℤ) (len : ℕ) → Axes (axes_in ns ss) → Axes (axes_of ns ss)
    → all_inside (axes_in ns ss) (elements (axes_in ns ss)) base len ≡ all_inside (axes_of ns ss) (elements (axes_of ns ss)) base len
unfolding ends_inside lowest_offset highest_offset
given_inside ns ss base len v w = ends-exact (axes_in ns ss) v base len ∙ same ∙ sym (ends-exact (axes_of ns ss) w base len)
  where
    ends : ℤ → ℤ → Bool
    ends l h = le_z (pos 0) (base +ℤ l) && lt_z (base +ℤ h) (pos (2 ^ 63)) && lt_z (base +ℤ h) (pos len)

    same : ends_inside (axes_in ns ss) base len ≡ ends_inside (axes_of ns ss) base len
    same = ap (λ (l : ℤ). ends l (high_sum (axes_in ns ss))) (given-low ns ss) ∙ ap (λ (h : ℤ). ends (low_sum (axes_of ns ss)) h) (given-high ns ss)
