-- The compiled answer of one axis.
-- Assumes nothing.
use Prim.Native.Nat.{ℕ, ◌*◌, ◌^◌, ◌≤◌, ◌<◌}
use mathlib.Core.Path.{◌≡◌, refl, ◌∙◌, ap}
use mathlib.Core.Bool.{Bool, true, false, cond, ◌&&◌}
use mathlib.Core.List.{List, [], ◌∷◌}
use Rattle.std.specs.Prelude.{None, Some}
use native.Mathlib.Omega.{arith}
use lib.ListN.{length, get_or}
use lib.IntN.{ℤ, pos}
use borrow.Author.Tests.{lt-ltb, eq-eqb, ne_eqb}
use Rattle.layout.specs.declared.axis.ReduceOuterAxis.{ReduceOuterAxis}
use Rattle.layout.specs.Axes.{PLACES, axis_of, reset_fits}
use Rattle.layout.specs.Order.{kept_axes, insert_axis, order_from, axes_of, resets_fit}
use Rattle.layout.specs.Fuse.{fuse, fuse_from}
use Rattle.layout.specs.Compile.{total_from, total_of, fused_of, layout_of, empty_layout, traversal_of, compile_of}
use Rattle.layout.proofs.Compiling.{no-elements, unfused, fused-is, code-0, code-3, code-4}

-- a list of length 1
pub single : {A : Type 0} (d : A) (xs : List A) → length xs ≡ 1 → get_or xs 0 d ∷ [] ≡ xs
single d [] e = absurd (omega arith)
single d (x ∷ []) e = refl
single d (x ∷ y ∷ ys) e = absurd (omega arith)

-- an axis that is kept: the order and the fusing leave it alone
fuse-one : (a : ReduceOuterAxis) → fuse (order_from [] (a ∷ [])) ≡ Some (a ∷ [])
unfolding order_from insert_axis fuse fuse_from
fuse-one a = refl

resets-one : (a : ReduceOuterAxis) (b : Bool) → reset_fits a.extent a.source_step ≡ b → resets_fit (a ∷ []) ≡ b
unfolding resets_fit
resets-one a true e = ap (λ (b : Bool). b && true) e
resets-one a false e = ap (λ (b : Bool). b && true) e

module _ (n : ℕ) (s : ℤ) where
  kept-none : n ≡ 1 → kept_axes (n ∷ []) (s ∷ []) ≡ []
  unfolding kept_axes
  kept-none e = ap (λ (b : Bool). cond b [] (axis_of n s ∷ [])) (eq-eqb n 1 e)

  kept-one : (n ≡ 1 → ⊥) → kept_axes (n ∷ []) (s ∷ []) ≡ axis_of n s ∷ []
  unfolding kept_axes
  kept-one e = ap (λ (b : Bool). cond b [] (axis_of n s ∷ [])) (ne_eqb n 1 e)

  -- the fused axes by the kept ones
  fused-kept : (xs : List ReduceOuterAxis) → kept_axes (n ∷ []) (s ∷ []) ≡ xs → fused_of (n ∷ []) (s ∷ []) ≡ cond (resets_fit xs) (fuse (order_from [] xs)) None
  unfolding fused_of axes_of
  fused-kept xs e = ap (λ (z : List ReduceOuterAxis). cond (resets_fit z) (fuse (order_from [] z)) None) e

  line-dropped : n ≡ 1 → fused_of (n ∷ []) (s ∷ []) ≡ Some []
  unfolding resets_fit order_from fuse
  line-dropped e = fused-kept [] (kept-none e)

  module _ (e : n ≡ 1 → ⊥) where
    line-fused : reset_fits n s ≡ true → fused_of (n ∷ []) (s ∷ []) ≡ Some (axis_of n s ∷ [])
    unfolding axis_of
    line-fused f =
        fused-kept _ (kept-one e)
        ∙ ap (λ (b : Bool). cond b (fuse (order_from [] (axis_of n s ∷ []))) None) (resets-one (axis_of n s) true f)
        ∙ fuse-one (axis_of n s)

    line-unfused : reset_fits n s ≡ false → fused_of (n ∷ []) (s ∷ []) ≡ None
    unfolding axis_of
    line-unfused f = fused-kept _ (kept-one e) ∙ ap (λ (b : Bool). cond b (fuse (order_from [] (axis_of n s ∷ []))) None) (resets-one (axis_of n s) false f)

  module _ (h : n < 2 ^ 64) where
    line-total : total_of (n ∷ []) ≡ Some n
    unfolding total_of total_from
    line-total =
        let e : 1 * n ≡ n = omega arith in
        rw (e, lt-ltb n (2 ^ 64) h)

    -- no elements
    pub line-empty : n ≡ 0 → compile_of PLACES (n ∷ []) (s ∷ []) ≡ record { code = 0; traversal = empty_layout PLACES }
    line-empty z = code-0 (n ∷ []) (s ∷ []) refl (omega arith) (empty_layout PLACES) n (no-elements (n ∷ []) (s ∷ []) n line-total z) line-total (omega arith)

    -- an axis of size 1 is dropped: a run of 1 by 1
    pub line-one : n ≡ 1 → compile_of PLACES (n ∷ []) (s ∷ []) ≡ record { code = 0; traversal = layout_of PLACES 1 (axis_of 1 (pos 1) ∷ []) }
    unfolding layout_of axis_of
    line-one e =
        code-0 (n ∷ []) (s ∷ []) refl (omega arith) (layout_of PLACES n []) n (fused-is (n ∷ []) (s ∷ []) n line-total (λ z. omega arith) [] (line-dropped e))
        line-total (omega arith)
        ∙ ap (λ (k : ℕ). record { code = 0; traversal = layout_of PLACES k [] }) e

    -- else rule L3, then rule L1's most
    module _ (z : n ≡ 0 → ⊥) (e : n ≡ 1 → ⊥) where
      pub line-3 : reset_fits n s ≡ false → compile_of PLACES (n ∷ []) (s ∷ []) ≡ record { code = 3; traversal = empty_layout PLACES }
      line-3 f = code-3 (n ∷ []) (s ∷ []) refl (omega arith) (unfused (n ∷ []) (s ∷ []) n line-total z (line-unfused e f))

      module _ (f : reset_fits n s ≡ true) where
        is-line : traversal_of PLACES (n ∷ []) (s ∷ []) ≡ Some (layout_of PLACES n (axis_of n s ∷ []))
        is-line = fused-is (n ∷ []) (s ∷ []) n line-total z (axis_of n s ∷ []) (line-fused e f)

        pub line-4 : 2 ^ 40 < n → compile_of PLACES (n ∷ []) (s ∷ []) ≡ record { code = 4; traversal = empty_layout PLACES }
        line-4 k = code-4 (n ∷ []) (s ∷ []) refl (omega arith) _ n is-line line-total k

        pub line-run : n ≤ 2 ^ 40 → compile_of PLACES (n ∷ []) (s ∷ []) ≡ record { code = 0; traversal = layout_of PLACES n (axis_of n s ∷ []) }
        line-run k = code-0 (n ∷ []) (s ∷ []) refl (omega arith) _ n is-line line-total k
