-- Laws of rules L1 and L5, and of the compiled answer.
-- Assumes nothing.
use Prim.Native.Nat.{ℕ, ◌+◌, ◌*◌, ◌^◌, ◌≤◌, ◌<◌}
use mathlib.Core.Path.{◌≡◌, refl, sym, ◌∙◌, ap}
use mathlib.Core.Bool.{Bool, true, false, cond}
use mathlib.Core.List.{List, [], ◌∷◌}
use Rattle.std.specs.Prelude.{Option, None, Some, Result, Err}
use Rattle.std.specs.Option.{ok_or}
use Rattle.refusals.specs.declared.Refusal.{Refusal}
use native.Mathlib.Omega.{arith}
use native.Mathlib.Numerals.{add-one}
use lib.ListN.{length, drop, get_or, drop_of_length-le}
use lib.Seq.{drop-cons}
use lib.IntN.{ℤ}
use borrow.Author.Tests.{lt-ltb, le-ltb, eq-eqb, ne_eqb}
use Rattle.layout.specs.declared.axis.ReduceOuterAxis.{ReduceOuterAxis}
use Rattle.layout.specs.declared.traversal.FullTraversal.{FullTraversal}
use Rattle.layout.specs.Axes.{PLACES}
use Rattle.layout.specs.Order.{kept_axes, axes_of, resets_fit}
use Rattle.layout.specs.Fuse.{fuse}
use Rattle.layout.proofs.AnyOrder.{same_number}
use Rattle.layout.proofs.Ordering.{length-kept}
use Rattle.layout.proofs.Fusing.{length-fuse, none-some}
use Rattle.refusals.specs.Refusals.{first_of}
use Rattle.layout.specs.Compile.{total_from, total_of, layout_of, empty_layout, fused_of, traversal_at, traversal_of, compile_refusals, layout_beside, compile_of, Compiled, told}
use Rattle.layout.specs.InnerAnswers.{placed}
use Rattle.layout.specs.Compile.{overflows, above_most}

-- ---- rule L1
pub total-more : (ns : List ℕ) (t i : ℕ) → i < length ns → t * get_or ns i 0 < 2 ^ 64 → total_from t (drop i ns) ≡ total_from (t * get_or ns i 0) (drop (i + 1) ns)
unfolding total_from
total-more ns t i h k = rw (add-one i, drop-cons ns i 0 h, lt-ltb (t * get_or ns i 0) (2 ^ 64) k)

pub total-over : (ns : List ℕ) (t i : ℕ) → i < length ns → 2 ^ 64 ≤ t * get_or ns i 0 → total_from t (drop i ns) ≡ None
unfolding total_from
total-over ns t i h k = rw (drop-cons ns i 0 h, le-ltb (t * get_or ns i 0) (2 ^ 64) k)

pub total-all : (ns : List ℕ) (t i : ℕ) → length ns ≤ i → total_from t (drop i ns) ≡ Some t
unfolding total_from
total-all ns t i h = rw (drop_of_length-le ns h)

-- ---- rules L2 to L4: the fused axes are no more than those of the input
pub length-fused : (ns : List ℕ) (ss : List ℤ) (xs : List ReduceOuterAxis) → fused_of ns ss ≡ Some xs → length xs ≤ length ns
unfolding fused_of
length-fused ns ss xs e = go (resets_fit (kept_axes ns ss)) e
  where
    go : (b : Bool) → cond b (fuse (axes_of ns ss)) None ≡ Some xs → length xs ≤ length ns
    go true f = let a = length-fuse (axes_of ns ss) xs f in let b = same_number ns ss in let d = length-kept ns ss in omega arith
    go false f = absurd (none-some f)

-- ---- rule L5: the layout
pub layout-total : (t : ℕ) (xs : List ReduceOuterAxis) → (layout_of PLACES t xs).total ≡ t
unfolding layout_of
layout-total t [] = refl
layout-total t (a ∷ xs) = refl

-- ---- the compiled answer
abbrev pub accepted : FullTraversal → Compiled
accepted l = record { code = 0; traversal = l }

-- what `?` gives back of a step that answered with nothing
pub refused-as : {A : Type 0} (l : FullTraversal) (r : Result (Unit {0}) Refusal) (x d e : Refusal) (o : Option A) → r ≡ Err x → x ≡ d → o ≡ None
    → Err d ≡ ok_or o e → placed r l ≡ told (Err e)
refused-as {A = A} l r x d e o p q n v = ap (λ (z : Result (Unit {0}) Refusal). placed z l) (p ∙ ap Err (q ∙ same (v ∙ ap (λ (z : Option A). ok_or z e) n)))
  where
    same : ◌≡◌ {A = Result A Refusal} (Err d) (Err e) → d ≡ e
    same w = cc

module _ (ns : List ℕ) (ss : List ℤ) where
  pub no-total : total_of ns ≡ None → traversal_of PLACES ns ss ≡ None
  unfolding traversal_of traversal_at
  no-total e = ap (traversal_at PLACES ns ss) e

  pub no-elements : (t : ℕ) → total_of ns ≡ Some t → t ≡ 0 → traversal_of PLACES ns ss ≡ Some (empty_layout PLACES)
  unfolding traversal_of traversal_at
  no-elements t e z = ap (traversal_at PLACES ns ss) (e ∙ ap Some z)

  module _ (t : ℕ) (e : total_of ns ≡ Some t) (n : t ≡ 0 → ⊥) where
    at-total : traversal_of PLACES ns ss ≡ elim (fused_of ns ss) [ None ↦ None | Some xs ↦ Some (layout_of PLACES t xs) ]
    unfolding traversal_of traversal_at
    at-total =
        ap (traversal_at PLACES ns ss) e
        ∙ ap (λ (b : Bool). cond b (Some (empty_layout PLACES)) (elim (fused_of ns ss) [ None ↦ None | Some xs ↦ Some (layout_of PLACES t xs) ])) (ne_eqb t 0 n)

    pub unfused : fused_of ns ss ≡ None → traversal_of PLACES ns ss ≡ None
    unfused f = at-total ∙ ap (λ (o : Option (List ReduceOuterAxis)). elim o [ None ↦ None | Some xs ↦ Some (layout_of PLACES t xs) ]) f

    pub fused-is : (xs : List ReduceOuterAxis) → fused_of ns ss ≡ Some xs → traversal_of PLACES ns ss ≡ Some (layout_of PLACES t xs)
    fused-is xs f = at-total ∙ ap (λ (o : Option (List ReduceOuterAxis)). elim o [ None ↦ None | Some xs ↦ Some (layout_of PLACES t xs) ]) f

    -- rule L3, and where it holds the fused axes
    pub no-resets : resets_fit (kept_axes ns ss) ≡ false → traversal_of PLACES ns ss ≡ None
    unfolding fused_of
    no-resets r = unfused (ap (λ (b : Bool). cond b (fuse (axes_of ns ss)) None) r)

    module _ (r : resets_fit (kept_axes ns ss) ≡ true) (xs : List ReduceOuterAxis) (w : xs ≡ axes_of ns ss) where
      as-fused : fused_of ns ss ≡ fuse xs
      unfolding fused_of
      as-fused = ap (λ (b : Bool). cond b (fuse (axes_of ns ss)) None) r ∙ ap fuse (sym w)

      pub no-fusing : fuse xs ≡ None → traversal_of PLACES ns ss ≡ None
      no-fusing f = unfused (as-fused ∙ f)

      pub is-layout : (ys : List ReduceOuterAxis) → fuse xs ≡ Some ys → traversal_of PLACES ns ss ≡ Some (layout_of PLACES t ys)
      is-layout ys f = fused-is ys (as-fused ∙ f)

-- ---- the ranks
module _ (ns : List ℕ) (ss : List ℤ) where
  answer : (c : ℕ) (o : Option FullTraversal) → first_of (compile_refusals PLACES ns ss) ≡ c → traversal_of PLACES ns ss ≡ o
      → compile_of PLACES ns ss ≡ record { code = c; traversal = layout_beside PLACES c o }
  unfolding compile_of
  answer c o e f =
      ap (λ (k : ℕ). record { code = k; traversal = layout_beside PLACES k (traversal_of PLACES ns ss) }) e
      ∙ ap (λ (x : Option FullTraversal). record { code = c; traversal = layout_beside PLACES c x }) f

  pub code-1 : (length ns ≡ length ss → ⊥) → compile_of PLACES ns ss ≡ record { code = 1; traversal = empty_layout PLACES }
  unfolding compile_refusals first_of layout_beside
  code-1 n = answer 1 (traversal_of PLACES ns ss) (rw (ne_eqb (length ns) (length ss) n)) refl

  module _ (e : length ns ≡ length ss) where
    pub code-2 : PLACES < length ns → compile_of PLACES ns ss ≡ record { code = 2; traversal = empty_layout PLACES }
    unfolding compile_refusals first_of layout_beside
    code-2 h = answer 2 (traversal_of PLACES ns ss) (rw (eq-eqb (length ns) (length ss) e, lt-ltb PLACES (length ns) h)) refl

    module _ (h : length ns ≤ PLACES) where
      pub code-3 : traversal_of PLACES ns ss ≡ None → compile_of PLACES ns ss ≡ record { code = 3; traversal = empty_layout PLACES }
      unfolding compile_refusals first_of layout_beside overflows
      code-3 f = answer 3 None (rw (eq-eqb (length ns) (length ss) e, le-ltb PLACES (length ns) h, f)) f

      pub code-4 : (l : FullTraversal) (t : ℕ) → traversal_of PLACES ns ss ≡ Some l → total_of ns ≡ Some t → 2 ^ 40 < t
          → compile_of PLACES ns ss ≡ record { code = 4; traversal = empty_layout PLACES }
      unfolding compile_refusals first_of layout_beside overflows above_most
      code-4 l t f g k = answer 4 (Some l) (rw (eq-eqb (length ns) (length ss) e, le-ltb PLACES (length ns) h, f, g, lt-ltb (2 ^ 40) t k)) f

      pub code-0 : (l : FullTraversal) (t : ℕ) → traversal_of PLACES ns ss ≡ Some l → total_of ns ≡ Some t → t ≤ 2 ^ 40
          → compile_of PLACES ns ss ≡ record { code = 0; traversal = l }
      unfolding compile_refusals first_of layout_beside overflows above_most
      code-0 l t f g k = answer 0 (Some l) (rw (eq-eqb (length ns) (length ss) e, le-ltb PLACES (length ns) h, f, g, le-ltb (2 ^ 40) t k)) f
