-- Laws of rule L1: the total is the product of the sizes, which is how many elements the axes have.
-- Assumes nothing.
use Prim.Native.Nat.{ℕ, zero, suc, ◌*◌, ◌^◌, ◌≤◌, ◌<◌}
use mathlib.Core.Path.{◌≡◌, refl, sym, ◌∙◌, ap}
use mathlib.Core.Bool.{Bool, true, false, cond}
use mathlib.Core.List.{List, [], ◌∷◌}
use Rattle.std.specs.Prelude.{None, Some}
use native.Mathlib.Omega.{arith}
use native.Mathlib.Nat.{mul_assoc, mul-one, mul-zero, zero-mul, le-mul_of_pos_right}
use lib.Dec.{eqb, ltb}
use lib.ListN.{length}
use lib.IntN.{ℤ}
use borrow.Author.Tests.{eqb-true, lt-ltb, le-ltb, ltb-true, ltb-false}
use Rattle.layout.specs.declared.axis.ReduceOuterAxis.{ReduceOuterAxis}
use Rattle.layout.specs.Axes.{axis_of}
use Rattle.layout.specs.Order.{kept_axes, axes_of}
use Rattle.layout.specs.Compile.{total_from, total_of}
use Rattle.layout.specs.InnerTables.{elements}
use Rattle.layout.proofs.Fusing.{some_inj, none-some}
use Rattle.layout.proofs.AnyOrder.{same-elements}

-- ---- small steps
pub pos-of-mul-right : (x y : ℕ) → 0 < x * y → 0 < y
pos-of-mul-right x zero h = let e = mul-zero x in omega arith
pos-of-mul-right x (suc y) h = omega arith

pub pos-of-mul-left : (x y : ℕ) → 0 < x * y → 0 < x
pos-of-mul-left zero y h = let e = zero-mul y in omega arith
pos-of-mul-left (suc x) y h = omega arith

-- ---- the product
unfoldable pub sizes-product : List ℕ → ℕ
sizes-product [] = 1
sizes-product (n ∷ ns) = n * sizes-product ns

pub total-product : (u : ℕ) (ns : List ℕ) (t : ℕ) → total_from u ns ≡ Some t → t ≡ u * sizes-product ns
unfolding total_from sizes-product
total-product u [] t e = let q : u ≡ t = some_inj e in omega arith
total-product u (n ∷ ns) t e = go (ltb (u * n) (2 ^ 64)) refl (total-product (u * n) ns t)
  where
    go : (b : Bool) → ltb (u * n) (2 ^ 64) ≡ b → (total_from (u * n) ns ≡ Some t → t ≡ u * n * sizes-product ns) → t ≡ u * (n * sizes-product ns)
    go true q f = f (sym (ap (λ (b : Bool). cond b (total_from (u * n) ns) None) q) ∙ e) ∙ mul_assoc u n (sizes-product ns)
    go false q f = absurd (none-some (sym (ap (λ (b : Bool). cond b (total_from (u * n) ns) None) q) ∙ e))

-- ---- the elements of the axes
axis-elements : (n : ℕ) (s : ℤ) (l : List ReduceOuterAxis) → elements (axis_of n s ∷ l) ≡ n * elements l
unfolding elements axis_of
axis-elements n s l = refl

kept-elements : (ns : List ℕ) (ss : List ℤ) → length ns ≡ length ss → elements (kept_axes ns ss) ≡ sizes-product ns
unfolding kept_axes sizes-product elements
kept-elements [] ss e = refl
kept-elements (n ∷ ns) [] e = absurd (no e)
  where
    no : suc (length ns) ≡ 0 → ⊥
    no h = omega arith
kept-elements (n ∷ ns) (s ∷ ss) e = go (eqb n 1) refl (kept-elements ns ss (omega arith))
  where
    go : (b : Bool) → eqb n 1 ≡ b → elements (kept_axes ns ss) ≡ sizes-product ns
        → elements (cond (eqb n 1) (kept_axes ns ss) (axis_of n s ∷ kept_axes ns ss)) ≡ n * sizes-product ns
    go true q i = let o : n ≡ 1 = eqb-true n 1 q in rw q (i ∙ (let m = ap (λ (x : ℕ). x * sizes-product ns) o in omega arith))
    go false q i = rw q (axis-elements n s (kept_axes ns ss) ∙ ap (λ (x : ℕ). n * x) i)

pub axes-elements : (ns : List ℕ) (ss : List ℤ) → length ns ≡ length ss → elements (axes_of ns ss) ≡ sizes-product ns
axes-elements ns ss e = same-elements ns ss ∙ kept-elements ns ss e

-- ---- without a size of 0 the order of the sizes does not count
total-from : (u : ℕ) (ns : List ℕ) → u < 2 ^ 64 → 0 < sizes-product ns
    → total_from u ns ≡ cond (ltb (u * sizes-product ns) (2 ^ 64)) (Some (u * sizes-product ns)) None
unfolding total_from sizes-product
total-from u [] h k = rw (mul-one u, lt-ltb u (2 ^ 64) h)
total-from u (n ∷ ns) h k = go (ltb (u * n) (2 ^ 64)) refl (λ l. total-from (u * n) ns l (pos-of-mul-right n (sizes-product ns) k))
  where
    p : ℕ
    p = sizes-product ns

    go : (b : Bool) → ltb (u * n) (2 ^ 64) ≡ b
        → (u * n < 2 ^ 64 → total_from (u * n) ns ≡ cond (ltb (u * n * p) (2 ^ 64)) (Some (u * n * p)) None)
        → cond (ltb (u * n) (2 ^ 64)) (total_from (u * n) ns) None ≡ cond (ltb (u * (n * p)) (2 ^ 64)) (Some (u * (n * p))) None
    go true q i =
        ap (λ (b : Bool). cond b (total_from (u * n) ns) None) q
        ∙ i (ltb-true (u * n) (2 ^ 64) q)
        ∙ ap (λ (x : ℕ). cond (ltb x (2 ^ 64)) (Some x) None) (mul_assoc u n p)
    go false q i =
        ap (λ (b : Bool). cond b (total_from (u * n) ns) None) q
        ∙ sym (ap (λ (b : Bool). cond b (Some (u * (n * p))) None) (le-ltb (u * (n * p)) (2 ^ 64) over))
      where
        over : 2 ^ 64 ≤ u * (n * p)
        over =
            let l = ltb-false (u * n) (2 ^ 64) q in
            let g = le-mul_of_pos_right (u * n) (pos-of-mul-right n p k) in
            let a = mul_assoc u n p in
            omega arith

pub total-is : (ns : List ℕ) → 0 < sizes-product ns → total_of ns ≡ cond (ltb (1 * sizes-product ns) (2 ^ 64)) (Some (1 * sizes-product ns)) None
unfolding total_of
total-is ns k = total-from 1 ns (omega arith) k
