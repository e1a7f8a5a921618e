-- Assumes nothing.
use Prim.Native.Nat.{ℕ, ◌^◌, ◌≤◌}
use mathlib.Core.Path.{◌≡◌, refl, sym, ap, ◌∙◌, subst}
use mathlib.Core.Bool.{true}
use native.Mathlib.Nat.{le_trans}
use native.Mathlib.Omega.{arith}
use borrow.Author.Rules.{rules}
use lib.ListN.{length}
use lib.IntN.{ℤ, pos, nat_abs, ◌+ℤ◌}
use lib.Dec.{lit≤}
use lib.Ieee.{Float, nan}
use mir.Val.{to_z}
use mir.Syntax.{w64}
use Rattle.floats.specs.declared.Split.{Split}
use Rattle.floats.specs.Product.{product_of}
use Rattle.floats.specs.Splitting.{split}
use Rattle.kernels.specs.declared.lanes.Lanes.{Lanes}
use Rattle.kernels.specs.Lanes.{in_order}
use Rattle.kernels.specs.Blocks.{e_of}
use Rattle.kernels.specs.InnerLanes.{SmallLanes}
use Rattle.kernels.proofs.Sizes.{split-size}
use Rattle.kernels.proofs.Feeding.{Worked, worked-none, worked-more, worked-all}
use Rattle.vectors.specs.InnerWaiting.{one}
use Rattle.vectors.specs.InnerMarked.{product_before}
use Rattle.vectors.proofs.Chaining.{product-in}
use Rattle.vectors.proofs.Folds.{fold-prefix}
use Rattle.vectors.proofs.Vectors.{plus, some-exponents-size, next-sum-fits, next-sum-exact}
use Rattle.vectors.proofs.marked.product_before.Goals as goal

-- the exponents of k lanes, and a lane's, are far from the ends of i64
so_far : (s : Lanes) → SmallLanes (2 ^ 56) s → (n k : ℕ) (e : ℤ) → n ≤ 8 → Worked (plus s) n (pos 0) e k → nat_abs e ≤ 2 ^ 61
so_far s h n k e l w =
    subst (λ (z : ℤ). nat_abs z ≤ 2 ^ 61) (sym w.is) (le_trans (some-exponents-size (2 ^ 56) s h k) (let u = w.upto in omega arith))

next : (s : Lanes) → SmallLanes (2 ^ 56) s → (k : ℕ) → nat_abs (e_of s k) ≤ 2 ^ 61
next s h k = le_trans (h.at k) (lit≤ tt)

within : (x : Float) (q : Split) → q ≡ split x → nat_abs q.e ≤ 2 ^ 61
within x q e = subst (λ (q : Split). nat_abs q.e ≤ 2 ^ 61) (sym e) (le_trans (split-size x) (lit≤ tt))

pub loop-k-init : goal.loop-k-init
loop-k-init c = worked-none refl

pub overflow_add-e : goal.overflow_add-e
overflow_add-e c =
    let s = c.args.s in
    next-sum-fits (to_z w64 c.loop-k.e-bits) (e_of s c.loop-k.k) (so_far s c.requires.0 c.args.n c.loop-k.k (to_z w64 c.loop-k.e-bits) c.requires.1 c.loop-k.invariant)
    (next s c.requires.0 c.loop-k.k)

pub loop-k-preserved : goal.loop-k-preserved
loop-k-preserved c =
    let s = c.args.s in
    worked-more c.loop-k.invariant c.loop-k-test.true
    (next-sum-exact (to_z w64 c.loop-k.e-bits) (e_of s c.loop-k.k)
    (so_far s c.requires.0 c.args.n c.loop-k.k (to_z w64 c.loop-k.e-bits) c.requires.1 c.loop-k.invariant)
    (next s c.requires.0 c.loop-k.k))

pub overflow_add-result : goal.overflow_add-result
overflow_add-result c =
    let s = c.args.s in
    let q = c.split_f64-q.result in
    next-sum-fits (to_z w64 c.loop-k.e-bits) q.e (so_far s c.requires.0 c.args.n c.loop-k.k (to_z w64 c.loop-k.e-bits) c.requires.1 c.loop-k.invariant)
    (within c.product.result q c.split_f64-q.ensures)

pub returns : goal.returns
unfolding product_before
returns c =
    let s = c.args.s in
    let n = c.args.n in
    let q = c.split_f64-q.result in
    let w = c.loop-k.invariant in
    let long : length s.m ≡ 8 = search rules in
    let p : c.product.result ≡ in_order (product-in s.m) n one =
    c.product.ensures ∙ fold-prefix (product_of 11 52) nan one s.m n (omega (arith, long, c.requires.1)) in
    ap (λ (z : ℤ). record { m = q.m; e = z; bad = true })
    (next-sum-exact (to_z w64 c.loop-k.e-bits) q.e (so_far s c.requires.0 n c.loop-k.k (to_z w64 c.loop-k.e-bits) c.requires.1 w)
    (within c.product.result q c.split_f64-q.ensures))
    ∙ ap (λ (z : ℤ). record { m = q.m; e = z +ℤ q.e; bad = true }) (worked-all w c.loop-k-test.false)
    ∙ ap (λ (r : Split). record { m = r.m; e = in_order (plus s) n (pos 0) +ℤ r.e; bad = true }) (c.split_f64-q.ensures ∙ ap split p)
