-- The exponents are far from the ends of i64.
use Rattle.std.proofs.Common.{◌≤◌, ◌^◌, ℤ, nat_abs, refl, sym, subst, arith, to_z, w64, lit≤}
use Rattle.std.proofs.Math.Nat.{le_trans}
use Rattle.kernels.specs.Blocks.{e_of}
use Rattle.kernels.proofs.Feeding.{worked-none, worked-more, worked-all}
use Rattle.vectors.specs.InnerWaiting.{exponents_of}
use Rattle.vectors.proofs.Vectors.{some-exponents-size, next-sum-fits, next-sum-exact}
use Rattle.vectors.proofs.feeding.exponents.Goals as goal
use Rattle.vectors.proofs.feeding.exponents.Goals.{In-loop-x}

-- the exponents so far, and the next
so_far : (c : In-loop-x) → nat_abs (to_z w64 c.loop-x.e-bits) ≤ 2 ^ 61
so_far c =
    subst (λ (z : ℤ). nat_abs z ≤ 2 ^ 61) (sym c.loop-x.invariant.is)
    (le_trans (some-exponents-size (2 ^ 56) c.args.s c.requires c.loop-x.x-index) (let l = c.loop-x-test.true in omega arith))

next : (c : In-loop-x) → nat_abs (e_of c.args.s c.loop-x.x-index) ≤ 2 ^ 61
next c = le_trans (c.requires.at c.loop-x.x-index) (lit≤ tt)

pub loop-x-init : goal.loop-x-init
loop-x-init c = worked-none refl

pub overflow_add-e : goal.overflow_add-e
overflow_add-e c =
    let i = (goal.at.overflow_add-e c).In-loop-x in
    next-sum-fits (to_z w64 c.loop-x.e-bits) (e_of c.args.s c.loop-x.x-index) (so_far i) (next i)

pub loop-x-preserved : goal.loop-x-preserved
loop-x-preserved c =
    let i = (goal.at.loop-x-preserved c).In-loop-x in
    worked-more c.loop-x.invariant c.loop-x-test.true
    (next-sum-exact (to_z w64 c.loop-x.e-bits) (e_of c.args.s c.loop-x.x-index) (so_far i) (next i))

pub returns : goal.returns
unfolding exponents_of
returns c = worked-all c.loop-x.invariant c.loop-x-test.false
