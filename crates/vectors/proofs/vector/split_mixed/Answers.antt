-- Assumes nothing.
use Prim.Native.Nat.{◌+◌, ◌*◌, ◌^◌}
use mathlib.Core.Path.{refl, sym, subst}
use native.Mathlib.Omega.{arith}
use borrow.Author.Rules.{rules}
use lib.ListN.{get_or}
use lib.Ieee.{nan}
use Rattle.floats.proofs.Splitting.{farthest}
use Rattle.kernels.proofs.Feeding.{worked-none, worked-more, worked-fed}
use Rattle.kernels.specs.Blocks.{split_step}
use Rattle.kernels.specs.InnerLanes.{SmallLanes}
use Rattle.kernels.proofs.LaneSizes.{lanes-le, step_small}
use Rattle.vectors.proofs.vector.split_mixed.Goals as goal

pub loop-k-init : goal.loop-k-init
loop-k-init c = (worked-none refl, lanes-le (2 ^ 59) (2 ^ 59 + farthest * 0) c.args.s (omega arith) c.requires)

pub split_step-t-requires : goal.split_step-t-requires
split_step-t-requires c = lanes-le (2 ^ 59 + farthest * c.loop-k.k) (2 ^ 60) c.loop-k.t (omega arith) c.loop-k.invariant.1

pub loop-k-preserved : goal.loop-k-preserved
loop-k-preserved c =
    let k = c.loop-k.k in
    let x = get_or c.args.vector.v k nan in (
      worked-more c.loop-k.invariant.0 c.loop-k-test.true c.split_step-t.ensures,
      subst (SmallLanes (2 ^ 59 + farthest * (k + 1))) (sym c.split_step-t.ensures)
          (lanes-le (2 ^ 59 + farthest * k + farthest) (2 ^ 59 + farthest * (k + 1)) (split_step k c.loop-k.t x) (omega arith)
          (step_small (2 ^ 59 + farthest * k) c.loop-k.t c.loop-k.invariant.1 k x)),
    )

pub returns : goal.returns
returns c = worked-fed split_step nan c.args.vector.v (search rules) c.loop-k.invariant.0 c.loop-k-test.false
