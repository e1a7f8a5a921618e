-- Assumes nothing.
use Prim.Native.Nat.{◌+◌, ◌*◌, ◌^◌}
use mathlib.Core.Path.{◌≡◌, refl, sym, ◌∙◌, subst}
use native.Mathlib.Omega.{arith}
use borrow.Author.Rules.{rules}
use lib.ListN.{get_or}
use lib.Ieee.{nan}
use Rattle.floats.proofs.Splitting.{farthest}
use Rattle.kernels.proofs.Feeding.{worked-none, worked-more, worked-fed}
use Rattle.kernels.specs.Blocks.{split_step}
use Rattle.kernels.specs.InnerLanes.{SmallLanes}
use Rattle.kernels.proofs.LaneSizes.{lanes-le, step_small}
use Rattle.kernels.proofs.Stepwise.{split-near, split-own}
use Rattle.vectors.proofs.vector.split_each.Goals as goal

pub loop-k-init : goal.loop-k-init
loop-k-init g c = (worked-none refl, lanes-le (2 ^ 59) (2 ^ 59 + farthest * 0) c.args.s (omega arith) c.requires.small)

pub put_split-t-requires : goal.put_split-t-requires
put_split-t-requires g c =
    let k = c.loop-k.k in
    let l = c.loop-k-test.true in (
      l,
      lanes-le (2 ^ 59 + farthest * k) (2 ^ 61) c.loop-k.t (omega arith) c.loop-k.invariant.1,
      split-near (get_or c.args.vector.v k nan) c.split.result (c.requires.splits.gives k c.split.result l c.split.ensures),
    )

pub loop-k-preserved : goal.loop-k-preserved
loop-k-preserved g c =
    let k = c.loop-k.k in
    let l = c.loop-k-test.true in
    let x = get_or c.args.vector.v k nan in
    let t = c.loop-k.t in
    let p = c.split.result in
    let e : c.put_split-t.result ≡ split_step k t x = c.put_split-t.ensures ∙ split-own k t x p l (c.requires.splits.gives k p l c.split.ensures) in (
      worked-more c.loop-k.invariant.0 l e,
      subst (SmallLanes (2 ^ 59 + farthest * (k + 1))) (sym e)
          (lanes-le (2 ^ 59 + farthest * k + farthest) (2 ^ 59 + farthest * (k + 1)) (split_step k t x) (omega arith)
          (step_small (2 ^ 59 + farthest * k) t c.loop-k.invariant.1 k x)),
    )

pub returns : goal.returns
returns g c = worked-fed split_step nan c.args.vector.v (search rules) c.loop-k.invariant.0 c.loop-k-test.false
