-- Assumes nothing.
use Prim.Native.Nat.{◌+◌, ◌*◌, ◌^◌}
use mathlib.Core.Path.{◌≡◌, refl, sym, ap, ◌∙◌, subst}
use mathlib.Core.Bool.{false}
use native.Mathlib.Nat.{le_refl}
use native.Mathlib.Omega.{arith}
use Rattle.floats.specs.InnerKinds.{is_subnormal}
use Rattle.floats.proofs.Splitting.{farthest}
use Rattle.kernels.specs.declared.lanes.Lanes.{Lanes}
use Rattle.kernels.specs.Lanes.{in_order}
use Rattle.kernels.specs.Blocks.{m_of, renorm_lane, renorm}
use Rattle.kernels.specs.InnerLanes.{SmallLanes}
use Rattle.kernels.proofs.Feeding.{worked-none, worked-more, worked-all}
use Rattle.kernels.proofs.LaneSizes.{lanes-le, renormed-left, renormed-small}
use Rattle.kernels.proofs.lanes.stable_renorm.Goals as goal

pub loop-k-init : goal.loop-k-init
loop-k-init c = worked-none refl

pub renorm_lane-t-requires : goal.renorm_lane-t-requires
renorm_lane-t-requires c =
    let k = c.loop-k.k in
    let s = c.args.s in (
      c.loop-k-test.true,
      subst (SmallLanes (2 ^ 61)) (sym c.loop-k.invariant.is)
          (lanes-le (2 ^ 60 + farthest * k) (2 ^ 61) (in_order renorm_lane k s) (omega arith) (renormed-small (2 ^ 60) k s c.requires.0)),
      subst (λ (u : Lanes). is_subnormal (m_of u k) ≡ false) (sym c.loop-k.invariant.is)
          (ap is_subnormal (renormed-left k k s (le_refl k)) ∙ c.requires.1 k c.loop-k-test.true),
    )

pub loop-k-preserved : goal.loop-k-preserved
loop-k-preserved c = worked-more c.loop-k.invariant c.loop-k-test.true c.renorm_lane-t.ensures

pub returns : goal.returns
unfolding renorm
returns c = worked-all c.loop-k.invariant c.loop-k-test.false
