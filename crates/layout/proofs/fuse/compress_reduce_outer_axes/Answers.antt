-- Fusing what is left onto what is done gives the whole.
use Rattle.std.proofs.Common.{◌≡◌, ap, ℕ, List, [], take, Some, arith}
use Rattle.layout.specs.declared.axis.ReduceOuterAxis.{ReduceOuterAxis}
use Rattle.layout.specs.Fuse.{fuse}
use Rattle.layout.proofs.Fusing.{fused-first, fused-next, fused-stop, fused-all}
use Rattle.layout.proofs.fuse.compress_reduce_outer_axes.Goals as goal

nothing : (axes : List ReduceOuterAxis) (n : ℕ) → n ≡ 0 → fuse (take n axes) ≡ Some []
unfolding fuse
nothing axes n e = ap (λ (k : ℕ). fuse (take k axes)) e

pub returns-then-count-eq0-clause-axes_after : goal.returns-then-count-eq0-clause-axes_after
returns-then-count-eq0-clause-axes_after c = nothing _ _ c.if-count-eq0.true

pub loop-i-init : goal.loop-i-init
loop-i-init c = fused-first c.args.axes.now c.args.count (omega arith) (omega arith)

pub returns-in_err-f-clause-axes_after : goal.returns-in_err-f-clause-axes_after
returns-in_err-f-clause-axes_after c = rw c.from_residual.ensures (fused-stop c.args.axes.now c.args.count c.loop-i.axes c.loop-i.f c.loop-i.i (omega arith) (omega arith) c.loop-i.invariant c.in_err-f.ensures)

pub loop-i-preserved : goal.loop-i-preserved
loop-i-preserved c = fused-next c.args.axes.now c.args.count c.loop-i.axes c.loop-i.f c.loop-i.i (omega arith) (omega arith) c.loop-i.invariant c.in_ok-f.f c.in_ok-f.ensures

pub returns-clause-axes_after : goal.returns-clause-axes_after
returns-clause-axes_after c = fused-all c.args.axes.now c.args.count c.loop-i.axes c.loop-i.f c.loop-i.i (omega arith) (omega arith) c.loop-i.invariant
