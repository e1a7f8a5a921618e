-- Assumes nothing.
use Prim.Native.Nat.{◌^◌}
use mathlib.Core.Path.{◌∙◌}
use lib.Dec.{lit≤}
use Rattle.kernels.proofs.LaneSizes.{lanes-le}
use Rattle.kernels.proofs.Factors.{lane-lt}
use Rattle.kernels.proofs.Stepwise.{split-near, split-lane}
use Rattle.kernels.proofs.lanes.split_step.Goals as goal

pub put_split-requires : goal.put_split-requires
put_split-requires c =
    (lane-lt c.args.i, lanes-le (2 ^ 60) (2 ^ 61) c.args.s (lit≤ tt) c.requires, split-near c.args.value c.split_f64.result c.split_f64.ensures)

pub returns : goal.returns
returns c = c.put_split.ensures ∙ split-lane c.args.i c.args.s c.args.value c.split_f64.result c.split_f64.ensures
