-- Assumes nothing.
use mathlib.Core.Path.{refl}
use borrow.Author.Rules.{rules}
use lib.ListN.{get_or}
use lib.Ieee.{nan}
use Rattle.kernels.specs.Blocks.{unsplit_step}
use Rattle.kernels.proofs.Feeding.{worked-none, worked-more, worked-fed}
use Rattle.kernels.proofs.Stepwise.{unsplit-lane}
use Rattle.vectors.proofs.vector.unsplit_vector.Goals as goal

pub loop-k-init : goal.loop-k-init
loop-k-init c = worked-none refl

pub loop-k-preserved : goal.loop-k-preserved
loop-k-preserved c =
    let l = c.loop-k-test.true in
    worked-more c.loop-k.invariant l (unsplit-lane c.loop-k.t c.loop-k.k (get_or c.args.vector.v c.loop-k.k nan) l)

pub returns : goal.returns
returns c = worked-fed unsplit_step nan c.args.vector.v (search rules) c.loop-k.invariant c.loop-k-test.false
