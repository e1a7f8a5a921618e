-- Assumes nothing.
use mathlib.Core.Path.{refl, ap, ◌∙◌}
use borrow.Author.Rules.{rules}
use lib.ListN.{get_or}
use lib.Ieee.{Float, nan}
use Rattle.kernels.proofs.Feeding.{worked-none, worked-more, worked-fed}
use Rattle.vectors.specs.InnerWaiting.{lesser, wait_step}
use Rattle.vectors.proofs.Vectorwise.{wait-lane}
use Rattle.vectors.proofs.vector.wait_vector.Goals as goal

pub loop-k-init : goal.loop-k-init
loop-k-init c = worked-none refl

pub loop-k-preserved : goal.loop-k-preserved
loop-k-preserved c =
    let k = c.loop-k.k in
    let l = c.loop-k-test.true in
    worked-more c.loop-k.invariant l
    (wait-lane c.args.signs c.loop-k.t k (get_or c.args.vector.v k nan) c.lesser.result l
    (c.lesser.ensures ∙ ap (λ (z : Float). lesser z (get_or c.loop-k.t.least k nan)) c.measure.ensures))

pub returns : goal.returns
returns c = worked-fed (wait_step c.args.signs) nan c.args.vector.v (search rules) c.loop-k.invariant c.loop-k-test.false
