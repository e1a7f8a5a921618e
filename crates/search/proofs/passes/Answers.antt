-- Lanes that pass both tests met no bad value.
use Rattle.std.proofs.Common.{◌≡◌, ◌∙◌, refl, ap, sym, false, ◌*◌, List, Float, pos, replicate, to_z-of_z}
use lib.Ieee.{fin, of_bits}
use Rattle.laws.proofs.Tests.{and_both}
use Rattle.kernels.specs.Lanes.{feed, every}
use Rattle.kernels.specs.InnerStrided.{strided}
use Rattle.kernels.proofs.Striding.{strided-values}
use Rattle.vectors.specs.declared.vector.Waiting.{Waiting}
use Rattle.vectors.specs.InnerWaiting.{one, wait_step, least_of, not_below, not_past}
use Rattle.search.proofs.Passing.{passed-good}
use Rattle.search.proofs.passes.Goals as goal

-- the lanes begin with zeros
abbrev began : Waiting
began = record { m = replicate 8 (fin false 0 (pos 0)); least = replicate 8 one }

pub returns : goal.returns
unfolding of_bits
returns c h =
    let signs = c.args.signs in
    let tested : List Float = strided c.args.values.now c.args.first c.args.stride (8 * c.args.vectors) in
    let waited : c.wait_vectors-r.result.lanes ≡ feed (wait_step signs) 0 began tested =
    simp (to_z-of_z c.ranges.first, to_z-of_z c.ranges.stride) at c.wait_vectors-r.ensures.lanes_value in
    let both = and_both _ _ h in
    passed-good signs began refl refl tested (strided-values c.args.values.now c.type_inv.values c.args.first c.args.stride (8 * c.args.vectors))
    (ap (λ (u : Waiting). every (not_below (least_of signs 511)) u.least) (sym waited)
    ∙ ap (λ (z : Float). every (not_below z) c.wait_vectors-r.result.lanes.least) (sym c.least_of-least.ensures)
    ∙ sym c.none_below.ensures
    ∙ both.0)
    (ap (λ (u : Waiting). every not_past u.m) (sym waited) ∙ sym c.none_past.ensures ∙ both.1)
