-- Assumes nothing.
use mathlib.Core.Path.{◌∙◌, sym, ap}
use mathlib.Core.Bool.{Bool, false, ◌&&◌}
use Rattle.kernels.specs.Lanes.{every}
use Rattle.vectors.specs.InnerWaiting.{least_of, not_below, below_normal}
use Rattle.vectors.proofs.Vectorwise.{positive-test}
use Rattle.vectors.proofs.vector.vector_subnormal.Goals as goal

pub returns-then-least_magnitude : goal.returns-then-least_magnitude
returns-then-least_magnitude c =
    let v = c.args.vector.v in
    c.none_normal.ensures
    ∙ sym (ap (λ (t : Bool). t && every below_normal v)
    (sym (positive-test c.least_magnitude.result ∙ ap (not_below (least_of false 1074)) c.least_magnitude.ensures) ∙ c.if-least_magnitude.true))

pub returns : goal.returns
returns c =
    let v = c.args.vector.v in
    sym (ap (λ (t : Bool). t && every below_normal v)
    (sym (positive-test c.least_magnitude.result ∙ ap (not_below (least_of false 1074)) c.least_magnitude.ensures) ∙ c.if-least_magnitude.false))
