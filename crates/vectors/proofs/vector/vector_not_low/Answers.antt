-- Assumes nothing.
use mathlib.Core.Path.{◌∙◌, ap}
use mathlib.Core.Bool.{false}
use Rattle.vectors.specs.InnerWaiting.{least_of, not_below}
use Rattle.vectors.proofs.Vectorwise.{below-test}
use Rattle.vectors.proofs.vector.vector_not_low.Goals as goal

pub returns : goal.returns
returns c = below-test c.least_magnitude.result ∙ ap (not_below (least_of false 15)) c.least_magnitude.ensures
