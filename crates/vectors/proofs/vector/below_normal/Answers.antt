-- Assumes nothing.
use mathlib.Core.Path.{◌∙◌, ap}
use lib.Ieee.{Float, lt}
use Rattle.vectors.specs.InnerWaiting.{LOWEST}
use Rattle.vectors.proofs.Vectorwise.{lowest-test}
use Rattle.vectors.proofs.vector.below_normal.Goals as goal

pub returns : goal.returns
returns c = lowest-test c.magnitude.result ∙ ap (λ (y : Float). lt y LOWEST) c.magnitude.ensures
