-- Assumes nothing.
use mathlib.Core.Path.{sym, ap, ◌∙◌}
use mathlib.Core.Bool.{Bool}
use Rattle.floats.proofs.Product.{mul-binary64}
use Rattle.vectors.specs.InnerWaiting.{measure}
use Rattle.vectors.proofs.vector.measure.Goals as goal

pub returns-then-signs : goal.returns-then-signs
returns-then-signs c = let x = c.args.x in mul-binary64 x x ∙ sym (ap (λ (b : Bool). measure b x) c.if-signs.true)
