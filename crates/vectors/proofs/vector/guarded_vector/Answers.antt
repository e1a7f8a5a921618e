-- Assumes nothing.
use mathlib.Core.Path.{◌∙◌, sym, ap}
use mathlib.Core.Bool.{Bool, not, ◌&&◌}
use Rattle.vectors.proofs.Vectorwise.{guarded-inside, guarded-outside}
use Rattle.vectors.proofs.vector.guarded_vector.Goals as goal

pub returns-then-all-vector_not_low : goal.returns-then-all-vector_not_low
returns-then-all-vector_not_low c =
    let s = c.args in
    c.unsplit_vector.ensures
    ∙ guarded-inside s.all s.s s.vector.v (ap (λ (t : Bool). not s.all && t) (sym c.vector_not_low.ensures) ∙ c.if-all-vector_not_low.true)

pub returns : goal.returns
returns c =
    let s = c.args in
    c.split_vector.ensures
    ∙ guarded-outside s.all s.s s.vector.v (ap (λ (t : Bool). not s.all && t) (sym c.vector_not_low.ensures) ∙ c.if-all-vector_not_low.false)
