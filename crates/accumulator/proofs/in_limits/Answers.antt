-- `accumulator::in_limits`: the conjunction of what its two tests ensure.
use Rattle.std.proofs.Common.{Bool, ◌&&◌, sym, ap, ◌∙◌, rules, w64, FitsSigned}
use Rattle.std.proofs.lemmas.Int.{to_z-of_z}
use Rattle.accumulator.specs.Joining.{in_limits, within_limit}
use Rattle.accumulator.proofs.in_limits.Goals as goal

pub returns-then-in_unit : goal.returns-then-in_unit
unfolding in_limits
returns-then-in_unit c =
    let a = c.args.a in
    let exact : FitsSigned w64 a.e = search rules in
    simp to_z-of_z at c.within_limit.ensures ∙ ap (λ (t : Bool). t && within_limit a.e) (sym c.if-in_unit.true ∙ c.in_unit.ensures)

pub returns-else-in_unit : goal.returns-else-in_unit
unfolding in_limits
returns-else-in_unit c =
    let a = c.args.a in
    c.if-in_unit.false ∙ ap (λ (t : Bool). t && within_limit a.e) (sym c.if-in_unit.false ∙ c.in_unit.ensures)
