-- `finishing::finish`: each way of its tests is a case of `IsFinished`.
use Rattle.std.proofs.Common.{◌≡◌, true, w64, FitsSigned, rules}
use Rattle.std.proofs.lemmas.Int.{to_z-of_z}
use Rattle.accumulator.specs.Joining.{in_limits}
use Rattle.accumulator.proofs.Answers.{in-limits-unit, in-limits-exponent}
use Rattle.finishing.proofs.Answers.{told-bad, told-good}
use Rattle.finishing.proofs.finish.Goals as goal

pub returns-then-a : goal.returns-then-a
returns-then-a g c =
    told-bad g.E.From.from_gives c.args.answer c.in_ok-a.a c.in_ok-a.was (search rules) c.if-a.true

pub f64_ldexp-requires : goal.f64_ldexp-requires
f64_ldexp-requires g c =
    let a = c.in_ok-a.a in
    let stood : in_limits a ≡ true = search rules in
    let exact : FitsSigned w64 a.e = search rules in
    (in-limits-unit a stood, simp to_z-of_z (in-limits-exponent a stood))

pub returns : goal.returns
returns g c =
    let a = c.in_ok-a.a in
    let exact : FitsSigned w64 a.e = search rules in
    told-good g.E.From.from_gives c.args.answer a c.in_ok-a.was (search rules) c.if-a.false _ (simp to_z-of_z at c.f64_ldexp.ensures)
