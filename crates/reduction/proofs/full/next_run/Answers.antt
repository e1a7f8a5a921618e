-- A short run as a piece of its own; any other is worked.
use Rattle.std.proofs.Common.{◌∙◌, ap, sym, rules, ℤ, pos, false, to_z-of_z, w64, SFits}
use Rattle.accumulator.specs.declared.StableProductFloatAcc.{StableProductFloatAcc}
use Rattle.integers.specs.Integers.{eq_z}
use Rattle.kernels.specs.InnerStrided.{strided}
use Rattle.kernels.proofs.Striding.{strided-values}
use Rattle.vectors.proofs.Feds.{unmarked-worked}
use Rattle.reduction.proofs.full.next_run.Goals as goal

pub returns-in-Some : goal.returns-in-Some
returns-in-Some c =
    let xs = c.args.values.now in
    let piece = strided xs c.args.at c.args.stride c.args.len in
    let fits : SFits w64 c.in-Some.q.e = search rules in
    let e = simp (to_z-of_z c.ranges.at, to_z-of_z c.ranges.stride) at c.in-Some.ensures in
    ap (λ (z : ℤ). record { m = c.in-Some.q.m; e = z; bad = false }) (to_z-of_z fits)
    ∙ e
    ∙ unmarked-worked (eq_z c.args.stride (pos 1)) piece (strided-values xs c.type_inv.values c.args.at c.args.stride c.args.len)
    (ap (λ (a : StableProductFloatAcc). a.bad) (sym e))
