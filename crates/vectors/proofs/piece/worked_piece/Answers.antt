-- A short piece; any other is fed.
use Rattle.std.proofs.Common.{◌∙◌, ap, sym, rules, ℤ, false, to_z-of_z, w64, SFits}
use Rattle.accumulator.specs.declared.StableProductFloatAcc.{StableProductFloatAcc}
use Rattle.kernels.specs.InnerStrided.{strided}
use Rattle.kernels.proofs.Striding.{strided-values}
use Rattle.vectors.proofs.Feds.{unmarked-worked}
use Rattle.vectors.proofs.piece.worked_piece.Goals as goal

pub returns : goal.returns
returns c =
    let xs = c.args.values.now in
    let piece = strided xs c.args.start c.args.stride c.args.len in
    let fits : SFits w64 c.in-Some.q.e = search rules in
    let e = simp (to_z-of_z c.ranges.start, to_z-of_z c.ranges.stride) at c.in-Some.ensures in
    ap (λ (z : ℤ). record { m = c.in-Some.q.m; e = z; bad = false }) (to_z-of_z fits)
    ∙ e
    ∙ unmarked-worked c.args.in_blocks piece (strided-values xs c.type_inv.values c.args.start c.args.stride c.args.len)
    (ap (λ (a : StableProductFloatAcc). a.bad) (sym e))
