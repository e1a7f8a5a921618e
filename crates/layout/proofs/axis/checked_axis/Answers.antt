use Rattle.std.proofs.Common.{◌≡◌, sym, cond, neg_ℤ, Some, None, rules, w64, to_z, of_z}
use Rattle.std.proofs.lemmas.Option.{cond_some}
use mir.Val.{SFits}
use mir.Facts.{to_z-of_z}
use Rattle.layout.specs.Axes.{reset_fits, span, axis_of}
use Rattle.layout.proofs.axis.checked_axis.Goals as goal

pub returns : goal.returns
unfolding axis_of
returns c =
    let e : Some c.in_ok-source_reset.source_reset ≡ cond (reset_fits c.args.extent (to_z w64 (of_z w64 c.args.step))) (Some (neg_ℤ (span c.args.extent (to_z w64 (of_z w64 c.args.step))))) None
    = c.in_ok-source_reset.ensures in
    let q : Some c.in_ok-source_reset.source_reset ≡ cond (reset_fits c.args.extent c.args.step) (Some (neg_ℤ (span c.args.extent c.args.step))) None = simp (to_z-of_z c.ranges.step) at e in
    let v = cond_some _ _ _ (sym q) in
    let f : SFits w64 c.in_ok-source_reset.source_reset = search rules in
    simp (to_z-of_z c.ranges.step, to_z-of_z f) (rw (v.0, ← v.1))
