-- Each step is one of the three numbers of rule L3.
use Rattle.std.proofs.Common.{ap, ◌-◌, ℤ, pos, neg_ℤ, ◌*ℤ◌}
use lib.IntN.{+ℤ_idl}
use mir.Facts.{to_z-of_z}
use Rattle.integers.proofs.Machine.{to_z-small}
use Rattle.layout.specs.Axes.{axis_of, span}
use Rattle.layout.proofs.Resets.{last_fits, span_fits, turned-span-fits}
use Rattle.layout.proofs.axis.with_reset.Goals as goal

pub overflow_cast-span : goal.overflow_cast-span
overflow_cast-span c = rw c.saturating_sub-last.ensures (last_fits c.args.extent c.args.step c.requires)

pub overflow_mul-span : goal.overflow_mul-span
overflow_mul-span c =
    let n = c.args.extent in
    let d = c.args.step in
    simp (to_z-of_z c.ranges.step, c.saturating_sub-last.ensures, to_z-small (n - 1) (last_fits n d c.requires).sfits) (span_fits n d c.requires)

pub overflow_sub-result : goal.overflow_sub-result
overflow_sub-result c =
    let n = c.args.extent in
    let d = c.args.step in
    simp (to_z-of_z c.ranges.step, c.saturating_sub-last.ensures, to_z-small (n - 1) (last_fits n d c.requires).sfits, to_z-of_z (span_fits n d c.requires))
    (turned-span-fits n d c.requires)

pub returns : goal.returns
unfolding axis_of span
returns c =
    let n = c.args.extent in
    let d = c.args.step in
    simp (
      to_z-of_z c.ranges.step,
      c.saturating_sub-last.ensures,
      to_z-small (n - 1) (last_fits n d c.requires).sfits,
      to_z-of_z (span_fits n d c.requires),
      to_z-of_z (turned-span-fits n d c.requires),
    )
    (ap (λ (z : ℤ). record { extent = n; source_step = d; source_reset = z }) (+ℤ_idl (neg_ℤ (d *ℤ pos (n - 1)))))
