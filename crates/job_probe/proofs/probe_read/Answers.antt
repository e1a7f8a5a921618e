-- Each number that was read is handed out; a refusal leaves the places. Assumes nothing.
use Rattle.std.proofs.Common.{ℕ, ◌∙◌, refl, ap, FitsSigned, rules}
use mir.Facts.{to_z-of_z}
use mir.Syntax.{w64}
use Rattle.refusals.proofs.Numbers.{some-number}
use Rattle.jobs.specs.Reading.{JobRead, record_of}
use Rattle.job_probe.proofs.Given.{handed, kept}
use Rattle.job_probe.proofs.probe_read.Goals as goal

abbrev code : JobRead → ℕ
code r = r.code

pub returns-in-Ok : goal.returns-in-Ok
returns-in-Ok c =
    let e = c.in-Ok.ensures in
    let f : FitsSigned w64 c.in-Ok.job.base = search rules in
    record {
      value = ap code e;
      count_after = handed code (λ r. r.count) e c.args.count.now refl;
      sizes_after = handed code (λ r. r.sizes) e c.args.sizes.now refl;
      strides_after = handed code (λ r. r.strides) e c.args.strides.now refl;
      base_after = to_z-of_z f ∙ handed code (λ r. r.base) e c.args.base.now refl;
      start_after = handed code (λ r. r.start) e c.args.start.now refl;
      end_after = handed code (λ r. r.end) e c.args.end.now refl;
    }

pub returns-in-Err : goal.returns-in-Err
unfolding record_of
returns-in-Err c =
    let e = c.in-Err.ensures in
    let z = some-number c.in-Err.refusal in
    record {
      value = c.from.ensures ∙ ap code e;
      count_after = kept code (λ r. r.count) e c.args.count.now z;
      sizes_after = kept code (λ r. r.sizes) e c.args.sizes.now z;
      strides_after = kept code (λ r. r.strides) e c.args.strides.now z;
      base_after = kept code (λ r. r.base) e c.args.base.now z;
      start_after = kept code (λ r. r.start) e c.args.start.now z;
      end_after = kept code (λ r. r.end) e c.args.end.now z;
    }
