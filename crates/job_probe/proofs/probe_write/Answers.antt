-- The number of bytes is handed out; a refusal leaves its place. Assumes nothing.
use Rattle.std.proofs.Common.{ℕ, refl}
use mir.Facts.{to_z-of_z}
use Rattle.refusals.proofs.Numbers.{some-number}
use Rattle.jobs.specs.Writing.{JobWritten}
use Rattle.job_probe.specs.Answers.{count_given}
use Rattle.job_probe.proofs.Given.{handed, kept}
use Rattle.job_probe.proofs.probe_write.Goals as goal

abbrev code : JobWritten → ℕ
code w = w.code

pub returns-in-Ok-clause-count_after : goal.returns-in-Ok-clause-count_after
unfolding count_given
returns-in-Ok-clause-count_after c =
    handed code (λ w. w.count) (simp (to_z-of_z c.ranges.base) at c.in-Ok.ensures.value) c.args.count.now refl

pub returns-in-Err-clause-count_after : goal.returns-in-Err-clause-count_after
unfolding count_given
returns-in-Err-clause-count_after c =
    kept code (λ w. w.count) (simp (to_z-of_z c.ranges.base) at c.in-Err.ensures.value) c.args.count.now (some-number c.in-Err.refusal)
