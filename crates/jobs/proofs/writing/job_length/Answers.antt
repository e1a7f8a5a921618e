-- A number takes at most three words. Assumes nothing.
use Rattle.std.proofs.Common.{◌≡◌, ◌+◌, ◌*◌, ◌≤◌, ℕ, length, ◌∙◌, ap, FitsSigned, rules, arith}
use mir.Facts.{to_z-of_z}
use mir.Syntax.{w64}
use Rattle.jobs.specs.InnerParts.{job_of}
use Rattle.jobs.specs.Words.{payloads_of, sent_of}
use Rattle.jobs.proofs.Laying.{few-payloads}
use Rattle.jobs.proofs.Jobs.{job-length}
use Rattle.jobs.proofs.writing.job_length.Goals as goal
use Rattle.jobs.proofs.writing.job_length.Goals.{After-bytes_of-end}

base-is : (c : After-bytes_of-end) → c.bytes_of-base.result ≡ 4 * length (payloads_of (sent_of c.args.job.now.base))
base-is c =
    let f : FitsSigned w64 c.args.job.now.base = search rules in
    c.bytes_of-base.ensures ∙ ap (λ (n : ℕ). 4 * length (payloads_of n)) (simp (to_z-of_z f) at c.sent.ensures)

few : (c : After-bytes_of-end) → c.axes_length-axes.result + c.bytes_of-base.result + c.bytes_of-start.result + c.bytes_of-end.result ≤ 420
few c =
    let h = few-payloads 2 (sent_of c.args.job.now.base) in
    let g = few-payloads 2 c.args.job.now.start in
    let f = few-payloads 2 c.args.job.now.end in
    omega (arith, base-is c, c.bytes_of-start.ensures, c.bytes_of-end.ensures, c.axes_length-axes.ensures.upper_bound)

pub overflow_add-result : goal.overflow_add-result
overflow_add-result c = omega (arith, few c)

pub overflow_add-result-2 : goal.overflow_add-result-2
overflow_add-result-2 c = omega (arith, few c)

pub overflow_add-result-3 : goal.overflow_add-result-3
overflow_add-result-3 c = omega (arith, few c)

pub overflow_add-result-4 : goal.overflow_add-result-4
overflow_add-result-4 c = omega (arith, few c)

pub returns : goal.returns
returns c =
    omega (arith, job-length (job_of c.args.job.now), base-is c, c.bytes_of-start.ensures, c.bytes_of-end.ensures, c.axes_length-axes.ensures.value)
