-- Each refusal in its rank, or the job. Assumes nothing.
use Rattle.std.proofs.Common.{arith}
use mir.Facts.{to_z-of_z}
use Rattle.jobs.specs.Sending.{Job}
use Rattle.jobs.proofs.Answers.{mismatched, too_many, too_short, accepted}
use Rattle.jobs.proofs.writing.write_job.Goals as goal

pub returns-then-sizes-strides : goal.returns-then-sizes-strides
returns-then-sizes-strides c =
    let j : Job = record { sizes = c.args.sizes.now; strides = c.args.strides.now; base = c.args.base; start = c.args.start; end = c.args.end } in
    let w = mismatched j c.args.out.now c.if-sizes-strides.true in
    record { value = w.0; out_after = w.1 }

pub returns-then-sizes-gt-PLACES : goal.returns-then-sizes-gt-PLACES
returns-then-sizes-gt-PLACES c =
    let j : Job = record { sizes = c.args.sizes.now; strides = c.args.strides.now; base = c.args.base; start = c.args.start; end = c.args.end } in
    let w = too_many j c.args.out.now c.if-sizes-strides.false c.if-sizes-gt-PLACES.true in
    record { value = w.0; out_after = w.1 }

pub returns-then-out-count : goal.returns-then-out-count
returns-then-out-count c =
    let j : Job = record { sizes = c.args.sizes.now; strides = c.args.strides.now; base = c.args.base; start = c.args.start; end = c.args.end } in
    let l = simp (to_z-of_z c.ranges.base) at c.job_length-count.ensures in
    let w = too_short j c.args.out.now c.if-sizes-strides.false c.if-sizes-gt-PLACES.false (omega (arith, l)) in
    record { value = w.0; out_after = w.1 }

pub returns : goal.returns
returns c =
    let j : Job = record { sizes = c.args.sizes.now; strides = c.args.strides.now; base = c.args.base; start = c.args.start; end = c.args.end } in
    let l = simp (to_z-of_z c.ranges.base) at c.job_length-count.ensures in
    let w = accepted j c.args.out.now c.if-sizes-strides.false c.if-sizes-gt-PLACES.false (omega (arith, l)) _ l _ (simp (to_z-of_z c.ranges.base) at c.put_job.ensures) in
    record { value = w.0; out_after = w.1 }
