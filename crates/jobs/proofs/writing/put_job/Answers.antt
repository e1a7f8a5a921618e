-- One part behind another. Assumes nothing.
use Rattle.std.proofs.Common.{◌++◌, FitsSigned, rules, arith}
use mir.Facts.{to_z-of_z}
use mir.Syntax.{w64}
use Rattle.jobs.specs.InnerParts.{job_of}
use Rattle.jobs.proofs.Jobs.{Laid, laid_more, axes_of, base_of, start_of, end_of, axes-fit, base-room, start-room, end-room, finish-room, job-laid}
use Rattle.jobs.proofs.writing.put_job.Goals as goal

pub put_axes-at-requires : goal.put_axes-at-requires
put_axes-at-requires c =
    let j = job_of c.args.job.now in
    (c.requires.0, c.requires.1, axes-fit j c.args.out.now c.requires.2)

pub put_number-at-requires : goal.put_number-at-requires
put_number-at-requires c =
    let j = job_of c.args.job.now in
    let f : FitsSigned w64 c.args.job.now.base = search rules in
    let s = simp (to_z-of_z f) at c.sent.ensures in
    let a : Laid c.args.out.now (axes_of j) c.put_axes-at.new.out c.put_axes-at.result = record { holds = c.put_axes-at.ensures.out_after; place = c.put_axes-at.ensures.value } in
    rw s (base-room j c.args.out.now c.requires.2 _ _ a)

pub put_number-at-requires-2 : goal.put_number-at-requires-2
put_number-at-requires-2 c =
    let j = job_of c.args.job.now in
    let f : FitsSigned w64 c.args.job.now.base = search rules in
    let s = simp (to_z-of_z f) at c.sent.ensures in
    let a : Laid c.args.out.now (axes_of j) c.put_axes-at.new.out c.put_axes-at.result = record { holds = c.put_axes-at.ensures.out_after; place = c.put_axes-at.ensures.value } in
    let b = laid_more c.args.out.now (axes_of j) _ _ a (base_of j) _ _ (rw s at c.put_number-at.ensures.value) (rw s at c.put_number-at.ensures.out_after) in
    start-room j c.args.out.now c.requires.2 _ _ b

pub put_number-at-requires-3 : goal.put_number-at-requires-3
put_number-at-requires-3 c =
    let j = job_of c.args.job.now in
    let f : FitsSigned w64 c.args.job.now.base = search rules in
    let s = simp (to_z-of_z f) at c.sent.ensures in
    let a : Laid c.args.out.now (axes_of j) c.put_axes-at.new.out c.put_axes-at.result = record { holds = c.put_axes-at.ensures.out_after; place = c.put_axes-at.ensures.value } in
    let b = laid_more c.args.out.now (axes_of j) _ _ a (base_of j) _ _ (rw s at c.put_number-at.ensures.value) (rw s at c.put_number-at.ensures.out_after) in
    let t = laid_more c.args.out.now (axes_of j ++ base_of j) _ _ b (start_of j) _ _ c.put_number-at-2.ensures.value c.put_number-at-2.ensures.out_after in
    end-room j c.args.out.now c.requires.2 _ _ t

pub put_word-requires : goal.put_word-requires
put_word-requires c =
    let j = job_of c.args.job.now in
    let f : FitsSigned w64 c.args.job.now.base = search rules in
    let s = simp (to_z-of_z f) at c.sent.ensures in
    let a : Laid c.args.out.now (axes_of j) c.put_axes-at.new.out c.put_axes-at.result = record { holds = c.put_axes-at.ensures.out_after; place = c.put_axes-at.ensures.value } in
    let b = laid_more c.args.out.now (axes_of j) _ _ a (base_of j) _ _ (rw s at c.put_number-at.ensures.value) (rw s at c.put_number-at.ensures.out_after) in
    let t = laid_more c.args.out.now (axes_of j ++ base_of j) _ _ b (start_of j) _ _ c.put_number-at-2.ensures.value c.put_number-at-2.ensures.out_after in
    let e = laid_more c.args.out.now (axes_of j ++ base_of j ++ start_of j) _ _ t (end_of j) _ _ c.put_number-at-3.ensures.value c.put_number-at-3.ensures.out_after in
    (finish-room j c.args.out.now c.requires.2 _ _ e, omega arith)

pub returns : goal.returns
returns c =
    let j = job_of c.args.job.now in
    let f : FitsSigned w64 c.args.job.now.base = search rules in
    let s = simp (to_z-of_z f) at c.sent.ensures in
    let a : Laid c.args.out.now (axes_of j) c.put_axes-at.new.out c.put_axes-at.result = record { holds = c.put_axes-at.ensures.out_after; place = c.put_axes-at.ensures.value } in
    let b = laid_more c.args.out.now (axes_of j) _ _ a (base_of j) _ _ (rw s at c.put_number-at.ensures.value) (rw s at c.put_number-at.ensures.out_after) in
    let t = laid_more c.args.out.now (axes_of j ++ base_of j) _ _ b (start_of j) _ _ c.put_number-at-2.ensures.value c.put_number-at-2.ensures.out_after in
    let e = laid_more c.args.out.now (axes_of j ++ base_of j ++ start_of j) _ _ t (end_of j) _ _ c.put_number-at-3.ensures.value c.put_number-at-3.ensures.out_after in
    job-laid j c.args.out.now c.requires.2 _ _ _ e c.put_word.ensures
