-- `join_probe::probe_finish`: each case of the answer, read out.
use Rattle.std.proofs.Common.{ap, ◌∙◌, Ok, Err}
use mir.Facts.{to_z-of_z}
use Rattle.handed.specs.Answers.{handed_in, number_code, number_given}
use Rattle.finishing.proofs.Answers.{finished-told}
use Rattle.join_probe.proofs.probe_finish.Goals as goal

pub returns-in-Ok-clause-value : goal.returns-in-Ok-clause-value
unfolding number_code
returns-in-Ok-clause-value c =
    let exact = to_z-of_z c.ranges.e in
    ap number_code (finished-told (Ok (handed_in c.args.m c.args.e c.args.bad)) (Ok c.in-Ok.x) (simp exact at c.in-Ok.ensures))

pub returns-in-Ok-clause-number_after : goal.returns-in-Ok-clause-number_after
unfolding number_given
returns-in-Ok-clause-number_after c =
    let exact = to_z-of_z c.ranges.e in
    ap (number_given c.args.number.now) (finished-told (Ok (handed_in c.args.m c.args.e c.args.bad)) (Ok c.in-Ok.x) (simp exact at c.in-Ok.ensures))

pub returns-in-Err-clause-value : goal.returns-in-Err-clause-value
unfolding number_code
returns-in-Err-clause-value c =
    let exact = to_z-of_z c.ranges.e in
    c.from.ensures ∙ ap number_code (finished-told (Ok (handed_in c.args.m c.args.e c.args.bad)) (Err c.in-Err.refusal) (simp exact at c.in-Err.ensures))

pub returns-in-Err-clause-number_after : goal.returns-in-Err-clause-number_after
unfolding number_given
returns-in-Err-clause-number_after c =
    let exact = to_z-of_z c.ranges.e in
    ap (number_given c.args.number.now) (finished-told (Ok (handed_in c.args.m c.args.e c.args.bad)) (Err c.in-Err.refusal) (simp exact at c.in-Err.ensures))
