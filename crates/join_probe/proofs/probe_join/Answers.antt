-- `join_probe::probe_join`: each case of the answer, read out.
use Rattle.std.proofs.Common.{ap, ◌∙◌, w64, FitsSigned, rules}
use mir.Facts.{to_z-of_z}
use Rattle.handed.specs.Answers.{code_given, m_given, e_given, bad_given}
use Rattle.join_probe.proofs.probe_join.Goals as goal

pub returns-in-Ok-clause-value : goal.returns-in-Ok-clause-value
unfolding code_given
returns-in-Ok-clause-value c =
    ap code_given (simp (to_z-of_z c.ranges.left_e, to_z-of_z c.ranges.right_e) at c.in-Ok.ensures)

pub returns-in-Ok-clause-m_after : goal.returns-in-Ok-clause-m_after
unfolding m_given
returns-in-Ok-clause-m_after c =
    ap (m_given c.args.m.now) (simp (to_z-of_z c.ranges.left_e, to_z-of_z c.ranges.right_e) at c.in-Ok.ensures)

pub returns-in-Ok-clause-e_after : goal.returns-in-Ok-clause-e_after
unfolding e_given
returns-in-Ok-clause-e_after c =
    let fits : FitsSigned w64 c.in-Ok.a.e = search rules in
    to_z-of_z fits ∙ ap (e_given c.args.e.now) (simp (to_z-of_z c.ranges.left_e, to_z-of_z c.ranges.right_e) at c.in-Ok.ensures)

pub returns-in-Ok-clause-bad_after : goal.returns-in-Ok-clause-bad_after
unfolding bad_given
returns-in-Ok-clause-bad_after c =
    ap (bad_given c.args.bad.now) (simp (to_z-of_z c.ranges.left_e, to_z-of_z c.ranges.right_e) at c.in-Ok.ensures)

pub returns-in-Err-clause-value : goal.returns-in-Err-clause-value
unfolding code_given
returns-in-Err-clause-value c =
    c.from.ensures ∙ ap code_given (simp (to_z-of_z c.ranges.left_e, to_z-of_z c.ranges.right_e) at c.in-Err.ensures)

pub returns-in-Err-clause-m_after : goal.returns-in-Err-clause-m_after
unfolding m_given
returns-in-Err-clause-m_after c =
    ap (m_given c.args.m.now) (simp (to_z-of_z c.ranges.left_e, to_z-of_z c.ranges.right_e) at c.in-Err.ensures)

pub returns-in-Err-clause-e_after : goal.returns-in-Err-clause-e_after
unfolding e_given
returns-in-Err-clause-e_after c =
    ap (e_given c.args.e.now) (simp (to_z-of_z c.ranges.left_e, to_z-of_z c.ranges.right_e) at c.in-Err.ensures)

pub returns-in-Err-clause-bad_after : goal.returns-in-Err-clause-bad_after
unfolding bad_given
returns-in-Err-clause-bad_after c =
    ap (bad_given c.args.bad.now) (simp (to_z-of_z c.ranges.left_e, to_z-of_z c.ranges.right_e) at c.in-Err.ensures)
