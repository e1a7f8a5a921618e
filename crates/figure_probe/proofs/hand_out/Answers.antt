-- `figure_probe::hand_out`: each case of the answer, read out.
use Rattle.std.proofs.Common.{sym, ap, ◌∙◌}
use Rattle.finishing.specs.Finishing.{final_answer_of}
use Rattle.handed.specs.Answers.{number_code, number_given}
use Rattle.figure_probe.proofs.hand_out.Goals as goal

pub returns-in-Ok-clause-value : goal.returns-in-Ok-clause-value
unfolding number_code
returns-in-Ok-clause-value c = sym (ap (λ r. number_code (final_answer_of r)) c.in-Ok.is)

pub returns-in-Ok-clause-number_after : goal.returns-in-Ok-clause-number_after
unfolding number_given
returns-in-Ok-clause-number_after c = sym (ap (λ r. number_given c.args.number.now (final_answer_of r)) c.in-Ok.is)

pub returns-in-Err-clause-value : goal.returns-in-Err-clause-value
unfolding number_code
returns-in-Err-clause-value c = c.from.ensures ∙ sym (ap (λ r. number_code (final_answer_of r)) c.in-Err.is)

pub returns-in-Err-clause-number_after : goal.returns-in-Err-clause-number_after
unfolding number_given
returns-in-Err-clause-number_after c = sym (ap (λ r. number_given c.args.number.now (final_answer_of r)) c.in-Err.is)
