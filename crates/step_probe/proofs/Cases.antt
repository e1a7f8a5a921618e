-- What a host is handed of a step, in cases. Assumes nothing.
use mathlib.Core.Path.{refl}
use Rattle.step_probe.specs.Answers.{code_handed, mark_handed, pieces_handed, done_handed}
use Rattle.step_probe.specs.Cases.{HandsStepsOut}

pub hands-steps-out : HandsStepsOut
unfolding code_handed mark_handed pieces_handed done_handed
hands-steps-out = ((refl, refl, refl, refl), (refl, refl, refl, refl), (refl, refl, refl, refl), (refl, refl, refl, refl))
