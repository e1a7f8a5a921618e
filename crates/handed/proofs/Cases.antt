-- What a C host is handed, in cases, holds of the definitions. Assumes nothing.
use mathlib.Core.Path.{refl}
use Rattle.handed.specs.Answers.{code_given, m_given, e_given, bad_given, number_code, number_given}
use Rattle.handed.specs.Cases.{HandsOut, HandsNumbersOut}

pub hands_out : HandsOut
unfolding code_given m_given e_given bad_given
hands_out = (refl, refl, refl, refl, refl, refl, refl, refl)

pub hands-numbers-out : HandsNumbersOut
unfolding number_code number_given
hands-numbers-out = (refl, refl, refl, refl)
