-- What a C host is handed, in cases, holds of the definitions. Assumes nothing.
use mathlib.Core.Path.{refl}
use Rattle.search_probe.specs.Answers.{search_code, found_given, element_given, offset_given}
use Rattle.search_probe.specs.Cases.{HandsSearchesOut}

pub hands-searches-out : HandsSearchesOut
unfolding search_code found_given element_given offset_given
hands-searches-out = ((refl, refl, refl, refl), (refl, refl, refl, refl), (refl, refl, refl, refl), (refl, refl, refl, refl))
