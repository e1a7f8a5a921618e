-- Inner: what a step of the code tells.
use Rattle.std.specs.Prelude.{Bool}
use Rattle.std.specs.declared.ops.ControlFlow.{ControlFlow}
use Rattle.std.specs.declared.ops.ControlFlow.TheVariants.{Break, Continue}
use Rattle.search.specs.declared.BadRate.{BadRate}
use Rattle.search.specs.Searching.{SearchAnswer, found, none_bad}

abbrev pub look_answer : ControlFlow BadRate Bool → SearchAnswer
look_answer (Break b) = found b.element b.offset
look_answer (Continue signs) = none_bad
