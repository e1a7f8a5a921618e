-- The first word must be of the kind. Assumes nothing.
use Rattle.std.proofs.Common.{◌∙◌}
use Rattle.jobs.specs.InnerParts.{kind_of}
use Rattle.jobs.proofs.Parts.{number-none, number-begins}
use Rattle.jobs.proofs.numbers.read_number.Goals as goal

pub returns-in-Some-clause-value : goal.returns-in-Some-clause-value
returns-in-Some-clause-value c =
    c.second_word.ensures.value ∙ number-begins c.args.bytes.now c.args.at (kind_of c.args.kind) c.in-Some.low c.in-Some.ensures

pub returns-in-None-clause-value : goal.returns-in-None-clause-value
returns-in-None-clause-value c = number-none c.args.bytes.now c.args.at (kind_of c.args.kind) c.in-None.ensures
