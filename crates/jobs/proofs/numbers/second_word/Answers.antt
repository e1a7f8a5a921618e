-- By the word that comes next. Assumes nothing.
use Rattle.std.proofs.Common.{◌^◌, ◌∙◌, arith}
use Rattle.jobs.proofs.Parts.{small-payload, further-ends, further-goes-on}
use Rattle.jobs.proofs.numbers.second_word.Goals as goal

pub returns-in-Some-clause-value : goal.returns-in-Some-clause-value
returns-in-Some-clause-value c =
    let s = small-payload c.args.bytes.now c.args.at 0 c.in-Some.high c.in-Some.ensures in
    c.third_word.ensures.value ∙ further-goes-on c.args.bytes.now c.args.at (2 ^ 29) c.args.low c.in-Some.high c.in-Some.ensures 1 (omega arith)

pub returns-in-None-clause-value : goal.returns-in-None-clause-value
returns-in-None-clause-value c = further-ends c.args.bytes.now c.args.at (2 ^ 29) c.args.low 2 c.in-None.ensures
