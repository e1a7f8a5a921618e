-- Assumes nothing.
use Rattle.std.proofs.Common.{◌∙◌, arith}
use Rattle.jobs.proofs.Parts.{this-kind}
use Rattle.jobs.specs.InnerParts.{kind_of}
use Rattle.jobs.proofs.words.payload_at.Goals as goal

pub returns-then-w-from : goal.returns-then-w-from
returns-then-w-from c =
    let w = c.from-w.result in
    this-kind c.args.bytes.now c.args.at w (omega arith) (c.from-w.ensures ∙ c.in_ok-word_at.ensures) (kind_of c.args.kind) (c.if-w-from.true ∙ c.from.ensures)
