-- Assumes nothing.
use Rattle.std.proofs.Common.{◌∙◌, arith}
use Rattle.jobs.proofs.Bytes.{no_word, word-is}
use Rattle.jobs.proofs.words.word_at.Goals as goal

pub returns-then-bytes-at : goal.returns-then-bytes-at
returns-then-bytes-at c = no_word c.args.bytes.now c.args.at (omega arith)

pub returns : goal.returns
returns c = c.from_le_bytes.ensures ∙ word-is c.args.bytes.now c.args.at c.if-bytes-at.false
