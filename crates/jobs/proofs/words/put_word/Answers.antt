-- Assumes nothing.
use Rattle.jobs.specs.Words.{word_of}
use Rattle.jobs.proofs.words.put_word.Goals as goal

pub returns : goal.returns
unfolding word_of
returns c = rw c.from.ensures at c.put_bytes.ensures
