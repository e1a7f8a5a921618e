-- Each number that is put so far takes at most so many bytes.
use Rattle.std.proofs.Common.{◌+◌, ◌*◌, ◌≤◌}
use Rattle.text.proofs.print.Line.put_words.Given as goal

abbrev pub invariant-loop-number : goal.invariant-loop-number
invariant-loop-number g l = l.self.len ≤ l.initial.self.len + (1 + g.T.Word.most) * l.number-index
