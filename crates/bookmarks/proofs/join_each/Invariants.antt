-- What is left joins to the whole answer.
use Rattle.std.proofs.Common.{◌-◌}
use Rattle.reduction.specs.Ranges.{pieces_of}
use Rattle.bookmarks.specs.Steps.{joined_within}
use Rattle.bookmarks.proofs.OneByOne.{Joining}
use Rattle.bookmarks.proofs.join_each.Given as goal

abbrev pub invariant-loop-c : goal.invariant-loop-c
invariant-loop-c l = Joining l.l l.base l.values l.end (joined_within l.initial.acc (pieces_of l.l l.base l.values l.k l.end)) l.acc l.c

abbrev pub decreases-loop-c : goal.decreases-loop-c
decreases-loop-c l = l.end - l.c.at
