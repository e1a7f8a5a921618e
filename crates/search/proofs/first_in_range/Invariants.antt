-- Nothing bad was met, so what is left decides.
use Rattle.std.proofs.Common.{◌-◌}
use Rattle.search.proofs.Strips.{Walked}
use Rattle.search.proofs.first_in_range.Given as goal

abbrev pub invariant-loop-c : goal.invariant-loop-c
invariant-loop-c l = Walked l.l l.base l.values l.start l.end l.c

abbrev pub decreases-loop-c : goal.decreases-loop-c
decreases-loop-c l = l.end - l.c.at
