-- What is left makes the whole of what there is.
use Rattle.std.proofs.Common.{◌-◌, false, pos}
use Rattle.std.specs.Float.{fin}
use Rattle.ordered.proofs.Folding.{Folding}
use Rattle.ordered.proofs.ordered_full_range.Given as goal

abbrev pub invariant-loop-c : goal.invariant-loop-c
invariant-loop-c l = Folding l.l l.base l.values l.start l.end (fin false 1 (pos 0)) l.product l.c

abbrev pub decreases-loop-c : goal.decreases-loop-c
decreases-loop-c l = l.end - l.c.at
