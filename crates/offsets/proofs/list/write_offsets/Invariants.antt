-- The offsets before the cursor are listed.
use Rattle.std.proofs.Common.{◌-◌}
use Rattle.offsets.proofs.Writing.{Listing}
use Rattle.offsets.proofs.list.write_offsets.Given as goal

abbrev pub invariant-loop-c : goal.invariant-loop-c
invariant-loop-c l = Listing l.l l.base l.start l.end l.initial.out l.out l.c

abbrev pub decreases-loop-c : goal.decreases-loop-c
decreases-loop-c l = l.end - l.c.at
