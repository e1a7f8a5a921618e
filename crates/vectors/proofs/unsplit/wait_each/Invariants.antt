-- The loop's invariant: the vectors but those that are left are in the lanes.
use Rattle.vectors.proofs.Walks.{Walk}
use Rattle.vectors.proofs.unsplit.wait_each.Given as goal

abbrev pub invariant-loop-left : goal.invariant-loop-left
invariant-loop-left l = Walk l.signs l.initial.lanes l.values l.start l.stride l.vectors l.lanes l.at l.next l.left
