-- Each buffer holds what is written of the first i products.
use Rattle.std.proofs.Common.{◌≡◌}
use Rattle.ranges.proofs.Writing.{acc-m, acc-e, acc-byte, wrote}
use Rattle.ranges.proofs.reduce_ranges.Given as goal

abbrev pub invariant-loop-i : goal.invariant-loop-i
invariant-loop-i l =
    (l.ms ≡ wrote l.l l.base l.values l.starts l.ends acc-m l.initial.ms l.i)
    × (l.es ≡ wrote l.l l.base l.values l.starts l.ends acc-e l.initial.es l.i)
    × (l.bads ≡ wrote l.l l.base l.values l.starts l.ends acc-byte l.initial.bads l.i)
