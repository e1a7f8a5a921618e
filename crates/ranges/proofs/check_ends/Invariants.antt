-- The code is that of the ranges that are left.
use Rattle.std.proofs.Common.{◌≡◌, length, drop}
use Rattle.refusals.specs.Refusals.{first_of}
use Rattle.ranges.specs.Many.{ranges_of, each_refusals}
use Rattle.ranges.proofs.check_ends.Given as goal

abbrev pub invariant-loop-start : goal.invariant-loop-start
invariant-loop-start l =
    let i = length l.yielded in
    first_of (each_refusals l.total (ranges_of l.starts l.ends)) ≡ first_of (each_refusals l.total (ranges_of (drop i l.starts) (drop i l.ends)))
