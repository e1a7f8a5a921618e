-- Each buffer holds what is written of the first i windows, and within eight of them the products of the eight are had.
use Rattle.std.proofs.Common.{◌≡◌, ◌-◌, ◌%◌, ◌<◌}
use Rattle.std.specs.Prelude.{IfSome}
use Rattle.ranges.proofs.Writing.{acc-m, acc-e, acc-byte}
use Rattle.windows.specs.InnerEight.{EightWindows}
use Rattle.windows.proofs.Writing.{wrote}
use Rattle.windows.proofs.reduce_windows.Given as goal

abbrev pub invariant-loop-i : goal.invariant-loop-i
invariant-loop-i l =
    (l.ms ≡ wrote acc-m l.values l.w l.initial.ms l.i)
    × (l.es ≡ wrote acc-e l.values l.w l.initial.es l.i)
    × (l.bads ≡ wrote acc-byte l.values l.w l.initial.bads l.i)
    × (0 < l.i % 8 → IfSome l.eight (λ c. EightWindows l.values l.w (l.i - l.i % 8) c.v))
