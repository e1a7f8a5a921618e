-- `reduction::full::reduce_strip`: what is left of the strip joins to the whole.
use Rattle.std.proofs.Common.{◌≡◌, ◌+◌, ◌-◌, ◌*◌, ◌^◌, ◌≤◌, nat_abs, pos, ◌+ℤ◌, ◌*ℤ◌}
use Rattle.kernels.specs.InnerStepped.{Sound}
use Rattle.kernels.proofs.Sizes.{in_list}
use Rattle.reduction.specs.InnerStrips.{strip}
use Rattle.reduction.proofs.full.reduce_strip.Given as goal

abbrev pub invariant-loop-j : goal.invariant-loop-j
invariant-loop-j l = record {
  small : nat_abs l.a.e ≤ 2 ^ 60 + in_list * (l.j * l.len);
  sound : Sound l.a;
  rest : strip l.values l.step l.stride l.len (l.count - l.j) (l.first +ℤ l.step *ℤ pos l.j) l.a ≡ strip l.values l.step l.stride l.len l.count l.first l.initial.a;
}
