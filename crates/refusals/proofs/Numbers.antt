-- No refusal's number is 0: that is the code of a call that is accepted.
use mathlib.Core.Path.{◌≡◌}
use native.Mathlib.Omega.{arith}
use Prim.Native.Nat.{◌≤◌}
use Rattle.refusals.specs.declared.Refusal.{Refusal}
use Rattle.refusals.specs.Codes.{number}

pub some-number : (r : Refusal) → number r ≡ 0 → ⊥
some-number r e = let h : 1 ≤ number r = grind arith in omega arith
