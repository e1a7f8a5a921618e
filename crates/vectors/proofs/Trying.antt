-- A try: values that waited, with 1.0 up to whole vectors, and passed both tests. Assumes nothing.
use Prim.Native.Nat.{ℕ, zero, suc, ◌+◌, ◌-◌, ◌*◌, ◌%◌, ◌≤◌}
use mathlib.Core.Path.{◌≡◌, refl}
use mathlib.Core.Bool.{Bool, true}
use mathlib.Core.List.{List}
use native.Mathlib.Nat.{le_trans, mul-le-mul_left}
use native.Mathlib.Omega.{arith}
use lib.ListN.{length, length-append, length-replicate}
use lib.Dec.{lit≤}
use lib.Ieee.{Float}
use Rattle.floats.specs.Factor.{Factor}
use Rattle.kernels.specs.declared.lanes.Lanes.{Lanes}
use Rattle.laws.specs.Lists.{Each}
use Rattle.kernels.specs.Lanes.{feed, every}
use Rattle.kernels.specs.Blocks.{renorm}
use Rattle.kernels.specs.InnerLanes.{NoneSubnormal, LanesRepresent, LanesAfter, zeros}
use Rattle.kernels.proofs.Blocking.{Value}
use Rattle.vectors.specs.InnerWaiting.{one, padded, wait_step, start_waiting, least_of, not_below, not_past}
use Rattle.vectors.proofs.Guarding.{waited-fed, waited-whole}
use Rattle.vectors.proofs.Feds.{fed-pad}
use Rattle.vectors.proofs.Shorts.{padded-values}

-- two vectors or more: a depth whose square is still a normal number's
pub shallow : (d n : ℕ) → d * n ≤ 960 → 2 ≤ n → d ≤ 511
shallow d n h l = go (le_trans (mul-le-mul_left d l) h)
  where
    go : d * 2 ≤ 960 → d ≤ 511
    go h = omega arith

-- brought back, the lanes are what the values make of them, and until then none is subnormal
pub tried-fed : (signs : Bool) (d n : ℕ) → 1 ≤ d → d ≤ 511 → d * n ≤ 960 → (s : Lanes) (xs : List Float) → Each Value xs → length xs ≤ 8 * n
    → every (not_below (least_of signs d)) (feed (wait_step signs) 0 (start_waiting s.m) (padded xs)).least ≡ true
    → every not_past (feed (wait_step signs) 0 (start_waiting s.m) (padded xs)).m ≡ true
    → let kept : Lanes = record { m = (feed (wait_step signs) 0 (start_waiting s.m) (padded xs)).m; e = s.e; bad = s.bad } in
    LanesAfter s xs (renorm kept) × ((fs : List Factor) → LanesRepresent zeros s fs → NoneSubnormal kept)
tried-fed signs zero n some few room s xs v short b p = absurd (omega arith)
tried-fed signs (suc k) n some few room s xs v short b p =
    let values = padded-values xs (7 - (length xs + 7) % 8) v in
    let long : length (padded xs) ≤ 8 * n = simp (length-append, length-replicate) (omega arith) in (
      fed-pad s _ xs (7 - (length xs + 7) % 8)
          (waited-fed signs k n (omega arith) (le_trans room (lit≤ tt)) s (start_waiting s.m) (padded xs) values long refl (length-replicate 8 one) b p),
      waited-whole signs k n (omega arith) (le_trans room (lit≤ tt)) s (start_waiting s.m) (padded xs) values long refl (length-replicate 8 one) b p,
    )
