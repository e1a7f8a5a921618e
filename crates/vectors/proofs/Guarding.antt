-- What vectors that waited make of the lanes. Assumes nothing.
use Prim.Native.Nat.{ℕ, suc, ◌+◌, ◌*◌, ◌≤◌}
use mathlib.Core.Path.{◌≡◌, refl, sym, ap, ◌∙◌, subst}
use mathlib.Core.Bool.{Bool, true, ◌||◌, false}
use mathlib.Core.List.{List}
use mathlib.Core.Logic.{◌⊎◌, inl, inr}
use native.Mathlib.Omega.{arith}
use lib.ListN.{length, get_or}
use lib.Ieee.{Float}
use Rattle.floats.specs.Factor.{Factor, unit}
use Rattle.floats.specs.Splitting.{is_bad}
use Rattle.kernels.specs.declared.lanes.Lanes.{Lanes}
use Rattle.laws.specs.Lists.{Each}
use Rattle.kernels.specs.Lanes.{feed, every, some}
use Rattle.kernels.specs.Pieces.{GoodRate}
use Rattle.kernels.specs.Blocks.{m_of, e_of, renorm}
use Rattle.floats.specs.InnerKinds.{is_subnormal}
use Rattle.kernels.specs.InnerLanes.{NoneSubnormal, LanesRepresent, LanesAfter, zeros, plain_after}
use Rattle.kernels.proofs.Lanewise.{depth}
use Rattle.kernels.proofs.Blocking.{Value, rates-mark, renorm-each, renorm-mark}
use Rattle.vectors.specs.declared.vector.Waiting.{Waiting}
use Rattle.vectors.specs.InnerWaiting.{wait_step, least_of, not_below, not_past}
use Rattle.vectors.proofs.Waits.{WaitLanes, waits-other, waits-split, lanes-wait}
use Rattle.vectors.proofs.Waiting.{LostLane, Guarded, Out, fed-out, fed-good, guards, none-lost}

-- ---- vectors that waited
module _ (signs : Bool) (k n : ℕ) (few : k ≤ 510) (room : suc k * n ≤ 1022) (s : Lanes) (w : Waiting) (xs : List Float) (v : Each Value xs)
    (short : length xs ≤ 8 * n) (same : w.m ≡ s.m) (eight : length w.least ≡ 8)
    (below : every (not_below (least_of signs (suc k))) (feed (wait_step signs) 0 w xs).least ≡ true) where
  guarded-all : Each (Guarded k) xs
  guarded-all = (guards signs k few 0 w v eight below).1

  -- the lanes wait for their factors, or one is lost
  pub outcome : (fs : List Factor) → LanesRepresent zeros s fs → Out (suc k) (0 + length xs) (feed (wait_step signs) 0 w xs).m s.e (plain_after fs xs)
  unfolding wait_step
  outcome fs H =
      fed-out (wait_step signs) (λ (w : Waiting). w.m) (λ (w : Waiting). s.e) (λ i w x. refl) (λ i w x. refl) k n few room 0 w fs guarded-all
      (omega (arith, short))
      (inl (subst (λ (ms : List Float). WaitLanes (depth (suc k) 0) ms s.e fs) (sym same) (lanes-wait (depth (suc k) 0) s fs H)))

  -- no value is bad, or one is lost
  pub outcome-good : length s.m ≡ 8 → Each GoodRate xs ⊎ LostLane (feed (wait_step signs) 0 w xs).m
  unfolding wait_step
  outcome-good l =
      fed-good (wait_step signs) (λ (w : Waiting). w.m) (λ (w : Waiting). s.e) (λ i w x. refl) (λ i w x. refl) k n few room 0 w (ap length same ∙ l)
      guarded-all

  -- brought back, they are what the values make of the lanes
  abbrev kept : Lanes
  kept = record { m = (feed (wait_step signs) 0 w xs).m; e = s.e; bad = s.bad }

  pub waited-fed : every not_past (feed (wait_step signs) 0 w xs).m ≡ true → LanesAfter s xs (renorm kept)
  waited-fed p = record { represent = λ fs H. represent (plain_after fs xs) (outcome fs H); mark = λ fs H. mark (outcome-good H.m_long) }
    where
      represent : (gs : List Factor) → Out (suc k) (0 + length xs) (feed (wait_step signs) 0 w xs).m s.e gs → LanesRepresent zeros (renorm kept) gs
      represent gs (inr l) = absurd (none-lost (feed (wait_step signs) 0 w xs).m p l)
      represent gs (inl q) =
          renorm-each kept gs (λ j i. waits-split (depth (suc k) (0 + length xs) j) (m_of kept j) (e_of kept j) (get_or gs j (unit 52)) (q.at j i)) q.m_long
          q.e_long q.f_long

      mark : Each GoodRate xs ⊎ LostLane (feed (wait_step signs) 0 w xs).m → (renorm kept).bad ≡ (s.bad || some is_bad xs)
      mark (inr l) = absurd (none-lost (feed (wait_step signs) 0 w xs).m p l)
      mark (inl R) = renorm-mark kept ∙ rates-mark s.bad R

  -- and until then no lane is subnormal
  pub waited-whole : every not_past (feed (wait_step signs) 0 w xs).m ≡ true → (fs : List Factor) → LanesRepresent zeros s fs → NoneSubnormal kept
  waited-whole p fs H j i = go (outcome fs H)
    where
      go : Out (suc k) (0 + length xs) (feed (wait_step signs) 0 w xs).m s.e (plain_after fs xs) → is_subnormal (m_of kept j) ≡ false
      go (inr l) = absurd (none-lost (feed (wait_step signs) 0 w xs).m p l)
      go (inl q) = waits-other (depth (suc k) (0 + length xs) j) (m_of kept j) (e_of kept j) (get_or (plain_after fs xs) j (unit 52)) (q.at j i)
