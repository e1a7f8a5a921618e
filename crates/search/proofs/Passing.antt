-- Values that pass the test hold no bad one: a value that passed by its measure is good, or an infinity or a NaN, and with one of those its lane stays one,
-- whatever the lanes began with. Assumes nothing.
use mathlib.Core.Path.{◌≡◌, refl}
use mathlib.Core.Bool.{Bool, true, false}
use mathlib.Core.List.{List}
use mathlib.Core.Logic.{◌⊎◌, inl, inr}
use lib.ListN.{length, replicate}
use lib.Dec.{lit≤}
use lib.IntN.{pos}
use lib.Ieee.{Float}
use Rattle.floats.specs.Splitting.{is_bad}
use Rattle.laws.specs.Lists.{Each}
use Rattle.kernels.specs.Lanes.{feed, every, some}
use Rattle.kernels.specs.Pieces.{GoodRate}
use Rattle.kernels.proofs.Blocking.{Value}
use Rattle.kernels.proofs.Feeding.{each_map, some-none}
use Rattle.vectors.specs.declared.vector.Waiting.{Waiting}
use Rattle.vectors.specs.InnerWaiting.{wait_step, least_of, not_below, not_past}
use Rattle.vectors.proofs.Waiting.{LostLane, fed-good, guards, none-lost}

module _ (signs : Bool) (w : Waiting) (m_long : length w.m ≡ 8) (least-long : length w.least ≡ 8) (xs : List Float) (v : Each Value xs) where
  abbrev fed : Waiting
  fed = feed (wait_step signs) 0 w xs

  -- no value is bad, or a lane is lost
  outcome : every (not_below (least_of signs 511)) fed.least ≡ true → Each GoodRate xs ⊎ LostLane fed.m
  unfolding wait_step
  outcome b =
      fed-good (wait_step signs) (λ (w : Waiting). w.m) (λ (w : Waiting). replicate 8 (pos 0)) (λ i w x. refl) (λ i w x. refl) 510 0 (lit≤ tt) (lit≤ tt)
      0 w m_long (guards signs 510 (lit≤ tt) 0 w v least-long b).1

  pub passed-good : every (not_below (least_of signs 511)) fed.least ≡ true → every not_past fed.m ≡ true → some is_bad xs ≡ false
  passed-good b p = go (outcome b)
    where
      go : Each GoodRate xs ⊎ LostLane fed.m → some is_bad xs ≡ false
      go (inr l) = absurd (none-lost fed.m p l)
      go (inl g) = some-none is_bad (each_map GoodRate (λ (x : Float). is_bad x ≡ false) (λ x h. h.good) g)
