-- Inner: the steps of a piece: what each makes of the lanes, and that it comes to an end.
use Rattle.std.specs.Prelude.{ℕ, zero, suc, ◌-◌, ◌*◌, ◌%◌, ◌^◌, ◌≤◌, ◌<◌, ◌≡◌, ◌⊎◌, List, Float}
use Rattle.kernels.specs.declared.lanes.Lanes.{Lanes}
use Rattle.vectors.specs.declared.feeding.Try.{Try}
use Rattle.floats.specs.Factor.{Factor}
use Rattle.kernels.specs.Blocks.{renorm}
use Rattle.kernels.specs.InnerLanes.{SmallLanes, NoneSubnormal, LanesRepresent, LanesAfter, zeros}

-- lanes that, brought back, are what the values xs make of the lanes s
pub record NotYetNormalised (s : Lanes) (xs : List Float) (r : Lanes) : Type 0 where
  pub fed : LanesAfter s xs (renorm r)
  pub small : SmallLanes (2 ^ 59) r
  pub whole : (fs : List Factor) → LanesRepresent zeros s fs → NoneSubnormal r

-- How many values a step took of those that are left: whole vectors or all of them, and some if any are left.
pub record Progress (left done : ℕ) : Type 0 where
  pub upto : done ≤ left
  pub vectors : (done % 8 ≡ 0) ⊎ (done ≡ left)
  pub moves : 0 < left → 0 < done

-- A try whose values lie from 2^-depth on: so many vectors of them, multiplied into lanes in [1, 2), stay normal.
pub record SoundTry (y : Try) : Type 0 where
  pub some : 1 ≤ y.depth
  pub room : y.depth * y.most ≤ 960
  pub vectors : 2 ≤ y.most
  pub few : y.most ≤ 2 ^ 10

-- by the hold and the way: how many tries may fail before a step is guarded, and one more; none while steps are guarded
unfoldable pub patience : ℕ → ℕ → ℕ
patience zero way = suc (5 - way)
patience (suc hold) way = 0
