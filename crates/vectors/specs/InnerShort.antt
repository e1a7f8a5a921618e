-- Inner: short pieces: the product of lanes that wait and are not brought back.
use Rattle.std.specs.Prelude.{ℕ, ◌+◌, ◌*◌, ◌/◌, ◌≤◌, ◌≡◌, Bool, false, List, Float}
use Rattle.accumulator.specs.declared.StableProductFloatAcc.{StableProductFloatAcc}
use Rattle.kernels.specs.Blocks.{contiguous}
use Rattle.vectors.specs.declared.piece.Short.{Short}
use Rattle.vectors.specs.InnerWaiting.{least_of}

-- what the measures of n values are held to: so deep that eight lanes of their vectors, multiplied, stay above 2^-960
pub record ShortLeast (signs : Bool) (n : ℕ) (least : Float) : Type 0 where
  pub depth : ℕ
  pub some : 1 ≤ depth
  pub few : depth ≤ 120
  pub room : depth * ((n + 7) / 8) ≤ 120
  pub is : least ≡ least_of signs depth

-- the product is the piece's, as blocks of 64 have it; no value is bad
abbrev pub ShortProduct : List Float → Short → Type 0
ShortProduct xs r = ◌≡◌ {A = StableProductFloatAcc} (record { m = r.m; e = r.e; bad = false }) (contiguous xs)
