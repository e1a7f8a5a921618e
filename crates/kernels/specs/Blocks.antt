-- Rule A4, blocks of 64 (`stable_float_contiguous`), over the values of a piece, bad ones too.
use Rattle.std.specs.Prelude.{ℕ, zero, suc, ◌*◌, ◌/◌, ◌^◌, List, Bool, false, not, cond, ◌&&◌, ◌||◌, length, get_or, set, take, drop, replicate, ℤ, pos, ◌+ℤ◌, leb, Float}
use Rattle.std.specs.Float.{nan, inf, fin}
use Rattle.std.specs.Float.Ieee.{up, down, is_nan}
use Rattle.floats.specs.Formats.{f64_format}
use Rattle.floats.specs.Product.{product_of}
use Rattle.floats.specs.Splitting.{split}
use Rattle.accumulator.specs.declared.StableProductFloatAcc.{StableProductFloatAcc}
use Rattle.accumulator.specs.Joining.{identity_acc}
use Rattle.kernels.specs.declared.lanes.Lanes.{Lanes}
use Rattle.kernels.specs.Lanes.{feed, lane_of, in_order, every, some}

-- eight lanes at 1.0, 0
abbrev pub start_lanes : Lanes
start_lanes = record { m = replicate 8 (fin false 1 (pos 0)); e = replicate 8 (pos 0); bad = false }

abbrev pub m_of : Lanes → ℕ → Float
m_of s k = get_or s.m k nan

abbrev pub e_of : Lanes → ℕ → ℤ
e_of s k = get_or s.e k (pos 0)

-- value i multiplied unsplit into lane i mod 8
unfoldable pub unsplit_step : ℕ → Lanes → Float → Lanes
unsplit_step i s x = let k = lane_of i in record { m = set s.m k (product_of 11 52 (m_of s k) x); e = s.e; bad = s.bad }

-- value i split: its m multiplied into lane i mod 8, its e added there, and its mark kept
unfoldable pub split_step : ℕ → Lanes → Float → Lanes
split_step i s x =
    let k = lane_of i in
    record { m = set s.m k (product_of 11 52 (m_of s k) (split x).m); e = set s.e k (e_of s k +ℤ (split x).e); bad = s.bad || (split x).bad }

-- the magnitude lies in 2^-B to 2^B, both ends included; a NaN's does not
unfoldable pub in_range : ℕ → Float → Bool
in_range B nan = false
in_range B (inf s) = false
in_range B (fin s m e) = leb (down e) (m * up e * 2 ^ B) && leb (m * up e) (2 ^ B * down e)

-- Lane k is brought back to [1, 2), and what that takes goes to its exponent (`stable_renorm`).
unfoldable pub renorm_lane : ℕ → Lanes → Lanes
renorm_lane k s =
    let m = m_of s k in
    record { m = set s.m k (split m).m; e = set s.e k (e_of s k +ℤ (split m).e); bad = s.bad }

unfoldable pub renorm : Lanes → Lanes
renorm s = in_order renorm_lane 8 s

-- A block is multiplied unsplit exactly if every magnitude lies in the bounds and no tentative lane is NaN; otherwise each value is split.
unfoldable pub unsplit : Lanes → List Float → Bool
unsplit s xs = every (in_range f64_format.bound) xs && not (some is_nan (feed unsplit_step 0 s xs).m)

unfoldable pub block : Lanes → List Float → Lanes
block s xs = renorm (cond (unsplit s xs) (feed unsplit_step 0 s xs) (feed split_step 0 s xs))

-- the values of a block: 64
abbrev pub block_length : ℕ
block_length = 8 * f64_format.each

-- n blocks of 64, and then the values that are left, split
unfoldable pub blocks : ℕ → Lanes → List Float → Lanes
blocks zero s xs = renorm (feed split_step 0 s xs)
blocks (suc n) s xs = blocks n (block s (take block_length xs)) (drop block_length xs)

-- the product so far times lane k, brought back likewise
unfoldable pub lane_in : Lanes → ℕ → StableProductFloatAcc → StableProductFloatAcc
lane_in s k a =
    let m = product_of 11 52 a.m (m_of s k) in
    record { m = (split m).m; e = a.e +ℤ e_of s k +ℤ (split m).e; bad = a.bad }

-- the lanes multiplied in lane order, from 1.0 and 0, with the lanes' mark
unfoldable pub lanes_in : Lanes → StableProductFloatAcc
lanes_in s = in_order (lane_in s) 8 (record { m = identity_acc.m; e = identity_acc.e; bad = s.bad })

unfoldable pub contiguous : List Float → StableProductFloatAcc
contiguous xs = lanes_in (blocks (length xs / block_length) start_lanes xs)
