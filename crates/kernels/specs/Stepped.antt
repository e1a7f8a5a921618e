-- Rule A5, stepped lanes (`lanes_strided`), over the values of a piece, bad ones too.
use Rattle.std.specs.Prelude.{ℕ, false, List, get_or, set, replicate, pos, Float}
use Rattle.std.specs.Float.{nan}
use Rattle.floats.specs.Splitting.{split}
use Rattle.accumulator.specs.declared.StableProductFloatAcc.{StableProductFloatAcc}
use Rattle.accumulator.specs.Joining.{identity_acc, combined}
use Rattle.kernels.specs.Lanes.{feed, lane_of, in_order}

-- a rate as an accumulator: it is split
unfoldable pub rate_acc : Float → StableProductFloatAcc
rate_acc x = record { m = (split x).m; e = (split x).e; bad = (split x).bad }

-- the lane k of eight (past them, what the kit reads where nothing is)
abbrev pub acc_at : List StableProductFloatAcc → ℕ → StableProductFloatAcc
acc_at ls k = get_or ls k (record { m = nan; e = pos 0; bad = false })

-- value i of the piece, split, is joined to lane i mod 8, the lane on the left
unfoldable pub lane_joined : ℕ → List StableProductFloatAcc → Float → List StableProductFloatAcc
lane_joined i ls x = set ls (lane_of i) (combined (acc_at ls (lane_of i)) (rate_acc x))

-- 8 lanes that begin as the identity
unfoldable pub stepped_lanes : List Float → List StableProductFloatAcc
stepped_lanes xs = feed lane_joined 0 (replicate 8 identity_acc) xs

-- Lanes ls are joined in lane order, from the identity on the left.
unfoldable pub lanes_joined : List StableProductFloatAcc → StableProductFloatAcc
lanes_joined ls = in_order (λ (k : ℕ) (a : StableProductFloatAcc). combined a (acc_at ls k)) 8 identity_acc

unfoldable pub stepped : List Float → StableProductFloatAcc
stepped xs = lanes_joined (stepped_lanes xs)
