-- Inner: lanes that wait: values are multiplied in unsplit, eight at a time, and a test at the end says whether the lanes are what split values give.
use Rattle.std.specs.Prelude.{ℕ, zero, suc, ◌+◌, ◌-◌, ◌%◌, Bool, false, not, cond, ◌&&◌, List, ◌++◌, length, get_or, set, replicate, ℤ, pos, negsuc, ◌+ℤ◌, Float}
use Rattle.std.specs.Float.{nan, fin}
use Rattle.std.specs.Float.Ieee.{lt, le, eq, neg}
use Rattle.floats.specs.Product.{product_of}
use Rattle.floats.specs.Splitting.{split}
use Rattle.floats.specs.InnerKinds.{ZERO}
use Rattle.accumulator.specs.declared.StableProductFloatAcc.{StableProductFloatAcc}
use Rattle.kernels.specs.declared.lanes.Lanes.{Lanes}
use Rattle.kernels.specs.Lanes.{feed, lane_of, in_order, every}
use Rattle.kernels.specs.Blocks.{e_of, unsplit_step, split_step}
use Rattle.vectors.specs.declared.vector.Waiting.{Waiting}

abbrev pub one : Float
one = fin false 1 (pos 0)

-- a vector: the values from lane 0 on, and 1.0 in the lanes that are left
abbrev pub put : ℕ → List Float → Float → List Float
put k vector x = set vector k x

unfoldable pub vector_of : List Float → List Float
vector_of xs = feed put 0 (replicate 8 one) xs

-- the lesser of two by `<`; where one is a NaN, the second
abbrev pub lesser : Float → Float → Float
lesser x y = cond (lt x y) x y

-- the size of a value, whatever its sign
abbrev pub square : Float → Float
square x = product_of 11 52 x x

-- what the least of a lane is taken of: the values, or their squares where signs may be mixed
abbrev pub measure : Bool → Float → Float
measure signs x = cond signs (square x) x

-- value i goes to lane i mod 8: multiplied in unsplit, and the least measure of the lane's values is kept
unfoldable pub wait_step : Bool → ℕ → Waiting → Float → Waiting
wait_step signs i w x =
    let k = lane_of i in
    record { m = set w.m k (product_of 11 52 (get_or w.m k nan) x); least = set w.least k (lesser (measure signs x) (get_or w.least k nan)) }

-- A measure from this on is that of a value from 2^-d on: 2^-d itself, or the square 2^-(2d - 1), which no square of a lower value is rounded to.
abbrev pub least_of : Bool → ℕ → Float
least_of signs zero = one
least_of signs (suc k) = fin false 1 (negsuc (cond signs (k + k) k))

abbrev pub not_below : Float → Float → Bool
not_below least y = le least y

-- not infinite, not a NaN: no more than 2^1000 either way
abbrev pub MOST : Float
MOST = fin false 1 (pos 1000)

abbrev pub not_past : Float → Bool
not_past x = le x MOST && le (neg MOST) x

-- the lanes' m multiplied in lane order, from 1.0
unfoldable pub chained : List Float → Float
chained ms = in_order (λ (k : ℕ) (p : Float). product_of 11 52 p (get_or ms k nan)) 8 one

-- the lanes' exponents, added
unfoldable pub exponents_of : Lanes → ℤ
exponents_of s = in_order (λ (k : ℕ) (e : ℤ). e +ℤ e_of s k) 8 (pos 0)

-- |x|: of x and -x the one that is not below the other
abbrev pub magnitude : Float → Float
magnitude x = cond (lt x (neg x)) (neg x) x

-- the same, with 1.0 for a zero where zeros are passed over
abbrev pub magnitude_but : Bool → Float → Float
magnitude_but over x = cond (over && eq x ZERO) one (magnitude x)

-- of value k of a vector
abbrev pub magnitude_at : Bool → List Float → ℕ → Float
magnitude_at over vector k = magnitude_but over (get_or vector k nan)

-- the least magnitude of a vector of eight, lane beside lane
unfoldable pub least_magnitude : Bool → List Float → Float
least_magnitude over vector =
    let at = magnitude_at over vector in
    lesser (lesser (lesser (at 0) (at 4)) (lesser (at 2) (at 6))) (lesser (lesser (at 1) (at 5)) (lesser (at 3) (at 7)))

-- no magnitude is below 2^-15, or one is a NaN
abbrev pub not_low : List Float → Bool
not_low vector = not_below (least_of false 15) (least_magnitude false vector)

-- no magnitude but 0 is below 2^-1021, or one is a NaN: zeros are passed over where the least is not positive
abbrev pub none_low : List Float → Bool
none_low vector = not_below (least_of false 1021) (least_magnitude (not (not_below (least_of false 1074) (least_magnitude false vector))) vector)

-- every value is a zero or a normal number, of a magnitude from 2^-1021 to 2^1000
abbrev pub all_ordinary : List Float → Bool
all_ordinary vector = none_low vector && every not_past vector

-- a magnitude below the least normal number, 2^-1022
abbrev pub LOWEST : Float
LOWEST = fin false 1 (negsuc 1021)

abbrev pub below_normal : Float → Bool
below_normal x = lt (magnitude x) LOWEST

-- every value is subnormal: such a magnitude, from 2^-1074 on
abbrev pub all_subnormal : List Float → Bool
all_subnormal vector = not_below (least_of false 1074) (least_magnitude false vector) && every below_normal vector

-- a vector multiplied unsplit if it is not low and not all are split, else split
unfoldable pub guarded : Bool → Lanes → List Float → Lanes
guarded all s vector = cond (not all && not_low vector) (feed unsplit_step 0 s vector) (feed split_step 0 s vector)

-- the lanes multiplied in lane order and brought back to [1, 2), with their exponents and their mark
unfoldable pub lanes_product : Lanes → StableProductFloatAcc
unfolding chained exponents_of
lanes_product s = let p = chained s.m in record { m = (split p).m; e = exponents_of s +ℤ (split p).e; bad = s.bad }

-- values, and 1.0 up to whole vectors
abbrev pub padded : List Float → List Float
padded xs = xs ++ replicate (7 - (length xs + 7) % 8) one

-- lanes that begin to wait
abbrev pub start_waiting : List Float → Waiting
start_waiting ms = record { m = ms; least = replicate 8 one }
