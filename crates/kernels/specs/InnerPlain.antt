-- Inner: the plain product of a piece with its lanes as the kernels have them: fed value by value, lane i mod 8. `plain-piece` says that it is the same.
use Rattle.std.specs.Prelude.{ℕ, List, get_or, set, replicate}
use Rattle.floats.specs.Factor.{Factor, unit, times}
use Rattle.kernels.specs.Lanes.{feed, lane_of, in_order}

-- rate i multiplies lane i mod 8, the lane on the left
abbrev pub lane_times : ℕ → ℕ → List Factor → Factor → List Factor
lane_times t i fs f = set fs (lane_of i) (times t (get_or fs (lane_of i) (unit t)) f)

-- eight lanes at plus, 2^t, 0, and the piece's rates, counted from 0
unfoldable pub lanes : ℕ → List Factor → List Factor
lanes t rates = feed (lane_times t) 0 (replicate 8 (unit t)) rates

-- lanes 0 to 7 multiplied in order, from plus, 2^t, 0 on the left
unfoldable pub piece_product : ℕ → List Factor → Factor
piece_product t rates = in_order (λ (k : ℕ) (p : Factor). times t p (get_or (lanes t rates) k (unit t))) 8 (unit t)
