-- Rule W2, the plain product of a list of pieces, in whole numbers: no float is in it, and its lanes and their order are in words of its own.
-- Over factors for a fraction of any width t; over rates as bit patterns for the widths w and t (the rule has 11 and 52).
use Rattle.std.specs.Prelude.{ℕ, zero, suc}
use mathlib.Core.List.{List, [], ◌∷◌, map, foldl}
use Rattle.floats.specs.Factor.{Factor, unit, times}
use Rattle.floats.specs.Fields.{factor_of}

-- the rates of a lane: `skip` rates are left out, the next is taken, and after it every eighth
unfoldable pub every_eighth : ℕ → List Factor → List Factor
every_eighth skip [] = []
every_eighth zero (f ∷ fs) = f ∷ every_eighth 7 fs
every_eighth (suc skip) (f ∷ fs) = every_eighth skip fs

-- lane k multiplies its rates in order, from plus, 2^t, 0 on the left
unfoldable pub lane_product : ℕ → List Factor → ℕ → Factor
lane_product t rates k = foldl (times t) (unit t) (every_eighth k rates)

-- lanes 0 to 7 multiplied in order, from plus, 2^t, 0 on the left
unfoldable pub plain_piece : ℕ → List Factor → Factor
plain_piece t rates = foldl (times t) (unit t) (map (lane_product t rates) (0 ∷ 1 ∷ 2 ∷ 3 ∷ 4 ∷ 5 ∷ 6 ∷ 7 ∷ []))

-- The first piece's factor is taken as it is; each later one multiplies the product so far, from the right.
unfoldable pub list_product : ℕ → List (List Factor) → Factor
list_product t [] = unit t
list_product t (p ∷ ps) = foldl (times t) (plain_piece t p) (map (plain_piece t) ps)

-- The plain product of a list of pieces, each a list of rates as bit patterns, none of them bad.
unfoldable pub plain_product : ℕ → ℕ → List (List ℕ) → Factor
plain_product w t ps = list_product t (map (map (factor_of w t)) ps)
