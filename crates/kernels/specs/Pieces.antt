-- Rules A6 and W2, whole lists of pieces: each piece worked in one of the two ways, the results joined left to right.
use Rattle.std.specs.Prelude.{ℕ, ◌^◌, ◌≤◌, ◌<◌, length, ◌≡◌, Bool, false, cond, pos, T, Float}
use mathlib.Core.List.{List, [], ◌∷◌, ◌++◌, map, foldl}
use Rattle.std.specs.Float.{binary64}
use Rattle.std.specs.Float.Ieee.{fits}
use Rattle.floats.specs.Factor.{Factor, float_of}
use Rattle.floats.specs.Magnitude.{with_exponent}
use Rattle.floats.specs.Splitting.{bits_of, is_bad}
use Rattle.accumulator.specs.declared.StableProductFloatAcc.{StableProductFloatAcc}
use Rattle.accumulator.specs.Joining.{identity_acc, combined}
use Rattle.laws.specs.Lists.{Each}
use Rattle.kernels.specs.Stepped.{stepped}
use Rattle.kernels.specs.Blocks.{contiguous}

-- a rate that is not bad: a value of binary64 (as every f64 is) that has a factor
pub record GoodRate (x : Float) : Type 0 where
  pub value : T (fits binary64 x)
  pub good : is_bad x ≡ false

-- one piece: in blocks of 64 (true), or in stepped lanes (false)
abbrev pub worked : Bool → List Float → StableProductFloatAcc
worked in_blocks xs = cond in_blocks (contiguous xs) (stepped xs)

-- a piece with the choice of its way
pub record Piece : Type 0 where
  pub in_blocks : Bool
  pub rates : List Float

abbrev pub worked_piece : Piece → StableProductFloatAcc
worked_piece p = worked p.in_blocks p.rates

-- the results joined left to right onto an accumulator
abbrev pub joined_onto : StableProductFloatAcc → List Piece → StableProductFloatAcc
joined_onto a ps = foldl combined a (map worked_piece ps)

-- the results joined left to right, the first taken as it is
unfoldable pub joined_pieces : List Piece → StableProductFloatAcc
joined_pieces [] = identity_acc
joined_pieces (p ∷ ps) = joined_onto (worked_piece p) ps

-- the pieces' rates, one after another
unfoldable pub rates_of : List Piece → List Float
rates_of [] = []
rates_of (p ∷ ps) = p.rates ++ rates_of ps

-- the lists that the plain product is for: at least one piece, each of at least one rate, all together at most 2^40, no rate bad
pub record GoodPiece (p : Piece) : Type 0 where
  pub some_rate : 0 < length p.rates
  pub good : Each GoodRate p.rates

pub record Admitted (ps : List Piece) : Type 0 where
  pub some_piece : 0 < length ps
  pub pieces : Each GoodPiece ps
  pub few : length (rates_of ps) ≤ 2 ^ 40

-- what the plain product is fed: the rates' bit patterns, and nothing else
abbrev pub patterns_of : List Piece → List (List ℕ)
patterns_of ps = map (λ (p : Piece). map bits_of p.rates) ps

-- the end factor as an accumulator: m = S / 2^52 with its sign, and e; not bad
abbrev pub acc_of : Factor → StableProductFloatAcc
acc_of f = record { m = float_of 11 52 (with_exponent f (pos 0)); e = f.exp; bad = false }
