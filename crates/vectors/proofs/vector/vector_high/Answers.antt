-- Assumes nothing.
use mathlib.Core.Path.{◌≡◌, ◌∙◌, sym, ap}
use mathlib.Core.Bool.{Bool, true, false, not}
use mathlib.Core.List.{List}
use lib.Ieee.{Float, binary64, of_bits, le}
use Rattle.vectors.specs.InnerWaiting.{least_of, not_below, least_magnitude}
use Rattle.vectors.proofs.Vectorwise.{twice-test, positive-test}
use Rattle.vectors.proofs.vector.vector_high.Goals as goal

-- whether zeros are passed over
over-is : (l : Float) (vector : List Float) (b : Bool) → l ≡ least_magnitude false vector → le (of_bits binary64 1) l ≡ b
    → not (not_below (least_of false 1074) (least_magnitude false vector)) ≡ not b
over-is l vector b e t = ap (λ (y : Float). not (not_below (least_of false 1074) y)) (sym e) ∙ ap not (sym (positive-test l) ∙ t)

-- the least from there on
from_is : (r : Float) (vector : List Float) (b q : Bool) → r ≡ least_magnitude b vector → q ≡ b
    → le (of_bits binary64 9007199254740992) r ≡ not_below (least_of false 1021) (least_magnitude q vector)
from_is r vector b q e h = twice-test r ∙ ap (not_below (least_of false 1021)) (e ∙ ap (λ (t : Bool). least_magnitude t vector) (sym h))

pub returns-then-least_magnitude : goal.returns-then-least_magnitude
returns-then-least_magnitude c =
    let v = c.args.vector.v in
    from_is c.least_magnitude-then-least_magnitude.result v false (not (not_below (least_of false 1074) (least_magnitude false v))) c.least_magnitude-then-least_magnitude.ensures
    (over-is c.least_magnitude.result v true c.least_magnitude.ensures c.if-least_magnitude.true)

pub returns : goal.returns
returns c =
    let v = c.args.vector.v in
    from_is c.least_magnitude-2.result v true (not (not_below (least_of false 1074) (least_magnitude false v))) c.least_magnitude-2.ensures
    (over-is c.least_magnitude.result v false c.least_magnitude.ensures c.if-least_magnitude.false)
