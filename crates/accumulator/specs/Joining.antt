-- Rules A1, A3, R9, R10 and C4: the accumulator, joining without and with refusals, and what an answer tells.
use Rattle.std.specs.Prelude.{ℕ, ◌^◌, Bool, true, false, not, cond, ◌&&◌, ◌||◌, ℤ, pos, negsuc, nat_abs, ◌+ℤ◌, leb, Float, Result, Ok, Err}
use Rattle.std.specs.Float.{fin}
use Rattle.refusals.specs.Refusals.{ACCUMULATOR_OUT_OF_RANGE, EXPONENT_OUT_OF_RANGE}
use Rattle.refusals.specs.declared.Refusal.{Refusal}
use Rattle.refusals.specs.Codes.{number}
use Rattle.floats.specs.Product.{product_of}
use Rattle.floats.specs.Factor.{Factor}
use Rattle.floats.specs.Magnitude.{in_unit, two_or_more, factor_at}
use Rattle.accumulator.specs.declared.StableProductFloatAcc.{StableProductFloatAcc}

-- rule A1, the identity: 1.0, 0, false
abbrev pub identity_acc : StableProductFloatAcc
identity_acc = record { m = fin false 1 (pos 0); e = pos 0; bad = false }

-- rule W1, the factor of an accumulator: the sign of m, |m| × 2^52, and e
abbrev pub factor_of_acc : StableProductFloatAcc → Factor
factor_of_acc a = factor_at 52 a.m a.e

-- rule A3, joining two of which neither is bad: multiply; if |m| >= 2, halve m and add 1 to e.
abbrev pub half : Float
half = fin false 1 (negsuc 0)

unfoldable pub multiplied : StableProductFloatAcc → StableProductFloatAcc → StableProductFloatAcc
multiplied a b =
    let m = product_of 11 52 a.m b.m in
    let e = a.e +ℤ b.e in
    cond (two_or_more m) (record { m = product_of 11 52 m half; e = e +ℤ pos 1; bad = false }) (record { m = m; e = e; bad = false })

-- if either is bad, the left m and e, bad
unfoldable pub combined : StableProductFloatAcc → StableProductFloatAcc → StableProductFloatAcc
unfolding multiplied
combined a b = cond (a.bad || b.bad) (record { m = a.m; e = a.e; bad = true }) (multiplied a b)

-- |e| <= 2^52
abbrev pub within_limit : ℤ → Bool
within_limit e = leb (nat_abs e) (2 ^ 52)

-- rule R9, what is asked of a given accumulator, bad or not: 1 <= |m| < 2 and |e| <= 2^52
unfoldable pub in_limits : StableProductFloatAcc → Bool
in_limits a = in_unit a.m && within_limit a.e

-- What an answer tells: an accumulator's values, or a refusal's number with nothing beside it.
pub data Answer : Type 0 where
  accumulator : Float → ℤ → Bool → Answer
  refusal : ℕ → Answer

abbrev pub answer_of : Result StableProductFloatAcc Refusal → Answer
answer_of (Ok a) = accumulator a.m a.e a.bad
answer_of (Err r) = refusal (number r)

-- rule R10, of two within their limits: 10 if neither is bad and the joined |e| would be above 2^52; else the joined accumulator
unfoldable pub answered : StableProductFloatAcc → StableProductFloatAcc → Answer
unfolding combined
answered a b =
    let r = combined a b in
    cond (not (a.bad || b.bad) && not (within_limit r.e)) (refusal EXPONENT_OUT_OF_RANGE) (accumulator r.m r.e r.bad)

-- rules C4 and R0: 9 if either is not within its limits
unfoldable pub joined : StableProductFloatAcc → StableProductFloatAcc → Answer
unfolding in_limits answered
joined a b = cond (not (in_limits a && in_limits b)) (refusal ACCUMULATOR_OUT_OF_RANGE) (answered a b)
