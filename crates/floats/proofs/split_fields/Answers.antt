-- The masks give the fields, and the two ways of the last test the mark.
use Rattle.std.proofs.Common.{◌∙◌, sym}
use Rattle.floats.specs.Splitting.{bits_of}
use Rattle.floats.proofs.Splitting.{held, bits-lt, set-number, split-is, bad-zero, bad-other, split-nan, nan_is}
use Rattle.floats.proofs.split_fields.Goals as goal

pub returns-then-is_nan : goal.returns-then-is_nan
returns-then-is_nan c s = split-nan c.args.value (nan_is c.args.value (sym c.is_nan.ensures.value ∙ c.if-is_nan.true))

pub float_from_bits-m : goal.float_from_bits-m
float_from_bits-m c =
    let x = c.args.value in
    set-number (bits_of x) (bits-lt x (held x c.well_formed.0.1))

pub returns-then-raw_exp-eq0 : goal.returns-then-raw_exp-eq0
returns-then-raw_exp-eq0 c s =
    let x = c.args.value in
    split-is x (held x c.well_formed.0.1) _ s (bad-zero x s c.if-raw_exp-eq0.true)

pub returns-else-raw_exp-eq0 : goal.returns-else-raw_exp-eq0
returns-else-raw_exp-eq0 c s =
    let x = c.args.value in
    split-is x (held x c.well_formed.0.1) _ s (bad-other x c.if-raw_exp-eq0.false)
