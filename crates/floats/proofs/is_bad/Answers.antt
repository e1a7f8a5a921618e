use Rattle.std.proofs.Common.{◌∙◌, sym}
use Rattle.floats.proofs.Splitting.{nan_is}
use Rattle.floats.proofs.Moving.{bad-nan, bad-is}
use Rattle.floats.proofs.is_bad.Goals as goal

pub returns-then-is_nan : goal.returns-then-is_nan
returns-then-is_nan c = bad-nan c.args.value (nan_is c.args.value (sym c.is_nan.ensures.value ∙ c.if-is_nan.true))

pub returns : goal.returns
returns c = bad-is c.args.value
