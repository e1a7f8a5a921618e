use Rattle.std.proofs.Common.{Bool, not, sym, ◌∙◌, subst, le-ltb}
use lib.Dec.{T}
use lib.Ieee.{binary64}
use lib.Ieee.Bits.{nan_bits_above}
use Rattle.text.proofs.float.float_of.Goals as goal

-- A pattern is a NaN's exactly if it is above infinity's, its sign taken off.
pub float_from_bits-result : goal.float_from_bits-result
float_from_bits-result c =
    subst (λ (t : Bool). T (not t)) (sym (nan_bits_above binary64 c.args.bits ∙ le-ltb _ _ c.if-bits-gt-INFINITE.false)) tt
