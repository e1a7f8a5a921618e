use lib.Ieee.{of_bits}
use Rattle.floats.specs.Splitting.{bits_of}
use Rattle.floats.proofs.Splitting.{held, bits-lt, set-number}
use Rattle.floats.proofs.Ordinary.{ordinary-number, ordinary-split}
use Rattle.floats.proofs.split_ordinary.Goals as goal

pub float_to_bits-bits : goal.float_to_bits-bits
float_to_bits-bits c = ordinary-number c.args.value (c.requires (held c.args.value c.well_formed.0.1))

pub float_from_bits-unit : goal.float_from_bits-unit
float_from_bits-unit c = let x = c.args.value in set-number (bits_of x) (bits-lt x (held c.args.value c.well_formed.0.1))

pub returns : goal.returns
unfolding of_bits
returns c = ordinary-split c.args.value (held c.args.value c.well_formed.0.1) (c.requires (held c.args.value c.well_formed.0.1))
