use Rattle.floats.proofs.Splitting.{held, subnormal-number}
use Rattle.floats.proofs.Wholes.{low-exact, low-ordinary, p-number, whole-fits, whole-number, e-fits, whole_split}
use Rattle.floats.proofs.split_subnormal_whole.Goals as goal

pub float_to_bits-bits : goal.float_to_bits-bits
float_to_bits-bits c = subnormal-number c.args.value (c.requires (held c.args.value c.well_formed.0.1))

pub int_to_float-fraction : goal.int_to_float-fraction
int_to_float-fraction c = low-exact c.args.value (held c.args.value c.well_formed.0.1) (c.requires (held c.args.value c.well_formed.0.1))

pub split_ordinary-p-requires : goal.split_ordinary-p-requires
split_ordinary-p-requires c v = low-ordinary c.args.value (held c.args.value c.well_formed.0.1) (c.requires (held c.args.value c.well_formed.0.1))

pub float_to_bits-m : goal.float_to_bits-m
float_to_bits-m c =
    p-number c.args.value (held c.args.value c.well_formed.0.1) (c.requires (held c.args.value c.well_formed.0.1)) c.split_ordinary-p.result c.split_ordinary-p.ensures

pub overflow_add-m : goal.overflow_add-m
overflow_add-m c =
    record { fits = whole-fits c.args.value (held c.args.value c.well_formed.0.1) (c.requires (held c.args.value c.well_formed.0.1)) c.split_ordinary-p.result c.split_ordinary-p.ensures }

pub float_from_bits-m : goal.float_from_bits-m
float_from_bits-m c =
    whole-number c.args.value (held c.args.value c.well_formed.0.1) (c.requires (held c.args.value c.well_formed.0.1)) c.split_ordinary-p.result c.split_ordinary-p.ensures

pub overflow_sub-result : goal.overflow_sub-result
overflow_sub-result c =
    e-fits c.args.value (held c.args.value c.well_formed.0.1) (c.requires (held c.args.value c.well_formed.0.1)) c.split_ordinary-p.result c.split_ordinary-p.ensures

pub returns : goal.returns
returns c =
    whole_split c.args.value (held c.args.value c.well_formed.0.1) (c.requires (held c.args.value c.well_formed.0.1)) c.split_ordinary-p.result c.split_ordinary-p.ensures
