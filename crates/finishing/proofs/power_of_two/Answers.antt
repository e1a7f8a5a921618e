-- `finishing::power_of_two`: the field e + 1023 is one of `Patterns`.
use Rattle.std.proofs.Common.{pos, ◌+ℤ◌, w64}
use Rattle.std.proofs.lemmas.Int.{to_z-of_z}
use Rattle.finishing.proofs.Patterns.{field_fits, power-is, power-not-nan}
use Rattle.finishing.proofs.power_of_two.Goals as goal

pub float_from_bits-result : goal.float_from_bits-result
float_from_bits-result c =
    let h = to_z-of_z w64 c.args.e c.ranges.e in
    let k = to_z-of_z w64 (c.args.e +ℤ pos 1023) (field_fits c.args.e c.requires.0 c.requires.1) in
    rw (h, k) (power-not-nan c.args.e c.requires.0 c.requires.1)

pub returns : goal.returns
returns c =
    let h = to_z-of_z w64 c.args.e c.ranges.e in
    let k = to_z-of_z w64 (c.args.e +ℤ pos 1023) (field_fits c.args.e c.requires.0 c.requires.1) in
    rw (h, k) (power-is c.args.e c.requires.0 c.requires.1)
