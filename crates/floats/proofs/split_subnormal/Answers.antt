use Prim.Native.Nat.{ℕ, ◌+◌, ◌*◌, ◌^◌, ◌<◌}
use mathlib.Core.Path.{◌≡◌, ◌∙◌, ap}
use mathlib.Core.Bool.{true}
use native.Mathlib.Nat.{lt_of_lt_of_le}
use lib.Dec.{lit≤}
use lib.Ieee.{Float, fits, binary64}
use lib.IntN.{pos, ◌-ℤ◌}
use Rattle.floats.specs.Fields.{sign_field}
use Rattle.floats.specs.Splitting.{bits_of}
use Rattle.floats.proofs.Splitting.{held, bits-lt, unit-number, unit-value, subnormal-split, subnormal-number}
use Rattle.floats.proofs.Moving.{subnormal-bits, led-small, shift_is, shift-counts, shift-few, moved-fits, set-fits, set_is, lowered_is}
use Rattle.floats.proofs.split_subnormal.Goals as goal

bits : (x : Float) → fits binary64 x ≡ true → bits_of x < 2 ^ (11 + 52) * 2
bits x e = bits-lt x (held x e)

pub float_to_bits-bits : goal.float_to_bits-bits
float_to_bits-bits c = subnormal-number c.args.value c.requires

pub overflow_sub-shift : goal.overflow_sub-shift
overflow_sub-shift c = shift-counts (bits_of c.args.value) (subnormal-bits c.args.value c.requires)

pub overflow_add-m : goal.overflow_add-m
overflow_add-m c = record { fits = lt_of_lt_of_le (moved-fits (bits_of c.args.value) (subnormal-bits c.args.value c.requires)) (lit≤ tt) }

pub overflow_add-m-2 : goal.overflow_add-m-2
overflow_add-m-2 c = record { fits = set-fits (bits_of c.args.value) (subnormal-bits c.args.value c.requires) (bits c.args.value c.well_formed.0.1) }

pub float_from_bits-m : goal.float_from_bits-m
float_from_bits-m c = unit-number _ (sign_field 11 52 (bits_of c.args.value)) _ (led-small (bits_of c.args.value) (subnormal-bits c.args.value c.requires)) (set_is (bits_of c.args.value) (subnormal-bits c.args.value c.requires) (bits c.args.value c.well_formed.0.1))

pub returns : goal.returns
returns c =
    let b = bits_of c.args.value in
    subnormal-split c.args.value _ _ c.requires (unit-value _ (sign_field 11 52 b) _ (set_is b (subnormal-bits c.args.value c.requires) (bits c.args.value c.well_formed.0.1)))
    (lowered_is _ (shift-few b (subnormal-bits c.args.value c.requires)) ∙ ap (λ (k : ℕ). pos 1 -ℤ pos (1023 + k)) (shift_is b (subnormal-bits c.args.value c.requires)))
