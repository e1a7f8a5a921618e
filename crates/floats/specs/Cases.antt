-- Cases of splitting (rule A2): each row is an equation that holds by computing.
use Rattle.std.specs.Prelude.{ℕ, ◌-◌, ◌^◌, ◌≡◌, Bool, true, false, ℤ, pos, negsuc, Float}
use Rattle.std.specs.Float.{fin}
use Rattle.floats.specs.Fields.{value_of}
use Rattle.floats.specs.Splitting.{split}

-- the rate of a pattern has this m, this e and this mark
abbrev pub Splits : ℕ → Float → ℤ → Bool → Type 0
Splits b m e bad = split (value_of 11 52 b) ≡ record { m = m; e = e; bad = bad }

-- 3.0 and -3.0; the least normal number; the greatest subnormal number, 2^-1022 - 2^-1074, one whose highest one is moved by one place, 2^-1023, 3 × 2^-1074 and
-- the least, of either sign; zeros and infinities of either sign, and NaNs of any pattern, all bad
abbrev pub SplittingTable : Type 0
SplittingTable =
    (Splits 0x4008000000000000 (fin false 3 (negsuc 0)) (pos 1) false × Splits 0xc008000000000000 (fin true 3 (negsuc 0)) (pos 1) false
    × Splits 0x0010000000000000 (fin false 1 (pos 0)) (negsuc 1021) false)
    × (Splits 0x000fffffffffffff (fin false (2 ^ 52 - 1) (negsuc 50)) (negsuc 1022) false
    × Splits 0x800fffffffffffff (fin true (2 ^ 52 - 1) (negsuc 50)) (negsuc 1022) false × Splits 0x0008000000000000 (fin false 1 (pos 0)) (negsuc 1022) false
    × Splits 3 (fin false 3 (negsuc 0)) (negsuc 1072) false × Splits 0x8000000000000003 (fin true 3 (negsuc 0)) (negsuc 1072) false
    × Splits 1 (fin false 1 (pos 0)) (negsuc 1073) false × Splits 0x8000000000000001 (fin true 1 (pos 0)) (negsuc 1073) false)
    × (Splits 0 (fin false 1 (pos 0)) (negsuc 1022) true × Splits 0x8000000000000000 (fin true 1 (pos 0)) (negsuc 1022) true
    × Splits 0x7ff0000000000000 (fin false 1 (pos 0)) (pos 1024) true × Splits 0xfff0000000000000 (fin true 1 (pos 0)) (pos 1024) true
    × Splits 0x7ff8000000000000 (fin false 3 (negsuc 0)) (pos 1024) true × Splits 0xfff0000000000001 (fin false 3 (negsuc 0)) (pos 1024) true)
