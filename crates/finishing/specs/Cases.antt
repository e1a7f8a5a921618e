-- Two tables of cases of finishing and joining. Each row is an equation that holds by computing.
use Rattle.std.specs.Prelude.{◌+◌, ◌-◌, ◌^◌, ◌≡◌, Bool, true, false, ℤ, pos, negsuc, Float}
use Rattle.std.specs.Float.{nan, inf, fin}
use Rattle.accumulator.specs.Joining.{Answer, accumulator, refusal, joined}
use Rattle.finishing.specs.Finishing.{FinalAnswer, value, refusal as refused, finished_of}

-- 1.0 or -1.0; 1.5
abbrev pub signed_one : Bool → Float
signed_one s = fin s 1 (pos 0)

abbrev pub one_half : Float
one_half = fin false 3 (negsuc 0)

abbrev pub Finishes : Float → ℤ → Bool → FinalAnswer → Type 0
Finishes m e bad answer = finished_of (accumulator m e bad) ≡ answer

-- docs/RULES.md, "Cases that the rules fix"
abbrev pub FinishingTable : Type 0
FinishingTable =
    Finishes (signed_one false) (negsuc 1074) false (value (fin false 0 (pos 0)))
    × Finishes (fin false (2 ^ 52 + 1) (negsuc 51)) (negsuc 1074) false (value (fin false 1 (negsuc 1073)))
    × Finishes one_half (negsuc 1073) false (value (fin false 1 (negsuc 1072))) × Finishes (signed_one false) (pos 1024) false (value (inf false))
    × Finishes (signed_one true) (negsuc 1999) false (value (fin true 0 (pos 0)))

-- m × 2^e, bad or not, joined with 1.5 × 2^d
abbrev pub Joins : Float → ℤ → Bool → ℤ → Answer → Type 0
Joins m e bad d answer = joined (record { m = m; e = e; bad = bad }) (record { m = one_half; e = d; bad = false }) ≡ answer

-- What no theorem decides: 9 by m; 9 by e at 2^52 and one past it, of the left, of the right, of a bad one; 10 by the sum and by the carry, never of a bad one.
abbrev pub LimitsDeciding : Type 0
LimitsDeciding =
    Joins (signed_one true) (pos 0) false (pos 0) (accumulator (fin true 3 (negsuc 0)) (pos 0) false)
    × Joins (fin false 1 (pos 1)) (pos 0) false (pos 0) (refusal 9) × Joins (fin false (2 ^ 53 - 1) (negsuc 52)) (pos 0) false (pos 0) (refusal 9)
    × Joins nan (pos 0) true (pos 0) (refusal 9) × Joins (signed_one false) (pos (2 ^ 52)) false (pos 0) (accumulator one_half (pos (2 ^ 52)) false)
    × Joins (signed_one false) (pos (2 ^ 52 + 1)) false (negsuc 0) (refusal 9)
    × Joins (signed_one false) (negsuc (2 ^ 52 - 1)) false (pos 0) (accumulator one_half (negsuc (2 ^ 52 - 1)) false)
    × Joins (signed_one false) (negsuc (2 ^ 52)) true (pos 0) (refusal 9) × Joins (signed_one false) (negsuc 0) false (pos (2 ^ 52 + 1)) (refusal 9)
    × Joins (signed_one false) (pos (2 ^ 52)) false (pos 1) (refusal 10) × Joins (signed_one false) (negsuc (2 ^ 52 - 1)) false (negsuc 0) (refusal 10)
    × Joins one_half (pos (2 ^ 52 - 2)) false (pos 1) (accumulator (fin false 9 (negsuc 2)) (pos (2 ^ 52)) false)
    × Joins one_half (pos (2 ^ 52 - 1)) false (pos 1) (refusal 10)
    × Joins (signed_one false) (pos (2 ^ 52)) true (pos 1) (accumulator (signed_one false) (pos (2 ^ 52)) true)
    × Finishes (signed_one true) (pos (2 ^ 52)) false (value (inf true)) × Finishes (signed_one false) (negsuc (2 ^ 52 - 1)) true (value nan)
    × Finishes (signed_one false) (pos (2 ^ 52 + 1)) false (refused 9) × Finishes (signed_one false) (negsuc (2 ^ 52)) true (refused 9)
