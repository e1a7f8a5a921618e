-- Two tables of cases: those of docs/RULES.md ("Cases that the rules fix"), and those that no theorem decides. Each row is an equation that holds by computing.
use Rattle.std.specs.Prelude.{ℕ, ◌+◌, ◌-◌, ◌^◌, ◌≡◌, Bool, true, false, List, [], ◌∷◌, map, replicate, ℤ, pos, negsuc, Float}
use Rattle.std.specs.Float.{fin}
use Rattle.accumulator.specs.Joining.{accumulator}
use Rattle.offsets.specs.Cases.{LayoutTable, LayoutDeciding}
use Rattle.finishing.specs.Cases.{one_half, FinishingTable, LimitsDeciding}
use Rattle.reduction.specs.Ranges.{reduce_of}

-- 0.0, 1.0, 3.0 and so on
abbrev pub whole_float : ℕ → Float
whole_float n = fin false n (pos 0)

-- reducing one axis of n elements from the base on gives this accumulator
abbrev pub Reduces : ℕ → ℤ → ℤ → List Float → Float → ℤ → Bool → Type 0
Reduces n stride base values m e bad = reduce_of (n ∷ []) (stride ∷ []) base 0 n values ≡ accumulator m e bad

-- each product in both ways: side by side, and a stride apart
abbrev pub ProductTable : Type 0
ProductTable =
    Reduces 2 (pos 1) (pos 0) (one_half ∷ one_half ∷ []) (fin false 9 (negsuc 2)) (pos 1) false
    × Reduces 2 (pos 2) (pos 0) (one_half ∷ whole_float 3 ∷ one_half ∷ []) (fin false 9 (negsuc 2)) (pos 1) false
    × Reduces 64 (pos 1) (pos 0) (replicate 64 (fin false 1 (pos 1))) (whole_float 1) (pos 64) false
    × Reduces 64 (pos 0) (pos 0) (fin false 1 (pos 1) ∷ []) (whole_float 1) (pos 64) false
    × Reduces 2 (pos 1) (pos 0) (whole_float 0 ∷ whole_float 3 ∷ []) one_half (negsuc 1021) true
    × Reduces 2 (pos 2) (pos 0) (whole_float 0 ∷ whole_float 1 ∷ whole_float 3 ∷ []) (whole_float 1) (pos 0) true

-- subnormal rates, likewise: 2^-1074 and 3.0; 2^-1074 and -2^-1074; the greatest of them, 2^-1022 - 2^-1074, and 1.0; and beside a zero
abbrev pub SubnormalTable : Type 0
SubnormalTable =
    let least = fin false 1 (negsuc 1073) in
    let greatest = fin false (2 ^ 52 - 1) (negsuc 1073) in
    Reduces 2 (pos 1) (pos 0) (least ∷ whole_float 3 ∷ []) one_half (negsuc 1072) false
    × Reduces 2 (pos 2) (pos 0) (least ∷ whole_float 0 ∷ whole_float 3 ∷ []) one_half (negsuc 1072) false
    × Reduces 2 (pos 1) (pos 0) (least ∷ fin true 1 (negsuc 1073) ∷ []) (fin true 1 (pos 0)) (negsuc 2147) false
    × Reduces 2 (pos 2) (pos 0) (least ∷ whole_float 0 ∷ fin true 1 (negsuc 1073) ∷ []) (fin true 1 (pos 0)) (negsuc 2147) false
    × Reduces 2 (pos 1) (pos 0) (greatest ∷ whole_float 1 ∷ []) (fin false (2 ^ 52 - 1) (negsuc 50)) (negsuc 1022) false
    × Reduces 2 (pos 2) (pos 0) (greatest ∷ whole_float 0 ∷ whole_float 1 ∷ []) (fin false (2 ^ 52 - 1) (negsuc 50)) (negsuc 1022) false
    × Reduces 2 (pos 1) (pos 0) (least ∷ whole_float 0 ∷ []) (whole_float 1) (negsuc 2096) true
    × Reduces 2 (pos 2) (pos 0) (least ∷ whole_float 1 ∷ whole_float 0 ∷ []) (whole_float 1) (negsuc 1073) true

abbrev pub CaseTable : Type 0
CaseTable = LayoutTable × ProductTable × FinishingTable

-- 1 + 7^k × 2^-52: in a product of several the last bits depend on the order. Nine of them give lane 0 two.
abbrev pub odd_rate : ℕ → Float
odd_rate k = fin false (2 ^ 52 + 7 ^ k) (negsuc 51)

abbrev pub nine : List Float
nine = map odd_rate (16 ∷ 15 ∷ 14 ∷ 13 ∷ 12 ∷ 11 ∷ 10 ∷ 9 ∷ 8 ∷ [])

-- A4, A5: the lane of a value, counted from the piece's first value, not from the run's; the order of lanes; a bad lane among good ones
abbrev pub LanesDeciding : Type 0
LanesDeciding =
    Reduces 9 (pos 1) (pos 0) nine (fin false 70975204821401 (negsuc 45)) (pos 0) false
    × Reduces 9 (negsuc 0) (pos 8) (map odd_rate (8 ∷ 9 ∷ 10 ∷ 11 ∷ 12 ∷ 13 ∷ 14 ∷ 15 ∷ 16 ∷ [])) (fin false 70975204821401 (negsuc 45)) (pos 0) false
    × (reduce_of (10 ∷ []) (pos 1 ∷ []) (pos 0) 1 10 (one_half ∷ nine) ≡ accumulator (fin false 70975204821401 (negsuc 45)) (pos 0) false)
    × Reduces 2 (pos 2) (pos 0) (one_half ∷ whole_float 3 ∷ whole_float 0 ∷ []) one_half (pos 0) true

-- three runs of two: a × 3, b × 5, c × 7, with a value between them that no element visits
abbrev pub RunsGive : Float → Float → Float → Float → ℤ → Type 0
RunsGive a b c m e =
    reduce_of (2 ∷ 3 ∷ []) (pos 1 ∷ pos 3 ∷ []) (pos 0) 0 6 (a ∷ whole_float 3 ∷ one_half ∷ b ∷ whole_float 5 ∷ one_half ∷ c ∷ whole_float 7 ∷ []) ≡ accumulator m e true

-- A6: three runs of three from element 1 on, cut and joined from the left; A3: the side that a bad piece keeps, first, in the middle and last
abbrev pub PiecesDeciding : Type 0
PiecesDeciding =
    (reduce_of (3 ∷ 3 ∷ []) (pos 1 ∷ pos 4 ∷ []) (pos 0) 1 9 (map odd_rate (18 ∷ 17 ∷ 16 ∷ 1 ∷ 15 ∷ 14 ∷ 13 ∷ 1 ∷ 12 ∷ 11 ∷ 10 ∷ []))
    ≡ accumulator (fin false 298565528675189 (negsuc 47)) (pos 0) false)
    × RunsGive (whole_float 0) (whole_float 3) (whole_float 3) one_half (negsuc 1021)
    × RunsGive one_half (whole_float 0) (whole_float 3) (fin false 9 (negsuc 2)) (pos 2)
    × RunsGive one_half (whole_float 3) (whole_float 0) (fin false 135 (negsuc 6)) (pos 6)

abbrev pub DecidingTable : Type 0
DecidingTable = LayoutDeciding × LimitsDeciding × LanesDeciding × PiecesDeciding
