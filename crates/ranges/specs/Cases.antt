-- Cases of the call: what is written, the rank of the refusals, and that joining ranges need not give the bits of the unbroken one. Each row is an equation
-- that holds by computing.
use Rattle.std.specs.Prelude.{ℕ, ◌≡◌, false, List, [], ◌∷◌, map, ℤ, pos, negsuc, Float}
use Rattle.std.specs.Float.{fin}
use Rattle.accumulator.specs.declared.StableProductFloatAcc.{StableProductFloatAcc}
use Rattle.accumulator.specs.Joining.{accumulator, joined}
use Rattle.reduction.specs.Cases.{whole_float, odd_rate}
use Rattle.reduction.specs.Ranges.{range_product, reduce_of}
use Rattle.ranges.specs.Many.{many_code, ms_after, es_after, bads_after}

-- 2, 2, 0 and 1/4 side by side, and three buffers of three places that hold 7, 7 and 255
abbrev pub four : List Float
four = fin false 1 (pos 1) ∷ fin false 1 (pos 1) ∷ whole_float 0 ∷ fin false 1 (negsuc 1) ∷ []

abbrev pub held_m : List Float
held_m = whole_float 7 ∷ whole_float 7 ∷ whole_float 7 ∷ []

abbrev pub held_e : List ℤ
held_e = pos 7 ∷ pos 7 ∷ pos 7 ∷ []

abbrev pub held_bad : List ℕ
held_bad = 255 ∷ 255 ∷ 255 ∷ []

-- ranges over n elements from the base on: the code, and the buffers after it
abbrev pub Gives : ℕ → ℤ → List ℕ → List ℕ → ℕ → List Float → List ℤ → List ℕ → Type 0
Gives n base starts ends code ms es bads =
    (many_code (n ∷ []) (pos 1 ∷ []) base starts ends four held_m held_e held_bad ≡ code)
    × (ms_after (n ∷ []) (pos 1 ∷ []) base starts ends four held_m held_e held_bad ≡ ms)
    × (es_after (n ∷ []) (pos 1 ∷ []) base starts ends four held_m held_e held_bad ≡ es)
    × (bads_after (n ∷ []) (pos 1 ∷ []) base starts ends four held_m held_e held_bad ≡ bads)

-- a refused call keeps all three
abbrev pub Kept : ℕ → ℤ → List ℕ → List ℕ → ℕ → Type 0
Kept n base starts ends code = Gives n base starts ends code held_m held_e held_bad

-- M1: two ranges and a place that stays; overlapping ones, the last bad; the same one three times; none, also over a layout without elements
abbrev pub WrittenTable : Type 0
WrittenTable =
    Gives 4 (pos 0) (0 ∷ 3 ∷ []) (2 ∷ 4 ∷ []) 0 (whole_float 1 ∷ whole_float 1 ∷ whole_float 7 ∷ []) (pos 2 ∷ negsuc 1 ∷ pos 7 ∷ []) (0 ∷ 0 ∷ 255 ∷ [])
    × Gives 4 (pos 0) (0 ∷ 1 ∷ 1 ∷ []) (2 ∷ 2 ∷ 3 ∷ []) 0 (whole_float 1 ∷ whole_float 1 ∷ whole_float 1 ∷ []) (pos 2 ∷ pos 1 ∷ negsuc 1021 ∷ []) (0 ∷ 0 ∷ 1 ∷ [])
    × Gives 4 (pos 0) (3 ∷ 3 ∷ 3 ∷ []) (4 ∷ 4 ∷ 4 ∷ []) 0 (whole_float 1 ∷ whole_float 1 ∷ whole_float 1 ∷ []) (negsuc 1 ∷ negsuc 1 ∷ negsuc 1 ∷ [])
    (0 ∷ 0 ∷ 0 ∷ [])
    × Gives 4 (pos 0) [] [] 0 held_m held_e held_bad × Gives 0 (pos 0) [] [] 0 held_m held_e held_bad

-- R0: 16 by the lists and by the buffers, before 5; 6 of the first range before 5 of the second, 5 before 6; both before 7, which an empty list gets too, and
-- which a layout without elements never gives
abbrev pub RefusedTable : Type 0
RefusedTable =
    Kept 4 (pos 1) (2 ∷ 0 ∷ []) (2 ∷ []) 16 × Kept 4 (pos 1) (2 ∷ 0 ∷ 0 ∷ 0 ∷ []) (2 ∷ 5 ∷ 4 ∷ 4 ∷ []) 16
    × Kept 4 (pos 1) (0 ∷ 2 ∷ []) (5 ∷ 2 ∷ []) 6 × Kept 4 (pos 1) (2 ∷ 0 ∷ []) (2 ∷ 5 ∷ []) 5 × Kept 4 (pos 1) (6 ∷ []) (5 ∷ []) 5
    × Kept 4 (pos 1) (0 ∷ []) (4 ∷ []) 7 × Kept 4 (pos 1) [] [] 7 × Kept 0 (pos 9) (0 ∷ []) (1 ∷ []) 6 × Gives 0 (pos 9) [] [] 0 held_m held_e held_bad

-- Three rates, unbroken, and the first of them joined with the product of the other two: the last bits differ.
abbrev pub three : List Float
three = map odd_rate (10 ∷ 11 ∷ 15 ∷ [])

abbrev pub part_of : ℕ → ℕ → StableProductFloatAcc
part_of start end = range_product (3 ∷ []) (pos 1 ∷ []) (pos 0) start end three

abbrev pub JoiningTable : Type 0
JoiningTable =
    (reduce_of (3 ∷ []) (pos 1 ∷ []) (pos 0) 0 3 three ≡ accumulator (fin false 1127087362766193 (negsuc 49)) (pos 0) false)
    × (joined (part_of 0 1) (part_of 1 3) ≡ accumulator (fin false 4508349451064771 (negsuc 51)) (pos 0) false)
