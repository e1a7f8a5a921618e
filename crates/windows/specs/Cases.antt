-- Cases of the call: what is written, and the rank of the refusals. Each row is an equation that holds by computing.
use Rattle.std.specs.Prelude.{ℕ, ◌+◌, ◌^◌, ◌≡◌, List, [], ◌∷◌, ℤ, pos, negsuc, Float}
use Rattle.reduction.specs.Cases.{whole_float}
use Rattle.ranges.specs.Cases.{four, held_m, held_e, held_bad}
use Rattle.windows.specs.Windows.{windows_code, windows_answer, window_ms, window_es, window_bads}

-- windows of w over 2, 2, 0 and 1/4, with three buffers of three places that hold 7, 7 and 255: the code, and the buffers after it
abbrev pub WindowGives : ℕ → ℕ → List Float → List ℤ → List ℕ → Type 0
WindowGives w code ms es bads =
    (windows_answer four w held_m held_e held_bad ≡ code) × (window_ms four w held_m held_e held_bad ≡ ms) × (window_es four w held_m held_e held_bad ≡ es)
    × (window_bads four w held_m held_e held_bad ≡ bads)

-- N1: three windows of two, the zero in the last two; two of three and one of four, all with the zero, and places that stay
abbrev pub WindowTable : Type 0
WindowTable =
    WindowGives 2 0 (whole_float 1 ∷ whole_float 1 ∷ whole_float 1 ∷ []) (pos 2 ∷ negsuc 1021 ∷ negsuc 1024 ∷ []) (0 ∷ 1 ∷ 1 ∷ [])
    × WindowGives 3 0 (whole_float 1 ∷ whole_float 1 ∷ whole_float 7 ∷ []) (negsuc 1020 ∷ negsuc 1023 ∷ pos 7 ∷ []) (1 ∷ 1 ∷ 255 ∷ [])
    × WindowGives 4 0 (whole_float 1 ∷ whole_float 7 ∷ whole_float 7 ∷ []) (negsuc 1022 ∷ pos 7 ∷ pos 7 ∷ []) (1 ∷ 255 ∷ 255 ∷ [])

-- R0: 17 for 0, for which the buffers are too short as well, and for five of four; 16 for the four windows of one
abbrev pub NoWindowTable : Type 0
NoWindowTable = WindowGives 0 17 held_m held_e held_bad × WindowGives 5 17 held_m held_e held_bad × WindowGives 1 16 held_m held_e held_bad

-- R4, R16, R17 by the lengths: 17 before 4, 4 before 16, and each buffer by one place
abbrev pub WindowRankTable : Type 0
WindowRankTable =
    (windows_code (2 ^ 40) (2 ^ 40 + 1) 0 0 0 ≡ 17) × (windows_code (2 ^ 40 + 1) (2 ^ 40 + 1) 0 0 0 ≡ 4) × (windows_code (2 ^ 40) (2 ^ 40) 0 0 0 ≡ 16)
    × (windows_code 9 7 2 3 3 ≡ 16) × (windows_code 9 7 3 2 3 ≡ 16) × (windows_code 9 7 3 3 2 ≡ 16) × (windows_code 9 7 3 3 3 ≡ 0)
