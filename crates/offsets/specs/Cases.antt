-- Two tables of layout cases. Each row is an equation that holds by computing.
use Rattle.std.specs.Prelude.{ℕ, ◌^◌, ◌+◌, ◌*◌, ◌≡◌, List, [], ◌∷◌, map, replicate, ℤ, pos, negsuc}
use Rattle.layout.specs.Axes.{PLACES}
use Rattle.layout.specs.Compile.{empty_layout, compile_of}
use Rattle.offsets.specs.Lists.{list_code, list_buffer}

-- compiling is accepted, with this total, run length, run stride and number of outer axes
abbrev pub Compiles : List ℕ → List ℤ → ℕ → ℕ → ℤ → ℕ → Type 0
Compiles ns ss total len stride outer =
    let l = (compile_of PLACES ns ss).traversal in
    ((compile_of PLACES ns ss).code ≡ 0) × (l.total ≡ total) × (l.run_len ≡ len) × (l.run_stride ≡ stride) × (l.axis_count ≡ outer)

-- compiling is refused, beside the layout of total 0
abbrev pub Refuses : List ℕ → List ℤ → ℕ → Type 0
Refuses ns ss code = compile_of PLACES ns ss ≡ record { code = code; traversal = empty_layout PLACES }

-- listing elements 0 to end - 1 into a buffer of seven places that hold 7 gives this code and this buffer
abbrev pub Lists : List ℕ → List ℤ → ℤ → ℕ → ℕ → ℕ → List ℤ → Type 0
Lists ns ss base end len code buffer = (list_code ns ss base 0 end len 7 ≡ code) × (list_buffer ns ss base 0 end len (replicate 7 (pos 7)) ≡ buffer)

-- docs/RULES.md, "Cases that the rules fix"
abbrev pub LayoutTable : Type 0
LayoutTable =
    Compiles (2 ∷ 3 ∷ []) (pos 3 ∷ pos 1 ∷ []) 6 6 (pos 1) 0
    × Lists (2 ∷ 3 ∷ []) (pos 1 ∷ negsuc 1 ∷ []) (pos 4) 6 6 0 (pos 4 ∷ pos 5 ∷ pos 2 ∷ pos 3 ∷ pos 0 ∷ pos 1 ∷ pos 7 ∷ [])
    × Lists (2 ∷ 3 ∷ []) (pos 1 ∷ negsuc 1 ∷ []) (pos 3) 6 6 7 (replicate 7 (pos 7))
    × Lists (2 ∷ 2 ∷ []) (pos 2 ∷ negsuc 1 ∷ []) (pos 2) 4 5 0 (pos 2 ∷ pos 4 ∷ pos 0 ∷ pos 2 ∷ replicate 3 (pos 7))
    × Lists (2 ∷ 2 ∷ []) (negsuc 1 ∷ pos 2 ∷ []) (pos 2) 4 5 0 (pos 2 ∷ pos 4 ∷ pos 0 ∷ pos 2 ∷ replicate 3 (pos 7))
    × Lists (3 ∷ 2 ∷ []) (pos 0 ∷ pos 1 ∷ []) (pos 0) 6 2 0 (pos 0 ∷ pos 1 ∷ pos 0 ∷ pos 1 ∷ pos 0 ∷ pos 1 ∷ pos 7 ∷ [])
    × Refuses ((2 ^ 63) ∷ 2 ∷ 0 ∷ []) (replicate 3 (pos 1)) 3 × Compiles (0 ∷ (2 ^ 63) ∷ 2 ∷ []) (replicate 3 (pos 1)) 0 0 (pos 1) 0
    × Refuses (2 ∷ []) (negsuc 9223372036854775807 ∷ []) 3 × Compiles (1 ∷ []) (negsuc 9223372036854775807 ∷ []) 1 1 (pos 1) 0
    × Refuses (2 ∷ 2 ∷ []) (pos (2 ^ 62) ∷ pos 0 ∷ []) 3 × Refuses ((2 ^ 63 + 1) ∷ []) (pos 0 ∷ []) 3
    × Compiles ((2 ^ 40) ∷ []) (pos 0 ∷ []) (2 ^ 40) (2 ^ 40) (pos 0) 0 × Refuses ((2 ^ 40 + 1) ∷ []) (pos 0 ∷ []) 4 × Compiles [] [] 1 1 (pos 1) 0

-- the code of a list call over three values side by side, into a buffer of `room` places
abbrev pub Codes : ℕ → ℕ → ℕ → ℕ → ℕ → Type 0
Codes start end len room code = list_code (3 ∷ []) (pos 1 ∷ []) (pos 0) start end len room ≡ code

-- What no theorem decides: L4's second check of L3; seventeen axes, seventeen of which one is longer than 1, sixteen, and nine that do not fuse (R2); the
-- order by |stride| itself, whatever the signs (L2); that L4 checks in that order; R5, R6 and R8, and their rank.
abbrev pub LayoutDeciding : Type 0
LayoutDeciding =
    Refuses (3 ∷ 2 ∷ []) (pos (2 ^ 61) ∷ pos (3 * 2 ^ 61) ∷ []) 3 × Refuses (replicate 17 1) (replicate 17 (pos 1)) 2
    × Refuses (2 ∷ replicate 16 1) (replicate 17 (pos 1)) 2 × Compiles (replicate 16 1) (replicate 16 (pos 1)) 1 1 (pos 1) 0
    × Compiles (replicate 9 2) (map pos (3 ∷ 4 ∷ 5 ∷ 6 ∷ 7 ∷ 8 ∷ 9 ∷ 10 ∷ 11 ∷ [])) 512 2 (pos 3) 8
    × Compiles (2 ∷ 2 ∷ []) (pos 3 ∷ negsuc 1 ∷ []) 4 2 (negsuc 1) 1
    × Lists (2 ∷ 2 ∷ []) (pos 3 ∷ pos 2 ∷ []) (pos 0) 4 6 0 (pos 0 ∷ pos 2 ∷ pos 3 ∷ pos 5 ∷ replicate 3 (pos 7))
    × Refuses (2 ∷ 2 ∷ []) (negsuc 4611686018427387903 ∷ pos (2 ^ 62) ∷ []) 3
    × Codes 2 2 3 7 5 × Codes 3 2 3 7 5 × Codes 0 4 3 7 6 × Codes 0 3 3 2 8 × Codes 0 3 3 3 0 × Codes 5 5 0 0 5 × Codes 0 4 0 0 6 × Codes 0 3 2 2 7
