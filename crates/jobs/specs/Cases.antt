-- Cases of jobs as words: faults one by one, and which of two comes first. Each row is an equation that holds by computing.
use Rattle.std.specs.Prelude.{ℕ, zero, suc, ◌≡◌, List, [], ◌∷◌, ◌++◌, ℤ, pos, negsuc, length, take}
use Rattle.jobs.specs.Words.{bytes_of}
use Rattle.jobs.specs.Sending.{Job, job_bytes}
use Rattle.jobs.specs.Writing.{write_of, write_buffer}
use Rattle.jobs.specs.Reading.{ReadAnswer, job, refusal, job_from}

-- words in a row, behind so many axes of size 1 and stride 0
abbrev pub words_bytes : ℕ → List ℕ → List ℕ
words_bytes zero [] = []
words_bytes zero (w ∷ ws) = bytes_of w ++ words_bytes zero ws
words_bytes (suc axes) ws = bytes_of 0x20000001 ++ bytes_of 0x40000000 ++ words_bytes axes ws

-- what is read from these words and bytes behind them, and what from words alone
abbrev pub Reads : ℕ → List ℕ → List ℕ → ReadAnswer → Type 0
Reads axes words bytes answer = job_from (words_bytes axes words ++ bytes) ≡ answer

abbrev pub ReadsWords : List ℕ → ReadAnswer → Type 0
ReadsWords words answer = Reads 0 words [] answer

-- a job without axes
abbrev pub bare : ℤ → ℕ → ReadAnswer
bare base start = job (record { sizes = []; strides = []; base = base; start = start; end = 1 })

-- No byte, one byte, no finish, half of it, a byte behind it, a payload in it. Kinds 0 and 7 first, a size behind a size, a stride first, a base behind a
-- base, no base, a word of kind 0 behind finish.
abbrev pub FaultTable : Type 0
FaultTable =
    ReadsWords [] (refusal 11) × Reads 0 [] (0 ∷ []) (refusal 11) × ReadsWords (0x60000000 ∷ 0x80000000 ∷ 0xa0000001 ∷ []) (refusal 11)
    × Reads 0 (0x60000000 ∷ 0x80000000 ∷ 0xa0000001 ∷ []) (0 ∷ 0 ∷ []) (refusal 11)
    × Reads 0 (0x60000000 ∷ 0x80000000 ∷ 0xa0000001 ∷ 0xc0000000 ∷ []) (0 ∷ []) (refusal 11)
    × ReadsWords (0x60000000 ∷ 0x80000000 ∷ 0xa0000001 ∷ 0xc0000001 ∷ []) (refusal 11)
    × ReadsWords (0x00000000 ∷ 0x60000000 ∷ 0x80000000 ∷ 0xa0000001 ∷ 0xc0000000 ∷ []) (refusal 11) × ReadsWords (0xe0000000 ∷ []) (refusal 11)
    × ReadsWords (0x20000001 ∷ 0x20000001 ∷ []) (refusal 11) × ReadsWords (0x40000001 ∷ []) (refusal 11)
    × ReadsWords (0x60000000 ∷ 0x60000000 ∷ []) (refusal 11)
    × ReadsWords (0x80000000 ∷ 0xa0000001 ∷ 0xc0000000 ∷ []) (refusal 11)
    × ReadsWords (0x60000000 ∷ 0x80000000 ∷ 0xa0000001 ∷ 0xc0000000 ∷ 0x00000000 ∷ []) (refusal 11)

-- The start in two needless words more; with all of 64 bits; one past them, before the end is missed; with a third word of kind 0. A base of -1, of the least
-- and of the greatest i64. Sixteen axes, and a seventeenth: in order, with a number that is too long; out of order.
abbrev pub NumberTable : Type 0
NumberTable =
    ReadsWords (0x60000000 ∷ 0x80000007 ∷ 0x00000000 ∷ 0x00000000 ∷ 0xa0000001 ∷ 0xc0000000 ∷ []) (bare (pos 0) 7)
    × ReadsWords (0x60000000 ∷ 0x9fffffff ∷ 0x1fffffff ∷ 0x0000003f ∷ 0xa0000001 ∷ 0xc0000000 ∷ []) (bare (pos 0) 0xffffffffffffffff)
    × ReadsWords (0x60000000 ∷ 0x80000000 ∷ 0x00000000 ∷ 0x00000040 ∷ []) (refusal 12)
    × ReadsWords (0x60000000 ∷ 0x80000000 ∷ 0x00000000 ∷ 0x00000000 ∷ 0x00000000 ∷ []) (refusal 12)
    × ReadsWords (0x60000001 ∷ 0x80000000 ∷ 0xa0000001 ∷ 0xc0000000 ∷ []) (bare (negsuc 0) 0)
    × ReadsWords (0x7fffffff ∷ 0x1fffffff ∷ 0x0000003f ∷ 0x80000000 ∷ 0xa0000001 ∷ 0xc0000000 ∷ []) (bare (negsuc 0x7fffffffffffffff) 0)
    × ReadsWords (0x7ffffffe ∷ 0x1fffffff ∷ 0x0000003f ∷ 0x80000000 ∷ 0xa0000001 ∷ 0xc0000000 ∷ []) (bare (pos 0x7fffffffffffffff) 0)
    × Reads 16 (0x60000000 ∷ []) [] (refusal 11) × Reads 16 (0x20000000 ∷ 0 ∷ 0 ∷ 0 ∷ []) [] (refusal 2)
    × Reads 15 (0x20000001 ∷ 0x20000001 ∷ []) [] (refusal 11)

-- a job of an axis of size 2 and stride -1, from base 1, and its bytes
abbrev pub pair_job : Job
pair_job = record { sizes = 2 ∷ []; strides = negsuc 0 ∷ []; base = pos 1; start = 0; end = 2 }

abbrev pub pair_bytes : List ℕ
pair_bytes = 2 ∷ 0 ∷ 0 ∷ 32 ∷ 1 ∷ 0 ∷ 0 ∷ 64 ∷ 2 ∷ 0 ∷ 0 ∷ 96 ∷ 0 ∷ 0 ∷ 0 ∷ 128 ∷ 2 ∷ 0 ∷ 0 ∷ 160 ∷ 0 ∷ 0 ∷ 0 ∷ 192 ∷ []

-- jobs that are refused: two sizes for a stride; seventeen axes, for which there is no room either
abbrev pub odd_job : Job
odd_job = record { sizes = 2 ∷ 2 ∷ []; strides = pos 1 ∷ []; base = pos 0; start = 0; end = 1 }

abbrev pub times17 : {A : Type 0} → A → List A
times17 x = x ∷ x ∷ x ∷ x ∷ x ∷ x ∷ x ∷ x ∷ x ∷ x ∷ x ∷ x ∷ x ∷ x ∷ x ∷ x ∷ x ∷ []

abbrev pub long_job : Job
long_job = record { sizes = times17 1; strides = times17 (pos 0); base = pos 0; start = 0; end = 1 }

-- the answer, and the buffer after the call
abbrev pub Writes : Job → List ℕ → ℕ → ℕ → List ℕ → Type 0
Writes j out code count after = (write_of j (length out) ≡ record { code = code; count = count }) × (write_buffer j out ≡ after)

-- The bytes of a job. Room for them and one byte more, which stays; one byte too few; 1 before 13, 2 before 13.
abbrev pub WriteTable : Type 0
WriteTable =
    (job_bytes pair_job ≡ pair_bytes) × Writes pair_job (pair_bytes ++ 7 ∷ []) 0 24 (pair_bytes ++ 7 ∷ [])
    × Writes pair_job (take 23 pair_bytes) 13 0 (take 23 pair_bytes) × Writes odd_job (7 ∷ []) 1 0 (7 ∷ []) × Writes long_job (7 ∷ []) 2 0 (7 ∷ [])
