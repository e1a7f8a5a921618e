-- Rule C6 in cases: what a host is handed of a job that is read or written, and of refusals, which leave each place as it was. Each row is an equation that
-- holds by computing.
use Rattle.std.specs.Prelude.{ℕ, ◌≡◌, List, [], ◌∷◌, take, ℤ, pos, negsuc}
use Rattle.refusals.specs.Refusals.{BAD_WORD, JOB_BUFFER_TOO_SHORT}
use Rattle.layout.specs.Axes.{PLACES, padded}
use Rattle.jobs.specs.Sending.{Job}
use Rattle.jobs.specs.Reading.{read_of}
use Rattle.jobs.specs.Writing.{write_of}
use Rattle.job_probe.specs.Answers.{given, count_given}

-- one axis of size 3 and stride -2, from base 5 on, and of its elements that from 1 to 2
abbrev pub small_job : Job
small_job = record { sizes = 3 ∷ []; strides = negsuc 1 ∷ []; base = pos 5; start = 1; end = 2 }

abbrev pub small_bytes : List ℕ
small_bytes = 3 ∷ 0 ∷ 0 ∷ 32 ∷ 3 ∷ 0 ∷ 0 ∷ 64 ∷ 10 ∷ 0 ∷ 0 ∷ 96 ∷ 1 ∷ 0 ∷ 0 ∷ 128 ∷ 2 ∷ 0 ∷ 0 ∷ 160 ∷ 0 ∷ 0 ∷ 0 ∷ 192 ∷ []

-- the code, and what stands in the six places, where 8 stood before
abbrev pub ReadGives : List ℕ → ℕ → ℕ → List ℕ → List ℤ → ℤ → ℕ → ℕ → Type 0
ReadGives bytes code n ns ss b s e =
    let r = read_of bytes in
    (r.code ≡ code) × (given r.code r.count 8 ≡ n) × (given r.code r.sizes (padded PLACES 8 []) ≡ ns)
    × (given r.code r.strides (padded PLACES (pos 8) []) ≡ ss) × (given r.code r.base (pos 8) ≡ b) × (given r.code r.start 8 ≡ s)
    × (given r.code r.end 8 ≡ e)

abbrev pub HandsReadOut : Type 0
HandsReadOut =
    ReadGives small_bytes 0 1 (padded PLACES 0 (3 ∷ [])) (padded PLACES (pos 0) (negsuc 1 ∷ [])) (pos 5) 1 2
    × ReadGives (take 23 small_bytes) BAD_WORD 8 (padded PLACES 8 []) (padded PLACES (pos 8) []) (pos 8) 8 8

-- the code of writing the job into so many bytes, and the place of the count, where 8 stood before
abbrev pub WriteGives : ℕ → ℕ → ℕ → Type 0
WriteGives room code n = ((write_of small_job room).code ≡ code) × (count_given 8 (write_of small_job room) ≡ n)

abbrev pub HandsWrittenOut : Type 0
HandsWrittenOut = WriteGives 24 0 24 × WriteGives 23 JOB_BUFFER_TOO_SHORT 8
