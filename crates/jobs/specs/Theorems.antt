-- What is proved about jobs as words, each statement as a type that a proof inhabits (proofs/Theorems).
use Rattle.std.specs.Prelude.{ℕ, ◌^◌, ◌≤◌, ◌<◌, ◌≡◌, true, List, [], ◌∷◌, map, ◌⊎◌, length, take, ℤ}
use Rattle.laws.specs.Lists.{Each}
use Rattle.integers.specs.Integers.{fits_i64}
use Rattle.refusals.specs.Refusals.{TOO_MANY_AXES, BAD_WORD, NUMBER_TOO_LONG}
use Rattle.layout.specs.Axes.{PLACES}
use Rattle.jobs.specs.Words.{carried, payloads_of, sent_of}
use Rattle.jobs.specs.Sending.{Job, Payloads, sent_bytes, job_bytes}
use Rattle.jobs.specs.Writing.{write_of, write_buffer}
use Rattle.jobs.specs.Reading.{job, refusal, job_from, record_of, read_of}

-- ---- the grammar
-- rule J2: payloads of the number n: one to three of 29 bits, needless zeros among them or not, and n has at most 64 bits
pub record Carry (n : ℕ) (ps : List ℕ) : Type 0 where
  pub first : 1 ≤ length ps
  pub few : length ps ≤ 3
  pub small : Each (λ (p : ℕ). p < 2 ^ 29) ps
  pub is : carried ps ≡ n
  pub fits : n < 2 ^ 64

-- payloads of each of these numbers
pub data CarryAll : List ℕ → List (List ℕ) → Type 0 where
  none : CarryAll [] []
  more : {n : ℕ} {p : List ℕ} {ns : List ℕ} {ps : List (List ℕ)} → Carry n p → CarryAll ns ps → CarryAll (n ∷ ns) (p ∷ ps)

-- rule J3: payloads of a job of at most sixteen axes
pub record CarryJob (j : Job) (p : Payloads) : Type 0 where
  pub pairs : length j.sizes ≡ length j.strides
  pub few : length j.sizes ≤ PLACES
  pub sizes : CarryAll j.sizes p.sizes
  pub strides : CarryAll (map sent_of j.strides) p.strides
  pub base : Carry (sent_of j.base) p.base
  pub start : Carry j.start p.start
  pub end : Carry j.end p.end

-- rule J4: what is accepted is exactly the encodings of the job that is given back, and any other bytes get one of three refusals
pub record RuleJ4 (bytes : List ℕ) : Type 0 where
  pub only : (j : Job) → job_from bytes ≡ job j → (p : Payloads) × CarryJob j p × (bytes ≡ sent_bytes p)
  pub all : (j : Job) (p : Payloads) → CarryJob j p → bytes ≡ sent_bytes p → job_from bytes ≡ job j
  pub else : (code : ℕ) → job_from bytes ≡ refusal code → (code ≡ TOO_MANY_AXES) ⊎ (code ≡ BAD_WORD) ⊎ (code ≡ NUMBER_TOO_LONG)

abbrev pub RuleJ4Law : Type 0
RuleJ4Law = (bytes : List ℕ) → Each (λ (b : ℕ). b < 2 ^ 8) bytes → RuleJ4 bytes

-- ---- jobs of machine numbers, as the writer is given
pub record Sendable (j : Job) : Type 0 where
  pub pairs : length j.sizes ≡ length j.strides
  pub few : length j.sizes ≤ PLACES
  pub sizes : Each (λ (n : ℕ). n < 2 ^ 64) j.sizes
  pub strides : Each (λ (s : ℤ). fits_i64 s ≡ true) j.strides
  pub base : fits_i64 j.base ≡ true
  pub start : j.start < 2 ^ 64
  pub end : j.end < 2 ^ 64

-- rule J5: reading a written job gives the job; two jobs are equal exactly if their written bytes are; none of a job's encodings is shorter
pub record RuleJ5 (j : Job) : Type 0 where
  pub back : job_from (job_bytes j) ≡ job j
  pub same : (i : Job) → Sendable i → job_bytes i ≡ job_bytes j → i ≡ j
  pub least : (bytes : List ℕ) → Each (λ (b : ℕ). b < 2 ^ 8) bytes → job_from bytes ≡ job j → length (job_bytes j) ≤ length bytes

abbrev pub RuleJ5Law : Type 0
RuleJ5Law = (j : Job) → Sendable j → RuleJ5 j

-- rule J5 of one number
abbrev pub FewestWords : Type 0
FewestWords = (n : ℕ) (ps : List ℕ) → Carry n ps → length (payloads_of n) ≤ length ps

-- rule J5 of the calls: the bytes that an accepted call of the writer counts, handed to the reader
abbrev pub WrittenThenRead : Type 0
WrittenThenRead =
    (j : Job) → Each (λ (n : ℕ). n < 2 ^ 64) j.sizes → Each (λ (s : ℤ). fits_i64 s ≡ true) j.strides → fits_i64 j.base ≡ true → j.start < 2 ^ 64
    → j.end < 2 ^ 64 → (out : List ℕ) → (write_of j (length out)).code ≡ 0
    → read_of (take (write_of j (length out)).count (write_buffer j out)) ≡ record_of (job j)
