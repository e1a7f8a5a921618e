-- Rule C11: writing a job.
use Rattle.std.specs.Prelude.{ℕ, cond, not, List, [], ◌∷◌, length, ltb, eqb, Result, Ok, Err}
use Rattle.refusals.specs.declared.Refusal.{Refusal}
use Rattle.refusals.specs.Codes.{number}
use Rattle.refusals.specs.Refusals.{Ranked, first_of, buffer_after, STRIDE_LENGTH_MISMATCH, TOO_MANY_AXES, JOB_BUFFER_TOO_SHORT}
use Rattle.layout.specs.Axes.{PLACES}
use Rattle.jobs.specs.Sending.{Job, job_bytes}

-- rules R1, R2 and R13, in rank, for a buffer of `room` bytes
unfoldable pub write_refusals : Job → ℕ → List Ranked
write_refusals j room =
    (STRIDE_LENGTH_MISMATCH, not (eqb (length j.sizes) (length j.strides))) ∷ (TOO_MANY_AXES, ltb PLACES (length j.sizes))
    ∷ (JOB_BUFFER_TOO_SHORT, ltb room (length (job_bytes j))) ∷ []

-- rule C11, the record of a call
pub record JobWritten : Type 0 where
  pub code : ℕ
  pub count : ℕ

-- of what the code answers
abbrev pub write_told : Result ℕ Refusal → JobWritten
write_told (Ok n) = record { code = 0; count = n }
write_told (Err r) = record { code = number r; count = 0 }

-- the answer: the code and the number of bytes, 0 beside a refusal
unfoldable pub write_of : Job → ℕ → JobWritten
write_of j room =
    let code = first_of (write_refusals j room) in
    record { code = code; count = cond (eqb code 0) (length (job_bytes j)) 0 }

-- rules C11 and R0, the buffer after the call: an accepted call fills as many bytes as the job has
unfoldable pub write_buffer : Job → List ℕ → List ℕ
write_buffer j out = buffer_after (first_of (write_refusals j (length out))) (job_bytes j) out
