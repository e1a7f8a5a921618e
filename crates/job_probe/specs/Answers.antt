-- Rule C6: what a C host is handed of a job that is read or written: a code, and places that a refusal leaves as they were.
use Rattle.std.specs.Prelude.{ℕ, cond, eqb}
use Rattle.jobs.specs.Writing.{JobWritten}

-- a place after a call with this code
unfoldable pub given : {A : Type 0} → ℕ → A → A → A
given code new before = cond (eqb code 0) new before

-- the place of a written job's byte count
unfoldable pub count_given : ℕ → JobWritten → ℕ
count_given before w = given w.code w.count before
