-- The theorems of specs/Theorems.
-- Assumes nothing.
use Prim.Native.Nat.{ℕ, ◌≤◌, ◌<◌}
use mathlib.Core.Path.{◌≡◌, refl, sym, ◌∙◌, ap, subst}
use mathlib.Core.Bool.{Bool, true, false, cond, not}
use native.Mathlib.Omega.{arith}
use lib.ListN.{length, drop}
use lib.Seq.{take-append_seam}
use lib.Dec.{ltb, eqb}
use borrow.Author.Tests.{ltb-false, eqb-true, not-false}
use Rattle.refusals.specs.Refusals.{first_of}
use Rattle.layout.specs.Axes.{PLACES}
use Rattle.jobs.specs.Sending.{Job, job_payloads, job_bytes}
use Rattle.jobs.specs.Writing.{write_refusals, write_of, write_buffer}
use Rattle.jobs.specs.Reading.{job, job_from, record_of, read_of}
use Rattle.jobs.specs.Theorems.{RuleJ4Law, Sendable, RuleJ5Law, FewestWords, WrittenThenRead}
use Rattle.jobs.proofs.Fewest.{least-words}
use Rattle.jobs.proofs.Encoded.{JobEncoded, job-encoded}
use Rattle.jobs.proofs.Decoded.{job-reads}
use Rattle.jobs.proofs.Shortest.{job-carries, job-least}

pub rule-J4 : RuleJ4Law
rule-J4 bytes e =
    record {
      only = λ j q. subst (JobEncoded bytes) q (job-encoded e);
      all = λ j p c q. ap job_from q ∙ job-reads j p c;
      else = λ code q. subst (JobEncoded bytes) q (job-encoded e);
    }

written_back : (j : Job) → Sendable j → job_from (job_bytes j) ≡ job j
unfolding job_bytes
written_back j s = job-reads j (job_payloads j) (job-carries j s)

pub rule-J5 : RuleJ5Law
rule-J5 j s =
    record {
      back = written_back j s;
      same = λ i t q. told i j (sym (written_back i t) ∙ ap job_from q ∙ written_back j s);
      least = λ bytes e q. let (p, c, w) = (rule-J4 bytes e).only j q in rw w (job-least j p c);
    }
  where
    told : (i j : Job) → job i ≡ job j → i ≡ j
    told i j e = cc

pub fewest-words : FewestWords
fewest-words = least-words

-- ---- an accepted call of the writer
none-holds : (n : ℕ) (b : Bool) (rest : ℕ) → 0 < n → cond b n rest ≡ 0 → (b ≡ false) × (rest ≡ 0)
none-holds n true rest h e = absurd (omega arith)
none-holds n false rest h e = (refl, e)

in-rank : (j : Job) (room : ℕ) → first_of (write_refusals j room) ≡ 0 → (length j.sizes ≡ length j.strides) × (length j.sizes ≤ PLACES)
unfolding first_of write_refusals
in-rank j room h =
    let m = eqb (length j.sizes) (length j.strides) in
    let p = none-holds 1 (not m) _ (omega arith) h in
    let q = none-holds 2 (ltb PLACES (length j.sizes)) _ (omega arith) p.1 in
    (eqb-true (length j.sizes) (length j.strides) (not-false m p.0), ltb-false PLACES (length j.sizes) q.0)

pub written-then-read : WrittenThenRead
unfolding write_of write_buffer read_of
written-then-read j ns ss b s e out h =
    let (p, f) = in-rank j (length out) h in
    let back = written_back j (record { pairs = p; few = f; sizes = ns; strides = ss; base = b; start = s; end = e }) in
    rw h (ap record_of (ap job_from (take-append_seam (job_bytes j) (drop (length (job_bytes j)) out)) ∙ back))
