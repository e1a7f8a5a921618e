-- A job as it is written: its payloads carry it, and no encoding of it is shorter.
-- Assumes nothing.
use Prim.Native.Nat.{ℕ, ◌^◌, ◌≤◌, ◌<◌}
use mathlib.Core.List.{List, [], ◌∷◌, map, map-id}
use native.Mathlib.Omega.{arith}
use lib.ListN.{length, length-append}
use lib.IntN.{ℤ}
use Rattle.laws.specs.Lists as lists
use Rattle.laws.specs.Lists.{Each}
use Rattle.jobs.specs.Words.{SIZE, STRIDE, BASE, START, END, number_bytes, payloads_of, sent_of}
use Rattle.jobs.specs.Sending.{Job, Payloads, axes_bytes, sent_bytes, size_payloads, stride_payloads, job_payloads, job_bytes}
use Rattle.jobs.specs.Theorems.{Carry, CarryAll, none, more, CarryJob, Sendable}
use Rattle.jobs.proofs.Signs.{sent-fits}
use Rattle.jobs.proofs.Fewest.{payloads-carry, least-words}
use Rattle.jobs.proofs.Laying.{length-number}

all-carry : {X : Type 0} (f : X → ℕ) (P : X → Type 0) → ((x : X) → P x → f x < 2 ^ 64) → {xs : List X} → Each P xs
    → CarryAll (map f xs) (map (λ (x : X). payloads_of (f x)) xs)
all-carry f P fits lists.none = none
all-carry f P fits (lists.more {x} h e) = more (payloads-carry (f x) (fits x h)) (all-carry f P fits e)

pub job-carries : (j : Job) → Sendable j → CarryJob j (job_payloads j)
unfolding job_payloads
job-carries j s =
    record {
      pairs = s.pairs;
      few = s.few;
      sizes = rw map-id at (all-carry (λ (n : ℕ). n) (λ (n : ℕ). n < 2 ^ 64) (λ n h. h) s.sizes);
      strides = all-carry sent_of _ sent-fits s.strides;
      base = payloads-carry (sent_of j.base) (sent-fits j.base s.base);
      start = payloads-carry j.start s.start;
      end = payloads-carry j.end s.end;
    }

number-least : (kind : ℕ) {n : ℕ} {ps : List ℕ} → Carry n ps → length (number_bytes kind (payloads_of n)) ≤ length (number_bytes kind ps)
number-least kind {n} {ps} c = omega (arith, least-words n ps c, length-number kind ps, length-number kind (payloads_of n))

axes-least : {ns : List ℕ} (ss : List ℤ) {ps qs : List (List ℕ)} → CarryAll ns ps → CarryAll (map sent_of ss) qs
    → length (axes_bytes (size_payloads ns) (stride_payloads ss)) ≤ length (axes_bytes ps qs)
unfolding axes_bytes
axes-least ss none d = omega arith
axes-least [] (more c e) none = omega arith
axes-least (s ∷ ss) (more c e) (more d f) =
    simp length-append (omega (arith, number-least SIZE c, number-least STRIDE d, axes-least ss e f))

pub job-least : (j : Job) (p : Payloads) → CarryJob j p → length (job_bytes j) ≤ length (sent_bytes p)
unfolding job_bytes sent_bytes job_payloads
job-least j p c =
    simp length-append
    (omega
    (arith, axes-least j.strides c.sizes c.strides, number-least BASE c.base, number-least START c.start, number-least END c.end))
