-- Every encoding of a job is read as the job.
-- Assumes nothing.
use Prim.Native.Nat.{ℕ, zero, suc, ◌≤◌}
use mathlib.Core.Path.{◌≡◌, refl, ◌∙◌}
use mathlib.Core.Bool.{false}
use mathlib.Core.List.{List, [], ◌∷◌, ◌++◌, append_assoc, append-nil, map}
use native.Mathlib.Omega.{arith}
use lib.ListN.{length}
use lib.Seq.{append_snoc}
use lib.Dec.{eqb}
use lib.IntN.{ℤ}
use Rattle.layout.specs.Axes.{PLACES}
use Rattle.jobs.specs.Words.{MORE, SIZE, STRIDE, BASE, START, END, FINISH, word_of, bytes_of, number_bytes, sent_of}
use Rattle.jobs.specs.Sending.{Job, Payloads, axes_bytes, sent_bytes}
use Rattle.jobs.specs.Reading.{first_kind, first_word, behind, job, finish_from, range_from, axes_from, job_from}
use Rattle.jobs.specs.Theorems.{CarryAll, none, more, CarryJob}
use Rattle.jobs.proofs.Signs.{signed_sent}
use Rattle.jobs.proofs.Carrying.{kind-number, no_more, number-reads}

-- ---- what comes behind the axes
range-reads : (j : Job) {p : Payloads} → CarryJob j p
    → range_from j.sizes j.strides
    (number_bytes BASE p.base ++ (number_bytes START p.start ++ (number_bytes END p.end ++ bytes_of (word_of FINISH 0)))) ≡ job j
unfolding range_from behind finish_from first_word bytes_of word_of
range-reads j {p} c =
    let f = bytes_of (word_of FINISH 0) in
    let e = number_bytes END p.end ++ f in
    let s = number_bytes START p.start ++ e in
    rw (
      number-reads BASE s (omega arith) c.base (no_more START e (omega arith) (omega arith) c.start),
      number-reads START e (omega arith) c.start (no_more END f (omega arith) (omega arith) c.end),
      number-reads END f (omega arith) c.end refl,
      signed_sent j.base,
    )

-- ---- the axes. Neither they nor what is behind them begins with more of a number
axes-stop : {ns : List ℕ} {ps : List (List ℕ)} (qs : List (List ℕ)) (tail : List ℕ) → CarryAll ns ps → first_kind tail ≡ BASE
    → eqb (first_kind (axes_bytes ps qs ++ tail)) MORE ≡ false
unfolding axes_bytes
axes-stop qs tail none h = rw h
axes-stop [] tail (more c e) h = rw h
axes-stop (q ∷ qs) tail (more {ps} c e) h =
    simp append_assoc (no_more SIZE (number_bytes STRIDE q ++ (axes_bytes ps qs ++ tail)) (omega arith) (omega arith) c)

axes-read : (allowed : ℕ) (ns : List ℕ) (ss : List ℤ) {ms : List ℕ} {ps : List (List ℕ)} (ts : List ℤ) {qs : List (List ℕ)} (tail : List ℕ)
    → CarryAll ms ps → CarryAll (map sent_of ts) qs → length ms ≡ length ts → length ms ≤ allowed → first_kind tail ≡ BASE
    → axes_from allowed ns ss (axes_bytes ps qs ++ tail) ≡ range_from (ns ++ ms) (ss ++ ts) tail
unfolding axes_from axes_bytes behind
axes-read zero ns ss [] tail none none l a h = rw (h, append-nil ns, append-nil ss)
axes-read (suc allowed) ns ss [] tail none none l a h = rw (h, append-nil ns, append-nil ss)
axes-read zero ns ss (t ∷ ts) tail none d l a h = absurd (omega arith)
axes-read (suc allowed) ns ss (t ∷ ts) tail none d l a h = absurd (omega arith)
axes-read zero ns ss ts tail (more c e) d l a h = absurd (omega arith)
axes-read (suc allowed) ns ss [] tail (more c e) d l a h = absurd (omega arith)
axes-read (suc allowed) ns ss (t ∷ ts) tail (more {n} {ps} c e) (more {p = q} {ps = qs} d f) l a h =
    let r = axes_bytes ps qs ++ tail in
    let s = number_bytes STRIDE q ++ r in
    simp append_assoc
    (rw (
      kind-number SIZE s (omega arith) c,
      number-reads SIZE s (omega arith) c (no_more STRIDE r (omega arith) (omega arith) d),
      number-reads STRIDE r (omega arith) d (axes-stop qs tail e h),
      signed_sent t,
    )
    (axes-read allowed (ns ++ n ∷ []) (ss ++ t ∷ []) ts tail e f (omega arith) (omega arith) h ∙ rw (append_snoc ns, append_snoc ss)))

pub job-reads : (j : Job) (p : Payloads) → CarryJob j p → job_from (sent_bytes p) ≡ job j
unfolding job_from sent_bytes
job-reads j p c =
    let s = number_bytes START p.start ++ (number_bytes END p.end ++ bytes_of (word_of FINISH 0)) in
    simp append_assoc
    (axes-read PLACES [] [] j.strides (number_bytes BASE p.base ++ s) c.sizes c.strides c.pairs c.few
    (kind-number BASE s (omega arith) c.base)
    ∙ range-reads j c)
