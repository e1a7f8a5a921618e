-- Accepted bytes are an encoding of the job that they give, and others get a refusal of rule J4.
-- Assumes nothing.
use Prim.Native.Nat.{ℕ, zero, suc, ◌+◌, ◌*◌, ◌^◌, ◌≤◌, ◌<◌}
use mathlib.Core.Path.{◌≡◌, refl, sym, ◌∙◌, ap}
use mathlib.Core.Bool.{true, ◌&&◌, and-eq-true_iff}
use mathlib.Core.List.{List, [], ◌∷◌, ◌++◌, append_assoc, append-nil, map, map-append}
use mathlib.Core.Logic.{inl, inr}
use native.Mathlib.Omega.{arith}
use lib.ListN.{length, length-append, length-map, drop_of_length-le}
use lib.Dec.{eqb}
use lib.IntN.{ℤ}
use borrow.Author.Tests.{eqb-true}
use Rattle.laws.specs.Lists.{Each}
use Rattle.layout.specs.Axes.{PLACES}
use Rattle.jobs.specs.Words.{SIZE, STRIDE, BASE, START, END, FINISH, word_of, bytes_of, number_bytes, sent_of, signed_of}
use Rattle.jobs.specs.Sending.{Payloads, axes_bytes, sent_bytes}
use Rattle.jobs.specs.Reading.{NumberRead, number, faulty, first_word, first_kind, number_from}
use Rattle.jobs.specs.Reading.{ReadAnswer, job, refusal, behind, finish_from, range_from, axes_from, job_from}
use Rattle.jobs.specs.Theorems.{Carry, CarryAll, none, more, CarryJob}
use Rattle.laws.proofs.Tests.{by-test}
use Rattle.jobs.proofs.Signs.{sent-signed}
use Rattle.jobs.proofs.Grammar.{Byte, word-in-front}
use Rattle.jobs.proofs.Carrying.{ReadRefusal, Carries, NumberEncoded, number-encoded}

-- ---- axes, one behind others
length-carried : {ns : List ℕ} {ps : List (List ℕ)} → CarryAll ns ps → length ns ≡ length ps
length-carried none = refl
length-carried (more c e) = ap suc (length-carried e)

carried-more : {ns : List ℕ} {ps : List (List ℕ)} {n : ℕ} {p : List ℕ} → CarryAll ns ps → Carry n p → CarryAll (ns ++ n ∷ []) (ps ++ p ∷ [])
carried-more none d = more d none
carried-more (more c e) d = more c (carried-more e d)

axes-snoc : (ps qs : List (List ℕ)) (p q : List ℕ) → length ps ≡ length qs
    → axes_bytes (ps ++ p ∷ []) (qs ++ q ∷ []) ≡ axes_bytes ps qs ++ (number_bytes SIZE p ++ number_bytes STRIDE q)
unfolding axes_bytes
axes-snoc [] [] p q h = append-nil (number_bytes SIZE p ++ number_bytes STRIDE q)
axes-snoc [] (y ∷ qs) p q h = absurd (omega arith)
axes-snoc (x ∷ ps) [] p q h = absurd (omega arith)
axes-snoc (x ∷ ps) (y ∷ qs) p q h = rw (axes-snoc ps qs p q (omega arith)) (simp append_assoc)

-- ---- the last word
finish-bytes : {bytes : List ℕ} → Each Byte bytes → (eqb (first_word bytes) (FINISH * 2 ^ 29) && eqb (length bytes) 4) ≡ true
    → bytes ≡ bytes_of (word_of FINISH 0)
unfolding bytes_of word_of
finish-bytes {bytes} e t =
    let both = (and-eq-true_iff (eqb (first_word bytes) (FINISH * 2 ^ 29)) (eqb (length bytes) 4)).0 t in
    let w = eqb-true (first_word bytes) (FINISH * 2 ^ 29) both.0 in
    let l = eqb-true (length bytes) 4 both.1 in
    let d = drop_of_length-le bytes {i = 4} (omega arith) in
    word-in-front e (omega arith) ∙ rw (w, d)

-- ---- what reading tells of all the bytes
abbrev pub JobEncoded : List ℕ → ReadAnswer → Type 0
JobEncoded whole (job j) = (p : Payloads) × CarryJob j p × (whole ≡ sent_bytes p)
JobEncoded whole (refusal code) = ReadRefusal code

-- the axes that are read, in front of the bytes that are not
record AxesEncoded (whole : List ℕ) (ns : List ℕ) (ss : List ℤ) (bytes : List ℕ) : Type 0 where
  pairs : length ns ≡ length ss
  sizes : List (List ℕ)
  strides : List (List ℕ)
  carry_sizes : CarryAll ns sizes
  carry_strides : CarryAll (map sent_of ss) strides
  written : whole ≡ axes_bytes sizes strides ++ bytes
  bytes_left : Each Byte bytes

module _ (whole : List ℕ) where
  -- behind a number
  behind-encoded : (kind : ℕ) {bytes : List ℕ} → kind < 8 → Each Byte bytes → (on : ℕ → List ℕ → ReadAnswer)
      → ((n : ℕ) (rest : List ℕ) → Carries kind bytes n rest → JobEncoded whole (on n rest)) → JobEncoded whole (behind (number_from kind bytes) on)
  unfolding behind
  behind-encoded kind {bytes} k e on f = go (number_from kind bytes) (number-encoded kind k e)
    where
      go : (r : NumberRead) → NumberEncoded kind bytes r → JobEncoded whole (behind r on)
      go (number n rest) c = f n rest c
      go (faulty code) c = c

  -- one axis more
  axis-read : {ns : List ℕ} {ss : List ℤ} {bytes : List ℕ} {n s : ℕ} {bytes₁ bytes₂ : List ℕ} → AxesEncoded whole ns ss bytes → Carries SIZE bytes n bytes₁
      → Carries STRIDE bytes₁ s bytes₂ → AxesEncoded whole (ns ++ n ∷ []) (ss ++ signed_of s ∷ []) bytes₂
  axis-read {ss} {s} a c d =
      record {
        pairs = simp length-append (omega arith);
        sizes = a.sizes ++ c.ps ∷ [];
        strides = a.strides ++ d.ps ∷ [];
        carry_sizes = carried-more a.carry_sizes c.carry;
        carry_strides = rw (map-append sent_of ss (signed_of s ∷ []), sent-signed s) (carried-more a.carry_strides d.carry);
        written =
            a.written
            ∙ ap (λ (l : List ℕ). axes_bytes a.sizes a.strides ++ l) (c.written ∙ ap (λ (l : List ℕ). number_bytes SIZE c.ps ++ l) d.written)
            ∙ rw (axes-snoc a.sizes a.strides c.ps d.ps same) (simp append_assoc);
        bytes_left = d.bytes_left;
      }
    where
      same : length a.sizes ≡ length a.strides
      same = sym (length-carried a.carry_sizes) ∙ a.pairs ∙ sym (length-map ss sent_of) ∙ length-carried a.carry_strides

  -- what comes behind the axes
  range-encoded : {ns : List ℕ} {ss : List ℤ} {bytes : List ℕ} → length ns ≤ PLACES → AxesEncoded whole ns ss bytes → JobEncoded whole (range_from ns ss bytes)
  unfolding range_from finish_from sent_bytes
  range-encoded h a =
      behind-encoded BASE (omega arith) a.bytes_left _ λ b bytes₁ cb. behind-encoded START (omega arith) cb.bytes_left _ λ s bytes₂ cs.
      behind-encoded END (omega arith) cs.bytes_left _ λ e bytes₃ ce.
      by-test (JobEncoded whole) (eqb (first_word bytes₃) (FINISH * 2 ^ 29) && eqb (length bytes₃) 4)
      (λ t. (
        record { sizes = a.sizes; strides = a.strides; base = cb.ps; start = cs.ps; end = ce.ps },
        record {
          pairs = a.pairs;
          few = h;
          sizes = a.carry_sizes;
          strides = a.carry_strides;
          base = rw (sent-signed b) cb.carry;
          start = cs.carry;
          end = ce.carry;
        },
        a.written
            ∙ ap (λ (l : List ℕ). axes_bytes a.sizes a.strides ++ l)
            (cb.written ∙ ap (λ (l : List ℕ). number_bytes BASE cb.ps ++ l)
            (cs.written ∙ ap (λ (l : List ℕ). number_bytes START cs.ps ++ l)
            (ce.written ∙ ap (λ (l : List ℕ). number_bytes END ce.ps ++ l) (finish-bytes ce.bytes_left t))))
            ∙ simp append_assoc,
      ))
      (λ t. inr (inl refl))

  axes-encoded : (allowed : ℕ) {ns : List ℕ} {ss : List ℤ} {bytes : List ℕ} → length ns + allowed ≤ PLACES → AxesEncoded whole ns ss bytes
      → JobEncoded whole (axes_from allowed ns ss bytes)
  unfolding axes_from
  axes-encoded zero {bytes} h a = by-test (JobEncoded whole) (eqb (first_kind bytes) SIZE) (λ t. inl refl) (λ t. range-encoded (omega arith) a)
  axes-encoded (suc allowed) {bytes} h a =
      by-test (JobEncoded whole) (eqb (first_kind bytes) SIZE)
      (λ t. behind-encoded SIZE (omega arith) a.bytes_left _ λ n bytes₁ c. behind-encoded STRIDE (omega arith) c.bytes_left _ λ s bytes₂ d.
      axes-encoded allowed (simp length-append (omega arith)) (axis-read a c d))
      (λ t. range-encoded (omega arith) a)

pub job-encoded : {bytes : List ℕ} → Each Byte bytes → JobEncoded bytes (job_from bytes)
unfolding job_from axes_bytes
job-encoded {bytes} e =
    axes-encoded bytes PLACES (omega arith)
    (record { pairs = refl; sizes = []; strides = []; carry_sizes = none; carry_strides = none; written = refl; bytes_left = e })
