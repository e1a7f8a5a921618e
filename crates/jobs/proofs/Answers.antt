-- What the writer answers, by the first refusal whose condition holds.
-- Assumes nothing.
use Prim.Native.Nat.{ℕ, ◌≤◌, ◌<◌}
use mathlib.Core.Path.{◌≡◌, refl, sym, ◌∙◌, ap}
use mathlib.Core.Bool.{Bool, true, false, cond, not}
use mathlib.Core.List.{List, [], ◌∷◌}
use lib.ListN.{length}
use lib.Seq.{sets}
use lib.Dec.{eqb, ltb}
use borrow.Author.Tests.{lt-ltb, le-ltb, eq-eqb, ne_eqb, eqb-false}
use Rattle.refusals.specs.Refusals.{first_of, STRIDE_LENGTH_MISMATCH, TOO_MANY_AXES, JOB_BUFFER_TOO_SHORT}
use Rattle.refusals.proofs.Buffers.{buffer-kept, buffer-set}
use Rattle.layout.specs.Axes.{PLACES}
use Rattle.jobs.specs.Sending.{Job, job_bytes}
use Rattle.jobs.specs.Writing.{JobWritten, write_refusals, write_of, write_buffer}

-- a call's answer r, and its buffer o after it
abbrev pub Written : Job → List ℕ → JobWritten → List ℕ → Type 0
Written j out r o = (r ≡ write_of j (length out)) × (o ≡ write_buffer j out)

module _ (j : Job) (out : List ℕ) where
  code : ℕ
  code = first_of (write_refusals j (length out))

  -- the code by its three tests
  code_by : (p q t : Bool) → eqb (length j.sizes) (length j.strides) ≡ p → ltb PLACES (length j.sizes) ≡ q
      → ltb (length out) (length (job_bytes j)) ≡ t
      → code ≡ first_of ((STRIDE_LENGTH_MISMATCH, not p) ∷ (TOO_MANY_AXES, q) ∷ (JOB_BUFFER_TOO_SHORT, t) ∷ [])
  unfolding code write_refusals
  code_by p q t e f g =
      ap (λ (b : Bool). first_of ((STRIDE_LENGTH_MISMATCH, not b) ∷ (TOO_MANY_AXES, ltb PLACES (length j.sizes))
      ∷ (JOB_BUFFER_TOO_SHORT, ltb (length out) (length (job_bytes j))) ∷ [])) e
      ∙ ap (λ (b : Bool). first_of ((STRIDE_LENGTH_MISMATCH, not p) ∷ (TOO_MANY_AXES, b)
      ∷ (JOB_BUFFER_TOO_SHORT, ltb (length out) (length (job_bytes j))) ∷ [])) f
      ∙ ap (λ (b : Bool). first_of ((STRIDE_LENGTH_MISMATCH, not p) ∷ (TOO_MANY_AXES, q) ∷ (JOB_BUFFER_TOO_SHORT, b) ∷ [])) g

  refused-by : (k : ℕ) → eqb k 0 ≡ false → code ≡ k → Written j out (record { code = k; count = 0 }) out
  unfolding code write_of write_buffer
  refused-by k z e = (
    sym (ap (λ (c : ℕ). record { code = c; count = cond (eqb c 0) (length (job_bytes j)) 0 }) e
        ∙ ap (λ (b : Bool). record { code = k; count = cond b (length (job_bytes j)) 0 }) z),
    buffer-kept code (job_bytes j) out (λ q. eqb-false k 0 z (sym e ∙ q)),
  )

  pub mismatched : (length j.sizes ≡ length j.strides → ⊥) → Written j out (record { code = STRIDE_LENGTH_MISMATCH; count = 0 }) out
  unfolding first_of
  mismatched h =
      refused-by STRIDE_LENGTH_MISMATCH refl
      (code_by false (ltb PLACES (length j.sizes)) (ltb (length out) (length (job_bytes j))) (ne_eqb _ _ h) refl refl)

  module _ (pairs : length j.sizes ≡ length j.strides) where
    pub too_many : PLACES < length j.sizes → Written j out (record { code = TOO_MANY_AXES; count = 0 }) out
    unfolding first_of
    too_many h = refused-by TOO_MANY_AXES refl (code_by true true (ltb (length out) (length (job_bytes j))) (eq-eqb _ _ pairs) (lt-ltb _ _ h) refl)

    module _ (few : length j.sizes ≤ PLACES) where
      pub too_short : length out < length (job_bytes j) → Written j out (record { code = JOB_BUFFER_TOO_SHORT; count = 0 }) out
      unfolding first_of
      too_short h = refused-by JOB_BUFFER_TOO_SHORT refl (code_by true false true (eq-eqb _ _ pairs) (le-ltb _ _ few) (lt-ltb _ _ h))

      pub accepted : length (job_bytes j) ≤ length out → (n : ℕ) → n ≡ length (job_bytes j) → (o : List ℕ) → o ≡ sets out 0 (job_bytes j)
          → Written j out (record { code = 0; count = n }) o
      unfolding first_of code write_of write_buffer
      accepted h n f o g =
          let e = code_by true false false (eq-eqb _ _ pairs) (le-ltb _ _ few) (le-ltb _ _ h) in (
            ap (λ (m : ℕ). record { code = 0; count = m }) f
                ∙ sym (ap (λ (c : ℕ). record { code = c; count = cond (eqb c 0) (length (job_bytes j)) 0 }) e),
            g ∙ buffer-set code (job_bytes j) out e h,
          )
