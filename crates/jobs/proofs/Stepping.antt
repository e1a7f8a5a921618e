-- Reading on behind a number, an axis, the axes: what the record of each step says of the whole answer.
-- Assumes nothing.
use Prim.Native.Nat.{ℕ, zero, suc, ◌+◌, ◌-◌, ◌*◌, ◌^◌, ◌≤◌}
use mathlib.Core.Path.{◌≡◌, refl, sym, ◌∙◌, ap}
use mathlib.Core.Bool.{Bool, true, false, cond, ◌&&◌}
use mathlib.Core.List.{List, [], ◌∷◌, ◌++◌}
use native.Mathlib.Omega.{arith}
use lib.ListN.{length, drop, set, length-append, length-drop}
use lib.Dec.{eqb}
use lib.IntN.{ℤ, pos}
use borrow.Author.Tests.{eq-eqb, ne_eqb}
use Rattle.std.specs.Prelude.{Ok, Err}
use Rattle.refusals.specs.Refusals.{TOO_MANY_AXES, BAD_WORD}
use Rattle.refusals.specs.declared.Refusal.{Refusal}
use Rattle.refusals.specs.Codes as codes
use Rattle.layout.specs.Axes.{PLACES, padded}
use Rattle.layout.proofs.Tables.{pushed}
use Rattle.jobs.specs.declared.numbers.Number.{Number}
use Rattle.jobs.specs.Words.{SIZE, STRIDE, BASE, START, END, FINISH, signed_of}
use Rattle.jobs.specs.Sending.{Job}
use Rattle.jobs.specs.Reading.{first_word, first_kind, NumberRead, number_from, ReadAnswer, job, refusal, behind, finish_from, range_from}
use Rattle.jobs.specs.Reading.{axes_from, job_from, JobRead, record_of}
use Rattle.jobs.specs.InnerParts.{IsPayload, number_told}

-- ---- behind a number that was read
module _ (bytes rest : List ℕ) (kind : ℕ) (on : ℕ → List ℕ → ReadAnswer) where
  pub reads_on : (n : Number) → number_told bytes (Ok n) ≡ number_from kind rest → behind (number_from kind rest) on ≡ on n.value (drop n.next bytes)
  unfolding behind
  reads_on n e = ap (λ (x : NumberRead). behind x on) (sym e)

  pub stops_at : (r : Refusal) → number_told bytes (Err r) ≡ number_from kind rest → behind (number_from kind rest) on ≡ refusal (codes.number r)
  unfolding behind
  stops_at r e = ap (λ (x : NumberRead). behind x on) (sym e)

-- ---- the range
-- what is left of it behind the base, and behind the start
abbrev pub from_end : List ℕ → List ℤ → ℤ → ℕ → List ℕ → ReadAnswer
from_end ns ss b s bytes = behind (number_from END bytes) (λ e bytes₃. finish_from (record { sizes = ns; strides = ss; base = b; start = s; end = e }) bytes₃)

abbrev pub from_start : List ℕ → List ℤ → ℤ → List ℕ → ReadAnswer
from_start ns ss b bytes = behind (number_from START bytes) (λ s bytes₂. from_end ns ss b s bytes₂)

-- the job, once its end is read
abbrev pub job_at : List ℕ → List ℤ → ℤ → ℕ → ℕ → Job
job_at ns ss b s e = record { sizes = ns; strides = ss; base = b; start = s; end = e }

-- a number behind another: what comes of it, and its refusal
module _ (bytes ns : List ℕ) (ss : List ℤ) where
  pub base-read : (at : ℕ) (b : Number) → number_told bytes (Ok b) ≡ number_from BASE (drop at bytes)
      → from_start ns ss (signed_of b.value) (drop b.next bytes) ≡ range_from ns ss (drop at bytes)
  unfolding range_from
  base-read at b e = sym (reads_on bytes (drop at bytes) BASE (λ b bytes₁. from_start ns ss (signed_of b) bytes₁) b e)

  pub base-refused : (at : ℕ) (r : Refusal) → number_told bytes (Err r) ≡ number_from BASE (drop at bytes)
      → refusal (codes.number r) ≡ range_from ns ss (drop at bytes)
  unfolding range_from
  base-refused at r e = sym (stops_at bytes (drop at bytes) BASE (λ b bytes₁. from_start ns ss (signed_of b) bytes₁) r e)

  module _ (b : ℤ) (at : ℕ) where
    pub start-read : (s : Number) → number_told bytes (Ok s) ≡ number_from START (drop at bytes)
        → from_end ns ss b s.value (drop s.next bytes) ≡ from_start ns ss b (drop at bytes)
    start-read s e = sym (reads_on bytes (drop at bytes) START (λ s bytes₂. from_end ns ss b s bytes₂) s e)

    pub start-refused : (r : Refusal) → number_told bytes (Err r) ≡ number_from START (drop at bytes)
        → refusal (codes.number r) ≡ from_start ns ss b (drop at bytes)
    start-refused r e = sym (stops_at bytes (drop at bytes) START (λ s bytes₂. from_end ns ss b s bytes₂) r e)

  module _ (b : ℤ) (s at : ℕ) where
    pub end-read : (e : Number) → number_told bytes (Ok e) ≡ number_from END (drop at bytes)
        → finish_from (job_at ns ss b s e.value) (drop e.next bytes) ≡ from_end ns ss b s (drop at bytes)
    end-read e f = sym (reads_on bytes (drop at bytes) END (λ e bytes₃. finish_from (job_at ns ss b s e) bytes₃) e f)

    pub end-refused : (r : Refusal) → number_told bytes (Err r) ≡ number_from END (drop at bytes)
        → refusal (codes.number r) ≡ from_end ns ss b s (drop at bytes)
    end-refused r f = sym (stops_at bytes (drop at bytes) END (λ e bytes₃. finish_from (job_at ns ss b s e) bytes₃) r f)

-- all three
pub behind-end : (bytes ns : List ℕ) (ss : List ℤ) (at : ℕ) (b s e : Number) → number_told bytes (Ok b) ≡ number_from BASE (drop at bytes)
    → number_told bytes (Ok s) ≡ number_from START (drop b.next bytes) → number_told bytes (Ok e) ≡ number_from END (drop s.next bytes)
    → finish_from (job_at ns ss (signed_of b.value) s.value e.value) (drop e.next bytes) ≡ range_from ns ss (drop at bytes)
behind-end bytes ns ss at b s e f g h =
    end-read bytes ns ss (signed_of b.value) s.value s.next e h
    ∙ start-read bytes ns ss (signed_of b.value) b.next s g
    ∙ base-read bytes ns ss at b f

module _ (j : Job) (bytes : List ℕ) (at : ℕ) where
  -- the last word, by its two tests
  finish-by : (p q : Bool) → eqb (first_word (drop at bytes)) (FINISH * 2 ^ 29) ≡ p → eqb (length bytes - at) 4 ≡ q
      → cond (p && q) (job j) (refusal BAD_WORD) ≡ finish_from j (drop at bytes)
  unfolding finish_from
  finish-by p q f g =
      sym (ap (λ (n : ℕ). cond (eqb (first_word (drop at bytes)) (FINISH * 2 ^ 29) && eqb n 4) (job j) (refusal BAD_WORD)) (length-drop at bytes)
      ∙ ap (λ (t : Bool). cond (t && eqb (length bytes - at) 4) (job j) (refusal BAD_WORD)) f
      ∙ ap (λ (t : Bool). cond (p && t) (job j) (refusal BAD_WORD)) g)

  pub finish-other : (first_word (drop at bytes) ≡ FINISH * 2 ^ 29 → ⊥) → refusal BAD_WORD ≡ finish_from j (drop at bytes)
  finish-other k = finish-by false (eqb (length bytes - at) 4) (ne_eqb _ _ k) refl

  module _ (p : ℕ) (w : IsPayload FINISH (drop at bytes) p) where
    pub finish-filled : (p ≡ 0 → ⊥) → refusal BAD_WORD ≡ finish_from j (drop at bytes)
    finish-filled n = finish-other (λ e. n (let f = w.is in omega arith))

    last : p ≡ 0 → first_word (drop at bytes) ≡ FINISH * 2 ^ 29
    last z = let k = w.kind_is in let f = w.is in omega arith

    pub finish-more : p ≡ 0 → (length bytes - at ≡ 4 → ⊥) → refusal BAD_WORD ≡ finish_from j (drop at bytes)
    finish-more z l = finish-by true false (eq-eqb _ _ (last z)) (ne_eqb _ _ l)

    pub finishes : p ≡ 0 → length bytes - at ≡ 4 → job j ≡ finish_from j (drop at bytes)
    finishes z l = finish-by true true (eq-eqb _ _ (last z)) (eq-eqb _ _ l)

-- ---- the axes
module _ (ns : List ℕ) (ss : List ℤ) (bytes : List ℕ) where
  -- the size and the stride of one more
  abbrev pub one_axis : ℕ → ReadAnswer
  one_axis allowed =
      behind (number_from SIZE bytes) (λ n bytes₁. behind (number_from STRIDE bytes₁) (λ s bytes₂.
      axes_from allowed (ns ++ n ∷ []) (ss ++ signed_of s ∷ []) bytes₂))

  axes-full : first_kind bytes ≡ SIZE → axes_from 0 ns ss bytes ≡ refusal TOO_MANY_AXES
  unfolding axes_from
  axes-full k = ap (λ (t : Bool). cond t (refusal TOO_MANY_AXES) (range_from ns ss bytes)) (eq-eqb (first_kind bytes) SIZE k)

  axes-more : (allowed : ℕ) → first_kind bytes ≡ SIZE → axes_from (suc allowed) ns ss bytes ≡ one_axis allowed
  unfolding axes_from
  axes-more allowed k = ap (λ (t : Bool). cond t (one_axis allowed) (range_from ns ss bytes)) (eq-eqb (first_kind bytes) SIZE k)

  axes-done : (allowed : ℕ) → (first_kind bytes ≡ SIZE → ⊥) → axes_from allowed ns ss bytes ≡ range_from ns ss bytes
  unfolding axes_from
  axes-done zero k = ap (λ (t : Bool). cond t (refusal TOO_MANY_AXES) (range_from ns ss bytes)) (ne_eqb (first_kind bytes) SIZE k)
  axes-done (suc allowed) k = ap (λ (t : Bool). cond t (one_axis allowed) (range_from ns ss bytes)) (ne_eqb (first_kind bytes) SIZE k)

-- the tables hold the axes that are read, and reading on from here gives the whole answer
pub record AxesRead (bytes sizes : List ℕ) (strides : List ℤ) (count at : ℕ) : Type 0 where
  pub ns : List ℕ
  pub ss : List ℤ
  pub size_count : length ns ≡ count
  pub stride_count : length ss ≡ count
  pub few : count ≤ PLACES
  pub inside : at ≤ length bytes
  pub sizes_are : sizes ≡ padded PLACES 0 ns
  pub strides_are : strides ≡ padded PLACES (pos 0) ss
  pub answer : axes_from (PLACES - count) ns ss (drop at bytes) ≡ job_from bytes

pub no-axes : (bytes : List ℕ) → AxesRead bytes (padded PLACES 0 []) (padded PLACES (pos 0) []) 0 0
unfolding job_from
no-axes bytes =
    record {
      ns = [];
      ss = [];
      size_count = refl;
      stride_count = refl;
      few = omega arith;
      inside = omega arith;
      sizes_are = refl;
      strides_are = refl;
      answer = refl;
    }

module _ (bytes sizes : List ℕ) (strides : List ℤ) (count at : ℕ) (q : AxesRead bytes sizes strides count at) where
  pub axes-answer-full : first_kind (drop at bytes) ≡ SIZE → count ≡ PLACES → refusal TOO_MANY_AXES ≡ job_from bytes
  axes-answer-full k full =
      let z : 0 ≡ PLACES - count = omega arith in
      sym (axes-full q.ns q.ss (drop at bytes) k) ∙ ap (λ (n : ℕ). axes_from n q.ns q.ss (drop at bytes)) z ∙ q.answer

  pub axes-answer-done : (first_kind (drop at bytes) ≡ SIZE → ⊥) → range_from q.ns q.ss (drop at bytes) ≡ job_from bytes
  axes-answer-done k = sym (axes-done q.ns q.ss (drop at bytes) (PLACES - count) k) ∙ q.answer

  module _ (k : first_kind (drop at bytes) ≡ SIZE) (room : (count ≡ PLACES → ⊥)) where
    -- reading on behind a stride, and behind a size
    abbrev behind_stride : ℕ → ℕ → List ℕ → ReadAnswer
    behind_stride n s rest = axes_from (PLACES - (count + 1)) (q.ns ++ n ∷ []) (q.ss ++ signed_of s ∷ []) rest

    abbrev behind_size : ℕ → List ℕ → ReadAnswer
    behind_size n rest = behind (number_from STRIDE rest) (behind_stride n)

    one_more : behind (number_from SIZE (drop at bytes)) behind_size ≡ job_from bytes
    one_more =
        let z : suc (PLACES - (count + 1)) ≡ PLACES - count = omega (arith, q.few) in
        sym (axes-more q.ns q.ss (drop at bytes) (PLACES - (count + 1)) k)
        ∙ ap (λ (n : ℕ). axes_from n q.ns q.ss (drop at bytes)) z
        ∙ q.answer

    pub size-refused : (r : Refusal) → number_told bytes (Err r) ≡ number_from SIZE (drop at bytes) → refusal (codes.number r) ≡ job_from bytes
    size-refused r e = sym (stops_at bytes (drop at bytes) SIZE behind_size r e) ∙ one_more

    module _ (n : Number) (e : number_told bytes (Ok n) ≡ number_from SIZE (drop at bytes)) where
      size-read : behind_size n.value (drop n.next bytes) ≡ job_from bytes
      size-read = sym (reads_on bytes (drop at bytes) SIZE behind_size n e) ∙ one_more

      pub stride-refused : (r : Refusal) → number_told bytes (Err r) ≡ number_from STRIDE (drop n.next bytes) → refusal (codes.number r) ≡ job_from bytes
      stride-refused r f = sym (stops_at bytes (drop n.next bytes) STRIDE (behind_stride n.value) r f) ∙ size-read

      pub axis-read : (s : Number) → number_told bytes (Ok s) ≡ number_from STRIDE (drop n.next bytes) → s.next ≤ length bytes
          → AxesRead bytes (set sizes count n.value) (set strides count (signed_of s.value)) (count + 1) s.next
      axis-read s f h =
          record {
            ns = q.ns ++ n.value ∷ [];
            ss = q.ss ++ signed_of s.value ∷ [];
            size_count = simp length-append (omega (arith, q.size_count));
            stride_count = simp length-append (omega (arith, q.stride_count));
            few = omega (arith, q.few);
            inside = h;
            sizes_are =
                ap (λ (l : List ℕ). set l count n.value) q.sizes_are
                ∙ ap (λ (i : ℕ). set (padded PLACES 0 q.ns) i n.value) (sym q.size_count)
                ∙ pushed PLACES 0 q.ns n.value (omega (arith, q.few, q.size_count));
            strides_are =
                ap (λ (l : List ℤ). set l count (signed_of s.value)) q.strides_are
                ∙ ap (λ (i : ℕ). set (padded PLACES (pos 0) q.ss) i (signed_of s.value)) (sym q.stride_count)
                ∙ pushed PLACES (pos 0) q.ss (signed_of s.value) (omega (arith, q.few, q.stride_count));
            answer = sym (reads_on bytes (drop n.next bytes) STRIDE (behind_stride n.value) s f) ∙ size-read;
          }

  -- the record of a job with these axes
  pub axes-record : (b : ℤ) (s e : ℕ)
      → ◌≡◌ {A = JobRead} (record { code = 0; count = count; sizes = sizes; strides = strides; base = b; start = s; end = e })
      (record_of (job (record { sizes = q.ns; strides = q.ss; base = b; start = s; end = e })))
  unfolding record_of
  axes-record b s e =
      ap (λ (n : ℕ). record { code = 0; count = n; sizes = sizes; strides = strides; base = b; start = s; end = e }) (sym q.size_count)
      ∙ ap (λ (l : List ℕ). record { code = 0; count = length q.ns; sizes = l; strides = strides; base = b; start = s; end = e }) q.sizes_are
      ∙ ap (λ (l : List ℤ). record { code = 0; count = length q.ns; sizes = padded PLACES 0 q.ns; strides = l; base = b; start = s; end = e })
      q.strides_are
