-- Axes and jobs laid into a buffer.
-- Assumes nothing.
use Prim.Native.Nat.{ℕ, ◌+◌, ◌*◌, ◌≤◌, ◌<◌}
use mathlib.Core.Path.{◌≡◌, refl, sym, ◌∙◌, ap}
use mathlib.Core.List.{List, [], ◌∷◌, ◌++◌}
use native.Mathlib.Omega.{arith}
use native.Mathlib.Nat.{zero-add}
use native.Mathlib.Numerals.{add-one}
use lib.ListN.{length, drop, get_or, length-append, drop_of_length-le}
use lib.Seq.{sets, length-sets, drop-cons}
use lib.IntN.{ℤ, pos}
use Rattle.jobs.specs.Words.{SIZE, STRIDE, BASE, START, END, FINISH, word_of, bytes_of, number_bytes, payloads_of, sent_of}
use Rattle.jobs.specs.Sending.{Job, axes_bytes, size_payloads, stride_payloads, job_payloads, sent_bytes, job_bytes}
use Rattle.jobs.proofs.Laying.{sets-append, length-number, few-payloads}

-- ---- the axes from the i-th on
abbrev pub axes_left : List ℕ → List ℤ → ℕ → List ℕ
axes_left ns ss i = axes_bytes (size_payloads (drop i ns)) (stride_payloads (drop i ss))

-- the numbers of the i-th
abbrev pub size_bytes : List ℕ → ℕ → List ℕ
size_bytes ns i = number_bytes SIZE (payloads_of (get_or ns i 0))

abbrev pub stride_bytes : List ℤ → ℕ → List ℕ
stride_bytes ss i = number_bytes STRIDE (payloads_of (sent_of (get_or ss i (pos 0))))

module _ (ns : List ℕ) (ss : List ℤ) (pairs : length ns ≡ length ss) (i : ℕ) where
  pub axes-split : i < length ns → axes_left ns ss i ≡ size_bytes ns i ++ stride_bytes ss i ++ axes_left ns ss (i + 1)
  unfolding axes_bytes
  axes-split h =
      ap (λ (l : List ℕ). axes_bytes (size_payloads l) (stride_payloads (drop i ss)))
      (drop-cons ns i 0 h ∙ ap (λ (k : ℕ). get_or ns i 0 ∷ drop k ns) (sym (add-one i)))
      ∙ ap (λ (l : List ℤ). axes_bytes (size_payloads (get_or ns i 0 ∷ drop (i + 1) ns)) (stride_payloads l))
      (drop-cons ss i (pos 0) (omega arith) ∙ ap (λ (k : ℕ). get_or ss i (pos 0) ∷ drop k ss) (sym (add-one i)))

  pub axes-over : length ns ≤ i → axes_left ns ss i ≡ []
  unfolding axes_bytes
  axes-over h = ap (λ (l : List ℕ). axes_bytes (size_payloads l) (stride_payloads (drop i ss))) (drop_of_length-le ns h)

  pub split-lengths : i < length ns
      → length (axes_left ns ss i) ≡ length (size_bytes ns i) + length (stride_bytes ss i) + length (axes_left ns ss (i + 1))
  split-lengths h = ap length (axes-split h) ∙ simp length-append

  -- a loop that counts the bytes of one more
  pub axes-counted : i < length ns → (total a b all : ℕ) → total ≤ 24 * i → total + length (axes_left ns ss i) ≡ all
      → a ≡ 4 * length (payloads_of (get_or ns i 0)) → b ≡ 4 * length (payloads_of (sent_of (get_or ss i (pos 0))))
      → (total + (a + b) ≤ 24 * (i + 1)) × (total + (a + b) + length (axes_left ns ss (i + 1)) ≡ all)
  axes-counted h total a b all l e f g =
      let s = split-lengths h in
      let m = length-number SIZE (payloads_of (get_or ns i 0)) in
      let n = length-number STRIDE (payloads_of (sent_of (get_or ss i (pos 0)))) in
      let u = few-payloads 2 (get_or ns i 0) in
      let v = few-payloads 2 (sent_of (get_or ss i (pos 0))) in
      (omega arith, omega arith)

-- ---- what is laid behind what was laid
pub lay-two : (out : List ℕ) (at : ℕ) (a b c : List ℕ)
    → sets (sets (sets out at a) (at + length a) b) (at + length a + length b) c ≡ sets out at (a ++ b ++ c)
lay-two out at a b c =
    let e : at + length (a ++ b) ≡ at + length a + length b = simp length-append (omega arith) in
    sym (sets-append out at (a ++ b) c
    ∙ ap (λ (i : ℕ). sets (sets out at (a ++ b)) i c) e
    ∙ ap (λ (o : List ℕ). sets o (at + length a + length b) c) (sets-append out at a b))

-- a loop that lays the bytes of one more axis
pub axes-laid : (ns : List ℕ) (ss : List ℤ) → length ns ≡ length ss → (i : ℕ) → i < length ns → (out r t : List ℕ) (at next end : ℕ)
    → next ≡ at + length (size_bytes ns i) → r ≡ sets out at (size_bytes ns i)
    → end ≡ next + length (stride_bytes ss i) → t ≡ sets r next (stride_bytes ss i)
    → (end + length (axes_left ns ss (i + 1)) ≡ at + length (axes_left ns ss i))
    × (sets t end (axes_left ns ss (i + 1)) ≡ sets out at (axes_left ns ss i))
axes-laid ns ss pairs i h out r t at next end e f g k =
    let a = size_bytes ns i in
    let b = stride_bytes ss i in
    let rest = axes_left ns ss (i + 1) in
    let n = g ∙ ap (λ (m : ℕ). m + length b) e in
    let o = k ∙ ap (λ (l : List ℕ). sets l next b) f ∙ ap (λ (m : ℕ). sets (sets out at a) m b) e in (
      omega (arith, n, split-lengths ns ss pairs i h),
      ap (λ (l : List ℕ). sets l end rest) o
          ∙ ap (λ (m : ℕ). sets (sets (sets out at a) (at + length a) b) m rest) n
          ∙ lay-two out at a b rest
          ∙ ap (λ (l : List ℕ). sets out at l) (sym (axes-split ns ss pairs i h)),
    )

-- the buffer r is `out` with these bytes at its front, and `at` is the place behind them
pub record Laid (out bytes r : List ℕ) (at : ℕ) : Type 0 where
  pub holds : r ≡ sets out 0 bytes
  pub place : at ≡ length bytes

pub laid-length : (out bytes r : List ℕ) (at : ℕ) → Laid out bytes r at → length r ≡ length out
laid-length out bytes r at l = ap length l.holds ∙ length-sets out 0 bytes

-- there is room for n bytes behind them
pub laid-room : (out bytes r : List ℕ) (at : ℕ) → Laid out bytes r at → (n : ℕ) → length bytes + n ≤ length out → at + n ≤ length r
laid-room out bytes r at l n h = omega (arith, laid-length out bytes r at l, l.place)

pub laid_more : (out bytes r : List ℕ) (at : ℕ) → Laid out bytes r at → (more t : List ℕ) (next : ℕ) → next ≡ at + length more → t ≡ sets r at more
    → Laid out (bytes ++ more) t next
laid_more out bytes r at l more t next e f =
    record {
      holds =
          f
          ∙ ap (λ (o : List ℕ). sets o at more) l.holds
          ∙ ap (λ (i : ℕ). sets (sets out 0 bytes) i more) (l.place ∙ sym (zero-add (length bytes)))
          ∙ sym (sets-append out 0 bytes more);
      place = e ∙ ap (λ (n : ℕ). n + length more) l.place ∙ sym (length-append bytes more);
    }

-- ---- the whole job, and its parts
pub job-length : (j : Job) → length (job_bytes j)
    ≡ length (axes_bytes (size_payloads j.sizes) (stride_payloads j.strides)) + 4 * length (payloads_of (sent_of j.base))
    + 4 * length (payloads_of j.start) + 4 * length (payloads_of j.end) + 4
unfolding job_bytes job_payloads sent_bytes bytes_of
job-length j = simp (length-append, length-number)

abbrev pub axes_of : Job → List ℕ
axes_of j = axes_bytes (size_payloads j.sizes) (stride_payloads j.strides)

abbrev pub base_of : Job → List ℕ
base_of j = number_bytes BASE (payloads_of (sent_of j.base))

abbrev pub start_of : Job → List ℕ
start_of j = number_bytes START (payloads_of j.start)

abbrev pub end_of : Job → List ℕ
end_of j = number_bytes END (payloads_of j.end)

module _ (j : Job) (out : List ℕ) (h : length (job_bytes j) ≤ length out) where
  all-room : length (axes_of j) + length (base_of j) + length (start_of j) + length (end_of j) + 4 ≤ length out
  all-room =
      let b = length-number BASE (payloads_of (sent_of j.base)) in
      let t = length-number START (payloads_of j.start) in
      let e = length-number END (payloads_of j.end) in
      omega (arith, job-length j)

  pub axes-fit : length (axes_of j) ≤ length out
  axes-fit = omega (arith, all-room)

  pub base-room : (r : List ℕ) (at : ℕ) → Laid out (axes_of j) r at → at + length (base_of j) ≤ length r
  base-room r at l = laid-room out (axes_of j) r at l _ (omega (arith, all-room))

  pub start-room : (r : List ℕ) (at : ℕ) → Laid out (axes_of j ++ base_of j) r at → at + length (start_of j) ≤ length r
  start-room r at l = laid-room out _ r at l _ (omega (arith, all-room, length-append (axes_of j) (base_of j)))

  pub end-room : (r : List ℕ) (at : ℕ) → Laid out (axes_of j ++ base_of j ++ start_of j) r at → at + length (end_of j) ≤ length r
  end-room r at l =
      laid-room out _ r at l _ (omega (arith, all-room, length-append (axes_of j) (base_of j), length-append (axes_of j ++ base_of j) (start_of j)))

  pub finish-room : (r : List ℕ) (at : ℕ) → Laid out (axes_of j ++ base_of j ++ start_of j ++ end_of j) r at → at + 4 ≤ length r
  finish-room r at l =
      laid-room out _ r at l _
      (omega (
        arith,
        all-room,
        length-append (axes_of j) (base_of j),
        length-append (axes_of j ++ base_of j) (start_of j),
        length-append (axes_of j ++ base_of j ++ start_of j) (end_of j),
      ))

  pub job-laid : (r t : List ℕ) (at : ℕ) → Laid out (axes_of j ++ base_of j ++ start_of j ++ end_of j) r at → t ≡ sets r at (bytes_of (word_of FINISH 0))
      → t ≡ sets out 0 (job_bytes j)
  unfolding job_bytes sent_bytes job_payloads
  job-laid r t at l e = (laid_more out _ r at l (bytes_of (word_of FINISH 0)) t _ refl e).holds
