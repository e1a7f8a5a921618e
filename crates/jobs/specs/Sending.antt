-- Rule J3: the bytes of a job.
use Rattle.std.specs.Prelude.{ℕ, List, [], ◌∷◌, ◌++◌, map, ℤ}
use Rattle.jobs.specs.Words.{SIZE, STRIDE, BASE, START, END, FINISH, word_of, bytes_of, number_bytes, payloads_of, sent_of}

-- a job: a size and a stride for each axis, and a range over the layout
pub record Job : Type 0 where
  pub sizes : List ℕ
  pub strides : List ℤ
  pub base : ℤ
  pub start : ℕ
  pub end : ℕ

-- the payloads of each of its numbers
pub record Payloads : Type 0 where
  pub sizes : List (List ℕ)
  pub strides : List (List ℕ)
  pub base : List ℕ
  pub start : List ℕ
  pub end : List ℕ

-- rule J3: size and stride of one axis after another
unfoldable pub axes_bytes : List (List ℕ) → List (List ℕ) → List ℕ
axes_bytes [] ss = []
axes_bytes (n ∷ ns) [] = []
axes_bytes (n ∷ ns) (s ∷ ss) = number_bytes SIZE n ++ number_bytes STRIDE s ++ axes_bytes ns ss

-- rule J3: then base, start, end, and the word of kind 6
unfoldable pub sent_bytes : Payloads → List ℕ
sent_bytes p =
    axes_bytes p.sizes p.strides ++ number_bytes BASE p.base ++ number_bytes START p.start ++ number_bytes END p.end ++ bytes_of (word_of FINISH 0)

-- the fewest payloads of sizes, and of strides
abbrev pub size_payloads : List ℕ → List (List ℕ)
size_payloads ns = map payloads_of ns

abbrev pub stride_payloads : List ℤ → List (List ℕ)
stride_payloads ss = map (λ (s : ℤ). payloads_of (sent_of s)) ss

-- rule J3: a job as it is written, each number in the fewest words
unfoldable pub job_payloads : Job → Payloads
job_payloads j =
    record {
      sizes = size_payloads j.sizes;
      strides = stride_payloads j.strides;
      base = payloads_of (sent_of j.base);
      start = payloads_of j.start;
      end = payloads_of j.end;
    }

unfoldable pub job_bytes : Job → List ℕ
job_bytes j = sent_bytes (job_payloads j)
