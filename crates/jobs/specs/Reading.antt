-- Rules J4 and C10: reading a job from its bytes, word by word from the left. The first faulty word ends it.
use Rattle.std.specs.Prelude.{ℕ, zero, suc, ◌+◌, ◌*◌, ◌/◌, ◌%◌, ◌^◌, cond, ◌&&◌, List, [], ◌∷◌, ◌++◌, length, drop, get_or, ltb, eqb, ℤ, pos}
use Rattle.std.specs.Prelude.{Result, Ok, Err}
use Rattle.refusals.specs.declared.Refusal.{Refusal}
use Rattle.refusals.specs.Codes as codes
use Rattle.refusals.specs.Refusals.{TOO_MANY_AXES, BAD_WORD, NUMBER_TOO_LONG}
use Rattle.layout.specs.Axes.{PLACES, padded}
use Rattle.jobs.specs.declared.reading.Job as read
use Rattle.jobs.specs.Words.{MORE, SIZE, STRIDE, BASE, START, END, FINISH, signed_of}
use Rattle.jobs.specs.Sending.{Job}

-- the word that bytes begin with; if fewer than four are left, 2^32, whose kind no word has
unfoldable pub first_word : List ℕ → ℕ
first_word bytes =
    cond (ltb (length bytes) 4) (2 ^ 32) (get_or bytes 0 0 + 2 ^ 8 * get_or bytes 1 0 + 2 ^ 16 * get_or bytes 2 0 + 2 ^ 24 * get_or bytes 3 0)

-- its kind and its payload
abbrev pub first_kind : List ℕ → ℕ
first_kind bytes = first_word bytes / 2 ^ 29

abbrev pub first_payload : List ℕ → ℕ
first_payload bytes = first_word bytes % 2 ^ 29

-- what reading a number gives: it and the bytes behind it, or the refusal of a faulty word
pub data NumberRead : Type 0 where
  number : ℕ → List ℕ → NumberRead
  faulty : ℕ → NumberRead

-- rule J4: more of the number n, if words of kind 0 come next. So many are allowed, and the next one counts `scale`
unfoldable pub further : ℕ → ℕ → ℕ → List ℕ → NumberRead
further zero scale n bytes = cond (eqb (first_kind bytes) MORE) (faulty NUMBER_TOO_LONG) (number n bytes)
further (suc allowed) scale n bytes =
    let longer = n + scale * first_payload bytes in
    cond (eqb (first_kind bytes) MORE)
    (cond (ltb longer (2 ^ 64)) (further allowed (scale * 2 ^ 29) longer (drop 4 bytes)) (faulty NUMBER_TOO_LONG))
    (number n bytes)

-- rule J4: a number of this kind
unfoldable pub number_from : ℕ → List ℕ → NumberRead
number_from kind bytes = cond (eqb (first_kind bytes) kind) (further 2 (2 ^ 29) (first_payload bytes) (drop 4 bytes)) (faulty BAD_WORD)

-- what reading a job gives: the job, or a refusal's number
pub data ReadAnswer : Type 0 where
  job : Job → ReadAnswer
  refusal : ℕ → ReadAnswer

-- reading on behind a number
unfoldable pub behind : NumberRead → (ℕ → List ℕ → ReadAnswer) → ReadAnswer
behind (number n rest) on = on n rest
behind (faulty code) on = refusal code

-- rule J4: the word of kind 6, with payload 0 and no byte behind it
unfoldable pub finish_from : Job → List ℕ → ReadAnswer
finish_from j bytes = cond (eqb (first_word bytes) (FINISH * 2 ^ 29) && eqb (length bytes) 4) (job j) (refusal BAD_WORD)

-- rule J4: what comes behind the axes
unfoldable pub range_from : List ℕ → List ℤ → List ℕ → ReadAnswer
range_from ns ss bytes =
    behind (number_from BASE bytes) (λ b bytes₁. behind (number_from START bytes₁) (λ s bytes₂. behind (number_from END bytes₂) (λ e bytes₃.
    finish_from (record { sizes = ns; strides = ss; base = signed_of b; start = s; end = e }) bytes₃)))

-- rule J4: as many axes as there are, at most so many, behind those that are read
unfoldable pub axes_from : ℕ → List ℕ → List ℤ → List ℕ → ReadAnswer
axes_from zero ns ss bytes = cond (eqb (first_kind bytes) SIZE) (refusal TOO_MANY_AXES) (range_from ns ss bytes)
axes_from (suc allowed) ns ss bytes =
    cond (eqb (first_kind bytes) SIZE)
    (behind (number_from SIZE bytes) (λ n bytes₁. behind (number_from STRIDE bytes₁) (λ s bytes₂.
    axes_from allowed (ns ++ n ∷ []) (ss ++ signed_of s ∷ []) bytes₂)))
    (range_from ns ss bytes)

unfoldable pub job_from : List ℕ → ReadAnswer
job_from bytes = axes_from PLACES [] [] bytes

-- rule C10, the record of a call: the code and the job's numbers
pub record JobRead : Type 0 where
  pub code : ℕ
  pub count : ℕ
  pub sizes : List ℕ
  pub strides : List ℤ
  pub base : ℤ
  pub start : ℕ
  pub end : ℕ

-- places past the axes are 0, and beside a refusal all of it is
unfoldable pub record_of : ReadAnswer → JobRead
record_of (job j) =
    record {
      code = 0;
      count = length j.sizes;
      sizes = padded PLACES 0 j.sizes;
      strides = padded PLACES (pos 0) j.strides;
      base = j.base;
      start = j.start;
      end = j.end;
    }
record_of (refusal code) =
    record { code = code; count = 0; sizes = padded PLACES 0 []; strides = padded PLACES (pos 0) []; base = pos 0; start = 0; end = 0 }

-- the record of what the code answers: a job has code 0, and beside a refusal all the rest is 0
abbrev pub read_told : Result read.Job Refusal → JobRead
read_told (Ok j) =
    record { code = 0; count = j.count; sizes = j.sizes; strides = j.strides; base = j.base; start = j.start; end = j.end }
read_told (Err r) =
    record { code = codes.number r; count = 0; sizes = padded PLACES 0 []; strides = padded PLACES (pos 0) []; base = pos 0; start = 0; end = 0 }

unfoldable pub read_of : List ℕ → JobRead
read_of bytes = record_of (job_from bytes)
