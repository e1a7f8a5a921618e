-- Inner: what the steps of the reader tell, and what those of the writer are given.
use Rattle.std.specs.Prelude.{ℕ, ◌^◌, ◌≡◌, ◌≤◌, List, length, drop, ℤ, Option, Some, None, Result, Ok, Err}
use Rattle.refusals.specs.declared.Refusal.{Refusal}
use Rattle.refusals.specs.Codes as codes
use Rattle.jobs.specs.declared.words.Kind.{Kind}
use Rattle.jobs.specs.declared.words.Kind.TheVariants as kinds
use Rattle.jobs.specs.declared.numbers.Number.{Number}
use Rattle.jobs.specs.declared.reading.Range.{Range}
use Rattle.jobs.specs.declared.writing.ToWrite.{ToWrite}
use Rattle.jobs.specs.Words.{MORE, SIZE, STRIDE, BASE, START, END, FINISH}
use Rattle.jobs.specs.Sending.{Job}
use Rattle.jobs.specs.Reading.{first_kind, first_payload, NumberRead, number, faulty, ReadAnswer, job, refusal}

-- the number of each kind of the code
abbrev pub kind_of : Kind → ℕ
kind_of kinds.More = MORE
kind_of kinds.Size = SIZE
kind_of kinds.Stride = STRIDE
kind_of kinds.Base = BASE
kind_of kinds.Start = START
kind_of kinds.End = END
kind_of kinds.Finish = FINISH
kind_of kinds.Unused = 7

-- the job that the writer is given
abbrev pub job_of : ToWrite → Job
job_of j = record { sizes = j.sizes.now; strides = j.strides.now; base = j.base; start = j.start; end = j.end }

-- a word; without one, 2^32 as in `first_word`
abbrev pub word_told : Option ℕ → ℕ
word_told (Some w) = w
word_told None = 2 ^ 32

-- p is the payload of the word that bytes begin with, which is of this kind
pub record IsPayload (kind : ℕ) (bytes : List ℕ) (p : ℕ) : Type 0 where
  pub kind_is : first_kind bytes ≡ kind
  pub is : p ≡ first_payload bytes
  pub whole : 4 ≤ length bytes

-- a number, and the bytes from the place behind it on
abbrev pub number_told : List ℕ → Result Number Refusal → NumberRead
number_told bytes (Ok n) = number n.value (drop n.next bytes)
number_told bytes (Err r) = faulty (codes.number r)

-- a range, over the layout of these axes
abbrev pub range_told : List ℕ → List ℤ → Result Range Refusal → ReadAnswer
range_told ns ss (Ok r) = job (record { sizes = ns; strides = ss; base = r.base; start = r.start; end = r.end })
range_told ns ss (Err r) = refusal (codes.number r)
