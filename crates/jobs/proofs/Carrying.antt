-- Numbers and their words, both ways.
-- Assumes nothing.
use Prim.Native.Nat.{ℕ, zero, suc, ◌+◌, ◌*◌, ◌^◌, ◌≤◌, ◌<◌}
use mathlib.Core.Path.{◌≡◌, refl, sym, ◌∙◌, ap}
use mathlib.Core.Bool.{false}
use mathlib.Core.List.{List, [], ◌∷◌, ◌++◌, append_assoc}
use mathlib.Core.Logic.{◌⊎◌, inl, inr}
use native.Mathlib.Omega.{arith}
use lib.ListN.{length, drop}
use lib.Dec.{ltb, eqb}
use borrow.Author.Tests.{lt-ltb, ltb-true, eq-eqb, ne_eqb, eqb-true}
use Rattle.laws.specs.Lists.{Each, none, more}
use Rattle.refusals.specs.Refusals.{TOO_MANY_AXES, BAD_WORD, NUMBER_TOO_LONG}
use Rattle.jobs.specs.Words.{MORE, word_of, bytes_of, carried, number_bytes}
use Rattle.jobs.specs.Reading.{first_kind, first_payload, NumberRead, number, faulty, further, number_from}
use Rattle.jobs.specs.Theorems.{Carry}
use Rattle.laws.proofs.Tests.{by-test}
use Rattle.jobs.proofs.Grammar.{Byte, Payload, kind-word, payload-word, behind-word, each-behind, word-of-kind}

-- ---- reading what was written
further-reads : (allowed scale n : ℕ) {ps : List ℕ} (rest : List ℕ) → Each Payload ps → length ps ≤ allowed → n + scale * carried ps < 2 ^ 64
    → eqb (first_kind rest) MORE ≡ false → further allowed scale n (number_bytes MORE ps ++ rest) ≡ number (n + scale * carried ps) rest
unfolding further number_bytes carried
further-reads zero scale n rest none l f s = rw s (ap (λ (m : ℕ). number m rest) (omega arith))
further-reads (suc allowed) scale n rest none l f s = rw s (ap (λ (m : ℕ). number m rest) (omega arith))
further-reads zero scale n rest (more h e) l f s = absurd (omega arith)
further-reads (suc allowed) scale n rest (more {x = p} {xs = ps} h e) l f s =
    let t = number_bytes MORE ps ++ rest in
    rw (
      append_assoc (bytes_of (word_of MORE p)) (number_bytes MORE ps) rest,
      kind-word MORE p t (omega arith) h,
      payload-word MORE p t (omega arith) h,
      lt-ltb (n + scale * p) (2 ^ 64) (omega arith),
      behind-word (word_of MORE p) t,
    )
    (further-reads allowed (scale * 2 ^ 29) (n + scale * p) rest e (omega arith) (omega arith) s ∙ ap (λ (m : ℕ). number m rest) (omega arith))

parts : {p : ℕ} {ps : List ℕ} → Each Payload (p ∷ ps) → Payload p × Each Payload ps
parts (more h e) = (h, e)

-- the first word of a number is of its kind
pub kind-number : (kind : ℕ) {n : ℕ} {ps : List ℕ} (rest : List ℕ) → kind < 8 → Carry n ps → first_kind (number_bytes kind ps ++ rest) ≡ kind
unfolding number_bytes
kind-number kind {ps = []} rest k c = absurd (omega arith)
kind-number kind {ps = p ∷ ps} rest k c =
    rw append_assoc (kind-word kind p (number_bytes MORE ps ++ rest) k (parts c.small).0)

-- and, unless that is 0, no more of a number in front of it
pub no_more : (kind : ℕ) {n : ℕ} {ps : List ℕ} (rest : List ℕ) → 0 < kind → kind < 8 → Carry n ps
    → eqb (first_kind (number_bytes kind ps ++ rest)) MORE ≡ false
no_more kind rest h k c = rw (kind-number kind rest k c) (ne_eqb kind MORE (omega arith))

pub number-reads : (kind : ℕ) {n : ℕ} {ps : List ℕ} (rest : List ℕ) → kind < 8 → Carry n ps → eqb (first_kind rest) MORE ≡ false
    → number_from kind (number_bytes kind ps ++ rest) ≡ number n rest
unfolding number_from number_bytes carried
number-reads kind {ps = []} rest k c s = absurd (omega arith)
number-reads kind {ps = p ∷ ps} rest k c s =
    let h = (parts c.small).0 in
    let t = number_bytes MORE ps ++ rest in
    rw (
      append_assoc (bytes_of (word_of kind p)) (number_bytes MORE ps) rest,
      kind-word kind p t k h,
      payload-word kind p t k h,
      eq-eqb kind kind refl,
      behind-word (word_of kind p) t,
    )
    (further-reads 2 (2 ^ 29) p rest (parts c.small).1 (omega arith) (omega arith) s ∙ ap (λ (m : ℕ). number m rest) (omega arith))

-- ---- what was read is what was written
abbrev pub ReadRefusal : ℕ → Type 0
ReadRefusal code = (code ≡ TOO_MANY_AXES) ⊎ (code ≡ BAD_WORD) ⊎ (code ≡ NUMBER_TOO_LONG)

payload-small : (bytes : List ℕ) → Payload (first_payload bytes)
payload-small bytes = omega arith

-- the first word, in front of others of its number
in-front : {bytes : List ℕ} (kind : ℕ) (ps rest : List ℕ) → Each Byte bytes → kind < 8 → first_kind bytes ≡ kind → drop 4 bytes ≡ number_bytes MORE ps ++ rest
    → bytes ≡ number_bytes kind (first_payload bytes ∷ ps) ++ rest
unfolding number_bytes
in-front {bytes} kind ps rest e k h b =
    let w = bytes_of (word_of kind (first_payload bytes)) in
    word-of-kind e kind k h ∙ ap (λ (l : List ℕ). w ++ l) b ∙ sym (append_assoc w (number_bytes MORE ps) rest)

-- words of kind 0, at most so many, that add to n what makes it m, in front of the rest
record Adds (allowed scale n : ℕ) (bytes : List ℕ) (m : ℕ) (rest : List ℕ) : Type 0 where
  ps : List ℕ
  few : length ps ≤ allowed
  small : Each Payload ps
  is : n + scale * carried ps ≡ m
  fits : m < 2 ^ 64
  written : bytes ≡ number_bytes MORE ps ++ rest
  bytes_left : Each Byte rest

abbrev FurtherEncoded : ℕ → ℕ → ℕ → List ℕ → NumberRead → Type 0
FurtherEncoded allowed scale n bytes (number m rest) = Adds allowed scale n bytes m rest
FurtherEncoded allowed scale n bytes (faulty code) = ReadRefusal code

ends : (allowed scale n : ℕ) {bytes : List ℕ} → Each Byte bytes → n < 2 ^ 64 → Adds allowed scale n bytes n bytes
unfolding carried number_bytes
ends allowed scale n e f =
    record { ps = []; few = omega arith; small = none; is = omega arith; fits = f; written = refl; bytes_left = e }

goes_on : (allowed scale n : ℕ) {bytes : List ℕ} (r : NumberRead) → Each Byte bytes → first_kind bytes ≡ MORE
    → FurtherEncoded allowed (scale * 2 ^ 29) (n + scale * first_payload bytes) (drop 4 bytes) r → FurtherEncoded (suc allowed) scale n bytes r
unfolding carried
goes_on allowed scale n {bytes} (number m rest) e k a =
    record {
      ps = first_payload bytes ∷ a.ps;
      few = omega arith;
      small = more (payload-small bytes) a.small;
      is = let i = a.is in omega arith;
      fits = a.fits;
      written = in-front MORE a.ps rest e (omega arith) k a.written;
      bytes_left = a.bytes_left;
    }
goes_on allowed scale n (faulty code) e k a = a

further-encoded : (allowed scale n : ℕ) {bytes : List ℕ} → Each Byte bytes → n < 2 ^ 64 → FurtherEncoded allowed scale n bytes (further allowed scale n bytes)
unfolding further
further-encoded zero scale n {bytes} e f =
    by-test (FurtherEncoded zero scale n bytes) (eqb (first_kind bytes) MORE) (λ t. inr (inr refl)) (λ t. ends zero scale n e f)
further-encoded (suc allowed) scale n {bytes} e f =
    let longer = n + scale * first_payload bytes in
    by-test (FurtherEncoded (suc allowed) scale n bytes) (eqb (first_kind bytes) MORE)
    (λ k. by-test (FurtherEncoded (suc allowed) scale n bytes) (ltb longer (2 ^ 64))
    (λ l. goes_on allowed scale n (further allowed (scale * 2 ^ 29) longer (drop 4 bytes)) e (eqb-true (first_kind bytes) MORE k)
    (further-encoded allowed (scale * 2 ^ 29) longer (each-behind e) (ltb-true longer (2 ^ 64) l)))
    (λ l. inr (inr refl)))
    (λ k. ends (suc allowed) scale n e f)

-- the number n of this kind, in front of the rest
pub record Carries (kind : ℕ) (bytes : List ℕ) (n : ℕ) (rest : List ℕ) : Type 0 where
  pub ps : List ℕ
  pub carry : Carry n ps
  pub written : bytes ≡ number_bytes kind ps ++ rest
  pub bytes_left : Each Byte rest

abbrev pub NumberEncoded : ℕ → List ℕ → NumberRead → Type 0
NumberEncoded kind bytes (number n rest) = Carries kind bytes n rest
NumberEncoded kind bytes (faulty code) = ReadRefusal code

pub number-encoded : (kind : ℕ) {bytes : List ℕ} → kind < 8 → Each Byte bytes → NumberEncoded kind bytes (number_from kind bytes)
unfolding number_from carried
number-encoded kind {bytes} k e =
    by-test (NumberEncoded kind bytes) (eqb (first_kind bytes) kind)
    (λ t. go (further 2 (2 ^ 29) (first_payload bytes) (drop 4 bytes)) (eqb-true (first_kind bytes) kind t)
    (further-encoded 2 (2 ^ 29) (first_payload bytes) (each-behind e) (omega arith)))
    (λ t. inr (inl refl))
  where
    go : (r : NumberRead) → first_kind bytes ≡ kind → FurtherEncoded 2 (2 ^ 29) (first_payload bytes) (drop 4 bytes) r → NumberEncoded kind bytes r
    go (number n rest) q a =
        record {
          ps = first_payload bytes ∷ a.ps;
          carry = record { first = omega arith; few = omega arith; small = more (payload-small bytes) a.small; is = a.is; fits = a.fits };
          written = in-front kind a.ps rest e k q a.written;
          bytes_left = a.bytes_left;
        }
    go (faulty code) q a = a
