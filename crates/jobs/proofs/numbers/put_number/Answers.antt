-- One word, two or three. Assumes nothing.
use Rattle.std.proofs.Common.{◌≡◌, ◌+◌, ◌/◌, ◌^◌, ℕ, List, length, ◌∙◌, ap, arith}
use Rattle.std.proofs.lemmas.List.Edits.{sets}
use lib.Seq.{length-sets}
use Rattle.jobs.specs.Words.{MORE, bytes_of, word_of}
use Rattle.jobs.specs.InnerParts.{kind_of}
use Rattle.jobs.proofs.Laying.{first-room, second-room, third-room, put_one, put_two, put_three}
use Rattle.jobs.proofs.numbers.put_number.Goals as goal

-- a word leaves the length
long : (out r : List ℕ) (at w : ℕ) → r ≡ sets out at (bytes_of w) → length r ≡ length out
long out r at w e = ap length e ∙ length-sets out at (bytes_of w)

-- two words
second : (out r s : List ℕ) (at v w : ℕ) → r ≡ sets out at (bytes_of v) → s ≡ sets r (at + 4) (bytes_of w)
    → s ≡ sets (sets out at (bytes_of v)) (at + 4) (bytes_of w)
second out r s at v w e f = f ∙ ap (λ (l : List ℕ). sets l (at + 4) (bytes_of w)) e

pub put_word-requires : goal.put_word-requires
put_word-requires c = (omega (arith, first-room (kind_of c.args.kind) c.args.n), omega arith)

pub returns-then-n-lt-PAYLOADS : goal.returns-then-n-lt-PAYLOADS
returns-then-n-lt-PAYLOADS c =
    let p = put_one c.args.out.now c.args.at (kind_of c.args.kind) c.args.n c.if-n-lt-PAYLOADS.true _ c.put_word.ensures in
    record { value = p.0; out_after = p.1 }

pub put_word-requires-2 : goal.put_word-requires-2
put_word-requires-2 c =
    let l = long _ _ _ _ c.put_word.ensures in
    (omega (arith, l, second-room (kind_of c.args.kind) c.args.n c.if-n-lt-PAYLOADS.false), omega arith)

pub returns-then-high-lt-PAYLOADS : goal.returns-then-high-lt-PAYLOADS
returns-then-high-lt-PAYLOADS c =
    let p = put_two c.args.out.now c.args.at (kind_of c.args.kind) c.args.n c.if-n-lt-PAYLOADS.false c.if-high-lt-PAYLOADS.true _
    (second _ _ _ _ _ _ c.put_word.ensures c.put_word-2.ensures) in
    record { value = p.0; out_after = p.1 }

pub put_word-requires-3 : goal.put_word-requires-3
put_word-requires-3 c =
    let l = long _ _ _ _ c.put_word-2.ensures ∙ long _ _ _ _ c.put_word.ensures in
    (omega (arith, l, third-room (kind_of c.args.kind) c.args.n c.if-n-lt-PAYLOADS.false c.if-high-lt-PAYLOADS.false), omega arith)

pub returns : goal.returns
returns c =
    let b = bytes_of (word_of MORE (c.args.n / 2 ^ 29 / 2 ^ 29)) in
    let p = put_three c.args.out.now c.args.at (kind_of c.args.kind) c.args.n c.if-n-lt-PAYLOADS.false c.if-high-lt-PAYLOADS.false _
    (c.put_word-3.ensures ∙ ap (λ (l : List ℕ). sets l (c.args.at + 8) b) (second _ _ _ _ _ _ c.put_word.ensures c.put_word-2.ensures)) in
    record { value = p.0; out_after = p.1 }
