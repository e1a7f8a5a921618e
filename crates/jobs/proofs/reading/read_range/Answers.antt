-- Three numbers one behind another, then the last word. Assumes nothing.
use Rattle.std.proofs.Common.{◌∙◌, arith}
use Rattle.std.proofs.lemmas.Result.{err_from_is_err_and}
use mir.Facts.{to_z-of_z}
use mir.Syntax.{w64}
use Rattle.jobs.specs.Words.{signed_of}
use Rattle.jobs.proofs.Stepping.{base-read, base-refused, start-read, start-refused, end-refused, job_at, behind-end, finish-other, finish-filled, finish-more, finishes}
use Rattle.jobs.proofs.reading.read_range.Goals as goal
use Rattle.jobs.proofs.reading.read_range.Goals.{then-payload-ne0-via-then-payload-ne0, then-payload-ne0-via-else-payload-ne0+then-bytes-last-ne-WORD_BYTES}

pub returns-in_err-base : goal.returns-in_err-base
returns-in_err-base c ns ss =
    let p = err_from_is_err_and c.from_residual.result c.from_residual.ensures.1 in
    rw (p.1, p.2) (base-refused c.args.bytes.now ns ss c.args.at _ c.in_err-base.ensures.value)

pub returns-in_err-start : goal.returns-in_err-start
returns-in_err-start c ns ss =
    let p = err_from_is_err_and c.from_residual-in_err-start.result c.from_residual-in_err-start.ensures.1 in
    let b = c.in_ok-base.base in
    rw (p.1, p.2)
    (start-refused c.args.bytes.now ns ss (signed_of b.value) b.next _ c.in_err-start.ensures.value
    ∙ base-read c.args.bytes.now ns ss c.args.at b c.in_ok-base.ensures.value)

pub returns-in_err-end : goal.returns-in_err-end
returns-in_err-end c ns ss =
    let p = err_from_is_err_and c.from_residual-in_err-end.result c.from_residual-in_err-end.ensures.1 in
    let b = c.in_ok-base.base in
    let s = c.in_ok-start.start in
    rw (p.1, p.2)
    (end-refused c.args.bytes.now ns ss (signed_of b.value) s.value s.next _ c.in_err-end.ensures.value
    ∙ start-read c.args.bytes.now ns ss (signed_of b.value) b.next s c.in_ok-start.ensures.value
    ∙ base-read c.args.bytes.now ns ss c.args.at b c.in_ok-base.ensures.value)

pub returns-in_default : goal.returns-in_default
returns-in_default c ns ss =
    let b = c.in_ok-base.base in
    let s = c.in_ok-start.start in
    let e = c.in_ok-end.end in
    finish-other (job_at ns ss (signed_of b.value) s.value e.value) c.args.bytes.now e.next (λ q. c.in_default.ensures (omega (arith, q)))
    ∙ behind-end c.args.bytes.now ns ss c.args.at b s e c.in_ok-base.ensures.value c.in_ok-start.ensures.value c.in_ok-end.ensures.value

pub returns-then-payload-ne0 : goal.returns-then-payload-ne0
returns-then-payload-ne0 c ns ss =
    let b = c.in_ok-base.base in
    let s = c.in_ok-start.start in
    let e = c.in_ok-end.end in
    let j = job_at ns ss (signed_of b.value) s.value e.value in
    let q = behind-end c.args.bytes.now ns ss c.args.at b s e c.in_ok-base.ensures.value c.in_ok-start.ensures.value c.in_ok-end.ensures.value in
    elim c.then-payload-ne0.branch [
      | then-payload-ne0-via-then-payload-ne0 w
          ↦ finish-filled j c.args.bytes.now e.next c.in-Some.payload c.in-Some.ensures w.if-payload-ne0.true ∙ q
      | then-payload-ne0-via-else-payload-ne0+then-bytes-last-ne-WORD_BYTES w
          ↦ finish-more j c.args.bytes.now e.next c.in-Some.payload c.in-Some.ensures w.if-payload-ne0.false w.if-bytes-last-ne-WORD_BYTES.true ∙ q
    ]

pub returns : goal.returns
returns c ns ss =
    let b = c.in_ok-base.base in
    let s = c.in_ok-start.start in
    let e = c.in_ok-end.end in
    rw (to_z-of_z {w = w64} (record { sfits = c.signed.type_inv }), c.signed.ensures)
    (finishes (job_at ns ss (signed_of b.value) s.value e.value) c.args.bytes.now e.next c.in-Some.payload c.in-Some.ensures c.if-payload-ne0.false
    c.if-bytes-last-ne-WORD_BYTES.false
    ∙ behind-end c.args.bytes.now ns ss c.args.at b s e c.in_ok-base.ensures.value c.in_ok-start.ensures.value c.in_ok-end.ensures.value)
