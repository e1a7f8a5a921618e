-- Assumes nothing.
use Rattle.std.proofs.Common.{drop, ◌∙◌, ap, FitsSigned, rules}
use Rattle.std.proofs.lemmas.Result.{err_from_is_err_and}
use mir.Facts.{to_z-of_z}
use mir.Syntax.{w64}
use Rattle.jobs.specs.Words.{SIZE}
use Rattle.jobs.specs.Reading.{record_of, read_of}
use Rattle.jobs.proofs.Parts.{kind-there, kind-absent}
use Rattle.jobs.proofs.Stepping.{no-axes, axes-answer-full, axes-answer-done, size-refused, stride-refused, axis-read, axes-record}
use Rattle.jobs.proofs.reading.read_job.Goals as goal

pub loop-sizes-init : goal.loop-sizes-init
loop-sizes-init c = no-axes c.args.bytes.now

pub returns-then-count-eq-PLACES : goal.returns-then-count-eq-PLACES
unfolding read_of record_of
returns-then-count-eq-PLACES c =
    let k = kind-there SIZE (drop c.loop-sizes.at c.args.bytes.now) _ c.payload_at.ensures c.loop-sizes-test.ensures in
    ap record_of (axes-answer-full c.args.bytes.now _ _ _ _ c.loop-sizes.invariant k c.if-count-eq-PLACES.true)

pub returns-in_err-size : goal.returns-in_err-size
unfolding read_of record_of
returns-in_err-size c =
    let p = err_from_is_err_and c.from_residual.result c.from_residual.ensures.1 in
    let k = kind-there SIZE (drop c.loop-sizes.at c.args.bytes.now) _ c.payload_at.ensures c.loop-sizes-test.ensures in
    rw (p.1, p.2)
    (ap record_of (size-refused c.args.bytes.now _ _ _ _ c.loop-sizes.invariant k c.if-count-eq-PLACES.false _ c.in_err-size.ensures.value))

pub returns-in_err-stride : goal.returns-in_err-stride
unfolding read_of record_of
returns-in_err-stride c =
    let p = err_from_is_err_and c.from_residual-in_err-stride.result c.from_residual-in_err-stride.ensures.1 in
    let k = kind-there SIZE (drop c.loop-sizes.at c.args.bytes.now) _ c.payload_at.ensures c.loop-sizes-test.ensures in
    rw (p.1, p.2)
    (ap record_of (stride-refused c.args.bytes.now _ _ _ _ c.loop-sizes.invariant k c.if-count-eq-PLACES.false c.in_ok-size.size c.in_ok-size.ensures.value _
    c.in_err-stride.ensures.value))

pub loop-sizes-preserved : goal.loop-sizes-preserved
loop-sizes-preserved c =
    let k = kind-there SIZE (drop c.loop-sizes.at c.args.bytes.now) _ c.payload_at.ensures c.loop-sizes-test.ensures in
    rw (to_z-of_z {w = w64} (record { sfits = c.signed.type_inv }), c.signed.ensures)
    (axis-read c.args.bytes.now _ _ _ _ c.loop-sizes.invariant k c.if-count-eq-PLACES.false c.in_ok-size.size c.in_ok-size.ensures.value c.in_ok-stride.stride
    c.in_ok-stride.ensures.value c.in_ok-stride.ensures.upper_bound)

pub returns-in_err-range : goal.returns-in_err-range
unfolding read_of record_of
returns-in_err-range c =
    let p = err_from_is_err_and c.from_residual-in_err-range.result c.from_residual-in_err-range.ensures.1 in
    let q = c.loop-sizes.invariant in
    let k = kind-absent SIZE (drop c.loop-sizes.at c.args.bytes.now) _ c.payload_at.ensures c.loop-sizes-test.ensures in
    rw (p.1, p.2) (ap record_of (c.in_err-range.ensures q.ns q.ss ∙ axes-answer-done c.args.bytes.now _ _ _ _ q k))

pub returns : goal.returns
unfolding read_of
returns c =
    let q = c.loop-sizes.invariant in
    let x = c.in_ok-range.range in
    let f : FitsSigned w64 x.base = search rules in
    let k = kind-absent SIZE (drop c.loop-sizes.at c.args.bytes.now) _ c.payload_at.ensures c.loop-sizes-test.ensures in
    rw (to_z-of_z f)
    (axes-record c.args.bytes.now _ _ _ _ q x.base x.start x.end
    ∙ ap record_of (c.in_ok-range.ensures q.ns q.ss ∙ axes-answer-done c.args.bytes.now _ _ _ _ q k))
