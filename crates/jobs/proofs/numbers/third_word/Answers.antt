-- By the two words that come next. Assumes nothing.
use Rattle.std.proofs.Common.{◌+◌, ◌*◌, ◌^◌, drop, ◌∙◌, arith}
use Rattle.jobs.specs.Words.{MORE}
use Rattle.jobs.proofs.Parts.{kind-there, kind-absent, further-ends, further-none-allowed, further-too-long, further-goes-on}
use Rattle.jobs.proofs.numbers.third_word.Goals as goal

pub returns-in_default-clause-value : goal.returns-in_default-clause-value
returns-in_default-clause-value c = further-ends c.args.bytes.now c.args.at (2 ^ 58) c.args.low 1 c.in_default.ensures

pub returns-then-top-ge-TOP_PAYLOADS-clause-value : goal.returns-then-top-ge-TOP_PAYLOADS-clause-value
returns-then-top-ge-TOP_PAYLOADS-clause-value c =
    further-too-long c.args.bytes.now c.args.at (2 ^ 58) c.args.low c.in-Some.top c.in-Some.ensures 0 (omega arith)

pub returns-then-is_some-clause-value : goal.returns-then-is_some-clause-value
returns-then-is_some-clause-value c =
    let k = kind-there MORE (drop (c.args.at + 4) c.args.bytes.now) _ c.payload_at-2.ensures c.if-is_some.ensures in
    further-none-allowed c.args.bytes.now (c.args.at + 4) (2 ^ 87) (c.args.low + 2 ^ 58 * c.in-Some.top) k
    ∙ further-goes-on c.args.bytes.now c.args.at (2 ^ 58) c.args.low c.in-Some.top c.in-Some.ensures 0 (omega arith)

pub returns-clause-value : goal.returns-clause-value
returns-clause-value c =
    let k = kind-absent MORE (drop (c.args.at + 4) c.args.bytes.now) _ c.payload_at-2.ensures c.if-is_some.ensures in
    further-ends c.args.bytes.now (c.args.at + 4) (2 ^ 87) (c.args.low + 2 ^ 58 * c.in-Some.top) 0 k
    ∙ further-goes-on c.args.bytes.now c.args.at (2 ^ 58) c.args.low c.in-Some.top c.in-Some.ensures 0 (omega arith)
