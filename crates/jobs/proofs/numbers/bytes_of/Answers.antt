-- One word, two or three. Assumes nothing.
use Rattle.std.proofs.Common.{ℕ, ◌*◌, List, length, sym, ap, arith}
use Rattle.jobs.proofs.Laying.{fewest-one, two-payloads, three-payloads}
use Rattle.jobs.proofs.numbers.bytes_of.Goals as goal

pub returns-then-n-lt-PAYLOADS : goal.returns-then-n-lt-PAYLOADS
returns-then-n-lt-PAYLOADS c = sym (ap (λ (ps : List ℕ). 4 * length ps) (fewest-one 1 c.args.n c.if-n-lt-PAYLOADS.true))

pub returns-then-n-lt-TWO_PAYLOADS : goal.returns-then-n-lt-TWO_PAYLOADS
returns-then-n-lt-TWO_PAYLOADS c =
    sym (ap (λ (ps : List ℕ). 4 * length ps) (two-payloads c.args.n c.if-n-lt-PAYLOADS.false (omega arith)))

pub returns : goal.returns
returns c = sym (ap (λ (ps : List ℕ). 4 * length ps) (three-payloads c.args.n c.if-n-lt-PAYLOADS.false (omega arith)))
