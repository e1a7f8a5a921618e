-- By the lowest bit. Assumes nothing.
use Rattle.std.proofs.Common.{◌/◌, ◌<◌, ◌^◌, arith}
use mir.Facts.{to_z-of_z}
use Rattle.integers.proofs.Machine.{to_z-small, negated_fits}
use Rattle.jobs.proofs.Coding.{signed-even, signed_odd, odd-fits}
use Rattle.jobs.proofs.numbers.signed.Goals as goal

pub returns-then-n-eq0 : goal.returns-then-n-eq0
returns-then-n-eq0 c = let n = c.args.n in let h : n / 2 < 2 ^ 63 = omega arith in simp (to_z-small (n / 2) h) (signed-even n c.if-n-eq0.true)

pub returns : goal.returns
returns c =
    let n = c.args.n in
    let h : n / 2 < 2 ^ 63 = omega arith in
    simp (to_z-small (n / 2) h, to_z-of_z (negated_fits (n / 2) (omega arith)), to_z-of_z (odd-fits (n / 2) h)) (signed_odd n c.if-n-eq0.false)
