-- `finishing::f64_ldexp`: the loops keep `Scaling`, by the laws of `Loops`.
use Rattle.std.proofs.Common.{sym, ◌∙◌, pos, ◌+ℤ◌, ◌-ℤ◌, w64, to_z, rules}
use Rattle.std.proofs.lemmas.Int.{to_z-of_z}
use lib.Ieee.{nan_bits}
use Rattle.finishing.proofs.Loops.{scaling-fits, raised_all, raised-more, lowered-all, lowered-more, lowered-below, under-taken, last}
use Rattle.finishing.proofs.f64_ldexp.Goals as goal

pub float_from_bits-x : goal.float_from_bits-x
unfolding nan_bits
float_from_bits-x c = search rules

pub returns-then-is_infinite : goal.returns-then-is_infinite
returns-then-is_infinite c =
    let exact = to_z-of_z w64 c.args.e c.ranges.e in
    let l = c.loop-k in
    let k = to_z w64 l.k-bits in
    raised_all c.args.m (search rules) c.requires.0 c.args.e l.x k (rw exact at l.invariant) c.loop-k-test.true
    (sym c.is_infinite.ensures.value ∙ c.if-is_infinite.true)

pub loop-k-preserved : goal.loop-k-preserved
loop-k-preserved c =
    let exact = to_z-of_z w64 c.args.e c.ranges.e in
    let l = c.loop-k in
    let k = to_z w64 l.k-bits in
    let next = to_z-of_z w64 (k -ℤ pos 1023) (scaling-fits c.args.m c.args.e l.x k c.requires.1 (rw exact at l.invariant)).0 in
    rw (exact, next)
    (raised-more c.args.m (search rules) c.requires.0 c.args.e l.x k (rw exact at l.invariant) c.loop-k-test.true
    (sym c.is_infinite.ensures.value ∙ c.if-is_infinite.false))

pub float_from_bits-x-in-loop-k-2 : goal.float_from_bits-x-in-loop-k-2
unfolding nan_bits
float_from_bits-x-in-loop-k-2 c = search rules

pub returns-then-x : goal.returns-then-x
returns-then-x c =
    let exact = to_z-of_z w64 c.args.e c.ranges.e in
    let l = c.loop-k-2 in
    let k = to_z w64 l.k-bits in
    lowered-all c.args.m (search rules) c.requires.0 c.args.e l.x k (rw exact at l.invariant.0) (under-taken k c.loop-k-2-test.true) c.if-x.true

pub loop-k-2-preserved : goal.loop-k-2-preserved
loop-k-2-preserved c =
    let exact = to_z-of_z w64 c.args.e c.ranges.e in
    let l = c.loop-k-2 in
    let k = to_z w64 l.k-bits in
    let h = under-taken k c.loop-k-2-test.true in
    let next = to_z-of_z w64 (k +ℤ pos 1022) (scaling-fits c.args.m c.args.e l.x k c.requires.1 (rw exact at l.invariant.0)).1 in
    rw (exact, next)
    (lowered-more c.args.m (search rules) c.requires.0 c.args.e l.x k (rw exact at l.invariant.0) h c.if-x.false, lowered-below k h)

pub returns : goal.returns
returns c =
    let exact = to_z-of_z w64 c.args.e c.ranges.e in
    let l = c.loop-k-2 in
    let k = to_z w64 l.k-bits in
    rw c.power_of_two.ensures (last c.args.m (search rules) c.requires.0 c.args.e l.x k (rw exact at l.invariant.0))
