-- `reduction::full::reduce_strip`: a run more of the strip.
use Rattle.std.proofs.Common.{◌≡◌, sym, ◌∙◌, ap, subst, ◌+◌, ◌-◌, ◌*◌, ◌^◌, ◌≤◌, length, pos, ◌+ℤ◌, ◌*ℤ◌, nat_abs, w64, FitsSigned, rules, arith}
use Rattle.std.proofs.Math.Nat.{le_trans, mul-le-mul_right}
use mir.Facts.{to_z-of_z}
use Rattle.integers.proofs.Machine.{to_z-small}
use Rattle.accumulator.specs.declared.StableProductFloatAcc.{StableProductFloatAcc}
use Rattle.accumulator.specs.Joining.{combined}
use Rattle.kernels.specs.InnerStepped.{Sound}
use Rattle.kernels.proofs.Sizes.{in_list, combined-size}
use Rattle.kernels.proofs.Bounded.{combined-sound}
use Rattle.reduction.specs.InnerStrips.{run_acc, strip}
use Rattle.reduction.proofs.Strips.{run-place, place-exact, run-near, run-sound, strip-next}
use Rattle.reduction.proofs.full.reduce_strip.Goals as goal

pub overflow_mul-at : goal.overflow_mul-at
overflow_mul-at c =
    let n = length c.args.values.now in
    let p = run-place n c.args.first c.args.step c.args.stride c.args.len c.args.count c.requires.0 c.requires.4 c.requires.2 (omega (arith, c.well_formed)) c.loop-j.j
    c.loop-j-test.true in
    simp (to_z-of_z c.ranges.step, to_z-small _ p.small) p.way

pub overflow_add-at : goal.overflow_add-at
overflow_add-at c =
    let n = length c.args.values.now in
    let p = run-place n c.args.first c.args.step c.args.stride c.args.len c.args.count c.requires.0 c.requires.4 c.requires.2 (omega (arith, c.well_formed)) c.loop-j.j
    c.loop-j-test.true in
    simp (to_z-of_z c.ranges.first, to_z-of_z c.ranges.step, to_z-small _ p.small, to_z-of_z p.way) p.place

pub next_run-r-requires : goal.next_run-r-requires
next_run-r-requires c =
    let n = length c.args.values.now in
    let p = run-place n c.args.first c.args.step c.args.stride c.args.len c.args.count c.requires.0 c.requires.4 c.requires.2 (omega (arith, c.well_formed)) c.loop-j.j
    c.loop-j-test.true in
    rw (place-exact c.args.first c.args.step c.loop-j.j c.ranges.first c.ranges.step p, to_z-of_z c.ranges.stride)
    (c.requires.0, c.requires.4 c.loop-j.j c.loop-j-test.true, c.requires.1, c.short_least-least.ensures)

pub combine_units-a-requires : goal.combine_units-a-requires
combine_units-a-requires c =
    let n = length c.args.values.now in
    let p = run-place n c.args.first c.args.step c.args.stride c.args.len c.args.count c.requires.0 c.requires.4 c.requires.2 (omega (arith, c.well_formed)) c.loop-j.j
    c.loop-j-test.true in
    let run = rw (place-exact c.args.first c.args.step c.loop-j.j c.ranges.first c.ranges.step p, to_z-of_z c.ranges.stride) at c.next_run-r.ensures in
    let z = c.args.first +ℤ c.args.step *ℤ pos c.loop-j.j in
    let fits : FitsSigned w64 c.next_run-r.result.e = search rules in
    let near = run-near c.args.values.now c.type_inv.values z c.args.stride c.args.len c.requires.0 (run_acc c.next_run-r.result) run in
    let sound = run-sound c.args.values.now c.type_inv.values z c.args.stride c.args.len c.requires.0 (run_acc c.next_run-r.result) run in
    let so_far : c.loop-j.j * c.args.len ≤ 2 ^ 40 = le_trans (mul-le-mul_right c.args.len c.loop-j.auto.j-end) c.requires.2 in
    rw (to_z-of_z fits)
    (omega (arith, c.loop-j.invariant.small, so_far), omega (arith, near, c.requires.1), c.loop-j.invariant.sound.in_unit, sound.in_unit)

pub loop-j-preserved : goal.loop-j-preserved
loop-j-preserved c =
    let n = length c.args.values.now in
    let p = run-place n c.args.first c.args.step c.args.stride c.args.len c.args.count c.requires.0 c.requires.4 c.requires.2 (omega (arith, c.well_formed)) c.loop-j.j
    c.loop-j-test.true in
    let run = rw (place-exact c.args.first c.args.step c.loop-j.j c.ranges.first c.ranges.step p, to_z-of_z c.ranges.stride) at c.next_run-r.ensures in
    let z = c.args.first +ℤ c.args.step *ℤ pos c.loop-j.j in
    let fits : FitsSigned w64 c.next_run-r.result.e = search rules in
    let b = run_acc c.next_run-r.result in
    let near = run-near c.args.values.now c.type_inv.values z c.args.stride c.args.len c.requires.0 b run in
    let sound = run-sound c.args.values.now c.type_inv.values z c.args.stride c.args.len c.requires.0 b run in
    let e = rw (to_z-of_z fits) at c.combine_units-a.ensures in
    let i = simp (to_z-of_z c.ranges.first, to_z-of_z c.ranges.step, to_z-of_z c.ranges.stride) at c.loop-j.invariant in
    simp (to_z-of_z c.ranges.first, to_z-of_z c.ranges.step, to_z-of_z c.ranges.stride)
    (record {
      small = subst (λ (a : StableProductFloatAcc). nat_abs a.e ≤ 2 ^ 60 + in_list * ((c.loop-j.j + 1) * c.args.len)) (sym e)
          (le_trans (combined-size c.loop-j.a b) (omega (arith, i.small, near, c.requires.0)));
      sound = subst Sound (sym e) (combined-sound c.loop-j.a b i.sound sound);
      rest = strip-next c.args.values.now c.args.step c.args.stride c.args.len c.args.count c.loop-j.j c.args.first c.loop-j.a c.combine_units-a.result
          c.loop-j-test.true (e ∙ ap (combined c.loop-j.a) run) ∙ i.rest;
    })

pub returns : goal.returns
unfolding strip
returns c =
    let i = simp (to_z-of_z c.ranges.first, to_z-of_z c.ranges.step, to_z-of_z c.ranges.stride) at c.loop-j.invariant.rest in
    let none : c.args.count - c.loop-j.j ≡ 0 = omega (arith, c.loop-j-test.false) in
    rw none at i
