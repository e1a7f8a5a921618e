-- `accumulator::join`: each way of its tests is a case of `joined`.
use Rattle.std.proofs.Common.{true≢false, sym, ap, ◌∙◌, rules, w64, FitsSigned}
use Rattle.std.proofs.lemmas.Int.{to_z-of_z}
use Rattle.accumulator.specs.declared.StableProductFloatAcc.{StableProductFloatAcc}
use Rattle.accumulator.specs.Joining.{within_limit, accumulator}
use Rattle.accumulator.proofs.Answers.{in-limits-small, refused-left, refused-right, accepted, refused-joined}
use Rattle.accumulator.proofs.join.Goals as goal
use Rattle.accumulator.proofs.join.Goals.{then-in_limits, else-in_limits}

pub returns-then-not-in_limits : goal.returns-then-not-in_limits
returns-then-not-in_limits c =
    elim c.if-in_limits.branch [
      | then-in_limits w ↦
          refused-right c.args.a c.args.b (sym c.in_limits.ensures ∙ w.if-in_limits.true)
          (sym w.in_limits-then-in_limits.ensures ∙ sym w.value-is ∙ c.if-not-in_limits.true)
      | else-in_limits w ↦ refused-left c.args.a c.args.b (sym c.in_limits.ensures ∙ w.if-in_limits.false)
    ]

pub stable_float_combine-r-requires : goal.stable_float_combine-r-requires
stable_float_combine-r-requires c =
    elim c.if-in_limits.branch [
      | then-in_limits w ↦ (
        in-limits-small c.args.a (sym c.in_limits.ensures ∙ w.if-in_limits.true),
        in-limits-small c.args.b (sym w.in_limits-then-in_limits.ensures ∙ sym w.value-is ∙ c.if-not-in_limits.false),
      )
      | else-in_limits w ↦ absurd (true≢false (sym c.if-not-in_limits.false ∙ w.value-is ∙ w.if-in_limits.false))
    ]

pub returns-then-within_limit : goal.returns-then-within_limit
returns-then-within_limit c =
    elim c.if-in_limits.branch [
      | then-in_limits w ↦
          let r = c.stable_float_combine-r.ensures in
          let exact : FitsSigned w64 c.stable_float_combine-r.result.e = search rules in
          ap (λ (x : StableProductFloatAcc). accumulator x.m x.e x.bad) r
          ∙ accepted c.args.a c.args.b (sym c.in_limits.ensures ∙ w.if-in_limits.true)
          (sym w.in_limits-then-in_limits.ensures ∙ sym w.value-is ∙ c.if-not-in_limits.false)
          (ap (λ (x : StableProductFloatAcc). within_limit x.e) (sym r) ∙ sym (simp to_z-of_z at c.within_limit.ensures) ∙ c.if-within_limit.true)
      | else-in_limits w ↦ absurd (true≢false (sym c.if-not-in_limits.false ∙ w.value-is ∙ w.if-in_limits.false))
    ]

pub returns-else-within_limit : goal.returns-else-within_limit
returns-else-within_limit c =
    elim c.if-in_limits.branch [
      | then-in_limits w ↦
          let r = c.stable_float_combine-r.ensures in
          let exact : FitsSigned w64 c.stable_float_combine-r.result.e = search rules in
          refused-joined c.args.a c.args.b (sym c.in_limits.ensures ∙ w.if-in_limits.true)
          (sym w.in_limits-then-in_limits.ensures ∙ sym w.value-is ∙ c.if-not-in_limits.false)
          (ap (λ (x : StableProductFloatAcc). within_limit x.e) (sym r) ∙ sym (simp to_z-of_z at c.within_limit.ensures) ∙ c.if-within_limit.false)
      | else-in_limits w ↦ absurd (true≢false (sym c.if-not-in_limits.false ∙ w.value-is ∙ w.if-in_limits.false))
    ]
