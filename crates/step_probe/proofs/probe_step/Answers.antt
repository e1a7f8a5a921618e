-- Each case of the answer, read out.
use Rattle.std.proofs.Common.{rules, ◌≡◌, sym, ◌∙◌, ap, ℤ, FitsSigned, to_z, of_z, w64}
use mir.Facts.{to_z-of_z}
use Rattle.std.specs.Prelude.{Ok, Err}
use Rattle.bookmarks.specs.declared.Step.TheVariants as step
use Rattle.bookmarks.specs.Steps.{step_answer_of}
use Rattle.step_probe.specs.Answers.{bookmark_of, code_handed, mark_handed, pieces_handed, done_handed}
use Rattle.step_probe.proofs.probe_step.Goals as goal

pub returns-in-Ok-Done : goal.returns-in-Ok-Done
unfolding code_handed mark_handed pieces_handed done_handed
returns-in-Ok-Done c =
    let a = c.in-Ok-Done.a in
    let given : FitsSigned w64 c.args.e.now = search rules in
    let is : c.reduce_step.result ≡ Ok (step.Done a c.in-Ok-Done.worked) = cc in
    let t = sym (ap step_answer_of is) ∙ (simp (to_z-of_z c.ranges.base, to_z-of_z given) at c.reduce_step.ensures) in
    let fits : FitsSigned w64 a.e = search rules in
    record {
      value = ap code_handed t;
      bad_after = ap (λ (z : ℤ). bookmark_of c.args.next.now a.m z a.bad) (to_z-of_z fits)
          ∙ ap (mark_handed (bookmark_of c.args.next.now c.args.m.now c.args.e.now c.args.bad.now)) t;
      pieces_after = ap (pieces_handed c.args.pieces.now) t;
      done_after = ap (done_handed c.args.done.now) t;
    }

pub returns-in-Ok-More : goal.returns-in-Ok-More
unfolding code_handed mark_handed pieces_handed done_handed
returns-in-Ok-More c =
    let to = c.in-Ok-More.to in
    let given : FitsSigned w64 c.args.e.now = search rules in
    let is : c.reduce_step.result ≡ Ok (step.More to c.in-Ok-More.worked) = cc in
    let t = sym (ap step_answer_of is) ∙ (simp (to_z-of_z c.ranges.base, to_z-of_z given) at c.reduce_step.ensures) in
    let fits : FitsSigned w64 to.acc.e = search rules in
    record {
      value = ap code_handed t;
      bad_after = ap (λ (z : ℤ). bookmark_of to.next to.acc.m z to.acc.bad) (to_z-of_z fits)
          ∙ ap (mark_handed (bookmark_of c.args.next.now c.args.m.now c.args.e.now c.args.bad.now)) t;
      pieces_after = ap (pieces_handed c.args.pieces.now) t;
      done_after = ap (done_handed c.args.done.now) t;
    }

pub returns-in-Err : goal.returns-in-Err
unfolding code_handed mark_handed pieces_handed done_handed
returns-in-Err c =
    let given : FitsSigned w64 c.args.e.now = search rules in
    let is : c.reduce_step.result ≡ Err c.in-Err.refusal = cc in
    let t = sym (ap step_answer_of is) ∙ (simp (to_z-of_z c.ranges.base, to_z-of_z given) at c.reduce_step.ensures) in
    record {
      value = c.from.ensures ∙ ap code_handed t;
      bad_after = ap (mark_handed (bookmark_of c.args.next.now c.args.m.now c.args.e.now c.args.bad.now)) t;
      pieces_after = ap (pieces_handed c.args.pieces.now) t;
      done_after = ap (done_handed c.args.done.now) t;
    }
