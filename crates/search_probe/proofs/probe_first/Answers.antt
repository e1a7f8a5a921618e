-- Each case of the answer, read out.
use Rattle.std.proofs.Common.{rules, ◌≡◌, sym, ◌∙◌, ap, FitsSigned, to_z, of_z, w64}
use mir.Facts.{to_z-of_z}
use Rattle.std.specs.Prelude.{Some, None, Ok, Err}
use Rattle.search.specs.Searching.{search_answer_of}
use Rattle.search_probe.specs.Answers.{search_code, found_given, element_given, offset_given}
use Rattle.search_probe.proofs.probe_first.Goals as goal

pub returns-in-Ok-Some : goal.returns-in-Ok-Some
unfolding search_code found_given element_given offset_given
returns-in-Ok-Some c =
    let is : c.first_bad_rate.result ≡ Ok (Some c.in-Ok-Some.b) = cc in
    let t = sym (ap search_answer_of is) ∙ (simp (to_z-of_z c.ranges.base) at c.first_bad_rate.ensures) in
    let fits : FitsSigned w64 c.in-Ok-Some.b.offset = search rules in
    record {
      value = ap search_code t;
      found_after = ap (found_given c.args.found.now) t;
      element_after = ap (element_given c.args.element.now) t;
      offset_after = to_z-of_z fits ∙ ap (offset_given c.args.offset.now) t;
    }

pub returns-in-Ok-None : goal.returns-in-Ok-None
unfolding search_code found_given element_given offset_given
returns-in-Ok-None c =
    let is : c.first_bad_rate.result ≡ Ok None = cc in
    let t = sym (ap search_answer_of is) ∙ (simp (to_z-of_z c.ranges.base) at c.first_bad_rate.ensures) in
    record {
      value = ap search_code t;
      found_after = ap (found_given c.args.found.now) t;
      element_after = ap (element_given c.args.element.now) t;
      offset_after = ap (offset_given c.args.offset.now) t;
    }

pub returns-in-Err : goal.returns-in-Err
unfolding search_code found_given element_given offset_given
returns-in-Err c =
    let is : c.first_bad_rate.result ≡ Err c.in-Err.refusal = cc in
    let t = sym (ap search_answer_of is) ∙ (simp (to_z-of_z c.ranges.base) at c.first_bad_rate.ensures) in
    record {
      value = c.from.ensures ∙ ap search_code t;
      found_after = ap (found_given c.args.found.now) t;
      element_after = ap (element_given c.args.element.now) t;
      offset_after = ap (offset_given c.args.offset.now) t;
    }
