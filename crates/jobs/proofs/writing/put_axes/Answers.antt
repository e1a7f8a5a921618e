-- Assumes nothing.
use Rattle.std.proofs.Common.{◌≡◌, ℕ, pos, List, length, get_or, sym, ◌∙◌, ap, FitsSigned, rules, arith}
use Rattle.std.proofs.lemmas.List.{length_push}
use Rattle.std.proofs.lemmas.Slice.Zip.{zip_turn, zip_end}
use Rattle.std.proofs.lemmas.List.Edits.{sets}
use lib.Seq.{length-sets}
use mir.Facts.{to_z-of_z}
use mir.Syntax.{w64}
use Rattle.jobs.specs.Words.{SIZE, STRIDE, number_bytes, payloads_of, sent_of}
use Rattle.jobs.proofs.Jobs.{axes-over, split-lengths, axes-laid}
use Rattle.jobs.proofs.writing.put_axes.Goals as goal

pub put_number-next-requires : goal.put_number-next-requires
put_number-next-requires c =
    let t = zip_turn c.args.sizes.now c.args.strides.now c.loop-size.yielded c.into_iter-size-iterator.result c.loop-size.size-iterator c.next.new.self c.next.result
    (search rules) (search rules) c.loop-size.yielded_by (c.in-Some.size, c.in-Some.stride) c.in-Some.is c.next.ensures.steps in
    let i = length c.loop-size.yielded in
    let e = ap (λ (n : ℕ). length (number_bytes SIZE (payloads_of n))) (t.2 0) in
    omega (arith, e, split-lengths c.args.sizes.now c.args.strides.now c.requires.0 i t.0, c.loop-size.invariant.0, c.loop-size.auto.out, c.requires.2)

pub put_number-at-requires : goal.put_number-at-requires
put_number-at-requires c =
    let t = zip_turn c.args.sizes.now c.args.strides.now c.loop-size.yielded c.into_iter-size-iterator.result c.loop-size.size-iterator c.next.new.self c.next.result
    (search rules) (search rules) c.loop-size.yielded_by (c.in-Some.size, c.in-Some.stride) c.in-Some.is c.next.ensures.steps in
    let i = length c.loop-size.yielded in
    let f : FitsSigned w64 c.in-Some.stride.now = search rules in
    let s = simp (to_z-of_z f) at c.sent-stride.ensures in
    let e = ap (λ (n : ℕ). length (number_bytes SIZE (payloads_of n))) (t.2 0) in
    let g = ap (λ (n : ℕ). length (number_bytes STRIDE (payloads_of n))) (s ∙ ap sent_of (t.3 (pos 0))) in
    let l = ap length c.put_number-next.ensures.out_after ∙ length-sets c.loop-size.out c.loop-size.at (number_bytes SIZE (payloads_of c.in-Some.size.now)) in
    omega (arith, e, g, l, c.put_number-next.ensures.value, split-lengths c.args.sizes.now c.args.strides.now c.requires.0 i t.0, c.loop-size.invariant.0, c.loop-size.auto.out, c.requires.2)

pub loop-size-preserved : goal.loop-size-preserved
loop-size-preserved c =
    let t = zip_turn c.args.sizes.now c.args.strides.now c.loop-size.yielded c.into_iter-size-iterator.result c.loop-size.size-iterator c.next.new.self c.next.result
    (search rules) (search rules) c.loop-size.yielded_by (c.in-Some.size, c.in-Some.stride) c.in-Some.is c.next.ensures.steps in
    let i = length c.loop-size.yielded in
    let f : FitsSigned w64 c.in-Some.stride.now = search rules in
    let s = simp (to_z-of_z f) at c.sent-stride.ensures in
    let n : c.sent-stride.result ≡ sent_of (get_or c.args.strides.now i (pos 0)) = s ∙ ap sent_of (t.3 (pos 0)) in
    let p = axes-laid c.args.sizes.now c.args.strides.now c.requires.0 i t.0 c.loop-size.out c.put_number-next.new.out c.put_number-at.new.out c.loop-size.at
    c.put_number-next.result c.put_number-at.result (rw (t.2 0) at c.put_number-next.ensures.value) (rw (t.2 0) at c.put_number-next.ensures.out_after)
    (rw n at c.put_number-at.ensures.value) (rw n at c.put_number-at.ensures.out_after) in
    rw (length_push c.loop-size.yielded (c.in-Some.size, c.in-Some.stride)) (p.0 ∙ c.loop-size.invariant.0, p.1 ∙ c.loop-size.invariant.1)

pub returns : goal.returns
returns c =
    let z = zip_end c.args.sizes.now c.args.strides.now c.loop-size.yielded c.into_iter-size-iterator.result c.loop-size.size-iterator c.next.new.self c.next.result
    (search rules) (search rules) c.loop-size.yielded_by c.in-None.is c.next.ensures.steps in
    let e = axes-over c.args.sizes.now c.args.strides.now c.requires.0 (length c.loop-size.yielded) (omega arith) in
    record {
      value = omega (arith, ap length e);
      out_after = sym (ap (λ (l : List ℕ). sets c.loop-size.out c.loop-size.at l) e) ∙ c.loop-size.invariant.1;
    }
