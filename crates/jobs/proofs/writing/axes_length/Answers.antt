-- Assumes nothing.
use Rattle.std.proofs.Common.{◌≡◌, ◌+◌, ◌*◌, ◌≤◌, ◌<◌, ℕ, pos, length, ◌∙◌, ap, FitsSigned, rules, arith}
use Rattle.std.proofs.lemmas.List.{length_push}
use Rattle.std.proofs.lemmas.Slice.Zip.{zip_turn, zip_end}
use mir.Facts.{to_z-of_z}
use mir.Syntax.{w64}
use Rattle.jobs.specs.Words.{payloads_of, sent_of}
use Rattle.jobs.proofs.Jobs.{axes_left, axes-over, axes-counted}
use Rattle.jobs.proofs.writing.axes_length.Goals as goal
use Rattle.jobs.proofs.writing.axes_length.Goals.{After-bytes_of-stride}

-- one more axis is counted
counted : (c : After-bytes_of-stride) → let i = length c.loop-size.yielded in
    (i < length c.args.sizes.now) × (c.loop-size.total + (c.bytes_of-size.result + c.bytes_of-stride.result) ≤ 24 * (i + 1))
    × (c.loop-size.total + (c.bytes_of-size.result + c.bytes_of-stride.result) + length (axes_left c.args.sizes.now c.args.strides.now (i + 1))
    ≡ length (axes_left c.args.sizes.now c.args.strides.now 0))
counted c =
    let t = zip_turn c.args.sizes.now c.args.strides.now c.loop-size.yielded c.into_iter-size-iterator.result c.loop-size.size-iterator c.next.new.self c.next.result
    (search rules) (search rules) c.loop-size.yielded_by (c.in-Some.size, c.in-Some.stride) c.in-Some.is c.next.ensures.steps in
    let f : FitsSigned w64 c.in-Some.stride.now = search rules in
    let s = simp (to_z-of_z f) at c.sent.ensures in
    let a = c.bytes_of-size.ensures ∙ ap (λ (n : ℕ). 4 * length (payloads_of n)) (t.2 0) in
    let b = c.bytes_of-stride.ensures ∙ ap (λ (n : ℕ). 4 * length (payloads_of n)) (s ∙ ap sent_of (t.3 (pos 0))) in
    let k = axes-counted c.args.sizes.now c.args.strides.now c.requires.0 (length c.loop-size.yielded) t.0 _ _ _ _ c.loop-size.invariant.0 c.loop-size.invariant.1 a b in
    (t.0, k.0, k.1)

pub overflow_add-total : goal.overflow_add-total
overflow_add-total c = let k = counted c in omega arith

pub overflow_add-total-in-loop-size : goal.overflow_add-total-in-loop-size
overflow_add-total-in-loop-size c = let k = counted c in omega arith

pub loop-size-preserved : goal.loop-size-preserved
loop-size-preserved c = let k = counted c in rw (length_push c.loop-size.yielded (c.in-Some.size, c.in-Some.stride)) (k.1, k.2)

pub returns : goal.returns
returns c =
    let z = zip_end c.args.sizes.now c.args.strides.now c.loop-size.yielded c.into_iter-size-iterator.result c.loop-size.size-iterator c.next.new.self c.next.result
    (search rules) (search rules) c.loop-size.yielded_by c.in-None.is c.next.ensures.steps in
    let e = ap length (axes-over c.args.sizes.now c.args.strides.now c.requires.0 (length c.loop-size.yielded) (omega arith)) in
    record { value = omega arith; upper_bound = omega arith }
