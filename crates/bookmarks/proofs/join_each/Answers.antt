use Rattle.std.proofs.Common.{rules, ℕ, ◌≡◌, refl, sym, ◌∙◌, ap, arith, FitsSigned, to_z, of_z, w64}
use mir.Facts.{to_z-of_z}
use Rattle.std.specs.Prelude.{Err, Ok}
use Rattle.std.proofs.lemmas.Result.{err_from_is_err_and}
use Rattle.offsets.specs.declared.pieces.RangeCursor.{RangeCursor}
use Rattle.offsets.specs.InnerPieces.{range_at}
use Rattle.accumulator.specs.Joining.{answer_of}
use Rattle.reduction.specs.Ranges.{pieces_of}
use Rattle.reduction.proofs.Ranges.{taken}
use Rattle.bookmarks.specs.Steps.{joined_within}
use Rattle.bookmarks.proofs.OneByOne.{joining-all, joining-refused, joining-more}
use Rattle.bookmarks.proofs.join_each.Goals as goal

pub loop-c-init : goal.loop-c-init
unfolding range_at
loop-c-init c =
    let at : c.begin-c.result.at ≡ c.args.k = ap (λ (x : RangeCursor). x.at) c.begin-c.ensures in
    record {
      upto = omega (arith, at, c.requires.2);
      cursor_is = λ h. c.begin-c.ensures ∙ ap (range_at c.args.l (to_z w64 (of_z w64 c.args.base))) (sym at);
      within = c.requires.6;
      sound = c.requires.7;
      rest = ap (λ (n : ℕ). joined_within c.args.acc (pieces_of c.args.l (to_z w64 (of_z w64 c.args.base)) c.args.values.now n c.args.end)) at;
    }

pub next_piece-p-requires : goal.next_piece-p-requires
next_piece-p-requires c =
    let s = simp (to_z-of_z c.ranges.base) at c.loop-c.invariant in
    (c.requires.0, c.loop-c-test.true, record { base = c.args.base; bounded = c.requires.1; cursor_is = s.cursor_is c.loop-c-test.true })

pub reduce_piece-b-requires : goal.reduce_piece-b-requires
reduce_piece-b-requires c =
    let s = simp (to_z-of_z c.ranges.base) at c.loop-c.invariant in
    let p = taken c.args.l c.requires.0 c.args.base c.requires.1 c.args.values.now c.requires.5 c.args.end c.requires.3 c.loop-c.c
    (s.cursor_is c.loop-c-test.true) c.loop-c-test.true c.next_piece-p.result c.next_piece-p.ensures in
    let first : FitsSigned w64 c.next_piece-p.result.first = search rules in
    let stride : FitsSigned w64 c.args.l.run_stride = search rules in
    simp (to_z-of_z first, to_z-of_z stride) (p.some_len, p.inside, omega (arith, p.ends, c.requires.3, c.requires.4))

pub returns-in_err-acc : goal.returns-in_err-acc
returns-in_err-acc c =
    let s = simp (to_z-of_z c.ranges.base) at c.loop-c.invariant in
    let p = taken c.args.l c.requires.0 c.args.base c.requires.1 c.args.values.now c.requires.5 c.args.end c.requires.3 c.loop-c.c
    (s.cursor_is c.loop-c-test.true) c.loop-c-test.true c.next_piece-p.result c.next_piece-p.ensures in
    let first : FitsSigned w64 c.next_piece-p.result.first = search rules in
    let stride : FitsSigned w64 c.args.l.run_stride = search rules in
    let worked_is = simp (to_z-of_z first, to_z-of_z stride) at c.reduce_piece-b.ensures in
    let r = c.in_err-acc.field-0.0 in
    let q = err_from_is_err_and c.from_residual.result c.from_residual.ensures.1 in
    let same : q.0 ≡ r = cc in
    ap answer_of q.1
    ∙ ap (λ x. answer_of (Err x)) same
    ∙ joining-refused c.args.l c.args.base c.args.values.now c.args.end c.loop-c.c c.next_piece-p.result p c.reduce_piece-b.result
    worked_is c.type_inv.values (omega (arith, p.ends, c.requires.3, c.requires.4)) _ c.loop-c.acc s (Err r) c.in_err-acc.ensures r refl

pub loop-c-smaller : goal.loop-c-smaller
loop-c-smaller c =
    let s = simp (to_z-of_z c.ranges.base) at c.loop-c.invariant in
    let p = taken c.args.l c.requires.0 c.args.base c.requires.1 c.args.values.now c.requires.5 c.args.end c.requires.3 c.loop-c.c
    (s.cursor_is c.loop-c-test.true) c.loop-c-test.true c.next_piece-p.result c.next_piece-p.ensures in
    omega (arith, c.loop-c-test.true, p.next_at, p.some_len)

pub loop-c-preserved : goal.loop-c-preserved
loop-c-preserved c =
    let s = simp (to_z-of_z c.ranges.base) at c.loop-c.invariant in
    let p = taken c.args.l c.requires.0 c.args.base c.requires.1 c.args.values.now c.requires.5 c.args.end c.requires.3 c.loop-c.c
    (s.cursor_is c.loop-c-test.true) c.loop-c-test.true c.next_piece-p.result c.next_piece-p.ensures in
    let first : FitsSigned w64 c.next_piece-p.result.first = search rules in
    let stride : FitsSigned w64 c.args.l.run_stride = search rules in
    let worked_is = simp (to_z-of_z first, to_z-of_z stride) at c.reduce_piece-b.ensures in
    simp (to_z-of_z c.ranges.base)
    (joining-more c.args.l c.args.base c.args.values.now c.args.end c.loop-c.c c.next_piece-p.result p c.reduce_piece-b.result
    worked_is c.type_inv.values (omega (arith, p.ends, c.requires.3, c.requires.4)) _ c.loop-c.acc s (Ok c.in_ok-acc.acc) c.in_ok-acc.ensures c.in_ok-acc.acc refl)

pub returns : goal.returns
returns c =
    let s = simp (to_z-of_z c.ranges.base) at c.loop-c.invariant in
    joining-all _ _ _ _ _ _ _ s c.loop-c-test.false
