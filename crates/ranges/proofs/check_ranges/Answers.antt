-- Each refusal in its rank.
use Rattle.std.proofs.Common.{ℕ, ◌≡◌, sym, ◌∙◌, ap}
use mathlib.Core.Bool.{not}
use mir.Facts.{to_z-of_z}
use Rattle.std.proofs.lemmas.Result.{err_from_is_err_and}
use Rattle.refusals.specs.Refusals.{first_of}
use Rattle.refusals.specs.Codes.{number, code_of}
use Rattle.refusals.proofs.Numbers.{some-number}
use Rattle.offsets.proofs.Ranges.{clear}
use Rattle.ranges.specs.Many.{ranges_of, each_refusals}
use Rattle.ranges.proofs.Codes.{code-16, code-each, code-places}
use Rattle.ranges.proofs.check_ranges.Goals as goal

pub returns-then-not-fit : goal.returns-then-not-fit
returns-then-not-fit c =
    code-16 c.args.sizes.now c.args.strides.now c.args.base c.args.starts.now c.args.ends.now c.args.len (not c.args.fit)
    (clear c.args.sizes.now c.args.strides.now c.requires.0) (ap not c.if-not-fit.true)

pub returns-in_err-check_ends : goal.returns-in_err-check_ends
returns-in_err-check_ends c =
    let r = c.in_err-check_ends.field-0.0 in
    let p = err_from_is_err_and c.from_residual.result c.from_residual.ensures.1 in
    let same : p.0 ≡ r = cc in
    let e = c.in_err-check_ends.ensures ∙ ap (λ (n : ℕ). first_of (each_refusals n (ranges_of c.args.starts.now c.args.ends.now))) c.requires.1 in
    ap code_of p.1
    ∙ ap number same
    ∙ e
    ∙ code-each c.args.sizes.now c.args.strides.now c.args.base c.args.starts.now c.args.ends.now c.args.len (not c.args.fit)
    (clear c.args.sizes.now c.args.strides.now c.requires.0) (ap not c.if-not-fit.false) (λ z. some-number r (e ∙ z))

pub returns : goal.returns
returns c =
    let e = c.in_ok-check_ends.ensures ∙ ap (λ (n : ℕ). first_of (each_refusals n (ranges_of c.args.starts.now c.args.ends.now))) c.requires.1 in
    (simp (to_z-of_z c.ranges.base) at c.check_places.ensures)
    ∙ code-places c.args.sizes.now c.args.strides.now c.args.base c.args.starts.now c.args.ends.now c.args.len (not c.args.fit)
    (clear c.args.sizes.now c.args.strides.now c.requires.0) (ap not c.if-not-fit.false) (sym e)
