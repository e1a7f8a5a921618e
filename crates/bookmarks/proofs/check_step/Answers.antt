use Rattle.std.proofs.Common.{sym, ◌∙◌, arith}
use borrow.Author.Tests.{eq-eqb, ne_eqb}
use Rattle.refusals.specs.Refusals.{first_of}
use Rattle.bookmarks.specs.Steps.{step_refusals}
use Rattle.bookmarks.proofs.check_step.Goals as goal
use Rattle.bookmarks.proofs.check_step.Goals.{else-at-start-via-then-at-start+else-not-in_limits, else-at-start-via-else-at-start}

pub returns-then-n-eq0 : goal.returns-then-n-eq0
unfolding first_of step_refusals
returns-then-n-eq0 c = rw (eq-eqb c.args.n 0 c.if-n-eq0.true)

pub returns-then-not-begins_piece : goal.returns-then-not-begins_piece
unfolding first_of step_refusals
returns-then-not-begins_piece c = rw (ne_eqb c.args.n 0 c.if-n-eq0.false, sym c.begins_piece.ensures ∙ c.if-not-begins_piece.true)

pub returns-then-not-in_limits : goal.returns-then-not-in_limits
unfolding first_of step_refusals
returns-then-not-in_limits c =
    rw (
      ne_eqb c.args.n 0 c.if-n-eq0.false,
      sym c.begins_piece.ensures ∙ c.if-not-begins_piece.false,
      ne_eqb c.args.mark.next c.args.start (λ e. omega arith),
      sym c.in_limits.ensures ∙ c.if-not-in_limits.true,
    )

pub returns : goal.returns
unfolding first_of step_refusals
returns c =
    let n = ne_eqb c.args.n 0 c.if-n-eq0.false in
    let b = sym c.begins_piece.ensures ∙ c.if-not-begins_piece.false in
    elim c.else-at-start.branch [
      | else-at-start-via-then-at-start+else-not-in_limits w ↦
          rw (n, b, ne_eqb c.args.mark.next c.args.start w.if-at-start.true, sym w.in_limits.ensures ∙ w.if-not-in_limits.false)
      | else-at-start-via-else-at-start w ↦ rw (n, b, eq-eqb c.args.mark.next c.args.start w.if-at-start.false)
    ]
