-- By the sign, from the magnitude. Assumes nothing.
use Rattle.std.proofs.Common.{ℕ, ◌+◌, ◌-◌, ◌∙◌, ap}
use mir.Facts.{to_z-of_z}
use Rattle.jobs.proofs.Coding.{sent-negative, sent-other}
use Rattle.jobs.proofs.numbers.sent.Goals as goal

pub returns-then-x-lt0 : goal.returns-then-x-lt0
returns-then-x-lt0 c =
    ap (λ (m : ℕ). m + (m - 1)) (simp (to_z-of_z c.ranges.x) at c.unsigned_abs-m.ensures.value)
    ∙ sent-negative c.args.x (simp (to_z-of_z c.ranges.x) at c.if-x-lt0.true)

pub returns : goal.returns
returns c =
    ap (λ (m : ℕ). m + m) (simp (to_z-of_z c.ranges.x) at c.unsigned_abs-m.ensures.value)
    ∙ sent-other c.args.x (simp (to_z-of_z c.ranges.x) at c.if-x-lt0.false)
