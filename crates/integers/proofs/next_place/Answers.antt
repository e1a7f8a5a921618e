use Rattle.std.proofs.Common.{◌<◌, ◌+ℤ◌, arith, w64}
use mir.Val.{SFits}
use mir.Facts.{to_z-of_z}
use Rattle.integers.proofs.Places.{next_fits}
use Rattle.integers.proofs.next_place.Goals as goal

pub overflow_add-result : goal.overflow_add-result
overflow_add-result c =
    let l : 0 < c.args.left = omega arith in
    simp (to_z-of_z c.ranges.at, to_z-of_z c.ranges.step) (next_fits c.args.at c.args.step c.args.left l (c.requires l))

pub returns-then-left-gt0 : goal.returns-then-left-gt0
returns-then-left-gt0 c = (
  λ l. let f : SFits w64 (c.args.at +ℤ c.args.step) = next_fits c.args.at c.args.step c.args.left l (c.requires l) in
      simp (to_z-of_z c.ranges.at, to_z-of_z c.ranges.step) (to_z-of_z f),
  λ e. absurd (omega arith),
)
