-- 7 by the test over the axes as they are given, and 0 without elements.
use Rattle.std.proofs.Common.{sym, ◌∙◌, [], arith}
use mir.Facts.{to_z-of_z}
use Rattle.refusals.specs.Refusals.{first_of}
use Rattle.offsets.proofs.Ranges.{clear, clear-axes, tested, place-7, place-0, place-empty}
use Rattle.ranges.proofs.check_places.Goals as goal
use Rattle.ranges.proofs.check_places.Goals.{then-total-eq0-via-then-total-eq0, then-total-eq0-via-else-total-eq0+then-inside}

pub inside-requires : goal.inside-requires
inside-requires c =
    let clears = clear c.args.sizes.now c.args.strides.now c.requires.0 in
    (clears.same, clear-axes c.args.sizes.now c.args.strides.now c.args.base c.args.length clears (omega (arith, c.requires.1, c.if-total-eq0.false)))

pub returns-then-total-eq0 : goal.returns-then-total-eq0
unfolding first_of
returns-then-total-eq0 c =
    elim c.then-total-eq0.branch [
      | then-total-eq0-via-then-total-eq0 w ↦
          sym (place-empty c.args.sizes.now c.args.strides.now c.args.base c.args.length (sym c.requires.1 ∙ w.if-total-eq0.true))
      | then-total-eq0-via-else-total-eq0+then-inside w ↦
          let told = simp (to_z-of_z c.ranges.base) at w.inside.ensures in
          sym (place-0 c.args.sizes.now c.args.strides.now c.args.base c.args.length
          (tested c.args.sizes.now c.args.strides.now c.args.base c.args.length (clear c.args.sizes.now c.args.strides.now c.requires.0)
          (omega (arith, c.requires.1, w.if-total-eq0.false)) _ (sym (sym told ∙ w.if-inside.true))) [])
    ]

pub returns : goal.returns
returns c =
    let told = simp (to_z-of_z c.ranges.base) at c.inside.ensures in
    sym (place-7 c.args.sizes.now c.args.strides.now c.args.base c.args.length
    (tested c.args.sizes.now c.args.strides.now c.args.base c.args.length (clear c.args.sizes.now c.args.strides.now c.requires.0)
    (omega (arith, c.requires.1, c.if-total-eq0.false)) _ (sym (sym told ∙ c.if-inside.false))))
