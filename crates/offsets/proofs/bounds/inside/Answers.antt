use Rattle.std.proofs.Common.{ℤ, arith, ◌∙◌, ap, sym}
use Rattle.std.proofs.Math.IntN.{nat_abs}
use Rattle.std.proofs.Math.Facts.{to_z-of_z}
use Rattle.integers.proofs.Machine.{nonneg_pos}
use Rattle.layout.specs.Axes.{axes_in}
use Rattle.layout.specs.InnerTables.{elements}
use Rattle.offsets.specs.Elements.{all_inside}
use Rattle.offsets.proofs.Inside.{base-below, base-past, last-inside}
use Rattle.offsets.proofs.bounds.inside.Goals as goal

pub returns-then-base-lt0 : goal.returns-then-base-lt0
returns-then-base-lt0 c = base-below _ c.requires.1 c.args.len c.args.base (simp (to_z-of_z c.ranges.base) at c.if-base-lt0.true)

pub returns-then-len-b : goal.returns-then-len-b
returns-then-len-b c =
    let whole = nonneg_pos c.args.base (simp (to_z-of_z c.ranges.base) at c.if-base-lt0.false) in
    let past = simp (to_z-of_z c.ranges.base) at c.if-len-b.true in
    rw whole (base-past _ c.requires.1 c.args.len (nat_abs c.args.base) past)

pub returns : goal.returns
returns c =
    let xs = axes_in c.args.sizes.now c.args.strides.now in
    let whole = nonneg_pos c.args.base (simp (to_z-of_z c.ranges.base) at c.if-base-lt0.false) in
    simp (to_z-of_z c.ranges.base, c.min.ensures) at c.inside_from.ensures
    ∙ last-inside _ c.requires.1 c.args.len (nat_abs c.args.base) (omega arith)
    ∙ ap (λ (z : ℤ). all_inside xs (elements xs) z c.args.len) (sym whole)
