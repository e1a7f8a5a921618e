-- Assumes nothing.
use mathlib.Core.Path.{refl, ◌∙◌}
use native.Mathlib.Omega.{arith}
use lib.IntN.{pos}
use Rattle.kernels.proofs.Striding.{beside}
use Rattle.vectors.proofs.vector.vector_beside.Goals as goal

pub overflow_cast-at : goal.overflow_cast-at
overflow_cast-at c =
    let s = beside c.args.values.now c.args.at (pos 1) 8 c.ranges.at refl c.requires (omega arith) in
    (s.natural, record { fits = omega (arith, s.ends, c.well_formed.0.1) })

pub vector_at-requires : goal.vector_at-requires
vector_at-requires c = (beside c.args.values.now c.args.at (pos 1) 8 c.ranges.at refl c.requires (omega arith)).ends

pub returns : goal.returns
returns c = c.vector_at.ensures ∙ (beside c.args.values.now c.args.at (pos 1) 8 c.ranges.at refl c.requires (omega arith)).same
