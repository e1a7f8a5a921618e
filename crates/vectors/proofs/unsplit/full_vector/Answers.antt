-- A vector side by side, or a stride apart.
use Rattle.std.proofs.Common.{◌∙◌, to_z-of_z}
use Rattle.vectors.proofs.Vectors.{vector-whole}
use Rattle.vectors.proofs.unsplit.full_vector.Goals as goal

pub returns : goal.returns
returns c =
    simp (to_z-of_z c.ranges.at, to_z-of_z c.ranges.stride) at c.vector_of.ensures
    ∙ vector-whole c.args.values.now c.args.at c.args.stride
