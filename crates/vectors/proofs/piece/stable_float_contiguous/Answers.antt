-- Side by side is a stride of 1.
use Rattle.std.proofs.Common.{ap, ◌∙◌}
use Rattle.kernels.specs.Blocks.{contiguous}
use Rattle.kernels.proofs.Striding.{strided-all}
use Rattle.vectors.proofs.piece.stable_float_contiguous.Goals as goal

pub returns : goal.returns
returns c = c.worked_piece.ensures ∙ ap contiguous (strided-all c.args.values.now)
