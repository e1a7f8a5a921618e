-- The statements of specs/Theorems hold.
use Rattle.offsets.specs.Theorems.{FusingChangesNothing, OneList}
use Rattle.offsets.proofs.Ranges.{clear, clear-accepted}
use Rattle.offsets.proofs.Reordered.{same-list-code, same-list-buffer}

pub fusing-changes-nothing : FusingChangesNothing
fusing-changes-nothing ns ss e h = (clear-accepted ns ss (clear ns ss e) h).same.offsets

pub one_list : OneList
one_list ns ns' ss ss' w base start end len out =
    (same-list-code ns ns' ss ss' w base start end len _, same-list-buffer ns ns' ss ss' w base start end len out)
