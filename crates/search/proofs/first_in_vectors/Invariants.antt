-- i vectors hold no bad value, so what is left decides; `at` is the place of the next chunk, if there is one.
use Rattle.std.proofs.Common.{◌≡◌, ◌+◌, ◌-◌, ◌*◌, ◌<◌, pos, ◌+ℤ◌, ◌*ℤ◌}
use Rattle.offsets.specs.InnerLists.{steps}
use Rattle.search.specs.Searching.{lowest_bad}
use Rattle.search.proofs.first_in_vectors.Given as goal

abbrev pub invariant-loop-i : goal.invariant-loop-i
invariant-loop-i l =
    (l.i < l.vectors → l.at ≡ l.first +ℤ l.stride *ℤ pos (8 * l.i))
    × (lowest_bad l.values (l.element + 8 * l.i) (steps (l.first +ℤ l.stride *ℤ pos (8 * l.i)) l.stride (8 * l.vectors - 8 * l.i))
    ≡ lowest_bad l.values l.element (steps l.first l.stride (8 * l.vectors)))

abbrev pub decreases-loop-i : goal.decreases-loop-i
decreases-loop-i l = l.vectors - l.i
