-- j runs hold no bad rate, so what is left decides; `from` is the number of the next element, and `at` the place of the next run, if there is one.
use Rattle.std.proofs.Common.{◌≡◌, ◌+◌, ◌-◌, ◌*◌, ◌<◌, pos, ◌+ℤ◌, ◌*ℤ◌}
use Rattle.offsets.specs.InnerLists.{steps, runs_places}
use Rattle.search.specs.Searching.{lowest_bad}
use Rattle.search.proofs.first_in_strip.Given as goal

abbrev pub invariant-loop-j : goal.invariant-loop-j
invariant-loop-j l =
    (l.from ≡ l.element + l.j * l.len)
    × (l.j < l.count → l.at ≡ l.first +ℤ l.step *ℤ pos l.j)
    × (lowest_bad l.values l.from (runs_places l.stride l.len (steps (l.first +ℤ l.step *ℤ pos l.j) l.step (l.count - l.j)))
    ≡ lowest_bad l.values l.element (runs_places l.stride l.len (steps l.first l.step l.count)))
