use Rattle.std.proofs.Common.{sym, ◌∙◌}
use mathlib.Core.Bool.{◌&&◌}
use lib.Ieee.{of_bits}
use Rattle.laws.proofs.Tests.{and_both}
use Rattle.windows.proofs.Sharing.{eight-shared}
use Rattle.windows.proofs.eight.eight_windows.Goals as goal

pub returns-then-had : goal.returns-then-had
unfolding of_bits
returns-then-had c =
    let p = and_both (c.none_below.result && c.none_below-2.result) c.none_past.result c.if-had.true in
    let q = and_both c.none_below.result c.none_below-2.result p.0 in
    eight-shared c.args.values.now c.type_inv.values c.args.w c.args.at c.args.least c.requires.1 c.lanes_from-a.result.full
    c.lanes_from-b.result.full c.lanes_from-a.result.more c.lanes_from-b.result.more c.lanes_from-a.ensures.full_value c.lanes_from-b.ensures.full_value
    c.lanes_from-a.ensures.more c.lanes_from-b.ensures.more c.beside-full.result c.beside-more.result c.times_lanes.result.v
    c.times_lanes-c.result.v c.beside-full.ensures c.beside-more.ensures c.times_lanes.ensures c.times_lanes-c.ensures
    (sym c.none_below.ensures ∙ q.0) (sym c.none_below-2.ensures ∙ q.1) (sym c.none_past.ensures ∙ p.1) c.requires.0
