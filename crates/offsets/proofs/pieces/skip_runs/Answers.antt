use Rattle.std.proofs.Common.{◌+◌, ◌^◌, ◌<◌, refl, arith, rules, get_or, pos, ◌+ℤ◌, ◌*ℤ◌}
use Rattle.std.proofs.Math.Facts.{to_z-of_z}
use mir.Val.{SFits}
use mir.Syntax.{w64}
use Rattle.integers.proofs.Machine.{pos-fits, to_z-small}
use Rattle.layout.specs.declared.traversal.FullTraversal.{FullTraversal}
use Rattle.offsets.specs.declared.pieces.RangeCursor.{RangeCursor}
use Rattle.offsets.specs.InnerCursors.{Traversal}
use Rattle.offsets.specs.InnerPieces.{skipped, OnRange}
use Rattle.offsets.proofs.Stepping.{Small, small-fits, share-fits, axis-small}
use Rattle.offsets.proofs.Walking.{on-run}
use Rattle.offsets.proofs.Skipping.{first_axis, first-axis, skip-small}
use Rattle.offsets.proofs.pieces.skip_runs.Goals as goal

-- along the axis: no more than its size, and every place is small
module _ (l : FullTraversal) (c : RangeCursor) (n : _) (t : Traversal l) (o : OnRange l c) (a : 0 < l.axis_count)
    (h : get_or c.runs.digits 0 0 + n < (first_axis l).extent) where
  n-small : n < 2 ^ 63
  n-small = omega (arith, axis-small _ (first-axis l t a))

  to-small : Small (c.runs.source_offset +ℤ (first_axis l).source_step *ℤ pos n)
  to-small = skip-small l t a o.base o.bounded c o.cursor_is n h

pub overflow_cast-runs : goal.overflow_cast-runs
overflow_cast-runs c = pos-fits _ (n-small c.args.l c.args.c c.args.n c.requires.0 c.requires.1 c.requires.2 c.requires.3)

pub overflow_mul-runs : goal.overflow_mul-runs
overflow_mul-runs c =
    let f : SFits w64 (first_axis c.args.l).source_step = search rules in
    let here = on-run c.args.l c.requires.0 c.args.c c.requires.1 in
    let there = to-small c.args.l c.args.c c.args.n c.requires.0 c.requires.1 c.requires.2 c.requires.3 in
    simp (to_z-of_z f, to_z-small _ (n-small c.args.l c.args.c c.args.n c.requires.0 c.requires.1 c.requires.2 c.requires.3))
    (share-fits c.args.c.runs.source_offset _ here there)

pub overflow_add-runs-2 : goal.overflow_add-runs-2
overflow_add-runs-2 c =
    let f : SFits w64 (first_axis c.args.l).source_step = search rules in
    let here = on-run c.args.l c.requires.0 c.args.c c.requires.1 in
    let there = to-small c.args.l c.args.c c.args.n c.requires.0 c.requires.1 c.requires.2 c.requires.3 in
    simp (
      to_z-of_z f,
      to_z-small _ (n-small c.args.l c.args.c c.args.n c.requires.0 c.requires.1 c.requires.2 c.requires.3),
      to_z-of_z (small-fits _ here),
      to_z-of_z (share-fits c.args.c.runs.source_offset _ here there),
    ) (small-fits _ there)

pub returns : goal.returns
unfolding skipped
returns c =
    let f : SFits w64 (first_axis c.args.l).source_step = search rules in
    let here = on-run c.args.l c.requires.0 c.args.c c.requires.1 in
    let there = to-small c.args.l c.args.c c.args.n c.requires.0 c.requires.1 c.requires.2 c.requires.3 in
    simp (
      to_z-of_z f,
      to_z-small _ (n-small c.args.l c.args.c c.args.n c.requires.0 c.requires.1 c.requires.2 c.requires.3),
      to_z-of_z (small-fits _ here),
      to_z-of_z (share-fits c.args.c.runs.source_offset _ here there),
      to_z-of_z (small-fits _ there),
    ) refl
