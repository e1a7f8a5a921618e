use Rattle.std.proofs.Common.{◌%◌, sym, ◌∙◌, ap}
use Rattle.std.proofs.Math.Facts.{to_z-of_z}
use Rattle.offsets.specs.declared.cursor.ReduceOuterCursor.{ReduceOuterCursor}
use Rattle.offsets.specs.Pieces.{outer_of}
use Rattle.offsets.specs.InnerPieces.{range_at}
use Rattle.offsets.proofs.Walking.{first-element, some_left, outer-axes, outer-bounded}
use Rattle.offsets.proofs.pieces.begin.Goals as goal

-- the layout's first element
pub returns-then-start-eq0 : goal.returns-then-start-eq0
returns-then-start-eq0 c =
    simp (to_z-of_z c.ranges.base) (first-element c.args.l c.requires.0 c.args.base ∙ ap (range_at c.args.l c.args.base) (sym c.if-start-eq0.true))

pub nonzero_rem-result : goal.nonzero_rem-result
nonzero_rem-result c = some_left c.args.l c.requires.0 c.args.base c.requires.1 c.args.start

pub nonzero_div-start : goal.nonzero_div-start
nonzero_div-start c = some_left c.args.l c.requires.0 c.args.base c.requires.1 c.args.start

pub decode-requires : goal.decode-requires
unfolding outer_of
decode-requires c =
    simp (to_z-of_z c.ranges.base) (
      c.requires.0.places,
      c.requires.0.few,
      outer-axes c.args.l c.requires.0 c.args.base c.requires.1 c.args.start,
      outer-bounded c.args.l c.requires.0 c.args.base c.requires.1 c.args.start,
    )

pub returns : goal.returns
unfolding range_at outer_of
returns c =
    ap (λ (r : ReduceOuterCursor). record { at = c.args.start; col = c.args.start % c.args.l.run_len; runs = r })
    (simp (to_z-of_z c.ranges.base) at c.decode.ensures)
