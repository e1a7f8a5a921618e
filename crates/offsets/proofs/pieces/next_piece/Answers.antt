use Rattle.std.proofs.Common.{◌+◌, refl, arith, rules}
use Rattle.std.proofs.Math.Facts.{to_z-of_z}
use borrow.Author.Tests.{lt-ltb, le-ltb}
use mir.Val.{SFits}
use mir.Syntax.{w64}
use Rattle.integers.proofs.Machine.{pos-fits, to_z-small}
use Rattle.offsets.specs.Pieces.{outer_of}
use Rattle.offsets.specs.InnerPieces.{piece_of}
use Rattle.offsets.proofs.Stepping.{small-fits, share-fits}
use Rattle.offsets.proofs.Walking.{on-column, on-column-small, on-run, on-first, on-element}
use Rattle.offsets.proofs.pieces.next_piece.Goals as goal

pub overflow_sub-l : goal.overflow_sub-l
overflow_sub-l c = omega (arith, on-column c.args.l c.requires.0 c.args.c c.requires.2)

pub overflow_cast-first : goal.overflow_cast-first
overflow_cast-first c = pos-fits _ (on-column-small c.args.l c.requires.0 c.args.c c.requires.2)

pub overflow_mul-first : goal.overflow_mul-first
overflow_mul-first c =
    let f : SFits w64 c.args.l.run_stride = search rules in
    simp (to_z-of_z f, to_z-small _ (on-column-small c.args.l c.requires.0 c.args.c c.requires.2))
    (share-fits c.args.c.runs.source_offset _ (on-run c.args.l c.requires.0 c.args.c c.requires.2)
    (on-first c.args.l c.requires.0 c.args.c c.requires.2))

pub overflow_add-first : goal.overflow_add-first
overflow_add-first c =
    let f : SFits w64 c.args.l.run_stride = search rules in
    let here = on-run c.args.l c.requires.0 c.args.c c.requires.2 in
    let first = on-first c.args.l c.requires.0 c.args.c c.requires.2 in
    simp (
      to_z-of_z f,
      to_z-small _ (on-column-small c.args.l c.requires.0 c.args.c c.requires.2),
      to_z-of_z (small-fits _ here),
      to_z-of_z (share-fits c.args.c.runs.source_offset _ here first),
    ) (small-fits _ first)

pub to_next_run-requires : goal.to_next_run-requires
unfolding outer_of
to_next_run-requires c = (c.requires.0.places, c.requires.0.few, on-element c.args.l c.requires.0 c.args.c c.requires.2)

pub returns-then-k-end : goal.returns-then-k-end
unfolding piece_of outer_of
returns-then-k-end c =
    let f : SFits w64 c.args.l.run_stride = search rules in
    let here = on-run c.args.l c.requires.0 c.args.c c.requires.2 in
    let first = on-first c.args.l c.requires.0 c.args.c c.requires.2 in
    simp (
      to_z-of_z f,
      to_z-small _ (on-column-small c.args.l c.requires.0 c.args.c c.requires.2),
      to_z-of_z (small-fits _ here),
      to_z-of_z (share-fits c.args.c.runs.source_offset _ here first),
      to_z-of_z (small-fits _ first),
    ) (rw (← c.min-len.ensures, lt-ltb (c.args.c.at + c.min-len.result) c.args.end c.if-k-end.true, c.to_next_run.ensures) refl)

pub returns : goal.returns
unfolding piece_of outer_of
returns c =
    let f : SFits w64 c.args.l.run_stride = search rules in
    let here = on-run c.args.l c.requires.0 c.args.c c.requires.2 in
    let first = on-first c.args.l c.requires.0 c.args.c c.requires.2 in
    simp (
      to_z-of_z f,
      to_z-small _ (on-column-small c.args.l c.requires.0 c.args.c c.requires.2),
      to_z-of_z (small-fits _ here),
      to_z-of_z (share-fits c.args.c.runs.source_offset _ here first),
      to_z-of_z (small-fits _ first),
    ) (rw (← c.min-len.ensures, le-ltb (c.args.c.at + c.min-len.result) c.args.end c.if-k-end.false) refl)
