-- `reduction::full::reduce_runs` meets its contract: the first piece, and the others joined onto it.
-- Assumes nothing.
use Prim.Native.Nat.{◌<◌}
use mathlib.Core.Path.{◌≡◌, sym, ◌∙◌, ap}
use native.Mathlib.Omega.{arith}
use lib.IntN.{pos}
use mir.Val.{SFits}
use mir.Facts.{to_z-of_z}
use mir.Syntax.{w64}
use Rattle.integers.specs.Integers.{eq_z}
use Rattle.offsets.specs.declared.pieces.RangeCursor.{RangeCursor}
use Rattle.offsets.specs.InnerPieces.{range_at}
use Rattle.kernels.specs.InnerStrided.{strided}
use Rattle.kernels.specs.Pieces.{worked, joined_pieces}
use Rattle.reduction.specs.Ranges.{pieces_of}
use Rattle.reduction.proofs.Ranges.{PieceTaken, taken, near, piece-sound, joined-first}
use Rattle.reduction.proofs.full.reduce_runs.Statement.{statement}
use Rattle.reduction.proofs.full.reduce_runs.Tie as tie

begin-requires : tie.Need-begin-requires
begin-requires c κs = simp (to_z-of_z c.ranges.base) (c.requires.0, c.requires.1)

began : (c : tie.After-begin) → c.begin.result ≡ range_at c.args.l c.args.base c.args.start
began c = simp (to_z-of_z c.ranges.base) at c.begin.ensures

start_is : (c : tie.After-begin) → c.begin.result.at ≡ c.args.start
unfolding range_at
start_is c = ap (λ (x : RangeCursor). x.at) (began c)

cursor_is : (c : tie.After-begin) → c.begin.result ≡ range_at c.args.l c.args.base c.begin.result.at
cursor_is c = began c ∙ ap (range_at c.args.l c.args.base) (sym (start_is c))

before-end : (c : tie.After-begin) → c.begin.result.at < c.args.end
before-end c = omega (arith, start_is c, c.requires.2)

next_piece-p-requires : tie.Need-next_piece-p-requires
next_piece-p-requires c κs =
    (c.requires.0, before-end c, record { base = c.args.base; bounded = c.requires.1; cursor_is = cursor_is c })

first_taken : (c : tie.After-next_piece-p)
    → PieceTaken c.args.l c.args.base c.args.values.now c.args.end c.begin.result c.next_piece-p.result
first_taken c =
    taken c.args.l c.requires.0 c.args.base c.requires.1 c.args.values.now c.requires.5 c.args.end c.requires.3 c.begin.result
    (cursor_is c.before) (before-end c.before) c.next_piece-p.result c.next_piece-p.ensures

first_fits : (c : tie.After-struct_told-2-1) → SFits w64 c.next_piece-p.result.first
first_fits c = record { sfits = c.struct_told-1.given.0.1 }

stride-fits : (c : tie.After-struct_told-2-1) → SFits w64 c.args.l.run_stride
stride-fits c = record { sfits = c.struct_told-2-1.given.1.1.0.1 }

reduce_piece-first-requires : tie.Need-reduce_piece-first-requires
reduce_piece-first-requires c κs =
    let n = c.before.before in
    let p = first_taken n in
    simp (to_z-of_z (first_fits c), to_z-of_z (stride-fits c)) (p.some_len, p.inside, omega (arith, p.ends, n.requires.3, n.requires.4))

first-worked : (c : tie.After-reduce_piece-first) → let n = c.before.before.before in
    let p = n.next_piece-p.result in
    c.reduce_piece-first.result ≡ worked (eq_z n.args.l.run_stride (pos 1)) (strided n.args.values.now p.first n.args.l.run_stride p.len)
first-worked c = simp (to_z-of_z (first_fits c.before), to_z-of_z (stride-fits c.before)) at c.reduce_piece-first.ensures

join_pieces-requires : tie.Need-join_pieces-requires
join_pieces-requires c κs =
    let n = c.before.before.before in
    let v = n.shared_slice_known-1.given in
    let p = first_taken n.before in
    let m = near _ _ _ _ _ _ p c.reduce_piece-first.result (first-worked c.before) v in
    simp (to_z-of_z n.ranges.base) (
      n.requires.0,
      n.requires.1,
      omega (arith, p.next_at, p.ends),
      n.requires.3,
      n.requires.4,
      n.requires.5,
      p.next_cursor_is,
      omega (arith, m, p.ends, n.requires.3, n.requires.4),
      piece-sound _ _ _ _ _ _ p c.reduce_piece-first.result (first-worked c.before) v,
    )

returns : tie.Need-returns
returns c =
    let r = c.before in
    let n = r.before.before.before in
    simp (to_z-of_z n.ranges.base) at c.join_pieces.ensures
    ∙ joined-first n.args.l n.args.base n.args.values.now n.args.end n.begin.result n.next_piece-p.result (first_taken n.before)
    r.reduce_piece-first.result (first-worked r.before) n.shared_slice_known-1.given
    ∙ ap (λ k. joined_pieces (pieces_of n.args.l n.args.base n.args.values.now k n.args.end)) (start_is n.before.before)

pub reduce_runs_spec : {M : Type 1} → statement M
reduce_runs_spec = tie.close (tie.spec begin-requires next_piece-p-requires reduce_piece-first-requires join_pieces-requires returns)
