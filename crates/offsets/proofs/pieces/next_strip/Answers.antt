use Rattle.std.proofs.Common.{◌*◌, ◌-◌, ◌≤◌, arith, rules}
use Rattle.std.proofs.Math.Facts.{to_z-of_z}
use Rattle.std.proofs.Math.Nat.{mul-le-mul_right}
use mir.Val.{SFits}
use mir.Syntax.{w64}
use Rattle.offsets.proofs.Stepping.{small-fits}
use Rattle.offsets.proofs.Walking.{on-run, piece-here}
use Rattle.offsets.proofs.Skipping.{first_axis}
use Rattle.offsets.proofs.Runs.{last-digit, on-last, runs-strip, piece-strip}
use Rattle.offsets.proofs.pieces.next_strip.Goals as goal

pub returns-then-n-lt2 : goal.returns-then-n-lt2
returns-then-n-lt2 c = λ base b e.
    let f : SFits w64 c.next_piece-p.result.first = search rules in
    simp (to_z-of_z f)
    (piece-strip c.args.l base c.args.end c.args.c c.next_piece-p.result
    (piece-here c.args.l c.requires.0 base b c.args.end c.args.c e c.requires.1 c.next_piece-p.result c.next_piece-p.ensures))

pub skip_runs-last-requires : goal.skip_runs-last-requires
skip_runs-last-requires c =
    let some : 1 ≤ c.whole_runs-n.result = omega (arith, c.if-n-lt2.false) in
    let a = c.whole_runs-n.ensures (omega arith) in
    let o = c.requires.2 in
    let n = c.whole_runs-n.result in
    let m : (n - 1) * c.args.l.run_len ≤ n * c.args.l.run_len = mul-le-mul_right c.args.l.run_len (omega arith) in (
      c.requires.0,
      o,
      a.0,
      last-digit c.args.l c.requires.0 o.base o.bounded c.args.end c.args.c o.cursor_is n a.0 a.1 a.2 a.3 some,
      omega (arith, m, a.3, c.requires.3, c.requires.4),
    )

pub next_piece-q-requires : goal.next_piece-q-requires
next_piece-q-requires c =
    let some : 1 ≤ c.whole_runs-n.result = omega (arith, c.if-n-lt2.false) in
    let a = c.whole_runs-n.ensures (omega arith) in
    let o = c.requires.2 in
    let r = on-last c.args.l c.requires.0 o.base o.bounded c.args.end c.args.c o.cursor_is c.whole_runs-n.result a.0 a.1
    a.2 a.3 some c.skip_runs-last.result c.skip_runs-last.ensures in
    (c.requires.0, r.0, r.1)

pub returns : goal.returns
returns c = λ base b r.
    let some : 1 ≤ c.whole_runs-n.result = omega (arith, c.if-n-lt2.false) in
    let a = c.whole_runs-n.ensures (omega arith) in
    let f : SFits w64 (first_axis c.args.l).source_step = search rules in
    simp (to_z-of_z (small-fits _ (on-run c.args.l c.requires.0 c.args.c c.requires.2)), to_z-of_z f)
    (runs-strip c.args.l c.requires.0 base b c.args.end c.args.c r c.whole_runs-n.result a.0 a.1 a.2 a.3
    some c.skip_runs-last.result c.skip_runs-last.ensures c.next_piece-q.result c.next_piece-q.ensures)
