-- `reduction::full::join_pieces` meets its contract. The loop's invariant: what is left joins to the whole (`Reducing`).
-- Assumes nothing.
use Prim.Native.Nat.{ℕ, ◌+◌, ◌-◌, ◌*◌, ◌/◌, ◌%◌, ◌≤◌, ◌<◌}
use mathlib.Core.Path.{◌≡◌, refl}
use native.Mathlib.Omega.{arith}
use lib.ListN.{get_or}
use lib.Dec.{T}
use lib.Ieee.{nan, binary64, fits}
use native.Mathlib.Nat.{mul-le-mul_right}
use lib.IntN.{pos}
use mir.Val.{to_z, SFits}
use mir.Facts.{to_z-of_z}
use mir.Syntax.{w64}
use Rattle.offsets.specs.InnerPieces.{range_at, OnRange}
use Rattle.offsets.proofs.Stepping.{small-fits}
use Rattle.offsets.proofs.Walking.{on-run}
use Rattle.integers.specs.Integers.{eq_z}
use Rattle.kernels.specs.InnerStrided.{strided}
use Rattle.kernels.specs.Pieces.{worked, joined_onto}
use Rattle.accumulator.specs.declared.StableProductFloatAcc.{StableProductFloatAcc}
use Rattle.reduction.specs.Ranges.{pieces_of}
use Rattle.reduction.specs.InnerStrips.{strip}
use Rattle.reduction.proofs.Ranges.{PieceTaken, taken, Reducing, near, reducing-more, reducing-all}
use Rattle.offsets.proofs.Skipping.{first_axis}
use Rattle.offsets.proofs.Runs.{run-some, last-digit, on-last, behind-strip}
use Rattle.reduction.proofs.Strips.{runs-inside, reducing-strip}
use Rattle.reduction.proofs.full.join_pieces.Statement.{statement}
use Rattle.reduction.proofs.full.join_pieces.Tie as tie

abbrev invariant-loop-c : tie.invariant-loop-c
invariant-loop-c l base end values stride acc₀ c₀ acc c =
    Reducing l (to_z w64 base) values end (joined_onto acc₀ (pieces_of l (to_z w64 base) values c₀.at end)) acc c

abbrev decreases-loop-c : tie.decreases-loop-c
decreases-loop-c l base end values stride acc₀ c₀ acc c = end - c.at

-- the entry, from places further on
abbrev loop-told : tie.At-loop-c invariant-loop-c decreases-loop-c → tie.After-struct_told-1 invariant-loop-c decreases-loop-c
loop-told c = c.before

abbrev from-loop : tie.At-loop-c invariant-loop-c decreases-loop-c → tie.Start invariant-loop-c decreases-loop-c
from-loop c = (loop-told c).before.before

-- the values are of binary64
values-fit : (c : tie.At-loop-c invariant-loop-c decreases-loop-c) → (i : ℕ) → T (fits binary64 (get_or (from-loop c).args.values.now i nan))
values-fit c = (loop-told c).shared_slice_known-1.given

loop-c-init : tie.Need-loop-c-init invariant-loop-c decreases-loop-c
loop-c-init c =
    simp (to_z-of_z c.ranges.base) (record { upto = c.requires.2; cursor_is = c.requires.6; small = omega (arith, c.requires.7); sound = c.requires.8; rest = refl })

-- the invariant, over the base itself
abbrev whole : tie.At-loop-c invariant-loop-c decreases-loop-c → StableProductFloatAcc
whole c = let s = from-loop c in joined_onto s.args.acc (pieces_of s.args.l s.args.base s.args.values.now s.args.from.at s.args.end)

reducing : (c : tie.At-loop-c invariant-loop-c decreases-loop-c)
    → let s = from-loop c in Reducing s.args.l s.args.base s.args.values.now s.args.end (whole c) c.loop-c.acc c.loop-c.c
reducing c = let s = from-loop c in simp (to_z-of_z s.ranges.base) at c.loop-c.invariant

stride-kept : (c : tie.At-loop-c invariant-loop-c decreases-loop-c) → SFits w64 (from-loop c).args.l.run_stride
stride-kept c = record { sfits = (loop-told c).struct_told-1.given.1.1.0.1 }

on-range : (c : tie.In-loop-c invariant-loop-c decreases-loop-c) → OnRange (from-loop c.before.before).args.l c.loop-c.c
on-range c =
    let k = c.before.before in
    let s = from-loop k in
    record { base = s.args.base; bounded = s.requires.1; cursor_is = (reducing k).cursor_is c.loop-c-test.true }

whole_runs-n-requires : tie.Need-whole_runs-n-requires invariant-loop-c decreases-loop-c
whole_runs-n-requires c κs = let s = from-loop c.before.before in (s.requires.0, c.loop-c-test.true, on-range c, s.requires.4)

-- ---- one piece
next_piece-q-requires : tie.Need-next_piece-q-requires invariant-loop-c decreases-loop-c
next_piece-q-requires c κs =
    let t = c.before.before in
    ((from-loop t.before.before).requires.0, t.loop-c-test.true, on-range t)

next-taken : (c : tie.After-next_piece-q invariant-loop-c decreases-loop-c)
    → let k = c.before.before.before.before.before in
    let s = from-loop k in PieceTaken s.args.l s.args.base s.args.values.now s.args.end k.loop-c.c c.next_piece-q.result
next-taken c =
    let t = c.before.before.before in
    let k = t.before.before in
    let s = from-loop k in
    taken s.args.l s.requires.0 s.args.base s.requires.1 s.args.values.now s.requires.5 s.args.end s.requires.3 k.loop-c.c
    ((reducing k).cursor_is t.loop-c-test.true) t.loop-c-test.true c.next_piece-q.result c.next_piece-q.ensures

next_fits : (c : tie.After-struct_told-then-n-lt2-1 invariant-loop-c decreases-loop-c) → SFits w64 c.next_piece-q.result.first
next_fits c = record { sfits = c.struct_told-then-n-lt2-1.given.0.1 }

reduce_piece-b-requires : tie.Need-reduce_piece-b-requires invariant-loop-c decreases-loop-c
reduce_piece-b-requires c κs =
    let k = c.before.before.before.before.before.before in
    let s = from-loop k in
    let p = next-taken c.before in
    simp (to_z-of_z (next_fits c), to_z-of_z (stride-kept k)) (p.some_len, p.inside, omega (arith, p.ends, s.requires.3, s.requires.4))

-- what the next piece gave
next-worked : (c : tie.After-reduce_piece-b invariant-loop-c decreases-loop-c) → let t = c.before.before.before.before.before.before.before in
    let p = c.next_piece-q.result in
    let s = from-loop t in
    c.reduce_piece-b.result ≡ worked (eq_z s.args.l.run_stride (pos 1)) (strided s.args.values.now p.first s.args.l.run_stride p.len)
next-worked c =
    let k = c.before.before.before.before.before.before.before in
    simp (to_z-of_z (next_fits c.before), to_z-of_z (stride-kept k)) at c.reduce_piece-b.ensures

stable_float_combine-acc-requires : tie.Need-stable_float_combine-acc-requires invariant-loop-c decreases-loop-c
stable_float_combine-acc-requires c κs =
    let n = c.before.before in
    let k = n.before.before.before.before.before in
    let s = from-loop k in
    let p = next-taken n in
    let r = reducing k in
    let m = near _ _ _ s.args.end _ _ p c.reduce_piece-b.result (next-worked c) (values-fit k) in
    (omega (arith, r.small, r.upto, m, p.ends, s.requires.3, s.requires.4), omega (arith, r.small, r.upto, m, p.ends, s.requires.3, s.requires.4))

loop-c-smaller-then-n-lt2 : tie.Need-loop-c-smaller-then-n-lt2 invariant-loop-c decreases-loop-c
loop-c-smaller-then-n-lt2 c =
    let n = c.before.before.before.before in
    let p = next-taken n in
    omega (arith, n.loop-c-test.true, p.next_at, p.some_len)

loop-c-preserved-then-n-lt2 : tie.Need-loop-c-preserved-then-n-lt2 invariant-loop-c decreases-loop-c
loop-c-preserved-then-n-lt2 c =
    let w = c.before.before in
    let n = w.before.before in
    let k = n.before.before.before.before.before in
    let s = from-loop k in
    simp (to_z-of_z s.ranges.base)
    (reducing-more s.args.l s.args.base s.args.values.now s.args.end k.loop-c.c n.next_piece-q.result (next-taken n)
    w.reduce_piece-b.result (next-worked w) (values-fit k) (whole k) k.loop-c.acc (reducing k) c.stable_float_combine-acc.result
    c.stable_float_combine-acc.ensures)

-- ---- a strip
abbrev strip-loop : tie.Else-n-lt2 invariant-loop-c decreases-loop-c → tie.At-loop-c invariant-loop-c decreases-loop-c
strip-loop c = c.before.before.before.before

-- what lies ahead of the cursor
ahead : (c : tie.Else-n-lt2 invariant-loop-c decreases-loop-c) → let k = strip-loop c in let l = (from-loop k).args.l in let n = c.whole_runs-n.result in
    (0 < l.axis_count) × (k.loop-c.c.at % l.run_len ≡ 0) × (k.loop-c.c.at / l.run_len % (first_axis l).extent + n ≤ (first_axis l).extent)
    × (k.loop-c.c.at + n * l.run_len ≤ (from-loop k).args.end)
ahead c = c.whole_runs-n.ensures (omega (arith, c.if-n-lt2.false))

strip-cursor-is : (c : tie.Else-n-lt2 invariant-loop-c decreases-loop-c)
    → let k = strip-loop c in let s = from-loop k in k.loop-c.c ≡ range_at s.args.l s.args.base k.loop-c.c.at
strip-cursor-is c = (reducing (strip-loop c)).cursor_is c.loop-c-test.true

at-fits : (c : tie.Else-n-lt2 invariant-loop-c decreases-loop-c) → SFits w64 (strip-loop c).loop-c.c.runs.source_offset
at-fits c =
    let k = strip-loop c in
    let s = from-loop k in
    small-fits _ (on-run s.args.l s.requires.0 k.loop-c.c (on-range c.before.before))

step_fits : (c : tie.After-struct_told-else-n-lt2-2-1 invariant-loop-c decreases-loop-c)
    → SFits w64 (first_axis (from-loop (strip-loop c.before.before.before.before)).args.l).source_step
step_fits c = record { sfits = c.struct_told-else-n-lt2-2-1.given.1.0.1 }

bounds-axes-0 : tie.Need-bounds-axes-0 invariant-loop-c decreases-loop-c
bounds-axes-0 c = omega arith

reduce_strip-acc-requires : tie.Need-reduce_strip-acc-requires invariant-loop-c decreases-loop-c
reduce_strip-acc-requires c κs =
    let e = c.before.before.before.before in
    let k = strip-loop e in
    let s = from-loop k in
    let n = e.whole_runs-n.result in
    let r = reducing k in
    let a = ahead e in
    let len = s.args.l.run_len in
    let one : 1 ≤ n = omega (arith, e.if-n-lt2.false) in
    let m : 1 * len ≤ n * len = mul-le-mul_right len one in
    simp (to_z-of_z (at-fits e), to_z-of_z (step_fits c), to_z-of_z (stride-kept k)) (
      run-some s.args.l s.requires.0,
      omega (arith, m, a.3, s.requires.3, s.requires.4),
      omega (arith, a.3, s.requires.3, s.requires.4),
      omega (arith, r.small, r.upto, s.requires.3, s.requires.4),
      runs-inside s.args.l s.requires.0 s.args.base s.requires.1 s.args.values.now s.requires.5 s.args.end s.requires.3 k.loop-c.c
          (strip-cursor-is e) n a.0 a.1 a.2 a.3,
      r.sound,
    )

-- the strip's product, and the cursor behind it
strip-is : (c : tie.After-reduce_strip-acc invariant-loop-c decreases-loop-c) → let e = c.before.before.before.before.before in let k = strip-loop e in let s = from-loop k in
    c.reduce_strip-acc.result
    ≡ strip s.args.values.now (first_axis s.args.l).source_step s.args.l.run_stride s.args.l.run_len e.whole_runs-n.result
    k.loop-c.c.runs.source_offset k.loop-c.acc
strip-is c =
    let t = c.before.before.before.before.before in
    simp (to_z-of_z (at-fits t), to_z-of_z (step_fits c.before), to_z-of_z (stride-kept (strip-loop t))) at c.reduce_strip-acc.ensures

overflow_sub-n : tie.Need-overflow_sub-n invariant-loop-c decreases-loop-c
overflow_sub-n c = omega (arith, c.if-n-lt2.false)

skip_runs-last-requires : tie.Need-skip_runs-last-requires invariant-loop-c decreases-loop-c
skip_runs-last-requires c κs =
    let e = c.before.before.before.before.before in
    let k = strip-loop e in
    let s = from-loop k in
    let n = e.whole_runs-n.result in
    let a = ahead e in
    let m : (n - 1) * s.args.l.run_len ≤ n * s.args.l.run_len = mul-le-mul_right s.args.l.run_len (omega arith) in (
      s.requires.0,
      on-range e.before.before,
      a.0,
      last-digit s.args.l s.requires.0 s.args.base s.requires.1 s.args.end k.loop-c.c
          (strip-cursor-is e) n
          a.0 a.1 a.2 a.3 (omega (arith, e.if-n-lt2.false)),
      omega (arith, m, a.3, s.requires.3, s.requires.4),
    )

next_piece-q-requires-else-n-lt2 : tie.Need-next_piece-q-requires-else-n-lt2 invariant-loop-c decreases-loop-c
next_piece-q-requires-else-n-lt2 c κs =
    let e = c.before.before.before.before.before.before in
    let k = strip-loop e in
    let s = from-loop k in
    let a = ahead e in
    let o = on-last s.args.l s.requires.0 s.args.base s.requires.1 s.args.end k.loop-c.c
    (strip-cursor-is e) e.whole_runs-n.result a.0 a.1 a.2 a.3 (omega (arith, e.if-n-lt2.false)) c.skip_runs-last.result
    c.skip_runs-last.ensures in
    (s.requires.0, o.0, o.1)

-- the strip, from the piece of its last run; and the cursor behind that
abbrev strip-from : tie.After-next_piece-q-else-n-lt2 invariant-loop-c decreases-loop-c → tie.Else-n-lt2 invariant-loop-c decreases-loop-c
strip-from c = c.before.before.before.before.before.before.before

behind : (c : tie.After-next_piece-q-else-n-lt2 invariant-loop-c decreases-loop-c) → let e = strip-from c in let k = strip-loop e in let s = from-loop k in
    let d = c.next_piece-q-else-n-lt2.result.next in
    (d.at ≡ k.loop-c.c.at + e.whole_runs-n.result * s.args.l.run_len) × (d.at < s.args.end → d ≡ range_at s.args.l s.args.base d.at)
behind c =
    let e = strip-from c in
    let k = strip-loop e in
    let s = from-loop k in
    let a = ahead e in
    behind-strip s.args.l s.requires.0 s.args.base s.requires.1 s.args.end k.loop-c.c
    (strip-cursor-is e)
    e.whole_runs-n.result a.0 a.1 a.2 a.3 (omega (arith, e.if-n-lt2.false)) c.skip_runs-last.result c.skip_runs-last.ensures
    c.next_piece-q-else-n-lt2.result c.next_piece-q-else-n-lt2.ensures

loop-c-smaller : tie.Need-loop-c-smaller invariant-loop-c decreases-loop-c
loop-c-smaller c =
    let e = strip-from c.before in
    let k = strip-loop e in
    let s = from-loop k in
    let n = e.whole_runs-n.result in
    let len = s.args.l.run_len in
    let one : 1 ≤ n = omega (arith, e.if-n-lt2.false) in
    let m : 1 * len ≤ n * len = mul-le-mul_right len one in
    omega (arith, e.loop-c-test.true, (behind c.before).0, m, run-some s.args.l s.requires.0)

loop-c-preserved : tie.Need-loop-c-preserved invariant-loop-c decreases-loop-c
loop-c-preserved c =
    let p = c.before in
    let r = p.before.before in
    let e = strip-from p in
    let k = strip-loop e in
    let s = from-loop k in
    let a = ahead e in
    simp (to_z-of_z s.ranges.base)
    (reducing-strip s.args.l s.requires.0 s.args.base s.requires.1 s.args.values.now s.requires.5 s.args.end s.requires.3 k.loop-c.c
    (strip-cursor-is e) e.whole_runs-n.result a.0 a.1 a.2 a.3 (values-fit k) (whole k) k.loop-c.acc (reducing k)
    r.reduce_strip-acc.result (strip-is r) p.next_piece-q-else-n-lt2.result.next (behind p).0 (behind p).1)

returns : tie.Need-returns invariant-loop-c decreases-loop-c
returns c =
    let k = c.before.before in
    reducing-all _ _ _ _ _ _ _ (reducing k) (omega (arith, c.loop-c-test.false))

pub join_pieces_spec : {M : Type 1} → statement M
join_pieces_spec = tie.close (tie.spec invariant-loop-c decreases-loop-c loop-c-init whole_runs-n-requires next_piece-q-requires reduce_piece-b-requires stable_float_combine-acc-requires loop-c-smaller-then-n-lt2 loop-c-preserved-then-n-lt2 bounds-axes-0 reduce_strip-acc-requires overflow_sub-n skip_runs-last-requires next_piece-q-requires-else-n-lt2 loop-c-smaller loop-c-preserved returns)
