-- `offsets::cursor::ReduceOuterCursor::to_next_run` meets its contract: one turn of `advance` for the first axis, one for the second, or all of it.
-- Assumes nothing.
use Prim.Native.Nat.{ℕ, ◌+◌, ◌%◌, ◌<◌, ◌≤◌}
use mathlib.Core.Path.{◌≡◌, refl, ap}
use mathlib.Core.List.{List, ◌∷◌}
use native.Mathlib.Omega.{arith}
use native.Mathlib.Nat.{mod-lt}
use lib.ListN.{take, drop, get_or, set}
use lib.Seq.{length-take-le}
use lib.IntN.{◌+ℤ◌}
use mir.Val.{SFits}
use mir.Facts.{to_z-of_z}
use mir.Syntax.{w64}
use Rattle.layout.specs.declared.axis.ReduceOuterAxis.{ReduceOuterAxis}
use Rattle.layout.specs.Axes.{no_axis}
use Rattle.layout.proofs.Tables.{take-from}
use Rattle.offsets.specs.declared.cursor.ReduceOuterCursor.{ReduceOuterCursor}
use Rattle.offsets.proofs.Stepping.{small-fits, axis-small}
use Rattle.offsets.proofs.Cursors.{Advancing, advancing-none, advance-axis, advance-digit, advance-here, step-in-bounds, advanced-step, reset-in-bounds}
use Rattle.offsets.proofs.Cursors.{advancing-more}
use borrow.Author.Rules.{rules}
use Rattle.offsets.proofs.cursor.ReduceOuterCursor.to_next_run.Statement.{statement}
use Rattle.offsets.proofs.cursor.ReduceOuterCursor.to_next_run.Tie as tie

-- the outer axes, and the one in a place
abbrev outer : tie.Start → List ReduceOuterAxis
outer s = take s.args.count s.args.axes

abbrev axis : tie.Start → ℕ → ReduceOuterAxis
axis s i = get_or s.args.axes i no_axis

here : (s : tie.Start) (i : ℕ) → i < s.args.count → drop i (outer s) ≡ axis s i ∷ drop (i + 1) (outer s)
here s i h = take-from s.args.axes s.args.count no_axis i h (omega (arith, s.requires.0, s.requires.1))

-- at the first axis
begun : (s : tie.Start) → Advancing (outer s) s.args.self s.args.self 0
begun s = advancing-none _ _ s.requires.2

digit : (s : tie.Start) (h : 0 < s.args.count) → get_or s.args.self.digits 0 0 ≡ (begun s).index % (axis s 0).extent
digit s h = advance-digit _ _ _ _ (begun s) _ (here s 0 h)

-- at the second, the digit of the first back at 0
abbrev back : tie.Start → ReduceOuterCursor
back s = record { source_offset = s.args.self.source_offset +ℤ (axis s 0).source_reset; digits = set s.args.self.digits 0 0 }

carried : (s : tie.Start) (h : 0 < s.args.count) → (axis s 0).extent ≤ (begun s).index % (axis s 0).extent + 1
    → Advancing (outer s) s.args.self (back s) 1
carried s h k =
    advancing-more _ _ _ _ (begun s) (axis s 0) (here s 0 h) k
    (let n = length-take-le s.args.count s.args.axes (omega (arith, s.requires.0, s.requires.1)) in omega arith) (back s) refl refl

bounds-axes-0 : tie.Need-bounds-axes-0
bounds-axes-0 c = search rules

bounds-c-0 : tie.Need-bounds-c-0
bounds-c-0 c = search rules

overflow_add-d : tie.Need-overflow_add-d
overflow_add-d c =
    let u = c.before.before in
    let s = u.before in
    let a = advance-axis _ _ _ _ (begun s) _ (here s 0 u.if-count-gt0.true) in
    omega (arith, digit s u.if-count-gt0.true, mod-lt (begun s).index a.1, axis-small _ a)

bounds-c-0-then-d-first : tie.Need-bounds-c-0-then-d-first
bounds-c-0-then-d-first c = search rules

room : (c : tie.Then-d-first) → let u = c.before.before.before.before in let s = u.before in (begun s).index % (axis s 0).extent + 1 < (axis s 0).extent
room c = let u = c.before.before.before.before in omega (arith, digit u.before u.if-count-gt0.true, c.if-d-first.true)

full : (c : tie.Else-d-first) → let u = c.before.before.before.before in let s = u.before in (axis s 0).extent ≤ (begun s).index % (axis s 0).extent + 1
full c = let u = c.before.before.before.before in omega (arith, digit u.before u.if-count-gt0.true, c.if-d-first.false)

overflow_add-c : tie.Need-overflow_add-c
overflow_add-c c =
    let t = c.before.before.before in
    let u = t.before.before.before.before in
    let s = u.before in
    let h = here s 0 u.if-count-gt0.true in
    let f : SFits w64 (axis s 0).source_step = record { sfits = c.struct_told-then-d-first-1.given.1.0.1 } in
    simp (to_z-of_z f, to_z-of_z (small-fits _ (advance-here _ _ _ _ (begun s) _ h))) (small-fits _ (step-in-bounds _ _ _ _ (begun s) _ h (room t)))

returns-then-d-first : tie.Need-returns-then-d-first
returns-then-d-first c =
    let t = c.before.before.before in
    let u = t.before.before.before.before in
    let s = u.before in
    let h = here s 0 u.if-count-gt0.true in
    let f : SFits w64 (axis s 0).source_step = record { sfits = c.struct_told-then-d-first-1.given.1.0.1 } in
    simp (to_z-of_z f, to_z-of_z (small-fits _ (advance-here _ _ _ _ (begun s) _ h)), to_z-of_z (small-fits _ (step-in-bounds _ _ _ _ (begun s) _ h (room t))))
    (advanced-step _ _ _ _ (begun s) _ h (room t) _ refl (ap (λ (n : ℕ). set s.args.self.digits 0 (n + 1)) (digit s u.if-count-gt0.true)))

bounds-c-0-then-count-gt1 : tie.Need-bounds-c-0-then-count-gt1
bounds-c-0-then-count-gt1 c = search rules

overflow_add-c-then-count-gt1 : tie.Need-overflow_add-c-then-count-gt1
overflow_add-c-then-count-gt1 c =
    let t = c.before.before.before.before in
    let u = t.before.before.before.before in
    let s = u.before in
    let h = here s 0 u.if-count-gt0.true in
    let f : SFits w64 (axis s 0).source_reset = record { sfits = c.struct_told-then-count-gt1-2-1.given.1.1.0.1 } in
    simp (to_z-of_z f, to_z-of_z (small-fits _ (advance-here _ _ _ _ (begun s) _ h))) (small-fits _ (reset-in-bounds _ _ _ _ (begun s) _ h (full t)))

bounds-axes-1 : tie.Need-bounds-axes-1
bounds-axes-1 c = search rules

bounds-c-1 : tie.Need-bounds-c-1
bounds-c-1 c = search rules

-- the digit of the second axis
digit-2 : (c : tie.Then-count-gt1) → let u = c.before.before.before.before.before in let s = u.before in
    get_or (set s.args.self.digits 0 0) 1 0 ≡ (carried s u.if-count-gt0.true (full c.before)).index % (axis s 1).extent
digit-2 c =
    let u = c.before.before.before.before.before in
    let s = u.before in
    advance-digit _ _ _ _ (carried s u.if-count-gt0.true (full c.before)) _ (here s 1 c.if-count-gt1.true)

overflow_add-e : tie.Need-overflow_add-e
overflow_add-e c =
    let t = c.before.before.before.before.before in
    let u = t.before.before.before.before.before in
    let s = u.before in
    let p = carried s u.if-count-gt0.true (full t.before) in
    let a = advance-axis _ _ _ _ p _ (here s 1 t.if-count-gt1.true) in
    omega (arith, digit-2 t, mod-lt p.index a.1, axis-small _ a)

bounds-c-1-then-e-second : tie.Need-bounds-c-1-then-e-second
bounds-c-1-then-e-second c = search rules

room-2 : (c : tie.Then-e-second) → let t = c.before.before.before.before.before.before.before in let u = t.before.before.before.before.before in
    let s = u.before in (carried s u.if-count-gt0.true (full t.before)).index % (axis s 1).extent + 1 < (axis s 1).extent
room-2 c = let t = c.before.before.before.before.before.before.before in omega (arith, digit-2 t, c.if-e-second.true)

overflow_add-c-then-e-second : tie.Need-overflow_add-c-then-e-second
overflow_add-c-then-e-second c =
    let v = c.before.before.before in
    let t = v.before.before.before.before.before.before.before in
    let u = t.before.before.before.before.before in
    let s = u.before in
    let p = carried s u.if-count-gt0.true (full t.before) in
    let h = here s 0 u.if-count-gt0.true in
    let k = here s 1 t.if-count-gt1.true in
    let f : SFits w64 (axis s 0).source_reset = record { sfits = v.struct_told-then-count-gt1-2-1.given.1.1.0.1 } in
    let g : SFits w64 (axis s 1).source_step = record { sfits = c.struct_told-then-e-second-2-1.given.1.0.1 } in
    simp (
      to_z-of_z f,
      to_z-of_z g,
      to_z-of_z (small-fits _ (advance-here _ _ _ _ (begun s) _ h)),
      to_z-of_z (small-fits _ (reset-in-bounds _ _ _ _ (begun s) _ h (full t.before))),
    ) (small-fits _ (step-in-bounds _ _ _ _ p _ k (room-2 v)))

returns-then-e-second : tie.Need-returns-then-e-second
returns-then-e-second c =
    let v = c.before.before.before in
    let t = v.before.before.before.before.before.before.before in
    let u = t.before.before.before.before.before in
    let s = u.before in
    let p = carried s u.if-count-gt0.true (full t.before) in
    let h = here s 0 u.if-count-gt0.true in
    let k = here s 1 t.if-count-gt1.true in
    let f : SFits w64 (axis s 0).source_reset = record { sfits = v.struct_told-then-count-gt1-2-1.given.1.1.0.1 } in
    let g : SFits w64 (axis s 1).source_step = record { sfits = c.struct_told-then-e-second-2-1.given.1.0.1 } in
    simp (
      to_z-of_z f,
      to_z-of_z g,
      to_z-of_z (small-fits _ (advance-here _ _ _ _ (begun s) _ h)),
      to_z-of_z (small-fits _ (reset-in-bounds _ _ _ _ (begun s) _ h (full t.before))),
      to_z-of_z (small-fits _ (step-in-bounds _ _ _ _ p _ k (room-2 v))),
    ) (advanced-step _ _ _ _ p _ k (room-2 v) _ refl (ap (λ (n : ℕ). set (set s.args.self.digits 0 0) 1 (n + 1)) (digit-2 t)))

advance-requires : tie.Need-advance-requires
advance-requires c κs = search rules

returns : tie.Need-returns
returns c = search rules

pub to_next_run_spec : {M : Type 1} → statement M
to_next_run_spec = tie.close (tie.spec bounds-axes-0 bounds-c-0 overflow_add-d bounds-c-0-then-d-first overflow_add-c returns-then-d-first bounds-c-0-then-count-gt1 overflow_add-c-then-count-gt1 bounds-axes-1 bounds-c-1 overflow_add-e bounds-c-1-then-e-second overflow_add-c-then-e-second returns-then-e-second advance-requires returns)
