use Rattle.std.proofs.Common.{rules, ℕ, ◌∙◌, ap, ◌*◌, ◌≤◌, ◌<◌, arith, length, pos, ◌+ℤ◌, ◌*ℤ◌, FitsSigned, w64}
use mir.Facts.{to_z-of_z}
use native.Mathlib.Nat.{mul-le-mul_right}
use Rattle.kernels.specs.InnerStrided.{PlacesInside}
use Rattle.offsets.specs.InnerPieces.{StripHere}
use Rattle.offsets.proofs.Ends.{inside-low, inside-high}
use Rattle.offsets.proofs.Runs.{strip-places-inside}
use Rattle.search.specs.InnerLooks.{look_answer}
use Rattle.search.proofs.Strips.{Walked, walked_none, walked-met, walked_more, walked_all}
use Rattle.search.proofs.first_in_range.Goals as goal

pub loop-c-init : goal.loop-c-init
loop-c-init c = walked_none c.args.l _ c.args.values.now c.args.start c.args.end c.begin-c.result c.requires.2 c.begin-c.ensures

pub next_strip-s-requires : goal.next_strip-s-requires
next_strip-s-requires c =
    let w : Walked c.args.l c.args.base c.args.values.now c.args.start c.args.end c.loop-c.c = simp (to_z-of_z c.ranges.base) at c.loop-c.invariant in (
      c.requires.0,
      c.loop-c-test.true,
      record { base = c.args.base; bounded = c.requires.1; cursor_is = w.cursor_is c.loop-c-test.true },
      c.requires.3,
      c.requires.4,
    )

-- how far a strip goes
one-run : (len count : ℕ) → 1 ≤ count → len ≤ count * len
one-run len count h = let m : 1 * len ≤ count * len = mul-le-mul_right len h in omega arith

pub first_in_strip-requires : goal.first_in_strip-requires
first_in_strip-requires c =
    let s = c.next_strip-s.result in
    let w : Walked c.args.l c.args.base c.args.values.now c.args.start c.args.end c.loop-c.c = simp (to_z-of_z c.ranges.base) at c.loop-c.invariant in
    let here : StripHere c.args.l c.args.base c.args.end c.loop-c.c s
    = c.next_strip-s.ensures c.args.base c.requires.1 (w.cursor_is c.loop-c-test.true) in
    let long = one-run s.len s.count here.some_run in
    let first : FitsSigned w64 s.first = search rules in
    let step : FitsSigned w64 s.step = search rules in
    let stride : FitsSigned w64 c.args.l.run_stride = search rules in
    let inside : (j : ℕ) → j < s.count → PlacesInside (length c.args.values.now) (s.first +ℤ s.step *ℤ pos j) c.args.l.run_stride s.len
    = λ j h.
    let lies = strip-places-inside c.args.l c.args.base c.args.end c.loop-c.c s here (length c.args.values.now) c.requires.0 c.requires.5
    c.requires.3 j h in
    record { least = λ i q. inside-low _ _ (lies i q); most = λ i q. inside-high _ _ (lies i q) } in
    simp (to_z-of_z first, to_z-of_z step, to_z-of_z stride) (
      here.some_len,
      omega (arith, long, here.ends, c.requires.3, c.requires.4),
      omega (arith, here.ends, c.requires.3, c.requires.4),
      inside,
    )

pub returns-in_err-signs : goal.returns-in_err-signs
returns-in_err-signs c =
    let s = c.next_strip-s.result in
    let w : Walked c.args.l c.args.base c.args.values.now c.args.start c.args.end c.loop-c.c = simp (to_z-of_z c.ranges.base) at c.loop-c.invariant in
    let here : StripHere c.args.l c.args.base c.args.end c.loop-c.c s
    = c.next_strip-s.ensures c.args.base c.requires.1 (w.cursor_is c.loop-c-test.true) in
    let first : FitsSigned w64 s.first = search rules in
    let step : FitsSigned w64 s.step = search rules in
    let stride : FitsSigned w64 c.args.l.run_stride = search rules in
    let told = simp (to_z-of_z first, to_z-of_z step, to_z-of_z stride) at c.in_err-signs.ensures in
    ap look_answer c.from_residual.ensures
    ∙ walked-met c.args.l c.args.base c.args.values.now c.args.start c.args.end c.loop-c.c w s here _ _ told

pub loop-c-preserved : goal.loop-c-preserved
loop-c-preserved c =
    let s = c.next_strip-s.result in
    let w : Walked c.args.l c.args.base c.args.values.now c.args.start c.args.end c.loop-c.c = simp (to_z-of_z c.ranges.base) at c.loop-c.invariant in
    let here : StripHere c.args.l c.args.base c.args.end c.loop-c.c s
    = c.next_strip-s.ensures c.args.base c.requires.1 (w.cursor_is c.loop-c-test.true) in
    let first : FitsSigned w64 s.first = search rules in
    let step : FitsSigned w64 s.step = search rules in
    let stride : FitsSigned w64 c.args.l.run_stride = search rules in
    let told = simp (to_z-of_z first, to_z-of_z step, to_z-of_z stride) at c.in_ok-signs.ensures in
    simp (to_z-of_z c.ranges.base) (walked_more c.args.l c.args.base c.args.values.now c.args.start c.args.end c.loop-c.c w s here told)

pub loop-c-smaller : goal.loop-c-smaller
loop-c-smaller c =
    let s = c.next_strip-s.result in
    let w : Walked c.args.l c.args.base c.args.values.now c.args.start c.args.end c.loop-c.c = simp (to_z-of_z c.ranges.base) at c.loop-c.invariant in
    let here : StripHere c.args.l c.args.base c.args.end c.loop-c.c s
    = c.next_strip-s.ensures c.args.base c.requires.1 (w.cursor_is c.loop-c-test.true) in
    let long = one-run s.len s.count here.some_run in
    omega (arith, c.loop-c-test.true, here.next_at, here.some_len, long)

pub returns : goal.returns
returns c =
    let w : Walked c.args.l c.args.base c.args.values.now c.args.start c.args.end c.loop-c.c = simp (to_z-of_z c.ranges.base) at c.loop-c.invariant in
    walked_all c.args.l c.args.base c.args.values.now c.args.start c.args.end c.loop-c.c w c.loop-c-test.false
