use Rattle.std.proofs.Common.{rules, Bool, true, false, List, ℕ, ◌≡◌, refl, sym, ◌∙◌, ap, subst, ◌+◌, ◌-◌, ◌%◌, ◌<◌, arith, length, FitsSigned, w64}
use Rattle.std.specs.Prelude.{IfSome, Option}
use mir.Facts.{to_z-of_z}
use mir.Val.{bool_byte}
use lib.Ieee.{Float}
use Rattle.std.proofs.lemmas.Result.{err_from_is_err_and}
use Rattle.refusals.specs.Codes.{number, code_of}
use Rattle.ranges.specs.Many.{bad_byte}
use Rattle.refusals.proofs.Numbers.{some-number}
use Rattle.vectors.specs.declared.vector.Vector.{Vector}
use Rattle.ranges.proofs.Writing.{acc-m, acc-e, acc-byte}
use Rattle.windows.specs.Windows.{window_count, windows_answer}
use Rattle.windows.specs.InnerEight.{EightWindows}
use Rattle.windows.proofs.Codes.{accepted}
use Rattle.windows.proofs.Calls.{told-refused, told-accepted}
use Rattle.windows.proofs.Writing.{wrote-more, length-wrote, wrote-all}
use Rattle.windows.proofs.reduce_windows.Goals as goal
use Rattle.windows.proofs.reduce_windows.Goals.{then-i-eq0, else-i-eq0}

pub returns-in_err-check_window : goal.returns-in_err-check_window
unfolding windows_answer
returns-in_err-check_window c =
    let r = c.in_err-check_window.field-0.0 in
    let p = err_from_is_err_and c.from_residual.result c.from_residual.ensures.1 in
    let same : p.0 ≡ r = cc in
    let e : code_of c.from_residual.result ≡ number r = ap code_of p.1 ∙ ap number same in
    let t = told-refused c.args.values.now c.args.w c.args.ms.now c.args.es.now c.args.bads.now _ (e ∙ c.in_err-check_window.ensures)
    (λ z. some-number r (sym e ∙ z)) in
    record { value = t.0; ms_after = t.1.0; es_after = t.1.1.0; bads_after = t.1.1.1 }

pub overflow_sub-count : goal.overflow_sub-count
overflow_sub-count c = (accepted _ _ _ _ _ (sym c.in_ok-check_window.ensures)).fits

-- the products of the eight windows that the one at i is of, if they were had
abbrev Had : List Float → ℕ → ℕ → Option Vector → Type 0
Had vs w i x = IfSome x (λ (v : Vector). EightWindows vs w (i - i % 8) v.v)

had-first : (vs : List Float) (w i : ℕ) (x y : Option Vector) → x ≡ y → i % 8 ≡ 0 → IfSome y (λ (v : Vector). EightWindows vs w i v.v) → Had vs w i x
had-first vs w i x y e z h =
    subst (Had vs w i) (sym e)
    (subst (λ (at : ℕ). IfSome y (λ (v : Vector). EightWindows vs w at v.v)) (let q : i ≡ i - i % 8 = omega arith in q) h)

pub window_at-acc-requires : goal.window_at-acc-requires
window_at-acc-requires c =
    let a = accepted _ _ _ _ _ (sym c.in_ok-check_window.ensures) in
    let vs = c.args.values.now in
    let i = c.loop-i.i in (
      a.some,
      a.few,
      omega (arith, c.loop-i-test.true, a.fits),
      elim c.if-i-eq0.branch [
        | then-i-eq0 w ↦ had-first vs c.args.w i _ _ w.eight-is w.if-i-eq0.true w.eight_at-eight.ensures
        | else-i-eq0 w ↦ subst (Had vs c.args.w i) (sym w.eight-is) (c.loop-i.invariant.3 (omega (arith, w.if-i-eq0.false)))
      ],
    )

pub bounds-ms-i : goal.bounds-ms-i
bounds-ms-i c =
    let a = accepted _ _ _ _ _ (sym c.in_ok-check_window.ensures) in
    let l = length-wrote acc-m c.args.values.now c.args.w c.args.ms.now a.room_m c.loop-i.i (omega (arith, c.loop-i-test.true)) _ c.loop-i.invariant.0 in
    omega (arith, l, a.room_m, c.loop-i-test.true)

pub bounds-es-i : goal.bounds-es-i
bounds-es-i c =
    let a = accepted _ _ _ _ _ (sym c.in_ok-check_window.ensures) in
    let l = length-wrote acc-e c.args.values.now c.args.w c.args.es.now a.room_e c.loop-i.i (omega (arith, c.loop-i-test.true)) _ c.loop-i.invariant.1 in
    omega (arith, l, a.room_e, c.loop-i-test.true)

pub bounds-bads-i : goal.bounds-bads-i
bounds-bads-i c =
    let a = accepted _ _ _ _ _ (sym c.in_ok-check_window.ensures) in
    let l = length-wrote acc-byte c.args.values.now c.args.w c.args.bads.now a.room_bad c.loop-i.i (omega (arith, c.loop-i-test.true)) _ c.loop-i.invariant.2 in
    omega (arith, l, a.room_bad, c.loop-i-test.true)

byte-is : (b : Bool) → bool_byte b ≡ bad_byte b
byte-is true = refl
byte-is false = refl

-- within eight windows the next one is of the same eight
later : (i : ℕ) → 0 < (i + 1) % 8 → i - i % 8 ≡ i + 1 - (i + 1) % 8
later i h = omega arith

pub loop-i-preserved : goal.loop-i-preserved
loop-i-preserved c =
    let a = accepted _ _ _ _ _ (sym c.in_ok-check_window.ensures) in
    let vs = c.args.values.now in
    let i = c.loop-i.i in
    let below : i < window_count (length vs) c.args.w = omega (arith, c.loop-i-test.true) in
    let p = c.window_at-acc.ensures in
    let fits : FitsSigned w64 c.window_at-acc.result.e = search rules in
    let had : Had vs c.args.w i c.if-i-eq0.eight
    = elim c.if-i-eq0.branch [
      | then-i-eq0 w ↦ had-first vs c.args.w i _ _ w.eight-is w.if-i-eq0.true w.eight_at-eight.ensures
      | else-i-eq0 w ↦ subst (Had vs c.args.w i) (sym w.eight-is) (c.loop-i.invariant.3 (omega (arith, w.if-i-eq0.false)))
    ] in (
      wrote-more acc-m vs c.args.w c.args.ms.now a.room_m i below _ c.loop-i.invariant.0 _ (ap acc-m p),
      wrote-more acc-e vs c.args.w c.args.es.now a.room_e i below _ c.loop-i.invariant.1 _ (to_z-of_z fits ∙ ap acc-e p),
      wrote-more acc-byte vs c.args.w c.args.bads.now a.room_bad i below _ c.loop-i.invariant.2 _ (c.from.ensures ∙ byte-is _ ∙ ap acc-byte p),
      λ h. subst (λ (at : ℕ). IfSome c.if-i-eq0.eight (λ (v : Vector). EightWindows vs c.args.w at v.v)) (later i h) had,
    )

pub returns : goal.returns
unfolding windows_answer
returns c =
    let a = accepted _ _ _ _ _ (sym c.in_ok-check_window.ensures) in
    let vs = c.args.values.now in
    let all : c.loop-i.i ≡ window_count (length vs) c.args.w = omega (arith, c.loop-i-test.false, c.loop-i.auto.i-end, a.fits) in
    let t = told-accepted vs c.args.w c.args.ms.now c.args.es.now c.args.bads.now c.in_ok-check_window.ensures _ _ _
    (wrote-all acc-m vs c.args.w c.args.ms.now a.room_m c.loop-i.i all _ c.loop-i.invariant.0)
    (wrote-all acc-e vs c.args.w c.args.es.now a.room_e c.loop-i.i all _ c.loop-i.invariant.1)
    (wrote-all acc-byte vs c.args.w c.args.bads.now a.room_bad c.loop-i.i all _ c.loop-i.invariant.2) in
    record { value = t.0; ms_after = t.1.0; es_after = t.1.1.0; bads_after = t.1.1.1 }
