use Rattle.std.proofs.Common.{rules, ℕ, ◌≡◌, refl, sym, ◌∙◌, ap, Bool, true, false, ◌<◌, arith, List, length, ℤ, FitsSigned, w64}
use mathlib.Core.Bool.{not}
use mir.Facts.{to_z-of_z}
use mir.Val.{bool_byte}
use lib.Ieee.{Float}
use Rattle.std.proofs.lemmas.Result.{err_from_is_err_and}
use Rattle.refusals.specs.Codes.{number, code_of}
use Rattle.layout.specs.Compile.{Compiled}
use Rattle.refusals.proofs.Numbers.{some-number}
use Rattle.offsets.proofs.Checked.{compiled, layout-compiled}
use Rattle.ranges.specs.Many.{unfit, code_by, many_code, bad_byte}
use Rattle.ranges.proofs.Codes.{fit, code-compile, code-many, Accepted, accepted}
use Rattle.ranges.proofs.Calls.{told-refused, told-accepted, ready}
use Rattle.ranges.proofs.Writing.{acc-m, acc-e, acc-byte, wrote-more, length-wrote, wrote-all}
use Rattle.ranges.proofs.reduce_ranges.Goals as goal

pub returns-in_err-compile_in_place : goal.returns-in_err-compile_in_place
returns-in_err-compile_in_place c =
    let r = c.in_err-compile_in_place.field-0.0 in
    let p = err_from_is_err_and c.from_residual.result c.from_residual.ensures.1 in
    let same : p.0 ≡ r = cc in
    let e : code_of c.from_residual.result ≡ number r = ap code_of p.1 ∙ ap number same in
    let k = ap (λ (x : Compiled). x.code) c.in_err-compile_in_place.ensures.value in
    let misfit = unfit (length c.args.starts.now) (length c.args.ends.now) (length c.args.ms.now) (length c.args.es.now) (length c.args.bads.now) in
    let t = told-refused c.args.sizes.now c.args.strides.now c.args.base c.args.starts.now c.args.ends.now c.args.values.now c.args.ms.now c.args.es.now
    c.args.bads.now _
    (e
    ∙ k
    ∙ code-compile c.args.sizes.now c.args.strides.now c.args.base c.args.starts.now c.args.ends.now (length c.args.values.now) misfit
    (λ z. some-number r (k ∙ z))
    ∙ code-many c.args.sizes.now c.args.strides.now c.args.base c.args.starts.now c.args.ends.now c.args.values.now c.args.ms.now c.args.es.now
    c.args.bads.now misfit refl) (λ z. some-number r (sym e ∙ z)) in
    record { value = t.0; ms_after = t.1.0; es_after = t.1.1.0; bads_after = t.1.1.1 }

pub check_ranges-requires : goal.check_ranges-requires
check_ranges-requires c =
    let l = compiled c.args.sizes.now c.args.strides.now c.compile_in_place.new.self c.in_ok-compile_in_place.ensures.value in
    (l.0, l.1, λ t. (fit _ _ _ _ _ (sym c.lists_fit-fit.ensures ∙ ap not t)).same)

-- an accepted call, and what was checked
allowed : (ns : List ℕ) (ss : List ℤ) (base : ℤ) (starts ends : List ℕ) (values ms : List Float) (es : List ℤ) (bads : List ℕ) (fits : Bool)
    → not fits ≡ unfit (length starts) (length ends) (length ms) (length es) (length bads) → 0 ≡ code_by ns ss base starts ends (length values) (not fits)
    → Accepted ns ss base starts ends values ms es bads
allowed ns ss base starts ends values ms es bads fits f e =
    accepted ns ss base starts ends values ms es bads (sym (e ∙ code-many ns ss base starts ends values ms es bads (not fits) f))

pub returns-in_err-check_ranges : goal.returns-in_err-check_ranges
returns-in_err-check_ranges c =
    let r = c.in_err-check_ranges.field-0.0 in
    let p = err_from_is_err_and c.from_residual-in_err-check_ranges.result c.from_residual-in_err-check_ranges.ensures.1 in
    let same : p.0 ≡ r = cc in
    let e : code_of c.from_residual-in_err-check_ranges.result ≡ number r = ap code_of p.1 ∙ ap number same in
    let t = told-refused c.args.sizes.now c.args.strides.now c.args.base c.args.starts.now c.args.ends.now c.args.values.now c.args.ms.now c.args.es.now
    c.args.bads.now _
    (e
    ∙ (simp (to_z-of_z c.ranges.base) at c.in_err-check_ranges.ensures)
    ∙ code-many c.args.sizes.now c.args.strides.now c.args.base c.args.starts.now c.args.ends.now c.args.values.now c.args.ms.now c.args.es.now
    c.args.bads.now _ c.lists_fit-fit.ensures) (λ z. some-number r (sym e ∙ z)) in
    record { value = t.0; ms_after = t.1.0; es_after = t.1.1.0; bads_after = t.1.1.1 }

pub bounds-starts-i : goal.bounds-starts-i
bounds-starts-i c =
    let a = allowed _ _ _ _ _ c.args.values.now _ _ _ _ c.lists_fit-fit.ensures c.in_ok-check_ranges.ensures in omega (arith, a.fits.same, c.loop-i-test.true)

pub reduce_full_range-acc-requires : goal.reduce_full_range-acc-requires
reduce_full_range-acc-requires c =
    let a = allowed c.args.sizes.now c.args.strides.now c.args.base c.args.starts.now c.args.ends.now c.args.values.now c.args.ms.now c.args.es.now
    c.args.bads.now _ c.lists_fit-fit.ensures (simp (to_z-of_z c.ranges.base) at c.in_ok-check_ranges.ensures) in
    let r = ready c.args.sizes.now c.args.strides.now c.args.base c.args.starts.now c.args.ends.now c.args.values.now c.args.ms.now c.args.es.now
    c.args.bads.now c.compile_in_place.new.self (layout-compiled c.args.sizes.now c.args.strides.now c.compile_in_place.new.self c.in_ok-compile_in_place.ensures.value) a c.loop-i.i
    (omega (arith, a.fits.same, c.loop-i-test.true)) in
    simp (to_z-of_z c.ranges.base) (r.traversal, r.bounded, r.forward, r.inside, r.few, r.within)

pub bounds-ms-i : goal.bounds-ms-i
bounds-ms-i c =
    let f = (allowed _ _ _ _ _ c.args.values.now _ _ _ _ c.lists_fit-fit.ensures c.in_ok-check_ranges.ensures).fits in
    let below : c.loop-i.i < length c.args.starts.now = omega (arith, f.same, c.loop-i-test.true) in
    let l = length-wrote _ _ _ _ _ acc-m c.args.ms.now f.same f.room_m c.loop-i.i (omega (arith, below)) _ c.loop-i.invariant.0 in
    omega (arith, l, f.room_m, below)

pub bounds-es-i : goal.bounds-es-i
bounds-es-i c =
    let f = (allowed _ _ _ _ _ c.args.values.now _ _ _ _ c.lists_fit-fit.ensures c.in_ok-check_ranges.ensures).fits in
    let below : c.loop-i.i < length c.args.starts.now = omega (arith, f.same, c.loop-i-test.true) in
    let l = length-wrote _ _ _ _ _ acc-e c.args.es.now f.same f.room_e c.loop-i.i (omega (arith, below)) _ c.loop-i.invariant.1 in
    omega (arith, l, f.room_e, below)

pub bounds-bads-i : goal.bounds-bads-i
bounds-bads-i c =
    let f = (allowed _ _ _ _ _ c.args.values.now _ _ _ _ c.lists_fit-fit.ensures c.in_ok-check_ranges.ensures).fits in
    let below : c.loop-i.i < length c.args.starts.now = omega (arith, f.same, c.loop-i-test.true) in
    let l = length-wrote _ _ _ _ _ acc-byte c.args.bads.now f.same f.room_bad c.loop-i.i (omega (arith, below)) _ c.loop-i.invariant.2 in
    omega (arith, l, f.room_bad, below)

byte-is : (b : Bool) → bool_byte b ≡ bad_byte b
byte-is true = refl
byte-is false = refl

pub loop-i-preserved : goal.loop-i-preserved
loop-i-preserved c =
    let f = (allowed _ _ _ _ _ c.args.values.now _ _ _ _ c.lists_fit-fit.ensures c.in_ok-check_ranges.ensures).fits in
    let below : c.loop-i.i < length c.args.starts.now = omega (arith, f.same, c.loop-i-test.true) in
    let p = c.reduce_full_range-acc.ensures in
    let fits : FitsSigned w64 c.reduce_full_range-acc.result.e = search rules in (
      wrote-more _ _ _ _ _ acc-m c.args.ms.now f.same f.room_m c.loop-i.i below _ c.loop-i.invariant.0 _ (ap acc-m p),
      wrote-more _ _ _ _ _ acc-e c.args.es.now f.same f.room_e c.loop-i.i below _ c.loop-i.invariant.1 _ (to_z-of_z fits ∙ ap acc-e p),
      wrote-more _ _ _ _ _ acc-byte c.args.bads.now f.same f.room_bad c.loop-i.i below _ c.loop-i.invariant.2 _
          (c.from.ensures ∙ byte-is _ ∙ ap acc-byte p),
    )

pub returns : goal.returns
returns c =
    let e : 0 ≡ many_code c.args.sizes.now c.args.strides.now c.args.base c.args.starts.now c.args.ends.now c.args.values.now c.args.ms.now c.args.es.now c.args.bads.now
    = (simp (to_z-of_z c.ranges.base) at c.in_ok-check_ranges.ensures)
    ∙ code-many c.args.sizes.now c.args.strides.now c.args.base c.args.starts.now c.args.ends.now c.args.values.now c.args.ms.now c.args.es.now
    c.args.bads.now _ c.lists_fit-fit.ensures in
    let f = (accepted c.args.sizes.now c.args.strides.now c.args.base c.args.starts.now c.args.ends.now c.args.values.now c.args.ms.now c.args.es.now
    c.args.bads.now (sym e)).fits in
    let all : c.loop-i.i ≡ length c.args.starts.now = omega (arith, f.same, c.loop-i.auto.i-end, c.loop-i-test.false) in
    let m = wrote-all _ _ _ _ _ acc-m c.args.ms.now f.same f.room_m c.loop-i.i all _ c.loop-i.invariant.0 in
    let x = wrote-all _ _ _ _ _ acc-e c.args.es.now f.same f.room_e c.loop-i.i all _ c.loop-i.invariant.1 in
    let b = wrote-all _ _ _ _ _ acc-byte c.args.bads.now f.same f.room_bad c.loop-i.i all _ c.loop-i.invariant.2 in
    let t = told-accepted c.args.sizes.now c.args.strides.now c.args.base c.args.starts.now c.args.ends.now c.args.values.now c.args.ms.now c.args.es.now
    c.args.bads.now c.compile_in_place.new.self (layout-compiled c.args.sizes.now c.args.strides.now c.compile_in_place.new.self c.in_ok-compile_in_place.ensures.value) e _ _ _
    (simp (to_z-of_z c.ranges.base) at m) (simp (to_z-of_z c.ranges.base) at x) (simp (to_z-of_z c.ranges.base) at b) in
    record { value = t.0; ms_after = t.1.0; es_after = t.1.1.0; bads_after = t.1.1.1 }
