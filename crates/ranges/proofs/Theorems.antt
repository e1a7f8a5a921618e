-- The statements of specs/Theorems hold. Assumes nothing beyond what they say.
use Prim.Native.Nat.{ℕ, ◌+◌, ◌-◌, ◌≤◌, ◌<◌}
use mathlib.Core.Path.{◌≡◌, refl, sym, ◌∙◌, ap}
use mathlib.Core.Bool.{Bool, true, false, ◌||◌}
use mathlib.Core.List.{List, [], ◌∷◌, ◌++◌, map, map-append}
use native.Mathlib.Omega.{arith}
use lib.ListN.{length, get_or, take}
use lib.Dec.{T, eqb}
use lib.IntN.{ℤ, pos}
use lib.Ieee.{Float, nan, binary64, fits}
use Rattle.refusals.specs.Refusals.{first_of}
use Rattle.refusals.proofs.Buffers.{buffer-first, buffer-at}
use Rattle.layout.specs.declared.traversal.FullTraversal.{FullTraversal}
use Rattle.layout.specs.Axes.{PLACES}
use Rattle.layout.specs.Order.{axes_of}
use Rattle.layout.specs.Compile.{compile_of}
use Rattle.offsets.specs.Lists.{total_in, place_refusals, range_code, offsets_from}
use Rattle.offsets.specs.Values.{value_at}
use Rattle.offsets.proofs.Ranges.{Clear, range-places}
use Rattle.offsets.proofs.Writing.{offsets-append}
use Rattle.floats.specs.Splitting.{is_bad}
use Rattle.accumulator.specs.declared.StableProductFloatAcc.{StableProductFloatAcc}
use Rattle.accumulator.specs.Joining.{accumulator}
use Rattle.laws.specs.Lists.{Each}
use Rattle.kernels.specs.Lanes.{some}
use Rattle.kernels.proofs.Feeding.{some-append}
use Rattle.reduction.specs.Ranges.{range_product}
use Rattle.reduction.proofs.Calls.{reduce-accepted}
use Rattle.reduction.proofs.Whole.{rule-D3}
use Rattle.ranges.specs.Many.{ranges_of, each_refusals, bad_byte, many_code, products, ms_after, es_after, bads_after}
use Rattle.ranges.specs.Theorems.{RuleM1, RuleM1Law, Consecutive, none, more, offsets_over, RuleM2, RuleM2Law}
use Rattle.ranges.proofs.Writing.{acc-m, acc-e, acc-byte, length-all, product_at}
use Rattle.ranges.proofs.Codes.{each-head, each_tail, Accepted, accepted, range-accepted}

-- ---- the byte of a mark
pub byte_one : (b : Bool) → eqb (bad_byte b) 1 ≡ b
byte_one true = refl
byte_one false = refl

one_byte : (b : Bool) → eqb 1 (bad_byte b) ≡ b
one_byte true = refl
one_byte false = refl

pub byte-few : (b : Bool) → bad_byte b ≤ 1
byte-few true = omega arith
byte-few false = omega arith

-- ---- rule M1
module _ (ns : List ℕ) (ss : List ℤ) (base : ℤ) (starts ends : List ℕ) (values ms : List Float) (es : List ℤ) (bads : List ℕ)
    (z : many_code ns ss base starts ends values ms es bads ≡ 0) where
  abbrev code : ℕ
  code = many_code ns ss base starts ends values ms es bads

  abbrev all : List StableProductFloatAcc
  all = products ns ss base starts ends values ms es bads

  abbrev layout : FullTraversal
  layout = (compile_of PLACES ns ss).traversal

  allowed : Accepted ns ss base starts ends values ms es bads
  allowed = accepted ns ss base starts ends values ms es bads z

  abbrev same : length starts ≡ length ends
  same = allowed.fits.same

  module _ (i : ℕ) (h : i < length starts) where
    abbrev own : StableProductFloatAcc
    own = range_product ns ss base (get_or starts i 0) (get_or ends i 0) values

    m-at : get_or (ms_after ns ss base starts ends values ms es bads) i nan ≡ own.m
    unfolding ms_after
    m-at = buffer-at code (map acc-m all) ms z i (rw (length-all layout base values starts ends acc-m same) h) nan ∙ product_at layout base values starts ends acc-m same i h nan

    e-at : get_or (es_after ns ss base starts ends values ms es bads) i (pos 0) ≡ own.e
    unfolding es_after
    e-at = buffer-at code (map acc-e all) es z i (rw (length-all layout base values starts ends acc-e same) h) (pos 0) ∙ product_at layout base values starts ends acc-e same i h (pos 0)

    bad-at : get_or (bads_after ns ss base starts ends values ms es bads) i 0 ≡ bad_byte own.bad
    unfolding bads_after
    bad-at = buffer-at code (map acc-byte all) bads z i (rw (length-all layout base values starts ends acc-byte same) h) 0 ∙ product_at layout base values starts ends acc-byte same i h 0

    place-rule : RuleM1 ns ss base (get_or starts i 0) (get_or ends i 0) values (get_or (ms_after ns ss base starts ends values ms es bads) i nan)
        (get_or (es_after ns ss base starts ends values ms es bads) i (pos 0)) (get_or (bads_after ns ss base starts ends values ms es bads) i 0)
    place-rule =
        record {
          own =
              reduce-accepted ns ss base (get_or starts i 0) (get_or ends i 0) values (range-accepted ns ss base starts ends values ms es bads allowed i h)
              ∙ ap (λ (m : Float). accumulator m own.e own.bad) (sym m-at)
              ∙ ap (λ (e : ℤ). accumulator (get_or (ms_after ns ss base starts ends values ms es bads) i nan) e own.bad) (sym e-at)
              ∙ ap (accumulator (get_or (ms_after ns ss base starts ends values ms es bads) i nan) (get_or (es_after ns ss base starts ends values ms es bads) i (pos 0)))
              (sym (byte_one own.bad) ∙ ap (λ (n : ℕ). eqb n 1) (sym bad-at));
          byte = omega (arith, bad-at, byte-few own.bad);
        }

pub rule-M1 : RuleM1Law
rule-M1 ns ss base starts ends values ms es bads z i h = place-rule ns ss base starts ends values ms es bads z i h

-- ---- rule M2
module _ (ns : List ℕ) (ss : List ℤ) (base : ℤ) (values : List Float) (v : Each (λ (x : Float). T (fits binary64 x)) values) (c : Clear ns ss)
    (p : first_of (place_refusals ns ss base (length values)) ≡ 0) where
  abbrev total : ℕ
  total = (compile_of PLACES ns ss).traversal.total

  abbrev product-of : ℕ × ℕ → StableProductFloatAcc
  product-of r = range_product ns ss base r.0 r.1 values

  -- ranges that follow one another list what one range over them lists
  chain : {rs : List (ℕ × ℕ)} {from to : ℕ} → Consecutive from to rs → first_of (each_refusals total rs) ≡ 0
      → (from ≤ to) × (offsets_over ns ss base rs ≡ offsets_from (axes_of ns ss) base from (to - from))
  unfolding offsets_over offsets_from
  chain (none {k = from}) e =
      let z : 0 ≡ from - from = omega arith in
      (omega arith, ap (offsets_from (axes_of ns ss) base from) z)
  chain (more {from = from} {via = via} {to = to} {rs = rs} q) e =
      let w = each-head total (from, via) rs e in
      let r = chain q (each_tail total (from, via) rs e) in
      let k : from + (via - from) ≡ via = omega (arith, w.forward) in
      let n : via - from + (to - via) ≡ to - from = omega (arith, w.forward, r.0) in (
        omega (arith, w.forward, r.0),
        ap (λ (l : List ℤ). offsets_from (axes_of ns ss) base from (via - from) ++ l) r.1
            ∙ ap (λ (j : ℕ). offsets_from (axes_of ns ss) base from (via - from) ++ offsets_from (axes_of ns ss) base j (to - via)) (sym k)
            ∙ sym (offsets-append (axes_of ns ss) base from (via - from) (to - via))
            ∙ ap (offsets_from (axes_of ns ss) base from) n,
      )

  range-code : (start end : ℕ) → start < end → end ≤ total → range_code ns ss base start end (length values) ≡ 0
  range-code start end h k = range-places ns ss base start end (length values) c h k ∙ p

  -- some byte is 1 exactly if some visited rate is bad
  marks : (rs : List (ℕ × ℕ)) → first_of (each_refusals total rs) ≡ 0
      → some (eqb 1) (map acc-byte (map product-of rs))
      ≡ some is_bad (map (value_at values) (offsets_over ns ss base rs))
  unfolding some offsets_over
  marks [] e = refl
  marks (r ∷ rs) e =
      let w = each-head total r rs e in
      let a = range_product ns ss base r.0 r.1 values in
      let d = rule-D3 ns ss base r.0 r.1 values v (range-code r.0 r.1 w.forward w.inside) in
      let here = offsets_from (axes_of ns ss) base r.0 (r.1 - r.0) in
      let rest = offsets_over ns ss base rs in
      ap (λ (b : Bool). b || some (eqb 1) (map acc-byte (map product-of rs))) (one_byte a.bad ∙ d.mark)
      ∙ ap (λ (b : Bool). some is_bad (map (value_at values) here) || b) (marks rs (each_tail total r rs e))
      ∙ sym (ap (some is_bad) (map-append (value_at values) here rest) ∙ some-append is_bad (map (value_at values) here) (map (value_at values) rest))

  module _ (h : 0 < total) (rs : List (ℕ × ℕ)) (e : first_of (each_refusals total rs) ≡ 0) (q : Consecutive 0 total rs) where
    all-offsets : offsets_over ns ss base rs ≡ offsets_from (axes_of ns ss) base 0 total
    all-offsets = let n : total - 0 ≡ total = omega arith in (chain q e).1 ∙ ap (offsets_from (axes_of ns ss) base 0) n

    whole-rule : (bads : List ℕ)
        → bads ≡ map acc-byte (map product-of rs)
        → RuleM2 ns ss base rs values bads (range_product ns ss base 0 (total_in ns ss) values)
    unfolding total_in
    whole-rule bads b =
        let d = rule-D3 ns ss base 0 total values v (range-code 0 total h (omega arith)) in
        record {
          whole = d.answer;
          offsets = all-offsets;
          mark = ap (some (eqb 1)) b ∙ marks rs e ∙ ap (λ (zs : List ℤ). some is_bad (map (value_at values) zs)) (chain q e).1 ∙ sym d.mark;
        }

module _ (ns : List ℕ) (ss : List ℤ) (base : ℤ) (starts ends : List ℕ) (values ms : List Float) (es : List ℤ) (bads : List ℕ)
    (v : Each (λ (x : Float). T (fits binary64 x)) values) (z : many_code ns ss base starts ends values ms es bads ≡ 0) where
  -- the bytes that were written
  bytes : take (length starts) (bads_after ns ss base starts ends values ms es bads)
      ≡ map acc-byte (products ns ss base starts ends values ms es bads)
  unfolding bads_after
  bytes =
      ap (λ (n : ℕ). take n (bads_after ns ss base starts ends values ms es bads)) (sym (length-all (compile_of PLACES ns ss).traversal base values starts ends acc-byte (allowed ns ss base starts ends values ms es bads z).fits.same))
      ∙ buffer-first (many_code ns ss base starts ends values ms es bads) (map acc-byte (products ns ss base starts ends values ms es bads)) bads z

  consecutive-rule : 0 < total_in ns ss → Consecutive 0 (total_in ns ss) (ranges_of starts ends)
      → RuleM2 ns ss base (ranges_of starts ends) values (take (length starts) (bads_after ns ss base starts ends values ms es bads))
      (range_product ns ss base 0 (total_in ns ss) values)
  unfolding total_in
  consecutive-rule h q =
      let a = accepted ns ss base starts ends values ms es bads z in
      whole-rule ns ss base values v a.clears a.places_good h (ranges_of starts ends) a.each_good q _ bytes

pub rule-M2 : RuleM2Law
rule-M2 ns ss base starts ends values ms es bads v z h q = consecutive-rule ns ss base starts ends values ms es bads v z h q
