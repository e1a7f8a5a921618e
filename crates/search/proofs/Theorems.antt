-- Rule S1 of every call.
-- Assumes that each value is one of binary64, as every f64 is.
use Prim.Native.Nat.{ℕ, zero, suc, ◌+◌, ◌-◌, ◌≤◌, ◌<◌}
use mathlib.Core.Path.{◌≡◌, refl, sym, ◌∙◌, ap, subst}
use mathlib.Core.Bool.{Bool, true, false, true≢false}
use mathlib.Core.List.{List, [], ◌∷◌}
use native.Mathlib.Omega.{arith}
use lib.ListN.{length}
use lib.Dec.{T, eqb}
use lib.IntN.{ℤ, pos}
use lib.Ieee.{Float, binary64, fits}
use borrow.Author.Tests.{eqb-true, eqb-false}
use Rattle.layout.specs.declared.axis.ReduceOuterAxis.{ReduceOuterAxis}
use Rattle.layout.specs.Order.{axes_of}
use Rattle.offsets.specs.Elements.{offset}
use Rattle.offsets.specs.Lists.{offsets_from, range_code}
use Rattle.offsets.specs.Values.{value_at}
use Rattle.offsets.proofs.Checked.{accepted-range}
use Rattle.floats.specs.Splitting.{is_bad}
use Rattle.accumulator.specs.Joining as joining
use Rattle.laws.specs.Lists.{Each}
use Rattle.reduction.specs.Ranges.{range_product}
use Rattle.reduction.proofs.Calls.{reduce-refused, reduce-accepted}
use Rattle.reduction.proofs.Whole.{answer-bad, is-accumulator, rule-D3}
use Rattle.search.specs.Searching.{SearchAnswer, found, none_bad, refusal, lowest_bad}
use Rattle.search.specs.Theorems.{bad_element, FirstBadRate, RuleS1, RuleS1Law}
use Rattle.search.proofs.Looking.{here-bad, here-good, all-good, none-bad}
use Rattle.search.proofs.Calls.{search-refused, search-accepted}

-- ---- an answer is known by what it tells
abbrev element-of : SearchAnswer → ℕ
element-of (found k z) = k
element-of none_bad = 0
element-of (refusal n) = n

abbrev offset-of : SearchAnswer → ℤ
offset-of (found k z) = z
offset-of none_bad = pos 0
offset-of (refusal n) = pos 0

abbrev is_found : SearchAnswer → Bool
is_found (found k z) = true
is_found none_bad = false
is_found (refusal n) = false

abbrev is-refused : SearchAnswer → Bool
is-refused (found k z) = false
is-refused none_bad = false
is-refused (refusal n) = true

abbrev number_of : joining.Answer → ℕ
number_of (joining.accumulator m e bad) = 0
number_of (joining.refusal n) = n

-- ---- elements k to k + n - 1
module _ (xs : List ReduceOuterAxis) (base : ℤ) (values : List Float) where
  found_first : (n k j : ℕ) (z : ℤ) → lowest_bad values k (offsets_from xs base k n) ≡ found j z → FirstBadRate xs base values k (k + n) j z
  unfolding lowest_bad offsets_from
  found_first zero k j z e = absurd (true≢false (sym (ap is_found e)))
  found_first (suc n) k j z e = go (bad_element xs base values k) refl (found_first n (suc k) j z)
    where
      go : (b : Bool) → bad_element xs base values k ≡ b
          → (lowest_bad values (suc k) (offsets_from xs base (suc k) n) ≡ found j z → FirstBadRate xs base values (suc k) (suc k + n) j z)
          → FirstBadRate xs base values k (k + suc n) j z
      go true h t =
          let p = sym (here-bad values k (offset xs base k) (offsets_from xs base (suc k) n) h) ∙ e in
          let s : k ≡ j = ap element-of p in
          record {
            from = omega arith;
            below = omega arith;
            lies = sym (ap offset-of p) ∙ ap (offset xs base) s;
            bad = ap (bad_element xs base values) (sym s) ∙ h;
            lowest = λ i a b. absurd (omega arith);
          }
      go false h t =
          let l = t (sym (here-good values k (offset xs base k) (offsets_from xs base (suc k) n) h) ∙ e) in
          record {
            from = let a = l.from in omega arith;
            below = let a = l.below in omega arith;
            lies = l.lies;
            bad = l.bad;
            lowest = λ i a b. earlier i a b (eqb i k) refl l;
          }
        where
          earlier : (i : ℕ) → k ≤ i → i < j → (q : Bool) → eqb i k ≡ q → FirstBadRate xs base values (suc k) (suc k + n) j z
              → bad_element xs base values i ≡ false
          earlier i a b true q l = ap (bad_element xs base values) (eqb-true i k q) ∙ h
          earlier i a b false q l = let d = eqb-false i k q in l.lowest i (omega arith) b

-- none of them is bad
good-each : (xs : List ReduceOuterAxis) (base : ℤ) (values : List Float) (n k : ℕ) → lowest_bad values k (offsets_from xs base k n) ≡ none_bad
    → (j : ℕ) → k ≤ j → j < k + n → bad_element xs base values j ≡ false
unfolding lowest_bad offsets_from
good-each xs base values zero k e j a b = absurd (omega arith)
good-each xs base values (suc n) k e j a b = go (bad_element xs base values k) refl (good-each xs base values n (suc k)) (eqb j k) refl
  where
    go : (q : Bool) → bad_element xs base values k ≡ q
        → (lowest_bad values (suc k) (offsets_from xs base (suc k) n) ≡ none_bad → (i : ℕ) → suc k ≤ i → i < suc k + n → bad_element xs base values i ≡ false)
        → (p : Bool) → eqb j k ≡ p → bad_element xs base values j ≡ false
    go true h t p q = absurd (true≢false (ap is_found (sym (here-bad values k (offset xs base k) (offsets_from xs base (suc k) n) h) ∙ e)))
    go false h t true q = ap (bad_element xs base values) (eqb-true j k q) ∙ h
    go false h t false q =
        let d = eqb-false j k q in t (sym (here-good values k (offset xs base k) (offsets_from xs base (suc k) n) h) ∙ e) j (omega arith) (omega arith)

-- a search among elements is no refusal
not-refused : (values : List Float) (k : ℕ) (zs : List ℤ) (n : ℕ) → lowest_bad values k zs ≡ refusal n → ⊥
unfolding lowest_bad
not-refused values k [] n e = true≢false (sym (ap is-refused e))
not-refused values k (z ∷ zs) n e = go (is_bad (value_at values z)) refl (not-refused values (suc k) zs n)
  where
    go : (b : Bool) → is_bad (value_at values z) ≡ b → (lowest_bad values (suc k) zs ≡ refusal n → ⊥) → ⊥
    go true h t = true≢false (sym (ap is-refused (sym (here-bad values k z zs h) ∙ e)))
    go false h t = t (sym (here-good values k z zs h) ∙ e)

-- ---- rule S1
module _ (ns : List ℕ) (ss : List ℤ) (base : ℤ) (start end : ℕ) (values : List Float) (v : Each (λ (x : Float). T (fits binary64 x)) values) where
  abbrev code : ℕ
  code = range_code ns ss base start end (length values)

  -- of a refused call
  refused : (code ≡ 0 → ⊥) → RuleS1 ns ss base start end values
  refused n =
      let s = search-refused ns ss base start end values n in
      let r = reduce-refused ns ss base start end values n in
      record {
        first = λ k z e. absurd (true≢false (sym (ap is_found (sym s ∙ e))));
        none = λ e. absurd (true≢false (ap is-refused (sym s ∙ e)));
        if_unset = λ m x e. absurd (true≢false (sym (ap is-accumulator (sym r ∙ e))));
        then_unset = λ e. absurd (true≢false (ap is-refused (sym s ∙ e)));
        if_refused = λ k e. s ∙ ap refusal (ap number_of (sym r ∙ e));
        then_refused = λ k e. r ∙ ap joining.refusal (ap element-of (sym s ∙ e));
      }

  -- of an accepted one
  accepted : code ≡ 0 → RuleS1 ns ss base start end values
  accepted q =
      let s = search-accepted ns ss base start end values q in
      let r = reduce-accepted ns ss base start end values q in
      let a = range_product ns ss base start end values in
      let d = rule-D3 ns ss base start end values v q in
      let h = (accepted-range ns ss base start end (length values) q).forward in
      let zs = offsets_from (axes_of ns ss) base start (end - start) in
      record {
        first = λ k z e. first k z h (found_first (axes_of ns ss) base values (end - start) start k z (sym s ∙ e));
        none = λ e j x y. good-each (axes_of ns ss) base values (end - start) start (sym s ∙ e) j x (omega arith);
        if_unset = λ m x e. s ∙ all-good values start zs (sym d.mark ∙ ap answer-bad (sym r ∙ e));
        then_unset = λ e.
            (a.m, a.e, r ∙ ap (joining.accumulator a.m a.e) (d.mark ∙ none-bad values start zs (sym s ∙ e)));
        if_refused = λ k e. absurd (true≢false (ap is-accumulator (sym r ∙ e)));
        then_refused = λ k e. absurd (not-refused values start zs k (sym s ∙ e));
      }
    where
      first : (k : ℕ) (z : ℤ) → start < end → FirstBadRate (axes_of ns ss) base values start (start + (end - start)) k z
          → FirstBadRate (axes_of ns ss) base values start end k z
      first k z h = subst (λ (n : ℕ). FirstBadRate (axes_of ns ss) base values start n k z) (let e : start + (end - start) ≡ end = omega arith in e)

pub rule-S1 : RuleS1Law
rule-S1 ns ss base start end values v = go (eqb (range_code ns ss base start end (length values)) 0) refl
  where
    go : (b : Bool) → eqb (range_code ns ss base start end (length values)) 0 ≡ b → RuleS1 ns ss base start end values
    go true e = accepted ns ss base start end values v (eqb-true _ 0 e)
    go false e = refused ns ss base start end values v (eqb-false _ 0 e)
