-- The code of a call, by the first refusal that applies.
-- Assumes nothing.
use Prim.Native.Nat.{ℕ, zero, suc, ◌≤◌, ◌<◌}
use mathlib.Core.Path.{◌≡◌, refl, sym, ◌∙◌, ap}
use mathlib.Core.Bool.{Bool, true, false, not, ◌||◌}
use mathlib.Core.List.{List, [], ◌∷◌, ◌++◌, append_assoc}
use native.Mathlib.Omega.{arith}
use lib.ListN.{length, get_or}
use lib.Dec.{ltb, eqb}
use lib.IntN.{ℤ}
use lib.Ieee.{Float}
use borrow.Author.Tests.{eqb-true, eq-eqb, ne_eqb, ltb-false, lt-ltb, le-ltb, not-false}
use Rattle.refusals.specs.Refusals.{Ranked, first_of}
use Rattle.layout.specs.Axes.{PLACES}
use Rattle.layout.specs.Compile.{compile_refusals, compile_of}
use Rattle.offsets.specs.Lists.{total_in, end_refusals, place_refusals, range_code}
use Rattle.offsets.proofs.Accepted.{refused_none}
use Rattle.offsets.proofs.Ranges.{first-hides, first-none, Clear, clear, Within, within, range-places}
use Rattle.laws.proofs.Tests.{neither}
use Rattle.ranges.specs.Many.{ranges_of, each_refusals, unfit, code_by, many_code}
use Rattle.ranges.proofs.Lists.{length-ranges, range_at}

-- ---- 5 and 6 range by range
module _ (total : ℕ) where
  -- a faulty range hides those behind it, a good one leads to the next
  pub each-fault : (r : ℕ × ℕ) (rs : List (ℕ × ℕ)) → (first_of (end_refusals total r.0 r.1) ≡ 0 → ⊥)
      → first_of (each_refusals total (r ∷ rs)) ≡ first_of (end_refusals total r.0 r.1)
  unfolding each_refusals
  each-fault r rs n = first-hides (end_refusals total r.0 r.1) (each_refusals total rs) n

  pub each_next : (r : ℕ × ℕ) (rs : List (ℕ × ℕ)) → first_of (end_refusals total r.0 r.1) ≡ 0
      → first_of (each_refusals total (r ∷ rs)) ≡ first_of (each_refusals total rs)
  unfolding each_refusals
  each_next r rs e = (within total r.0 r.1 e).after (each_refusals total rs)

  -- none is faulty: neither the first nor those behind it
  module _ (r : ℕ × ℕ) (rs : List (ℕ × ℕ)) (e : first_of (each_refusals total (r ∷ rs)) ≡ 0) where
    pub each-head : Within total r.0 r.1
    unfolding each_refusals
    each-head = within total r.0 r.1 (first-none (end_refusals total r.0 r.1) (each_refusals total rs) e)

    pub each_tail : first_of (each_refusals total rs) ≡ 0
    unfolding each_refusals
    each_tail = sym (each-head.after (each_refusals total rs)) ∙ e

  -- so what comes behind them all decides, and each lies within the layout
  pub each_after : (rs : List (ℕ × ℕ)) → first_of (each_refusals total rs) ≡ 0 → (qs : List Ranked) → first_of (each_refusals total rs ++ qs) ≡ first_of qs
  unfolding each_refusals
  each_after [] e qs = refl
  each_after (r ∷ rs) e qs =
      ap first_of (append_assoc (end_refusals total r.0 r.1) (each_refusals total rs) qs)
      ∙ (each-head r rs e).after (each_refusals total rs ++ qs)
      ∙ each_after rs (each_tail r rs e) qs

  pub each_within : (rs : List (ℕ × ℕ)) → first_of (each_refusals total rs) ≡ 0 → (i : ℕ) → i < length rs → (d : ℕ × ℕ)
      → Within total (get_or rs i d).0 (get_or rs i d).1
  each_within [] e i h d = absurd (omega arith)
  each_within (r ∷ rs) e zero h d = each-head r rs e
  each_within (r ∷ rs) e (suc i) h d = each_within rs (each_tail r rs e) i (omega arith) d

-- ---- the lengths
module _ (starts ends ms es bads : ℕ) where
  pub record Fit : Type 0 where
    pub same : starts ≡ ends
    pub room_m : starts ≤ ms
    pub room_e : starts ≤ es
    pub room_bad : starts ≤ bads

  -- by the first test that fails
  pub unfit-lists : (starts ≡ ends → ⊥) → true ≡ unfit starts ends ms es bads
  unfit-lists n = rw (ne_eqb starts ends n)

  module _ (q : starts ≡ ends) where
    pub unfit-m : ms < starts → true ≡ unfit starts ends ms es bads
    unfit-m h = rw (eq-eqb starts ends q, lt-ltb ms starts h)

    module _ (p : starts ≤ ms) where
      pub unfit-e : es < starts → true ≡ unfit starts ends ms es bads
      unfit-e h = rw (eq-eqb starts ends q, le-ltb ms starts p, lt-ltb es starts h)

      module _ (r : starts ≤ es) where
        pub unfit-bad : bads < starts → true ≡ unfit starts ends ms es bads
        unfit-bad h = rw (eq-eqb starts ends q, le-ltb ms starts p, le-ltb es starts r, lt-ltb bads starts h)

        pub all_fit : starts ≤ bads → false ≡ unfit starts ends ms es bads
        all_fit h = rw (eq-eqb starts ends q, le-ltb ms starts p, le-ltb es starts r, le-ltb bads starts h)

  pub fit : unfit starts ends ms es bads ≡ false → Fit
  fit u =
      let a = neither (not (eqb starts ends) || ltb ms starts || ltb es starts) (ltb bads starts) u in
      let b = neither (not (eqb starts ends) || ltb ms starts) (ltb es starts) a.0 in
      let c = neither (not (eqb starts ends)) (ltb ms starts) b.0 in
      record {
        same = eqb-true starts ends (not-false (eqb starts ends) c.0);
        room_m = ltb-false ms starts c.1;
        room_e = ltb-false es starts b.1;
        room_bad = ltb-false bads starts a.1;
      }

-- ---- the whole code, with what 16 asks known
module _ (ns : List ℕ) (ss : List ℤ) (base : ℤ) (starts ends : List ℕ) (len : ℕ) (misfit : Bool) where
  abbrev code : ℕ
  code = code_by ns ss base starts ends len misfit

  abbrev each : List Ranked
  each = each_refusals (compile_of PLACES ns ss).traversal.total (ranges_of starts ends)

  abbrev places : List Ranked
  places = place_refusals ns ss base len

  pub code-compile : ((compile_of PLACES ns ss).code ≡ 0 → ⊥) → (compile_of PLACES ns ss).code ≡ code
  unfolding compile_of total_in
  code-compile n = sym (first-hides (compile_refusals PLACES ns ss) ((16, misfit) ∷ (each ++ places)) n)

  module _ (c : Clear ns ss) where
    by-fit : (b : Bool) → misfit ≡ b → code ≡ first_of ((16, b) ∷ (each ++ places))
    unfolding total_in
    by-fit b e = c.after ((16, misfit) ∷ (each ++ places)) ∙ ap (λ (t : Bool). first_of ((16, t) ∷ (each ++ places))) e

    pub code-16 : misfit ≡ true → 16 ≡ code
    unfolding first_of
    code-16 e = sym (by-fit true e)

    module _ (f : misfit ≡ false) where
      past : code ≡ first_of (each ++ places)
      unfolding first_of
      past = by-fit false f

      pub code-each : (first_of each ≡ 0 → ⊥) → first_of each ≡ code
      code-each n = sym (past ∙ first-hides each places n)

      pub code-places : first_of each ≡ 0 → first_of places ≡ code
      code-places e = sym (past ∙ each_after (compile_of PLACES ns ss).traversal.total (ranges_of starts ends) e places)

-- ---- the call's own
module _ (ns : List ℕ) (ss : List ℤ) (base : ℤ) (starts ends : List ℕ) (values ms : List Float) (es : List ℤ) (bads : List ℕ) where
  abbrev misfit-of : Bool
  misfit-of = unfit (length starts) (length ends) (length ms) (length es) (length bads)

  abbrev total : ℕ
  total = (compile_of PLACES ns ss).traversal.total

  pub code-many : (b : Bool) → b ≡ misfit-of → code_by ns ss base starts ends (length values) b ≡ many_code ns ss base starts ends values ms es bads
  unfolding many_code
  code-many b e = ap (code_by ns ss base starts ends (length values)) e

  -- ---- an accepted call
  pub record Accepted : Type 0 where
    pub clears : Clear ns ss
    pub fits : Fit (length starts) (length ends) (length ms) (length es) (length bads)
    pub each_good : first_of (each_refusals total (ranges_of starts ends)) ≡ 0
    pub places_good : first_of (place_refusals ns ss base (length values)) ≡ 0

  compiled : first_of (compile_refusals PLACES ns ss) ≡ 0 → (compile_of PLACES ns ss).code ≡ 0
  unfolding compile_of
  compiled q = q

  pub accepted : many_code ns ss base starts ends values ms es bads ≡ 0 → Accepted
  unfolding many_code total_in
  accepted e =
      let misfit = misfit-of in
      let each = each_refusals total (ranges_of starts ends) in
      let places = place_refusals ns ss base (length values) in
      let c = clear ns ss (compiled (first-none (compile_refusals PLACES ns ss) ((16, misfit) ∷ (each ++ places)) e)) in
      let u = refused_none 15 misfit (each ++ places) (sym (c.after ((16, misfit) ∷ (each ++ places))) ∙ e) in
      let g = first-none each places u.1 in
      record {
        clears = c;
        fits = fit (length starts) (length ends) (length ms) (length es) (length bads) u.0;
        each_good = g;
        places_good = sym (each_after total (ranges_of starts ends) g places) ∙ u.1;
      }

  -- so is each of its ranges by itself
  module _ (a : Accepted) (i : ℕ) (h : i < length starts) where
    pub range-within : Within total (get_or starts i 0) (get_or ends i 0)
    range-within =
        rw (range_at starts ends a.fits.same i h (0, 0)) at
        (each_within total (ranges_of starts ends) a.each_good i (rw (length-ranges starts ends a.fits.same) h) (0, 0))

    pub range-accepted : range_code ns ss base (get_or starts i 0) (get_or ends i 0) (length values) ≡ 0
    range-accepted =
        range-places ns ss base (get_or starts i 0) (get_or ends i 0) (length values) a.clears range-within.forward range-within.inside
        ∙ a.places_good
