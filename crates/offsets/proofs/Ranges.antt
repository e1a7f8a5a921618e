-- The refusals of a range, in rank.
-- Assumes nothing.
use Prim.Native.Nat.{ℕ, zero, suc, ◌-◌, ◌^◌, ◌≤◌, ◌<◌}
use mathlib.Core.Path.{◌≡◌, refl, sym, ◌∙◌, ap, subst}
use mathlib.Core.Bool.{Bool, true, false, cond, not}
use mathlib.Core.List.{List, [], ◌∷◌, ◌++◌, append_assoc}
use Rattle.std.specs.Prelude.{Some}
use native.Mathlib.Omega.{arith}
use lib.Dec.{ltb, leb, eqb}
use lib.ListN.{length, drop}
use lib.IntN.{ℤ}
use borrow.Author.Tests.{lt-ltb, le-ltb, le-leb, lt-leb, eqb-true, ltb-false, leb-false, not-false}
use Rattle.layout.specs.declared.axis.ReduceOuterAxis.{ReduceOuterAxis}
use Rattle.layout.specs.declared.traversal.FullTraversal.{FullTraversal}
use Rattle.layout.specs.Axes.{PLACES, axes_in}
use Rattle.layout.specs.Order.{axes_of}
use Rattle.refusals.specs.Refusals.{Ranked, first_of}
use Rattle.refusals.proofs.Buffers.{buffer-kept, buffer-filled}
use Rattle.layout.specs.Compile.{compile_refusals, compile_of, layout_beside, total_of, traversal_of, overflows, above_most}
use Rattle.offsets.specs.Elements.{offset, inside_values, every_below, all_inside}
use Rattle.offsets.specs.Pieces.{run_of, outer_of}
use Rattle.offsets.specs.InnerCursors.{Axes, Bounded}
use Rattle.offsets.specs.Lists.{total_in, end_refusals, place_refusals, range_refusals, range_code, list_code, offsets_from, list_buffer}
use Rattle.layout.specs.InnerTables.{elements}
use Rattle.offsets.proofs.Ends.{ends-exact, ends-bounded}
use Rattle.offsets.proofs.Fused.{SameElements}
use Rattle.offsets.proofs.Given.{given-axes, given_inside}
use Rattle.offsets.proofs.Writing.{length-offsets}
use Rattle.offsets.proofs.Accepted.{AcceptedLayout, is-accepted, refused_none, not-over}

every-below-same : (n : ℕ) (p q : ℕ → Bool) → ((k : ℕ) → p k ≡ q k) → every_below n p ≡ every_below n q
unfolding every_below
every-below-same zero p q f = refl
every-below-same (suc n) p q f = rw (every-below-same n p q f, f n)

pub inside-same : (xs ys : List ReduceOuterAxis) (n : ℕ) (base : ℤ) (len : ℕ) → SameElements xs ys → all_inside ys n base len ≡ all_inside xs n base len
unfolding all_inside
inside-same xs ys n base len s =
    every-below-same n (λ k. inside_values len (offset ys base k)) (λ k. inside_values len (offset xs base k)) (λ k. ap (inside_values len) (s.offsets base k))

-- a refusal that applies hides those after it
pub first-hides : (rs qs : List Ranked) → (first_of rs ≡ 0 → ⊥) → first_of (rs ++ qs) ≡ first_of rs
unfolding first_of
first-hides [] qs n = absurd (n refl)
first-hides (r ∷ rs) qs n = go r.1 refl (first-hides rs qs)
  where
    go : (b : Bool) → r.1 ≡ b → ((first_of rs ≡ 0 → ⊥) → first_of (rs ++ qs) ≡ first_of rs)
        → cond r.1 r.0 (first_of (rs ++ qs)) ≡ cond r.1 r.0 (first_of rs)
    go true e f = rw e
    go false e f = rw e (f (λ z. n (rw e z)))

-- where None of a longer list applies, None of its beginning does
pub first-none : (rs qs : List Ranked) → first_of (rs ++ qs) ≡ 0 → first_of rs ≡ 0
unfolding first_of
first-none [] qs e = refl
first-none (r ∷ rs) qs e = go r.1 (first-none rs qs) e
  where
    go : (b : Bool) → (first_of (rs ++ qs) ≡ 0 → first_of rs ≡ 0) → cond b r.0 (first_of (rs ++ qs)) ≡ 0 → cond b r.0 (first_of rs) ≡ 0
    go true f e = e
    go false f e = f e

module _ (ns : List ℕ) (ss : List ℤ) where
  -- what a compile that refuses nothing says
  pub record Clear : Type 0 where
    pub same : length ns ≡ length ss
    pub few : length ns ≤ PLACES
    pub layout : FullTraversal
    pub compiled : traversal_of PLACES ns ss ≡ Some layout
    pub most : above_most (total_of ns) ≡ false
    pub is : (compile_of PLACES ns ss).traversal ≡ layout
    pub after : (rs : List Ranked) → first_of (compile_refusals PLACES ns ss ++ rs) ≡ first_of rs

  pub clear : (compile_of PLACES ns ss).code ≡ 0 → Clear
  unfolding compile_of compile_refusals layout_beside first_of
  clear e =
      let r4 : List Ranked = (4, above_most (total_of ns)) ∷ [] in
      let r3 : List Ranked = (3, overflows (traversal_of PLACES ns ss)) ∷ r4 in
      let r2 : List Ranked = (2, ltb PLACES (length ns)) ∷ r3 in
      let a = refused_none 0 (not (eqb (length ns) (length ss))) r2 e in
      let b = refused_none 1 (ltb PLACES (length ns)) r3 a.1 in
      let c = refused_none 2 (overflows (traversal_of PLACES ns ss)) r4 b.1 in
      let d = refused_none 3 (above_most (total_of ns)) [] c.1 in
      let l = not-over (traversal_of PLACES ns ss) c.0 in
      record {
        same = eqb-true (length ns) (length ss) (not-false (eqb (length ns) (length ss)) a.0);
        few = ltb-false PLACES (length ns) b.0;
        layout = l.0;
        compiled = l.1;
        most = d.0;
        is = ap (λ (n : ℕ). layout_beside PLACES n (traversal_of PLACES ns ss)) e ∙ ap (layout_beside PLACES 0) l.1;
        after = λ rs. rw (a.0, b.0, c.0, d.0);
      }

  pub clear-accepted : (c : Clear) → 0 < (compile_of PLACES ns ss).traversal.total → AcceptedLayout ns ss (compile_of PLACES ns ss).traversal
  clear-accepted c h =
      subst (AcceptedLayout ns ss) (sym c.is)
      (is-accepted ns ss c.same c.few c.layout c.compiled (subst (λ (l : FullTraversal). 0 < l.total) c.is h))

-- refusals 5 and 6 of a range
module _ (total start end : ℕ) where
  pub ends-5 : end ≤ start → first_of (end_refusals total start end) ≡ 5
  unfolding first_of
  ends-5 h = rw (le-leb end start h)

  module _ (h : start < end) where
    pub ends-6 : total < end → first_of (end_refusals total start end) ≡ 6
    unfolding first_of
    ends-6 k = rw (lt-leb end start h, lt-ltb total end k)

    pub ends-0 : end ≤ total → first_of (end_refusals total start end) ≡ 0
    unfolding first_of
    ends-0 k = rw (lt-leb end start h, le-ltb total end k)

  -- neither applies
  pub record Within : Type 0 where
    pub forward : start < end
    pub inside : end ≤ total
    pub after : (rs : List Ranked) → first_of (end_refusals total start end ++ rs) ≡ first_of rs

  pub within : first_of (end_refusals total start end) ≡ 0 → Within
  unfolding first_of
  within e =
      let r6 : List Ranked = (6, ltb total end) ∷ [] in
      let a = refused_none 4 (leb end start) r6 e in
      let b = refused_none 5 (ltb total end) [] a.1 in
      record { forward = leb-false end start a.0; inside = ltb-false total end b.0; after = λ rs. rw (a.0, b.0) }

-- refusal 7 of a layout
module _ (ns : List ℕ) (ss : List ℤ) (base : ℤ) (len : ℕ) where
  abbrev all-inside : Bool
  all-inside = all_inside (axes_of ns ss) (compile_of PLACES ns ss).traversal.total base len

  pub place-7 : all-inside ≡ false → first_of (place_refusals ns ss base len) ≡ 7
  unfolding first_of total_in
  place-7 e = rw e

  pub place-0 : all-inside ≡ true → (rs : List Ranked) → first_of (place_refusals ns ss base len ++ rs) ≡ first_of rs
  unfolding first_of total_in
  place-0 e rs = rw e

  pub place-empty : (compile_of PLACES ns ss).traversal.total ≡ 0 → first_of (place_refusals ns ss base len) ≡ 0
  unfolding first_of all_inside every_below
  place-empty e = place-0 (ap (λ (n : ℕ). all_inside (axes_of ns ss) n base len) e) []

  pub place_none : first_of (place_refusals ns ss base len) ≡ 0 → all-inside ≡ true
  unfolding first_of total_in
  place_none e = not-false all-inside (refused_none 6 (not all-inside) [] e).0

  -- the test over the axes as they are given is the test over rule L2's
  module _ (c : Clear ns ss) (some-element : 0 < (compile_of PLACES ns ss).traversal.total) where
    accepted : AcceptedLayout ns ss (compile_of PLACES ns ss).traversal
    accepted = clear-accepted ns ss c some-element

    pub clear-axes : Axes (axes_in ns ss)
    clear-axes = given-axes ns ss accepted.axes

    pub tested : (b : Bool) → b ≡ all_inside (axes_in ns ss) (elements (axes_in ns ss)) base len → all-inside ≡ b
    tested b e =
        ap (λ (n : ℕ). all_inside (axes_of ns ss) n base len) (sym accepted.total) ∙ sym (given_inside ns ss base len clear-axes accepted.axes) ∙ sym e

module _ (ns : List ℕ) (ss : List ℤ) (base : ℤ) (start end len : ℕ) where
  abbrev ends : List Ranked
  ends = end_refusals (compile_of PLACES ns ss).traversal.total start end

  -- refusals 1 to 4 are the compile's
  pub range-compile : ((compile_of PLACES ns ss).code ≡ 0 → ⊥) → (compile_of PLACES ns ss).code ≡ range_code ns ss base start end len
  unfolding range_code compile_of
  range-compile n = sym (first-hides (compile_refusals PLACES ns ss) (range_refusals ns ss base start end len) n)

  -- then come 5 and 6, and then 7
  module _ (c : Clear ns ss) where
    range-ends : (first_of ends ≡ 0 → ⊥) → range_code ns ss base start end len ≡ first_of ends
    unfolding range_code range_refusals total_in
    range-ends n = c.after (range_refusals ns ss base start end len) ∙ first-hides ends (place_refusals ns ss base len) n

    pub range-5 : end ≤ start → range_code ns ss base start end len ≡ 5
    range-5 h = let e = ends-5 (compile_of PLACES ns ss).traversal.total start end h in range-ends (λ z. omega (arith, e, z)) ∙ e

    module _ (h : start < end) where
      pub range-6 : (compile_of PLACES ns ss).traversal.total < end → range_code ns ss base start end len ≡ 6
      range-6 k = let e = ends-6 (compile_of PLACES ns ss).traversal.total start end h k in range-ends (λ z. omega (arith, e, z)) ∙ e

      pub range-places : end ≤ (compile_of PLACES ns ss).traversal.total → range_code ns ss base start end len ≡ first_of (place_refusals ns ss base len)
      unfolding range_code range_refusals total_in
      range-places k =
          c.after (range_refusals ns ss base start end len)
          ∙ (within (compile_of PLACES ns ss).traversal.total start end (ends-0 (compile_of PLACES ns ss).traversal.total start end h k)
          ).after (place_refusals ns ss base len)

-- ---- an accepted range
pub record Ranged (ns : List ℕ) (ss : List ℤ) (base : ℤ) (start end len : ℕ) : Type 0 where
  pub clears : Clear ns ss
  pub forward : start < end
  pub inside : end ≤ (compile_of PLACES ns ss).traversal.total
  pub within : all_inside (axes_of ns ss) (compile_of PLACES ns ss).traversal.total base len ≡ true
  pub after : (rs : List Ranked) → first_of (compile_refusals PLACES ns ss ++ range_refusals ns ss base start end len ++ rs) ≡ first_of rs

module _ (ns : List ℕ) (ss : List ℤ) (base : ℤ) (start end len : ℕ) where
  code_is : first_of (compile_refusals PLACES ns ss) ≡ 0 → (compile_of PLACES ns ss).code ≡ 0
  unfolding compile_of
  code_is q = q

  cleared : range_code ns ss base start end len ≡ 0 → Clear ns ss
  unfolding range_code
  cleared e = clear ns ss (code_is (first-none (compile_refusals PLACES ns ss) (range_refusals ns ss base start end len) e))

  pub ranged : range_code ns ss base start end len ≡ 0 → Ranged ns ss base start end len
  unfolding range_code range_refusals total_in
  ranged e =
      let c = cleared e in
      let rs = range_refusals ns ss base start end len in
      let ends = end_refusals (compile_of PLACES ns ss).traversal.total start end in
      let f : first_of rs ≡ 0 = sym (c.after rs) ∙ e in
      let w = within (compile_of PLACES ns ss).traversal.total start end (first-none ends (place_refusals ns ss base len) f) in
      let p = place_none ns ss base len (sym (w.after (place_refusals ns ss base len)) ∙ f) in
      record {
        clears = c;
        forward = w.forward;
        inside = w.inside;
        within = p;
        after =
            λ qs. ap first_of (append_assoc (compile_refusals PLACES ns ss) rs qs)
            ∙ c.after (rs ++ qs)
            ∙ ap first_of (append_assoc ends (place_refusals ns ss base len) qs)
            ∙ w.after (place_refusals ns ss base len ++ qs)
            ∙ place-0 ns ss base len p qs;
      }

  module _ (r : Ranged ns ss base start end len) where
    pub ranged-accepted : AcceptedLayout ns ss (compile_of PLACES ns ss).traversal
    ranged-accepted = clear-accepted ns ss r.clears (omega (arith, r.forward, r.inside))

    -- the test of refusal 7, over the compiled axes
    pub ranged-inside : all_inside (run_of (compile_of PLACES ns ss).traversal ∷ outer_of (compile_of PLACES ns ss).traversal)
        (compile_of PLACES ns ss).traversal.total base
        len
        ≡ true
    ranged-inside = inside-same (axes_of ns ss) _ _ base len ranged-accepted.same ∙ r.within

    pub ranged-bounded : Bounded (run_of (compile_of PLACES ns ss).traversal ∷ outer_of (compile_of PLACES ns ss).traversal) base
    ranged-bounded =
        let a = ranged-accepted in
        let xs = run_of (compile_of PLACES ns ss).traversal ∷ outer_of (compile_of PLACES ns ss).traversal in
        ends-bounded xs a.traversal.axes base len
        (sym (ends-exact xs a.traversal.axes base len) ∙ ap (λ (n : ℕ). all_inside xs n base len) a.traversal.total ∙ ranged-inside)

    -- refusal 4 does not apply
    pub ranged-few : (compile_of PLACES ns ss).traversal.total ≤ 2 ^ 40
    unfolding above_most
    ranged-few = ltb-false (2 ^ 40) (compile_of PLACES ns ss).traversal.total (sym (ap above_most ranged-accepted.product) ∙ r.clears.most)

    pub list-0 : (room : ℕ) → end - start ≤ room → list_code ns ss base start end len room ≡ 0
    unfolding list_code first_of
    list-0 room h = r.after ((8, ltb room (end - start)) ∷ []) ∙ rw (le-ltb room (end - start) h)

    pub list-8 : (room : ℕ) → room < end - start → list_code ns ss base start end len room ≡ 8
    unfolding list_code first_of
    list-8 room h = r.after ((8, ltb room (end - start)) ∷ []) ∙ rw (lt-ltb room (end - start) h)

  pub list-refused : (room : ℕ) → (range_code ns ss base start end len ≡ 0 → ⊥) → list_code ns ss base start end len room ≡ range_code ns ss base start end len
  unfolding list_code range_code
  list-refused room n = first-hides (compile_refusals PLACES ns ss ++ range_refusals ns ss base start end len) ((8, ltb room (end - start)) ∷ []) n

  -- the buffer after the call
  pub list-kept : (out : List ℤ) → (list_code ns ss base start end len (length out) ≡ 0 → ⊥) → out ≡ list_buffer ns ss base start end len out
  unfolding list_buffer
  list-kept out = buffer-kept (list_code ns ss base start end len (length out)) (offsets_from (axes_of ns ss) base start (end - start)) out

  pub list-filled : (out : List ℤ) → list_code ns ss base start end len (length out) ≡ 0
      → offsets_from (axes_of ns ss) base start (end - start) ++ drop (end - start) out ≡ list_buffer ns ss base start end len out
  unfolding list_buffer
  list-filled out e =
      let zs = offsets_from (axes_of ns ss) base start (end - start) in
      ap (λ (n : ℕ). zs ++ drop n out) (sym (length-offsets (axes_of ns ss) base start (end - start)))
      ∙ buffer-filled (list_code ns ss base start end len (length out)) zs out e

pub offsets-same : (xs ys : List ReduceOuterAxis) (base : ℤ) → SameElements xs ys → (n k : ℕ) → offsets_from ys base k n ≡ offsets_from xs base k n
unfolding offsets_from
offsets-same xs ys base s zero k = refl
offsets-same xs ys base s (suc n) k = rw (s.offsets base k, offsets-same xs ys base s n (suc k))
