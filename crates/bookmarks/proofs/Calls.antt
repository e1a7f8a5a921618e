-- What a call tells, and which calls are refused. Assumes nothing.
use Prim.Native.Nat.{ℕ, ◌+◌, ◌≤◌, ◌<◌}
use mathlib.Core.Path.{◌≡◌, refl, sym, ◌∙◌, ap}
use mathlib.Core.Bool.{Bool, true, false, cond, not, ◌&&◌}
use mathlib.Core.List.{List, [], ◌∷◌, ◌++◌}
use native.Mathlib.Omega.{arith}
use lib.ListN.{length}
use lib.Dec.{eqb}
use lib.IntN.{ℤ}
use lib.Ieee.{Float}
use borrow.Author.Tests.{eq-eqb, ne_eqb, eqb-true, eqb-false, not-false}
use Rattle.refusals.specs.Refusals.{Ranked, first_of}
use Rattle.layout.specs.declared.traversal.FullTraversal.{FullTraversal}
use Rattle.layout.specs.Axes.{PLACES}
use Rattle.layout.specs.Compile.{compile_refusals, compile_of}
use Rattle.offsets.specs.Lists.{range_refusals, range_code}
use Rattle.offsets.proofs.Accepted.{refused_none}
use Rattle.offsets.proofs.Ranges.{first-hides, first-none, ranged}
use Rattle.accumulator.specs.declared.StableProductFloatAcc.{StableProductFloatAcc}
use Rattle.std.specs.Prelude.{Ok}
use Rattle.accumulator.specs.Joining.{in_limits, Answer, refusal, answer_of}
use Rattle.kernels.specs.Pieces.{Piece, rates_of}
use Rattle.reduction.specs.Ranges.{pieces_from}
use Rattle.bookmarks.specs.declared.Bookmark.{Bookmark}
use Rattle.bookmarks.specs.Steps.{Done, More, Refused, begins_piece, step_refusals, step_code, portion_of, told, step_of}
use Rattle.bookmarks.proofs.Telling.{told-done, told_more}

module _ (ns : List ℕ) (ss : List ℤ) (base : ℤ) (start end : ℕ) (values : List Float) (mark : Bookmark) (n : ℕ) where
  abbrev l : FullTraversal
  l = (compile_of PLACES ns ss).traversal

  abbrev code : ℕ
  code = step_code ns ss base start end (length values) mark n

  abbrev ps : List Piece
  ps = pieces_from l base values end n mark.next

  abbrev answer : Answer
  answer = portion_of (eqb mark.next start) mark.acc ps

  abbrev by_code : Bool → Answer
  by_code b = cond b answer (refusal code)

  -- it tells of the answer, or of the refusal
  step-told : (b : Bool) → eqb code 0 ≡ b → step_of ns ss base start end values mark n ≡ told end (mark.next + length (rates_of ps)) (length ps) (by_code b)
  unfolding step_of
  step-told true e = ap (λ (b : Bool). cond b (told end (mark.next + length (rates_of ps)) (length ps) answer) (Refused code)) e
  step-told false e = ap (λ (b : Bool). cond b (told end (mark.next + length (rates_of ps)) (length ps) answer) (Refused code)) e

  by-code-acc : (b : Bool) (a : StableProductFloatAcc) → eqb code 0 ≡ b → by_code b ≡ answer_of (Ok a) → (code ≡ 0) × (answer ≡ answer_of (Ok a))
  by-code-acc true a e q = (eqb-true code 0 e, q)
  by-code-acc false a e q = let z : ◌≡◌ {A = ℕ} 0 1 = cc in absurd (omega arith)

  -- one with the code 0 tells of the answer
  pub step-tells : code ≡ 0 → (to : ℕ) (q : Answer) → mark.next + length (rates_of ps) ≡ to → answer ≡ q
      → step_of ns ss base start end values mark n ≡ told end to (length ps) q
  step-tells e to q s f =
      step-told true (eq-eqb code 0 e) ∙ ap (λ (k : ℕ). told end k (length ps) answer) s ∙ ap (told end to (length ps)) f

  -- any other is refused by its code
  pub step-refused : (c : ℕ) → c ≡ code → (c ≡ 0 → ⊥) → Refused c ≡ step_of ns ss base start end values mark n
  step-refused c e h = ap Refused e ∙ sym (step-told false (ne_eqb code 0 (λ z. h (e ∙ z))))

  -- and only such a one is done, or goes on
  pub step-done : (a : StableProductFloatAcc) (pieces : ℕ) → step_of ns ss base start end values mark n ≡ Done a pieces
      → (code ≡ 0) × (answer ≡ answer_of (Ok a)) × (end ≤ mark.next + length (rates_of ps)) × (length ps ≡ pieces)
  step-done a pieces e =
      let d = told-done end (mark.next + length (rates_of ps)) (length ps) (by_code (eqb code 0)) a pieces (sym (step-told (eqb code 0) refl) ∙ e) in
      let z = by-code-acc (eqb code 0) a refl d.0 in
      (z.0, z.1, d.1, d.2)

  pub step-more : (to : Bookmark) (pieces : ℕ) → step_of ns ss base start end values mark n ≡ More to pieces
      → (code ≡ 0) × (answer ≡ answer_of (Ok to.acc)) × (mark.next + length (rates_of ps) ≡ to.next) × (to.next < end) × (length ps ≡ pieces)
  step-more to pieces e =
      let d = told_more end (mark.next + length (rates_of ps)) (length ps) (by_code (eqb code 0)) to pieces (sym (step-told (eqb code 0) refl) ∙ e) in
      let z = by-code-acc (eqb code 0) to.acc refl d.0 in
      (z.0, z.1, d.1, omega (arith, d.1, d.2), d.3)

  -- ---- the code: the range's refusals, and then those of the bookmark
  abbrev faults : List Ranked
  faults = step_refusals l.run_len start end mark n

  pub code-range : (range_code ns ss base start end (length values) ≡ 0 → ⊥) → range_code ns ss base start end (length values) ≡ code
  unfolding step_code range_code
  code-range h = sym (first-hides (compile_refusals PLACES ns ss ++ range_refusals ns ss base start end (length values)) faults h)

  pub code-faults : range_code ns ss base start end (length values) ≡ 0 → first_of faults ≡ code
  unfolding step_code
  code-faults e = sym ((ranged ns ss base start end (length values) e).after faults)

  -- it is 0 exactly of a call that keeps to the rules
  pub record Allowed : Type 0 where
    pub range : range_code ns ss base start end (length values) ≡ 0
    pub some_piece : 1 ≤ n
    pub begins : begins_piece l.run_len start end mark.next ≡ true
    pub stands : (not (eqb mark.next start) && not (in_limits mark.acc)) ≡ false

  pub code-allowed : Allowed → code ≡ 0
  unfolding step_refusals first_of
  code-allowed w =
      let o = w.some_piece in
      sym (code-faults w.range) ∙ rw (ne_eqb n 0 (λ q. omega arith), w.begins, w.stands)

  pub allowed : code ≡ 0 → Allowed
  unfolding step_code range_code step_refusals
  allowed e =
      let z = first-none (compile_refusals PLACES ns ss ++ range_refusals ns ss base start end (length values)) faults e in
      let r9 : List Ranked = (9, not (eqb mark.next start) && not (in_limits mark.acc)) ∷ [] in
      let r15 : List Ranked = (15, not (begins_piece l.run_len start end mark.next)) ∷ r9 in
      let x = refused_none 13 (eqb n 0) r15 (code-faults z ∙ e) in
      let y = refused_none 14 (not (begins_piece l.run_len start end mark.next)) r9 x.1 in
      let w = refused_none 8 (not (eqb mark.next start) && not (in_limits mark.acc)) [] y.1 in
      let o = eqb-false n 0 x.0 in
      record { range = z; some_piece = omega arith; begins = not-false (begins_piece l.run_len start end mark.next) y.0; stands = w.0 }

  -- inside the range the accumulator is within its limits
  pub stands-within : Allowed → (mark.next ≡ start → ⊥) → in_limits mark.acc ≡ true
  stands-within w d =
      not-false (in_limits mark.acc) (sym (ap (λ (t : Bool). not t && not (in_limits mark.acc)) (ne_eqb mark.next start d)) ∙ w.stands)
