-- Pieces joined onto an accumulator one after another, with and without refusals, and portions of pieces joined one behind another.
-- Assumes nothing.
use Prim.Native.Nat.{ℕ, ◌+◌, ◌*◌, ◌^◌, ◌≤◌, ◌<◌}
use mathlib.Core.Path.{◌≡◌, refl, sym, ◌∙◌, ap}
use mathlib.Core.Bool.{Bool, true, false, cond, not, ◌&&◌, ◌||◌, and-false}
use mathlib.Core.List.{List, [], ◌∷◌, ◌++◌, map, map-append, foldl, foldl-append}
use native.Mathlib.Omega.{arith}
use lib.ListN.{length, length-append}
use lib.Dec.{T}
use lib.IntN.{ℤ, nat_abs}
use lib.Ieee.{Float, binary64, fits}
use borrow.Author.Tests.{le-leb}
use Rattle.laws.specs.Lists.{Each, none, more}
use Rattle.layout.specs.declared.traversal.FullTraversal.{FullTraversal}
use Rattle.offsets.specs.InnerCursors.{Bounded, Traversal}
use Rattle.offsets.specs.Pieces.{run_of, outer_of}
use Rattle.offsets.proofs.Runs.{run-some}
use Rattle.accumulator.specs.declared.StableProductFloatAcc.{StableProductFloatAcc}
use Rattle.std.specs.Prelude.{Ok}
use Rattle.accumulator.specs.Joining.{combined, within_limit, in_limits, Answer, refusal, answer_of, answered}
use Rattle.accumulator.proofs.Combining.{acc-same}
use Rattle.kernels.specs.Pieces.{Piece, worked_piece, joined_onto, joined_pieces, rates_of}
use Rattle.kernels.proofs.Sizes.{in_list, combined-size}
use Rattle.kernels.proofs.Bounded.{FullPiece, worked-size, joined-within}
use Rattle.reduction.specs.Ranges.{pieces_from}
use Rattle.reduction.proofs.Demand.{full-pieces, range-in-limits}
use Rattle.bookmarks.specs.Steps.{and_then, joined_within}
use Rattle.bookmarks.specs.InnerPortions.{stop_at}
use Rattle.bookmarks.proofs.Portions.{stop-upto, stop-forward, portion-count, portion-stop, portion-pieces, portion-split}

-- ---- joined with refusals
-- a join whose exponent is within the limit is not refused
answered-within : (a b : StableProductFloatAcc) → within_limit (combined a b).e ≡ true → answered a b ≡ answer_of (Ok (combined a b))
unfolding answered
answered-within a b h =
    ap (λ (t : Bool). cond (not (a.bad || b.bad) && not t) (refusal 10) (answer_of (Ok (combined a b)))) h
    ∙ ap (λ (t : Bool). cond t (refusal 10) (answer_of (Ok (combined a b)))) (and-false (not (a.bad || b.bad)))

-- exponents of at most `in_list` for each value, and those of the accumulator, within the limit: nothing is refused
pub joined-near : (a : StableProductFloatAcc) {ps : List Piece} → Each FullPiece ps → nat_abs a.e + in_list * length (rates_of ps) ≤ 2 ^ 52
    → joined_within a ps ≡ answer_of (Ok (joined_onto a ps))
unfolding joined_within rates_of
joined-near a none h = refl
joined-near a (more {x = p} {xs = ps} f fs) h =
    let c = combined a (worked_piece p) in
    let z : nat_abs c.e + in_list * length (rates_of ps) ≤ 2 ^ 52 = omega (
      arith,
      combined-size a (worked_piece p),
      worked-size p f.values,
      f.some_rate,
      length-append p.rates (rates_of ps),
    ) in
    ap (λ (q : Answer). and_then q (λ (r : StableProductFloatAcc). joined_within r ps))
    (answered-within a (worked_piece p) (le-leb (nat_abs c.e) (2 ^ 52) (omega arith)))
    ∙ joined-near c fs z

pub same-acc : (a r : StableProductFloatAcc) → answer_of (Ok a) ≡ answer_of (Ok r) → r ≡ a
same-acc a r e = acc-same r.m a.m r.e a.e r.bad a.bad (cc) (cc) (cc)

-- what is not refused is the joined accumulator
pub joined_is : (a : StableProductFloatAcc) (ps : List Piece) (r : StableProductFloatAcc) → joined_within a ps ≡ answer_of (Ok r) → r ≡ joined_onto a ps
unfolding joined_within answered
joined_is a [] r e = same-acc a r e
joined_is a (p ∷ ps) r e =
    go (not (a.bad || (worked_piece p).bad) && not (within_limit (combined a (worked_piece p)).e)) (combined a (worked_piece p)) e
    (joined_is (combined a (worked_piece p)) ps r)
  where
    go : (t : Bool) (c : StableProductFloatAcc)
        → and_then (cond t (refusal 10) (answer_of (Ok c))) (λ (q : StableProductFloatAcc). joined_within q ps) ≡ answer_of (Ok r)
        → (joined_within c ps ≡ answer_of (Ok r) → r ≡ joined_onto c ps) → r ≡ joined_onto c ps
    go true c e f = cc
    go false c e f = f e

-- ---- lists of pieces one behind another
joined-behind : (a : StableProductFloatAcc) (ps qs : List Piece) → joined_onto a (ps ++ qs) ≡ joined_onto (joined_onto a ps) qs
joined-behind a ps qs = ap (foldl combined a) (map-append worked_piece ps qs) ∙ foldl-append combined a (map worked_piece ps) (map worked_piece qs)

pieces-behind : (ps qs : List Piece) → 0 < length ps → joined_pieces (ps ++ qs) ≡ joined_onto (joined_pieces ps) qs
unfolding joined_pieces
pieces-behind [] qs h = absurd (omega arith)
pieces-behind (p ∷ ps) qs h = joined-behind (worked_piece p) ps qs

rates-behind : (ps qs : List Piece) → length (rates_of (ps ++ qs)) ≡ length (rates_of ps) + length (rates_of qs)
unfolding rates_of
rates-behind [] qs = omega arith
rates-behind (p ∷ ps) qs =
    let e = rates-behind ps qs in
    omega (arith, length-append p.rates (rates_of (ps ++ qs)), length-append p.rates (rates_of ps))

-- ---- the first m pieces of a range, and n behind them
module _ (l : FullTraversal) (t : Traversal l) (base : ℤ) (b : Bounded (run_of l ∷ outer_of l) base) (values : List Float)
    (v : Each (λ (x : Float). T (fits binary64 x)) values) (start end : ℕ) (forward : start < end) (few : end ≤ 2 ^ 40) (m : ℕ) (some : 1 ≤ m) where
  abbrev first : ℕ → List Piece
  first k = pieces_from l base values end k start

  abbrev reach : ℕ → ℕ
  reach k = stop_at l.run_len end k start

  upto : (k : ℕ) → reach k ≤ end
  upto = stop-upto l.run_len end start (run-some l t) forward

  first_ends : (k : ℕ) → 1 ≤ k → start + length (rates_of (first k)) ≡ reach k
  first_ends k h = portion-stop l t base b values end k start h forward

  -- joined, the first m can be handed in again
  pub first-in-limits : in_limits (joined_pieces (pieces_from l base values end m start)) ≡ true
  first-in-limits =
      ap (λ (ps : List Piece). in_limits (joined_pieces ps)) (portion-pieces l t base b values end m start some forward)
      ∙ range-in-limits l t base b values v (reach m) start (stop-forward l.run_len end start (run-some l t) forward m some) (omega (arith, upto m))

  module _ (n : ℕ) where
    abbrev second : List Piece
    second = pieces_from l base values end n (reach m)

    both : first (m + n) ≡ first m ++ second
    both = portion-split l t base b values end m n start ∙ ap (λ (k : ℕ). first m ++ pieces_from l base values end n k) (first_ends m some)

    -- the n end where the first m + n end
    pub both_end : stop_at l.run_len end m start + length (rates_of (pieces_from l base values end n (stop_at l.run_len end m start)))
        ≡ stop_at l.run_len end (m + n) start
    both_end =
        omega (arith, first_ends m some, first_ends (m + n) (omega arith), ap (λ (ps : List Piece). length (rates_of ps)) both ∙ rates-behind (first m) second)

    -- joined onto the first m they are the first m + n, and nothing is refused
    pub both-joined : joined_within (joined_pieces (pieces_from l base values end m start)) (pieces_from l base values end n (stop_at l.run_len end m start))
        ≡ answer_of (Ok (joined_pieces (pieces_from l base values end (m + n) start)))
    both-joined =
        let x = (joined-within (full-pieces l t base b values v end m start)).1 in
        joined-near (joined_pieces (first m)) (full-pieces l t base b values v end n (reach m))
        (omega (arith, x, upto (m + n), first_ends m some, both_end))
        ∙ ap (λ (r : StableProductFloatAcc). answer_of (Ok r))
        (sym (ap joined_pieces both ∙ pieces-behind (first m) second (omega (arith, portion-count l t base b values end m start some forward))))
