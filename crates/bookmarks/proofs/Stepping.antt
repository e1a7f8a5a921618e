-- A call over an accepted range that asks nothing more of the bookmark: what its portion asks, and what is told of it. Assumes nothing.
use Prim.Native.Nat.{ℕ, ◌+◌, ◌≤◌, ◌<◌, min}
use mathlib.Core.Path.{◌≡◌, refl, sym, ◌∙◌, ap}
use mathlib.Core.Bool.{true}
use mathlib.Core.List.{List}
use native.Mathlib.Omega.{arith}
use lib.ListN.{length}
use lib.Dec.{eqb}
use lib.IntN.{ℤ}
use lib.Ieee.{Float}
use Rattle.refusals.specs.Refusals.{first_of}
use Rattle.layout.specs.declared.traversal.FullTraversal.{FullTraversal}
use Rattle.offsets.proofs.Checked.{Checked}
use Rattle.offsets.proofs.Runs.{run-some}
use Rattle.accumulator.specs.Joining.{in_limits, Answer}
use Rattle.kernels.specs.Pieces.{rates_of}
use Rattle.reduction.specs.Ranges.{pieces_from, pieces_of}
use Rattle.bookmarks.specs.declared.Bookmark.{Bookmark}
use Rattle.bookmarks.specs.InnerPortions.{pieces_left, stop_at}
use Rattle.bookmarks.specs.Steps.{step_refusals, step_code, portion_of, told, step_of}
use Rattle.bookmarks.proofs.Portions.{portion-count, portion-stop, portion-pieces, stop-forward, stop-upto}
use Rattle.bookmarks.proofs.Counting.{begins-inside}
use Rattle.bookmarks.proofs.Calls.{code-faults, Allowed, allowed, stands-within, step-tells}

module _ (ns : List ℕ) (ss : List ℤ) (base : ℤ) (start end : ℕ) (values : List Float) (mark : Bookmark) (n : ℕ) (l : FullTraversal)
    (a : Checked ns ss base start end (length values) l) where
  -- what is asked of the bookmark, over the compiled layout
  pub faults : first_of (step_refusals l.run_len start end mark n) ≡ step_code ns ss base start end (length values) mark n
  faults =
      ap (λ (t : FullTraversal). first_of (step_refusals t.run_len start end mark n)) a.is
      ∙ code-faults ns ss base start end values mark n a.code

  module _ (z : first_of (step_refusals l.run_len start end mark n) ≡ 0) where
    code-none : step_code ns ss base start end (length values) mark n ≡ 0
    code-none = sym faults ∙ z

    marked : Allowed ns ss base start end values mark n
    marked = allowed ns ss base start end values mark n code-none

    pub below : mark.next < end
    below = (begins-inside _ start end mark.next a.forward marked.begins).1

    pub stands : (mark.next ≡ start → ⊥) → in_limits mark.acc ≡ true
    stands = stands-within ns ss base start end values mark n marked

    pub forward : (stop : ℕ) → stop ≡ stop_at l.run_len end n mark.next → mark.next < stop
    forward stop e =
        let f = stop-forward l.run_len end mark.next (run-some l a.traversal) below n marked.some_piece in omega (arith, e, f)

    pub upto : (stop : ℕ) → stop ≡ stop_at l.run_len end n mark.next → stop ≤ end
    upto stop e = let u = stop-upto l.run_len end mark.next (run-some l a.traversal) below n in omega (arith, e, u)

    pub tells : (stop pieces : ℕ) → stop ≡ stop_at l.run_len end n mark.next → pieces ≡ min n (pieces_left l.run_len end mark.next) → (q : Answer)
        → q ≡ portion_of (eqb mark.next start) mark.acc (pieces_of l base values mark.next stop)
        → told end stop pieces q ≡ step_of ns ss base start end values mark n
    tells stop pieces s p q e =
        let first = eqb mark.next start in
        let ps = pieces_from l base values end n mark.next in
        let some = marked.some_piece in
        let worked : q ≡ portion_of first mark.acc ps
        = e
        ∙ ap (portion_of first mark.acc)
        (ap (pieces_of l base values mark.next) s ∙ sym (portion-pieces l a.traversal base a.bounded values end n mark.next some below)) in
        ap (told end stop pieces) worked
        ∙ ap (λ (k : ℕ). told end k pieces (portion_of first mark.acc ps))
        (s ∙ sym (portion-stop l a.traversal base a.bounded values end n mark.next some below))
        ∙ ap (λ (k : ℕ). told end (mark.next + length (rates_of ps)) k (portion_of first mark.acc ps))
        (p ∙ sym (portion-count l a.traversal base a.bounded values end n mark.next some below))
        ∙ ap (λ (t : FullTraversal). let qs = pieces_from t base values end n mark.next in
        told end (mark.next + length (rates_of qs)) (length qs) (portion_of first mark.acc qs)) a.is
        ∙ sym (step-tells ns ss base start end values mark n code-none _ _ refl refl)
