-- The values of a range, piece by piece.
-- Assumes nothing.
use Prim.Native.Nat.{ℕ, ◌+◌, ◌-◌, ◌^◌, ◌≤◌, ◌<◌}
use mathlib.Core.Path.{◌≡◌, sym, ◌∙◌, ap}
use mathlib.Core.Bool.{true, false, true≢false}
use mathlib.Core.List.{List, [], ◌∷◌, ◌++◌, map, map-append}
use native.Mathlib.Omega.{arith}
use lib.Dec.{T, ltb}
use lib.IntN.{ℤ, pos, negsuc, nat_abs, ◌+ℤ◌, ◌*ℤ◌}
use lib.Signed.{non_neg, le_z, lt_z}
use lib.Ieee.{Float}
use mir.Val.{SFits}
use mir.Syntax.{w64}
use borrow.Author.Tests.{ltb-true}
use Rattle.integers.proofs.Difference.{ints, atoms}
use Rattle.layout.specs.declared.traversal.FullTraversal.{FullTraversal}
use Rattle.offsets.specs.declared.pieces.RangeCursor.{RangeCursor}
use Rattle.offsets.specs.declared.pieces.RangePiece.{RangePiece}
use Rattle.offsets.specs.Elements.{offset, inside_values, all_inside}
use Rattle.offsets.specs.InnerCursors.{Traversal}
use Rattle.offsets.specs.Pieces.{run_of, outer_of}
use Rattle.offsets.specs.Lists.{offsets_from}
use Rattle.offsets.specs.Values.{value_at, rates_from}
use Rattle.offsets.proofs.Ends.{and3, seven-exact}
use Rattle.offsets.proofs.Walking.{PieceHere}
use Rattle.offsets.proofs.Writing.{offsets-append}

-- a place inside the values, as the code holds it: an i64, and an index below their number
pub record Index (len : ℕ) (z : ℤ) : Type 0 where
  pub natural : T (non_neg z)
  pub below : nat_abs z < len
  pub in_i64 : SFits w64 z

pub inside-index : (len : ℕ) (z : ℤ) → inside_values len z ≡ true → Index len z
unfolding inside_values
inside-index len (negsuc k) e = absurd (true≢false (sym (and3 false (lt_z (negsuc k) (pos (2 ^ 63))) (lt_z (negsuc k) (pos len)) e).0))
inside-index len (pos k) e =
    let a = and3 (le_z (pos 0) (pos k)) (ltb k (2 ^ 63)) (ltb k len) e in
    record { natural = tt; below = ltb-true k len a.2; in_i64 = fits (ltb-true k (2 ^ 63) a.1) }
  where
    fits : k < 2 ^ 63 → SFits w64 (pos k)
    fits = simp ints (simp atoms (omega arith))

-- each element's offset lies inside the values
pub element-inside : (l : FullTraversal) → Traversal l → (base : ℤ) (len : ℕ) → all_inside (run_of l ∷ outer_of l) l.total base len ≡ true
    → (k : ℕ) → k < l.total → inside_values len (offset (run_of l ∷ outer_of l) base k) ≡ true
element-inside l t base len w k h =
    (seven-exact (run_of l ∷ outer_of l) t.axes base len).0
    (ap (λ (n : ℕ). all_inside (run_of l ∷ outer_of l) n base len) t.total ∙ w) k (rw t.total h)

-- each place of the piece at a cursor lies inside the values
pub piece_inside : (l : FullTraversal) → Traversal l → (base : ℤ) (len : ℕ) → all_inside (run_of l ∷ outer_of l) l.total base len ≡ true
    → (end : ℕ) → end ≤ l.total → (c : RangeCursor) (p : RangePiece) → PieceHere l base end c p
    → (i : ℕ) → i < p.len → inside_values len (p.first +ℤ l.run_stride *ℤ pos i) ≡ true
piece_inside l t base len w end few c p here i k =
    ap (inside_values len) (here.offsets i k) ∙ element-inside l t base len w (c.at + i) (omega (arith, here.ends))

module _ (l : FullTraversal) (base : ℤ) (values : List Float) (end : ℕ) where
  -- a piece's rates, and those after it
  pub rates-joined : (k m : ℕ) → k + m ≤ end
      → rates_from l base values k m ++ rates_from l base values (k + m) (end - (k + m)) ≡ rates_from l base values k (end - k)
  rates-joined k m h =
      sym (map-append (value_at values) (offsets_from (run_of l ∷ outer_of l) base k m) (offsets_from (run_of l ∷ outer_of l) base (k + m) (end - (k + m))))
      ∙ ap (map (value_at values)) (sym (offsets-append (run_of l ∷ outer_of l) base k m (end - (k + m))))
      ∙ ap (rates_from l base values k) all_left
    where
      all_left : m + (end - (k + m)) ≡ end - k
      all_left = omega arith

  -- no rate is left at the end
  pub rates-over : (k : ℕ) → end ≤ k → [] ≡ rates_from l base values k (end - k)
  unfolding offsets_from
  rates-over k h = ap (rates_from l base values k) none_left
    where
      none_left : 0 ≡ end - k
      none_left = omega arith
