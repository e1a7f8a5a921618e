-- A range's pieces, one after another, and the sizes of their exponents.
-- Assumes nothing.
use Prim.Native.Nat.{ℕ, zero, suc, ◌+◌, ◌-◌, ◌*◌, ◌≤◌, ◌<◌}
use mathlib.Core.Path.{◌≡◌, refl, sym, ◌∙◌, ap}
use mathlib.Core.Bool.{Bool, true, false, cond}
use mathlib.Core.List.{List, [], ◌∷◌, map}
use native.Mathlib.Omega.{arith}
use native.Mathlib.Nat.{le_trans}
use lib.ListN.{get_or}
use lib.Dec.{T, ltb}
use lib.IntN.{ℤ, pos, nat_abs, ◌+ℤ◌}
use lib.Ieee.{Float, nan, binary64, fits}
use mir.Val.{SFits, to_z, of_z}
use mir.ValLaws.{to_z-of_z}
use mir.Syntax.{w64}
use Rattle.accumulator.specs.declared.StableProductFloatAcc.{StableProductFloatAcc}
use borrow.Author.Tests.{lt-ltb, le-ltb, ltb-true}
use Rattle.layout.specs.declared.traversal.FullTraversal.{FullTraversal}
use Rattle.offsets.specs.InnerLists.{steps}
use Rattle.offsets.specs.Pieces.{piece_length}
use Rattle.kernels.specs.Pieces.{Piece, worked}
use Rattle.kernels.specs.InnerStrided.{strided}
use Rattle.kernels.proofs.Sizes.{in_piece}
use Rattle.kernels.proofs.Striding.{length-strided}
use Rattle.integers.specs.Integers.{eq_z}
use Rattle.kernels.proofs.Bounded.{worked-size}
use Rattle.kernels.proofs.Striding.{strided-values}
use Rattle.offsets.specs.Values.{value_at}
use Rattle.reduction.specs.Ranges.{piece_at, pieces_from, pieces_of}

-- an accumulator whose fields are handed on one by one
pub handed : (a : StableProductFloatAcc) → SFits w64 a.e
    → ◌≡◌ {A = StableProductFloatAcc} (record { m = a.m; e = to_z w64 (of_z w64 a.e); bad = a.bad }) a
handed a h = ap (λ (z : ℤ). record { m = a.m; e = z; bad = a.bad }) (to_z-of_z w64 a.e h)

-- ---- the list of pieces
module _ (l : FullTraversal) (base : ℤ) (values : List Float) (end : ℕ) where
  pub pieces_none : (n k : ℕ) → end ≤ k → pieces_from l base values end n k ≡ []
  unfolding pieces_from
  pieces_none zero k h = refl
  pieces_none (suc n) k h =
      ap (λ (b : Bool). cond b (piece_at l base values end k ∷ pieces_from l base values end n (k + piece_length l.run_len end k)) []) (le-ltb k end h)

  -- more room for pieces gives no more of them
  enough : (some : (k : ℕ) → k < end → 1 ≤ piece_length l.run_len end k) (n m k : ℕ) → end ≤ k + n → end ≤ k + m
      → pieces_from l base values end n k ≡ pieces_from l base values end m k
  unfolding pieces_from
  enough some zero m k h g = sym (pieces_none m k (omega arith))
  enough some (suc n) zero k h g = pieces_none (suc n) k (omega arith)
  enough some (suc n) (suc m) k h g = go (ltb k end) refl (λ j. enough some n m j)
    where
      go : (b : Bool) → ltb k end ≡ b → ((j : ℕ) → end ≤ j + n → end ≤ j + m → pieces_from l base values end n j ≡ pieces_from l base values end m j)
          → cond b (piece_at l base values end k ∷ pieces_from l base values end n (k + piece_length l.run_len end k)) []
          ≡ cond b (piece_at l base values end k ∷ pieces_from l base values end m (k + piece_length l.run_len end k)) []
      go false e f = refl
      go true e f =
          let p = some k (ltb-true k end e) in
          ap (λ (ps : List Piece). piece_at l base values end k ∷ ps) (f (k + piece_length l.run_len end k) (omega arith) (omega arith))

  pub pieces_more : (some : (k : ℕ) → k < end → 1 ≤ piece_length l.run_len end k) (k : ℕ) → k < end
      → pieces_of l base values k end ≡ piece_at l base values end k ∷ pieces_of l base values (k + piece_length l.run_len end k) end
  unfolding pieces_from
  pieces_more some k h = go (end - k) refl
    where
      go : (n : ℕ) → end - k ≡ n
          → pieces_of l base values k end ≡ piece_at l base values end k ∷ pieces_of l base values (k + piece_length l.run_len end k) end
      go zero e = absurd (omega arith)
      go (suc n) e =
          let p = some k h in
          ap (λ (m : ℕ). pieces_from l base values end m k) e
          ∙ ap (λ (b : Bool). cond b (piece_at l base values end k ∷ pieces_from l base values end n (k + piece_length l.run_len end k)) []) (lt-ltb k end h)
          ∙ ap (λ (ps : List Piece). piece_at l base values end k ∷ ps)
          (enough some n (end - (k + piece_length l.run_len end k)) (k + piece_length l.run_len end k) (omega arith) (omega arith))

-- ---- the values of a piece
pub strided-steps : (values : List Float) (z s : ℤ) (n : ℕ) → strided values z s n ≡ map (value_at values) (steps z s n)
unfolding strided steps
strided-steps values z s zero = refl
strided-steps values z s (suc n) = ap (λ (xs : List Float). value_at values z ∷ xs) (strided-steps values (z +ℤ s) s n)

-- ---- exponents: at most `in_piece` for each value of a piece, either way
pub strided-near : (values : List Float) → ((i : ℕ) → T (fits binary64 (get_or values i nan))) → (z s : ℤ) (n : ℕ) → 1 ≤ n
    → nat_abs (worked (eq_z s (pos 1)) (strided values z s n)).e ≤ in_piece * n
strided-near values v z s n h =
    le_trans
    (worked-size (record { in_blocks = eq_z s (pos 1); rates = strided values z s n }) (strided-values values v z s n))
    (omega (arith, length-strided values z s n))
