-- Where pieces begin, and how many lie between two element numbers.
-- Assumes nothing.
use Prim.Native.Nat.{ℕ, zero, suc, ◌+◌, ◌-◌, ◌*◌, ◌/◌, ◌%◌, ◌≤◌, ◌<◌, min}
use mathlib.Core.Path.{◌≡◌, refl, sym, ◌∙◌, ap}
use mathlib.Core.Bool.{Bool, true, false, cond, ◌&&◌, ◌||◌, or-true, and-false}
use mathlib.Core.List.{List, ◌∷◌}
use native.Mathlib.Omega.{arith}
use native.Mathlib.Nat.{le_refl, mod-lt, mul-mod_left, div-add-mod', add-zero, zero-add, suc-add, add-suc}
use lib.Arith.{digits_mod}
use lib.ListN.{length}
use lib.IntN.{ℤ}
use lib.Ieee.{Float}
use lib.Dec.{ltb, leb, eqb}
use borrow.Author.Tests.{eqb-true, ltb-true, leb-true, eq-eqb, ne_eqb, le-leb, lt-ltb}
use Rattle.layout.specs.declared.traversal.FullTraversal.{FullTraversal}
use Rattle.offsets.specs.InnerCursors.{Bounded, Traversal}
use Rattle.offsets.specs.Pieces.{run_of, outer_of, piece_length}
use Rattle.offsets.proofs.Ends.{and3}
use Rattle.offsets.proofs.Runs.{run-some}
use Rattle.reduction.specs.Ranges.{pieces_from}
use Rattle.bookmarks.specs.Steps.{begins_piece}
use Rattle.bookmarks.specs.InnerPortions.{pieces_left, stop_at}
use Rattle.bookmarks.specs.Theorems.{count_from, pieces_between}
use Rattle.bookmarks.proofs.Portions.{stop-all, stop-part, stop-inside, stop-none, stop-behind, stop-forward, stop-more, left_one, left-more}
use Rattle.bookmarks.proofs.Portions.{behind-begins, by-pieces, portion-count}

-- ---- how many of the numbers from k on are such
module _ (p : ℕ → Bool) where
  count-split : (m n k : ℕ) → count_from p (m + n) k ≡ count_from p m k + count_from p n (k + m)
  unfolding count_from
  count-split zero n k = rw (zero-add n, add-zero k, zero-add (count_from p n k))
  count-split (suc m) n k = rw (suc-add m n, add-suc k m, ← (suc-add k m), count-split m n (suc k)) (omega arith)

  count_none : (n k : ℕ) → ((j : ℕ) → k ≤ j → j < k + n → p j ≡ false) → count_from p n k ≡ 0
  unfolding count_from
  count_none zero k f = refl
  count_none (suc n) k f = rw (f k (omega arith) (omega arith), count_none n (suc k) (λ j a b. f j (omega arith) (omega arith)))

-- ---- where pieces begin
module _ (len start end : ℕ) where
  -- at the start
  pub begins-start : begins_piece len start end start ≡ true
  begins-start = rw (eq-eqb start start refl)

  -- and at each multiple of the run length
  pub begins-run : (k : ℕ) → start ≤ k → k < end → k % len ≡ 0 → begins_piece len start end k ≡ true
  begins-run k h g e = rw (le-leb start k h, lt-ltb k end g, eq-eqb (k % len) 0 e) (or-true (eqb k start))

  pub begins-inside : (k : ℕ) → start < end → begins_piece len start end k ≡ true → (start ≤ k) × (k < end)
  begins-inside k h e = go (eqb k start) refl e
    where
      go : (b : Bool) → eqb k start ≡ b → (b || (leb start k && ltb k end && eqb (k % len) 0)) ≡ true → (start ≤ k) × (k < end)
      go true q e = let z = eqb-true k start q in (omega arith, omega arith)
      go false q e = let z = and3 (leb start k) (ltb k end) (eqb (k % len) 0) e in (leb-true start k z.0, ltb-true k end z.1)

  begins-not : (k : ℕ) → start < k → (k % len ≡ 0 → ⊥) → begins_piece len start end k ≡ false
  begins-not k h n = rw (ne_eqb k start (λ e. omega arith), ne_eqb (k % len) 0 n) (and-false (leb start k && ltb k end))

-- ---- the piece at element k is one
module _ (len start end k : ℕ) (some : 1 ≤ len) (h : start ≤ k) (g : k < end) (b : begins_piece len start end k ≡ true) where
  -- no other begins in it
  begins-once : (j : ℕ) → suc k ≤ j → j < k + piece_length len end k → begins_piece len start end j ≡ false
  begins-once j a q = begins-not len start end j (omega arith) (λ e. omega (arith, column, e))
    where
      column : j % len ≡ k % len + (j - k)
      column =
          let d = div-add-mod' k len in
          let e : j ≡ k / len * len + (k % len + (j - k)) = omega arith in
          ap (λ (i : ℕ). i % len) e ∙ digits_mod (k / len) (omega (arith, mod-lt k some))

  count-piece : count_from (begins_piece len start end) (piece_length len end k) k ≡ 1
  unfolding count_from
  count-piece =
      let m = mod-lt k some in
      let d = piece_length len end k - 1 in
      let e : piece_length len end k ≡ suc d = omega arith in
      ap (λ (n : ℕ). count_from (begins_piece len start end) n k) e
      ∙ ap (λ (x : Bool). cond x 1 0 + count_from (begins_piece len start end) d (suc k)) b
      ∙ ap (λ (n : ℕ). 1 + n) (count_none (begins_piece len start end) d (suc k) (λ j a q. begins-once j a (omega arith)))

-- ---- n pieces
module _ (len start end : ℕ) (some : 1 ≤ len) where
  abbrev begins : ℕ → Bool
  begins = begins_piece len start end

  -- as many as begin before the element behind them
  abbrev Counted : ℕ → ℕ → Type 0
  Counted n k = start ≤ k → begins k ≡ true → min n (pieces_left len end k) ≡ pieces_between len start end k (stop_at len end n k)

  count-stop : (n k : ℕ) → k < end → (n ≡ 0 → k % len ≡ 0) → Counted n k
  unfolding count_from
  count-stop = by-pieces len end some Counted none last more
    where
      none : (k : ℕ) → k < end → k % len ≡ 0 → Counted 0 k
      none k g r h b =
          let s = stop-none len end k r in
          let e : 0 ≡ stop_at len end 0 k - k = omega arith in
          let z : min 0 (pieces_left len end k) ≡ 0 = omega arith in
          z ∙ ap (λ (m : ℕ). count_from begins m k) e

      last : (n k : ℕ) → k < end → end ≤ k + piece_length len end k → Counted (suc n) k
      last n k g q h b =
          let o = left_one len end k some g q in
          let s = stop-all len end (suc n) k (omega arith) in
          let e : piece_length len end k ≡ stop_at len end (suc n) k - k = omega arith in
          let z : min (suc n) (pieces_left len end k) ≡ 1 = omega arith in
          z ∙ sym (count-piece len start end k some h g b) ∙ ap (λ (m : ℕ). count_from begins m k) e

      more : (n k : ℕ) → k < end → k + piece_length len end k < end → Counted n (k + piece_length len end k) → Counted (suc n) k
      more n k g q f h b =
          let j = k + piece_length len end k in
          let o = left-more len end k some g q in
          let s = stop-more len end k some g q n in
          let c = stop-behind len end k some g (suc n) (omega arith) in
          let e : piece_length len end k + (stop_at len end n j - j) ≡ stop_at len end (suc n) k - k = omega arith in
          let i = f (omega arith) (begins-run len start end j (omega arith) q (behind-begins len end k some g q)) in
          let z : min (suc n) (pieces_left len end k) ≡ 1 + pieces_between len start end j (stop_at len end n j) = omega arith in
          z
          ∙ ap (λ (m : ℕ). m + pieces_between len start end j (stop_at len end n j)) (sym (count-piece len start end k some h g b))
          ∙ sym (count-split begins (piece_length len end k) (stop_at len end n j - j) k)
          ∙ ap (λ (m : ℕ). count_from begins m k) e

  -- behind n pieces, where the range goes on, another begins
  pub stop-begins : (n k : ℕ) → 1 ≤ n → start ≤ k → k < end → stop_at len end n k < end → begins_piece len start end (stop_at len end n k) ≡ true
  stop-begins n k m h g q =
      begins-run len start end (stop_at len end n k) (omega (arith, stop-forward len end k some g n m)) q
      (ap (λ (j : ℕ). j % len) (stop-part len end n k (stop-inside len end n k q)) ∙ mul-mod_left (k / len + n) len)

  -- all the pieces of the range
  pub count-all : start < end → pieces_left len end start ≡ pieces_between len start end start end
  count-all g =
      let p = pieces_left len end start in
      let z : p ≡ min p p = omega arith in
      z
      ∙ count-stop p start g (λ e. absurd (omega arith)) (le_refl start) (begins-start len start end)
      ∙ ap (pieces_between len start end start) (stop-all len end p start (le_refl p))

-- a portion has as many pieces as begin before its end
pub portion-between : (l : FullTraversal) (t : Traversal l) (base : ℤ) (b : Bounded (run_of l ∷ outer_of l) base) (values : List Float) (start end n k : ℕ)
    → 1 ≤ n → start ≤ k → k < end → begins_piece l.run_len start end k ≡ true
    → length (pieces_from l base values end n k) ≡ pieces_between l.run_len start end k (stop_at l.run_len end n k)
portion-between l t base b values start end n k m h g p =
    portion-count l t base b values end n k m g ∙ count-stop l.run_len start end (run-some l t) n k g (λ e. absurd (omega arith)) h p
