-- A portion of a range's pieces: how many they are, where they end, and that they are the pieces of a shorter range.
-- Assumes nothing.
use Prim.Native.Nat.{ℕ, zero, suc, ◌+◌, ◌-◌, ◌*◌, ◌/◌, ◌%◌, ◌≤◌, ◌<◌, min}
use mathlib.Core.Path.{◌≡◌, refl, sym, ◌∙◌, ap}
use mathlib.Core.Bool.{Bool, true, false, cond}
use mathlib.Core.List.{List, [], ◌∷◌, ◌++◌}
use native.Mathlib.Omega.{arith}
use native.Mathlib.Nat.{le_refl, le_trans, mod-lt, mul-mod_left, mul-le-mul_right, add-zero, zero-add, suc-add}
use native.Mathlib.Nat.{div-add-mod', div-le_self, div-mul-le_self, le-div_iff_mul-le, div-eq_of_lt-le, mul-div_cancel}
use lib.ListN.{length, length-append}
use lib.Dec.{ltb, leb, leb-suc-suc}
use lib.IntN.{ℤ, pos}
use lib.Ieee.{Float}
use borrow.Author.Tests.{lt-ltb, ltb-true, ltb-false, le-leb, lt-leb, leb-true, leb-false}
use Rattle.integers.specs.Integers.{eq_z}
use Rattle.laws.proofs.Tests.{by-test}
use Rattle.layout.specs.declared.traversal.FullTraversal.{FullTraversal}
use Rattle.offsets.specs.InnerCursors.{Bounded, Traversal}
use Rattle.offsets.specs.Pieces.{run_of, outer_of, piece_length}
use Rattle.offsets.specs.Values.{rates_from}
use Rattle.offsets.proofs.Walking.{len-pos}
use Rattle.offsets.proofs.Runs.{run-some}
use Rattle.kernels.specs.Pieces.{Piece, rates_of}
use Rattle.reduction.specs.Ranges.{piece_at, pieces_from, pieces_of}
use Rattle.reduction.proofs.Pieces.{pieces_none, pieces_more}
use Rattle.reduction.proofs.Demand.{length-rates}
use Rattle.bookmarks.specs.InnerPortions.{pieces_left, stop_at}

-- ---- numbers of runs and of elements
module _ (len end n k : ℕ) where
  pub stop-all : pieces_left len end k ≤ n → stop_at len end n k ≡ end
  unfolding stop_at
  stop-all h = ap (λ (b : Bool). cond b end ((k / len + n) * len)) (le-leb (pieces_left len end k) n h)

  pub stop-part : n < pieces_left len end k → stop_at len end n k ≡ (k / len + n) * len
  unfolding stop_at
  stop-part h = ap (λ (b : Bool). cond b end ((k / len + n) * len)) (lt-leb (pieces_left len end k) n h)

-- pieces are left before an end that is not reached
pub stop-inside : (len end n k : ℕ) → stop_at len end n k < end → n < pieces_left len end k
stop-inside len end n k h = go (leb (pieces_left len end k) n) refl
  where
    go : (b : Bool) → leb (pieces_left len end k) n ≡ b → n < pieces_left len end k
    go true e = absurd (omega (arith, stop-all len end n k (leb-true (pieces_left len end k) n e)))
    go false e = leb-false (pieces_left len end k) n e

pub stop-none : (len end k : ℕ) → k % len ≡ 0 → stop_at len end 0 k ≡ k
stop-none len end k r = stop-part len end 0 k (omega arith) ∙ omega (arith, div-add-mod' k len)

module _ (len end k : ℕ) (some : 1 ≤ len) (h : k < end) where
  pub run-upto : k / len ≤ (end - 1) / len
  run-upto = (le-div_iff_mul-le some).1 (le_trans (div-mul-le_self k len) (omega arith))

  pub left-few : pieces_left len end k ≤ end
  left-few = omega (arith, div-le_self (end - 1) len)

  pub stop-small : (n : ℕ) → n < pieces_left len end k → (k / len + n) * len ≤ end - 1
  stop-small n q = (le-div_iff_mul-le some).0 (omega (arith, run-upto))

  pub stop-before : (n : ℕ) → n < pieces_left len end k → stop_at len end n k < end
  stop-before n q = omega (arith, stop-part len end n k q, stop-small n q)

  pub stop-upto : (n : ℕ) → stop_at len end n k ≤ end
  unfolding stop_at
  stop-upto n =
      by-test (λ (m : ℕ). m ≤ end) (leb (pieces_left len end k) n) (λ e. le_refl end)
      (λ e. let q = stop-small n (leb-false (pieces_left len end k) n e) in omega arith)

  -- the piece at k is one of them
  pub stop-behind : (n : ℕ) → 1 ≤ n → k + piece_length len end k ≤ stop_at len end n k
  unfolding stop_at
  stop-behind n q =
      by-test (λ (m : ℕ). k + piece_length len end k ≤ m) (leb (pieces_left len end k) n) (λ e. omega arith)
      (λ e. let r : k / len + 1 ≤ k / len + n = omega arith in omega (arith, mul-le-mul_right len r, div-add-mod' k len, mod-lt k some))

  pub stop-forward : (n : ℕ) → 1 ≤ n → k < stop_at len end n k
  stop-forward n q = omega (arith, stop-behind n q, mod-lt k some)

-- ---- the piece at element k, and what is left behind it
module _ (len end k : ℕ) (some : 1 ≤ len) (h : k < end) where
  -- the last piece is the only one left
  pub left_one : end ≤ k + piece_length len end k → pieces_left len end k ≡ 1
  left_one q =
      let d = div-add-mod' k len in
      let m = mod-lt k some in
      let e : (end - 1) / len ≡ k / len = div-eq_of_lt-le len (omega arith) (omega arith) in
      omega arith

  -- behind any other a run begins
  module _ (more : k + piece_length len end k < end) where
    behind : k + piece_length len end k ≡ (k / len + 1) * len
    behind = omega (arith, div-add-mod' k len, mod-lt k some)

    behind-run : (k + piece_length len end k) / len ≡ k / len + 1
    behind-run = ap (λ (j : ℕ). j / len) behind ∙ mul-div_cancel (k / len + 1) some

    pub left-more : pieces_left len end k ≡ suc (pieces_left len end (k + piece_length len end k))
    left-more = omega (arith, behind-run, run-upto len end (k + piece_length len end k) some more)

    pub stop-more : (n : ℕ) → stop_at len end (suc n) k ≡ stop_at len end n (k + piece_length len end k)
    unfolding stop_at
    stop-more n = ap (λ (m : ℕ). cond (leb m (suc n)) end ((k / len + suc n) * len)) left-more
        ∙ ap (λ (b : Bool). cond b end ((k / len + suc n) * len)) (leb-suc-suc (pieces_left len end (k + piece_length len end k)) n)
        ∙ ap (λ (m : ℕ). cond (leb (pieces_left len end (k + piece_length len end k)) n) end (m * len)) runs
      where
        runs : k / len + suc n ≡ (k + piece_length len end k) / len + n
        runs = omega (arith, behind-run)

    pub behind-begins : (k + piece_length len end k) % len ≡ 0
    behind-begins = ap (λ (j : ℕ). j % len) behind ∙ mul-mod_left (k / len + 1) len

-- n pieces from element k on: none, where a run begins; or the range's last, whatever n is; or one, and n - 1 behind it
module _ (len end : ℕ) (some : 1 ≤ len) (P : ℕ → ℕ → Type 0)
    (none : (k : ℕ) → k < end → k % len ≡ 0 → P 0 k)
    (last : (n k : ℕ) → k < end → end ≤ k + piece_length len end k → P (suc n) k)
    (more : (n k : ℕ) → k < end → k + piece_length len end k < end → P n (k + piece_length len end k) → P (suc n) k) where
  pub by-pieces : (n k : ℕ) → k < end → (n ≡ 0 → k % len ≡ 0) → P n k
  by-pieces zero k h r = none k h (r refl)
  by-pieces (suc n) k h r = go (ltb (k + piece_length len end k) end) refl (by-pieces n (k + piece_length len end k))
    where
      go : (b : Bool) → ltb (k + piece_length len end k) end ≡ b
          → (k + piece_length len end k < end → (n ≡ 0 → (k + piece_length len end k) % len ≡ 0) → P n (k + piece_length len end k))
          → P (suc n) k
      go false e f = last n k h (ltb-false (k + piece_length len end k) end e)
      go true e f = let q = ltb-true (k + piece_length len end k) end e in more n k h q (f q (λ _. behind-begins len end k some h q))

-- ---- the pieces of a portion
module _ (l : FullTraversal) (t : Traversal l) (base : ℤ) (b : Bounded (run_of l ∷ outer_of l) base) (values : List Float) (end : ℕ) where
  abbrev portion : ℕ → ℕ → List Piece
  portion n k = pieces_from l base values end n k

  abbrev next : ℕ → ℕ
  next k = k + piece_length l.run_len end k

  portion-more : (n k : ℕ) → k < end → portion (suc n) k ≡ piece_at l base values end k ∷ portion n (next k)
  unfolding pieces_from
  portion-more n k h = ap (λ (x : Bool). cond x (piece_at l base values end k ∷ portion n (next k)) []) (lt-ltb k end h)

  rates-more : (n k : ℕ) → k < end → k + length (rates_of (portion (suc n) k)) ≡ next k + length (rates_of (portion n (next k)))
  unfolding rates_of
  rates-more n k h =
      ap (λ (ps : List Piece). k + length (rates_of ps)) (portion-more n k h)
      ∙ omega (
        arith,
        length-append (rates_from l base values k (piece_length l.run_len end k)) (rates_of (portion n (next k))),
        length-rates l base values k (piece_length l.run_len end k),
      )

  -- n pieces, and m behind them
  pub portion-split : (n m k : ℕ)
      → pieces_from l base values end (n + m) k
      ≡ pieces_from l base values end n k ++ pieces_from l base values end m (k + length (rates_of (pieces_from l base values end n k)))
  unfolding pieces_from rates_of
  portion-split zero m k = rw (zero-add m, add-zero k)
  portion-split (suc n) m k = go (ltb k end) refl (portion-split n m (next k))
    where
      go : (x : Bool) → ltb k end ≡ x → portion (n + m) (next k) ≡ portion n (next k) ++ portion m (next k + length (rates_of (portion n (next k))))
          → portion (suc n + m) k ≡ portion (suc n) k ++ portion m (k + length (rates_of (portion (suc n) k)))
      go true e f =
          let h = ltb-true k end e in
          rw (suc-add n m, rates-more n k h, portion-more (n + m) k h, portion-more n k h, f)
      go false e f =
          let h = ltb-false k end e in
          rw (pieces_none l base values end (suc n + m) k h, pieces_none l base values end (suc n) k h)
          (sym (pieces_none l base values end m (k + 0) (omega arith)))

  pieces-over : (k to : ℕ) → to ≤ k → pieces_of l base values k to ≡ []
  pieces-over k to h = pieces_none l base values to (to - k) k h

  -- a range that ends elsewhere, and leaves the piece at k and those behind it as they are, has the same pieces
  same-pieces : (n k to : ℕ) → k < end → k < to → piece_length l.run_len to k ≡ piece_length l.run_len end k
      → portion n (next k) ≡ pieces_of l base values (next k) to → portion (suc n) k ≡ pieces_of l base values k to
  same-pieces n k to h g e f =
      portion-more n k h
      ∙ ap (λ (ps : List Piece). piece_at l base values end k ∷ ps) f
      ∙ ap (λ (m : ℕ). record { in_blocks = eq_z l.run_stride (pos 1); rates = rates_from l base values k m } ∷ pieces_of l base values (k + m) to) (sym e)
      ∙ sym (pieces_more l base values to (λ j q. len-pos l t base b j to q) k g)

  abbrev stop : ℕ → ℕ → ℕ
  stop n k = stop_at l.run_len end n k

  record PortionHere (n k : ℕ) : Type 0 where
    count : length (portion n k) ≡ min n (pieces_left l.run_len end k)
    ends : k + length (rates_of (portion n k)) ≡ stop n k
    pieces : portion n k ≡ pieces_of l base values k (stop n k)

  here-none : (k : ℕ) → k < end → k % l.run_len ≡ 0 → PortionHere 0 k
  unfolding pieces_from rates_of
  here-none k h r =
      let s = stop-none l.run_len end k r in
      record { count = omega arith; ends = omega arith; pieces = sym (pieces-over k (stop 0 k) (omega arith)) }

  here-last : (n k : ℕ) → k < end → end ≤ next k → PortionHere (suc n) k
  unfolding rates_of
  here-last n k h q =
      let f = pieces_none l base values end n (next k) q in
      let o = left_one l.run_len end k (run-some l t) h q in
      let s = stop-all l.run_len end (suc n) k (omega arith) in
      record {
        count = ap length (portion-more n k h ∙ ap (λ (ps : List Piece). piece_at l base values end k ∷ ps) f) ∙ omega arith;
        ends = rates-more n k h ∙ ap (λ (ps : List Piece). next k + length (rates_of ps)) f ∙ omega arith;
        pieces =
            same-pieces n k (stop (suc n) k) h (omega arith) (ap (λ (m : ℕ). piece_length l.run_len m k) s)
            (f ∙ sym (pieces-over (next k) (stop (suc n) k) (omega arith)));
      }

  here-more : (n k : ℕ) → k < end → next k < end → PortionHere n (next k) → PortionHere (suc n) k
  here-more n k h q f =
      let o = left-more l.run_len end k (run-some l t) h q in
      let s = stop-more l.run_len end k (run-some l t) h q n in
      let z = stop-forward l.run_len end k (run-some l t) h (suc n) (omega arith) in
      record {
        count = ap length (portion-more n k h) ∙ omega (arith, f.count);
        ends = rates-more n k h ∙ f.ends ∙ sym s;
        pieces =
            same-pieces n k (stop (suc n) k) h z (omega (arith, f.ends)) (f.pieces ∙ ap (λ (m : ℕ). pieces_of l base values (next k) m) (sym s));
      }

  portion-here : (n k : ℕ) → k < end → (n ≡ 0 → k % l.run_len ≡ 0) → PortionHere n k
  portion-here = by-pieces l.run_len end (run-some l t) PortionHere here-none here-last here-more

  -- ---- of at least one piece
  module _ (n k : ℕ) (some : 1 ≤ n) (h : k < end) where
    here : PortionHere n k
    here = portion-here n k h (λ z. absurd (omega arith))

    pub portion-count : length (pieces_from l base values end n k) ≡ min n (pieces_left l.run_len end k)
    portion-count = here.count

    pub portion-stop : k + length (rates_of (pieces_from l base values end n k)) ≡ stop_at l.run_len end n k
    portion-stop = here.ends

    pub portion-pieces : pieces_from l base values end n k ≡ pieces_of l base values k (stop_at l.run_len end n k)
    portion-pieces = here.pieces
