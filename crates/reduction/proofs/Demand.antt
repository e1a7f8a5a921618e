-- Rule D3 of a range, whatever its layout: the mark, the plain product, and that the answer stands.
-- Assumes nothing.
use Prim.Native.Nat.{ℕ, zero, suc, ◌+◌, ◌-◌, ◌^◌, ◌≤◌, ◌<◌}
use mathlib.Core.Path.{◌≡◌, refl, sym, ◌∙◌, ap, subst}
use mathlib.Core.Bool.{Bool, true, false, cond, ◌&&◌, ◌||◌}
use mathlib.Core.List.{List, [], ◌∷◌, ◌++◌, map}
use native.Mathlib.Omega.{arith}
use native.Mathlib.Nat.{le_trans}
use lib.ListN.{length, get_or, length-map}
use lib.Dec.{T, ltb}
use lib.IntN.{ℤ, pos, nat_abs}
use lib.Ieee.{Float, nan, binary64, fits}
use borrow.Author.Tests.{ltb-true, ltb-false, le-leb}
use Rattle.layout.specs.declared.traversal.FullTraversal.{FullTraversal}
use Rattle.floats.specs.Splitting.{is_bad}
use Rattle.accumulator.specs.Joining.{within_limit, in_limits}
use Rattle.offsets.specs.InnerCursors.{Bounded, Traversal}
use Rattle.offsets.specs.Pieces.{run_of, outer_of, piece_length}
use Rattle.offsets.specs.Lists.{offsets_from}
use Rattle.offsets.proofs.Walking.{len-pos, len-end}
use Rattle.offsets.proofs.Writing.{length-offsets}
use Rattle.laws.specs.Lists.{Each, none, more}
use Rattle.kernels.specs.Lanes.{some}
use Rattle.kernels.specs.Plain.{plain_product}
use Rattle.kernels.specs.Pieces.{Piece, joined_pieces, GoodPiece, patterns_of, acc_of, rates_of}
use Rattle.laws.proofs.Tests.{neither}
use Rattle.kernels.proofs.Feeding.{each_map, some-append}
use Rattle.kernels.proofs.Blocking.{each-rate}
use Rattle.kernels.proofs.Striding.{strided-values, strided-all}
use Rattle.kernels.proofs.Bounded.{ValuePiece, FullPiece, joined-within}
use Rattle.kernels.proofs.Agreement.{agreement, bad_piece, joined-mark}
use Rattle.offsets.specs.Values.{value_at, rates_from}
use Rattle.offsets.proofs.Visiting.{rates-joined, rates-over}
use Rattle.reduction.specs.Ranges.{piece_at, pieces_from, pieces_of}

-- ---- lists of rates
good-pieces : {ps : List Piece} → Each FullPiece ps → some bad_piece ps ≡ false → Each GoodPiece ps
unfolding some
good-pieces none e = none
good-pieces (more {x = p} {xs = ps} f fs) e =
    let q = neither (bad_piece p) (some bad_piece ps) e in
    more (record { some_rate = f.some_rate; good = each-rate f.values q.0 }) (good-pieces fs q.1)

-- some piece is bad exactly if some rate of all together is
bad-rates : (ps : List Piece) → some bad_piece ps ≡ some is_bad (rates_of ps)
unfolding rates_of some
bad-rates [] = refl
bad-rates (p ∷ ps) = ap (λ (x : Bool). some is_bad p.rates || x) (bad-rates ps) ∙ sym (some-append is_bad p.rates (rates_of ps))

none-counted : 0 < length (rates_of []) → ⊥
unfolding rates_of
none-counted z = omega arith

module _ (values : List Float) (v : Each (λ (x : Float). T (fits binary64 x)) values) where
  value-fits : (vs : List Float) → Each (λ (x : Float). T (fits binary64 x)) vs → (k : ℕ) → T (fits binary64 (get_or vs k nan))
  unfolding fits
  value-fits vs none k = tt
  value-fits vs (more f fs) zero = f
  value-fits vs (more {x = x} {xs = xs} f fs) (suc k) = value-fits xs fs k

  rates-fit : (zs : List ℤ) → Each (λ (x : Float). T (fits binary64 x)) (map (value_at values) zs)
  rates-fit [] = none
  rates-fit (z ∷ zs) = more (value-fits values v (nat_abs z)) (rates-fit zs)

-- every value of a slice is one of binary64
pub values-fit : (xs : List Float) → ((i : ℕ) → T (fits binary64 (get_or xs i nan))) → Each (λ (x : Float). T (fits binary64 x)) xs
values-fit xs v = subst (Each (λ (x : Float). T (fits binary64 x))) (strided-all xs) (strided-values xs v (pos 0) (pos 1) (length xs))

-- as many rates as elements
pub length-rates : (l : FullTraversal) (base : ℤ) (values : List Float) (k n : ℕ) → length (rates_from l base values k n) ≡ n
length-rates l base values k n = length-map (offsets_from (run_of l ∷ outer_of l) base k n) (value_at values) ∙ length-offsets (run_of l ∷ outer_of l) base k n

-- ---- the pieces of a range
module _ (l : FullTraversal) (t : Traversal l) (base : ℤ) (b : Bounded (run_of l ∷ outer_of l) base) (values : List Float)
    (v : Each (λ (x : Float). T (fits binary64 x)) values) (end : ℕ) where
  -- each piece has at least one rate
  pub full-pieces : (n k : ℕ) → Each FullPiece (pieces_from l base values end n k)
  unfolding pieces_from
  full-pieces zero k = none
  full-pieces (suc n) k = go (ltb k end) refl (full-pieces n (k + piece_length l.run_len end k))
    where
      go : (x : Bool) → ltb k end ≡ x → Each FullPiece (pieces_from l base values end n (k + piece_length l.run_len end k))
          → Each FullPiece (cond x (piece_at l base values end k ∷ pieces_from l base values end n (k + piece_length l.run_len end k)) [])
      go false e f = none
      go true e f =
          more {x = piece_at l base values end k}
          (record {
            some_rate = rw (length-rates l base values k (piece_length l.run_len end k)) (len-pos l t base b k end (ltb-true k end e));
            values = rates-fit values v (offsets_from (run_of l ∷ outer_of l) base k (piece_length l.run_len end k));
          }) f

  -- the rates of the pieces, in order
  visited : (n k : ℕ) → k ≤ end → end ≤ k + n → rates_of (pieces_from l base values end n k) ≡ rates_from l base values k (end - k)
  unfolding pieces_from rates_of
  visited zero k h g = rates-over l base values end k (omega arith)
  visited (suc n) k h g = go (ltb k end) refl (visited n (k + piece_length l.run_len end k))
    where
      go : (x : Bool) → ltb k end ≡ x
          → (k + piece_length l.run_len end k ≤ end → end ≤ k + piece_length l.run_len end k + n
          → rates_of (pieces_from l base values end n (k + piece_length l.run_len end k))
          ≡ rates_from l base values (k + piece_length l.run_len end k) (end - (k + piece_length l.run_len end k)))
          → rates_of (cond x (piece_at l base values end k ∷ pieces_from l base values end n (k + piece_length l.run_len end k)) [])
          ≡ rates_from l base values k (end - k)
      go false e f = rates-over l base values end k (ltb-false k end e)
      go true e f =
          let z = ltb-true k end e in
          let p = len-pos l t base b k end z in
          let q = len-end l t base b k end z in
          ap (λ (xs : List Float). rates_from l base values k (piece_length l.run_len end k) ++ xs) (f q (omega arith))
          ∙ rates-joined l base values end k (piece_length l.run_len end k) q

  -- ---- rule D3, of the range start to end - 1
  module _ (start : ℕ) (h : start < end) (few : end ≤ 2 ^ 40) where
    full : Each FullPiece (pieces_of l base values start end)
    full = full-pieces (end - start) start

    -- the pieces' rates, one after another, are the range's
    pub range-rates : rates_of (pieces_of l base values start end) ≡ rates_from l base values start (end - start)
    range-rates = visited (end - start) start (omega arith) (omega arith)

    -- so they are as many as the range's elements
    count : length (rates_of (pieces_of l base values start end)) ≡ end - start
    count = ap length range-rates ∙ length-rates l base values start (end - start)

    bad-visited : some bad_piece (pieces_of l base values start end) ≡ some is_bad (rates_from l base values start (end - start))
    bad-visited = bad-rates (pieces_of l base values start end) ∙ ap (some is_bad) range-rates

    -- the mark is set exactly if a visited rate is zero, subnormal, infinite or NaN
    pub range-mark : (joined_pieces (pieces_of l base values start end)).bad ≡ some is_bad (rates_from l base values start (end - start))
    range-mark = joined-mark (each_map FullPiece ValuePiece (λ p f. f.values) full) ∙ bad-visited

    -- 1 <= |m| < 2 and |e| <= 2^52, bad or not: the answer can be joined and finished
    pub range-in-limits : in_limits (joined_pieces (pieces_of l base values start end)) ≡ true
    unfolding in_limits
    range-in-limits =
        let r = joined-within full in
        ap (λ (x : Bool). x && within_limit (joined_pieces (pieces_of l base values start end)).e) r.0.in_unit
        ∙ le-leb (nat_abs (joined_pieces (pieces_of l base values start end)).e) (2 ^ 52) (le_trans r.1 (omega (arith, count)))

    -- not bad: m and e are the plain product's over the range's pieces
    pub range-agrees : some is_bad (rates_from l base values start (end - start)) ≡ false
        → joined_pieces (pieces_of l base values start end) ≡ acc_of (plain_product 11 52 (patterns_of (pieces_of l base values start end)))
    range-agrees e =
        agreement (pieces_of l base values start end)
        (record {
          some_piece = nonempty (pieces_of l base values start end) (omega (arith, count));
          pieces = good-pieces full (bad-visited ∙ e);
          few = omega (arith, count);
        })
      where
        nonempty : (ps : List Piece) → 0 < length (rates_of ps) → 0 < length ps
        nonempty [] z = absurd (none-counted z)
        nonempty (p ∷ ps) z = omega arith
