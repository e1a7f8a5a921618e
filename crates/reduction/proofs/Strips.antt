-- Whole runs a step apart: a strip joins them as the pieces of the range are joined.
-- Assumes nothing.
use Prim.Native.Nat.{ℕ, zero, suc, ◌+◌, ◌-◌, ◌*◌, ◌/◌, ◌%◌, ◌^◌, ◌≤◌, ◌<◌}
use mathlib.Core.Path.{◌≡◌, refl, sym, ◌∙◌, ap, subst}
use mathlib.Core.Bool.{true}
use mathlib.Core.List.{List, ◌∷◌}
use native.Mathlib.Omega.{arith}
use native.Mathlib.Nat.{le_trans, mul-le-mul_left, mul-le-mul_right, add-zero, sub-zero}
use lib.ListN.{length, get_or}
use lib.Arith.{digits_div, digits_mod}
use lib.IntN.{ℤ, pos, nat_abs, ◌+ℤ◌, ◌*ℤ◌}
use lib.Signed.{◌≤ℤ◌, ◌<ℤ◌}
use lib.Dec.{T}
use lib.Ieee.{Float, nan, binary64, fits}
use mir.Val.{SFits, to_z, of_z}
use mir.Facts.{to_z-of_z}
use mir.Syntax.{w64}
use Rattle.integers.proofs.Places.{place-first, place-next, place-later}
use Rattle.integers.specs.Integers.{eq_z}
use Rattle.integers.proofs.Machine.{to_z-small}
use Rattle.layout.specs.declared.traversal.FullTraversal.{FullTraversal}
use Rattle.accumulator.specs.declared.StableProductFloatAcc.{StableProductFloatAcc}
use Rattle.accumulator.specs.Joining.{combined}
use Rattle.offsets.specs.declared.pieces.RangeCursor.{RangeCursor}
use Rattle.offsets.specs.Elements.{offset, all_inside}
use Rattle.offsets.specs.InnerCursors.{Bounded, cursor_at, Traversal}
use Rattle.offsets.specs.Pieces.{run_of, outer_of}
use Rattle.offsets.specs.InnerPieces.{range_at, piece_of}
use Rattle.offsets.proofs.Walking.{piece-len}
use Rattle.offsets.proofs.Skipping.{first_axis}
use Rattle.offsets.proofs.Runs.{run-some, runs-begin, runs-end, runs-at}
use Rattle.kernels.specs.Pieces.{worked, worked_piece, joined_onto}
use Rattle.kernels.specs.InnerStrided.{strided, PlacesInside}
use Rattle.kernels.specs.InnerStepped.{Sound}
use Rattle.kernels.proofs.Sizes.{in_piece, in_list, combined-size}
use Rattle.kernels.proofs.Bounded.{combined-sound, worked-sound}
use Rattle.kernels.proofs.Striding.{strided-values}
use Rattle.reduction.specs.Ranges.{piece_at, pieces_of}
use Rattle.reduction.specs.InnerStrips.{strip}
use Rattle.reduction.proofs.Pieces.{strided-near}
use Rattle.reduction.proofs.Lines.{way-fits, place-fits}
use Rattle.reduction.proofs.Ranges.{PieceTaken, taken, Reducing}

-- ---- the runs of a strip
-- where run j begins, in i64
pub record RunPlace (z step : ℤ) (j : ℕ) : Type 0 where
  pub small : j < 2 ^ 63
  pub way : SFits w64 (step *ℤ pos j)
  pub place : SFits w64 (z +ℤ step *ℤ pos j)

-- the same of the elements of one run
pub line-place : (size : ℕ) (z step : ℤ) (count : ℕ) → PlacesInside size z step count → count ≤ 2 ^ 40 → size ≤ 2 ^ 63 → (j : ℕ) → j < count → RunPlace z step j
line-place size z step count p few most j h =
    record { small = omega (arith, few, h); way = way-fits size z step count p most j h; place = place-fits size z step count p most j h }

module _ (size : ℕ) (z step stride : ℤ) (len count : ℕ) (some : 1 ≤ len)
    (inside : (j : ℕ) → j < count → PlacesInside size (z +ℤ step *ℤ pos j) stride len) where
  firsts_inside : PlacesInside size z step count
  firsts_inside =
      record {
        least = λ j h. subst (λ (y : ℤ). pos 0 ≤ℤ y) (sym (place-first (z +ℤ step *ℤ pos j) stride)) ((inside j h).least 0 some);
        most = λ j h. subst (λ (y : ℤ). y <ℤ pos size) (sym (place-first (z +ℤ step *ℤ pos j) stride)) ((inside j h).most 0 some);
      }

  pub run-place : count * len ≤ 2 ^ 40 → size ≤ 2 ^ 63 → (j : ℕ) → j < count → RunPlace z step j
  run-place few most j h =
      let n : count * 1 ≤ count * len = mul-le-mul_left count some in
      line-place size z step count firsts_inside (omega (arith, n, few)) most j h

-- as the code forms it
pub place-exact : (z step : ℤ) (j : ℕ) → SFits w64 z → SFits w64 step → RunPlace z step j
    → to_z w64 (of_z w64 (to_z w64 (of_z w64 z) +ℤ to_z w64 (of_z w64 (to_z w64 (of_z w64 step) *ℤ to_z w64 j)))) ≡ z +ℤ step *ℤ pos j
place-exact z step j f g p = simp (to_z-of_z f, to_z-of_z g, to_z-small j p.small, to_z-of_z p.way, to_z-of_z p.place) refl

-- a run's product
module _ (values : List Float) (v : (i : ℕ) → T (fits binary64 (get_or values i nan))) (z stride : ℤ) (len : ℕ) (some : 1 ≤ len)
    (b : StableProductFloatAcc) (run : b ≡ worked (eq_z stride (pos 1)) (strided values z stride len)) where
  pub run-near : nat_abs b.e ≤ in_piece * len
  run-near = subst (λ (a : StableProductFloatAcc). nat_abs a.e ≤ in_piece * len) (sym run) (strided-near values v z stride len some)

  pub run-sound : Sound b
  run-sound =
      subst Sound (sym run) (worked-sound (record { in_blocks = eq_z stride (pos 1); rates = strided values z stride len }) (strided-values values v z stride len))

-- before the first run, all of the strip is left
pub strip-first : (values : List Float) (step stride : ℤ) (len count : ℕ) (z : ℤ) (a : StableProductFloatAcc)
    → strip values step stride len (count - 0) (z +ℤ step *ℤ pos 0) a ≡ strip values step stride len count z a
strip-first values step stride len count z a =
    ap (λ (n : ℕ). strip values step stride len n (z +ℤ step *ℤ pos 0) a) (sub-zero count)
    ∙ ap (λ (y : ℤ). strip values step stride len count y a) (sym (place-first z step))

-- run j of count is in: what is left begins a step further
pub strip-next : (values : List Float) (step stride : ℤ) (len count j : ℕ) (z : ℤ) (a r : StableProductFloatAcc) → j < count
    → r ≡ combined a (worked (eq_z stride (pos 1)) (strided values (z +ℤ step *ℤ pos j) stride len))
    → strip values step stride len (count - (j + 1)) (z +ℤ step *ℤ pos (j + 1)) r ≡ strip values step stride len (count - j) (z +ℤ step *ℤ pos j) a
unfolding strip
strip-next values step stride len count j z a r h e =
    ap (strip values step stride len (count - (j + 1)) (z +ℤ step *ℤ pos (j + 1))) e
    ∙ ap
    (λ (y : ℤ). strip values step stride len (count - (j + 1)) y (combined a (worked (eq_z stride (pos 1)) (strided values (z +ℤ step *ℤ pos j) stride len))))
    (sym (place-next z step j))
    ∙ ap (λ (n : ℕ). strip values step stride len n (z +ℤ step *ℤ pos j) a) one
  where
    one : suc (count - (j + 1)) ≡ count - j
    one = omega arith

-- ---- exponents: at most `in_list` more for each value
pub strip-small : (values : List Float) → ((i : ℕ) → T (fits binary64 (get_or values i nan))) → (step stride : ℤ) (len : ℕ) → 1 ≤ len
    → (n : ℕ) (z : ℤ) (acc : StableProductFloatAcc) → nat_abs (strip values step stride len n z acc).e ≤ nat_abs acc.e + in_list * (n * len)
unfolding strip
strip-small values v step stride len h zero z acc = omega arith
strip-small values v step stride len h (suc n) z acc =
    let b = worked (eq_z stride (pos 1)) (strided values z stride len) in
    le_trans (strip-small values v step stride len h n (z +ℤ step) (combined acc b)) (omega (arith, combined-size acc b, strided-near values v z stride len h))

-- ---- run q of a range
pub record Run (l : FullTraversal) (base : ℤ) (values : List Float) (end q : ℕ) : Type 0 where
  pub inside : PlacesInside (length values) (offset (outer_of l) base q) l.run_stride l.run_len
  pub worked_is : worked (eq_z l.run_stride (pos 1)) (strided values (offset (outer_of l) base q) l.run_stride l.run_len)
      ≡ worked_piece (piece_at l base values end (q * l.run_len))
  pub pieces : pieces_of l base values (q * l.run_len) end
      ≡ piece_at l base values end (q * l.run_len) ∷ pieces_of l base values ((q + 1) * l.run_len) end

-- |m| stays in [1, 2)
pub strip-sound : (values : List Float) → ((i : ℕ) → T (fits binary64 (get_or values i nan)))
    → (step stride : ℤ) (len n : ℕ) (z : ℤ) (acc : StableProductFloatAcc) → Sound acc → Sound (strip values step stride len n z acc)
unfolding strip
strip-sound values v step stride len zero z acc s = s
strip-sound values v step stride len (suc n) z acc s =
    strip-sound values v step stride len n (z +ℤ step) (combined acc (worked (eq_z stride (pos 1)) (strided values z stride len)))
    (combined-sound acc (worked (eq_z stride (pos 1)) (strided values z stride len)) s
    (worked-sound (record { in_blocks = eq_z stride (pos 1); rates = strided values z stride len }) (strided-values values v z stride len)))

module _ (l : FullTraversal) (t : Traversal l) (base : ℤ) (b : Bounded (run_of l ∷ outer_of l) base) (values : List Float)
    (w : all_inside (run_of l ∷ outer_of l) l.total base (length values) ≡ true) (end : ℕ) (few : end ≤ l.total) where
  module _ (q : ℕ) (h : q * l.run_len + l.run_len ≤ end) where
    run-div : q * l.run_len / l.run_len ≡ q
    run-div = ap (λ (k : ℕ). k / l.run_len) (sym (add-zero (q * l.run_len))) ∙ digits_div q (run-some l t)

    run-mod : q * l.run_len % l.run_len ≡ 0
    run-mod = ap (λ (k : ℕ). k % l.run_len) (sym (add-zero (q * l.run_len))) ∙ digits_mod q (run-some l t)

    before-end : q * l.run_len < end
    before-end = omega (arith, run-some l t)

    run-taken : PieceTaken l base values end (range_at l base (q * l.run_len)) (piece_of l end (range_at l base (q * l.run_len)))
    unfolding range_at
    run-taken = taken l t base b values w end few (range_at l base (q * l.run_len)) refl before-end (piece_of l end (range_at l base (q * l.run_len))) refl

    at-is : (range_at l base (q * l.run_len)).at ≡ q * l.run_len
    unfolding range_at
    at-is = refl

    len_is : (piece_of l end (range_at l base (q * l.run_len))).len ≡ l.run_len
    len_is = piece-len l t base b (q * l.run_len) end before-end ∙ omega (arith, run-mod)

    first_is : (piece_of l end (range_at l base (q * l.run_len))).first ≡ offset (outer_of l) base q
    unfolding piece_of range_at cursor_at
    first_is =
        ap (λ (n : ℕ). offset (outer_of l) base (q * l.run_len / l.run_len) +ℤ l.run_stride *ℤ pos n) run-mod
        ∙ sym (place-first (offset (outer_of l) base (q * l.run_len / l.run_len)) l.run_stride)
        ∙ ap (offset (outer_of l) base) run-div

    next-is : (piece_of l end (range_at l base (q * l.run_len))).next.at ≡ (q + 1) * l.run_len
    next-is = run-taken.next_at ∙ omega (arith, at-is, len_is)

    pub run : Run l base values end q
    run =
        record {
          inside = rw (len_is, first_is) at run-taken.inside;
          worked_is = (rw (len_is, first_is) at run-taken.worked_is) ∙ ap (λ (k : ℕ). worked_piece (piece_at l base values end k)) at-is;
          pieces = rw (next-is, at-is) at run-taken.pieces;
        }

  -- ---- n runs from q on, whose places lie a step apart
  module _ (step : ℤ) where
    pub strip-inside : (n q : ℕ) (z : ℤ) → (q + n) * l.run_len ≤ end → ((j : ℕ) → j < n → z +ℤ step *ℤ pos j ≡ offset (outer_of l) base (q + j))
        → (j : ℕ) → j < n → PlacesInside (length values) (z +ℤ step *ℤ pos j) l.run_stride l.run_len
    strip-inside n q z h lies j k =
        let m : q + j + 1 ≤ q + n = omega arith in
        rw (lies j k) (run (q + j) (omega (arith, mul-le-mul_right l.run_len m))).inside

    pub strip-joins : (n q : ℕ) (z : ℤ) (acc : StableProductFloatAcc) → (q + n) * l.run_len ≤ end
        → ((j : ℕ) → j < n → z +ℤ step *ℤ pos j ≡ offset (outer_of l) base (q + j))
        → joined_onto (strip values step l.run_stride l.run_len n z acc) (pieces_of l base values ((q + n) * l.run_len) end)
        ≡ joined_onto acc (pieces_of l base values (q * l.run_len) end)
    unfolding strip
    strip-joins zero q z acc h lies = ap (λ (m : ℕ). joined_onto acc (pieces_of l base values (m * l.run_len) end)) (add-zero q)
    strip-joins (suc n) q z acc h lies =
        let r = run q (omega arith) in
        let c = combined acc (worked (eq_z l.run_stride (pos 1)) (strided values z l.run_stride l.run_len)) in
        let e : q + suc n ≡ q + 1 + n = omega arith in
        ap (λ (m : ℕ). joined_onto (strip values step l.run_stride l.run_len n (z +ℤ step) c)
        (pieces_of l base values (m * l.run_len) end)) e
        ∙ strip-joins n (q + 1) (z +ℤ step) c (omega arith) (λ j k. place-later z step j ∙ lies (suc j) (omega arith) ∙ ap (offset (outer_of l) base) (one j))
        ∙ ap (λ (y : ℤ). joined_onto (combined acc (worked (eq_z l.run_stride (pos 1)) (strided values y l.run_stride l.run_len)))
        (pieces_of l base values ((q + 1) * l.run_len) end))
        (place-first z step ∙ lies 0 (omega arith) ∙ ap (offset (outer_of l) base) (add-zero q))
        ∙ ap (λ (a : StableProductFloatAcc). joined_onto (combined acc a) (pieces_of l base values ((q + 1) * l.run_len) end))
        r.worked_is
        ∙ ap (joined_onto acc) (sym r.pieces)
      where
        one : (j : ℕ) → q + suc j ≡ q + 1 + j
        one j = omega arith

-- ---- n whole runs from a cursor on
module _ (l : FullTraversal) (t : Traversal l) (base : ℤ) (b : Bounded (run_of l ∷ outer_of l) base) (values : List Float)
    (w : all_inside (run_of l ∷ outer_of l) l.total base (length values) ≡ true) (end : ℕ) (few : end ≤ l.total)
    (c : RangeCursor) (cursor_is : c ≡ range_at l base c.at) (n : ℕ)
    (some-axis : 0 < l.axis_count) (at-run : c.at % l.run_len ≡ 0) (left : c.at / l.run_len % (first_axis l).extent + n ≤ (first_axis l).extent)
    (room : c.at + n * l.run_len ≤ end) where
  ends : (c.at / l.run_len + n) * l.run_len ≡ c.at + n * l.run_len
  ends = runs-end l t base b end c cursor_is n some-axis at-run left room

  lie : (j : ℕ) → j < n → c.runs.source_offset +ℤ (first_axis l).source_step *ℤ pos j ≡ offset (outer_of l) base (c.at / l.run_len + j)
  lie = runs-at l t base b end c cursor_is n some-axis at-run left room

  pub runs-inside : (j : ℕ) → j < n
      → PlacesInside (length values) (c.runs.source_offset +ℤ (first_axis l).source_step *ℤ pos j) l.run_stride l.run_len
  runs-inside =
      strip-inside l t base b values w end few (first_axis l).source_step n (c.at / l.run_len) c.runs.source_offset (omega (arith, ends)) lie

  pub reducing-strip : ((i : ℕ) → T (fits binary64 (get_or values i nan))) → (whole acc : StableProductFloatAcc)
      → Reducing l base values end whole acc c → (r : StableProductFloatAcc)
      → r ≡ strip values (first_axis l).source_step l.run_stride l.run_len n c.runs.source_offset acc
      → (d : RangeCursor) → d.at ≡ c.at + n * l.run_len → (d.at < end → d ≡ range_at l base d.at) → Reducing l base values end whole r d
  reducing-strip v whole acc s r g d next_at e =
      record {
        upto = omega arith;
        cursor_is = e;
        small =
            subst (λ (a : StableProductFloatAcc). nat_abs a.e ≤ 2 ^ 53 + in_list * d.at) (sym g)
            (le_trans (strip-small values v _ _ _ (run-some l t) n _ acc) (omega (arith, next_at, s.small)));
        sound =
            subst Sound (sym g)
            (strip-sound values v (first_axis l).source_step l.run_stride l.run_len n c.runs.source_offset acc s.sound);
        rest =
            ap (λ (a : StableProductFloatAcc). joined_onto a (pieces_of l base values d.at end)) g
            ∙ ap (λ (k : ℕ). joined_onto (strip values (first_axis l).source_step l.run_stride l.run_len n c.runs.source_offset acc)
            (pieces_of l base values k end)) (next_at ∙ sym ends)
            ∙ strip-joins l t base b values w end few (first_axis l).source_step n (c.at / l.run_len) c.runs.source_offset acc (omega (arith, ends))
            lie
            ∙ ap (λ (k : ℕ). joined_onto acc (pieces_of l base values k end))
            (sym (runs-begin l t base b end c cursor_is n some-axis at-run left room))
            ∙ s.rest;
      }
