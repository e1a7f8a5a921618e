-- Runs along the first outer axis: the cursor's digit in it, and the cursor some runs further on.
-- Assumes nothing.
use Prim.Native.Nat.{ℕ, ◌+◌, ◌-◌, ◌*◌, ◌/◌, ◌%◌, ◌≤◌, ◌<◌}
use mathlib.Core.Path.{◌≡◌, refl, sym, ◌∙◌, ap, subst}
use mathlib.Core.List.{List, [], ◌∷◌, ◌++◌}
use native.Mathlib.Omega.{arith}
use native.Mathlib.Nat.{div-add-mod', mod-lt, mul-le-mul_left, mul-le-mul}
use lib.ListN.{length, drop, get_or, set, replicate}
use lib.Arith.{digits_div, digits_mod}
use lib.IntN.{ℤ, pos, ◌+ℤ◌, ◌*ℤ◌}
use Rattle.layout.specs.declared.axis.ReduceOuterAxis.{ReduceOuterAxis}
use Rattle.layout.specs.declared.traversal.FullTraversal.{FullTraversal}
use Rattle.layout.specs.Axes.{PLACES, no_axis, axis_of}
use Rattle.layout.proofs.Tables.{take-from}
use Rattle.offsets.specs.declared.pieces.RangeCursor.{RangeCursor}
use Rattle.offsets.specs.Elements.{digits, offset}
use Rattle.layout.specs.InnerTables.{elements}
use Rattle.offsets.specs.InnerCursors.{Axis, Axes, Bounded, cursor_at, Traversal}
use Rattle.offsets.specs.Pieces.{run_of, outer_of}
use Rattle.offsets.specs.InnerPieces.{range_at, skipped}
use Rattle.offsets.proofs.Stepping.{axes-at, Small}
use Rattle.offsets.proofs.Walking.{along, column-split, some_left, run_small}

-- the first outer axis
abbrev pub first_axis : FullTraversal → ReduceOuterAxis
first_axis l = get_or l.run_axes 0 no_axis

-- the digits n further on in the first axis
digits-skip : (a : ReduceOuterAxis) (xs : List ReduceOuterAxis) (q n : ℕ) → 1 ≤ a.extent → q % a.extent + n < a.extent
    → digits (a ∷ xs) (q + n) ≡ (q % a.extent + n) ∷ digits xs (q / a.extent)
unfolding digits
digits-skip a xs q n h k =
    ap (λ (d : ℕ). d ∷ digits xs ((q + n) / a.extent)) (ap (λ (m : ℕ). m % a.extent) split ∙ digits_mod (q / a.extent) k)
    ∙ ap (λ (r : ℕ). (q % a.extent + n) ∷ digits xs r) (ap (λ (m : ℕ). m / a.extent) split ∙ digits_div (q / a.extent) k)
  where
    split : q + n ≡ q / a.extent * a.extent + (q % a.extent + n)
    split = column-split a xs (pos 0) q h n

some-elements : (xs : List ReduceOuterAxis) → Axes xs → 1 ≤ elements xs
unfolding Axes elements
some-elements [] w = omega arith
some-elements (a ∷ xs) w = mul-le-mul {n₁ = 1} {m₁ = 1} w.0.1 (some-elements xs w.1)

module _ (l : FullTraversal) (t : Traversal l) (some-axis : 0 < l.axis_count) where
  pub outer-is : outer_of l ≡ first_axis l ∷ drop 1 (outer_of l)
  unfolding outer_of
  outer-is = take-from l.run_axes l.axis_count no_axis 0 some-axis (omega (arith, t.few, t.places))

  outer-all : Axes (outer_of l)
  outer-all = (axes-at (run_of l) (outer_of l) (run_of l ∷ outer_of l) refl t.axes).1

  pub first-axis : Axis (first_axis l)
  first-axis = (axes-at (first_axis l) (drop 1 (outer_of l)) (outer_of l) outer-is outer-all).0

  -- the runs along it are no more than all elements
  pub runs_fit : (first_axis l).extent * l.run_len ≤ l.total
  unfolding elements run_of axis_of
  runs_fit =
      let e = t.total in
      let o : elements (outer_of l) ≡ (first_axis l).extent * elements (drop 1 (outer_of l)) = ap elements outer-is in
      let s = some-elements (drop 1 (outer_of l)) (axes-at (first_axis l) (drop 1 (outer_of l)) (outer_of l) outer-is outer-all).1 in
      let m : (first_axis l).extent * 1 ≤ (first_axis l).extent * elements (drop 1 (outer_of l)) = mul-le-mul_left (first_axis l).extent s in
      let r : l.run_len * ((first_axis l).extent * 1) ≤ l.run_len * ((first_axis l).extent * elements (drop 1 (outer_of l))) = mul-le-mul_left
      l.run_len m in
      let f : l.run_len * elements (outer_of l) ≡ l.run_len * ((first_axis l).extent * elements (drop 1 (outer_of l))) = ap (λ (n : ℕ). l.run_len * n) o in
      omega arith

  module _ (base : ℤ) (b : Bounded (run_of l ∷ outer_of l) base) where
    -- the runs' places along it
    pub runs-lie : (q n : ℕ) → q % (first_axis l).extent + n ≤ (first_axis l).extent → (j : ℕ) → j < n
        → offset (outer_of l) base q +ℤ (first_axis l).source_step *ℤ pos j ≡ offset (outer_of l) base (q + j)
    runs-lie q n h j k =
        subst (λ (ys : List ReduceOuterAxis). offset ys base q +ℤ (first_axis l).source_step *ℤ pos j ≡ offset ys base (q + j)) (sym outer-is)
        (sym (along (first_axis l) (drop 1 (outer_of l)) base q first-axis.1 j (omega arith)))

    zeros : List ℕ
    zeros = replicate (PLACES - length (outer_of l)) 0

    skip-digits : (q n : ℕ) → q % (first_axis l).extent + n < (first_axis l).extent
        → set (digits (outer_of l) q ++ zeros) 0 (get_or (digits (outer_of l) q ++ zeros) 0 0 + n) ≡ digits (outer_of l) (q + n) ++ zeros
    unfolding digits
    skip-digits q n h =
        subst (λ (ys : List ReduceOuterAxis). set (digits ys q ++ zeros) 0 (get_or (digits ys q ++ zeros) 0 0 + n) ≡ digits ys (q + n) ++ zeros) (sym outer-is)
        (ap (λ (ds : List ℕ). ds ++ zeros) (sym (digits-skip (first_axis l) (drop 1 (outer_of l)) q n first-axis.1 h)))

    skip_at : (k n : ℕ) → k / l.run_len % (first_axis l).extent + n < (first_axis l).extent → skipped l n (range_at l base k) ≡ range_at l base
        (k + n * l.run_len)
    unfolding skipped range_at cursor_at zeros
    skip_at k n h =
        ap (λ (d : ℕ). record {
          at = k + n * len;
          col = d;
          runs = record {
            source_offset = offset (outer_of l) base q +ℤ (first_axis l).source_step *ℤ pos n;
            digits = set (digits (outer_of l) q ++ zeros) 0 (get_or (digits (outer_of l) q ++ zeros) 0 0 + n);
          };
        })
        (sym (ap (λ (m : ℕ). m % len) split ∙ digits_mod (q + n) (mod-lt k some)))
        ∙ ap (λ (z : ℤ). record {
          at = k + n * len;
          col = (k + n * len) % len;
          runs = record { source_offset = z; digits = set (digits (outer_of l) q ++ zeros) 0 (get_or (digits (outer_of l) q ++ zeros) 0 0 + n) };
        })
        (runs-lie q (n + 1) (omega arith) n (omega arith))
        ∙ ap (λ (ds : List ℕ). record {
          at = k + n * len;
          col =
              (k + n * len) % len;
          runs = record { source_offset = offset (outer_of l) base (q + n); digits = ds };
        })
        (skip-digits q n h)
        ∙ ap (λ (r : ℕ). record { at = k + n * len; col = (k + n * len) % len; runs = cursor_at (outer_of l) base r })
        (sym (ap (λ (m : ℕ). m / len) split ∙ digits_div (q + n) (mod-lt k some)))
      where
        len : ℕ
        len = l.run_len

        q : ℕ
        q = k / l.run_len

        some : 1 ≤ l.run_len
        some = some_left l t base b k

        split : k + n * l.run_len ≡ (k / l.run_len + n) * l.run_len + k % l.run_len
        split = omega (arith, div-add-mod' k l.run_len)

    module _ (c : RangeCursor) (e : c ≡ range_at l base c.at) where
      pub first-digit : get_or c.runs.digits 0 0 ≡ c.at / l.run_len % (first_axis l).extent
      unfolding range_at cursor_at digits
      first-digit =
          ap (λ (x : RangeCursor). get_or x.runs.digits 0 0) e
          ∙ ap (λ (ys : List ReduceOuterAxis). get_or (digits ys (c.at / l.run_len) ++ replicate (PLACES - length (outer_of l)) 0) 0 0) outer-is

      pub skipped-is : (n : ℕ) → get_or c.runs.digits 0 0 + n < (first_axis l).extent → skipped l n c ≡ range_at l base (c.at + n * l.run_len)
      skipped-is n h = ap (skipped l n) e ∙ skip_at c.at n (omega (arith, first-digit))

      pub skip-small : (n : ℕ) → get_or c.runs.digits 0 0 + n < (first_axis l).extent
          → Small (c.runs.source_offset +ℤ (first_axis l).source_step *ℤ pos n)
      unfolding skipped range_at cursor_at
      skip-small n h =
          subst Small (sym (ap (λ (x : RangeCursor). x.runs.source_offset) (skipped-is n h))) (run_small l t base b (c.at + n * l.run_len))
