-- Each step from an element to the next: its digits, its offset, and the bounds that go along. Assumes nothing.
use Prim.Native.Nat.{ℕ, zero, suc, ◌+◌, ◌-◌, ◌*◌, ◌/◌, ◌%◌, ◌^◌, ◌≤◌, ◌<◌}
use mathlib.Core.Path.{◌≡◌, refl, sym, ◌∙◌, ap, subst}
use mathlib.Core.Bool.{cond}
use mathlib.Core.List.{List, [], ◌∷◌, ◌++◌}
use native.Mathlib.Omega.{arith}
use native.Mathlib.Nat.{mod-lt, div-add-mod'}
use native.Mathlib.Numerals.{add-one}
use native.Mathlib.Decide.{dec_lt}
use lib.Dec.{T, ltb}
use lib.ListN.{length, drop, get_or, replicate}
use lib.Seq.{drop-cons}
use lib.Arith.{digits_div, digits_mod}
use lib.IntN.{ℤ, pos, neg_ℤ, ◌+ℤ◌, ◌*ℤ◌}
use lib.Signed.{◌≤ℤ◌, ◌<ℤ◌}
use mir.Val.{SFits}
use mir.Syntax.{w64}
use borrow.Author.Tests.{lt-ltb, le-ltb}
use Rattle.integers.proofs.Difference.{ints, atoms}
use Rattle.integers.proofs.Places.{place-first, place-next}
use Rattle.layout.specs.declared.axis.ReduceOuterAxis.{ReduceOuterAxis}
use Rattle.layout.specs.Axes.{PLACES, no_axis, span, axis_of}
use Rattle.layout.proofs.Resets.{reset-large}
use Rattle.offsets.specs.Elements.{digits, shift, offset}
use Rattle.offsets.specs.InnerBounds.{negative_part, positive_part, low_sum, high_sum, lowest_offset, highest_offset}
use Rattle.offsets.specs.InnerCursors.{cursor_at, next_digits, next_offset, advanced, Axis, Axes, Bounded}
use Rattle.offsets.proofs.Ends.{below-zero, zero-above, low-zero, zero_high, share-low, share-high, offset-low, offset-high}

-- ---- the digits of k + 1
module _ (e k : ℕ) (h : 1 ≤ e) where
  same-digit : k + 1 ≡ k / e * e + (k % e + 1)
  same-digit = let q = div-add-mod' k e in omega arith

  pub step-mod : k % e + 1 < e → (k + 1) % e ≡ k % e + 1
  step-mod l = ap (λ (n : ℕ). n % e) same-digit ∙ digits_mod (k / e) l

  pub step-div : k % e + 1 < e → (k + 1) / e ≡ k / e
  step-div l = ap (λ (n : ℕ). n / e) same-digit ∙ digits_div (k / e) l

  carried : e ≤ k % e + 1 → k + 1 ≡ (k / e + 1) * e + 0
  carried l = let q = div-add-mod' k e in let m = mod-lt k h in omega arith

  pub carry-mod : e ≤ k % e + 1 → (k + 1) % e ≡ 0
  carry-mod l = ap (λ (n : ℕ). n % e) (carried l) ∙ digits_mod (k / e + 1) h

  pub carry-div : e ≤ k % e + 1 → (k + 1) / e ≡ k / e + 1
  carry-div l = ap (λ (n : ℕ). n / e) (carried l) ∙ digits_div (k / e + 1) h

-- ---- the offset over one more axis
pub offset-cons : (a : ReduceOuterAxis) (xs : List ReduceOuterAxis) (base : ℤ) (k : ℕ)
    → offset (a ∷ xs) base k ≡ offset xs (base +ℤ a.source_step *ℤ pos (k % a.extent)) (k / a.extent)
unfolding offset shift digits
offset-cons a xs base k = ring base (a.source_step *ℤ pos (k % a.extent)) (shift xs (digits xs (k / a.extent)))
  where
    ring : (b y z : ℤ) → b +ℤ (y +ℤ z) ≡ (b +ℤ y) +ℤ z
    ring b y z = simp ints (simp atoms (omega arith))

offset-nil : (base : ℤ) (j k : ℕ) → offset [] base j ≡ offset [] base k
unfolding offset digits shift
offset-nil base j k = refl

pub offset-moved : (xs : List ReduceOuterAxis) (base z : ℤ) (k : ℕ) → offset xs (base +ℤ z) k ≡ offset xs base k +ℤ z
unfolding offset
offset-moved xs base z k = ring base z (shift xs (digits xs k))
  where
    ring : (b y z : ℤ) → (b +ℤ y) +ℤ z ≡ (b +ℤ z) +ℤ y
    ring b y z = simp ints (simp atoms (omega arith))

-- a step
pub offset_step : (a : ReduceOuterAxis) (xs : List ReduceOuterAxis) (base : ℤ) (k : ℕ) → 1 ≤ a.extent → k % a.extent + 1 < a.extent
    → offset (a ∷ xs) base k +ℤ a.source_step ≡ offset (a ∷ xs) base (k + 1)
offset_step a xs base k h l =
    ap (λ (z : ℤ). z +ℤ a.source_step) (offset-cons a xs base k)
    ∙ sym (offset-moved xs (base +ℤ a.source_step *ℤ pos (k % a.extent)) a.source_step (k / a.extent))
    ∙ ap (λ (z : ℤ). offset xs z (k / a.extent)) (place-next base a.source_step (k % a.extent))
    ∙ sym (offset-cons a xs base (k + 1)
    ∙ ap (λ (d : ℕ). offset xs (base +ℤ a.source_step *ℤ pos d) ((k + 1) / a.extent)) (step-mod a.extent k h l)
    ∙ ap (λ (q : ℕ). offset xs (base +ℤ a.source_step *ℤ pos (k % a.extent + 1)) q) (step-div a.extent k h l))

-- a reset
pub offset-reset : (a : ReduceOuterAxis) (xs : List ReduceOuterAxis) (base : ℤ) (k : ℕ) → Axis a → a.extent ≤ k % a.extent + 1
    → offset (a ∷ xs) base k +ℤ a.source_reset ≡ offset xs base (k / a.extent)
unfolding axis_of span
offset-reset a xs base k w l =
    let m = mod-lt k w.1 in
    let d : k % a.extent ≡ a.extent - 1 = omega arith in
    ap (λ (z : ℤ). z +ℤ a.source_reset) (offset-cons a xs base k)
    ∙ sym (offset-moved xs (base +ℤ a.source_step *ℤ pos (k % a.extent)) a.source_reset (k / a.extent))
    ∙ ap (λ (z : ℤ). offset xs z (k / a.extent))
    (ap (λ (r : ℤ). (base +ℤ a.source_step *ℤ pos (k % a.extent)) +ℤ r) (ap (λ (b : ReduceOuterAxis). b.source_reset) w.0)
    ∙ ap (λ (n : ℕ). (base +ℤ a.source_step *ℤ pos n) +ℤ neg_ℤ (a.source_step *ℤ pos (a.extent - 1))) d
    ∙ ring base (a.source_step *ℤ pos (a.extent - 1)))
  where
    ring : (b y : ℤ) → (b +ℤ y) +ℤ neg_ℤ y ≡ b
    ring b y = simp ints (simp atoms (omega arith))

pub offset-carry : (a : ReduceOuterAxis) (xs : List ReduceOuterAxis) (base : ℤ) (k : ℕ) → 1 ≤ a.extent → a.extent ≤ k % a.extent + 1
    → offset (a ∷ xs) base (k + 1) ≡ offset xs base (k / a.extent + 1)
offset-carry a xs base k h l =
    offset-cons a xs base (k + 1)
    ∙ ap (λ (d : ℕ). offset xs (base +ℤ a.source_step *ℤ pos d) ((k + 1) / a.extent)) (carry-mod a.extent k h l)
    ∙ ap (λ (q : ℕ). offset xs (base +ℤ a.source_step *ℤ pos 0) q) (carry-div a.extent k h l)
    ∙ ap (λ (z : ℤ). offset xs z (k / a.extent + 1)) (sym (place-first base a.source_step))

-- ---- each advance gives the next element: its offset and its digits
pub next-offset : (xs : List ReduceOuterAxis) (zs : List ℕ) (base : ℤ) (k : ℕ) → Axes xs
    → next_offset xs (digits xs k ++ zs) (offset xs base k) ≡ offset xs base (k + 1)
unfolding next_offset digits Axes
next-offset [] zs base k w = offset-nil base k (k + 1)
next-offset (a ∷ xs) zs base k w = go (dec_lt (k % a.extent + 1) a.extent) (next-offset xs zs base (k / a.extent) w.1)
  where
    rest : ℤ → ℤ
    rest o = next_offset xs (digits xs (k / a.extent) ++ zs) (o +ℤ a.source_reset)

    go : Dec (k % a.extent + 1 < a.extent)
        → next_offset xs (digits xs (k / a.extent) ++ zs) (offset xs base (k / a.extent)) ≡ offset xs base (k / a.extent + 1)
        → cond (ltb (k % a.extent + 1) a.extent) (offset (a ∷ xs) base k +ℤ a.source_step) (rest (offset (a ∷ xs) base k)) ≡ offset (a ∷ xs) base (k + 1)
    go (yes l) i = rw (lt-ltb (k % a.extent + 1) a.extent l) (offset_step a xs base k w.0.1 l)
    go (no l) i =
        let m : a.extent ≤ k % a.extent + 1 = omega arith in
        rw (le-ltb (k % a.extent + 1) a.extent m)
        (ap (next_offset xs (digits xs (k / a.extent) ++ zs)) (offset-reset a xs base k w.0 m) ∙ i ∙ sym (offset-carry a xs base k w.0.1 m))

pub next-digits : (xs : List ReduceOuterAxis) (zs : List ℕ) (k : ℕ) → Axes xs → next_digits xs (digits xs k ++ zs) ≡ digits xs (k + 1) ++ zs
unfolding next_digits digits Axes
next-digits [] zs k w = refl
next-digits (a ∷ xs) zs k w = go (dec_lt (k % a.extent + 1) a.extent) (next-digits xs zs (k / a.extent) w.1)
  where
    go : Dec (k % a.extent + 1 < a.extent) → next_digits xs (digits xs (k / a.extent) ++ zs) ≡ digits xs (k / a.extent + 1) ++ zs
        → cond (ltb (k % a.extent + 1) a.extent) ((k % a.extent + 1) ∷ digits xs (k / a.extent) ++ zs)
        (0 ∷ next_digits xs (digits xs (k / a.extent) ++ zs))
        ≡ (k + 1) % a.extent ∷ digits xs ((k + 1) / a.extent) ++ zs
    go (yes l) i = rw (lt-ltb (k % a.extent + 1) a.extent l, step-mod a.extent k w.0.1 l, step-div a.extent k w.0.1 l)
    go (no l) i =
        let m : a.extent ≤ k % a.extent + 1 = omega arith in
        rw (le-ltb (k % a.extent + 1) a.extent m, carry-mod a.extent k w.0.1 m, carry-div a.extent k w.0.1 m) (ap (λ (ds : List ℕ). 0 ∷ ds) i)

pub advance-next : (xs : List ReduceOuterAxis) (base : ℤ) (k : ℕ) → Axes xs → advanced xs (cursor_at xs base k) ≡ cursor_at xs base (k + 1)
unfolding advanced cursor_at
advance-next xs base k w =
    ap (λ (o : ℤ). record { source_offset = o; digits = next_digits xs (digits xs k ++ replicate (PLACES - length xs) 0) })
    (next-offset xs (replicate (PLACES - length xs) 0) base k w)
    ∙ ap (λ (ds : List ℕ). record { source_offset = offset xs base (k + 1); digits = ds }) (next-digits xs (replicate (PLACES - length xs) 0) k w)

-- ---- bounds go along
pub bounded-in : (a : ReduceOuterAxis) (xs : List ReduceOuterAxis) (o : ℤ) (d : ℕ) → d < a.extent → Bounded (a ∷ xs) o
    → Bounded xs (o +ℤ a.source_step *ℤ pos d)
unfolding lowest_offset highest_offset low_sum high_sum
bounded-in a xs o d h b =
    record {
      low =
          low o (negative_part (span a.extent a.source_step)) (low_sum xs) (a.source_step *ℤ pos d) b.low
          (share-low a.extent a.source_step d h);
      high =
          high o (positive_part (span a.extent a.source_step)) (high_sum xs) (a.source_step *ℤ pos d) b.high
          (share-high a.extent a.source_step d h);
    }
  where
    low : (o p q r : ℤ) → pos 0 ≤ℤ (o +ℤ (p +ℤ q)) → p ≤ℤ r → pos 0 ≤ℤ ((o +ℤ r) +ℤ q)
    low o p q r = simp ints (simp atoms (omega arith))

    high : (o p q r : ℤ) → (o +ℤ (p +ℤ q)) <ℤ pos (2 ^ 63) → r ≤ℤ p → ((o +ℤ r) +ℤ q) <ℤ pos (2 ^ 63)
    high o p q r = simp ints (simp atoms (omega arith))

pub bounded-after : (a : ReduceOuterAxis) (xs : List ReduceOuterAxis) (o : ℤ) → Bounded (a ∷ xs) o → Bounded xs o
unfolding lowest_offset highest_offset low_sum high_sum
bounded-after a xs o b =
    record {
      low = low o (negative_part (span a.extent a.source_step)) (low_sum xs) b.low (below-zero (span a.extent a.source_step));
      high = high o (positive_part (span a.extent a.source_step)) (high_sum xs) b.high (zero-above (span a.extent a.source_step));
    }
  where
    low : (o p q : ℤ) → pos 0 ≤ℤ (o +ℤ (p +ℤ q)) → p ≤ℤ pos 0 → pos 0 ≤ℤ (o +ℤ q)
    low o p q = simp ints (simp atoms (omega arith))

    high : (o p q : ℤ) → (o +ℤ (p +ℤ q)) <ℤ pos (2 ^ 63) → pos 0 ≤ℤ p → (o +ℤ q) <ℤ pos (2 ^ 63)
    high o p q = simp ints (simp atoms (omega arith))

-- the base of a bounded layout is from 0 to 2^63 - 1
pub record Small (z : ℤ) : Type 0 where
  pub least : pos 0 ≤ℤ z
  pub most : z <ℤ pos (2 ^ 63)

pub bounded-base : (xs : List ReduceOuterAxis) (o : ℤ) → Bounded xs o → Small o
unfolding lowest_offset highest_offset
bounded-base xs o b = record { least = least o (low_sum xs) b.low (low-zero xs); most = most o (high_sum xs) b.high (zero_high xs) }
  where
    least : (o p : ℤ) → pos 0 ≤ℤ (o +ℤ p) → p ≤ℤ pos 0 → pos 0 ≤ℤ o
    least o p = simp ints (simp atoms (omega arith))

    most : (o p : ℤ) → (o +ℤ p) <ℤ pos (2 ^ 63) → pos 0 ≤ℤ p → o <ℤ pos (2 ^ 63)
    most o p = simp ints (simp atoms (omega arith))

pub bounded-offset : (xs : List ReduceOuterAxis) (o : ℤ) (k : ℕ) → Axes xs → Bounded xs o → Small (offset xs o k)
bounded-offset xs o k w b =
    record {
      least = least (lowest_offset xs o) (offset xs o k) b.low (offset-low xs w o k);
      most = most (highest_offset xs o) (offset xs o k) b.high (offset-high xs w o k);
    }
  where
    least : (p z : ℤ) → pos 0 ≤ℤ p → p ≤ℤ z → pos 0 ≤ℤ z
    least p z = simp ints (simp atoms (omega arith))

    most : (p z : ℤ) → p <ℤ pos (2 ^ 63) → z ≤ℤ p → z <ℤ pos (2 ^ 63)
    most p z = simp ints (simp atoms (omega arith))

pub small-fits : (z : ℤ) → Small z → SFits w64 z
small-fits z s = go z s.least s.most
  where
    go : (z : ℤ) → pos 0 ≤ℤ z → z <ℤ pos (2 ^ 63) → SFits w64 z
    go z = simp ints (simp atoms (omega arith))

-- the difference of two such offsets fits
pub share-fits : (o p : ℤ) → Small o → Small (o +ℤ p) → SFits w64 p
share-fits o p s t = go o p s.least s.most t.least t.most
  where
    go : (o p : ℤ) → pos 0 ≤ℤ o → o <ℤ pos (2 ^ 63) → pos 0 ≤ℤ (o +ℤ p) → (o +ℤ p) <ℤ pos (2 ^ 63) → SFits w64 p
    go o p = simp ints (simp atoms (omega arith))

pub axes-at : (a : ReduceOuterAxis) (xs ys : List ReduceOuterAxis) → ys ≡ a ∷ xs → Axes ys → Axis a × Axes xs
unfolding Axes
axes-at a xs ys e w = rw e at w

pub axes-drop : (xs : List ReduceOuterAxis) (i : ℕ) → Axes xs → Axes (drop i xs)
unfolding Axes
axes-drop xs zero w = w
axes-drop [] (suc i) w = w
axes-drop (a ∷ xs) (suc i) w = axes-drop xs i w.1

pub axis-small : (a : ReduceOuterAxis) → Axis a → a.extent ≤ 2 ^ 63
axis-small a w = go (dec_lt (a.extent - 1) (2 ^ 63))
  where
    go : Dec (a.extent - 1 < 2 ^ 63) → a.extent ≤ 2 ^ 63
    go (yes h) = let k = w.1 in omega arith
    go (no h) = absurd (subst T (sym w.2 ∙ reset-large a.extent a.source_step (omega arith)) tt)

-- the axis at place i, and those after it
pub axes-here : (xs : List ReduceOuterAxis) (i : ℕ) → i < length xs → drop i xs ≡ get_or xs i no_axis ∷ drop (i + 1) xs
axes-here xs i h = rw add-one (drop-cons xs i no_axis h)
