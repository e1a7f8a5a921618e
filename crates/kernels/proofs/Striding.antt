-- Values a stride apart, and their places in the slice. Assumes nothing.
use Prim.Native.Nat.{ℕ, zero, suc, ◌+◌, ◌-◌, ◌≤◌, ◌<◌}
use mathlib.Core.Path.{◌≡◌, refl, sym, ap, ◌∙◌, subst}
use mathlib.Core.List.{List, ◌∷◌, ◌++◌}
use native.Mathlib.Omega.{arith}
use lib.ListN.{length, get_or, take, drop}
use lib.Seq.{drop-cons, take_all}
use native.Mathlib.Nat.{le_refl, zero-add}
use lib.IntN.{ℤ, pos, negsuc, nat_abs, ◌+ℤ◌, ◌*ℤ◌}
use lib.Dec.{T, ltb→lt}
use lib.Signed.{non_neg, ◌≤ℤ◌, ◌<ℤ◌}
use lib.Ieee.{Float, nan, binary64, fits}
use mir.Val.{SFits, to_z, of_z}
use mir.ValLaws.{to_z-of_z}
use mir.Syntax.{w64}
use Rattle.integers.proofs.Places.{place-first}
use Rattle.integers.proofs.Difference.{ints, atoms}
use Rattle.laws.specs.Lists.{Each, none, more}
use Rattle.kernels.specs.InnerStrided.{strided, PlacesInside}
use Rattle.kernels.proofs.Blocking.{Value}

-- ---- places

-- fewer places, and those from place a on
pub inside-less : (len : ℕ) (s d : ℤ) (n m : ℕ) → PlacesInside len s d n → m ≤ n → PlacesInside len s d m
inside-less len s d n m h l = record { least = λ i b. h.least i (omega arith); most = λ i b. h.most i (omega arith) }

pub inside-part : (len : ℕ) (s t : ℤ) (n a b : ℕ) → PlacesInside len s t n → a + b ≤ n → PlacesInside len (s +ℤ t *ℤ pos a) t b
inside-part len s t n a b h l = record {
  least = λ i m. low i (h.least (a + i) (omega arith));
  most = λ i m. high i (h.most (a + i) (omega arith));
}
  where
    low : (i : ℕ) → pos 0 ≤ℤ (s +ℤ t *ℤ pos (a + i)) → pos 0 ≤ℤ (s +ℤ t *ℤ pos a +ℤ t *ℤ pos i)
    low i = simp ints (simp atoms (omega arith))

    high : (i : ℕ) → (s +ℤ t *ℤ pos (a + i)) <ℤ pos len → (s +ℤ t *ℤ pos a +ℤ t *ℤ pos i) <ℤ pos len
    high i = simp ints (simp atoms (omega arith))

module _ (len : ℕ) (at stride : ℤ) (n : ℕ) (h : PlacesInside len at stride n) where
  first-least : 0 < n → pos 0 ≤ℤ at
  first-least l = go (h.least 0 l)
    where
      go : pos 0 ≤ℤ (at +ℤ stride *ℤ pos 0) → pos 0 ≤ℤ at
      go = simp ints (simp atoms (omega arith))

  first-most : 0 < n → at <ℤ pos len
  first-most l = go (h.most 0 l)
    where
      go : (at +ℤ stride *ℤ pos 0) <ℤ pos len → at <ℤ pos len
      go = simp ints (simp atoms (omega arith))

  -- the place of the first value, in the slice
  pub first-natural : 0 < n → T (non_neg at)
  first-natural l = go at (first-least l)
    where
      go : (z : ℤ) → pos 0 ≤ℤ z → T (non_neg z)
      go (pos k) p = tt
      go (negsuc k) p = absurd p.le

  pub first_below : 0 < n → nat_abs at < len
  first_below l = go at (first-natural l) (first-most l)
    where
      go : (z : ℤ) → T (non_neg z) → z <ℤ pos len → nat_abs z < len
      go (pos k) t p = ltb→lt k len p.lt
      go (negsuc k) t p = absurd t

pub length-strided : (xs : List Float) (start stride : ℤ) (n : ℕ) → length (strided xs start stride n) ≡ n
unfolding strided
length-strided xs start stride zero = refl
length-strided xs start stride (suc n) = ap suc (length-strided xs (start +ℤ stride) stride n)

-- the first a values, and the rest, which begin a strides further
pub strided-append : (xs : List Float) (s t : ℤ) (a b : ℕ) → strided xs s t (a + b) ≡ strided xs s t a ++ strided xs (s +ℤ t *ℤ pos a) t b
unfolding strided
strided-append xs s t zero b = ap (strided xs s t) (zero-add b) ∙ ap (λ (z : ℤ). strided xs z t b) (place-first s t)
strided-append xs s t (suc a) b =
    ap (strided xs s t) one
    ∙ ap (λ (l : List Float). get_or xs (nat_abs s) nan ∷ l)
    (strided-append xs (s +ℤ t) t a b ∙ ap (λ (z : ℤ). strided xs (s +ℤ t) t a ++ strided xs z t b) further)
  where
    one : suc a + b ≡ suc (a + b)
    one = omega arith

    further : s +ℤ t +ℤ t *ℤ pos a ≡ s +ℤ t *ℤ pos (suc a)
    further = simp ints (simp atoms (omega arith))

-- the values of a slice of f64 are values of binary64, and so are those that lie a stride apart
pub strided-values : (xs : List Float) → ((i : ℕ) → T (fits binary64 (get_or xs i nan))) → (s d : ℤ) (n : ℕ) → Each Value (strided xs s d n)
unfolding strided
strided-values xs v s d zero = none
strided-values xs v s d (suc n) = more (v (nat_abs s)) (strided-values xs v (s +ℤ d) d n)

-- ---- at stride 1 the values lie side by side
pub strided-window : (xs : List Float) (at n : ℕ) → at + n ≤ length xs → take n (drop at xs) ≡ strided xs (pos at) (pos 1) n
unfolding strided
strided-window xs at zero h = refl
strided-window xs at (suc n) h =
    ap (take (suc n)) (drop-cons xs at nan (omega arith))
    ∙ ap (λ (l : List Float). get_or xs at nan ∷ l) (strided-window xs (suc at) n (omega arith) ∙ ap (λ (k : ℕ). strided xs (pos k) (pos 1) n) next)
  where
    next : suc at ≡ at + 1
    next = omega arith

pub strided-all : (xs : List Float) → strided xs (pos 0) (pos 1) (length xs) ≡ xs
strided-all xs = sym (strided-window xs 0 (length xs) (omega arith)) ∙ take_all (length xs) xs (le_refl (length xs))

pub inside-all : (len : ℕ) → PlacesInside len (pos 0) (pos 1) len
inside-all len = record { least = λ i l. low i; most = λ i l. high i l }
  where
    low : (i : ℕ) → pos 0 ≤ℤ (pos 0 +ℤ pos 1 *ℤ pos i)
    low i = simp ints (simp atoms (omega arith))

    high : (i : ℕ) → i < len → (pos 0 +ℤ pos 1 *ℤ pos i) <ℤ pos len
    high i = simp ints (simp atoms (omega arith))

module _ (len at : ℕ) (z : ℤ) (n : ℕ) (i : PlacesInside len z (pos 1) n) (some : 1 ≤ n) (e : nat_abs z ≡ at) where
  pub at_first : z ≡ pos at
  at_first = go z (first-natural len z (pos 1) n i some) e
    where
      go : (y : ℤ) → T (non_neg y) → nat_abs y ≡ at → y ≡ pos at
      go (pos k) t q = ap pos q
      go (negsuc k) t q = absurd t

  pub at_last : at + n ≤ len
  at_last = go (subst (λ (y : ℤ). (y +ℤ pos 1 *ℤ pos (n - 1)) <ℤ pos len) at_first (i.most (n - 1) (omega arith))) some
    where
      go : (pos at +ℤ pos 1 *ℤ pos (n - 1)) <ℤ pos len → 1 ≤ n → at + n ≤ len
      go = simp ints (simp atoms (omega arith))

-- n values at stride 1 from z on, by the index that the code has for z
pub record Beside (xs : List Float) (z d : ℤ) (n : ℕ) : Type 0 where
  pub natural : T (non_neg (to_z w64 (of_z w64 z)))
  pub ends : nat_abs (to_z w64 (of_z w64 z)) + n ≤ length xs
  pub same : take n (drop (nat_abs (to_z w64 (of_z w64 z))) xs) ≡ strided xs z d n

pub beside : (xs : List Float) (z d : ℤ) (n : ℕ) → SFits w64 z → d ≡ pos 1 → PlacesInside (length xs) z d n → 1 ≤ n → Beside xs z d n
beside xs z d n f e i some = record {
  natural = subst (λ (y : ℤ). T (non_neg y)) (sym (to_z-of_z w64 z f)) (first-natural (length xs) z (pos 1) n i' some);
  ends = ends;
  same =
      strided-window xs (nat_abs (to_z w64 (of_z w64 z))) n ends
      ∙ ap (λ (y : ℤ). strided xs y (pos 1) n) (sym (at_first (length xs) (nat_abs (to_z w64 (of_z w64 z))) z n i' some is))
      ∙ ap (λ (y : ℤ). strided xs z y n) (sym e);
}
  where
    is : nat_abs z ≡ nat_abs (to_z w64 (of_z w64 z))
    is = sym (ap nat_abs (to_z-of_z w64 z f))

    i' : PlacesInside (length xs) z (pos 1) n
    i' = subst (λ (y : ℤ). PlacesInside (length xs) z y n) e i

    ends : nat_abs (to_z w64 (of_z w64 z)) + n ≤ length xs
    ends = at_last (length xs) (nat_abs (to_z w64 (of_z w64 z))) z n i' some is
