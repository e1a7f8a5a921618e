-- Places of values a stride apart, comparisons, and a vector and its lanes, as the code has them. Assumes nothing.
use Prim.Native.Nat.{ℕ, ◌+◌, ◌^◌, ◌≤◌, ◌<◌, min}
use mathlib.Core.Path.{◌≡◌, refl, sym, ap, ◌∙◌}
use mathlib.Core.Bool.{Bool, true, false, not, cond, ◌&&◌}
use mathlib.Core.List.{List, []}
use native.Mathlib.Nat.{zero-add, mod-eq_of_lt}
use native.Mathlib.Omega.{arith}
use lib.ListN.{length, get_or, set}
use lib.IntN.{ℤ, pos, nat_abs, ◌+ℤ◌, ◌*ℤ◌}
use lib.Dec.{T}
use lib.Signed.{non_neg, ◌≤ℤ◌, ◌<ℤ◌}
use lib.Ieee.{Float, nan, lt, le, neg, mul, binary64, of_bits}
use mir.Val.{SFits, to_z, of_z}
use mir.Syntax.{w64}
use mir.ValLaws.{to_z-of_z}
use Rattle.integers.specs.InnerPlaces.{PlacesFit}
use Rattle.integers.proofs.Difference.{ints, atoms}
use Rattle.integers.proofs.Places.{fit-later}
use Rattle.floats.specs.Product.{product_of}
use Rattle.floats.proofs.Product.{mul-binary64}
use Rattle.kernels.specs.declared.lanes.Lanes.{Lanes}
use Rattle.kernels.specs.Lanes.{feed}
use Rattle.kernels.specs.Blocks.{unsplit_step, split_step}
use Rattle.kernels.specs.InnerStrided.{strided, PlacesInside}
use Rattle.kernels.proofs.Feeding.{feed-append}
use Rattle.kernels.proofs.Striding.{length-strided, first-natural, first_below, strided-append, inside-part}
use Rattle.vectors.specs.declared.vector.Waiting.{Waiting}
use Rattle.vectors.specs.InnerWaiting.{vector_of, put, lesser, measure, wait_step, least_of, not_below, MOST, not_past, guarded}
use Rattle.vectors.specs.InnerWaiting.{magnitude_at, least_magnitude, not_low, LOWEST}

module _ (len : ℕ) (s t : ℤ) (n : ℕ) (h : PlacesInside len s t n) (a : ℕ) (l : a < n) (m : len < 2 ^ 63) where
  -- a place, in i64
  pub place-fits : SFits w64 (s +ℤ t *ℤ pos a)
  place-fits = go (h.least a l) (h.most a l) m
    where
      go : pos 0 ≤ℤ (s +ℤ t *ℤ pos a) → (s +ℤ t *ℤ pos a) <ℤ pos len → len < 2 ^ 63 → SFits w64 (s +ℤ t *ℤ pos a)
      go = simp ints (simp atoms (omega arith))

  -- how far a place is from the first, in i64
  pub step_fits : SFits w64 (t *ℤ pos a)
  step_fits = go (h.least 0 (omega arith)) (h.most 0 (omega arith)) (h.least a l) (h.most a l) m
    where
      go : pos 0 ≤ℤ (s +ℤ t *ℤ pos 0) → (s +ℤ t *ℤ pos 0) <ℤ pos len → pos 0 ≤ℤ (s +ℤ t *ℤ pos a) → (s +ℤ t *ℤ pos a) <ℤ pos len → len < 2 ^ 63
          → SFits w64 (t *ℤ pos a)
      go = simp ints (simp atoms (omega arith))

module _ (len : ℕ) (s t : ℤ) (n : ℕ) (h : PlacesInside len s t n) (a : ℕ) (l : a < n) where
  one_left : PlacesInside len (s +ℤ t *ℤ pos a) t 1
  one_left = inside-part len s t n a 1 h (omega arith)

  -- a place, in the slice
  pub place-natural : T (non_neg (s +ℤ t *ℤ pos a))
  place-natural = first-natural len (s +ℤ t *ℤ pos a) t 1 one_left (omega arith)

  pub place-below : nat_abs (s +ℤ t *ℤ pos a) < len
  place-below = first_below len (s +ℤ t *ℤ pos a) t 1 one_left (omega arith)

-- the places from number j on, in i64
pub fits-from : (len : ℕ) (s t : ℤ) (n : ℕ) → PlacesInside len s t n → len < 2 ^ 63 → (at : ℤ) (j m : ℕ) → at ≡ s +ℤ t *ℤ pos j → j + m ≤ n → PlacesFit at t m
fits-from len s t n h m at j k e l = fit-later s t at n j k e l (λ i b. place-fits len s t n h i b m)

-- what is required of places, of the numbers as the code holds them
pub inside-held : (len : ℕ) (s t : ℤ) (n : ℕ) → SFits w64 s → SFits w64 t → PlacesInside len s t n → PlacesInside len (to_z w64 (of_z w64 s)) (to_z w64 (of_z w64 t)) n
inside-held len s t n p q h = simp (to_z-of_z w64 s p, to_z-of_z w64 t q) h

-- ---- comparisons
pub lessers : (x y a b r : Float) → a ≡ x → b ≡ y → r ≡ lesser a b → r ≡ lesser x y
lessers x y a b r p q e = e ∙ ap (λ (z : Float). lesser z b) p ∙ ap (lesser x) q

-- two and two of a vector
module _ (over : Bool) (vector : List Float) where
  abbrev at : ℕ → Float
  at = magnitude_at over vector

  pub least-tree : (a b c d p q r : Float) → a ≡ lesser (at 0) (at 4) → b ≡ lesser (at 1) (at 5) → c ≡ lesser (at 2) (at 6) → d ≡ lesser (at 3) (at 7)
      → p ≡ lesser a c → q ≡ lesser b d → r ≡ lesser p q → r ≡ least_magnitude over vector
  unfolding least_magnitude
  least-tree a b c d p q r A B C D P Q R =
      lessers (lesser (lesser (at 0) (at 4)) (lesser (at 2) (at 6))) (lesser (lesser (at 1) (at 5)) (lesser (at 3) (at 7))) p q r
      (lessers (lesser (at 0) (at 4)) (lesser (at 2) (at 6)) a c p A C P) (lessers (lesser (at 1) (at 5)) (lesser (at 3) (at 7)) b d q B D Q) R

-- the constants of the code
least-is : of_bits binary64 4539628424389459968 ≡ least_of false 15
unfolding of_bits
least-is = refl

twice-is : of_bits binary64 9007199254740992 ≡ least_of false 1021
unfolding of_bits
twice-is = refl

positive-is : of_bits binary64 1 ≡ least_of false 1074
unfolding of_bits
positive-is = refl

lowest-is : of_bits binary64 4503599627370496 ≡ LOWEST
unfolding of_bits
lowest-is = refl

most-is : of_bits binary64 9110782046170513408 ≡ MOST
unfolding of_bits
most-is = refl

pub below-test : (x : Float) → le (of_bits binary64 4539628424389459968) x ≡ not_below (least_of false 15) x
below-test x = ap (λ (l : Float). le l x) least-is

pub twice-test : (x : Float) → le (of_bits binary64 9007199254740992) x ≡ not_below (least_of false 1021) x
twice-test x = ap (λ (l : Float). le l x) twice-is

pub positive-test : (x : Float) → le (of_bits binary64 1) x ≡ not_below (least_of false 1074) x
positive-test x = ap (λ (l : Float). le l x) positive-is

pub lowest-test : (x : Float) → lt x (of_bits binary64 4503599627370496) ≡ lt x LOWEST
lowest-test x = ap (lt x) lowest-is

pub past-test : (x : Float) → (le x (of_bits binary64 9110782046170513408) && le (neg (of_bits binary64 9110782046170513408)) x) ≡ not_past x
past-test x = ap (λ (h : Float). le x h && le (neg h) x) most-is

-- value k of a vector goes to lane k
pub wait-lane : (signs : Bool) (w : Waiting) (k : ℕ) (x y : Float) → k < 8 → y ≡ lesser (measure signs x) (get_or w.least k nan)
    → ◌≡◌ {A = Waiting} (record { m = set w.m k (mul binary64 (get_or w.m k nan) x); least = set w.least k y }) (wait_step signs k w x)
unfolding wait_step
wait-lane signs w k x y h e =
    ap (λ (z : Float). record { m = set w.m k (mul binary64 (get_or w.m k nan) x); least = set w.least k z }) e
    ∙ ap (λ (z : Float). record { m = set w.m k z; least = set w.least k (lesser (measure signs x) (get_or w.least k nan)) })
    (mul-binary64 (get_or w.m k nan) x)
    ∙ ap
    (λ (j : ℕ).
    record { m = set w.m j (product_of 11 52 (get_or w.m j nan) x); least = set w.least j (lesser (measure signs x) (get_or w.least j nan)) })
    (sym (mod-eq_of_lt h))

-- ---- a vector of one value more
pub vector-more : (xs : List Float) (s t : ℤ) (k : ℕ) (v : List Float) (place : ℤ) → v ≡ vector_of (strided xs s t k) → place ≡ s +ℤ t *ℤ pos k
    → set v k (get_or xs (nat_abs place) nan) ≡ vector_of (strided xs s t (k + 1))
unfolding feed strided vector_of
vector-more xs s t k v place p e =
    ap (λ (z : ℤ). set v k (get_or xs (nat_abs z) nan)) e
    ∙ ap (λ (l : List Float). set l k x) p
    ∙ ap (λ (j : ℕ). set (vector_of (strided xs s t k)) j x) (sym (zero-add (length (strided xs s t k)) ∙ length-strided xs s t k))
    ∙ sym (feed-append put 0 (vector_of []) (strided xs s t k) (strided xs (s +ℤ t *ℤ pos k) t 1))
    ∙ ap vector_of (sym (strided-append xs s t k 1))
  where
    x : Float
    x = get_or xs (nat_abs (s +ℤ t *ℤ pos k)) nan

-- lane k of n values: the next value is taken, or there is none
module _ (xs : List Float) (s t : ℤ) (n k : ℕ) (v : List Float) (p : v ≡ vector_of (strided xs s t (min k n))) where
  abbrev of : ℕ → List Float
  of j = vector_of (strided xs s t j)

  pub lane-taken : (place : ℤ) → place ≡ s +ℤ t *ℤ pos k → k < n → set v k (get_or xs (nat_abs place) nan) ≡ vector_of (strided xs s t (min (k + 1) n))
  lane-taken place e l =
      vector-more xs s t k v place (p ∙ ap of (let m : min k n ≡ k = omega arith in m)) e
      ∙ ap of (let m : k + 1 ≡ min (k + 1) n = omega arith in m)

  pub lane-passed : n ≤ k → v ≡ vector_of (strided xs s t (min (k + 1) n))
  lane-passed l = p ∙ ap of (let m : min k n ≡ min (k + 1) n = omega arith in m)

-- ---- a vector by its test
module _ (all : Bool) (s : Lanes) (vector : List Float) where
  pub guarded-inside : (not all && not_low vector) ≡ true → feed unsplit_step 0 s vector ≡ guarded all s vector
  unfolding guarded
  guarded-inside h = sym (ap (λ (t : Bool). cond t (feed unsplit_step 0 s vector) (feed split_step 0 s vector)) h)

  pub guarded-outside : (not all && not_low vector) ≡ false → feed split_step 0 s vector ≡ guarded all s vector
  unfolding guarded
  guarded-outside h = sym (ap (λ (t : Bool). cond t (feed unsplit_step 0 s vector) (feed split_step 0 s vector)) h)
