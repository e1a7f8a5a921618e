-- `rounded_once` is `float_of`: the one rounding of the exact S × 2^(e - 52) to binary64. Assumes nothing.
use mathlib.Core.Path.{◌≡◌, refl, sym, ap, ◌∙◌}
use mathlib.Core.Bool.{Bool, true, false, cond}
use Prim.Native.Nat.{ℕ, suc, ◌+◌, ◌-◌, ◌*◌, ◌^◌, ◌≤◌, ◌<◌, max}
use native.Mathlib.Nat.{le_trans, le_of_eq, lt_of_lt_of_le, lt_of_le_of_lt, mul-one}
use native.Mathlib.Omega.{arith}
use lib.IntN.{ℤ, pos, negsuc, nat_abs, ◌+ℤ◌, ◌-ℤ◌}
use lib.Signed.{lt_z}
use lib.Dec.{lit<}
use lib.Pow.{pow-lt}
use lib.Ieee.{Float, inf, size, odd}
use lib.Ieee.Nearest.{closest}
use borrow.Author.Tests.{lt-ltb}
use Rattle.integers.proofs.Difference.{ints, atoms}
use Rattle.integers.proofs.Machine.{nonneg_pos}
use Rattle.floats.specs.Rounding.{unit_places, ties_to_even, delivered, rounded}
use Rattle.floats.specs.Factor.{Factor, Normalised, NormalExponent, float_of}
use Rattle.floats.specs.Magnitude.{factor_at}
use Rattle.floats.proofs.Nearest.{ties-is, significand-le-max, size_is}
use Rattle.floats.proofs.Bridge.{float_of-is, unit-room}
use Rattle.floats.proofs.Overflow.{float-above}
use Rattle.finishing.specs.Once.{counted, past_largest, from_least_normal, rounded_once}

-- ---- `delivered`, below the overflow
delivered-below : (p em : ℕ) (s : Bool) (n j : ℕ) → n * 2 ^ j < 2 ^ (unit_places p em + suc em) → delivered p em s n j ≡ odd (suc p) s n j (unit_places p em)
unfolding delivered
delivered-below p em s n j h = ap (λ (t : Bool). cond t (odd (suc p) s n j (unit_places p em)) (inf s)) (lt-ltb (n * 2 ^ j) (2 ^ (unit_places p em + suc em)) h)

-- what is left of S below the least normal number
low-room : (t em n : ℕ) → 1 < em → n ≤ 2 ^ (t + 1) → n * 2 ^ 0 < 2 ^ (unit_places (t + 1) em + suc em)
low-room t em n e h = lt_of_le_of_lt (le_trans (le_of_eq (mul-one n)) h) (pow-lt (omega arith))

-- ---- `rounded` below the least normal number: S divided by 2^(j + 1) counts units
rounded-low : (t em : ℕ) (s : Bool) (S j : ℕ) → 1 < em → 2 ^ t ≤ S → S < 2 ^ (t + 1)
    → rounded (t + 1) em s S (negsuc j) ≡ odd (suc (t + 1)) s (ties_to_even S (2 ^ suc j)) 0 (unit_places (t + 1) em)
unfolding rounded
rounded-low t em s S j e lo hi =
    let z : size S ≡ suc t = size_is S t lo (lt_of_lt_of_le hi (le_of_eq (ap (λ (x : ℕ). 2 ^ x) (omega arith)))) in
    let k : max (size S - (t + 1)) (suc j) ≡ suc j = omega arith in
    let d : suc j - suc j ≡ 0 = omega arith in
    ap (λ (x : ℕ). delivered (t + 1) em s (ties_to_even S (2 ^ x)) (x - suc j)) k
    ∙ ap (delivered (t + 1) em s (ties_to_even S (2 ^ suc j))) d
    ∙ delivered-below (t + 1) em s (ties_to_even S (2 ^ suc j)) 0
    (low-room t em (ties_to_even S (2 ^ suc j)) e
    (le_trans (le_of_eq (ties-is S (2 ^ suc j) ∙ ap (λ (x : ℕ). closest S (2 ^ x)) (sym k))) (significand-le-max (t + 1) S (suc j))))

-- ---- the place e + 1022 of an exponent
module _ (e : ℤ) where
  from_zero : from_least_normal e ≡ true → lt_z (e +ℤ pos 1022) (pos 0) ≡ false
  from_zero = simp ints (simp atoms (omega arith))

  below-least : from_least_normal e ≡ false → lt_z (negsuc 1021 -ℤ e) (pos 0) ≡ false
  below-least = simp ints (simp atoms (omega arith))

  below-normal-place : (j : ℕ) → e +ℤ pos 1022 ≡ pos j → past_largest e ≡ false → j < 2046
  below-normal-place j = simp ints (simp atoms (omega arith))

  place-under : (n : ℕ) → negsuc 1021 -ℤ e ≡ pos n → from_least_normal e ≡ false → e +ℤ pos 1022 ≡ negsuc (n - 1)
  place-under n = simp ints (simp atoms (omega arith))

  under-pos : (n : ℕ) → negsuc 1021 -ℤ e ≡ pos n → from_least_normal e ≡ false → 1 ≤ n
  under-pos n = simp ints (simp atoms (omega arith))

  normal-place : from_least_normal e ≡ true → e +ℤ pos 1022 ≡ pos (nat_abs (e +ℤ pos 1022))
  normal-place h = nonneg_pos (e +ℤ pos 1022) (from_zero h)

  -- e from -1022 to 1023 is the exponent of a normal number
  pub range : (t : ℕ) (m : Float) → past_largest e ≡ false → from_least_normal e ≡ true → NormalExponent 11 (factor_at t m e)
  unfolding factor_at
  range t m h k = record { place = nat_abs (e +ℤ pos 1022); above = normal-place k; below = below-normal-place (nat_abs (e +ℤ pos 1022)) (normal-place k) h }

-- ---- the three ranges of e
module _ (f : Factor) (N : Normalised 52 f) where
  abbrev j : ℕ
  j = nat_abs (f.exp +ℤ pos 1022)

  abbrev n : ℕ
  n = nat_abs (negsuc 1021 -ℤ f.exp)

  pub float-normal : past_largest f.exp ≡ false → from_least_normal f.exp ≡ true → float_of 11 52 f ≡ counted f.sign f.sig j
  unfolding counted
  float-normal h k =
      let p = normal-place f.exp k in
      float_of-is 11 52 f j N p ∙ delivered-below 53 1023 f.sign f.sig j (unit-room 52 1023 f.sig j N.most (below-normal-place f.exp j p h))

  pub float-low : from_least_normal f.exp ≡ false → float_of 11 52 f ≡ counted f.sign (ties_to_even f.sig (2 ^ n)) 0
  unfolding counted float_of
  float-low k =
      let p = nonneg_pos (negsuc 1021 -ℤ f.exp) (below-least f.exp k) in
      let q : suc (n - 1) ≡ n = omega (arith, under-pos f.exp n p k) in
      ap (rounded 53 1023 f.sign f.sig) (place-under f.exp n p k)
      ∙ rounded-low 52 1023 f.sign f.sig (n - 1) (lit< tt) N.least N.most
      ∙ ap (λ (x : ℕ). odd 54 f.sign (ties_to_even f.sig (2 ^ x)) 0 1074) q

  pub once_is : rounded_once f ≡ float_of 11 52 f
  unfolding rounded_once
  once_is = go (past_largest f.exp) (from_least_normal f.exp) refl refl
    where
      go : (a b : Bool) → past_largest f.exp ≡ a → from_least_normal f.exp ≡ b
          → cond a (inf f.sign) (cond b (counted f.sign f.sig j) (counted f.sign (ties_to_even f.sig (2 ^ n)) 0)) ≡ float_of 11 52 f
      go true b h k = sym (float-above f N h)
      go false true h k = sym (float-normal h k)
      go false false h k = sym (float-low k)
