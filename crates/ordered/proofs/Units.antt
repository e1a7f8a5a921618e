-- A float as a whole number of units: its pattern is read and written as the kit does it, and the product of two floats is the product of their units.
-- Over the kit's formats, each by its widths. Assumes nothing.
use Prim.Native.Nat.{ℕ, zero, suc, ◌+◌, ◌-◌, ◌*◌, ◌/◌, ◌^◌, ◌≤◌, ◌<◌, max}
use mathlib.Core.Path.{◌≡◌, refl, sym, ap, ◌∙◌, subst}
use mathlib.Core.Bool.{Bool, true, false, cond}
use mathlib.Core.List.{List, [], ◌∷◌, map, foldl}
use native.Mathlib.Omega.{arith}
use native.Mathlib.Nat.{mul-one, one-mul, mul_assoc, mul_left_comm, zero-add, mul-pos, mul-div_cancel, lt_of_lt_of_le, lt_of_not-le}
use lib.IntN.{ℤ, pos, sub_ℕ}
use lib.Dec.{T, ltb, eqb, eqb-suc-zero}
use lib.Pow.{pow-add, pow_pos, pow_mono}
use lib.Ieee.{Float, nan, inf, fin, Format, prec, emax, low, hid, top, unlike, up, down, size, odd, fits, to_bits, of_bits, round, mul}
use lib.Ieee.Fits.{up_pos, down_pos, mul-fits}
use lib.Ieee.Exact.{HasValue, odd_sign, units_val}
use lib.Ieee.Bits.{of_bits-to_bits}
use borrow.Author.Tests.{ne_eqb, eqb-false}
use Rattle.floats.specs.Rounding.{ties_to_even, delivered}
use Rattle.floats.specs.Product.{signs, bias}
use Rattle.floats.specs.Fields.{sign_field, exp_field, fraction, of_parts, value_of}
use Rattle.floats.proofs.Unique.{pattern-of, bits_are}
use Rattle.floats.proofs.Powers.{up-sub}
use Rattle.floats.proofs.Product.{signs-is}
use Rattle.floats.proofs.Bridge.{delivered-units, low-is, room, round-to, mul-values, rounded-sub}
use Rattle.floats.proofs.Fields.{bias-next, hid-is, ones_is, top-is, value-is, fraction-lt, field_lt}
use Rattle.ordered.specs.Units.{UnitValue, not_number, infinite, unit_count, one_places, units_in, read_units, rounded_units, over_units}
use Rattle.ordered.specs.Units.{infinite_times, unit_product, write_units, ordered_bits}

module _ (F : Format) (w t : ℕ) (P : prec F ≡ t + 1) (E : emax F ≡ bias w) (W : 0 < w) (B : 0 < bias w) (T1 : 0 < t) where
  -- a float and a value in units are the same
  pub data Counts : Float → UnitValue → Type 0 where
    not-number : Counts nan not_number
    an-infinity : (s : Bool) → Counts (inf s) (infinite s)
    a-number : {x : Float} (s : Bool) (n : ℕ) → HasValue x s n (2 ^ low F) → Counts x (unit_count s n)

  -- ---- q × 2^j units, or an infinity
  over-counts : (s : Bool) (q j : ℕ) → Counts (delivered (t + 1) (bias w) s q j) (over_units w t s (q * 2 ^ j))
  unfolding delivered over_units
  over-counts s q j = go (ltb (q * 2 ^ j) (2 ^ (one_places w t + suc (bias w))))
    where
      go : (b : Bool) → Counts (cond b (odd (suc (t + 1)) s q j (one_places w t)) (inf s)) (cond b (unit_count s (q * 2 ^ j)) (infinite s))
      go true =
          a-number s (q * 2 ^ j)
          (subst (λ (l : ℕ). HasValue (odd (suc (t + 1)) s q j (one_places w t)) s (q * 2 ^ j) (2 ^ l)) (sym (low-is F w t P E))
          (odd_sign (suc (t + 1)) s q j (one_places w t)))
      go false = an-infinity s

  -- where they are not past the largest number
  within-counts : (s : Bool) (q j : ℕ) → q < 2 ^ (t + 1) → j < 2 * bias w → Counts (delivered (t + 1) (bias w) s q j) (unit_count s (q * 2 ^ j))
  within-counts s q j a b =
      a-number s (q * 2 ^ j)
      (subst (λ (x : Float). HasValue x s (q * 2 ^ j) (2 ^ low F)) (sym (delivered-units F w t P E s q j)) (units_val F s q j (room F w t P E q j a b)))

  -- ---- a pattern is read
  parts-counts : (s : Bool) (x T' : ℕ) → x < 2 ^ w → T' < 2 ^ t
      → Counts (of_parts w t s x T') (cond (eqb x (2 ^ w - 1)) (cond (eqb T' 0) (infinite s) not_number) (unit_count s (units_in t x T')))
  unfolding of_parts units_in
  parts-counts s zero T' e f =
      subst (λ (b : Bool). Counts (delivered (t + 1) (bias w) s T' 0) (cond b (cond (eqb T' 0) (infinite s) not_number) (unit_count s T')))
      (sym (ne_eqb 0 (2 ^ w - 1) none))
      (subst (λ (n : ℕ). Counts (delivered (t + 1) (bias w) s T' 0) (unit_count s n)) (mul-one T')
      (within-counts s T' 0 (lt_of_lt_of_le f (pow_mono (omega arith))) (omega arith)))
    where
      none : 0 ≡ 2 ^ w - 1 → ⊥
      none h = omega (arith, bias-next w W)
  parts-counts s (suc x) T' e f = go (eqb (suc x) (2 ^ w - 1)) refl
    where
      special : (b : Bool) → Counts (cond b (inf s) nan) (cond b (infinite s) not_number)
      special true = an-infinity s
      special false = not-number

      under : (n : suc x ≡ 2 ^ w - 1 → ⊥) → x < 2 * bias w
      under n = lt_of_not-le (λ (g : 2 * bias w ≤ x). n (omega (arith, bias-next w W)))

      go : (b : Bool) → eqb (suc x) (2 ^ w - 1) ≡ b
          → Counts (cond b (cond (eqb T' 0) (inf s) nan) (delivered (t + 1) (bias w) s (2 ^ t + T') x))
          (cond b (cond (eqb T' 0) (infinite s) not_number) (unit_count s ((2 ^ t + T') * 2 ^ x)))
      go true h = special (eqb T' 0)
      go false h = within-counts s (2 ^ t + T') x (omega (arith, pow-add 2 t 1)) (under (eqb-false (suc x) (2 ^ w - 1) h))

  -- a float is the value of its pattern
  pub read-counts : (x : Float) → T (fits F x) → Counts x (read_units w t (to_bits F x))
  unfolding read_units value_of
  read-counts x f =
      let b = to_bits F x in
      subst (λ (y : Float). Counts y (read_units w t b)) (sym (value-is F w t P E W b B) ∙ of_bits-to_bits F x f)
      (parts-counts (sign_field w t b) (exp_field w t b) (fraction t b) (field_lt w t b) (fraction-lt t b))

  -- ---- a pattern is written
  not-number-bits : to_bits F nan ≡ write_units w t not_number
  unfolding to_bits write_units
  not-number-bits =
      ap (λ (o : ℕ). o * hid F + hid F / 2) (ones_is F w t P E W)
      ∙ ap (λ (h : ℕ). (2 ^ w - 1) * h + h / 2) (hid-is F w t P E W)
      ∙ (let e : 2 ^ t / 2 ≡ 2 ^ (t - 1) = half in omega arith)
    where
      half : 2 ^ t / 2 ≡ 2 ^ (t - 1)
      half =
          ap (λ (n : ℕ). 2 ^ n / 2) (let e : t ≡ t - 1 + 1 = omega arith in e)
          ∙ ap (λ (n : ℕ). n / 2) (pow-add 2 (t - 1) 1)
          ∙ mul-div_cancel (2 ^ (t - 1)) (pow_pos 1)

  infinity-bits : (s : Bool) → to_bits F (inf s) ≡ write_units w t (infinite s)
  unfolding to_bits write_units
  infinity-bits s =
      ap (λ (o : ℕ). cond s (top F) 0 + o * hid F) (ones_is F w t P E W)
      ∙ ap (λ (h : ℕ). cond s (top F) 0 + (2 ^ w - 1) * h) (hid-is F w t P E W)
      ∙ ap (λ (h : ℕ). cond s h 0 + (2 ^ w - 1) * 2 ^ t) (top-is F w t P E W)
      ∙ omega arith

  number-bits : (x : Float) (s : Bool) (n : ℕ) → HasValue x s n (2 ^ low F) → to_bits F x ≡ write_units w t (unit_count s n)
  unfolding pattern-of write_units
  number-bits nan s n h = absurd h
  number-bits (inf u) s n h = absurd h
  number-bits (fin u m e) s n h =
      bits_are F u m e
      ∙ ap (λ (b : Bool). pattern-of F b (m * up e * 2 ^ low F / down e)) h.0
      ∙ ap (pattern-of F s) (ap (λ (a : ℕ). a / down e) h.1 ∙ mul-div_cancel n (down_pos e))
      ∙ written
    where
      written : pattern-of F s n ≡ write_units w t (unit_count s n)
      written =
          ap (λ (p : ℕ). cond s (top F) 0 + (size n - p) * hid F + n / 2 ^ (size n - p)) P
          ∙ ap (λ (h : ℕ). cond s (top F) 0 + (size n - (t + 1)) * h + n / 2 ^ (size n - (t + 1))) (hid-is F w t P E W)
          ∙ ap (λ (h : ℕ). cond s h 0 + (size n - (t + 1)) * 2 ^ t + n / 2 ^ (size n - (t + 1))) (top-is F w t P E W)

  pub write-counts : {x : Float} {v : UnitValue} → Counts x v → to_bits F x ≡ write_units w t v
  write-counts not-number = not-number-bits
  write-counts (an-infinity s) = infinity-bits s
  write-counts (a-number {x = x} s n h) = number-bits x s n h

  -- ---- the product
  -- an infinity times m × 2^e, which is n units: a NaN exactly if n is 0
  zero-or-infinity : (q r : Bool) (m n : ℕ) (e : ℤ) → q ≡ r → m * up e * 2 ^ low F ≡ n * down e
      → Counts (cond (eqb m 0) nan (inf q)) (infinite_times r n)
  zero-or-infinity q r zero zero e s h = not-number
  zero-or-infinity q r zero (suc n) e s h = absurd (none (mul-pos (let k : 0 < suc n = omega arith in k) (down_pos e)))
    where
      none : 0 < suc n * down e → ⊥
      none k = omega (arith, h)
  zero-or-infinity q r (suc m) zero e s h =
      absurd (none (mul-pos (mul-pos (let k : 0 < suc m = omega arith in k) (up_pos e)) (pow_pos (low F))))
    where
      none : 0 < suc m * up e * 2 ^ low F → ⊥
      none k = omega (arith, h)
  zero-or-infinity q r (suc m) (suc n) e s h =
      subst (λ (b : Bool). Counts (cond b nan (inf q)) (infinite r)) (sym (eqb-suc-zero m))
      (subst (λ (b : Bool). Counts (inf q) (infinite b)) s (an-infinity q))

  infinity-times : (a : Bool) (x : Float) (s : Bool) (n : ℕ) → HasValue x s n (2 ^ low F) → Counts (mul F (inf a) x) (infinite_times (signs a s) n)
  unfolding mul
  infinity-times a nan s n h = absurd h
  infinity-times a (inf u) s n h = absurd h
  infinity-times a (fin u m e) s n h = zero-or-infinity (unlike a u) (signs a s) m n e (signs-is a u ∙ ap (signs a) h.0) h.1

  times-infinity : (x : Float) (s : Bool) (n : ℕ) (b : Bool) → HasValue x s n (2 ^ low F) → Counts (mul F x (inf b)) (infinite_times (signs s b) n)
  unfolding mul
  times-infinity nan s n b h = absurd h
  times-infinity (inf u) s n b h = absurd h
  times-infinity (fin u m e) s n b h =
      zero-or-infinity (unlike u b) (signs s b) m n e (signs-is u b ∙ ap (λ (v : Bool). signs v b) h.0) h.1

  times-nan : (x : Float) → mul F x nan ≡ nan
  unfolding mul
  times-nan nan = refl
  times-nan (inf u) = refl
  times-nan (fin u m e) = refl

  -- two counts: c × d is in units of 2^-(2 × low F), of which the first low F places are the unit's own
  numbers-product : (x y : Float) (a b : Bool) (c d : ℕ) → HasValue x a c (2 ^ low F) → HasValue y b d (2 ^ low F)
      → let k = max (size (c * d) - (t + 1)) (low F) in
      mul F x y ≡ delivered (t + 1) (bias w) (signs a b) (ties_to_even (c * d) (2 ^ k)) (k - low F)
  numbers-product x y a b c d h g =
      let l = 2 ^ low F in
      let z = sub_ℕ 0 (low F) in
      mul-values F w t P E x y a b c l d l (pow_pos (low F)) (pow_pos (low F)) h g
      ∙ ap (λ (s : Bool). round F s (c * d) (l * l)) (signs-is a b)
      ∙ round-to F w t P E (signs a b) (c * d) (l * l) (c * d) z (mul-pos (pow_pos (low F)) (pow_pos (low F)))
      (fraction-is (c * d) l (up z) (down z) (up-sub 0 (low F) ∙ one-mul (down z)))
      ∙ rounded-sub (t + 1) (bias w) (signs a b) (c * d) 0 (low F)
      ∙ ap (λ (j : ℕ). delivered (t + 1) (bias w) (signs a b) (ties_to_even (c * d) (2 ^ max (size (c * d) - (t + 1)) (low F - 0))) (j - low F))
      (zero-add (max (size (c * d) - (t + 1)) (low F - 0)))
      ∙ ap (λ (l : ℕ). delivered (t + 1) (bias w) (signs a b) (ties_to_even (c * d) (2 ^ max (size (c * d) - (t + 1)) l))
      (max (size (c * d) - (t + 1)) l - low F))
      (let e : low F - 0 ≡ low F = omega arith in e)
    where
      fraction-is : (n l u v : ℕ) → u * l ≡ v → n * l * v ≡ n * u * (l * l)
      fraction-is n l u v e = ap (λ (q : ℕ). n * l * q) (sym e) ∙ simp (mul_assoc, mul_left_comm)

  numbers-counts : (x y : Float) (a b : Bool) (c d : ℕ) → HasValue x a c (2 ^ low F) → HasValue y b d (2 ^ low F)
      → Counts (mul F x y) (over_units w t (signs a b) (rounded_units w t (c * d)))
  unfolding rounded_units
  numbers-counts x y a b c d h g =
      let k = max (size (c * d) - (t + 1)) (one_places w t) in
      subst (λ (u : Float). Counts u (over_units w t (signs a b) (ties_to_even (c * d) (2 ^ k) * 2 ^ (k - one_places w t))))
      (sym (numbers-product x y a b c d h g
      ∙ ap (λ (l : ℕ). delivered (t + 1) (bias w) (signs a b) (ties_to_even (c * d) (2 ^ max (size (c * d) - (t + 1)) l)) (max (size (c * d) - (t + 1)) l - l))
      (low-is F w t P E)))
      (over-counts (signs a b) (ties_to_even (c * d) (2 ^ k)) (k - one_places w t))

  -- of any two values
  pub product-counts : {x y : Float} {u v : UnitValue} → Counts x u → Counts y v → Counts (mul F x y) (unit_product w t u v)
  unfolding mul unit_product
  product-counts not-number g = not-number
  product-counts (an-infinity a) not-number = not-number
  product-counts (an-infinity a) (an-infinity b) = subst (λ (s : Bool). Counts (inf (unlike a b)) (infinite s)) (signs-is a b) (an-infinity (unlike a b))
  product-counts (an-infinity a) (a-number {x = y} b d g) = infinity-times a y b d g
  product-counts (a-number {x = x} a c h) not-number = subst (λ (z : Float). Counts z not_number) (sym (times-nan x)) not-number
  product-counts (a-number {x = x} a c h) (an-infinity b) = times-infinity x a c b h
  product-counts (a-number {x = x} a c h) (a-number {x = y} b d g) = numbers-counts x y a b c d h g

  -- ---- the ordered product of values of the format
  one-counts : Counts (fin false 1 (pos 0)) (unit_count false (2 ^ one_places w t))
  one-counts =
      subst (λ (l : ℕ). Counts (fin false 1 (pos 0)) (unit_count false (2 ^ l))) (low-is F w t P E)
      (a-number false (2 ^ low F) (refl, one-mul (2 ^ low F) ∙ sym (mul-one (2 ^ low F))))

  module _ {A : Type 0} (val : A → Float) (fit : (z : A) → T (fits F (val z))) where
    abbrev one : Float
    one = fin false 1 (pos 0)

    -- each value multiplied in from the right
    abbrev fold : Float → List A → Float
    fold x zs = foldl (λ y z. mul F y (val z)) x zs

    fold-counts : (zs : List A) (x : Float) (v : UnitValue) → Counts x v
        → Counts (fold x zs) (foldl (λ v b. unit_product w t v (read_units w t b)) v (map (to_bits F) (map val zs)))
    fold-counts [] x v h = h
    fold-counts (z ∷ zs) x v h =
        fold-counts zs (mul F x (val z)) (unit_product w t v (read_units w t (to_bits F (val z)))) (product-counts h (read-counts (val z) (fit z)))

    fold-fits : (zs : List A) (x : Float) → T (fits F x) → T (fits F (fold x zs))
    fold-fits [] x h = h
    fold-fits (z ∷ zs) x h = fold-fits zs (mul F x (val z)) (mul-fits F x (val z))

    -- its pattern is the one that whole numbers give, and it is the value of that pattern
    pub fold-bits : (zs : List A) → to_bits F (foldl (λ y z. mul F y (val z)) (fin false 1 (pos 0)) zs) ≡ ordered_bits w t (map (to_bits F) (map val zs))
    unfolding ordered_bits
    fold-bits zs = write-counts (fold-counts zs one (unit_count false (2 ^ one_places w t)) one-counts)

    pub fold-value : T (fits F (fin false 1 (pos 0))) → (zs : List A)
        → foldl (λ y z. mul F y (val z)) (fin false 1 (pos 0)) zs ≡ value_of w t (ordered_bits w t (map (to_bits F) (map val zs)))
    fold-value h zs =
        sym (of_bits-to_bits F (fold one zs) (fold-fits zs one h))
        ∙ ap (of_bits F) (fold-bits zs)
        ∙ value-is F w t P E W (ordered_bits w t (map (to_bits F) (map val zs))) B
