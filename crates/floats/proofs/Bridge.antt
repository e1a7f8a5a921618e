-- The floats' product and the whole-number product: where both factors are normal numbers of the format, and the exponent of the product is at least the
-- format's least, the product of the floats is the float of `times`. Over the kit's formats, each by its widths. Assumes nothing.
use mathlib.Core.Path.{◌≡◌, refl, sym, ap, ◌∙◌, subst}
use mathlib.Core.Bool.{Bool, true, false, cond}
use Prim.Native.Nat.{ℕ, zero, suc, ◌+◌, ◌-◌, ◌*◌, ◌^◌, ◌≤◌, ◌<◌, max}
use native.Mathlib.Nat.{le-max_right, le_refl, le_trans, le_of_eq, le_of_lt, lt_of_lt_of_le, mul_assoc, mul_left_comm, mul-pos, mul-mul-mul_comm}
use native.Mathlib.Nat.{mul-lt-mul_of_pos_right}
use native.Mathlib.Omega.{arith}
use lib.IntN.{ℤ, pos, negsuc, sub_ℕ, neg_ℤ, ◌+ℤ◌, +ℤ_assoc}
use lib.Dec.{T, ltb, eqb, leb→le}
use lib.Pow.{pow-add, pow_pos, pow_mono}
use lib.Ieee.{Float, nan, inf, fin, Format, prec, emax, low, unlike, up, down, size, units, round, mul, fits, binary64}
use lib.Ieee.Fits.{down_pos, round-fits}
use lib.Ieee.Exact.{HasValue, units_val}
use lib.Ieee.Nearest.{closest}
use lib.Ieee.Scale.{round_same}
use lib.Signed.{le_z}
use borrow.Author.Tests.{ltb-true, ltb-false, le-ltb, eqb-true}
use Rattle.laws.proofs.Sums.{sum-swap}
use Rattle.floats.specs.Rounding.{ties_to_even, unit_places, delivered, rounded}
use Rattle.floats.specs.Product.{signs, bias, product, product_of}
use Rattle.floats.specs.Factor.{Factor, Normalised, NormalExponent, long, quotient, significand, carry, times, float_of}
use Rattle.floats.proofs.Nearest.{ties-is, closest-one, closest-half, size_is}
use Rattle.floats.proofs.Powers.{up-sub}
use Rattle.floats.proofs.Rounding.{delivered-is, units-same, round-rounded}
use Rattle.floats.proofs.Product.{signs-is, mul-product}
use Rattle.floats.proofs.Factor.{product-least, product-below, long-size, long-below, times-normal}

-- ---- `rounded` at a place that is a difference of two naturals
delivered-at : (p em : ℕ) (s : Bool) (c k k' j j' : ℕ) → k ≡ k' → j ≡ j'
    → delivered p em s (ties_to_even c (2 ^ k)) j ≡ delivered p em s (ties_to_even c (2 ^ k')) j'
delivered-at p em s c k k' j j' a b = ap (λ (x : ℕ). delivered p em s (ties_to_even c (2 ^ x)) j) a ∙ ap (delivered p em s (ties_to_even c (2 ^ k'))) b

pub rounded-sub : (p em : ℕ) (s : Bool) (c a b : ℕ)
    → rounded p em s c (sub_ℕ a b) ≡ delivered p em s (ties_to_even c (2 ^ max (size c - p) (b - a))) (a + max (size c - p) (b - a) - b)
unfolding rounded
rounded-sub p em s c a b = go (ltb a b) refl
  where
    J-is : a < b → suc (b - suc a) ≡ b - a
    J-is h = omega arith

    left : (m : ℕ) → a < b → b - a ≤ m → m - suc (b - suc a) ≡ a + m - b
    left m h k = omega arith

    go : (t : Bool) → ltb a b ≡ t
        → rounded p em s c (cond t (negsuc (b - suc a)) (pos (a - b)))
        ≡ delivered p em s (ties_to_even c (2 ^ max (size c - p) (b - a))) (a + max (size c - p) (b - a) - b)
    go true e =
        let h : a < b = ltb-true a b e in
        let x = size c - p in
        ap (λ (y : ℕ). delivered p em s (ties_to_even c (2 ^ max x y)) (max x y - y)) (J-is h)
        ∙ ap (delivered p em s (ties_to_even c (2 ^ max x (b - a))))
        (ap (λ (y : ℕ). max x (b - a) - y) (sym (J-is h)) ∙ left (max x (b - a)) h (le-max_right x (b - a)))
    go false e =
        let h : b ≤ a = ltb-false a b e in
        delivered-at p em s c (size c - p) (max (size c - p) (b - a)) (a - b + (size c - p)) (a + max (size c - p) (b - a) - b) (omega arith) (omega arith)

-- ---- a significand of t + 1 digits is not rounded
pub rounded-normal : (t em : ℕ) (s : Bool) (S j : ℕ) → 2 ^ t ≤ S → S < 2 ^ (t + 1) → rounded (t + 1) em s S (pos j) ≡ delivered (t + 1) em s S j
unfolding rounded
rounded-normal t em s S j lo hi =
    let z : size S ≡ suc t = size_is S t lo (lt_of_lt_of_le hi (le_of_eq (ap (λ (x : ℕ). 2 ^ x) (omega arith)))) in
    delivered-at (t + 1) em s S (size S - (t + 1)) 0 (j + (size S - (t + 1))) j (omega arith) (omega arith)
    ∙ ap (λ (x : ℕ). delivered (t + 1) em s x j) (ties-is S 1 ∙ closest-one S)

pub float_of-is : (w t : ℕ) (f : Factor) (j : ℕ) → Normalised t f → f.exp +ℤ pos (bias w - 1) ≡ pos j
    → float_of w t f ≡ delivered (t + 1) (bias w) f.sign f.sig j
unfolding float_of
float_of-is w t f j N e = ap (rounded (t + 1) (bias w) f.sign f.sig) e ∙ rounded-normal t (bias w) f.sign f.sig j N.least N.most

-- ---- exponents: i, j and r are the places of e, d and e + d + c
places : (e d : ℤ) (b c i j r : ℕ) → e +ℤ pos b ≡ pos i → d +ℤ pos b ≡ pos j → e +ℤ d +ℤ pos c +ℤ pos b ≡ pos r → i + j + c ≡ r + b
places e d b c i j r p q h =
    pos-same (i + j + c) (r + b)
    (ap (λ (x : ℤ). x +ℤ pos c) (ap (λ (x : ℤ). x +ℤ pos j) (sym p) ∙ ap (λ (x : ℤ). e +ℤ pos b +ℤ x) (sym q)) ∙ regroup ∙ ap (λ (x : ℤ). x +ℤ pos b) h)
  where
    pos-same : (m n : ℕ) → pos m ≡ pos n → m ≡ n
    pos-same m n u = cc

    regroup : e +ℤ pos b +ℤ (d +ℤ pos b) +ℤ pos c ≡ e +ℤ d +ℤ pos c +ℤ pos b +ℤ pos b
    regroup =
        ap (λ (x : ℤ). x +ℤ pos c) (sym (+ℤ_assoc (e +ℤ pos b) d (pos b)) ∙ ap (λ (x : ℤ). x +ℤ pos b) (sum-swap e (pos b) d))
        ∙ sum-swap (e +ℤ d +ℤ pos b) (pos b) (pos c)
        ∙ ap (λ (x : ℤ). x +ℤ pos b) (sum-swap (e +ℤ d) (pos b) (pos c))

-- ---- `InRange` says 1 - bias ≤ e ≤ bias
pub in-range : (w : ℕ) (f : Factor) → 0 < bias w → T (le_z (neg_ℤ (pos (bias w - 1))) f.exp) → T (le_z f.exp (pos (bias w))) → NormalExponent w f
in-range w f B lo hi = record { place = at.0; above = at.1; below = lt_of_lt_of_le at.2 (omega arith) }
  where
    -- c is bias - 1
    from : (e : ℤ) (c : ℕ) → T (le_z (neg_ℤ (pos c)) e) → T (le_z e (pos (suc c))) → (r : ℕ) × (e +ℤ pos c ≡ pos r) × (r < 2 * suc c)
    from (pos n) c l h = (n + c, refl, let k : n ≤ suc c = leb→le n (suc c) h in omega arith)
    from (negsuc n) zero l h = absurd l
    from (negsuc n) (suc c) l h = (c - n, subtract, omega arith)
      where
        subtract : sub_ℕ (suc c) (suc n) ≡ pos (c - n)
        subtract =
            ap (λ (t : Bool). cond t (negsuc (suc n - suc (suc c))) (pos (suc c - suc n)))
            (le-ltb (suc c) (suc n) (let k : n ≤ c = leb→le n c l in omega arith))
            ∙ ap pos (omega arith)

    at : (r : ℕ) × (f.exp +ℤ pos (bias w - 1) ≡ pos r) × (r < 2 * suc (bias w - 1))
    at = from f.exp (bias w - 1) lo (subst (λ (b : ℕ). T (le_z f.exp (pos b))) (let e : bias w ≡ suc (bias w - 1) = omega arith in e) hi)

-- a significand of t + 1 digits, at a place of at most twice the largest exponent less 1
pub unit-room : (t em S j : ℕ) → S < 2 ^ (t + 1) → j < 2 * em → S * 2 ^ j < 2 ^ (unit_places (t + 1) em + suc em)
unit-room t em S j h k =
    lt_of_lt_of_le (mul-lt-mul_of_pos_right h (pow_pos j)) (le_trans (le_of_eq (sym (pow-add 2 (t + 1) j))) (pow_mono (omega arith)))

-- ---- at one of the kit's formats
module _ (F : Format) (w t : ℕ) (P : prec F ≡ t + 1) (E : emax F ≡ bias w) where
  pub delivered-units : (s : Bool) (n j : ℕ) → delivered (t + 1) (bias w) s n j ≡ units F s n j
  delivered-units s n j = ap (λ (p : ℕ). delivered p (bias w) s n j) (sym P) ∙ ap (λ (m : ℕ). delivered (prec F) m s n j) (sym E) ∙ delivered-is F s n j

  pub low-is : low F ≡ unit_places (t + 1) (bias w)
  low-is = ap (λ (x : ℕ). emax F + x - 2) P ∙ ap (λ (x : ℕ). x + (t + 1) - 2) E

  pub round-to : (s : Bool) (num den c : ℕ) (z : ℤ) → 0 < den → num * 2 ^ low F * down z ≡ c * up z * den → round F s num den ≡ rounded (t + 1) (bias w) s c z
  round-to s num den c z D e = round-rounded F s num den c z D e ∙ ap (λ (p : ℕ). rounded p (emax F) s c z) P ∙ ap (λ (m : ℕ). rounded (t + 1) m s c z) E

  pub mul_is : (x y : Float) → mul F x y ≡ product_of w t x y
  mul_is x y = mul-product F x y ∙ ap (λ (p : ℕ). product p (emax F) x y) P ∙ ap (λ (m : ℕ). product (t + 1) m x y) E

  -- one number of units, written in two ways
  delivered-same : (s : Bool) (q k r j : ℕ) → q ≤ 2 ^ (t + 1) → r ≤ 2 ^ (t + 1) → q * 2 ^ k ≡ r * 2 ^ j
      → delivered (t + 1) (bias w) s q k ≡ delivered (t + 1) (bias w) s r j
  delivered-same s q k r j a b e =
      delivered-units s q k
      ∙ units-same F s q k r j (subst (λ (p : ℕ). q ≤ 2 ^ p) (sym P) a) (subst (λ (p : ℕ). r ≤ 2 ^ p) (sym P) b) e
      ∙ sym (delivered-units s r j)

  -- a normal number's value
  pub room : (S j : ℕ) → S < 2 ^ (t + 1) → j < 2 * bias w → S * 2 ^ j < 2 ^ (low F + suc (emax F))
  room S j h k =
      subst (λ (x : ℕ). S * 2 ^ j < 2 ^ x)
      (sym (ap (λ (l : ℕ). l + suc (emax F)) low-is ∙ ap (λ (m : ℕ). unit_places (t + 1) (bias w) + suc m) E))
      (unit-room t (bias w) S j h k)

  pub float_of-value : (f : Factor) → Normalised t f → (R : NormalExponent w f) → HasValue (float_of w t f) f.sign (f.sig * 2 ^ R.place) (2 ^ low F)
  float_of-value f N R =
      subst (λ (x : Float). HasValue x f.sign (f.sig * 2 ^ R.place) (2 ^ low F))
      (sym (float_of-is w t f R.place N R.above ∙ delivered-units f.sign f.sig R.place))
      (units_val F f.sign f.sig R.place (room f.sig R.place N.most R.below))

  pub float_of-fits : (f : Factor) → T (fits F (float_of w t f))
  unfolding float_of
  float_of-fits f =
      let z = f.exp +ℤ pos (bias w - 1) in
      let l = 2 ^ low F in
      subst (λ (x : Float). T (fits F x))
      (round-to f.sign (f.sig * up z) (l * down z) f.sig z (mul-pos (pow_pos (low F)) (down_pos z)) (mul_assoc (f.sig * up z) l (down z)))
      (round-fits F f.sign (f.sig * up z) (l * down z))

  -- the product of two values, by the fractions that they equal
  pub mul-values : (x y : Float) (s u : Bool) (a c b d : ℕ) → 0 < c → 0 < d → HasValue x s a c → HasValue y u b d
      → mul F x y ≡ round F (unlike s u) (a * b) (c * d)
  unfolding mul
  mul-values nan y s u a c b d C D h k = absurd h
  mul-values (inf v) y s u a c b d C D h k = absurd h
  mul-values (fin v m e) nan s u a c b d C D h k = absurd k
  mul-values (fin v m e) (inf v') s u a c b d C D h k = absurd k
  mul-values (fin v m e) (fin v' n g) s u a c b d C D h k =
      ap (λ (q : Bool). round F (unlike q v') (m * up e * (n * up g)) (down e * down g)) h.0
      ∙ ap (λ (q : Bool). round F (unlike s q) (m * up e * (n * up g)) (down e * down g)) k.0
      ∙ round_same F (unlike s u) (m * up e * (n * up g)) (down e * down g) (a * b) (c * d) (mul-pos (down_pos e) (down_pos g)) (mul-pos C D)
      (mul-mul-mul_comm (m * up e) (n * up g) c d
      ∙ ap (λ (z : ℕ). z * (n * up g * d)) h.1
      ∙ ap (λ (z : ℕ). a * down e * z) k.1
      ∙ mul-mul-mul_comm a (down e) b (down g))

  -- the exact product of two normal numbers, then rounded
  mul-exact : (f g : Factor) → Normalised t f → Normalised t g → (R : NormalExponent w f) (Q : NormalExponent w g)
      → mul F (float_of w t f) (float_of w t g) ≡ rounded (t + 1) (bias w) (signs f.sign g.sign) (f.sig * g.sig) (sub_ℕ (R.place + Q.place) (low F))
  mul-exact f g N M R Q =
      let i = R.place in
      let j = Q.place in
      let l = 2 ^ low F in
      let z = sub_ℕ (i + j) (low F) in
      mul-values (float_of w t f) (float_of w t g) f.sign g.sign (f.sig * 2 ^ i) l (g.sig * 2 ^ j) l (pow_pos (low F)) (pow_pos (low F))
      (float_of-value f N R) (float_of-value g M Q)
      ∙ ap (λ (s : Bool). round F s (f.sig * 2 ^ i * (g.sig * 2 ^ j)) (l * l)) (signs-is f.sign g.sign)
      ∙ round-to (signs f.sign g.sign) (f.sig * 2 ^ i * (g.sig * 2 ^ j)) (l * l) (f.sig * g.sig) z (mul-pos (pow_pos (low F)) (pow_pos (low F)))
      (fraction f.sig g.sig (2 ^ i) (2 ^ j) l (up z) (down z) (up-sub (i + j) (low F) ∙ ap (λ (x : ℕ). x * down z) (pow-add 2 i j)))
    where
      fraction : (S U x y l u d : ℕ) → u * l ≡ x * y * d → S * x * (U * y) * l * d ≡ S * U * u * (l * l)
      fraction S U x y l u d e =
          let a : S * x * (U * y) * l * d ≡ S * U * l * (x * y * d) = simp (mul_assoc, mul_left_comm) in
          let b : S * U * l * (u * l) ≡ S * U * u * (l * l) = simp (mul_assoc, mul_left_comm) in
          a ∙ ap (λ (v : ℕ). S * U * l * v) (sym e) ∙ b

  -- the product of the significands, rounded at a place where the result's exponent is at least the format's least
  rounded-times : (s : Bool) (n a r : ℕ) → 2 ^ (2 * t) ≤ n → n < 2 ^ (2 * t + 2) → a + carry t n + t ≡ r + low F
      → rounded (t + 1) (bias w) s n (sub_ℕ a (low F)) ≡ delivered (t + 1) (bias w) s (significand t n) r
  rounded-times s n a r lo hi = go (eqb (quotient t n) (2 ^ (t + 1))) refl r
    where
      k : ℕ
      k = t + long t n

      L : ℕ
      L = low F

      at : (d j : ℕ) → max (size n - (t + 1)) (L - a) ≡ d → a + d - L ≡ j
          → rounded (t + 1) (bias w) s n (sub_ℕ a L) ≡ delivered (t + 1) (bias w) s (ties_to_even n (2 ^ d)) j
      at d j e h =
          rounded-sub (t + 1) (bias w) s n a L
          ∙ delivered-at (t + 1) (bias w) s n (max (size n - (t + 1)) (L - a)) d (a + max (size n - (t + 1)) (L - a) - L) j e (ap (λ (x : ℕ). a + x - L) e ∙ h)

      digits : size n ≡ suc (2 * t + long t n)
      digits = long-size t n lo hi

      go : (b : Bool) → eqb (quotient t n) (2 ^ (t + 1)) ≡ b → (r : ℕ) → a + (long t n + cond b 1 0) + t ≡ r + L
          → rounded (t + 1) (bias w) s n (sub_ℕ a L) ≡ delivered (t + 1) (bias w) s (cond b (2 ^ t) (quotient t n)) r
      go false e r h = at k r (omega (arith, digits)) (omega arith)
      go true e (suc r) h =
          at k r (omega (arith, digits)) (omega arith)
          ∙ ap (λ (q : ℕ). delivered (t + 1) (bias w) s q r) full
          ∙ delivered-same s (2 ^ (t + 1)) r (2 ^ t) (suc r) (le_refl (2 ^ (t + 1))) (pow_mono (omega arith))
          (sym (pow-add 2 (t + 1) r) ∙ ap (λ (x : ℕ). 2 ^ x) (omega arith) ∙ pow-add 2 t (suc r))
        where
          full : quotient t n ≡ 2 ^ (t + 1)
          full = eqb-true (quotient t n) (2 ^ (t + 1)) e
      go true e zero h =
          at (k + 1) 0 (omega (arith, digits)) (omega arith)
          ∙ ap (λ (q : ℕ). delivered (t + 1) (bias w) s q 0) half
        where
          half : ties_to_even n (2 ^ (k + 1)) ≡ 2 ^ t
          half =
              ties-is n (2 ^ (k + 1))
              ∙ ap (closest n) (pow-add 2 k 1)
              ∙ closest-half n (2 ^ k) (2 ^ t) (pow_pos k) (sym (ties-is n (2 ^ k)) ∙ eqb-true (quotient t n) (2 ^ (t + 1)) e ∙ pow-add 2 t 1)
              (le_trans (le_of_lt (long-below t n lo hi))
              (le_of_eq (ap (λ (x : ℕ). 2 ^ x) (omega arith) ∙ pow-add 2 (t + 1) k ∙ ap (λ (x : ℕ). x * 2 ^ k) (pow-add 2 t 1))))

  pub mul-times : (f g : Factor) → Normalised t f → Normalised t g → NormalExponent w f → NormalExponent w g → (r : ℕ)
      → (times t f g).exp +ℤ pos (bias w - 1) ≡ pos r
      → mul F (float_of w t f) (float_of w t g) ≡ float_of w t (times t f g)
  unfolding times
  mul-times f g N M R Q r h =
      let n = f.sig * g.sig in
      let sum : R.place + Q.place + carry t n ≡ r + (bias w - 1) = places f.exp g.exp (bias w - 1) (carry t n) R.place Q.place r R.above
      Q.above h in
      mul-exact f g N M R Q
      ∙ rounded-times (signs f.sign g.sign) n (R.place + Q.place) r (product-least t f g N M) (product-below t f g N M)
      (lift R.place Q.place (carry t n) (low F) (bias w) sum R.below low-is)
      ∙ sym (float_of-is w t (times t f g) r (times-normal t f g N M) h)
    where
      lift : (i j c l b : ℕ) → i + j + c ≡ r + (b - 1) → i < 2 * b → l ≡ b + (t + 1) - 2 → i + j + c + t ≡ r + l
      lift i j c l b e k h = omega arith

-- ---- binary64
pub product-times : (f g : Factor) → Normalised 52 f → Normalised 52 g → NormalExponent 11 f → NormalExponent 11 g → NormalExponent 11 (times 52 f g)
    → product_of 11 52 (float_of 11 52 f) (float_of 11 52 g) ≡ float_of 11 52 (times 52 f g)
product-times f g N M R Q Z =
    sym (mul_is binary64 11 52 refl refl (float_of 11 52 f) (float_of 11 52 g)) ∙ mul-times binary64 11 52 refl refl f g N M R Q Z.place Z.above
