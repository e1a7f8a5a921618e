-- `rounded` and the kit's `round` give the same value, at each of the kit's formats: of a fraction num / den that is c × 2^z units of the format's least
-- positive number. So `rounded` sees only the value that it is handed. Assumes nothing.
use mathlib.Core.Path.{◌≡◌, refl, sym, ap, ◌∙◌, subst}
use mathlib.Core.Bool.{Bool, true, false, cond}
use mathlib.Core.Logic.{◌⊎◌, inl, inr, ⊎_elim}
use Prim.Native.Nat.{ℕ, suc, ◌+◌, ◌-◌, ◌*◌, ◌/◌, ◌%◌, ◌^◌, ◌≤◌, ◌<◌, max, compare}
use native.Mathlib.Nat.{le_refl, le_trans, lt_of_le_of_lt, lt_of_lt_of_le, mul-one, mul_comm, mul_assoc, mul_right_comm, mul-pos, mul-div_cancel}
use native.Mathlib.Nat.{div-div-eq-div-mul}
use native.Mathlib.Omega.{arith}
use lib.IntN.{ℤ, pos, negsuc}
use lib.Dec.{T, ltb, ltb→lt}
use lib.Pow.{pow-add, pow_pos, pow-lt, shl_lt}
use lib.Ieee.{inf, Format, prec, emax, low, up, down, size, odd, units, round}
use lib.Ieee.Digits.{size-lt, size-le}
use lib.Ieee.Fits.{odd-fits, nearest-le, kept-lt, round_is, two, down_pos}
use lib.Ieee.Exact.{HasValue, odd_sign}
use lib.Ieee.Nearest.{closest, closest_same, div_same}
use borrow.Author.Tests.{ltb-false}
use Rattle.floats.specs.Rounding.{ties_to_even, delivered, rounded}
use Rattle.floats.proofs.Nearest.{ties-is, closest-one, closest-exact, significand-le, significand-le-max, size-shl, size-shr}
use Rattle.floats.proofs.Unique.{value-unique}

-- ---- `delivered` is the kit's `units`, which sees only the number of units
pub delivered-is : (f : Format) (s : Bool) (n j : ℕ) → delivered (prec f) (emax f) s n j ≡ units f s n j
unfolding delivered units
delivered-is f s n j = refl

below_next : (p q : ℕ) → q ≤ 2 ^ p → q < 2 ^ suc p
below_next p q h = lt_of_le_of_lt h (pow-lt (le_refl (suc p)))

pub units-same : (f : Format) (s : Bool) (q k r j : ℕ) → q ≤ 2 ^ prec f → r ≤ 2 ^ prec f → q * 2 ^ k ≡ r * 2 ^ j → units f s q k ≡ units f s r j
unfolding units
units-same f s q k r j a b e =
    let o = 2 ^ (low f + suc (emax f)) in
    go (ltb (q * 2 ^ k) o) (ltb→lt (q * 2 ^ k) o) ∙ ap (λ (x : ℕ). cond (ltb x o) (odd (suc (prec f)) s r j (low f)) (inf s)) e
  where
    go : (t : Bool) → (T t → q * 2 ^ k < 2 ^ (low f + suc (emax f)))
        → cond t (odd (suc (prec f)) s q k (low f)) (inf s) ≡ cond t (odd (suc (prec f)) s r j (low f)) (inf s)
    go true h =
        value-unique f (odd (suc (prec f)) s q k (low f)) (odd (suc (prec f)) s r j (low f)) s (q * 2 ^ k) (2 ^ low f) (pow_pos (low f))
        (odd-fits f (suc (prec f)) s q k (below_next (prec f) q a) a (h tt))
        (odd-fits f (suc (prec f)) s r j (below_next (prec f) r b) b (subst (λ (x : ℕ). x < 2 ^ (low f + suc (emax f))) e (h tt)))
        (odd_sign (suc (prec f)) s q k (low f))
        (subst (λ (x : ℕ). HasValue (odd (suc (prec f)) s r j (low f)) s x (2 ^ low f)) (sym e) (odd_sign (suc (prec f)) s r j (low f)))
    go false h = refl

-- ---- what `round` keeps of a fraction n / den of units
kept-fraction : (p n den : ℕ) → closest n (den * 2 ^ (size (n / den) - p)) ≤ 2 ^ p
kept-fraction p n den =
    let k = size (n / den) - p in
    let u = den * 2 ^ k in
    le_trans (nearest-le (n / u) (compare (n % u * 2) u)) (subst (λ (x : ℕ). x < 2 ^ p) (div-div-eq-div-mul n den (2 ^ k)) (kept-lt p (n / den)))

-- ---- a whole number c × 2^j of units: all of c's digits are kept, or the leading p
few-or-many : (z p : ℕ) → (z < p) ⊎ (p ≤ z)
few-or-many z p = go (ltb z p) refl
  where
    go : (b : Bool) → ltb z p ≡ b → (z < p) ⊎ (p ≤ z)
    go true e = inl (ltb→lt z p (subst T (sym e) tt))
    go false e = inr (ltb-false z p e)

module _ (p c j n den : ℕ) (D : 0 < den) (P : 0 < p) (e : n ≡ c * 2 ^ j * den) where
  whole : n / den ≡ c * 2 ^ j
  whole = ap (λ (x : ℕ). x / den) e ∙ mul-div_cancel (c * 2 ^ j) D

  -- with fewer digits than p nothing is dropped of c, and at most the j zeros of c × 2^j
  whole-few : size c < p → closest n (den * 2 ^ (size (n / den) - p)) * 2 ^ (size (n / den) - p) ≡ closest c (2 ^ (size c - p)) * 2 ^ (j + (size c - p))
  whole-few h =
      let k = size (n / den) - p in
      let z : size c - p ≡ 0 = omega arith in
      let most : size (n / den) ≤ size c + j = subst (λ (x : ℕ). size x ≤ size c + j) (sym whole)
      (size-le (c * 2 ^ j) (size c + j) (shl_lt (size c) j (size-lt c))) in
      let k-le : k + (j - k) ≡ j = omega arith in
      let x : c * 2 ^ (j - k) * 2 ^ k ≡ c * 2 ^ j = mul_assoc c (2 ^ (j - k)) (2 ^ k)
      ∙ ap (λ (y : ℕ). c * y)
      (mul_comm (2 ^ (j - k)) (2 ^ k) ∙ sym (pow-add 2 k (j - k)) ∙ ap (λ (y : ℕ). 2 ^ y) k-le) in
      let n-is : n ≡ c * 2 ^ (j - k) * (den * 2 ^ k) = e
      ∙ ap (λ (y : ℕ). y * den) (sym x)
      ∙ mul_assoc (c * 2 ^ (j - k)) (2 ^ k) den
      ∙ ap (λ (y : ℕ). c * 2 ^ (j - k) * y) (mul_comm (2 ^ k) den) in
      ap (λ (y : ℕ). closest y (den * 2 ^ k) * 2 ^ k) n-is
      ∙ ap (λ (y : ℕ). y * 2 ^ k) (closest-exact (c * 2 ^ (j - k)) (den * 2 ^ k) (mul-pos D (pow_pos k)))
      ∙ x
      ∙ ap (λ (y : ℕ). y * 2 ^ j) (sym (closest-one c))
      ∙ ap (λ (y : ℕ). closest c (2 ^ y) * 2 ^ j) (sym z)
      ∙ ap (λ (y : ℕ). closest c (2 ^ (size c - p)) * 2 ^ y) (omega arith)

  whole-many : p ≤ size c → closest n (den * 2 ^ (size (n / den) - p)) * 2 ^ (size (n / den) - p) ≡ closest c (2 ^ (size c - p)) * 2 ^ (j + (size c - p))
  whole-many h =
      let k = size c - p in
      let s : size (n / den) ≡ size c + j = ap size whole ∙ size-shl c j (lt_of_lt_of_le P h) in
      let k-is : size (n / den) - p ≡ j + k = omega arith in
      ap (λ (y : ℕ). closest n (den * 2 ^ y) * 2 ^ y) k-is
      ∙ ap (λ (y : ℕ). y * 2 ^ (j + k))
      (closest_same n (den * 2 ^ (j + k)) c (2 ^ k) (mul-pos D (pow_pos (j + k))) (pow_pos k)
      (ap (λ (y : ℕ). y * 2 ^ k) e ∙ simp (pow-add, mul_assoc, mul_comm)))

-- ---- c / 2^J of a unit, J above 0: at least the J digits below a unit are dropped
module _ (p c J n den : ℕ) (D : 0 < den) (e : n * 2 ^ J ≡ c * den) where
  part-significand : (k d : ℕ) → d ≡ k + J → closest n (den * 2 ^ k) ≡ closest c (2 ^ d)
  part-significand k d h =
      closest_same n (den * 2 ^ k) c (2 ^ d) (mul-pos D (pow_pos k)) (pow_pos d)
      (ap (λ (y : ℕ). n * 2 ^ y) h
      ∙ ap (λ (y : ℕ). n * y) (pow-add 2 k J ∙ mul_comm (2 ^ k) (2 ^ J))
      ∙ sym (mul_assoc n (2 ^ J) (2 ^ k))
      ∙ ap (λ (y : ℕ). y * 2 ^ k) e
      ∙ mul_assoc c den (2 ^ k))

  part : closest n (den * 2 ^ (size (n / den) - p)) * 2 ^ (size (n / den) - p) ≡ closest c (2 ^ max (size c - p) J) * 2 ^ (max (size c - p) J - J)
  part =
      let s : size (n / den) ≡ size c - J = ap size (div_same n den c (2 ^ J) D (pow_pos J) e) ∙ size-shr c J in
      let k-is : size (n / den) - p ≡ max (size c - p) J - J = omega arith in
      let back : max (size c - p) J ≡ max (size c - p) J - J + J = omega arith in
      ap (λ (y : ℕ). closest n (den * 2 ^ y) * 2 ^ y) k-is
      ∙ ap (λ (y : ℕ). y * 2 ^ (max (size c - p) J - J)) (part-significand (max (size c - p) J - J) (max (size c - p) J) back)

-- ---- `round`
positive : (f : Format) → 0 < prec f
positive f = lt_of_lt_of_le (pow_pos 0) (le_trans (omega arith) (two f))

delivered-ties : (f : Format) (s : Bool) (c k j : ℕ) → delivered (prec f) (emax f) s (ties_to_even c (2 ^ k)) j ≡ units f s (closest c (2 ^ k)) j
delivered-ties f s c k j = delivered-is f s (ties_to_even c (2 ^ k)) j ∙ ap (λ (x : ℕ). units f s x j) (ties-is c (2 ^ k))

-- num / den is c × 2^z units
pub round-rounded : (f : Format) (s : Bool) (num den c : ℕ) (z : ℤ) → 0 < den → num * 2 ^ low f * down z ≡ c * up z * den
    → round f s num den ≡ rounded (prec f) (emax f) s c z
unfolding rounded
round-rounded f s num den c (pos j) D e =
    let p = prec f in
    let n = num * 2 ^ low f in
    let d = size (n / den) - p in
    let k = size c - p in
    let e' : n ≡ c * 2 ^ j * den = sym (mul-one n) ∙ e in
    round_is f s num den
    ∙ units-same f s (closest n (den * 2 ^ d)) d (closest c (2 ^ k)) (j + k) (kept-fraction p n den) (significand-le p c)
    (⊎_elim (whole-few p c j n den D (positive f) e') (whole-many p c j n den D (positive f) e') (few-or-many (size c) p))
    ∙ sym (delivered-ties f s c k (j + k))
round-rounded f s num den c (negsuc j) D e =
    let p = prec f in
    let n = num * 2 ^ low f in
    let d = size (n / den) - p in
    let k = max (size c - p) (suc j) in
    let e' : n * 2 ^ suc j ≡ c * den = e ∙ ap (λ (x : ℕ). x * den) (mul-one c) in
    round_is f s num den
    ∙ units-same f s (closest n (den * 2 ^ d)) d (closest c (2 ^ k)) (k - suc j) (kept-fraction p n den) (significand-le-max p c (suc j))
    (part p c (suc j) n den D e')
    ∙ sym (delivered-ties f s c k (k - suc j))

-- two ways of writing one value round alike
pub rounded-same : (f : Format) (s : Bool) (c c' : ℕ) (z z' : ℤ) → c * up z * down z' ≡ c' * up z' * down z
    → rounded (prec f) (emax f) s c z ≡ rounded (prec f) (emax f) s c' z'
rounded-same f s c c' z z' e =
    let l = 2 ^ low f in
    let num = c * up z in
    let den = l * down z in
    let D : 0 < den = mul-pos (pow_pos (low f)) (down_pos z) in
    sym (round-rounded f s num den c z D (mul_assoc num l (down z)))
    ∙ round-rounded f s num den c' z' D
    (mul_right_comm num l (down z') ∙ ap (λ (x : ℕ). x * l) e ∙ mul_assoc (c' * up z') (down z) l ∙ ap (λ (x : ℕ). c' * up z' * x) (mul_comm (down z) l))
