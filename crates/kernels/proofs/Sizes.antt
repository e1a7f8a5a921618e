-- How far an exponent can be from 0: no sum of exponents of a piece comes near the ends of i64. Assumes nothing.
use Prim.Native.Nat.{ℕ, zero, suc, ◌+◌, ◌≤◌}
use mathlib.Core.Path.{◌≡◌, refl, sym, ap, subst}
use mathlib.Core.Bool.{Bool, true, false, ◌||◌}
use mathlib.Core.List.{List, [], ◌∷◌}
use native.Mathlib.Nat.{le_refl, le_trans, add-le-add}
use native.Mathlib.Omega.{arith}
use lib.ListN.{get_or, set, replicate}
use lib.IntN.{ℤ, pos, nat_abs, ◌+ℤ◌}
use lib.Ieee.{Float}
use Rattle.floats.specs.Product.{product_of}
use Rattle.floats.specs.Magnitude.{two_or_more}
use Rattle.floats.specs.Splitting.{split}
use Rattle.floats.proofs.Splitting.{farthest, rate-size, split-e}
use Rattle.floats.proofs.Factor.{add-size}
use Rattle.accumulator.specs.declared.StableProductFloatAcc.{StableProductFloatAcc}
use Rattle.accumulator.specs.Joining.{combined, multiplied}
use Rattle.accumulator.proofs.Combining.{combined-bad, combined-good, multiplied-two, multiplied-less}
use Rattle.kernels.specs.Stepped.{rate_acc}

-- a place of a list after a store: what was stored, or what was there
pub set-either : {A : Type 0} (P : A → Type 0) (l : List A) (j k : ℕ) (a d : A) → P a → P (get_or l k d) → P (get_or (set l j a) k d)
set-either P [] j k a d p q = q
set-either P (x ∷ l) zero zero a d p q = p
set-either P (x ∷ l) zero (suc k) a d p q = q
set-either P (x ∷ l) (suc j) zero a d p q = q
set-either P (x ∷ l) (suc j) (suc k) a d p q = set-either P l j k a d p q

pub replicate-either : {A : Type 0} (P : A → Type 0) (n k : ℕ) (a d : A) → P a → P d → P (get_or (replicate n a) k d)
replicate-either P zero k a d p q = q
replicate-either P (suc n) zero a d p q = p
replicate-either P (suc n) (suc k) a d p q = replicate-either P n k a d p q

-- ---- exponents, for each value: of a piece, with a carry at each product and the joins of its lanes; and of a list, with each piece's own join
abbrev pub in_piece : ℕ
in_piece = farthest + 9

abbrev pub in_list : ℕ
in_list = farthest + 10

-- ---- a split value's exponent
pub split-size : (x : Float) → nat_abs (split x).e ≤ farthest
split-size x = subst (λ (z : ℤ). nat_abs z ≤ farthest) (sym (split-e x)) (rate-size x)

pub rate-acc-size : (x : Float) → nat_abs (rate_acc x).e ≤ farthest
unfolding rate_acc
rate-acc-size x = split-size x

-- ---- joining adds the exponents, and at most 1
pub combined-size : (a b : StableProductFloatAcc) → nat_abs (combined a b).e ≤ nat_abs a.e + nat_abs b.e + 1
combined-size a b = go (a.bad || b.bad) refl
  where
    sum : nat_abs (a.e +ℤ b.e) ≤ nat_abs a.e + nat_abs b.e
    sum = add-size a.e b.e

    size : (r : StableProductFloatAcc) (n : ℕ) (z : ℤ) → r.e ≡ z → nat_abs z ≤ n → nat_abs r.e ≤ n
    size r n z e h = subst (λ (y : ℤ). nat_abs y ≤ n) (sym e) h

    product : (t : Bool) → two_or_more (product_of 11 52 a.m b.m) ≡ t → nat_abs (multiplied a b).e ≤ nat_abs a.e + nat_abs b.e + 1
    product true h =
        size (multiplied a b) (nat_abs a.e + nat_abs b.e + 1) (a.e +ℤ b.e +ℤ pos 1) (ap (λ (r : StableProductFloatAcc). r.e) (multiplied-two a b h))
        (le_trans (add-size (a.e +ℤ b.e) (pos 1)) (add-le-add sum (le_refl 1)))
    product false h =
        size (multiplied a b) (nat_abs a.e + nat_abs b.e + 1) (a.e +ℤ b.e) (ap (λ (r : StableProductFloatAcc). r.e) (multiplied-less a b h))
        (le_trans sum (omega arith))

    go : (t : Bool) → (a.bad || b.bad) ≡ t → nat_abs (combined a b).e ≤ nat_abs a.e + nat_abs b.e + 1
    go true h = size (combined a b) (nat_abs a.e + nat_abs b.e + 1) a.e (ap (λ (r : StableProductFloatAcc). r.e) (combined-bad a b h)) (omega arith)
    go false h =
        size (combined a b) (nat_abs a.e + nat_abs b.e + 1) (multiplied a b).e (ap (λ (r : StableProductFloatAcc). r.e) (combined-good a b h))
        (product (two_or_more (product_of 11 52 a.m b.m)) refl)
