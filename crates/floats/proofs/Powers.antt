-- Powers of two with a whole exponent: 2^e is the fraction up e / down e, and a sum of exponents multiplies them. Assumes nothing.
use mathlib.Core.Path.{◌≡◌, sym, ap, ◌∙◌}
use mathlib.Core.Bool.{Bool, true, false, not, cond}
use Prim.Native.Nat.{ℕ, suc, ◌-◌, ◌*◌, ◌^◌, ◌≤◌, ◌<◌}
use native.Mathlib.Nat.{mul-one, one-mul, mul_comm, mul_assoc, mul_left_comm, eq_of_mul-eq-mul_right}
use native.Mathlib.Omega.{arith}
use lib.IntN.{ℤ, pos, negsuc, sub_ℕ, ◌+ℤ◌}
use lib.Dec.{T, ltb, ltb→lt, nltb→le}
use lib.Pow.{pow-add}
use lib.Ieee.{up, down}
use lib.Ieee.Fits.{down_pos}

pub up-sub : (a b : ℕ) → up (sub_ℕ a b) * 2 ^ b ≡ 2 ^ a * down (sub_ℕ a b)
up-sub a b = go (ltb a b) (ltb→lt a b) (nltb→le a b)
  where
    go : (t : Bool) → (T t → a < b) → (T (not t) → b ≤ a)
        → up (cond t (negsuc (b - suc a)) (pos (a - b))) * 2 ^ b ≡ 2 ^ a * down (cond t (negsuc (b - suc a)) (pos (a - b)))
    go true h k = one-mul (2 ^ b) ∙ ap (λ (x : ℕ). 2 ^ x) (let l : a < b = h tt in omega arith) ∙ pow-add 2 a (suc (b - suc a))
    go false h k = sym (pow-add 2 (a - b) b) ∙ ap (λ (x : ℕ). 2 ^ x) (let l : b ≤ a = k tt in omega arith) ∙ sym (mul-one (2 ^ a))

pub up-add : (a b : ℤ) → up (a +ℤ b) * (down a * down b) ≡ up a * up b * down (a +ℤ b)
up-add (pos a) (pos b) = ap (λ (x : ℕ). x * (1 * 1)) (pow-add 2 a b)
up-add (pos a) (negsuc b) =
    ap (λ (x : ℕ). up (sub_ℕ a (suc b)) * x) (one-mul (2 ^ suc b)) ∙ up-sub a (suc b) ∙ ap (λ (x : ℕ). x * down (sub_ℕ a (suc b))) (sym (mul-one (2 ^ a)))
up-add (negsuc a) (pos b) =
    ap (λ (x : ℕ). up (sub_ℕ b (suc a)) * x) (mul-one (2 ^ suc a)) ∙ up-sub b (suc a) ∙ ap (λ (x : ℕ). x * down (sub_ℕ b (suc a))) (sym (one-mul (2 ^ b)))
up-add (negsuc a) (negsuc b) = ap (λ (x : ℕ). 1 * x) (sym (pow-add 2 (suc a) (suc b)) ∙ ap (λ (x : ℕ). 2 ^ x) (omega arith))

-- a product of two numbers m × 2^e and n × 2^d, in units of 2^-l
regroup : (m n ue ud de dd ug dg uz dz l : ℕ) → 0 < dg → uz * dg ≡ ug * l * dz → ug * (de * dd) ≡ ue * ud * dg
    → m * ue * (n * ud) * l * dz ≡ m * n * uz * (de * dd)
regroup m n ue ud de dd ug dg uz dz l G one two =
    let a : m * ue * (n * ud) * l * dz * dg ≡ m * n * l * dz * (ue * ud * dg) = simp (mul_assoc, mul_comm, mul_left_comm) in
    let b : m * n * l * dz * (ug * (de * dd)) ≡ m * n * (de * dd) * (ug * l * dz) = simp (mul_assoc, mul_comm, mul_left_comm) in
    let c : m * n * (de * dd) * (uz * dg) ≡ m * n * uz * (de * dd) * dg = simp (mul_assoc, mul_comm, mul_left_comm) in
    eq_of_mul-eq-mul_right dg G (m * ue * (n * ud) * l * dz) (m * n * uz * (de * dd))
    (a ∙ ap (λ (x : ℕ). m * n * l * dz * x) (sym two) ∙ b ∙ ap (λ (x : ℕ). m * n * (de * dd) * x) (sym one) ∙ c)

pub product-units : (m n : ℕ) (e d : ℤ) (l : ℕ) → m * up e * (n * up d) * 2 ^ l * down (e +ℤ d +ℤ pos l) ≡ m * n * up (e +ℤ d +ℤ pos l) * (down e * down d)
product-units m n e d l =
    let g = e +ℤ d in
    let z = g +ℤ pos l in
    regroup m n (up e) (up d) (down e) (down d) (up g) (down g) (up z) (down z) (2 ^ l) (down_pos g)
    (ap (λ (x : ℕ). up z * x) (sym (mul-one (down g))) ∙ up-add g (pos l))
    (up-add e d)
