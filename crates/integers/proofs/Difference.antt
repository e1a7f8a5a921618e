-- A way to linear goals over ℤ. `omega` reads ℕ alone, so a goal over ℤ is turned into one over ℕ: every integer is the difference of two naturals, sums and
-- products of differences are differences, and an order of differences is an order of sums.
--     simp ints (simp atoms (omega arith))
-- proves a goal `h → .. → g` in which each of h and g is an equation, an order or a fit over ℤ. `ints` marks each side and pushes the marks down to the atoms,
-- `atoms` opens each atom as its positive less its negative part. Assumes nothing.
use Prim.Native.Nat.{ℕ, zero, suc, ◌+◌, ◌*◌, ◌-◌, ◌^◌, ◌≤◌, ◌<◌}
use mathlib.Core.Path.{◌≡◌, refl, sym, ◌∙◌, ap, subst}
use mathlib.Core.Bool.{Bool, true, false, not}
use mathlib.Core.Logic.{◌↔◌}
use native.Mathlib.Omega.{arith}
use native.Mathlib.Decide.{dec_le}
use native.Mathlib.Nat.{le_antisymm}
use lib.Dec.{T, ltb, leb}
use lib.IntN.{ℤ, pos, negsuc, sub_ℕ, neg_ℤ, ◌+ℤ◌, ◌*ℤ◌}
use lib.Signed.{le_z, lt_z, mag, ◌≤ℤ◌, ◌<ℤ◌}
use mir.Val.{SFits}
use mir.Syntax.{w64}
use borrow.Author.Tests.{lt-ltb, le-ltb, ltb-true, ltb-false, leb-true, leb-false, le-leb, lt-leb, not-true, not-false}

-- p less n
unfoldable pub diff : ℕ → ℕ → ℤ
diff p n = sub_ℕ p n

pub is-diff : (p n : ℕ) → sub_ℕ p n ≡ diff p n
unfolding diff
is-diff p n = refl

-- the parts of an integer, one of which is 0
unfoldable pub plus : ℤ → ℕ
plus (pos n) = n
plus (negsuc n) = 0

unfoldable pub minus : ℤ → ℕ
minus (pos n) = 0
minus (negsuc n) = suc n

-- what a comparison of two naturals picks
pick : (p n : ℕ) (P : ℤ → Type 0) → (p < n → P (negsuc (n - suc p))) → (n ≤ p → P (pos (p - n))) → P (diff p n)
unfolding diff
pick p n P f g = go (ltb p n) refl
  where
    go : (b : Bool) → ltb p n ≡ b → P (sub_ℕ p n)
    go true e = rw (e, sub_ℕ) (f (ltb-true p n e))
    go false e = rw (e, sub_ℕ) (g (ltb-false p n e))

pub at-pos : (p n a : ℕ) → p ≡ n + a → diff p n ≡ pos a
at-pos p n a e =
    pick p n (λ (z : ℤ). z ≡ pos a) (λ h. absurd (no h)) (λ h. ap pos (it h))
  where
    no : p < n → ⊥
    no h = omega arith

    it : n ≤ p → p - n ≡ a
    it h = omega arith

pub at-neg : (p n a : ℕ) → n ≡ p + suc a → diff p n ≡ negsuc a
at-neg p n a e =
    pick p n (λ (z : ℤ). z ≡ negsuc a) (λ h. ap negsuc (it h)) (λ h. absurd (no h))
  where
    no : n ≤ p → ⊥
    no h = omega arith

    it : p < n → n - suc p ≡ a
    it h = omega arith

pub diff-same : (p n q m : ℕ) → p + m ≡ q + n → diff p n ≡ diff q m
diff-same p n q m e =
    pick p n (λ (z : ℤ). z ≡ diff q m) (λ h. sym (at-neg q m (n - suc p) (down h)))
    (λ h. sym (at-pos q m (p - n) (up h)))
  where
    down : p < n → m ≡ q + suc (n - suc p)
    down h = omega arith

    up : n ≤ p → q ≡ m + (p - n)
    up h = omega arith

-- ---- operations on differences
pub diff-pos : (n : ℕ) → pos n ≡ diff n 0
diff-pos n = sym (at-pos n 0 n (omega arith))

pub diff-negsuc : (n : ℕ) → negsuc n ≡ diff 0 (suc n)
diff-negsuc n = sym (at-neg 0 (suc n) n (omega arith))

pub diff-neg : (p n : ℕ) → neg_ℤ (diff p n) ≡ diff n p
diff-neg p n =
    pick p n (λ (z : ℤ). neg_ℤ z ≡ diff n p) (λ h. sym (at-pos n p (suc (n - suc p)) (omega arith)))
    (λ h. opposite (p - n) (omega arith))
  where
    opposite : (a : ℕ) → p ≡ n + a → neg_ℤ (pos a) ≡ diff n p
    opposite zero e = sym (at-pos n p 0 (omega arith))
    opposite (suc a) e = sym (at-neg n p a (omega arith))

pub diff-neg-pos : (n : ℕ) → neg_ℤ (pos n) ≡ diff 0 n
diff-neg-pos n = ap neg_ℤ (diff-pos n) ∙ diff-neg n 0

pub diff-add : (p n q m : ℕ) → diff p n +ℤ diff q m ≡ diff (p + q) (n + m)
diff-add p n q m =
    pick p n (λ (z : ℤ). z +ℤ diff q m ≡ diff (p + q) (n + m))
    (λ h. pick q m (λ (z : ℤ). negsuc (n - suc p) +ℤ z ≡ diff (p + q) (n + m))
    (λ k. sym (at-neg (p + q) (n + m) (suc (n - suc p + (m - suc q))) (omega arith)))
    (λ k. sub-diff (q - m) (suc (n - suc p)) (omega arith)))
    (λ h. pick q m (λ (z : ℤ). pos (p - n) +ℤ z ≡ diff (p + q) (n + m))
    (λ k. sub-diff (p - n) (suc (m - suc q)) (omega arith))
    (λ k. sym (at-pos (p + q) (n + m) (p - n + (q - m)) (omega arith))))
  where
    sub-diff : (a b : ℕ) → a + (n + m) ≡ p + q + b → sub_ℕ a b ≡ diff (p + q) (n + m)
    sub-diff a b e = is-diff a b ∙ diff-same a b (p + q) (n + m) e

pub diff-mul : (p n q m : ℕ) → diff p n *ℤ diff q m ≡ diff (p * q + n * m) (p * m + n * q)
diff-mul p n q m =
    pick p n (λ (z : ℤ). z *ℤ diff q m ≡ whole)
    (λ h. pick q m (λ (z : ℤ). negsuc (n - suc p) *ℤ z ≡ whole)
    (λ k. sym (at-pos (p * q + n * m) (p * m + n * q) (suc (n - suc p) * suc (m - suc q)) (both p q (n - suc p) (m - suc q) n m (omega arith) (omega arith))))
    (λ k. negated (suc (n - suc p) * (q - m)) (left p m (n - suc p) (q - m) n q (omega arith) (omega arith))))
    (λ h. pick q m (λ (z : ℤ). pos (p - n) *ℤ z ≡ whole)
    (λ k. negated ((p - n) * suc (m - suc q)) (right n q (p - n) (m - suc q) p m (omega arith) (omega arith)))
    (λ k. sym (at-pos (p * q + n * m) (p * m + n * q) ((p - n) * (q - m)) (neither n m (p - n) (q - m) p q (omega arith) (omega arith)))))
  where
    whole : ℤ
    whole = diff (p * q + n * m) (p * m + n * q)

    negated : (a : ℕ) → p * q + n * m + a ≡ p * m + n * q → neg_ℤ (pos a) ≡ whole
    negated a e = diff-neg-pos a ∙ diff-same 0 a (p * q + n * m) (p * m + n * q) (omega arith)

    both : (p q x y n m : ℕ) → n ≡ p + suc x → m ≡ q + suc y → p * q + n * m ≡ p * m + n * q + suc x * suc y
    both p q x y n m e f = rw (e, f) (omega arith)

    left : (p m x y n q : ℕ) → n ≡ p + suc x → q ≡ m + y → p * q + n * m + suc x * y ≡ p * m + n * q
    left p m x y n q e f = rw (e, f) (omega arith)

    right : (n q x y p m : ℕ) → p ≡ n + x → m ≡ q + suc y → p * q + n * m + x * suc y ≡ p * m + n * q
    right n q x y p m e f = rw (e, f) (omega arith)

    neither : (n m x y p q : ℕ) → p ≡ n + x → q ≡ m + y → p * q + n * m ≡ p * m + n * q + x * y
    neither n m x y p q e f = rw (e, f) (omega arith)

-- ---- statements about differences
leb-same : (a b c d : ℕ) → (a ≤ b → c ≤ d) → (c ≤ d → a ≤ b) → leb a b ≡ leb c d
leb-same a b c d f g = go (leb a b) refl
  where
    go : (t : Bool) → leb a b ≡ t → leb a b ≡ leb c d
    go true e = e ∙ sym (le-leb c d (f (leb-true a b e)))
    go false e = e ∙ sym (lt-leb c d (above (leb-false a b e)))
      where
        above : b < a → d < c
        above h = elim (dec_le c d) [ yes k ↦ absurd (clash h (g k)) | no n ↦ not-le n ]
          where
            clash : b < a → a ≤ b → ⊥
            clash x y = omega arith

            not-le : (c ≤ d → ⊥) → d < c
            not-le n = omega arith

diff-le : (p n q m : ℕ) → le_z (diff p n) (diff q m) ≡ leb (p + m) (q + n)
diff-le p n q m =
    pick p n (λ (z : ℤ). le_z z (diff q m) ≡ leb (p + m) (q + n))
    (λ h. pick q m (λ (z : ℤ). le_z (negsuc (n - suc p)) z ≡ leb (p + m) (q + n))
    (λ k. leb-same (m - suc q) (n - suc p) (p + m) (q + n) (omega arith) (omega arith))
    (λ k. sym (le-leb (p + m) (q + n) (omega arith))))
    (λ h. pick q m (λ (z : ℤ). le_z (pos (p - n)) z ≡ leb (p + m) (q + n))
    (λ k. sym (lt-leb (p + m) (q + n) (omega arith)))
    (λ k. leb-same (p - n) (q - m) (p + m) (q + n) (omega arith) (omega arith)))

diff-lt : (p n q m : ℕ) → lt_z (diff p n) (diff q m) ≡ ltb (p + m) (q + n)
diff-lt p n q m =
    pick p n (λ (z : ℤ). lt_z z (diff q m) ≡ ltb (p + m) (q + n))
    (λ h. pick q m (λ (z : ℤ). lt_z (negsuc (n - suc p)) z ≡ ltb (p + m) (q + n))
    (λ k. leb-same (suc (m - suc q)) (n - suc p) (suc (p + m)) (q + n) (omega arith) (omega arith))
    (λ k. sym (lt-ltb (p + m) (q + n) (omega arith))))
    (λ h. pick q m (λ (z : ℤ). lt_z (pos (p - n)) z ≡ ltb (p + m) (q + n))
    (λ k. sym (le-ltb (p + m) (q + n) (omega arith)))
    (λ k. leb-same (suc (p - n)) (q - m) (suc (p + m)) (q + n) (omega arith) (omega arith)))

diff-equal : (p n q m : ℕ) → diff p n ≡ diff q m → p + m ≡ q + n
diff-equal p n q m e = le_antisymm (le_of p n q m e) (le_of q m p n (sym e))
  where
    le_of : (p n q m : ℕ) → diff p n ≡ diff q m → p + m ≤ q + n
    le_of p n q m e =
        leb-true (p + m) (q + n)
        (sym (diff-le p n q m) ∙ ap (λ (z : ℤ). le_z z (diff q m)) e ∙ diff-le q m q m ∙ le-leb (q + m) (q + m) (omega arith))

diff-fits : (p n : ℕ) → SFits w64 (diff p n) ↔ ((n ≤ p + 2 ^ 63) × (p < n + 2 ^ 63))
diff-fits p n = (λ h. into h.sfits, λ h. record { sfits = back h })
  where
    into : mag (diff p n) < 2 ^ 63 → (n ≤ p + 2 ^ 63) × (p < n + 2 ^ 63)
    into = pick p n (λ (z : ℤ). mag z < 2 ^ 63 → (n ≤ p + 2 ^ 63) × (p < n + 2 ^ 63)) (λ h k. omega arith) (λ h k. omega arith)

    back : (n ≤ p + 2 ^ 63) × (p < n + 2 ^ 63) → mag (diff p n) < 2 ^ 63
    back = pick p n (λ (z : ℤ). (n ≤ p + 2 ^ 63) × (p < n + 2 ^ 63) → mag z < 2 ^ 63) (λ h k. omega arith) (λ h k. omega arith)

pub parts : (z : ℤ) → z ≡ diff (plus z) (minus z)
unfolding plus minus
parts (pos n) = diff-pos n
parts (negsuc n) = diff-negsuc n

-- ---- the marks
-- z itself, marked to be opened
unfoldable pub int : ℤ → ℤ
int z = z

unfoldable pub plus_d : ℤ → ℤ → ℤ
plus_d a b = a +ℤ b

unfoldable pub times_d : ℤ → ℤ → ℤ
times_d a b = a *ℤ b

unfoldable pub neg_d : ℤ → ℤ
neg_d a = neg_ℤ a

pub record Same (a b : ℤ) : Type 0 where
  pub same : a ≡ b

pub record Le (a b : ℤ) : Type 0 where
  pub le : le_z a b ≡ true

pub record Lt (a b : ℤ) : Type 0 where
  pub lt : lt_z a b ≡ true

pub record Fit (a : ℤ) : Type 0 where
  pub fit : SFits w64 a

is_true : (b : Bool) → T b → b ≡ true
is_true true t = refl
is_true false t = absurd t

of-true : (b : Bool) → b ≡ true → T b
of-true b e = subst T (sym e) tt

not-le-lt : (a b : ℤ) → not (le_z a b) ≡ lt_z b a
not-le-lt a b =
    ap (λ (x : ℤ). not (le_z x b)) (parts a) ∙ ap (λ (y : ℤ). not (le_z (diff (plus a) (minus a)) y)) (parts b)
    ∙ ap not (diff-le (plus a) (minus a) (plus b) (minus b))
    ∙ not-leb (plus a + minus b) (plus b + minus a)
    ∙ sym (diff-lt (plus b) (minus b) (plus a) (minus a))
    ∙ ap (λ (y : ℤ). lt_z y (diff (plus a) (minus a))) (sym (parts b))
    ∙ ap (λ (x : ℤ). lt_z b x) (sym (parts a))
  where
    not-leb : (m n : ℕ) → not (leb m n) ≡ ltb n m
    not-leb m n = go (leb m n) refl
      where
        go : (t : Bool) → leb m n ≡ t → not (leb m n) ≡ ltb n m
        go true e = ap not e ∙ sym (le-ltb n m (leb-true m n e))
        go false e = ap not e ∙ sym (lt-ltb n m (leb-false m n e))

-- statements, marked
pub same_int : (a b : ℤ) → (a ≡ b) ↔ Same (int a) (int b)
unfolding int
same_int a b = (λ e. record { same = e }, λ e. e.same)

pub le_int : (a b : ℤ) → (a ≤ℤ b) ↔ Le (int a) (int b)
unfolding int
le_int a b = (λ h. record { le = is_true (le_z a b) h.le }, λ h. record { le = of-true (le_z a b) h.le })

pub lt_int : (a b : ℤ) → (a <ℤ b) ↔ Lt (int a) (int b)
unfolding int
lt_int a b = (λ h. record { lt = is_true (lt_z a b) h.lt }, λ h. record { lt = of-true (lt_z a b) h.lt })

pub test-le : (a b : ℤ) → (le_z a b ≡ true) ↔ Le (int a) (int b)
unfolding int
test-le a b = (λ h. record { le = h }, λ h. h.le)

pub test-lt : (a b : ℤ) → (lt_z a b ≡ true) ↔ Lt (int a) (int b)
unfolding int
test-lt a b = (λ h. record { lt = h }, λ h. h.lt)

pub test-not-le : (a b : ℤ) → (le_z a b ≡ false) ↔ Lt (int b) (int a)
unfolding int
test-not-le a b = (λ h. record { lt = sym (not-le-lt a b) ∙ ap not h }, λ h. not-true (le_z a b) (not-le-lt a b ∙ h.lt))

pub test-not-lt : (a b : ℤ) → (lt_z a b ≡ false) ↔ Le (int b) (int a)
unfolding int
test-not-lt a b = (λ h. record { le = not-false (le_z b a) (not-le-lt b a ∙ h) }, λ h. sym (not-le-lt b a) ∙ ap not h.le)

pub fit_int : (a : ℤ) → SFits w64 a ↔ Fit (int a)
unfolding int
fit_int a = (λ h. record { fit = h }, λ h. h.fit)

-- the mark goes down
pub int-add : (a b : ℤ) → int (a +ℤ b) ≡ plus_d (int a) (int b)
unfolding int plus_d
int-add a b = refl

pub int-mul : (a b : ℤ) → int (a *ℤ b) ≡ times_d (int a) (int b)
unfolding int times_d
int-mul a b = refl

pub int-neg : (a : ℤ) → int (neg_ℤ a) ≡ neg_d (int a)
unfolding int neg_d
int-neg a = refl

pub int-pos : (n : ℕ) → int (pos n) ≡ diff n 0
unfolding int
int-pos n = diff-pos n

pub int-negsuc : (n : ℕ) → int (negsuc n) ≡ diff 0 (suc n)
unfolding int
int-negsuc n = diff-negsuc n

pub int-atom : (z : ℤ) → int z ≡ diff (plus z) (minus z)
unfolding int
int-atom z = parts z

-- and differences go up
pub add-up : (p n q m : ℕ) → plus_d (diff p n) (diff q m) ≡ diff (p + q) (n + m)
unfolding plus_d
add-up p n q m = diff-add p n q m

pub mul-up : (p n q m : ℕ) → times_d (diff p n) (diff q m) ≡ diff (p * q + n * m) (p * m + n * q)
unfolding times_d
mul-up p n q m = diff-mul p n q m

pub neg-up : (p n : ℕ) → neg_d (diff p n) ≡ diff n p
unfolding neg_d
neg-up p n = diff-neg p n

pub same_up : (p n q m : ℕ) → Same (diff p n) (diff q m) ↔ (p + m ≡ q + n)
same_up p n q m = (λ h. diff-equal p n q m h.same, λ e. record { same = diff-same p n q m e })

pub le_up : (p n q m : ℕ) → Le (diff p n) (diff q m) ↔ (p + m ≤ q + n)
le_up p n q m =
    (λ h. leb-true (p + m) (q + n) (sym (diff-le p n q m) ∙ h.le), λ h. record { le = diff-le p n q m ∙ le-leb (p + m) (q + n) h })

pub lt_up : (p n q m : ℕ) → Lt (diff p n) (diff q m) ↔ (p + m < q + n)
lt_up p n q m =
    (λ h. ltb-true (p + m) (q + n) (sym (diff-lt p n q m) ∙ h.lt), λ h. record { lt = diff-lt p n q m ∙ lt-ltb (p + m) (q + n) h })

pub fit-up : (p n : ℕ) → Fit (diff p n) ↔ ((n ≤ p + 2 ^ 63) × (p < n + 2 ^ 63))
fit-up p n = (λ h. (diff-fits p n).0 h.fit, λ h. record { fit = (diff-fits p n).1 h })

pub ruleset ints = (same_int, le_int, lt_int, test-le, test-lt, test-not-le, test-not-lt, fit_int, int-add, int-mul, int-neg, int-pos, int-negsuc)

pub ruleset atoms = (int-atom, add-up, mul-up, neg-up, same_up, le_up, lt_up, fit-up)
