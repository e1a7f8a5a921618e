-- Vectors of eight values, one after another: a step that goes by the number mod 8 may begin anew with each vector. Assumes nothing.
use Prim.Native.Nat.{ℕ, suc, ◌+◌, ◌-◌, ◌*◌, ◌/◌, ◌%◌, ◌^◌, ◌≤◌, ◌<◌, min, zero-le}
use mathlib.Core.Path.{◌≡◌, refl, sym, ap, ◌∙◌, subst}
use mathlib.Core.Bool.{Bool}
use mathlib.Core.List.{List, [], ◌∷◌, ◌++◌, append-nil, append_assoc}
use native.Mathlib.Nat.{le_trans, add-le-add}
use native.Mathlib.Omega.{arith}
use lib.ListN.{length, get_or, set, replicate, length-set, length-replicate}
use lib.IntN.{ℤ, pos, nat_abs, ◌+ℤ◌, ◌*ℤ◌}
use lib.Dec.{lit≤}
use lib.Ieee.{Float, nan}
use mir.Val.{SFits, to_z, of_z}
use mir.Syntax.{w64}
use Rattle.floats.specs.declared.Split.{Split}
use Rattle.floats.specs.Product.{product_of}
use Rattle.floats.specs.Splitting.{split}
use Rattle.floats.proofs.Factor.{add-size}
use Rattle.accumulator.specs.declared.StableProductFloatAcc.{StableProductFloatAcc}
use Rattle.accumulator.proofs.Exponents.{exact, sum_fits, sum-exact}
use Rattle.kernels.specs.declared.lanes.Lanes.{Lanes}
use Rattle.kernels.specs.Lanes.{feed, in_order}
use Rattle.kernels.specs.Blocks.{e_of}
use Rattle.kernels.specs.InnerLanes.{SmallLanes}
use Rattle.kernels.specs.InnerStrided.{strided}
use Rattle.kernels.proofs.Factors.{lane-again}
use Rattle.kernels.proofs.Feeding.{feed-holds, feed-vectors, order-keeps}
use Rattle.kernels.proofs.Sizes.{split-size}
use Rattle.kernels.proofs.Striding.{length-strided, strided-append}
use Rattle.vectors.specs.declared.vector.Waiting.{Waiting}
use Rattle.vectors.specs.InnerWaiting.{measure, one, put, vector_of, lesser, wait_step, chained, exponents_of, lanes_product, padded}

-- ---- a vector
-- the values, and 1.0 in the lanes that are left
pub vector-padded : (xs : List Float) → length xs ≤ 8 → vector_of xs ≡ xs ++ replicate (8 - length xs) one
unfolding vector_of feed
vector-padded [] h = refl
vector-padded (a ∷ []) h = refl
vector-padded (a ∷ b ∷ []) h = refl
vector-padded (a ∷ b ∷ c ∷ []) h = refl
vector-padded (a ∷ b ∷ c ∷ d ∷ []) h = refl
vector-padded (a ∷ b ∷ c ∷ d ∷ e ∷ []) h = refl
vector-padded (a ∷ b ∷ c ∷ d ∷ e ∷ f ∷ []) h = refl
vector-padded (a ∷ b ∷ c ∷ d ∷ e ∷ f ∷ g ∷ []) h = refl
vector-padded (a ∷ b ∷ c ∷ d ∷ e ∷ f ∷ g ∷ x ∷ []) h = refl
vector-padded (a ∷ b ∷ c ∷ d ∷ e ∷ f ∷ g ∷ x ∷ y ∷ xs) h = absurd (omega arith)

-- a whole vector
pub vector-full : (xs : List Float) → length xs ≡ 8 → vector_of xs ≡ xs
vector-full xs h = vector-padded xs (omega arith) ∙ ap (λ (n : ℕ). xs ++ replicate n one) (let e : 8 - length xs ≡ 0 = omega arith in e) ∙ append-nil xs

pub vector-whole : (xs : List Float) (s d : ℤ) → vector_of (strided xs s d 8) ≡ strided xs s d 8
vector-whole xs s d = vector-full (strided xs s d 8) (length-strided xs s d 8)

-- eight lanes, whatever is put there
pub vector-long : (xs : List Float) → length (vector_of xs) ≡ 8
unfolding vector_of
vector-long xs =
    feed-holds put (λ (vector : List Float). length vector ≡ 8) (λ k vector x h. length-set vector k x ∙ h) 0 (replicate 8 one) xs (length-replicate 8 one)

-- ---- steps that go by the number mod 8
module _ {S : Type 0} (step : ℕ → S → Float → S) (again : (i : ℕ) (s : S) (x : Float) → step (i + 8) s x ≡ step i s x) (w t u : S) where
  -- more values after i vectors
  pub vectors-then : (xs ys : List Float) (i : ℕ) → length xs ≡ 8 * i → t ≡ feed step 0 w xs → u ≡ feed step 0 t ys → u ≡ feed step 0 w (xs ++ ys)
  vectors-then xs ys i h p q = q ∙ ap (λ (v : S). feed step 0 v ys) p ∙ sym (feed-vectors step again i w xs ys h)

  -- one vector more of values a stride apart
  pub vectors-more : (xs : List Float) (s d : ℤ) (i : ℕ) → t ≡ feed step 0 w (strided xs s d (8 * i))
      → u ≡ feed step 0 t (strided xs (s +ℤ d *ℤ pos (8 * i)) d 8) → u ≡ feed step 0 w (strided xs s d (8 * (i + 1)))
  vectors-more xs s d i p q =
      vectors-then (strided xs s d (8 * i)) (strided xs (s +ℤ d *ℤ pos (8 * i)) d 8) i (length-strided xs s d (8 * i)) p q
      ∙ ap (feed step 0 w) (sym (strided-append xs s d (8 * i) 8) ∙ ap (strided xs s d) (let e : 8 * i + 8 ≡ 8 * (i + 1) = omega arith in e))

-- ---- lanes that wait
pub wait-again : (signs : Bool) (i : ℕ) (w : Waiting) (x : Float) → wait_step signs (i + 8) w x ≡ wait_step signs i w x
unfolding wait_step
wait-again signs i w x =
    ap
    (λ (k : ℕ).
    record { m = set w.m k (product_of 11 52 (get_or w.m k nan) x); least = set w.least k (lesser (measure signs x) (get_or w.least k nan)) })
    (lane-again i)

-- ---- a piece that is vectors and then fewer than eight values
module _ (xs : List Float) (s d : ℤ) (n : ℕ) where
  -- no value is left
  pub vectors-padded : n % 8 ≡ 0 → strided xs s d (8 * (n / 8)) ≡ padded (strided xs s d n)
  vectors-padded h =
      ap (strided xs s d) (let e : 8 * (n / 8) ≡ n = omega arith in e)
      ∙ sym
      (ap (λ (k : ℕ). strided xs s d n ++ replicate k one)
      (ap (λ (k : ℕ). 7 - (k + 7) % 8) (length-strided xs s d n) ∙ (let e : 7 - (n + 7) % 8 ≡ 0 = omega arith in e)) ∙ append-nil (strided xs s d n))

  -- the values that are left are a vector by themselves
  pub rest-padded : (n % 8 ≡ 0 → ⊥) → strided xs s d (8 * (n / 8)) ++ vector_of (strided xs (s +ℤ d *ℤ pos (8 * (n / 8))) d (n % 8)) ≡ padded (strided xs s d n)
  rest-padded h =
      ap (λ (l : List Float). A ++ l) (vector-padded B (rw (length-strided xs (s +ℤ d *ℤ pos (8 * (n / 8))) d (n % 8)) (omega arith)))
      ∙ sym (append_assoc A B (replicate (8 - length B) one))
      ∙ ap (λ (l : List Float). l ++ replicate (8 - length B) one)
      (sym (strided-append xs s d (8 * (n / 8)) (n % 8)) ∙ ap (strided xs s d) (let e : 8 * (n / 8) + n % 8 ≡ n = omega arith in e))
      ∙ ap (λ (k : ℕ). strided xs s d n ++ replicate k one)
      (ap (λ (k : ℕ). 8 - k) (length-strided xs (s +ℤ d *ℤ pos (8 * (n / 8))) d (n % 8))
      ∙ (let e : 8 - n % 8 ≡ 7 - (n + 7) % 8 = omega (arith, h) in e)
      ∙ ap (λ (k : ℕ). 7 - (k + 7) % 8) (sym (length-strided xs s d n)))
    where
      A : List Float
      A = strided xs s d (8 * (n / 8))

      B : List Float
      B = strided xs (s +ℤ d *ℤ pos (8 * (n / 8))) d (n % 8)

-- the next vector, of what is left after i
module _ (xs : List Float) (s d : ℤ) (n i : ℕ) (left : 8 * i < n) where
  abbrev pub after_next : List Float
  after_next = strided xs s d (8 * i) ++ vector_of (strided xs (s +ℤ d *ℤ pos (8 * i)) d (min 8 (n - 8 * i)))

  pub next-whole : 8 * suc i ≤ n → after_next ≡ strided xs s d (8 * suc i)
  next-whole h =
      ap (λ (k : ℕ). strided xs s d (8 * i) ++ vector_of (strided xs (s +ℤ d *ℤ pos (8 * i)) d k)) (let e : min 8 (n - 8 * i) ≡ 8 = omega arith in e)
      ∙ ap (λ (l : List Float). strided xs s d (8 * i) ++ l) (vector-whole xs (s +ℤ d *ℤ pos (8 * i)) d)
      ∙ sym (strided-append xs s d (8 * i) 8)
      ∙ ap (strided xs s d) (let e : 8 * i + 8 ≡ 8 * suc i = omega arith in e)

  pub next_last : n < 8 * suc i → after_next ≡ padded (strided xs s d n)
  next_last h =
      ap (λ (k : ℕ). strided xs s d (8 * i) ++ vector_of (strided xs (s +ℤ d *ℤ pos (8 * i)) d k)) (let e : min 8 (n - 8 * i) ≡ n % 8 = omega arith in e)
      ∙ ap (λ (k : ℕ). strided xs s d (8 * k) ++ vector_of (strided xs (s +ℤ d *ℤ pos (8 * k)) d (n % 8))) (let e : i ≡ n / 8 = omega arith in e)
      ∙ rest-padded xs s d n (not-whole (omega arith))
    where
      not-whole : 0 < n % 8 → n % 8 ≡ 0 → ⊥
      not-whole a z = omega arith

-- ---- the lanes' exponents, added
-- lane k's exponent added
abbrev pub plus : Lanes → ℕ → ℤ → ℤ
plus s k e = e +ℤ e_of s k

module _ (n : ℕ) (s : Lanes) (h : SmallLanes n s) where
  pub some-exponents-size : (k : ℕ) → nat_abs (in_order (plus s) k (pos 0)) ≤ n * k
  some-exponents-size k =
      order-keeps (plus s) (λ (k : ℕ) (z : ℤ). nat_abs z ≤ n * k) k
      (λ j z l r. le_trans (add-size z (e_of s j)) (le_trans (add-le-add r (h.at j)) (omega arith))) (pos 0) zero-le

  pub exponents-size : nat_abs (exponents_of s) ≤ n * 8
  unfolding exponents_of
  exponents-size = some-exponents-size 8

-- y added, on the machine, to what is there
module _ (x y : ℤ) (hx : nat_abs x ≤ 2 ^ 61) (hy : nat_abs y ≤ 2 ^ 61) where
  same : x ≡ to_z w64 (of_z w64 x)
  same = sym (exact x y hx hy x hx)

  pub next-sum-fits : SFits w64 (x +ℤ to_z w64 (of_z w64 y))
  next-sum-fits = subst (λ (v : ℤ). SFits w64 (v +ℤ to_z w64 (of_z w64 y))) (sym same) (sum_fits x y hx hy)

  pub next-sum-exact : to_z w64 (of_z w64 (x +ℤ to_z w64 (of_z w64 y))) ≡ x +ℤ y
  next-sum-exact = ap (λ (v : ℤ). to_z w64 (of_z w64 (v +ℤ to_z w64 (of_z w64 y)))) same ∙ sum-exact x y hx hy

-- ---- the lanes multiplied in order, from what the code has: the exponents z, and p, the split of the product q
module _ (s : Lanes) (h : SmallLanes (2 ^ 56) s) (z : ℤ) (p : Split) (q : Float) (e : z ≡ exponents_of s) (c : q ≡ chained s.m) (d : p ≡ split q) where
  sum-small : nat_abs z ≤ 2 ^ 61
  sum-small = subst (λ (v : ℤ). nat_abs v ≤ 2 ^ 61) (sym e) (le_trans (exponents-size (2 ^ 56) s h) (lit≤ tt))

  split-within : nat_abs p.e ≤ 2 ^ 61
  split-within = subst (λ (r : Split). nat_abs r.e ≤ 2 ^ 61) (sym d) (le_trans (split-size q) (lit≤ tt))

  pub product-fits : SFits w64 (to_z w64 (of_z w64 z) +ℤ to_z w64 (of_z w64 p.e))
  product-fits = sum_fits z p.e sum-small split-within

  pub lanes-product-is : ◌≡◌ {A = StableProductFloatAcc}
      (record { m = p.m; e = to_z w64 (of_z w64 (to_z w64 (of_z w64 z) +ℤ to_z w64 (of_z w64 p.e))); bad = s.bad }) (lanes_product s)
  unfolding lanes_product
  lanes-product-is =
      ap (λ (v : ℤ). record { m = p.m; e = v; bad = s.bad }) (sum-exact z p.e sum-small split-within)
      ∙ ap (λ (v : ℤ). record { m = p.m; e = v +ℤ p.e; bad = s.bad }) e
      ∙ ap (λ (r : Split). record { m = r.m; e = exponents_of s +ℤ r.e; bad = s.bad }) (d ∙ ap split c)
