-- The tests of a vector: if its least magnitude is not below 2^-(k + 1), no magnitude is, or a value is an infinity or a NaN. Assumes nothing.
use Prim.Native.Nat.{ℕ, zero, suc, ◌<◌}
use mathlib.Core.Path.{◌≡◌, sym, subst}
use mathlib.Core.Bool.{Bool, true, false, not, cond, true≢false}
use mathlib.Core.List.{List, [], ◌∷◌}
use mathlib.Core.Logic.{◌⊎◌, inl, inr}
use native.Mathlib.Omega.{arith}
use lib.ListN.{length, get_or}
use lib.Dec.{lit≤}
use lib.Ieee.{Float, nan, is_nan, lt, eq}
use Rattle.floats.specs.InnerKinds.{is_subnormal, ZERO, is_ordinary}
use Rattle.floats.proofs.Overflow.{is_lost}
use Rattle.floats.proofs.Splitting.{high-rate}
use Rattle.floats.proofs.Ordinary.{normal-ordinary, zero-ordinary}
use Rattle.laws.proofs.Tests.{and_both}
use Rattle.kernels.specs.Lanes.{every}
use Rattle.laws.specs.Lists.{Each, none, more}
use Rattle.kernels.proofs.Feeding.{each_map, each_both}
use Rattle.kernels.proofs.Least.{Reached, least-lesser}
use Rattle.kernels.proofs.Blocking.{Value}
use Rattle.vectors.specs.InnerWaiting.{one, magnitude, magnitude_at, lesser, least_of, not_below, not_past, least_magnitude, not_low, none_low, all_ordinary, below_normal, all_subnormal}
use Rattle.vectors.proofs.Magnitudes.{but, magnitude-nan, magnitude-least, magnitude-subnormal, below-lost}
use Rattle.vectors.proofs.Waiting.{Guarded, every-at, past-lost}

-- a lane's value is an infinity or a NaN
pub record Hit (vector : List Float) : Type 0 where
  pub lane : ℕ
  pub below : lane < 8
  pub lost : is_lost (get_or vector lane nan) ≡ true

abbrev Above : ℕ → Float → Bool
Above k = not_below (least_of false (suc k))

-- y is the least of some magnitudes: if it is not below 2^-(k + 1), Q holds of them or one is a NaN, and if it is a NaN, one is
record Node (k : ℕ) (vector : List Float) (y : Float) (Q : Type 0) : Type 0 where
  low : Above k y ≡ true → Q ⊎ Hit vector
  hid : is_nan y ≡ true → Hit vector

abbrev From : Bool → ℕ → List Float → ℕ → Type 0
From over k vector j = Above k (magnitude_at over vector j) ≡ true

leaf : (over : Bool) (k : ℕ) (vector : List Float) (j : ℕ) → j < 8 → Node k vector (magnitude_at over vector j) (From over k vector j)
unfolding is_nan
leaf over k vector j h = record { low = λ e. inl e; hid = λ e. record { lane = j; below = h; lost = go (but (λ (y : Float). is_nan y ≡ true) over x e) } }
  where
    x : Float
    x = get_or vector j nan

    go : ((eq x ZERO ≡ true) × (false ≡ true)) ⊎ (is_nan (magnitude x) ≡ true) → is_lost x ≡ true
    go (inl z) = absurd (true≢false (sym z.1))
    go (inr n) = magnitude-nan x n

both-nodes : (k : ℕ) (vector : List Float) (x y : Float) (P Q : Type 0) → Node k vector x P → Node k vector y Q → Node k vector (lesser x y) (P × Q)
both-nodes k vector x y P Q A B = record { low = λ e. let r = least-lesser k x y e in join r.1 (B.low r.0); hid = pick (lt x y) }
  where
    pair : P ⊎ Hit vector → Q ⊎ Hit vector → (P × Q) ⊎ Hit vector
    pair (inl p) (inl q) = inl (p, q)
    pair (inl p) (inr h) = inr h
    pair (inr h) q = inr h

    join : (Above k x ≡ true) ⊎ (is_nan x ≡ true) → Q ⊎ Hit vector → (P × Q) ⊎ Hit vector
    join (inl p) q = pair (A.low p) q
    join (inr n) q = inr (A.hid n)

    pick : (b : Bool) → is_nan (cond b x y) ≡ true → Hit vector
    pick true e = A.hid e
    pick false e = B.hid e

eight-of : (R : ℕ → Type 0) → R 0 → R 1 → R 2 → R 3 → R 4 → R 5 → R 6 → R 7 → (k : ℕ) → k < 8 → R k
eight-of R a b c d e f g h zero l = a
eight-of R a b c d e f g h (suc zero) l = b
eight-of R a b c d e f g h (suc (suc zero)) l = c
eight-of R a b c d e f g h (suc (suc (suc zero))) l = d
eight-of R a b c d e f g h (suc (suc (suc (suc zero)))) l = e
eight-of R a b c d e f g h (suc (suc (suc (suc (suc zero))))) l = f
eight-of R a b c d e f g h (suc (suc (suc (suc (suc (suc zero)))))) l = g
eight-of R a b c d e f g h (suc (suc (suc (suc (suc (suc (suc zero))))))) l = h
eight-of R a b c d e f g h (suc (suc (suc (suc (suc (suc (suc (suc k)))))))) l = absurd (omega arith)

each_from : (P : Float → Type 0) (l : List Float) → ((k : ℕ) → k < length l → P (get_or l k nan)) → Each P l
each_from P [] f = none
each_from P (x ∷ l) f = more (f 0 (omega arith)) (each_from P l (λ k h. f (suc k) (omega arith)))

-- each magnitude, lane by lane
module _ (over : Bool) (k : ℕ) (vector : List Float) where
  abbrev At : ℕ → Type 0
  At = From over k vector

  abbrev Pairs : Type 0
  Pairs = ((At 0 × At 4) × (At 2 × At 6)) × ((At 1 × At 5) × (At 3 × At 7))

  pairs : (i j : ℕ) → i < 8 → j < 8 → Node k vector (lesser (magnitude_at over vector i) (magnitude_at over vector j)) (At i × At j)
  pairs i j a b = both-nodes k vector (magnitude_at over vector i) (magnitude_at over vector j) (At i) (At j) (leaf over k vector i a) (leaf over k vector j b)

  vector-from : not_below (least_of false (suc k)) (least_magnitude over vector) ≡ true → ((j : ℕ) → j < 8 → At j) ⊎ Hit vector
  unfolding least_magnitude
  vector-from e = go (top.low e)
    where
      top : Node k vector (least_magnitude over vector) Pairs
      top =
          both-nodes k vector _ _ _ _
          (both-nodes k vector _ _ _ _ (pairs 0 4 (omega arith) (omega arith)) (pairs 2 6 (omega arith) (omega arith)))
          (both-nodes k vector _ _ _ _ (pairs 1 5 (omega arith) (omega arith)) (pairs 3 7 (omega arith) (omega arith)))

      go : Pairs ⊎ Hit vector → ((j : ℕ) → j < 8 → At j) ⊎ Hit vector
      go (inr h) = inr h
      go (inl p) = inl (eight-of At p.0.0.0 p.1.0.0 p.0.1.0 p.1.1.0 p.0.0.1 p.1.0.1 p.0.1.1 p.1.1.1)

pub vector-low : (vector : List Float) → length vector ≡ 8 → Each Value vector → not_low vector ≡ true → Each (Guarded 14) vector ⊎ Hit vector
vector-low vector eight v e = go (vector-from false 14 vector e)
  where
    go : ((j : ℕ) → j < 8 → From false 14 vector j) ⊎ Hit vector → Each (Guarded 14) vector ⊎ Hit vector
    go (inr h) = inr h
    go (inl p) =
        inl
        (each_map (λ (x : Float). Value x × (Above 14 (magnitude x) ≡ true)) (Guarded 14)
        (λ x q. record { value = q.0; from = magnitude-least 14 (lit≤ tt) x q.0 q.1 })
        (each_both Value (λ (x : Float). Above 14 (magnitude x) ≡ true) v
        (each_from (λ (x : Float). Above 14 (magnitude x) ≡ true) vector (λ j h. p j (subst (λ (n : ℕ). j < n) eight h)))))

-- ---- whole vectors of one kind, lane by lane
module _ (vector : List Float) (eight : length vector ≡ 8) where
  -- where every value passes a test that a lost one fails, none is lost
  at : (p : Float → Bool) → every p vector ≡ true → (j : ℕ) → j < 8 → p (get_or vector j nan) ≡ true
  at p e j h = every-at p vector j nan (subst (λ (n : ℕ). j < n) (sym eight) h) e

  pub lane-ordinary : all_ordinary vector ≡ true → (j : ℕ) → j < 8 → Value (get_or vector j nan) → is_ordinary (get_or vector j nan) ≡ true
  lane-ordinary e j h v = go (vector-from over 1020 vector b.0)
    where
      over : Bool
      over = not (not_below (least_of false 1074) (least_magnitude false vector))

      b : (none_low vector ≡ true) × (every not_past vector ≡ true)
      b = and_both (none_low vector) (every not_past vector) e

      x : Float
      x = get_or vector j nan

      here : Reached 1020 x → is_ordinary x ≡ true
      here (inl l) = absurd (past-lost x (at not_past b.1 j h) l)
      here (inr q) = normal-ordinary x (high-rate 1020 x (lit≤ tt) q.0 q.1)

      each : ((eq x ZERO ≡ true) × (Above 1020 one ≡ true)) ⊎ (Above 1020 (magnitude x) ≡ true) → is_ordinary x ≡ true
      each (inl z) = zero-ordinary x z.0
      each (inr a) = here (magnitude-least 1020 (lit≤ tt) x v a)

      go : ((i : ℕ) → i < 8 → From over 1020 vector i) ⊎ Hit vector → is_ordinary x ≡ true
      go (inr k) = absurd (past-lost (get_or vector k.lane nan) (at not_past b.1 k.lane k.below) k.lost)
      go (inl p) = each (but (λ (y : Float). Above 1020 y ≡ true) over x (p j h))

  pub lane-subnormal : all_subnormal vector ≡ true → (j : ℕ) → j < 8 → Value (get_or vector j nan) → is_subnormal (get_or vector j nan) ≡ true
  lane-subnormal e j h v = go (vector-from false 1073 vector b.0)
    where
      b : (not_below (least_of false 1074) (least_magnitude false vector) ≡ true) × (every below_normal vector ≡ true)
      b = and_both (not_below (least_of false 1074) (least_magnitude false vector)) (every below_normal vector) e

      go : ((i : ℕ) → i < 8 → From false 1073 vector i) ⊎ Hit vector → is_subnormal (get_or vector j nan) ≡ true
      go (inr k) = absurd (below-lost (get_or vector k.lane nan) (at below_normal b.1 k.lane k.below) k.lost)
      go (inl p) = magnitude-subnormal (get_or vector j nan) v (p j h) (at below_normal b.1 j h)
