-- The plain product over factors, for any width t: its lanes, and that its significands stay in 2^t .. 2^(t + 1) - 1. Assumes nothing.
use Prim.Native.Nat.{ℕ, zero, suc, ◌+◌, ◌<◌}
use mathlib.Core.Path.{◌≡◌, refl, sym, ap, ◌∙◌, subst}
use mathlib.Core.List.{List}
use mathlib.Core.Logic.{◌⊎◌, inl, inr}
use native.Mathlib.Omega.{arith}
use lib.ListN.{length, get_or, set, replicate, length-set, length-replicate, get_or-replicate}
use lib.Seq.{get_or-set_same, get_or-set_other}
use Rattle.floats.specs.Factor.{Factor, Normalised, unit, times}
use Rattle.floats.proofs.Factor.{unit-normal, times-normal}
use Rattle.laws.specs.Lists.{Each}
use Rattle.kernels.specs.Lanes.{lane_of}
use Rattle.kernels.specs.InnerPlain.{lane_times, lanes, piece_product}
use Rattle.kernels.proofs.Feeding.{feed-keeps, order-keeps}

pub lane-lt : (i : ℕ) → lane_of i < 8
lane-lt i = omega arith

pub lane-again : (i : ℕ) → lane_of (i + 8) ≡ lane_of i
lane-again i = omega arith

-- ---- one place of a list: the place that was set, or another
pub set_cases : {A : Type 0} (P : A → Type 0) (l : List A) (j k : ℕ) (a d : A) → j < length l → (k ≡ j → P a) → ((k ≡ j → ⊥) → P (get_or l k d))
    → P (get_or (set l j a) k d)
set_cases P l j k a d h same other = go (compare k j)
  where
    compare : (x y : ℕ) → (x ≡ y) ⊎ (x ≡ y → ⊥)
    compare zero zero = inl refl
    compare zero (suc y) = inr (λ e. omega arith)
    compare (suc x) zero = inr (λ e. omega arith)
    compare (suc x) (suc y) = next (compare x y)
      where
        next : (x ≡ y) ⊎ (x ≡ y → ⊥) → (suc x ≡ suc y) ⊎ (suc x ≡ suc y → ⊥)
        next (inl e) = inl (ap suc e)
        next (inr n) = inr (λ e. n (omega arith))

    go : (k ≡ j) ⊎ (k ≡ j → ⊥) → P (get_or (set l j a) k d)
    go (inl e) = subst P (sym (ap (λ (x : ℕ). get_or (set l j a) x d) e ∙ get_or-set_same l j a d h)) (same e)
    go (inr n) = subst P (sym (get_or-set_other l j k a d n)) (other n)

-- ---- normal lanes
module _ (t : ℕ) where
  pub record NormalLanes (fs : List Factor) : Type 0 where
    pub long : length fs ≡ 8
    pub at : (k : ℕ) → k < 8 → Normalised t (get_or fs k (unit t))

  pub units-normal : NormalLanes (replicate 8 (unit t))
  units-normal = record { long = length-replicate 8 (unit t); at = λ k h. subst (Normalised t) (sym (get_or-replicate 8 k (unit t) (unit t) h)) (unit-normal t) }

  pub lane-normal : (i : ℕ) (fs : List Factor) (f : Factor) → Normalised t f → NormalLanes fs → NormalLanes (lane_times t i fs f)
  lane-normal i fs f F N = record {
    long = length-set fs (lane_of i) (times t (get_or fs (lane_of i) (unit t)) f) ∙ N.long;
    at = λ k h.
        set_cases (Normalised t) fs (lane_of i) k (times t (get_or fs (lane_of i) (unit t)) f) (unit t)
        (subst (λ (n : ℕ). lane_of i < n) (sym N.long) (lane-lt i)) (λ e. times-normal t (get_or fs (lane_of i) (unit t)) f (N.at (lane_of i) (lane-lt i)) F)
        (λ n. N.at k h);
  }

  pub lanes-normal : {fs : List Factor} → Each (Normalised t) fs → NormalLanes (lanes t fs)
  unfolding lanes
  lanes-normal {fs} N =
      feed-keeps (lane_times t) (Normalised t) (λ (i : ℕ). NormalLanes) (length fs) (λ i s x h. lane-normal i s x) 0 (replicate 8 (unit t)) N
      (omega arith) units-normal

  pub piece-normal : {fs : List Factor} → Each (Normalised t) fs → Normalised t (piece_product t fs)
  unfolding piece_product
  piece-normal {fs} N =
      order-keeps (λ (k : ℕ) (p : Factor). times t p (get_or (lanes t fs) k (unit t))) (λ (k : ℕ). Normalised t) 8
      (λ k p h P. times-normal t p (get_or (lanes t fs) k (unit t)) P ((lanes-normal N).at k h)) (unit t) (unit-normal t)

  pub times-again : (i : ℕ) (fs : List Factor) (f : Factor) → lane_times t (i + 8) fs f ≡ lane_times t i fs f
  times-again i fs f = ap (λ (k : ℕ). set fs k (times t (get_or fs k (unit t)) f)) (lane-again i)
