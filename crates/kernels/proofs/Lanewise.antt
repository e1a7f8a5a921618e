-- Eight floats and exponents beside eight factors, by any relation that a wider bound keeps: another bound, one lane set, one value more. Assumes nothing.
use Prim.Native.Nat.{ℕ, suc, ◌+◌, ◌-◌, ◌*◌, ◌/◌, ◌≤◌, ◌<◌}
use mathlib.Core.Path.{◌≡◌, sym, ap, ◌∙◌, subst}
use mathlib.Core.List.{List}
use native.Mathlib.Nat.{le_trans, mul-le-mul_left}
use native.Mathlib.Omega.{arith}
use lib.ListN.{length, get_or, set, length-set}
use lib.Seq.{set-get_or}
use lib.IntN.{ℤ, pos, ◌+ℤ◌, +ℤ_idr}
use lib.Ieee.{Float, nan}
use Rattle.floats.specs.Factor.{Factor, unit}
use Rattle.kernels.specs.Lanes.{lane_of}
use Rattle.kernels.specs.InnerLanes.{LanesAre}
use Rattle.kernels.proofs.Factors.{lane-lt, set_cases}

-- ---- how far a lane can be from its place
-- how many of the first i values went to lane k
abbrev pub turns : ℕ → ℕ → ℕ
turns k i = (i + 7 - k) / 8

-- each of them widened it by c
abbrev pub depth : ℕ → ℕ → ℕ → ℕ
depth c i k = c * turns k i

module _ (c : ℕ) where
  times-next : (n : ℕ) → c * n + c ≡ c * suc n
  times-next n = omega arith

  pub turn-room : (i : ℕ) → depth c i (lane_of i) + c ≡ depth c (suc i) (lane_of i)
  turn-room i = times-next (turns (lane_of i) i) ∙ ap (λ (n : ℕ). c * n) (let e : suc (turns (lane_of i) i) ≡ turns (lane_of i) (suc i) = omega arith in e)

  pub turn-other : (i k : ℕ) → depth c i k ≤ depth c (suc i) k
  turn-other i k = mul-le-mul_left c (let l : turns k i ≤ turns k (suc i) = omega arith in l)

  -- n values of each lane stay within n times c
  pub turn_small : (n i : ℕ) → c * n ≤ 1022 → i < 8 * n → depth c i (lane_of i) + c ≤ 1022
  turn_small n i h l =
      subst (λ (m : ℕ). m ≤ 1022) (sym (times-next (turns (lane_of i) i)))
      (le_trans (mul-le-mul_left c (let k : suc (turns (lane_of i) i) ≤ n = omega arith in k)) h)

-- ---- eight lanes
pub lanes-map : (R R' : ℕ → Float → ℤ → Factor → Type 0) (b b' : ℕ → ℕ) {ms : List Float} {es : List ℤ} {fs : List Factor}
    → ((k : ℕ) → k < 8 → (m : Float) (e : ℤ) (f : Factor) → R (b k) m e f → R' (b' k) m e f) → LanesAre R b ms es fs → LanesAre R' b' ms es fs
lanes-map R R' b b' {ms} {es} {fs} g h = record {
  m_long = h.m_long;
  e_long = h.e_long;
  f_long = h.f_long;
  at = λ k i. g k i (get_or ms k nan) (get_or es k (pos 0)) (get_or fs k (unit 52)) (h.at k i);
}

module _ (R : ℕ → Float → ℤ → Factor → Type 0) (widen : (n l : ℕ) (m : Float) (e : ℤ) (f : Factor) → n ≤ l → R n m e f → R l m e f) where
  pub lanes-widen : (b b' : ℕ → ℕ) {ms : List Float} {es : List ℤ} {fs : List Factor} → ((k : ℕ) → k < 8 → b k ≤ b' k) → LanesAre R b ms es fs
      → LanesAre R b' ms es fs
  lanes-widen b b' l = lanes-map R R b b' (λ k i m e f. widen (b k) (b' k) m e f (l k i))

  module _ (ms : List Float) (es : List ℤ) (fs : List Factor) where
    -- lane j gets a new m, e and factor
    module _ (b b' : ℕ → ℕ) (j : ℕ) (m' : Float) (e' : ℤ) (g : Factor) (h : LanesAre R b ms es fs) (J : j < 8) (S : R (b' j) m' e' g)
        (l : (k : ℕ) → k < 8 → (k ≡ j → ⊥) → b k ≤ b' k) where
      in-m : j < length ms
      in-m = subst (λ (n : ℕ). j < n) (sym h.m_long) J

      in_e : j < length es
      in_e = subst (λ (n : ℕ). j < n) (sym h.e_long) J

      in_f : j < length fs
      in_f = subst (λ (n : ℕ). j < n) (sym h.f_long) J

      set_at : (k : ℕ) → k < 8 → R (b' k) (get_or (set ms j m') k nan) (get_or (set es j e') k (pos 0)) (get_or (set fs j g) k (unit 52))
      set_at k i =
          set_cases (λ (x : Float). R (b' k) x (get_or (set es j e') k (pos 0)) (get_or (set fs j g) k (unit 52))) ms j k m' nan in-m
          (λ p. set_cases (λ (y : ℤ). R (b' k) m' y (get_or (set fs j g) k (unit 52))) es j k e' (pos 0) in_e
          (λ p'. set_cases (R (b' k) m' e') fs j k g (unit 52) in_f (λ p''. subst (λ (x : ℕ). R (b' x) m' e' g) (sym p) S) (λ n. absurd (n p)))
          (λ n. absurd (n p)))
          (λ n. set_cases (λ (y : ℤ). R (b' k) (get_or ms k nan) y (get_or (set fs j g) k (unit 52))) es j k e' (pos 0) in_e (λ p. absurd (n p))
          (λ n'. set_cases (R (b' k) (get_or ms k nan) (get_or es k (pos 0))) fs j k g (unit 52) in_f (λ p. absurd (n p))
          (λ n''. widen (b k) (b' k) (get_or ms k nan) (get_or es k (pos 0)) (get_or fs k (unit 52)) (l k i n) (h.at k i))))

      lanes-set : LanesAre R b' (set ms j m') (set es j e') (set fs j g)
      lanes-set = record {
        m_long = length-set ms j m' ∙ h.m_long;
        e_long = length-set es j e' ∙ h.e_long;
        f_long = length-set fs j g ∙ h.f_long;
        at = set_at;
      }

    -- value i goes to lane i mod 8, which it widens by c
    pub lanes-turn : (c i : ℕ) (m' : Float) (e' : ℤ) (g : Factor) → LanesAre R (depth c i) ms es fs → R (depth c i (lane_of i) + c) m' e' g
        → LanesAre R (depth c (suc i)) (set ms (lane_of i) m') (set es (lane_of i) e') (set fs (lane_of i) g)
    lanes-turn c i m' e' g h S =
        lanes-set (depth c i) (depth c (suc i)) (lane_of i) m' e' g h (lane-lt i) (subst (λ (n : ℕ). R n m' e' g) (turn-room c i) S) (λ k a n. turn-other c i k)

-- a value with the exponent 0 leaves the exponents as they are
pub exponents-same : (es : List ℤ) (j : ℕ) → set es j (get_or es j (pos 0) +ℤ pos 0) ≡ es
exponents-same es j = ap (set es j) (+ℤ_idr (get_or es j (pos 0))) ∙ set-get_or es j (pos 0)
