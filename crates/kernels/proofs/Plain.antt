-- The plain product's own lanes, every eighth rate, are the kernels': lane i mod 8, fed value by value. Assumes nothing.
use Prim.Native.Nat.{ℕ, zero, suc, ◌+◌, ◌%◌, ◌<◌}
use mathlib.Core.Path.{◌≡◌, refl, sym, ap, ◌∙◌}
use mathlib.Core.List.{List, [], ◌∷◌, foldl}
use native.Mathlib.Omega.{arith}
use lib.ListN.{length, get_or, set, replicate, length-set, length-replicate}
use lib.Seq.{get_or-set_same, get_or-set_other}
use Rattle.floats.specs.Factor.{Factor, unit, times}
use Rattle.kernels.specs.Lanes.{feed, lane_of, in_order}
use Rattle.kernels.specs.Plain.{every_eighth, lane_product, plain_piece}
use Rattle.kernels.specs.InnerPlain.{lane_times, lanes, piece_product}

module _ (t : ℕ) where
  -- from value i on, `skip` values come before the next one of lane k
  fed-lane : (i skip k : ℕ) (fs gs : List Factor) → k < 8 → (i + skip) % 8 ≡ k → skip < 8 → length fs ≡ 8
      → get_or (feed (lane_times t) i fs gs) k (unit t) ≡ foldl (times t) (get_or fs k (unit t)) (every_eighth skip gs)
  unfolding feed every_eighth
  fed-lane i skip k fs [] h e s l = refl
  fed-lane i zero k fs (g ∷ gs) h e s l =
      fed-lane (suc i) 7 k (lane_times t i fs g) gs h (omega arith) (omega arith) (length-set fs (lane_of i) _ ∙ l)
      ∙ ap (λ (f : Factor). foldl (times t) f (every_eighth 7 gs)) here
    where
      lane : lane_of i ≡ k
      lane = omega arith

      here : get_or (lane_times t i fs g) k (unit t) ≡ times t (get_or fs k (unit t)) g
      here =
          ap (λ (j : ℕ). get_or (set fs j (times t (get_or fs j (unit t)) g)) k (unit t)) lane
          ∙ get_or-set_same fs k (times t (get_or fs k (unit t)) g) (unit t) (omega (arith, l))
  fed-lane i (suc skip) k fs (g ∷ gs) h e s l =
      fed-lane (suc i) skip k (lane_times t i fs g) gs h (omega arith) (omega arith) (length-set fs (lane_of i) _ ∙ l)
      ∙ ap (λ (f : Factor). foldl (times t) f (every_eighth skip gs))
      (get_or-set_other fs (lane_of i) k (times t (get_or fs (lane_of i) (unit t)) g) (unit t) other)
    where
      other : k ≡ lane_of i → ⊥
      other q = omega arith

  plain_lane : (rates : List Factor) (k : ℕ) → k < 8 → get_or (replicate 8 (unit t)) k (unit t) ≡ unit t → lane_product t rates k ≡ get_or (lanes t rates) k (unit t)
  unfolding lane_product lanes
  plain_lane rates k h u =
      sym
      (fed-lane 0 k k (replicate 8 (unit t)) rates h (omega arith) h (length-replicate 8 (unit t))
      ∙ ap (λ (f : Factor). foldl (times t) f (every_eighth k rates)) u)

  pub plain-piece : (rates : List Factor) → plain_piece t rates ≡ piece_product t rates
  unfolding plain_piece piece_product in_order
  plain-piece rates =
      rw (lane 0 (omega arith) refl, lane 1 (omega arith) refl, lane 2 (omega arith) refl, lane 3 (omega arith) refl)
      (rw (lane 4 (omega arith) refl, lane 5 (omega arith) refl, lane 6 (omega arith) refl, lane 7 (omega arith) refl) refl)
    where
      lane : (k : ℕ) → k < 8 → get_or (replicate 8 (unit t)) k (unit t) ≡ unit t → lane_product t rates k ≡ get_or (lanes t rates) k (unit t)
      lane = plain_lane rates
