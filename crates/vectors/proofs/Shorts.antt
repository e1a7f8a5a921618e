-- A short piece: its lanes wait, and so does their product. Assumes nothing.
use Prim.Native.Nat.{ℕ, zero, suc, ◌+◌, ◌-◌, ◌*◌, ◌/◌, ◌%◌, ◌≤◌}
use mathlib.Core.Path.{◌≡◌, refl, sym, ap, ◌∙◌, subst}
use mathlib.Core.Bool.{Bool, true, false}
use mathlib.Core.List.{List, [], ◌∷◌, ◌++◌, map}
use mathlib.Core.Logic.{◌⊎◌, inl, inr}
use native.Mathlib.Nat.{mul-le-mul_left}
use native.Mathlib.Omega.{arith}
use lib.ListN.{length, get_or, replicate, length-append, length-replicate}
use lib.IntN.{ℤ, pos, ◌+ℤ◌, +ℤ_idl}
use lib.Dec.{T}
use lib.Ieee.{Float, binary64, fits}
use Rattle.floats.specs.Factor.{Factor, unit}
use Rattle.floats.specs.declared.Split.{Split}
use Rattle.floats.specs.Splitting.{rate_factor, split}
use Rattle.floats.specs.InnerKinds.{is_subnormal}
use Rattle.floats.proofs.Overflow.{is_lost}
use Rattle.accumulator.specs.declared.StableProductFloatAcc.{StableProductFloatAcc}
use Rattle.laws.specs.Lists.{Each, none, more}
use Rattle.kernels.specs.Lanes.{feed, in_order, every}
use Rattle.kernels.specs.InnerPlain.{lanes, piece_product}
use Rattle.kernels.specs.Pieces.{GoodRate, acc_of}
use Rattle.kernels.specs.Blocks.{start_lanes, contiguous}
use Rattle.kernels.specs.InnerLanes.{plain_after}
use Rattle.kernels.proofs.Factors.{units-normal}
use Rattle.kernels.proofs.Sizes.{replicate-either}
use Rattle.kernels.proofs.Standing.{represents-acc}
use Rattle.kernels.proofs.Lanewise.{turns, depth, lanes-widen}
use Rattle.kernels.proofs.Blocking.{Value, rates-good, represent-start, contiguous-is}
use Rattle.vectors.specs.InnerWaiting.{one, padded, start_waiting, wait_step, least_of, not_below, not_past, chained}
use Rattle.vectors.specs.declared.vector.Waiting.{Waiting}
use Rattle.vectors.specs.InnerShort.{ShortLeast}
use Rattle.vectors.proofs.Waits.{Waits, waits-more, waits-other, waits-split}
use Rattle.vectors.proofs.Waiting.{LostLane, Out, past-lost}
use Rattle.kernels.proofs.Stepping.{times-in}
use Rattle.vectors.proofs.Chaining.{chain-waits, chain-lost}
use Rattle.vectors.proofs.Guarding.{outcome, outcome-good}
use Rattle.vectors.proofs.Feds.{ones-after, fed-normal}

-- ---- 1.0 is a value
one_value : T (fits binary64 one)
unfolding fits
one_value = tt

pub padded-values : (xs : List Float) (n : ℕ) → Each Value xs → Each Value (xs ++ replicate n one)
padded-values [] zero none = none
padded-values [] (suc n) none = more one_value (padded-values [] n none)
padded-values (x ∷ xs) n (more v vs) = more v (padded-values xs n vs)

front : {P : Float → Type 0} (xs ys : List Float) → Each P (xs ++ ys) → Each P xs
front [] ys e = none
front (x ∷ xs) ys (more p ps) = more p (front xs ys ps)

-- ---- lanes ms of values ys, which lie from 2^-(k + 1) on, in n vectors: those of a piece xs, and 1.0 behind them
module _ (k n : ℕ) (room : 8 * (suc k * n) ≤ 1022) (xs ys : List Float) (v : Each Value xs) (short : length ys ≤ 8 * n)
    (plain : plain_after (replicate 8 (unit 52)) ys ≡ lanes 52 (map rate_factor xs)) (back : Each GoodRate ys → Each GoodRate xs) (ms : List Float) (q : Split)
    (fields : is_subnormal (chained ms) ≡ false → q ≡ split (chained ms)) where
  -- the product, brought back by its fields, is the piece's
  abbrev Brought : Type 0
  Brought = ◌≡◌ {A = StableProductFloatAcc} (record { m = q.m; e = q.e; bad = false }) (contiguous xs)

  abbrev p : Float
  p = chained ms

  no-exponent : (j : ℕ) → get_or start_lanes.e j (pos 0) ≡ pos 0
  no-exponent j = replicate-either (λ (z : ℤ). z ≡ pos 0) 8 j (pos 0) (pos 0) refl refl

  shallow : (j : ℕ) → depth (suc k) (0 + length ys) j ≤ suc k * n
  shallow j = mul-le-mul_left (suc k) (let h = short in let l : turns j (0 + length ys) ≤ n = omega arith in l)

  pub short-lanes : Out (suc k) (0 + length ys) ms start_lanes.e (plain_after (replicate 8 (unit 52)) ys) → Each GoodRate ys ⊎ LostLane ms
      → not_past (chained ms) ≡ true → ◌≡◌ {A = StableProductFloatAcc} (record { m = q.m; e = q.e; bad = false }) (contiguous xs)
  unfolding piece_product
  short-lanes out good m = go out good
    where
      deep : ℕ
      deep = suc k * n * 8

      fs : List Factor
      fs = plain_after (replicate 8 (unit 52)) ys

      lost : is_lost p ≡ true → Brought
      lost e = absurd (past-lost p m e)

      stood : Each GoodRate ys → Waits deep p (pos 0) (piece_product 52 (map rate_factor xs)) → Brought
      stood R W =
          ap (λ (z : Split). record { m = z.m; e = z.e; bad = false }) (fields (waits-other deep p (pos 0) (piece_product 52 (map rate_factor xs)) W))
          ∙ ap (λ (z : ℤ). record { m = (split p).m; e = z; bad = false }) (sym (+ℤ_idl (split p).e))
          ∙ represents-acc (split p).m (pos 0 +ℤ (split p).e) (piece_product 52 (map rate_factor xs))
          (waits-split deep p (pos 0) (piece_product 52 (map rate_factor xs)) W)
          ∙ ap (λ (c : Bool). record { m = (acc_of (piece_product 52 (map rate_factor xs))).m; e = (piece_product 52 (map rate_factor xs)).exp; bad = c })
          (sym (rates-good (back R)))
          ∙ sym (contiguous-is v)

      chained-up : Each GoodRate ys → Waits deep p (pos 0) (in_order (times-in fs) 8 (unit 52)) ⊎ (is_lost p ≡ true) → Brought
      chained-up R (inl W) = stood R (subst (λ (gs : List Factor). Waits deep p (pos 0) (in_order (times-in gs) 8 (unit 52))) plain W)
      chained-up R (inr e) = lost e

      go : Out (suc k) (0 + length ys) ms start_lanes.e fs → Each GoodRate ys ⊎ LostLane ms → Brought
      go (inr l) g = lost (chain-lost ms l)
      go (inl o) (inr l) = lost (chain-lost ms l)
      go (inl o) (inl R) =
          chained-up R
          (chain-waits (suc k * n) room ms fs start_lanes.e no-exponent
          (lanes-widen Waits waits-more (depth (suc k) (0 + length ys)) (λ (j : ℕ). suc k * n) (λ j i. shallow j) o))

-- ---- a piece by the test of its least
module _ (signs : Bool) (k n : ℕ) (few : k ≤ 510) (room : 8 * (suc k * n) ≤ 1022) (xs : List Float) (v : Each Value xs) (short : length xs ≤ 8 * n) (q : Split)
    (fields : is_subnormal (chained (feed (wait_step signs) 0 (start_waiting (replicate 8 one)) (padded xs)).m) ≡ false
    → q ≡ split (chained (feed (wait_step signs) 0 (start_waiting (replicate 8 one)) (padded xs)).m)) where
  padded-long : length (padded xs) ≤ 8 * n
  padded-long = simp (length-append, length-replicate) (omega arith)

  lane_room : suc k * n ≤ 1022
  lane_room = go (suc k * n) room
    where
      go : (m : ℕ) → 8 * m ≤ 1022 → m ≤ 1022
      go m h = omega arith

  fs-is : plain_after (replicate 8 (unit 52)) (padded xs) ≡ lanes 52 (map rate_factor xs)
  unfolding lanes
  fs-is = ones-after (replicate 8 (unit 52)) xs (7 - (length xs + 7) % 8) (fed-normal 0 (replicate 8 (unit 52)) xs (units-normal 52)).at

  pub short-contiguous : every (not_below (least_of signs (suc k))) (feed (wait_step signs) 0 (start_waiting (replicate 8 one)) (padded xs)).least ≡ true
      → not_past (chained (feed (wait_step signs) 0 (start_waiting (replicate 8 one)) (padded xs)).m) ≡ true
      → ◌≡◌ {A = StableProductFloatAcc} (record { m = q.m; e = q.e; bad = false }) (contiguous xs)
  short-contiguous b =
      short-lanes k n room xs (padded xs) v padded-long fs-is (front xs (replicate (7 - (length xs + 7) % 8) one))
      (feed (wait_step signs) 0 (start_waiting (replicate 8 one)) (padded xs)).m q fields
      (outcome signs k n few lane_room start_lanes (start_waiting (replicate 8 one)) (padded xs) values padded-long refl refl b (replicate 8 (unit 52))
      represent-start)
      (outcome-good signs k n few lane_room start_lanes (start_waiting (replicate 8 one)) (padded xs) values padded-long refl refl b refl)
    where
      values : Each Value (padded xs)
      values = padded-values xs (7 - (length xs + 7) % 8) v

-- ---- by the number of values
module _ (signs : Bool) (xs : List Float) (v : Each Value xs) (least : Float) (L : ShortLeast signs (length xs) least) (w : Waiting)
    (waited : w ≡ feed (wait_step signs) 0 (start_waiting (replicate 8 one)) (padded xs)) (q : Split)
    (fields : is_subnormal (chained w.m) ≡ false → q ≡ split (chained w.m)) where
  by-depth : (d : ℕ) → 1 ≤ d → d ≤ 120 → d * ((length xs + 7) / 8) ≤ 120 → every (not_below (least_of signs d)) w.least ≡ true
      → not_past (chained w.m) ≡ true → ◌≡◌ {A = StableProductFloatAcc} (record { m = q.m; e = q.e; bad = false }) (contiguous xs)
  by-depth zero some few room b p = absurd (omega arith)
  by-depth (suc k) some few room b p =
      short-contiguous signs k ((length xs + 7) / 8) (omega arith) (eight (suc k * ((length xs + 7) / 8)) room) xs v (omega arith) q
      (subst (λ (u : Waiting). is_subnormal (chained u.m) ≡ false → q ≡ split (chained u.m)) waited fields)
      (ap (λ (u : Waiting). every (not_below (least_of signs (suc k))) u.least) (sym waited) ∙ b)
      (ap (λ (u : Waiting). not_past (chained u.m)) (sym waited) ∙ p)
    where
      eight : (m : ℕ) → m ≤ 120 → 8 * m ≤ 1022
      eight m h = omega arith

  pub short-product : every (not_below least) w.least ≡ true → not_past (chained w.m) ≡ true
      → ◌≡◌ {A = StableProductFloatAcc} (record { m = q.m; e = q.e; bad = false }) (contiguous xs)
  short-product b p = by-depth L.depth L.some L.few L.room (ap (λ (z : Float). every (not_below z) w.least) (sym L.is) ∙ b) p
