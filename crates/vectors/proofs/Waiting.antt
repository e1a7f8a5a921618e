-- Lanes that wait: after values that are split, or that passed the test of the least, every lane waits for its factor, or one is lost: an infinity or a NaN,
-- which it stays. Over the bound 2^-(k + 1) and the number n of values to a lane: (k + 1) × n at most 1022. Assumes nothing.
use Prim.Native.Nat.{ℕ, zero, suc, ◌+◌, ◌*◌, ◌≤◌, ◌<◌}
use mathlib.Core.Path.{◌≡◌, refl, sym, ap, ◌∙◌, subst}
use mathlib.Core.Bool.{Bool, true, false, cond, ◌&&◌, true≢false}
use mathlib.Core.List.{List, [], ◌∷◌, map}
use mathlib.Core.Logic.{◌⊎◌, inl, inr}
use native.Mathlib.Omega.{arith}
use lib.ListN.{length, get_or, set, length-set}
use lib.IntN.{ℤ, pos, ◌+ℤ◌}
use lib.Dec.{T}
use lib.Ieee.{Float, nan, inf, fin, binary64, fits, is_nan, le, neg}
use Rattle.laws.proofs.Tests.{and_both}
use Rattle.floats.specs.Product.{product_of}
use Rattle.floats.specs.Factor.{Factor, unit, times}
use Rattle.floats.specs.Splitting.{rate_factor}
use Rattle.floats.proofs.Overflow.{is_lost, lost-product, lost-factor}
use Rattle.laws.specs.Lists.{Each, none, more}
use Rattle.kernels.specs.Lanes.{feed, lane_of, every}
use Rattle.kernels.specs.InnerPlain.{lane_times}
use Rattle.kernels.specs.Pieces.{GoodRate}
use Rattle.kernels.proofs.Feeding.{feed-holds, feed-related}
use Rattle.kernels.proofs.Factors.{lane-lt, set_cases}
use Rattle.kernels.proofs.Lanewise.{depth, turn_small, lanes-turn, exponents-same}
use Rattle.kernels.proofs.Least.{Reached, least-value, least-lesser}
use Rattle.vectors.specs.declared.vector.Waiting.{Waiting}
use Rattle.vectors.specs.InnerWaiting.{measure, lesser, wait_step, least_of, not_below, not_past}
use Rattle.vectors.proofs.Squares.{square-least, square-nan}
use Rattle.vectors.proofs.Waits.{Waits, WaitLanes, waits-more, waits-times, waits-rate}

-- ---- lost lanes: one is an infinity or a NaN
pub record LostLane (ms : List Float) : Type 0 where
  pub m_long : length ms ≡ 8
  pub lane : ℕ
  pub below : lane < 8
  pub lost : is_lost (get_or ms lane nan) ≡ true

module _ (ms : List Float) (j : ℕ) (J : j < 8) where
  in-m : length ms ≡ 8 → j < length ms
  in-m l = subst (λ (n : ℕ). j < n) (sym l) J

  pub lost-here : (y : Float) → length ms ≡ 8 → is_lost y ≡ true → LostLane (set ms j y)
  lost-here y l e = record {
    m_long = length-set ms j y ∙ l;
    lane = j;
    below = J;
    lost = set_cases (λ (z : Float). is_lost z ≡ true) ms j j y nan (in-m l) (λ p. e) (λ n. absurd (n refl));
  }

  pub lost-stays : (x : Float) → LostLane ms → LostLane (set ms j (product_of 11 52 (get_or ms j nan) x))
  lost-stays x h =
      let y = product_of 11 52 (get_or ms j nan) x in
      record {
        m_long = length-set ms j y ∙ h.m_long;
        lane = h.lane;
        below = h.below;
        lost = set_cases (λ (z : Float). is_lost z ≡ true) ms j h.lane y nan (in-m h.m_long)
            (λ p. lost-product (get_or ms j nan) x (subst (λ (k : ℕ). is_lost (get_or ms k nan) ≡ true) p h.lost)) (λ n. h.lost);
      }

-- ---- one value, from 2^-(k + 1) on
pub record Guarded (k : ℕ) (x : Float) : Type 0 where
  pub value : T (fits binary64 x)
  pub from : Reached k x

-- a NaN and an infinity are lost; any other is a rate that waits
abbrev Good : ℕ → Float → Type 0
Good k x = GoodRate x × Waits (suc k) x (pos 0) (rate_factor x)

pub nan-lost : (x : Float) → is_nan x ≡ true → is_lost x ≡ true
unfolding is_nan
nan-lost nan h = refl
nan-lost (inf s) h = refl
nan-lost (fin s m e) h = absurd (true≢false (sym h))

guard-cases : (k : ℕ) → k ≤ 510 → (x : Float) → Guarded k x → Good k x ⊎ (is_lost x ≡ true)
guard-cases k few x g = go g.from
  where
    go : Reached k x → Good k x ⊎ (is_lost x ≡ true)
    go (inl e) = inr e
    go (inr p) = inl (record { value = g.value; good = p.0 }, waits-rate k x (omega arith) g.value p.0 p.1)

-- by a measure that is not below the least, or a NaN
measured : (signs : Bool) (k : ℕ) → k ≤ 510 → (x : Float) → T (fits binary64 x)
    → (not_below (least_of signs (suc k)) (measure signs x) ≡ true) ⊎ (is_nan (measure signs x) ≡ true) → Reached k x
measured true k few x v (inl h) = square-least k few x v h
measured true k few x v (inr h) = inl (square-nan x h)
measured false k few x v (inl h) = least-value k (omega arith) x v h
measured false k few x v (inr h) = inl (nan-lost x h)

-- the lanes after i values
abbrev pub Out : ℕ → ℕ → List Float → List ℤ → List Factor → Type 0
Out c i ms es fs = WaitLanes (depth c i) ms es fs ⊎ LostLane ms

-- ---- values of which each widens its lane by c at most, n to a lane
module _ (c n : ℕ) (room : c * n ≤ 1022) where
  -- a value y with an exponent d that wait for a factor g: lane i mod 8 then waits for its product with g, or is lost
  pub value_out : (i : ℕ) (ms : List Float) (es : List ℤ) (fs : List Factor) (y : Float) (d : ℤ) (g : Factor) → i < 8 * n → Waits c y d g
      → WaitLanes (depth c i) ms es fs
      → Out c (suc i) (set ms (lane_of i) (product_of 11 52 (get_or ms (lane_of i) nan) y)) (set es (lane_of i) (get_or es (lane_of i) (pos 0) +ℤ d))
      (lane_times 52 i fs g)
  value_out i ms es fs y d g l G h =
      go
      (waits-times (depth c i j) c (get_or ms j nan) y (get_or es j (pos 0)) d (get_or fs j (unit 52)) g (h.at j (lane-lt i)) G (turn_small c n i room l))
    where
      j : ℕ
      j = lane_of i

      p : Float
      p = product_of 11 52 (get_or ms j nan) y

      f : Factor
      f = times 52 (get_or fs j (unit 52)) g

      go : Waits (depth c i j + c) p (get_or es j (pos 0) +ℤ d) f ⊎ (is_lost p ≡ true)
          → Out c (suc i) (set ms j p) (set es j (get_or es j (pos 0) +ℤ d)) (set fs j f)
      go (inl W) = inl (lanes-turn Waits waits-more ms es fs c i p (get_or es j (pos 0) +ℤ d) f h W)
      go (inr e) = inr (lost-here ms j (lane-lt i) p h.m_long e)

-- ---- a step that multiplies value i, as it is, into lane i mod 8
module _ {S : Type 0} (step : ℕ → S → Float → S) (m : S → List Float) (e : S → List ℤ)
    (m_is : (i : ℕ) (s : S) (x : Float) → m (step i s x) ≡ set (m s) (lane_of i) (product_of 11 52 (get_or (m s) (lane_of i) nan) x))
    (e_is : (i : ℕ) (s : S) (x : Float) → e (step i s x) ≡ e s) where
  step-long : (i : ℕ) (s : S) (x : Float) → length (m s) ≡ 8 → length (m (step i s x)) ≡ 8
  step-long i s x l = ap length (m_is i s x) ∙ length-set (m s) (lane_of i) (product_of 11 52 (get_or (m s) (lane_of i) nan) x) ∙ l

  step-lost : (i : ℕ) (s : S) (x : Float) → LostLane (m s) → LostLane (m (step i s x))
  step-lost i s x h = subst LostLane (sym (m_is i s x)) (lost-stays (m s) (lane_of i) (lane-lt i) x h)

  -- a value that is lost takes its lane with it
  value-lost : (i : ℕ) (s : S) (x : Float) → length (m s) ≡ 8 → is_lost x ≡ true → LostLane (m (step i s x))
  value-lost i s x l h = subst LostLane (sym (m_is i s x)) (lost-here (m s) (lane_of i) (lane-lt i) _ l (lost-factor (get_or (m s) (lane_of i) nan) x h))

  pub fed-lost : (i : ℕ) (s : S) (xs : List Float) → LostLane (m s) → LostLane (m (feed step i s xs))
  fed-lost = feed-holds step (λ (s : S). LostLane (m s)) step-lost

  pub hit-lost : (i : ℕ) (s : S) (xs : List Float) (k : ℕ) → length (m s) ≡ 8 → k < length xs → is_lost (get_or xs k nan) ≡ true → LostLane (m (feed step i s xs))
  unfolding feed
  hit-lost i s [] k l h b = absurd (omega arith)
  hit-lost i s (x ∷ xs) zero l h b = fed-lost (suc i) (step i s x) xs (value-lost i s x l b)
  hit-lost i s (x ∷ xs) (suc k) l h b = hit-lost (suc i) (step i s x) xs k (step-long i s x l) (omega arith) b

  -- ---- values from 2^-(k + 1) on, n to a lane
  module _ (k n : ℕ) (few : k ≤ 510) (room : suc k * n ≤ 1022) where
    -- no value is bad, or a lane is lost
    pub fed-good : (i : ℕ) (s : S) {xs : List Float} → length (m s) ≡ 8 → Each (Guarded k) xs → Each GoodRate xs ⊎ LostLane (m (feed step i s xs))
    unfolding feed
    fed-good i s l none = inl none
    fed-good i s l (more {x = x} {xs = xs} g gs) = go (guard-cases k few x g) (fed-good (suc i) (step i s x) (step-long i s x l) gs)
      where
        go : Good k x ⊎ (is_lost x ≡ true) → Each GoodRate xs ⊎ LostLane (m (feed step (suc i) (step i s x) xs))
            → Each GoodRate (x ∷ xs) ⊎ LostLane (m (feed step (suc i) (step i s x) xs))
        go (inl p) (inl r) = inl (more p.0 r)
        go (inl p) (inr r) = inr r
        go (inr b) r = inr (fed-lost (suc i) (step i s x) xs (value-lost i s x l b))

    step-out : (i : ℕ) (s : S) (fs : List Factor) (x : Float) → i < 8 * n → Guarded k x → Out (suc k) i (m s) (e s) fs
        → Out (suc k) (suc i) (m (step i s x)) (e (step i s x)) (lane_times 52 i fs (rate_factor x))
    step-out i s fs x l g (inr p) = inr (step-lost i s x p)
    step-out i s fs x l g (inl h) = go (guard-cases k few x g)
      where
        go : Good k x ⊎ (is_lost x ≡ true) → Out (suc k) (suc i) (m (step i s x)) (e (step i s x)) (lane_times 52 i fs (rate_factor x))
        go (inr b) = inr (value-lost i s x h.m_long b)
        go (inl p) =
            subst (λ (es : List ℤ). Out (suc k) (suc i) (m (step i s x)) es (lane_times 52 i fs (rate_factor x))) (sym (e_is i s x))
            (subst (λ (ms : List Float). Out (suc k) (suc i) ms (e s) (lane_times 52 i fs (rate_factor x))) (sym (m_is i s x))
            (subst
            (λ (es : List ℤ). Out (suc k) (suc i) (set (m s) (lane_of i) (product_of 11 52 (get_or (m s) (lane_of i) nan) x)) es (lane_times 52 i fs (rate_factor x)))
            (exponents-same (e s) (lane_of i)) (value_out (suc k) n room i (m s) (e s) fs x (pos 0) (rate_factor x) l p.1 h)))

    pub fed-out : (i : ℕ) (s : S) (fs : List Factor) {xs : List Float} → Each (Guarded k) xs → i + length xs ≤ 8 * n → Out (suc k) i (m s) (e s) fs
        → Out (suc k) (i + length xs) (m (feed step i s xs)) (e (feed step i s xs)) (feed (lane_times 52) i fs (map rate_factor xs))
    fed-out = feed-related step (lane_times 52) rate_factor (Guarded k) (λ (i : ℕ) (s : S). Out (suc k) i (m s) (e s)) (8 * n) step-out

-- ---- the tests
every_set : {A : Type 0} (p : A → Bool) (l : List A) (k : ℕ) (y d : A) → k < length l → every p (set l k y) ≡ true
    → (p y ≡ true) × (p (get_or l k d) ≡ true → every p l ≡ true)
unfolding every
every_set p [] k y d h e = absurd (omega arith)
every_set p (x ∷ l) zero y d h e = let b = and_both (p y) (every p l) e in (b.0, λ q. ap (λ (t : Bool). t && every p l) q ∙ b.1)
every_set p (x ∷ l) (suc k) y d h e =
    let b = and_both (p x) (every p (set l k y)) e in
    let r = every_set p l k y d (omega arith) b.1 in
    (r.0, λ q. ap (λ (t : Bool). t && every p l) b.0 ∙ r.1 q)

pub every-at : {A : Type 0} (p : A → Bool) (l : List A) (k : ℕ) (d : A) → k < length l → every p l ≡ true → p (get_or l k d) ≡ true
unfolding every
every-at p [] k d h e = absurd (omega arith)
every-at p (x ∷ l) zero d h e = (and_both (p x) (every p l) e).0
every-at p (x ∷ l) (suc k) d h e = every-at p l k d (omega arith) (and_both (p x) (every p l) e).1

-- if no lane's least is below the bound at the end, each measure passed, and none was below at the start
pub guards : (signs : Bool) (k : ℕ) → k ≤ 510 → (i : ℕ) (w : Waiting) {xs : List Float} → Each (λ (x : Float). T (fits binary64 x)) xs → length w.least ≡ 8
    → every (not_below (least_of signs (suc k))) (feed (wait_step signs) i w xs).least ≡ true
    → (every (not_below (least_of signs (suc k))) w.least ≡ true) × Each (Guarded k) xs
unfolding feed wait_step
guards signs k few i w none h e = (e, none)
guards signs k few i w (more {x = x} {xs = xs} v vs) h e =
    let j = lane_of i in
    let a = get_or w.least j nan in
    let y = lesser (measure signs x) a in
    let r = guards signs k few (suc i) (wait_step signs i w x) vs (length-set w.least j y ∙ h) e in
    let s = every_set (not_below (least_of signs (suc k))) w.least j y nan (subst (λ (n : ℕ). j < n) (sym h) (lane-lt i)) r.0 in
    let b = least-lesser (cond signs (k + k) k) (measure signs x) a s.0 in
    (s.1 b.0, more (record { value = v; from = measured signs k few x v b.1 }) r.1)

-- what is not past 2^1000 is a number
pub past-lost : (x : Float) → not_past x ≡ true → is_lost x ≡ true → ⊥
unfolding le neg
past-lost nan h e = true≢false (sym h)
past-lost (inf true) h e = true≢false (sym h)
past-lost (inf false) h e = true≢false (sym h)
past-lost (fin s m d) h e = true≢false (sym e)

pub none-lost : (ms : List Float) → every not_past ms ≡ true → LostLane ms → ⊥
none-lost ms p k =
    past-lost (get_or ms k.lane nan) (every-at not_past ms k.lane nan (subst (λ (n : ℕ). k.lane < n) (sym k.m_long) k.below) p) k.lost
