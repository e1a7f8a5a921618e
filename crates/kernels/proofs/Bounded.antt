-- The accumulators of pieces stay within their bounds: 1 <= |m| < 2 always, and |e| is at most 1075 for each value and 8 for each piece. So a list of up to
-- 2^40 values, each piece with at least one, joins to |e| <= 2^52.
-- For every input, bad rates too. Assumes nothing.
use Prim.Native.Nat.{ℕ, zero, suc, ◌+◌, ◌*◌, ◌≤◌, ◌<◌, zero-le}
use mathlib.Core.Path.{◌≡◌, refl, sym, ap, ◌∙◌, subst}
use mathlib.Core.Bool.{Bool, true, false, ◌||◌}
use mathlib.Core.List.{List, [], ◌∷◌, map, foldl}
use native.Mathlib.Nat.{add-zero, zero-add, le_refl, le_trans, le_of_eq, add-le-add}
use native.Mathlib.Omega.{arith}
use lib.ListN.{length, get_or, set, take, replicate, length-set, length-replicate, get_or-replicate, length-map, length-append}
use lib.Seq.{take_all}
use lib.IntN.{ℤ, pos, nat_abs}
use lib.Dec.{T, lit<}
use lib.Ieee.{Float, binary64, fits}
use Rattle.floats.specs.Factor.{Factor, Normalised, unit, times}
use Rattle.floats.specs.Magnitude.{in_unit, with_exponent}
use Rattle.floats.specs.Splitting.{rate_factor}
use Rattle.floats.proofs.Factor.{unit-normal, times-normal, times-size}
use Rattle.floats.proofs.Bridge.{float_of-fits}
use Rattle.floats.proofs.Magnitude.{unit-float}
use Rattle.floats.proofs.Splitting.{farthest, rate-normal, rate-size, split-m, split-unit}
use Rattle.accumulator.specs.declared.StableProductFloatAcc.{StableProductFloatAcc}
use Rattle.accumulator.specs.Joining.{identity_acc, combined}
use Rattle.accumulator.proofs.Combining.{combined-bad, combined-good}
use Rattle.accumulator.proofs.Joins.{multiplied-unit, multiplied-fits}
use Rattle.laws.specs.Lists.{Each, none, more}
use Rattle.kernels.specs.Lanes.{feed, lane_of, in_order}
use Rattle.kernels.specs.InnerPlain.{lane_times, lanes, piece_product}
use Rattle.kernels.specs.Stepped.{rate_acc, acc_at, lane_joined, stepped_lanes, lanes_joined, stepped}
use Rattle.kernels.specs.InnerStepped.{Sound}
use Rattle.kernels.specs.Blocks.{contiguous}
use Rattle.kernels.specs.Pieces.{Piece, worked, worked_piece, joined_pieces, rates_of}
use Rattle.kernels.proofs.Feeding.{feed-keeps, order-keeps, each_of}
use Rattle.kernels.proofs.Factors.{lane-lt, set_cases, NormalLanes, units-normal, lane-normal, piece-normal}
use Rattle.kernels.proofs.Sizes.{in_list, rate-acc-size, combined-size}
use Rattle.kernels.proofs.Blocking.{contiguous-is}

-- ---- the sum of eight sizes, and one of them that grows
unfoldable pub total : {A : Type 0} → (A → ℕ) → List A → ℕ
total f [] = 0
total f (x ∷ xs) = f x + total f xs

total-set : {A : Type 0} (f : A → ℕ) (l : List A) (k n : ℕ) (a d : A) → k < length l → f a ≤ f (get_or l k d) + n → total f (set l k a) ≤ total f l + n
unfolding total
total-set f [] k n a d h e = absurd (omega arith)
total-set f (x ∷ l) zero n a d h e = omega arith
total-set f (x ∷ l) (suc k) n a d h e = let z = total-set f l k n a d (omega arith) e in omega arith

total-take : {A : Type 0} (f : A → ℕ) (l : List A) (k : ℕ) (d : A) → k < length l → total f (take (suc k) l) ≡ total f (take k l) + f (get_or l k d)
unfolding total
total-take f [] k d h = absurd (omega arith)
total-take f (x ∷ l) zero d h = omega arith
total-take f (x ∷ l) (suc k) d h = let z = total-take f l k d (omega arith) in omega arith

total-at : {A : Type 0} (f : A → ℕ) (l : List A) (k : ℕ) (d : A) → f (get_or l k d) ≤ f d + total f l
unfolding total
total-at f [] k d = omega arith
total-at f (x ∷ l) zero d = omega arith
total-at f (x ∷ l) (suc k) d = let z = total-at f l k d in omega arith

-- ---- the plain product, over factors of any width: exponents of at most E give at most E + 1 for each rate, and 8
abbrev exp_size : Factor → ℕ
exp_size f = nat_abs f.exp

module _ (t E : ℕ) where
  -- a factor whose exponent is at most E either way
  pub record Short (f : Factor) : Type 0 where
    pub normal : Normalised t f
    pub near : nat_abs f.exp ≤ E

  record Filled (i : ℕ) (fs : List Factor) : Type 0 where
    normal : NormalLanes t fs
    near : total exp_size fs ≤ suc E * i

  filled-start : Filled 0 (replicate 8 (unit t))
  unfolding total
  filled-start = record { normal = units-normal t; near = zero-le }

  lanes-filled-more : (i : ℕ) (fs : List Factor) (f : Factor) → Short f → Filled i fs → Filled (suc i) (lane_times t i fs f)
  lanes-filled-more i fs f F h =
      let g = get_or fs (lane_of i) (unit t) in
      let N = h.normal.at (lane_of i) (lane-lt i) in
      let s : exp_size (times t g f) ≤ exp_size g + suc E = le_trans (times-size t g f N F.normal) (let z = F.near in omega arith) in
      let z = total-set exp_size fs (lane_of i) (suc E) (times t g f) (unit t) (subst (λ (n : ℕ). lane_of i < n) (sym h.normal.long) (lane-lt i)) s in
      record { normal = lane-normal t i fs f F.normal h.normal; near = le_trans z (let w = h.near in omega arith) }

  filled-all : {fs : List Factor} → Each Short fs → Filled (length fs) (lanes t fs)
  unfolding lanes
  filled-all {fs} F =
      subst (λ (n : ℕ). Filled n (feed (lane_times t) 0 (replicate 8 (unit t)) fs)) (zero-add (length fs))
      (feed-keeps (lane_times t) Short Filled (length fs) (λ i s x h. lanes-filled-more i s x) 0 (replicate 8 (unit t)) F (omega arith) filled-start)

  pub lane-size : {fs : List Factor} → Each Short fs → (k : ℕ) → nat_abs (get_or (lanes t fs) k (unit t)).exp ≤ suc E * length fs
  lane-size {fs} F k = let z = total-at exp_size (lanes t fs) k (unit t) in let n = (filled-all F).near in omega arith

  pub plain_size : {fs : List Factor} → Each Short fs → nat_abs (piece_product t fs).exp ≤ suc E * length fs + 8
  unfolding piece_product total
  plain_size {fs} F =
      let h = filled-all F in
      let ls = lanes t fs in
      let r = order-keeps (λ (k : ℕ) (p : Factor). times t p (get_or ls k (unit t)))
      (λ (k : ℕ) (p : Factor). Normalised t p × (exp_size p ≤ total exp_size (take k ls) + k)) 8 (turn h) (unit t) (unit-normal t, zero-le) in
      le_trans r.1
      (subst (λ (l : List Factor). total exp_size l + 8 ≤ suc E * length fs + 8) (sym (take_all 8 ls (le_of_eq h.normal.long)))
      (add-le-add h.near (le_refl 8)))
    where
      turn : Filled (length fs) (lanes t fs) → (k : ℕ) (p : Factor) → k < 8 → Normalised t p × (exp_size p ≤ total exp_size (take k (lanes t fs)) + k)
          → Normalised t (times t p (get_or (lanes t fs) k (unit t)))
          × (exp_size (times t p (get_or (lanes t fs) k (unit t))) ≤ total exp_size (take (suc k) (lanes t fs)) + suc k)
      turn h k p l r =
          let ls = lanes t fs in
          let g = get_or ls k (unit t) in
          let N = h.normal.at k l in
          let s = times-size t p g r.0 N in
          let e = total-take exp_size ls k (unit t) (subst (λ (n : ℕ). k < n) (sym h.normal.long) l) in
          (times-normal t p g r.0 N, le_trans s (let z = r.1 in omega arith))

-- ---- accumulators
pub identity-sound : Sound identity_acc
unfolding in_unit fits
identity-sound = record { value = tt; in_unit = refl }

rate-sound : (x : Float) → Sound (rate_acc x)
unfolding rate_acc
rate-sound x = record {
  value = subst (λ (m : Float). T (fits binary64 m)) (sym (split-m x)) (float_of-fits binary64 11 52 refl refl (with_exponent (rate_factor x) (pos 0)));
  in_unit = split-unit x;
}

pub combined-sound : (a b : StableProductFloatAcc) → Sound a → Sound b → Sound (combined a b)
combined-sound a b A C = go (a.bad || b.bad) refl
  where
    go : (t : Bool) → (a.bad || b.bad) ≡ t → Sound (combined a b)
    go true h = subst Sound (sym (combined-bad a b h)) (record { value = A.value; in_unit = A.in_unit })
    go false h =
        subst Sound (sym (combined-good a b h))
        (record {
          value = multiplied-fits a b A.value C.value A.in_unit C.in_unit;
          in_unit = multiplied-unit a b A.value C.value A.in_unit C.in_unit;
        })

-- ---- stepped lanes
abbrev acc_size : StableProductFloatAcc → ℕ
acc_size a = nat_abs a.e

-- each of eight lanes is sound
record UnitAccs (ls : List StableProductFloatAcc) : Type 0 where
  at : (k : ℕ) → k < 8 → Sound (acc_at ls k)

-- i values are in the lanes ls
record Joined (i : ℕ) (ls : List StableProductFloatAcc) : Type 0 where
  long : length ls ≡ 8
  near : total acc_size ls ≤ suc farthest * i
  sound : UnitAccs ls

joined-start : Joined 0 (replicate 8 identity_acc)
unfolding total
joined-start = record {
  long = length-replicate 8 identity_acc;
  near = zero-le;
  sound = record { at = λ k h. subst Sound (sym (get_or-replicate 8 k identity_acc (acc_at [] 0) h)) identity-sound };
}

joined-more : (i : ℕ) (ls : List StableProductFloatAcc) (x : Float) → Joined i ls → Joined (suc i) (lane_joined i ls x)
unfolding lane_joined
joined-more i ls x h =
    let j = lane_of i in
    let a = combined (acc_at ls j) (rate_acc x) in
    let inside = subst (λ (n : ℕ). j < n) (sym h.long) (lane-lt i) in
    let z = total-set acc_size ls j (suc farthest) a (acc_at [] 0) inside (le_trans (combined-size (acc_at ls j) (rate_acc x)) (let w = rate-acc-size x in omega arith)) in
    record {
      long = length-set ls j a ∙ h.long;
      near = le_trans z (let w = h.near in omega arith);
      sound = record {
        at = λ k l.
            set_cases Sound ls j k a (acc_at [] 0) inside (λ e. combined-sound (acc_at ls j) (rate_acc x) (h.sound.at j (lane-lt i)) (rate-sound x))
            (λ n. h.sound.at k l);
      };
    }

joined-feed : (i : ℕ) (ls : List StableProductFloatAcc) (xs : List Float) → Joined i ls → Joined (i + length xs) (feed lane_joined i ls xs)
unfolding feed
joined-feed i ls [] h = subst (λ (n : ℕ). Joined n ls) (sym (add-zero i)) h
joined-feed i ls (x ∷ xs) h =
    subst (λ (n : ℕ). Joined n (feed lane_joined (suc i) (lane_joined i ls x) xs)) (omega arith)
    (joined-feed (suc i) (lane_joined i ls x) xs (joined-more i ls x h))

-- k lanes joined in order
order-sound : (ls : List StableProductFloatAcc) (k : ℕ) → k ≤ 8 → UnitAccs ls
    → Sound (in_order (λ (k : ℕ) (a : StableProductFloatAcc). combined a (acc_at ls k)) k identity_acc)
order-sound ls k h u =
    order-keeps (λ (k : ℕ) (a : StableProductFloatAcc). combined a (acc_at ls k)) (λ (k : ℕ). Sound) k
    (λ j a l s. combined-sound a (acc_at ls j) s (u.at j (le_trans l h))) identity_acc identity-sound

module _ (xs : List Float) where
  joined-all : Joined (length xs) (stepped_lanes xs)
  unfolding stepped_lanes
  joined-all =
      subst (λ (n : ℕ). Joined n (feed lane_joined 0 (replicate 8 identity_acc) xs)) (omega arith) (joined-feed 0 (replicate 8 identity_acc) xs joined-start)

  pub stepped-sound : Sound (stepped xs)
  unfolding stepped lanes_joined
  stepped-sound = order-sound (stepped_lanes xs) 8 (le_refl 8) joined-all.sound

  pub stepped-size : nat_abs (stepped xs).e ≤ suc farthest * length xs + 8
  unfolding stepped lanes_joined total
  stepped-size =
      let ls = stepped_lanes xs in
      let r = order-keeps (λ (k : ℕ) (a : StableProductFloatAcc). combined a (acc_at ls k))
      (λ (k : ℕ) (a : StableProductFloatAcc). acc_size a ≤ total acc_size (take k ls) + k) 8 (turn) identity_acc zero-le in
      le_trans r
      (subst (λ (l : List StableProductFloatAcc). total acc_size l + 8 ≤ suc farthest * length xs + 8) (sym (take_all 8 ls (le_of_eq joined-all.long)))
      (add-le-add joined-all.near (le_refl 8)))
    where
      turn : (k : ℕ) (a : StableProductFloatAcc) → k < 8 → acc_size a ≤ total acc_size (take k (stepped_lanes xs)) + k
          → acc_size (combined a (acc_at (stepped_lanes xs) k)) ≤ total acc_size (take (suc k) (stepped_lanes xs)) + suc k
      turn k a l r =
          let ls = stepped_lanes xs in
          let e = total-take acc_size ls k (acc_at [] 0) (subst (λ (n : ℕ). k < n) (sym joined-all.long) l) in
          le_trans (combined-size a (acc_at ls k)) (omega arith)

-- ---- blocks of 64
pub rate-short : (x : Float) → Short 52 farthest (rate_factor x)
rate-short x = record { normal = rate-normal x; near = rate-size x }

module _ {xs : List Float} (v : Each (λ (x : Float). T (fits binary64 x)) xs) where
  pub contiguous-size : nat_abs (contiguous xs).e ≤ suc farthest * length xs + 8
  contiguous-size =
      subst (λ (z : ℤ). nat_abs z ≤ suc farthest * length xs + 8) (sym (ap (λ (a : StableProductFloatAcc). a.e) (contiguous-is v)))
      (subst (λ (n : ℕ). nat_abs (piece_product 52 (map rate_factor xs)).exp ≤ suc farthest * n + 8) (length-map xs rate_factor)
      (plain_size 52 farthest (each_of rate_factor (λ (x : Float). T (fits binary64 x)) (Short 52 farthest) (λ x f. rate-short x) v)))

  pub contiguous-sound : Sound (contiguous xs)
  contiguous-sound =
      let p = piece_product 52 (map rate_factor xs) in
      let N = piece-normal 52 (each_of rate_factor (λ (x : Float). T (fits binary64 x)) (Normalised 52) (λ x f. rate-normal x) v) in
      let e = ap (λ (a : StableProductFloatAcc). a.m) (contiguous-is v) in
      record {
        value = subst (λ (m : Float). T (fits binary64 m)) (sym e) (float_of-fits binary64 11 52 refl refl (with_exponent p (pos 0)));
        in_unit = ap in_unit e ∙ unit-float binary64 11 52 refl refl (lit< tt) p N;
      }

-- ---- lists of pieces
abbrev pub ValuePiece : Piece → Type 0
ValuePiece p = Each (λ (x : Float). T (fits binary64 x)) p.rates

pub worked-size : (p : Piece) → ValuePiece p → nat_abs (worked_piece p).e ≤ suc farthest * length p.rates + 8
worked-size p v = go p.in_blocks
  where
    go : (b : Bool) → nat_abs (worked b p.rates).e ≤ suc farthest * length p.rates + 8
    go true = contiguous-size v
    go false = stepped-size p.rates

pub worked-sound : (p : Piece) → ValuePiece p → Sound (worked_piece p)
worked-sound p v = go p.in_blocks
  where
    go : (b : Bool) → Sound (worked b p.rates)
    go true = contiguous-sound v
    go false = stepped-sound p.rates

-- a piece of values, at least one
pub record FullPiece (p : Piece) : Type 0 where
  pub some_rate : 0 < length p.rates
  pub values : ValuePiece p

-- pieces joined to one that is within `in_list` for each of n values
joined-near : (n : ℕ) (a : StableProductFloatAcc) → Sound a → nat_abs a.e ≤ in_list * n → {ps : List Piece} → Each FullPiece ps
    → Sound (foldl combined a (map worked_piece ps)) × (nat_abs (foldl combined a (map worked_piece ps)).e ≤ in_list * (n + length (rates_of ps)))
unfolding rates_of
joined-near n a A h none = (A, le_trans h (omega arith))
joined-near n a A h (more {x = p} {xs = ps} f fs) =
    let b = worked_piece p in
    let k : nat_abs (combined a b).e ≤ in_list * (n + length p.rates) = le_trans (combined-size a b)
    (let z = worked-size p f.values in let y = f.some_rate in omega arith) in
    let r = joined-near (n + length p.rates) (combined a b) (combined-sound a b A (worked-sound p f.values)) k fs in
    (r.0, le_trans r.1 (omega (arith, length-append p.rates (rates_of ps))))

pub joined-within : {ps : List Piece} → Each FullPiece ps → Sound (joined_pieces ps) × (nat_abs (joined_pieces ps).e ≤ in_list * length (rates_of ps))
unfolding joined_pieces rates_of
joined-within none = (identity-sound, zero-le)
joined-within (more {x = p} {xs = ps} f fs) =
    let r = joined-near (length p.rates) (worked_piece p) (worked-sound p f.values)
    (le_trans (worked-size p f.values) (let y = f.some_rate in omega arith)) fs in
    (r.0, le_trans r.1 (omega (arith, length-append p.rates (rates_of ps))))
