-- Stepped lanes: those before the first that met a bad rate are the plain product's, and that one stops the joining; the mark is set exactly if a rate is bad.
-- Assumes nothing.
use Prim.Native.Nat.{ℕ, zero, suc, ◌≤◌, ◌<◌, min}
use mathlib.Core.Path.{◌≡◌, refl, sym, ap, ◌∙◌, subst}
use mathlib.Core.Bool.{Bool, true, false, ◌||◌, or-true, or-false, or_assoc, true≢false}
use mathlib.Core.List.{List, [], ◌∷◌, map}
use native.Mathlib.Nat.{le_refl, le_of_lt, le_of_eq, le_trans}
use native.Mathlib.Omega.{arith}
use lib.ListN.{length, get_or, set, take, replicate, length-set, length-replicate, get_or-replicate}
use lib.Seq.{take-suc, take_all}
use lib.IntN.{pos}
use lib.Dec.{ltb}
use lib.Ieee.{Float, nan}
use borrow.Author.Tests.{ltb-true, ltb-false}
use Rattle.floats.specs.Factor.{Factor, Normalised, unit, times}
use Rattle.floats.specs.Splitting.{is_bad, rate_factor}
use Rattle.floats.proofs.Factor.{unit-normal, times-normal}
use Rattle.floats.proofs.Splitting.{rate-normal}
use Rattle.accumulator.specs.declared.StableProductFloatAcc.{StableProductFloatAcc}
use Rattle.accumulator.specs.Joining.{identity_acc, combined}
use Rattle.accumulator.proofs.Combining.{combined-bad}
use Rattle.laws.specs.Lists.{Each, none, more}
use Rattle.kernels.specs.Lanes.{feed, lane_of, in_order, some}
use Rattle.kernels.specs.InnerPlain.{lane_times, lanes, piece_product}
use Rattle.kernels.specs.Stepped.{rate_acc, acc_at, lane_joined, stepped_lanes, lanes_joined, stepped}
use Rattle.kernels.specs.InnerStepped.{lower, bad_step, first_bad}
use Rattle.kernels.specs.Pieces.{GoodRate, acc_of}
use Rattle.kernels.proofs.Feeding.{order-keeps, each_map, some-append, some_one, some-set}
use Rattle.kernels.proofs.Factors.{lane-lt, set_cases}
use Rattle.kernels.proofs.Joining.{combined-mark, combined-times, identity-is, rate-is, rate-mark}
use Rattle.kernels.proofs.Blocking.{Value}

abbrev no_acc : StableProductFloatAcc
no_acc = record { m = nan; e = pos 0; bad = false }

-- lane k's factor multiplied in
abbrev pub times-in : List Factor → ℕ → Factor → Factor
times-in fs k p = times 52 p (get_or fs k (unit 52))

-- lane j is that of a factor
abbrev GoodLane : List StableProductFloatAcc → List Factor → ℕ → Type 0
GoodLane ls fs j = (acc_at ls j ≡ acc_of (get_or fs j (unit 52))) × Normalised 52 (get_or fs j (unit 52))

-- ---- lanes below k are those of factors, and lane k, if there is one, is bad
record Parted (ls : List StableProductFloatAcc) (fs : List Factor) (k : ℕ) : Type 0 where
  acc_long : length ls ≡ 8
  factor_long : length fs ≡ 8
  few : k ≤ 8
  good : (j : ℕ) → j < k → GoodLane ls fs j
  bad : k < 8 → (acc_at ls k).bad ≡ true

parted-start : Parted (replicate 8 identity_acc) (replicate 8 (unit 52)) 8
parted-start = record {
  acc_long = length-replicate 8 identity_acc;
  factor_long = length-replicate 8 (unit 52);
  few = le_refl 8;
  good = λ j h.
      let e = sym (get_or-replicate 8 j (unit 52) (unit 52) h) in
      (get_or-replicate 8 j identity_acc no_acc h ∙ identity-is ∙ ap acc_of e, subst (Normalised 52) e (unit-normal 52));
  bad = λ h. absurd (omega arith);
}

module _ (i : ℕ) (ls : List StableProductFloatAcc) (fs : List Factor) (k : ℕ) (x : Float) (v : Value x) (P : Parted ls fs k) where
  l : ℕ
  l = lane_of i

  a : StableProductFloatAcc
  a = combined (acc_at ls l) (rate_acc x)

  f : Factor
  f = times 52 (get_or fs l (unit 52)) (rate_factor x)

  in-acc : l < length ls
  unfolding l
  in-acc = subst (λ (n : ℕ). lane_of i < n) (sym P.acc_long) (lane-lt i)

  in-factor : l < length fs
  unfolding l
  in-factor = subst (λ (n : ℕ). lane_of i < n) (sym P.factor_long) (lane-lt i)

  -- another lane than l is as it was
  kept : (j : ℕ) → (j ≡ l → ⊥) → (acc_at (set ls l a) j ≡ acc_at ls j) × (get_or (set fs l f) j (unit 52) ≡ get_or fs j (unit 52))
  kept j n = (
    set_cases (λ (c : StableProductFloatAcc). c ≡ acc_at ls j) ls l j a no_acc in-acc (λ p. absurd (n p)) (λ q. refl),
    set_cases (λ (g : Factor). g ≡ get_or fs j (unit 52)) fs l j f (unit 52) in-factor (λ p. absurd (n p)) (λ q. refl),
  )

  here : (acc_at (set ls l a) l ≡ a) × (get_or (set fs l f) l (unit 52) ≡ f)
  here = (
    set_cases (λ (c : StableProductFloatAcc). c ≡ a) ls l l a no_acc in-acc (λ p. refl) (λ q. absurd (q refl)),
    set_cases (λ (g : Factor). g ≡ f) fs l l f (unit 52) in-factor (λ p. refl) (λ q. absurd (q refl)),
  )

  marked : ((acc_at ls l).bad || is_bad x) ≡ true → (acc_at (set ls l a) l).bad ≡ true
  unfolding a
  marked h =
      ap (λ (c : StableProductFloatAcc). c.bad) here.0
      ∙ combined-mark (acc_at ls l) (rate_acc x)
      ∙ ap (λ (b : Bool). (acc_at ls l).bad || b) (rate-mark x)
      ∙ h

  same : (j : ℕ) → j < k → (j ≡ l → ⊥) → GoodLane (set ls l a) (set fs l f) j
  same j h n =
      let q = kept j n in
      let g = P.good j h in
      (q.0 ∙ g.0 ∙ ap acc_of (sym q.1), subst (Normalised 52) (sym q.1) g.1)

  joined : is_bad x ≡ false → l < k → GoodLane (set ls l a) (set fs l f) l
  unfolding a f
  joined e h =
      let g = P.good l h in
      let w = get_or fs l (unit 52) in (
        here.0
            ∙ ap (λ (c : StableProductFloatAcc). combined c (rate_acc x)) g.0
            ∙ ap (combined (acc_of w)) (rate-is x (record { value = v; good = e }))
            ∙ combined-times w (rate_factor x) g.1 (rate-normal x)
            ∙ ap acc_of (sym here.1),
        subst (Normalised 52) (sym here.1) (times-normal 52 w (rate_factor x) g.1 (rate-normal x)),
      )

  by-lane : (P' : ℕ → Type 0) (j : ℕ) → (j ≡ l → P' l) → ((j ≡ l → ⊥) → P' j) → P' j
  by-lane P' j s n = go (ltb j l) (ltb l j) refl refl
    where
      apart-lt : j < l → j ≡ l → ⊥
      apart-lt h e = omega arith

      apart-gt : l < j → j ≡ l → ⊥
      apart-gt h e = omega arith

      equal : l ≤ j → j ≤ l → j ≡ l
      equal h g = omega arith

      go : (b c : Bool) → ltb j l ≡ b → ltb l j ≡ c → P' j
      go true c p q = n (apart-lt (ltb-true j l p))
      go false true p q = n (apart-gt (ltb-true l j q))
      go false false p q = let e = equal (ltb-false j l p) (ltb-false l j q) in subst P' (sym e) (s e)

  next : (b : Bool) → is_bad x ≡ b → Parted (set ls l a) (set fs l f) (lower k l b)
  next false e = record {
    acc_long = length-set ls l a ∙ P.acc_long;
    factor_long = length-set fs l f ∙ P.factor_long;
    few = P.few;
    good = λ j h. by-lane (GoodLane (set ls l a) (set fs l f)) j (λ p. joined e (subst (λ (m : ℕ). m < k) p h)) (same j h);
    bad = λ h.
        by-lane (λ (m : ℕ). (acc_at (set ls l a) m).bad ≡ true) k
        (λ p. marked (ap (λ (m : ℕ). (acc_at ls m).bad || is_bad x) (sym p) ∙ ap (λ (c : Bool). c || is_bad x) (P.bad h)))
        (λ n. ap (λ (c : StableProductFloatAcc). c.bad) (kept k n).0 ∙ P.bad h);
  }
  next true e = record {
    acc_long = length-set ls l a ∙ P.acc_long;
    factor_long = length-set fs l f ∙ P.factor_long;
    few = le_trans (min-left k l) P.few;
    good = λ j h. same j (omega arith) (λ p. omega arith);
    bad = λ h. go (ltb k l) refl h;
  }
    where
      min-left : (m n : ℕ) → min m n ≤ m
      min-left m n = omega arith

      first : l ≤ k → min k l ≡ l
      first q = omega arith

      second : k < l → min k l ≡ k
      second q = omega arith

      other : k < l → k ≡ l → ⊥
      other q p = omega arith

      go : (c : Bool) → ltb k l ≡ c → min k l < 8 → (acc_at (set ls l a) (min k l)).bad ≡ true
      go true p h =
          let q = ltb-true k l p in
          ap (λ (m : ℕ). (acc_at (set ls l a) m).bad) (second q)
          ∙ ap (λ (c : StableProductFloatAcc). c.bad) (kept k (other q)).0
          ∙ P.bad (subst (λ (m : ℕ). m < 8) (second q) h)
      go false p h =
          ap (λ (m : ℕ). (acc_at (set ls l a) m).bad) (first (ltb-false k l p))
          ∙ marked (ap (λ (b : Bool). (acc_at ls l).bad || b) e ∙ or-true (acc_at ls l).bad)

  parted-more : Parted (lane_joined i ls x) (lane_times 52 i fs (rate_factor x)) (bad_step i k x)
  unfolding lane_joined l a f
  parted-more = next (is_bad x) refl

parted-all : (i : ℕ) (ls : List StableProductFloatAcc) (fs : List Factor) (k : ℕ) {xs : List Float} → Each Value xs → Parted ls fs k
    → Parted (feed lane_joined i ls xs) (feed (lane_times 52) i fs (map rate_factor xs)) (feed bad_step i k xs)
unfolding feed
parted-all i ls fs k none P = P
parted-all i ls fs k (more {x = x} v vs) P =
    parted-all (suc i) (lane_joined i ls x) (lane_times 52 i fs (rate_factor x)) (bad_step i k x) vs (parted-more i ls fs k x v P)

-- ---- joined in lane order: the factors' product before lane k, and its mark alone from there on
abbrev joined_in : List StableProductFloatAcc → ℕ → StableProductFloatAcc → StableProductFloatAcc
joined_in ls n c = combined c (acc_at ls n)

-- the accumulator of a factor, with the mark
abbrev pub marked_of : Factor → StableProductFloatAcc
marked_of f = record { m = (acc_of f).m; e = (acc_of f).e; bad = true }

module _ (ls : List StableProductFloatAcc) (fs : List Factor) (k : ℕ) (P : Parted ls fs k) where
  before : (n : ℕ) → n ≤ k
      → (in_order (joined_in ls) n identity_acc ≡ acc_of (in_order (times-in fs) n (unit 52))) × Normalised 52 (in_order (times-in fs) n (unit 52))
  unfolding in_order
  before zero h = (identity-is, unit-normal 52)
  before (suc n) h =
      let r = before n (le_of_lt h) in
      let g = P.good n h in
      let p = in_order (times-in fs) n (unit 52) in
      let w = get_or fs n (unit 52) in (
        ap (λ (c : StableProductFloatAcc). combined c (acc_at ls n)) r.0 ∙ ap (combined (acc_of p)) g.0 ∙ combined-times p w r.1 g.1,
        times-normal 52 p w r.1 g.1,
      )

  after : k < 8 → (n : ℕ) → k < n → in_order (joined_in ls) n identity_acc ≡ marked_of (in_order (times-in fs) k (unit 52))
  unfolding in_order
  after b zero h = absurd (omega arith)
  after b (suc n) h = go (ltb k n) refl (λ l. after b n l)
    where
      same : n ≤ k → n ≡ k
      same l = omega arith

      stop : n ≡ k → combined (in_order (joined_in ls) n identity_acc) (acc_at ls n) ≡ marked_of (in_order (times-in fs) k (unit 52))
      stop e =
          let c = in_order (joined_in ls) n identity_acc in
          combined-bad c (acc_at ls n) (ap (λ (t : Bool). c.bad || t) (ap (λ (j : ℕ). (acc_at ls j).bad) e ∙ P.bad b) ∙ or-true c.bad)
          ∙ ap (λ (a : StableProductFloatAcc). record { m = a.m; e = a.e; bad = true })
          (ap (λ (j : ℕ). in_order (joined_in ls) j identity_acc) e ∙ (before k (le_refl k)).0)

      go : (t : Bool) → ltb k n ≡ t → (k < n → in_order (joined_in ls) n identity_acc ≡ marked_of (in_order (times-in fs) k (unit 52)))
          → combined (in_order (joined_in ls) n identity_acc) (acc_at ls n) ≡ marked_of (in_order (times-in fs) k (unit 52))
      go true q r =
          ap (λ (a : StableProductFloatAcc). combined a (acc_at ls n)) (r (ltb-true k n q))
          ∙ combined-bad (marked_of (in_order (times-in fs) k (unit 52))) (acc_at ls n) refl
      go false q r = stop (same (ltb-false k n q))

-- ---- the mark
abbrev bad : StableProductFloatAcc → Bool
bad a = a.bad

marks : (i : ℕ) (ls : List StableProductFloatAcc) (xs : List Float) → length ls ≡ 8
    → (length (feed lane_joined i ls xs) ≡ 8) × (some bad (feed lane_joined i ls xs) ≡ (some bad ls || some is_bad xs))
unfolding feed lane_joined some
marks i ls [] h = (h, sym (or-false (some bad ls)))
marks i ls (x ∷ xs) h =
    let j = lane_of i in
    let a = combined (acc_at ls j) (rate_acc x) in
    let r = marks (suc i) (set ls j a) xs (length-set ls j a ∙ h) in (
      r.0,
      r.1
          ∙ ap (λ (b : Bool). b || some is_bad xs)
          (some-set bad ls j no_acc a (is_bad x) (subst (λ (n : ℕ). j < n) (sym h) (lane-lt i))
          (combined-mark (acc_at ls j) (rate_acc x) ∙ ap (λ (b : Bool). (acc_at ls j).bad || b) (rate-mark x)))
          ∙ or_assoc (some bad ls) (is_bad x) (some is_bad xs),
    )

-- lanes joined in order are bad exactly if one of them is
lanes-joined-mark : (ls : List StableProductFloatAcc) → length ls ≡ 8 → (lanes_joined ls).bad ≡ some bad ls
unfolding lanes_joined some
lanes-joined-mark ls h =
    order-keeps (λ (k : ℕ) (a : StableProductFloatAcc). combined a (acc_at ls k)) (λ (k : ℕ) (a : StableProductFloatAcc). a.bad ≡ some bad (take k ls)) 8
    (λ k a l r. turn k a l r) identity_acc start
    ∙ ap (some bad) (take_all 8 ls (le_of_eq h))
  where
    start : identity_acc.bad ≡ some bad (take 0 ls)
    start = refl

    turn : (k : ℕ) (a : StableProductFloatAcc) → k < 8 → a.bad ≡ some bad (take k ls) → (combined a (acc_at ls k)).bad ≡ some bad (take (suc k) ls)
    turn k a l r =
        let b = acc_at ls k in
        combined-mark a b
        ∙ ap (λ (t : Bool). t || b.bad) r
        ∙ sym
        (ap (some bad) (take-suc ls k no_acc (subst (λ (n : ℕ). k < n) (sym h) l))
        ∙ some-append bad (take k ls) (b ∷ [])
        ∙ ap (λ (t : Bool). some bad (take k ls) || t) (some_one bad b))

-- the mark is set exactly if some rate of the piece is bad
pub stepped-mark : (xs : List Float) → (stepped xs).bad ≡ some is_bad xs
unfolding stepped stepped_lanes some
stepped-mark xs =
    let r = marks 0 (replicate 8 identity_acc) xs (length-replicate 8 identity_acc) in
    lanes-joined-mark (feed lane_joined 0 (replicate 8 identity_acc) xs) r.0 ∙ r.1 ∙ ap (λ (b : Bool). b || some is_bad xs) none
  where
    none : some bad (replicate 8 identity_acc) ≡ false
    none = refl

-- ---- a piece
module _ (xs : List Float) (v : Each Value xs) where
  parted : Parted (stepped_lanes xs) (lanes 52 (map rate_factor xs)) (first_bad xs)
  unfolding stepped_lanes lanes first_bad
  parted = parted-all 0 (replicate 8 identity_acc) (replicate 8 (unit 52)) 8 v parted-start

  pub first-few : first_bad xs ≤ 8
  first-few = parted.few

  pub joined-before : first_bad xs < 8 → stepped xs ≡ marked_of (in_order (times-in (lanes 52 (map rate_factor xs))) (first_bad xs) (unit 52))
  unfolding stepped lanes_joined
  joined-before h = after (stepped_lanes xs) (lanes 52 (map rate_factor xs)) (first_bad xs) parted h 8 h

  -- with a bad value, some lane met it
  pub some_first : some is_bad xs ≡ true → first_bad xs < 8
  unfolding stepped lanes_joined
  some_first e = go (ltb (first_bad xs) 8) refl
    where
      go : (t : Bool) → ltb (first_bad xs) 8 ≡ t → first_bad xs < 8
      go true q = ltb-true (first_bad xs) 8 q
      go false q =
          absurd
          (true≢false
          (sym e
          ∙ sym (stepped-mark xs)
          ∙ ap (λ (a : StableProductFloatAcc). a.bad)
          (before (stepped_lanes xs) (lanes 52 (map rate_factor xs)) (first_bad xs) parted 8 (ltb-false (first_bad xs) 8 q)).0))

-- ---- no bad rate
none_first : (i k : ℕ) {xs : List Float} → Each GoodRate xs → feed bad_step i k xs ≡ k
unfolding feed
none_first i k none = refl
none_first i k (more {x = x} {xs = xs} r rs) = ap (λ (b : Bool). feed bad_step (suc i) (lower k (lane_of i) b) xs) r.good ∙ none_first (suc i) k rs

-- with no bad rate, stepped lanes give the plain product of the piece
pub stepped-agrees : {xs : List Float} → Each GoodRate xs → stepped xs ≡ acc_of (piece_product 52 (map rate_factor xs))
unfolding stepped lanes_joined piece_product first_bad
stepped-agrees {xs} R =
    (before (stepped_lanes xs) (lanes 52 (map rate_factor xs)) (first_bad xs) (parted xs (each_map GoodRate Value (λ x r. r.value) R)) 8
    (le_of_eq (sym (none_first 0 8 R)))).0
