-- At most 32 vectors, each multiplied unsplit or split by the test of its least magnitude: either every lane waits for its factor and the mark is right, or a lane
-- is an infinity or a NaN, which it stays. Where all vectors are split, the lanes stand for their factors. Assumes nothing.
use Prim.Native.Nat.{ℕ, suc, ◌+◌, ◌*◌, ◌≤◌, ◌<◌, zero-le}
use mathlib.Core.Path.{◌≡◌, refl, sym, ap, ◌∙◌, subst}
use mathlib.Core.Bool.{Bool, true, false, not, cond, ◌&&◌, ◌||◌, true≢false, or-false, or_assoc}
use mathlib.Core.List.{List, [], ◌++◌, map}
use mathlib.Core.Logic.{◌⊎◌, inl, inr}
use native.Mathlib.Omega.{arith}
use lib.ListN.{length, get_or, set, length-append}
use lib.IntN.{◌+ℤ◌}
use lib.Dec.{lit≤}
use lib.Ieee.{Float}
use Rattle.floats.specs.Product.{product_of}
use Rattle.floats.specs.Factor.{Factor, unit}
use Rattle.floats.specs.Splitting.{is_bad, rate_factor, split}
use Rattle.floats.proofs.Splitting.{farthest}
use Rattle.kernels.specs.declared.lanes.Lanes.{Lanes}
use Rattle.laws.specs.Lists.{Each}
use Rattle.kernels.specs.Lanes.{feed, lane_of, every, some}
use Rattle.kernels.specs.InnerPlain.{lane_times}
use Rattle.kernels.specs.Pieces.{GoodRate}
use Rattle.kernels.specs.Blocks.{m_of, e_of, unsplit_step, split_step, renorm}
use Rattle.kernels.specs.InnerLanes.{SmallLanes, NoneSubnormal, LanesRepresent, LanesAfter, zeros, plain_after}
use Rattle.floats.specs.InnerKinds.{is_subnormal}
use Rattle.kernels.proofs.Feeding.{feed-related, feed-holds, feed-eights, some-append}
use Rattle.kernels.proofs.Factors.{lane-lt, lane-again, times-again}
use Rattle.kernels.proofs.LaneSizes.{Eight, lanes-le, unsplit-small, split-small, unsplit-eight, split-eight}
use Rattle.kernels.proofs.Lanewise.{depth, lanes-widen}
use Rattle.kernels.proofs.Stepwise.{unsplit-again}
use Rattle.kernels.proofs.Standing.{represents-more, represents-other, represents-rate}
use Rattle.kernels.specs.InnerLanes.{Represents}
use Rattle.kernels.proofs.Blocking.{Value, rates-mark, lanes-append, split-more, renorm-represent, renorm-each, renorm-mark, split-mark, unsplit-mark}
use Rattle.vectors.specs.InnerWaiting.{not_past, not_low, guarded}
use Rattle.vectors.proofs.Vectorwise.{guarded-outside}
use Rattle.vectors.proofs.Waits.{waits-more, waits-other, waits-split, represents-waits, lanes-wait}
use Rattle.vectors.proofs.Waiting.{LostLane, lost-stays, Guarded, Out, value_out, fed-out, fed-lost, fed-good, hit-lost, none-lost}
use Rattle.vectors.proofs.Lows.{Hit, vector-low}

-- the lanes after i values
abbrev LanesOut : ℕ → Lanes → List Factor → Type 0
LanesOut i t fs = Out 15 i t.m t.e fs

-- the mark is that of the values, or a lane is lost and not all are split
abbrev Marked : Bool → Lanes → List Float → Lanes → Type 0
Marked all s xs t = (t.bad ≡ (s.bad || some is_bad xs)) ⊎ (LostLane t.m × (all ≡ false))

-- ---- values that are split
split-out : (i : ℕ) (s : Lanes) (fs : List Factor) (x : Float) → i < 512 → Value x → LanesOut i s fs
    → LanesOut (suc i) (split_step i s x) (lane_times 52 i fs (rate_factor x))
unfolding split_step
split-out i s fs x l v (inl h) =
    value_out 15 64 (lit≤ tt) i s.m s.e fs (split x).m (split x).e (rate_factor x) l
    (waits-more 0 15 (split x).m (split x).e (rate_factor x) zero-le (represents-waits (split x).m (split x).e (rate_factor x) (represents-rate x))) h
split-out i s fs x l v (inr p) = inr (lost-stays s.m (lane_of i) (lane-lt i) (split x).m p)

split-lost : (i : ℕ) (s : Lanes) (xs : List Float) → LostLane s.m → LostLane (feed split_step i s xs).m
unfolding split_step
split-lost = feed-holds split_step (λ (s : Lanes). LostLane s.m) (λ i s x. lost-stays s.m (lane_of i) (lane-lt i) (split x).m)

-- ---- values that are not
module _ (i : ℕ) (s : Lanes) where
  unsplit-out : (fs : List Factor) {xs : List Float} → Each (Guarded 14) xs → i + length xs ≤ 512 → LanesOut i s fs
      → LanesOut (i + length xs) (feed unsplit_step i s xs) (feed (lane_times 52) i fs (map rate_factor xs))
  unfolding unsplit_step
  unsplit-out = fed-out unsplit_step (λ (s : Lanes). s.m) (λ (s : Lanes). s.e) (λ i s x. refl) (λ i s x. refl) 14 64 (lit≤ tt) (lit≤ tt) i s

  unsplit-good : {xs : List Float} → length s.m ≡ 8 → Each (Guarded 14) xs → Each GoodRate xs ⊎ LostLane (feed unsplit_step i s xs).m
  unfolding unsplit_step
  unsplit-good = fed-good unsplit_step (λ (s : Lanes). s.m) (λ (s : Lanes). s.e) (λ i s x. refl) (λ i s x. refl) 14 64 (lit≤ tt) (lit≤ tt) i s

  unsplit-lost : (xs : List Float) → LostLane s.m → LostLane (feed unsplit_step i s xs).m
  unfolding unsplit_step
  unsplit-lost = fed-lost unsplit_step (λ (s : Lanes). s.m) (λ (s : Lanes). s.e) (λ i s x. refl) (λ i s x. refl) i s

  unsplit-hit : (xs : List Float) → length s.m ≡ 8 → length xs ≡ 8 → Hit xs → LostLane (feed unsplit_step i s xs).m
  unfolding unsplit_step
  unsplit-hit xs l e k =
      hit-lost unsplit_step (λ (s : Lanes). s.m) (λ (s : Lanes). s.e) (λ i s x. refl) (λ i s x. refl) i s xs k.lane l
      (subst (λ (n : ℕ). k.lane < n) (sym e) k.below) k.lost

-- ---- a vector
split-again : (i : ℕ) (s : Lanes) (x : Float) → split_step (i + 8) s x ≡ split_step i s x
unfolding split_step
split-again i s x =
    ap (λ (k : ℕ). record { m = set s.m k (product_of 11 52 (m_of s k) (split x).m); e = set s.e k (e_of s k +ℤ (split x).e); bad = s.bad || (split x).bad })
    (lane-again i)

-- what holds of the vector split, and unsplit if it passed its test
module _ (all : Bool) (s : Lanes) (vector : List Float) where
  guarded-by : (P : Lanes → Type 0) → (all ≡ false → not_low vector ≡ true → P (feed unsplit_step 0 s vector)) → P (feed split_step 0 s vector)
      → P (guarded all s vector)
  unfolding guarded
  guarded-by P u t = go all (not_low vector) refl refl
    where
      go : (a b : Bool) → all ≡ a → not_low vector ≡ b → P (cond (not a && b) (feed unsplit_step 0 s vector) (feed split_step 0 s vector))
      go true b p q = t
      go false false p q = t
      go false true p q = u p q

  guarded-long : Eight s → Eight (guarded all s vector)
  guarded-long h = guarded-by Eight (λ a e. unsplit-eight 0 s vector h) (split-eight 0 s vector h)

  guarded-small : (n : ℕ) → length vector ≡ 8 → SmallLanes n s → SmallLanes (n + 8 * farthest) (guarded all s vector)
  guarded-small n e h =
      guarded-by (SmallLanes (n + 8 * farthest)) (λ a e. lanes-le n (n + 8 * farthest) (feed unsplit_step 0 s vector) (omega arith) (unsplit-small n 0 s vector h))
      (lanes-le (n + farthest * length vector) (n + 8 * farthest) (feed split_step 0 s vector) (omega (arith, e)) (split-small n 0 s vector h))

  guarded-lost : LostLane s.m → LostLane (guarded all s vector).m
  guarded-lost h = guarded-by (λ (t : Lanes). LostLane t.m) (λ a e. unsplit-lost 0 s vector h) (split-lost 0 s vector h)

module _ (i : ℕ) (t : Lanes) (gs : List Factor) (vector : List Float) (eight : length vector ≡ 8) (l : i < 32) (v : Each Value vector) where
  plain-on : feed (lane_times 52) (8 * i) gs (map rate_factor vector) ≡ plain_after gs vector
  plain-on = feed-eights (lane_times 52) (times-again 52) i gs (map rate_factor vector)

  within : 8 * i + length vector ≤ 512
  within = omega (arith, eight)

  values-counted : 8 * i + length vector ≡ 8 * suc i
  values-counted = omega (arith, eight)

  -- what holds of the values numbered from 8 * i on holds of the vector
  shifted : (R : ℕ → Lanes → List Factor → Type 0) (step : ℕ → Lanes → Float → Lanes) → ((i : ℕ) (s : Lanes) (x : Float) → step (i + 8) s x ≡ step i s x)
      → R (8 * i + length vector) (feed step (8 * i) t vector) (feed (lane_times 52) (8 * i) gs (map rate_factor vector))
      → R (8 * suc i) (feed step 0 t vector) (plain_after gs vector)
  shifted R step again h =
      subst (R (8 * suc i) (feed step 0 t vector)) plain-on
      (subst (λ (u : Lanes). R (8 * suc i) u (feed (lane_times 52) (8 * i) gs (map rate_factor vector))) (feed-eights step again i t vector)
      (subst (λ (n : ℕ). R n (feed step (8 * i) t vector) (feed (lane_times 52) (8 * i) gs (map rate_factor vector))) values-counted h))

  vector-represent : LanesRepresent (depth 1 (8 * i)) t gs → LanesRepresent (depth 1 (8 * suc i)) (feed split_step 0 t vector) (plain_after gs vector)
  vector-represent h =
      shifted (λ (n : ℕ). LanesRepresent (depth 1 n)) split_step split-again
      (feed-related split_step (lane_times 52) rate_factor Value (λ (n : ℕ). LanesRepresent (depth 1 n)) 512 split-more (8 * i) t gs v within h)

  vector-out : (all : Bool) → length t.m ≡ 8 → LanesOut (8 * i) t gs → LanesOut (8 * suc i) (guarded all t vector) (plain_after gs vector)
  vector-out all long h =
      guarded-by all t vector (λ (u : Lanes). LanesOut (8 * suc i) u (plain_after gs vector)) (λ a e. low (vector-low vector eight v e))
      (shifted LanesOut split_step split-again (feed-related split_step (lane_times 52) rate_factor Value LanesOut 512 split-out (8 * i) t gs v within h))
    where
      low : Each (Guarded 14) vector ⊎ Hit vector → LanesOut (8 * suc i) (feed unsplit_step 0 t vector) (plain_after gs vector)
      low (inl g) = shifted LanesOut unsplit_step unsplit-again (unsplit-out (8 * i) t gs g within h)
      low (inr k) = inr (unsplit-hit 0 t vector long eight k)

  vector-mark : (all : Bool) → length t.m ≡ 8 → Marked all t vector (guarded all t vector)
  vector-mark all long =
      guarded-by all t vector (Marked all t vector) (λ a e. low a (vector-low vector eight v e))
      (inl (split-mark 0 t vector))
    where
      good : all ≡ false → Each GoodRate vector ⊎ LostLane (feed unsplit_step 0 t vector).m → Marked all t vector (feed unsplit_step 0 t vector)
      good a (inl R) = inl (unsplit-mark 0 t vector ∙ rates-mark t.bad R)
      good a (inr k) = inr (k, a)

      low : all ≡ false → Each (Guarded 14) vector ⊎ Hit vector → Marked all t vector (feed unsplit_step 0 t vector)
      low a (inl g) = good a (unsplit-good 0 t long g)
      low a (inr k) = inr (unsplit-hit 0 t vector long eight k, a)

-- ---- vectors, one after another: i vectors xs are in the lanes t, which began as s
pub record Mixed (all : Bool) (n : ℕ) (s : Lanes) (xs : List Float) (i : ℕ) (t : Lanes) : Type 0 where
  pub long : length t.m ≡ 8
  pub count_is : length xs ≡ 8 * i
  pub small : SmallLanes (n + 8 * farthest * i) t
  pub waits : (fs : List Factor) → LanesRepresent zeros s fs → LanesOut (8 * i) t (plain_after fs xs)
  pub represent : all ≡ true → (fs : List Factor) → LanesRepresent zeros s fs → LanesRepresent (depth 1 (8 * i)) t (plain_after fs xs)
  pub mark : Marked all s xs t

pub mixed-none : (all : Bool) (n : ℕ) (s : Lanes) → length s.m ≡ 8 → SmallLanes n s → Mixed all n s [] 0 s
unfolding feed some
mixed-none all n s l h = record {
  long = l;
  count_is = refl;
  small = lanes-le n (n + 8 * farthest * 0) s (omega arith) h;
  waits = λ fs H. inl (lanes-wait (depth 15 (8 * 0)) s fs H);
  represent = λ e fs H. lanes-widen Represents represents-more zeros (depth 1 (8 * 0)) (λ k a. zero-le) H;
  mark = inl (sym (or-false s.bad));
}

pub mixed-more : (all : Bool) (n : ℕ) (s : Lanes) (xs : List Float) (i : ℕ) (t u : Lanes) (vector : List Float) → Mixed all n s xs i t → i < 32
    → length vector ≡ 8 → Each Value vector → u ≡ guarded all t vector → Mixed all n s (xs ++ vector) (suc i) u
mixed-more all n s xs i t u vector R l e v g =
    subst (Mixed all n s (xs ++ vector) (suc i)) (sym g)
    (record {
      long = guarded-long all t vector R.long;
      count_is = length-append xs vector ∙ (let a = R.count_is in let b = e in omega arith);
      small = lanes-le (n + 8 * farthest * i + 8 * farthest) (n + 8 * farthest * suc i) (guarded all t vector) (omega arith) (guarded-small all t vector (n + 8 * farthest * i) e R.small);
      waits = λ fs H.
          subst (LanesOut (8 * suc i) (guarded all t vector)) (sym (whole fs)) (vector-out i t (plain_after fs xs) vector e l v all R.long (R.waits fs H));
      represent = λ a fs H.
          subst (LanesRepresent (depth 1 (8 * suc i)) (guarded all t vector)) (sym (whole fs))
          (subst (λ (w : Lanes). LanesRepresent (depth 1 (8 * suc i)) w (plain_after (plain_after fs xs) vector))
          (guarded-outside all t vector (ap (λ (b : Bool). not b && not_low vector) a))
          (vector-represent i t (plain_after fs xs) vector e l v (R.represent a fs H)));
      mark = marked R.mark (vector-mark i t [] vector e l v all R.long);
    })
  where
    whole : (fs : List Factor) → plain_after fs (xs ++ vector) ≡ plain_after (plain_after fs xs) vector
    whole fs = lanes-append i fs xs vector R.count_is

    marked : Marked all s xs t → Marked all t vector (guarded all t vector)
        → Marked all s (xs ++ vector) (guarded all t vector)
    marked (inr p) q = inr (guarded-lost all t vector p.0, p.1)
    marked (inl p) (inr q) = inr q
    marked (inl p) (inl q) =
        inl
        (q
        ∙ ap (λ (b : Bool). b || some is_bad vector) p
        ∙ or_assoc s.bad (some is_bad xs) (some is_bad vector)
        ∙ ap (λ (b : Bool). s.bad || b) (sym (some-append is_bad xs vector)))

-- brought back, they are what the values make of the lanes, if all vectors were split or no lane is lost
pub mixed-fed : (all : Bool) (n : ℕ) (s : Lanes) (xs : List Float) (i : ℕ) (t : Lanes) → Mixed all n s xs i t → i ≤ 32 → (all || every not_past t.m) ≡ true
    → LanesAfter s xs (renorm t)
mixed-fed all n s xs i t R l e = go all refl e
  where
    back : every not_past t.m ≡ true → (fs : List Factor) → LanesOut (8 * i) t fs → LanesRepresent zeros (renorm t) fs
    back p fs (inr k) = absurd (none-lost t.m p k)
    back p fs (inl w) =
        renorm-each t fs (λ k a. waits-split (depth 15 (8 * i) k) (m_of t k) (e_of t k) (get_or fs k (unit 52)) (w.at k a)) w.m_long w.e_long w.f_long

    marked : Marked all s xs t → (LostLane t.m → all ≡ false → ⊥) → (renorm t).bad ≡ (s.bad || some is_bad xs)
    marked (inl p) never = renorm-mark t ∙ p
    marked (inr k) never = absurd (never k.0 k.1)

    go : (a : Bool) → all ≡ a → (a || every not_past t.m) ≡ true → LanesAfter s xs (renorm t)
    go true a p = record {
      represent = λ fs H. renorm-represent 968 (lit≤ tt) (plain_after fs xs) (depth 1 (8 * i)) t (λ k b. omega arith) (R.represent a fs H);
      mark = λ fs H. marked R.mark (λ k f. true≢false (sym a ∙ f));
    }
    go false a p = record { represent = λ fs H. back p (plain_after fs xs) (R.waits fs H); mark = λ fs H. marked R.mark (λ k f. none-lost t.m p k) }

-- and until then no lane is subnormal
pub mixed-whole : (all : Bool) (n : ℕ) (s : Lanes) (xs : List Float) (i : ℕ) (t : Lanes) → Mixed all n s xs i t → i ≤ 32 → (all || every not_past t.m) ≡ true
    → (fs : List Factor) → LanesRepresent zeros s fs → NoneSubnormal t
mixed-whole all n s xs i t R l e fs H k a = go all refl e
  where
    waits : every not_past t.m ≡ true → LanesOut (8 * i) t (plain_after fs xs) → is_subnormal (m_of t k) ≡ false
    waits p (inr q) = absurd (none-lost t.m p q)
    waits p (inl w) = waits-other (depth 15 (8 * i) k) (m_of t k) (e_of t k) (get_or (plain_after fs xs) k (unit 52)) (w.at k a)

    go : (b : Bool) → all ≡ b → (b || every not_past t.m) ≡ true → is_subnormal (m_of t k) ≡ false
    go true b p =
        represents-other (depth 1 (8 * i) k) (m_of t k) (e_of t k) (get_or (plain_after fs xs) k (unit 52)) (let h : depth 1 (8 * i) k ≤ 1022 = omega arith in h)
        ((R.represent b fs H).at k a)
    go false b p = waits p (R.waits fs H)
