-- Blocks of 64: with no bad rate they are the plain product's piece, whichever blocks are multiplied unsplit; the mark is set exactly if some rate is bad.
-- Assumes nothing.
use Prim.Native.Nat.{ℕ, zero, suc, ◌+◌, ◌*◌, ◌/◌, ◌≤◌, ◌<◌, zero-le}
use mathlib.Core.Path.{◌≡◌, refl, sym, ap, ◌∙◌, subst}
use mathlib.Core.Bool.{Bool, true, false, not, cond, ◌||◌, or-false, or_assoc}
use mathlib.Core.List.{List, ◌++◌, map, map-append}
use native.Mathlib.Nat.{le_refl, le_of_lt}
use native.Mathlib.Omega.{arith}
use lib.ListN.{length, get_or, set, take, drop, replicate, length-set, length-replicate, get_or-replicate, length-take, length-drop, take-append-drop, length-map}
use lib.IntN.{ℤ, pos, ◌+ℤ◌}
use lib.Arith.{lt_of_le-ne}
use lib.Dec.{T, lit≤}
use lib.Ieee.{Float, nan, fin, binary64, fits, is_nan}
use Rattle.laws.proofs.Tests.{and_both, neither}
use Rattle.floats.specs.Product.{product_of}
use Rattle.floats.specs.Factor.{Factor, unit, times}
use Rattle.floats.specs.Splitting.{is_bad, rate_factor, split}
use Rattle.floats.proofs.Splitting.{split-bad}
use Rattle.accumulator.specs.declared.StableProductFloatAcc.{StableProductFloatAcc}
use Rattle.accumulator.specs.Joining.{identity_acc}
use Rattle.kernels.specs.declared.lanes.Lanes.{Lanes}
use Rattle.laws.specs.Lists.{Each, none, more}
use Rattle.kernels.specs.Lanes.{feed, lane_of, every, some}
use Rattle.kernels.specs.InnerPlain.{lane_times, lanes, piece_product}
use Rattle.kernels.specs.InnerLanes.{in_bounds}
use Rattle.kernels.specs.Blocks.{start_lanes, m_of, e_of, unsplit_step, split_step, renorm_lane, renorm, unsplit, block, blocks, lane_in, lanes_in}
use Rattle.kernels.specs.Blocks.{contiguous}
use Rattle.kernels.specs.Pieces.{GoodRate, acc_of}
use Rattle.kernels.proofs.Feeding.{feed-related, feed-holds, feed-vectors, feed-mark, order-keeps, order-related, every-each, each_map}
use Rattle.kernels.proofs.Feeding.{each_both, each_take, each-drop, some-append, some-none}
use Rattle.kernels.proofs.Factors.{lane-lt, set_cases, times-again}
use Rattle.kernels.specs.InnerLanes.{Represents, LanesAre, LanesRepresent, zeros, plain_after}
use Rattle.kernels.proofs.Lanewise.{turns, depth, turn_small, lanes-widen, lanes-turn, exponents-same}
use Rattle.kernels.proofs.Standing.{represents-more, represents-times, represents-split, represents-rate, represents-whole, represents-one}
use Rattle.kernels.proofs.Standing.{represents-acc}
use Rattle.kernels.proofs.Bounds.{in-range-good, in-range-exponent}

-- values of binary64, as all f64 are
abbrev pub Value : Float → Type 0
Value x = T (fits binary64 x)

-- values of which none is bad
pub each-rate : {xs : List Float} → Each Value xs → some is_bad xs ≡ false → Each GoodRate xs
unfolding some
each-rate none e = none
each-rate (more {x = x} {xs = xs} v vs) e = let p = neither (is_bad x) (some is_bad xs) e in more (record { value = v; good = p.0 }) (each-rate vs p.1)

pub rates-good : {xs : List Float} → Each GoodRate xs → some is_bad xs ≡ false
rates-good R = some-none is_bad (each_map GoodRate (λ (x : Float). is_bad x ≡ false) (λ x p. p.good) R)

-- they leave a mark as it is
pub rates-mark : (b : Bool) {xs : List Float} → Each GoodRate xs → b ≡ (b || some is_bad xs)
rates-mark b R = sym (ap (λ (c : Bool). b || c) (rates-good R) ∙ or-false b)

-- ---- eight lanes
pub represent-start : LanesRepresent zeros start_lanes (replicate 8 (unit 52))
represent-start = record {
  m_long = length-replicate 8 (fin false 1 (pos 0));
  e_long = length-replicate 8 (pos 0);
  f_long = length-replicate 8 (unit 52);
  at = λ k i.
      subst (λ (x : Float). Represents 0 x (get_or (replicate 8 (pos 0)) k (pos 0)) (get_or (replicate 8 (unit 52)) k (unit 52)))
      (sym (get_or-replicate 8 k (fin false 1 (pos 0)) nan i))
      (subst (λ (y : ℤ). Represents 0 (fin false 1 (pos 0)) y (get_or (replicate 8 (unit 52)) k (unit 52))) (sym (get_or-replicate 8 k (pos 0) (pos 0) i))
      (subst (λ (f : Factor). Represents 0 (fin false 1 (pos 0)) (pos 0) f) (sym (get_or-replicate 8 k (unit 52) (unit 52) i)) represents-one));
}

-- ---- values
-- A value y with an exponent d that stand for a factor g, from whatever format and in whatever way they came: lane i mod 8 then stands for its product with g.
pub value-represent : (C i : ℕ) (s : Lanes) (fs : List Factor) (y : Float) (d : ℤ) (g : Factor) (q : Bool) → depth (suc C) i (lane_of i) + suc C ≤ 1022
    → Represents C y d g → LanesRepresent (depth (suc C) i) s fs
    → LanesRepresent (depth (suc C) (suc i))
    (record { m = set s.m (lane_of i) (product_of 11 52 (m_of s (lane_of i)) y); e = set s.e (lane_of i) (e_of s (lane_of i) +ℤ d); bad = q })
    (lane_times 52 i fs g)
value-represent C i s fs y d g q l G h =
    let j = lane_of i in
    let f = get_or fs j (unit 52) in
    let n = depth (suc C) i j in
    lanes-turn Represents represents-more s.m s.e fs (suc C) i (product_of 11 52 (m_of s j) y) (e_of s j +ℤ d) (times 52 f g) h
    (subst (λ (m : ℕ). Represents m (product_of 11 52 (m_of s j) y) (e_of s j +ℤ d) (times 52 f g)) (one_more n)
    (represents-times n C (m_of s j) y (e_of s j) d f g (h.at j (lane-lt i)) G (subst (λ (m : ℕ). m ≤ 1022) (sym (one_more n)) l)))
  where
    one_more : (n : ℕ) → n + C + 1 ≡ n + suc C
    one_more n = omega arith

pub split-more : (i : ℕ) (s : Lanes) (fs : List Factor) (x : Float) → i < 512 → Value x → LanesRepresent (depth 1 i) s fs
    → LanesRepresent (depth 1 (suc i)) (split_step i s x) (lane_times 52 i fs (rate_factor x))
unfolding split_step
split-more i s fs x l v h =
    value-represent 0 i s fs (split x).m (split x).e (rate_factor x) (s.bad || (split x).bad) (turn_small 1 64 i (lit≤ tt) l) (represents-rate x) h

-- unsplit: the value is in the bounds
pub record Near (x : Float) : Type 0 where
  pub value : Value x
  pub near : in_bounds x ≡ true

pub unsplit-more : (i : ℕ) (s : Lanes) (fs : List Factor) (x : Float) → i < 64 → Near x → LanesRepresent (depth 121 i) s fs
    → LanesRepresent (depth 121 (suc i)) (unsplit_step i s x) (lane_times 52 i fs (rate_factor x))
unfolding unsplit_step
unsplit-more i s fs x l n h =
    let j = lane_of i in
    let X = represents-whole 120 x n.value (in-range-good 120 (lit≤ tt) x n.value n.near) (in-range-exponent 119 (lit≤ tt) x n.value n.near) in
    subst (λ (es : List ℤ). LanesAre Represents (depth 121 (suc i)) (set s.m j (product_of 11 52 (m_of s j) x)) es (lane_times 52 i fs (rate_factor x)))
    (exponents-same s.e j)
    (value-represent 120 i s fs x (pos 0) (rate_factor x) s.bad (turn_small 121 8 i (lit≤ tt) l) X h)

-- ---- bringing back
-- lanes below j are brought back, the others are as they were
record Back (s : Lanes) (fs : List Factor) (j : ℕ) (t : Lanes) : Type 0 where
  m_long : length t.m ≡ 8
  e_long : length t.e ≡ 8
  done : (k : ℕ) → k < 8 → k < j → Represents 0 (m_of t k) (e_of t k) (get_or fs k (unit 52))
  left : (k : ℕ) → k < 8 → j ≤ k → (m_of t k ≡ m_of s k) × (e_of t k ≡ e_of s k)

-- each lane, brought back by itself, stands for its factor: so do all of them
module _ (s : Lanes) (fs : List Factor) (each : (k : ℕ) → k < 8 → Represents 0 (split (m_of s k)).m (e_of s k +ℤ (split (m_of s k)).e) (get_or fs k (unit 52))) where
  back-turn : (j : ℕ) (t : Lanes) → j < 8 → Back s fs j t → Back s fs (suc j) (renorm_lane j t)
  unfolding renorm_lane
  back-turn j t J b =
      record {
        m_long = length-set t.m j m' ∙ b.m_long;
        e_long = length-set t.e j e' ∙ b.e_long;
        done = λ k i h.
            set_cases (λ (x : Float). Represents 0 x (get_or (set t.e j e') k (pos 0)) (get_or fs k (unit 52))) t.m j k m' nan in-m
            (λ p. set_cases (λ (y : ℤ). Represents 0 m' y (get_or fs k (unit 52))) t.e j k e' (pos 0) in_e
            (λ q. subst (λ (x : ℕ). Represents 0 m' e' (get_or fs x (unit 52))) (sym p) here) (λ n. absurd (n p)))
            (λ n. set_cases (λ (y : ℤ). Represents 0 (m_of t k) y (get_or fs k (unit 52))) t.e j k e' (pos 0) in_e (λ p. absurd (n p))
            (λ q. b.done k i (lt_of_le-ne (le-of-lt-suc h) n)));
        left = λ k i h. (
          set_cases (λ (x : Float). x ≡ m_of s k) t.m j k m' nan in-m (λ p. absurd (let l : j < k = h in omega (arith, p)))
              (λ n. (b.left k i (le_of_lt h)).0),
          set_cases (λ (y : ℤ). y ≡ e_of s k) t.e j k e' (pos 0) in_e (λ p. absurd (let l : j < k = h in omega (arith, p)))
              (λ n. (b.left k i (le_of_lt h)).1),
        );
      }
    where
      m' : Float
      m' = (split (m_of t j)).m

      e' : ℤ
      e' = e_of t j +ℤ (split (m_of t j)).e

      in-m : j < length t.m
      in-m = subst (λ (n : ℕ). j < n) (sym b.m_long) J

      in_e : j < length t.e
      in_e = subst (λ (n : ℕ). j < n) (sym b.e_long) J

      le-of-lt-suc : {x y : ℕ} → x < suc y → x ≤ y
      le-of-lt-suc h = omega arith

      here : Represents 0 m' e' (get_or fs j (unit 52))
      here =
          subst (λ (x : Float). Represents 0 (split x).m (e_of t j +ℤ (split x).e) (get_or fs j (unit 52))) (sym (b.left j J (le_refl j)).0)
          (subst (λ (y : ℤ). Represents 0 (split (m_of s j)).m (y +ℤ (split (m_of s j)).e) (get_or fs j (unit 52))) (sym (b.left j J (le_refl j)).1) (each j J))

  pub renorm-each : length s.m ≡ 8 → length s.e ≡ 8 → length fs ≡ 8 → LanesRepresent zeros (renorm s) fs
  unfolding renorm
  renorm-each m e f =
      let b = order-keeps renorm_lane (Back s fs) 8 (λ j t. back-turn j t) s
      (record { m_long = m; e_long = e; done = λ k i h. absurd (omega arith); left = λ k i h. (refl, refl) }) in
      record { m_long = b.m_long; e_long = b.e_long; f_long = f; at = λ k i. b.done k i i }

pub renorm-represent : (B : ℕ) → B ≤ 1022 → (fs : List Factor) (b : ℕ → ℕ) (s : Lanes) → ((k : ℕ) → k < 8 → b k ≤ B) → LanesRepresent b s fs
    → LanesRepresent zeros (renorm s) fs
renorm-represent B small fs b s l H =
    renorm-each s fs
    (λ k i. represents-split B (m_of s k) (e_of s k) (get_or fs k (unit 52)) small
    (represents-more (b k) B (m_of s k) (e_of s k) (get_or fs k (unit 52)) (l k i) (H.at k i)))
    H.m_long H.e_long H.f_long

-- ---- values of one block, or those that are left: at most 64
module _ (s : Lanes) (fs : List Factor) (xs : List Float) (short : length xs ≤ 64) (H : LanesRepresent zeros s fs) where
  begins : (c : ℕ) → LanesRepresent (depth c 0) s fs
  begins c = lanes-widen Represents represents-more zeros (depth c 0) (λ k a. zero-le) H

  few : (k : ℕ) → k < 8 → turns k (length xs) ≤ 8
  few k a = omega arith

  split-represent : Each Value xs → LanesRepresent zeros (renorm (feed split_step 0 s xs)) (plain_after fs xs)
  split-represent R =
      renorm-represent 968 (lit≤ tt) (plain_after fs xs) (depth 1 (0 + length xs)) (feed split_step 0 s xs) (λ k a. omega (arith, few k a))
      (feed-related split_step (lane_times 52) rate_factor Value (λ (i : ℕ). LanesRepresent (depth 1 i)) 512 split-more 0 s fs R (omega arith) (begins 1))

  unsplit-represent : Each Near xs → LanesRepresent zeros (renorm (feed unsplit_step 0 s xs)) (plain_after fs xs)
  unsplit-represent R =
      renorm-represent 968 (lit≤ tt) (plain_after fs xs) (depth 121 (0 + length xs)) (feed unsplit_step 0 s xs) (λ k a. omega (arith, few k a))
      (feed-related unsplit_step (lane_times 52) rate_factor Near (λ (i : ℕ). LanesRepresent (depth 121 i)) 64 unsplit-more 0 s fs R (omega arith) (begins 121))

  -- unsplit or split, a block stands for the same factors
  block-represent : Each Value xs → LanesRepresent zeros (block s xs) (plain_after fs xs)
  unfolding block unsplit
  block-represent R = go (unsplit s xs) refl
    where
      go : (t : Bool) → unsplit s xs ≡ t → LanesRepresent zeros (renorm (cond t (feed unsplit_step 0 s xs) (feed split_step 0 s xs))) (plain_after fs xs)
      go true e =
          unsplit-represent
          (each_map (λ (x : Float). Value x × (in_bounds x ≡ true)) Near (λ x p. record { value = p.0; near = p.1 })
          (each_both Value (λ (x : Float). in_bounds x ≡ true) R
          (every-each in_bounds xs (and_both (every in_bounds xs) (not (some is_nan (feed unsplit_step 0 s xs).m)) e).0)))
      go false e = split-represent R

-- ---- all of a piece
-- the plain lanes, one list of rates after another, the first of whole vectors
pub lanes-append : (n : ℕ) (fs : List Factor) (xs ys : List Float) → length xs ≡ 8 * n
    → plain_after fs (xs ++ ys) ≡ plain_after (plain_after fs xs) ys
lanes-append n fs xs ys h =
    ap (feed (lane_times 52) 0 fs) (map-append rate_factor xs ys)
    ∙ feed-vectors (lane_times 52) (times-again 52) n fs (map rate_factor xs) (map rate_factor ys) (length-map xs rate_factor ∙ h)

lanes_on : (fs : List Factor) (xs : List Float) → 64 ≤ length xs
    → plain_after (plain_after fs (take 64 xs)) (drop 64 xs) ≡ plain_after fs xs
lanes_on fs xs h =
    sym (lanes-append 8 fs (take 64 xs) (drop 64 xs) (omega (arith, length-take 64 xs)))
    ∙ ap (λ (l : List Float). plain_after fs l) (take-append-drop 64 xs)

blocks-represent : (n : ℕ) (s : Lanes) (fs : List Factor) (xs : List Float) → 64 * n ≤ length xs → length xs ≤ 64 * n + 64 → Each Value xs
    → LanesRepresent zeros s fs
    → LanesRepresent zeros (blocks n s xs) (plain_after fs xs)
unfolding blocks
blocks-represent zero s fs xs lo hi R H = split-represent s fs xs (omega arith) H R
blocks-represent (suc n) s fs xs lo hi R H =
    let ys = take 64 xs in
    subst (LanesRepresent zeros (blocks n (block s ys) (drop 64 xs))) (lanes_on fs xs (omega arith))
    (blocks-represent n (block s ys) (plain_after fs ys) (drop 64 xs) (omega (arith, length-drop 64 xs)) (omega (arith, length-drop 64 xs))
    (each-drop Value 64 R)
    (block-represent s fs ys (omega (arith, length-take 64 xs)) H (each_take Value 64 R)))

-- ---- the lanes multiplied in order
lane_in_lem : (s : Lanes) (fs : List Factor) (k : ℕ) (a : StableProductFloatAcc) (p : Factor) → k < 8 → LanesRepresent zeros s fs → Represents 0 a.m a.e p
    → Represents 0 (lane_in s k a).m (lane_in s k a).e (times 52 p (get_or fs k (unit 52)))
unfolding lane_in
lane_in_lem s fs k a p h H P =
    let m = product_of 11 52 a.m (m_of s k) in
    let f = times 52 p (get_or fs k (unit 52)) in
    represents-split 1 m (a.e +ℤ e_of s k) f (lit≤ tt) (represents-times 0 0 a.m (m_of s k) a.e (e_of s k) p (get_or fs k (unit 52)) P (H.at k h) (lit≤ tt))

-- ---- the mark
pub split-mark : (i : ℕ) (s : Lanes) (xs : List Float) → (feed split_step i s xs).bad ≡ (s.bad || some is_bad xs)
unfolding split_step
split-mark = feed-mark split_step (λ (s : Lanes). s.bad) is_bad (λ i s x. ap (λ (b : Bool). s.bad || b) (split-bad x))

pub unsplit-mark : (i : ℕ) (s : Lanes) (xs : List Float) → (feed unsplit_step i s xs).bad ≡ s.bad
unfolding unsplit_step
unsplit-mark i s xs = feed-holds unsplit_step (λ (t : Lanes). t.bad ≡ s.bad) (λ i t x h. h) i s xs refl

pub renorm-mark : (s : Lanes) → (renorm s).bad ≡ s.bad
unfolding renorm renorm_lane
renorm-mark s = order-keeps renorm_lane (λ (k : ℕ) (t : Lanes). t.bad ≡ s.bad) 8 (λ k t h e. e) s refl

-- in the bounds there is no bad value
block-mark : (s : Lanes) (xs : List Float) → Each Value xs → (block s xs).bad ≡ (s.bad || some is_bad xs)
unfolding block unsplit
block-mark s xs v = go (unsplit s xs) refl
  where
    good : every in_bounds xs ≡ true → some is_bad xs ≡ false
    good h =
        some-none is_bad
        (each_map (λ (x : Float). Value x × (in_bounds x ≡ true)) (λ (x : Float). is_bad x ≡ false) (λ x p. in-range-good 120 (lit≤ tt) x p.0 p.1)
        (each_both Value (λ (x : Float). in_bounds x ≡ true) v (every-each in_bounds xs h)))

    go : (t : Bool) → unsplit s xs ≡ t → (renorm (cond t (feed unsplit_step 0 s xs) (feed split_step 0 s xs))).bad ≡ (s.bad || some is_bad xs)
    go true e =
        renorm-mark (feed unsplit_step 0 s xs)
        ∙ unsplit-mark 0 s xs
        ∙ sym (ap (λ (b : Bool). s.bad || b) (good (and_both (every in_bounds xs) (not (some is_nan (feed unsplit_step 0 s xs).m)) e).0) ∙ or-false s.bad)
    go false e = renorm-mark (feed split_step 0 s xs) ∙ split-mark 0 s xs

blocks-mark : (n : ℕ) (s : Lanes) (xs : List Float) → Each Value xs → (blocks n s xs).bad ≡ (s.bad || some is_bad xs)
unfolding blocks
blocks-mark zero s xs v = renorm-mark (feed split_step 0 s xs) ∙ split-mark 0 s xs
blocks-mark (suc n) s xs v =
    let ys = take 64 xs in
    blocks-mark n (block s ys) (drop 64 xs) (each-drop Value 64 v)
    ∙ ap (λ (b : Bool). b || some is_bad (drop 64 xs)) (block-mark s ys (each_take Value 64 v))
    ∙ or_assoc s.bad (some is_bad ys) (some is_bad (drop 64 xs))
    ∙ ap (λ (b : Bool). s.bad || b) (sym (some-append is_bad ys (drop 64 xs)) ∙ ap (some is_bad) (take-append-drop 64 xs))

lanes-mark : (s : Lanes) → (lanes_in s).bad ≡ s.bad
unfolding lanes_in lane_in
lanes-mark s =
    order-keeps (lane_in s) (λ (k : ℕ) (a : StableProductFloatAcc). a.bad ≡ s.bad) 8 (λ k a h e. e)
    (record { m = identity_acc.m; e = identity_acc.e; bad = s.bad }) refl

-- the mark is set exactly if some rate of the piece is bad
pub contiguous-mark : (xs : List Float) → Each Value xs → (contiguous xs).bad ≡ some is_bad xs
unfolding contiguous
contiguous-mark xs v = lanes-mark (blocks (length xs / 64) start_lanes xs) ∙ blocks-mark (length xs / 64) start_lanes xs v

-- Blocks of 64 give the m and e of the plain product of the piece's factors, whatever the rates: a bad one counts with its fraction and field.
pub contiguous-is : {xs : List Float} → Each Value xs
    → contiguous xs ≡ record { m = (acc_of (piece_product 52 (map rate_factor xs))).m; e = (piece_product 52 (map rate_factor xs)).exp; bad = some is_bad xs }
unfolding contiguous lanes_in piece_product lanes
contiguous-is {xs} v =
    ap (λ (b : Bool). record { m = r.m; e = r.e; bad = b }) (contiguous-mark xs v)
    ∙ ap (λ (a : StableProductFloatAcc). record { m = a.m; e = a.e; bad = some is_bad xs })
    (represents-acc r.m r.e (piece_product 52 (map rate_factor xs)) stood)
  where
    s : Lanes
    s = blocks (length xs / 64) start_lanes xs

    fs : List Factor
    fs = lanes 52 (map rate_factor xs)

    r : StableProductFloatAcc
    r = contiguous xs

    represent : LanesRepresent zeros s fs
    represent = blocks-represent (length xs / 64) start_lanes (replicate 8 (unit 52)) xs (omega arith) (omega arith) v represent-start

    stood : Represents 0 r.m r.e (piece_product 52 (map rate_factor xs))
    stood =
        order-related (lane_in s) (λ (k : ℕ) (p : Factor). times 52 p (get_or fs k (unit 52)))
        (λ (a : StableProductFloatAcc) (p : Factor). Represents 0 a.m a.e p) 8
        (λ k a p h P. lane_in_lem s fs k a p h represent P) (record { m = identity_acc.m; e = identity_acc.e; bad = s.bad }) (unit 52) represents-one

-- with no bad rate, blocks of 64 give the plain product of the piece
pub contiguous-agrees : {xs : List Float} → Each GoodRate xs → contiguous xs ≡ acc_of (piece_product 52 (map rate_factor xs))
contiguous-agrees {xs} R =
    contiguous-is (each_map GoodRate Value (λ x p. p.value) R)
    ∙ ap (λ (b : Bool). record { m = (acc_of (piece_product 52 (map rate_factor xs))).m; e = (piece_product 52 (map rate_factor xs)).exp; bad = b }) (rates-good R)
