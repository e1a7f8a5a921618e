-- Eight windows by the lanes of sixteen rates in a row: if every rate that they meet passed the test of the least, and no product leaves the range, the
-- products are the windows' own. Assumes nothing.
use Prim.Native.Nat.{ℕ, zero, suc, ◌+◌, ◌-◌, ◌*◌, ◌/◌, ◌%◌, ◌≤◌, ◌<◌}
use mathlib.Core.Path.{◌≡◌, refl, sym, ap, ◌∙◌, subst}
use mathlib.Core.Bool.{Bool, true, false}
use mathlib.Core.List.{List, map}
use mathlib.Core.Logic.{inl}
use native.Mathlib.Nat.{add-zero}
use native.Mathlib.Omega.{arith}
use lib.ListN.{length, get_or, replicate, get_or-replicate}
use lib.IntN.{ℤ, pos, ◌+ℤ◌, ◌*ℤ◌}
use lib.Dec.{T, ltb}
use borrow.Author.Tests.{ltb-true, ltb-false}
use lib.Ieee.{Float, nan, binary64, fits}
use Rattle.floats.specs.Product.{product_of}
use Rattle.floats.specs.Factor.{unit}
use Rattle.floats.specs.Splitting.{rate_factor, split}
use Rattle.accumulator.specs.declared.StableProductFloatAcc.{StableProductFloatAcc}
use Rattle.laws.specs.Lists.{Each, none, more}
use Rattle.kernels.specs.Lanes.{feed, in_order, every}
use Rattle.kernels.specs.InnerPlain.{lanes}
use Rattle.kernels.specs.InnerLanes.{window, plain_after}
use Rattle.kernels.specs.InnerStrided.{strided}
use Rattle.integers.proofs.Difference.{ints, atoms}
use Rattle.kernels.specs.Blocks.{start_lanes, contiguous}
use Rattle.kernels.proofs.Lanewise.{turns, depth}
use Rattle.kernels.proofs.Striding.{length-strided, strided-append, strided-values, strided-window}
use Rattle.kernels.proofs.Feeding.{feed-vectors}
use Rattle.kernels.proofs.Blocking.{represent-start}
use Rattle.vectors.specs.declared.vector.Waiting.{Waiting}
use Rattle.vectors.specs.InnerWaiting.{one, wait_step, start_waiting, least_of, not_below, not_past, chained}
use Rattle.vectors.specs.InnerShort.{ShortLeast}
use Rattle.vectors.proofs.Waits.{lanes-wait}
use Rattle.vectors.proofs.Waiting.{Guarded, guards, fed-out, fed-good, every-at}
use Rattle.vectors.proofs.Vectors.{wait-again}
use Rattle.vectors.proofs.Shorts.{short-lanes}
use Rattle.windows.specs.InnerEight.{Beside, TimesLanes, EightWindows}
use Rattle.windows.proofs.Columns.{times_in, lanes_of, wait-lanes, column, lane-column}

-- ---- values side by side, by their places
each-place : (P : Float → Type 0) (vs : List Float) (p n : ℕ) → Each P (strided vs (pos p) (pos 1) n) → (j : ℕ) → j < n → P (get_or vs (p + j) nan)
unfolding strided
each-place P vs p zero e j h = absurd (omega arith)
each-place P vs p (suc n) (more q qs) zero h = subst (λ (k : ℕ). P (get_or vs k nan)) (omega arith) q
each-place P vs p (suc n) (more q qs) (suc j) h = subst (λ (k : ℕ). P (get_or vs k nan)) (omega arith) (each-place P vs (p + 1) n qs j (omega arith))

place-each : (P : Float → Type 0) (vs : List Float) (p n : ℕ) → ((j : ℕ) → j < n → P (get_or vs (p + j) nan)) → Each P (strided vs (pos p) (pos 1) n)
unfolding strided
place-each P vs p zero f = none
place-each P vs p (suc n) f =
    more (subst (λ (k : ℕ). P (get_or vs k nan)) (add-zero p) (f 0 (omega arith)))
    (place-each P vs (p + 1) n (λ j h. subst (λ (k : ℕ). P (get_or vs k nan)) (let e : p + suc j ≡ p + 1 + j = omega arith in e) (f (suc j) (omega arith))))

-- lanes that wait, with one vector more
pub one_more : (vs : List Float) (at n : ℕ) (full : Waiting) → at + 8 * (n + 1) ≤ length vs
    → full ≡ feed (wait_step false) 0 (start_waiting (replicate 8 one)) (strided vs (pos at) (pos 1) (8 * n))
    → feed (wait_step false) 0 full (window vs (at + 8 * n) 8)
    ≡ feed (wait_step false) 0 (start_waiting (replicate 8 one)) (strided vs (pos at) (pos 1) (8 * (n + 1)))
one_more vs at n full h e =
    ap (λ (s : Waiting). feed (wait_step false) 0 s (window vs (at + 8 * n) 8)) e
    ∙ ap (feed (wait_step false) 0 (feed (wait_step false) 0 begun (strided vs (pos at) (pos 1) (8 * n))))
    (strided-window vs (at + 8 * n) 8 (omega arith) ∙ ap (λ (z : ℤ). strided vs z (pos 1) 8) place)
    ∙ sym (feed-vectors (wait_step false) (wait-again false) n begun (strided vs (pos at) (pos 1) (8 * n)) (strided vs (pos at +ℤ pos 1 *ℤ pos (8 * n)) (pos 1) 8)
    (length-strided vs (pos at) (pos 1) (8 * n)))
    ∙ ap (feed (wait_step false) 0 begun) (sym (strided-append vs (pos at) (pos 1) (8 * n) 8))
    ∙ ap (λ (m : ℕ). feed (wait_step false) 0 begun (strided vs (pos at) (pos 1) m)) (let q : 8 * n + 8 ≡ 8 * (n + 1) = omega arith in q)
  where
    begun : Waiting
    begun = start_waiting (replicate 8 one)

    place : pos (at + 8 * n) ≡ (pos at +ℤ pos 1 *ℤ pos (8 * n))
    place = simp ints (simp atoms (omega arith))

-- ---- one window
module _ (k n : ℕ) (few : k ≤ 510) (room : 8 * (suc k * n) ≤ 1022) (xs : List Float) (v : Each (λ (x : Float). T (fits binary64 x)) xs) (short : length xs ≤ 8 * n)
    (g : Each (Guarded k) xs) where
  lane_room : suc k * n ≤ 1022
  lane_room = go (suc k * n) room
    where
      go : (m : ℕ) → 8 * m ≤ 1022 → m ≤ 1022
      go m h = omega arith

  plain : plain_after (replicate 8 (unit 52)) xs ≡ lanes 52 (map rate_factor xs)
  unfolding lanes
  plain = refl

  pub window-lanes : not_past (chained (lanes_of xs)) ≡ true
      → ◌≡◌ {A = StableProductFloatAcc} (record { m = (split (chained (lanes_of xs))).m; e = (split (chained (lanes_of xs))).e; bad = false }) (contiguous xs)
  window-lanes =
      short-lanes k n room xs xs v short plain (λ R. R) (lanes_of xs) (split (chained (lanes_of xs))) (λ s. refl)
      (fed-out times_in (λ (ms : List Float). ms) (λ (ms : List Float). start_lanes.e) (λ i ms x. refl) (λ i ms x. refl) k n few lane_room 0 (replicate 8 one)
      (replicate 8 (unit 52)) g (omega (arith, short)) (inl (lanes-wait (depth (suc k) 0) start_lanes (replicate 8 (unit 52)) represent-start)))
      (fed-good times_in (λ (ms : List Float). ms) (λ (ms : List Float). start_lanes.e) (λ i ms x. refl) (λ i ms x. refl) k n few lane_room 0 (replicate 8 one) refl g)

-- ---- eight windows: a and b are lanes that begin at `at` and at `at + 8`, after the whole vectors of a window and after one more
module _ (vs : List Float) (v : (i : ℕ) → T (fits binary64 (get_or vs i nan))) (w at : ℕ) where
  abbrev vectors : ℕ
  vectors = w / 8

  abbrev rest : ℕ
  rest = w % 8

  abbrev waited : ℕ → ℕ → Waiting
  waited p n = feed (wait_step false) 0 (start_waiting (replicate 8 one)) (strided vs (pos p) (pos 1) n)

  -- lane s of the sixteen
  sixteen : (n : ℕ) (r : List Float) → Beside (waited at (8 * n)).m (waited (at + 8) (8 * n)).m r → (s : ℕ) → s < 16 → get_or r s nan ≡ column vs (at + s) n
  sixteen n r B s h = go (ltb s 8) refl
    where
      lane : (p k : ℕ) → k < 8 → get_or (waited p (8 * n)).m k nan ≡ column vs (p + k) n
      lane p k l =
          ap (λ (ms : List Float). get_or ms k nan) (wait-lanes 0 (start_waiting (replicate 8 one)) (strided vs (pos p) (pos 1) (8 * n)))
          ∙ lane-column vs p (8 * n) k l
          ∙ ap (column vs (p + k)) (let q : turns k (8 * n) ≡ n = omega arith in q)

      go : (b : Bool) → ltb s 8 ≡ b → get_or r s nan ≡ column vs (at + s) n
      go true e = B.low s (ltb-true s 8 e) ∙ lane at s (ltb-true s 8 e)
      go false e =
          let l = ltb-false s 8 e in
          ap (λ (j : ℕ). get_or r j nan) (let q : s ≡ 8 + (s - 8) = omega arith in q)
          ∙ B.high (s - 8) (omega arith)
          ∙ lane (at + 8) (s - 8) (omega arith)
          ∙ ap (λ (j : ℕ). column vs j n) (let q : at + 8 + (s - 8) ≡ at + s = omega arith in q)

  -- the lanes of window t, chained
  module _ (t : ℕ) (T8 : t < 8) where
    abbrev xs : List Float
    xs = strided vs (pos (at + t)) (pos 1) w

    abbrev f : ℕ → Float → Float
    f k p = product_of 11 52 p (get_or (lanes_of xs) k nan)

    lane_of : (k : ℕ) → k < 8 → (n : ℕ) → turns k w ≡ n → (r : List Float) → Beside (waited at (8 * n)).m (waited (at + 8) (8 * n)).m r
        → get_or (lanes_of xs) k nan ≡ get_or r (t + k) nan
    lane_of k l n e r B =
        lane-column vs (at + t) w k l
        ∙ ap (column vs (at + t + k)) e
        ∙ ap (λ (j : ℕ). column vs j n) (let q : at + t + k ≡ at + (t + k) = omega arith in q)
        ∙ sym (sixteen n r B (t + k) (omega arith))

    -- those before the rest have one value more
    chain-is : (full further : List Float) → Beside (waited at (8 * vectors)).m (waited (at + 8) (8 * vectors)).m full
        → Beside (waited at (8 * (vectors + 1))).m (waited (at + 8) (8 * (vectors + 1))).m further → (start b c : List Float) → get_or start t nan ≡ one
        → TimesLanes start further 0 rest b → TimesLanes b full rest 8 c → get_or c t nan ≡ chained (lanes_of xs)
    unfolding in_order chained
    chain-is full further F M start b c z B C =
        C.at t T8 f (λ k l h p. ap (product_of 11 52 p) (lane_of k h vectors (let q : turns k w ≡ vectors = omega arith in q) full F))
        (B.at t T8 f (λ k l h p. ap (product_of 11 52 p) (lane_of k (omega arith) (vectors + 1) (let q : turns k w ≡ vectors + 1 = omega arith in q) further M)) z)

    -- the window's own product
    module _ (least : Float) (L : ShortLeast false w least) (A : every (not_below least) (waited at (8 * (vectors + 1))).least ≡ true)
        (B : every (not_below least) (waited (at + 8) (8 * (vectors + 1))).least ≡ true) where
      values : (p n : ℕ) → Each (λ (x : Float). T (fits binary64 x)) (strided vs (pos p) (pos 1) n)
      values p n = strided-values vs v (pos p) (pos 1) n

      by-depth : (d : ℕ) → 1 ≤ d → d ≤ 120 → d * ((w + 7) / 8) ≤ 120 → least ≡ least_of false d → not_past (chained (lanes_of xs)) ≡ true
          → ◌≡◌ {A = StableProductFloatAcc} (record { m = (split (chained (lanes_of xs))).m; e = (split (chained (lanes_of xs))).e; bad = false }) (contiguous xs)
      by-depth zero some few room is p = absurd (omega arith)
      by-depth (suc k) some few room is p =
          window-lanes k ((w + 7) / 8) (omega arith) (eight (suc k * ((w + 7) / 8)) room) xs (values (at + t) w)
          (subst (λ (n : ℕ). n ≤ 8 * ((w + 7) / 8)) (sym (length-strided vs (pos (at + t)) (pos 1) w)) (omega arith))
          (place-each (Guarded k) vs (at + t) w met) p
        where
          eight : (m : ℕ) → m ≤ 120 → 8 * m ≤ 1022
          eight m h = omega arith

          passed : (q : ℕ) → every (not_below least) (waited q (8 * (vectors + 1))).least ≡ true → Each (Guarded k) (strided vs (pos q) (pos 1) (8 * (vectors + 1)))
          passed q e =
              (guards false k (let l : k ≤ 510 = omega (arith, few) in l) 0 (start_waiting (replicate 8 one)) (values q (8 * (vectors + 1))) refl
              (ap (λ (z : Float). every (not_below z) (waited q (8 * (vectors + 1))).least) (sym is) ∙ e)).1

          met : (j : ℕ) → j < w → Guarded k (get_or vs (at + t + j) nan)
          met j h = go (ltb (t + j) (8 * (vectors + 1))) refl
            where
              go : (b : Bool) → ltb (t + j) (8 * (vectors + 1)) ≡ b → Guarded k (get_or vs (at + t + j) nan)
              go true e =
                  subst (λ (q : ℕ). Guarded k (get_or vs q nan)) (let q : at + (t + j) ≡ at + t + j = omega arith in q)
                  (each-place (Guarded k) vs at (8 * (vectors + 1)) (passed at A) (t + j) (ltb-true (t + j) (8 * (vectors + 1)) e))
              go false e =
                  let l = ltb-false (t + j) (8 * (vectors + 1)) e in
                  subst (λ (q : ℕ). Guarded k (get_or vs q nan)) (let q : at + 8 + (t + j - 8) ≡ at + t + j = omega arith in q)
                  (each-place (Guarded k) vs (at + 8) (8 * (vectors + 1)) (passed (at + 8) B) (t + j - 8) (omega arith))

      pub window-shared : (c : List Float) → get_or c t nan ≡ chained (lanes_of xs) → not_past (get_or c t nan) ≡ true → at + t + w ≤ length vs
          → ◌≡◌ {A = StableProductFloatAcc} (record { m = (split (get_or c t nan)).m; e = (split (get_or c t nan)).e; bad = false }) (contiguous (window vs (at + t) w))
      window-shared c e p h =
          ap (λ (y : Float). record { m = (split y).m; e = (split y).e; bad = false }) e
          ∙ by-depth L.depth L.some L.few L.room L.is (ap not_past (sym e) ∙ p)
          ∙ ap contiguous (sym (strided-window vs (at + t) w h))

  -- all eight
  pub eight-shared : (least : Float) → ShortLeast false w least → (fa fb ma mb : Waiting) → fa ≡ waited at (8 * vectors) → fb ≡ waited (at + 8) (8 * vectors)
      → ma ≡ waited at (8 * (vectors + 1)) → mb ≡ waited (at + 8) (8 * (vectors + 1)) → (full further b c : List Float) → Beside fa.m fb.m full
      → Beside ma.m mb.m further → TimesLanes (replicate 8 one) further 0 rest b → TimesLanes b full rest 8 c
      → every (not_below least) ma.least ≡ true → every (not_below least) mb.least ≡ true → every not_past c ≡ true → at + 8 * (vectors + 2) ≤ length vs
      → EightWindows vs w at c
  eight-shared least L fa fb ma mb ea eb ea' eb' full further b c F M B C p q past room t h =
      window-shared t h least L (ap (λ (x : Waiting). every (not_below least) x.least) (sym ea') ∙ p)
      (ap (λ (x : Waiting). every (not_below least) x.least) (sym eb') ∙ q) c
      (chain-is t h full further (subst (λ (x : Waiting). Beside (waited at (8 * vectors)).m x.m full) eb (subst (λ (x : Waiting). Beside x.m fb.m full) ea F))
      (subst (λ (x : Waiting). Beside (waited at (8 * (vectors + 1))).m x.m further) eb' (subst (λ (x : Waiting). Beside x.m mb.m further) ea' M))
      (replicate 8 one) b c (get_or-replicate 8 t one nan h) B C)
      (every-at not_past c t nan (subst (λ (n : ℕ). t < n) (sym C.long) h) past) (omega arith)
