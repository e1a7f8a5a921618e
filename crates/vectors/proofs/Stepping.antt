-- The steps of a piece: vectors that are guarded, and one step after another. Assumes nothing.
use Prim.Native.Nat.{ℕ, suc, ◌+◌, ◌-◌, ◌*◌, ◌/◌, ◌%◌, ◌^◌, ◌≤◌, ◌<◌, min}
use mathlib.Core.Path.{◌≡◌, refl, sym, ◌∙◌, subst}
use mathlib.Core.Bool.{Bool, true, false, ◌||◌}
use mathlib.Core.List.{List, ◌++◌}
use native.Mathlib.Nat.{le_of_lt}
use native.Mathlib.Omega.{arith}
use lib.ListN.{length, get_or}
use lib.IntN.{ℤ, pos, ◌+ℤ◌, ◌*ℤ◌}
use lib.Dec.{T, ltb}
use lib.Ieee.{Float, nan, binary64, fits}
use borrow.Author.Tests.{ltb-true, ltb-false}
use Rattle.floats.proofs.Splitting.{farthest}
use Rattle.kernels.specs.declared.lanes.Lanes.{Lanes}
use Rattle.laws.specs.Lists.{Each}
use Rattle.kernels.specs.Lanes.{every}
use Rattle.kernels.specs.InnerStrided.{strided}
use Rattle.kernels.specs.Blocks.{start_lanes, renorm}
use Rattle.kernels.specs.InnerLanes.{SmallLanes, LanesAfter}
use Rattle.kernels.proofs.Striding.{length-strided, strided-values, strided-append}
use Rattle.kernels.proofs.LaneSizes.{lanes-le}
use Rattle.kernels.proofs.Blocking.{Value}
use Rattle.vectors.specs.InnerWaiting.{vector_of, padded, not_past, guarded}
use Rattle.vectors.specs.InnerSteps.{NotYetNormalised}
use Rattle.vectors.proofs.Vectors.{vector-padded, vector-long, next-whole, next_last}
use Rattle.vectors.proofs.Mixed.{Mixed, mixed-none, mixed-more, mixed-fed, mixed-whole}
use Rattle.vectors.proofs.Feds.{fed-append, fed-pad}
use Rattle.vectors.proofs.Shorts.{padded-values}

-- ---- vectors of a piece of n values, the last with 1.0 after its values
pub record Vectors (all : Bool) (N : ℕ) (s : Lanes) (xs : List Float) (b d : ℤ) (n i : ℕ) (t : Lanes) : Type 0 where
  pub long : length t.m ≡ 8
  pub small : SmallLanes (N + 8 * farthest * i) t
  pub whole : 8 * i ≤ n → Mixed all N s (strided xs b d (8 * i)) i t
  pub last : n < 8 * i → Mixed all N s (padded (strided xs b d n)) i t

module _ (all : Bool) (N : ℕ) (s : Lanes) (xs : List Float) (b d : ℤ) (n : ℕ) where
  pub vectors-none : length s.m ≡ 8 → SmallLanes N s → Vectors all N s xs b d n 0 s
  unfolding strided
  vectors-none l h = record { long = l; small = (mixed-none all N s l h).small; whole = λ z. mixed-none all N s l h; last = λ z. absurd (omega arith) }

  vector-values : ((i : ℕ) → T (fits binary64 (get_or xs i nan))) → (k i : ℕ) → k ≤ 8 → Each Value (vector_of (strided xs (b +ℤ d *ℤ pos (8 * i)) d k))
  vector-values v k i h =
      let ys = strided xs (b +ℤ d *ℤ pos (8 * i)) d k in
      let l = length-strided xs (b +ℤ d *ℤ pos (8 * i)) d k in
      subst (Each Value) (sym (vector-padded ys (subst (λ (m : ℕ). m ≤ 8) (sym l) h)))
      (padded-values ys (8 - length ys) (strided-values xs v (b +ℤ d *ℤ pos (8 * i)) d k))

  module _ (v : (i : ℕ) → T (fits binary64 (get_or xs i nan))) (i : ℕ) (t u : Lanes) (R : Vectors all N s xs b d n i t) (few : i < 32) (more_left : 8 * i < n)
      (g : u ≡ guarded all t (vector_of (strided xs (b +ℤ d *ℤ pos (8 * i)) d (min 8 (n - 8 * i))))) where
    before : Mixed all N s (strided xs b d (8 * i)) i t
    before = R.whole (le_of_lt more_left)

    joined : Mixed all N s (strided xs b d (8 * i) ++ vector_of (strided xs (b +ℤ d *ℤ pos (8 * i)) d (min 8 (n - 8 * i)))) (suc i) u
    joined =
        mixed-more all N s (strided xs b d (8 * i)) i t u (vector_of (strided xs (b +ℤ d *ℤ pos (8 * i)) d (min 8 (n - 8 * i)))) before few (vector-long _)
        (vector-values v (min 8 (n - 8 * i)) i (omega arith)) g

    pub vectors-next : Vectors all N s xs b d n (suc i) u
    vectors-next = record {
      long = joined.long;
      small = joined.small;
      whole = λ h. subst (λ (l : List Float). Mixed all N s l (suc i) u) (next-whole xs b d n i more_left h) joined;
      last = λ h. subst (λ (l : List Float). Mixed all N s l (suc i) u) (next_last xs b d n i more_left h) joined;
    }

  pub vectors-fed : N ≤ 2 ^ 58 → (i : ℕ) (t : Lanes) → Vectors all N s xs b d n i t → i ≤ 32 → n ≤ 8 * i → 8 * i < n + 8 → (all || every not_past t.m) ≡ true
      → NotYetNormalised s (strided xs b d n) t
  vectors-fed room i t R few up down ok = go (ltb n (8 * i)) refl
    where
      go : (c : Bool) → ltb n (8 * i) ≡ c → NotYetNormalised s (strided xs b d n) t
      go true e =
          let r = R.last (ltb-true n (8 * i) e) in
          record {
            fed = fed-pad s (renorm t) (strided xs b d n) (7 - (length (strided xs b d n) + 7) % 8)
                (mixed-fed all N s (padded (strided xs b d n)) i t r few ok);
            small = lanes-le (N + 8 * farthest * i) (2 ^ 59) t (omega arith) R.small;
            whole = mixed-whole all N s (padded (strided xs b d n)) i t r few ok;
          }
      go false e =
          let same : 8 * i ≡ n = (let a = ltb-false n (8 * i) e in omega arith) in
          let r = R.whole (ltb-false n (8 * i) e) in
          record {
            fed = subst (λ (k : ℕ). LanesAfter s (strided xs b d k) (renorm t)) same
                (mixed-fed all N s (strided xs b d (8 * i)) i t r few ok);
            small = lanes-le (N + 8 * farthest * i) (2 ^ 59) t (omega arith) R.small;
            whole = mixed-whole all N s (strided xs b d (8 * i)) i t r few ok;
          }

-- ---- one step after another: i values are whole vectors
pub fed-step : (xs : List Float) (b d : ℤ) (i n : ℕ) (s r : Lanes) → i % 8 ≡ 0 → LanesAfter start_lanes (strided xs b d i) s
    → LanesAfter s (strided xs (b +ℤ d *ℤ pos i) d n) r → LanesAfter start_lanes (strided xs b d (i + n)) r
fed-step xs b d i n s r e F G =
    subst (λ (ys : List Float). LanesAfter start_lanes ys r) (sym (strided-append xs b d i n))
    (fed-append start_lanes s r (strided xs b d i) (strided xs (b +ℤ d *ℤ pos i) d n) (i / 8)
    (length-strided xs b d i ∙ (let z : i ≡ 8 * (i / 8) = omega arith in z)) F G)
