-- A stepped piece with a bad value, by its lanes and by its values one after another. Assumes nothing.
use Prim.Native.Nat.{ℕ, ◌+◌, ◌-◌, ◌*◌, ◌≤◌, ◌<◌, min}
use mathlib.Core.Path.{◌≡◌, refl, sym, ap, ◌∙◌, subst}
use mathlib.Core.Bool.{Bool, true, false}
use mathlib.Core.List.{List, map}
use native.Mathlib.Nat.{le_of_lt, zero-add}
use native.Mathlib.Omega.{arith}
use lib.ListN.{length, get_or, replicate}
use lib.IntN.{ℤ, pos, nat_abs, ◌+ℤ◌, ◌*ℤ◌}
use lib.Dec.{lit<}
use lib.Ieee.{Float, nan}
use Rattle.floats.specs.Factor.{unit}
use Rattle.floats.specs.Splitting.{is_bad, rate_factor, split}
use Rattle.accumulator.specs.declared.StableProductFloatAcc.{StableProductFloatAcc}
use Rattle.accumulator.specs.Joining.{identity_acc}
use Rattle.kernels.specs.declared.lanes.Lanes.{Lanes}
use Rattle.laws.specs.Lists.{Each}
use Rattle.kernels.specs.Lanes.{feed, lane_of, in_order}
use Rattle.kernels.specs.InnerPlain.{lanes}
use Rattle.kernels.specs.Blocks.{start_lanes, e_of}
use Rattle.kernels.specs.Stepped.{stepped}
use Rattle.kernels.specs.InnerLanes.{LanesRepresent, LanesAfter, zeros}
use Rattle.kernels.specs.InnerStrided.{strided}
use Rattle.kernels.specs.InnerStepped.{lower, bad_step, first_bad}
use Rattle.kernels.proofs.Feeding.{feed-holds, feed-append}
use Rattle.kernels.proofs.Striding.{length-strided, strided-append}
use Rattle.kernels.proofs.Joining.{identity-is}
use Rattle.kernels.proofs.Stepping.{marked_of, joined-before, some_first}
use Rattle.kernels.proofs.Standing.{represents-split, represents-acc}
use Rattle.kernels.proofs.Blocking.{Value, represent-start}
use Rattle.vectors.specs.InnerWaiting.{one}
use Rattle.vectors.specs.InnerMarked.{product_before}
use Rattle.kernels.proofs.Stepping.{times-in}
use Rattle.vectors.proofs.Chaining.{product-in, upto}

-- ---- a piece
module _ (xs : List Float) (v : Each Value xs) where
  -- lane 0 met one: nothing is joined to the identity
  pub stepped-first : first_bad xs ≡ 0 → stepped xs ≡ record { m = identity_acc.m; e = identity_acc.e; bad = true }
  unfolding in_order
  stepped-first e =
      joined-before xs v (subst (λ (k : ℕ). k < 8) (sym e) (lit< tt))
      ∙ ap (λ (k : ℕ). marked_of (in_order (times-in (lanes 52 (map rate_factor xs))) k (unit 52))) e
      ∙ ap (λ (a : StableProductFloatAcc). record { m = a.m; e = a.e; bad = true }) (sym identity-is)

  module _ (s : Lanes) (F : LanesAfter start_lanes xs s) where
    represent : LanesRepresent zeros s (lanes 52 (map rate_factor xs))
    unfolding lanes
    represent = F.represent (replicate 8 (unit 52)) represent-start

    pub stepped-marked : s.bad ≡ true → product_before s (first_bad xs) ≡ stepped xs
    unfolding product_before
    stepped-marked e =
        let k = first_bad xs in
        let p = in_order (product-in s.m) k one in
        let z = in_order (λ (j : ℕ) (e : ℤ). e +ℤ e_of s j) k (pos 0) in
        let f = in_order (times-in (lanes 52 (map rate_factor xs))) k (unit 52) in
        let h = some_first xs v (sym (F.mark (replicate 8 (unit 52)) represent-start) ∙ e) in
        ap (λ (a : StableProductFloatAcc). record { m = a.m; e = a.e; bad = true })
        (represents-acc (split p).m (z +ℤ (split p).e) f
        (represents-split k p z f (omega arith) (upto s (lanes 52 (map rate_factor xs)) represent k (le_of_lt h))))
        ∙ sym (joined-before xs v h)

-- ---- values looked at one after another
bad-keeps : (i : ℕ) (xs : List Float) → feed bad_step i 0 xs ≡ 0
bad-keeps i xs = feed-holds bad_step (λ (k : ℕ). k ≡ 0) (λ j k x e. low (is_bad x) j k e) i 0 xs refl
  where
    low : (b : Bool) (j k : ℕ) → k ≡ 0 → lower k (lane_of j) b ≡ 0
    low true j k e = let z : min k (lane_of j) ≤ k = omega arith in omega arith
    low false j k e = e

module _ (xs : List Float) (s d : ℤ) (i : ℕ) where
  -- value i, in its lane
  pub first_more : (k : ℕ) → k ≡ first_bad (strided xs s d i)
      → lower k (lane_of i) (is_bad (get_or xs (nat_abs (s +ℤ d *ℤ pos i)) nan)) ≡ first_bad (strided xs s d (i + 1))
  unfolding feed strided first_bad
  first_more k e =
      let x = get_or xs (nat_abs (s +ℤ d *ℤ pos i)) nan in
      ap (λ (j : ℕ). lower j (lane_of i) (is_bad x)) e
      ∙ ap (λ (j : ℕ). bad_step j (first_bad (strided xs s d i)) x) (sym (zero-add (length (strided xs s d i)) ∙ length-strided xs s d i))
      ∙ sym (feed-append bad_step 0 8 (strided xs s d i) (strided xs (s +ℤ d *ℤ pos i) d 1))
      ∙ ap first_bad (sym (strided-append xs s d i 1))

  -- lane 0 is the first, whatever follows
  pub first-stays : first_bad (strided xs s d i) ≡ 0 → (n : ℕ) → i ≤ n → first_bad (strided xs s d n) ≡ 0
  unfolding first_bad
  first-stays e n h =
      ap (λ (j : ℕ). first_bad (strided xs s d j)) (let z : n ≡ i + (n - i) = omega arith in z)
      ∙ ap first_bad (strided-append xs s d i (n - i))
      ∙ feed-append bad_step 0 8 (strided xs s d i) (strided xs (s +ℤ d *ℤ pos i) d (n - i))
      ∙ ap (λ (k : ℕ). feed bad_step (0 + length (strided xs s d i)) k (strided xs (s +ℤ d *ℤ pos i) d (n - i))) e
      ∙ bad-keeps (0 + length (strided xs s d i)) (strided xs (s +ℤ d *ℤ pos i) d (n - i))

-- a bad value that is the first of its vector
pub first-none : (xs : List Float) (s d : ℤ) (i n : ℕ) → 8 * i < n
    → is_bad (get_or xs (nat_abs (s +ℤ d *ℤ pos (8 * i))) nan) ≡ true → first_bad (strided xs s d n) ≡ 0
first-none xs s d i n h e =
    first-stays xs s d (8 * i + 1)
    (sym (first_more xs s d (8 * i) k refl) ∙ ap (lower k (lane_of (8 * i))) e ∙ (let z : min k (lane_of (8 * i)) ≡ 0 = omega arith in z)) n (omega arith)
  where
    k : ℕ
    k = first_bad (strided xs s d (8 * i))
