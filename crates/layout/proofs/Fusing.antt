-- Laws of rule L4: what two neighbours become, and the fused axes in the tables.
-- Assumes nothing.
use Prim.Native.Nat.{ℕ, suc, ◌+◌, ◌*◌, ◌^◌, ◌≤◌, ◌<◌}
use mathlib.Core.Path.{◌≡◌, refl, sym, ◌∙◌, ap}
use mathlib.Core.Bool.{true, false}
use mathlib.Core.List.{List, [], ◌∷◌, ◌++◌}
use Rattle.std.specs.Prelude.{Option, None, Some, option_map}
use native.Mathlib.Omega.{arith}
use native.Mathlib.Nat.{add-zero}
use native.Mathlib.Numerals.{add-one}
use lib.ListN.{length, take, drop, get_or, set, length-append, length-set}
use lib.Seq.{take-suc, take-set-le, drop-set-lt, drop-drop, get_or-drop, get_or-set_same}
use Rattle.integers.specs.Integers.{fits_i64, eq_z}
use Rattle.layout.specs.declared.axis.ReduceOuterAxis.{ReduceOuterAxis}
use Rattle.layout.specs.declared.fuse.Joined.{Joined}
use Rattle.layout.specs.declared.fuse.Joined.TheVariants.{One, Two}
use Rattle.layout.specs.declared.fuse.Fusing.{Fusing}
use Rattle.layout.specs.Axes.{reset_fits, axis_of, no_axis}
use Rattle.layout.specs.Fuse.{reach, join_of, fuse_from, fuse}
use Rattle.layout.specs.InnerAnswers.{next_from}
use Rattle.layout.proofs.Tables.{take-from, take_past}
use Rattle.layout.proofs.Resets.{reset-large}

pub some_inj : {A : Type 0} {x y : A} → Some x ≡ Some y → x ≡ y
some_inj e = cc

pub none-some : {A : Type 0} {x : A} → ◌≡◌ {A = Option A} None (Some x) → ⊥
none-some e = cc

module _ (a b : ReduceOuterAxis) where
  pub join-over : fits_i64 (reach a) ≡ false → join_of a b ≡ None
  unfolding join_of
  join-over e = rw e

  pub join-two : fits_i64 (reach a) ≡ true → eq_z (reach a) b.source_step ≡ false → join_of a b ≡ Some Two
  unfolding join_of
  join-two e f = rw (e, f)

  pub join-no-reset : fits_i64 (reach a) ≡ true → eq_z (reach a) b.source_step ≡ true → reset_fits (a.extent * b.extent) a.source_step ≡ false
      → join_of a b ≡ None
  unfolding join_of
  join-no-reset e f g = rw (e, f, g)

  pub join-large : fits_i64 (reach a) ≡ true → eq_z (reach a) b.source_step ≡ true → 2 ^ 64 ≤ a.extent * b.extent → join_of a b ≡ None
  join-large e f g = join-no-reset e f (reset-large (a.extent * b.extent) a.source_step (omega arith))

  pub join_one : fits_i64 (reach a) ≡ true → eq_z (reach a) b.source_step ≡ true → reset_fits (a.extent * b.extent) a.source_step ≡ true
      → join_of a b ≡ Some (One (axis_of (a.extent * b.extent) a.source_step))
  unfolding join_of
  join_one e f g = rw (e, f, g)

-- ---- one step
module _ (done : List ReduceOuterAxis) (a b : ReduceOuterAxis) (bs : List ReduceOuterAxis) where
  pub fused-one : (c : ReduceOuterAxis) → join_of a b ≡ Some (One c) → fuse_from done a (b ∷ bs) ≡ fuse_from done c bs
  unfolding fuse_from
  fused-one c e = rw (e, fuse_from)

  pub fused-two : join_of a b ≡ Some Two → fuse_from done a (b ∷ bs) ≡ fuse_from (done ++ a ∷ []) b bs
  unfolding fuse_from
  fused-two e = rw (e, fuse_from)

  pub fused-over : join_of a b ≡ None → fuse_from done a (b ∷ bs) ≡ None
  unfolding fuse_from
  fused-over e = rw (e, fuse_from)

-- ---- the loop over n axes, which lay in axes₀: those before i are fused, the axis so far is the last of them
pub record Fused (axes₀ : List ReduceOuterAxis) (n : ℕ) (axes : List ReduceOuterAxis) (f : Fusing) (i : ℕ) : Type 0 where
  pub after : 1 ≤ i
  pub within : i ≤ n
  pub few : f.done < i
  pub long : length axes ≡ length axes₀
  pub rest : drop i axes ≡ drop i axes₀
  pub last : get_or axes f.done no_axis ≡ f.last
  pub fuses : fuse_from (take f.done axes) f.last (drop i (take n axes₀)) ≡ fuse (take n axes₀)

pub fused-first : (axes : List ReduceOuterAxis) (n : ℕ) → 1 ≤ n → n ≤ length axes → Fused axes n axes (record { done = 0; last = get_or axes 0 no_axis }) 1
unfolding fuse
fused-first axes n h j =
    record {
      after = omega arith;
      within = h;
      few = omega arith;
      long = refl;
      rest = refl;
      last = refl;
      fuses = ap fuse (sym (take-from axes n no_axis 0 (omega arith) j));
    }

first-left : (l : List ReduceOuterAxis) (i : ℕ) → get_or (drop i l) 0 no_axis ≡ get_or l i no_axis
first-left l i = get_or-drop i l 0 no_axis ∙ ap (λ (m : ℕ). get_or l m no_axis) (add-zero i)

module _ (axes₀ : List ReduceOuterAxis) (n : ℕ) (axes : List ReduceOuterAxis) (f : Fusing) (i : ℕ) (h : i < n) (k : n ≤ length axes₀)
    (p : Fused axes₀ n axes f i) where
  left : List ReduceOuterAxis
  left = drop (i + 1) (take n axes₀)

  -- the next axis is the input's
  so_far : fuse_from (take f.done axes) f.last (get_or axes i no_axis ∷ left) ≡ fuse (take n axes₀)
  unfolding left
  so_far =
      ap (λ (a : ReduceOuterAxis). fuse_from (take f.done axes) f.last (a ∷ left))
      (sym (first-left axes i) ∙ ap (λ (l : List ReduceOuterAxis). get_or l 0 no_axis) p.rest ∙ first-left axes₀ i)
      ∙ ap (fuse_from (take f.done axes) f.last) (sym (take-from axes₀ n no_axis i h k))
      ∙ p.fuses

  -- a check fails
  pub fused-stop : None ≡ option_map (next_from f.done (get_or axes i no_axis)) (join_of f.last (get_or axes i no_axis)) → fuse (take n axes₀) ≡ None
  fused-stop e = sym so_far ∙ fused-over (take f.done axes) f.last (get_or axes i no_axis) left (over (join_of f.last (get_or axes i no_axis)) e)
    where
      over : (o : Option Joined) → None ≡ option_map (next_from f.done (get_or axes i no_axis)) o → o ≡ None
      over None q = refl
      over (Some j) q = absurd (none-some q)

  -- the axes done and the axis so far, after the step
  stepped : (j : Joined) → join_of f.last (get_or axes i no_axis) ≡ Some j → let g = next_from f.done (get_or axes i no_axis) j in
      (g.done < i + 1) × (fuse_from (take g.done axes) g.last left ≡ fuse (take n axes₀))
  stepped (One c) e =
      let few = p.few in
      (omega arith, sym (fused-one (take f.done axes) f.last (get_or axes i no_axis) left c e) ∙ so_far)
  stepped Two e =
      let few = p.few in
      let long = p.long in (
        omega arith,
        ap (λ (l : List ReduceOuterAxis). fuse_from l (get_or axes i no_axis) left)
            (ap (λ (m : ℕ). take m axes) (add-one f.done)
            ∙ take-suc axes f.done no_axis (omega arith)
            ∙ ap (λ (a : ReduceOuterAxis). take f.done axes ++ a ∷ []) p.last)
            ∙ sym (fused-two (take f.done axes) f.last (get_or axes i no_axis) left e)
            ∙ so_far,
      )

  fused-more : (j : Joined) → join_of f.last (get_or axes i no_axis) ≡ Some j → (g : Fusing) → g ≡ next_from f.done (get_or axes i no_axis) j
      → Fused axes₀ n (set axes g.done g.last) g (i + 1)
  unfolding left
  fused-more j e g q =
      let t : (g.done < i + 1) × (fuse_from (take g.done axes) g.last left ≡ fuse (take n axes₀)) = rw q (stepped j e) in
      let m = p.after in
      let long = p.long in
      let few = t.0 in
      record {
        after = omega arith;
        within = omega arith;
        few = t.0;
        long = length-set axes g.done g.last ∙ long;
        rest = drop-set-lt (i + 1) axes g.done _ t.0 ∙ sym (drop-drop 1 i axes) ∙ ap (drop 1) p.rest ∙ drop-drop 1 i axes₀;
        last = get_or-set_same axes g.done _ no_axis (omega arith);
        fuses = ap (λ (l : List ReduceOuterAxis). fuse_from l g.last left) (take-set-le g.done axes g.done g.last (omega arith)) ∙ t.1;
      }

  pub fused-next : (g : Fusing) → Some g ≡ option_map (next_from f.done (get_or axes i no_axis)) (join_of f.last (get_or axes i no_axis))
      → Fused axes₀ n (set axes g.done g.last) g (i + 1)
  fused-next g e = go (join_of f.last (get_or axes i no_axis)) refl e
    where
      go : (o : Option Joined) → join_of f.last (get_or axes i no_axis) ≡ o → Some g ≡ option_map (next_from f.done (get_or axes i no_axis)) o
          → Fused axes₀ n (set axes g.done g.last) g (i + 1)
      go None q r = absurd (none-some (sym r))
      go (Some j) q r = fused-more j q g (some_inj r)

pub fused-all : (axes₀ : List ReduceOuterAxis) (n : ℕ) (axes : List ReduceOuterAxis) (f : Fusing) (i : ℕ) → n ≤ i → n ≤ length axes₀
    → Fused axes₀ n axes f i → fuse (take n axes₀) ≡ Some (take (f.done + 1) axes)
unfolding fuse_from
fused-all axes₀ n axes f i h k p =
    let few = p.few in
    let long = p.long in
    let within = p.within in
    sym p.fuses
    ∙ ap (fuse_from (take f.done axes) f.last) (take_past axes₀ n i h)
    ∙ ap Some
    (ap (λ (a : ReduceOuterAxis). take f.done axes ++ a ∷ []) (sym p.last)
    ∙ sym (take-suc axes f.done no_axis (omega arith))
    ∙ ap (λ (m : ℕ). take m axes) (sym (add-one f.done)))

-- ---- fusing makes no more axes
pub length-fuse_from : (done : List ReduceOuterAxis) (a : ReduceOuterAxis) (bs ys : List ReduceOuterAxis) → fuse_from done a bs ≡ Some ys
    → length ys ≤ length done + 1 + length bs
unfolding fuse_from
length-fuse_from done a [] ys e =
    let l : length (done ++ a ∷ []) ≡ length done + 1 = length-append done (a ∷ []) in
    let h : length ys ≡ length (done ++ a ∷ []) = ap length (sym (some_inj e)) in
    omega arith
length-fuse_from done a (b ∷ bs) ys e =
    go (join_of a b) refl (λ c. length-fuse_from done c bs ys) (length-fuse_from (done ++ a ∷ []) b bs ys)
  where
    go : (j : Option Joined) → join_of a b ≡ j → ((c : ReduceOuterAxis) → fuse_from done c bs ≡ Some ys → length ys ≤ length done + 1 + length bs)
        → (fuse_from (done ++ a ∷ []) b bs ≡ Some ys → length ys ≤ length (done ++ a ∷ []) + 1 + length bs) → length ys ≤ length done + 1 + suc (length bs)
    go (Some (One c)) k f g = let h = f c (sym (fused-one done a b bs c k) ∙ e) in omega arith
    go (Some Two) k f g =
        let h = g (sym (fused-two done a b bs k) ∙ e) in
        let l : length (done ++ a ∷ []) ≡ length done + 1 = length-append done (a ∷ []) in
        omega arith
    go None k f g = let z : None ≡ Some ys = sym (fused-over done a b bs k) ∙ e in absurd (none-some z)

pub length-fuse : (xs ys : List ReduceOuterAxis) → fuse xs ≡ Some ys → length ys ≤ length xs
unfolding fuse
length-fuse [] ys e = let h : length ys ≡ 0 = ap length (sym (some_inj e)) in omega arith
length-fuse (a ∷ xs) ys e = let h = length-fuse_from [] a xs ys e in omega arith
