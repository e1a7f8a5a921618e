-- Fusing changes no element's offset. Assumes nothing.
use Prim.Native.Nat.{ℕ, ◌+◌, ◌*◌, ◌/◌, ◌%◌}
use mathlib.Core.Path.{◌≡◌, refl, sym, ◌∙◌, ap, subst}
use mathlib.Core.Bool.{Bool, true, false}
use mathlib.Core.List.{List, [], ◌∷◌, ◌++◌, append_assoc}
use Rattle.std.specs.Prelude.{Option, None, Some}
use native.Mathlib.Omega.{arith}
use native.Mathlib.Nat.{mul_comm, mul_assoc, div-div-eq-div-mul, mul-pos}
use lib.Arith.{mod-mul}
use lib.IntN.{ℤ, pos, ◌+ℤ◌, ◌*ℤ◌}
use Rattle.integers.specs.Integers.{fits_i64, eq_z}
use Rattle.integers.proofs.Difference.{ints, atoms}
use Rattle.integers.proofs.Machine.{eq_z-true}
use Rattle.layout.specs.declared.axis.ReduceOuterAxis.{ReduceOuterAxis}
use Rattle.layout.specs.declared.fuse.Joined.{Joined}
use Rattle.layout.specs.declared.fuse.Joined.TheVariants.{One, Two}
use Rattle.layout.specs.Axes.{reset_fits, axis_of}
use Rattle.offsets.specs.InnerCursors.{Axes}
use Rattle.layout.specs.Fuse.{reach, join_of, fuse_from}
use Rattle.layout.proofs.Fusing.{join-over, join-two, join-no-reset, join_one, fused-one, fused-two, fused-over, some_inj, none-some}
use Rattle.offsets.specs.Elements.{offset}
use Rattle.layout.specs.InnerTables.{elements}
use Rattle.offsets.proofs.Stepping.{offset-cons}

-- the same elements at the same offsets
pub record SameElements (xs ys : List ReduceOuterAxis) : Type 0 where
  pub axes : Axes ys
  pub elements : elements ys ≡ elements xs
  pub offsets : (base : ℤ) (k : ℕ) → offset ys base k ≡ offset xs base k

pub axes-append : (xs ys : List ReduceOuterAxis) → Axes xs → Axes ys → Axes (xs ++ ys)
unfolding Axes
axes-append [] ys w v = v
axes-append (a ∷ xs) ys w v = (w.0, axes-append xs ys w.1 v)

pub axes-left : (xs ys : List ReduceOuterAxis) → Axes (xs ++ ys) → Axes xs
unfolding Axes
axes-left [] ys w = tt
axes-left (a ∷ xs) ys w = (w.0, axes-left xs ys w.1)

pub axes-right : (xs ys : List ReduceOuterAxis) → Axes (xs ++ ys) → Axes ys
unfolding Axes
axes-right [] ys w = w
axes-right (a ∷ xs) ys w = axes-right xs ys w.1

-- under axes that stand before them
same_after : (done xs ys : List ReduceOuterAxis) → Axes done → SameElements xs ys → SameElements (done ++ xs) (done ++ ys)
unfolding elements
same_after [] xs ys w s = s
same_after (a ∷ done) xs ys w s =
    let r = same_after done xs ys (rest a done w) s in
    record {
      axes = axes-append (a ∷ done) ys w s.axes;
      elements = ap (λ (n : ℕ). a.extent * n) r.elements;
      offsets =
          λ base k. offset-cons a (done ++ ys) base k
          ∙ r.offsets (base +ℤ a.source_step *ℤ pos (k % a.extent)) (k / a.extent)
          ∙ sym (offset-cons a (done ++ xs) base k);
    }
  where
    rest : (a : ReduceOuterAxis) (done : List ReduceOuterAxis) → Axes (a ∷ done) → Axes done
    rest a done w = axes-right (a ∷ []) done w

pub same-trans : (xs ys zs : List ReduceOuterAxis) → SameElements xs ys → SameElements ys zs → SameElements xs zs
same-trans xs ys zs s t = record { axes = t.axes; elements = t.elements ∙ s.elements; offsets = λ base k. t.offsets base k ∙ s.offsets base k }

-- two axes that meet, as one
module _ (a b : ReduceOuterAxis) (xs : List ReduceOuterAxis) (w : Axes (a ∷ b ∷ xs)) (m : reach a ≡ b.source_step)
    (f : reset_fits (a.extent * b.extent) a.source_step ≡ true) where
  digit : (k : ℕ) → k % (a.extent * b.extent) ≡ (k / a.extent % b.extent) * a.extent + k % a.extent
  unfolding Axes
  digit k = ap (λ (n : ℕ). k % n) (mul_comm a.extent b.extent) ∙ mod-mul k w.1.0.1 w.0.1

  shares : (base : ℤ) (k : ℕ)
      → base +ℤ a.source_step *ℤ pos (k % (a.extent * b.extent))
      ≡ (base +ℤ a.source_step *ℤ pos (k % a.extent)) +ℤ b.source_step *ℤ pos (k / a.extent % b.extent)
  unfolding reach
  shares base k =
      ap (λ (d : ℕ). base +ℤ a.source_step *ℤ pos d) (digit k)
      ∙ ring base a.source_step (k / a.extent % b.extent) a.extent (k % a.extent)
      ∙ ap (λ (z : ℤ). (base +ℤ a.source_step *ℤ pos (k % a.extent)) +ℤ z *ℤ pos (k / a.extent % b.extent)) m
    where
      ring : (b s : ℤ) (q e r : ℕ) → b +ℤ s *ℤ pos (q * e + r) ≡ (b +ℤ s *ℤ pos r) +ℤ (s *ℤ pos e) *ℤ pos q
      ring b s q e r = simp ints (simp atoms (omega arith))

  same-both : SameElements (a ∷ b ∷ xs) (axis_of (a.extent * b.extent) a.source_step ∷ xs)
  unfolding axis_of Axes elements
  same-both =
      record {
        axes = ((refl, mul-pos w.0.1 w.1.0.1, f), w.1.1);
        elements = mul_assoc a.extent b.extent (elements xs);
        offsets = λ base k.
            offset-cons (axis_of (a.extent * b.extent) a.source_step) xs base k
            ∙ ap (λ (z : ℤ). offset xs z (k / (a.extent * b.extent))) (shares base k)
            ∙ ap (offset xs ((base +ℤ a.source_step *ℤ pos (k % a.extent)) +ℤ b.source_step *ℤ pos (k / a.extent % b.extent)))
            (sym (div-div-eq-div-mul k a.extent b.extent))
            ∙ sym (offset-cons a (b ∷ xs) base k ∙ offset-cons b xs (base +ℤ a.source_step *ℤ pos (k % a.extent)) (k / a.extent));
      }

-- what a join tells of two axes
fused-pair : (a b c : ReduceOuterAxis) → join_of a b ≡ Some (One c)
    → (c ≡ axis_of (a.extent * b.extent) a.source_step) × (reach a ≡ b.source_step) × (reset_fits (a.extent * b.extent) a.source_step ≡ true)
fused-pair a b c e = go (fits_i64 (reach a)) (eq_z (reach a) b.source_step) (reset_fits (a.extent * b.extent) a.source_step) refl refl refl
  where
    Goal : Type 0
    Goal =
        (c ≡ axis_of (a.extent * b.extent) a.source_step) × (reach a ≡ b.source_step) × (reset_fits (a.extent * b.extent) a.source_step ≡ true)

    bad : {j : Option Joined} → join_of a b ≡ j → (j ≡ Some (One c) → ⊥) → Goal
    bad f n = absurd (n (sym f ∙ e))

    over : None ≡ Some (One c) → ⊥
    over q = cc

    two : Some Two ≡ Some (One c) → ⊥
    two q = cc

    one : (x y : ReduceOuterAxis) → Some (One x) ≡ Some (One y) → x ≡ y
    one x y q = cc

    go : (x y z : Bool) → fits_i64 (reach a) ≡ x → eq_z (reach a) b.source_step ≡ y → reset_fits (a.extent * b.extent) a.source_step ≡ z → Goal
    go false y z p q r = bad (join-over a b p) over
    go true false z p q r = bad (join-two a b p q) two
    go true true false p q r = bad (join-no-reset a b p q r) over
    go true true true p q r =
        (one c (axis_of (a.extent * b.extent) a.source_step) (sym e ∙ join_one a b p q r), eq_z-true (reach a) b.source_step q, r)

-- fusing changes no element's offset
pub fuse-same : (done : List ReduceOuterAxis) (a : ReduceOuterAxis) (bs ys : List ReduceOuterAxis) → Axes (done ++ a ∷ bs) → fuse_from done a bs ≡ Some ys
    → SameElements (done ++ a ∷ bs) ys
unfolding fuse_from
fuse-same done a [] ys w e =
    let q : done ++ a ∷ [] ≡ ys = some_inj e in
    subst (λ (l : List ReduceOuterAxis). SameElements (done ++ a ∷ []) l) q (record { axes = w; elements = refl; offsets = λ base k. refl })
fuse-same done a (b ∷ bs) ys w e =
    go (join_of a b) refl (λ c. fuse-same done c bs ys) (fuse-same (done ++ a ∷ []) b bs ys)
  where
    tail : Axes (a ∷ b ∷ bs)
    tail = axes-right done (a ∷ b ∷ bs) w

    go : (j : Option Joined) → join_of a b ≡ j → ((c : ReduceOuterAxis) → Axes (done ++ c ∷ bs) → fuse_from done c bs ≡ Some ys → SameElements (done ++ c ∷ bs) ys)
        → (Axes (done ++ a ∷ [] ++ b ∷ bs) → fuse_from (done ++ a ∷ []) b bs ≡ Some ys → SameElements (done ++ a ∷ [] ++ b ∷ bs) ys)
        → SameElements (done ++ a ∷ b ∷ bs) ys
    go (Some (One c)) q f g =
        let j = fused-pair a b c q in
        let s : SameElements (done ++ a ∷ b ∷ bs) (done ++ c ∷ bs) = rw j.0 (same_after done (a ∷ b ∷ bs) _ (axes-left done (a ∷ b ∷ bs) w)
        (same-both a b bs tail j.1 j.2)) in
        same-trans (done ++ a ∷ b ∷ bs) (done ++ c ∷ bs) ys s (f c s.axes (sym (fused-one done a b bs c q) ∙ e))
    go (Some Two) q f g =
        let m = append_assoc done (a ∷ []) (b ∷ bs) in
        subst (λ (l : List ReduceOuterAxis). SameElements l ys) m (g (rw m w) (sym (fused-two done a b bs q) ∙ e))
    go None q f g = absurd (none-some (sym (fused-over done a b bs q) ∙ e))
