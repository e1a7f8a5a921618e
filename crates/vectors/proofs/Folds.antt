-- What the library's `fold` and `from_fn` make of eight lanes, in the words of the specs. Assumes nothing.
use Prim.Native.Nat.{ℕ, zero, suc, ◌+◌, ◌≤◌, ◌<◌}
use mathlib.Core.Path.{◌≡◌, refl, ap, sym, ◌∙◌, subst}
use mathlib.Core.Bool.{Bool, true, false, ◌&&◌}
use mathlib.Core.List.{List, [], ◌∷◌}
use native.Mathlib.Nat.{add-zero, zero-add}
use native.Mathlib.Omega.{arith}
use lib.ListN.{length, get_or, take, length-take}
use lib.Seq.{get_or-take}
use denote.Param.Members.{Called, Mut}
use Rattle.std.specs.Array.{IsFromFnResult, IsFromFnResultFrom}
use Rattle.std.specs.List.{fold}
use Rattle.std.proofs.lemmas.List.{ext_get_or}
use Rattle.kernels.specs.Lanes.{feed, in_order, every}
use Rattle.kernels.proofs.Feeding.{feed-order, order-related}

fold-feed : {S X : Type 0} (h : S → X → S) (i : ℕ) (s : S) (xs : List X) → fold h s xs ≡ feed (λ (i : ℕ) (t : S) (x : X). h t x) i s xs
unfolding feed
fold-feed h i s [] = refl
fold-feed h i s (x ∷ xs) = fold-feed h (suc i) (h s x) xs

-- the elements of a list, one after another, by their numbers
pub fold-order : {S X : Type 0} (h : S → X → S) (d : X) (s : S) (xs : List X) → fold h s xs ≡ in_order (λ (k : ℕ) (t : S). h t (get_or xs k d)) (length xs) s
fold-order {S} {X} h d s xs = fold-feed h 0 s xs ∙ feed-order (λ (i : ℕ) (t : S) (x : X). h t x) d xs s

-- and of its first n
pub fold-prefix : {S X : Type 0} (h : S → X → S) (d : X) (s : S) (xs : List X) (n : ℕ) → n ≤ length xs
    → fold h s (take n xs) ≡ in_order (λ (k : ℕ) (t : S). h t (get_or xs k d)) n s
fold-prefix {S} {X} h d s xs n l =
    fold-order h d s (take n xs)
    ∙ ap (λ (m : ℕ). in_order (λ (k : ℕ) (t : S). h t (get_or (take n xs) k d)) m s) (simp length-take (omega arith))
    ∙ order-related (λ (k : ℕ) (t : S). h t (get_or (take n xs) k d)) (λ (k : ℕ) (t : S). h t (get_or xs k d)) (λ (t u : S). t ≡ u) n
    (λ k t u m e. ap (λ (x : X). h t x) (get_or-take n xs k d m) ∙ ap (λ (v : S). h v (get_or xs k d)) e) s s refl

every-fold : {X : Type 0} (q : X → Bool) (ok : Bool) (xs : List X) → fold (λ (b : Bool) (x : X). b && q x) ok xs ≡ (ok && every q xs)
unfolding every
every-fold q true [] = refl
every-fold q false [] = refl
every-fold q true (x ∷ xs) = every-fold q (q x) xs
every-fold q false (x ∷ xs) = every-fold q false xs

-- a test of each element
pub fold-every : {X : Type 0} (q : X → Bool) (xs : List X) → fold (λ (b : Bool) (x : X). b && q x) true xs ≡ every q xs
fold-every q xs = every-fold q true xs

pub fold-same : {S X : Type 0} (h h' : S → X → S) → ((s : S) (x : X) → h s x ≡ h' s x) → (s : S) (xs : List X) → fold h s xs ≡ fold h' s xs
fold-same {S} {X} h h' e s [] = refl
fold-same {S} {X} h h' e s (x ∷ xs) = fold-same h h' e (h s x) xs ∙ ap (λ (t : S). fold h' t xs) (e s x)

-- a call at each number in turn, of a closure that no call changes
module _ {F B : Type 0} (g : Mut F (ℕ × Unit {0}) B) (f : F) (v : ℕ → B)
    (gives : (i : ℕ) (y : B) (q : F) → Called g f (i, tt) y q → (q ≡ f) × (y ≡ v i)) where
  calls : (ys : List B) (i n : ℕ) (p : F) → p ≡ f → IsFromFnResultFrom g p ys i n → (k : ℕ) (d : B) → k < n → get_or ys (i + k) d ≡ v (i + k)
  calls ys i zero p e h k d l = absurd (omega arith)
  calls ys i (suc n) p e (q, y, at, call, rest) zero d l =
      ap (λ (j : ℕ). get_or ys j d) (add-zero i)
      ∙ at.1 d
      ∙ (gives i y q (subst (λ (p : F). Called g p (i, tt) y q) e call)).1
      ∙ ap v (sym (add-zero i))
  calls ys i (suc n) p e (q, y, at, call, rest) (suc k) d l =
      let j : i + suc k ≡ i + 1 + k = omega arith in
      ap (λ (j : ℕ). get_or ys j d) j
      ∙ calls ys (i + 1) n q (gives i y q (subst (λ (p : F). Called g p (i, tt) y q) e call)).0 rest k d (omega arith)
      ∙ ap v (sym j)

  pub from_fn-list : (d : B) (ys xs : List B) (n : ℕ) → IsFromFnResult g f ys n → length xs ≡ n → ((k : ℕ) → k < n → v k ≡ get_or xs k d) → ys ≡ xs
  from_fn-list d ys xs n h e same =
      ext_get_or d ys xs (h.long ∙ sym e)
      (λ k l. ap (λ (j : ℕ). get_or ys j d) (sym (zero-add k))
      ∙ calls ys 0 n f refl h.each k d (omega (arith, h.long))
      ∙ ap v (zero-add k)
      ∙ same k (omega (arith, h.long)))
