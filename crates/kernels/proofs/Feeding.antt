-- Laws of feeding and of working lanes in order: what holds at the start and is kept by every step holds at the end, of one state or between two.
-- Any states, any values: no float and no format is in it. Assumes nothing.
use Prim.Native.Nat.{ℕ, zero, suc, ◌+◌, ◌*◌, ◌≤◌, ◌<◌, zero-le}
use mathlib.Core.Path.{◌≡◌, refl, sym, ap, ◌∙◌, subst}
use mathlib.Core.Bool.{Bool, true, false, ◌||◌, or-false, or_assoc}
use mathlib.Core.List.{List, [], ◌∷◌, ◌++◌, map}
use native.Mathlib.Nat.{le_refl, le_of_lt, add-zero, zero-add}
use native.Mathlib.Numerals.{add-one}
use native.Mathlib.Omega.{arith}
use lib.ListN.{length, get_or, set, take, drop, drop_of_length-le}
use lib.Seq.{drop-cons}
use Rattle.laws.proofs.Tests.{and_both}
use Rattle.laws.specs.Lists.{Each, none, more}
use Rattle.kernels.specs.Lanes.{feed, in_order, every, some}

-- ---- feeding
-- two states, kept in step: value x goes to the one, g x to the other, with the numbers from i up to n
pub feed-related : {S S' X Y : Type 0} (step : ℕ → S → X → S) (step' : ℕ → S' → Y → S') (g : X → Y) (P : X → Type 0) (R : ℕ → S → S' → Type 0) (n : ℕ)
    → ((i : ℕ) (s : S) (s' : S') (x : X) → i < n → P x → R i s s' → R (suc i) (step i s x) (step' i s' (g x)))
    → (i : ℕ) (s : S) (s' : S') {xs : List X} → Each P xs → i + length xs ≤ n → R i s s' → R (i + length xs) (feed step i s xs) (feed step' i s' (map g xs))
unfolding feed
feed-related step step' g P R n keep i s s' none h r = subst (λ (j : ℕ). R j s s') (sym (add-zero i)) r
feed-related step step' g P R n keep i s s' (more {x = x} {xs = xs} p ps) h r =
    subst (λ (j : ℕ). R j (feed step (suc i) (step i s x) xs) (feed step' (suc i) (step' i s' (g x)) (map g xs))) (omega arith)
    (feed-related step step' g P R n keep (suc i) (step i s x) (step' i s' (g x)) ps (omega arith) (keep i s s' x (omega arith) p r))

-- the same of one state
pub feed-keeps : {S X : Type 0} (step : ℕ → S → X → S) (P : X → Type 0) (R : ℕ → S → Type 0) (n : ℕ)
    → ((i : ℕ) (s : S) (x : X) → i < n → P x → R i s → R (suc i) (step i s x))
    → (i : ℕ) (s : S) {xs : List X} → Each P xs → i + length xs ≤ n → R i s → R (i + length xs) (feed step i s xs)
unfolding feed
feed-keeps step P R n keep i s none h r = subst (λ (j : ℕ). R j s) (sym (add-zero i)) r
feed-keeps step P R n keep i s (more {x = x} {xs = xs} p ps) h r =
    subst (λ (j : ℕ). R j (feed step (suc i) (step i s x) xs)) (omega arith)
    (feed-keeps step P R n keep (suc i) (step i s x) ps (omega arith) (keep i s x (omega arith) p r))

module _ {S X : Type 0} (step : ℕ → S → X → S) where
  -- what every step keeps, whatever the number and the value
  pub feed-holds : (R : S → Type 0) → ((i : ℕ) (s : S) (x : X) → R s → R (step i s x)) → (i : ℕ) (s : S) (xs : List X) → R s → R (feed step i s xs)
  unfolding feed
  feed-holds R keep i s [] r = r
  feed-holds R keep i s (x ∷ xs) r = feed-holds R keep (suc i) (step i s x) xs (keep i s x r)

  pub feed-append : (i : ℕ) (s : S) (xs ys : List X) → feed step i s (xs ++ ys) ≡ feed step (i + length xs) (feed step i s xs) ys
  unfolding feed
  feed-append i s [] ys = ap (λ (j : ℕ). feed step j s ys) (sym (add-zero i))
  feed-append i s (x ∷ xs) ys = feed-append (suc i) (step i s x) xs ys ∙ ap (λ (j : ℕ). feed step j (feed step (suc i) (step i s x) xs) ys) (omega arith)

  -- a step that goes by the number mod 8 may begin at any multiple of 8
  pub feed-shift : ((i : ℕ) (s : S) (x : X) → step (i + 8) s x ≡ step i s x) → (i : ℕ) (s : S) (xs : List X) → feed step (i + 8) s xs ≡ feed step i s xs
  unfolding feed
  feed-shift same i s [] = refl
  feed-shift same i s (x ∷ xs) =
      ap (λ (u : S). feed step (suc (i + 8)) u xs) (same i s x)
      ∙ ap (λ (j : ℕ). feed step j (step i s x) xs) (omega arith)
      ∙ feed-shift same (suc i) (step i s x) xs

  pub feed-eights : ((i : ℕ) (s : S) (x : X) → step (i + 8) s x ≡ step i s x) → (k : ℕ) (s : S) (xs : List X) → feed step (8 * k) s xs ≡ feed step 0 s xs
  feed-eights same zero s xs = refl
  feed-eights same (suc k) s xs = ap (λ (j : ℕ). feed step j s xs) (omega arith) ∙ feed-shift same (8 * k) s xs ∙ feed-eights same k s xs

  -- one list after another, the first of whole vectors
  pub feed-vectors : ((i : ℕ) (s : S) (x : X) → step (i + 8) s x ≡ step i s x) → (i : ℕ) (s : S) (xs ys : List X) → length xs ≡ 8 * i
      → feed step 0 s (xs ++ ys) ≡ feed step 0 (feed step 0 s xs) ys
  feed-vectors same i s xs ys h =
      feed-append 0 s xs ys ∙ ap (λ (n : ℕ). feed step n (feed step 0 s xs) ys) (zero-add (length xs) ∙ h) ∙ feed-eights same i (feed step 0 s xs) ys

-- ---- lanes in order
pub order-keeps : {S : Type 0} (f : ℕ → S → S) (R : ℕ → S → Type 0) (n : ℕ) → ((k : ℕ) (s : S) → k < n → R k s → R (suc k) (f k s)) → (s : S) → R 0 s
    → R n (in_order f n s)
unfolding in_order
order-keeps f R n keep s r = go n (le_refl n)
  where
    go : (m : ℕ) → m ≤ n → R m (in_order f m s)
    go zero h = r
    go (suc m) h = keep m (in_order f m s) h (go m (le_of_lt h))

pub order-related : {S S' : Type 0} (f : ℕ → S → S) (f' : ℕ → S' → S') (R : S → S' → Type 0) (n : ℕ)
    → ((k : ℕ) (s : S) (s' : S') → k < n → R s s' → R (f k s) (f' k s')) → (s : S) (s' : S') → R s s' → R (in_order f n s) (in_order f' n s')
unfolding in_order
order-related f f' R n keep s s' r = go n (le_refl n)
  where
    go : (m : ℕ) → m ≤ n → R (in_order f m s) (in_order f' m s')
    go zero h = r
    go (suc m) h = keep m (in_order f m s) (in_order f' m s') h (go m (le_of_lt h))

-- ---- a loop that has worked k of n lanes, or has come to value k of n
pub record Worked {S : Type 0} (f : ℕ → S → S) (n : ℕ) (s t : S) (k : ℕ) : Type 0 where
  pub upto : k ≤ n
  pub is : t ≡ in_order f k s

module _ {S : Type 0} {f : ℕ → S → S} {n : ℕ} {s t : S} where
  pub worked-none : t ≡ s → Worked f n s t 0
  unfolding in_order
  worked-none e = record { upto = zero-le; is = e }

  -- one more
  pub worked-more : {u : S} {k : ℕ} → Worked f n s t k → k < n → u ≡ f k t → Worked f n s u (k + 1)
  unfolding in_order
  worked-more {k = k} w h e = record { upto = omega arith; is = e ∙ ap (f k) w.is ∙ ap (λ (m : ℕ). in_order f m s) (sym (add-one k)) }

  -- all done
  pub worked-all : {k : ℕ} → Worked f n s t k → n ≤ k → t ≡ in_order f n s
  worked-all {k} w h = w.is ∙ ap (λ (m : ℕ). in_order f m s) (let e : k ≡ n = omega arith in e)

-- value k by its number
abbrev pub over : {S X : Type 0} → (ℕ → S → X → S) → List X → X → ℕ → S → S
over step xs d k t = step k t (get_or xs k d)

module _ {S X : Type 0} (step : ℕ → S → X → S) (d : X) (xs : List X) where
  pub feed-order : (s : S) → feed step 0 s xs ≡ in_order (over step xs d) (length xs) s
  unfolding feed
  feed-order s =
      sym
      (order-keeps (over step xs d) (λ (k : ℕ) (t : S). feed step k t (drop k xs) ≡ feed step 0 s xs) (length xs)
      (λ k t h e. ap (feed step k t) (sym (drop-cons xs k d h)) ∙ e) s refl)
      ∙ ap (feed step (length xs) (in_order (over step xs d) (length xs) s)) (drop_of_length-le xs (le_refl (length xs)))

  pub worked-fed : {n k : ℕ} {s t : S} → length xs ≡ n → Worked (over step xs d) n s t k → n ≤ k → t ≡ feed step 0 s xs
  worked-fed {s = s} l w h = worked-all w h ∙ ap (λ (m : ℕ). in_order (over step xs d) m s) (sym l) ∙ sym (feed-order s)

-- ---- tests of every value
pub every-each : {X : Type 0} (p : X → Bool) (xs : List X) → every p xs ≡ true → Each (λ (x : X). p x ≡ true) xs
unfolding every
every-each p [] h = none
every-each p (x ∷ xs) h = let b = and_both (p x) (every p xs) h in more b.0 (every-each p xs b.1)

-- the same values, by what each is
pub each_map : {X : Type 0} (P Q : X → Type 0) → ((x : X) → P x → Q x) → {xs : List X} → Each P xs → Each Q xs
each_map P Q f none = none
each_map P Q f (more {x = x} p ps) = more (f x p) (each_map P Q f ps)

pub each_both : {X : Type 0} (P Q : X → Type 0) {xs : List X} → Each P xs → Each Q xs → Each (λ (x : X). P x × Q x) xs
each_both P Q none none = none
each_both P Q (more p ps) (more q qs) = more (p, q) (each_both P Q ps qs)

pub each_of : {X Y : Type 0} (g : X → Y) (P : X → Type 0) (Q : Y → Type 0) → ((x : X) → P x → Q (g x)) → {xs : List X} → Each P xs → Each Q (map g xs)
each_of g P Q f none = none
each_of g P Q f (more {x = x} p ps) = more (f x p) (each_of g P Q f ps)

pub each_take : {X : Type 0} (P : X → Type 0) (n : ℕ) {xs : List X} → Each P xs → Each P (take n xs)
each_take P zero ps = none
each_take P (suc n) none = none
each_take P (suc n) (more p ps) = more p (each_take P n ps)

pub each-drop : {X : Type 0} (P : X → Type 0) (n : ℕ) {xs : List X} → Each P xs → Each P (drop n xs)
each-drop P zero ps = ps
each-drop P (suc n) none = none
each-drop P (suc n) (more p ps) = each-drop P n ps

or_swap : (p q r : Bool) → ((p || q) || r) ≡ ((p || r) || q)
or_swap true q r = refl
or_swap false true true = refl
or_swap false true false = refl
or_swap false false true = refl
or_swap false false false = refl

-- the mark of a state, set by every value of which p holds
pub feed-mark : {S X : Type 0} (step : ℕ → S → X → S) (mark : S → Bool) (p : X → Bool) → ((i : ℕ) (s : S) (x : X) → mark (step i s x) ≡ (mark s || p x))
    → (i : ℕ) (s : S) (xs : List X) → mark (feed step i s xs) ≡ (mark s || some p xs)
unfolding feed some
feed-mark step mark p same i s [] = sym (or-false (mark s))
feed-mark step mark p same i s (x ∷ xs) =
    feed-mark step mark p same (suc i) (step i s x) xs ∙ ap (λ (b : Bool). b || some p xs) (same i s x) ∙ or_assoc (mark s) (p x) (some p xs)

pub some-append : {X : Type 0} (p : X → Bool) (xs ys : List X) → some p (xs ++ ys) ≡ (some p xs || some p ys)
unfolding some
some-append p [] ys = refl
some-append p (x ∷ xs) ys = ap (λ (b : Bool). p x || b) (some-append p xs ys) ∙ sym (or_assoc (p x) (some p xs) (some p ys))

pub some_one : {X : Type 0} (p : X → Bool) (x : X) → some p (x ∷ []) ≡ p x
unfolding some
some_one p x = or-false (p x)

-- one place of a list gets the mark q besides its own
pub some-set : {X : Type 0} (p : X → Bool) (xs : List X) (k : ℕ) (d y : X) (q : Bool) → k < length xs → p y ≡ (p (get_or xs k d) || q)
    → some p (set xs k y) ≡ (some p xs || q)
unfolding some
some-set p [] k d y q h e = absurd (omega arith)
some-set p (x ∷ xs) zero d y q h e = ap (λ (b : Bool). b || some p xs) e ∙ or_swap (p x) q (some p xs)
some-set p (x ∷ xs) (suc k) d y q h e = ap (λ (b : Bool). p x || b) (some-set p xs k d y q (omega arith) e) ∙ sym (or_assoc (p x) (some p xs) q)

pub some-none : {X : Type 0} (p : X → Bool) {xs : List X} → Each (λ (x : X). p x ≡ false) xs → some p xs ≡ false
unfolding some
some-none p none = refl
some-none p (more {xs = xs} h hs) = ap (λ (b : Bool). b || some p xs) h ∙ some-none p hs
