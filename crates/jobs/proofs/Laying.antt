-- Bytes laid into a buffer one after another, and how many a number takes.
-- Assumes nothing.
use Prim.Native.Nat.{ℕ, zero, suc, ◌+◌, ◌*◌, ◌/◌, ◌%◌, ◌^◌, ◌≤◌, ◌<◌}
use mathlib.Core.Path.{◌≡◌, refl, sym, ◌∙◌, ap}
use mathlib.Core.Bool.{Bool, cond}
use mathlib.Core.List.{List, [], ◌∷◌, ◌++◌}
use native.Mathlib.Omega.{arith}
use native.Mathlib.Nat.{add-zero, add-suc, suc-add}
use lib.ListN.{length, set}
use lib.Seq.{sets}
use lib.Dec.{ltb}
use borrow.Author.Tests.{lt-ltb, le-ltb}
use Rattle.laws.proofs.Tests.{by-test}
use Rattle.jobs.specs.Words.{MORE, bytes_of, word_of, number_bytes, fewest, payloads_of}

-- four stores
pub sets-four : (l : List ℕ) (i a b c d : ℕ) → set (set (set (set l i a) (i + 1) b) (i + 2) c) (i + 3) d ≡ sets l i (a ∷ b ∷ c ∷ d ∷ [])
sets-four l i a b c d =
    let e₁ : i + 1 ≡ suc i = omega arith in
    let e₂ : i + 2 ≡ suc (suc i) = omega arith in
    let e₃ : i + 3 ≡ suc (suc (suc i)) = omega arith in
    ap (λ (j : ℕ). set (set (set (set l i a) j b) (i + 2) c) (i + 3) d) e₁
    ∙ ap (λ (j : ℕ). set (set (set (set l i a) (suc i) b) j c) (i + 3) d) e₂
    ∙ ap (λ (j : ℕ). set (set (set (set l i a) (suc i) b) (suc (suc i)) c) j d) e₃

-- the bytes of a word, as the library gives them
pub bytes-are : (w : ℕ) → w < 2 ^ 32 → w % 2 ^ 8 ∷ w / 2 ^ 8 % 2 ^ 8 ∷ w / 2 ^ 16 % 2 ^ 8 ∷ w / 2 ^ 24 % 2 ^ 8 ∷ [] ≡ bytes_of w
unfolding bytes_of
bytes-are w l =
    let top : w / 2 ^ 24 % 2 ^ 8 ≡ w / 2 ^ 24 = omega arith in
    ap (λ (t : ℕ). w % 2 ^ 8 ∷ w / 2 ^ 8 % 2 ^ 8 ∷ w / 2 ^ 16 % 2 ^ 8 ∷ t ∷ []) top

-- what is laid behind what was laid
pub sets-append : (l : List ℕ) (i : ℕ) (vs ws : List ℕ) → sets l i (vs ++ ws) ≡ sets (sets l i vs) (i + length vs) ws
sets-append l i [] ws = ap (λ (j : ℕ). sets l j ws) (sym (add-zero i))
sets-append l i (v ∷ vs) ws =
    sets-append (set l i v) (suc i) vs ws
    ∙ ap (λ (j : ℕ). sets (sets (set l i v) (suc i) vs) j ws) (suc-add i (length vs) ∙ sym (add-suc i (length vs)))

-- ---- the fewest payloads of a number
module _ (more n : ℕ) where
  pub fewest-one : n < 2 ^ 29 → fewest (suc more) n ≡ n ∷ []
  unfolding fewest
  fewest-one h = ap (λ (t : Bool). cond t (n ∷ []) (n % 2 ^ 29 ∷ fewest more (n / 2 ^ 29))) (lt-ltb n (2 ^ 29) h)

  pub fewest-more : 2 ^ 29 ≤ n → fewest (suc more) n ≡ n % 2 ^ 29 ∷ fewest more (n / 2 ^ 29)
  unfolding fewest
  fewest-more h = ap (λ (t : Bool). cond t (n ∷ []) (n % 2 ^ 29 ∷ fewest more (n / 2 ^ 29))) (le-ltb n (2 ^ 29) h)

module _ (n : ℕ) (h : 2 ^ 29 ≤ n) where
  pub two-payloads : n / 2 ^ 29 < 2 ^ 29 → payloads_of n ≡ n % 2 ^ 29 ∷ n / 2 ^ 29 ∷ []
  two-payloads k = fewest-more 1 n h ∙ ap (λ (ps : List ℕ). n % 2 ^ 29 ∷ ps) (fewest-one 0 (n / 2 ^ 29) k)

  pub three-payloads : 2 ^ 29 ≤ n / 2 ^ 29 → payloads_of n ≡ n % 2 ^ 29 ∷ n / 2 ^ 29 % 2 ^ 29 ∷ n / 2 ^ 29 / 2 ^ 29 ∷ []
  unfolding fewest
  three-payloads k = fewest-more 1 n h ∙ ap (λ (ps : List ℕ). n % 2 ^ 29 ∷ ps) (fewest-more 0 (n / 2 ^ 29) k)

-- ---- the bytes of a number
pub length-number : (kind : ℕ) (ps : List ℕ) → length (number_bytes kind ps) ≡ 4 * length ps
unfolding number_bytes bytes_of
length-number kind [] = refl
length-number kind (p ∷ ps) = let e = length-number MORE ps in omega arith

pub some-payload : (more n : ℕ) → 1 ≤ length (fewest more n)
unfolding fewest
some-payload zero n = omega arith
some-payload (suc more) n = by-test (λ (ps : List ℕ). 1 ≤ length ps) (ltb n (2 ^ 29)) (λ t. omega arith) (λ t. omega arith)

pub few-payloads : (more n : ℕ) → length (fewest more n) ≤ suc more
unfolding fewest
few-payloads zero n = omega arith
few-payloads (suc more) n =
    by-test (λ (ps : List ℕ). length ps ≤ suc (suc more)) (ltb n (2 ^ 29)) (λ t. omega arith) (λ t. let h = few-payloads more (n / 2 ^ 29) in omega arith)

module _ (kind n : ℕ) where
  pub first-room : 4 ≤ length (number_bytes kind (payloads_of n))
  first-room = omega (arith, length-number kind (payloads_of n), some-payload 2 n)

  pub second-room : 2 ^ 29 ≤ n → 8 ≤ length (number_bytes kind (payloads_of n))
  second-room h = omega (arith, length-number kind (payloads_of n), ap length (fewest-more 1 n h), some-payload 1 (n / 2 ^ 29))

  pub third-room : 2 ^ 29 ≤ n → 2 ^ 29 ≤ n / 2 ^ 29 → 12 ≤ length (number_bytes kind (payloads_of n))
  third-room h k = omega (arith, length-number kind (payloads_of n), ap length (three-payloads n h k))

-- one word of it
number-first : (out : List ℕ) (at kind p : ℕ) (ps : List ℕ)
    → sets (sets out at (bytes_of (word_of kind p))) (at + 4) (number_bytes MORE ps) ≡ sets out at (number_bytes kind (p ∷ ps))
unfolding number_bytes bytes_of
number-first out at kind p ps = sym (sets-append out at (bytes_of (word_of kind p)) (number_bytes MORE ps))

-- a number is put: the place behind it, and the buffer
abbrev pub PutNumber : List ℕ → ℕ → ℕ → ℕ → ℕ → List ℕ → Type 0
PutNumber out at kind n next r = (next ≡ at + length (number_bytes kind (payloads_of n))) × (r ≡ sets out at (number_bytes kind (payloads_of n)))

module _ (out : List ℕ) (at kind n : ℕ) where
  -- its first word, and what is behind that
  put_first : (ps : List ℕ) → payloads_of n ≡ n % 2 ^ 29 ∷ ps → (r : List ℕ)
      → r ≡ sets (sets out at (bytes_of (word_of kind (n % 2 ^ 29)))) (at + 4) (number_bytes MORE ps) → PutNumber out at kind n (at + 4 * length (payloads_of n)) r
  put_first ps e r f = (
    ap (λ (k : ℕ). at + k) (sym (length-number kind (payloads_of n))),
    f ∙ number-first out at kind (n % 2 ^ 29) ps ∙ ap (λ (l : List ℕ). sets out at (number_bytes kind l)) (sym e),
  )

  pub put_one : n < 2 ^ 29 → (r : List ℕ) → r ≡ sets out at (bytes_of (word_of kind (n % 2 ^ 29))) → PutNumber out at kind n (at + 4) r
  unfolding number_bytes
  put_one h r f =
      let e = fewest-one 1 n h in
      let m : n ≡ n % 2 ^ 29 = omega arith in
      rw (ap (λ (l : List ℕ). at + 4 * length l) e) at (put_first [] (e ∙ ap (λ (k : ℕ). k ∷ []) m) r f)

  module _ (h : 2 ^ 29 ≤ n) where
    pub put_two : n / 2 ^ 29 < 2 ^ 29 → (r : List ℕ)
        → r ≡ sets (sets out at (bytes_of (word_of kind (n % 2 ^ 29)))) (at + 4) (bytes_of (word_of MORE (n / 2 ^ 29 % 2 ^ 29)))
        → PutNumber out at kind n (at + 8) r
    unfolding number_bytes bytes_of
    put_two k r f =
        let e = two-payloads n h k in
        let m : n / 2 ^ 29 ≡ n / 2 ^ 29 % 2 ^ 29 = omega arith in
        rw (ap (λ (l : List ℕ). at + 4 * length l) e) at (put_first _ (e ∙ ap (λ (q : ℕ). n % 2 ^ 29 ∷ q ∷ []) m) r f)

    pub put_three : 2 ^ 29 ≤ n / 2 ^ 29 → (r : List ℕ)
        → r
        ≡ sets (sets (sets out at (bytes_of (word_of kind (n % 2 ^ 29)))) (at + 4) (bytes_of (word_of MORE (n / 2 ^ 29 % 2 ^ 29)))) (at + 8)
        (bytes_of (word_of MORE (n / 2 ^ 29 / 2 ^ 29)))
        → PutNumber out at kind n (at + 12) r
    unfolding number_bytes bytes_of
    put_three k r f =
        let e = three-payloads n h k in
        let m : at + 8 ≡ at + 4 + 4 = omega arith in
        let o = sets out at (bytes_of (word_of kind (n % 2 ^ 29))) in
        let b = bytes_of (word_of MORE (n / 2 ^ 29 % 2 ^ 29)) in
        let t = bytes_of (word_of MORE (n / 2 ^ 29 / 2 ^ 29)) in
        rw (ap (λ (l : List ℕ). at + 4 * length l) e) at
        (put_first _ e r
        (f ∙ ap (λ (i : ℕ). sets (sets o (at + 4) b) i t) m ∙ number-first o (at + 4) MORE (n / 2 ^ 29 % 2 ^ 29) (n / 2 ^ 29 / 2 ^ 29 ∷ [])))
