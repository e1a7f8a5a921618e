-- A buffer after a call that has xs to write, by its code; and while a loop writes them one after another.
-- Assumes nothing.
use Prim.Native.Nat.{ℕ, ◌+◌, ◌≤◌, ◌<◌}
use mathlib.Core.Path.{◌≡◌, refl, sym, ◌∙◌, ap}
use mathlib.Core.Bool.{Bool, cond}
use mathlib.Core.List.{List, ◌++◌}
use native.Mathlib.Omega.{arith}
use native.Mathlib.Numerals.{add-one}
use native.Mathlib.Nat.{zero-add}
use lib.ListN.{length, get_or, set, take, drop}
use lib.Seq.{sets, sets-eq, paste, paste-suc, length-paste, take-length, take-append_seam, get_or-take}
use borrow.Author.Tests.{eq-eqb, ne_eqb}
use Rattle.refusals.specs.Refusals.{buffer_after}

module _ {X : Type 0} (code : ℕ) (xs out : List X) where
  by-test : Bool → List X
  by-test b = cond b (xs ++ drop (length xs) out) out

  pub buffer-kept : (code ≡ 0 → ⊥) → out ≡ buffer_after code xs out
  unfolding by-test
  buffer-kept n = sym (ap by-test (ne_eqb code 0 n))

  module _ (e : code ≡ 0) where
    pub buffer-filled : xs ++ drop (length xs) out ≡ buffer_after code xs out
    unfolding by-test
    buffer-filled = sym (ap by-test (eq-eqb code 0 e))

    -- the same, as a run of stores leaves it
    pub buffer-set : length xs ≤ length out → sets out 0 xs ≡ buffer_after code xs out
    buffer-set h =
        let z = zero-add (length xs) in
        sets-eq xs out 0 (rw z h) ∙ ap (λ (n : ℕ). xs ++ drop n out) z ∙ buffer-filled

    -- and as a loop leaves it that has gone through all of them
    pub buffer-pasted : paste out 0 xs (length xs) ≡ buffer_after code xs out
    buffer-pasted =
        ap (λ (ys : List X). ys ++ drop (0 + length xs) out) (take-length xs) ∙ ap (λ (n : ℕ). xs ++ drop n out) (zero-add (length xs)) ∙ buffer-filled

    -- what stands in its first places
    pub buffer-first : take (length xs) (buffer_after code xs out) ≡ xs
    buffer-first = ap (take (length xs)) (sym buffer-filled) ∙ take-append_seam xs (drop (length xs) out)

    pub buffer-at : (i : ℕ) → i < length xs → (d : X) → get_or (buffer_after code xs out) i d ≡ get_or xs i d
    buffer-at i h d = sym (get_or-take (length xs) (buffer_after code xs out) i d h) ∙ ap (λ (ys : List X). get_or ys i d) buffer-first

-- ---- a loop that writes all of a list: r is the buffer with i of them written
module _ {X : Type 0} (all out : List X) (room : length all ≤ length out) (i : ℕ) where
  pub pasted-more : i < length all → (r : List X) → r ≡ paste out 0 all i → (x : X) → x ≡ get_or all i x → set r i x ≡ paste out 0 all (i + 1)
  pasted-more h r e x q =
      ap (λ (o : List X). set o i x) e
      ∙ ap (set (paste out 0 all i) i) q
      ∙ ap (λ (n : ℕ). set (paste out 0 all i) n (get_or all i x)) (sym (zero-add i))
      ∙ paste-suc out 0 all i x (rw (zero-add i) (omega arith)) h
      ∙ ap (paste out 0 all) (sym (add-one i))

  pub pasted_length : i ≤ length all → (r : List X) → r ≡ paste out 0 all i → length r ≡ length out
  pasted_length h r e = ap length e ∙ length-paste out 0 all i (rw (zero-add i) (omega arith)) h

  pub pasted-all : i ≡ length all → (r : List X) → r ≡ paste out 0 all i → r ≡ buffer_after 0 all out
  pasted-all h r e = e ∙ ap (paste out 0 all) h ∙ buffer-pasted 0 all out refl
