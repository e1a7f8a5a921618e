-- A step of the reader: what the word at a place makes of the number so far.
-- Assumes nothing.
use Prim.Native.Nat.{ℕ, zero, suc, ◌+◌, ◌-◌, ◌*◌, ◌/◌, ◌%◌, ◌^◌, ◌≤◌, ◌<◌}
use mathlib.Core.Path.{◌≡◌, refl, sym, ◌∙◌, ap}
use mathlib.Core.Bool.{Bool, true, false, cond}
use mathlib.Core.List.{List}
use native.Mathlib.Omega.{arith}
use lib.ListN.{length, drop, length-drop}
use lib.Seq.{drop-drop}
use lib.Dec.{ltb}
use borrow.Author.Tests.{lt-ltb, le-ltb, ltb-true, ltb-false, eq-eqb, ne_eqb}
use Rattle.std.specs.Prelude.{◌≢◌, Option, Some, None}
use Rattle.std.specs.Option.{MatchOption, is_some}
use Rattle.refusals.specs.Refusals.{BAD_WORD, NUMBER_TOO_LONG}
use Rattle.jobs.specs.Words.{MORE}
use Rattle.jobs.specs.Reading.{first_word, first_kind, first_payload, number, faulty, further, number_from}
use Rattle.jobs.specs.InnerParts.{IsPayload}
use Rattle.jobs.proofs.Bytes.{no_word}

-- whether there is a payload of this kind says whether the word is of it
module _ (kind : ℕ) (bytes : List ℕ) where
  pub kind-there : (o : Option ℕ) → MatchOption o (first_kind bytes ≢ kind) (λ p. IsPayload kind bytes p) → true ≡ is_some o → first_kind bytes ≡ kind
  kind-there (Some p) h e = h.kind_is
  kind-there None h e = cc

  pub kind-absent : (o : Option ℕ) → MatchOption o (first_kind bytes ≢ kind) (λ p. IsPayload kind bytes p) → false ≡ is_some o → first_kind bytes ≢ kind
  kind-absent (Some p) h e = cc
  kind-absent None h e = h

module _ (bytes : List ℕ) (at : ℕ) where
  -- the payload of a word of this kind
  pub this-kind : (w : ℕ) → w < 2 ^ 32 → w ≡ first_word (drop at bytes) → (kind : ℕ) → w / 2 ^ 29 ≡ kind → IsPayload kind (drop at bytes) (w % 2 ^ 29)
  this-kind w l e kind k =
      record { kind_is = ap (λ (v : ℕ). v / 2 ^ 29) (sym e) ∙ k; is = ap (λ (v : ℕ). v % 2 ^ 29) e; whole = simp length-drop (go (ltb (length bytes - at) 4) refl) }
    where
      go : (t : Bool) → ltb (length bytes - at) 4 ≡ t → 4 ≤ length bytes - at
      go true q = let n : w ≡ 2 ^ 32 = e ∙ sym (no_word bytes at (ltb-true _ _ q)) in absurd (omega arith)
      go false q = ltb-false _ _ q

  pub small-payload : (kind p : ℕ) → IsPayload kind (drop at bytes) p → p < 2 ^ 29
  small-payload kind p q = let e = q.is in omega arith

  module _ (scale n : ℕ) where
    pub further-ends : (allowed : ℕ) → (first_kind (drop at bytes) ≡ MORE → ⊥) → number n (drop at bytes) ≡ further allowed scale n (drop at bytes)
    unfolding further
    further-ends zero k = sym (ap (λ (t : Bool). cond t (faulty NUMBER_TOO_LONG) (number n (drop at bytes))) (ne_eqb _ MORE k))
    further-ends (suc allowed) k =
        sym (ap (λ (t : Bool). cond t (cond (ltb longer (2 ^ 64)) (further allowed (scale * 2 ^ 29) longer (drop 4 (drop at bytes)))
        (faulty NUMBER_TOO_LONG)) (number n (drop at bytes))) (ne_eqb _ MORE k))
      where
        longer : ℕ
        longer = n + scale * first_payload (drop at bytes)

    pub further-none-allowed : first_kind (drop at bytes) ≡ MORE → faulty NUMBER_TOO_LONG ≡ further 0 scale n (drop at bytes)
    unfolding further
    further-none-allowed k = sym (ap (λ (t : Bool). cond t (faulty NUMBER_TOO_LONG) (number n (drop at bytes))) (eq-eqb _ MORE k))

    module _ (p : ℕ) (q : IsPayload MORE (drop at bytes) p) where
      -- what comes of a word of kind 0, by whether the number still fits
      taken : (allowed : ℕ) (t : Bool) → ltb (n + scale * p) (2 ^ 64) ≡ t
          → cond t (further allowed (scale * 2 ^ 29) (n + scale * p) (drop (at + 4) bytes)) (faulty NUMBER_TOO_LONG)
          ≡ further (suc allowed) scale n (drop at bytes)
      unfolding further
      taken allowed t f =
          sym (ap (λ (b : Bool). cond b (cond (ltb (n + scale * first_payload (drop at bytes)) (2 ^ 64))
          (further allowed (scale * 2 ^ 29) (n + scale * first_payload (drop at bytes)) (drop 4 (drop at bytes))) (faulty NUMBER_TOO_LONG))
          (number n (drop at bytes))) (eq-eqb _ MORE q.kind_is)
          ∙ ap (λ (m : ℕ). cond (ltb (n + scale * m) (2 ^ 64)) (further allowed (scale * 2 ^ 29) (n + scale * m) (drop 4 (drop at bytes)))
          (faulty NUMBER_TOO_LONG)) (sym q.is)
          ∙ ap (λ (b : Bool). cond b (further allowed (scale * 2 ^ 29) (n + scale * p) (drop 4 (drop at bytes))) (faulty NUMBER_TOO_LONG)) f
          ∙ ap (λ (l : List ℕ). cond t (further allowed (scale * 2 ^ 29) (n + scale * p) l) (faulty NUMBER_TOO_LONG)) (drop-drop 4 at bytes))

      pub further-too-long : (allowed : ℕ) → 2 ^ 64 ≤ n + scale * p → faulty NUMBER_TOO_LONG ≡ further (suc allowed) scale n (drop at bytes)
      further-too-long allowed h = taken allowed false (le-ltb _ _ h)

      pub further-goes-on : (allowed : ℕ) → n + scale * p < 2 ^ 64
          → further allowed (scale * 2 ^ 29) (n + scale * p) (drop (at + 4) bytes) ≡ further (suc allowed) scale n (drop at bytes)
      further-goes-on allowed h = taken allowed true (lt-ltb _ _ h)

  module _ (kind : ℕ) where
    pub number-none : (first_kind (drop at bytes) ≡ kind → ⊥) → faulty BAD_WORD ≡ number_from kind (drop at bytes)
    unfolding number_from
    number-none k =
        sym (ap (λ (t : Bool). cond t (further 2 (2 ^ 29) (first_payload (drop at bytes)) (drop 4 (drop at bytes))) (faulty BAD_WORD)) (ne_eqb _ kind k))

    pub number-begins : (p : ℕ) → IsPayload kind (drop at bytes) p → further 2 (2 ^ 29) p (drop (at + 4) bytes) ≡ number_from kind (drop at bytes)
    unfolding number_from
    number-begins p q =
        sym (ap (λ (t : Bool). cond t (further 2 (2 ^ 29) (first_payload (drop at bytes)) (drop 4 (drop at bytes))) (faulty BAD_WORD)) (eq-eqb _ kind q.kind_is)
        ∙ ap (λ (m : ℕ). further 2 (2 ^ 29) m (drop 4 (drop at bytes))) (sym q.is)
        ∙ ap (λ (l : List ℕ). further 2 (2 ^ 29) p l) (drop-drop 4 at bytes))
