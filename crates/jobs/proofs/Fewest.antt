-- The fewest payloads of a number: they carry it, and no others that do are fewer.
-- Assumes nothing.
use Prim.Native.Nat.{ℕ, zero, suc, ◌/◌, ◌%◌, ◌^◌, ◌≤◌, ◌<◌}
use mathlib.Core.Path.{◌≡◌}
use mathlib.Core.List.{List, [], ◌∷◌}
use native.Mathlib.Omega.{arith}
use native.Mathlib.Nat.{pow-suc}
use lib.ListN.{length}
use lib.Dec.{ltb}
use borrow.Author.Tests.{ltb-true, ltb-false}
use Rattle.laws.specs.Lists.{Each, none, more}
use Rattle.jobs.specs.Words.{carried, fewest, payloads_of}
use Rattle.jobs.specs.Theorems.{Carry, FewestWords}
use Rattle.laws.proofs.Tests.{by-test}
use Rattle.jobs.proofs.Grammar.{Payload}

-- payloads of n, at most so many behind the first
record Carried (behind n : ℕ) (ps : List ℕ) : Type 0 where
  first : 1 ≤ length ps
  few : length ps ≤ suc behind
  small : Each Payload ps
  is : carried ps ≡ n

one-carries : (behind n : ℕ) → n < 2 ^ 29 → Carried behind n (n ∷ [])
unfolding carried
one-carries behind n h = record { first = omega arith; few = omega arith; small = more h none; is = omega arith }

more-carries : (behind n : ℕ) (ps : List ℕ) → Carried behind (n / 2 ^ 29) ps → Carried (suc behind) n (n % 2 ^ 29 ∷ ps)
unfolding carried
more-carries behind n ps c =
    let h : n % 2 ^ 29 < 2 ^ 29 = omega arith in
    record { first = omega arith; few = omega arith; small = more h c.small; is = omega arith }

fewest-carries : (behind n : ℕ) → n < (2 ^ 29) ^ suc behind → Carried behind n (fewest behind n)
unfolding fewest
fewest-carries zero n h = one-carries zero n h
fewest-carries (suc behind) n h =
    by-test (Carried (suc behind) n) (ltb n (2 ^ 29)) (λ t. one-carries (suc behind) n (ltb-true n (2 ^ 29) t))
    (λ t. more-carries behind n (fewest behind (n / 2 ^ 29)) (fewest-carries behind (n / 2 ^ 29) (omega (arith, pow-suc (2 ^ 29) (suc behind)))))

pub payloads-carry : (n : ℕ) → n < 2 ^ 64 → Carry n (payloads_of n)
payloads-carry n h =
    let c = fewest-carries 2 n (omega arith) in
    record { first = c.first; few = c.few; small = c.small; is = c.is; fits = h }

fewest-least : (behind n : ℕ) {ps : List ℕ} → Each Payload ps → carried ps ≡ n → 1 ≤ length ps → length (fewest behind n) ≤ length ps
unfolding fewest carried
fewest-least zero n e q l = l
fewest-least (suc behind) n none q l = absurd (omega arith)
fewest-least (suc behind) n (more h none) q l =
    by-test (λ (qs : List ℕ). length qs ≤ 1) (ltb n (2 ^ 29)) (λ t. l) (λ t. let g = ltb-false n (2 ^ 29) t in absurd (omega arith))
fewest-least (suc behind) n {ps} (more h (more g e)) i l =
    by-test (λ (rs : List ℕ). length rs ≤ length ps) (ltb n (2 ^ 29)) (λ t. l)
    (λ t. let d = fewest-least behind (n / 2 ^ 29) (more g e) (omega arith) (omega arith) in omega arith)

pub least-words : FewestWords
least-words n ps c = fewest-least 2 n c.small c.is c.first
