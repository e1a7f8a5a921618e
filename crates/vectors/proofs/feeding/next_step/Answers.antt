-- 256 values that are guarded, or all that is left.
use Rattle.std.proofs.Common.{◌≡◌, ◌∙◌, ap, sym, subst, arith, ℕ, ◌%◌, ◌≤◌, ◌<◌, ◌⊎◌, inl, inr, min, Bool, true, false, ltb, refl, to_z-of_z}
use Rattle.kernels.specs.InnerStrided.{strided}
use Rattle.vectors.specs.InnerVectors.{last_vector}
use Rattle.vectors.specs.InnerSteps.{NotYetNormalised, Progress}
use Rattle.vectors.proofs.feeding.next_step.Goals as goal
use borrow.Author.Tests.{ltb-true, ltb-false}

guarded-progress : (left n : ℕ) → n ≡ min left 256 → Progress left n
guarded-progress left n e = record { upto = omega arith; vectors = go (ltb left 256) refl; moves = λ p. omega arith }
  where
    all : left < 256 → n ≡ left
    all h = omega arith

    whole : 256 ≤ left → n % 8 ≡ 0
    whole h = let m : n ≡ 256 = omega arith in ap (λ (k : ℕ). k % 8) m

    go : (b : Bool) → ltb left 256 ≡ b → (n % 8 ≡ 0) ⊎ (n ≡ left)
    go true q = inr (all (ltb-true left 256 q))
    go false q = inl (whole (ltb-false left 256 q))

pub returns-clause-some : goal.returns-clause-some
returns-clause-some c =
    let n = c.guarded.ensures.at.0 in
    let e = simp (to_z-of_z c.ranges.at, to_z-of_z c.ranges.stride) at c.guarded.ensures.not_yet_normalised in
    let p = simp (to_z-of_z c.ranges.at, to_z-of_z c.ranges.stride) at c.guarded.ensures.at.1 in (
      subst (λ (k : ℕ). NotYetNormalised c.args.s (strided c.args.values.now c.args.at c.args.stride k) c.guarded.result.lanes) (sym n) e,
      guarded-progress c.args.left c.guarded.result.done (n ∙ c.min-n-2.ensures),
      p ∙ ap (last_vector c.args.at c.args.stride) (sym n),
    )
