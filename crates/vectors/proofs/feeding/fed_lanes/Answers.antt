-- One step after another.
use Rattle.std.proofs.Common.{◌≡◌, ◌∙◌, ap, sym, subst, refl, arith, rules, ℕ, ◌+◌, ◌-◌, ◌%◌, ◌≤◌, ◌<◌, ◌^◌, ◌⊎◌, inl, inr, [], length, replicate, ℤ, pos, ◌+ℤ◌, ◌*ℤ◌, to_z, of_z, w64, to_z-of_z, SFits, lit≤}
use Rattle.integers.specs.InnerPlaces.{PlacesFit}
use Rattle.integers.proofs.Places.{place-first, place-sum}
use Rattle.floats.specs.Factor.{unit}
use Rattle.kernels.specs.InnerStrided.{strided, PlacesInside}
use Rattle.kernels.specs.Blocks.{start_lanes}
use Rattle.kernels.specs.InnerLanes.{LanesAfter}
use Rattle.kernels.proofs.LaneSizes.{lanes-le}
use Rattle.kernels.proofs.Blocking.{represent-start}
use Rattle.kernels.proofs.Striding.{inside-part}
use Rattle.vectors.specs.InnerVectors.{EightApart}
use Rattle.vectors.proofs.Walks.{behind-fits, behind-is}
use Rattle.vectors.proofs.Feds.{fed-none, vectors-small}
use Rattle.vectors.proofs.Stepping.{fed-step}
use Rattle.vectors.proofs.feeding.fed_lanes.Goals as goal
use Rattle.vectors.proofs.feeding.fed_lanes.Goals.{Start, After-next_pace-pace}

-- what is required, of the numbers as the code holds them
abbrev first : Start → ℤ
first c = to_z w64 (of_z w64 c.args.start)

abbrev apart : Start → ℤ
apart c = to_z w64 (of_z w64 c.args.stride)

inside : (c : Start) → PlacesInside (length c.args.values.now) (first c) (apart c) c.args.len
inside c = simp (to_z-of_z c.ranges.start, to_z-of_z c.ranges.stride) c.requires.2

eight_is : (c : Start) → EightApart (apart c) c.args.len (to_z w64 (of_z w64 c.args.eight))
eight_is c = simp (to_z-of_z c.ranges.stride, to_z-of_z c.ranges.eight) c.requires.1

pub loop-i-init : goal.loop-i-init
unfolding strided
loop-i-init c =
    let s = (goal.at.loop-i-init c).Start in (
      omega arith,
      inl refl,
      subst (LanesAfter start_lanes []) (sym c.start_lanes-s.ensures) (fed-none start_lanes),
      λ h. place-first (first s) (apart s),
    )

-- what lies from the next value on
inside-here : (s : Start) (i : ℕ) (at : ℤ) → at ≡ first s +ℤ apart s *ℤ pos i → i < s.args.len
    → PlacesInside (length s.args.values.now) at (apart s) (s.args.len - i)
inside-here s i at here l =
    subst (λ (z : ℤ). PlacesInside (length s.args.values.now) z (apart s) (s.args.len - i)) (sym here)
    (inside-part (length s.args.values.now) (first s) (apart s) s.args.len i (s.args.len - i) (inside s) (omega arith))

pub next_step-requires : goal.next_step-requires
next_step-requires c =
    let s = (goal.at.next_step-requires c).Start in
    let F = c.loop-i.invariant.2 in
    let l = c.loop-i-test.true in (
      vectors-small c.args.values.now (first s) (apart s) c.loop-i.i c.loop-i.s (omega (arith, c.requires.0)) F,
      λ m. eight_is s (omega arith),
      inside-here s c.loop-i.i (to_z w64 c.loop-i.at-bits) (c.loop-i.invariant.3 l) l,
    )

pub stable_renorm-s-requires : goal.stable_renorm-s-requires
stable_renorm-s-requires c =
    let r = c.in-Some.ensures.some.0 in (
      lanes-le (2 ^ 59) (2 ^ 60) c.in-Some.t.lanes (lit≤ tt) r.small,
      r.whole _ (c.loop-i.invariant.2.represent (replicate 8 (unit 52)) represent-start),
    )

-- whole vectors, or all: where values are left, they are whole
vectors-of : (n i : ℕ) → (i % 8 ≡ 0) ⊎ (i ≡ n) → i < n → i % 8 ≡ 0
vectors-of n i (inl e) l = e
vectors-of n i (inr e) l = absurd (omega arith)

vectors-after : (n i done : ℕ) → i % 8 ≡ 0 → i < n → (done % 8 ≡ 0) ⊎ (done ≡ n - i) → ((i + done) % 8 ≡ 0) ⊎ (i + done ≡ n)
vectors-after n i done e l (inl d) = inl (omega arith)
vectors-after n i done e l (inr d) = inr (omega arith)

whole : (n i done : ℕ) → (done % 8 ≡ 0) ⊎ (done ≡ n - i) → i + done < n → done % 8 ≡ 0
whole n i done (inl e) l = e
whole n i done (inr e) l = absurd (omega arith)

pub behind-at-requires : goal.behind-at-requires
behind-at-requires c some =
    let s = (goal.at.behind-at-requires c).Start in
    let i = c.loop-i.i in
    let d = c.in-Some.t.done in
    let n = c.args.len in
    let l : i + d < n = c.if-i-len.true in
    let w = whole n i d c.in-Some.ensures.some.1.vectors l in
    let t : i < n = omega arith in
    let fits : SFits w64 c.in-Some.t.at = search rules in
    subst (λ (z : ℤ). PlacesFit z (to_z w64 (of_z w64 c.args.eight)) 2) (sym (to_z-of_z fits))
    (behind-fits (to_z w64 c.loop-i.at-bits) (apart s) c.in-Some.t.at (to_z w64 (of_z w64 c.args.eight)) d w
    c.in-Some.ensures.some.2 (length c.args.values.now) (n - i) (inside-here s i (to_z w64 c.loop-i.at-bits) (c.loop-i.invariant.3 t) t)
    (omega (arith, c.well_formed)) (omega arith) some (eight_is s (omega arith)))

-- a step, and what the lanes are after it
stepped : (p : After-next_pace-pace) → (p.loop-i.i + p.in-Some.t.done ≤ p.args.len)
    × (((p.loop-i.i + p.in-Some.t.done) % 8 ≡ 0) ⊎ (p.loop-i.i + p.in-Some.t.done ≡ p.args.len))
    × LanesAfter start_lanes (strided p.args.values.now (to_z w64 (of_z w64 p.args.start)) (to_z w64 (of_z w64 p.args.stride)) (p.loop-i.i + p.in-Some.t.done)) p.stable_renorm-s.result
stepped p =
    let i = p.loop-i.i in
    let d = p.in-Some.t.done in
    let xs = p.args.values.now in
    let b = to_z w64 (of_z w64 p.args.start) in
    let t = to_z w64 (of_z w64 p.args.stride) in
    let l = p.loop-i-test.true in
    let g = p.in-Some.ensures.some.1 in
    let w = vectors-of p.args.len i p.loop-i.invariant.1 l in
    let u = g.upto in (
      omega arith,
      vectors-after p.args.len i d w l g.vectors,
      fed-step xs b t i d p.loop-i.s p.stable_renorm-s.result w p.loop-i.invariant.2
          (subst (λ (z : ℤ). LanesAfter p.loop-i.s (strided xs z t d) p.stable_renorm-s.result) (p.loop-i.invariant.3 l)
          (subst (LanesAfter p.loop-i.s (strided xs (to_z w64 p.loop-i.at-bits) t d)) (sym p.stable_renorm-s.ensures) p.in-Some.ensures.some.0.fed)),
    )

pub loop-i-preserved-then-i-len : goal.loop-i-preserved-then-i-len
loop-i-preserved-then-i-len c =
    let s = (goal.at.loop-i-preserved-then-i-len c).Start in
    let p = (goal.at.loop-i-preserved-then-i-len c).After-next_pace-pace in
    let i = c.loop-i.i in
    let d = c.in-Some.t.done in
    let l : i + d < c.args.len = c.if-i-len.true in
    let t : i < c.args.len = omega arith in
    let w = whole c.args.len i d c.in-Some.ensures.some.1.vectors l in
    let fits : SFits w64 c.in-Some.t.at = search rules in
    let r = stepped p in (
      r.0,
      r.1,
      r.2,
      λ h.
          to_z-of_z {w = w64} (record { sfits = c.behind-at.type_inv })
          ∙ behind-is (to_z w64 c.loop-i.at-bits) (apart s) c.in-Some.t.at (to_z w64 (of_z w64 c.args.eight)) d w c.in-Some.ensures.some.2 c.behind-at.result
          (λ z. c.behind-at.ensures.0 z ∙ to_z-of_z fits)
          (λ z. c.behind-at.ensures.1 z ∙ ap (λ (y : ℤ). y +ℤ to_z w64 (of_z w64 c.args.eight)) (to_z-of_z fits))
          (λ z. eight_is s (omega arith))
          ∙ ap (λ (z : ℤ). z +ℤ apart s *ℤ pos d) (c.loop-i.invariant.3 t)
          ∙ place-sum (first s) (apart s) i d,
    )

-- no value is left, and no place is formed
pub loop-i-preserved : goal.loop-i-preserved
loop-i-preserved c =
    let r = stepped (goal.at.loop-i-preserved c).After-next_pace-pace in
    let g = c.if-i-len.false in (r.0, r.1, r.2, λ h. absurd (omega arith))
