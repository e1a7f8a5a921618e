-- Whole vectors, and a last one of the values that are left.
use Rattle.std.proofs.Common.{◌≡◌, ◌∙◌, ap, sym, subst, arith, rules, ℕ, ◌*◌, ◌/◌, ◌%◌, ◌-◌, ◌<◌, length, ℤ, pos, ◌+ℤ◌, ◌*ℤ◌, to_z, of_z, w64, to_z-of_z, SFits}
use Rattle.integers.specs.InnerPlaces.{PlacesFit}
use Rattle.kernels.specs.Lanes.{feed}
use Rattle.kernels.specs.InnerStrided.{strided, PlacesInside}
use Rattle.kernels.proofs.Striding.{inside-part}
use Rattle.vectors.specs.InnerWaiting.{vector_of, wait_step}
use Rattle.vectors.specs.InnerVectors.{last_vector}
use Rattle.vectors.proofs.Vectors.{vectors-padded}
use Rattle.vectors.proofs.Walks.{behind-fits, behind-is, rest-fed}
use Rattle.vectors.proofs.unsplit.wait_all.Goals as goal
use Rattle.vectors.proofs.unsplit.wait_all.Goals.{After-wait_each-r, After-behind-at}

-- the whole vectors, and where the last of them begins
vectors : (c : After-wait_each-r) → c.wait_each-r.result.lanes ≡ feed (wait_step c.args.signs) 0 c.args.w (strided c.args.values.now c.args.start c.args.stride (8 * (c.args.len / 8)))
vectors c = simp (to_z-of_z c.ranges.start, to_z-of_z c.ranges.stride) at c.wait_each-r.ensures.lanes_value

last : (c : After-wait_each-r) → c.wait_each-r.result.at ≡ last_vector c.args.start c.args.stride (8 * (c.args.len / 8))
last c = simp (to_z-of_z c.ranges.start, to_z-of_z c.ranges.stride) at c.wait_each-r.ensures.at

pub returns-then-few-eq0-clause-lanes_value : goal.returns-then-few-eq0-clause-lanes_value
returns-then-few-eq0-clause-lanes_value c =
    vectors (goal.at.returns-then-few-eq0-clause-lanes_value c).After-wait_each-r
    ∙ ap (feed (wait_step c.args.signs) 0 c.args.w) (vectors-padded c.args.values.now c.args.start c.args.stride c.args.len c.if-few-eq0.true)

pub behind-at-requires : goal.behind-at-requires
behind-at-requires c l =
    let g = (goal.at.behind-at-requires c).After-wait_each-r in
    let some : 0 < 8 * (c.args.len / 8) = omega arith in
    let left : 8 * (c.args.len / 8) < c.args.len = omega (arith, c.if-few-eq0.false) in
    let fits : SFits w64 c.wait_each-r.result.at = search rules in
    subst (λ (z : ℤ). PlacesFit z (to_z w64 (of_z w64 c.args.eight)) 2) (sym (to_z-of_z fits))
    (subst (λ (z : ℤ). PlacesFit c.wait_each-r.result.at z 2) (sym (to_z-of_z c.ranges.eight))
    (behind-fits c.args.start c.args.stride c.wait_each-r.result.at c.args.eight (8 * (c.args.len / 8)) (omega arith) (last g) (length c.args.values.now) c.args.len
    c.requires.1 (omega (arith, c.well_formed)) left some (c.requires.0 (omega arith))))

-- where the values behind the vectors begin
at-is : (c : After-behind-at) → to_z w64 (of_z w64 c.behind-at.result) ≡ c.args.start +ℤ c.args.stride *ℤ pos (8 * (c.args.len / 8))
at-is c =
    let fits : SFits w64 c.wait_each-r.result.at = search rules in
    let left : 8 * (c.args.len / 8) < c.args.len = omega (arith, c.if-few-eq0.false) in
    to_z-of_z {w = w64} (record { sfits = c.behind-at.type_inv })
    ∙ behind-is c.args.start c.args.stride c.wait_each-r.result.at c.args.eight (8 * (c.args.len / 8)) (omega arith) (simp (to_z-of_z c.ranges.start, to_z-of_z c.ranges.stride) at c.wait_each-r.ensures.at) c.behind-at.result
    (λ h. c.behind-at.ensures.0 (omega arith) ∙ to_z-of_z fits)
    (λ h.
    c.behind-at.ensures.1 (omega arith)
    ∙ ap (λ (z : ℤ). z +ℤ to_z w64 (of_z w64 c.args.eight)) (to_z-of_z fits)
    ∙ ap (λ (z : ℤ). c.wait_each-r.result.at +ℤ z) (to_z-of_z c.ranges.eight))
    (λ h. c.requires.0 (omega arith))

pub vector_of-vector-requires : goal.vector_of-vector-requires
vector_of-vector-requires c =
    let b = (goal.at.vector_of-vector-requires c).After-behind-at in
    let l = length c.args.values.now in
    let n = c.args.len in (
      omega arith,
      subst (λ (z : ℤ). PlacesInside l z (to_z w64 (of_z w64 c.args.stride)) (n % 8)) (sym (at-is b))
          (subst (λ (z : ℤ). PlacesInside l (c.args.start +ℤ c.args.stride *ℤ pos (8 * (n / 8))) z (n % 8)) (sym (to_z-of_z c.ranges.stride))
          (inside-part l c.args.start c.args.stride n (8 * (n / 8)) (n % 8) c.requires.1 (omega arith))),
    )

pub returns-clause-lanes_value : goal.returns-clause-lanes_value
returns-clause-lanes_value c =
    let b = (goal.at.returns-clause-lanes_value c).After-behind-at in
    let n = c.args.len in
    let xs = c.args.values.now in
    let vector =
    c.vector_of-vector.ensures
    ∙ ap (λ (z : ℤ). vector_of (strided xs z (to_z w64 (of_z w64 c.args.stride)) (n % 8))) (at-is b)
    ∙ ap (λ (z : ℤ). vector_of (strided xs (c.args.start +ℤ c.args.stride *ℤ pos (8 * (n / 8))) z (n % 8))) (to_z-of_z c.ranges.stride) in
    rest-fed c.args.signs c.args.w xs c.args.start c.args.stride n c.wait_each-r.result.lanes c.wait_vector-lanes.result c.if-few-eq0.false
    (vectors (goal.at.returns-clause-lanes_value c).After-wait_each-r) (c.wait_vector-lanes.ensures ∙ ap (feed (wait_step c.args.signs) 0 c.wait_each-r.result.lanes) vector)

pub returns-clause-at : goal.returns-clause-at
returns-clause-at c =
    let n = c.args.len in
    let left = c.if-few-eq0.false in
    at-is (goal.at.returns-clause-at c).After-behind-at
    ∙ ap (λ (k : ℕ). c.args.start +ℤ c.args.stride *ℤ pos k) (let e : 8 * (n / 8) ≡ 8 * ((n - 1) / 8) = omega arith in e)
