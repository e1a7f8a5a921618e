-- One with a bad value soon, or the lanes of the whole.
use Rattle.std.proofs.Common.{◌≡◌, ◌∙◌, ap, sym, subst, rules, ℕ, ℤ, ◌≤◌, ◌^◌, not, true, false, tests, to_z-of_z, w64, SFits}
use lib.Ieee.{of_bits}
use Rattle.laws.proofs.Tests.{and_both}
use Rattle.laws.specs.Lists.{Each}
use Rattle.accumulator.specs.declared.StableProductFloatAcc.{StableProductFloatAcc}
use Rattle.kernels.specs.InnerStrided.{strided}
use Rattle.kernels.specs.Blocks.{start_lanes}
use Rattle.kernels.specs.InnerLanes.{SmallLanes, LanesAfter}
use Rattle.kernels.specs.InnerStepped.{first_bad}
use Rattle.kernels.proofs.Blocking.{Value}
use Rattle.kernels.proofs.Striding.{strided-values}
use Rattle.kernels.proofs.Stepping.{first-few}
use Rattle.vectors.specs.InnerMarked.{product_before}
use Rattle.vectors.proofs.Feds.{fed-worked, stepped-worked, vectors-small}
use Rattle.vectors.proofs.Parting.{stepped-first, stepped-marked}
use Rattle.vectors.proofs.piece.fed_piece.Goals as goal
use Rattle.vectors.proofs.piece.fed_piece.Goals.{After-fed_lanes-s, After-first_bad-first}

pub returns-then-soon_bad : goal.returns-then-soon_bad
unfolding of_bits
returns-then-soon_bad c =
    let xs = c.args.values.now in
    let piece = strided xs c.args.start c.args.stride c.args.len in
    let steps : not c.args.in_blocks ≡ true = search (rules, tests) in
    stepped-worked c.args.in_blocks piece _ steps
    (sym
    (stepped-first piece (strided-values xs c.type_inv.values c.args.start c.args.stride c.args.len)
    (simp (to_z-of_z c.ranges.start, to_z-of_z c.ranges.stride) at (c.soon_bad.ensures c.if-soon_bad.true))))

-- the lanes of the piece
fed : (c : After-fed_lanes-s) → LanesAfter start_lanes (strided c.args.values.now c.args.start c.args.stride c.args.len) c.fed_lanes-s.result
fed c = simp (to_z-of_z c.ranges.start, to_z-of_z c.ranges.stride) at c.fed_lanes-s.ensures

small : (c : After-fed_lanes-s) → SmallLanes (2 ^ 56) c.fed_lanes-s.result
small c = vectors-small c.args.values.now c.args.start c.args.stride c.args.len c.fed_lanes-s.result c.requires.1 (fed c)

values : (c : After-fed_lanes-s) → Each Value (strided c.args.values.now c.args.start c.args.stride c.args.len)
values c = strided-values c.args.values.now c.type_inv.values c.args.start c.args.stride c.args.len

-- the first lane that met a bad value
first : (c : After-first_bad-first) → c.first_bad-first.result ≡ first_bad (strided c.args.values.now c.args.start c.args.stride c.args.len)
first c = simp (to_z-of_z c.ranges.start, to_z-of_z c.ranges.stride) at c.first_bad-first.ensures

pub product_before-requires : goal.product_before-requires
product_before-requires c =
    let a = goal.at.product_before-requires c in
    let f = a.After-fed_lanes-s in (
      small f,
      subst (λ (k : ℕ). k ≤ 8) (sym (first a.After-first_bad-first)) (first-few _ (values f)),
    )

pub returns-then-in_blocks-s : goal.returns-then-in_blocks-s
returns-then-in_blocks-s c =
    let a = goal.at.returns-then-in_blocks-s c in
    let f = a.After-fed_lanes-s in
    let piece = strided c.args.values.now c.args.start c.args.stride c.args.len in
    let t = and_both (not c.args.in_blocks) c.fed_lanes-s.result.bad c.if-in_blocks-s.true in
    stepped-worked c.args.in_blocks piece _ t.0
    (c.product_before.ensures
    ∙ ap (product_before c.fed_lanes-s.result) (first a.After-first_bad-first)
    ∙ stepped-marked piece (values f) c.fed_lanes-s.result (fed f) t.1)

pub lanes_product-requires : goal.lanes_product-requires
lanes_product-requires c =
    let f = (goal.at.lanes_product-requires c).After-fed_lanes-s in small f

pub returns : goal.returns
returns c =
    let f = (goal.at.returns c).After-fed_lanes-s in
    let piece = strided c.args.values.now c.args.start c.args.stride c.args.len in
    c.lanes_product.ensures ∙ fed-worked c.args.in_blocks piece c.fed_lanes-s.result (fed f) (values f) c.if-in_blocks-s.false
