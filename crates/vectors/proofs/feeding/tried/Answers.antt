-- Lanes that pass both tests, brought back, are what the values make of them.
use Rattle.std.proofs.Common.{◌≡◌, ◌∙◌, ap, sym, subst, refl, rules, ℕ, ◌≤◌, ◌*◌, ◌^◌, List, Float, to_z-of_z, w64, SFits, lit≤}
use Rattle.laws.proofs.Tests.{and_both}
use Rattle.kernels.specs.declared.lanes.Lanes.{Lanes}
use Rattle.kernels.specs.Lanes.{feed, every}
use Rattle.kernels.specs.InnerStrided.{strided}
use Rattle.kernels.specs.Blocks.{renorm}
use Rattle.floats.specs.Factor.{Factor}
use Rattle.kernels.specs.InnerLanes.{NoneSubnormal, LanesRepresent, zeros, LanesAfter}
use Rattle.kernels.proofs.Striding.{length-strided, strided-values}
use Rattle.kernels.proofs.LaneSizes.{lanes-le}
use Rattle.vectors.specs.declared.vector.Waiting.{Waiting}
use Rattle.vectors.specs.InnerWaiting.{padded, wait_step, start_waiting, least_of, not_below, not_past}
use Rattle.vectors.proofs.Trying.{shallow, tried-fed}
use Rattle.vectors.proofs.feeding.tried.Goals as goal

pub returns-then-none_below-none_past : goal.returns-then-none_below-none_past
returns-then-none_below-none_past c =
    let y = c.args.y in
    let Y = c.requires.1 in
    let xs = strided c.args.values.now c.args.start c.args.stride c.args.len in
    let b = and_both _ _ c.if-none_below-none_past.true in
    let waited : c.wait_values-r.result.lanes ≡ feed (wait_step y.signs) 0 (start_waiting c.args.s.m) (padded xs) =
    simp (to_z-of_z c.ranges.start, to_z-of_z c.ranges.stride) at c.wait_values-r.ensures.lanes_value
    ∙ ap (λ (w : Waiting). feed (wait_step y.signs) 0 w (padded xs)) c.start_waiting.ensures in
    let fits : SFits w64 c.wait_values-r.result.at = search rules in
    let r = subst (λ (u : Waiting).
    let kept : Lanes = record { m = u.m; e = c.args.s.e; bad = c.args.s.bad } in
    LanesAfter c.args.s xs (renorm kept) × ((fs : List Factor) → LanesRepresent zeros c.args.s fs → NoneSubnormal kept)) (sym waited)
    (tried-fed y.signs y.depth y.most Y.some (shallow _ _ Y.room Y.vectors) Y.room c.args.s xs
    (strided-values c.args.values.now c.type_inv.values c.args.start c.args.stride c.args.len)
    (subst (λ (n : ℕ). n ≤ 8 * y.most) (sym (length-strided c.args.values.now c.args.start c.args.stride c.args.len)) c.requires.2)
    (ap (λ (u : Waiting). every (not_below (least_of y.signs y.depth)) u.least) (sym waited)
    ∙ ap (λ (z : Float). every (not_below z) c.wait_values-r.result.lanes.least) (sym c.least_of-least.ensures)
    ∙ sym c.none_below.ensures
    ∙ b.0)
    (ap (λ (u : Waiting). every not_past u.m) (sym waited) ∙ sym c.none_past.ensures ∙ b.1)) in (
      record {
        fed = r.0;
        small = record { at = λ k. (lanes-le (2 ^ 56) (2 ^ 59) c.args.s (lit≤ tt) c.requires.0).at k };
        whole = r.1;
      },
      refl,
      to_z-of_z fits ∙ simp (to_z-of_z c.ranges.start, to_z-of_z c.ranges.stride) at c.wait_values-r.ensures.at,
    )
