use Rattle.std.proofs.Common.{rules, ℕ, suc, ◌≡◌, sym, ◌∙◌, ap, ◌+◌, ◌<◌, arith, List, ◌∷◌, length, get_or, drop}
use lib.ListN.{drop_of_length-le}
use Rattle.std.proofs.lemmas.Result.{err_from_is_err_and}
use Rattle.std.proofs.lemmas.Slice.Zip.{zip_turn, zip_end}
use Rattle.std.proofs.lemmas.List.{length_push}
use Rattle.refusals.specs.Refusals.{first_of}
use Rattle.refusals.specs.Codes.{number, code_of}
use Rattle.refusals.proofs.Numbers.{some-number}
use Rattle.offsets.specs.Lists.{end_refusals}
use Rattle.ranges.specs.Many.{ranges_of, each_refusals}
use Rattle.ranges.proofs.Lists.{ranges-from}
use Rattle.ranges.proofs.Codes.{each-fault, each_next}
use Rattle.ranges.proofs.check_ends.Goals as goal

-- the code of the ranges from number i on
abbrev from : ℕ → List ℕ → List ℕ → ℕ → ℕ
from total starts ends i = first_of (each_refusals total (ranges_of (drop i starts) (drop i ends)))

module _ (total : ℕ) (starts ends : List ℕ) (same : length starts ≡ length ends) (i : ℕ) (below : i < length starts) (start end : ℕ)
    (s : start ≡ get_or starts i 0) (e : end ≡ get_or ends i 0) where
  abbrev next : List (ℕ × ℕ)
  next = ranges_of (drop (suc i) starts) (drop (suc i) ends)

  -- this one, and those behind it
  here : from total starts ends i ≡ first_of (each_refusals total ((start, end) ∷ next))
  here = rw (s, e) (ap (λ (rs : List (ℕ × ℕ)). first_of (each_refusals total rs)) (ranges-from starts ends same i below))

  fault : (first_of (end_refusals total start end) ≡ 0 → ⊥) → first_of (end_refusals total start end) ≡ from total starts ends i
  fault n = sym (here ∙ each-fault total (start, end) next n)

  good : first_of (end_refusals total start end) ≡ 0 → (n : ℕ) → n ≡ i + 1 → from total starts ends i ≡ from total starts ends n
  good z n q = here ∙ each_next total (start, end) next z ∙ ap (from total starts ends) (let k : suc i ≡ n = omega (arith, q) in k)

pub returns-in_err-check_end : goal.returns-in_err-check_end
returns-in_err-check_end c =
    let t = zip_turn c.args.starts.now c.args.ends.now c.loop-start.yielded c.into_iter-start-iterator.result c.loop-start.start-iterator
    c.next.new.self c.next.result (search rules) (search rules) c.loop-start.yielded_by (c.in-Some.start, c.in-Some.end) c.in-Some.is c.next.ensures.steps in
    let r = c.in_err-check_end.field-0.0 in
    let p = err_from_is_err_and c.from_residual.result c.from_residual.ensures.1 in
    let same : p.0 ≡ r = cc in
    ap code_of p.1
    ∙ ap number same
    ∙ c.in_err-check_end.ensures
    ∙ fault c.args.total c.args.starts.now c.args.ends.now c.requires (length c.loop-start.yielded) t.0 _ _ (t.2 0) (t.3 0)
    (λ z. some-number r (c.in_err-check_end.ensures ∙ z))
    ∙ sym c.loop-start.invariant

pub loop-start-preserved : goal.loop-start-preserved
loop-start-preserved c =
    let t = zip_turn c.args.starts.now c.args.ends.now c.loop-start.yielded c.into_iter-start-iterator.result c.loop-start.start-iterator
    c.next.new.self c.next.result (search rules) (search rules) c.loop-start.yielded_by (c.in-Some.start, c.in-Some.end) c.in-Some.is c.next.ensures.steps in
    c.loop-start.invariant
    ∙ good c.args.total c.args.starts.now c.args.ends.now c.requires (length c.loop-start.yielded) t.0 _ _ (t.2 0) (t.3 0)
    (sym c.in_ok-check_end.ensures) _ (length_push c.loop-start.yielded (c.in-Some.start, c.in-Some.end))

pub returns : goal.returns
unfolding ranges_of each_refusals first_of
returns c =
    let n = zip_end c.args.starts.now c.args.ends.now c.loop-start.yielded c.into_iter-start-iterator.result c.loop-start.start-iterator
    c.next.new.self c.next.result (search rules) (search rules) c.loop-start.yielded_by c.in-None.is c.next.ensures.steps in
    sym (c.loop-start.invariant
    ∙ ap (λ (ns : List ℕ). first_of (each_refusals c.args.total (ranges_of ns (drop (length c.loop-start.yielded) c.args.ends.now))))
    (drop_of_length-le c.args.starts.now {i = length c.loop-start.yielded} (omega (arith, n, c.requires))))
