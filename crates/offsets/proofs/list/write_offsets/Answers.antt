use Rattle.std.proofs.Common.{◌≡◌, ◌+◌, ◌-◌, ◌∙◌, ℕ, refl, ap, ◌∷◌, length, length-take, length-drop, take, drop, append_assoc, arith, rules}
use Rattle.std.proofs.Math.Facts.{to_z-of_z}
use Rattle.std.proofs.Math.Seq.{drop-drop}
use mir.Val.{SFits}
use mir.Syntax.{w64}
use Rattle.offsets.specs.Pieces.{run_of, outer_of}
use Rattle.offsets.proofs.Writing.{Listing, listing_none, listed, ListTaken, listing-taken}
use Rattle.offsets.proofs.list.write_offsets.Goals as goal
use Rattle.offsets.proofs.list.write_offsets.Goals.{At-loop-c, After-next_piece-p}

-- the invariant, over the base itself
listing : (c : At-loop-c) → Listing c.args.l c.args.base c.args.start c.args.end c.args.out.now c.loop-c.out c.loop-c.c
listing c = simp (to_z-of_z c.ranges.base) at c.loop-c.invariant

-- what the piece at the cursor gives
taken : (c : After-next_piece-p) → ListTaken c.args.l c.args.base c.args.start c.args.end c.args.out.now c.loop-c.out c.loop-c.c c.next_piece-p.result
taken c =
    listing-taken c.args.l c.requires.0 c.args.base c.requires.1 c.args.start c.args.end c.args.out.now c.loop-c.out c.loop-c.c
    c.requires.4 (simp (to_z-of_z c.ranges.base) at c.loop-c.invariant) c.loop-c-test.true c.next_piece-p.result c.next_piece-p.ensures

pub loop-c-init : goal.loop-c-init
loop-c-init c = listing_none c.args.l _ c.args.start c.args.end c.args.out.now c.begin-c.result c.requires.2 c.begin-c.ensures

pub overflow_add-at : goal.overflow_add-at
overflow_add-at c = let p = taken (goal.at.overflow_add-at c).After-next_piece-p in omega (arith, p.enough)

pub slice_bounds-write_run-end : goal.slice_bounds-write_run-end
slice_bounds-write_run-end c = let p = taken (goal.at.slice_bounds-write_run-end c).After-next_piece-p in omega (arith, p.enough)

pub write_run-requires : goal.write_run-requires
write_run-requires c =
    let p = taken (goal.at.write_run-requires c).After-next_piece-p in
    let f : SFits w64 c.args.l.run_stride = search rules in
    λ i h. simp (to_z-of_z f, to_z-of_z p.first_fits) (p.offsets_fit i (omega (arith, simp (length-take, length-drop) at h)))

pub loop-c-smaller : goal.loop-c-smaller
loop-c-smaller c =
    let p = taken (goal.at.loop-c-smaller c).After-next_piece-p in
    omega (arith, c.loop-c-test.true, p.next_at, p.some_len)

pub loop-c-preserved : goal.loop-c-preserved
loop-c-preserved c =
    let p = taken (goal.at.loop-c-preserved c).After-next_piece-p in
    let f : SFits w64 c.args.l.run_stride = search rules in
    let at = c.loop-c.c.at - c.args.start in
    let len = c.next_piece-p.result.len in
    let short : at + len - at ≡ len = omega arith in
    let long : length (take len (drop at c.loop-c.out)) ≡ len = simp (length-take, length-drop) (omega (arith, p.enough)) in
    let wrote = simp (to_z-of_z f, to_z-of_z p.first_fits, short, long) at c.write_run.ensures in
    simp (to_z-of_z c.ranges.base) (p.more _ (rw (short, wrote, drop-drop len at c.loop-c.out, append_assoc) refl))

pub returns : goal.returns
unfolding listed
returns c =
    let q = listing (goal.at.returns c).At-loop-c in
    let e : c.loop-c.c.at ≡ c.args.end = omega (arith, q.upto, c.loop-c-test.false) in
    q.lists ∙ ap (λ (n : ℕ). listed (run_of c.args.l ∷ outer_of c.args.l) c.args.base c.args.start (n - c.args.start) c.args.out.now) e
