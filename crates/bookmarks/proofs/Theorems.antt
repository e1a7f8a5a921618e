-- Rules B3 and B4 of every call.
-- Assumes, for B4, that each value is one of binary64, as every f64 is.
use Prim.Native.Nat.{ℕ, zero, suc, ◌+◌, ◌-◌, ◌/◌, ◌≤◌, ◌<◌, min}
use mathlib.Core.Path.{◌≡◌, refl, sym, ◌∙◌, ap, subst}
use mathlib.Core.Bool.{Bool, true, false, cond, not, ◌&&◌, and-false}
use mathlib.Core.List.{List}
use native.Mathlib.Omega.{arith}
use native.Mathlib.Nat.{le_refl, le_trans, zero-add, sub-zero, div-eq_of_lt-le, add-div_right}
use lib.ListN.{length}
use lib.Dec.{T, leb, eqb}
use lib.IntN.{ℤ}
use lib.Ieee.{Float, binary64, fits}
use borrow.Author.Tests.{eq-eqb, ne_eqb, eqb-true, lt-ltb, le-ltb, leb-true, leb-false}
use Rattle.laws.specs.Lists.{Each}
use Rattle.layout.specs.declared.traversal.FullTraversal.{FullTraversal}
use Rattle.layout.specs.Axes.{PLACES}
use Rattle.layout.specs.Compile.{compile_of}
use Rattle.offsets.specs.Lists.{range_code}
use Rattle.offsets.proofs.Checked.{Checked, accepted-range}
use Rattle.offsets.proofs.Runs.{run-some}
use Rattle.accumulator.specs.declared.StableProductFloatAcc.{StableProductFloatAcc}
use Rattle.std.specs.Prelude.{Ok}
use Rattle.accumulator.specs.Joining.{in_limits, answer_of}
use Rattle.kernels.specs.Pieces.{Piece, joined_onto, joined_pieces, rates_of}
use Rattle.reduction.specs.Ranges.{pieces_from, pieces_of, range_product}
use Rattle.bookmarks.specs.declared.Bookmark.{Bookmark}
use Rattle.bookmarks.specs.Steps.{Done, More, StepAnswer, begins_piece, portion_of, told, step_of}
use Rattle.bookmarks.specs.InnerPortions.{pieces_left, stop_at}
use Rattle.bookmarks.specs.Theorems.{pieces_between, Worked, RuleB3Law, Loop, last, again, RuleB4Law}
use Rattle.bookmarks.proofs.Portions.{stop-all, stop-before, stop-upto, stop-forward, stop-inside, portion-count, portion-stop, portion-pieces}
use Rattle.bookmarks.proofs.Joins.{first-in-limits, both_end, both-joined}
use Rattle.bookmarks.proofs.Counting.{begins-start, begins-inside, stop-begins, count-all, portion-between}
use Rattle.bookmarks.proofs.Telling.{portion-is}
use Rattle.bookmarks.proofs.Calls.{step-tells, step-done, step-more, Allowed, code-allowed, allowed}

-- ---- rule B3
module _ (ns : List ℕ) (ss : List ℤ) (base : ℤ) (start end : ℕ) (values : List Float) (mark : Bookmark) (n : ℕ) where
  abbrev l : FullTraversal
  l = (compile_of PLACES ns ss).traversal

  abbrev ps : List Piece
  ps = pieces_from l base values end n mark.next

  abbrev stop : ℕ
  stop = stop_at l.run_len end n mark.next

  -- the pieces of a call that is not refused
  module _ (w : Allowed ns ss base start end values mark n) where
    range-is : Checked ns ss base start end (length values) l
    range-is = accepted-range ns ss base start end (length values) w.range

    some_len : 1 ≤ l.run_len
    some_len = run-some l range-is.traversal

    inside : (start ≤ mark.next) × (mark.next < end)
    inside = begins-inside l.run_len start end mark.next range-is.forward w.begins

    stop_is : mark.next + length (rates_of ps) ≡ stop
    stop_is = portion-stop l range-is.traversal base range-is.bounded values end n mark.next w.some_piece inside.1

    count_is : length ps ≡ min n (pieces_left l.run_len end mark.next)
    count_is = portion-count l range-is.traversal base range-is.bounded values end n mark.next w.some_piece inside.1

    pieces_are : ps ≡ pieces_of l base values mark.next stop
    pieces_are = portion-pieces l range-is.traversal base range-is.bounded values end n mark.next w.some_piece inside.1

    product_is : (b : Bool) → eqb mark.next start ≡ b
        → cond b (joined_pieces ps) (joined_onto mark.acc ps)
        ≡ cond b (joined_pieces (pieces_of l base values start stop)) (joined_onto mark.acc (pieces_of l base values mark.next stop))
    product_is true e = ap joined_pieces (pieces_are ∙ ap (λ (k : ℕ). pieces_of l base values k stop) (eqb-true mark.next start e))
    product_is false e = ap (joined_onto mark.acc) pieces_are

    all-worked : (a : StableProductFloatAcc) → portion_of (eqb mark.next start) mark.acc ps ≡ answer_of (Ok a)
        → Worked l base values start end mark stop (length ps) a
    all-worked a e =
        record {
          forward = stop-forward l.run_len end mark.next some_len inside.1 n w.some_piece;
          upto = stop-upto l.run_len end mark.next some_len inside.1 n;
          count =
              portion-between l range-is.traversal base range-is.bounded values start end n mark.next w.some_piece inside.0 inside.1
              w.begins;
          product = portion-is (eqb mark.next start) mark.acc ps a e ∙ product_is (eqb mark.next start) refl;
        }

  done-worked : (a : StableProductFloatAcc) (pieces : ℕ) → step_of ns ss base start end values mark n ≡ Done a pieces
      → (pieces ≤ n) × Worked l base values start end mark end pieces a
  done-worked a pieces e =
      let d = step-done ns ss base start end values mark n a pieces e in
      let w = allowed ns ss base start end values mark n d.0 in
      let r = all-worked w a d.1 in
      let s : stop ≡ end = omega (arith, stop_is w, d.2, r.upto) in
      (omega (arith, count_is w, d.3), rw (s, d.3) at r)

  more-worked : (to : Bookmark) (pieces : ℕ) → step_of ns ss base start end values mark n ≡ More to pieces
      → (pieces ≡ n) × (to.next < end) × (begins_piece l.run_len start end to.next ≡ true)
      × Worked l base values start end mark to.next pieces to.acc
  more-worked to pieces e =
      let d = step-more ns ss base start end values mark n to pieces e in
      let w = allowed ns ss base start end values mark n d.0 in
      let s : stop ≡ to.next = sym (stop_is w) ∙ d.2 in
      let q : stop < end = omega (arith, s, d.3) in
      let i = inside w in (
        omega (arith, count_is w, d.4, stop-inside l.run_len end n mark.next q),
        d.3,
        rw s at (stop-begins l.run_len start end (some_len w) n mark.next w.some_piece i.0 i.1 q),
        rw (s, d.4) at (all-worked w to.acc d.1),
      )

pub rule-B3 : RuleB3Law
rule-B3 ns ss base start end values mark n =
    record { done = done-worked ns ss base start end values mark n; more = more-worked ns ss base start end values mark n }

-- ---- numbers of calls: q pieces, n a call
calls-one : (q n : ℕ) → 1 ≤ q → q ≤ n → 1 ≡ (q + (n - 1)) / n
calls-one q n h g = sym (div-eq_of_lt-le n (omega arith) (omega arith))

calls-more : (q r n : ℕ) → 1 ≤ n → q ≡ r + n → suc ((r + (n - 1)) / n) ≡ (q + (n - 1)) / n
calls-more q r n h e =
    let z : q + (n - 1) ≡ r + (n - 1) + n = omega arith in
    omega (arith, add-div_right (r + (n - 1)) h, ap (λ (x : ℕ). x / n) z)

-- a loop of calls: behind m of all the pieces, a call goes on behind n more, or is done with the last
module _ (call : Bookmark → StepAnswer) (n all : ℕ) (some_piece : 1 ≤ n) (product : StableProductFloatAcc) (Behind : ℕ → Bookmark → Type 0)
    (goes_on : (m : ℕ) (mark : Bookmark) → Behind m mark → m + n < all
    → (to : Bookmark) × (pieces : ℕ) × (call mark ≡ More to pieces) × Behind (m + n) to)
    (ends : (m : ℕ) (mark : Bookmark) → Behind m mark → all ≤ m + n → (pieces : ℕ) × (call mark ≡ Done product pieces)) where
  looped : (room m : ℕ) (mark : Bookmark) → all ≤ m + room → m < all → Behind m mark → Loop call mark ((all - m + (n - 1)) / n) product
  looped zero m mark h g b = absurd (omega arith)
  looped (suc room) m mark h g b = go (leb all (m + n)) refl (looped room (m + n))
    where
      go : (x : Bool) → leb all (m + n) ≡ x
          → ((to : Bookmark) → all ≤ m + n + room → m + n < all → Behind (m + n) to → Loop call to ((all - (m + n) + (n - 1)) / n) product)
          → Loop call mark ((all - m + (n - 1)) / n) product
      go true t f =
          let q = leb-true all (m + n) t in
          let r = ends m mark b q in
          subst (λ (c : ℕ). Loop call mark c product) (calls-one (all - m) n (omega arith) (omega arith)) (last r.1)
      go false t f =
          let q = leb-false all (m + n) t in
          let r = goes_on m mark b q in
          subst (λ (c : ℕ). Loop call mark c product) (calls-more (all - m) (all - (m + n)) n some_piece (omega arith))
          (again r.2 (f r.0 (omega arith) q r.3))

-- ---- rule B4: the calls over an accepted range
module _ (ns : List ℕ) (ss : List ℤ) (base : ℤ) (start end : ℕ) (values : List Float) (n : ℕ) (v : Each (λ (x : Float). T (fits binary64 x)) values)
    (e : range_code ns ss base start end (length values) ≡ 0) (some_piece : 1 ≤ n) where
  abbrev layout : FullTraversal
  layout = (compile_of PLACES ns ss).traversal

  c : Checked ns ss base start end (length values) layout
  c = accepted-range ns ss base start end (length values) e

  one-run : 1 ≤ layout.run_len
  one-run = run-some layout c.traversal

  -- the first m pieces, where they end, and the bookmark behind them
  abbrev first : ℕ → List Piece
  first m = pieces_from layout base values end m start

  abbrev reach : ℕ → ℕ
  reach m = stop_at layout.run_len end m start

  abbrev marked : ℕ → Bookmark
  marked m = record { next = reach m; acc = joined_pieces (first m) }

  abbrev all : ℕ
  all = pieces_left layout.run_len end start

  abbrev call : Bookmark → StepAnswer
  call mark = step_of ns ss base start end values mark n

  -- what is told of the first m pieces
  abbrev tells : ℕ → ℕ → StepAnswer
  tells m pieces = told end (reach m) pieces (answer_of (Ok (joined_pieces (first m))))

  tells_more : (m pieces : ℕ) → m < all → tells m pieces ≡ More (marked m) pieces
  tells_more m pieces h =
      ap (λ (b : Bool). cond b (More (marked m) pieces) (Done (joined_pieces (first m)) pieces))
      (lt-ltb (reach m) end (stop-before layout.run_len end start one-run c.forward m h))

  tells-done : (m pieces : ℕ) → all ≤ m → tells m pieces ≡ Done (range_product ns ss base start end values) pieces
  tells-done m pieces h =
      let s = stop-all layout.run_len end m start h in
      ap (λ (b : Bool). cond b (More (marked m) pieces) (Done (joined_pieces (first m)) pieces)) (le-ltb (reach m) end (omega arith))
      ∙ ap (λ (qs : List Piece). Done (joined_pieces qs) pieces)
      (portion-pieces layout c.traversal base c.bounded values end m start (omega arith) c.forward ∙ ap (pieces_of layout base values start) s)

  -- the first call, with whatever accumulator
  call-first : (any : StableProductFloatAcc) → call (record { next = start; acc = any }) ≡ tells n (length (first n))
  call-first any =
      let q = eq-eqb start start refl in
      let z = code-allowed ns ss base start end values (record { next = start; acc = any }) n
      (record {
        range = e;
        some_piece = some_piece;
        begins = begins-start layout.run_len start end;
        stands = ap (λ (b : Bool). not b && not (in_limits any)) q;
      }) in
      step-tells ns ss base start end values (record { next = start; acc = any }) n z (reach n) (answer_of (Ok (joined_pieces (first n))))
      (portion-stop layout c.traversal base c.bounded values end n start some_piece c.forward)
      (ap (λ (b : Bool). portion_of b any (first n)) q)

  -- a call behind m pieces
  call_next : (m : ℕ) → 1 ≤ m → m < all → call (marked m) ≡ tells (m + n) (length (pieces_from layout base values end n (reach m)))
  call_next m h g =
      let r = stop-forward layout.run_len end start one-run c.forward m h in
      let s = stop-before layout.run_len end start one-run c.forward m g in
      let few = le_trans c.inside c.few in
      let z = code-allowed ns ss base start end values (marked m) n
      (record {
        range = e;
        some_piece = some_piece;
        begins = stop-begins layout.run_len start end one-run m start h (le_refl start) c.forward s;
        stands =
            ap (λ (b : Bool). not (eqb (reach m) start) && not b)
            (first-in-limits layout c.traversal base c.bounded values v start end c.forward few m h)
            ∙ and-false (not (eqb (reach m) start));
      }) in
      step-tells ns ss base start end values (marked m) n z (reach (m + n)) (answer_of (Ok (joined_pieces (first (m + n)))))
      (both_end layout c.traversal base c.bounded values v start end c.forward few m h n)
      (ap (λ (b : Bool). portion_of b (joined_pieces (first m)) (pieces_from layout base values end n (reach m))) (ne_eqb (reach m) start (λ q. omega arith))
      ∙ both-joined layout c.traversal base c.bounded values v start end c.forward few m h n)

  -- a bookmark from which a call tells of n pieces behind the first m
  abbrev Behind : ℕ → Bookmark → Type 0
  Behind m mark = (pieces : ℕ) × (call mark ≡ tells (m + n) pieces)

  whole-loop : (any : StableProductFloatAcc)
      → Loop call (record { next = start; acc = any }) ((all - 0 + (n - 1)) / n) (range_product ns ss base start end values)
  whole-loop any =
      looped call n all some_piece (range_product ns ss base start end values) Behind
      (λ m mark b l. (marked (m + n), b.0, b.1 ∙ tells_more (m + n) b.0 l, (_, call_next (m + n) (omega arith) l)))
      (λ m mark b l. (b.0, b.1 ∙ tells-done (m + n) b.0 l)) all 0 (record { next = start; acc = any }) (omega arith) (omega arith)
      (length (first n), call-first any ∙ ap (λ (k : ℕ). tells k (length (first n))) (sym (zero-add n)))

  -- as many calls as the number of pieces asks for
  counted-loop : (any : StableProductFloatAcc)
      → Loop call (record { next = start; acc = any }) ((pieces_between layout.run_len start end start end + (n - 1)) / n)
      (range_product ns ss base start end values)
  counted-loop any =
      subst (λ (p : ℕ). Loop call (record { next = start; acc = any }) ((p + (n - 1)) / n) (range_product ns ss base start end values))
      (sub-zero all ∙ count-all layout.run_len start end one-run c.forward) (whole-loop any)

pub rule-B4 : RuleB4Law
rule-B4 ns ss base start end values any n v e some_piece = counted-loop ns ss base start end values n v e some_piece any
