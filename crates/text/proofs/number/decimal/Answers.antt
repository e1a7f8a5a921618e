use Rattle.std.proofs.Common.{◌+◌, ◌/◌, ◌%◌, ◌^◌, ◌≤◌, ◌<◌, ◌≡◌, ◌∙◌, ◌∷◌, ◌++◌, ℕ, List, [], length, drop, refl, sym, ap, arith, append_assoc, length-append, length-drop, length-set}
use Rattle.std.proofs.lemmas.Fmt.{decimal_digit, decimal_step, decimal_nonempty, length-decimal-le}
use Rattle.std.proofs.lemmas.Grind.{drop-set_at}
use Rattle.std.proofs.Math.ListN.{set}
use Rattle.std.specs.Fmt.{decimal}
use Rattle.text.proofs.number.decimal.Goals as goal

-- A number from 10 on has a digit before the last.
two_digits : (n : ℕ) → 10 ≤ n → n < 2 ^ 64 → 2 ≤ length (decimal n)
two_digits n h fits =
    omega (arith, simp length-append at (ap length (decimal_step n h fits)), decimal_nonempty (n / 10) (omega arith))

-- The digits that are left to put have their places, and one more is left over.
room_left : (n rest at : ℕ) (ds : List ℕ) → n < 2 ^ 64 → length ds ≡ 21
    → decimal rest ++ drop (at + 1) ds ≡ decimal n
    → length (decimal rest) ≤ at
room_left n rest at ds fits len e =
    omega (
      arith,
      length-decimal-le 20 n (omega arith) (omega arith) fits,
      simp (length-append, length-drop) at (ap length e),
    )

-- The last digit of what is left, put before those that are put.
one_more : (n rest at j : ℕ) (ds : List ℕ) → rest < 2 ^ 64 → 10 ≤ rest → at < length ds → j ≡ at
    → decimal rest ++ drop (at + 1) ds ≡ decimal n
    → decimal (rest / 10) ++ drop j (set ds at (48 + rest % 10)) ≡ decimal n
one_more n rest at j ds fits more within same e =
    let d = 48 + rest % 10 in
    let put : drop j (set ds at d) ≡ d ∷ drop (at + 1) ds = drop-set_at ds at j d same within in
    ap (λ (l : List ℕ). decimal (rest / 10) ++ l) put
    ∙ sym (append_assoc (decimal (rest / 10)) (d ∷ []) (drop (at + 1) ds))
    ∙ ap (λ (l : List ℕ). l ++ drop (at + 1) ds) (sym (decimal_step rest more fits))
    ∙ e

-- The first digit.
the_first : (n rest at : ℕ) (ds : List ℕ) → rest < 10 → at < length ds
    → decimal rest ++ drop (at + 1) ds ≡ decimal n
    → drop at (set ds at (48 + rest)) ≡ decimal n
the_first n rest at ds small within e =
    drop-set_at ds at at (48 + rest) refl within
    ∙ ap (λ (l : List ℕ). l ++ drop (at + 1) ds) (sym (decimal_digit rest small))
    ∙ e

pub overflow_sub-at-in-loop-rest : goal.overflow_sub-at-in-loop-rest
overflow_sub-at-in-loop-rest c =
    let l = c.loop-rest in
    omega (
      arith,
      two_digits l.rest c.loop-rest-test.true (omega arith),
      room_left c.args.n l.rest l.at l.space (omega arith) l.invariant.1 l.invariant.2,
    )

pub loop-rest-preserved : goal.loop-rest-preserved
loop-rest-preserved c =
    let l = c.loop-rest in
    let two = two_digits l.rest c.loop-rest-test.true (omega arith) in
    let left = room_left c.args.n l.rest l.at l.space (omega arith) l.invariant.1 l.invariant.2 in (
      omega arith,
      simp length-set l.invariant.1,
      one_more c.args.n l.rest l.at _ l.space (omega arith) c.loop-rest-test.true (omega arith) (omega arith) l.invariant.2,
    )

pub returns-clause-within : goal.returns-clause-within
returns-clause-within c =
    let l = c.loop-rest in
    let one = decimal_nonempty l.rest (omega arith) in
    let left = room_left c.args.n l.rest l.at l.space (omega arith) l.invariant.1 l.invariant.2 in
    (omega arith, omega arith)

pub returns-clause-digits : goal.returns-clause-digits
returns-clause-digits c =
    let l = c.loop-rest in
    the_first c.args.n l.rest l.at l.space c.loop-rest-test.false (omega arith) l.invariant.2
