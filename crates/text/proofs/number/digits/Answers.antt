use Rattle.std.proofs.Common.{◌≡◌, ◌+◌, ◌<◌, ℕ, List, [], ◌∷◌, length, drop, get_or, Option, Some, None, refl, sym, ◌∙◌, ap, add-one, drop-cons}
use Rattle.text.specs.Numbers.{digit_step, read_on}
use Rattle.text.proofs.number.digits.Goals as goal

read-none : (step : ℕ → ℕ → Option ℕ) (bs : List ℕ) → read_on step None bs ≡ None
read-none step [] = refl
read-none step (b ∷ bs) = refl

read_one : (step : ℕ → ℕ → Option ℕ) (w : List ℕ) (n i : ℕ) → i < length w
    → read_on step (Some n) (drop i w) ≡ read_on step (step n (get_or w i 0)) (drop (i + 1) w)
read_one step w n i h = rw (add-one, drop-cons w i 0)

-- Where the byte at i is refused behind the number that the bytes before it give, the whole word is.
refused : (step : ℕ → ℕ → Option ℕ) (w : List ℕ) (n i : ℕ) → i < length w
    → read_on step (Some n) (drop i w) ≡ read_on step (Some 0) w
    → step n (get_or w i 0) ≡ None
    → None ≡ read_on step (Some 0) w
refused step w n i h so_far e =
    sym (read-none step (drop (i + 1) w))
    ∙ ap (λ (x : Option ℕ). read_on step x (drop (i + 1) w)) (sym e)
    ∙ sym (read_one step w n i h)
    ∙ so_far

pub returns-in_err-n : goal.returns-in_err-n
returns-in_err-n c =
    let l = c.loop-byte in
    c.from_residual.ensures
    ∙ refused
    (digit_step c.args.base)
    c.args.word.now
    l.n
    l.byte-index
    c.loop-byte-test.true
    l.invariant
    (sym c.in_err-n.ensures)
