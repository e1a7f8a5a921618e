-- What is still to be read, read on from the number so far, is what the whole word gives.
use Rattle.std.proofs.Common.{drop, ◌≡◌, Some}
use Rattle.text.specs.Numbers.{read_on, digit_step}
use Rattle.text.proofs.number.digits.Given as goal

abbrev pub invariant-loop-byte : goal.invariant-loop-byte
invariant-loop-byte l =
    read_on (digit_step l.base) (Some l.n) (drop l.byte-index l.word) ≡ read_on (digit_step l.base) (Some 0) l.word
