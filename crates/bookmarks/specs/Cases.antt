-- Cases of the call: a caller's loop, where a piece begins, the rank of the refusals, and the limit of the exponent. Each row is an equation that holds by
-- computing.
use Rattle.std.specs.Prelude.{ℕ, ◌+◌, ◌-◌, ◌^◌, ◌≡◌, true, false, [], ◌∷◌, ℤ, pos, negsuc}
use Rattle.std.specs.Float.{fin, nan}
use Rattle.accumulator.specs.declared.StableProductFloatAcc.{StableProductFloatAcc}
use Rattle.reduction.specs.Cases.{whole_float}
use Rattle.bookmarks.specs.declared.Bookmark.{Bookmark}
use Rattle.bookmarks.specs.Steps.{StepAnswer, Done, More, Refused, step_of}

-- 2^e; 2^e with the mark; and one that no call gives
abbrev pub power : ℤ → StableProductFloatAcc
power e = record { m = whole_float 1; e = e; bad = false }

abbrev pub spoiled : ℤ → StableProductFloatAcc
spoiled e = record { m = whole_float 1; e = e; bad = true }

abbrev pub no_acc : StableProductFloatAcc
no_acc = record { m = nan; e = negsuc 9223372036854775807; bad = true }

abbrev pub mark : ℕ → StableProductFloatAcc → Bookmark
mark k a = record { next = k; acc = a }

-- three runs of two, with a 3.0 between them that no element visits: 2 × 1, 2 × 1 and 1/4 × 1
abbrev pub StepOver : ℕ → ℕ → Bookmark → ℕ → StepAnswer → Type 0
StepOver start end from n answer =
    step_of (2 ∷ 3 ∷ []) (pos 1 ∷ pos 3 ∷ []) (pos 0) start end
    (fin false 1 (pos 1) ∷ whole_float 1 ∷ whole_float 3 ∷ fin false 1 (pos 1) ∷ whole_float 1 ∷ whole_float 3 ∷ fin false 1 (negsuc 1) ∷ whole_float 1 ∷ [])
    from n
    ≡ answer

-- rules B2 to B4: piece by piece, two at a time, all at once, and more than there are
abbrev pub LoopTable : Type 0
LoopTable =
    StepOver 0 6 (mark 0 no_acc) 1 (More (mark 2 (power (pos 1))) 1) × StepOver 0 6 (mark 2 (power (pos 1))) 1 (More (mark 4 (power (pos 2))) 1)
    × StepOver 0 6 (mark 4 (power (pos 2))) 1 (Done (power (pos 0)) 1) × StepOver 0 6 (mark 0 no_acc) 2 (More (mark 4 (power (pos 2))) 2)
    × StepOver 0 6 (mark 4 (power (pos 2))) 2 (Done (power (pos 0)) 1) × StepOver 0 6 (mark 0 no_acc) 3 (Done (power (pos 0)) 3)
    × StepOver 0 6 (mark 0 no_acc) 5 (Done (power (pos 0)) 3)

-- R15: from element 1 on, pieces begin at 1, 2 and 4; not at 3, a run from the start on, not before the start, and not at the end, wherever that is
abbrev pub PlaceTable : Type 0
PlaceTable =
    StepOver 1 6 (mark 1 no_acc) 1 (More (mark 2 (power (pos 0))) 1) × StepOver 1 6 (mark 2 (power (pos 0))) 1 (More (mark 4 (power (pos 1))) 1)
    × StepOver 1 6 (mark 3 (power (pos 0))) 1 (Refused 15) × StepOver 1 6 (mark 0 (power (pos 0))) 1 (Refused 15)
    × StepOver 1 6 (mark 6 (power (pos 0))) 1 (Refused 15) × StepOver 1 4 (mark 4 (power (pos 0))) 1 (Refused 15)

-- 5 before 14, 14 before 15, 15 before 9, each with all that come after it; 9 also of a bad one, by its m and by its e
abbrev pub RankTable : Type 0
RankTable =
    StepOver 2 2 (mark 9 no_acc) 0 (Refused 5) × StepOver 1 6 (mark 3 no_acc) 0 (Refused 14) × StepOver 1 6 (mark 3 no_acc) 1 (Refused 15)
    × StepOver 1 6 (mark 2 no_acc) 1 (Refused 9) × StepOver 1 6 (mark 2 (spoiled (pos (2 ^ 52 + 1)))) 1 (Refused 9)

-- R10: past 2^52, though the next piece would bring it back; at 2^52; the same below; never with a mark
abbrev pub LimitTable : Type 0
LimitTable =
    StepOver 0 6 (mark 2 (power (pos (2 ^ 52)))) 2 (Refused 10) × StepOver 0 6 (mark 2 (power (pos (2 ^ 52 - 1)))) 1 (More (mark 4 (power (pos (2 ^ 52)))) 1)
    × StepOver 0 6 (mark 4 (power (negsuc (2 ^ 52 - 2)))) 1 (Refused 10)
    × StepOver 0 6 (mark 4 (power (negsuc (2 ^ 52 - 3)))) 1 (Done (power (negsuc (2 ^ 52 - 1))) 1)
    × StepOver 0 6 (mark 2 (spoiled (pos (2 ^ 52)))) 2 (Done (spoiled (pos (2 ^ 52))) 2)
