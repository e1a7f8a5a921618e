-- The cursor, axis by axis: decoding gives the offset of the element, and each advance that of the next. Assumes nothing.
use Prim.Native.Nat.{ℕ, suc, ◌+◌, ◌-◌, ◌/◌, ◌%◌, ◌≤◌, ◌<◌}
use mathlib.Core.Path.{◌≡◌, refl, sym, ◌∙◌, ap}
use mathlib.Core.Bool.{Bool, cond}
use mathlib.Core.List.{List, [], ◌∷◌, ◌++◌, append_assoc, append-nil}
use native.Mathlib.Omega.{arith}
use native.Mathlib.Nat.{mod-lt}
use lib.ListN.{length, drop, get_or, set, replicate, length-append, length-replicate, drop_of_length-le, replicate-append-replicate}
use lib.Seq.{set_at, get_or_at, drop-drop}
use lib.IntN.{ℤ, pos, ◌+ℤ◌, ◌*ℤ◌}
use borrow.Author.Tests.{lt-ltb, le-ltb}
use Rattle.integers.proofs.Difference.{ints, atoms}
use Rattle.layout.specs.declared.axis.ReduceOuterAxis.{ReduceOuterAxis}
use Rattle.layout.specs.Axes.{PLACES}
use Rattle.offsets.specs.declared.cursor.ReduceOuterCursor.{ReduceOuterCursor}
use Rattle.offsets.specs.Elements.{digits, shift, offset}
use Rattle.offsets.specs.InnerCursors.{cursor_at, next_digits, next_offset, advanced, Axis, Axes, Bounded, AtElement}
use Rattle.offsets.proofs.Stepping.{offset-cons, offset_step, offset-reset, bounded-in, bounded-after, Small, bounded-base, bounded-offset, axes-at}

offset-none : (k : ℕ) (o : ℤ) → offset [] o k ≡ o
unfolding offset digits shift
offset-none k o = ring o
  where
    ring : (b : ℤ) → b +ℤ pos 0 ≡ b
    ring b = simp ints (simp atoms (omega arith))

digits-none : (k : ℕ) → digits [] k ≡ []
unfolding digits
digits-none k = refl

pub cursor-same : (r c : ReduceOuterCursor) → r.source_offset ≡ c.source_offset → r.digits ≡ c.digits → r ≡ c
cursor-same r c e f =
    ap (λ (o : ℤ). record { source_offset = o; digits = r.digits }) e ∙ ap (λ (ds : List ℕ). record { source_offset = c.source_offset; digits = ds }) f

-- ---- decoding, axis by axis
pub record Decoded (xs : List ReduceOuterAxis) (base : ℤ) (index : ℕ) (c : ReduceOuterCursor) (rest i : ℕ) : Type 0 where
  pub within : i ≤ length xs
  pub before : List ℕ
  pub long : length before ≡ i
  pub held : c.digits ≡ before ++ replicate (PLACES - i) 0
  pub whole : before ++ digits (drop i xs) rest ≡ digits xs index
  pub lies : offset (drop i xs) c.source_offset rest ≡ offset xs base index
  pub axes : Axes (drop i xs)
  pub bounded : Bounded (drop i xs) c.source_offset

pub decoded-none : (xs : List ReduceOuterAxis) (base : ℤ) (index : ℕ) (c : ReduceOuterCursor) → Axes xs → Bounded xs base
    → c.source_offset ≡ base → c.digits ≡ replicate PLACES 0 → Decoded xs base index c index 0
decoded-none xs base index c w b e f =
    record {
      within = omega arith;
      before = [];
      long = refl;
      held = f;
      whole = refl;
      lies = ap (λ (o : ℤ). offset xs o index) e;
      axes = w;
      bounded = rw e b;
    }

module _ (xs : List ReduceOuterAxis) (base : ℤ) (index : ℕ) (c : ReduceOuterCursor) (rest i : ℕ) (p : Decoded xs base index c rest i) (a : ReduceOuterAxis)
    (h : i < PLACES)
    (l : drop i xs ≡ a ∷ drop (i + 1) xs) where
  pub decode-axis : Axis a
  decode-axis = (axes-at a (drop (i + 1) xs) (drop i xs) l p.axes).0

  decode-bounded : Bounded (drop (i + 1) xs) (c.source_offset +ℤ a.source_step *ℤ pos (rest % a.extent))
  decode-bounded = bounded-in a (drop (i + 1) xs) c.source_offset (rest % a.extent) (mod-lt rest decode-axis.1) (rw l at p.bounded)

  pub decode-here : Small c.source_offset
  decode-here = bounded-base (drop i xs) c.source_offset p.bounded

  pub decode-next : Small (c.source_offset +ℤ a.source_step *ℤ pos (rest % a.extent))
  decode-next = bounded-base (drop (i + 1) xs) _ decode-bounded

  pub decoded-more : i < length xs → (r : ReduceOuterCursor) → r.source_offset ≡ c.source_offset +ℤ a.source_step *ℤ pos (rest % a.extent)
      → r.digits ≡ set c.digits i (rest % a.extent)
      → Decoded xs base index r (rest / a.extent) (i + 1)
  unfolding digits
  decoded-more k r e f =
      record {
        within = omega arith;
        before = p.before ++ rest % a.extent ∷ [];
        long = length-append p.before (rest % a.extent ∷ []) ∙ ap (λ (n : ℕ). n + 1) p.long;
        held = f ∙ stored;
        whole =
            append_assoc p.before (rest % a.extent ∷ []) (digits (drop (i + 1) xs) (rest / a.extent))
            ∙ ap (λ (ys : List ReduceOuterAxis). p.before ++ digits ys rest) (sym l) ∙ p.whole;
        lies =
            ap (λ (o : ℤ). offset (drop (i + 1) xs) o (rest / a.extent)) e
            ∙ sym (offset-cons a (drop (i + 1) xs) c.source_offset rest)
            ∙ ap (λ (ys : List ReduceOuterAxis). offset ys c.source_offset rest) (sym l)
            ∙ p.lies;
        axes = (axes-at a (drop (i + 1) xs) (drop i xs) l p.axes).1;
        bounded = rw e decode-bounded;
      }
    where
      room : PLACES - i ≡ suc (PLACES - (i + 1))
      room = omega arith

      stored : set c.digits i (rest % a.extent) ≡ p.before ++ rest % a.extent ∷ [] ++ replicate (PLACES - (i + 1)) 0
      stored =
          ap (λ (ds : List ℕ). set ds i (rest % a.extent)) (p.held ∙ ap (λ (n : ℕ). p.before ++ replicate n 0) room)
          ∙ set_at p.before 0 (replicate (PLACES - (i + 1)) 0) (rest % a.extent) i p.long
          ∙ sym (append_assoc p.before (rest % a.extent ∷ []) (replicate (PLACES - (i + 1)) 0))

pub decoded-all : (xs : List ReduceOuterAxis) (base : ℤ) (index : ℕ) (c : ReduceOuterCursor) (rest i : ℕ) → Decoded xs base index c rest i → length xs ≤ i
    → c ≡ cursor_at xs base index
unfolding cursor_at
decoded-all xs base index c rest i p h =
    let n : i ≡ length xs = let k = p.within in omega arith in
    cursor-same c (cursor_at xs base index) (sym (at-end (drop i xs) none c.source_offset) ∙ p.lies)
    (p.held
    ∙ ap (λ (ds : List ℕ). ds ++ replicate (PLACES - i) 0)
    (sym (append-nil p.before) ∙ ap (λ (ds : List ℕ). p.before ++ ds) (sym (no-digits (drop i xs) none)) ∙ p.whole)
    ∙ ap (λ (m : ℕ). digits xs index ++ replicate (PLACES - m) 0) n)
  where
    none : drop i xs ≡ []
    none = drop_of_length-le xs h

    at-end : (ys : List ReduceOuterAxis) → ys ≡ [] → (o : ℤ) → offset ys o rest ≡ o
    at-end ys e o = rw e (offset-none rest o)

    no-digits : (ys : List ReduceOuterAxis) → ys ≡ [] → digits ys rest ≡ []
    no-digits ys e = rw e (digits-none rest)

stays : (ds : List ℕ) (o : ℤ) → next_offset [] ds o ≡ o
unfolding next_offset
stays ds o = refl

stays-digits : (ds : List ℕ) → next_digits [] ds ≡ ds
unfolding next_digits
stays-digits ds = refl

-- ---- advancing, axis by axis
pub record Advancing (xs : List ReduceOuterAxis) (b c : ReduceOuterCursor) (i : ℕ) : Type 0 where
  pub within : i ≤ length xs
  pub held : c.digits ≡ replicate i 0 ++ drop i b.digits
  pub offsets : next_offset (drop i xs) (drop i b.digits) c.source_offset ≡ next_offset xs b.digits b.source_offset
  pub moved : replicate i 0 ++ next_digits (drop i xs) (drop i b.digits) ≡ next_digits xs b.digits
  pub base : ℤ
  pub index : ℕ
  pub past : List ℕ
  pub axes : Axes (drop i xs)
  pub bounded : Bounded (drop i xs) base
  pub lies : c.source_offset ≡ offset (drop i xs) base index
  pub digit : drop i b.digits ≡ digits (drop i xs) index ++ past

pub advancing-none : (xs : List ReduceOuterAxis) (b : ReduceOuterCursor) → AtElement xs b → Advancing xs b b 0
unfolding cursor_at
advancing-none xs b s =
    record {
      within = omega arith;
      held = refl;
      offsets = refl;
      moved = refl;
      base = s.base;
      index = s.index;
      past = replicate (PLACES - length xs) 0;
      axes = s.axes;
      bounded = s.bounded;
      lies = ap (λ (c : ReduceOuterCursor). c.source_offset) s.at;
      digit = ap (λ (c : ReduceOuterCursor). c.digits) s.at;
    }

module _ (xs : List ReduceOuterAxis) (b c : ReduceOuterCursor) (i : ℕ) (p : Advancing xs b c i) (a : ReduceOuterAxis) (l : drop i xs ≡ a ∷ drop (i + 1) xs)
  where
    d : ℕ
    d = p.index % a.extent

    rest : List ReduceOuterAxis
    rest = drop (i + 1) xs

    pub advance-axis : Axis a
    advance-axis = (axes-at a (drop (i + 1) xs) (drop i xs) l p.axes).0

    -- the digit at i, and those after it
    here : drop i b.digits ≡ d ∷ (digits rest (p.index / a.extent) ++ p.past)
    unfolding digits d rest
    here = p.digit ∙ ap (λ (ys : List ReduceOuterAxis). digits ys p.index ++ p.past) l

    after : drop (i + 1) b.digits ≡ digits rest (p.index / a.extent) ++ p.past
    after = sym (drop-drop 1 i b.digits) ∙ ap (drop 1) here

    pub advance-digit : get_or c.digits i 0 ≡ p.index % a.extent
    unfolding d
    advance-digit =
        ap (λ (ds : List ℕ). get_or ds i 0) (p.held ∙ ap (λ (ds : List ℕ). replicate i 0 ++ ds) here)
        ∙ get_or_at (replicate i 0) d (digits rest (p.index / a.extent) ++ p.past) 0 i (length-replicate i 0)

    stored : (v : ℕ) → set c.digits i v ≡ replicate i 0 ++ v ∷ drop (i + 1) b.digits
    stored v =
        ap (λ (ds : List ℕ). set ds i v) (p.held ∙ ap (λ (ds : List ℕ). replicate i 0 ++ ds) here)
        ∙ set_at (replicate i 0) d (digits rest (p.index / a.extent) ++ p.past) v i (length-replicate i 0)
        ∙ ap (λ (ds : List ℕ). replicate i 0 ++ v ∷ ds) (sym after)

    lies-here : c.source_offset ≡ offset (a ∷ drop (i + 1) xs) p.base p.index
    lies-here = p.lies ∙ ap (λ (ys : List ReduceOuterAxis). offset ys p.base p.index) l

    axes-here : Axes (a ∷ drop (i + 1) xs)
    axes-here = rw l at p.axes

    bounded-here : Bounded (a ∷ drop (i + 1) xs) p.base
    bounded-here = rw l at p.bounded

    pub advance-here : Small c.source_offset
    advance-here = rw lies-here (bounded-offset (a ∷ drop (i + 1) xs) p.base p.index axes-here bounded-here)

    -- the next offset, at a step and at a reset
    opens : next_offset xs b.digits b.source_offset ≡ next_offset (a ∷ drop (i + 1) xs) (d ∷ drop (i + 1) b.digits) c.source_offset
    opens =
        sym p.offsets ∙ ap (λ (ys : List ReduceOuterAxis). next_offset ys (drop i b.digits) c.source_offset) l
        ∙ ap (λ (ds : List ℕ). next_offset (a ∷ drop (i + 1) xs) ds c.source_offset) (here ∙ ap (λ (ds : List ℕ). d ∷ ds) (sym after))

    opens-digits : next_digits xs b.digits ≡ replicate i 0 ++ next_digits (a ∷ drop (i + 1) xs) (d ∷ drop (i + 1) b.digits)
    opens-digits =
        sym p.moved ∙ ap (λ (ys : List ReduceOuterAxis). replicate i 0 ++ next_digits ys (drop i b.digits)) l
        ∙ ap (λ (ds : List ℕ). replicate i 0 ++ next_digits (a ∷ drop (i + 1) xs) ds) (here ∙ ap (λ (ds : List ℕ). d ∷ ds) (sym after))

    module _ (h : p.index % a.extent + 1 < a.extent) where
      pub step-in-bounds : Small (c.source_offset +ℤ a.source_step)
      step-in-bounds =
          rw (lies-here, offset_step a (drop (i + 1) xs) p.base p.index advance-axis.1 h)
          (bounded-offset (a ∷ drop (i + 1) xs) p.base (p.index + 1) axes-here bounded-here)

      pub advanced-step : (r : ReduceOuterCursor) → r.source_offset ≡ c.source_offset +ℤ a.source_step
          → r.digits ≡ set c.digits i (p.index % a.extent + 1) → r ≡ advanced xs b
      unfolding advanced next_offset next_digits d
      advanced-step r e f =
          cursor-same r (advanced xs b)
          (e
          ∙ sym (opens
          ∙ ap (λ (t : Bool). cond t (c.source_offset +ℤ a.source_step)
          (next_offset (drop (i + 1) xs) (drop (i + 1) b.digits) (c.source_offset +ℤ a.source_reset)))
          (lt-ltb (p.index % a.extent + 1) a.extent h)))
          (f
          ∙ stored (p.index % a.extent + 1)
          ∙ sym (opens-digits
          ∙ ap (λ (t : Bool). replicate i 0
          ++ cond t ((p.index % a.extent + 1) ∷ drop (i + 1) b.digits) (0 ∷ next_digits (drop (i + 1) xs) (drop (i + 1) b.digits)))
          (lt-ltb (p.index % a.extent + 1) a.extent h)))

    module _ (h : a.extent ≤ p.index % a.extent + 1) where
      reset-lies : c.source_offset +ℤ a.source_reset ≡ offset (drop (i + 1) xs) p.base (p.index / a.extent)
      reset-lies = ap (λ (z : ℤ). z +ℤ a.source_reset) lies-here ∙ offset-reset a (drop (i + 1) xs) p.base p.index advance-axis h

      after-axes : Axes (drop (i + 1) xs)
      after-axes = (axes-at a (drop (i + 1) xs) (drop i xs) l p.axes).1

      pub reset-in-bounds : Small (c.source_offset +ℤ a.source_reset)
      reset-in-bounds =
          rw reset-lies
          (bounded-offset (drop (i + 1) xs) p.base (p.index / a.extent) after-axes (bounded-after a (drop (i + 1) xs) p.base bounded-here))

      zeros-next : (ds : List ℕ) → replicate i 0 ++ 0 ∷ ds ≡ replicate (i + 1) 0 ++ ds
      zeros-next ds = sym (append_assoc (replicate i 0) (0 ∷ []) ds) ∙ ap (λ (z : List ℕ). z ++ ds) (replicate-append-replicate i 1 0)

      pub advancing-more : i < length xs → (r : ReduceOuterCursor) → r.source_offset ≡ c.source_offset +ℤ a.source_reset
          → r.digits ≡ set c.digits i 0 → Advancing xs b r (i + 1)
      unfolding next_offset next_digits d rest
      advancing-more k r e f =
          record {
            within = omega arith;
            held = f ∙ stored 0 ∙ zeros-next (drop (i + 1) b.digits);
            offsets =
                ap (next_offset (drop (i + 1) xs) (drop (i + 1) b.digits)) e
                ∙ sym (opens
                ∙ ap (λ (t : Bool). cond t (c.source_offset +ℤ a.source_step)
                (next_offset (drop (i + 1) xs) (drop (i + 1) b.digits) (c.source_offset +ℤ a.source_reset)))
                (le-ltb (p.index % a.extent + 1) a.extent h));
            moved =
                sym (opens-digits
                ∙ ap (λ (t : Bool). replicate i 0
                ++ cond t ((p.index % a.extent + 1) ∷ drop (i + 1) b.digits) (0 ∷ next_digits (drop (i + 1) xs) (drop (i + 1) b.digits)))
                (le-ltb (p.index % a.extent + 1) a.extent h)
                ∙ zeros-next (next_digits (drop (i + 1) xs) (drop (i + 1) b.digits)));
            base = p.base;
            index = p.index / a.extent;
            past = p.past;
            axes = after-axes;
            bounded = bounded-after a (drop (i + 1) xs) p.base bounded-here;
            lies = e ∙ reset-lies;
            digit = after;
          }

pub advanced-all : (xs : List ReduceOuterAxis) (b c : ReduceOuterCursor) (i : ℕ) → Advancing xs b c i → length xs ≤ i → c ≡ advanced xs b
unfolding advanced
advanced-all xs b c i p h =
    cursor-same c (advanced xs b) (sym (at-end (drop i xs) (drop_of_length-le xs h)) ∙ p.offsets)
    (p.held ∙ ap (λ (ds : List ℕ). replicate i 0 ++ ds) (sym (at-end-digits (drop i xs) (drop_of_length-le xs h))) ∙ p.moved)
  where
    at-end : (ys : List ReduceOuterAxis) → ys ≡ [] → next_offset ys (drop i b.digits) c.source_offset ≡ c.source_offset
    at-end ys e = rw e (stays (drop i b.digits) c.source_offset)

    at-end-digits : (ys : List ReduceOuterAxis) → ys ≡ [] → next_digits ys (drop i b.digits) ≡ drop i b.digits
    at-end-digits ys e = rw e (stays-digits (drop i b.digits))
