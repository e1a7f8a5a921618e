-- The code of a call over the windows of a slice, by the first refusal that applies.
-- Assumes nothing.
use Prim.Native.Nat.{ℕ, ◌-◌, ◌^◌, ◌≤◌, ◌<◌}
use mathlib.Core.Path.{◌≡◌}
use mathlib.Core.Bool.{Bool, true, false, cond, ◌||◌}
use mathlib.Core.List.{List, [], ◌∷◌}
use native.Mathlib.Omega.{arith}
use lib.Dec.{ltb, eqb}
use borrow.Author.Tests.{eqb-false, eq-eqb, ne_eqb, ltb-false, lt-ltb, le-ltb}
use Rattle.refusals.specs.Refusals.{Ranked, first_of}
use Rattle.offsets.proofs.Accepted.{refused_none}
use Rattle.laws.proofs.Tests.{neither}
use Rattle.windows.specs.Windows.{window_count, windows_code}

module _ (len w ms es bads : ℕ) where
  abbrev count : ℕ
  count = window_count len w

  -- a buffer is too short
  abbrev short : Bool
  short = ltb ms count || ltb es count || ltb bads count

  -- ---- a refused call, and which test refuses it
  pub code-none : w ≡ 0 → 17 ≡ windows_code len w ms es bads
  unfolding windows_code first_of
  code-none e = rw (eq-eqb w 0 e)

  pub code-past : len < w → 17 ≡ windows_code len w ms es bads
  unfolding windows_code first_of
  code-past h = rw (ne_eqb w 0 (λ z. omega arith), lt-ltb len w h)

  module _ (n : w ≡ 0 → ⊥) (fits : w ≤ len) where
    pub code-many : 2 ^ 40 < w → 4 ≡ windows_code len w ms es bads
    unfolding windows_code first_of
    code-many h = rw (ne_eqb w 0 n, le-ltb len w fits, lt-ltb (2 ^ 40) w h)

    module _ (few : w ≤ 2 ^ 40) where
      -- the buffers decide
      by-room : (b : Bool) → short ≡ b → cond b 16 0 ≡ windows_code len w ms es bads
      unfolding windows_code first_of
      by-room b e = rw (ne_eqb w 0 n, le-ltb len w fits, le-ltb (2 ^ 40) w few, e)

      pub code-short-m : ms ≤ len - w → 16 ≡ windows_code len w ms es bads
      code-short-m h = by-room true (rw (lt-ltb ms count (omega arith)))

      module _ (room_m : len - w < ms) where
        pub code-short-e : es ≤ len - w → 16 ≡ windows_code len w ms es bads
        code-short-e h = by-room true (rw (le-ltb ms count room_m, lt-ltb es count (omega arith)))

        module _ (room_e : len - w < es) where
          pub code-short-bad : bads ≤ len - w → 16 ≡ windows_code len w ms es bads
          code-short-bad h = by-room true (rw (le-ltb ms count room_m, le-ltb es count room_e, lt-ltb bads count (omega arith)))

          pub code_ok : len - w < bads → 0 ≡ windows_code len w ms es bads
          code_ok room_bad = by-room false (rw (le-ltb ms count room_m, le-ltb es count room_e, le-ltb bads count room_bad))

  -- ---- an accepted call
  pub record Accepted : Type 0 where
    pub some : 0 < w
    pub fits : w ≤ len
    pub few : w ≤ 2 ^ 40
    pub room_m : window_count len w ≤ ms
    pub room_e : window_count len w ≤ es
    pub room_bad : window_count len w ≤ bads

  pub accepted : windows_code len w ms es bads ≡ 0 → Accepted
  unfolding windows_code
  accepted e =
      let behind : List Ranked = (16, short) ∷ [] in
      let a = refused_none 16 (eqb w 0 || ltb len w) ((4, ltb (2 ^ 40) w) ∷ behind) e in
      let b = refused_none 3 (ltb (2 ^ 40) w) behind a.1 in
      let c = refused_none 15 short [] b.1 in
      let p = neither (eqb w 0) (ltb len w) a.0 in
      let q = neither (ltb ms count || ltb es count) (ltb bads count) c.0 in
      let r = neither (ltb ms count) (ltb es count) q.0 in
      let n = eqb-false w 0 p.0 in
      record {
        some = omega (arith, n);
        fits = ltb-false len w p.1;
        few = ltb-false (2 ^ 40) w b.0;
        room_m = ltb-false ms count r.0;
        room_e = ltb-false es count r.1;
        room_bad = ltb-false bads count q.1;
      }
