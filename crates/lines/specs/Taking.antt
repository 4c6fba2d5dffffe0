-- The bytes of a piece one after the other, until one ends the line or none is left.
use Rattle.std.specs.Prelude.{◌≡◌, Bool, true, false, cond, eqb, length, get_or, drop}
use Rattle.std.proofs.Math.Path.{refl, ap}
use Rattle.std.proofs.Common.{sym, ◌∙◌, arith, add-one, take-suc, eq-eqb, ne_eqb}
use mathlib.Core.List.{List, [], ◌∷◌, ◌++◌}
use Prim.Native.Nat.{ℕ, suc, ◌+◌, ◌<◌, ◌≤◌}
use Rattle.std.proofs.Math.ListN.{take}
use Rattle.std.proofs.Math.Seq.{drop-cons, drop-length}
use Rattle.lines.specs.Lines.{last_line}
use Rattle.lines.specs.Feeding.{most, shortened, joined, kept_after, kept_behind, handed_over, taken_of, kept-parts, handed-parts}
use Rattle.lines.specs.Keeping.{held, stored, line_in, any_line, first_line, taken_from, last_of}
use Rattle.lines.specs.Storing.{Handy, handy-length, joined-handy, held-stored, held-handy, stored-again, stored-whole, joined-longer, held-some}
use Rattle.lines.specs.declared.Kept.{Kept}

module _ (k : Kept) (piece : List ℕ) where
  -- What a call makes of a piece, by what is handed over and kept on it.
  made_of : (n : ℕ) (behind : List ℕ) (over : List (List ℕ)) → taken_of piece ≡ n → kept_behind (held k) (take n piece) ≡ behind
      → handed_over (held k) (take n piece) ≡ over
      → record { kept = stored k.bytes behind; taken = n; finished = any_line over; line = line_in (first_line over) } ≡ taken_from k piece
  unfolding taken_from
  made_of n behind over taken kept handed = rw (taken, kept, handed)

  -- The line when i bytes are taken.
  abbrev so_far : ℕ → List ℕ
  so_far i = kept_behind (held k) (take i piece)

  -- The first i bytes are taken, and none of them ends a line.
  pub record Taking (line : Kept) (i : ℕ) : Type 0 where
    pub within : i ≤ length piece
    pub counted : i + taken_of (drop i piece) ≡ taken_of piece
    pub handed : handed_over (held k) (take i piece) ≡ []
    pub kept_on : line ≡ stored k.bytes (kept_behind (held k) (take i piece))
    pub handy : Handy (kept_behind (held k) (take i piece))

  module _ (whole : length k.bytes ≡ most) where
    -- At the start of the piece.
    pub taking-none : (line : Kept) → line ≡ stored k.bytes (held k) → Taking line 0
    unfolding handed_over kept_behind
    taking-none line e = record { within = omega arith; counted = omega arith; handed = refl; kept_on = e; handy = held-handy k whole }

    module _ (line : Kept) (i : ℕ) (T : Taking line i) where
      none_left : i ≡ length piece → taken_of (drop i piece) ≡ 0
      unfolding taken_of
      none_left e = rw (e, drop-length piece)

      -- What is held is the line so far.
      held-so-far : held line ≡ so_far i
      held-so-far = ap held T.kept_on ∙ held-stored k.bytes whole (so_far i) T.handy

      -- The places are there.
      pub taking-whole : length line.bytes ≡ most
      taking-whole = ap (λ (m : Kept). length m.bytes) T.kept_on ∙ stored-whole k.bytes whole (so_far i) (handy-length (so_far i) T.handy)

      -- None is left.
      pub taking-all : length piece ≤ i → record { kept = line; taken = i; finished = false; line = line_in [] } ≡ taken_from k piece
      taking-all h =
          let none = none_left (omega (arith, T.within)) in
          ap (λ (m : Kept). record { kept = m; taken = i; finished = false; line = line_in [] }) T.kept_on
          ∙ made_of i (so_far i) [] (omega (arith, T.counted)) refl T.handed

      -- The next byte.
      module _ (h : i < length piece) where
        abbrev pub byte : ℕ
        byte = get_or piece i 0

        one_more : take (i + 1) piece ≡ take i piece ++ (byte ∷ [])
        one_more = ap (λ (n : ℕ). take n piece) (add-one i) ∙ take-suc piece i 0 h

        taken_more : taken_of (drop i piece) ≡ cond (eqb byte 10) 1 (suc (taken_of (drop (i + 1) piece)))
        unfolding taken_of
        taken_more = rw (add-one i, drop-cons piece i 0 h)

        handed-more : handed_over (held k) (take (i + 1) piece) ≡ handed_over (so_far i) (byte ∷ [])
        handed-more = rw one_more (sym (handed-parts (held k) (take i piece) (byte ∷ [])) ∙ rw T.handed refl)

        kept_more : so_far (i + 1) ≡ kept_after (so_far i) byte
        unfolding kept_behind
        kept_more = rw one_more (sym (kept-parts (held k) (take i piece) (byte ∷ [])))

        -- It ends the line.
        pub taking-end : byte ≡ 10 → record { kept = stored k.bytes []; taken = i + 1; finished = true; line = line_in (held line) } ≡ taken_from k piece
        unfolding handed_over kept_after
        taking-end e =
            let one : taken_of (drop i piece) ≡ 1 = taken_more ∙ rw (eq-eqb byte 10 e) refl in
            ap (λ (l : List ℕ). record { kept = stored k.bytes []; taken = i + 1; finished = true; line = line_in l }) held-so-far
            ∙ made_of (i + 1) [] (so_far i ∷ []) (omega (arith, T.counted)) (kept_more ∙ rw (eq-eqb byte 10 e) refl) (handed-more ∙ rw (eq-eqb byte 10 e) refl)

        -- It joins the line.
        pub taking-more : (more : Kept) → ¬ (byte ≡ 10) → more ≡ stored line.bytes (joined (held line) byte) → Taking more (i + 1)
        unfolding handed_over kept_after
        taking-more more n e =
            let next : so_far (i + 1) ≡ joined (so_far i) byte = kept_more ∙ rw (ne_eqb byte 10 n) refl in
            let handy-more = joined-handy (so_far i) byte in
            record {
              within = omega arith;
              counted =
                  let others : taken_of (drop i piece) ≡ suc (taken_of (drop (i + 1) piece)) = taken_more ∙ rw (ne_eqb byte 10 n) refl in
                  omega (arith, T.counted);
              handed = handed-more ∙ rw (ne_eqb byte 10 n) refl;
              kept_on =
                  e ∙ ap (λ (l : List ℕ). stored line.bytes (joined l byte)) held-so-far
                  ∙ ap (λ (m : Kept). stored m.bytes (joined (so_far i) byte)) T.kept_on
                  ∙ stored-again k.bytes whole (so_far i) (joined (so_far i) byte) (joined-longer (so_far i) byte T.handy)
                  (handy-length (joined (so_far i) byte) handy-more)
                  ∙ ap (stored k.bytes) (sym next);
              handy = rw next handy-more;
            }

-- ---- the end
counted-line : (b : ℕ) (l : List ℕ) → last_line (b ∷ l) ≡ (b ∷ l) ∷ []
unfolding last_line
counted-line b l = refl

module _ (k : Kept) (whole : length k.bytes ≡ most) where
  made-last : (over : List (List ℕ)) → last_line (held k) ≡ over → record { finished = any_line over; line = line_in (first_line over) } ≡ last_of k
  unfolding last_of
  made-last over e = rw e

  -- No byte is held,
  pub last_none : k.status ≡ 0 → record { finished = false; line = line_in [] } ≡ last_of k
  unfolding held last_line
  last_none e = made-last [] (rw e refl)

  -- or some are.
  pub last_one : ¬ (k.status ≡ 0) → record { finished = true; line = line_in (held k) } ≡ last_of k
  last_one n = made-last (held k ∷ []) (counts (held k) (held-some k whole n))
    where
      counts : (l : List ℕ) → 0 < length l → last_line l ≡ l ∷ []
      counts [] h = absurd (omega arith)
      counts (b ∷ l) h = counted-line b l

-- ---- lines of at most 81 bytes
none-handy : Handy []
unfolding shortened
none-handy = refl

after-handy : (line : List ℕ) (b : ℕ) → Handy (kept_after line b)
unfolding kept_after
after-handy line b = by_byte (eqb b 10)
  where
    by_byte : (t : Bool) → Handy (cond t [] (joined line b))
    by_byte true = none-handy
    by_byte false = joined-handy line b

-- Nothing is left to shorten of what is kept behind bytes,
pub kept-handy : (line bytes : List ℕ) → Handy line → Handy (kept_behind line bytes)
unfolding kept_behind
kept-handy line [] h = h
kept-handy line (b ∷ bytes) h = kept-handy (kept_after line b) bytes (after-handy line b)

-- nor of a line that is handed over on them.
pub first-handy : (line bytes : List ℕ) → Handy line → Handy (first_line (handed_over line bytes))
unfolding handed_over
first-handy line [] h = none-handy
first-handy line (b ∷ bytes) h = by_byte (eqb b 10) (first-handy (kept_after line b) bytes (after-handy line b))
  where
    by_byte : (t : Bool) → Handy (first_line (handed_over (kept_after line b) bytes))
        → Handy (first_line (cond t (line ∷ handed_over (kept_after line b) bytes) (handed_over (kept_after line b) bytes)))
    by_byte true more = h
    by_byte false more = more

last-handy : (line : List ℕ) → Handy line → Handy (first_line (last_line line))
unfolding last_line
last-handy [] h = none-handy
last-handy (b ∷ line) h = h

-- So what is handed over has at most 81 bytes.
module _ (k : Kept) (whole : length k.bytes ≡ most) where
  pub taken-length : (piece : List ℕ) → (taken_from k piece).line.length ≤ 81
  unfolding taken_from line_in
  taken-length piece =
      let part = take (taken_of piece) piece in
      handy-length (first_line (handed_over (held k) part)) (first-handy (held k) part (held-handy k whole))

  pub last-length : (last_of k).line.length ≤ 81
  unfolding last_of line_in
  last-length = handy-length (first_line (last_line (held k))) (last-handy (held k) (held-handy k whole))

-- At most one line is handed over at a time.
pub handed-once : (line piece : List ℕ) → length (handed_over line (take (taken_of piece) piece)) ≤ 1
unfolding handed_over taken_of
handed-once line [] = omega arith
handed-once line (b ∷ piece) = by_byte (eqb b 10) refl (handed-once (kept_after line b) piece)
  where
    by_byte : (t : Bool) → eqb b 10 ≡ t → length (handed_over (kept_after line b) (take (taken_of piece) piece)) ≤ 1
        → length (handed_over line (take (taken_of (b ∷ piece)) (b ∷ piece))) ≤ 1
    by_byte true e more = rw (e, e) (omega arith)
    by_byte false e more = rw (e, e) more
