-- Laws of the line that is kept: what is stored is held again, and each step of the code stores what the definitions say.
use Rattle.std.specs.Prelude.{◌≡◌, Bool, set}
use Rattle.std.proofs.Math.Path.{refl, sym, ap, ap₂}
use Rattle.std.proofs.Common.{◌∙◌, take_at, drop_at}
use Rattle.std.proofs.Math.Bool.{true, false}
use mathlib.Core.List.{List, [], ◌∷◌, ◌++◌, append-nil}
use Prim.Native.Nat.{ℕ, suc, ◌+◌, ◌-◌, ◌<◌, ◌≤◌}
use native.Mathlib.Omega.{arith}
use Rattle.std.proofs.Math.Dec.{leb}
use Rattle.std.proofs.Math.ListN.{length, take, drop, length-append, length-drop, take-append-drop, drop_of_length-le}
use Rattle.std.proofs.Math.Seq.{take_all, length-take-le, drop-drop, append_snoc}
use Rattle.std.proofs.lemmas.List.{take-append-le, set_split}
use borrow.Author.Tests.{leb-true, leb-false, le-leb, lt-leb}
use Rattle.lines.specs.Feeding.{most, shortened, joined, short-whole, long-shortened, long-length, shortened-length, shortened-again}
use Rattle.lines.specs.Keeping.{held, stored, zeros, line_in}
use Rattle.lines.specs.declared.Kept.{Kept}
use Rattle.lines.specs.declared.Line.{Line}

-- A line that nothing is left to shorten of.
abbrev pub Handy : List ℕ → Type 0
Handy line = shortened line ≡ line

-- It has at most 81 bytes.
pub handy-length : (line : List ℕ) → Handy line → length line ≤ 81
handy-length line e = omega (arith, ap length e, shortened-length line)

-- A line that a byte has joined is one.
pub joined-handy : (line : List ℕ) (b : ℕ) → Handy (joined line b)
unfolding joined
joined-handy line b = shortened-again (line ++ (b ∷ []))

-- It is no shorter than it was.
pub joined-longer : (line : List ℕ) (b : ℕ) → Handy line → length line ≤ length (joined line b)
unfolding joined
joined-longer line b h = by_length (leb (length (line ++ (b ∷ []))) most) refl
  where
    by_length : (t : Bool) → leb (length (line ++ (b ∷ []))) most ≡ t → length line ≤ length (shortened (line ++ (b ∷ [])))
    by_length true e =
        let more = length-append line (b ∷ []) in
        rw (short-whole (line ++ (b ∷ [])) (leb-true (length (line ++ (b ∷ []))) most e)) (omega arith)
    by_length false e =
        let long = leb-false (length (line ++ (b ∷ []))) most e in
        rw (long-shortened (line ++ (b ∷ [])) long) (omega (arith, handy-length line h, long-length (line ++ (b ∷ [])) long))

-- A state by its two parts.
abbrev kept : ℕ → List ℕ → Kept
kept n bytes = record { status = n; bytes = bytes }

-- A line by its two parts.
abbrev handed : ℕ → List ℕ → Line
handed n bytes = record { length = n; bytes = bytes }

module _ (bytes : List ℕ) (whole : length bytes ≡ most) where
  -- What is stored fills the 80 places,
  pub stored-whole : (line : List ℕ) → length line ≤ 81 → length (stored bytes line).bytes ≡ most
  unfolding stored
  stored-whole line few = by_length (leb (length line) most) refl
    where
      by_length : (t : Bool) → leb (length line) most ≡ t → length (take most line ++ drop (length line) bytes) ≡ most
      by_length true e =
          let short = leb-true (length line) most e in
          length-append (take most line) (drop (length line) bytes) ∙ omega (arith, ap length (take_all most line short), length-drop (length line) bytes)
      by_length false e =
          let long = leb-false (length line) most e in
          length-append (take most line) (drop (length line) bytes) ∙ omega (arith, length-take-le most line (omega arith), length-drop (length line) bytes)

  -- and is held again.
  pub held-stored : (line : List ℕ) → Handy line → held (stored bytes line) ≡ line
  unfolding held stored
  held-stored line h = by_length (leb (length line) most) refl
    where
      by_length : (t : Bool) → leb (length line) most ≡ t → held (stored bytes line) ≡ line
      by_length true e =
          let short = leb-true (length line) most e in
          rw (e, take_all most line short) (take_at line (drop (length line) bytes) (length line) refl)
      by_length false e =
          let long = leb-false (length line) most e in
          let front = take most line in
          let full = length-take-le most line (omega arith) in
          rw e (ap (λ (l : List ℕ). l ++ (0 ∷ [])) (take-append-le most front (drop (length line) bytes) (omega arith) ∙ take_all most front (omega arith))
          ∙ sym (long-shortened line long) ∙ h)

  -- What is stored over a shorter line is stored as it is.
  pub stored-again : (line more : List ℕ) → length line ≤ length more → length more ≤ 81 → stored (stored bytes line).bytes more ≡ stored bytes more
  unfolding stored
  stored-again line more longer few = ap (λ (l : List ℕ). kept (length more) (take most more ++ l)) (by_length (leb (length line) most) refl)
    where
      by_length : (t : Bool) → leb (length line) most ≡ t → drop (length more) (take most line ++ drop (length line) bytes) ≡ drop (length more) bytes
      by_length true e =
          let short = leb-true (length line) most e in
          let gap = length more - length line in
          let sum : length more ≡ length line + gap = omega arith in
          ap (λ (l : List ℕ). drop (length more) (l ++ drop (length line) bytes)) (take_all most line short)
          ∙ ap (λ (n : ℕ). drop n (line ++ drop (length line) bytes)) sum
          ∙ sym (drop-drop gap (length line) (line ++ drop (length line) bytes))
          ∙ ap (drop gap) (drop_at line (drop (length line) bytes) (length line) refl)
          ∙ drop-drop gap (length line) bytes
          ∙ ap (λ (n : ℕ). drop n bytes) (sym sum)
      by_length false e =
          let long = leb-false (length line) most e in
          let all = stored-whole line (omega arith) in
          drop_of_length-le (take most line ++ drop (length line) bytes) {i = length more} (omega arith)
          ∙ sym (drop_of_length-le bytes {i = length more} (omega arith))

module _ (k : Kept) (whole : length k.bytes ≡ most) where
  -- What is held, by the status.
  held-few : k.status ≤ most → held k ≡ take k.status k.bytes
  unfolding held
  held-few h = rw (le-leb k.status most h)

  held-over : most < k.status → held k ≡ take most k.bytes ++ (0 ∷ [])
  unfolding held
  held-over h = rw (lt-leb k.status most h)

  few-length : k.status ≤ most → length (take k.status k.bytes) ≡ k.status
  few-length h = length-take-le k.status k.bytes (omega arith)

  over-whole : take most k.bytes ≡ k.bytes
  over-whole = take_all most k.bytes (omega arith)

  -- Nothing is left to shorten of it.
  pub held-handy : Handy (held k)
  held-handy = by-status (leb k.status most) refl
    where
      by-status : (t : Bool) → leb k.status most ≡ t → shortened (held k) ≡ held k
      by-status true e =
          let few = leb-true k.status most e in
          rw (held-few few) (short-whole (take k.status k.bytes) (omega (arith, few-length few)))
      by-status false e =
          let over = leb-false k.status most e in
          let front = k.bytes ++ (0 ∷ []) in
          let size = length-append k.bytes (0 ∷ []) in
          rw (held-over over, over-whole) (long-shortened front (omega arith) ∙ ap (λ (l : List ℕ). l ++ (0 ∷ [])) (take_at k.bytes (0 ∷ []) most whole))

  -- A status that is not 0 says that there is a byte.
  pub held-some : ¬ (k.status ≡ 0) → 0 < length (held k)
  held-some n = by-status (leb k.status most) refl
    where
      by-status : (t : Bool) → leb k.status most ≡ t → 0 < length (held k)
      by-status true e = let few = leb-true k.status most e in rw (held-few few) (omega (arith, few-length few))
      by-status false e = rw (held-over (leb-false k.status most e)) (omega (arith, length-append (take most k.bytes) (0 ∷ [])))

  -- All 80 bytes and a zero, stored over them.
  full-stored : kept 81 k.bytes ≡ stored k.bytes (k.bytes ++ (0 ∷ []))
  unfolding stored
  full-stored =
      let size = length-append k.bytes (0 ∷ []) in
      ap₂ kept (omega arith)
      (sym (ap₂ ◌++◌ (take_at k.bytes (0 ∷ []) most whole) (drop_of_length-le k.bytes {i = length (k.bytes ++ (0 ∷ []))} (omega arith))
      ∙ append-nil k.bytes))

  -- A status over 81 says no more than 81.
  pub counted-over : most < k.status → kept 81 k.bytes ≡ stored k.bytes (held k)
  counted-over h = full-stored ∙ ap (stored k.bytes) (sym (held-over h ∙ ap (λ (l : List ℕ). l ++ (0 ∷ [])) over-whole))

  -- What is kept is what is stored of it.
  pub counted-few : k.status ≤ most → k ≡ stored k.bytes (held k)
  unfolding stored
  counted-few h =
      let size = few-length h in
      rw (held-few h)
      (ap₂ kept (sym size)
      (sym (ap₂ ◌++◌ (take_all most (take k.status k.bytes) (omega arith)) (ap (λ (n : ℕ). drop n k.bytes) size)
      ∙ take-append-drop k.status k.bytes)))

  -- ---- handing over
  -- The line as it is handed over: with a status over 80, all 80 bytes and a zero,
  pub line-over : most < k.status → handed 81 (take most k.bytes ++ drop most zeros) ≡ line_in (held k)
  unfolding line_in
  line-over h =
      let front = take most k.bytes in
      let size : length (front ++ (0 ∷ [])) ≡ 81 = length-append front (0 ∷ []) ∙ omega (arith, length-take-le most k.bytes (omega arith)) in
      rw (held-over h, size) (ap (handed 81) (sym (append-nil (front ++ (0 ∷ [])))))

  -- else as many as it says.
  pub line-few : k.status ≤ most → handed k.status (take k.status k.bytes ++ drop k.status zeros) ≡ line_in (held k)
  unfolding line_in
  line-few h = rw (held-few h, few-length h)

  module _ (b : ℕ) where
    -- A byte joins 80 or more: the line is over 80 bytes.
    full-joined : most ≤ length (held k) → take most (held k) ≡ k.bytes → joined (held k) b ≡ k.bytes ++ (0 ∷ [])
    unfolding joined
    full-joined many front =
        long-shortened (held k ++ (b ∷ [])) (omega (arith, length-append (held k) (b ∷ [])))
        ∙ ap (λ (l : List ℕ). l ++ (0 ∷ [])) (take-append-le most (held k) (b ∷ []) many ∙ front)

    pub join-full : most ≤ k.status → kept 81 k.bytes ≡ stored k.bytes (joined (held k) b)
    join-full h = full-stored ∙ ap (stored k.bytes) (sym (by-status (leb k.status most) refl))
      where
        by-status : (t : Bool) → leb k.status most ≡ t → joined (held k) b ≡ k.bytes ++ (0 ∷ [])
        by-status true e =
            let few = leb-true k.status most e in
            let all : held k ≡ k.bytes = held-few few ∙ take_all k.status k.bytes (omega arith) in
            full-joined (omega (arith, ap length all)) (ap (take most) all ∙ over-whole)
        by-status false e =
            let over = leb-false k.status most e in
            let all : held k ≡ k.bytes ++ (0 ∷ []) = held-over over ∙ ap (λ (l : List ℕ). l ++ (0 ∷ [])) over-whole in
            let size = length-append k.bytes (0 ∷ []) in
            full-joined (omega (arith, ap length all)) (ap (take most) all ∙ take_at k.bytes (0 ∷ []) most whole)

    -- A byte joins fewer: it is stored behind them.
    pub join_more : k.status < most → kept (k.status + 1) (set k.bytes k.status b) ≡ stored k.bytes (joined (held k) b)
    unfolding stored joined
    join_more h =
        let n = k.status in
        let front = take n k.bytes in
        let size = few-length (omega arith) in
        let more : length (front ++ (b ∷ [])) ≡ suc n = length-append front (b ∷ []) ∙ omega arith in
        let whole-line : shortened (held k ++ (b ∷ [])) ≡ front ++ (b ∷ []) =
        ap (λ (l : List ℕ). shortened (l ++ (b ∷ []))) (held-few (omega arith)) ∙ short-whole (front ++ (b ∷ [])) (omega arith) in
        rw whole-line
        (ap₂ kept (omega arith)
        (set_split k.bytes n b (omega arith) ∙ sym (append_snoc front b (drop (suc n) k.bytes))
        ∙ ap₂ ◌++◌ (sym (take_all most (front ++ (b ∷ [])) (omega arith))) (ap (λ (m : ℕ). drop m k.bytes) (sym more))))
