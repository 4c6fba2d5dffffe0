-- The line that is being read, as the code keeps it, and what one call makes of it and of a piece.
use Rattle.std.specs.Prelude.{Bool, true, false, cond, List, [], ◌∷◌, ◌++◌, ℕ, leb, length, take, drop, replicate}
use Rattle.lines.specs.Lines.{last_line}
use Rattle.lines.specs.Feeding.{most, kept_behind, handed_over, taken_of}
use Rattle.lines.specs.declared.Kept.{Kept}
use Rattle.lines.specs.declared.Line.{Line}
use Rattle.lines.specs.declared.Taken.{Taken}
use Rattle.lines.specs.declared.Last.{Last}

-- The bytes of the line so far: as many as the status says; a status over 80 says that there were more.
unfoldable pub held : Kept → List ℕ
held k = cond (leb k.status most) (take k.status k.bytes) (take most k.bytes ++ (0 ∷ []))

-- A line so far, kept in place of the first bytes; those behind it stay as they were.
unfoldable pub stored : List ℕ → List ℕ → Kept
stored bytes line = record { status = length line; bytes = take most line ++ drop (length line) bytes }

-- The room of a line that is handed over.
abbrev pub zeros : List ℕ
zeros = replicate 81 0

-- A line that is handed over: zeros stand behind it.
unfoldable pub line_in : List ℕ → Line
line_in line = record { length = length line; bytes = line ++ drop (length line) zeros }

-- At most one line is handed over at a time: whether there is one,
abbrev pub any_line : List (List ℕ) → Bool
any_line [] = false
any_line (line ∷ lines) = true

-- and which.
abbrev pub first_line : List (List ℕ) → List ℕ
first_line [] = []
first_line (line ∷ lines) = line

-- What one call makes of a piece: it takes the bytes up to the first byte 10, with it, or all.
unfoldable pub taken_from : Kept → List ℕ → Taken
taken_from k piece =
    let part = take (taken_of piece) piece in
    record {
      kept = stored k.bytes (kept_behind (held k) part);
      taken = taken_of piece;
      finished = any_line (handed_over (held k) part);
      line = line_in (first_line (handed_over (held k) part));
    }

-- What is handed over at the end.
unfoldable pub last_of : Kept → Last
last_of k = record { finished = any_line (last_line (held k)); line = line_in (first_line (last_line (held k))) }
