-- Bytes of the size of a table, whatever they are.
use Rattle.std.specs.Prelude.{◌≡◌, List, ℕ, ◌*◌, ◌≤◌, length}

-- n² bytes, and n at most 48
abbrev pub Sized : ℕ → List ℕ → Type 0
Sized n t = (n ≤ 48) × (length t ≡ n * n)
