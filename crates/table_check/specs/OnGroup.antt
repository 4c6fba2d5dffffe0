-- What is answered on a table: something of its group, or the refusal of the table, which leaves lent bytes as they are.
use Rattle.std.specs.Prelude.{List, ℕ, Err, Ok, Result}
use Rattle.table_check.specs.declared.Refusal.{Refusal}

-- on the group of a table, or its refusal
abbrev pub on_group : Result ℕ Refusal → (ℕ → Result ℕ Refusal) → Result ℕ Refusal
on_group (Ok e) f = f e
on_group (Err r) f = Err r

-- lent bytes on the group of a table; a refusal of the table leaves them as they are
abbrev pub on_bytes : Result ℕ Refusal → List ℕ → (ℕ → List ℕ) → List ℕ
on_bytes (Ok e) b f = f e
on_bytes (Err r) b f = b
