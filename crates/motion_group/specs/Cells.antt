-- The cells of a table at the front of lent slots: what is answered on the part cut off there is what is answered on the table.
use Rattle.std.specs.Prelude.{◌≡◌, refl, List, ℕ, ◌-◌, take, Err, Ok, Result}
use Rattle.std.proofs.Common.{◌∙◌, ap}
use Rattle.motion_tables.specs.Answers.{of_table, on_source, bytes_on}
use Rattle.motion_tables.specs.declared.Filled.{Filled}
use Rattle.motion_tables.specs.declared.Refusal.{Refusal}
use Rattle.table_check.specs.declared.Refusal.{Refusal as TableRefusal}

-- ---- the table
-- Where there is a group, the cells up to the end that was told are its table.
pub record Holds (f : Filled) (table cells : List ℕ) : Type 0 where
  pub front : (n : ℕ) → f.source ≡ Ok n → take (f.end - 0) cells ≡ table

-- What is answered on that part is what is answered on the table;
on-table : (s : Result ℕ Refusal) (table part : List ℕ) → ((n : ℕ) → s ≡ Ok n → part ≡ table) → (f : ℕ → List ℕ → Result ℕ TableRefusal)
    → on_source s (λ n. f n part) ≡ on_source s (λ n. f n table)
on-table (Ok n) table part h f = ap (λ (t : List ℕ). of_table (f n t)) (h n refl)
on-table (Err r) table part h f = refl

pub asked : {filled : Filled} {given : Result ℕ Refusal} {table cells : List ℕ} → (filled.source ≡ given) × Holds filled table cells
    → (f : ℕ → List ℕ → Result ℕ TableRefusal) {r : Result ℕ Refusal} → r ≡ on_source filled.source (λ n. f n (take (filled.end - 0) cells))
    → r ≡ on_source given (λ n. f n table)
asked {filled = filled} {table = table} h f e =
    e ∙ on-table filled.source table _ h.1.front f ∙ ap (λ (g : Result ℕ Refusal). on_source g (λ n. f n table)) h.0

-- likewise what lent bytes hold.
bytes-table : (s : Result ℕ Refusal) (table part : List ℕ) → ((n : ℕ) → s ≡ Ok n → part ≡ table) → (lent : List ℕ) (f : ℕ → List ℕ → List ℕ)
    → bytes_on s lent (λ n. f n part) ≡ bytes_on s lent (λ n. f n table)
bytes-table (Ok n) table part h lent f = ap (f n) (h n refl)
bytes-table (Err r) table part h lent f = refl

pub lent-asked : {filled : Filled} {given : Result ℕ Refusal} {table cells : List ℕ} → (filled.source ≡ given) × Holds filled table cells
    → (lent : List ℕ) (f : ℕ → List ℕ → List ℕ) {b : List ℕ} → b ≡ bytes_on filled.source lent (λ n. f n (take (filled.end - 0) cells))
    → b ≡ bytes_on given lent (λ n. f n table)
lent-asked {filled = filled} {table = table} h lent f e =
    e ∙ bytes-table filled.source table _ h.1.front lent f ∙ ap (λ (g : Result ℕ Refusal). bytes_on g lent (λ n. f n table)) h.0
