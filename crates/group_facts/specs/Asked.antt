-- What is asked of a symbol or a record is asked of an accepted table, or refused; so what holds between the answers on every accepted table holds
-- between theirs.
use Rattle.std.specs.Prelude.{◌≡◌, refl, List, ℕ, Err, Ok, Result}
use Rattle.std.proofs.Common.{ap, arith}
use Rattle.symbol_group.specs.Answers.{order_of}
use Rattle.group_record.specs.Acceptance.{Bytes}
use Rattle.group_table.specs.Tables.{symbol_cells, order_of_record, record_cells}
use Rattle.finite_group.specs.Answers.{identity_answer}
use Rattle.table_check.specs.CheckAnswers.{Accepts}
use Rattle.motion_group.specs.Accepted.{symbol-table-accepted, record-table-accepted}
use Rattle.motion_tables.specs.Answers.{symbol_refusal, record_refusal, of_table, on_symbol, on_record}
use Rattle.group_record.specs.declared.Refusal.{Refusal}
use Rattle.motion_tables.specs.declared.Refusal.{Refusal as MotionRefusal}
use Rattle.symbol_group.specs.declared.refusal.Refusal.{Refusal as SymbolRefusal}
use Rattle.table_check.specs.declared.Refusal.{Refusal as TableRefusal}

-- a value of a table is told as a value, and nothing else is
pub told-value : (a : Result ℕ TableRefusal) (k : ℕ) → of_table a ≡ Ok k → a ≡ Ok k
told-value (Ok v) k p = let same : v ≡ k = cc in ap Ok same
told-value (Err r) k p = let z : ◌≡◌ {A = ℕ} 0 1 = cc in absurd (omega arith)

-- what is asked of a symbol or a record is asked of an accepted table, if it has one
pub record Asked (on : (ℕ → List ℕ → Result ℕ TableRefusal) → Result ℕ MotionRefusal) (t : List ℕ) (Order : ℕ → Type 0) : Type 0 where
  pub accepted : (n : ℕ) → Order n → (e : ℕ) × Accepts n t e
  pub told : (n : ℕ) → Order n → (f : ℕ → List ℕ → Result ℕ TableRefusal) → on f ≡ of_table (f n t)
  pub value : (f : ℕ → List ℕ → Result ℕ TableRefusal) (k : ℕ) → on f ≡ Ok k → (n : ℕ) × Order n × (f n t ≡ Ok k)

-- of a symbol it is
pub symbol-asked : (text : List ℕ) → Asked (on_symbol text) (symbol_cells text) (λ n. order_of text ≡ Ok n)
symbol-asked text = record {
  accepted = λ n o. (0, symbol-table-accepted text n o);
  told = λ n o f. rw o refl;
  value = λ f k p. by_order f k (order_of text) refl p;
}
  where
    by_order : (f : ℕ → List ℕ → Result ℕ TableRefusal) (k : ℕ) (o : Result ℕ SymbolRefusal) → order_of text ≡ o → on_symbol text f ≡ Ok k
        → (n : ℕ) × (order_of text ≡ Ok n) × (f n (symbol_cells text) ≡ Ok k)
    by_order f k (Ok n) o p = (n, o, told-value _ k (rw o at p))
    by_order f k (Err r) o p =
        let q : on_symbol text f ≡ Err (symbol_refusal r) = rw o refl in
        let z : ◌≡◌ {A = ℕ} 0 1 = cc in
        absurd (omega arith)

-- and of a record
pub record-asked : (bytes : List ℕ) → Bytes bytes → Asked (on_record bytes) (record_cells bytes) (λ n. order_of_record bytes ≡ Ok n)
record-asked bytes b = record {
  accepted = λ n o. record-table-accepted bytes b n o;
  told = λ n o f. rw o refl;
  value = λ f k p. by_order f k (order_of_record bytes) refl p;
}
  where
    by_order : (f : ℕ → List ℕ → Result ℕ TableRefusal) (k : ℕ) (o : Result ℕ Refusal) → order_of_record bytes ≡ o → on_record bytes f ≡ Ok k
        → (n : ℕ) × (order_of_record bytes ≡ Ok n) × (f n (record_cells bytes) ≡ Ok k)
    by_order f k (Ok n) o p = (n, o, told-value _ k (rw o at p))
    by_order f k (Err r) o p =
        let q : on_record bytes f ≡ Err (record_refusal r) = rw o refl in
        let z : ◌≡◌ {A = ℕ} 0 1 = cc in
        absurd (omega arith)

-- the identity that is answered is the table's
pub identity-told : (n : ℕ) (t : List ℕ) (e f : ℕ) → Accepts n t f → identity_answer n t ≡ Ok e → Accepts n t e
identity-told n t e f accepted p = let q : Ok f ≡ Ok e = rw accepted at p in let same : f ≡ e = cc in rw same at accepted
