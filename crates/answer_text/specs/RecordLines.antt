-- The lines of the operations in a record's bytes: what is written after each step of the code, and which operations these are.
use Rattle.std.specs.Prelude.{◌≡◌, ℕ, ◌+◌, ◌*◌, ◌-◌, ◌<◌, length, drop}
use Rattle.std.proofs.Math.Path.{sym, ap}
use Rattle.std.proofs.Common.{◌∙◌, arith, add-one}
use mathlib.Core.List.{List, [], ◌∷◌, ◌++◌, append-nil}
use Rattle.std.proofs.Math.ListN.{take}
use Rattle.std.proofs.Math.Seq.{take-suc, take-length}
use Rattle.operation.specs.Product.{identity_operation}
use Rattle.operation.specs.declared.Operation.{Operation}
use Rattle.group_record.specs.Items.{items_in, items-length, item-at, bytes_of, bytes-append}
use Rattle.group_record.specs.Record.{item_width}
use Rattle.group_record.specs.OneRecord.{operation_in}
use Rattle.laws.specs.LentParts.{tail-part}
use Rattle.answer_text.specs.Text.{operation_line}
use Rattle.answer_text.specs.Lines.{Plain}
use Rattle.placed_text.specs.Placing.{Put, put-nothing, put_then, put-named}

-- The first n operations of a record.
abbrev pub operations_in : ℕ → List ℕ → List Operation
operations_in n bytes = items_in item_width operation_in n bytes

-- Each of them has short words.
abbrev pub AllPlain : ℕ → List ℕ → Type 0
AllPlain n bytes = (i : ℕ) → i < n → Plain (operation_in (drop (item_width * i) bytes))

-- The part of the bytes from an operation on is all that is left of them.
pub part-operation : (bytes : List ℕ) (i : ℕ) (f : Operation) → f ≡ operation_in (take (length bytes - item_width * i) (drop (item_width * i) bytes)) → f
    ≡ operation_in (drop (item_width * i) bytes)
part-operation bytes i f e = e ∙ ap operation_in (tail-part bytes (item_width * i))

module _ (n : ℕ) (bytes : List ℕ) where
  -- The lines of the first i operations.
  unfoldable pub lines_to : ℕ → List ℕ
  lines_to i = bytes_of operation_line (take i (operations_in n bytes))

  -- Nothing is written before the first.
  pub lines_start : (out : List ℕ) (at : ℕ) → Put out at (lines_to 0) out at
  unfolding lines_to bytes_of
  lines_start out at = put-nothing out at

  -- One line more.
  lines_more : (i : ℕ) → i < n → lines_to i ++ operation_line (operation_in (drop (item_width * i) bytes)) ≡ lines_to (i + 1)
  unfolding lines_to bytes_of
  lines_more i h =
      let count = items-length item_width operation_in n bytes in
      let more : take (i + 1) (operations_in n bytes) ≡ take i (operations_in n bytes) ++ (operation_in (drop (item_width * i) bytes) ∷ []) =
      ap (λ (k : ℕ). take k (operations_in n bytes)) (add-one i) ∙ take-suc (operations_in n bytes) i identity_operation (omega arith)
      ∙ ap (λ (f : Operation). take i (operations_in n bytes) ++ (f ∷ [])) (item-at item_width operation_in n bytes i identity_operation h) in
      sym (ap (bytes_of operation_line) more ∙ bytes-append operation_line (take i (operations_in n bytes)) (operation_in (drop (item_width * i) bytes) ∷ [])
      ∙ ap (λ (r : List ℕ). bytes_of operation_line (take i (operations_in n bytes))
      ++ r) (append-nil (operation_line (operation_in (drop (item_width * i) bytes)))))

  -- One operation more is written.
  pub lines_next : (i : ℕ) → i < n → {out now after : List ℕ} {at mid end : ℕ} (f : Operation) → f ≡ operation_in (drop (item_width * i) bytes)
      → Put out at (lines_to i) now mid → Put now mid (operation_line f) after end → Put out at (lines_to (i + 1)) after end
  lines_next i h f e p q = put-named (lines_more i h) (put_then p (put-named (ap operation_line e) q))

  -- All of them.
  pub lines_end : (i : ℕ) → i ≡ n → {out now : List ℕ} {at end : ℕ} → Put out at (lines_to i) now end
      → Put out at (bytes_of operation_line (operations_in n bytes)) now end
  unfolding lines_to
  lines_end i e p =
      let whole : take i (operations_in n bytes) ≡ operations_in n bytes = ap (λ (k : ℕ). take k (operations_in n bytes))
      (e ∙ sym (items-length item_width operation_in n bytes)) ∙ take-length (operations_in n bytes) in
      put-named (ap (bytes_of operation_line) whole) p
