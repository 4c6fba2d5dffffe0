-- From a text to the list of its group: where a group is answered, the text spells a symbol, its generators are accepted, and the answer's slots hold
-- the list of which all else is known.
use Rattle.std.proofs.Math.Path.{◌≡◌, refl, ap}
use Rattle.std.proofs.Common.{◌∙◌, arith}
use Rattle.std.specs.Prelude.{List, ℕ, ◌-◌, replicate}
use Rattle.std.proofs.Math.ListN.{length, take}
use Rattle.std.proofs.Math.Seq.{take_at}
use Rattle.operation.specs.Product.{identity_operation}
use Rattle.operation.specs.declared.Operation.{Operation}
use Rattle.centering.specs.declared.Centering.{Centering}
use Rattle.hall_symbol.specs.Reader.{Reading, symbol, refusal, read_symbol}
use Rattle.hall_symbol.specs.Spelling.{Spells}
use Rattle.hall_symbol.specs.Agreement.{symbol-exactly}
use Rattle.space_group.specs.Generated.{Outcome, group, refused, outcome_of}
use Rattle.space_group_theorems.specs.Acceptance.{Accepted, accepted-list}
use Rattle.symbol_group.specs.Answers.{outcome_answer, reading_answer, symbol_answer}
use Rattle.symbol_group.specs.Exactly.{symbol-small}
use Rattle.symbol_group.specs.declared.Answer.TheVariants.{Group}
use Rattle.symbol_group.specs.declared.SymbolGroup.{SymbolGroup}

-- The text spells a symbol, its generators are accepted, and the answer's slots hold their list.
pub record AcceptedText (text : List ℕ) : Type 0 where
  pub letter : Centering
  pub generators : List Operation
  pub operations : List Operation
  pub steps : List ℕ
  pub spells : Spells text letter generators
  pub accepted : Accepted letter generators operations steps
  pub answered : symbol_answer text ≡ outcome_answer letter (length generators) (group operations steps)
  pub same-letter : (symbol_answer text).centering ≡ letter
  pub same_count : (symbol_answer text).count ≡ length operations
  pub same-operations : take (symbol_answer text).count (symbol_answer text).operations ≡ operations

module _ (text : List ℕ) where
  -- Its generators decide,
  by-outcome : (c : Centering) (gens : List Operation) → read_symbol text ≡ symbol c gens → (o : Outcome) → outcome_of c gens ≡ o
      → (outcome_answer c (length gens) o).answer ≡ Group → AcceptedText text
  unfolding symbol_answer
  by-outcome c gens e (group operations steps) p a =
      let spells = (symbol-exactly text c gens).0 e in
      let slots : symbol_answer text ≡ outcome_answer c (length gens) (group operations steps) = ap reading_answer e ∙ ap (outcome_answer c (length gens)) p in
      record {
        letter = c;
        generators = gens;
        operations = operations;
        steps = steps;
        spells = spells;
        accepted = accepted-list c gens (symbol-small text c gens spells) operations steps p;
        answered = slots;
        same-letter = ap (λ (g : SymbolGroup). g.centering) slots;
        same_count = ap (λ (g : SymbolGroup). g.count) slots;
        same-operations =
            ap (λ (g : SymbolGroup). take g.count g.operations) slots
            ∙ take_at operations (replicate (48 - length operations) identity_operation) (length operations) refl;
      }
  by-outcome c gens e (refused r) p a = let z : ◌≡◌ {A = ℕ} 0 1 = cc in absurd (omega arith)

  -- and before them its spelling.
  by-reading : (s : Reading) → read_symbol text ≡ s → (reading_answer s).answer ≡ Group → AcceptedText text
  by-reading (symbol c gens) e a = by-outcome c gens e (outcome_of c gens) refl a
  by-reading (refusal r) e a = let z : ◌≡◌ {A = ℕ} 0 1 = cc in absurd (omega arith)

  -- A group is answered only so.
  pub accepted-text : (symbol_answer text).answer ≡ Group → AcceptedText text
  unfolding symbol_answer
  accepted-text a = by-reading (read_symbol text) refl a
