-- What can be asked of a symbol, plain or of a layer, what is answered, and that the list of its group answers so.
use Rattle.std.specs.Prelude.{◌≡◌, refl, Bool, true, false, cond, List, ℕ, ◌+◌, ◌≤◌, ltb, get_or, None, Ok, Some}
use Rattle.std.proofs.Common.{sym, ◌∙◌, ap}
use Rattle.operation.specs.Answer.{Answer, given, refused, Nothing}
use Rattle.operation.specs.Product.{identity_operation}
use Rattle.operation.specs.declared.Operation as operation
use Rattle.centering.specs.Letters.{byte_of}
use Rattle.symbol_group.specs.Answers as symbol
use Rattle.symbol_group.specs.Refusals as symbol-refusals
use Rattle.symbol_group.specs.Slots.{symbol-slots}
use Rattle.symbol_group.specs.declared.Answer.TheVariants as symbol-answer
use Rattle.symbol_group.specs.declared.SymbolGroup.{SymbolGroup}
use Rattle.symbol_group.specs.declared.refusal.Refusal as symbol-refusal
use Rattle.layer_group.specs.Answers as layer
use Rattle.layer_group.specs.Refusals as layer-refusals
use Rattle.layer_group.specs.Slots.{layer-places}
use Rattle.layer_group.specs.declared.Answer.TheVariants as layer-answer
use Rattle.layer_group.specs.declared.LayerGroup.{LayerGroup}
use Rattle.layer_group.specs.declared.refusal.Refusal as layer-refusal
use Rattle.symbol_numbers.specs.Answers.{letter_answer}
use Rattle.symbol_numbers.specs.LayerBounds.{layer-told}
use Rattle.answer_numbers.specs.Packing.{Told, mapped, operation_number}
use Rattle.symbol_numbers.specs.SymbolBounds.{symbol-told}
use Rattle.symbol_numbers.specs.declared.question.Question.{Question}
use Rattle.symbol_numbers.specs.declared.question.Question.TheVariants.{Order, Letter, Operation}

-- What a list of operations, its letter and its length answer.
abbrev pub list_answer : Question → ℕ → ℕ → List operation.Operation → Answer ℕ Nothing
list_answer Order count byte operations = given count
list_answer Letter count byte operations = given byte
list_answer (Operation i) count byte operations = cond (ltb i count) (given (operation_number (get_or operations i identity_operation))) (refused 28 0 tt)

-- What is answered for a plain symbol's text,
abbrev pub symbol_to : Question → List ℕ → Answer ℕ Nothing
symbol_to Order text = symbol.order_answer (symbol.order_of text)
symbol_to Letter text = mapped byte_of (letter_answer (symbol.symbol_answer text))
symbol_to (Operation i) text = mapped operation_number (symbol.operation_answer (symbol.operation_at text i))

-- and for a layer symbol's.
abbrev pub layer_to : Question → List ℕ → Answer ℕ Nothing
layer_to Order text = layer.order_answer (layer.order_of text)
layer_to Letter text = layer.letter_answer (layer.letter_of text)
layer_to (Operation i) text = mapped operation_number (layer.operation_answer (layer.operation_at text i))

-- ---- plain symbols
symbol-by : (b : Bool) (o : operation.Operation)
    → cond b (given (operation_number o)) (refused 28 0 tt)
    ≡ mapped operation_number (symbol.operation_answer (cond b (Ok (Some o)) (Ok None)))
symbol-by true o = refl
symbol-by false o = refl

module _ (text : List ℕ) (g : SymbolGroup) (e : g ≡ symbol.symbol_answer text) where
  -- A refusal answers every question,
  pub symbol-refused : (r : symbol-refusal.Refusal) → g.answer ≡ symbol-answer.Refused r → (q : Question)
      → refused (symbol-refusals.number_of r) (symbol-refusals.place_of r) tt ≡ symbol_to q text
  unfolding symbol.order_of symbol.operation_at
  symbol-refused r a Order = rw (← e, a)
  symbol-refused r a Letter = rw (← e, a)
  symbol-refused r a (Operation i) = rw (← e, a)

  -- can be told,
  pub symbol-tells : (r : symbol-refusal.Refusal) → g.answer ≡ symbol-answer.Refused r
      → Told (symbol-refusals.number_of r) (symbol-refusals.place_of r)
  symbol-tells r a = symbol-told text r (sym (ap (λ (g : SymbolGroup). g.answer) e) ∙ a)

  -- and where there is none the list answers.
  pub symbol-lists : g.answer ≡ symbol-answer.Group → (q : Question)
      → list_answer q g.count (byte_of g.centering) g.operations ≡ symbol_to q text
  unfolding symbol.order_of symbol.operation_at
  symbol-lists a Order = rw (← e, a)
  symbol-lists a Letter = rw (← e, a)
  symbol-lists a (Operation i) = rw (← e, a) (symbol-by (ltb i g.count) (get_or g.operations i identity_operation))

  pub symbol-few : g.count ≤ 48
  symbol-few = rw e (symbol-slots text).0

-- ---- layer symbols
layer-by : (b : Bool) (o : operation.Operation)
    → cond b (given (operation_number o)) (refused 28 0 tt)
    ≡ mapped operation_number (layer.operation_answer (cond b (Ok (Some o)) (Ok None)))
layer-by true o = refl
layer-by false o = refl

module _ (text : List ℕ) (g : LayerGroup) (e : g ≡ layer.layer_answer text) where
  -- The same of these.
  pub layer-refused : (r : layer-refusal.Refusal) → g.answer ≡ layer-answer.Refused r → (q : Question)
      → refused (layer-refusals.number_of r) (layer-refusals.place_of r) tt ≡ layer_to q text
  unfolding layer.order_of layer.letter_of layer.operation_at
  layer-refused r a Order = rw (← e, a)
  layer-refused r a Letter = rw (← e, a)
  layer-refused r a (Operation i) = rw (← e, a)

  pub layer-tells : (r : layer-refusal.Refusal) → g.answer ≡ layer-answer.Refused r
      → Told (layer-refusals.number_of r) (layer-refusals.place_of r)
  layer-tells r a = layer-told text r (sym (ap (λ (g : LayerGroup). g.answer) e) ∙ a)

  pub layer-lists : g.answer ≡ layer-answer.Group → (q : Question)
      → list_answer q g.count (byte_of g.centering + 32) g.operations ≡ layer_to q text
  unfolding layer.order_of layer.letter_of layer.operation_at
  layer-lists a Order = rw (← e, a)
  layer-lists a Letter = rw (← e, a)
  layer-lists a (Operation i) = rw (← e, a) (layer-by (ltb i g.count) (get_or g.operations i identity_operation))

  pub layer-few : g.count ≤ 48
  layer-few = rw e (layer-places text).0
