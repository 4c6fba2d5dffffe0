-- From the answer and the bytes of the record's writer to the text: which group or refusal they say, and that its text fits.
use Rattle.std.specs.Prelude.{◌≡◌, true, ℕ, ◌+◌, ◌*◌, ◌-◌, ◌<◌, ◌≤◌, get_or, take, drop, replicate, Err, Ok, Result}
use Rattle.std.proofs.Math.Path.{refl, ap}
use Rattle.std.proofs.Common.{sym, ◌∙◌, ap₂, subst, arith, length-take, drop_at}
use mathlib.Core.List.{List, [], ◌∷◌, ◌++◌, append_assoc, Memᴰ as Mem}
use Rattle.std.proofs.Math.ListN.{length, length-append}
use Rattle.std.proofs.lemmas.List.{length-replicate, replicate-append-replicate, get_or_at}
use Rattle.std.proofs.Math.Seq.{length-take-le}
use Rattle.operation.specs.Entries.{digits-entries}
use Rattle.operation.specs.Product.{identity_operation}
use Rattle.operation.specs.declared.Operation.{Operation}
use Rattle.centering.specs.Letters.{byte_of}
use Rattle.centering.specs.declared.Centering.{Centering}
use Rattle.laws.specs.Indices.{member-at}
use Rattle.symbol_group.specs.Answers.{symbol_answer}
use Rattle.symbol_group.specs.Refusals.{number_of, place_of}
use Rattle.symbol_group.specs.declared.refusal.Refusal.{Refusal}
use Rattle.symbol_group.specs.declared.Answer.{Answer}
use Rattle.symbol_group.specs.declared.Answer.TheVariants.{Group, Refused}
use Rattle.group_record.specs.Items.{bytes_of, bytes-length, read-written, item-at}
use Rattle.group_record.specs.Editions.{trailer_bytes}
use Rattle.group_record.specs.Record.{item_width, edition_number, total_length, listed_form, written_in, record_in, record_of}
use Rattle.group_record.specs.Groups.{Form, Listing}
use Rattle.group_record.specs.ListedForm.{form-length, listed-form}
use Rattle.group_record.specs.OneRecord.{operation_bytes, operation_in, operation-wide, operation-again, record-length}
use Rattle.record_writing.specs.Places.{room-there, all_placed}
use Rattle.record_writing.specs.Copying.{room_for}
use Rattle.record_writing.specs.AcceptedSymbols.{symbol-writable}
use Rattle.record_writing.specs.SymbolRecords.{text_record, symbol_record_of, symbol_buffer_of}
use Rattle.answer_text.specs.Words.{newline, decimal, line_of, number_short}
use Rattle.answer_text.specs.Text.{operation_line, group_text, refusal_text, answer_of, text_of, text_answer}
use Rattle.answer_text.specs.Lines.{Plain, refusal-parts, lines-short}
use Rattle.answer_text.specs.RecordLines.{operations_in, AllPlain}
use Rattle.answer_text.specs.Places.{place-small, number_small}
use Rattle.placed_text.specs.Placing.{Put, put_front, put-named}
use Rattle.answer_text.specs.declared.AnswerText.{AnswerText}
use Rattle.record_writing.specs.declared.Unwritten.TheVariants.{NoRoom, Refused as NotWritten}
use Rattle.record_writing.specs.declared.Unwritten.{Unwritten}

-- Operations in the listed form have short words.
form-plain : (c : Centering) (form : List Operation) → Form c form → (f : Operation) → Mem f form → Plain f
form-plain c form F f m =
    let below = (F.smallest f m).below in
    record { digits = (digits-entries f.rotation).1 (F.entries f m); x = omega arith; y = omega arith; z = omega arith }

-- ---- bytes that hold operations in the listed form, then the letter
module _ (c : Centering) (form : List Operation) (F : Form c form) (n : ℕ) (count : length form ≡ n) (bytes rest : List ℕ)
    (split : bytes ≡ bytes_of operation_bytes form ++ (byte_of c ∷ rest)) where
  -- They say these operations,
  pub held-operations : operations_in n bytes ≡ form
  held-operations =
      ap₂ operations_in (sym count) split
      ∙ read-written item_width operation_bytes operation-wide operation_in form (byte_of c ∷ rest) (λ f more m. operation-again f more (F.entries f m))

  -- and the letter,
  pub held-letter : get_or bytes (item_width * n) 0 ≡ byte_of c
  held-letter =
      ap (λ (b : List ℕ). get_or b (item_width * n) 0) split
      ∙ get_or_at (bytes_of operation_bytes form) (byte_of c) rest 0 (item_width * n) (bytes-length item_width operation_bytes operation-wide form
      ∙ ap (λ (k : ℕ). item_width * k) count)

  -- and none has long words.
  pub held_plain : AllPlain n bytes
  held_plain i h =
      let inside : i < length form = omega arith in
      let found : get_or form i identity_operation ≡ operation_in (drop (item_width * i) bytes) =
      ap (λ (l : List Operation). get_or l i identity_operation) (sym held-operations) ∙ item-at item_width operation_in n bytes i identity_operation h in
      subst Plain found (form-plain c form F (get_or form i identity_operation) (member-at form i identity_operation inside))

  -- So the text that the code writes is that of the group.
  pub held-text : line_of ((get_or bytes (item_width * n) 0 ∷ []) ∷ decimal n ∷ []) ++ bytes_of operation_line (operations_in n bytes) ≡ group_text c form
  unfolding group_text
  held-text = rw (held-letter, held-operations, count)

-- ---- what the writer of the record answers
-- The buffer that is lent to it.
abbrev pub zeros : List ℕ
zeros = replicate 245 0

-- What it answers, where there is room.
abbrev told_by : Answer → ℕ → Result ℕ (Unwritten Refusal)
told_by Group n = Ok n
told_by (Refused r) n = Err (NotWritten r)

module _ (line : List ℕ) where
  -- There is room for every symbol's record.
  enough-room : (symbol_answer line).answer ≡ Group → room_for 0 (symbol_answer line).count 245 ≡ true
  enough-room a =
      let (few, there, listing) = symbol-writable line (symbol_answer line) refl a in
      room-there 0 (total_length item_width (symbol_answer line).count) 245 (omega arith) (omega arith)

  -- What is answered, by the symbol's answer.
  told-by : (a : Answer) → (symbol_answer line).answer ≡ a → symbol_record_of line zeros 0 ≡ told_by a (symbol_answer line).count
  unfolding symbol_record_of
  told-by Group e = rw (e, enough-room e)
  told-by (Refused r) e = rw e

  module _ (w : Result ℕ (Unwritten Refusal)) (e : w ≡ symbol_record_of line zeros 0) where
    -- Operations were written: a group, of so many.
    pub told-written : (n : ℕ) → w ≡ Ok n → ((symbol_answer line).answer ≡ Group) × ((symbol_answer line).count ≡ n)
    told-written n p = go (symbol_answer line).answer refl
      where
        go : (a : Answer) → (symbol_answer line).answer ≡ a → ((symbol_answer line).answer ≡ Group) × ((symbol_answer line).count ≡ n)
        go Group h = let q : (Ok (symbol_answer line).count) ≡ (Ok n) = sym (told-by Group h) ∙ sym e ∙ p in (h, cc)
        go (Refused r) h =
            let q : (Err (NotWritten r)) ≡ (Ok n) = sym (told-by (Refused r) h) ∙ sym e ∙ p in
            let z : ◌≡◌ {A = ℕ} 0 1 = cc in
            absurd (omega arith)

    -- A refusal: the symbol's.
    pub told-refused : (r : Refusal) → w ≡ Err (NotWritten r) → (symbol_answer line).answer ≡ Refused r
    told-refused r p = go (symbol_answer line).answer refl
      where
        go : (a : Answer) → (symbol_answer line).answer ≡ a → (symbol_answer line).answer ≡ Refused r
        go Group h =
            let q : (Ok (symbol_answer line).count) ≡ (Err (NotWritten r)) = sym (told-by Group h) ∙ sym e ∙ p in
            let z : ◌≡◌ {A = ℕ} 0 1 = cc in
            absurd (omega arith)
        go (Refused q) h = let k : (Err (NotWritten q)) ≡ (Err (NotWritten r)) = sym (told-by (Refused q) h) ∙ sym e ∙ p in let same : q ≡ r = cc in
            h ∙ ap Refused same

    -- Never that there is no room.
    pub told-room : w ≡ Err NoRoom → ⊥
    told-room p = go (symbol_answer line).answer refl
      where
        go : (a : Answer) → (symbol_answer line).answer ≡ a → ⊥
        go Group h =
            let q : (Ok (symbol_answer line).count) ≡ (Err NoRoom) = sym (told-by Group h) ∙ sym e ∙ p in
            let z : ◌≡◌ {A = ℕ} 0 1 = cc in
            omega arith
        go (Refused r) h =
            let q : (Err (NotWritten r)) ≡ (Err NoRoom) = sym (told-by (Refused r) h) ∙ sym e ∙ p in
            let z : ◌≡◌ {A = ℕ} 0 1 = cc in
            omega arith

  -- The text of a refusal.
  pub refused-text : (r : Refusal) → (symbol_answer line).answer ≡ Refused r → refusal_text r ≡ answer_of line
  unfolding answer_of
  refused-text r e = rw e

  -- The text of a group.
  module _ (a : (symbol_answer line).answer ≡ Group) where
    -- Its letter,
    letter : Centering
    letter = (symbol_answer line).centering

    -- its operations as they are listed,
    listed : List Operation
    listed = take (symbol_answer line).count (symbol_answer line).operations

    -- what is known of them,
    writable : ((symbol_answer line).count ≤ 48) × ((symbol_answer line).count ≤ length (symbol_answer line).operations) × Listing listed
    unfolding listed
    writable = symbol-writable line (symbol_answer line) refl a

    -- and of their listed form.
    form : Form letter (listed_form letter listed)
    form = listed-form letter writable.2

    -- There are as many as counted,
    listed-count : length listed ≡ (symbol_answer line).count
    unfolding listed
    listed-count = length-take-le (symbol_answer line).count (symbol_answer line).operations writable.1

    -- and the form has as many.
    form-count : length (listed_form letter listed) ≡ (symbol_answer line).count
    form-count = form-length letter listed ∙ listed-count

    -- The text is that of the letter and the form.
    group-answer : group_text letter (listed_form letter listed) ≡ answer_of line
    unfolding answer_of letter listed
    group-answer = rw a

    -- A letter, a count and at most 48 lines.
    group-fits : length (answer_of line) ≤ 1733
    unfolding group_text line_of
    group-fits =
        let count : length (listed_form letter listed) ≤ 48 = omega (arith, form-count, writable.0) in
        let lines = lines-short (listed_form letter listed) (form-plain letter (listed_form letter listed) form) in
        let number = number_short (length (listed_form letter listed)) (omega arith) in
        rw (← group-answer) (simp length-append (omega arith))

    -- From the bytes of its record.
    module _ (n : ℕ) (bytes : List ℕ) (same : (symbol_answer line).count ≡ n) (p : bytes ≡ symbol_buffer_of line zeros 0) where
      behind : List ℕ
      behind =
          drop 1 (trailer_bytes item_width edition_number (byte_of letter) (length (listed_form letter listed)))
          ++ drop (0 + total_length item_width (symbol_answer line).count) zeros

      placed : symbol_buffer_of line zeros 0 ≡ record_of letter listed ++ drop (0 + total_length item_width (symbol_answer line).count) zeros
      unfolding symbol_buffer_of text_record letter listed
      placed = rw a (all_placed zeros 0 (total_length item_width (symbol_answer line).count) (record_of letter listed)
          (record-length letter listed ∙ ap (total_length item_width) listed-count) (enough-room a))

      split : bytes ≡ bytes_of operation_bytes (listed_form letter listed) ++ (byte_of letter ∷ behind)
      unfolding record_of record_in written_in behind
      split = p ∙ placed ∙ append_assoc (bytes_of operation_bytes (listed_form letter listed))
          (trailer_bytes item_width edition_number (byte_of letter) (length (listed_form letter listed)))
          (drop (0 + total_length item_width (symbol_answer line).count) zeros)

      pub group-few : n ≤ 48
      group-few = omega (arith, writable.0)

      pub group-plain : AllPlain n bytes
      group-plain = held_plain letter (listed_form letter listed) form n (form-count ∙ same) bytes behind split

      pub group-text : line_of ((get_or bytes (item_width * n) 0 ∷ []) ∷ decimal n ∷ []) ++ bytes_of operation_line (operations_in n bytes) ≡ answer_of line
      group-text = held-text letter (listed_form letter listed) form n (form-count ∙ same) bytes behind split ∙ group-answer

-- ---- the whole text fits
-- A refusal takes three short words.
refusal-fits : (r : Refusal) → place_of r ≤ 80 → length (refusal_text r) ≤ 14
refusal-fits r h =
    let number = number_short (number_of r) (omega (arith, number_small r)) in
    let place = number_short (place_of r) (omega arith) in
    rw (← refusal-parts r) (simp length-append (omega arith))

-- Every answer fits behind the symbol's line.
answer-fits : (line : List ℕ) → length (answer_of line) ≤ 1733
answer-fits line = go (symbol_answer line).answer refl
  where
    go : (a : Answer) → (symbol_answer line).answer ≡ a → length (answer_of line) ≤ 1733
    go Group e = group-fits line e
    go (Refused r) e = let short = refusal-fits r (place-small line r e) in rw (← refused-text line r e) (omega arith)

-- No text is longer than the buffer, so nothing is ever cut off.
pub text-fits : (line : List ℕ) → length (text_of line) ≤ 1814
unfolding text_of
text-fits line = simp length-append (omega (arith, answer-fits line, length-take 80 line))

-- The symbol's line, and the answer behind it.
symbol-joined : (line : List ℕ) → (take 80 line ++ (newline ∷ [])) ++ answer_of line ≡ text_of line
unfolding text_of
symbol-joined line = append_assoc (take 80 line) (newline ∷ []) (answer_of line)

-- ---- the buffer
-- Zeros without the first k of them.
drop-zeros : (n k b : ℕ) → k ≤ n → drop k (replicate n b) ≡ replicate (n - k) b
drop-zeros n k b h =
    let e : k + (n - k) ≡ n = omega arith in
    ap (λ (m : ℕ). drop k (replicate m b)) (sym e) ∙ ap (drop k) (sym (replicate-append-replicate k (n - k) b))
    ∙ drop_at (replicate k b) (replicate (n - k) b) k (length-replicate k b)

-- The symbol's line and the answer behind it, written into zeros, are the text with zeros behind it.
pub answer-put : (line after : List ℕ) (end : ℕ) → Put (replicate 1814 0) 0 ((take 80 line ++ (newline ∷ [])) ++ answer_of line) after end
    → ◌≡◌ {A = AnswerText} (record { length = end; bytes = after }) (text_answer line)
unfolding text_answer
answer-put line after end p =
    let q = put-named (symbol-joined line) p in
    let room = length-replicate {A = ℕ} 1814 0 in
    let filled = q.bytes ∙ put_front (replicate 1814 0) (text_of line) (omega (arith, text-fits line))
    ∙ ap (λ (l : List ℕ). text_of line ++ l) (drop-zeros 1814 (length (text_of line)) 0 (text-fits line)) in
    ap₂ (λ (n : ℕ) (l : List ℕ). record { length = n; bytes = l }) (q.place ∙ omega arith) filled

-- The length lies within the buffer.
pub answer-size : (line : List ℕ) (r : AnswerText) → r ≡ text_answer line → (r.length ≤ 1814) × (length r.bytes ≡ 1814)
unfolding text_answer
answer-size line r e =
    let fits = text-fits line in
    let zeros-behind = length-replicate {A = ℕ} (1814 - length (text_of line)) 0 in
    rw e (fits, length-append (text_of line) (replicate (1814 - length (text_of line)) 0) ∙ omega arith)
