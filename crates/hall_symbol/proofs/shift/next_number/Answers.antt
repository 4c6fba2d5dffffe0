-- The next word is the part of the text that the definition takes, and its number is read.
use Rattle.std.proofs.Common.{rules, ◌≡◌, ◌∙◌, Some, None, sym, ap, arith, drop}
use Rattle.hall_symbol.specs.Tokens.{first_word}
use Rattle.hall_symbol.specs.Shift.{shift_number, no_word}
use Rattle.hall_symbol.specs.Places.{word-within, word_bytes, found-word, no_more, no-bytes}
use Rattle.hall_symbol.specs.declared.bytes.Word.{Word}
use Rattle.hall_symbol.proofs.shift.next_number.Goals as goal

pub slice_bounds-parse_number-count : goal.slice_bounds-parse_number-count
slice_bounds-parse_number-count c =
    let (after, ordered, reaches) =
    word-within c.args.inside.now c.args.at c.in_ok-word.word (found-word _ _ c.next_word.result _ c.next_word.ensures c.in_ok-word.was).0 (omega arith) in
    ordered

pub slice_bounds-parse_number-start : goal.slice_bounds-parse_number-start
slice_bounds-parse_number-start c =
    let (after, ordered, reaches) =
    word-within c.args.inside.now c.args.at c.in_ok-word.word (found-word _ _ c.next_word.result _ c.next_word.ensures c.in_ok-word.was).0 (omega arith) in
    search rules

pub slice_bounds-parse_number-end : goal.slice_bounds-parse_number-end
slice_bounds-parse_number-end c =
    let (after, ordered, reaches) =
    word-within c.args.inside.now c.args.at c.in_ok-word.word (found-word _ _ c.next_word.result _ c.next_word.ensures c.in_ok-word.was).0 (omega arith) in
    search rules

pub returns-in_err-word : goal.returns-in_err-word
returns-in_err-word c =
    let blank = no-bytes c.args.at c.args.inside.now (omega arith) (no_more _ _ c.next_word.result c.next_word.ensures c.in_err-word.was) in
    let none : shift_number (first_word (drop c.args.at c.args.inside.now)) ≡ None = sym (no_word _ blank) in
    rw none (search rules)

pub returns-in_err-number : goal.returns-in_err-number
returns-in_err-number c =
    let bytes = word_bytes c.args.inside.now c.args.at c.in_ok-word.word (found-word _ _ c.next_word.result _ c.next_word.ensures c.in_ok-word.was).0 in
    let none : shift_number (first_word (drop c.args.at c.args.inside.now)) ≡ None = ap shift_number (sym bytes) ∙ sym c.parse_number.ensures
    ∙ c.in_err-number.was in
    rw none (search rules)

pub returns : goal.returns
returns c =
    let found = (found-word _ _ c.next_word.result _ c.next_word.ensures c.in_ok-word.was).0 in
    let bytes = word_bytes c.args.inside.now c.args.at c.in_ok-word.word found in
    let is : shift_number (first_word (drop c.args.at c.args.inside.now)) ≡ Some c.in_ok-number.number =
    ap shift_number (sym bytes) ∙ sym c.parse_number.ensures ∙ c.in_ok-number.was in
    rw is (ap (λ (w : Word). Some (c.in_ok-number.number, w.end)) found)
