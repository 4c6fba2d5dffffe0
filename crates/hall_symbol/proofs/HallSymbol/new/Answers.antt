-- Each way out is a step of the reader.
use Rattle.std.specs.Prelude.{None, Some}
use mathlib.Core.Path.{refl, sym, ◌∙◌, ap}
use native.Mathlib.Omega.{arith}
use borrow.Author.Tests.{tests}
use Rattle.hall_symbol.specs.Bytes.{allowed}
use Rattle.hall_symbol.specs.Tokens.{word_from}
use Rattle.hall_symbol.specs.Places.{word-within, found-word, no_more}
use Rattle.hall_symbol.specs.Reader.{answer_of}
use Rattle.hall_symbol.specs.Walk.{read-long, read-forbidden, read-blank, read-lattice}
use borrow.Author.Rules.{rules}
use Rattle.hall_symbol.proofs.HallSymbol.new.Goals as goal

pub returns-then-text-gt80 : goal.returns-then-text-gt80
returns-then-text-gt80 c = c.refused.ensures ∙ ap answer_of (sym (read-long c.args.text.now (omega arith)))

pub returns-then-allowed-text : goal.returns-then-allowed-text
returns-then-allowed-text c = c.refused-then-allowed-text.ensures ∙ ap answer_of (sym
    (read-forbidden c.args.text.now (omega arith) c.scan-allowed.result
    (c.scan-allowed.ensures allowed (λ b r low p. search (rules, tests))) (omega arith)))

pub returns-in_default : goal.returns-in_default
returns-in_default c =
    let blank = no_more _ _ c.next_word.result c.next_word.ensures c.in_default.is in
    c.refused-in_default.ensures
    ∙ ap answer_of (sym (read-blank c.args.text.now (omega arith) c.scan-allowed.result (c.scan-allowed.ensures allowed (λ b r low p. search (rules, tests)))
    (omega arith) (word_from 0 c.args.text.now) refl blank))

pub slice_bounds-parse_lattice-count : goal.slice_bounds-parse_lattice-count
slice_bounds-parse_lattice-count c =
    let (after, ordered, reaches) =
    word-within c.args.text.now 0 c.in-Some.word (found-word _ _ c.next_word.result _ c.next_word.ensures c.in-Some.is).0
    (omega arith) in
    ordered

pub slice_bounds-parse_lattice-start : goal.slice_bounds-parse_lattice-start
slice_bounds-parse_lattice-start c =
    let (after, ordered, reaches) =
    word-within c.args.text.now 0 c.in-Some.word (found-word _ _ c.next_word.result _ c.next_word.ensures c.in-Some.is).0
    (omega arith) in
    search rules

pub slice_bounds-parse_lattice-end : goal.slice_bounds-parse_lattice-end
slice_bounds-parse_lattice-end c =
    let (after, ordered, reaches) =
    word-within c.args.text.now 0 c.in-Some.word (found-word _ _ c.next_word.result _ c.next_word.ensures c.in-Some.is).0
    (omega arith) in
    search rules

pub returns-in_default-parse_lattice : goal.returns-in_default-parse_lattice
returns-in_default-parse_lattice c =
    c.refused-in_default-parse_lattice.ensures
    ∙ ap answer_of (sym (read-lattice c.args.text.now
    (omega arith) c.scan-allowed.result
    (c.scan-allowed.ensures allowed (λ b r low p. search (rules, tests))) (omega arith)
    c.in-Some.word (found-word _ _ c.next_word.result _ c.next_word.ensures c.in-Some.is).0
    (found-word _ _ c.next_word.result _ c.next_word.ensures c.in-Some.is).1 (None) (sym c.in_default-parse_lattice.is ∙ c.parse_lattice.ensures)))

pub parse-requires : goal.parse-requires
parse-requires c =
    let (after, ordered, reaches) =
    word-within c.args.text.now 0
    c.in-Some.word
    (found-word _ _ c.next_word.result _ c.next_word.ensures c.in-Some.is).0 (omega arith) in
    (reaches, c.leading-leading.ensures.count)

pub returns : goal.returns
returns c =
    rw c.leading-leading.ensures.listed at c.parse.ensures
    ∙ ap answer_of (sym (read-lattice c.args.text.now (omega arith) c.scan-allowed.result (c.scan-allowed.ensures allowed (λ b r low p. search (rules, tests)))
    (omega arith) c.in-Some.word
    (found-word _ _ c.next_word.result _ c.next_word.ensures c.in-Some.is).0 (found-word _ _ c.next_word.result _ c.next_word.ensures c.in-Some.is).1
    (Some (c.in-Some-parse_lattice.inverted, c.in-Some-parse_lattice.centering)) (sym c.in-Some-parse_lattice.is ∙ c.parse_lattice.ensures)))
