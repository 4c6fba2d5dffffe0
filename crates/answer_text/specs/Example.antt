-- The example of R9, in whole lines.
use Rattle.std.specs.Prelude.{◌≡◌, refl, List, [], ◌∷◌, ◌++◌, map, ℕ}
use Prim.Native.String.{String}
use Rattle.std.proofs.Math.IntN.{one}
use Rattle.laws.specs.Integer.{nought, ◌⊖◌}
use Rattle.laws.specs.Matrix.{times, act, plus, opposite, unit, origin, determinant}
use Rattle.laws.specs.Motion.{product}
use Rattle.laws.specs.Residue.{residue, turned, ◌⊕◌}
use Rattle.laws.specs.Distinct.{has}
use Rattle.laws.specs.Lattice as lattice
use Rattle.laws.specs.LatticeMaps.{keeps_points}
use Rattle.laws.specs.Closure.{fresh, run, closure}
use Rattle.laws.specs.SameMatrix.{same_matrix}
use Rattle.laws.specs.Growth.{place}
use Rattle.laws.specs.GrowthClosure.{agrees, steps_from, steady_from}
use Rattle.laws.specs.Sorted.{insert, sort}
use Rattle.laws.specs.Truth.{all}
use Rattle.operation.specs.Meaning.{entry_of, matrix_of, vector_of, motion_of, digit_above, digit_of, inside, row_inside, all_inside}
use Rattle.operation.specs.Product.{operation_of}
use Rattle.operation.specs.RotationType.{handedness_by, handedness_of}
use Rattle.operation.specs.Code.{code_of}
use Rattle.centering.specs.Letters.{letter_among, letter_of}
use Rattle.centering.specs.Lattices as lattices
use Rattle.centering.specs.Keeps.{keeps_of}
use Rattle.hall_token.specs.Bytes as token-bytes
use Rattle.hall_token.specs.Runs as token-runs
use Rattle.hall_axes.specs.Axes as token-axes
use Rattle.hall_axes.specs.Matrices as token-matrices
use Rattle.hall_token.specs.Translations as token-translations
use Rattle.hall_token.specs.RunLetters as token-letters
use Rattle.hall_token.specs.Reader as token-reader
use Rattle.hall_symbol.specs.Bytes.{whitespace, solid, allowed, unclosed, opening}
use Rattle.hall_symbol.specs.Runs as runs
use Rattle.hall_symbol.specs.Tokens.{tokens_from}
use Rattle.hall_symbol.specs.Lattice.{letter_token, lattice_token}
use Rattle.hall_symbol.specs.Shift as shifts
use Rattle.hall_symbol.specs.Generators.{shifted_coordinate, shifted}
use Rattle.hall_symbol.specs.Reader.{at_shift, at_end, operations, read_symbol}
use Rattle.space_group.specs.Generated.{first_off, listing, is_small, same_vector_class, on_list, outcome_of}
use Rattle.symbol_group.specs.Answers.{symbol_answer}
use Rattle.group_record.specs.Items.{bytes_of}
use Rattle.group_record.specs.Record.{smallest_operation, listed_form}
use Rattle.answer_text.specs.Words.{newline, decimal_within, decimal, signed, line_of}
use Rattle.answer_text.specs.Text.{bytes, operation_line, group_text, refusal_text, answer_of, text_of}

-- Quoted lines as bytes.
abbrev pub lines_in : List String → List ℕ
lines_in [] = []
lines_in (s ∷ lines) = bytes s ++ (newline ∷ lines_in lines)

-- What is written for `-P 1` and for `P 1a`.
pub example : map (λ s. text_of (bytes s)) ("-P 1" ∷ "P 1a" ∷ []) ≡ lines_in ("-P 1" ∷ "P 2" ∷ "-1 0 0 0 -1 0 0 0 -1 0 0 0" ∷ "1 0 0 0 1 0 0 0 1 0 0 0" ∷ []) ∷
    lines_in ("P 1a" ∷ "refused 14 0" ∷ []) ∷ []
unfolding text_of answer_of group_text refusal_text operation_line line_of signed decimal decimal_within bytes_of listed_form smallest_operation insert sort
    lattices.smallest_of lattice.smallest lattice.least_rank lattice.rank lattice.unrank ◌⊕◌ symbol_answer outcome_of first_off listing is_small
    same_vector_class on_list keeps_of letter_among letter_of handedness_by handedness_of operation_of entry_of matrix_of vector_of motion_of digit_above
    digit_of inside row_inside all_inside code_of agrees steps_from steady_from place same_matrix fresh run closure keeps_points all lattice.same_triple has
    residue turned product times act plus opposite unit origin determinant nought ◌⊖◌ one whitespace solid allowed unclosed opening runs.run tokens_from
    letter_token lattice_token shifts.one_digit shifts.two_digits shifts.shift_number shifts.numbers_of shifts.closed_shift shifted_coordinate shifted at_shift
    at_end operations read_symbol token-reader.read_run token-reader.letter_then token-reader.read_letter token-reader.mark_then token-reader.read_mark
    token-reader.fold_then token-reader.read_fold token-reader.read_token token-reader.once_then token-reader.moved_then token-letters.occurs
    token-letters.repeats token-letters.repeat_from token-reader.turn_then token-reader.axis_then token-reader.operation_of_parts token-reader.operation_token
    token-bytes.value_at token-bytes.fold_of token-bytes.mark_of token-bytes.letter_of token-bytes.run_byte_of token-bytes.passes token-runs.every
    token-axes.token_place token-matrices.turns token-matrices.is_for token-matrices.turn_among token-matrices.turn_of token-matrices.signed
    token-translations.screw_right token-translations.front_right token-translations.digits_right token-translations.sum_x token-translations.sum_y
    token-translations.sum_z token-translations.rise token-translations.translation_of token-translations.moved_by
example = refl
