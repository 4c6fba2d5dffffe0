-- The example of R5.6 from its text: the record of `-P 1`, byte by byte. It holds the whole way, from text to bytes, against the paper.
use Rattle.std.specs.Prelude.{◌≡◌, refl, [], ◌∷◌}
use Rattle.laws.specs.Residue.{residue, turned, ◌⊕◌}
use Rattle.laws.specs.Lattice.{same_triple, smallest, least_rank, rank, unrank}
use Rattle.laws.specs.Sorted.{sort, insert}
use Rattle.std.proofs.Math.IntN.{one}
use Rattle.laws.specs.Integer.{nought, ◌⊖◌}
use Rattle.laws.specs.Matrix.{times, act, plus, opposite, unit, origin, determinant}
use Rattle.laws.specs.Motion.{product}
use Rattle.laws.specs.Distinct.{has}
use Rattle.laws.specs.LatticeMaps.{keeps_points}
use Rattle.laws.specs.Closure.{fresh, run, closure}
use Rattle.laws.specs.SameMatrix.{same_matrix}
use Rattle.laws.specs.Growth.{place}
use Rattle.laws.specs.GrowthClosure.{agrees, steps_from, steady_from}
use Rattle.laws.specs.Truth.{all}
use Rattle.operation.specs.Meaning.{entry_of, matrix_of, vector_of, motion_of, digit_above, digit_of, inside, row_inside, all_inside}
use Rattle.operation.specs.Product.{operation_of}
use Rattle.operation.specs.RotationType.{handedness_by, handedness_of}
use Rattle.centering.specs.Letters.{letter_among, letter_of}
use Rattle.centering.specs.Keeps.{keeps_of}
use Rattle.hall_token.specs.Bytes as token-bytes
use Rattle.hall_token.specs.Runs as token-runs
use Rattle.hall_axes.specs.Axes as token-axes
use Rattle.hall_axes.specs.Matrices as token-matrices
use Rattle.hall_token.specs.Translations as token-translations
use Rattle.hall_token.specs.Offsets as token-offsets
use Rattle.hall_token.specs.RunLetters as token-letters
use Rattle.hall_token.specs.Reader as token-reader
use Rattle.hall_symbol.specs.Bytes.{whitespace, solid, allowed, unclosed, opening}
use Rattle.hall_symbol.specs.Runs as runs
use Rattle.hall_symbol.specs.Tokens.{tokens_from}
use Rattle.hall_symbol.specs.Lattice.{letter_token, lattice_token}
use Rattle.hall_symbol.specs.Shift as shifts
use Rattle.hall_symbol.specs.Generators.{shifted_coordinate, shifted}
use Rattle.hall_symbol.specs.Reader.{at_shift, at_end, operations, read_symbol}
use Rattle.space_group.specs.Generated.{first_off, listing, is_small, same_vector_class, on_list, outcome_of}
use Rattle.operation.specs.Code.{code_of}
use Rattle.centering.specs.Lattices.{smallest_of}
use Rattle.symbol_group.specs.Answers.{symbol_answer}
use Rattle.group_record.specs.Items.{bytes_of}
use Rattle.group_record.specs.Record.{item_bytes, written_in, smallest_operation, listed_form, record_in, record_of}
use Rattle.record_writing.specs.SymbolRecords.{text_record}

-- 2D 50 20 31 has the record 0C 7E 00 00 00 40 64 00 00 00 50 01 02 00 0F.
pub text-example : text_record (45 ∷ 80 ∷ 32 ∷ 49 ∷ []) ≡ 12 ∷ 126 ∷ 0 ∷ 0 ∷ 0 ∷ 64 ∷ 100 ∷ 0 ∷ 0 ∷ 0 ∷ 80 ∷ 1 ∷ 2 ∷ 0 ∷ 15 ∷ []
unfolding text_record record_of record_in written_in listed_form smallest_operation smallest_of smallest least_rank rank unrank ◌⊕◌ sort insert bytes_of
    item_bytes
    symbol_answer outcome_of first_off listing is_small same_vector_class on_list keeps_of letter_among letter_of handedness_by handedness_of operation_of
    entry_of
    matrix_of vector_of motion_of digit_above digit_of inside row_inside all_inside code_of agrees steps_from steady_from place same_matrix fresh run
    closure keeps_points all same_triple has residue turned product times act plus opposite unit origin determinant nought ◌⊖◌ one whitespace solid allowed
    unclosed opening runs.run tokens_from letter_token lattice_token shifts.one_digit shifts.two_digits shifts.digits_of shifts.shift_number shifts.numbers_of
    shifts.closed_shift shifted_coordinate shifted at_shift at_end operations read_symbol token-reader.read_run token-reader.letter_then
    token-reader.read_letter
    token-reader.mark_then token-reader.read_mark token-reader.fold_then token-reader.read_fold token-reader.read_token token-reader.moved_then
    token-reader.turn_then token-reader.axis_then token-reader.operation_of_parts token-reader.operation_token token-bytes.value_at token-bytes.fold_of
    token-bytes.mark_of token-bytes.letter_of token-bytes.run_byte_of token-bytes.passes token-runs.every token-axes.token_place token-matrices.turns
    token-matrices.is_for token-matrices.turn_among token-matrices.turn_of token-matrices.signed token-translations.screw_right token-translations.front_right
    token-translations.digits_right token-translations.sum_x token-translations.sum_y token-translations.sum_z token-translations.rise
    token-translations.translation_of token-translations.moved_by token-offsets.passing token-offsets.wrong_digit_at token-letters.occurs token-letters.repeats
    token-letters.repeat_from token-reader.once_then
text-example = refl
