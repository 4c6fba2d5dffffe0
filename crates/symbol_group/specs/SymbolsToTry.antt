-- The symbols that the rules give as examples and mark for proof, in one table: what the definitions answer for each.
use Rattle.std.specs.Prelude.{◌≡◌, refl, List, [], ◌∷◌, map, ℕ}
use Prim.Native.String.{String}
use Prim.Native.Char.{code}
use Rattle.std.proofs.Math.IntN.{one}
use Rattle.laws.specs.Integer.{nought, ◌⊖◌}
use Rattle.laws.specs.Matrix.{times, act, plus, opposite, unit, origin, determinant}
use Rattle.laws.specs.Motion.{product}
use Rattle.laws.specs.Residue.{residue, turned}
use Rattle.laws.specs.Distinct.{has}
use Rattle.laws.specs.Lattice.{same_triple}
use Rattle.laws.specs.LatticeMaps.{keeps_points}
use Rattle.laws.specs.Closure.{fresh, run, closure}
use Rattle.laws.specs.SameMatrix.{same_matrix}
use Rattle.laws.specs.Growth.{place}
use Rattle.laws.specs.GrowthClosure.{agrees, steps_from, steady_from}
use Rattle.laws.specs.Truth.{all}
use Rattle.operation.specs.Meaning.{entry_of, matrix_of, vector_of, motion_of, digit_above, digit_of, inside, row_inside, all_inside}
use Rattle.operation.specs.Product.{operation_of}
use Rattle.operation.specs.RotationType.{handedness_by, handedness_of}
use Rattle.centering.specs.Letters.{letter_among, letter_of}
use Rattle.centering.specs.Keeps.{keeps_of}
use Rattle.hall_token.specs.Bytes as token-bytes
use Rattle.hall_token.specs.Runs as token-runs
use Rattle.hall_axes.specs.Axes as token-axes
use Rattle.hall_axes.specs.Matrices as token-matrices
use Rattle.hall_token.specs.Translations as token-translations
use Rattle.hall_token.specs.Offsets as token-offsets
use Rattle.hall_token.specs.RunLetters as token-letters
use Rattle.hall_token.specs.Reader as token-reader
use Rattle.hall_symbol.specs.Bytes.{whitespace, solid, allowed, unclosed, opening}
use Rattle.hall_symbol.specs.Runs as runs
use Rattle.hall_symbol.specs.Tokens.{tokens_from}
use Rattle.hall_symbol.specs.Lattice.{letter_token, lattice_token}
use Rattle.hall_symbol.specs.Shift as shifts
use Rattle.hall_symbol.specs.Generators.{shifted_coordinate, shifted}
use Rattle.hall_symbol.specs.Reader.{at_shift, at_end, operations, read_symbol}
use Rattle.space_group.specs.Generated.{first_off, listing, is_small, same_vector_class, on_list, outcome_of}
use Rattle.operation.specs.Answer.{Answer, given, refused, Nothing}
use Rattle.operation.specs.Code.{code_of}
use Rattle.operation.specs.declared.Operation.{Operation}
use Rattle.symbol_group.specs.Answers.{symbol_answer, operations_answer}

-- A quoted text as bytes.
abbrev bytes : String → List ℕ
bytes String.[] = []
bytes (String.◌∷◌ c s) = code c ∷ bytes s

-- An operation as its rotation's code and its translation in twelfths.
pub record Shown : Type 0 where
  pub turn : ℕ
  pub x : ℕ
  pub y : ℕ
  pub z : ℕ

abbrev shown : Operation → Shown
shown o = record { turn = code_of o.rotation; x = o.translation.x; y = o.translation.y; z = o.translation.z }

abbrev shown_by : Answer (List Operation) Nothing → Answer (List Shown) Nothing
shown_by (given operations) = given (map shown operations)
shown_by (refused number place none) = refused number place none

-- The operations of a symbol in list order, or its refusal's number and place.
unfoldable pub told : String → Answer (List Shown) Nothing
told s = shown_by (operations_answer (symbol_answer (bytes s)))

-- Rotations by their codes: the identity, the inversion, a third of a turn about z, and two thirds.
abbrev unmoved : ℕ
unmoved = 16484

abbrev inverted : ℕ
inverted = 3198

abbrev third : ℕ
third = 7817

abbrev two_thirds : ℕ
two_thirds = 5225

abbrev at : ℕ → ℕ → ℕ → ℕ → Shown
at turn x y z = record { turn = turn; x = x; y = y; z = z }

abbrev refusal : ℕ → ℕ → Answer (List Shown) Nothing
refusal number place = refused number place tt

pub record Case : Type 0 where
  pub symbol : String
  pub answer : Answer (List Shown) Nothing

abbrev is : String → Answer (List Shown) Nothing → Case
is symbol answer = record { symbol = symbol; answer = answer }

abbrev cases : List Case
cases =
    is "P 1" (given (at unmoved 0 0 0 ∷ [])) ∷
    is "-P 1" (given (at unmoved 0 0 0 ∷ at inverted 0 0 0 ∷ [])) ∷
    is "-P 1 (0 0 1)" (given (at unmoved 0 0 0 ∷ at inverted 0 0 2 ∷ [])) ∷
    is "P 31" (given (at unmoved 0 0 0 ∷ at third 0 0 4 ∷ at two_thirds 0 0 8 ∷ [])) ∷
    is "P 1a" (refusal 14 0) ∷
    is "P 2w" (refusal 14 0) ∷
    is "P 2a1" (refusal 7 4) ∷
    is "P 1x" (refusal 6 2) ∷
    is "P 3* 2^" (refusal 6 5) ∷
    is "R 2" (refusal 12 0) ∷
    is "P 4 6" (refusal 13 0) ∷
    is "P" (refusal 10 1) ∷
    is "" (refusal 3 0) ∷
    []

-- The definitions answer what the rules say.
pub symbols-to-try : map (λ c. told c.symbol) cases ≡ map (λ c. c.answer) cases
unfolding told symbol_answer outcome_of first_off listing is_small same_vector_class on_list keeps_of letter_among letter_of handedness_by handedness_of
    operation_of entry_of matrix_of vector_of motion_of digit_above digit_of inside row_inside all_inside code_of agrees steps_from steady_from place
    same_matrix fresh run closure keeps_points all same_triple has residue turned product times act plus opposite unit origin determinant nought ◌⊖◌ one
    whitespace solid allowed unclosed opening runs.run tokens_from letter_token lattice_token shifts.one_digit shifts.two_digits shifts.digits_of
    shifts.shift_number shifts.numbers_of shifts.closed_shift shifted_coordinate shifted at_shift at_end operations read_symbol token-reader.read_run
    token-reader.letter_then token-reader.read_letter token-reader.mark_then token-reader.read_mark token-reader.fold_then token-reader.read_fold
    token-reader.read_token token-reader.moved_then token-reader.turn_then token-reader.axis_then token-reader.operation_of_parts token-reader.operation_token
    token-bytes.value_at token-bytes.fold_of token-bytes.mark_of token-bytes.letter_of token-bytes.run_byte_of token-bytes.passes token-runs.every
    token-axes.token_place token-matrices.turns token-matrices.is_for token-matrices.turn_among token-matrices.turn_of token-matrices.signed
    token-translations.screw_right token-translations.front_right token-translations.digits_right token-translations.sum_x token-translations.sum_y
    token-translations.sum_z token-translations.rise token-translations.translation_of token-translations.moved_by token-offsets.passing
    token-offsets.wrong_digit_at token-letters.occurs token-letters.repeats token-letters.repeat_from token-reader.once_then
symbols-to-try = refl
