use Rattle.std.proofs.Common.{◌≡◌, ◌∙◌, ℕ, sym, ap, arith, length, drop}
use Rattle.std.proofs.lemmas.Bool.{not_from_false, not_from_true}
use Rattle.hall_token.specs.Runs.{no_screw, test-fails, test-passes}
use Rattle.hall_token.specs.Sums.{letters_from, letters-end, letters-stop, letters-next, vector-bound}
use Rattle.hall_token.proofs.translations.letters.Goals as goal

pub returns-then-not-no_screw : goal.returns-then-not-no_screw
returns-then-not-no_screw c =
    let l = c.loop-byte in
    sym (l.invariant.3 ∙ letters-stop c.args.run.now l.byte-index l.x l.y l.z (omega arith)
    (test-fails no_screw _ c.run_byte-byte.result c.no_screw.result c.run_byte-byte.ensures c.no_screw.ensures (not_from_false _ c.if-not-no_screw.true)))

pub overflow_add-x : goal.overflow_add-x
overflow_add-x c =
    let small = vector-bound c.args.run.now _ c.run_byte-byte.result c.letter_vector-vector.result c.run_byte-byte.ensures
    c.letter_vector-vector.ensures in omega arith

pub overflow_add-y : goal.overflow_add-y
overflow_add-y c =
    let small = vector-bound c.args.run.now _ c.run_byte-byte.result c.letter_vector-vector.result c.run_byte-byte.ensures
    c.letter_vector-vector.ensures in omega arith

pub overflow_add-z : goal.overflow_add-z
overflow_add-z c =
    let small = vector-bound c.args.run.now _ c.run_byte-byte.result c.letter_vector-vector.result c.run_byte-byte.ensures
    c.letter_vector-vector.ensures in omega arith

pub loop-byte-preserved : goal.loop-byte-preserved
loop-byte-preserved c =
    let l = c.loop-byte in (
      omega arith,
      omega arith,
      omega arith,
      l.invariant.3
          ∙ letters-next c.args.run.now l.byte-index l.x l.y l.z c.run_byte-byte.result c.letter_vector-vector.result (omega arith)
          (test-passes no_screw _ c.run_byte-byte.result c.no_screw.result c.run_byte-byte.ensures c.no_screw.ensures (not_from_true _ c.if-not-no_screw.false))
          c.run_byte-byte.ensures
          c.letter_vector-vector.ensures,
    )

pub returns : goal.returns
returns c =
    let l = c.loop-byte in
    let run = c.args.run.now in
    let end : l.byte-index ≡ length run = omega arith in
    sym (l.invariant.3 ∙ ap (λ (i : ℕ). letters_from (drop i run) l.x l.y l.z) end
    ∙ letters-end run l.x l.y l.z l.invariant.0 l.invariant.1 l.invariant.2)
