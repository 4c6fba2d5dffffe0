-- Three words, one behind the other.
use mathlib.Core.Path.{ap}
use Prim.Native.Nat.{ℕ}
use native.Mathlib.Omega.{arith}
use Rattle.answer_text.specs.Words.{space, newline}
use Rattle.answer_text.specs.Lines.{number_word, number-word-short, refusal-parts}
use Rattle.placed_text.specs.Placing.{put_then, put-named}
use Rattle.answer_text.proofs.AnswerText.put_refusal.Goals as goal

pub put_number-requires-2 : goal.put_number-requires-2
put_number-requires-2 c =
    let short = number-word-short c.number.result space (omega (arith, c.number.ensures, c.requires.0)) in
    omega (arith, c.requires, c.place.ensures, c.put_number.ensures.place, c.put_bytes.ensures.place)

pub returns : goal.returns
returns c =
    let r = c.args.refusal in
    let number = ap (λ (n : ℕ). number_word n space) c.number.ensures in
    let place = ap (λ (n : ℕ). number_word n newline) c.place.ensures in
    put-named (refusal-parts r) (put_then c.put_bytes.ensures (put_then (put-named number c.put_number.ensures) (put-named place c.put_number-2.ensures)))
