-- At most 80 bytes, and the newline behind them.
use Rattle.std.proofs.Common.{◌≡◌, ap, ◌∙◌, arith, ℕ, take, length, min}
use Rattle.std.proofs.lemmas.List.{take_min}
use Rattle.placed_text.specs.Placing.{put_then, put-named}
use Rattle.answer_text.proofs.AnswerText.put_symbol.Goals as goal

pub returns : goal.returns
returns c =
    let line = c.args.line.now in
    let few : c.min.result ≡ min 80 (length line) = omega (arith, c.min.ensures) in
    put_then (put-named (ap (λ (k : ℕ). take k line) few ∙ take_min 80 line) c.put_bytes.ensures) c.put_bytes-2.ensures
