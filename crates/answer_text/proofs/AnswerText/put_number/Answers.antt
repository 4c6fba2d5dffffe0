-- One digit or two, and the byte behind them.
use Rattle.std.proofs.Common.{sym, ap, List, [], ◌∷◌, ◌++◌, ℕ}
use Rattle.answer_text.specs.Words.{one-digit, two_digits}
use Rattle.placed_text.specs.Placing.{put-named}
use Rattle.answer_text.proofs.AnswerText.put_number.Goals as goal

pub returns-then-n-lt10 : goal.returns-then-n-lt10
returns-then-n-lt10 c = put-named (ap (λ (w : List ℕ). w ++ (c.args.end ∷ [])) (sym (one-digit c.args.n c.if-n-lt10.true))) c.put_bytes.ensures

pub returns-else-n-lt10 : goal.returns-else-n-lt10
returns-else-n-lt10 c =
    put-named (ap (λ (w : List ℕ). w ++ (c.args.end ∷ [])) (sym (two_digits c.args.n c.if-n-lt10.false c.requires.0))) c.put_bytes-else-n-lt10.ensures
