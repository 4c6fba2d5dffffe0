-- By the sign, and by whether the term is the first.
use mathlib.Core.Path.{sym, ◌∙◌, ap}
use mathlib.Core.Bool.{false}
use Rattle.operation_line.specs.Writing.{sign_bytes}
use Rattle.placed_text.specs.Placing.{put_byte, put-nothing, put-named}
use Rattle.line_writing.proofs.put_sign.Goals as goal

pub returns-then-negative : goal.returns-then-negative
returns-then-negative c = put-named (sym (ap (sign_bytes c.args.first) c.if-negative.true)) (put_byte c.args.out.now c.args.at 45)

pub returns-then-first : goal.returns-then-first
returns-then-first c = put-named (sym (ap (sign_bytes c.args.first) c.if-negative.false ∙ ap (λ f. sign_bytes f false) c.if-first.true))
    (put-nothing c.args.out.now c.args.at)

pub returns : goal.returns
returns c = put-named (sym (ap (sign_bytes c.args.first) c.if-negative.false ∙ ap (λ f. sign_bytes f false) c.if-first.false))
    (put_byte c.args.out.now c.args.at 43)
