-- Each number is read where the last one ended; what each answer says of the definition is a law.
use Rattle.std.proofs.Common.{rules, ◌∙◌, sym, arith}
use borrow.Author.Tests.{tests}
use Rattle.hall_symbol.specs.Bytes.{whitespace}
use Rattle.hall_symbol.specs.Numbers.{no-first, no_second, no_third, more-follows, three-numbers, behind-within}
use Rattle.hall_symbol.proofs.shift.parse_numbers.Goals as goal

pub returns-in_err-x : goal.returns-in_err-x
returns-in_err-x c = let h = c.in_err-x.was in let k = c.from_residual.ensures in
    c.from_residual.ensures ∙ no-first c.args.inside.now (sym c.next_number.ensures ∙ c.in_err-x.was)

pub next_number-requires-2 : goal.next_number-requires-2
next_number-requires-2 c = behind-within 0 c.args.inside.now c.in_ok-x.x c.in_ok-x.behind_x (omega arith) (sym c.next_number.ensures ∙ c.in_ok-x.was)

pub returns-in_err-y : goal.returns-in_err-y
returns-in_err-y c =
    c.from_residual-in_err-y.ensures
    ∙ no_second c.args.inside.now c.in_ok-x.x c.in_ok-x.behind_x (sym c.next_number.ensures ∙ c.in_ok-x.was) (sym c.next_number-2.ensures ∙ c.in_err-y.was)

pub next_number-requires-3 : goal.next_number-requires-3
next_number-requires-3 c =
    let reached = behind-within 0 c.args.inside.now c.in_ok-x.x c.in_ok-x.behind_x (omega arith) (sym c.next_number.ensures ∙ c.in_ok-x.was) in
    behind-within c.in_ok-x.behind_x c.args.inside.now c.in_ok-y.y c.in_ok-y.behind_y reached (sym c.next_number-2.ensures ∙ c.in_ok-y.was)

pub returns-in_err-z : goal.returns-in_err-z
returns-in_err-z c =
    c.from_residual-in_err-z.ensures
    ∙ no_third c.args.inside.now c.in_ok-x.x c.in_ok-x.behind_x (sym c.next_number.ensures ∙ c.in_ok-x.was) c.in_ok-y.y c.in_ok-y.behind_y
    (sym c.next_number-2.ensures ∙ c.in_ok-y.was) (sym c.next_number-3.ensures ∙ c.in_err-z.was)

pub returns-then-scan-inside : goal.returns-then-scan-inside
returns-then-scan-inside c =
    let spaces = c.scan.ensures whitespace (λ b r low p. search (rules, tests)) in
    more-follows c.args.inside.now c.in_ok-x.x c.in_ok-x.behind_x (sym c.next_number.ensures ∙ c.in_ok-x.was) c.in_ok-y.y c.in_ok-y.behind_y
    (sym c.next_number-2.ensures ∙ c.in_ok-y.was) c.in_ok-z.z c.in_ok-z.behind_z (sym c.next_number-3.ensures ∙ c.in_ok-z.was) (omega arith)

pub returns : goal.returns
returns c =
    let spaces = c.scan.ensures whitespace (λ b r low p. search (rules, tests)) in
    three-numbers c.args.inside.now c.in_ok-x.x c.in_ok-x.behind_x (sym c.next_number.ensures ∙ c.in_ok-x.was) c.in_ok-y.y c.in_ok-y.behind_y
    (sym c.next_number-2.ensures ∙ c.in_ok-y.was) c.in_ok-z.z c.in_ok-z.behind_z (sym c.next_number-3.ensures ∙ c.in_ok-z.was) (omega arith)
