-- The brackets, and what stands between and behind them.
use Rattle.std.proofs.Common.{rules, ◌∙◌, arith}
use borrow.Author.Tests.{tests}
use Rattle.hall_symbol.specs.Bytes.{whitespace, unclosed}
use Rattle.hall_symbol.specs.Numbers.{not-closed, text-follows, brackets-close}
use Rattle.hall_symbol.proofs.shift.parse_origin_shift.Goals as goal

pub returns-then-text-close : goal.returns-then-text-close
unfolding unclosed
returns-then-text-close c =
    let close = c.scan-close.ensures unclosed (λ b r low p. search (rules, tests)) in
    not-closed c.args.text.now c.args.bracket c.scan-close.result close (omega arith)

pub returns-then-scan-text : goal.returns-then-scan-text
unfolding unclosed
returns-then-scan-text c =
    let close = c.scan-close.ensures unclosed (λ b r low p. search (rules, tests)) in
    let spaces = c.scan.ensures whitespace (λ b r low p. search (rules, tests)) in
    text-follows c.args.text.now c.args.bracket c.scan-close.result close (omega arith) (omega arith)

pub slice_bounds-parse_numbers-count : goal.slice_bounds-parse_numbers-count
unfolding unclosed
slice_bounds-parse_numbers-count c = let close = c.scan-close.ensures unclosed (λ b r low p. search (rules, tests)) in omega arith

pub slice_bounds-parse_numbers-start : goal.slice_bounds-parse_numbers-start
unfolding unclosed
slice_bounds-parse_numbers-start c = let close = c.scan-close.ensures unclosed (λ b r low p. search (rules, tests)) in search rules

pub returns : goal.returns
unfolding unclosed
returns c =
    let close = c.scan-close.ensures unclosed (λ b r low p. search (rules, tests)) in
    let spaces = c.scan.ensures whitespace (λ b r low p. search (rules, tests)) in
    c.parse_numbers.ensures ∙ brackets-close c.args.text.now c.args.bracket c.scan-close.result close (omega arith) (omega arith)
