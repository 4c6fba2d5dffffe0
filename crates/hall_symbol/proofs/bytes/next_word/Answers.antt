-- Two scans, one behind the other, where the first does not reach the end.
use Rattle.std.proofs.Common.{rules, lt-ltb, le-ltb}
use borrow.Author.Tests.{tests}
use Rattle.hall_symbol.specs.Bytes.{whitespace, solid}
use Rattle.hall_symbol.specs.Places.{found_word}
use Rattle.hall_symbol.proofs.bytes.next_word.Goals as goal

pub returns-then-text-start : goal.returns-then-text-start
unfolding found_word
returns-then-text-start c =
    let start = c.scan-start.ensures whitespace (λ b r low p. search (rules, tests)) in
    rw (← start, le-ltb _ _ c.if-text-start.true)

pub returns : goal.returns
unfolding found_word solid
returns c =
    let start = c.scan-start.ensures whitespace (λ b r low p. search (rules, tests)) in
    let end = c.scan-end.ensures solid (λ b r low p. search (rules, tests)) in
    rw (← start, lt-ltb _ _ c.if-text-start.false, end)
