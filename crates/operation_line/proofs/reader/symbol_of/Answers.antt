-- Each key of the match is an entry of the table; past the last key every test of the table fails.
use mathlib.Core.Path.{◌≡◌, sym, ap}
use Prim.Native.Nat.{ℕ, ◌<◌}
use native.Mathlib.Omega.{arith}
use borrow.Author.Tests.{ne_eqb, lt-ltb, le-ltb}
use Rattle.operation_line.specs.Reading.{symbol_of, symbol_in, digit_or}
use Rattle.operation_line.proofs.reader.symbol_of.Goals as goal

-- A byte that is no mark is a digit or foreign.
unmarked : (b : ℕ) → (b ≡ 32 → ⊥) → (b ≡ 43 → ⊥) → (b ≡ 45 → ⊥) → (b ≡ 44 → ⊥) → (b ≡ 47 → ⊥) → (b ≡ 120 → ⊥) → (b ≡ 121 → ⊥) → (b ≡ 122 → ⊥)
    → digit_or b ≡ symbol_of b
unfolding symbol_of symbol_in
unmarked b space plus minus comma slash x y z =
    simp (
      ne_eqb b 32 space,
      ne_eqb b 43 plus,
      ne_eqb b 45 minus,
      ne_eqb b 44 comma,
      ne_eqb b 47 slash,
      ne_eqb b 120 x,
      ne_eqb b 121 y,
      ne_eqb b 122 z,
    )

pub returns-in-32 : goal.returns-in-32
unfolding symbol_of symbol_in
returns-in-32 c = sym (ap symbol_of c.in-32.is)

pub returns-in-43 : goal.returns-in-43
unfolding symbol_of symbol_in
returns-in-43 c = sym (ap symbol_of c.in-43.is)

pub returns-in-45 : goal.returns-in-45
unfolding symbol_of symbol_in
returns-in-45 c = sym (ap symbol_of c.in-45.is)

pub returns-in-44 : goal.returns-in-44
unfolding symbol_of symbol_in
returns-in-44 c = sym (ap symbol_of c.in-44.is)

pub returns-in-47 : goal.returns-in-47
unfolding symbol_of symbol_in
returns-in-47 c = sym (ap symbol_of c.in-47.is)

pub returns-in-120 : goal.returns-in-120
unfolding symbol_of symbol_in
returns-in-120 c = sym (ap symbol_of c.in-120.is)

pub returns-in-121 : goal.returns-in-121
unfolding symbol_of symbol_in
returns-in-121 c = sym (ap symbol_of c.in-121.is)

pub returns-in-122 : goal.returns-in-122
unfolding symbol_of symbol_in
returns-in-122 c = sym (ap symbol_of c.in-122.is)

pub returns-in-48-to-57 : goal.returns-in-48-to-57
unfolding digit_or
returns-in-48-to-57 c =
    simp (le-ltb c.args.byte 48 (omega arith), le-ltb 57 c.args.byte (omega arith)) at
    (unmarked c.args.byte (λ e. omega arith) (λ e. omega arith) (λ e. omega arith) (λ e. omega arith) (λ e. omega arith) (λ e. omega arith) (λ e. omega arith)
    (λ e. omega arith))

pub returns-in_default : goal.returns-in_default
unfolding digit_or
returns-in_default c =
    let low : c.args.byte < 48 = omega arith in
    simp (lt-ltb _ _ low) at
    (unmarked c.args.byte (λ e. omega arith) (λ e. omega arith) (λ e. omega arith) (λ e. omega arith) (λ e. omega arith) (λ e. omega arith) (λ e. omega arith)
    (λ e. omega arith))

pub returns-in_default-2 : goal.returns-in_default-2
unfolding digit_or
returns-in_default-2 c =
    let high : 57 < c.args.byte = omega arith in
    simp (le-ltb c.args.byte 48 (omega arith), lt-ltb _ _ high) at
    (unmarked c.args.byte (λ e. omega arith) (λ e. omega arith) (λ e. omega arith) (λ e. omega arith) (λ e. omega arith) (λ e. omega arith) (λ e. omega arith)
    (λ e. omega arith))
