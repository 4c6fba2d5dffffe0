-- Each key of the match is an entry of the table; past the last key every test fails.
use mathlib.Core.Path.{sym, ap}
use borrow.Author.Tests.{ne_eqb}
use Rattle.operation_line.specs.Numbers.{unit_found, unit_of}
use Rattle.operation_line.proofs.reader.unit_of.Goals as goal

pub returns-in-2 : goal.returns-in-2
unfolding unit_found unit_of
returns-in-2 c = sym (ap unit_found c.in-2.is)

pub returns-in-3 : goal.returns-in-3
unfolding unit_found unit_of
returns-in-3 c = sym (ap unit_found c.in-3.is)

pub returns-in-4 : goal.returns-in-4
unfolding unit_found unit_of
returns-in-4 c = sym (ap unit_found c.in-4.is)

pub returns-in-6 : goal.returns-in-6
unfolding unit_found unit_of
returns-in-6 c = sym (ap unit_found c.in-6.is)

pub returns-in_default : goal.returns-in_default
unfolding unit_found unit_of
returns-in_default c =
    simp (
      ne_eqb _ _ c.in_default.in_default-own.rest.0.0.0.1,
      ne_eqb _ _ c.in_default.in_default-own.rest.0.0.1,
      ne_eqb _ _ c.in_default.in_default-own.rest.0.1,
      ne_eqb _ _ c.in_default.in_default-own.rest.1,
    )
