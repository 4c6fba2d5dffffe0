-- Each refusal has its number.
use Rattle.finite_group.specs.Answers.{number_of}
use borrow.Author.Rules.{rules}
use Rattle.finite_group.proofs.number.Goals as goal

pub returns-in-Order : goal.returns-in-Order
unfolding number_of
returns-in-Order c = search rules

pub returns-in-Cells : goal.returns-in-Cells
unfolding number_of
returns-in-Cells c = search rules

pub returns-in-Identity : goal.returns-in-Identity
unfolding number_of
returns-in-Identity c = search rules

pub returns-in-Inverse : goal.returns-in-Inverse
unfolding number_of
returns-in-Inverse c = search rules

pub returns-in-Associativity : goal.returns-in-Associativity
unfolding number_of
returns-in-Associativity c = search rules

pub returns-in-Slots : goal.returns-in-Slots
unfolding number_of
returns-in-Slots c = search rules

pub returns-in-Subgroup : goal.returns-in-Subgroup
unfolding number_of
returns-in-Subgroup c = search rules

pub returns-in-Element : goal.returns-in-Element
unfolding number_of
returns-in-Element c = search rules

pub returns-in-Normalizer : goal.returns-in-Normalizer
unfolding number_of
returns-in-Normalizer c = search rules
