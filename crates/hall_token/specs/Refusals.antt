-- The numbers of R8 that an N token can be refused with: the one place where they stand.
use Rattle.std.specs.Prelude.{◌≡◌, refl, cond, ℕ, eqb}
use Rattle.std.proofs.Common.{sym, ◌∙◌, ap}
use Rattle.hall_token.specs.declared.refusal.Refusal.{Refusal}
use Rattle.hall_token.specs.declared.refusal.Refusal.TheVariants.{Misspelt, Primed, Unsettled, Digit, Doubled}

abbrev pub number_of : Refusal → ℕ
number_of Misspelt = 5
number_of Unsettled = 6
number_of Digit = 7
number_of Primed = 8
number_of Doubled = 17

-- A refusal is told by its number.
refusal_by : ℕ → Refusal
refusal_by n = cond (eqb n 5) Misspelt (cond (eqb n 6) Unsettled (cond (eqb n 7) Digit (cond (eqb n 8) Primed Doubled)))

number-back : (r : Refusal) → refusal_by (number_of r) ≡ r
unfolding refusal_by
number-back Misspelt = refl
number-back Unsettled = refl
number-back Digit = refl
number-back Primed = refl
number-back Doubled = refl

pub number-once : (r s : Refusal) → number_of r ≡ number_of s → r ≡ s
number-once r s e = sym (number-back r) ∙ ap refusal_by e ∙ number-back s
