-- Number, place and value determine an answer on a table: each refusal is found from its number.
use Rattle.std.specs.Prelude.{◌≡◌, refl, cond, ℕ, eqb, Err, Ok, Result}
use Rattle.std.proofs.Common.{sym, ap, ◌∙◌, arith}
use Rattle.finite_group.specs.Answers.{number_of, table_answer}
use Rattle.table_check.specs.declared.Refusal.{Refusal}
use Rattle.table_check.specs.declared.Refusal.TheVariants.{Order, Cells, Identity, Inverse, Associativity, Slots, Subgroup, Element, Normalizer}

-- the refusal with a number
abbrev refusal_of : ℕ → Refusal
refusal_of k =
    cond (eqb k 21) Order
    (cond (eqb k 22) Cells
    (cond (eqb k 23) Identity
    (cond (eqb k 24) Inverse
    (cond (eqb k 25) Associativity (cond (eqb k 26) Slots (cond (eqb k 27) Subgroup (cond (eqb k 28) Element Normalizer)))))))

found : (r : Refusal) → refusal_of (number_of r) ≡ r
unfolding number_of
found Order = refl
found Cells = refl
found Identity = refl
found Inverse = refl
found Associativity = refl
found Slots = refl
found Subgroup = refl
found Element = refl
found Normalizer = refl

pub number-once : (r s : Refusal) → number_of r ≡ number_of s → r ≡ s
number-once r s e = sym (found r) ∙ ap refusal_of e ∙ found s

pub answer-once : (a b : Result ℕ Refusal) → table_answer a ≡ table_answer b → a ≡ b
answer-once (Ok v) (Ok w) e = let same : v ≡ w = cc in ap Ok same
answer-once (Ok v) (Err r) e = let z : ◌≡◌ {A = ℕ} 0 1 = cc in absurd (omega arith)
answer-once (Err r) (Ok w) e = let z : ◌≡◌ {A = ℕ} 0 1 = cc in absurd (omega arith)
answer-once (Err r) (Err s) e = let same : number_of r ≡ number_of s = cc in ap Err (number-once r s same)
