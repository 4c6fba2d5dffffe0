-- 43 and 44 by number and place, each exactly when. The idea: no other answer carries these numbers, so what is said of the refusals holds of the numbers.
use Rattle.std.specs.Prelude.{◌≡◌, refl, ◌↔◌, List, ℕ, Err, Ok, Result}
use Rattle.std.proofs.Common.{sym, ◌∙◌, ap, arith}
use Rattle.operation.specs.Answer.{refused}
use Rattle.operation.specs.declared.Operation.{Operation}
use Rattle.centering.specs.declared.Centering.{Centering}
use Rattle.symbol_group.specs.Refusals as symbol
use Rattle.symbol_group.specs.Told.{number-limit}
use Rattle.list_check.specs.Checked.{checked_of}
use Rattle.list_check.specs.Entries.{WrongLength, FirstWrong}
use Rattle.list_check.specs.Exactly.{Accepts, length-exactly, range-exactly}
use Rattle.list_check.specs.Told.{checked_answer}
use Rattle.list_check.specs.declared.refusal.Refusal.TheVariants.{Symbol, Length, Entry as WrongEntry}
use Rattle.list_check.specs.declared.Verdict.TheVariants.{Entry, Missing, Yes}
use Rattle.list_check.specs.declared.Verdict.{Verdict}
use Rattle.list_check.specs.declared.refusal.Refusal.{Refusal}

-- Only the refusal of the length is 43,
said-length : (a : Result Verdict Refusal) (place : ℕ) → checked_answer a ≡ refused 43 place tt → (a ≡ Err Length) × (place ≡ 0)
said-length (Ok Yes) place e = let z : ◌≡◌ {A = ℕ} 0 1 = cc in absurd (omega arith)
said-length (Ok (Entry i)) place e = let z : ◌≡◌ {A = ℕ} 0 1 = cc in absurd (omega arith)
said-length (Ok (Missing code)) place e = let z : ◌≡◌ {A = ℕ} 0 1 = cc in absurd (omega arith)
said-length (Err (Symbol r)) place e = let z : symbol.number_of r ≡ 43 = cc in absurd (omega (arith, number-limit r))
said-length (Err Length) place e = (refl, (cc))
said-length (Err (WrongEntry i)) place e = let z : ◌≡◌ {A = ℕ} 44 43 = cc in absurd (omega arith)

-- and only that of an entry is 44.
said-entry : (a : Result Verdict Refusal) (place : ℕ) → checked_answer a ≡ refused 44 place tt → a ≡ Err (WrongEntry place)
said-entry (Ok Yes) place e = let z : ◌≡◌ {A = ℕ} 0 1 = cc in absurd (omega arith)
said-entry (Ok (Entry i)) place e = let z : ◌≡◌ {A = ℕ} 0 1 = cc in absurd (omega arith)
said-entry (Ok (Missing code)) place e = let z : ◌≡◌ {A = ℕ} 0 1 = cc in absurd (omega arith)
said-entry (Err (Symbol r)) place e = let z : symbol.number_of r ≡ 44 = cc in absurd (omega (arith, number-limit r))
said-entry (Err Length) place e = let z : ◌≡◌ {A = ℕ} 43 44 = cc in absurd (omega arith)
said-entry (Err (WrongEntry i)) place e = let z : i ≡ place = cc in ap (λ (k : ℕ). (Err (WrongEntry k))) z

module _ (text list : List ℕ) where
  -- 43, at 0: exactly if the text is accepted, and the length is no multiple of five or over 240.
  pub forty-three-exactly : (place : ℕ) → (checked_answer (checked_of text list) ≡ refused 43 place tt)
      ↔ ((place ≡ 0) × ((c : Centering) × (gens : List Operation) × Accepts text c gens × WrongLength list))
  forty-three-exactly place = (
    (λ e. let (a, p) = said-length (checked_of text list) place e in (p, (length-exactly text list).0 a)),
    λ (p, w). ap checked_answer ((length-exactly text list).1 w) ∙ ap (λ (k : ℕ). refused 43 k tt) (sym p),
  )

  -- 44 at i: exactly if the text is accepted, the length is right, and i is the first entry with a code over 19682 or a coordinate over 11.
  pub forty-four-exactly : (i : ℕ) → (checked_answer (checked_of text list) ≡ refused 44 i tt)
      ↔ ((c : Centering) × (gens : List Operation) × Accepts text c gens × FirstWrong list i)
  forty-four-exactly i = (
    (λ e. (range-exactly text list i).0 (said-entry (checked_of text list) i e)),
    λ w. ap checked_answer ((range-exactly text list i).1 w),
  )
