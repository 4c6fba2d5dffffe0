-- What is answered, by number, place and value: yes, an entry, a missing code, or the refusal. These determine the answer.
use Rattle.std.specs.Prelude.{◌≡◌, refl, ℕ, Err, Ok, Result}
use Rattle.std.proofs.Common.{ap, arith}
use Rattle.operation.specs.Answer.{Answer, given, refused, Nothing}
use Rattle.symbol_group.specs.Told.{number-limit}
use Rattle.symbol_group.specs.Told as symbol-told
use Rattle.list_check.specs.Refusals.{number_of, place_of}
use Rattle.list_check.specs.declared.refusal.Refusal.{Refusal}
use Rattle.list_check.specs.declared.refusal.Refusal.TheVariants.{Symbol, Length, Entry as WrongEntry}
use Rattle.list_check.specs.declared.Verdict.TheVariants.{Entry, Missing, Yes}
use Rattle.list_check.specs.declared.Verdict.{Verdict}

-- What is said of a list that is compared.
pub data Said : Type 0 where
  yes : Said
  entry : ℕ → Said
  missing : ℕ → Said

abbrev pub checked_answer : Result Verdict Refusal → Answer Said Nothing
checked_answer (Ok Yes) = given yes
checked_answer (Ok (Entry i)) = given (entry i)
checked_answer (Ok (Missing code)) = given (missing code)
checked_answer (Err r) = refused (number_of r) (place_of r) tt

-- Number and place determine the refusal: no number of a symbol is 43 or 44.
pub told-once : (r s : Refusal) → number_of r ≡ number_of s → place_of r ≡ place_of s → r ≡ s
told-once (Symbol r) (Symbol s) p q = ap Symbol (symbol-told.told-once r s p q)
told-once (Symbol r) Length p q = absurd (omega (arith, number-limit r))
told-once (Symbol r) (WrongEntry j) p q = absurd (omega (arith, number-limit r))
told-once Length (Symbol s) p q = absurd (omega (arith, number-limit s))
told-once Length Length p q = refl
told-once Length (WrongEntry j) p q = absurd (omega arith)
told-once (WrongEntry i) (Symbol s) p q = absurd (omega (arith, number-limit s))
told-once (WrongEntry i) Length p q = absurd (omega arith)
told-once (WrongEntry i) (WrongEntry j) p q = ap WrongEntry q

-- Number, place and value determine the answer.
pub checked-once : (a b : Result Verdict Refusal) → checked_answer a ≡ checked_answer b → a ≡ b
checked-once (Ok Yes) (Ok Yes) e = refl
checked-once (Ok Yes) (Ok (Entry j)) e = let z : ◌≡◌ {A = ℕ} 0 1 = cc in absurd (omega arith)
checked-once (Ok Yes) (Ok (Missing d)) e = let z : ◌≡◌ {A = ℕ} 0 1 = cc in absurd (omega arith)
checked-once (Ok Yes) (Err s) e = let z : ◌≡◌ {A = ℕ} 0 1 = cc in absurd (omega arith)
checked-once (Ok (Entry i)) (Ok Yes) e = let z : ◌≡◌ {A = ℕ} 0 1 = cc in absurd (omega arith)
checked-once (Ok (Entry i)) (Ok (Entry j)) e = let z : i ≡ j = cc in ap (λ x. Ok (Entry x)) z
checked-once (Ok (Entry i)) (Ok (Missing d)) e = let z : ◌≡◌ {A = ℕ} 0 1 = cc in absurd (omega arith)
checked-once (Ok (Entry i)) (Err s) e = let z : ◌≡◌ {A = ℕ} 0 1 = cc in absurd (omega arith)
checked-once (Ok (Missing c)) (Ok Yes) e = let z : ◌≡◌ {A = ℕ} 0 1 = cc in absurd (omega arith)
checked-once (Ok (Missing c)) (Ok (Entry j)) e = let z : ◌≡◌ {A = ℕ} 0 1 = cc in absurd (omega arith)
checked-once (Ok (Missing c)) (Ok (Missing d)) e = let z : c ≡ d = cc in ap (λ x. Ok (Missing x)) z
checked-once (Ok (Missing c)) (Err s) e = let z : ◌≡◌ {A = ℕ} 0 1 = cc in absurd (omega arith)
checked-once (Err r) (Ok Yes) e = let z : ◌≡◌ {A = ℕ} 0 1 = cc in absurd (omega arith)
checked-once (Err r) (Ok (Entry j)) e = let z : ◌≡◌ {A = ℕ} 0 1 = cc in absurd (omega arith)
checked-once (Err r) (Ok (Missing d)) e = let z : ◌≡◌ {A = ℕ} 0 1 = cc in absurd (omega arith)
checked-once (Err r) (Err s) e =
    let p : number_of r ≡ number_of s = cc in
    let q : place_of r ≡ place_of s = cc in
    ap Err (told-once r s p q)
