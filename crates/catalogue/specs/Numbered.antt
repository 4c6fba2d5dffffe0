-- 45 and 46 by number and place, each exactly when. The idea: no other answer carries these numbers, so what is said of the refusals holds of the numbers.
use Rattle.std.specs.Prelude.{◌≡◌, refl, ◌↔◌, Bool, true, false, List, ℕ, ◌<◌, ◌≤◌, ltb, length, Err, Ok, Result}
use Rattle.std.proofs.Common.{sym, ◌∙◌, ap, arith, ltb-true, ltb-false}
use Rattle.operation.specs.Answer.{refused}
use Rattle.lines.specs.Lines.{last_line}
use Rattle.catalogue.specs.Answers.{most_at_once, line_so_far, piece_step, end_step, catalogue_answer}
use Rattle.catalogue.specs.Steps.{end-open}
use Rattle.catalogue.specs.Exactly.{never-refused, long-exactly, after-exactly, end_stays}
use Rattle.catalogue.specs.declared.Catalogue.{Catalogue}
use Rattle.catalogue.specs.declared.Step.{Step}
use Rattle.catalogue.specs.declared.Progress.TheVariants.{NoLine, Told}
use Rattle.catalogue.specs.declared.Refusal.TheVariants.{AfterEnd, LongPiece}
use Rattle.catalogue.specs.declared.Progress.{Progress}
use Rattle.catalogue.specs.declared.Refusal.{Refusal}

-- Only the refusal of a long piece is 45,
said-long : (a : Result Progress Refusal) (place : ℕ) → catalogue_answer a ≡ refused 45 place tt → (a ≡ Err LongPiece) × (place ≡ 0)
said-long (Ok (NoLine taken)) place e = let z : ◌≡◌ {A = ℕ} 0 1 = cc in absurd (omega arith)
said-long (Ok (Told taken r)) place e = let z : ◌≡◌ {A = ℕ} 0 1 = cc in absurd (omega arith)
said-long (Err LongPiece) place e = (refl, (cc))
said-long (Err AfterEnd) place e = let z : ◌≡◌ {A = ℕ} 46 45 = cc in absurd (omega arith)

-- and only that of a call after the end is 46.
said-after : (a : Result Progress Refusal) (place : ℕ) → catalogue_answer a ≡ refused 46 place tt → (a ≡ Err AfterEnd) × (place ≡ 0)
said-after (Ok (NoLine taken)) place e = let z : ◌≡◌ {A = ℕ} 0 1 = cc in absurd (omega arith)
said-after (Ok (Told taken r)) place e = let z : ◌≡◌ {A = ℕ} 0 1 = cc in absurd (omega arith)
said-after (Err LongPiece) place e = let z : ◌≡◌ {A = ℕ} 45 46 = cc in absurd (omega arith)
said-after (Err AfterEnd) place e = (refl, (cc))

module _ (c : Catalogue) (piece out : List ℕ) where
  -- 45, at 0: exactly if a piece is longer than a call takes.
  pub forty-five-exactly : (place : ℕ) → (catalogue_answer (piece_step c piece out).answer ≡ refused 45 place tt) ↔ ((place ≡ 0) × (most_at_once < length piece))
  forty-five-exactly place = (
    (λ e. let (a, p) = said-long (piece_step c piece out).answer place e in (p, (long-exactly c piece out).0 a)),
    λ (p, h). ap catalogue_answer ((long-exactly c piece out).1 h) ∙ ap (λ (k : ℕ). refused 45 k tt) (sym p),
  )

  -- 46, at 0: exactly if a shorter one comes after the end.
  pub forty-six-exactly : (place : ℕ) → (catalogue_answer (piece_step c piece out).answer ≡ refused 46 place tt)
      ↔ ((place ≡ 0) × ((length piece ≤ most_at_once) × (81 < c.status)))
  forty-six-exactly place = (
    (λ e. let (a, p) = said-after (piece_step c piece out).answer place e in (p, (after-exactly c piece out).0 a)),
    λ (p, h). ap catalogue_answer ((after-exactly c piece out).1 h) ∙ ap (λ (k : ℕ). refused 46 k tt) (sym p),
  )

module _ (c : Catalogue) (out : List ℕ) where
  -- An end is refused exactly after the end.
  end-exactly : ((end_step c out).answer ≡ Err AfterEnd) ↔ (81 < c.status)
  end-exactly = (by-test (ltb 81 c.status) refl, λ h. ap (λ (s : Step). s.answer) (end_stays c out h).0)
    where
      by-test : (t : Bool) → ltb 81 c.status ≡ t → (end_step c out).answer ≡ Err AfterEnd → 81 < c.status
      by-test true e a = ltb-true 81 c.status e
      by-test false e a =
          let said = ap (λ (s : Step). s.answer) (end-open c out (ltb-false 81 c.status e)).0 in
          absurd ((never-refused 0 (last_line (line_so_far c)) out).1 (said ∙ a))

  -- So is its number.
  pub end-forty-six-exactly : (place : ℕ) → (catalogue_answer (end_step c out).answer ≡ refused 46 place tt) ↔ ((place ≡ 0) × (81 < c.status))
  end-forty-six-exactly place = (
    (λ e. let (a, p) = said-after (end_step c out).answer place e in (p, end-exactly.0 a)),
    λ (p, h). ap catalogue_answer (end-exactly.1 h) ∙ ap (λ (k : ℕ). refused 46 k tt) (sym p),
  )
