-- The first byte of a text that offends a spelling, said of the spelling alone: the text's longest start that some spelt text has, and what comes behind it.
use Rattle.std.specs.Prelude.{◌≡◌, refl, Bool, true, false, List, ◌++◌, ℕ, suc, ◌<◌, ◌≤◌, ltb, length, take, drop}
use Rattle.std.proofs.Common.{sym, ◌∙◌, ap, subst, append_assoc, arith, take-append-drop, take-take, ltb-true, ltb-false}

-- Some spelt text starts so.
abbrev pub Starts : (List ℕ → Type 0) → List ℕ → Type 0
Starts Spelt p = (rest : List ℕ) × Spelt (p ++ rest)

-- Up to the place the text starts as a spelt one does, and with the next byte none does; where there is no next byte, the text breaks off.
pub record FirstOffending (Spelt : List ℕ → Type 0) (text : List ℕ) (place : ℕ) : Type 0 where
  pub within : place ≤ length text
  pub good : Starts Spelt (take place text)
  pub offends : place < length text → ¬ (Starts Spelt (take (suc place) text))
  pub breaks-off : place ≡ length text → ¬ (Spelt text)

module _ (Spelt : List ℕ → Type 0) (text : List ℕ) where
  -- What starts well does so up to any earlier place.
  starts-earlier : (j k : ℕ) → j ≤ k → Starts Spelt (take k text) → Starts Spelt (take j text)
  starts-earlier j k h (rest, spelt) =
      let split : take k text ≡ take j text ++ drop j (take k text) =
      sym (take-append-drop j (take k text)) ∙ ap (λ (l : List ℕ). l ++ drop j (take k text)) (take-take j k text h) in (
        drop j (take k text) ++ rest,
        subst Spelt (ap (λ (l : List ℕ). l ++ rest) split ∙ append_assoc (take j text) (drop j (take k text)) rest) spelt,
      )

  not-later : (k l : ℕ) → FirstOffending Spelt text k → FirstOffending Spelt text l → k < l → ⊥
  not-later k l h g less = h.offends (omega (arith, g.within)) (starts-earlier (suc k) l (omega arith) g.good)

  -- There is one such place at most.
  pub first-unique : (k l : ℕ) → FirstOffending Spelt text k → FirstOffending Spelt text l → k ≡ l
  first-unique k l h g = go (ltb k l) refl (ltb l k) refl
    where
      go : (a : Bool) → ltb k l ≡ a → (b : Bool) → ltb l k ≡ b → k ≡ l
      go true e b d = absurd (not-later k l h g (ltb-true k l e))
      go false e true d = absurd (not-later l k g h (ltb-true l k d))
      go false e false d = omega (arith, ltb-false k l e, ltb-false l k d)

  -- A text with one is misspelt.
  pub offending-misspelt : (k : ℕ) → FirstOffending Spelt text k → ¬ (Spelt text)
  offending-misspelt k h spelt = go (ltb k (length text)) refl
    where
      whole : Starts Spelt (take (length text) text)
      whole = (drop (length text) text, subst Spelt (sym (take-append-drop (length text) text)) spelt)

      go : (b : Bool) → ltb k (length text) ≡ b → ⊥
      go true e = h.offends (ltb-true k (length text) e) (starts-earlier (suc k) (length text) (omega (arith, ltb-true k (length text) e)) whole)
      go false e = h.breaks-off (omega (arith, ltb-false k (length text) e, h.within)) spelt
