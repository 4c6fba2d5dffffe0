-- A list as its first element and the part after it, the way the code takes a token: `token[0]` and `&token[1..]`.
use Rattle.std.specs.Prelude.{◌≡◌, refl, Bool, true, false, cond, ltb, Option, Some, None, List, [], ◌∷◌, ℕ, ◌-◌, length, get_or, take, drop}
use Rattle.std.proofs.Common.{sym, ◌∙◌, ap, arith, length-drop, drop-cons}
use Rattle.std.proofs.Math.Seq.{take-length}

-- The part after the first element.
abbrev pub rest : List ℕ → List ℕ
rest l = take (length l - 1) (drop 1 l)

pub front : (l : List ℕ) → (length l ≡ 0 → ⊥) → l ≡ get_or l 0 0 ∷ rest l
front l h =
    drop-cons l 0 0 (omega arith)
    ∙ ap (λ (t : List ℕ). get_or l 0 0 ∷ t) (sym (ap (λ (n : ℕ). take n (drop 1 l)) (sym (length-drop 1 l)) ∙ take-length (drop 1 l)))

pub nothing : (l : List ℕ) → length l ≡ 0 → l ≡ []
nothing [] h = refl
nothing (b ∷ bs) h = absurd (omega arith)

-- ---- a place below a length, as a search gives it, or none
abbrev pub found_place : ℕ → ℕ → Option ℕ
found_place k n = cond (ltb k n) (Some k) None

pub found-some : (k n : ℕ) (r : Option ℕ) (m : ℕ) → r ≡ found_place k n → r ≡ Some m → (ltb k n ≡ true) × (k ≡ m)
found-some k n r m e h = go (ltb k n) (sym e ∙ h)
  where
    go : (t : Bool) → cond t (Some k) None ≡ Some m → (t ≡ true) × (k ≡ m)
    go true q = (refl, (cc))
    go false q = let z : ◌≡◌ {A = ℕ} 0 1 = cc in absurd (omega arith)

pub found_none : (k n : ℕ) (r : Option ℕ) → r ≡ found_place k n → r ≡ None → ltb k n ≡ false
found_none k n r e h = go (ltb k n) (sym e ∙ h)
  where
    go : (t : Bool) → cond t (Some k) None ≡ None → t ≡ false
    go true q = let z : ◌≡◌ {A = ℕ} 0 1 = cc in absurd (omega arith)
    go false q = refl
