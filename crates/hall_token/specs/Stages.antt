-- The stages of the reader as the code takes them: each looks at the first byte and hands on the part after it, or the whole.
use Rattle.std.specs.Prelude.{◌≡◌, refl, Bool, true, false, cond, List, ◌∷◌, ℕ, eqb, length, get_or, Option, Some, None}
use Rattle.std.proofs.Common.{sym, ◌∙◌, ap, eq-eqb, ne_eqb}
use Rattle.hall_axes.specs.declared.Fold.{Fold}
use Rattle.hall_axes.specs.declared.Mark.{Mark}
use Rattle.hall_axes.specs.declared.Mark.TheVariants.{Unmarked, Single, Double}
use Rattle.hall_axes.specs.declared.Direction.{Direction}
use Rattle.hall_token.specs.Bytes.{fold_of, mark_of, letter_of}
use Rattle.hall_token.specs.Front.{rest, front, nothing}
use Rattle.hall_token.specs.Offsets.{sign_length}
use Rattle.hall_token.specs.Reader.{no-parts, read_run, letter_then, read_letter, mark_then, read_mark, fold_then, read_fold, read_token}

-- ---- the sign

pub sign-nothing : (t : List ℕ) → length t ≡ 0 → read_token t ≡ no-parts 0
unfolding read_token
sign-nothing t h = ap read_token (nothing t h)

sign-front : (t : List ℕ) → (length t ≡ 0 → ⊥) → read_token t ≡ cond (eqb (get_or t 0 0) 45) (read_fold true (rest t)) (read_fold false (get_or t 0 0 ∷ rest t))
unfolding read_token
sign-front t h = ap read_token (front t h)

pub sign-minus : (t : List ℕ) → (length t ≡ 0 → ⊥) → get_or t 0 0 ≡ 45 → read_token t ≡ read_fold true (rest t)
sign-minus t h e = sign-front t h ∙ rw (eq-eqb (get_or t 0 0) 45 e)

pub sign-none : (t : List ℕ) → (length t ≡ 0 → ⊥) → (get_or t 0 0 ≡ 45 → ⊥) → read_token t ≡ read_fold false t
sign-none t h e = sign-front t h ∙ rw (ne_eqb (get_or t 0 0) 45 e) (ap (read_fold false) (sym (front t h)))

-- ---- the fold; v is what the first byte says

pub fold-nothing : (n : Bool) (t : List ℕ) → length t ≡ 0 → read_fold n t ≡ no-parts (sign_length n)
unfolding read_fold
fold-nothing n t h = ap (read_fold n) (nothing t h)

fold-front : (n : Bool) (t : List ℕ) (v : Option Fold) → (length t ≡ 0 → ⊥) → v ≡ fold_of (get_or t 0 0) → read_fold n t ≡ fold_then n v (rest t)
unfolding read_fold
fold-front n t v h e = rw e (ap (read_fold n) (front t h))

pub fold-other : (n : Bool) (t : List ℕ) (v : Option Fold) → (length t ≡ 0 → ⊥) → v ≡ fold_of (get_or t 0 0) → v ≡ Option.None
    → read_fold n t ≡ no-parts (sign_length n)
unfolding fold_then
fold-other n t v h e w = fold-front n t v h e ∙ rw w

pub fold_is : (n : Bool) (t : List ℕ) (v : Option Fold) (f : Fold) → (length t ≡ 0 → ⊥) → v ≡ fold_of (get_or t 0 0) → v ≡ Some f → read_fold n t
    ≡ read_mark n f (rest t)
unfolding fold_then
fold_is n t v f h e w = fold-front n t v h e ∙ rw w

-- ---- the mark

pub mark-nothing : (n : Bool) (f : Fold) (t : List ℕ) → length t ≡ 0 → read_mark n f t ≡ read_letter n f Unmarked t
unfolding read_mark
mark-nothing n f t h = ap (read_mark n f) (nothing t h) ∙ ap (read_letter n f Unmarked) (sym (nothing t h))

mark-front : (n : Bool) (f : Fold) (t : List ℕ) (v w : Mark) → (length t ≡ 0 → ⊥) → v ≡ mark_of (get_or t 0 0) → v ≡ w
    → read_mark n f t ≡ mark_then n f w (get_or t 0 0) (rest t)
unfolding read_mark
mark-front n f t v w h e i = ap (read_mark n f) (front t h) ∙ ap (λ (m : Mark). mark_then n f m (get_or t 0 0) (rest t)) (sym e ∙ i)

pub mark-none : (n : Bool) (f : Fold) (t : List ℕ) (v : Mark) → (length t ≡ 0 → ⊥) → v ≡ mark_of (get_or t 0 0) → v ≡ Unmarked → read_mark n f t
    ≡ read_letter n f Unmarked t
unfolding mark_then
mark-none n f t v h e i = mark-front n f t v Unmarked h e i ∙ ap (read_letter n f Unmarked) (sym (front t h))

pub mark-single : (n : Bool) (f : Fold) (t : List ℕ) (v : Mark) → (length t ≡ 0 → ⊥) → v ≡ mark_of (get_or t 0 0) → v ≡ Single
    → read_mark n f t ≡ read_letter n f Single (rest t)
unfolding mark_then
mark-single n f t v h e i = mark-front n f t v Single h e i

pub mark-double : (n : Bool) (f : Fold) (t : List ℕ) (v : Mark) → (length t ≡ 0 → ⊥) → v ≡ mark_of (get_or t 0 0) → v ≡ Double
    → read_mark n f t ≡ read_letter n f Double (rest t)
unfolding mark_then
mark-double n f t v h e i = mark-front n f t v Double h e i

-- Any mark that is written stands before what is left.
pub mark-written : (n : Bool) (f : Fold) (t : List ℕ) (v : Mark) → (length t ≡ 0 → ⊥) → v ≡ mark_of (get_or t 0 0) → (v ≡ Unmarked → ⊥)
    → read_mark n f t ≡ read_letter n f v (rest t)
mark-written n f t v h e written = go v refl
  where
    go : (w : Mark) → v ≡ w → read_mark n f t ≡ read_letter n f w (rest t)
    go Unmarked i = absurd (written i)
    go Single i = mark-single n f t v h e i
    go Double i = mark-double n f t v h e i

-- ---- the letter

pub letter-nothing : (n : Bool) (f : Fold) (m : Mark) (t : List ℕ) → length t ≡ 0 → read_letter n f m t ≡ read_run n f m None t
unfolding read_letter
letter-nothing n f m t h = ap (read_letter n f m) (nothing t h) ∙ ap (read_run n f m None) (sym (nothing t h))

letter-front : (n : Bool) (f : Fold) (m : Mark) (t : List ℕ) (v w : Option Direction) → (length t ≡ 0 → ⊥) → v ≡ letter_of (get_or t 0 0) → v ≡ w
    → read_letter n f m t ≡ letter_then n f m w (get_or t 0 0) (rest t)
unfolding read_letter
letter-front n f m t v w h e i = ap (read_letter n f m) (front t h) ∙ ap (λ (l : Option Direction). letter_then n f m l (get_or t 0 0) (rest t)) (sym e ∙ i)

pub letter-absent : (n : Bool) (f : Fold) (m : Mark) (t : List ℕ) (v : Option Direction) → (length t ≡ 0 → ⊥) → v ≡ letter_of (get_or t 0 0) → v ≡ None
    → read_letter n f m t ≡ read_run n f m None t
unfolding letter_then
letter-absent n f m t v h e i = letter-front n f m t v None h e i ∙ ap (read_run n f m None) (sym (front t h))

pub letter-along : (n : Bool) (f : Fold) (m : Mark) (t : List ℕ) (v : Option Direction) (d : Direction) → (length t ≡ 0 → ⊥) → v ≡ letter_of (get_or t 0 0)
    → v ≡ Some d → read_letter n f m t ≡ read_run n f m v (rest t)
unfolding letter_then
letter-along n f m t v d h e i = letter-front n f m t v (Some d) h e i ∙ ap (λ (l : Option Direction). read_run n f m l (rest t)) (sym i)
