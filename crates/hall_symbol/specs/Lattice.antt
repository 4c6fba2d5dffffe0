-- The first token by R1.3: an optional `-`, then exactly one letter. Which letters there are is the lattices' own table.
use Rattle.std.specs.Prelude.{◌≡◌, refl, Bool, true, false, cond, List, [], ◌∷◌, ℕ, eqb, length, get_or, drop, None, Option, Some}
use Rattle.std.proofs.Common.{arith}
use Rattle.centering.specs.Letters.{letter_of}
use Rattle.centering.specs.declared.Centering.{Centering}

-- The letter with its sign, if there is a letter.
abbrev pub lattice_of : Bool → Option Centering → Option (Bool × Centering)
lattice_of inverted (Some c) = Some (inverted, c)
lattice_of inverted None = None

-- Exactly one letter.
unfoldable pub letter_token : Bool → List ℕ → Option (Bool × Centering)
letter_token inverted t = cond (eqb (length t) 1) (lattice_of inverted (letter_of (get_or t 0 0))) (None)

-- The byte 45, `-`, says that the inversion is there.
unfoldable pub lattice_token : List ℕ → Option (Bool × Centering)
lattice_token t = cond (eqb (get_or t 0 0) 45) (letter_token true (drop 1 t)) (letter_token false t)

-- An empty token is wrong.
pub no-token : (t : List ℕ) → length t ≡ 0 → None ≡ lattice_token t
unfolding lattice_token letter_token
no-token [] h = refl
no-token (b ∷ t) h = absurd (omega arith)
