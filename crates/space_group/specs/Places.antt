-- The search for a code, step by step; the place of an operation among others as the place of its code; and a translation in its own class.
use Rattle.std.specs.Prelude.{◌≡◌, refl, true, List, [], ◌∷◌, map, ℕ, ◌+◌, ◌<◌, eqb, length, get_or, drop}
use Rattle.std.proofs.Common.{sym, add-one, drop-cons, eq-eqb, ne_eqb}
use Rattle.std.proofs.Math.Seq.{drop-length}
use Rattle.laws.specs.Distinct.{Mem→has, equality-equivalence}
use Rattle.laws.specs.Lattice.{same_triple, triple-decides, congruent-reflexive}
use Rattle.laws.specs.Growth.{place}
use Rattle.laws.specs.Truth.{T_true}
use Rattle.operation.specs.Meaning.{vector_of}
use Rattle.operation.specs.declared.Translation.{Translation}
use Rattle.centering.specs.Letters.{points_of}
use Rattle.centering.specs.Lattices.{points, congruent_of}
use Rattle.centering.specs.declared.Centering.{Centering}

-- The code sought is found,
pub place-hit : (x : ℕ) (l : List ℕ) (i : ℕ) → i < length l → get_or l i 0 ≡ x → place eqb x (drop i l) ≡ 0
unfolding place
place-hit x l i h e = rw (drop-cons l i 0, eq-eqb x (get_or l i 0) (sym e))

-- is not found here,
pub place-miss : (x : ℕ) (l : List ℕ) (i : ℕ) → i < length l → (get_or l i 0 ≡ x → ⊥) → place eqb x (drop i l) ≡ place eqb x (drop (i + 1) l) + 1
unfolding place
place-miss x l i h n = rw (drop-cons l i 0, ne_eqb x (get_or l i 0) (λ e. n (sym e)), add-one i) (sym (add-one _))

-- or is not there.
pub place_end : (x : ℕ) (l : List ℕ) → place eqb x (drop (length l) l) ≡ 0
unfolding place
place_end x l = rw drop-length

-- What tells elements apart by a key finds them by their keys.
pub place-key : {A : Type 0} (key : A → ℕ) (x : A) (l : List A) → place (λ y z. eqb (key y) (key z)) x l ≡ place eqb (key x) (map key l)
unfolding place
place-key key x [] = refl
place-key key x (y ∷ l) = rw (place-key key x l)

-- A translation is in its own class modulo L.
pub class-self : (c : Centering) (t : Translation) → congruent_of c t t ≡ true
unfolding congruent_of
class-self c t = T_true (Mem→has same_triple (equality-equivalence same_triple triple-decides) (congruent-reflexive (points_of c) (points c) (vector_of t)))
