-- What the answers of this room say of L, a set of integer vectors; and that a letter is told by its byte and by its L.
use Rattle.std.specs.Prelude.{◌≡◌, refl, ◌↔◌, Bool, true, false, cond, ◌&&◌, ◌||◌, not, ℕ, ◌<◌, T, eqb, ltb, Some}
use Rattle.std.proofs.Common.{sym, ◌∙◌, ap, inl, inr, arith, T_not, eqb→eq, eqb-true, ltb-true}
use Rattle.std.proofs.Math.Bool.{and-eq-true_iff}
use mathlib.Core.List.Memᴰ.{cast as mem-cast}
use mathlib.Core.List.Memᴰ.{head as here}
use mathlib.Core.List.Memᴰ.{tail as there}
use mathlib.Core.List.{List, [], ◌∷◌, map, Memᴰ as Mem}
use Rattle.laws.specs.Matrix.{Vector, plus, opposite}
use Rattle.laws.specs.Residue.{Triple, Reduced, reduced, lifted, reduced-lifted}
use Rattle.laws.specs.Distinct.{has, has→Mem, Mem→has, equality-equivalence}
use Rattle.laws.specs.Lattice.{InLattice, Congruent, same_triple, triple-decides, Before, smallest-reduced, smallest-congruent, smallest-least, smallest-unique, smallest-classes}
use Rattle.laws.specs.Truth.{all, all-member, member-all, both, or_cases, holds}
use Rattle.operation.specs.Meaning.{vector_of}
use Rattle.operation.specs.declared.Translation.{Translation}
use Rattle.centering.specs.Letters.{letters, byte_of, points_of, letter_of, letter_among}
use Rattle.centering.specs.Lattices.{listed, points, triple_of, translation_of, contains_of, congruent_of, smallest_of}
use Rattle.centering.specs.declared.Centering.{Centering}

point-test : (c : Centering) (t : Triple) → (has same_triple t (points_of c) ≡ true) ↔ Mem t (points_of c)
point-test c t = (
  (λ e. has→Mem same_triple triple-decides (holds.1 e)),
  λ m. holds.0 (Mem→has same_triple (equality-equivalence same_triple triple-decides) m),
)

-- `contains` says whether the translation is in L.
pub contains-lattice : (c : Centering) (t : Translation) → (contains_of c t ≡ true) ↔ InLattice (points_of c) (vector_of t)
unfolding contains_of
contains-lattice c t = point-test c (reduced (vector_of t))

-- `congruent` says whether two translations differ by a vector of L.
pub congruent-lattice : (c : Centering) (s t : Translation) → (congruent_of c s t ≡ true) ↔ Congruent (points_of c) (vector_of s) (vector_of t)
unfolding congruent_of
congruent-lattice c s t = point-test c (reduced (plus (vector_of s) (opposite (vector_of t))))

-- `smallest` is below 12 and in the class, and no triple below 12 of the class comes before it, compared x first; only one triple is so.
pub record Smallest (c : Centering) (t s : Translation) : Type 0 where
  pub below : Reduced (triple_of s)
  pub class : Congruent (points_of c) (vector_of s) (vector_of t)
  pub least : (u : Translation) → Reduced (triple_of u) → Congruent (points_of c) (vector_of u) (vector_of t) → ¬ Before (triple_of u) (triple_of s)

pub smallest-is : (c : Centering) (t s : Translation) → Smallest c t s ↔ (s ≡ smallest_of c t)
unfolding smallest_of vector_of
smallest-is c t s = (
  (λ h. ap translation_of (smallest-unique (points_of c) (points c) (triple_of t) (triple_of s) h.below h.class (λ u. h.least (translation_of u)))),
  λ e. rw e (record {
    below = smallest-reduced (points_of c) (points c) (triple_of t);
    class = smallest-congruent (points_of c) (points c) (triple_of t);
    least = λ u. smallest-least (points_of c) (points c) (triple_of t) (triple_of u);
  }),
)

-- Two translations are in one class exactly if their smallest triples are equal.
pub smallest-same : (c : Centering) (s t : Translation) → Congruent (points_of c) (vector_of s) (vector_of t) ↔ (smallest_of c s ≡ smallest_of c t)
unfolding smallest_of vector_of
smallest-same c s t =
    let e = smallest-classes (points_of c) (points c) (triple_of s) (triple_of t) in
    ((λ h. ap translation_of (e.0 h)), λ h. e.1 (ap triple_of h))

-- ---- letters
-- Two lists that one function makes of one list agree at each of its members.
at_each : {A B : Type 0} (f g : A → B) (l : List A) → map f l ≡ map g l → (a : A) → Mem a l → f a ≡ g a
at_each f g (b ∷ l) e a (here p) = ap f p ∙ (cc) ∙ ap g (sym p)
at_each f g (b ∷ l) e a (there m) = at_each f g l (cc) a m
at_each {A = A} {B = B} f g [] e a x'' = elim x'' [ ]

letters-by-byte : map (λ c. letter_of (byte_of c)) letters ≡ map Some letters
unfolding letter_of letter_among
letters-by-byte = refl

-- A letter's byte spells it, so letters with one byte are one letter.
pub letter-by-byte : (c : Centering) → letter_of (byte_of c) ≡ Some c
letter-by-byte c = at_each (λ c. letter_of (byte_of c)) Some letters letters-by-byte c (listed c)

-- The way back: a byte that spells a letter among some is that letter's.
pub among-byte : (b : ℕ) (cs : List Centering) (c : Centering) → letter_among b cs ≡ Some c → b ≡ byte_of c
unfolding letter_among
among-byte b [] c h = let z : ◌≡◌ {A = ℕ} 0 1 = cc in absurd (omega arith)
among-byte b (d ∷ cs) c h = go (eqb b (byte_of d)) refl h (among-byte b cs c)
  where
    go : (t : Bool) → eqb b (byte_of d) ≡ t → cond t (Some d) (letter_among b cs) ≡ Some c → (letter_among b cs ≡ Some c → b ≡ byte_of c) → b ≡ byte_of c
    go true e k r = let same : d ≡ c = cc in eqb-true b (byte_of d) e ∙ ap byte_of same
    go false e k r = r k

pub letter-byte : (b : ℕ) (c : Centering) → letter_of b ≡ Some c → b ≡ byte_of c
unfolding letter_of
letter-byte b c h = among-byte b letters c h

-- One test over all letters.
letters-capital : T (all (λ c. ltb 64 (byte_of c) && ltb (byte_of c) 91) letters)
unfolding all
letters-capital = tt

-- Every letter's byte is that of a capital.
pub letter-capital : (c : Centering) → (64 < byte_of c) × (byte_of c < 91)
letter-capital c =
    let (low, high) =
    (and-eq-true_iff (ltb 64 (byte_of c)) _).0 (holds.0 (all-member (λ c. ltb 64 (byte_of c) && ltb (byte_of c) 91) letters-capital (listed c))) in
    (ltb-true 64 (byte_of c) low, ltb-true (byte_of c) 91 high)

pub byte-injective : (c d : Centering) → byte_of c ≡ byte_of d → c ≡ d
byte-injective c d e =
    let same : Some c ≡ Some d = sym (letter-by-byte c) ∙ ap letter_of e ∙ letter-by-byte d in
    cc

-- Different letters have a point that tells them apart: one test over all pairs.
unfoldable pub points_within : Centering → Centering → Bool
points_within c d = all (λ p. has same_triple p (points_of d)) (points_of c)

unfoldable pub told_apart : Centering → Centering → Bool
told_apart c d = eqb (byte_of c) (byte_of d) || not (points_within c d && points_within d c)

pairs-test : T (all (λ c. all (told_apart c) letters) letters)
unfolding all told_apart points_within has same_triple
pairs-test = tt

-- Letters with one L are one letter.
pub lattice-injective : (c d : Centering) → ((v : Vector) → InLattice (points_of c) v ↔ InLattice (points_of d) v) → c ≡ d
unfolding told_apart points_within
lattice-injective c d same =
    elim (or_cases (eqb (byte_of c) (byte_of d)) _ (all-member (told_apart c) (all-member (λ c. all (told_apart c) letters) pairs-test (listed c)) (listed d))) [
      | inl t ↦ byte-injective c d (eqb→eq _ _ t)
      | inr t ↦ absurd (T_not (points_within c d && points_within d c) t
          (both (points_within c d) (points_within d c) (within c d (λ v. (same v).0)) (within d c (λ v. (same v).1))))
    ]
  where
    within : (c d : Centering) → ((v : Vector) → InLattice (points_of c) v → InLattice (points_of d) v) → T (points_within c d)
    within c d into =
        member-all (λ p. has same_triple p (points_of d)) (points_of c)
        (λ p m.
        let still = reduced-lifted p ((points c).below m) in
        Mem→has same_triple (equality-equivalence same_triple triple-decides) (mem-cast (sym still) (into (lifted p) (mem-cast still m))))
