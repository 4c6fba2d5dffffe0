-- Refusal 15 by R8: an entry outside −1..1, or a pair of trace and determinant that is none of the ten. The ten are said as a rule:
-- trace −1 to 3 with determinant 1, or the negatives of both.
use Rattle.std.specs.Prelude.{◌≡◌, ◌↔◌, Bool, true, false, cond, ◌&&◌, ℕ, zero, suc, ◌≤◌, ℤ, pos, negsuc, neg_ℤ, None, Option}
use Rattle.std.proofs.Math.Path.{refl, ap}
use Rattle.std.proofs.Common.{sym, ◌∙◌, true≢false, arith}
use Rattle.std.proofs.Math.Bool.{and-eq-true_iff}
use mathlib.Core.List.Memᴰ.{head as here}
use mathlib.Core.List.Memᴰ.{not-nil as no_member}
use mathlib.Core.List.Memᴰ.{tail as there}
use mathlib.Core.List.{List, [], ◌∷◌, Memᴰ as Mem}
use Rattle.laws.specs.Matrix.{Matrix, trace, determinant}
use Rattle.laws.specs.SameMatrix.{same_integer, integer-exact}
use Rattle.operation.specs.Answer.{given, refused}
use Rattle.operation.specs.Meaning.{all_inside}
use Rattle.operation.specs.Entries.{Entries, all-entries}
use Rattle.operation.specs.RotationType.{Pair, pairs, unknown, lookup, identified, type_answer, one-type-answer}
use Rattle.operation.specs.declared.rotation_type.RotationType.{RotationType}

-- The traces and determinants of turns, and of turns with an inversion.
pub data Known : ℤ → ℤ → Type 0 where
  minus_one : Known (negsuc 0) (pos 1)
  up-to-three : (t : ℕ) → t ≤ 3 → Known (pos t) (pos 1)
  plus_one : Known (pos 1) (negsuc 0)
  down-to-minus-three : (t : ℕ) → t ≤ 3 → Known (neg_ℤ (pos t)) (negsuc 0)

-- ---- the table

-- A pair of the table has this trace and this determinant.
abbrev Has : ℤ → ℤ → List Pair → Type 0
Has t d l = (p : Pair) × Mem p l × (t ≡ p.trace) × (d ≡ p.determinant)

-- One step of `lookup-has`: the first line fits, or a later one does.
has-step : (b : Bool) (t d : ℤ) (q p : Pair) (l : List Pair) → same_integer t q.trace && same_integer d q.determinant ≡ b → Mem p (q ∷ l) → t ≡ p.trace
    → d ≡ p.determinant → (Mem p l → (k : RotationType) × (lookup t d l ≡ given k)) → (k : RotationType) × (cond b (given q.type) (lookup t d l) ≡ given k)
has-step true t d q p l e m x y rest = (q.type, refl)
has-step false t d q p l e (here h) x y rest =
    let hit : same_integer t q.trace && same_integer d q.determinant ≡ true =
    rw ((integer-exact t q.trace).1 (x ∙ ap (λ (r : Pair). r.trace) h), (integer-exact d q.determinant).1 (y ∙ ap (λ (r : Pair). r.determinant) h)) in
    absurd (true≢false (sym hit ∙ e))
has-step false t d q p l e (there n) x y rest = rest n

-- A line that fits is found,
lookup-has : (t d : ℤ) (l : List Pair) → Has t d l → (k : RotationType) × (lookup t d l ≡ given k)
unfolding lookup
lookup-has t d [] (p, m, x, y) = absurd (no_member m)
lookup-has t d (q ∷ l) (p, m, x, y) =
    has-step (same_integer t q.trace && same_integer d q.determinant) t d q p l refl m x y (λ n. lookup-has t d l (p, n, x, y))

-- One step of `lookup-none`.
none-step : (b : Bool) (t d : ℤ) (q : Pair) (l : List Pair) → same_integer t q.trace && same_integer d q.determinant ≡ b → ¬ Has t d (q ∷ l)
    → lookup t d l ≡ refused 15 0 tt → cond b (given q.type) (lookup t d l) ≡ refused 15 0 tt
none-step true t d q l e none rest =
    let (x, y) = (and-eq-true_iff (same_integer t q.trace) (same_integer d q.determinant)).0 e in
    absurd (none (q, here refl, (integer-exact t q.trace).0 x, (integer-exact d q.determinant).0 y))
none-step false t d q l e none rest = rest

-- and where none fits the answer is 15 at 0.
lookup-none : (t d : ℤ) (l : List Pair) → ¬ Has t d l → lookup t d l ≡ refused 15 0 tt
unfolding lookup
lookup-none t d [] none = refl
lookup-none t d (q ∷ l) none =
    none-step (same_integer t q.trace && same_integer d q.determinant) t d q l refl none (lookup-none t d l (λ (p, m, x, y). none (p, there m, x, y)))

-- The table has the pairs of the rule, and no others.
pub pairs-known : (t d : ℤ) → Has t d pairs ↔ Known t d
unfolding pairs
pairs-known t d = ((λ (p, m, x, y). rw (x, y) (forth p m)), back t d)
  where
    forth : (p : Pair) → Mem p pairs → Known p.trace p.determinant
    forth p (here h) = rw h (up-to-three 3 (omega arith))
    forth p (there (here h)) = rw h minus_one
    forth p (there (there (here h))) = rw h (up-to-three 0 (omega arith))
    forth p (there (there (there (here h)))) = rw h (up-to-three 1 (omega arith))
    forth p (there (there (there (there (here h))))) = rw h (up-to-three 2 (omega arith))
    forth p (there (there (there (there (there (here h)))))) = rw h (down-to-minus-three 3 (omega arith))
    forth p (there (there (there (there (there (there (here h))))))) = rw h plus_one
    forth p (there (there (there (there (there (there (there (here h)))))))) = rw h (down-to-minus-three 0 (omega arith))
    forth p (there (there (there (there (there (there (there (there (here h))))))))) = rw h (down-to-minus-three 1 (omega arith))
    forth p (there (there (there (there (there (there (there (there (there (here h)))))))))) = rw h (down-to-minus-three 2 (omega arith))
    forth p (there (there (there (there (there (there (there (there (there (there x40)))))))))) = elim x40 [ ]

    back : (t d : ℤ) → Known t d → Has t d pairs
    back t d minus_one = (_, there (here refl), refl, refl)
    back t d plus_one = (_, there (there (there (there (there (there (here refl)))))), refl, refl)
    back t d (up-to-three zero h) = (_, there (there (here refl)), refl, refl)
    back t d (up-to-three (suc zero) h) = (_, there (there (there (here refl))), refl, refl)
    back t d (up-to-three (suc (suc zero)) h) = (_, there (there (there (there (here refl)))), refl, refl)
    back t d (up-to-three (suc (suc (suc zero))) h) = (_, here refl, refl, refl)
    back t d (up-to-three (suc (suc (suc (suc n)))) h) = absurd (omega arith)
    back t d (down-to-minus-three zero h) = (_, there (there (there (there (there (there (there (here refl))))))), refl, refl)
    back t d (down-to-minus-three (suc zero) h) = (_, there (there (there (there (there (there (there (there (here refl)))))))), refl, refl)
    back t d (down-to-minus-three (suc (suc zero)) h) = (_, there (there (there (there (there (there (there (there (there (here refl))))))))), refl, refl)
    back t d (down-to-minus-three (suc (suc (suc zero))) h) = (_, there (there (there (there (there (here refl))))), refl, refl)
    back t d (down-to-minus-three (suc (suc (suc (suc n)))) h) = absurd (omega arith)

-- ---- the refusal
module _ (A : Matrix) where
  -- By the test of the entries: a known pair has a type,
  typed : (b : Bool) → all_inside A ≡ b → Entries A → Known (trace A) (determinant A)
      → (k : RotationType) × (cond b (lookup (trace A) (determinant A) pairs) unknown ≡ given k)
  typed true e inside known = lookup-has (trace A) (determinant A) pairs ((pairs-known (trace A) (determinant A)).1 known)
  typed false e inside known = absurd (true≢false (sym ((all-entries A).1 inside) ∙ e))

  -- and anything else is refused.
  untyped : (b : Bool) → all_inside A ≡ b → ¬ (Entries A × Known (trace A) (determinant A))
      → cond b (lookup (trace A) (determinant A) pairs) unknown ≡ refused 15 0 tt
  untyped true e never =
      lookup-none (trace A) (determinant A) pairs (λ h. never ((all-entries A).0 e, (pairs-known (trace A) (determinant A)).0 h))
  untyped false e never = refl

  never_both : (k : RotationType) (number place : ℕ) → identified A ≡ given k → ¬ (identified A ≡ refused number place tt)
  never_both k number place p q = let h : ◌≡◌ {A = ℕ} 0 1 = cc in absurd (omega arith)

  -- 15 at 0 and nothing else, exactly if an entry or the pair is unknown.
  pub unknown-exactly : (number place : ℕ) → (identified A ≡ refused number place tt)
      ↔ ((number ≡ 15) × (place ≡ 0) × ¬ (Entries A × Known (trace A) (determinant A)))
  unfolding identified
  unknown-exactly number place = (forth, λ (n, p, never). rw (n, p) (untyped (all_inside A) refl never))
    where
      never : identified A ≡ refused number place tt → ¬ (Entries A × Known (trace A) (determinant A))
      never e (inside, known) =
          let (k, p) = typed (all_inside A) refl inside known in
          never_both k number place p e

      forth : identified A ≡ refused number place tt → (number ≡ 15) × (place ≡ 0) × ¬ (Entries A × Known (trace A) (determinant A))
      forth e =
          let told : refused 15 0 tt ≡ refused number place tt = sym (untyped (all_inside A) refl (never e)) ∙ e in
          ((cc), (cc), never e)

  -- The same of the code's own answer.
  pub refused-exactly : (r : Option RotationType) → type_answer r ≡ identified A → (r ≡ None) ↔ ¬ (Entries A × Known (trace A) (determinant A))
  unfolding type_answer
  refused-exactly r e = (
    (λ p. ((unknown-exactly 15 0).0 (sym e ∙ ap type_answer p)).2),
    λ never. one-type-answer r None (e ∙ (unknown-exactly 15 0).1 (refl, refl, never)),
  )
