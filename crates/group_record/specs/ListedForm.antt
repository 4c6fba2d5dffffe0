-- The form in which a record lists operations: every list of operations has one, it is the list itself where that is in the form, and the set of motions stays.
-- The idea: a list in strict order is told by its members.
use Rattle.std.specs.Prelude.{◌≡◌, ◌↔◌, Bool, ◌||◌, ℕ, ◌<◌, length}
use Rattle.std.proofs.Math.Path.{refl, ap}
use Rattle.std.proofs.Common.{sym, ◌∙◌, arith, eqb→eq}
use Rattle.std.proofs.Math.Logic.{∥∥₁_elim}
use mathlib.Core.HLevel.{⊥_prop}
use mathlib.Core.List.Memᴰ.{cast as mem-cast}
use mathlib.Core.List.Memᴰ.{map as mem-map}
use mathlib.Core.List.Memᴰ.{of_map as mem-of-map}
use mathlib.Core.List.Pairwise
use mathlib.Core.List.{List, [], ◌∷◌, map, Memᴰ as Mem, Nodup}
use Rattle.std.proofs.Math.Dec.{eqb_refl}
use Rattle.std.proofs.Math.ListN.{length-map}
use Rattle.laws.specs.Motion.{SpaceMotion}
use Rattle.laws.specs.Distinct.{has, Distinct, nil, cons, Equivalence, has-member, Mem→has, distinct-equal, eqb-equivalence}
use Rattle.laws.specs.Lattice.{congruent-reflexive, congruent-symmetric, congruent-transitive}
use Rattle.laws.specs.Sorted.{key-strict, key-decides, key-total, Sorted, sorted-nil, sorted-cons, unique, sort-length, sort-member, member-sort, sort_sorted}
use Rattle.operation.specs.Code.{code_of, code-injective}
use Rattle.operation.specs.Entries.{Entries, digits-entries, digits-again}
use Rattle.operation.specs.Meaning.{digits_of, matrix_of, motion_of}
use Rattle.operation.specs.declared.Operation.{Operation}
use Rattle.operation.specs.declared.Rotation.{Rotation}
use Rattle.operation.specs.declared.Translation.{Translation}
use Rattle.centering.specs.Letters.{points_of}
use Rattle.centering.specs.Lattices.{points, smallest_of}
use Rattle.centering.specs.LatticeLaws.{smallest-is, smallest-same}
use Rattle.centering.specs.declared.Centering.{Centering}
use Rattle.group_record.specs.Record.{smallest_operation, before_by_code, listed_form}
use Rattle.group_record.specs.Groups.{Alike, InSet, same_code, Listing, Form}

-- ---- operations, their codes and their matrices
-- Operations are equal where their parts are.
pub operation≡ : {f g : Operation} → f.rotation ≡ g.rotation → f.translation ≡ g.translation → f ≡ g
operation≡ p q = λ i. record { rotation = p i; translation = q i }

-- Rotations with entries in −1..1 and one matrix are one rotation.
pub matrix-injective : (r s : Rotation) → Entries (matrix_of r) → Entries (matrix_of s) → matrix_of r ≡ matrix_of s → r ≡ s
matrix-injective r s d e p = sym (digits-again r ((digits-entries r).1 d)) ∙ ap digits_of p ∙ digits-again s ((digits-entries s).1 e)

-- Such rotations with one code are one rotation.
pub code-matrix : (r s : Rotation) → Entries (matrix_of r) → Entries (matrix_of s) → code_of r ≡ code_of s → r ≡ s
code-matrix r s d e p = code-injective r s ((digits-entries r).1 d) ((digits-entries s).1 e) p

-- To have one code is an equivalence.
pub code-equivalence : Equivalence same_code
code-equivalence =
    record {
      reflexive = λ f. eqb-equivalence.reflexive (code_of f.rotation);
      symmetric = λ f g. eqb-equivalence.symmetric (code_of f.rotation) (code_of g.rotation);
      transitive = λ f g h. eqb-equivalence.transitive (code_of f.rotation) (code_of g.rotation) (code_of h.rotation);
    }

-- In a listing an operation is told by its rotation.
pub told-by-rotation : {l : List Operation} → Listing l → {f g : Operation} → Mem f l → Mem g l → f.rotation ≡ g.rotation → f ≡ g
told-by-rotation {l} L {f} {g} m k e = distinct-equal same_code code-equivalence L.distinct m k (rw e (eqb_refl (code_of g.rotation)))

-- ---- motions that differ by a translation of L
module _ (c : Centering) where
  -- To be alike is an equivalence.
  pub alike-reflexive : (f : SpaceMotion) → Alike c f f
  alike-reflexive f = (refl, congruent-reflexive (points_of c) (points c) f.translation)

  pub alike-symmetric : (f g : SpaceMotion) → Alike c f g → Alike c g f
  alike-symmetric f g (p, q) = (sym p, congruent-symmetric (points_of c) (points c) f.translation g.translation q)

  pub alike-transitive : (f g h : SpaceMotion) → Alike c f g → Alike c g h → Alike c f h
  alike-transitive f g h (p, q) (r, s) = (p ∙ r, congruent-transitive (points_of c) (points c) f.translation g.translation h.translation q s)

  -- An operation and its smallest form are alike.
  pub smallest-alike : (f : Operation) → Alike c (motion_of (smallest_operation c f)) (motion_of f)
  unfolding smallest_operation motion_of
  smallest-alike f = (refl, ((smallest-is c f.translation (smallest_of c f.translation)).1 refl).class)

  -- The smallest triple of a class is its own smallest.
  smallest-again : (t : Translation) → smallest_of c (smallest_of c t) ≡ smallest_of c t
  smallest-again t = (smallest-same c (smallest_of c t) t).0 ((smallest-is c t (smallest_of c t)).1 refl).class

  -- Operations that differ by a translation of L have one smallest form.
  pub alike-smallest : (f g : Operation) → Entries (matrix_of f.rotation) → Entries (matrix_of g.rotation) → Alike c (motion_of f) (motion_of g)
      → smallest_operation c f ≡ smallest_operation c g
  unfolding smallest_operation motion_of
  alike-smallest f g d e (p, q) =
      operation≡ (matrix-injective f.rotation g.rotation d e p) ((smallest-same c f.translation g.translation).0 q)

  -- ---- what stands in the form, and its order
  -- Each of the form is the smallest form of a listed operation,
  pub form-member : (l : List Operation) {f : Operation} → Mem f (listed_form c l) → (g : Operation) × Mem g l × (smallest_operation c g ≡ f)
  unfolding listed_form
  form-member l m = mem-of-map (smallest_operation c) l (sort-member before_by_code (map (smallest_operation c) l) m)

  -- and each listed operation's smallest form is there.
  pub member-form : (l : List Operation) {g : Operation} → Mem g l → Mem (smallest_operation c g) (listed_form c l)
  unfolding listed_form
  member-form l m = member-sort before_by_code (map (smallest_operation c) l) (mem-map (smallest_operation c) m)

  -- The form has as many operations.
  pub form-length : (l : List Operation) → length (listed_form c l) ≡ length l
  unfolding listed_form
  form-length l = sort-length before_by_code (map (smallest_operation c) l) ∙ length-map l (smallest_operation c)

  -- The smallest triples change no code.
  has-smallest : (f : Operation) (l : List Operation) → has same_code (smallest_operation c f) (map (smallest_operation c) l) ≡ has same_code f l
  unfolding has smallest_operation
  has-smallest f [] = refl
  has-smallest f (g ∷ l) = ap (λ (b : Bool). same_code f g || b) (has-smallest f l)

  -- So codes stay different.
  distinct-smallest : {l : List Operation} → Distinct same_code l → Distinct same_code (map (smallest_operation c) l)
  distinct-smallest nil = nil
  distinct-smallest (cons {x} {l} new d) =
      cons {x = smallest_operation c x} {l = map (smallest_operation c) l} (λ t. new (rw (has-smallest x l) at t)) (distinct-smallest d)

-- A list with each code once is a list without repeats.
distinct-nodup : {l : List Operation} → Distinct same_code l → Nodup l
distinct-nodup nil = Pairwise.nil
distinct-nodup (cons {x} {l} new d) =
    Pairwise.cons (λ y m e. ∥∥₁_elim m ⊥_prop (λ k. new (Mem→has same_code code-equivalence (mem-cast e k)))) (distinct-nodup d)

-- The order of codes.
abbrev pub CodeBefore : Operation → Operation → Type 0
CodeBefore f g = code_of f.rotation < code_of g.rotation

-- The key of the order.
abbrev pub code_key : Operation → ℕ
code_key f = code_of f.rotation

module _ (c : Centering) where
  -- The form is a form.
  pub listed-form : {l : List Operation} → Listing l → Form c (listed_form c l)
  unfolding listed_form smallest_operation
  listed-form {l} L =
      record {
        entries = λ f m. let (g, k, e) = form-member c l m in rw (← e) (L.entries g k);
        ascend =
            sort_sorted CodeBefore (λ f. Mem f (map (smallest_operation c) l)) before_by_code
            (key-decides code_key _) (key-strict code_key)
            (key-total code_key (λ f. Mem f (map (smallest_operation c) l)) told)
            (map (smallest_operation c) l) (λ y m. m) (distinct-nodup (distinct-smallest c L.distinct));
        smallest = λ f m. let (g, k, e) = form-member c l m in
            rw (← e) ((smallest-is c (smallest_of c g.translation) (smallest_of c g.translation)).1 (sym (smallest-again c g.translation)));
      }
    where
      told : (f g : Operation) → Mem f (map (smallest_operation c) l) → Mem g (map (smallest_operation c) l) → code_of f.rotation ≡ code_of g.rotation → f ≡ g
      told f g m k e = distinct-equal same_code code-equivalence (distinct-smallest c L.distinct) m k (rw e (eqb_refl (code_of g.rotation)))

  -- Operations in the form are a listing.
  ascending-distinct : {l : List Operation} → Sorted CodeBefore l → Distinct same_code l
  ascending-distinct sorted-nil = nil
  ascending-distinct (sorted-cons {x} {l} first s) =
      cons (λ t. let (y, m, e) = has-member same_code x l t in absurd (omega (arith, first y m, eqb→eq (code_of x.rotation) (code_of y.rotation) e)))
      (ascending-distinct s)

  -- So what is in the form is a listing.
  pub form-listing : {l : List Operation} → Form c l → Listing l
  form-listing F = record { entries = F.entries; distinct = ascending-distinct F.ascend }

  -- In the form an operation is its own smallest form, and the list its own listed form.
  pub form-smallest : {l : List Operation} → Form c l → (f : Operation) → Mem f l → smallest_operation c f ≡ f
  unfolding smallest_operation
  form-smallest F f m = operation≡ refl (sym ((smallest-is c f.translation f.translation).0 (F.smallest f m)))

  -- The list is its own listed form.
  pub form-again : {l : List Operation} → Form c l → listed_form c l ≡ l
  form-again {l} F =
      unique CodeBefore (key-strict code_key) (listed-form (form-listing F)).ascend F.ascend
      (λ f m. let (g, k, e) = form-member c l m in mem-cast (sym e ∙ form-smallest F g k) k)
      (λ f m. mem-cast (sym (form-smallest F f m)) (member-form c l m))

  -- ---- the set of motions of the form is that of the list
  -- A motion is in the one set exactly if it is in the other.
  pub form-set : (l : List Operation) (m : SpaceMotion) → InSet c (map motion_of (listed_form c l)) m ↔ InSet c (map motion_of l) m
  form-set l m = (forth, back)
    where
      near : (k : SpaceMotion) (f g : Operation) → motion_of f ≡ k → smallest_operation c g ≡ f → Alike c k (motion_of g)
      near k f g e q = rw (← e, ← q) (smallest-alike c g)

      far : (k : SpaceMotion) (g : Operation) → motion_of g ≡ k → Alike c k (motion_of (smallest_operation c g))
      far k g e = rw (← e) (alike-symmetric c (motion_of (smallest_operation c g)) (motion_of g) (smallest-alike c g))

      forth : InSet c (map motion_of (listed_form c l)) m → InSet c (map motion_of l) m
      forth (k, h, a) =
          let (f, n, e) = mem-of-map motion_of (listed_form c l) h in
          let (g, o, q) = form-member c l n in
          (motion_of g, mem-map motion_of o, alike-transitive c m k (motion_of g) a (near k f g e q))

      back : InSet c (map motion_of l) m → InSet c (map motion_of (listed_form c l)) m
      back (k, h, a) =
          let (g, o, e) = mem-of-map motion_of l h in (
            motion_of (smallest_operation c g),
            mem-map motion_of (member-form c l o),
            alike-transitive c m k (motion_of (smallest_operation c g)) a (far k g e),
          )
