-- Lists held in nine slots: what the code that builds them promises.
use Rattle.std.specs.Prelude.{◌≡◌, refl, Bool, List, [], ◌∷◌, ◌++◌, map, ℕ, zero, suc, ◌+◌, ◌-◌, ◌<◌, ◌≤◌, length, take, get_or, set, replicate}
use Rattle.std.proofs.Common.{sym, ◌∙◌, ap, append_assoc, arith, add-one, length-set, take-suc, take-suc-set, length-take-le}
use Rattle.std.proofs.lemmas.List.{length-map, set_at}
use Rattle.operation.specs.Product.{identity_operation}
use Rattle.operation.specs.declared.Translation.{Translation}
use Rattle.operation.specs.declared.Operation.{Operation}
use Rattle.centering.specs.declared.Centering.{Centering}
use Rattle.hall_symbol.specs.Generators.{leading, shifted, slots}
use Rattle.hall_symbol.specs.Reader.{answer_of, shifted_symbol}
use Rattle.hall_symbol.specs.declared.Answer.TheVariants.{Symbol}
use Rattle.hall_symbol.specs.declared.generators.Generators.{Generators}

-- The list that the slots hold.
abbrev pub list_of : Generators → List Operation
list_of g = take g.count g.operations

-- One generator more.
pub record Pushed (g : Generators) (o : Operation) (h : Generators) : Type 0 where
  pub count : h.count ≡ g.count + 1
  pub listed : list_of h ≡ list_of g ++ (o ∷ [])
  pub slots : length h.operations ≡ 9

pub pushed-slot : (g : Generators) (o : Operation) → length g.operations ≡ 9 → g.count < 9
    → Pushed g o (record { count = g.count + 1; operations = set g.operations g.count o })
pushed-slot g o long few =
    record {
      count = refl;
      listed = rw (add-one g.count) (take-suc-set g.operations g.count o (omega arith));
      slots = length-set g.operations g.count o ∙ long;
    }

-- The generators of the first token.
pub record Started (inverted : Bool) (g : Generators) : Type 0 where
  pub count : g.count ≤ 1
  pub listed : list_of g ≡ leading inverted
  pub slots : length g.operations ≡ 9

-- All of them shifted, and the identity past them.
pub record Moved (g : Generators) (v : Translation) (h : Generators) : Type 0 where
  pub count : h.count ≡ g.count
  pub moved : h.operations ≡ slots (map (shifted v) (list_of g))

-- The slots after i of the operations have been moved.
abbrev pub moved_slots : Translation → List Operation → ℕ → List Operation
moved_slots v os i = map (shifted v) (take i os) ++ replicate (9 - i) identity_operation

-- Appended lists are mapped part by part.
map-append : (f : Operation → Operation) (s t : List Operation) → map f (s ++ t) ≡ map f s ++ map f t
map-append f [] t = refl
map-append f (o ∷ s) t = ap (λ (l : List Operation). f o ∷ l) (map-append f s t)

-- A list of copies has one at its front.
replicate_next : (n : ℕ) (o : Operation) → 0 < n → replicate n o ≡ o ∷ replicate (n - 1) o
replicate_next zero o h = absurd (omega arith)
-- A list of copies has one at its front.
replicate_next (suc n) o h = let e : suc n - 1 ≡ n = omega arith in rw e

-- One slot more is moved.
pub moved-next : (v : Translation) (os : List Operation) (i : ℕ) (d : Operation) → i < length os → i < 9
    → set (moved_slots v os i) i (shifted v (get_or os i d)) ≡ moved_slots v os (i + 1)
moved-next v os i d h k =
    let front : length (map (shifted v) (take i os)) ≡ i = length-map (take i os) (shifted v) ∙ length-take-le i os (omega arith) in
    let e : 9 - i - 1 ≡ 9 - (i + 1) = omega arith in
    rw (replicate_next (9 - i) identity_operation (omega arith), e)
    (set_at (map (shifted v) (take i os)) identity_operation (replicate (9 - (i + 1)) identity_operation) (shifted v (get_or os i d)) i front
    ∙ rw (add-one i, take-suc os i d h, map-append (shifted v) (take i os) (get_or os i d ∷ []))
    (sym (append_assoc (map (shifted v) (take i os)) (shifted v (get_or os i d) ∷ []) (replicate (9 - suc i) identity_operation))))

-- All of them are moved.
pub moved_all : (g : Generators) (v : Translation) → g.count ≤ length g.operations
    → moved_slots v g.operations g.count ≡ slots (map (shifted v) (list_of g))
moved_all g v h =
    let long : length (map (shifted v) (list_of g)) ≡ g.count = length-map (list_of g) (shifted v) ∙ length-take-le g.count g.operations h in
    rw long

-- A moved list is the symbol's answer.
pub accepted-answer : (c : Centering) (g : Generators) (v : Translation) (h : Generators) → g.count ≤ length g.operations → Moved g v h
    → record { answer = Symbol; centering = c; count = h.count; generators = h.operations } ≡ answer_of (shifted_symbol c (list_of g) v)
accepted-answer c g v h l m =
    let count : h.count ≡ length (map (shifted v) (list_of g)) =
    m.count ∙ sym (length-map (list_of g) (shifted v) ∙ length-take-le g.count g.operations l) in
    λ i. record { answer = Symbol; centering = c; count = count i; generators = m.moved i }
