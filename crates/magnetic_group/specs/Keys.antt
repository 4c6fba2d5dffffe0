-- Counting by keys: elements that are told apart as their keys are number at most as many exactly if the keys do.
use Rattle.std.specs.Prelude.{◌≡◌, ◌↔◌, Bool, ℕ, ◌≤◌, T, length}
use Rattle.std.proofs.Math.Path.{refl}
use Rattle.std.proofs.Common.{ap, ap₂, inl, inr, arith}
use mathlib.Core.List.Memᴰ.{cases_cons as cases}
use mathlib.Core.List.Memᴰ.{head as here}
use mathlib.Core.List.Memᴰ.{not-nil}
use mathlib.Core.List.Memᴰ.{of_map as mem-of-map}
use mathlib.Core.List.Memᴰ.{tail as there}
use mathlib.Core.List.{List, [], ◌∷◌, map, Memᴰ as Mem}
use Rattle.std.proofs.lemmas.List.{length-map}
use Rattle.laws.specs.Distinct.{has, Distinct, nil, cons}

module _ {A B : Type 0} (same : A → A → Bool) (sameKey : B → B → Bool) (key : A → B) (agree : (x y : A) → sameKey (key x) (key y) ≡ same x y) where
  -- A list has one with a key exactly if the list of the keys has it.
  has_key : (x : A) (l : List A) → has sameKey (key x) (map key l) ≡ has same x l
  unfolding has
  has_key x [] = refl
  has_key x (y ∷ l) = rw (agree x y, has_key x l)

  distinct-keys : {l : List A} → Distinct same l → Distinct sameKey (map key l)
  distinct-keys nil = nil
  distinct-keys (cons {x} {l} new d) = cons (λ (t : T (has sameKey (key x) (map key l))). new (rw (has_key x l) at t)) (distinct-keys d)

  keys-distinct : (l : List A) → Distinct sameKey (map key l) → Distinct same l
  keys-distinct [] d = nil
  keys-distinct (x ∷ l) (cons new d) = cons (λ t. new (rw (has_key x l) t)) (keys-distinct l d)

  module _ (In : A → Type 0) where
    -- The key of such an element.
    abbrev pub KeyOf : B → Type 0
    KeyOf b = (x : A) × In x × (key x ≡ b)

    -- Keys of such elements are those of a list of them.
    chosen : (l : List B) → ((b : B) → Mem b l → KeyOf b) → (m : List A) × (map key m ≡ l) × ((x : A) → Mem x m → In x)
    chosen [] each = ([], refl, λ x m. absurd (not-nil m))
    chosen (b ∷ l) each =
        let (x, r, p) = each b (here refl) in
        let (m, q, s) = chosen l (λ d k. each d (there k)) in
        (x ∷ m, ap₂ (λ d k. d ∷ k) p q, λ y k. elim (cases k) [ inl e ↦ rw e r | inr h ↦ s y h ])

    pub few-by-keys : (limit : ℕ) → ((l : List A) → Distinct same l → ((x : A) → Mem x l → In x) → length l ≤ limit)
        ↔ ((l : List B) → Distinct sameKey l → ((b : B) → Mem b l → KeyOf b) → length l ≤ limit)
    few-by-keys limit = (
      (λ few l distinct each.
          let (m, p, s) = chosen l each in
          omega (arith, few m (keys-distinct m (rw p distinct)) s, length-map m key, ap length p)),
      λ few m distinct s.
          let each : (b : B) → Mem b (map key m) → KeyOf b = λ b k. let (x, h, p) = mem-of-map key m k in (x, s x h, p) in
          omega (arith, length-map m key, few (map key m) (distinct-keys distinct) each),
    )
