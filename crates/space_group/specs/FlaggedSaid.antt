-- The numbers of generators with flags say what is answered of their motions: a number says its generator modulo 12 and its flag, products do not see what
-- is taken off modulo 12, and the growth of operations with flags answers what is answered of motions with flags.
use Rattle.std.specs.Prelude.{◌≡◌, Bool, false, eqb, ltb, length, get_or}
use Rattle.std.proofs.Math.Path.{refl}
use Rattle.std.proofs.Common.{sym, ◌∙◌, ap, ap₂, arith}
use Rattle.std.proofs.Math.Bool.{true, cond}
use Rattle.std.proofs.Math.Option
use Rattle.std.proofs.Math.Option.{Option, some, none, bind}
use mathlib.Core.List.Memᴰ.{head as here}
use mathlib.Core.List.Memᴰ.{map as mem-map}
use mathlib.Core.List.Memᴰ.{tail as there}
use mathlib.Core.List.{List, [], ◌∷◌, map, Memᴰ as Mem}
use Prim.Native.Nat.{ℕ, zero, suc, ◌≤◌}
use Rattle.laws.specs.Matrix.{times}
use Rattle.laws.specs.Motion.{SpaceMotion, product, compose, identity}
use Rattle.laws.specs.Closure.{Congruence}
use Rattle.laws.specs.SameMatrix.{same_rotation, same-rotation, rotation-same}
use Rattle.laws.specs.Growth.{Growth, turns, grow, grown, taken_up, image_growth}
use Rattle.group_growth.specs.Verdicts.{listed, torn, image_verdict, on_growth}
use Rattle.group_growth.specs.Growing.{verdict}
use Rattle.group_growth.specs.Forms.{growth-verdict}
use Rattle.group_growth.specs.Flagged.{xor, Flagged, flagged_by, held, image_flagged, same_flagged, times_flagged, key-flag, key-element, flagged-key}
use Rattle.group_growth.specs.FlaggedGrowth.{with_flag, forms_with_flag, flagged_times}
use Rattle.operation.specs.Meaning.{Digits, motion_of}
use Rattle.operation.specs.Product.{identity_operation, operation_of}
use Rattle.operation.specs.declared.Operation.{Operation}
use Rattle.packed_operation.specs.Number.{flag_of, said_by, narrowed}
use Rattle.packed_operation.specs.RoundTrip.{number-says, flag-said}
use Rattle.centering.specs.declared.Centering.{Centering}
use Rattle.space_group.specs.Traversal.{same_turn, product_inside}
use Rattle.space_group.specs.OperationGrowth.{motion_growth, operation_forms, identity-operation}
use Rattle.space_group.specs.NumberGrowth.{AllDigits, reduced_operation, generator_number, narrowed-narrow, narrowed-short, generator-says, reduced-times, flagged_said, same_flagged_class, times_said, unit-said, number_growth, flagged-growth}
use Rattle.space_group.specs.FlaggedGenerators.{bit_of, flagged_number}
use Rattle.space_group.specs.FlaggedOutcomes.{plain_of}

-- ---- one growth by equal products
module _ {A G : Type 0} (same alike : A → A → Bool) (◌·◌ ◌∘◌ : A → G → Option A) (limit : ℕ) (unit : A) where
  infixl 70 ◌·◌
  infixl 70 ◌∘◌
  turns-equal : (x : A) (gens : List G) → ((g : G) → Mem g gens → (y : A) → y · g ≡ y ∘ g) → (s : Growth A)
      → turns same alike ◌·◌ limit x gens s ≡ turns same alike ◌∘◌ limit x gens s
  unfolding turns
  turns-equal x [] h s = refl
  turns-equal x (g ∷ gens) h s =
      λ i. bind (h g (here refl) x i) (λ p. bind (taken_up same alike limit p s) (λ t. turns-equal x gens (λ k m. h k (there m)) t i))

  module _ (gens : List G) (h : (g : G) → Mem g gens → (y : A) → y · g ≡ y ∘ g) where
    grow-equal : (n i : ℕ) (s : Growth A) → grow same alike ◌·◌ limit unit gens n i s ≡ grow same alike ◌∘◌ limit unit gens n i s
    unfolding grow
    grow-equal zero i s = refl
    grow-equal (suc n) i s =
        λ k. cond (ltb i (length s.found)) (bind (turns-equal (get_or s.found i unit) gens h s k) (λ t. grow-equal n (suc i) t k)) (some s)

    grown-equal : grown same alike ◌·◌ limit unit gens ≡ grown same alike ◌∘◌ limit unit gens
    unfolding grown
    grown-equal = grow-equal limit 0 (record { found = unit ∷ []; steps = []; steady = true })

-- ---- what the number of a generator says
flag-bit : (b : Bool) → eqb (bit_of b) 1 ≡ b
flag-bit true = refl
flag-bit false = refl

bit-small : (b : Bool) → bit_of b ≤ 1
bit-small true = omega arith
bit-small false = omega arith

-- The flag,
says-flag : (g : Flagged Operation) → eqb (flag_of (flagged_number g)) 1 ≡ g.flag
unfolding flagged_number
says-flag g =
    let o = reduced_operation g.element in
    ap (λ n. eqb n 1) (flag-said (narrowed o) (bit_of g.flag) (narrowed-narrow o) (narrowed-short o) (bit-small g.flag)) ∙ flag-bit g.flag

-- and the generator modulo 12.
says-element : (g : Flagged Operation) → Digits g.element.rotation → said_by (flagged_number g) ≡ reduced_operation g.element
unfolding flagged_number generator_number
says-element g d =
    let o = reduced_operation g.element in
    number-says (narrowed o) (bit_of g.flag) (narrowed-narrow o) (narrowed-short o) ∙ sym (number-says (narrowed o) 0 (narrowed-narrow o) (narrowed-short o))
    ∙ generator-says g.element d

-- A product by what it says is the product by the generator.
times-said : (a g : Flagged Operation) → Digits g.element.rotation → flagged_times product_inside a g ≡ times_said flagged_number a g
times-said a g d =
    let f = a.element in
    let equal = reduced-times f g.element ∙ ap (product_inside f) (sym (says-element g d)) in
    ap₂ (λ b p. Option.map (flagged_by (xor a.flag b)) p) (sym (says-flag g)) equal

-- ---- what is answered
growth-image : {A B : Type 0} (f : A → B) (o : Option (Growth A)) → on_growth (Option.map (image_growth f) o) ≡ image_verdict f (on_growth o)
growth-image f none = refl
growth-image f (some s) = by-test s.steady
  where
    by-test : (b : Bool) → cond b (listed (map f s.found) s.steps) torn ≡ image_verdict f (cond b (listed s.found s.steps) torn)
    by-test true = refl
    by-test false = refl

-- Steps keep rotation and flag.
flagged-congruence : (gens : List (Flagged SpaceMotion)) → Congruence (same_flagged same_rotation) (times_flagged compose) (held identity) gens
unfolding product
flagged-congruence gens f g h _ _ _ t =
    let turn = ap (λ A. times A h.element.rotation) (same-rotation f.element g.element (key-element same_rotation f g t)) in
    flagged-key same_rotation (times_flagged compose f h) (times_flagged compose g h) (ap (λ b. xor b h.flag) (key-flag same_rotation f g t))
    (rotation-same (compose f.element h.element) (compose g.element h.element) turn)

module _ (c : Centering) (gens : List (Flagged Operation)) (digits : AllDigits (plain_of gens)) where
  abbrev flagged_grown : Flagged Operation → Option (Growth (Flagged Operation))
  flagged_grown unit = grown (same_flagged same_turn) (same_flagged_class c) (flagged_times product_inside) 96 unit gens

  -- The numbers say the growth of the operations with flags,
  growth-said : flagged_grown (held identity_operation) ≡ Option.map (image_growth flagged_said) (number_growth c 96 (map flagged_number gens))
  growth-said =
      grown-equal (same_flagged same_turn) (same_flagged_class c) (flagged_times product_inside) (times_said flagged_number) 96 (held identity_operation) gens
      (λ g m a. times-said a g (digits g.element (mem-map (λ (g : Flagged Operation). g.element) m)))
      ∙ ap (λ u. grown (same_flagged same_turn) (same_flagged_class c) (times_said flagged_number) 96 u gens) (sym unit-said)
      ∙ flagged-growth flagged_number c 96 gens

  -- and so what is answered of motions with flags.
  pub numbers-verdict : image_verdict flagged_said (on_growth (number_growth c 96 (map flagged_number gens)))
      ≡ image_verdict (image_flagged operation_of) (verdict (with_flag (motion_growth c)) 96 (map (image_flagged motion_of) gens))
  numbers-verdict =
      let forms = forms_with_flag (motion_growth c) (operation_forms c) in
      let unit = ap held (identity-operation c) in
      sym (growth-image flagged_said (number_growth c 96 (map flagged_number gens))) ∙ ap on_growth (sym growth-said ∙ ap flagged_grown (sym unit))
      ∙ sym (growth-verdict (with_flag (motion_growth c)) forms 96 (omega arith) gens (flagged-congruence (map (image_flagged motion_of) gens)))
