-- The growth of a list of operations as numbers: what the numbers say, each with its flag, grows as the operations do; and where all flags are 0, so do the
-- operations without them.
use Rattle.std.specs.Prelude.{◌≡◌, Bool, false, eqb, ltb, length, get_or, pos, None, Option as Maybe, Some}
use Rattle.std.proofs.Math.Path.{refl}
use Rattle.std.proofs.Common.{sym, ◌∙◌, ap, arith, eqb→eq}
use Rattle.std.proofs.Math.Bool.{true, cond}
use Rattle.std.proofs.lemmas.Bool.{false≢true}
use Rattle.std.proofs.Math.Option
use Rattle.std.proofs.Math.Option.{Option, some, none, bind}
use mathlib.Core.List.Memᴰ.{head as here}
use mathlib.Core.List.Memᴰ.{tail as there}
use mathlib.Core.List.{List, [], ◌∷◌, map, Memᴰ as Mem}
use Prim.Native.Nat.{ℕ, zero, suc, ◌+◌, ◌*◌, ◌%◌, ◌≤◌}
use Rattle.std.proofs.Math.Dec.{T, eqb_refl}
use Rattle.laws.specs.Matrix.{act, times}
use Rattle.laws.specs.Motion.{SpaceMotion, compose, product}
use Rattle.laws.specs.Residue.{residue, reduced, reduced-plus, reduced-act, residue-pos, triple≡, turned, ◌⊕◌}
use Rattle.laws.specs.Growth.{Growth, turns, grow, grown, taken_up, image_growth, Image, grown-image}
use Rattle.laws.specs.Truth.{same_test}
use Rattle.group_growth.specs.Flagged.{xor, Flagged, flagged≡, flagged_by, held, same_flagged, key-flag, key-element, flagged-key}
use Rattle.group_growth.specs.FlaggedGrowth.{flagged_times}
use Rattle.operation.specs.Meaning.{vector_of, matrix_of, motion_of, Digits, all_inside, rotation≡}
use Rattle.operation.specs.Code.{code_of, code-injective}
use Rattle.operation.specs.Entries.{all-entries}
use Rattle.operation.specs.Product.{identity_operation, operation_of, product_of}
use Rattle.operation.specs.declared.Operation.{Operation}
use Rattle.operation.specs.declared.Translation.{Translation}
use Rattle.packed_operation.specs.Number.{key_of, flag_of, rotation_said, translation_said, said_by, packed_of, narrowed, numbered}
use Rattle.packed_operation.specs.Rows.{Narrow}
use Rattle.packed_operation.specs.Moved.{Short}
use Rattle.packed_operation.specs.RoundTrip.{number-says, flag-said, key-said, key-exactly}
use Rattle.packed_operation.specs.Answered.{inside-says}
use Rattle.centering.specs.Lattices.{congruent_of}
use Rattle.centering.specs.declared.Centering.{Centering}
use Rattle.space_group.specs.Traversal.{same_turn, same_class, inside_of, product_inside, growth}
use Rattle.space_group.specs.OperationGrowth.{operation≡, operation-digits}

-- ---- the growth
-- The part of a number by which a list has it once: the rotation and the flag.
unfoldable pub sign_of : ℕ → ℕ
sign_of n = key_of n + flag_of n * 9223372036854775808

abbrev pub same_sign : ℕ → ℕ → Bool
same_sign m n = eqb (sign_of m) (sign_of n)

-- Whether the translations that two numbers say are in one class modulo L.
abbrev pub same_shift : Centering → ℕ → ℕ → Bool
same_shift c m n = congruent_of c (translation_said m) (translation_said n)

-- The number of a product, where its entries are in −1..1.
abbrev pub inside_number : Maybe ℕ → Option ℕ
inside_number (Some n) = some n
inside_number None = none

abbrev pub number_times : ℕ → ℕ → Option ℕ
number_times m n = inside_number (numbered (product_of (said_by m) (said_by n)) ((flag_of m + flag_of n) % 2))

-- The identity's number.
abbrev pub unit_number : ℕ
unit_number = 9152337073407010

unfoldable pub number_growth : Centering → ℕ → List ℕ → Option (Growth ℕ)
number_growth c limit gens = grown same_sign (same_shift c) number_times limit unit_number gens

-- ---- what the numbers say
-- The operation of a number, with its flag.
abbrev pub flagged_said : ℕ → Flagged Operation
flagged_said n = record { element = said_by n; flag = eqb (flag_of n) 1 }

-- The digits of its rotation are 0, 1 and 2.
abbrev Turns : ℕ → Type 0
Turns n = Digits (rotation_said n)

-- A flag is 0 or 1, and above every key.
flag_small : (n : ℕ) → flag_of n ≤ 1
unfolding flag_of
flag_small n = omega arith

key-small : (n : ℕ) → key_of n ≤ 13946212136782947
key-small n = rw (key-said n) (omega arith)

flags-told : (a b : ℕ) → a ≤ 1 → b ≤ 1 → eqb a 1 ≡ eqb b 1 → a ≡ b
flags-told zero zero h k e = refl
flags-told zero (suc zero) h k e = absurd (false≢true e)
flags-told zero (suc (suc b)) h k e = absurd (omega arith)
flags-told (suc zero) zero h k e = absurd (false≢true (sym e))
flags-told (suc zero) (suc zero) h k e = refl
flags-told (suc zero) (suc (suc b)) h k e = absurd (omega arith)
flags-told (suc (suc a)) b h k e = absurd (omega arith)

sign-parts : (k l a b : ℕ) → k ≤ 13946212136782947 → l ≤ 13946212136782947 → k + a * 9223372036854775808 ≡ l + b * 9223372036854775808 → (k ≡ l) × (a ≡ b)
sign-parts k l a b h j e = (omega arith, omega arith)

signs-equal : (x y : ℕ) → T (same_sign x y) → key_of x + flag_of x * 9223372036854775808 ≡ key_of y + flag_of y * 9223372036854775808
unfolding sign_of
signs-equal x y t = eqb→eq _ _ t

equal-signs : (x y : ℕ) → key_of x ≡ key_of y → flag_of x ≡ flag_of y → sign_of x ≡ sign_of y
unfolding sign_of
equal-signs x y p q = λ i. p i + q i * 9223372036854775808

-- Signs tell numbers apart as rotations and flags do.
sign-image : (x y : ℕ) → Turns x → Turns y → same_sign x y ≡ same_flagged same_turn (flagged_said x) (flagged_said y)
sign-image x y h k = same_test (same_sign x y) (same_flagged same_turn (flagged_said x) (flagged_said y)) forth back
  where
    forth : T (same_sign x y) → T (same_flagged same_turn (flagged_said x) (flagged_said y))
    forth t =
        let (key, flag) = sign-parts (key_of x) (key_of y) (flag_of x) (flag_of y) (key-small x) (key-small y) (signs-equal x y t) in
        flagged-key same_turn (flagged_said x) (flagged_said y) (ap (λ n. eqb n 1) flag) (rw ((key-exactly x y).0 key) (eqb_refl (code_of (rotation_said y))))

    back : T (same_flagged same_turn (flagged_said x) (flagged_said y)) → T (same_sign x y)
    back t =
        let flag = flags-told (flag_of x) (flag_of y) (flag_small x) (flag_small y) (key-flag same_turn (flagged_said x) (flagged_said y) t) in
        let rotation = code-injective (rotation_said x) (rotation_said y) h k (eqb→eq _ _ (key-element same_turn (flagged_said x) (flagged_said y) t)) in
        rw (equal-signs x y ((key-exactly x y).1 rotation) flag) (eqb_refl (sign_of y))

-- ---- products
flags_added : (a b : ℕ) → a ≤ 1 → b ≤ 1 → eqb ((a + b) % 2) 1 ≡ xor (eqb a 1) (eqb b 1)
flags_added zero zero h k = refl
flags_added zero (suc zero) h k = refl
flags_added zero (suc (suc b)) h k = absurd (omega arith)
flags_added (suc zero) zero h k = refl
flags_added (suc zero) (suc zero) h k = refl
flags_added (suc zero) (suc (suc b)) h k = absurd (omega arith)
flags_added (suc (suc a)) b h k = absurd (omega arith)

outside-none : (flag : ℕ) → none ≡ Option.map flagged_said (inside_number (numbered None flag))
unfolding numbered
outside-none flag = refl

inside-numbered : (o : Operation) (flag : ℕ) → numbered (Some o) flag ≡ Some (packed_of o flag)
unfolding numbered
inside-numbered o flag = refl

inside-same : {f g : Operation} → Some f ≡ Some g → f ≡ g
inside-same e = cc

-- The number of a product says the product.
times-image : (x y : ℕ) → flagged_times product_inside (flagged_said x) (flagged_said y) ≡ Option.map flagged_said (number_times x y)
times-image x y = by_answer ((flag_of x + flag_of y) % 2) refl (product_of (said_by x) (said_by y)) refl
  where
    by_answer : (flag : ℕ) → flag ≡ (flag_of x + flag_of y) % 2 → (p : Maybe Operation) → product_of (said_by x) (said_by y) ≡ p
        → Option.map (flagged_by (xor (eqb (flag_of x) 1) (eqb (flag_of y) 1))) (inside_of p) ≡ Option.map flagged_said (inside_number (numbered p flag))
    by_answer flag is None e = outside-none flag
    by_answer flag is (Some o) e =
        let (said, told) = inside-says (said_by x) (said_by y) flag (packed_of o flag) (omega arith) (ap (λ p. numbered p flag) e ∙ inside-numbered o flag) in
        let z : o ≡ said_by (packed_of o flag) = inside-same (sym e ∙ said) in
        let b : xor (eqb (flag_of x) 1) (eqb (flag_of y) 1) ≡ eqb (flag_of (packed_of o flag)) 1 =
        sym (flags_added (flag_of x) (flag_of y) (flag_small x) (flag_small y)) ∙ ap (λ n. eqb n 1) (sym is ∙ sym told) in
        rw (inside-numbered o flag) (ap some (flagged≡ (flagged_by (xor (eqb (flag_of x) 1) (eqb (flag_of y) 1)) o) (flagged_said (packed_of o flag)) z b))

-- It has digits 0, 1 and 2.
inside-digits : (f g h : Operation) → product_of f g ≡ Some h → Digits h.rotation
unfolding product_of
inside-digits f g h e = by-test (compose (motion_of f) (motion_of g)) (all_inside (compose (motion_of f) (motion_of g)).rotation) refl e
  where
    by-test : (m : SpaceMotion) (b : Bool) → all_inside m.rotation ≡ b → cond b (Some (operation_of m)) None ≡ Some h → Digits h.rotation
    by-test m true q r = let z : operation_of m ≡ h = cc in rw (← z) (operation-digits m ((all-entries m.rotation).0 q))
    by-test m false q r = let z : ◌≡◌ {A = ℕ} 0 1 = cc in absurd (omega arith)

inside-number : (a : Maybe ℕ) (n : ℕ) → inside_number a ≡ some n → a ≡ Some n
inside-number (Some m) n e = let z : m ≡ n = cc in ap Some z
inside-number None n e = let z : ◌≡◌ {A = ℕ} 0 1 = cc in absurd (omega arith)

times-turns : (x p y : ℕ) → Turns x → number_times x y ≡ some p → Turns p
times-turns x p y h e =
    let told = inside-says (said_by x) (said_by y) ((flag_of x + flag_of y) % 2) p (omega arith)
    (inside-number (numbered (product_of (said_by x) (said_by y)) ((flag_of x + flag_of y) % 2)) p e) in
    inside-digits (said_by x) (said_by y) (said_by p) told.0

pub unit-said : flagged_said unit_number ≡ held identity_operation
unfolding flag_of
unit-said = refl

unit-turns : Turns unit_number
unit-turns = record {
  xx = omega arith;
  xy = omega arith;
  xz = omega arith;
  yx = omega arith;
  yy = omega arith;
  yz = omega arith;
  zx = omega arith;
  zy = omega arith;
  zz = omega arith;
}

-- ---- the growth of what they say
-- Whether the translations of operations with flags are in one class modulo L.
abbrev pub same_flagged_class : Centering → Flagged Operation → Flagged Operation → Bool
same_flagged_class c a b = same_class c a.element b.element

module _ {H : Type 0} (tag : H → ℕ) where
  -- An operation with a flag times what the number of a generator says.
  abbrev pub times_said : Flagged Operation → H → Option (Flagged Operation)
  times_said b h = flagged_times product_inside b (flagged_said (tag h))

  numbers-image : (c : Centering) → Image same_sign (same_shift c) (same_flagged same_turn) (same_flagged_class c) number_times times_said flagged_said tag
      Turns
  numbers-image c = record {
    same-image = sign-image;
    alike-image = λ x y h k. refl;
    product-image = λ x h _. times-image x (tag h);
    product-fine = times-turns;
  }

  -- What the numbers say grows as operations with flags do, under any limit.
  pub flagged-growth : (c : Centering) (limit : ℕ) (gens : List H)
      → grown (same_flagged same_turn) (same_flagged_class c) times_said limit (flagged_said unit_number) gens
      ≡ Option.map (image_growth flagged_said) (number_growth c limit (map tag gens))
  unfolding number_growth
  flagged-growth c limit gens =
      grown-image same_sign (same_shift c) (same_flagged same_turn) (same_flagged_class c) number_times times_said flagged_said tag Turns (numbers-image c)
      limit unit_number gens unit-turns

  module _ (unflagged : (h : H) → flag_of (tag h) ≡ 0) where
    held-times : (x : Operation) (h : H) → times_said (held x) h ≡ Option.map held (product_inside x (said_by (tag h)))
    held-times x h = rw (unflagged h)

    held-image : (c : Centering) → Image same_turn (same_class c) (same_flagged same_turn) (same_flagged_class c) product_inside times_said held
        (λ h. said_by (tag h)) (λ x. T true)
    held-image c = record {
      same-image = λ x y _ _. refl;
      alike-image = λ x y _ _. refl;
      product-image = λ x h _. held-times x h;
      product-fine = λ x p g _ _.
          tt;
    }

    -- Where all flags are 0, operations without flags grow so.
    held-growth : (c : Centering) (gens : List H)
        → grown (same_flagged same_turn) (same_flagged_class c) times_said 48 (held identity_operation) gens
        ≡ Option.map (image_growth held) (growth c (map (λ h. said_by (tag h)) gens))
    unfolding growth
    held-growth c gens =
        grown-image same_turn (same_class c) (same_flagged same_turn) (same_flagged_class c) product_inside times_said held (λ h. said_by (tag h))
        (λ x. T true) (held-image c) 48 identity_operation gens tt

-- The flags forgotten.
elements-held : (l : List Operation) → map (λ (a : Flagged Operation). a.element) (map held l) ≡ l
elements-held [] = refl
elements-held (x ∷ l) = ap (λ r. x ∷ r) (elements-held l)

elements-said : (l : List ℕ) → map (λ (a : Flagged Operation). a.element) (map flagged_said l) ≡ map said_by l
elements-said [] = refl
elements-said (n ∷ l) = ap (λ r. said_by n ∷ r) (elements-said l)

unheld : (o : Option (Growth Operation)) (p : Option (Growth ℕ)) → Option.map (image_growth held) o ≡ Option.map (image_growth flagged_said) p
    → o ≡ Option.map (image_growth said_by) p
unheld none none e = refl
unheld none (some t) e = let z : ◌≡◌ {A = ℕ} 0 1 = cc in absurd (omega arith)
unheld (some s) none e = let z : ◌≡◌ {A = ℕ} 0 1 = cc in absurd (omega arith)
unheld (some s) (some t) e =
    let z : image_growth held s ≡ image_growth flagged_said t = cc in
    let found : s.found ≡ map said_by t.found =
    sym (elements-held s.found) ∙ ap (λ (g : Growth (Flagged Operation)). map (λ (a : Flagged Operation). a.element) g.found) z ∙ elements-said t.found in
    ap some (λ i. record { found = found i; steps = (z i).steps; steady = (z i).steady })

-- ---- one growth by equal products
module _ {A G : Type 0} (same alike : A → A → Bool) (◌·◌ : A → G → Option A) (limit : ℕ) (unit : A) (other : G → G) where
  infixl 70 ◌·◌
  turns_same : (x : A) (gens : List G) → ((g : G) → Mem g gens → (y : A) → y · g ≡ y · other g) → (s : Growth A)
      → turns same alike ◌·◌ limit x gens s ≡ turns same alike ◌·◌ limit x (map other gens) s
  unfolding turns
  turns_same x [] h s = refl
  turns_same x (g ∷ gens) h s =
      λ i. bind (h g (here refl) x i) (λ p. bind (taken_up same alike limit p s) (λ t. turns_same x gens (λ k m. h k (there m)) t i))

  module _ (gens : List G) (h : (g : G) → Mem g gens → (y : A) → y · g ≡ y · other g) where
    grow-same : (n i : ℕ) (s : Growth A) → grow same alike ◌·◌ limit unit gens n i s ≡ grow same alike ◌·◌ limit unit (map other gens) n i s
    unfolding grow
    grow-same zero i s = refl
    grow-same (suc n) i s =
        λ k. cond (ltb i (length s.found)) (bind (turns_same (get_or s.found i unit) gens h s k) (λ t. grow-same n (suc i) t k)) (some s)

    grown-same : grown same alike ◌·◌ limit unit gens ≡ grown same alike ◌·◌ limit unit (map other gens)
    unfolding grown
    grown-same = grow-same limit 0 (record { found = unit ∷ []; steps = []; steady = true })

-- ---- generators
abbrev pub AllDigits : List Operation → Type 0
AllDigits gens = (g : Operation) → Mem g gens → Digits g.rotation

-- An operation with its translation modulo 12.
abbrev pub reduced_operation : Operation → Operation
reduced_operation g =
    let t = g.translation in
    record { rotation = g.rotation; translation = record { x = t.x % 12; y = t.y % 12; z = t.z % 12 } }

-- The number by which a generator multiplies.
unfoldable pub generator_number : Operation → ℕ
generator_number g = packed_of (narrowed (reduced_operation g)) 0

pub narrowed-narrow : (o : Operation) → Narrow (narrowed o).rotation
narrowed-narrow o = record {
  xx = omega arith;
  xy = omega arith;
  xz = omega arith;
  yx = omega arith;
  yy = omega arith;
  yz = omega arith;
  zx = omega arith;
  zy =
      omega arith;
  zz = omega arith;
}

pub narrowed-short : (o : Operation) → Short (narrowed o).translation
narrowed-short o = record { x = omega arith; y = omega arith; z = omega arith }

-- It has the flag 0,
generator-flag : (g : Operation) → flag_of (generator_number g) ≡ 0
unfolding generator_number
generator-flag g = let o = reduced_operation g in flag-said (narrowed o) 0 (narrowed-narrow o) (narrowed-short o) (omega arith)

-- and says the generator modulo 12.
pub generator-says : (g : Operation) → Digits g.rotation → said_by (generator_number g) ≡ reduced_operation g
unfolding generator_number
generator-says g d =
    let o = reduced_operation g in
    number-says (narrowed o) 0 (narrowed-narrow o) (narrowed-short o) ∙ narrowed-same
  where
    kept : (a : ℕ) → a ≤ 2 → a % 4 ≡ a
    kept a h = omega arith

    short : (a : ℕ) → a % 12 % 16 ≡ a % 12
    short a = omega arith

    narrowed-same : narrowed (reduced_operation g) ≡ reduced_operation g
    narrowed-same =
        let r = g.rotation in
        let t = g.translation in
        let rotation = rotation≡ {r = (narrowed (reduced_operation g)).rotation} {s = r} (kept _ d.xx) (kept _ d.xy) (kept _ d.xz) (kept _ d.yx) (kept _ d.yy)
        (kept _ d.yz) (kept _ d.zx) (kept _ d.zy) (kept _ d.zz) in
        λ i. record { rotation = rotation i; translation = record { x = short t.x i; y = short t.y i; z = short t.z i } }

-- A product does not change where the translation of its right factor goes modulo 12.
reduced-vector : (t : Translation) → reduced (vector_of t) ≡ reduced (vector_of (record { x = t.x % 12; y = t.y % 12; z = t.z % 12 }))
unfolding vector_of
reduced-vector t = triple≡ (again t.x) (again t.y) (again t.z)
  where
    again : (a : ℕ) → residue (pos a) ≡ residue (pos (a % 12))
    again a = residue-pos a ∙ omega arith ∙ sym (residue-pos (a % 12))

reduced-right : (f g : Operation) → operation_of (compose (motion_of f) (motion_of g)) ≡ operation_of (compose (motion_of f) (motion_of (reduced_operation g)))
unfolding product motion_of
reduced-right f g =
    let R = matrix_of f.rotation in
    let u = vector_of g.translation in
    let v = vector_of (reduced_operation g).translation in
    let t = vector_of f.translation in
    operation≡ (compose (motion_of f) (motion_of g)) (compose (motion_of f) (motion_of (reduced_operation g))) refl
    (reduced-plus (act R u) t ∙ ap (λ w. w ⊕ reduced t) (reduced-act R u ∙ ap (turned R) (reduced-vector g.translation) ∙ sym (reduced-act R v))
    ∙ sym (reduced-plus (act R v) t))

pub reduced-times : (f g : Operation) → product_inside f g ≡ product_inside f (reduced_operation g)
unfolding product_of product motion_of
reduced-times f g = λ i. inside_of (cond (all_inside (times (matrix_of f.rotation) (matrix_of g.rotation))) (Some (reduced-right f g i)) None)

growth-same : (c : Centering) (gens : List Operation) (other : Operation → Operation)
    → ((g : Operation) → Mem g gens → (f : Operation) → product_inside f g ≡ product_inside f (other g)) → growth c gens ≡ growth c (map other gens)
unfolding growth
growth-same c gens other h = grown-same same_turn (same_class c) product_inside 48 identity_operation other gens h

-- ---- the growth of operations, by numbers
pub growth-numbers : (c : Centering) (gens : List Operation) → AllDigits gens → growth c gens
    ≡ Option.map (image_growth said_by) (number_growth c 48 (map generator_number gens))
growth-numbers c gens digits =
    whole ∙
    unheld (growth c (map (λ g. said_by (generator_number g)) gens)) (number_growth c 48 (map generator_number gens))
    (sym (held-growth generator_number generator-flag c gens) ∙ ap (λ u. grown (same_flagged same_turn) (same_flagged_class c) (times_said generator_number) 48
    u gens) (sym unit-said) ∙ flagged-growth generator_number c 48 gens)
  where
    equal : (g : Operation) → Mem g gens → (f : Operation) → product_inside f g ≡ product_inside f (said_by (generator_number g))
    equal g m f = reduced-times f g ∙ ap (product_inside f) (sym (generator-says g (digits g m)))

    whole : growth c gens ≡ growth c (map (λ g. said_by (generator_number g)) gens)
    whole = growth-same c gens (λ g. said_by (generator_number g)) equal
