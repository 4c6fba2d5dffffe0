-- Only one record stands for one group: records are equal byte for byte exactly when the sets of motions are equal.
-- The idea: the set tells L, as its pure translations, so the letter; and it tells each listed operation in its smallest form, so the listed form.
use Rattle.std.specs.Prelude.{◌≡◌, refl, ◌↔◌, ℕ, length}
use Rattle.std.proofs.Common.{sym, ◌∙◌, subst, lt-ltb}
use Rattle.std.proofs.Math.Path.{ap, ap₂}
use mathlib.Core.List.Memᴰ.{cast as mem-cast}
use mathlib.Core.List.Memᴰ.{head as here}
use mathlib.Core.List.Memᴰ.{map as mem-map}
use mathlib.Core.List.Memᴰ.{of_map as mem-of-map}
use mathlib.Core.List.Memᴰ.{tail as there}
use mathlib.Core.List.{List, [], ◌∷◌, ◌++◌, map, Memᴰ as Mem}
use Rattle.std.proofs.lemmas.List.{length-map}
use Rattle.laws.specs.Matrix.{Vector, unit}
use Rattle.laws.specs.Motion.{SpaceMotion, identity, translation_by}
use Rattle.laws.specs.Lattice.{InLattice, Congruent}
use Rattle.laws.specs.Sorted.{key-strict, unique}
use Rattle.laws.specs.MotionsModulo.{less-origin}
use Rattle.operation.specs.Code.{code_of, code_lt, rotation-code}
use Rattle.operation.specs.Composed.{identity-motion}
use Rattle.operation.specs.Entries.{Entries, digits-entries}
use Rattle.operation.specs.Meaning.{matrix_of, motion_of}
use Rattle.operation.specs.Product.{identity_operation}
use Rattle.operation.specs.declared.Operation.{Operation}
use Rattle.centering.specs.Letters.{byte_of, points_of}
use Rattle.centering.specs.LatticeLaws.{byte-injective, lattice-injective}
use Rattle.centering.specs.declared.Centering.{Centering}
use Rattle.group_record.specs.Items.{bytes_of}
use Rattle.group_record.specs.Editions.{Edition, total_length, trailer_bytes, framed, framed-length, framed-injective}
use Rattle.group_record.specs.OperationItems.{Item, item_of, operation_of_item, InRange}
use Rattle.group_record.specs.FirstEdition.{item_width, item_bytes, item_in, item-wide, item-again, first_edition}
use Rattle.group_record.specs.BothEditions.{edition_of, width_in, known-range}
use Rattle.group_record.specs.Record.{written_in, listed_form, record_in, record_by, record_of}
use Rattle.group_record.specs.declared.Edition.{Edition as Known}
use Rattle.group_record.specs.declared.Edition.TheVariants.{First}
use Rattle.group_record.specs.Groups.{Alike, InSet, Listing, Form}
use Rattle.group_record.specs.ListedForm.{operation≡, told-by-rotation, alike-reflexive, alike-smallest, matrix-injective, form-member, member-form, form-length, CodeBefore, code_key, listed-form, form-set}

-- ---- the bytes of an operation
abbrev pub operation_bytes : Operation → List ℕ
operation_bytes f = item_bytes (item_of f)

-- The operation that the first five bytes say.
abbrev pub operation_in : List ℕ → Operation
operation_in bytes = operation_of_item (item_in bytes)

-- An operation takes five bytes.
pub operation-wide : (f : Operation) → length (operation_bytes f) ≡ item_width
operation-wide f = item-wide (item_of f)

-- A rotation's code says the rotation, so an operation's item says the operation.
pub operation-of-item : (f : Operation) → Entries (matrix_of f.rotation) → operation_of_item (item_of f) ≡ f
unfolding operation_of_item
operation-of-item f e =
    operation≡
    (rw (lt-ltb (code_of f.rotation) 19683 (code_lt f.rotation ((digits-entries f.rotation).1 e)))
    (rotation-code f.rotation ((digits-entries f.rotation).1 e)))
    refl

-- An operation's bytes say the operation.
pub operation-again : (f : Operation) (more : List ℕ) → Entries (matrix_of f.rotation) → operation_in (operation_bytes f ++ more) ≡ f
operation-again f more e = ap operation_of_item (item-again (item_of f) more) ∙ operation-of-item f e

-- ---- the bytes of a list, in any edition
-- The operations of the items of operations are these.
pub operations-of-items : (l : List Operation) → ((f : Operation) → Mem f l → Entries (matrix_of f.rotation)) → map operation_of_item (map item_of l) ≡ l
operations-of-items [] h = refl
operations-of-items (f ∷ l) h =
    ap₂ (λ (g : Operation) (r : List Operation). g ∷ r) (operation-of-item f (h f (here refl))) (operations-of-items l (λ g m. h g (there m)))

-- The bytes of operations are those of their items.
items-bytes : (write : Item → List ℕ) (l : List Operation) → bytes_of write (map item_of l) ≡ bytes_of (λ f. write (item_of f)) l
unfolding bytes_of
items-bytes write [] = refl
items-bytes write (f ∷ l) = ap (λ (r : List ℕ). write (item_of f) ++ r) (items-bytes write l)

module _ (E : Edition Item) where
  -- A record is its items and their trailer.
  pub written-items : (letter : ℕ) (l : List Operation) → written_in E letter l ≡ framed E letter (map item_of l)
  unfolding written_in framed
  written-items letter l =
      ap₂ (λ (b : List ℕ) (n : ℕ). b ++ trailer_bytes E.width E.number letter n) (sym (items-bytes E.write l)) (sym (length-map l item_of))

  -- Its length goes by the number of operations.
  pub written-in-length : (letter : ℕ) (l : List Operation) → length (written_in E letter l) ≡ total_length E.width (length l)
  written-in-length letter l = ap length (written-items letter l) ∙ framed-length E letter (map item_of l) ∙ ap (total_length E.width) (length-map l item_of)

  pub record-in-length : (letter : ℕ) (c : Centering) (l : List Operation) → length (record_in E letter c l) ≡ total_length E.width (length l)
  unfolding record_in
  record-in-length letter c l = written-in-length letter (listed_form c l) ∙ ap (total_length E.width) (form-length c l)

  module _ (ranged : (i : Item) → InRange i → E.Fits i) where
    -- Operations in the listed form can be said.
    pub form-fits : (c : Centering) (l : List Operation) → Form c l → (i : Item) → Mem i (map item_of l) → E.Fits i
    form-fits c l F i m =
        let (f, k, e) = mem-of-map item_of l m in
        rw (← e) (ranged (item_of f) (code_lt f.rotation ((digits-entries f.rotation).1 (F.entries f k)), (F.smallest f k).below))

    -- So equal bytes have one letter's byte and the same operations.
    pub written-injective : (a b : ℕ) (c d : Centering) (l k : List Operation) → Form c l → Form d k → written_in E a l ≡ written_in E b k → (a ≡ b) × (l ≡ k)
    written-injective a b c d l k F K e =
        let (p, q) =
        framed-injective E a b (map item_of l) (map item_of k) (form-fits c l F) (form-fits d k K) (sym (written-items a l) ∙ e ∙ written-items b k) in
        (p, sym (operations-of-items l F.entries) ∙ ap (map operation_of_item) q ∙ operations-of-items k K.entries)

-- A record's length by its edition,
pub record-by-length : (edition : Known) (c : Centering) (l : List Operation) → length (record_by edition c l) ≡ total_length (width_in edition) (length l)
unfolding record_by
record-by-length edition c l = record-in-length (edition_of edition) (byte_of c) c l

-- and in edition 1.
pub record-length : (c : Centering) (l : List Operation) → length (record_of c l) ≡ total_length item_width (length l)
unfolding record_of
record-length c l = record-in-length first_edition (byte_of c) c l

-- ---- what a set of motions tells

-- The pure translations of a listing that holds the identity are L.
pub pure-translations : (c : Centering) {l : List Operation} → Listing l → Mem identity_operation l → (v : Vector)
    → InSet c (map motion_of l) (translation_by v) ↔ InLattice (points_of c) v
unfolding motion_of
pure-translations c {l} L one v = (forth, back)
  where
    here-identity : (g : Operation) → Mem g l → matrix_of g.rotation ≡ unit → motion_of g ≡ identity
    here-identity g m e =
        let unit-matrix : matrix_of identity_operation.rotation ≡ unit = ap (λ (f : SpaceMotion). f.rotation) identity-motion in
        let same =
        told-by-rotation L m one
        (matrix-injective g.rotation identity_operation.rotation (L.entries g m) (L.entries identity_operation one) (e ∙ sym unit-matrix)) in
        ap motion_of same ∙ identity-motion

    near : (k : SpaceMotion) → k ≡ identity → Congruent (points_of c) v k.translation → InLattice (points_of c) v
    near k e h = rw (less-origin v) at (rw e at h)

    at-identity : (g : Operation) (k : SpaceMotion) → Mem g l → motion_of g ≡ k → unit ≡ k.rotation → k ≡ identity
    at-identity g k m e p = sym e ∙ here-identity g m (ap (λ (f : SpaceMotion). f.rotation) e ∙ sym p)

    forth : InSet c (map motion_of l) (translation_by v) → InLattice (points_of c) v
    forth (k, h, (p, q)) = let (g, m, e) = mem-of-map motion_of l h in near k (at-identity g k m e p) q

    back : InLattice (points_of c) v → InSet c (map motion_of l) (translation_by v)
    back h = (identity, mem-cast (sym identity-motion) (mem-map motion_of one), (refl, rw (less-origin v) h))

-- Every listed operation, in its smallest form, is told by the set.
same-forms : (c : Centering) {l k : List Operation} → Listing l → Listing k → ((m : SpaceMotion) → InSet c (map motion_of l) m → InSet c (map motion_of k) m)
    → (f : Operation) → Mem f (listed_form c l) → Mem f (listed_form c k)
same-forms c {l} {k} L K into f m =
    let (g, n, e) = form-member c l m in
    let (a, h, near) = into (motion_of g) (motion_of g, mem-map motion_of n, alike-reflexive c (motion_of g)) in
    let (b, o, q) = mem-of-map motion_of k h in
    mem-cast (sym e ∙ alike-smallest c g b (L.entries g n) (K.entries b o) (cast g a b q near)) (member-form c k o)
  where
    cast : (g : Operation) (a : SpaceMotion) (b : Operation) → motion_of b ≡ a → Alike c (motion_of g) a → Alike c (motion_of g) (motion_of b)
    cast g a b q near = rw q near

-- Equal letters and lists have one set.
set-cast : (c d : Centering) (l k : List Operation) (m : SpaceMotion) → c ≡ d → l ≡ k → InSet c (map motion_of l) m → InSet d (map motion_of k) m
set-cast c d l k m p q h = subst (λ e. InSet e (map motion_of k) m) p (subst (λ a. InSet c (map motion_of a) m) q h)

-- Records of one edition are equal byte for byte exactly when the sets of motions are: under letters of which equal bytes mean equal lattices, and back.
pub one-record-in : (E : Edition Item) → ((i : Item) → InRange i → E.Fits i) → (a b : ℕ) (c d : Centering) (l k : List Operation) → (a ≡ b → c ≡ d)
    → (c ≡ d → a ≡ b)
    → Listing l → Listing k → Mem identity_operation l → Mem identity_operation k
    → (record_in E a c l ≡ record_in E b d k) ↔ ((m : SpaceMotion) → InSet c (map motion_of l) m ↔ InSet d (map motion_of k) m)
unfolding record_in
one-record-in E ranged a b c d l k told apart L K i j = (forth, back)
  where
    forth : written_in E a (listed_form c l) ≡ written_in E b (listed_form d k) → (m : SpaceMotion) → InSet c (map motion_of l) m ↔ InSet d (map motion_of k) m
    forth e m =
        let (same, q) = written-injective E ranged a b c d (listed_form c l) (listed_form d k) (listed-form c L) (listed-form d K) e in
        let p = told same in (
          (λ h. (form-set d k m).0 (set-cast c d (listed_form c l) (listed_form d k) m p q ((form-set c l m).1 h))),
          λ h. (form-set c l m).0 (set-cast d c (listed_form d k) (listed_form c l) m (sym p) (sym q) ((form-set d k m).1 h)),
        )

    letters : ((m : SpaceMotion) → InSet c (map motion_of l) m ↔ InSet d (map motion_of k) m) → c ≡ d
    letters same =
        lattice-injective c d (λ v. (
          (λ h. (pure-translations d K j v).0 ((same (translation_by v)).0 ((pure-translations c L i v).1 h))),
          λ h. (pure-translations c L i v).0 ((same (translation_by v)).1 ((pure-translations d K j v).1 h)),
        ))

    forms : (e : Centering) → ((m : SpaceMotion) → InSet c (map motion_of l) m ↔ InSet e (map motion_of k) m) → c ≡ e → listed_form c l ≡ listed_form e k
    forms e same p =
        let here-same : (m : SpaceMotion) → InSet c (map motion_of l) m ↔ InSet c (map motion_of k) m = λ m. (
          (λ h. set-cast e c k k m (sym p) refl ((same m).0 h)),
          λ h. (same m).1 (set-cast c e k k m p refl h),
        ) in
        unique CodeBefore (key-strict code_key) (listed-form c L).ascend (listed-form c K).ascend
        (same-forms c L K (λ m. (here-same m).0)) (same-forms c K L (λ m. (here-same m).1))
        ∙ ap (λ (x : Centering). listed_form x k) p

    back : ((m : SpaceMotion) → InSet c (map motion_of l) m ↔ InSet d (map motion_of k) m) → written_in E a (listed_form c l) ≡ written_in E b (listed_form d k)
    back same = ap₂ (written_in E) (apart (letters same)) (forms d same (letters same))

-- Records of an edition are equal byte for byte exactly when the sets of motions are;
pub one-record-by : (edition : Known) (c d : Centering) (l k : List Operation) → Listing l → Listing k → Mem identity_operation l → Mem identity_operation k
    → (record_by edition c l ≡ record_by edition d k) ↔ ((m : SpaceMotion) → InSet c (map motion_of l) m ↔ InSet d (map motion_of k) m)
unfolding record_by
one-record-by edition c d l k L K i j =
    one-record-in (edition_of edition) (known-range edition) (byte_of c) (byte_of d) c d l k (byte-injective c d) (ap byte_of) L K i j

-- in edition 1 too.
pub one-record : (c d : Centering) (l k : List Operation) → Listing l → Listing k → Mem identity_operation l → Mem identity_operation k
    → (record_of c l ≡ record_of d k) ↔ ((m : SpaceMotion) → InSet c (map motion_of l) m ↔ InSet d (map motion_of k) m)
unfolding record_of record_by
one-record c d l k L K i j = one-record-by First c d l k L K i j
