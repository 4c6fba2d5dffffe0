-- Only one record stands for one set of flagged motions: records are equal byte for byte exactly when the sets are.
-- The idea: a set tells L, as its translations without the flag, so the letter; and it tells each item, which is the smallest of its class.
use Rattle.std.specs.Prelude.{◌≡◌, ◌↔◌, Bool, true, false, ◌&&◌, ℕ, ◌+◌, ◌*◌, ◌<◌, ◌≤◌}
use Rattle.std.proofs.Math.Path.{refl, ap, ap₂}
use Rattle.std.proofs.Common.{sym, ◌∙◌, subst, arith, eqb-true, eq-eqb, ne_eqb}
use Rattle.std.proofs.Math.Logic.{∥∥₁_elim}
use mathlib.Core.HLevel.{⊥_prop}
use Rattle.std.proofs.Math.Bool.{◌||◌}
use mathlib.Core.List.Memᴰ.{cast as mem-cast}
use mathlib.Core.List.Memᴰ.{map as mem-map}
use mathlib.Core.List.Memᴰ.{of_map as mem-of-map}
use mathlib.Core.List.Pairwise
use mathlib.Core.List.{List, [], ◌∷◌, map, Memᴰ as Mem, Nodup}
use Rattle.std.proofs.Math.Dec.{eqb, eqb_refl}
use Rattle.laws.specs.Matrix.{Vector}
use Rattle.laws.specs.Motion.{SpaceMotion, identity, translation_by}
use Rattle.laws.specs.Distinct.{has, Distinct, nil, cons, Equivalence, Mem→has, distinct-equal, eqb-equivalence}
use Rattle.laws.specs.Lattice.{InLattice}
use Rattle.laws.specs.Sorted.{Sorted, key-strict, key-decides, key-total, unique, sort-member, member-sort, sort_sorted}
use Rattle.group_growth.specs.Flagged.{same_flag, Flagged, flagged≡, held, image_flagged, same_flagged}
use Rattle.operation.specs.Code.{code_of, code_lt}
use Rattle.operation.specs.Composed.{identity-motion}
use Rattle.operation.specs.Entries.{Entries, digits-entries}
use Rattle.operation.specs.Meaning.{matrix_of, motion_of}
use Rattle.operation.specs.Product.{identity_operation}
use Rattle.operation.specs.declared.Operation.{Operation}
use Rattle.operation.specs.declared.Translation.{Translation}
use Rattle.centering.specs.Letters.{byte_of, points_of}
use Rattle.centering.specs.Lattices.{smallest_of}
use Rattle.centering.specs.LatticeLaws.{Smallest, byte-injective, lattice-injective, smallest-is, smallest-same}
use Rattle.centering.specs.declared.Centering.{Centering}
use Rattle.group_record.specs.Editions.{framed, framed-injective}
use Rattle.group_record.specs.OperationItems.{item_of, operation_of_item}
use Rattle.group_record.specs.Record.{smallest_operation}
use Rattle.group_record.specs.Groups.{Alike, same_code}
use Rattle.group_record.specs.ListedForm.{alike-reflexive, alike-symmetric, alike-transitive, alike-smallest, smallest-alike, form-smallest, form-listing}
use Rattle.group_record.specs.OneRecord.{pure-translations, operation-of-item}
use Rattle.group_record.specs.GroupLaws.{identity-listed}
use Rattle.group_record.specs.ReadingTests.{item-of-operation, identity-entries, origin-smallest}
use Rattle.magnetic_record.specs.SecondEdition.{MagneticItem, magnetic≡, magnetic_key, second_edition}
use Rattle.magnetic_record.specs.Groups.{FlaggedMotion, Near, InMagneticSet, flagged_motion, motions_of}
use Rattle.magnetic_record.specs.Halves.{flag_number, listed-half, GoodMagnetic, half-form, flag-number, number-flag, motion-half}
use Rattle.magnetic_record.specs.Record.{magnetic_item, smallest_item, key_before, magnetic_form, magnetic_record}
use Rattle.magnetic_record.specs.MagneticGroups.{half-set}

-- Good items with the identity have the translations of L without the flag, and no other.
translations-told : (c : Centering) (items : List MagneticItem) → GoodMagnetic c items → Mem (held identity) (motions_of items) → (v : Vector)
    → InMagneticSet c (motions_of items) (held (translation_by v)) ↔ InLattice (points_of c) v
translations-told c items g one v =
    let L = form-listing c (half-form c items g 0) in
    let there = identity-listed L (motion-half items g.flag false identity one) in
    let (into, out) = half-set c items g false (translation_by v) in
    let (told, back) = pure-translations c L there v in
    ((λ m. told (into m)), λ h. out (back h))

-- Under one letter, an item of the one list is an item of the other if its flagged motion is in the other's set.
same_item : (c : Centering) (items others : List MagneticItem) → GoodMagnetic c items → GoodMagnetic c others
    → ((m : FlaggedMotion) → InMagneticSet c (motions_of items) m → InMagneticSet c (motions_of others) m) → (i : MagneticItem) → Mem i items → Mem i others
same_item c items others g h into i m =
    let (a, n, (flag, near)) = into (flagged_motion i) (flagged_motion i, mem-map flagged_motion m, (refl, alike-reflexive c (flagged_motion i).element)) in
    let (j, k, e) = mem-of-map flagged_motion others n in
    let f = operation_of_item i.plain in
    let d = operation_of_item j.plain in
    let F = half-form c items g i.flag in
    let K = half-form c others h j.flag in
    let inside = mem-map operation_of_item (listed-half items i m) in
    let there = mem-map operation_of_item (listed-half others j k) in
    let alike : Alike c (motion_of f) (motion_of d) = subst (λ (b : SpaceMotion). Alike c (motion_of f) b) (sym (ap (λ (x : FlaggedMotion). x.element) e))
    near in
    let same : f ≡ d = sym (form-smallest c F f inside) ∙ alike-smallest c f d (F.entries f inside) (K.entries d there) alike ∙ form-smallest c K d there in
    let plains : i.plain ≡ j.plain = sym (item-of-operation i.plain (g.code i m)) ∙ ap item_of same ∙ item-of-operation j.plain (h.code j k) in
    let truth : eqb i.flag 1 ≡ eqb j.flag 1 = flag ∙ sym (ap (λ (x : FlaggedMotion). x.flag) e) in
    let flags : i.flag ≡ j.flag = sym (flag-number i.flag (g.flag i m)) ∙ ap flag_number truth ∙ flag-number j.flag (h.flag j k) in
    mem-cast (magnetic≡ plains flags) k

-- Records of good items are equal byte for byte exactly when their sets of flagged motions are.
pub one-magnetic-record : (c d : Centering) (items others : List MagneticItem) → GoodMagnetic c items → GoodMagnetic d others
    → Mem (held identity) (motions_of items) → Mem (held identity) (motions_of others)
    → (framed second_edition (byte_of c) items ≡ framed second_edition (byte_of d) others)
    ↔ ((m : FlaggedMotion) → InMagneticSet c (motions_of items) m ↔ InMagneticSet d (motions_of others) m)
one-magnetic-record c d items others g h one other = (forth, back)
  where
    forth : framed second_edition (byte_of c) items ≡ framed second_edition (byte_of d) others
        → (m : FlaggedMotion) → InMagneticSet c (motions_of items) m ↔ InMagneticSet d (motions_of others) m
    forth e m =
        let (letters, lists) = framed-injective second_edition (byte_of c) (byte_of d) items others (λ i k. tt) (λ i k. tt) e in
        let same : InMagneticSet c (motions_of items) m ≡ InMagneticSet d (motions_of others) m =
        ap₂ (λ (x : Centering) (l : List MagneticItem). InMagneticSet x (motions_of l) m) (byte-injective c d letters) lists in
        ((λ s. subst (λ (A : Type 0). A) same s), λ s. subst (λ (A : Type 0). A) (sym same) s)

    letter : ((m : FlaggedMotion) → InMagneticSet c (motions_of items) m ↔ InMagneticSet d (motions_of others) m) → c ≡ d
    letter same =
        lattice-injective c d (λ v. (
          (λ k. (translations-told d others h other v).0 ((same (held (translation_by v))).0 ((translations-told c items g one v).1 k))),
          λ k. (translations-told c items g one v).0 ((same (held (translation_by v))).1 ((translations-told d others h other v).1 k)),
        ))

    lists : (e : Centering) → GoodMagnetic e others → c ≡ e
        → ((m : FlaggedMotion) → InMagneticSet c (motions_of items) m ↔ InMagneticSet e (motions_of others) m) → items ≡ others
    lists e k p same =
        let good : GoodMagnetic c others = subst (λ (x : Centering). GoodMagnetic x others) (sym p) k in
        let here-same : (m : FlaggedMotion) → InMagneticSet c (motions_of items) m ↔ InMagneticSet c (motions_of others) m = λ m. (
          (λ s. subst (λ (x : Centering). InMagneticSet x (motions_of others) m) (sym p) ((same m).0 s)),
          λ s. (same m).1 (subst (λ (x : Centering). InMagneticSet x (motions_of others) m) p s),
        ) in
        unique (λ (i j : MagneticItem). magnetic_key i < magnetic_key j) (key-strict magnetic_key) g.ascend good.ascend
        (same_item c items others g good (λ m. (here-same m).0)) (same_item c others items good g (λ m. (here-same m).1))

    back : ((m : FlaggedMotion) → InMagneticSet c (motions_of items) m ↔ InMagneticSet d (motions_of others) m)
        → framed second_edition (byte_of c) items ≡ framed second_edition (byte_of d) others
    back same = let p = letter same in ap₂ (framed second_edition) (ap byte_of p) (lists d h p same)

-- ---- records of flagged operations in any order
-- Flagged operations with entries in −1..1, each rotation at most once with and once without the flag.
pub record MagneticListing (l : List (Flagged Operation)) : Type 0 where
  pub entries : (f : Flagged Operation) → Mem f l → Entries (matrix_of f.element.rotation)
  pub distinct : Distinct (same_flagged same_code) l

abbrev item_same : MagneticItem → MagneticItem → Bool
item_same i j = eqb (magnetic_key i) (magnetic_key j)

key-equivalence : Equivalence item_same
key-equivalence =
    record {
      reflexive = λ i. eqb-equivalence.reflexive (magnetic_key i);
      symmetric = λ i j. eqb-equivalence.symmetric (magnetic_key i) (magnetic_key j);
      transitive = λ i j k. eqb-equivalence.transitive (magnetic_key i) (magnetic_key j) (magnetic_key k);
    }

-- Numbers that are equal exactly where others are, are told apart as those.
told-alike : (x y u v : ℕ) → (x ≡ y → u ≡ v) → (u ≡ v → x ≡ y) → eqb x y ≡ eqb u v
told-alike x y u v forth back = go (eqb u v) refl (eqb x y) refl
  where
    go : (a : Bool) → eqb u v ≡ a → (b : Bool) → eqb x y ≡ b → b ≡ a
    go true p b q = sym q ∙ eq-eqb x y (back (eqb-true u v p))
    go false p true q = sym (eq-eqb u v (forth (eqb-true x y q))) ∙ p
    go false p false q = refl

-- Keys are equal exactly if codes and flags are.
key-numbers : (a b : ℕ) (m n : Bool) → eqb (2 * a + flag_number m) (2 * b + flag_number n) ≡ same_flag m n && eqb a b
key-numbers a b true true = told-alike (2 * a + 1) (2 * b + 1) a b (λ e. omega arith) (λ e. omega arith)
key-numbers a b true false = ne_eqb (2 * a + 1) (2 * b + 0) (λ e. absurd (omega arith))
key-numbers a b false true = ne_eqb (2 * a + 0) (2 * b + 1) (λ e. absurd (omega arith))
key-numbers a b false false = told-alike (2 * a + 0) (2 * b + 0) a b (λ e. omega arith) (λ e. omega arith)

key-test : (f g : Flagged Operation) → item_same (magnetic_item f) (magnetic_item g) ≡ same_flagged same_code f g
key-test f g = key-numbers (code_of f.element.rotation) (code_of g.element.rotation) f.flag g.flag

-- A list with each key once is a list without repeats.
distinct-nodup : {l : List MagneticItem} → Distinct item_same l → Nodup l
distinct-nodup nil = Pairwise.nil
distinct-nodup (cons {x} {l} new d) = Pairwise.cons (λ y m e. ∥∥₁_elim m ⊥_prop (λ k. new (Mem→has item_same key-equivalence (mem-cast e k))))
    (distinct-nodup d)

module _ (c : Centering) where
  -- The smallest triples change no key.
  smallest-key : (f : Flagged Operation) → magnetic_key (smallest_item c f) ≡ magnetic_key (magnetic_item f)
  unfolding smallest_operation
  smallest-key f = refl

  has-smallest : (f : Flagged Operation) (l : List (Flagged Operation))
      → has item_same (smallest_item c f) (map (smallest_item c) l) ≡ has (same_flagged same_code) f l
  unfolding has
  has-smallest f [] = refl
  has-smallest f (g ∷ l) = ap₂ ◌||◌ (ap₂ eqb (smallest-key f) (smallest-key g) ∙ key-test f g) (has-smallest f l)

  distinct-smallest : {l : List (Flagged Operation)} → Distinct (same_flagged same_code) l → Distinct item_same (map (smallest_item c) l)
  distinct-smallest nil = nil
  distinct-smallest (cons {x} {l} new d) =
      cons {x = smallest_item c x} {l = map (smallest_item c) l} (λ t. new (rw (has-smallest x l) at t)) (distinct-smallest d)

  -- What stands in the form is the smallest item of a listed operation.
  pub in-form : (l : List (Flagged Operation)) (i : MagneticItem) → Mem i (magnetic_form c l) → (f : Flagged Operation) × Mem f l × (smallest_item c f ≡ i)
  unfolding magnetic_form
  in-form l i m = mem-of-map (smallest_item c) l (sort-member key_before (map (smallest_item c) l) m)

  pub to-form : (l : List (Flagged Operation)) (f : Flagged Operation) → Mem f l → Mem (smallest_item c f) (magnetic_form c l)
  unfolding magnetic_form
  to-form l f m = member-sort key_before (map (smallest_item c) l) (mem-map (smallest_item c) m)

  small-code : (f : Flagged Operation) → Entries (matrix_of f.element.rotation) → (smallest_item c f).plain.code < 19683
  unfolding smallest_operation
  small-code f e = code_lt f.element.rotation ((digits-entries f.element.rotation).1 e)

  least : (f : Flagged Operation) → Smallest c (smallest_item c f).plain.translation (smallest_item c f).plain.translation
  unfolding smallest_operation
  least f =
      let t = f.element.translation in
      let once = (smallest-same c (smallest_of c t) t).0 ((smallest-is c t (smallest_of c t)).1 refl).class in
      (smallest-is c (smallest_of c t) (smallest_of c t)).1 (sym once)

  number_small : (b : Bool) → flag_number b ≤ 1
  number_small true = omega arith
  number_small false = omega arith

  ascends : (l : List (Flagged Operation)) → MagneticListing l → Sorted (λ (i j : MagneticItem). magnetic_key i < magnetic_key j) (magnetic_form c l)
  unfolding magnetic_form
  ascends l L =
      let d = distinct-smallest L.distinct in
      let In : MagneticItem → Type 0 = λ i. Mem i (map (smallest_item c) l) in
      let told : (i j : MagneticItem) → In i → In j → magnetic_key i ≡ magnetic_key j → i ≡ j =
      λ i j m k e. distinct-equal item_same key-equivalence d m k (rw e (eqb_refl (magnetic_key j))) in
      sort_sorted (λ (i j : MagneticItem). magnetic_key i < magnetic_key j) In key_before
      (key-decides magnetic_key In) (key-strict magnetic_key) (key-total magnetic_key In told)
      (map (smallest_item c) l) (λ i m. m) (distinct-nodup d)

  -- The form is good.
  pub form-good : (l : List (Flagged Operation)) → MagneticListing l → GoodMagnetic c (magnetic_form c l)
  form-good l L =
      record {
        code = λ i m. let (f, k, e) = in-form l i m in subst (λ (j : MagneticItem). j.plain.code < 19683) e (small-code f (L.entries f k));
        smallest = λ i m. let (f, k, e) = in-form l i m in subst (λ (j : MagneticItem). Smallest c j.plain.translation j.plain.translation) e (least f);
        flag = λ i m. let (f, k, e) = in-form l i m in subst (λ (j : MagneticItem). j.flag ≤ 1) e (number_small f.flag);
        ascend = ascends l L;
      }

  still : (f : Flagged Operation) → Entries (matrix_of f.element.rotation) → Entries (matrix_of (smallest_operation c f.element).rotation)
  unfolding smallest_operation
  still f e = e

  pub near-transitive : (f g h : FlaggedMotion) → Near c f g → Near c g h → Near c f h
  near-transitive f g h (p, q) (r, s) = (p ∙ r, alike-transitive c f.element g.element h.element q s)

  -- The flagged motion of an operation is near that of its smallest item.
  pub item-near : (f : Flagged Operation) → Entries (matrix_of f.element.rotation) → Near c (flagged_motion (smallest_item c f)) (image_flagged motion_of f)
  item-near f e =
      let own = operation-of-item (smallest_operation c f.element) (still f e) in
      (number-flag f.flag, subst (λ (o : Operation). Alike c (motion_of o) (motion_of f.element)) (sym own) (smallest-alike c f.element))

  -- The set of flagged motions stays.
  pub form-set : (l : List (Flagged Operation)) → MagneticListing l → (m : FlaggedMotion)
      → InMagneticSet c (motions_of (magnetic_form c l)) m ↔ InMagneticSet c (map (image_flagged motion_of) l) m
  form-set l L m = (
    (λ (a, n, near).
        let (i, k, e) = mem-of-map flagged_motion (magnetic_form c l) n in
        let (f, o, q) = in-form l i k in
        let beside : Near c a (image_flagged motion_of f) =
        subst (λ (b : FlaggedMotion). Near c b (image_flagged motion_of f)) (ap flagged_motion q ∙ e) (item-near f (L.entries f o)) in
        (image_flagged motion_of f, mem-map (image_flagged motion_of) o, near-transitive m a (image_flagged motion_of f) near beside)),
    λ (a, n, near).
        let (f, o, e) = mem-of-map (image_flagged motion_of) l n in
        let (p, q) = item-near f (L.entries f o) in
        let beside : Near c a (flagged_motion (smallest_item c f)) =
        subst (λ (b : FlaggedMotion). Near c b (flagged_motion (smallest_item c f))) e (sym p, alike-symmetric c _ _ q) in
        (flagged_motion (smallest_item c f), mem-map flagged_motion (to-form l f o), near-transitive m a _ near beside),
  )

  -- The identity's smallest item is its own.
  identity-item : flagged_motion (smallest_item c (held identity_operation)) ≡ held identity
  unfolding smallest_operation
  identity-item =
      let own : smallest_operation c identity_operation ≡ identity_operation =
      ap (λ (t : Translation). record { rotation = identity_operation.rotation; translation = t }) (origin-smallest c) in
      let again = ap (λ (o : Operation). operation_of_item (item_of o)) own ∙ operation-of-item identity_operation identity-entries in
      flagged≡ _ _ (ap motion_of again ∙ identity-motion) refl

  -- The identity stays listed.
  pub form-identity : (l : List (Flagged Operation)) → Mem (held identity_operation) l → Mem (held identity) (motions_of (magnetic_form c l))
  form-identity l m = mem-cast (sym (identity-item)) (mem-map flagged_motion (to-form l (held identity_operation) m))

-- Records of flagged operations are equal byte for byte exactly when their sets of flagged motions are.
pub magnetic-records-say-sets : (c d : Centering) (l k : List (Flagged Operation)) → MagneticListing l → MagneticListing k
    → Mem (held identity_operation) l → Mem (held identity_operation) k
    → (magnetic_record c l ≡ magnetic_record d k)
    ↔ ((m : FlaggedMotion) → InMagneticSet c (map (image_flagged motion_of) l) m ↔ InMagneticSet d (map (image_flagged motion_of) k) m)
unfolding magnetic_record
magnetic-records-say-sets c d l k L K i j =
    let good = form-good c l L in
    let other = form-good d k K in
    let (forth, back) = one-magnetic-record c d (magnetic_form c l) (magnetic_form d k) good other (form-identity c l i) (form-identity d k j) in (
      (λ e m.
          let (into, out) = forth e m in (
            (λ s. (form-set d k K m).0 (into ((form-set c l L m).1 s))),
            λ s. (form-set c l L m).0 (out ((form-set d k K m).1 s)),
          )),
      λ same. back (λ m. (
        (λ s. (form-set d k K m).1 ((same m).0 ((form-set c l L m).0 s))),
        λ s. (form-set c l L m).1 ((same m).1 ((form-set d k K m).0 s)),
      )),
    )
