-- Records of magnetic symbols: what is answered for accepted generators with flags may be written, its record is read, and two have one record exactly if
-- their sets of flagged motions are equal. All of it follows from what is listed for accepted generators.
use Rattle.std.specs.Prelude.{◌≡◌, refl, ◌↔◌, ℕ, length}
use Rattle.std.proofs.Common.{sym, ◌∙◌, ap, ap₂, subst, arith}
use mathlib.Core.List.Memᴰ.{cast as mem-cast}
use mathlib.Core.List.Memᴰ.{head as here}
use mathlib.Core.List.Memᴰ.{map as mem-map}
use mathlib.Core.List.Memᴰ.{of_map as mem-of-map}
use mathlib.Core.List.{List, ◌++◌, map, Memᴰ as Mem}
use Rattle.std.proofs.lemmas.List.{length-map}
use Rattle.laws.specs.LatticeMaps.{MapsInto, MapsOnto, onto-unimodular}
use Rattle.laws.specs.Sorted.{sort-length}
use Rattle.group_growth.specs.Flagged.{xor, Flagged, flagged≡, held, image_flagged}
use Rattle.operation.specs.Composed.{identity-motion}
use Rattle.operation.specs.Meaning.{motion_of}
use Rattle.operation.specs.Product.{identity_operation}
use Rattle.operation.specs.declared.Operation.{Operation}
use Rattle.centering.specs.Letters.{byte_of, points_of}
use Rattle.centering.specs.Lattices.{points}
use Rattle.centering.specs.declared.Centering.{Centering}
use Rattle.group_record.specs.Editions.{total_length, framed-length}
use Rattle.group_record.specs.Rules.{holds, told_by}
use Rattle.group_record.specs.ListedForm.{alike-symmetric}
use Rattle.group_record.specs.GroupLaws.{compose-alike}
use Rattle.magnetic_group.specs.Acceptance.{MagneticAccepted}
use Rattle.magnetic_group.specs.Members.{identity-first, at-most-96, own_pair, pair-generated, pairs-once, product-member, member-keeps}
use Rattle.magnetic_group.specs.SetOfMotions.{InFlaggedSet, set-exactly}
use Rattle.magnetic_record.specs.SecondEdition.{second_edition}
use Rattle.magnetic_record.specs.Reading.{magnetic_rules}
use Rattle.magnetic_record.specs.Groups.{FlaggedMotion, compose_flagged, Near, InMagneticSet, MagneticAllowed, flagged_motion, motions_of}
use Rattle.magnetic_record.specs.Record.{smallest_item, key_before, magnetic_form, magnetic_record}
use Rattle.magnetic_record.specs.RoundTrips.{magnetic-reads-back}
use Rattle.magnetic_record.specs.OneRecord.{MagneticListing, in-form, to-form, item-near, near-transitive, form-identity, form-good, magnetic-records-say-sets}

-- ---- allowed operations stay allowed in the listed form
pub form-length : (c : Centering) (l : List (Flagged Operation)) → length (magnetic_form c l) ≡ length l
unfolding magnetic_form
form-length c l = sort-length key_before (map (smallest_item c) l) ∙ length-map l (smallest_item c)

-- How long a record is.
pub record-size : (c : Centering) (l : List (Flagged Operation)) → length (magnetic_record c l) ≡ total_length 6 (length l)
unfolding magnetic_record
record-size c l = framed-length second_edition (byte_of c) (magnetic_form c l) ∙ ap (total_length 6) (form-length c l)

module _ (c : Centering) (l : List (Flagged Operation)) (L : MagneticListing l) (one : Mem (held identity_operation) l)
    (A : MagneticAllowed c (map (image_flagged motion_of) l)) where
  abbrev listed : List FlaggedMotion
  listed = map (image_flagged motion_of) l

  -- A listed flagged motion is near one of the form, and the other way round.
  into-form : (a : FlaggedMotion) → Mem a listed → (b : FlaggedMotion) × Mem b (motions_of (magnetic_form c l)) × Near c a b
  into-form a m =
      let (f, k, e) = mem-of-map (image_flagged motion_of) l m in
      let (p, q) = item-near c f (L.entries f k) in
      let b = flagged_motion (smallest_item c f) in
      (b, mem-map flagged_motion (to-form c l f k), subst (λ (x : FlaggedMotion). Near c x b) e (sym p, alike-symmetric c _ _ q))

  out-of-form : (a : FlaggedMotion) → Mem a (motions_of (magnetic_form c l)) → (b : FlaggedMotion) × Mem b listed × Near c a b
  out-of-form a m =
      let (i, k, e) = mem-of-map flagged_motion (magnetic_form c l) m in
      let (f, n, q) = in-form c l i k in
      let beside = subst (λ (x : FlaggedMotion). Near c x (image_flagged motion_of f)) (ap flagged_motion q ∙ e) (item-near c f (L.entries f n)) in
      (image_flagged motion_of f, mem-map (image_flagged motion_of) n, beside)

  pub form-allowed : MagneticAllowed c (motions_of (magnetic_form c l))
  form-allowed =
      record {
        count = rw (length-map (magnetic_form c l) flagged_motion, form-length c l) (rw (length-map l (image_flagged motion_of)) at A.count);
        determinant = λ a m. let (b, k, p) = out-of-form a m in rw p.1.0 (A.determinant b k);
        keeps = λ a m. let (b, k, p) = out-of-form a m in rw p.1.0 (A.keeps b k);
        holds-identity = form-identity c l one;
        product = products;
      }
    where
      products : (f g : FlaggedMotion) → Mem f (motions_of (magnetic_form c l)) → Mem g (motions_of (magnetic_form c l))
          → (h : FlaggedMotion) × Mem h (motions_of (magnetic_form c l)) × Near c (compose_flagged f g) h
      products f g m k =
          let (a, n, (p, near)) = out-of-form f m in
          let (b, o, (q, far)) = out-of-form g k in
          let (h, r, s) = A.product a b n o in
          let (j, t, u) = into-form h r in
          let maps : MapsInto (points_of c) f.element.rotation = rw near.0 (A.keeps a n).0 in
          let alike = compose-alike c f.element a.element g.element b.element maps near far in
          let first : Near c (compose_flagged f g) (compose_flagged a b) = (ap₂ xor p q, alike) in
          (j, t, near-transitive c (compose_flagged f g) h j (near-transitive c (compose_flagged f g) (compose_flagged a b) h first s) u)

-- ---- accepted generators
module _ (c : Centering) (gens operations : List (Flagged Operation)) (steps : List ℕ) (A : MagneticAccepted c gens operations steps) where
  -- Entries are in −1..1, and each rotation is there at most once with and once without the flag.
  pub accepted-listing : MagneticListing operations
  accepted-listing =
      record {
        entries = λ f m. A.small (own_pair c gens operations steps A f) (pair-generated c gens operations steps A f m);
        distinct = pairs-once c gens operations steps A;
      }

  pub accepted-identity : Mem (held identity_operation) operations
  accepted-identity = let (rest, e) = identity-first c gens operations steps A in rw e (here refl)

  keeps-listed : (f : FlaggedMotion) → Mem f (map (image_flagged motion_of) operations) → MapsOnto (points_of c) f.element.rotation
  keeps-listed f m = let (o, k, e) = mem-of-map (image_flagged motion_of) operations m in rw (← e) (member-keeps c gens operations steps A o k)

  -- So they are allowed in a record.
  pub accepted-allowed : MagneticAllowed c (map (image_flagged motion_of) operations)
  accepted-allowed =
      let (rest, first) = identity-first c gens operations steps A in
      let size = length-map operations (image_flagged motion_of) in
      record {
        count = (omega (arith, size, ap length first), omega (arith, size, at-most-96 c gens operations steps A));
        determinant = λ f m. onto-unimodular (points_of c) (points c) f.element.rotation (keeps-listed f m);
        keeps = keeps-listed;
        holds-identity = mem-cast (sym (flagged≡ _ _ identity-motion refl)) (mem-map (image_flagged motion_of) accepted-identity);
        product = λ f g m k.
            let (o, n, p) = mem-of-map (image_flagged motion_of) operations m in
            let (r, t, q) = mem-of-map (image_flagged motion_of) operations k in
            let (h, u, near) = product-member c gens operations steps A o r n t in
            rw (← p, ← q) (image_flagged motion_of h, mem-map (image_flagged motion_of) u, near);
      }

  -- The record of accepted generators is read, wherever it stands at the end of a buffer.
  pub symbol-record-read : (front : List ℕ) → told_by magnetic_rules (front ++ magnetic_record c operations) ≡ holds tt c (magnetic_form c operations)
  unfolding magnetic_record
  symbol-record-read front =
      let allowed = form-allowed c operations accepted-listing accepted-identity accepted-allowed in
      magnetic-reads-back c (magnetic_form c operations) (form-good c operations accepted-listing) allowed front

  -- The set of the generators is that of the list.
  listed-set : (m : FlaggedMotion) → InFlaggedSet c gens m ↔ InMagneticSet c (map (image_flagged motion_of) operations) m
  listed-set m =
      let (forth, back) = set-exactly c gens operations steps A m in (
        (λ s. let (o, k, near) = forth s in (image_flagged motion_of o, mem-map (image_flagged motion_of) k, near)),
        λ (a, k, near). let (o, n, e) = mem-of-map (image_flagged motion_of) operations k in back (o, n, subst (Near c m) (sym e) near),
      )

-- Two accepted symbols have one record exactly if their sets of flagged motions, all finite products of generators and translations by L, are equal.
pub symbols-say-sets : (c d : Centering) (gens others operations answers : List (Flagged Operation)) (steps moves : List ℕ)
    → MagneticAccepted c gens operations steps → MagneticAccepted d others answers moves
    → (magnetic_record c operations ≡ magnetic_record d answers) ↔ ((m : FlaggedMotion) → InFlaggedSet c gens m ↔ InFlaggedSet d others m)
symbols-say-sets c d gens others operations answers steps moves A B =
    let (forth, back) =
    magnetic-records-say-sets c d operations answers (accepted-listing c gens operations steps A) (accepted-listing d others answers moves B)
    (accepted-identity c gens operations steps A) (accepted-identity d others answers moves B) in (
      (λ e m. (
        (λ s. (listed-set d others answers moves B m).1 ((forth e m).0 ((listed-set c gens operations steps A m).0 s))),
        λ s. (listed-set c gens operations steps A m).1 ((forth e m).1 ((listed-set d others answers moves B m).0 s)),
      )),
      λ same. back (λ m. (
        (λ s. (listed-set d others answers moves B m).0 ((same m).0 ((listed-set c gens operations steps A m).1 s))),
        λ s. (listed-set c gens operations steps A m).0 ((same m).1 ((listed-set d others answers moves B m).1 s)),
      )),
    )
