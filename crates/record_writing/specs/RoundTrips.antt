-- What was written reads back as the same group, and what was read is written as the
-- same bytes. Both follow from the rules of the reading and from the listed form.
use Rattle.std.specs.Prelude.{◌≡◌, refl, ◌↔◌, Bool, ℕ, ◌-◌, ◌≤◌, length, take, replicate, drop}
use Rattle.std.proofs.Common.{sym, ◌∙◌, subst, ap₂, arith, length-append, take_at, drop_at, length-take-le}
use Rattle.std.proofs.Math.Path.{ap}
use mathlib.Core.List.Memᴰ.{cast as mem-cast}
use mathlib.Core.List.Memᴰ.{map as mem-map}
use mathlib.Core.List.Memᴰ.{of_map as mem-of-map}
use mathlib.Core.List.{List, ◌++◌, map, Memᴰ as Mem}
use Rattle.std.proofs.lemmas.List.{length-map}
use Rattle.laws.specs.Motion.{SpaceMotion, compose}
use Rattle.operation.specs.Composed.{identity-motion}
use Rattle.operation.specs.Meaning.{motion_of}
use Rattle.operation.specs.Product.{identity_operation}
use Rattle.operation.specs.declared.Operation.{Operation}
use Rattle.centering.specs.declared.Centering.{Centering}
use Rattle.group_record.specs.Items.{Bytes}
use Rattle.group_record.specs.OperationItems.{item_of, operation_of_item}
use Rattle.group_record.specs.declared.items.Item.{Item}
use Rattle.group_record.specs.BothEditions.{edition_of, width_in}
use Rattle.group_record.specs.Record.{total_length, smallest_operation, listed_form, written_in, record_in, signed_record, record_of}
use Rattle.group_record.specs.Rules.{Told, holds, told_by}
use Rattle.group_record.specs.Rules.{refused as not-held}
use Rattle.group_record.specs.Reading.{GroupReading, rules_of, both_reading, both_rules, group_of, read_of, accepted_group, refused_group, slots}
use Rattle.group_record.specs.Groups.{Alike, InSet, Allowed, Listing, Form}
use Rattle.group_record.specs.ListedForm.{form-member, member-form, form-length, listed-form, form-listing, form-again, alike-symmetric, alike-transitive, smallest-alike}
use Rattle.group_record.specs.OneRecord.{operations-of-items, record-in-length}
use Rattle.group_record.specs.Signs.{is_small, lattice_of, letter_byte, sign_byte, sign-told, LayersIf}
use Rattle.record_writing.specs.Copying.{group_bytes}
use Rattle.group_record.specs.GroupLaws.{SpaceGroup, allowed-group, compose-alike, identity-listed}
use Rattle.group_record.specs.ReadingTests.{origin-smallest}
use Rattle.group_record.specs.Acceptance.{Holds, Tells, tells-exactly, holds-told}
use Rattle.group_record.specs.declared.Edition.{Edition as Known}
use Rattle.group_record.specs.declared.Edition.TheVariants.{First}
use Rattle.group_record.specs.declared.Reading.TheVariants.{Accepted, Refused}
use Rattle.group_record.specs.declared.RecordGroup.{RecordGroup}
use Rattle.group_record.specs.declared.sign.Sign.{Sign}
use Rattle.group_record.specs.declared.sign.Sign.TheVariants.{Plain}

accepted-says : (edition : Known) (s : Sign) (l : List Operation) → (accepted_group edition s l).answer ≡ Accepted
unfolding accepted_group
accepted-says edition s l = refl

-- ---- allowed operations stay allowed in the listed form
module _ (c : Centering) {l : List Operation} (L : Listing l) (A : Allowed c (map motion_of l)) where
  -- A listed motion is alike to one of the listed form, and the other way round.
  into-form : (a : SpaceMotion) → Mem a (map motion_of l) → (b : SpaceMotion) × Mem b (map motion_of (listed_form c l)) × Alike c a b
  into-form a m =
      let (f, k, e) = mem-of-map motion_of l m in (
        motion_of (smallest_operation c f),
        mem-map motion_of (member-form c l k),
        subst (λ b. Alike c b (motion_of (smallest_operation c f))) e (alike-symmetric c (motion_of (smallest_operation c f)) (motion_of f)
            (smallest-alike c f)),
      )

  out-of-form : (a : SpaceMotion) → Mem a (map motion_of (listed_form c l)) → (b : SpaceMotion) × Mem b (map motion_of l) × Alike c a b
  out-of-form a m =
      let (f, k, e) = mem-of-map motion_of (listed_form c l) m in
      let (g, n, q) = form-member c l k in
      (motion_of g, mem-map motion_of n, subst (λ b. Alike c b (motion_of g)) (ap motion_of q ∙ e) (smallest-alike c g))

  pub form-allowed : Allowed c (map motion_of (listed_form c l))
  unfolding smallest_operation
  form-allowed =
      record {
        count = rw (length-map (listed_form c l) motion_of, form-length c l) (rw (length-map l motion_of) at A.count);
        determinant = λ a m. let (b, k, p) = out-of-form a m in rw p.0 (A.determinant b k);
        keeps = λ a m. let (b, k, p) = out-of-form a m in rw p.0 (A.keeps b k);
        holds-identity = mem-cast (sym identity-motion) (mem-map motion_of (mem-cast (sym unchanged) (member-form c l (identity-listed L A.holds-identity))));
        product = products;
      }
    where
      unchanged : smallest_operation c identity_operation ≡ identity_operation
      unchanged = ap (λ t. record { rotation = identity_operation.rotation; translation = t }) (origin-smallest c)

      products : (f g : SpaceMotion) → Mem f (map motion_of (listed_form c l)) → Mem g (map motion_of (listed_form c l))
          → (h : SpaceMotion) × Mem h (map motion_of (listed_form c l)) × Alike c (compose f g) h
      products f g m k =
          let (a, n, p) = out-of-form f m in
          let (b, o, q) = out-of-form g k in
          let (h, r, s) = A.product a b n o in
          let (j, t, u) = into-form h r in (
            j,
            t,
            alike-transitive c (compose f g) h j
                (alike-transitive c (compose f g) (compose a b) h (compose-alike c f a g b (rw p.0 (A.keeps a n).0) p q) s) u,
          )

-- ---- there and back, for any reading of groups
module _ {Sign Kind : Type 0} (G : GroupReading Sign Kind) where
  -- What was written is told, wherever it stands at the end of a buffer of bytes; and it is the same group.
  pub tells-back : (k : Kind) (c : Sign) {l : List Operation} → Listing l → Allowed (G.lattice c) (map motion_of l) → G.Further c (listed_form (G.lattice c) l)
      → (front : List ℕ)
      → told_by (rules_of G) (front ++ record_in (G.edition k) (G.byte c) (G.lattice c) l) ≡ holds k c (map item_of (listed_form (G.lattice c) l))
  unfolding record_in
  tells-back k c {l} L A further front =
      holds-told G _ k c (listed_form (G.lattice c) l) (record {
        front = front;
        same_bytes = refl;
        form = listed-form (G.lattice c) L;
        allowed = form-allowed (G.lattice c) L A;
        further = further;
      })

  -- What is told is written as the bytes that it was read from: those of a record, and of a group.
  pub record Again (bytes : List ℕ) (k : Kind) (c : Sign) (l : List Operation) : Type 0 where
    pub front : List ℕ
    pub same_bytes : bytes ≡ front ++ record_in (G.edition k) (G.byte c) (G.lattice c) l
    pub form : Form (G.lattice c) l
    pub allowed : Allowed (G.lattice c) (map motion_of l)
    pub further : G.Further c l
    pub group : SpaceGroup (G.lattice c) (InSet (G.lattice c) (map motion_of l))

  pub holds-again : (bytes : List ℕ) (k : Kind) (c : Sign) (l : List Operation) → Holds G bytes k c l → Again bytes k c l
  unfolding record_in
  holds-again bytes k c l h =
      record {
        front = h.front;
        same_bytes =
            h.same_bytes ∙ ap (λ (m : List Operation). h.front ++ written_in (G.edition k) (G.byte c) m) (sym (form-again (G.lattice c) h.form));
        form = h.form;
        allowed = h.allowed;
        further = h.further;
        group = allowed-group (G.lattice c) (form-listing (G.lattice c) h.form) h.allowed;
      }

-- ---- editions 1 and 3
-- What was written reads back, wherever it stands at the end of a buffer; and it is the same group.
pub reads-back-in : (edition : Known) (s : Sign) {l : List Operation} → Listing l → Allowed (lattice_of s) (map motion_of l)
    → LayersIf (is_small s) (listed_form (lattice_of s) l) → (front : List ℕ)
    → read_of (front ++ signed_record edition s l) ≡ accepted_group edition s (listed_form (lattice_of s) l)
unfolding read_of signed_record
reads-back-in edition s {l} L A layers front =
    ap group_of (tells-back both_reading edition s L A layers front)
    ∙ ap (accepted_group edition s) (operations-of-items (listed_form (lattice_of s) l) (listed-form (lattice_of s) L).entries)

-- In edition 1, under a lattice's letter.
pub reads-back : (c : Centering) {l : List Operation} → Listing l → Allowed c (map motion_of l) → (front : List ℕ)
    → read_of (front ++ record_of c l) ≡ accepted_group First (Plain c) (listed_form c l)
unfolding signed_record record_of
reads-back c L A front = reads-back-in First (Plain c) L A tt front

-- ---- what was read
-- What is read is the record of a group, under a small letter one of a layer, and is written as the bytes it was read from.
pub record Reads (bytes : List ℕ) (edition : Known) (layer : Bool) (c : Centering) (l : List Operation) : Type 0 where
  pub front : List ℕ
  pub same_bytes : bytes ≡ front ++ record_in (edition_of edition) (letter_byte layer c) c l
  pub form : Form c l
  pub allowed : Allowed c (map motion_of l)
  pub layers : LayersIf layer l
  pub group : SpaceGroup c (InSet c (map motion_of l))

pub written-again : (bytes : List ℕ) → Bytes bytes → (read_of bytes).answer ≡ Accepted
    → Reads bytes (read_of bytes).edition (read_of bytes).layer (read_of bytes).centering (take (read_of bytes).count (read_of bytes).operations)
unfolding read_of refused_group accepted_group slots
written-again bytes g e = by (told_by both_rules bytes) refl e
  where
    by : (t : Told Item Sign Known) → told_by both_rules bytes ≡ t → (group_of t).answer ≡ Accepted
        → Reads bytes (group_of t).edition (group_of t).layer (group_of t).centering (take (group_of t).count (group_of t).operations)
    by (not-held r) p a = let z : ◌≡◌ {A = ℕ} 0 1 = cc in absurd (omega arith)
    by (holds k s items) p a =
        let l = map operation_of_item items in
        let again = holds-again both_reading bytes k s l ((tells-exactly both_reading bytes g k s l).0 (items, p, refl)) in
        rw (take_at l (replicate (48 - length l) identity_operation) (length l) refl)
        (record {
          front = again.front;
          same_bytes = again.same_bytes;
          form = again.form;
          allowed = again.allowed;
          layers = again.further;
          group = again.group;
        })

-- ---- what the writer is asked
-- Operations that may be written: at most 48, there, and a listing.
pub record Writable (g : RecordGroup) : Type 0 where
  pub few : g.count ≤ 48
  pub there : g.count ≤ length g.operations
  pub listing : Listing (take g.count g.operations)

-- What was read may be written.
pub read-writable : (bytes : List ℕ) (g : RecordGroup) → Bytes bytes → g ≡ read_of bytes → g.answer ≡ Accepted → Writable g
unfolding read_of refused_group accepted_group slots
read-writable bytes g b e a = subst Writable (sym e) (by (told_by both_rules bytes) refl (ap (λ (h : RecordGroup). h.answer) (sym e) ∙ a))
  where
    by : (t : Told Item Sign Known) → told_by both_rules bytes ≡ t → (group_of t).answer ≡ Accepted → Writable (group_of t)
    by (not-held r) p q = let z : ◌≡◌ {A = ℕ} 0 1 = cc in absurd (omega arith)
    by (holds k s items) p q =
        let l = map operation_of_item items in
        let h = (tells-exactly both_reading bytes b k s l).0 (items, p, refl) in
        let size = length-append l (replicate (48 - length l) identity_operation) in
        record {
          few = rw (length-map l motion_of) at h.allowed.count.1;
          there = omega (arith, size);
          listing = rw (take_at l (replicate (48 - length l) identity_operation) (length l) refl) (form-listing (lattice_of s) h.form);
        }

-- ---- acceptance
-- The answer says its edition, its letter and its list: two accepted answers that are equal hold the same.
pub accepted-injective : (a b : Known) (s t : Sign) (l k : List Operation) → accepted_group a s l ≡ accepted_group b t k → (a ≡ b) × (s ≡ t) × (l ≡ k)
unfolding accepted_group slots
accepted-injective a b s t l k e = (
  ap (λ (g : RecordGroup). g.edition) e,
  sign-told s t (ap (λ (g : RecordGroup). g.layer) e) (ap (λ (g : RecordGroup). g.centering) e),
  sym (take_at l (replicate (48 - length l) identity_operation) (length l) refl)
      ∙ ap (λ (g : RecordGroup). take g.count g.operations) e
      ∙ take_at k (replicate (48 - length k) identity_operation) (length k) refl,
)

-- What is read as a group are the operations that are told.
accepted-tells : (bytes : List ℕ) (edition : Known) (s : Sign) (l : List Operation) → read_of bytes ≡ accepted_group edition s l
    → Tells both_reading bytes edition s l
unfolding read_of refused_group
accepted-tells bytes edition s l e = by (told_by both_rules bytes) refl e
  where
    by : (t : Told Item Sign Known) → told_by both_rules bytes ≡ t → group_of t ≡ accepted_group edition s l → Tells both_reading bytes edition s l
    by (not-held r) p q =
        let clash : Refused r ≡ Accepted = ap (λ (g : RecordGroup). g.answer) q ∙ accepted-says edition s l in
        let z : ◌≡◌ {A = ℕ} 0 1 = cc in
        absurd (omega arith)
    by (holds k t items) p q =
        let (same-edition, same-letter, same-list) = accepted-injective k edition t s (map operation_of_item items) l q in
        (items, p ∙ ap₂ (λ (j : Known) (a : Sign). holds j a items) same-edition same-letter, same-list)

-- A buffer is read as a group exactly if it ends with the record of allowed operations in the listed form, under a small letter all of a layer.
pub accepted-exactly : (bytes : List ℕ) → Bytes bytes → (edition : Known) (s : Sign) (l : List Operation)
    → (read_of bytes ≡ accepted_group edition s l)
    ↔ ((front : List ℕ) × (bytes ≡ front ++ written_in (edition_of edition) (sign_byte s) l) × Form (lattice_of s) l × Allowed (lattice_of s) (map motion_of l)
    × LayersIf (is_small s) l)
unfolding read_of
accepted-exactly bytes g edition s l = (
  (λ e. let h = (tells-exactly both_reading bytes g edition s l).0 (accepted-tells bytes edition s l e) in
      (h.front, h.same_bytes, h.form, h.allowed, h.further)),
  λ (front, e, form, A, layers).
      let (items, p, q) =
      (tells-exactly both_reading bytes g edition s l).1 (record { front = front; same_bytes = e; form = form; allowed = A; further = layers }) in
      ap group_of p ∙ ap (accepted_group edition s) q,
)

-- A copy's bytes are those that were read: the last ones of the buffer.
pub copied-bytes : (bytes : List ℕ) → Bytes bytes → (read_of bytes).answer ≡ Accepted
    → group_bytes (read_of bytes).edition (read_of bytes) ≡ drop (length bytes - total_length (width_in (read_of bytes).edition) (read_of bytes).count) bytes
copied-bytes bytes g e =
    let edition = (read_of bytes).edition in
    let n = (read_of bytes).count in
    let written = group_bytes edition (read_of bytes) in
    let r = written-again bytes g e in
    let few = length-take-le n (read_of bytes).operations (read-writable bytes (read_of bytes) g refl e).there in
    let size : length written ≡ total_length (width_in edition) n =
    record-in-length (edition_of edition) _ _ (take n (read_of bytes).operations) ∙ ap (total_length (width_in edition)) few in
    let place : length r.front ≡ length bytes - total_length (width_in edition) n =
    omega (arith, size, length-append r.front written, ap length r.same_bytes) in
    sym (ap (drop (length bytes - total_length (width_in edition) n)) r.same_bytes
    ∙ drop_at r.front written (length bytes - total_length (width_in edition) n) place)
