-- What the reader finds at a buffer's end before the operations are laid out, and which group it stands for.
use Rattle.std.specs.Prelude.{◌≡◌, Bool, ◌&&◌, ℕ, ◌+◌, ◌*◌, ◌-◌, ◌≤◌, length, drop}
use Rattle.std.proofs.Math.Path.{refl, ap}
use Rattle.std.proofs.Common.{sym, ◌∙◌, arith, length-drop}
use Rattle.std.proofs.Math.Bool.{true, false, cond}
use mathlib.Core.List.{List, map}
use Rattle.std.proofs.lemmas.List.{length-map}
use Rattle.centering.specs.declared.Centering.TheVariants.{P}
use Rattle.group_record.specs.Items.{items_in}
use Rattle.group_record.specs.BothEditions.{width_in}
use Rattle.group_record.specs.Reading.{operation_of_item, slots, accepted_group, refused_group, are_items, is_allowed, group_of}
use Rattle.group_record.specs.Rules.{refused, holds, length_fits, items_told}
use Rattle.group_record.specs.Outcomes.{length-test}
use Rattle.group_record.specs.declared.items.Item.{Item}
use Rattle.record_items.specs.Items.{items_of, items-count}
use Rattle.record_items.specs.Rules.{items_there, there-test, rules_answer, items_answer}
use Rattle.record_reading.specs.Trailer.{read_items, good-items}
use Rattle.group_record.specs.declared.Edition.{Edition as Known}
use Rattle.group_record.specs.declared.Edition.TheVariants.{First}
use Rattle.group_record.specs.declared.Refusal.{Refusal}
use Rattle.group_record.specs.declared.Refusal.TheVariants.{WrongItem, NotAllowed}
use Rattle.group_record.specs.declared.Reading.{Reading}
use Rattle.group_record.specs.declared.Reading.TheVariants.{Accepted, Refused}
use Rattle.group_record.specs.Signs.{is_small, lattice_of, layers_if}
use Rattle.group_record.specs.declared.RecordGroup.{RecordGroup}
use Rattle.group_record.specs.declared.sign.Sign.{Sign}
use Rattle.group_record.specs.declared.sign.Sign.TheVariants.{Plain}
use Rattle.record_reading.specs.declared.reader.Found.{Found}

-- What is accepted is not refused, and what is refused has one reason.
accepted-alone : (why : Refusal) → ¬ (Accepted ≡ Refused why)
accepted-alone why e = let z : ◌≡◌ {A = ℕ} 0 1 = cc in absurd (omega arith)

one-reason : (a b : Refusal) → Refused a ≡ Refused b → a ≡ b
one-reason a b e = cc

abbrev pub nothing_found : Refusal → Found
nothing_found why = record { answer = Refused why; edition = First; sign = Plain P; count = 0; start = 0 }

-- An answer with the operations of the first n items.
unfoldable pub laid_out : Reading → Known → Sign → ℕ → List ℕ → RecordGroup
laid_out answer edition s n bytes =
    record {
      answer = answer;
      edition = edition;
      layer = is_small s;
      centering = lattice_of s;
      count = n;
      operations = slots (map operation_of_item (items_of edition n bytes));
    }

-- What was found lies in the buffer, and stands for a group.
pub record Stands (bytes : List ℕ) (f : Found) (g : RecordGroup) : Type 0 where
  pub few : f.count ≤ 48
  pub within : f.start + width_in f.edition * f.count ≤ length bytes
  pub same : laid_out f.answer f.edition f.sign f.count (drop f.start bytes) ≡ g

pub nothing-stands : (bytes : List ℕ) (why : Refusal) → Stands bytes (nothing_found why) (refused_group why)
unfolding laid_out refused_group slots items_in
nothing-stands bytes why = record { few = omega arith; within = omega arith; same = refl }

pub record-stands : (bytes : List ℕ) (edition : Known) (s : Sign) (n start : ℕ) → n ≤ 48 → start + width_in edition * n ≤ length bytes
    → Stands bytes (record { answer = Accepted; edition = edition; sign = s; count = n; start = start })
    (accepted_group edition s (map operation_of_item (items_of edition n (drop start bytes))))
unfolding laid_out accepted_group
record-stands bytes edition s n start few within =
    let items = items_of edition n (drop start bytes) in
    let count : n ≡ length (map operation_of_item items) = sym (length-map items operation_of_item ∙ items-count edition n (drop start bytes)) in
    record {
      few = few;
      within = within;
      same =
          ap
          (λ (k : ℕ).
          record {
            answer = Accepted;
            edition = edition;
            layer = is_small s;
            centering = lattice_of s;
            count = k;
            operations = slots (map operation_of_item items);
          }) count;
    }

pub stands-as : {bytes : List ℕ} {f : Found} {g h : RecordGroup} → Stands bytes f g → h ≡ g → Stands bytes f h
stands-as s e = record { few = s.few; within = s.within; same = s.same ∙ sym e }

pub nothing-found : {bytes : List ℕ} {f : Found} {h : RecordGroup} {why : Refusal} → f ≡ nothing_found why → h ≡ refused_group why → Stands bytes f h
nothing-found {bytes} {f} {h} {why} e r = rw e (stands-as (nothing-stands bytes why) r)

-- ---- 34 and 35
-- What is told by what is answered of the items, and by the rule of layers.
module _ (edition : Known) (s : Sign) (items : List Item) where
  told-refused : (why : Refusal) → rules_answer (lattice_of s) items ≡ Refused why → read_items edition s items ≡ refused_group why
  unfolding items_told rules_answer
  told-refused why e = rw (good-items edition s items) (by (are_items (lattice_of s) items) (is_allowed (lattice_of s) items) e)
    where
      by : (good allowed : Bool) → cond good (cond allowed Accepted (Refused NotAllowed)) (Refused WrongItem) ≡ Refused why
          → group_of (cond good (cond (allowed && layers_if (is_small s) (map operation_of_item items)) (holds edition s items) (refused NotAllowed))
          (refused WrongItem)) ≡ refused_group why
      by true true q = absurd (accepted-alone why q)
      by true false q = ap refused_group (one-reason NotAllowed why q)
      by false allowed q = ap refused_group (one-reason WrongItem why q)

  told-layers : rules_answer (lattice_of s) items ≡ Accepted → (b : Bool) → layers_if (is_small s) (map operation_of_item items) ≡ b
      → read_items edition s items ≡ group_of (cond b (holds edition s items) (refused NotAllowed))
  unfolding items_told rules_answer
  told-layers e b h = rw (good-items edition s items, h) (by (are_items (lattice_of s) items) (is_allowed (lattice_of s) items) e)
    where
      by : (good allowed : Bool) → cond good (cond allowed Accepted (Refused NotAllowed)) (Refused WrongItem) ≡ Accepted
          → group_of (cond good (cond (allowed && b) (holds edition s items) (refused NotAllowed)) (refused WrongItem))
          ≡ group_of (cond b (holds edition s items) (refused NotAllowed))
      by true true q = refl
      by true false q = absurd (accepted-alone NotAllowed (sym q))
      by false allowed q = absurd (accepted-alone WrongItem (sym q))

-- Where count and length fit, the items are there.
pub items-there : (edition : Known) (n stated : ℕ) (bytes part : List ℕ) → part ≡ drop (length bytes - stated) bytes
    → length_fits (width_in edition) 48 n stated (length bytes) ≡ true → items_there edition n part ≡ true
items-there edition n stated bytes part lent fits =
    let (one, few, right, within) = (length-test _ _ _ _ _).0 fits in
    (there-test edition n part).1 (one, few, rw (lent, length-drop) (omega arith))

-- They are tried on the part of the buffer that holds the items.
module _ (edition : Known) (s : Sign) (n : ℕ) (part rest : List ℕ) (lent : part ≡ rest) (there : items_there edition n part ≡ true) where
  -- What was answered of the part, said of the rest of the buffer.
  answer-by : (r : Reading) → items_answer edition (lattice_of s) n part ≡ r → rules_answer (lattice_of s) (items_of edition n rest) ≡ r
  unfolding items_answer
  answer-by r e = ap (λ (l : List ℕ). rules_answer (lattice_of s) (items_of edition n l)) (sym lent) ∙ rw there at e

  by-layers : (b : Bool) → layers_if (is_small s) (map operation_of_item (items_of edition n part)) ≡ b
      → layers_if (is_small s) (map operation_of_item (items_of edition n rest)) ≡ b
  by-layers b h = ap (λ (l : List ℕ). layers_if (is_small s) (map operation_of_item (items_of edition n l))) (sym lent) ∙ h

  pub items_refused : (why : Refusal) → items_answer edition (lattice_of s) n part ≡ Refused why → read_items edition s (items_of edition n rest)
      ≡ refused_group why
  items_refused why e = told-refused edition s (items_of edition n rest) why (answer-by (Refused why) e)

  module _ (e : items_answer edition (lattice_of s) n part ≡ Accepted) where
    pub layers-barred : layers_if (is_small s) (map operation_of_item (items_of edition n part)) ≡ false
        → read_items edition s (items_of edition n rest) ≡ refused_group NotAllowed
    layers-barred m = told-layers edition s (items_of edition n rest) (answer-by Accepted e) false (by-layers false m)

    pub items-right : layers_if (is_small s) (map operation_of_item (items_of edition n part)) ≡ true
        → read_items edition s (items_of edition n rest) ≡ accepted_group edition s (map operation_of_item (items_of edition n rest))
    items-right m = told-layers edition s (items_of edition n rest) (answer-by Accepted e) true (by-layers true m)
