-- Edition 2 of the record, for magnetic symbols: six bytes an operation, the five of edition 1 and then the flag. Items ascend by code, and then by flag.
use Rattle.std.specs.Prelude.{◌≡◌, refl, ◌⊎◌, ◌↔◌, List, [], ◌∷◌, ◌++◌, ℕ, ◌+◌, ◌*◌, ◌<◌, ◌≤◌, length, get_or, take}
use Rattle.std.proofs.Common.{◌∙◌, ap, inl, inr, append_assoc, arith}
use Rattle.std.proofs.Math.Decide.{dec_lt}
use Rattle.group_record.specs.Items.{Bytes}
use Rattle.group_record.specs.Editions.{Edition}
use Rattle.group_record.specs.declared.items.Item.{Item}
use Rattle.group_record.specs.FirstEdition.{item_bytes, item_in, item-again, item-bytes-again}

-- What a record says of one operation: the code of its rotation, a translation, and its flag, which is 1 with time reversal and 0 without.
pub record MagneticItem : Type 0 where
  pub plain : Item
  pub flag : ℕ

-- Items are equal where their parts are.
pub magnetic≡ : {i j : MagneticItem} → i.plain ≡ j.plain → i.flag ≡ j.flag → i ≡ j
magnetic≡ p q = λ k. record { plain = p k; flag = q k }

-- The bytes of an item, the flag last.
unfoldable pub magnetic_bytes : MagneticItem → List ℕ
magnetic_bytes i = item_bytes i.plain ++ (i.flag ∷ [])

-- The item of the first six bytes.
unfoldable pub magnetic_in : List ℕ → MagneticItem
magnetic_in bytes = record { plain = item_in bytes; flag = get_or bytes 5 0 }

-- By code, then by flag.
abbrev pub magnetic_key : MagneticItem → ℕ
magnetic_key i = 2 * i.plain.code + i.flag

-- Keys of items with flags 0 and 1 are compared by code, and where codes are equal by flag.
pub key-order : (i j : MagneticItem) → i.flag ≤ 1 → j.flag ≤ 1
    → (magnetic_key i < magnetic_key j) ↔ ((i.plain.code < j.plain.code) ⊎ ((i.plain.code ≡ j.plain.code) × (i.flag < j.flag)))
key-order i j h k = (forth, back)
  where
    forth : magnetic_key i < magnetic_key j → (i.plain.code < j.plain.code) ⊎ ((i.plain.code ≡ j.plain.code) × (i.flag < j.flag))
    forth l = elim (dec_lt i.plain.code j.plain.code) [ yes m ↦ inl m | no m ↦ inr (omega arith, omega arith) ]

    back : (i.plain.code < j.plain.code) ⊎ ((i.plain.code ≡ j.plain.code) × (i.flag < j.flag)) → magnetic_key i < magnetic_key j
    back (inl l) = omega arith
    back (inr (e, l)) = omega arith

-- An item takes six bytes.
pub magnetic-wide : (i : MagneticItem) → length (magnetic_bytes i) ≡ 6
unfolding magnetic_bytes item_bytes
magnetic-wide i = refl

plain-again : (i : MagneticItem) (more : List ℕ) → item_in ((item_bytes i.plain ++ (i.flag ∷ [])) ++ more) ≡ i.plain
plain-again i more = ap item_in (append_assoc (item_bytes i.plain) (i.flag ∷ []) more) ∙ item-again i.plain (i.flag ∷ more)

flag-again : (i : MagneticItem) (more : List ℕ) → get_or ((item_bytes i.plain ++ (i.flag ∷ [])) ++ more) 5 0 ≡ i.flag
unfolding item_bytes
flag-again i more = refl

-- What was written is read, whatever follows it.
pub magnetic-again : (i : MagneticItem) (more : List ℕ) → magnetic_in (magnetic_bytes i ++ more) ≡ i
unfolding magnetic_in magnetic_bytes
magnetic-again i more = magnetic≡ (plain-again i more) (flag-again i more)

sixth : (b : List ℕ) → 6 ≤ length b → take 5 b ++ (get_or b 5 0 ∷ []) ≡ take 6 b
sixth [] h = absurd (omega arith)
sixth (o ∷ []) h = absurd (omega arith)
sixth (o ∷ p ∷ []) h = absurd (omega arith)
sixth (o ∷ p ∷ q ∷ []) h = absurd (omega arith)
sixth (o ∷ p ∷ q ∷ r ∷ []) h = absurd (omega arith)
sixth (o ∷ p ∷ q ∷ r ∷ s ∷ []) h = absurd (omega arith)
sixth (o ∷ p ∷ q ∷ r ∷ s ∷ t ∷ b) h = refl

-- What was read is written as the bytes it was read from.
pub magnetic-back : (b : List ℕ) → Bytes b → 6 ≤ length b → magnetic_bytes (magnetic_in b) ≡ take 6 b
unfolding magnetic_bytes magnetic_in
magnetic-back b g h = ap (λ (l : List ℕ). l ++ (get_or b 5 0 ∷ [])) (item-bytes-again b g (omega arith)) ∙ sixth b h

abbrev pub second_edition : Edition MagneticItem
second_edition =
    record {
      number = 2;
      width = 6;
      write = magnetic_bytes;
      read = magnetic_in;
      Fits = λ i. Unit {0};
      key = magnetic_key;
      wide = magnetic-wide;
      again = λ i more f. magnetic-again i more;
      back = λ b g h f. magnetic-back b g h;
    }
