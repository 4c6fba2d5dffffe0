-- What is answered of n items of a record under a lattice, for any bytes: 33 where there are not so many, else 34, 35 or nothing against them.
use Rattle.std.specs.Prelude.{◌≡◌, ◌↔◌, Bool, true, cond, ◌&&◌, List, ℕ, ◌*◌, ◌≤◌, leb, length}
use Rattle.std.proofs.Common.{le-leb, leb-true}
use Rattle.laws.specs.Truth.{both_true}
use Rattle.centering.specs.declared.Centering.{Centering}
use Rattle.group_record.specs.BothEditions.{width_in}
use Rattle.group_record.specs.Reading.{are_items, is_allowed}
use Rattle.group_record.specs.declared.Edition.{Edition as Known}
use Rattle.group_record.specs.declared.items.Item.{Item}
use Rattle.group_record.specs.declared.Refusal.TheVariants.{WrongLength, WrongItem, NotAllowed}
use Rattle.group_record.specs.declared.Reading.{Reading}
use Rattle.group_record.specs.declared.Reading.TheVariants.{Accepted, Refused}
use Rattle.record_items.specs.Items.{items_of}

-- 1 to 48 items, and bytes for them.
unfoldable pub items_there : Known → ℕ → List ℕ → Bool
items_there edition n bytes = leb 1 n && (leb n 48 && leb (width_in edition * n) (length bytes))

pub there-test : (edition : Known) (n : ℕ) (bytes : List ℕ)
    → (items_there edition n bytes ≡ true) ↔ ((1 ≤ n) × (n ≤ 48) × (width_in edition * n ≤ length bytes))
unfolding items_there
there-test edition n bytes = (
  (λ e.
      let (p, q) = (both_true (leb 1 n) _).0 e in
      let (r, s) = (both_true (leb n 48) _).0 q in
      (leb-true 1 n p, leb-true n 48 r, leb-true _ (length bytes) s)),
  λ (p, q, r). (both_true (leb 1 n) _).1 (le-leb 1 n p, (both_true (leb n 48) _).1 (le-leb n 48 q, le-leb _ (length bytes) r)),
)

-- 34, then 35.
unfoldable pub rules_answer : Centering → List Item → Reading
rules_answer c items = cond (are_items c items) (cond (is_allowed c items) Accepted (Refused NotAllowed)) (Refused WrongItem)

unfoldable pub items_answer : Known → Centering → ℕ → List ℕ → Reading
items_answer edition c n bytes = cond (items_there edition n bytes) (rules_answer c (items_of edition n bytes)) (Refused WrongLength)
