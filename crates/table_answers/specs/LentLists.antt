-- What becomes of a list that is lent to a call (R8.7), byte by byte. A slot has one byte, or the eight of a set,
-- high byte first; bytes that are left over are no slot.
use Rattle.std.specs.Prelude.{◌≡◌, refl, List, [], ◌∷◌, ◌++◌, ℕ, zero, suc, ◌+◌, ◌*◌, ◌-◌, ◌/◌, ◌%◌, ◌^◌, ◌<◌, ◌≤◌, get_or, length, drop, replicate}
use Rattle.std.proofs.Common.{sym, ap, ap₂, ◌∙◌, append_assoc, le_of_suc-le-suc, arith, length-append, length-drop, ext_get_or, get_or-append-add, get_or-drop}
use Rattle.std.proofs.Math.Decide.{dec_lt}
use Rattle.std.proofs.lemmas.List.{length-replicate, get_or-replicate}
use Rattle.std.proofs.Math.ListN.{get_or-append, get_or-eq_default}
use Rattle.subgroup_laws.specs.SlotBytes.{digit-of-slot}
use Rattle.subgroup_laws.specs.Slots.{bytes_of, packed, packed-length, written, cleared}

-- Every slot is 0, and the bytes left over stay.
pub record Zeroed (width : ℕ) (came left : List ℕ) : Type 0 where
  pub size : length left ≡ length came
  pub slots : (i : ℕ) → i < width * (length came / width) → get_or left i 0 ≡ 0
  pub left_over : (i : ℕ) → width * (length came / width) ≤ i → get_or left i 0 ≡ get_or came i 0

-- The list stands in the first slots, each item's high byte first, and all bytes past it are unchanged.
pub record Filled (width : ℕ) (list came left : List ℕ) : Type 0 where
  pub size : length left ≡ length came
  pub front : (k j : ℕ) → k < length list → j < width → get_or left (width * k + j) 0 ≡ get_or list k 0 / 256 ^ (width - 1 - j) % 256
  pub past : (i : ℕ) → width * length list ≤ i → get_or left i 0 ≡ get_or came i 0

-- ---- each leaves one content
pub zeroed-once : (width : ℕ) (came x y : List ℕ) → Zeroed width came x → Zeroed width came y → x ≡ y
zeroed-once width came x y X Y = ext_get_or 0 x y (X.size ∙ sym Y.size) (λ i h. elim (dec_lt i (width * (length came / width))) [
  | yes k ↦ X.slots i k ∙ sym (Y.slots i k)
  | no k ↦ let past : width * (length came / width) ≤ i = omega arith in X.left_over i past ∙ sym (Y.left_over i past)
])

-- A byte in front is byte i % 8 of slot i / 8, or the one byte of slot i.
pub sets-once : (list came x y : List ℕ) → Filled 8 list came x → Filled 8 list came y → x ≡ y
sets-once list came x y X Y = ext_get_or 0 x y (X.size ∙ sym Y.size) (λ i h. elim (dec_lt i (8 * length list)) [
  | no k ↦ let past : 8 * length list ≤ i = omega arith in X.past i past ∙ sym (Y.past i past)
  | yes k ↦
      let here : 8 * (i / 8) + i % 8 ≡ i = omega arith in
      let slot : i / 8 < length list = omega arith in
      let byte : i % 8 < 8 = omega arith in
      ap (λ (j : ℕ). get_or x j 0) (sym here) ∙ X.front (i / 8) (i % 8) slot byte ∙ sym (Y.front (i / 8) (i % 8) slot byte) ∙ ap (λ (j : ℕ). get_or y j 0) here
])

pub bytes-once : (list came x y : List ℕ) → Filled 1 list came x → Filled 1 list came y → x ≡ y
bytes-once list came x y X Y = ext_get_or 0 x y (X.size ∙ sym Y.size) (λ i h. elim (dec_lt i (length list)) [
  | no k ↦ let past : 1 * length list ≤ i = omega arith in X.past i past ∙ sym (Y.past i past)
  | yes k ↦
      let here : 1 * i + 0 ≡ i = omega arith in
      ap (λ (j : ℕ). get_or x j 0) (sym here) ∙ X.front i 0 k (omega arith) ∙ sym (Y.front i 0 k (omega arith)) ∙ ap (λ (j : ℕ). get_or y j 0) here
])

-- ---- the definitions are so
-- behind the first bytes stand those that came
behind : (front came : List ℕ) (i : ℕ) → length front ≤ i → get_or (front ++ drop (length front) came) i 0 ≡ get_or came i 0
behind front came i h =
    let far : i ≡ length front + (i - length front) = omega arith in
    ap (λ (j : ℕ). get_or (front ++ drop (length front) came) j 0) far ∙ get_or-append-add front (drop (length front) came) (i - length front) 0
    ∙ get_or-drop (length front) came (i - length front) 0 ∙ ap (λ (j : ℕ). get_or came j 0) (sym far)

-- and the length stays
length-behind : (front came : List ℕ) → length front ≤ length came → length (front ++ drop (length front) came) ≡ length came
length-behind front came h = length-append front (drop (length front) came) ∙ omega (arith, length-drop (length front) came)

-- zeros in front
zeros : (width count : ℕ) (came : List ℕ) → count ≡ width * (length came / width) → count ≤ length came
    → Zeroed width came (replicate count 0 ++ drop count came)
zeros width count came e h =
    let long : length {A = ℕ} (replicate count 0) ≡ count = length-replicate count 0 in
    let same : replicate count 0 ++ drop (length {A = ℕ} (replicate count 0)) came ≡ replicate count 0 ++ drop count came =
    ap (λ (j : ℕ). replicate count 0 ++ drop j came) long in
    record {
      size = ap length (sym same) ∙ length-behind (replicate count 0) came (omega arith);
      slots = λ i k. get_or-append (replicate count 0) (drop count came) 0 i (omega arith) ∙ get_or-replicate count i 0 0 (omega arith);
      left_over = λ i k. ap (λ (l : List ℕ). get_or l i 0) (sym same) ∙ behind (replicate count 0) came i (omega arith);
    }

pub sets-cleared : (came : List ℕ) → Zeroed 8 came (cleared came)
unfolding cleared
sets-cleared came = zeros 8 (8 * (length came / 8)) came refl (omega arith)

pub bytes-cleared : (came : List ℕ) → Zeroed 1 came (replicate (length came) 0)
bytes-cleared came = record {
  size = length-replicate (length came) 0;
  slots = λ i k. get_or-replicate (length came) i 0 0 (omega arith);
  left_over = λ i k.
      get_or-eq_default (replicate (length came) 0) 0 (omega (arith, length-replicate {A = ℕ} (length came) 0))
      ∙ sym (get_or-eq_default came 0 (omega arith));
}

-- byte j of slot k of a list's bytes
slot-byte : (list rest : List ℕ) (k j : ℕ) → k < length list → j < 8 → get_or (packed list ++ rest) (8 * k + j) 0 ≡ get_or list k 0 / 256 ^ (8 - 1 - j) % 256
unfolding packed
slot-byte [] rest k j h b = absurd (omega arith)
slot-byte (s ∷ list) rest zero j h b =
    let here : 8 * 0 + j ≡ j = omega arith in
    ap₂ (λ (l : List ℕ) (i : ℕ). get_or l i 0) (append_assoc (bytes_of s) (packed list) rest) here
    ∙ get_or-append (bytes_of s) (packed list ++ rest) 0 j b ∙ digit-of-slot s j b
slot-byte (s ∷ list) rest (suc k) j h b =
    let next : 8 * suc k + j ≡ 8 + (8 * k + j) = omega arith in
    ap₂ (λ (l : List ℕ) (i : ℕ). get_or l i 0) (append_assoc (bytes_of s) (packed list) rest) next
    ∙ get_or-append-add (bytes_of s) (packed list ++ rest) (8 * k + j) 0 ∙ slot-byte list rest k j (le_of_suc-le-suc h) b

pub sets-written : (list came : List ℕ) → length list ≤ length came / 8 → Filled 8 list came (written list came)
unfolding written
sets-written list came room =
    let long : length (packed list) ≡ 8 * length list = packed-length list in
    let same : packed list ++ drop (length (packed list)) came ≡ packed list ++ drop (8 * length list) came = ap (λ (j : ℕ). packed list ++ drop j came) long in
    record {
      size = ap length (sym same) ∙ length-behind (packed list) came (omega arith);
      front = λ k j h b. slot-byte list (drop (8 * length list) came) k j h b;
      past = λ i h. ap (λ (l : List ℕ). get_or l i 0) (sym same) ∙ behind (packed list) came i (omega arith);
    }

-- a list of bytes
pub bytes-written : (list came : List ℕ) → length list ≤ length came → ((k : ℕ) → k < length list → get_or list k 0 < 256)
    → Filled 1 list came (list ++ drop (length list) came)
bytes-written list came room small = record {
  size = length-behind list came room;
  front = λ k j h b.
      let here : 1 * k + j ≡ k = omega arith in
      let none : 1 - 1 - j ≡ 0 = omega arith in
      let low = small k h in
      ap (λ (i : ℕ). get_or (list ++ drop (length list) came) i 0) here ∙ get_or-append list (drop (length list) came) 0 k h ∙ rw none (omega arith);
  past = λ i h. behind list came i (omega arith);
}
