-- Which buffers are read and which are refused, each of 30 to 35 exactly when and in order: the rules as a relation between a buffer and what is told of it,
-- and that the reading is this relation, for any editions, letters and kind of item.
-- The idea: a buffer that is long enough is a front and a trailer, and each rule speaks of one of them.
use Rattle.std.specs.Prelude.{◌≡◌, ◌↔◌, Bool, cond, leb, eqb, get_or, drop}
use Rattle.std.proofs.Math.Path.{refl, ap, ap₂, subst}
use Rattle.std.proofs.Common.{sym, ◌∙◌, arith, lt-ltb, le-ltb, le-leb, leb-true, eq-eqb, eqb-true, length-drop, take-append-drop, get_or-append-add, drop-drop, drop_at, length-take-le}
use Rattle.std.proofs.Math.Bool.{true, false}
use mathlib.Core.List.{List, [], ◌∷◌, ◌++◌, append_assoc, Memᴰ as Mem}
use Rattle.std.proofs.Math.Option.{Option, none, some}
use Prim.Native.Nat.{ℕ, zero, suc, ◌+◌, ◌*◌, ◌-◌, ◌/◌, ◌%◌, ◌<◌, ◌≤◌}
use Rattle.std.proofs.Math.Decide.{dec_lt}
use Rattle.std.proofs.Math.ListN.{length, take, length-append}
use Rattle.laws.specs.Sorted.{Sorted, key-strict, key-decides, ascending-sorted, sorted-ascending}
use Rattle.laws.specs.Truth.{all, both_true, all_true, fails, failed}
use Rattle.group_record.specs.Items.{Bytes, bytes_left, items_in, items-length, bytes_of, bytes-length, written_read}
use Rattle.group_record.specs.Editions.{total_length, last_five, trailer_bytes, from_end_lem, framed, framed-items}
use Rattle.group_record.specs.Rules.{Spelled, Rules, Told, refused, holds, length_fits, key_before, are_good, items_told, last_items, counted_told, lettered_told, edition_told, told_by}
use Rattle.group_record.specs.declared.Refusal.TheVariants.{Short, WrongEdition, WrongLetter, WrongLength, WrongItem, NotAllowed}

-- ---- bytes that spell
module _ {A : Type 0} {byte : A → ℕ} (S : Spelled byte) (b : ℕ) where
  -- A byte that is nobody's spells nothing,
  pub unspelled : ((a : A) → ¬ (b ≡ byte a)) → S.from b ≡ none
  unspelled never = go (S.from b) refl
    where
      go : (o : Option A) → S.from b ≡ o → o ≡ none
      go none e = refl
      go (some a) e = absurd (never a (S.back b a e))

  -- and what spells nothing is nobody's.
  pub nobody : S.from b ≡ none → (a : A) → ¬ (b ≡ byte a)
  nobody e a p =
      let clash : ◌≡◌ {A = Option A} none (some a) = sym e ∙ ap S.from p ∙ S.there a in
      let z : ◌≡◌ {A = ℕ} 0 1 = cc in
      absurd (omega arith)

-- ---- the length test
-- A count and a stated length that are right, in a buffer of some size.
abbrev pub Counted : ℕ → ℕ → ℕ → ℕ → ℕ → Type 0
Counted width limit n stated size = (1 ≤ n) × (n ≤ limit) × (stated ≡ total_length width n) × (total_length width n ≤ size)

pub length-test : (width limit n stated size : ℕ) → (length_fits width limit n stated size ≡ true) ↔ Counted width limit n stated size
unfolding length_fits
length-test width limit n stated size = (
  (λ e.
      let (p, q) = (both_true (leb 1 n) _).0 e in
      let (r, s) = (both_true (leb n limit) _).0 q in
      let (t, u) = (both_true (eqb stated (total_length width n)) _).0 s in
      (leb-true 1 n p, leb-true n limit r, eqb-true _ _ t, leb-true _ size u)),
  λ (p, q, r, s).
      (both_true (leb 1 n) _).1 (
        le-leb 1 n p,
        (both_true (leb n limit) _).1 (le-leb n limit q, (both_true (eqb stated (total_length width n)) _).1 (eq-eqb _ _ r, le-leb _ size s)),
      ),
)

-- One item and its trailer is the shortest record.
one-shortest : (width n : ℕ) → 1 ≤ n → total_length width 1 ≤ total_length width n
one-shortest width zero h = absurd (omega arith)
one-shortest width (suc n) h = omega arith

-- Five bytes are the five at their places.
five-of : (b : List ℕ) → length b ≡ 5 → b ≡ last_five (get_or b 0 0) (get_or b 1 0) (get_or b 2 0) (get_or b 3 0) (get_or b 4 0)
five-of [] h = absurd (omega arith)
five-of (p ∷ []) h = absurd (omega arith)
five-of (p ∷ q ∷ []) h = absurd (omega arith)
five-of (p ∷ q ∷ r ∷ []) h = absurd (omega arith)
five-of (p ∷ q ∷ r ∷ s ∷ []) h = absurd (omega arith)
five-of (p ∷ q ∷ r ∷ s ∷ t ∷ []) h = refl
five-of (p ∷ q ∷ r ∷ s ∷ t ∷ u ∷ b) h = absurd (omega arith)

-- ---- what the tests mean
-- What 34 asks of items: each is one under the letter, and keys ascend.
pub record Good {Item Letter Kind : Type 0} (R : Rules Item Letter Kind) (IsItem : Letter → Item → Type 0) (k : Kind) (c : Letter) (items : List Item) : Type 0
  where
    pub each : (i : Item) → Mem i items → IsItem c i
    pub ascend : Sorted (λ (i j : Item). (R.edition k).key i < (R.edition k).key j) items

-- What the tests of a reading say, and that no record is under its least length.
pub record Meaning {Item Letter Kind : Type 0} (R : Rules Item Letter Kind) : Type 1 where
  pub IsItem : Letter → Item → Type 0
  pub item-test : (c : Letter) (i : Item) → (R.is_item c i ≡ true) ↔ IsItem c i
  pub fits : (k : Kind) (c : Letter) (i : Item) → IsItem c i → (R.edition k).Fits i
  pub IsAllowed : Letter → List Item → Type 0
  pub allowed-test : (k : Kind) (c : Letter) (items : List Item) → Good R IsItem k c items → 1 ≤ length items → length items ≤ R.limit
      → (R.is_allowed c items ≡ true) ↔ IsAllowed c items
  pub trailer-there : 5 ≤ R.least
  pub long-enough : (k : Kind) → R.least ≤ total_length (R.edition k).width 1

module _ {Item Letter Kind : Type 0} (R : Rules Item Letter Kind) (W : Meaning R) where
  -- ---- the rules
  abbrev pub GoodBy : Kind → Letter → List Item → Type 0
  GoodBy k c items = Good R W.IsItem k c items

  -- The bytes of items in an edition, under a letter.
  abbrev pub record-bytes : Kind → Letter → List Item → List ℕ
  record-bytes k c items = framed (R.edition k) (R.byte c) items

  abbrev pub width_of : Kind → ℕ
  width_of k = (R.edition k).width

  -- The items that bytes start with.
  abbrev pub first_items : Kind → ℕ → List ℕ → List Item
  first_items k n bytes = items_in (width_of k) (R.edition k).read n bytes

  -- The last five bytes under an edition and a letter.
  abbrev pub five : Kind → ℕ → ℕ → ℕ → ℕ → List ℕ
  five k letter n high low = last_five letter (R.edition k).number n high low

  -- The trailer of n items.
  abbrev pub trailer_of : Kind → Letter → ℕ → List ℕ
  trailer_of k c n = trailer_bytes (width_of k) (R.edition k).number (R.byte c) n

  pub data Outcome (bytes : List ℕ) : Told Item Letter Kind → Type 0 where
    -- 30: too few bytes
    too_short : length bytes < R.least → Outcome bytes (refused Short)
    -- 31: no edition that the reading knows
    wrong-edition : (front : List ℕ) (letter edition n high low : ℕ) → R.least ≤ length front + 5
        → bytes ≡ front ++ last_five letter edition n high low → ((k : Kind) → ¬ (edition ≡ (R.edition k).number)) → Outcome bytes (refused WrongEdition)
    -- 32: no letter
    wrong-letter : (k : Kind) (front : List ℕ) (letter n high low : ℕ) → R.least ≤ length front + 5
        → bytes ≡ front ++ five k letter n high low → ((c : Letter) → ¬ (letter ≡ R.byte c)) → Outcome bytes (refused WrongLetter)
    -- 33: count or length wrong
    wrong-length : (k : Kind) (c : Letter) (front : List ℕ) (n high low : ℕ) → R.least ≤ length front + 5
        → bytes ≡ front ++ five k (R.byte c) n high low → ¬ Counted (width_of k) R.limit n (high * 256 + low) (length bytes)
        → Outcome bytes (refused WrongLength)
    -- 34: an item wrong, or keys that do not ascend
    wrong-item : (k : Kind) (c : Letter) (front body : List ℕ) (n : ℕ) → 1 ≤ n → n ≤ R.limit → length body ≡ width_of k * n
        → bytes ≡ front ++ (body ++ trailer_of k c n) → ¬ GoodBy k c (first_items k n (body ++ trailer_of k c n)) → Outcome bytes (refused WrongItem)
    -- 35: else not allowed
    not-allowed : (k : Kind) (c : Letter) (front : List ℕ) (items : List Item) → 1 ≤ length items → length items ≤ R.limit
        → bytes ≡ front ++ record-bytes k c items → GoodBy k c items → ¬ W.IsAllowed c items → Outcome bytes (refused NotAllowed)
    -- the record of allowed items
    accepted : (k : Kind) (c : Letter) (front : List ℕ) (items : List Item) → 1 ≤ length items → length items ≤ R.limit
        → bytes ≡ front ++ record-bytes k c items → GoodBy k c items → W.IsAllowed c items → Outcome bytes (holds k c items)

  -- ---- 34
  pub good-test : (k : Kind) (c : Letter) (items : List Item) → (are_good R k c items ≡ true) ↔ GoodBy k c items
  unfolding are_good
  good-test k c items = (
    (λ e.
        let (p, q) = (both_true (all (R.is_item c) items) _).0 e in
        record {
          each = λ i m. (W.item-test c i).0 ((all_true (R.is_item c) items).0 p i m);
          ascend =
              ascending-sorted (λ (i j : Item). (R.edition k).key i < (R.edition k).key j) (λ i. Mem i items) (key_before R k)
              (key-decides (R.edition k).key _) (key-strict (R.edition k).key) items (λ i m. m) q;
        }),
    λ g.
        (both_true (all (R.is_item c) items) _).1 (
          (all_true (R.is_item c) items).1 (λ i m. (W.item-test c i).1 (g.each i m)),
          sorted-ascending (λ (i j : Item). (R.edition k).key i < (R.edition k).key j) (λ i. Mem i items) (key_before R k) (key-decides (R.edition k).key _)
              (λ i m. m) g.ascend,
        ),
  )

  -- Good items can be said in every edition.
  pub good-fit : (k : Kind) (c : Letter) (items : List Item) → GoodBy k c items → (i : Item) → Mem i items → (R.edition k).Fits i
  good-fit k c items g i m = W.fits k c i (g.each i m)

  -- ---- what the reading finds at the end of a buffer
  module _ (front : List ℕ) (letter edition n high low : ℕ) where
    abbrev whole : List ℕ
    whole = front ++ last_five letter edition n high low

    -- The edition decides,
    told-edition : R.least ≤ length front + 5 → told_by R whole ≡ edition_told R (R.editions.from edition) whole
    unfolding told_by
    told-edition h =
        let long : R.least ≤ length whole = omega (arith, length-append front (last_five letter edition n high low)) in
        rw (le-ltb (length whole) R.least long, from_end_lem front (last_five letter edition n high low) 4 1 refl (omega arith))

    -- then the letter,
    told-letter : (k : Kind) → edition_told R (some k) whole ≡ lettered_told R k (R.letters.from letter) whole
    unfolding edition_told
    told-letter k = rw (from_end_lem front (last_five letter edition n high low) 5 0 refl (omega arith))

    -- then count and length.
    told-length : (k : Kind) (c : Letter) → lettered_told R k (some c) whole
        ≡ cond (length_fits (width_of k) R.limit n (high * 256 + low) (length whole)) (items_told R k c (last_items R k n whole)) (refused WrongLength)
    unfolding lettered_told counted_told
    told-length k c =
        rw (
          from_end_lem front (last_five letter edition n high low) 3 2 refl (omega arith),
          from_end_lem front (last_five letter edition n high low) 2 3 refl (omega arith),
          from_end_lem front (last_five letter edition n high low) 1 4 refl (omega arith),
        )

  -- The letter's byte and the edition's number lead to count and length.
  told-counted : (k : Kind) (c : Letter) (front : List ℕ) (n high low : ℕ) → R.least ≤ length front + 5
      → told_by R (front ++ five k (R.byte c) n high low)
      ≡ cond (length_fits (width_of k) R.limit n (high * 256 + low) (length (front ++ five k (R.byte c) n high low)))
      (items_told R k c (last_items R k n (front ++ five k (R.byte c) n high low))) (refused WrongLength)
  told-counted k c front n high low h =
      let bytes = front ++ five k (R.byte c) n high low in
      told-edition front (R.byte c) (R.edition k).number n high low h
      ∙ ap (λ (o : Option Kind). edition_told R o bytes) (R.editions.there k)
      ∙ told-letter front (R.byte c) (R.edition k).number n high low k
      ∙ ap (λ (o : Option Letter). lettered_told R k o bytes) (R.letters.there c)
      ∙ told-length front (R.byte c) (R.edition k).number n high low k c

  -- A buffer that ends with so many bytes and their trailer is read as the items that these bytes say.
  told-body : (k : Kind) (c : Letter) (front body : List ℕ) (n : ℕ) → 1 ≤ n → n ≤ R.limit → length body ≡ width_of k * n
      → told_by R (front ++ (body ++ trailer_of k c n)) ≡ items_told R k c (first_items k n (body ++ trailer_of k c n))
  told-body k c front body n one few wide =
      ap (told_by R) (sym (append_assoc front body rest)) ∙ told-counted k c (front ++ body) n _ _ enough
      ∙ rw fits (ap (λ (b : List ℕ). items_told R k c (first_items k n b)) behind)
    where
      rest : List ℕ
      rest = trailer_of k c n

      size : length ((front ++ body) ++ rest) ≡ length front + total_length (width_of k) n
      size = length-append (front ++ body) rest ∙ omega (arith, length-append front body, wide)

      enough : R.least ≤ length (front ++ body) + 5
      enough = omega (arith, length-append front body, wide, W.long-enough k, one-shortest (width_of k) n one)

      fits : length_fits (width_of k) R.limit n (total_length (width_of k) n / 256 * 256 + total_length (width_of k) n % 256) (length ((front ++ body) ++ rest))
          ≡ true
      fits = (length-test _ _ _ _ _).1 (one, few, omega arith, omega (arith, size))

      behind : drop (length ((front ++ body) ++ rest) - total_length (width_of k) n) ((front ++ body) ++ rest) ≡ body ++ rest
      behind =
          let place : length front ≡ length ((front ++ body) ++ rest) - total_length (width_of k) n = omega (arith, size) in
          ap (drop (length ((front ++ body) ++ rest) - total_length (width_of k) n)) (append_assoc front body rest) ∙ drop_at front (body ++ rest) _ place

  -- So the record of items that fit is read as these items.
  told-record : (k : Kind) (c : Letter) (front : List ℕ) (items : List Item) → 1 ≤ length items → length items ≤ R.limit
      → ((i : Item) → Mem i items → (R.edition k).Fits i)
      → told_by R (front ++ record-bytes k c items) ≡ items_told R k c items
  unfolding framed
  told-record k c front items one few fit =
      told-body k c front (bytes_of (R.edition k).write items) (length items) one few
      (bytes-length (width_of k) (R.edition k).write (R.edition k).wide items)
      ∙ ap (items_told R k c) (framed-items (R.edition k) (R.byte c) items fit)

  -- ---- the rules give the reading
  -- What the rules say of a buffer is how it is read.
  pub outcome-told : (bytes : List ℕ) (t : Told Item Letter Kind) → Outcome bytes t → told_by R bytes ≡ t
  unfolding told_by edition_told lettered_told items_told
  outcome-told bytes t (too_short h) = rw (lt-ltb (length bytes) R.least h)
  outcome-told bytes t (wrong-edition front letter edition n high low h e never) =
      ap (told_by R) e ∙ told-edition front letter edition n high low h ∙ rw (unspelled R.editions edition never)
  outcome-told bytes t (wrong-letter k front letter n high low h e never) =
      ap (told_by R) e ∙ told-edition front letter (R.edition k).number n high low h
      ∙ ap (λ (o : Option Kind). edition_told R o (front ++ five k letter n high low)) (R.editions.there k)
      ∙ told-letter front letter (R.edition k).number n high low k ∙ rw (unspelled R.letters letter never)
  outcome-told bytes t (wrong-length k c front n high low h e wrong) =
      ap (told_by R) e ∙ told-counted k c front n high low h ∙ rw (fails _ (length-test (width_of k) R.limit n (high * 256 + low) _) (λ m. wrong (rw e m)))
  outcome-told bytes t (wrong-item k c front body n one few wide e wrong) =
      ap (told_by R) e ∙ told-body k c front body n one few wide ∙ rw (fails _ (good-test k c _) wrong)
  outcome-told bytes t (not-allowed k c front items one few e g wrong) =
      ap (told_by R) e ∙ told-record k c front items one few (good-fit k c items g)
      ∙ rw ((good-test k c items).1 g, fails _ (W.allowed-test k c items g one few) wrong)
  outcome-told bytes t (accepted k c front items one few e g a) =
      ap (told_by R) e ∙ told-record k c front items one few (good-fit k c items g) ∙ rw ((good-test k c items).1 g, (W.allowed-test k c items g one few).1 a)

  -- ---- the reading follows the rules
  -- Where count and length are right, the buffer ends with so many bytes and their trailer.
  module _ (k : Kind) (c : Letter) (front : List ℕ) (n high low : ℕ) (bytes : Bytes (front ++ five k (R.byte c) n high low))
      (counted : Counted (width_of k) R.limit n (high * 256 + low) (length (front ++ five k (R.byte c) n high low))) where
    abbrev buffer : List ℕ
    buffer = front ++ five k (R.byte c) n high low

    abbrev start : ℕ
    start = length buffer - total_length (width_of k) n

    abbrev body : List ℕ
    body = take (width_of k * n) (drop start buffer)

    abbrev items_there : List Item
    items_there = first_items k n (drop start buffer)

    items-count : length items_there ≡ n
    items-count = items-length (width_of k) (R.edition k).read n (drop start buffer)

    -- What stands behind the items are the last five bytes,
    last-part : drop (width_of k * n) (drop start buffer) ≡ five k (R.byte c) n high low
    last-part =
        let size = length-append front (five k (R.byte c) n high low) in
        let place : length front ≡ start + width_of k * n = omega (arith, size, counted) in
        drop-drop (width_of k * n) start buffer ∙ drop_at front (five k (R.byte c) n high low) (start + width_of k * n) place

    low_byte : low < 256
    low_byte = subst (λ (b : ℕ). b < 256) (get_or-append-add front (five k (R.byte c) n high low) 4 0) (bytes (length front + 4))

    -- which are the trailer.
    trailer-is : five k (R.byte c) n high low ≡ trailer_of k c n
    trailer-is =
        let high_is : high ≡ total_length (width_of k) n / 256 = omega (arith, low_byte, counted) in
        let low-is : low ≡ total_length (width_of k) n % 256 = omega (arith, low_byte, counted) in
        ap₂ (λ (h w : ℕ). five k (R.byte c) n h w) high_is low-is

    record_is : drop start buffer ≡ body ++ trailer_of k c n
    record_is = sym (take-append-drop (width_of k * n) (drop start buffer)) ∙ ap (λ (b : List ℕ). body ++ b) (last-part ∙ trailer-is)

    buffer-is : buffer ≡ take start buffer ++ (body ++ trailer_of k c n)
    buffer-is = sym (take-append-drop start buffer) ∙ ap (λ (b : List ℕ). take start buffer ++ b) record_is

    enough-bytes : width_of k * n ≤ length (drop start buffer)
    enough-bytes = rw (length-drop start buffer) (omega (arith, counted))

    -- Where each item fits, the bytes are those of the items.
    items-bytes : GoodBy k c items_there → buffer ≡ take start buffer ++ record-bytes k c items_there
    unfolding framed
    items-bytes g =
        buffer-is
        ∙ ap₂ (λ (b : List ℕ) (m : ℕ). take start buffer ++ (b ++ trailer_of k c m))
        (sym (written_read (width_of k) (R.edition k).write (R.edition k).wide (R.edition k).read (R.edition k).Fits (R.edition k).back n
        (drop start buffer) (bytes_left start buffer bytes) enough-bytes (good-fit k c items_there g)))
        (sym items-count)

    -- What the items decide.
    outcome-items : Outcome buffer (items_told R k c items_there)
    unfolding items_told
    outcome-items = by-items (are_good R k c items_there) refl
      where
        some-there : 1 ≤ length items_there
        some-there = rw items-count counted.0

        few-there : length items_there ≤ R.limit
        few-there = rw items-count counted.1

        by-group : GoodBy k c items_there → (b : Bool) → R.is_allowed c items_there ≡ b → Outcome buffer (cond b (holds k c items_there) (refused NotAllowed))
        by-group g true e =
            accepted k c (take start buffer) items_there some-there few-there (items-bytes g) g ((W.allowed-test k c items_there g some-there few-there).0 e)
        by-group g false e =
            not-allowed k c (take start buffer) items_there some-there few-there (items-bytes g) g
            (failed _ (W.allowed-test k c items_there g some-there few-there) e)

        by-items : (b : Bool) → are_good R k c items_there ≡ b
            → Outcome buffer (cond b (cond (R.is_allowed c items_there) (holds k c items_there) (refused NotAllowed)) (refused WrongItem))
        by-items true e = by-group ((good-test k c items_there).0 e) (R.is_allowed c items_there) refl
        by-items false e =
            wrong-item k c (take start buffer) body n counted.0 counted.1 (length-take-le (width_of k * n) (drop start buffer) enough-bytes) buffer-is
            (subst (λ (b : List ℕ). ¬ GoodBy k c (first_items k n b)) record_is (failed _ (good-test k c items_there) e))

  -- What the trailer decides.
  outcome-trailer : (front : List ℕ) (letter edition n high low : ℕ) → R.least ≤ length front + 5 → Bytes (front ++ last_five letter edition n high low)
      → Outcome (front ++ last_five letter edition n high low) (told_by R (front ++ last_five letter edition n high low))
  unfolding edition_told lettered_told
  outcome-trailer front letter edition n high low h bytes =
      subst (Outcome (front ++ last_five letter edition n high low)) (sym (told-edition front letter edition n high low h))
      (by-edition (R.editions.from edition) refl)
    where
      by_length : (k : Kind) (c : Letter) → letter ≡ R.byte c → edition ≡ (R.edition k).number
          → Outcome (front ++ last_five letter edition n high low) (lettered_told R k (some c) (front ++ last_five letter edition n high low))
      by_length k c p q =
          subst (λ (b : List ℕ). Outcome b (lettered_told R k (some c) b)) (ap₂ (λ (a e : ℕ). front ++ last_five a e n high low) (sym p) (sym q))
          (subst (Outcome (front ++ five k (R.byte c) n high low)) (sym (told-length front (R.byte c) (R.edition k).number n high low k c))
          (decide (subst Bytes (ap₂ (λ (a e : ℕ). front ++ last_five a e n high low) p q) bytes)
          (length_fits (width_of k) R.limit n (high * 256 + low) (length (front ++ five k (R.byte c) n high low))) refl))
        where
          decide : Bytes (front ++ five k (R.byte c) n high low) → (b : Bool)
              → length_fits (width_of k) R.limit n (high * 256 + low) (length (front ++ five k (R.byte c) n high low)) ≡ b
              → Outcome (front ++ five k (R.byte c) n high low)
              (cond b (items_told R k c (last_items R k n (front ++ five k (R.byte c) n high low))) (refused WrongLength))
          decide g true e = outcome-items k c front n high low g ((length-test _ _ n (high * 256 + low) _).0 e)
          decide g false e = wrong-length k c front n high low h refl (failed _ (length-test _ _ n (high * 256 + low) _) e)

      by-letter : (k : Kind) (o : Option Letter) → R.letters.from letter ≡ o → edition ≡ (R.edition k).number
          → Outcome (front ++ last_five letter edition n high low) (lettered_told R k o (front ++ last_five letter edition n high low))
      by-letter k (some c) p q = by_length k c (R.letters.back letter c p) q
      by-letter k none p q = wrong-letter k front letter n high low h (ap (λ (e : ℕ). front ++ last_five letter e n high low) q) (nobody R.letters letter p)

      by-edition : (o : Option Kind) → R.editions.from edition ≡ o
          → Outcome (front ++ last_five letter edition n high low) (edition_told R o (front ++ last_five letter edition n high low))
      by-edition (some k) e =
          subst (Outcome (front ++ last_five letter edition n high low)) (sym (told-letter front letter edition n high low k))
          (by-letter k (R.letters.from letter) refl (R.editions.back edition k e))
      by-edition none e = wrong-edition front letter edition n high low h refl (nobody R.editions edition e)

  -- Every buffer is read as the rules say.
  pub told-outcome : (bytes : List ℕ) → Bytes bytes → Outcome bytes (told_by R bytes)
  unfolding told_by
  told-outcome bytes g = elim (dec_lt (length bytes) R.least) [
    | yes h ↦ rw (lt-ltb (length bytes) R.least h) (too_short h)
    | no h ↦
        subst (λ (b : List ℕ). Outcome b (told_by R b)) (sym (split h))
        (outcome-trailer front (at 0) (at 1) (at 2) (at 3) (at 4) (front_long h) (subst Bytes (split h) g))
  ]
    where
      front : List ℕ
      front = take (length bytes - 5) bytes

      at : ℕ → ℕ
      at i = get_or (drop (length bytes - 5) bytes) i 0

      front_long : ¬ (length bytes < R.least) → R.least ≤ length front + 5
      front_long h = rw (length-take-le (length bytes - 5) bytes (omega arith)) (omega (arith, W.trailer-there))

      split : ¬ (length bytes < R.least) → bytes ≡ front ++ last_five (at 0) (at 1) (at 2) (at 3) (at 4)
      split h =
          let five : length (drop (length bytes - 5) bytes) ≡ 5 = length-drop (length bytes - 5) bytes ∙ omega (arith, W.trailer-there) in
          sym (take-append-drop (length bytes - 5) bytes)
          ∙ ap (λ (b : List ℕ). take (length bytes - 5) bytes ++ b) (five-of (drop (length bytes - 5) bytes) five)

  -- The reading is the rules: each refusal is given, and each record read, exactly when they say so.
  pub told-exactly : (bytes : List ℕ) → Bytes bytes → (t : Told Item Letter Kind) → (told_by R bytes ≡ t) ↔ Outcome bytes t
  told-exactly bytes g t = ((λ e. subst (Outcome bytes) e (told-outcome bytes g)), outcome-told bytes t)

  -- ---- what is held
  -- The buffer ends with the record of these items, which are good and allowed.
  pub record Held (bytes : List ℕ) (k : Kind) (c : Letter) (items : List Item) : Type 0 where
    pub front : List ℕ
    pub one : 1 ≤ length items
    pub few : length items ≤ R.limit
    pub same_bytes : bytes ≡ front ++ record-bytes k c items
    pub good : GoodBy k c items
    pub allowed : W.IsAllowed c items

  -- What is held is told.
  pub held-told : (bytes : List ℕ) (k : Kind) (c : Letter) (items : List Item) → Held bytes k c items → told_by R bytes ≡ holds k c items
  held-told bytes k c items h = outcome-told bytes (holds k c items) (accepted k c h.front items h.one h.few h.same_bytes h.good h.allowed)

  -- A buffer is read as items exactly if it holds them.
  pub held-exactly : (bytes : List ℕ) → Bytes bytes → (k : Kind) (c : Letter) (items : List Item) → (told_by R bytes ≡ holds k c items) ↔ Held bytes k c items
  held-exactly bytes g k c items = (
    (λ e. held k c items ((told-exactly bytes g (holds k c items)).0 e)),
    held-told bytes k c items,
  )
    where
      held : (k : Kind) (c : Letter) (items : List Item) → Outcome bytes (holds k c items) → Held bytes k c items
      held k c items (accepted _ _ front _ one few e good a) =
          record { front = front; one = one; few = few; same_bytes = e; good = good; allowed = a }
