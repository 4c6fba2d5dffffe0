-- Items of a fixed width in a row of bytes, for any width and any kind of item: written one after the other, and read back.
use Rattle.std.specs.Prelude.{◌≡◌, get_or}
use Rattle.std.proofs.Math.Path.{refl, sym, ap, ap₂}
use Rattle.std.proofs.Common.{◌∙◌, mul-zero, length-append, length-drop, drop-drop, drop_at, take-add, get_or-drop}
use mathlib.Core.List.Memᴰ.{head as here}
use mathlib.Core.List.Memᴰ.{tail as there}
use mathlib.Core.List.{List, [], ◌∷◌, ◌++◌, append_assoc, Memᴰ as Mem}
use Prim.Native.Nat.{ℕ, zero, suc, ◌+◌, ◌*◌, ◌≤◌, ◌<◌}
use native.Mathlib.Omega.{arith}
use Rattle.std.proofs.Math.ListN.{length, take, drop}

-- Every number of a buffer is a byte.
abbrev pub Bytes : List ℕ → Type 0
Bytes bytes = (i : ℕ) → get_or bytes i 0 < 256

-- What is left of bytes is bytes.
pub bytes_left : (k : ℕ) (bytes : List ℕ) → Bytes bytes → Bytes (drop k bytes)
bytes_left k bytes g i = rw (get_or-drop k bytes i 0) (g (k + i))

-- ---- reading
module _ {A : Type 0} (width : ℕ) (read : List ℕ → A) where
  -- The first n items.
  unfoldable pub items_in : ℕ → List ℕ → List A
  items_in zero bytes = []
  items_in (suc n) bytes = read bytes ∷ items_in n (drop width bytes)

  -- There are n of them.
  pub items-length : (n : ℕ) (bytes : List ℕ) → length (items_in n bytes) ≡ n
  unfolding items_in
  items-length zero bytes = refl
  items-length (suc n) bytes = ap suc (items-length n (drop width bytes))

  -- The item at a place is read where the items before it end.
  pub item-at : (n : ℕ) (bytes : List ℕ) (i : ℕ) (d : A) → i < n → get_or (items_in n bytes) i d ≡ read (drop (width * i) bytes)
  unfolding items_in
  item-at zero bytes i d h = absurd (omega arith)
  item-at (suc n) bytes zero d h = rw (mul-zero width) refl
  item-at (suc n) bytes (suc i) d h =
      let further : width + width * i ≡ width * suc i = omega arith in
      item-at n (drop width bytes) i d (omega arith) ∙ ap read (drop-drop (width * i) width bytes ∙ ap (λ (k : ℕ). drop k bytes) further)

-- ---- writing
module _ {A : Type 0} (write : A → List ℕ) where
  -- The bytes of items, one after the other.
  unfoldable pub bytes_of : List A → List ℕ
  bytes_of [] = []
  bytes_of (a ∷ l) = write a ++ bytes_of l

  -- The bytes of two lists in a row.
  pub bytes-append : (l m : List A) → bytes_of (l ++ m) ≡ bytes_of l ++ bytes_of m
  unfolding bytes_of
  bytes-append [] m = refl
  bytes-append (a ∷ l) m = ap (λ r. write a ++ r) (bytes-append l m) ∙ sym (append_assoc (write a) (bytes_of l) (bytes_of m))

-- ---- there and back
module _ {A : Type 0} (width : ℕ) (write : A → List ℕ) (wide : (a : A) → length (write a) ≡ width) where
  -- Each item takes its width.
  pub bytes-length : (l : List A) → length (bytes_of write l) ≡ width * length l
  unfolding bytes_of
  bytes-length [] = sym (mul-zero width)
  bytes-length (a ∷ l) = let rest = bytes-length l in rw (length-append (write a) (bytes_of write l)) (omega (arith, wide a))

  module _ (read : List ℕ → A) where
    -- What was written is read, whatever follows it.
    pub read-written : (l : List A) (rest : List ℕ) → ((a : A) (more : List ℕ) → Mem a l → read (write a ++ more) ≡ a)
        → items_in width read (length l) (bytes_of write l ++ rest) ≡ l
    unfolding items_in bytes_of
    read-written [] rest back = refl
    read-written (a ∷ l) rest back =
        rw (append_assoc (write a) (bytes_of write l) rest)
        (ap₂ (λ (b : A) (r : List A). b ∷ r) (back a (bytes_of write l ++ rest) (here refl))
        (ap (items_in width read (length l)) (drop_at (write a) (bytes_of write l ++ rest) width (wide a))
        ∙ read-written l rest (λ b more m. back b more (there m))))

    -- What was read is written as the bytes it was read from, where each item fits.
    pub written_read : (Fits : A → Type 0) → ((b : List ℕ) → Bytes b → width ≤ length b → Fits (read b) → write (read b) ≡ take width b)
        → (n : ℕ) (bytes : List ℕ) → Bytes bytes → width * n ≤ length bytes → ((a : A) → Mem a (items_in width read n bytes) → Fits a)
        → bytes_of write (items_in width read n bytes) ≡ take (width * n) bytes
    unfolding items_in bytes_of
    written_read Fits forth zero bytes g h fit = rw (mul-zero width) refl
    written_read Fits forth (suc n) bytes g h fit =
        let first : width ≤ length bytes = omega arith in
        let after : width * n ≤ length (drop width bytes) = rw (length-drop width bytes) (omega arith) in
        let whole : width + width * n ≡ width * suc n = omega arith in
        ap₂ ◌++◌ (forth bytes g first (fit (read bytes) (here refl)))
        (written_read Fits forth n (drop width bytes) (bytes_left width bytes g) after (λ a m. fit a (there m)))
        ∙ sym (take-add width (width * n) bytes) ∙ ap (λ (k : ℕ). take k bytes) whole
