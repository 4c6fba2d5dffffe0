-- How code goes through items of a fixed width one after the other, for any width and any kind of item: what is settled after each step, and what is left at
-- the end.
use Rattle.std.specs.Prelude.{◌≡◌, Bool, true, false, List, [], ◌∷◌, ℕ, ◌+◌, ◌*◌, ◌<◌, ◌≤◌, length, drop}
use Rattle.std.proofs.Common.{sym, ◌∙◌, ap, ap₂, arith, add-one, drop-cons}
use Rattle.std.proofs.Math.Seq.{drop-length}
use Rattle.laws.specs.Sorted.{ascending}
use Rattle.laws.specs.Truth.{all}
use Rattle.group_record.specs.Items.{items_in, items-length, item-at}

module _ {A : Type 0} (width : ℕ) (read : List ℕ → A) (n : ℕ) (bytes : List ℕ) where
  -- The first of what is left.
  pub next-item : (i : ℕ) → i < n → drop i (items_in width read n bytes) ≡ read (drop (width * i) bytes) ∷ drop (i + 1) (items_in width read n bytes)
  next-item i h =
      let items = items_in width read n bytes in
      drop-cons items i (read []) (omega (arith, items-length width read n bytes))
      ∙ ap₂ (λ (a : A) (r : List A). a ∷ r) (item-at width read n bytes i (read []) h) (ap (λ (k : ℕ). drop k items) (sym (add-one i)))

  pub none_left : (i : ℕ) → n ≤ i → i ≤ n → drop i (items_in width read n bytes) ≡ []
  none_left i h k =
      let items = items_in width read n bytes in
      let end : i ≡ length items = omega (arith, items-length width read n bytes) in
      ap (λ (j : ℕ). drop j items) end ∙ drop-length items

  -- A test of every item: it goes on, fails, or is done.
  module _ (test : A → Bool) where
    pub all-next : (i : ℕ) → i < n → test (read (drop (width * i) bytes)) ≡ true
        → all test (drop i (items_in width read n bytes)) ≡ all test (drop (i + 1) (items_in width read n bytes))
    unfolding all
    all-next i h e = rw (next-item i h, e)

    pub all-stop : (i : ℕ) → i < n → test (read (drop (width * i) bytes)) ≡ false → all test (drop i (items_in width read n bytes)) ≡ false
    unfolding all
    all-stop i h e = rw (next-item i h, e)

    pub all_end : (i : ℕ) → n ≤ i → i ≤ n → all test (drop i (items_in width read n bytes)) ≡ true
    unfolding all
    all_end i h k = rw (none_left i h k)

  -- The order of neighbours: it goes on, fails, or is done with the last item.
  module _ (before : A → A → Bool) where
    pub ascending-next : (i : ℕ) → i + 1 < n → before (read (drop (width * i) bytes)) (read (drop (width * (i + 1)) bytes)) ≡ true
        → ascending before (drop i (items_in width read n bytes)) ≡ ascending before (drop (i + 1) (items_in width read n bytes))
    unfolding ascending
    ascending-next i h e = rw (next-item i (omega arith), next-item (i + 1) h, e)

    pub ascending-stop : (i : ℕ) → i + 1 < n → before (read (drop (width * i) bytes)) (read (drop (width * (i + 1)) bytes)) ≡ false
        → ascending before (drop i (items_in width read n bytes)) ≡ false
    unfolding ascending
    ascending-stop i h e = rw (next-item i (omega arith), next-item (i + 1) h, e)

    pub ascending-end : (i : ℕ) → n ≤ i + 1 → i < n → ascending before (drop i (items_in width read n bytes)) ≡ true
    unfolding ascending
    ascending-end i h k = rw (next-item i k, none_left (i + 1) h (omega arith))
