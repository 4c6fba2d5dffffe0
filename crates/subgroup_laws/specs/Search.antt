-- The search for subgroups, or for one of each class: a list in order grows from the trivial subgroup. Each listed set h, the last first, is
-- extended by each element g; what comes has more members than h, so it stands before h, and what stands behind h is settled. An extension
-- that holds a new element below g is passed over. The idea of completeness: where a listed set, moved by a conjugation, lies inside a
-- subgroup S and is not S, its extension by the lowest element that S has more, moved back, is not passed over and lies inside S too.
use Rattle.std.specs.Prelude.{◌≡◌, refl, ◌⊎◌, Bool, true, false, not, ◌&&◌, ℕ, zero, suc, ◌+◌, ◌-◌, ◌*◌, ◌/◌, ◌^◌, ◌<◌, ◌≤◌, length, get_or, take, drop}
use Rattle.std.proofs.Common.{sym, ap, ap₂, ◌∙◌, subst, inl, inr, true≢false, lt_of_lt_of_le, arith, length-append, length-drop, take-append-drop, pow_mono, eqb-true, drop-cons, drop-drop, get_or-take, length-take-le}
use mathlib.Core.List.Memᴰ.{append_cases}
use mathlib.Core.List.Memᴰ.{append_left as mem-left}
use mathlib.Core.List.Memᴰ.{append_right as mem-right}
use mathlib.Core.List.Memᴰ.{cases_cons as cases}
use mathlib.Core.List.Memᴰ.{cast as mem-cast}
use mathlib.Core.List.Memᴰ.{head as here}
use mathlib.Core.List.Memᴰ.{not-nil}
use mathlib.Core.List.Memᴰ.{tail as there}
use mathlib.Core.List.{List, [], ◌∷◌, ◌++◌, append_assoc, Memᴰ as Mem}
use Rattle.std.proofs.Math.Decide.{ℕ_discrete, dec_lt}
use Rattle.std.specs.Int.Count.{ones}
use Rattle.std.proofs.lemmas.Bool.{not-true}
use Rattle.std.proofs.lemmas.List.{take-append-le, drop-append-le}
use Rattle.laws.specs.ListOrder.{Precedes, more-members, precedes-transitive, precedes-total, precedes-strict, earlier, earlier-precedes, precedes-earlier}
use Rattle.laws.specs.Sets.{member, member_below, Subset, subset-antisymmetric, ones-subset, ones-proper, member-singleton}
use Rattle.laws.specs.Sorted.{Sorted, sorted-cons, sorted-append, append-sorted-left, append-sorted-right, append-sorted-across, before-all, sorted-places}
use Rattle.laws.specs.Truth.{passes-or-fails, and_both, both-and}
use Rattle.laws.specs.Indices.{member-at}
use Rattle.subgroup_laws.specs.Adjoin.{Barred, Extension}
use Rattle.subgroup_laws.specs.Bounded.{FirstPassing, first-cases}
use Rattle.subgroup_laws.specs.Conjugation.{conjugate-ones, conjugate-subset, conjugate-set-by-identity, conjugate-set-twice, conjugate-set-back, conjugate-set-forth, conjugate-subgroup, inverse-below}
use Rattle.subgroup_laws.specs.Groups.{Group, inverse_of}
use Rattle.subgroup_laws.specs.Lists.{Chosen}
use Rattle.subgroup_laws.specs.Slots.{Place, packed, bytes_of, moved_up, slot_at, Words, slot-packed, insert_at, inserted}
use Rattle.subgroup_laws.specs.Subsets.{Subgroup, conjugate_of}

-- ---- lists

-- a member has a place
pub mem-place : (l : List ℕ) {x : ℕ} → Mem x l → (i : ℕ) × (i < length l) × (get_or l i 0 ≡ x)
mem-place (y ∷ l) (here e) = (zero, omega arith, sym e)
mem-place (y ∷ l) (there m) = let (i, h, e) = mem-place l m in (suc i, omega arith, e)
mem-place [] x3 = elim x3 [ ]

-- an old member stays when one is put in
pub insert-member : (p m : ℕ) (l : List ℕ) {x : ℕ} → Mem x l → Mem x (insert_at p m l)
insert-member p m l {x} k = elim (append_cases (take p l) {t = drop p l} (subst (λ (r : List ℕ). Mem x r) (sym (take-append-drop p l)) k)) [
  | inl h ↦ mem-left (m ∷ drop p l) h
  | inr h ↦ mem-right (take p l) (there h)
]

-- what stands in the longer list is the new member or an old one
pub insert-source : (p m : ℕ) (l : List ℕ) {x : ℕ} → Mem x (insert_at p m l) → (x ≡ m) ⊎ Mem x l
insert-source p m l {x} k = elim (append_cases (take p l) {t = m ∷ drop p l} k) [
  | inl h ↦ inr (subst (λ (r : List ℕ). Mem x r) (take-append-drop p l) (mem-left (drop p l) h))
  | inr h ↦ elim (cases h) [
    | inl e ↦ inl e
    | inr j ↦ inr (subst (λ (r : List ℕ). Mem x r) (take-append-drop p l) (mem-right (take p l) j))
  ]
]

-- the new member is in it
pub insert-here : (p m : ℕ) (l : List ℕ) → Mem m (insert_at p m l)
insert-here p m l = mem-right (take p l) (here refl)

-- it is longer by one
pub insert-length : (p m : ℕ) (l : List ℕ) → length (insert_at p m l) ≡ length l + 1
insert-length p m l =
    length-append (take p l) (m ∷ drop p l)
    ∙ omega (arith, sym (length-append (take p l) (drop p l)) ∙ ap length (take-append-drop p l))

-- a member put in before the last part
pub insert-front : (p m : ℕ) (front back : List ℕ) → p ≤ length front → insert_at p m (front ++ back) ≡ insert_at p m front ++ back
insert-front p m front back h =
    ap₂ (λ (x y : List ℕ). x ++ m ∷ y) (take-append-le p front back h) (drop-append-le p front back h)
    ∙ sym (append_assoc (take p front) (m ∷ drop p front) back)

-- a set put in after all that stand before it, and before one that it stands before
pub insert-sorted : (p m : ℕ) (l : List ℕ) → Sorted Precedes l → p ≤ length l → ((i : ℕ) → i < p → Precedes (get_or l i 0) m)
    → (p < length l → Precedes m (get_or l p 0)) → Sorted Precedes (insert_at p m l)
insert-sorted p m l sorted h before after =
    sorted-append Precedes (append-sorted-left Precedes (take p l) (drop p l) parts) (sorted-cons first
    (append-sorted-right Precedes (take p l) (drop p l) parts))
    (λ x y i j. elim (cases j) [
      | inl e ↦ subst (λ (z : ℕ). Precedes x z) (sym e) (front-before x i)
      | inr k ↦ append-sorted-across Precedes (take p l) (drop p l) parts x y i k
    ])
  where
    parts : Sorted Precedes (take p l ++ drop p l)
    parts = subst (λ (r : List ℕ). Sorted Precedes r) (sym (take-append-drop p l)) sorted

    front-before : (x : ℕ) → Mem x (take p l) → Precedes x m
    front-before x i =
        let (j, k, e) = mem-place (take p l) i in
        let k' : j < p = let q = length-take-le p l h in omega arith in
        subst (λ (z : ℕ). Precedes z m) (sym (get_or-take p l j 0 k') ∙ e) (before j k')

    first : (y : ℕ) → Mem y (drop p l) → Precedes m y
    first y j = elim (dec_lt p (length l)) [
      | yes k ↦
          let seam = drop-cons l p 0 k in
          before-all Precedes precedes-strict (after k)
          (subst (λ (r : List ℕ). Sorted Precedes r) seam (append-sorted-right Precedes (take p l) (drop p l) parts))
          y
          (subst (λ (r : List ℕ). Mem y r) seam j)
      | no k ↦ absurd (none (drop p l) (let q = length-drop p l in omega arith) j)
    ]
      where
        none : (r : List ℕ) → length r ≡ 0 → Mem y r → ⊥
        none [] e m = not-nil m
        none (x ∷ r) e m = omega arith

-- eight bytes more are a slot more
next : (count : ℕ) → 8 * count + 8 ≡ 8 * (count + 1)
next count = omega arith

-- ---- the state of the search

module _ (n : ℕ) (◌·◌ : ℕ → ℕ → ℕ) (e : ℕ) (classes : Bool) where
  infixl 70 ◌·◌
  -- the lent bytes hold the list l of chosen sets in its order, and are otherwise as they came
  pub record Holding (came b l : List ℕ) (count : ℕ) : Type 0 where
    pub bytes : b ≡ packed l ++ drop (8 * count) came
    pub size : length l ≡ count
    pub room : 8 * count ≤ length came
    pub sorted : Sorted Precedes l
    pub chosen : (s : ℕ) → Mem s l → Chosen n ◌·◌ e classes s

  -- k is listed, or a conjugate of it where classes are asked for
  pub record Listed (l : List ℕ) (k : ℕ) : Type 0 where
    pub set : ℕ
    pub listed : Mem set l
    pub conjugator : ℕ
    pub below : conjugator < n
    pub conjugate : k ≡ conjugate_of n ◌·◌ e set conjugator
    pub same : classes ≡ false → conjugator ≡ e

  -- the extension of h by g is listed; or it may be passed over, as it holds a new element below g
  abbrev pub Settled : List ℕ → ℕ → ℕ → Type 0
  Settled l h g = ((k : ℕ) × Extension n ◌·◌ e h g k × Listed l k) ⊎ Barred n ◌·◌ e h g g

  -- there are more chosen sets than slots
  pub record TooMany (slots : ℕ) : Type 0 where
    pub list : List ℕ
    pub sorted : Sorted Precedes list
    pub chosen : (s : ℕ) → Mem s list → Chosen n ◌·◌ e classes s
    pub more : slots < length list

  -- a listed set stays listed in a longer list
  pub listed_more : (l m : List ℕ) → ((s : ℕ) → Mem s l → Mem s m) → (k : ℕ) → Listed l k → Listed m k
  listed_more l m f k L = record {
    set = L.set;
    listed = f _ L.listed;
    conjugator = L.conjugator;
    below = L.below;
    conjugate = L.conjugate;
    same = L.same;
  }

  -- what is settled stays so
  pub settled-more : (l m : List ℕ) → ((s : ℕ) → Mem s l → Mem s m) → (h g : ℕ) → Settled l h g → Settled m h g
  settled-more l m f h g (inl (k, E, L)) = inl (k, E, listed_more l m f k L)
  settled-more l m f h g (inr B) = inr B

  module _ (limit : n ≤ 48) where
    -- the sets fit a word
    chosen-word : (s : ℕ) → Chosen n ◌·◌ e classes s → s < 2 ^ 64
    chosen-word s C = let wide : n ≤ 64 = omega arith in lt_of_lt_of_le C.subgroup.small (pow_mono wide)

    module _ (came b l : List ℕ) (count : ℕ) (H : Holding came b l count) where
      -- all of them do
      holding-words : Words l
      holding-words s m = chosen-word s (H.chosen s m)

      -- a slot holds the set at its place
      pub holding-slot : (k : ℕ) → k < count → slot_at b k ≡ get_or l k 0
      holding-slot k h =
          ap (λ (x : List ℕ). slot_at x k) H.bytes
          ∙ slot-packed l (drop (8 * count) came) k holding-words (let q = H.size in omega arith)

      -- the sets before the place of m stand before it
      pub place-before : (m p : ℕ) → Place b count m p → (i : ℕ) → i < p → Precedes (get_or l i 0) m
      place-before m p P i h =
          let k = P.inside in
          let last : suc (p - 1) ≡ p = omega arith in
          let before : Precedes (get_or l (p - 1) 0) m =
          earlier-precedes 64 _ m (subst (λ (s : ℕ). earlier 64 s m ≡ true) (holding-slot (p - 1) (omega arith)) (P.before (p - 1) last)) in
          elim (ℕ_discrete i (p - 1)) [
            | yes q ↦ rw q before
            | no q ↦ precedes-transitive _ _ m (sorted-places Precedes H.sorted 0 i (p - 1) (omega arith) (let r = H.size in omega arith)) before
          ]

      -- a set that is put in
      module _ (m p : ℕ) (C : Chosen n ◌·◌ e classes m) (P : Place b count m p) (apart : p < count → slot_at b p ≡ m → ⊥) where
        -- m stands before the one at the place
        place_after : p < length l → Precedes m (get_or l p 0)
        place_after h =
            let k : p < count = let q = H.size in omega arith in
            let s : slot_at b p ≡ get_or l p 0 = holding-slot p k in
            let word = holding-words _ (member-at l p 0 h) in
            elim (precedes-total m (get_or l p 0) (λ q. apart k (s ∙ sym q))) [
              | inl f ↦ f
              | inr f ↦ absurd (true≢false (sym (precedes-earlier 64 _ m word f) ∙ subst (λ (z : ℕ). earlier 64 z m ≡ false) s (P.after k)))
            ]

        -- the place is one of the list
        place_inside : p ≤ length l
        place_inside = let k = P.inside in let q = H.size in omega arith

        -- the list stays in order
        pub holding-sorted : Sorted Precedes (insert_at p m l)
        holding-sorted = insert-sorted p m l H.sorted place_inside (place-before m p P) place_after

        -- the sets stay chosen
        pub holding-chosen : (s : ℕ) → Mem s (insert_at p m l) → Chosen n ◌·◌ e classes s
        holding-chosen s k = elim (insert-source p m l k) [ inl q ↦ rw q C | inr j ↦ H.chosen s j ]

        -- with no slot left there are too many
        pub holding-full : length came ≡ length b → length b / 8 ≤ count → TooMany (length came / 8)
        holding-full same none = record {
          list = insert_at p m l;
          sorted = holding-sorted;
          chosen = holding-chosen;
          more = let q = insert-length p m l in let r = H.size in let s = ap (λ (x : ℕ). x / 8) same in omega arith;
        }

        -- with one left the set is put in
        pub holding-added : (exit : List ℕ) → count < length came / 8
            → exit ≡ take (8 * p) (moved_up (8 * p) (8 * count) b) ++ (bytes_of m ++ drop (8 * p + 8) (moved_up (8 * p) (8 * count) b))
            → Holding came exit (insert_at p m l) (count + 1)
        holding-added exit room made = record {
          bytes =
              made ∙ ap (λ (x : List ℕ). take (8 * p) (moved_up (8 * p) (8 * count) x) ++
              (bytes_of m ++ drop (8 * p + 8) (moved_up (8 * p) (8 * count) x))) H.bytes
              ∙ inserted l (drop (8 * count) came) m p count H.size P.inside (rw length-drop (omega arith))
              ∙ ap (λ (x : List ℕ). packed (insert_at p m l) ++ x) (drop-drop 8 (8 * count) came ∙ ap (λ (i : ℕ). drop i came) (next count));
          size = insert-length p m l ∙ ap (λ (i : ℕ). i + 1) H.size;
          room = omega arith;
          sorted = holding-sorted;
          chosen = holding-chosen;
        }

      -- a set that is there is listed
      pub holding-present : (m p : ℕ) → p < count → slot_at b p ≡ m → Mem m l
      holding-present m p h q =
          mem-cast (sym q ∙ holding-slot p h) (member-at l p 0 (let r = H.size in omega arith))

  -- ---- completeness

  module _ (G : Group n ◌·◌ e) where
    -- h is its own extension by a member
    pub own-extension : (h g : ℕ) → Subgroup n ◌·◌ e h → member h g ≡ true → Extension n ◌·◌ e h g h
    own-extension h g H i = record { subgroup = H; over = λ x j. j; adjoined = i; least = λ u U over new x j. over x j }

    -- a listed set is listed
    pub listed-itself : (l : List ℕ) (s : ℕ) → s < 2 ^ n → Mem s l → Listed l s
    listed-itself l s small m = record {
      set = s;
      listed = m;
      conjugator = e;
      below = G.identity-below;
      conjugate = sym (conjugate-set-by-identity n ◌·◌ e G s small);
      same = λ q. refl;
    }

    -- an extension by a new element has more members, and so has each conjugate of it
    pub extension-precedes : (h g k m : ℕ) → Extension n ◌·◌ e h g k → member h g ≡ false → ones m ≡ ones k → Precedes m h
    extension-precedes h g k m E new same =
        let more = ones-proper h k E.over (λ q. true≢false (sym E.adjoined ∙ ap (λ (s : ℕ). member s g) (sym q) ∙ new)) in
        more-members (omega arith)

    -- the trivial subgroup is listed, and each listed set is settled for each element
    pub record Complete (l : List ℕ) : Type 0 where
      pub trivial : Mem (2 ^ e) l
      pub chosen : (s : ℕ) → Mem s l → Chosen n ◌·◌ e classes s
      pub settled : (h g : ℕ) → Mem h l → g < n → Settled l h g

    module _ (l : List ℕ) (C : Complete l) (S : ℕ) (T : Subgroup n ◌·◌ e S) where
      -- a listed set, moved by a conjugation, lies inside S
      record Inside : Type 0 where
        set : ℕ
        listed : Mem set l
        conjugator : ℕ
        below : conjugator < n
        same : classes ≡ false → conjugator ≡ e
        within : Subset (conjugate_of n ◌·◌ e set conjugator) S

      -- the trivial subgroup lies inside
      inside-start : Inside
      inside-start = record {
        set = 2 ^ e;
        listed = C.trivial;
        conjugator = e;
        below = G.identity-below;
        same = λ q. refl;
        within = λ x m. trivial-inside x (subst (λ (s : ℕ). member s x ≡ true)
            (conjugate-set-by-identity n ◌·◌ e G (2 ^ e) (C.chosen _ C.trivial).subgroup.small) m);
      }
        where
          trivial-inside : (x : ℕ) → member (2 ^ e) x ≡ true → member S x ≡ true
          trivial-inside x m = subst (λ (s : ℕ). member S s ≡ true) (eqb-true e x (sym (member-singleton e x) ∙ m)) T.holds-identity

      -- a listed set that lies inside
      module _ (I : Inside) where
        -- the listed set
        abbrev old : ℕ
        old = I.set

        -- its conjugator
        abbrev mover : ℕ
        mover = I.conjugator

        -- and the way back
        abbrev back : ℕ
        back = inverse_of n ◌·◌ e mover

        -- the way back is an element
        back_below : back < n
        back_below = inverse-below n ◌·◌ e G mover I.below

        -- the listed set is one of elements
        small-old : old < 2 ^ n
        small-old = (C.chosen old I.listed).subgroup.small

        -- S moved back
        abbrev behind : ℕ
        behind = conjugate_of n ◌·◌ e S back

        -- it is a subgroup
        behind-subgroup : Subgroup n ◌·◌ e behind
        behind-subgroup = conjugate-subgroup n ◌·◌ e G S back back_below T

        -- the listed set lies inside it
        old-behind : Subset old behind
        old-behind = subst (λ (s : ℕ). Subset s behind) (conjugate-set-back n ◌·◌ e G old mover small-old I.below)
            (conjugate-subset n ◌·◌ e G _ S back T.small back_below I.within)

        -- an element that S, moved back, has more than the listed set
        abbrev is_more : ℕ → Bool
        is_more j = member behind j && not (member old j)

        -- without one the listed set is S, moved back
        none_more : ((j : ℕ) → j < n → is_more j ≡ false) → S ≡ conjugate_of n ◌·◌ e old mover
        none_more none =
            sym (conjugate-set-forth n ◌·◌ e G S mover T.small I.below)
            ∙ ap (λ (s : ℕ). conjugate_of n ◌·◌ e s mover) (subset-antisymmetric behind old
            (λ j m. held j m (none j (member_below n behind j behind-subgroup.small m))) old-behind)
          where
            held : (j : ℕ) → member behind j ≡ true → is_more j ≡ false → member old j ≡ true
            held j m f = elim (passes-or-fails (member old j)) [
              | inl i ↦ i
              | inr o ↦ absurd (true≢false (sym (both-and _ _ m (ap not o)) ∙ f))
            ]

        -- with a lowest one the extension by it is not passed over, is listed, and lies inside too
        module _ (i : ℕ) (F : FirstPassing is_more n i) where
          -- it is one of S, moved back
          more-held : member behind i ≡ true
          more-held = (and_both (member behind i) (not (member old i)) F.passes).0

          -- and none of the listed set
          more-new : member old i ≡ false
          more-new = not-true _ (and_both (member behind i) (not (member old i)) F.passes).1

          -- the extension lies inside
          extended-inside : (k : ℕ) → Extension n ◌·◌ e old i k → Listed l k → (J : Inside) × (ones old < ones J.set)
          extended-inside k E L = (
            record {
              set = L.set;
              listed = L.listed;
              conjugator = L.conjugator · mover;
              below = G.product-below _ mover L.below I.below;
              same = λ q. ap₂ ◌·◌ (L.same q) (I.same q) ∙ G.left_identity e G.identity-below;
              within = λ z j. inner z (subst (λ (s : ℕ). member s z ≡ true) whole j);
            },
            subst (λ (m : ℕ). ones old < m) (ap ones L.conjugate ∙ conjugate-ones n ◌·◌ e G L.set L.conjugator small-set L.below)
                (ones-proper old k E.over (λ q. true≢false (sym E.adjoined ∙ ap (λ (s : ℕ). member s i) (sym q) ∙ more-new))),
          )
            where
              small-set : L.set < 2 ^ n
              small-set = (C.chosen _ L.listed).subgroup.small

              whole : conjugate_of n ◌·◌ e L.set (L.conjugator · mover) ≡ conjugate_of n ◌·◌ e k mover
              whole = sym (conjugate-set-twice n ◌·◌ e G L.set L.conjugator mover small-set L.below I.below)
                  ∙ ap (λ (s : ℕ). conjugate_of n ◌·◌ e s mover) (sym L.conjugate)

              inner : Subset (conjugate_of n ◌·◌ e k mover) S
              inner = subst (λ (s : ℕ). Subset (conjugate_of n ◌·◌ e k mover) s) (conjugate-set-forth n ◌·◌ e G S mover T.small I.below)
                  (conjugate-subset n ◌·◌ e G k behind mover behind-subgroup.small I.below (E.least behind behind-subgroup old-behind more-held))

          -- an element that bars the extension would be a lower one
          not-barred : Barred n ◌·◌ e old i i → ⊥
          not-barred B =
              let held = B.forced.held behind behind-subgroup old-behind more-held in
              true≢false (sym (both-and _ _ held (ap not B.new)) ∙ F.before B.element B.low)

          -- so a listed set with more members lies inside
          inside-more : (J : Inside) × (ones old < ones J.set)
          inside-more = elim (C.settled old i I.listed F.below) [
            | inl (k, E, L) ↦ extended-inside k E L
            | inr B ↦ absurd (not-barred B)
          ]

        -- no set inside S has more members than S
        inside-ones : ones old ≤ ones S
        inside-ones = subst (λ (m : ℕ). m ≤ ones S) (conjugate-ones n ◌·◌ e G old mover small-old I.below) (ones-subset _ S I.within)

      -- S is a conjugate of a listed set, and the set itself where no classes are asked for
      abbrev Reached : Type 0
      Reached = (s x : ℕ) × Mem s l × (x < n) × (S ≡ conjugate_of n ◌·◌ e s x) × (classes ≡ false → x ≡ e)

      -- it is so where S has nothing more, and else a listed set with more members lies inside
      reached-or-more : (I : Inside) → Reached ⊎ ((J : Inside) × (ones I.set < ones J.set))
      reached-or-more I = elim (first-cases (is_more I) n) [
        | inr (q, none) ↦ inl (I.set, I.conjugator, I.listed, I.below, none_more I none, I.same)
        | inl F ↦ inr (inside-more I _ F)
      ]

      -- which cannot go on for ever
      reached : (fuel : ℕ) (I : Inside) → ones S ≤ fuel + ones I.set → Reached
      reached zero I enough = elim (reached-or-more I) [ inl R ↦ R | inr (J, more) ↦ absurd (let most = inside-ones J in omega arith) ]
      reached (suc fuel) I enough = elim (reached-or-more I) [ inl R ↦ R | inr (J, more) ↦ reached fuel J (omega arith) ]

      -- a chosen subgroup is listed
      pub complete-listed : Chosen n ◌·◌ e classes S → Mem S l
      complete-listed K = let (s, x, m, h, q, f) = reached (ones S) inside-start (omega arith) in choose classes refl s x m h q f
        where
          choose : (b : Bool) → classes ≡ b → (s x : ℕ) → Mem s l → x < n → S ≡ conjugate_of n ◌·◌ e s x → (classes ≡ false → x ≡ e) → Mem S l
          choose false c s x m h q f =
              mem-cast (q ∙ ap (conjugate_of n ◌·◌ e s) (f c) ∙ conjugate-set-by-identity n ◌·◌ e G s (C.chosen s m).subgroup.small) m
          choose true c s x m h q f = elim (ℕ_discrete S s) [
            | yes p ↦ mem-cast p m
            | no p ↦ elim (precedes-total S s p) [
              | inl before ↦ absurd ((C.chosen s m).first c x h (subst (λ (z : ℕ). Precedes z s) q before))
              | inr before ↦ absurd (K.first c (inverse_of n ◌·◌ e x) (inverse-below n ◌·◌ e G x h)
                  (subst (λ (z : ℕ). Precedes z S) (sym (conjugate-set-back n ◌·◌ e G s x (C.chosen s m).subgroup.small h)
                  ∙ ap (λ (z : ℕ). conjugate_of n ◌·◌ e z (inverse_of n ◌·◌ e x)) (sym q)) before))
            ]
          ]
