-- The loops of the search: what each of them keeps, and what the search answers in the end.
use Rattle.std.specs.Prelude.{◌≡◌, refl, ◌⊎◌, Bool, true, false, ℕ, suc, ◌+◌, ◌*◌, ◌-◌, ◌/◌, ◌^◌, ◌<◌, ◌≤◌, get_or, take}
use Rattle.std.proofs.Math.Path.{sym, ap, ap₂}
use Rattle.std.proofs.Common.{◌∙◌, subst, inl, inr, true≢false, length-append, length-drop, drop_at, drop-drop}
use mathlib.Core.List.Memᴰ.{append_right as mem-right}
use mathlib.Core.List.Memᴰ.{cases_cons as cases}
use mathlib.Core.List.Memᴰ.{eq_of_singleton as mem-one}
use mathlib.Core.List.Memᴰ.{head as here}
use mathlib.Core.List.Memᴰ.{not-nil}
use mathlib.Core.List.{List, [], ◌∷◌, ◌++◌, Memᴰ as Mem}
use Rattle.std.proofs.Math.Decide.{ℕ_discrete, dec_lt}
use native.Mathlib.Omega.{arith}
use Rattle.std.proofs.Math.ListN.{length, drop}
use Rattle.std.proofs.Math.Seq.{split_at, drop-append-add}
use Rattle.laws.specs.ListOrder.{Precedes, precedes-irreflexive}
use Rattle.laws.specs.Sets.{member, member-empty, subset-antisymmetric}
use Rattle.laws.specs.Sorted.{sorted-one}
use Rattle.laws.specs.Indices.{member-at}
use Rattle.subgroup_laws.specs.Adjoin.{Barred, Extension, higher-barred, singleton-self, singleton-only, trivial-subgroup}
use Rattle.subgroup_laws.specs.Conjugation.{conjugate-source, conjugate-holds, conjugate-of-identity}
use Rattle.subgroup_laws.specs.Cosets.{coset_of}
use Rattle.subgroup_laws.specs.Groups.{Group}
use Rattle.subgroup_laws.specs.ListedSets.{listed, listed-unique, listed-longest}
use Rattle.subgroup_laws.specs.Lists.{Chosen, chosen, chosen-passes, passes-chosen}
use Rattle.subgroup_laws.specs.Removal.{outside_of, outside-cases, rest_of, rest-cases}
use Rattle.subgroup_laws.specs.Representatives.{Represented}
use Rattle.subgroup_laws.specs.Search.{Holding, holding-slot, Complete, complete-listed, Settled, TooMany, settled-more, own-extension, listed-itself, extension-precedes}
use Rattle.subgroup_laws.specs.Slots.{packed, packed-left-over, bytes_of, slot_at, written}
use Rattle.subgroup_laws.specs.Subsets.{Subgroup, conjugate_of}
use Rattle.element_sets.specs.Insertion.{Inserted, added}
use Rattle.subgroup_search.specs.Progress.{Progress, counted, overflow, inserted-present, inserted-full, inserted-added}
use Rattle.std.specs.Prelude.{Option, Some, None}
use Rattle.element_sets.specs.declared.slots.Insertion.TheVariants.{Present, Full, Added}

-- the sets that are counted have slots
abbrev pub Room : Option ℕ → List ℕ → Type 0
Room (Some count) b = 8 * count ≤ length b
Room None b = Unit

-- a set was put in only where a slot was free
pub inserted-room : {b : List ℕ} {count m : ℕ} {exit : List ℕ} → Inserted b count m exit Added → count < length b / 8
inserted-room (added room p Q apart q) = room

module _ (n : ℕ) (◌·◌ : ℕ → ℕ → ℕ) (e : ℕ) (classes : Bool) where
  -- what the search answers: the list in the first slots and its length; or that the list is longer than the slots, which are spoilt
  abbrev pub SearchResult : List ℕ → List ℕ → Option ℕ → Type 0
  SearchResult b exit (Some count) = (exit ≡ written (listed n (chosen n ◌·◌ e classes)) b) × (count ≡ length (listed n (chosen n ◌·◌ e classes)))
      × (8 * count ≤ length b)
  SearchResult b exit None = (length b / 8 < length (listed n (chosen n ◌·◌ e classes))) × (drop (8 * (length b / 8)) exit ≡ drop (8 * (length b / 8)) b)

  -- extensions of h were put into the list, so that Done holds of it
  pub record Extended (h : ℕ) (Done : List ℕ → Type 0) (count : ℕ) (b exit : List ℕ) (r : Option ℕ) : Type 0 where
    pub room : Room r exit
    pub progress : (came front tail : List ℕ) → Holding n ◌·◌ e classes came b (front ++ h ∷ tail) count → length came ≡ length b
        → Progress n ◌·◌ e classes came front tail exit h Done r

  -- the extension by g
  abbrev pub ExtendedBy : ℕ → ℕ → ℕ → List ℕ → List ℕ → Option ℕ → Type 0
  ExtendedBy h g = Extended h (λ l. Settled n ◌·◌ e classes l h g)

  -- the extensions by all elements that are not left
  abbrev pub ExtendedBut : ℕ → ℕ → ℕ → List ℕ → List ℕ → Option ℕ → Type 0
  ExtendedBut h left = Extended h (λ l. (j : ℕ) → j < n → (member left j ≡ true) ⊎ Settled n ◌·◌ e classes l h j)

  -- the extensions by all elements
  abbrev pub ExtendedByAll : ℕ → ℕ → List ℕ → List ℕ → Option ℕ → Type 0
  ExtendedByAll h = Extended h (λ l. (j : ℕ) → j < n → Settled n ◌·◌ e classes l h j)

  -- nothing was put in, as the extension is passed over
  pub extended-barred : (h g count : ℕ) (b : List ℕ) → 8 * count ≤ length b → Barred n ◌·◌ e h g g → ExtendedBy h g count b b (Some count)
  extended-barred h g count b room B = record { room = room; progress = λ came front tail H same. counted front H (λ s i. i) (inr B) }

  module _ (G : Group n ◌·◌ e) (h g : ℕ) (S : Subgroup n ◌·◌ e h) where
    module _ (limit : n ≤ 48) (k m : ℕ) (E : Extension n ◌·◌ e h g k) (new : member h g ≡ false) (R : Represented n ◌·◌ e classes k m) where
      -- an extension whose representative is listed is settled
      represented-settled : (l : List ℕ) → Mem m l → Settled n ◌·◌ e classes l h g
      represented-settled l i = inl (
        k,
        E,
        record {
          set = m;
          listed = i;
          conjugator = R.conjugator;
          below = R.below;
          conjugate = R.conjugate;
          same = R.same;
        },
      )

      -- the representative stands before h
      precedes : Precedes m h
      precedes = extension-precedes n ◌·◌ e classes G h g k m E new R.count

      -- the three outcomes of the insertion
      pub extended-present : (count : ℕ) (b exit : List ℕ) → 8 * count ≤ length exit → Inserted b count m exit Present
          → ExtendedBy h g count b exit (Some count)
      extended-present count b exit room I = record {
        room = room;
        progress = λ came front tail H same.
            inserted-present n ◌·◌ e classes limit came b front tail h count H same m R.chosen precedes _ (λ l i f. represented-settled l i) I;
      }

      -- no slot was free
      pub extended-full : (count : ℕ) (b exit : List ℕ) → Inserted b count m exit Full → ExtendedBy h g count b exit None
      extended-full count b exit I = record {
        room = tt;
        progress = λ came front tail H same.
            inserted-full n ◌·◌ e classes limit came b front tail h count H same m R.chosen precedes _ (λ l i f. represented-settled l i) I;
      }

      -- the representative was put in
      pub extended-added : (count : ℕ) (b exit : List ℕ) → 8 * (count + 1) ≤ length exit → Inserted b count m exit Added
          → ExtendedBy h g count b exit (Some (count + 1))
      extended-added count b exit room I = record {
        room = room;
        progress = λ came front tail H same.
            inserted-added n ◌·◌ e classes limit came b front tail h count H same m R.chosen precedes _ (λ l i f. represented-settled l i) I;
      }

  -- the loop over the elements that are not members of h: of each coset one is tried
  module _ (G : Group n ◌·◌ e) (h : ℕ) (S : Subgroup n ◌·◌ e h) where
    -- h is its own extension by its members
    member_settled : (g : ℕ) → member h g ≡ true → (l : List ℕ) → Mem h l → Settled n ◌·◌ e classes l h g
    member_settled g i l m = inl (h, own-extension n ◌·◌ e classes G h g S i, listed-itself n ◌·◌ e classes G l h S.small m)

    -- no element was tried
    pub extended-start : (count : ℕ) (b : List ℕ) → 8 * count ≤ length b → ExtendedBut h (rest_of n h) count b b (Some count)
    extended-start count b room = record {
      room = room;
      progress = λ came front tail H same. counted front H (λ s i. i) (λ j l. elim (rest-cases n h j l) [
        | inl i ↦ inl i
        | inr i ↦ inr (member_settled j i (front ++ h ∷ tail) (mem-right front (here refl)))
      ]);
    }

    -- the lowest that is left was tried, and its coset is done with it
    pub extended-next : (left g count middle : ℕ) (b between exit : List ℕ) (r : Option ℕ) → length between ≡ length b
        → g < n → member h g ≡ false → ((j : ℕ) → j < g → member left j ≡ false)
        → ExtendedBut h left count b between (Some middle) → ExtendedBy h g middle between exit r
        → ExtendedBut h (outside_of left (coset_of n ◌·◌ e h g)) count b exit r
    extended-next left g count middle b between exit r same l new lowest X Y = record {
      room = Y.room;
      progress = λ came front tail H long. join came front tail (X.progress came front tail H long) (long ∙ sym same);
    }
      where
        -- what the coset of g holds is settled with g
        tried : (list : List ℕ) → Settled n ◌·◌ e classes list h g → (j : ℕ) → member left j ≡ true
            → (member (outside_of left (coset_of n ◌·◌ e h g)) j ≡ true) ⊎ Settled n ◌·◌ e classes list h j
        tried list this j i = elim (outside-cases left (coset_of n ◌·◌ e h g) j i) [
          | inl k ↦ inl k
          | inr k ↦ inr (elim (ℕ_discrete j g) [
            | yes q ↦ subst (λ (z : ℕ). Settled n ◌·◌ e classes list h z) (sym q) this
            | no q ↦ elim (dec_lt j g) [
              | yes lower ↦ absurd (true≢false (sym i ∙ lowest j lower))
              | no higher ↦ inr (higher-barred n ◌·◌ e h j G S 0 g l new k (omega arith))
            ]
          ])
        ]

        join : (came front tail : List ℕ) → Progress n ◌·◌ e classes came front tail between h (λ l. (j : ℕ) → j < n → (member left j ≡ true)
            ⊎ Settled n ◌·◌ e classes l h j) (Some middle)
            → length came ≡ length between
            → Progress n ◌·◌ e classes came front tail exit h (λ l. (j : ℕ) → j < n → (member (outside_of left (coset_of n ◌·◌ e h g)) j ≡ true)
            ⊎ Settled n ◌·◌ e classes l h j) r
        join came front tail (counted front' H more settled) long = more-join (Y.progress came front' tail H long)
          where
            more-join : {r : Option ℕ} → Progress n ◌·◌ e classes came front' tail exit h (λ l. Settled n ◌·◌ e classes l h g) r
                → Progress n ◌·◌ e classes came front tail exit h (λ l. (j : ℕ) → j < n → (member (outside_of left (coset_of n ◌·◌ e h g)) j ≡ true)
                ⊎ Settled n ◌·◌ e classes l h j) r
            more-join (counted front'' H' more' this) = counted front'' H' (λ s i. more' s (more s i))
                (λ j k. elim (settled j k) [
                  | inl i ↦ tried (front'' ++ h ∷ tail) this j i
                  | inr done ↦ inr (settled-more n ◌·◌ e classes (front' ++ h ∷ tail) (front'' ++ h ∷ tail) more' h j done)
                ])
            more-join (overflow l c H' many) = overflow l c H' many

    -- where there are too many sets it does not matter how far one came
    pub extended-overflow : (left count : ℕ) (b exit : List ℕ) → ExtendedBut h left count b exit None → ExtendedByAll h count b exit None
    extended-overflow left count b exit X = record {
      room = tt;
      progress = λ came front tail H same. widen came front tail (X.progress came front tail H same);
    }
      where
        widen : (came front tail : List ℕ) → Progress n ◌·◌ e classes came front tail exit h (λ l. (j : ℕ) → j < n → (member left j ≡ true)
            ⊎ Settled n ◌·◌ e classes l h j) None
            → Progress n ◌·◌ e classes came front tail exit h (λ l. (j : ℕ) → j < n → Settled n ◌·◌ e classes l h j) None
        widen came front tail (overflow l c H many) = overflow l c H many

    -- where none is left all were tried
    pub extended-end : (left count middle : ℕ) (b exit : List ℕ) → left ≡ 0 → ExtendedBut h left count b exit (Some middle)
        → ExtendedByAll h count b exit (Some middle)
    extended-end left count middle b exit none X = record {
      room = X.room;
      progress = λ came front tail H same. all came front tail (X.progress came front tail H same);
    }
      where
        all : (came front tail : List ℕ) → Progress n ◌·◌ e classes came front tail exit h (λ l. (j : ℕ) → j < n → (member left j ≡ true)
            ⊎ Settled n ◌·◌ e classes l h j) (Some middle)
            → Progress n ◌·◌ e classes came front tail exit h (λ l. (j : ℕ) → j < n → Settled n ◌·◌ e classes l h j) (Some middle)
        all came front tail (counted front' H more settled) = counted front' H more (λ j k. elim (settled j k) [
          | inl i ↦ absurd (true≢false (sym i ∙ ap (λ (z : ℕ). member z j) none ∙ member-empty j))
          | inr done ↦ done
        ])

  -- ---- the outer loop

  -- the lent bytes hold a list, of which the last `done` sets are settled
  pub record Searching (came b : List ℕ) (count done : ℕ) : Type 0 where
    pub list : List ℕ
    pub holding : Holding n ◌·◌ e classes came b list count
    pub trivial : Mem (2 ^ e) list
    pub settled : (h : ℕ) → Mem h (drop (count - done) list) → (g : ℕ) → g < n → Settled n ◌·◌ e classes list h g

  module _ (G : Group n ◌·◌ e) (limit : n ≤ 48) where
    -- it is its only conjugate
    trivial-conjugate : (g : ℕ) → g < n → conjugate_of n ◌·◌ e (2 ^ e) g ≡ 2 ^ e
    trivial-conjugate g h = subset-antisymmetric _ _
        (λ y i. let (x, k, m, q) = conjugate-source n ◌·◌ e G (2 ^ e) g y i in
        rw (← q, singleton-only e x m, conjugate-of-identity n ◌·◌ e G g h) (singleton-self e))
        (λ y i. rw (singleton-only e y i)
        (subst (λ (z : ℕ). member (conjugate_of n ◌·◌ e (2 ^ e) g) z ≡ true) (conjugate-of-identity n ◌·◌ e G g h)
        (conjugate-holds n ◌·◌ e G (2 ^ e) g e (trivial-subgroup n ◌·◌ e G).small h (singleton-self e))))

    -- so it is chosen
    trivial-chosen : Chosen n ◌·◌ e classes (2 ^ e)
    trivial-chosen = record {
      subgroup = (trivial-subgroup n ◌·◌ e G);
      first = λ q g h p. precedes-irreflexive (2 ^ e) (subst (λ (z : ℕ). Precedes z (2 ^ e)) (trivial-conjugate g h) p);
    }

    -- and so is each member of the list that holds only it
    only-trivial : (s : ℕ) → Mem s (2 ^ e ∷ []) → Chosen n ◌·◌ e classes s
    only-trivial s m = rw (mem-one m) trivial-chosen

    -- the search begins with it
    pub searching-start : (came b : List ℕ) → 8 ≤ length came → b ≡ take 0 came ++ (bytes_of (2 ^ e) ++ drop 8 came) → Searching came b 1 0
    unfolding packed
    searching-start came b room q = record {
      list = 2 ^ e ∷ [];
      holding = record { bytes = q; size = refl; room = room; sorted = sorted-one Precedes; chosen = only-trivial };
      trivial = here refl;
      settled = λ h m. absurd (not-nil m);
    }

    -- with no slot there are too many sets at once
    pub searching-none : (came : List ℕ) → length came < 8 → TooMany n ◌·◌ e classes (length came / 8)
    searching-none came h = record { list = 2 ^ e ∷ []; sorted = sorted-one Precedes; chosen = only-trivial; more = omega arith }

    -- the list is longer than the slots
    too_many : (slots : ℕ) → TooMany n ◌·◌ e classes slots → slots < length (listed n (chosen n ◌·◌ e classes))
    too_many slots M =
        let h = M.more in
        let k = listed-longest n (chosen n ◌·◌ e classes) M.list M.sorted
        (λ s m. ((M.chosen s m).subgroup.small, passes-chosen n ◌·◌ e G classes s (M.chosen s m))) in
        omega arith

    -- so the search has overflowed
    pub none-result : (came : List ℕ) → length came < 8 → SearchResult came came None
    none-result came h = (too_many _ (searching-none came h), refl)

    -- the bytes that are left over are as they came
    left_over : (came b l : List ℕ) (count : ℕ) → Holding n ◌·◌ e classes came b l count → drop (8 * (length came / 8)) b ≡ drop (8 * (length came / 8)) came
    left_over came b l count H = packed-left-over came b l count H.size H.room H.bytes

    module _ (came b : List ℕ) (count done : ℕ) (S : Searching came b count done) (more : done < count) where
      -- the place of the last set that is not settled
      abbrev at : ℕ
      at = count - 1 - done

      -- it is a place of the list
      at-below : at < length S.list
      at-below = let q = S.holding.size in omega arith

      -- the set in the slot before the settled ones
      pub searching-slot : slot_at b at ≡ get_or S.list at 0
      searching-slot = holding-slot n ◌·◌ e classes limit came b S.list count S.holding at (omega arith)

      -- the set there is a subgroup
      pub searching-subgroup : Subgroup n ◌·◌ e (slot_at b at)
      searching-subgroup = rw searching-slot (S.holding.chosen _ (member-at S.list at 0 at-below)).subgroup

      -- the list around it
      around : S.list ≡ take at S.list ++ slot_at b at ∷ drop (suc at) S.list
      around = split_at S.list at 0 at-below ∙ ap (λ (h : ℕ). take at S.list ++ h ∷ drop (suc at) S.list) (sym searching-slot)

      -- once it was extended it is settled too
      pub searching-next : (exit : List ℕ) (middle : ℕ) → length came ≡ length b → ExtendedByAll (slot_at b at) count b exit (Some middle)
          → Searching came exit middle (done + 1)
      searching-next exit middle same X =
          read (X.progress came (take at S.list) (drop (suc at) S.list)
          (subst (λ (l : List ℕ). Holding n ◌·◌ e classes came b l count) around S.holding) same)
        where
          tail : List ℕ
          tail = drop (suc at) S.list

          behind : tail ≡ drop (count - done) S.list
          behind = let q : suc at ≡ count - done = omega arith in ap (λ (i : ℕ). drop i S.list) q

          tail-length : length tail ≡ done
          tail-length = length-drop (suc at) S.list ∙ (let q = S.holding.size in omega arith)

          read : Progress n ◌·◌ e classes came (take at S.list) tail exit (slot_at b at) (λ l. (g : ℕ) → g < n
              → Settled n ◌·◌ e classes l (slot_at b at) g) (Some middle)
              → Searching came exit middle (done + 1)
          read (counted front H keeps settled) =
              let old : (s : ℕ) → Mem s S.list → Mem s (front ++ slot_at b at ∷ tail) = λ s m. keeps s (subst (λ (l : List ℕ). Mem s l) around m) in
              let size : length front + suc (length tail) ≡ middle = sym (length-append front (slot_at b at ∷ tail)) ∙ H.size in
              let place : length front ≡ middle - (done + 1) = let q = tail-length in omega arith in
              record {
                list = front ++ slot_at b at ∷ tail;
                holding = H;
                trivial = old (2 ^ e) S.trivial;
                settled = λ h m g k. elim (cases (subst (λ (l : List ℕ). Mem h l) (drop_at front (slot_at b at ∷ tail) (middle - (done + 1)) place) m)) [
                  | inl q ↦ subst (λ (z : ℕ). Settled n ◌·◌ e classes (front ++ slot_at b at ∷ tail) z g) (sym q) (settled g k)
                  | inr i ↦ settled-more n ◌·◌ e classes S.list (front ++ slot_at b at ∷ tail) old h g (S.settled h
                      (subst (λ (l : List ℕ). Mem h l) behind i) g k)
                ];
              }

      -- or there are too many
      pub searching-overflow : (exit : List ℕ) → length came ≡ length b → ExtendedByAll (slot_at b at) count b exit None → SearchResult came exit None
      searching-overflow exit same X =
          read (X.progress came (take at S.list) (drop (suc at) S.list)
          (subst (λ (l : List ℕ). Holding n ◌·◌ e classes came b l count) around S.holding) same)
        where
          read : Progress n ◌·◌ e classes came (take at S.list) (drop (suc at) S.list) exit (slot_at b at) (λ l. (g : ℕ) → g < n
              → Settled n ◌·◌ e classes l (slot_at b at) g) None
              → SearchResult came exit None
          read (overflow l c H many) = (too_many _ many, left_over came exit l c H)

    -- when all sets are settled the list is the one asked for
    pub searching-end : (came b : List ℕ) (count done : ℕ) → Searching came b count done → count ≤ done → SearchResult came b (Some count)
    unfolding written
    searching-end came b count done S all = (
      S.holding.bytes ∙ ap₂ (λ (l : List ℕ) (i : ℕ). packed l ++ drop (8 * i) came) same (sym S.holding.size ∙ ap length same),
      sym S.holding.size ∙ ap length same,
      S.holding.room,
    )
      where
        none : drop (count - done) S.list ≡ S.list
        none = let q : count - done ≡ 0 = omega arith in ap (λ (i : ℕ). drop i S.list) q

        complete : Complete n ◌·◌ e classes G S.list
        complete = record {
          trivial = S.trivial;
          chosen = S.holding.chosen;
          settled = λ h g m k. S.settled h (subst (λ (l : List ℕ). Mem h l) (sym none) m) g k;
        }

        same : S.list ≡ listed n (chosen n ◌·◌ e classes)
        same = listed-unique n (chosen n ◌·◌ e classes) S.list S.holding.sorted
            (λ s m. let C = S.holding.chosen s m in (C.subgroup.small, passes-chosen n ◌·◌ e G classes s C))
            (λ s h t. let C = chosen-passes n ◌·◌ e G classes s t in complete-listed n ◌·◌ e classes G S.list complete s C.subgroup C)

    -- the list is not empty
    listed-some : 1 ≤ length (listed n (chosen n ◌·◌ e classes))
    listed-some = listed-longest n (chosen n ◌·◌ e classes) (2 ^ e ∷ []) (sorted-one Precedes)
        (λ s m. let C = only-trivial s m in (C.subgroup.small, passes-chosen n ◌·◌ e G classes s C))

    -- the first slot was filled before the loop began: what is said of the bytes then holds of the bytes that came
    module _ (came b : List ℕ) (m : ℕ) (q : b ≡ bytes_of m ++ drop 8 came) (room : 8 ≤ length came) where
      -- past the first slot they agree
      restart-drop : (i : ℕ) → 8 ≤ i → drop i b ≡ drop i came
      restart-drop i h =
          let far : i ≡ 8 + (i - 8) = omega arith in
          ap₂ (λ (j : ℕ) (x : List ℕ). drop j x) far q ∙ drop-append-add (bytes_of m) (drop 8 came) (i - 8) ∙ drop-drop (i - 8) 8 came
          ∙ ap (λ (j : ℕ). drop j came) (sym far)

      -- they are equally many
      restart-length : length b ≡ length came
      restart-length = ap length q ∙ length-append (bytes_of m) (drop 8 came) ∙ omega (arith, length-drop 8 came)

      -- the search begins there
      pub restart-start : m ≡ 2 ^ e → Searching b b 1 0
      restart-start first = searching-start b b (omega (arith, restart-length)) (q
          ∙ ap₂ (λ (i : ℕ) (l : List ℕ). bytes_of i ++ l) first (sym (restart-drop 8 (omega arith))))

      -- the result of the loop is the result of the search
      pub restart : (exit : List ℕ) (r : Option ℕ) → SearchResult b exit r → SearchResult came exit r
      unfolding written
      restart exit (Some count) (x, y, z) =
          let some = listed-some in (
            x ∙ ap (λ (l : List ℕ). packed (listed n (chosen n ◌·◌ e classes)) ++ l)
                (restart-drop (8 * length (listed n (chosen n ◌·◌ e classes))) (omega arith)),
            y,
            omega (arith, restart-length),
          )
      restart exit None (x, y) =
          let same = restart-length in
          let slots : length b / 8 ≡ length came / 8 = ap (λ (i : ℕ). i / 8) same in (
            rw (← slots) x,
            ap (λ (i : ℕ). drop (8 * i) exit) (sym slots) ∙ y ∙ restart-drop (8 * (length b / 8)) (omega arith)
                ∙ ap (λ (i : ℕ). drop (8 * i) came) slots,
          )
