-- What lent slots hold while a list of numbers grows in them and when it has ended, and how the ended list is laid out as operations.
use Rattle.std.specs.Prelude.{◌≡◌, refl, Bool, true, false, cond, not, ◌&&◌, List, [], ◌∷◌, ◌++◌, map, ℕ, zero, suc, ◌+◌, ◌-◌, ◌*◌, ◌%◌, ◌≤◌, ◌<◌, eqb, nat_lt, length, get_or, take, drop, set, replicate, Result, Ok, Err}
use Rattle.std.specs.List.{position, position_or_len}
use Rattle.std.specs.Prelude as std
use Rattle.std.proofs.Common.{sym, ◌∙◌, ap, ap₂, subst, add-one, arith, length-append, length-drop, length-set, take_at, drop-cons, lt-ltb, le-ltb}
use Rattle.std.proofs.Math.Decide.{dec_lt}
use Rattle.std.proofs.Math.Option.{Option, some, none}
use Rattle.std.proofs.lemmas.List.{map-append, length-map, set_at}
use Rattle.std.proofs.Math.ListN.{get_or-append}
use Rattle.std.proofs.Math.Seq.{append_snoc}
use Rattle.laws.specs.Growth.{Growth, place, place-le, recurring, lengthened}
use Rattle.laws.specs.Indices.{at-any}
use Rattle.group_growth.specs.Resuming as growing
use Rattle.group_growth.specs.Resuming.{seed}
use Rattle.packed_operation.specs.Number.{key_of, row_digits, flag_of}
use Rattle.centering.specs.declared.Centering.{Centering}
use Rattle.space_group.specs.Places.{place-key}
use Rattle.space_group.specs.Traversal.{padded}
use Rattle.space_group.specs.Hints.{Hinted, hint-more, hint-start}
use Rattle.space_group.specs.NumberGrowth.{sign_of, same_sign, same_shift, number_times, unit_number, number_growth}
use Rattle.space_group.specs.declared.refusal.Refusal.{Refusal}
use Rattle.space_group.specs.declared.refusal.Refusal.TheVariants.{Rotations, Translations}

-- ---- the end
-- The list and the indices at the front of the slots, all behind them as it was; and the count is told, or that the translations do not agree.
pub record Holds (s : Growth ℕ) (ended : Result ℕ Refusal) (before numbers noughts steps : List ℕ) : Type 0 where
  pub counted : ended ≡ cond s.steady (Ok (length s.found)) (Err Translations)
  pub few : length s.found ≤ length before
  pub listed : numbers ≡ s.found ++ drop (length s.found) before
  pub noted : steps ≡ s.steps ++ drop (length s.steps) noughts

-- How a growth ends: with the list in the slots, also where its translations do not agree, or that it does not end.
abbrev pub Ends : Option (Growth ℕ) → Result ℕ Refusal → List ℕ → List ℕ → List ℕ → List ℕ → Type 0
Ends none ended before numbers noughts steps = ended ≡ Err Rotations
Ends (some s) ended before numbers noughts steps = Holds s ended before numbers noughts steps

-- A growth whose translations agree; the refusal of one that does not end, or whose translations do not agree.
abbrev pub of_growth : Option (Growth ℕ) → Result (Growth ℕ) Refusal
of_growth none = Err Rotations
of_growth (some s) = cond s.steady (Ok s) (Err Translations)

-- How a listing ends: with the list in the slots and its count, or with a refusal.
abbrev pub Lists : Result (Growth ℕ) Refusal → Result ℕ Refusal → List ℕ → List ℕ → List ℕ → List ℕ → Type 0
Lists (Err r) ended before numbers noughts steps = ended ≡ Err r
Lists (Ok s) ended before numbers noughts steps = (ended ≡ Ok (length s.found)) × Holds s ended before numbers noughts steps

-- So a listing ends as its growth does.
pub lists-grown : (o : Option (Growth ℕ)) (ended : Result ℕ Refusal) (before numbers noughts steps : List ℕ) → Ends o ended before numbers noughts steps
    → Lists (of_growth o) ended before numbers noughts steps
lists-grown none ended before numbers noughts steps e = e
lists-grown (some s) ended before numbers noughts steps h = by-test s.steady h.counted
  where
    by-test : (b : Bool) → ended ≡ cond b (Ok (length s.found)) (Err Translations) → Lists (cond b (Ok s) (Err Translations)) ended before numbers noughts steps
    by-test true e = (e, h)
    by-test false e = e

-- ---- slots filled from the front
-- One more element in the first slot behind a list.
pub front-set : {A : Type 0} (l before : List A) (x : A) → length l < length before
    → set (l ++ drop (length l) before) (length l) x ≡ (l ++ x ∷ []) ++ drop (length (l ++ x ∷ [])) before
front-set l before x h =
    let rest = drop (suc (length l)) before in
    let more : length (l ++ x ∷ []) ≡ suc (length l) = simp length-append (omega arith) in
    rw (drop-cons before (length l) x h, more) (set_at l (get_or before (length l) x) rest x (length l) refl ∙ sym (append_snoc l x rest))

-- What stands in a slot of the list.
pub front_at : {A : Type 0} (l before : List A) (i : ℕ) (d e : A) → i < length l → get_or (l ++ drop (length l) before) i d ≡ get_or l i e
front_at l before i d e h = get_or-append l (drop (length l) before) d i h ∙ at-any l i d e h

-- As many slots as before.
pub front_length : {A : Type 0} (l before : List A) → length l ≤ length before → length (l ++ drop (length l) before) ≡ length before
front_length l before h = simp (length-append, length-drop) (omega arith)

-- Images laid into slots one by one.
filled_next : {A B : Type 0} (f : A → B) (l : List A) (before : List B) (i : ℕ) (d : A) → i < length l → i < length before
    → set (map f (take i l) ++ drop i before) i (f (get_or l i d)) ≡ map f (take (suc i) l) ++ drop (suc i) before
filled_next f [] before i d h k = absurd (omega arith)
filled_next f (x ∷ l) [] i d h k = absurd (omega arith)
filled_next f (x ∷ l) (b ∷ before) zero d h k = refl
filled_next f (x ∷ l) (b ∷ before) (suc i) d h k = ap (λ r. f x ∷ r) (filled_next f l before i d (omega arith) (omega arith))

pub filled_more : {A B : Type 0} (f : A → B) (l : List A) (before : List B) (i : ℕ) (d : A) → i < length l → i < length before
    → set (map f (take i l) ++ drop i before) i (f (get_or l i d)) ≡ map f (take (i + 1) l) ++ drop (i + 1) before
filled_more f l before i d h k = rw (add-one i) (filled_next f l before i d h k)

drop-alike : {A : Type 0} (n m : ℕ) (a : A) → drop n (replicate m a) ≡ replicate (m - n) a
drop-alike zero m a = let e : m ≡ m - 0 = omega arith in ap (λ (k : ℕ). replicate k a) e
drop-alike (suc n) zero a = let e : 0 ≡ 0 - suc n = omega arith in ap (λ (k : ℕ). replicate k a) e
drop-alike (suc n) (suc m) a = let e : m - n ≡ suc m - suc n = omega arith in drop-alike n m a ∙ ap (λ (k : ℕ). replicate k a) e

-- A list in front of slots that are all alike.
pub front-padded : {A : Type 0} (n m : ℕ) (a : A) (l : List A) → n ≡ length l → l ++ drop n (replicate m a) ≡ padded m a l
front-padded n m a l e = rw (e, drop-alike (length l) m a)

-- ---- while it grows
module _ (c : Centering) (limit : ℕ) (gens : List ℕ) where
  -- What is left to do from number i and generator j on.
  abbrev pub resume : ℕ → ℕ → Growth ℕ → Option (Growth ℕ)
  resume = growing.resume same_sign (same_shift c) number_times limit unit_number gens

  pub resume-start : 1 ≤ limit → number_growth c limit gens ≡ resume 0 0 (seed unit_number)
  unfolding number_growth
  resume-start = growing.resume-start same_sign (same_shift c) number_times limit unit_number gens

-- A growth in slots: how many numbers, whether the translations agree, how many indices, the numbers and the indices.
pub record Shows (s : Growth ℕ) (count : ℕ) (steady : Bool) (made : ℕ) (before numbers noughts steps : List ℕ) : Type 0 where
  pub counted : count ≡ length s.found
  pub agreeing : steady ≡ s.steady
  pub numbered : made ≡ length s.steps
  pub listed : numbers ≡ s.found ++ drop (length s.found) before
  pub noted : steps ≡ s.steps ++ drop (length s.steps) noughts

-- Slots at the start.
pub shows-start : (before noughts : List ℕ) → 1 ≤ length before → get_or before 0 0 ≡ unit_number
    → Shows (seed unit_number) 1 true 0 before before noughts noughts
shows-start [] noughts h e = absurd (omega arith)
shows-start (b ∷ before) noughts h e = record { counted = refl; agreeing = refl; numbered = refl; listed = ap (λ n. n ∷ before) e; noted = refl }

pub hints-start : Hinted (map sign_of (unit_number ∷ [])) (set (replicate 151 0) 63 1)
unfolding sign_of key_of row_digits flag_of
hints-start = hint-start (sign_of unit_number) (replicate 151 0) refl

module _ (c : Centering) (s : Growth ℕ) (count : ℕ) (steady : Bool) (made : ℕ) (before numbers noughts steps : List ℕ)
    (S : Shows s count steady made before numbers noughts steps) where
  -- The number in a slot.
  pub shows-at : (i d e : ℕ) → i < count → get_or numbers i d ≡ get_or s.found i e
  shows-at i d e h = ap (λ l. get_or l i d) S.listed ∙ front_at s.found before i d e (omega (arith, S.counted))

  -- The list, as the search is lent it.
  pub shows-front : take count numbers ≡ s.found
  shows-front = ap (take count) S.listed ∙ take_at s.found (drop (length s.found) before) count (sym S.counted)

  -- The place of a number's sign is the number's.
  pub shows-place : (p sign : ℕ) → sign ≡ sign_of p → place eqb sign (map sign_of (take count numbers)) ≡ place same_sign p s.found
  shows-place p sign e = rw (shows-front, e) (sym (place-key sign_of p s.found))

  -- One more hint.
  pub shows-hint : (hints : List ℕ) → Hinted (map sign_of s.found) hints → length hints ≡ 151 → (p sign : ℕ) → sign ≡ sign_of p
      → count ≤ place same_sign p s.found
      → (v : ℕ) → 0 < v → Hinted (map sign_of (s.found ++ p ∷ [])) (set hints (sign % 151) v)
  shows-hint hints H long p sign e new v h =
      let low = place-le same_sign p s.found in
      let behind : place same_sign p s.found ≡ length s.found = omega (arith, S.counted) in
      rw (e, map-append sign_of s.found (p ∷ []))
      (hint-more (map sign_of s.found) hints H (sign_of p) v long (sym (place-key sign_of p s.found) ∙ behind ∙ sym (length-map s.found sign_of)) h)

  module _ (p : ℕ) (room : made < length noughts) where
    -- One more index.
    one-noted : (k : ℕ) → set steps made k ≡ (s.steps ++ k ∷ []) ++ drop (length (s.steps ++ k ∷ [])) noughts
    one-noted k = ap₂ (λ l m. set l m k) S.noted S.numbered ∙ front-set s.steps noughts k (omega (arith, S.numbered))

    one_more : (k : ℕ) → made + 1 ≡ length (s.steps ++ k ∷ [])
    one_more k = simp length-append (omega (arith, S.numbered))

    -- A product that is listed.
    pub shows-again : (d : ℕ) → place same_sign p s.found < count
        → Shows (recurring same_sign (same_shift c) p s) count (steady && same_shift c p (get_or numbers (place same_sign p s.found) d)) (made + 1) before
        numbers noughts (set steps made (place same_sign p s.found))
    shows-again d h =
        let k = place same_sign p s.found in
        record { counted = S.counted; agreeing = rw (S.agreeing, shows-at k d p h); numbered = one_more k; listed = S.listed; noted = one-noted k }

    -- One that is new.
    pub shows-new : count < length before
        → Shows (lengthened same_sign (same_shift c) p s) (count + 1) steady (made + 1) before (set numbers count p) noughts
        (set steps made (place same_sign p s.found))
    shows-new h =
        let k = place same_sign p s.found in
        record {
          counted = simp length-append (omega (arith, S.counted));
          agreeing = S.agreeing;
          numbered = one_more k;
          listed = ap₂ (λ l m. set l m p) S.listed S.counted ∙ front-set s.found before p (omega (arith, S.counted));
          noted = one-noted k;
        }

  -- At the end.
  pub shows-end : (o : Option (Growth ℕ)) → o ≡ some s → count ≤ length before → (ended : Result ℕ Refusal)
      → ended ≡ cond steady (Ok count) (Err Translations) → Ends o ended before numbers noughts steps
  shows-end o e h ended told = rw e (record {
    counted = told ∙ ap₂ (λ (b : Bool) (n : ℕ). cond b (Ok n) (Err Translations)) S.agreeing S.counted;
    few = omega (arith, S.counted);
    listed = S.listed;
    noted = S.noted;
  })

-- It does not end.
pub ends-none : (o : Option (Growth ℕ)) (before numbers noughts steps : List ℕ) → o ≡ none → Ends o (Err Rotations) before numbers noughts steps
ends-none o before numbers noughts steps e = rw e refl

-- ---- the list laid out as operations
module _ (o : Option (Growth ℕ)) (ended : Result ℕ Refusal) (before numbers noughts steps : List ℕ) (E : Ends o ended before numbers noughts steps) where
  -- It did not end,
  pub ended-none : ended ≡ Err Rotations → o ≡ none
  ended-none w = by_answer o refl E
    where
      by_answer : (p : Option (Growth ℕ)) → o ≡ p → Ends p ended before numbers noughts steps → o ≡ none
      by_answer none e h = e
      by_answer (some s) e h = by-test s.steady (sym w ∙ h.counted)
        where
          by-test : (b : Bool) → ◌≡◌ {A = Result ℕ Refusal} (Err Rotations) (cond b (Ok (length s.found)) (Err Translations)) → o ≡ none
          by-test true both = absurd (cc)
          by-test false both = absurd (cc)

  -- or the slots hold it.
  pub ended_some : ¬ (ended ≡ Err Rotations) → (s : Growth ℕ) × (o ≡ some s) × Holds s ended before numbers noughts steps
  ended_some w = by_answer o refl E
    where
      by_answer : (p : Option (Growth ℕ)) → o ≡ p → Ends p ended before numbers noughts steps
          → (s : Growth ℕ) × (o ≡ some s) × Holds s ended before numbers noughts steps
      by_answer none e h = absurd (w h)
      by_answer (some s) e h = (s, e, h)

-- The numbers in front are the list.
pub held-front : (s : Growth ℕ) (ended : Result ℕ Refusal) (before numbers noughts steps : List ℕ) → Holds s ended before numbers noughts steps
    → take (length s.found) numbers ≡ s.found
held-front s ended before numbers noughts steps h =
    ap (take (length s.found)) h.listed ∙ take_at s.found (drop (length s.found) before) (length s.found) refl

-- ---- the search for a sign
-- The index of the first number with a sign.
abbrev pub sign_position : ℕ → List ℕ → std.Option ℕ
sign_position sign l = position (λ n. eqb sign (sign_of n)) l

sign-place : (sign : ℕ) (l : List ℕ) → place eqb sign (map sign_of l) ≡ position_or_len (λ n. eqb sign (sign_of n)) l
unfolding place
sign-place sign [] = refl
sign-place sign (n ∷ l) = by-test (eqb sign (sign_of n)) (sign-place sign l)
  where
    by-test : (b : Bool) → place eqb sign (map sign_of l) ≡ position_or_len (λ n. eqb sign (sign_of n)) l
        → cond b zero (suc (place eqb sign (map sign_of l))) ≡ cond (not b) (1 + position_or_len (λ n. eqb sign (sign_of n)) l) 0
    by-test true e = refl
    by-test false e = omega (arith, e)

module _ (sign : ℕ) (l : List ℕ) where
  -- It is found where its place is,
  pub sign-found : (k : ℕ) → place eqb sign (map sign_of l) ≡ k → k < length l → sign_position sign l ≡ std.Some k
  sign-found k e h = rw (← sign-place sign l, e, lt-ltb k (length l) h)

  -- and not where it has none.
  pub sign-missed : place eqb sign (map sign_of l) ≡ length l → sign_position sign l ≡ std.None
  sign-missed e = rw (← sign-place sign l, e, le-ltb (length l) (length l) (omega arith))

  -- So what is found is its place, and where nothing is it has none.
  pub place-found : (k : ℕ) → sign_position sign l ≡ std.Some k → (place eqb sign (map sign_of l) ≡ k) × (k < length l)
  place-found k e = elim (dec_lt (place eqb sign (map sign_of l)) (length l)) [
    | yes h ↦
        let both : std.Some (place eqb sign (map sign_of l)) ≡ std.Some k = sym (sign-found _ refl h) ∙ e in
        let same : place eqb sign (map sign_of l) ≡ k = cc in
        (same, omega arith)
    | no h ↦
        let absent = sign-missed (omega (arith, place-le eqb sign (map sign_of l), length-map l sign_of)) in
        let both : ◌≡◌ {A = std.Option ℕ} std.None (std.Some k) = sym absent ∙ e in
        absurd (cc)
  ]

  pub place-missed : sign_position sign l ≡ std.None → place eqb sign (map sign_of l) ≡ length l
  place-missed e = elim (dec_lt (place eqb sign (map sign_of l)) (length l)) [
    | yes h ↦
        let both : ◌≡◌ {A = std.Option ℕ} std.None (std.Some (place eqb sign (map sign_of l))) = sym e ∙ sign-found _ refl h in
        absurd (cc)
    | no h ↦ omega (arith, place-le eqb sign (map sign_of l), length-map l sign_of)
  ]

-- ---- a growth under way
-- What the slots hold, and what is left to do from number i and generator j on.
pub record Growing (c : Centering) (gens before numbers noughts steps hints : List ℕ) (count : ℕ) (steady : Bool) (made i j : ℕ) : Type 0 where
  pub grown : Growth ℕ
  pub shows : Shows grown count steady made before numbers noughts steps
  pub few : count ≤ length before
  pub room : made ≤ 9 * i + j
  pub left : number_growth c (length before) gens ≡ resume c (length before) gens i j grown
  pub hinted : Hinted (map sign_of grown.found) hints
  pub spots : length hints ≡ 151

pub growing-start : (c : Centering) (gens before noughts : List ℕ) → 1 ≤ length before → get_or before 0 0 ≡ unit_number
    → Growing c gens before before noughts noughts (set (replicate 151 0) 63 1) 1 true 0 0 0
growing-start c gens before noughts h first = record {
  grown = seed unit_number;
  shows = shows-start before noughts h first;
  few = h;
  room = omega arith;
  left = resume-start c (length before) gens h;
  hinted = hints-start;
  spots = refl;
}

module _ (c : Centering) (gens before numbers noughts steps hints : List ℕ) (count : ℕ) (steady : Bool) (made i j : ℕ)
    (G : Growing c gens before numbers noughts steps hints count steady made i j) where
  -- At its end.
  pub growing-end : count ≤ i → number_growth c (length before) gens ≡ some G.grown
  growing-end h =
      G.left ∙ growing.resume-end same_sign (same_shift c) number_times (length before) unit_number gens G.grown i j (omega (arith, G.shows.counted))

  -- The next number.
  pub growing-over : i < count → j ≡ length gens → j ≤ 9 → Growing c gens before numbers noughts steps hints count steady made (i + 1) 0
  growing-over h e nine = record {
    grown = G.grown;
    shows = G.shows;
    few = G.few;
    room = omega (arith, G.room);
    left = G.left ∙ growing.resume-over same_sign (same_shift c) number_times (length before) unit_number gens G.grown i j (omega (arith, G.shows.counted)) e
        (omega (arith, G.shows.counted, G.few));
    hinted = G.hinted;
    spots = G.spots;
  }

  module _ (h : i < count) (k : j < length gens) where
    product_is : (o : Option ℕ) → number_times (get_or numbers i 0) (get_or gens j 0) ≡ o → number_times (get_or G.grown.found i unit_number) (get_or gens j 0)
        ≡ o
    product_is o e =
        ap (λ n. number_times n (get_or gens j 0)) (sym (shows-at c G.grown count steady made before numbers noughts steps G.shows i 0 unit_number h)) ∙ e

    -- A product outside −1..1.
    pub growing-outside : number_times (get_or numbers i 0) (get_or gens j 0) ≡ none → number_growth c (length before) gens ≡ none
    growing-outside e =
        G.left ∙ growing.resume-outside same_sign (same_shift c) number_times (length before) unit_number gens G.grown i j (omega (arith, G.shows.counted)) 0 k
        (product_is none e)

    module _ (p sign : ℕ) (e : number_times (get_or numbers i 0) (get_or gens j 0) ≡ some p) (q : sign ≡ sign_of p) where
      place_is : place eqb sign (map sign_of (take count numbers)) ≡ place same_sign p G.grown.found
      place_is = shows-place c G.grown count steady made before numbers noughts steps G.shows p sign q

      long : length (take count numbers) ≡ count
      long = ap length (shows-front c G.grown count steady made before numbers noughts steps G.shows) ∙ sym G.shows.counted

      -- One that is listed.
      pub growing-again : (n : ℕ) → sign_position sign (take count numbers) ≡ std.Some n → made < length noughts
          → (n < count)
          × Growing c gens before numbers noughts (set steps made n) hints count (steady && same_shift c p (get_or numbers n 0)) (made + 1) i (j + 1)
      growing-again n found room =
          let (there, low) = place-found sign (take count numbers) n found in
          let place : place same_sign p G.grown.found ≡ n = sym place_is ∙ there in
          let shown = shows-again c G.grown count steady made before numbers noughts steps G.shows p room 0 (omega (arith, long)) in (
            omega (arith, long),
            record {
              grown = recurring same_sign (same_shift c) p G.grown;
              shows = rw (← place) shown;
              few = G.few;
              room = omega (arith, G.room);
              left = G.left ∙ growing.resume-again same_sign (same_shift c) number_times (length before) unit_number gens G.grown i j
                  (omega (arith, G.shows.counted)) 0 k p (product_is (some p) e) (omega (arith, long, G.shows.counted));
              hinted = G.hinted;
              spots = G.spots;
            },
          )

      module _ (missed : sign_position sign (take count numbers) ≡ std.None) where
        new : place same_sign p G.grown.found ≡ count
        new = sym place_is ∙ place-missed sign (take count numbers) missed ∙ long

        -- One too many.
        pub growing-full : length before ≤ count → number_growth c (length before) gens ≡ none
        growing-full full =
            G.left ∙ growing.resume-full same_sign (same_shift c) number_times (length before) unit_number gens G.grown i j (omega (arith, G.shows.counted)) 0 k
            p (product_is (some p) e) (omega (arith, new, G.shows.counted)) (omega (arith, G.shows.counted))

        -- A new one.
        pub growing-new : count < length before → made < length noughts
            → Growing c gens before (set numbers count p) noughts (set steps made count) (set hints (sign % 151) (count + 1)) (count + 1) steady (made + 1) i
            (j + 1)
        growing-new free room =
            let shown = shows-new c G.grown count steady made before numbers noughts steps G.shows p room free in
            record {
              grown = lengthened same_sign (same_shift c) p G.grown;
              shows = subst (λ k. Shows (lengthened same_sign (same_shift c) p G.grown) (count + 1) steady (made + 1) before (set numbers count p) noughts
                  (set steps made k)) new shown;
              few = omega arith;
              room = omega (arith, G.room);
              left = G.left ∙ growing.resume-new same_sign (same_shift c) number_times (length before) unit_number gens G.grown i j
                  (omega (arith, G.shows.counted)) 0 k p (product_is (some p) e) (omega (arith, new, G.shows.counted)) (omega (arith, G.shows.counted));
              hinted = shows-hint c G.grown count steady made before numbers noughts steps G.shows hints G.hinted G.spots p sign q (omega (arith, new))
                  (count + 1) (omega arith);
              spots = simp length-set G.spots;
            }
