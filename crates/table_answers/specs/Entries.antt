-- What each entry asks of the group of a table (R6, R7 and refusals 26 to 29); its definition answers exactly so, and leaves
-- the lent lists so.
use Rattle.std.specs.Prelude.{◌≡◌, refl, Bool, true, false, ◌||◌, get_or, replicate}
use Rattle.std.proofs.Common.{sym, ◌∙◌, true≢false, inl, inr, mod-lt, le_of_suc-le-suc, arith, pow_pos, ltb-true, ltb-false, eqb-true}
use Rattle.std.proofs.Math.Path.{ap}
use mathlib.Core.List.Memᴰ.{head as here}
use mathlib.Core.List.Memᴰ.{tail as there}
use mathlib.Core.List.{List, [], ◌∷◌, ◌++◌, map, Memᴰ as Mem}
use Prim.Native.Nat.{ℕ, zero, suc, ◌/◌, ◌%◌, ◌^◌, ◌<◌, ◌≤◌}
use Rattle.std.specs.Int.Count.{ones, ones-le, ones_in}
use Rattle.std.proofs.Math.Dec.{eqb, ltb}
use Rattle.std.proofs.Math.ListN.{length, drop}
use Rattle.std.proofs.lemmas.List.{length-map}
use Rattle.std.proofs.lemmas.Bool.{eqb-false}
use Rattle.laws.specs.Sets.{member, members, listed-member}
use Rattle.subgroup_laws.specs.Bounded.{first, first-cases}
use Rattle.subgroup_laws.specs.Conjugates.{conjugator_of, others_of, conjugates_of, conjugators_of}
use Rattle.subgroup_laws.specs.Conjugation.{conjugate-element-below}
use Rattle.subgroup_laws.specs.ListedConjugates.{normalizer-member}
use Rattle.subgroup_laws.specs.Lists.{subgroups_of, representatives_of}
use Rattle.subgroup_laws.specs.Permutations.{position_of, permutation_of, permutation-length, position-ones}
use Rattle.subgroup_laws.specs.Slots.{written, cleared}
use Rattle.subgroup_laws.specs.SubgroupLaws.{test-subgroup, subgroup-test}
use Rattle.subgroup_laws.specs.Subsets.{Subgroup, is_subgroup, conjugate_element, conjugate_of, normalizer_of}
use Rattle.subgroup_laws.specs.Table.{product, GroupTable}
use Rattle.finite_group.specs.Answers.{table_answer, order_answer, identity_answer, list_answer, list_bytes, subgroups_answer, subgroups_bytes, classes_answer, classes_bytes, conjugate_answer, conjugate_entry, normalizer_answer, normalizer_entry, permutation_answer, permutation_bytes, permutation_entry, permutation_list, conjugates_answer, conjugates_bytes, conjugators_bytes, conjugates_entry, conjugates_list, conjugators_list}
use Rattle.conjugation.specs.LentConjugates.{too_short}
use Rattle.table_answers.specs.LentLists.{sets-once, bytes-once, sets-cleared, bytes-cleared, sets-written, bytes-written}
use Rattle.table_answers.specs.Reasons.{Question, Exactly, Leaves, leaves}
use Rattle.table_answers.specs.Tested.{Decides, Lacks, Tested, answered-exactly, list_left}

-- ---- the questions
module _ (n : ℕ) (t : List ℕ) where
  -- nothing but a group is asked for
  abbrev plain : ℕ → Question
  plain v = record { subgroup = Unit {0}; element = Unit {0}; normalizes = Unit {0}; room = Unit {0}; value = v }

  -- a list needs as many slots as it has items
  abbrev listing : List ℕ → List ℕ → Question
  listing list b = record { subgroup = Unit {0}; element = Unit {0}; normalizes = Unit {0}; room = length list ≤ length b / 8; value = length list }

  abbrev pub order_asked : ℕ → Question
  order_asked e = plain n

  abbrev pub identity_asked : ℕ → Question
  identity_asked e = plain e

  abbrev pub subgroups_asked : List ℕ → ℕ → Question
  subgroups_asked b e = listing (subgroups_of n (product n t) e) b

  abbrev pub classes_asked : List ℕ → ℕ → Question
  classes_asked b e = listing (representatives_of n (product n t) e) b

  -- a set that is a subgroup, and an element
  abbrev pub conjugate_asked : ℕ → ℕ → ℕ → Question
  conjugate_asked s g e =
      record { subgroup = Subgroup n (product n t) e s; element = g < n; normalizes = Unit {0}; room = Unit {0}; value = conjugate_of n (product n t) e s g }

  abbrev pub normalizer_asked : ℕ → ℕ → Question
  normalizer_asked s e =
      record { subgroup = Subgroup n (product n t) e s; element = Unit {0}; normalizes = Unit {0}; room = Unit {0}; value = normalizer_of n (product n t) e s }

  -- an element of the normalizer, and a byte for each member
  abbrev pub permutation_asked : ℕ → ℕ → List ℕ → ℕ → Question
  permutation_asked s g b e =
      record {
        subgroup = Subgroup n (product n t) e s;
        element = g < n;
        normalizes = member (normalizer_of n (product n t) e s) g ≡ true;
        room = ones s ≤ length b;
        value = ones s;
      }

  -- a slot for each conjugate, and a byte for each conjugator
  abbrev pub conjugates_asked : ℕ → List ℕ → List ℕ → ℕ → Question
  conjugates_asked s b c e =
      let count = length (conjugates_of n (product n t) e s) in
      record {
        subgroup = Subgroup n (product n t) e s;
        element = Unit {0};
        normalizes = Unit {0};
        room = (count ≤ length b / 8) × (count ≤ length c);
        value = count;
      }

-- ---- the tests tell them
decides : (b : Bool) {A : Type 0} → (b ≡ true → A) → (b ≡ false → ¬ A) → Decides b A
decides true f g = f refl
decides false f g = g refl

lacks : (b : Bool) {A : Type 0} → (b ≡ true → ¬ A) → (b ≡ false → A) → Lacks b A
lacks true f g = f refl
lacks false f g = g refl

-- so many slots are too few
short : (have want : ℕ) → Lacks (ltb have want) (want ≤ have)
short have want = lacks (ltb have want) (λ p h. let l = ltb-true have want p in omega arith) (λ p. ltb-false have want p)

-- of two lists one is too short
either-short : (x y : Bool) (A B : Type 0) → Lacks x A → Lacks y B → Lacks (x || y) (A × B)
either-short true y A B L M = λ both. L both.0
either-short false true A B L M = λ both. M both.1
either-short false false A B L M = (L, M)

-- values that fit a byte
mapped-small : (f : ℕ → ℕ) (l : List ℕ) → ((x : ℕ) → Mem x l → f x < 256) → (k : ℕ) → k < length (map f l) → get_or (map f l) k 0 < 256
mapped-small f [] small k h = absurd (omega arith)
mapped-small f (x ∷ l) small zero h = small x (here refl)
mapped-small f (x ∷ l) small (suc k) h = mapped-small f l (λ y m. small y (there m)) k (le_of_suc-le-suc h)

-- a search ends at n
first-most : (p : ℕ → Bool) (n : ℕ) → first p n ≤ n
first-most p n = elim (first-cases p n) [
  | inl F ↦ let low = F.below in omega arith
  | inr none ↦ let end = none.0 in omega arith
]

-- an element
below : (g n : ℕ) → Decides (ltb g n) (g < n)
below g n = decides (ltb g n) (λ p. ltb-true g n p) (λ p h. let l = ltb-false g n p in omega arith)

module _ (n : ℕ) (t : List ℕ) where
  plain-tested : (v : ℕ) → Tested (plain n t v) true true true false
  plain-tested v = record { subgroup = tt; element = tt; normalizes = λ s g. tt; room = tt }

  listing-tested : (list b : List ℕ) → Tested (listing n t list b) true true true (ltb (length b / 8) (length list))
  listing-tested list b = record { subgroup = tt; element = tt; normalizes = λ s g. tt; room = short (length b / 8) (length list) }

  -- ---- order and identity
  pub order-exactly : Exactly n t (order_asked n t) (table_answer (order_answer n t))
  order-exactly = answered-exactly n t (order_asked n t) (λ e. true) (λ e. true) (λ e. true) (λ e. false) (λ e T. plain-tested n)

  pub identity-exactly : Exactly n t (identity_asked n t) (table_answer (identity_answer n t))
  identity-exactly = answered-exactly n t (identity_asked n t) (λ e. true) (λ e. true) (λ e. true) (λ e. false) (λ e T. plain-tested e)

  -- ---- subgroups and classes
  module _ (b : List ℕ) where
    pub subgroups-exactly : Exactly n t (subgroups_asked n t b) (table_answer (subgroups_answer n t b))
    unfolding list_answer
    subgroups-exactly =
        answered-exactly n t (subgroups_asked n t b) (λ e. true) (λ e. true) (λ e. true) (λ e. ltb (length b / 8) (length (subgroups_of n (product n t) e)))
        (λ e T. listing-tested (subgroups_of n (product n t) e) b)

    pub classes-exactly : Exactly n t (classes_asked n t b) (table_answer (classes_answer n t b))
    unfolding list_answer
    classes-exactly =
        answered-exactly n t (classes_asked n t b) (λ e. true) (λ e. true) (λ e. true) (λ e. ltb (length b / 8) (length (representatives_of n (product n t) e)))
        (λ e T. listing-tested (representatives_of n (product n t) e) b)

    pub subgroups-left : Leaves n t 8 (subgroups_of n (product n t)) b (table_answer (subgroups_answer n t b)) (subgroups_bytes n t b)
    unfolding list_answer list_bytes
    subgroups-left =
        leaves n t 8 (subgroups_of n (product n t)) b (λ l x y X Y. sets-once l b x y X Y)
        (list_left n t (subgroups_asked n t b) (λ e. true) (λ e. true) (λ e. true) (λ e. ltb (length b / 8) (length (subgroups_of n (product n t) e)))
        (λ e T. listing-tested (subgroups_of n (product n t) e) b)
        8 (subgroups_of n (product n t)) b (cleared b) (λ e. written (subgroups_of n (product n t) e) b) (sets-cleared b)
        (λ e T _ _ _ room. sets-written (subgroups_of n (product n t) e) b room))

    pub classes-left : Leaves n t 8 (representatives_of n (product n t)) b (table_answer (classes_answer n t b)) (classes_bytes n t b)
    unfolding list_answer list_bytes
    classes-left =
        leaves n t 8 (representatives_of n (product n t)) b (λ l x y X Y. sets-once l b x y X Y)
        (list_left n t (classes_asked n t b) (λ e. true) (λ e. true) (λ e. true) (λ e. ltb (length b / 8) (length (representatives_of n (product n t) e)))
        (λ e T. listing-tested (representatives_of n (product n t) e) b)
        8 (representatives_of n (product n t)) b (cleared b) (λ e. written (representatives_of n (product n t) e) b) (sets-cleared b)
        (λ e T _ _ _ room. sets-written (representatives_of n (product n t) e) b room))

  -- ---- on a subgroup
  module _ (s : ℕ) where
    -- the test of a subgroup
    abbrev passes : ℕ → Bool
    passes e = is_subgroup n (product n t) e s

    told : (e : ℕ) → GroupTable n t e → Decides (passes e) (Subgroup n (product n t) e s)
    told e T =
        decides (passes e) (λ p. test-subgroup n (product n t) e T.group s p)
        (λ p S. true≢false (sym (subgroup-test n (product n t) e T.group s S) ∙ p))

    pub conjugate-exactly : (g : ℕ) → Exactly n t (conjugate_asked n t s g) (table_answer (conjugate_entry n t s g))
    unfolding conjugate_answer
    conjugate-exactly g =
        answered-exactly n t (conjugate_asked n t s g) passes (λ e. ltb g n) (λ e. true) (λ e. false)
        (λ e T. record { subgroup = told e T; element = below g n; normalizes = λ _ _. tt; room = tt })

    pub normalizer-exactly : Exactly n t (normalizer_asked n t s) (table_answer (normalizer_entry n t s))
    unfolding normalizer_answer
    normalizer-exactly =
        answered-exactly n t (normalizer_asked n t s) passes (λ e. true) (λ e. true) (λ e. false)
        (λ e T. record { subgroup = told e T; element = tt; normalizes = λ _ _. tt; room = tt })

    -- ---- permutations
    module _ (g : ℕ) (b : List ℕ) where
      abbrev permutation : ℕ → List ℕ
      permutation e = permutation_of n (product n t) e s g

      -- the test of the normalizer
      abbrev keeps : ℕ → Bool
      keeps e = eqb (conjugate_of n (product n t) e s g) s

      normal : (e : ℕ) → GroupTable n t e → Subgroup n (product n t) e s → g < n → Decides (keeps e) (member (normalizer_of n (product n t) e s) g ≡ true)
      normal e T S h =
          let m = normalizer-member n (product n t) e s T.group S g h in
          decides (keeps e) (λ p. m.1 (eqb-true _ _ p)) (λ p k. eqb-false _ _ p (m.0 k))

      asked : (e : ℕ) → GroupTable n t e → Tested (permutation_asked n t s g b e) (passes e) (ltb g n) (keeps e) (ltb (length b) (ones s))
      asked e T = record { subgroup = told e T; element = below g n; normalizes = normal e T; room = short (length b) (ones s) }

      pub permutation-exactly : Exactly n t (permutation_asked n t s g b) (table_answer (permutation_entry n t s g b))
      unfolding permutation_answer
      permutation-exactly = answered-exactly n t (permutation_asked n t s g b) passes (λ e. ltb g n) keeps (λ e. ltb (length b) (ones s)) asked

      -- a position is at most the order
      position-small : (e : ℕ) → GroupTable n t e → g < n → (k : ℕ) → k < length (permutation e) → get_or (permutation e) k 0 < 256
      unfolding permutation_of position_of
      position-small e T h =
          mapped-small (λ x. ones_in (conjugate_element n (product n t) e x g) s) (members n s) (λ x m.
          let y = conjugate_element n (product n t) e x g in
          let low : y < n = conjugate-element-below n (product n t) e T.group x g (listed-member n s x m).0 h in
          omega (arith, T.cells.limit, position-ones s y, ones-le y (s % 2 ^ y) (mod-lt s (pow_pos y))))

      pub permutation-left : Leaves n t 1 permutation b (table_answer (permutation_entry n t s g b)) (permutation_list n t s g b)
      unfolding permutation_answer permutation_bytes
      permutation-left =
          leaves n t 1 permutation b (λ l x y X Y. bytes-once l b x y X Y)
          (list_left n t (permutation_asked n t s g b) passes (λ e. ltb g n) keeps (λ e. ltb (length b) (ones s)) asked
          1 permutation b (replicate (length b) 0) (λ e. permutation e ++ drop (ones s) b) (bytes-cleared b)
          (λ e T S h m room.
          let long = permutation-length n (product n t) e s g S.small in
          rw (sym long) (bytes-written (permutation e) b (omega arith) (position-small e T h))))

    -- ---- conjugates
    module _ (b c : List ℕ) where
      abbrev conjugates : ℕ → List ℕ
      conjugates e = conjugates_of n (product n t) e s

      abbrev conjugators : ℕ → List ℕ
      conjugators e = conjugators_of n (product n t) e s

      lists-short : (e : ℕ) → Lacks (too_short n (product n t) e s b c) ((length (conjugates e) ≤ length b / 8) × (length (conjugates e) ≤ length c))
      unfolding too_short
      lists-short e =
          either-short (ltb (length b / 8) (length (conjugates e))) (ltb (length c) (length (conjugates e)))
          (length (conjugates e) ≤ length b / 8) (length (conjugates e) ≤ length c)
          (short (length b / 8) (length (conjugates e))) (short (length c) (length (conjugates e)))

      sought : (e : ℕ) → GroupTable n t e → Tested (conjugates_asked n t s b c e) (passes e) true true (too_short n (product n t) e s b c)
      sought e T = record { subgroup = told e T; element = tt; normalizes = λ _ _. tt; room = lists-short e }

      pub conjugates-exactly : Exactly n t (conjugates_asked n t s b c) (table_answer (conjugates_entry n t s b c))
      unfolding conjugates_answer
      conjugates-exactly =
          answered-exactly n t (conjugates_asked n t s b c) passes (λ e. true) (λ e. true) (λ e. too_short n (product n t) e s b c) sought

      pub conjugates-left : Leaves n t 8 conjugates b (table_answer (conjugates_entry n t s b c)) (conjugates_list n t s b c)
      unfolding conjugates_answer conjugates_bytes
      conjugates-left =
          leaves n t 8 conjugates b (λ l x y X Y. sets-once l b x y X Y)
          (list_left n t (conjugates_asked n t s b c) passes (λ e. true) (λ e. true) (λ e. too_short n (product n t) e s b c) sought
          8 conjugates b (cleared b) (λ e. written (conjugates e) b) (sets-cleared b) (λ e T _ _ _ room. sets-written (conjugates e) b room.0))

      -- there are as many conjugators as conjugates, each an element
      conjugators-length : (e : ℕ) → length (conjugators e) ≡ length (conjugates e)
      unfolding conjugators_of conjugates_of
      conjugators-length e = ap suc (length-map (others_of n (product n t) e s) (conjugator_of n (product n t) e s))

      conjugator-small : (e : ℕ) → GroupTable n t e → (k : ℕ) → k < length (conjugators e) → get_or (conjugators e) k 0 < 256
      unfolding conjugators_of conjugator_of
      conjugator-small e T zero l = omega (arith, T.group.identity-below, T.cells.limit)
      conjugator-small e T (suc k) l =
          mapped-small (λ x. first (λ g. eqb (conjugate_of n (product n t) e s g) x) n) (others_of n (product n t) e s)
          (λ x _. omega (arith, first-most (λ g. eqb (conjugate_of n (product n t) e s g) x) n, T.cells.limit)) k (le_of_suc-le-suc l)

      pub conjugators-left : Leaves n t 1 conjugators c (table_answer (conjugates_entry n t s b c)) (conjugators_list n t s b c)
      unfolding conjugates_answer conjugators_bytes
      conjugators-left =
          leaves n t 1 conjugators c (λ l x y X Y. bytes-once l c x y X Y)
          (list_left n t (conjugates_asked n t s b c) passes (λ e. true) (λ e. true) (λ e. too_short n (product n t) e s b c) sought
          1 conjugators c (replicate (length c) 0) (λ e. conjugators e ++ drop (length (conjugates e)) c) (bytes-cleared c)
          (λ e T _ _ _ room.
          let long = conjugators-length e in
          let fits = room.1 in
          rw (sym long) (bytes-written (conjugators e) c (omega arith) (conjugator-small e T))))
