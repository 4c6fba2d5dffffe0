-- Why an answer on the bytes of a table is refused (R8, 21 to 29): a reason for each number, with the reasons that go before
-- it ruled out; and what becomes of the lists that were lent. Any bytes leave one answer and one content of each list.
use Rattle.std.specs.Prelude.{◌≡◌, refl, ◌⊎◌, ◌↔◌, cond, List, ℕ, ◌<◌, ◌≤◌, eqb}
use Rattle.std.proofs.Common.{arith}
use Rattle.operation.specs.Answer.{Answer, given, refused, Nothing}
use Rattle.subgroup_laws.specs.GroupLaws.{TwoSidedIdentity, TwoSidedInverse, one-identity, group-identity}
use Rattle.subgroup_laws.specs.Table.{product, Cells, GroupTable}
use Rattle.table_answers.specs.LentLists.{Zeroed, Filled, zeroed-once}

-- What an entry asks of the group of a table: the conditions of 27, 28, 29 and 26, and its value where all four hold.
pub record Question : Type 1 where
  pub subgroup : Type 0
  pub element : Type 0
  pub normalizes : Type 0
  pub room : Type 0
  pub value : ℕ

module _ (n : ℕ) (t : List ℕ) where
  -- ---- the bytes are no table of a group
  -- 21: order 0 or over 48
  abbrev pub NoOrder : Type 0
  NoOrder = (n ≡ 0) ⊎ (48 < n)

  -- 22: not n² bytes, or a byte ≥ n
  abbrev pub NoCells : Type 0
  NoCells = (0 < n) × (n ≤ 48) × ¬ Cells n t

  -- 23: no two-sided identity
  abbrev pub NoIdentity : Type 0
  NoIdentity = (0 < n) × Cells n t × ((e : ℕ) → ¬ TwoSidedIdentity n (product n t) e)

  -- 24: an element without two-sided inverse
  abbrev pub NoInverse : Type 0
  NoInverse = (0 < n) × Cells n t × ((e : ℕ) × TwoSidedIdentity n (product n t) e
      × ((x : ℕ) × (x < n) × ((y : ℕ) → ¬ TwoSidedInverse n (product n t) e x y)))

  -- 25: not associative
  abbrev pub NotAssociative : Type 0
  NotAssociative = (0 < n) × Cells n t × ((e : ℕ) × TwoSidedIdentity n (product n t) e
      × ((x : ℕ) → x < n → (y : ℕ) × TwoSidedInverse n (product n t) e x y)
      × ((x y z : ℕ) × (x < n) × (y < n) × (z < n) × (product n t (product n t x y) z ≡ product n t x (product n t y z) → ⊥)))

  -- ---- on the group of a table
  module _ (ask : ℕ → Question) where
    -- 27: not a subgroup of the table
    abbrev pub NoSubgroup : Type 0
    NoSubgroup = (e : ℕ) × GroupTable n t e × ¬ (ask e).subgroup

    -- 28: element ≥ order
    abbrev pub NoElement : Type 0
    NoElement = (e : ℕ) × GroupTable n t e × (ask e).subgroup × ¬ (ask e).element

    -- 29: permutation asked for an element outside the normalizer
    abbrev pub OutsideNormalizer : Type 0
    OutsideNormalizer = (e : ℕ) × GroupTable n t e × (ask e).subgroup × (ask e).element × ¬ (ask e).normalizes

    -- 26: a lent list is too short; 27 to 29 go before it
    abbrev pub NoRoom : Type 0
    NoRoom = (e : ℕ) × GroupTable n t e × (ask e).subgroup × (ask e).element × (ask e).normalizes × ¬ (ask e).room

    -- there is an answer
    abbrev pub Answered : ℕ → Type 0
    Answered v = (e : ℕ) × GroupTable n t e × (ask e).subgroup × (ask e).element × (ask e).normalizes × (ask e).room × (v ≡ (ask e).value)

    -- the reason for a number
    pub data Reason : ℕ → Type 0 where
      no-order : NoOrder → Reason 21
      no_cells : NoCells → Reason 22
      no-identity : NoIdentity → Reason 23
      no-inverse : NoInverse → Reason 24
      not-associative : NotAssociative → Reason 25
      no_room : NoRoom → Reason 26
      no-subgroup : NoSubgroup → Reason 27
      no-element : NoElement → Reason 28
      outside-normalizer : OutsideNormalizer → Reason 29

    -- what is answered: a refusal for its reason, at 0, or the value
    pub data Says : Answer ℕ Nothing → Type 0 where
      refusing : (k : ℕ) → Reason k → Says (refused k 0 tt)
      answering : (v : ℕ) → Answered v → Says (given v)

    -- an answer is the only one that can be said: each number exactly if its reason holds, always at 0, and a value exactly if none does
    pub record Exactly (a : Answer ℕ Nothing) : Type 0 where
      pub says : Says a
      pub once : (b : Answer ℕ Nothing) → Says b → a ≡ b
      pub place : (k p : ℕ) → a ≡ refused k p tt → p ≡ 0
      pub number : (k p : ℕ) → a ≡ refused k p tt → (21 ≤ k) × (k ≤ 29)
      pub order : (a ≡ refused 21 0 tt) ↔ NoOrder
      pub cells : (a ≡ refused 22 0 tt) ↔ NoCells
      pub identity : (a ≡ refused 23 0 tt) ↔ NoIdentity
      pub inverse : (a ≡ refused 24 0 tt) ↔ NoInverse
      pub associativity : (a ≡ refused 25 0 tt) ↔ NotAssociative
      pub slots : (a ≡ refused 26 0 tt) ↔ NoRoom
      pub subgroup : (a ≡ refused 27 0 tt) ↔ NoSubgroup
      pub element : (a ≡ refused 28 0 tt) ↔ NoElement
      pub normalizer : (a ≡ refused 29 0 tt) ↔ OutsideNormalizer
      pub value : (v : ℕ) → (a ≡ given v) ↔ Answered v

    -- ---- so they are, if what is said is the only thing that can be
    -- the condition of each number
    abbrev Condition : ℕ → Type 0
    Condition k =
        cond (eqb k 21) NoOrder
        (cond (eqb k 22) NoCells
        (cond (eqb k 23) NoIdentity
        (cond (eqb k 24) NoInverse
        (cond (eqb k 25) NotAssociative
        (cond (eqb k 26) NoRoom
        (cond (eqb k 27) NoSubgroup (cond (eqb k 28) NoElement OutsideNormalizer)))))))

    condition : {k : ℕ} → Reason k → Condition k × (21 ≤ k) × (k ≤ 29)
    condition (no-order c) = (c, omega arith, omega arith)
    condition (no_cells c) = (c, omega arith, omega arith)
    condition (no-identity c) = (c, omega arith, omega arith)
    condition (no-inverse c) = (c, omega arith, omega arith)
    condition (not-associative c) = (c, omega arith, omega arith)
    condition (no_room c) = (c, omega arith, omega arith)
    condition (no-subgroup c) = (c, omega arith, omega arith)
    condition (no-element c) = (c, omega arith, omega arith)
    condition (outside-normalizer c) = (c, omega arith, omega arith)

    -- a refusal has its reason, and stands at 0
    reason : {a : Answer ℕ Nothing} → Says a → (k p : ℕ) → a ≡ refused k p tt → Reason k × (p ≡ 0)
    reason (refusing j R) k p q =
        let same : j ≡ k = cc in
        let zero : p ≡ 0 = cc in
        (rw same at R, zero)
    reason (answering v A) k p q = let z : ◌≡◌ {A = ℕ} 0 1 = cc in absurd (omega arith)

    -- a value is that of the question
    valued : {a : Answer ℕ Nothing} → Says a → (v : ℕ) → a ≡ given v → Answered v
    valued (refusing j R) v q = let z : ◌≡◌ {A = ℕ} 0 1 = cc in absurd (omega arith)
    valued (answering w A) v q = let same : w ≡ v = cc in rw same at A

    pub exactly : (a : Answer ℕ Nothing) → Says a → ((b : Answer ℕ Nothing) → Says b → a ≡ b) → Exactly a
    exactly a S once = record {
      says = S;
      once = once;
      place = λ k p q. (reason S k p q).1;
      number = λ k p q. let c = condition (reason S k p q).0 in (c.1, c.2);
      order = (λ q. (condition (reason S 21 0 q).0).0, λ c. once _ (refusing 21 (no-order c)));
      cells = (λ q. (condition (reason S 22 0 q).0).0, λ c. once _ (refusing 22 (no_cells c)));
      identity = (λ q. (condition (reason S 23 0 q).0).0, λ c. once _ (refusing 23 (no-identity c)));
      inverse = (λ q. (condition (reason S 24 0 q).0).0, λ c. once _ (refusing 24 (no-inverse c)));
      associativity = (λ q. (condition (reason S 25 0 q).0).0, λ c. once _ (refusing 25 (not-associative c)));
      slots = (λ q. (condition (reason S 26 0 q).0).0, λ c. once _ (refusing 26 (no_room c)));
      subgroup = (λ q. (condition (reason S 27 0 q).0).0, λ c. once _ (refusing 27 (no-subgroup c)));
      element = (λ q. (condition (reason S 28 0 q).0).0, λ c. once _ (refusing 28 (no-element c)));
      normalizer = (λ q. (condition (reason S 29 0 q).0).0, λ c. once _ (refusing 29 (outside-normalizer c)));
      value = λ v. (λ q. valued S v q, λ c. once _ (answering v c));
    }

  -- ---- lent lists
  -- What a lent list holds after an answer: 26 leaves every slot 0, any other refusal leaves it untouched, and on success the list of the group stands
  -- in front.
  pub data Left (width : ℕ) (list : ℕ → List ℕ) (came : List ℕ) : Answer ℕ Nothing → List ℕ → Type 0 where
    untouched : (k p : ℕ) → (k ≡ 26 → ⊥) → Left width list came (refused k p tt) came
    zeroed : (p : ℕ) (left : List ℕ) → Zeroed width came left → Left width list came (refused 26 p tt) left
    filled : (v e : ℕ) → GroupTable n t e → (left : List ℕ) → Filled width (list e) came left → Left width list came (given v) left

  -- a content is the only one that an answer leaves
  pub record Leaves (width : ℕ) (list : ℕ → List ℕ) (came : List ℕ) (a : Answer ℕ Nothing) (exit : List ℕ) : Type 0 where
    pub left : Left width list came a exit
    pub once : (other : List ℕ) → Left width list came a other → exit ≡ other

  -- the group has one identity
  pub one-group : (e f : ℕ) → GroupTable n t e → GroupTable n t f → e ≡ f
  one-group e f T U = one-identity n (product n t) e f (group-identity n (product n t) e T.group) (group-identity n (product n t) f U.group)

  module _ (width : ℕ) (list : ℕ → List ℕ) (came : List ℕ) (once : (l x y : List ℕ) → Filled width l came x → Filled width l came y → x ≡ y) where
    -- two contents after one answer are one
    same_left : {a b : Answer ℕ Nothing} {x y : List ℕ} → Left width list came a x → Left width list came b y → a ≡ b → x ≡ y
    same_left (untouched k p other) (untouched l q another) s = refl
    same_left (untouched k p other) (zeroed q y Y) s = absurd (other (let z : k ≡ 26 = cc in z))
    same_left (untouched k p other) (filled v e T y Y) s = let z : ◌≡◌ {A = ℕ} 0 1 = cc in absurd (omega arith)
    same_left (zeroed p x X) (untouched l q another) s = absurd (another (let z : l ≡ 26 = cc in z))
    same_left (zeroed p x X) (zeroed q y Y) s = zeroed-once width came x y X Y
    same_left (zeroed p x X) (filled v e T y Y) s = let z : ◌≡◌ {A = ℕ} 0 1 = cc in absurd (omega arith)
    same_left (filled v e T x X) (untouched l q another) s = let z : ◌≡◌ {A = ℕ} 0 1 = cc in absurd (omega arith)
    same_left (filled v e T x X) (zeroed q y Y) s = let z : ◌≡◌ {A = ℕ} 0 1 = cc in absurd (omega arith)
    same_left (filled v e T x X) (filled w f U y Y) s = let same : e ≡ f = one-group e f T U in once (list f) x y (rw same at X) Y

    pub leaves : {a : Answer ℕ Nothing} {x : List ℕ} → Left width list came a x → Leaves width list came a x
    leaves L = record { left = L; once = λ y M. same_left L M refl }
