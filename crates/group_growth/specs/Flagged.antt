-- An element with a flag, products combining flags by exclusive or: what is keyed stays keyed, and elements that hold the flag at 0 are as without it.
use Rattle.std.specs.Prelude.{◌≡◌, refl, Bool, true, false, ◌&&◌, List, map, ℕ, T}
use Rattle.std.proofs.Common.{sym, ◌∙◌, ap}
use Rattle.std.proofs.lemmas.Bool.{false≢true}
use Rattle.std.proofs.Math.Option
use Rattle.laws.specs.Closure.{closure, Monoid}
use Rattle.laws.specs.Keyed.{KeyedMonoid, closure-key}
use Rattle.laws.specs.Truth.{and_left, and_right, both}

-- ---- flags
-- Exclusive or.
abbrev pub xor : Bool → Bool → Bool
xor true true = false
xor true false = true
xor false true = true
xor false false = false

-- Whether two flags are equal.
abbrev pub same_flag : Bool → Bool → Bool
same_flag true true = true
same_flag true false = false
same_flag false true = false
same_flag false false = true

same_flag_lem : (a b : Bool) → T (same_flag a b) → a ≡ b
same_flag_lem true true t = refl
same_flag_lem false false t = refl
same_flag_lem false true t = elim t [ ]
same_flag_lem true false t = elim t [ ]

flag_same : (a b : Bool) → a ≡ b → T (same_flag a b)
flag_same true true p = tt
flag_same true false p = absurd (false≢true (sym p))
flag_same false true p = absurd (false≢true p)
flag_same false false p = tt

xor_assoc : (a b c : Bool) → xor (xor a b) c ≡ xor a (xor b c)
xor_assoc true true true = refl
xor_assoc true true false = refl
xor_assoc true false true = refl
xor_assoc true false false = refl
xor_assoc false true true = refl
xor_assoc false true false = refl
xor_assoc false false true = refl
xor_assoc false false false = refl

xor-left : (a : Bool) → xor false a ≡ a
xor-left true = refl
xor-left false = refl

pub xor-right : (a : Bool) → xor a false ≡ a
xor-right true = refl
xor-right false = refl

xor_self : (a : Bool) → xor a a ≡ false
xor_self true = refl
xor_self false = refl

-- A flag cancels.
pub xor-cancel : (a b c : Bool) → xor a c ≡ xor b c → a ≡ b
xor-cancel a b c p = sym (undone a) ∙ ap (λ d. xor d c) p ∙ undone b
  where
    undone : (d : Bool) → xor (xor d c) c ≡ d
    undone d = xor_assoc d c c ∙ ap (xor d) (xor_self c) ∙ xor-right d

-- ---- elements with flags
pub record Flagged (A : Type 0) : Type 0 where
  pub element : A
  pub flag : Bool

pub flagged≡ : {A : Type 0} (x y : Flagged A) → x.element ≡ y.element → x.flag ≡ y.flag → x ≡ y
flagged≡ x y p q = λ i. record { element = p i; flag = q i }

-- An element with a given flag.
abbrev pub flagged_by : {A : Type 0} → Bool → A → Flagged A
flagged_by b x = record { element = x; flag = b }

-- An image of the element, with the same flag.
abbrev pub image_flagged : {A B : Type 0} → (A → B) → Flagged A → Flagged B
image_flagged f x = record { element = f x.element; flag = x.flag }

module _ {A : Type 0} where
  -- An element with the flag at 0.
  abbrev pub held : A → Flagged A
  held x = record { element = x; flag = false }

  -- The key of an element with its flag.
  abbrev pub same_flagged : (A → A → Bool) → Flagged A → Flagged A → Bool
  same_flagged same x y = same_flag x.flag y.flag && same x.element y.element

  abbrev pub AlikeFlagged : (A → A → Type 0) → Flagged A → Flagged A → Type 0
  AlikeFlagged Alike x y = (x.flag ≡ y.flag) × Alike x.element y.element

  abbrev pub OkFlagged : (A → Type 0) → Flagged A → Type 0
  OkFlagged Ok x = Ok x.element

  abbrev pub times_flagged : (A → A → A) → Flagged A → Flagged A → Flagged A
  times_flagged product x y = record { element = product x.element y.element; flag = xor x.flag y.flag }

  module _ (same : A → A → Bool) where
    -- Elements of one key have one flag,
    pub key-flag : (x y : Flagged A) → T (same_flagged same x y) → x.flag ≡ y.flag
    key-flag x y t = same_flag_lem x.flag y.flag (and_left (same_flag x.flag y.flag) _ t)

    -- and one key without it;
    pub key-element : (x y : Flagged A) → T (same_flagged same x y) → T (same x.element y.element)
    key-element x y t = and_right (same_flag x.flag y.flag) _ t

    -- and the other way round.
    pub flagged-key : (x y : Flagged A) → x.flag ≡ y.flag → T (same x.element y.element) → T (same_flagged same x y)
    flagged-key x y p t = both (same_flag x.flag y.flag) _ (flag_same x.flag y.flag p) t

module _ {A : Type 0} (same : A → A → Bool) (◌≈◌ : A → A → Type 0) (Ok : A → Type 0) (◌·◌ : A → A → A) (unit : A)
    (M : KeyedMonoid same ◌≈◌ Ok ◌·◌ unit) where
  infix 50 ◌≈◌
  infixl 70 ◌·◌
  -- The product of flagged elements.
  abbrev times : Flagged A → Flagged A → Flagged A
  times = times_flagged ◌·◌

  flagged-monoid : Monoid (OkFlagged Ok) times (held unit)
  flagged-monoid = record {
    ok-unit = M.monoid.ok-unit;
    ok-product = λ x y h k. M.monoid.ok-product x.element y.element h k;
    associative = λ x y z h k l.
        flagged≡ (times (times x y) z) (times x (times y z))
        (M.monoid.associative x.element y.element z.element h k l) (xor_assoc x.flag y.flag z.flag);
    left-unit = λ x h. flagged≡ (times (held unit) x) x (M.monoid.left-unit x.element h) (xor-left x.flag);
    right-unit = λ x h. flagged≡ (times x (held unit)) x (M.monoid.right-unit x.element h) (xor-right x.flag);
  }

  -- What is keyed stays keyed.
  pub keyed-with-flag : KeyedMonoid (same_flagged same) (AlikeFlagged ◌≈◌) (OkFlagged Ok) times (held unit)
  keyed-with-flag = record {
    monoid = flagged-monoid;
    key-equivalence = record {
      reflexive = λ x. flagged-key same x x refl (M.key-equivalence.reflexive x.element);
      symmetric = λ x y t. flagged-key same y x (sym (key-flag same x y t)) (M.key-equivalence.symmetric x.element y.element (key-element same x y t));
      transitive = λ x y z s t. flagged-key same x z (key-flag same x y s ∙ key-flag same y z t)
          (M.key-equivalence.transitive x.element y.element z.element (key-element same x y s) (key-element same y z t));
    };
    key_left = λ g x y h k l t. flagged-key same (times g x) (times g y) (ap (xor g.flag) (key-flag same x y t))
        (M.key_left g.element x.element y.element h k l (key-element same x y t));
    key_right = λ x y g h k l t. flagged-key same (times x g) (times y g) (ap (λ b. xor b g.flag) (key-flag same x y t))
        (M.key_right x.element y.element g.element h k l (key-element same x y t));
    key-cancel = λ x y g h k l t. flagged-key same x y (xor-cancel x.flag y.flag g.flag (key-flag same (times x g) (times y g) t))
        (M.key-cancel x.element y.element g.element h k l (key-element same (times x g) (times y g) t));
    alike-reflexive = λ x. (refl, M.alike-reflexive x.element);
    alike-symmetric = λ x y (p, q). (sym p, M.alike-symmetric x.element y.element q);
    alike-transitive = λ x y z (p, q) (r, s). (p ∙ r, M.alike-transitive x.element y.element z.element q s);
    alike-key = λ x y (p, q). flagged-key same x y p (M.alike-key x.element y.element q);
    alike-left = λ g x y h k l (p, q). (ap (xor g.flag) p, M.alike-left g.element x.element y.element h k l q);
    alike_right = λ x y g h k l (p, q). (ap (λ b. xor b g.flag) p, M.alike_right x.element y.element g.element h k l q);
  }

-- The closure of elements that hold the flag at 0 is the closure of the elements.
pub held-closure : {A : Type 0} (same : A → A → Bool) (product : A → A → A) (unit : A) (gens : List A) (n : ℕ)
    → Option.map (map held) (closure same product unit gens n) ≡ closure (same_flagged same) (times_flagged product) (held unit) (map held gens) n
held-closure same product unit gens n =
    closure-key same (same_flagged same) held held product (times_flagged product) (record { same_key = λ x y. refl; step-key = λ x g. refl }) unit gens n
