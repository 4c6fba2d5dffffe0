-- Tests, and what it means that they hold: of one test, of two, of every member of a list. `T` says it as a proposition, the equation with `true` as code does.
use Rattle.std.specs.Prelude.{◌≡◌, refl, ◌⊎◌, ◌↔◌, Bool, true, false, cond, ◌&&◌, ◌||◌, T}
use Rattle.std.proofs.Common.{sym, ◌∙◌, inl, inr, true≢false}
use Rattle.std.proofs.lemmas.Bool.{false≢true}
use Rattle.std.proofs.Math.Bool.{and-eq-true_iff}
use mathlib.Core.List.Memᴰ.{head as here}
use mathlib.Core.List.Memᴰ.{tail as there}
use mathlib.Core.List.{List, [], ◌∷◌, Memᴰ as Mem}

-- ---- one test

-- a test that holds is true
pub T_true : {b : Bool} → T b → b ≡ true
T_true {b = true} t = refl
T_true {b = false} t = elim t [ ]

-- and the other way round
pub true-T : {b : Bool} → b ≡ true → T b
true-T e = rw e tt

-- a Boolean answer and the fact it stands for
pub holds : {b : Bool} → T b ↔ (b ≡ true)
holds = (T_true, true-T)

-- a test holds or it does not
pub decided : (b : Bool) → T b ⊎ (¬ T b)
decided true = inl tt
decided false = inr (λ t. t)

-- a test passes or fails
pub passes-or-fails : (a : Bool) → (a ≡ true) ⊎ (a ≡ false)
passes-or-fails true = inl refl
passes-or-fails false = inr refl

-- what does not pass fails
pub not-passing : (a : Bool) → ¬ (a ≡ true) → a ≡ false
not-passing true f = absurd (f refl)
not-passing false f = refl

-- no test passes and fails
pub clash : (b : Bool) → b ≡ true → b ≡ false → ⊥
clash b p q = true≢false (sym p ∙ q)

-- a test that stands for a fact fails where the fact does not hold,
pub fails : {P : Type 0} (b : Bool) → ((b ≡ true) ↔ P) → ¬ P → b ≡ false
fails b h never = not-passing b (λ e. never (h.0 e))

-- and where it fails the fact does not hold
pub failed : {P : Type 0} (b : Bool) → ((b ≡ true) ↔ P) → b ≡ false → ¬ P
failed b h e p = true≢false (sym (h.1 p) ∙ e)

-- ---- two tests

-- tests that hold together are equal
pub same_test : (a b : Bool) → (T a → T b) → (T b → T a) → a ≡ b
same_test true true f g = refl
same_test true false f g = absurd (f tt)
same_test false true f g = absurd (g tt)
same_test false false f g = refl

-- tests that pass together are equal
pub same_truth : (a b : Bool) → (a ≡ true → b ≡ true) → (b ≡ true → a ≡ true) → a ≡ b
same_truth a b f g = same_test a b (λ t. true-T (f (T_true t))) (λ t. true-T (g (T_true t)))

-- an "and" that holds: its first test does,
pub and_left : (a b : Bool) → T (a && b) → T a
and_left true b t = tt
and_left false b t = elim t [ ]

-- and its second;
pub and_right : (a b : Bool) → T (a && b) → T b
and_right true b t = t
and_right false b t = elim t [ ]

-- two tests that hold make one that does
pub both : (a b : Bool) → T a → T b → T (a && b)
both true b t u = u
both false b t u = elim t [ ]

-- an "and" is true exactly if both tests are
pub both_true : (a b : Bool) → (a && b ≡ true) ↔ ((a ≡ true) × (b ≡ true))
both_true a b = and-eq-true_iff a b

-- one way,
pub and_both : (a b : Bool) → (a && b) ≡ true → (a ≡ true) × (b ≡ true)
and_both a b = (both_true a b).0

-- and the other
pub both-and : (a b : Bool) → a ≡ true → b ≡ true → (a && b) ≡ true
both-and a b e f = (both_true a b).1 (e, f)

-- an "and" fails if its second test does,
pub and-fails : (a b : Bool) → b ≡ false → (a && b) ≡ false
and-fails true b e = e
and-fails false b e = refl

-- and if its first does
pub and-fails-left : (a b : Bool) → a ≡ false → (a && b) ≡ false
and-fails-left true b e = absurd (true≢false e)
and-fails-left false b e = refl

-- an "or" holds if its first test does,
pub or_left : (a b : Bool) → T a → T (a || b)
or_left true b t = tt
or_left false b t = elim t [ ]

-- and if its second does;
pub or_right : (a b : Bool) → T b → T (a || b)
or_right true b t = tt
or_right false b t = t

-- if an "or" holds, one of its tests does
pub or_cases : (a b : Bool) → T (a || b) → T a ⊎ T b
or_cases true b t = inl tt
or_cases false b t = inr t

-- an "or" is true if its first test is,
pub or-holds-left : (a b : Bool) → a ≡ true → (a || b) ≡ true
or-holds-left true b e = refl
or-holds-left false b e = absurd (true≢false (sym e))

-- and if its second is;
pub or-holds-right : (a b : Bool) → b ≡ true → (a || b) ≡ true
or-holds-right true b e = refl
or-holds-right false b e = e

-- if an "or" is true, one of its tests is
pub or-either : (a b : Bool) → (a || b) ≡ true → (a ≡ true) ⊎ (b ≡ true)
or-either true b e = inl refl
or-either false b e = inr e

-- ---- one test asked only where another passes

-- asked there it passes,
pub asked-passes : {a b : Bool} → a ≡ true → cond a b true ≡ true → b ≡ true
asked-passes p q = rw p at q

-- and if it passes there, the whole does
pub passes-asked : (a : Bool) {b : Bool} → (a ≡ true → b ≡ true) → cond a b true ≡ true
passes-asked true f = f refl
passes-asked false f = refl

-- ---- the members of a list

-- every member of a list passes a test
unfoldable pub all : {A : Type 0} → (A → Bool) → List A → Bool
all test [] = true
all test (a ∷ l) = test a && all test l

-- then each does,
pub all-member : {A : Type 0} (test : A → Bool) {a : A} {l : List A} → T (all test l) → Mem a l → T (test a)
unfolding all
all-member test {l = b ∷ l} t (here e) = rw e (and_left (test b) _ t)
all-member test {l = b ∷ l} t (there m) = all-member test (and_right (test b) _ t) m
all-member {A = A} test {a = a} {l = []} t x5 = elim x5 [ ]

-- and if each does, all do
pub member-all : {A : Type 0} (test : A → Bool) (l : List A) → ((a : A) → Mem a l → T (test a)) → T (all test l)
unfolding all
member-all test [] h = tt
member-all test (a ∷ l) h = both (test a) (all test l) (h a (here refl)) (member-all test l (λ b m. h b (there m)))

-- both ways, as equations
pub all_true : {A : Type 0} (test : A → Bool) (l : List A) → (all test l ≡ true) ↔ ((a : A) → Mem a l → test a ≡ true)
all_true test l = ((λ e a m. T_true (all-member test (true-T e) m)), λ h. T_true (member-all test l (λ a m. true-T (h a m))))

-- a test that fails of a list fails at a member
pub all-fails : {A : Type 0} (test : A → Bool) (l : List A) → all test l ≡ false → (x : A) × Mem x l × (test x ≡ false)
unfolding all
all-fails test [] e = absurd (false≢true (sym e))
all-fails {A} test (x ∷ l) e = by-test (test x) refl e (all-fails test l)
  where
    by-test : (b : Bool) → test x ≡ b → (b && all test l) ≡ false → (all test l ≡ false → (y : A) × Mem y l × (test y ≡ false))
        → (y : A) × Mem y (x ∷ l) × (test y ≡ false)
    by-test true p q later = let (y, m, r) = later q in (y, there m, r)
    by-test false p q later = (x, here refl, p)
