-- When generators are answered a list, and when each refusal; and what the refusals show. The idea: the closure ends exactly if few keys are generated,
-- the tests of its members and of their steps decide what holds of everything that is generated, and a test that fails of a list fails at a member.
use Rattle.std.specs.Prelude.{◌≡◌, refl, ◌⊎◌, ◌↔◌, Bool, true, false, cond, ℕ, ◌≤◌, T, length, get_or}
use Rattle.std.proofs.Common.{sym, ◌∙◌, ap, inl, inr, arith}
use Rattle.std.proofs.Math.Bool.{false≢true}
use Rattle.std.proofs.Math.Option.{Option, some, none}
use mathlib.Core.List.{List, Memᴰ as Mem}
use Rattle.laws.specs.Distinct.{has-member, distinct-equal}
use Rattle.laws.specs.Closure.{step, closure-length, closure-limit, closure-unique, closure-bounded, closure-lists, closure-ends, closure-fails, ListsReached, Congruence}
use Rattle.laws.specs.Keyed.{Steady, key-congruence, steady-each-key, steady-unit-key}
use Rattle.laws.specs.Growth.{place}
use Rattle.laws.specs.GrowthClosure.{place-lt, place_same, agrees, steady_from}
use Rattle.laws.specs.Truth.{all, all-member, member-all, T_true, true-T, all-fails}
use Rattle.laws.specs.Indices.{member-at}
use Rattle.group_growth.specs.Verdicts.{Verdict, listed, overgrown, torn, on_list, on_listing}
use Rattle.group_growth.specs.Growing.{Growing, OkGenerators, listing, steps_of, verdict, Generated, Few, Many, AllFine, Unfit, OneToUnit, TwoToKey}

-- ---- the list and its tests
module _ (S : Growing) (gens : List S.Element) where
  open S use {Element, same, alike, fine, product, unit, Alike, Ok, keyed, alike-decided, fine-key}

  -- Steps keep the key, of what is generated: so they do where the generators are Ok.
  abbrev pub KeyKept : Type 0
  KeyKept = Congruence same product unit gens

  pub key-kept : OkGenerators S gens → KeyKept
  key-kept ok = key-congruence same Alike Ok product unit keyed gens ok

  module _ (kept : KeyKept) (limit : ℕ) where
    -- The list ends within the limit exactly if the generated keys number at most as many.
    pub ends-exactly : ((l : List Element) × (listing S limit gens ≡ some l)) ↔ Few S gens limit
    ends-exactly = closure-ends same product unit gens keyed.key-equivalence kept limit

    module _ (l : List Element) (e : listing S limit gens ≡ some l) where
      -- What the list is.
      pub lists : ListsReached same product unit gens l
      lists = closure-lists same product unit gens keyed.key-equivalence kept limit l e

      -- Its members pass the test exactly if all that is generated does.
      pub listed-fine : T (all fine l) ↔ AllFine S gens
      listed-fine = (
        (λ t x r.
            let (y, m, s) = has-member same x l (lists.complete x r) in
            true-T (fine-key x y s (T_true (all-member fine t m)))),
        λ each. member-all fine l (λ x m. each x (lists.sound x m)),
      )

      -- The listed element with the key of a generated one.
      abbrev pub listed_at : Element → Element
      listed_at x = get_or l (place same x l) x

      pub listed-at : (x : Element) → Generated S gens x → Mem (listed_at x) l × T (same x (listed_at x))
      listed-at x r =
          let h = lists.complete x r in
          (member-at l (place same x l) x (place-lt same x l h), place_same same x l x h)

      -- The step from a listed element by a generator is generated.
      step-generated : (x g : Element) → Mem x l → Mem g gens → Generated S gens (product x g)
      step-generated x g m k = step (lists.sound x m) k

      -- The test of all steps.
      abbrev pub steady : Bool
      steady = steady_from same alike fine product gens l l

      -- It passes exactly if every step from the list comes back to it.
      steady-steps : T steady ↔ Steady Alike product gens l
      unfolding steady_from agrees
      steady-steps = (
        (λ t x g m k.
            let p = product x g in
            let (member, near) = listed-at p (step-generated x g m k) in
            let row = all-member (λ x. all (λ h. alike (product x h) (listed_at (product x h))) gens) t m in
            let passes = all-member (λ h. alike (product x h) (listed_at (product x h))) row k in
            (listed_at p, member, (alike-decided p (listed_at p) near).0 passes)),
        λ back. member-all _ l (λ x m. member-all _ gens (λ g k.
            let p = product x g in
            let (y, n, close) = back x g m k in
            let (member, near) = listed-at p (step-generated x g m k) in
            let E = keyed.key-equivalence in
            let one_key = E.transitive y p (listed_at p) (E.symmetric p y (keyed.alike-key p y close)) near in
            let z : y ≡ listed_at p = distinct-equal same E lists.distinct n member one_key in
            (alike-decided p (listed_at p) near).1 (rw z at close))),
      )

      -- A listed element fails the test.
      fails-fine : all fine l ≡ false → Unfit S gens
      fails-fine h = let (x, m, p) = all-fails fine l h in (x, lists.sound x m, λ t. false≢true (sym p ∙ T_true t))

      -- A step from the list comes back to an element that is not alike.
      fails-steady : steady ≡ false → TwoToKey S gens
      unfolding steady_from agrees
      fails-steady h =
          let (x, m, p) = all-fails (λ x. all (λ g. alike (product x g) (listed_at (product x g))) gens) l h in
          let (g, k, q) = all-fails (λ g. alike (product x g) (listed_at (product x g))) gens p in
          let r = step-generated x g m k in
          let y = listed_at (product x g) in
          let (n, near) = listed-at (product x g) r in
          (product x g, y, r, lists.sound y n, near, λ close. false≢true (sym q ∙ T_true ((alike-decided (product x g) y near).1 close)))

      -- ---- what the answers of the list show
      on-list-unfit : on_list same alike fine product gens l ≡ overgrown → Unfit S gens
      on-list-unfit p = by_tests (all fine l) refl steady p
        where
          by_tests : (a : Bool) → all fine l ≡ a → (b : Bool) → cond a (cond b (listed l (steps_of S gens l)) torn) overgrown ≡ overgrown → Unfit S gens
          by_tests true q true r = let z : ◌≡◌ {A = ℕ} 0 1 = cc in absurd (omega arith)
          by_tests true q false r = let z : ◌≡◌ {A = ℕ} 0 1 = cc in absurd (omega arith)
          by_tests false q b r = fails-fine q

      on-list-torn : on_list same alike fine product gens l ≡ torn → TwoToKey S gens
      on-list-torn p = by_tests (all fine l) steady refl p
        where
          by_tests : (a b : Bool) → steady ≡ b → cond a (cond b (listed l (steps_of S gens l)) torn) overgrown ≡ torn → TwoToKey S gens
          by_tests true true q r = let z : ◌≡◌ {A = ℕ} 0 1 = cc in absurd (omega arith)
          by_tests true false q r = fails-steady q
          by_tests false b q r = let z : ◌≡◌ {A = ℕ} 0 1 = cc in absurd (omega arith)

    on-listing-unfit : (o : Option (List Element)) → listing S limit gens ≡ o → on_listing same alike fine product gens o ≡ overgrown
        → Many S gens limit ⊎ Unfit S gens
    on-listing-unfit none e p = inl ((closure-fails same product unit gens keyed.key-equivalence kept limit).0 e)
    on-listing-unfit (some l) e p = inr (on-list-unfit l e p)

    on-listing-torn : (o : Option (List Element)) → listing S limit gens ≡ o → on_listing same alike fine product gens o ≡ torn
        → TwoToKey S gens
    on-listing-torn none e p = let z : ◌≡◌ {A = ℕ} 0 1 = cc in absurd (omega arith)
    on-listing-torn (some l) e p = on-list-torn l e p

    -- The first refusal shows more keys than the limit, or an element that fails the test.
    pub overgrown-shown : verdict S limit gens ≡ overgrown → Many S gens limit ⊎ Unfit S gens
    overgrown-shown p = on-listing-unfit (listing S limit gens) refl p

    -- The second shows two elements of one key that are not alike.
    pub torn-shown : verdict S limit gens ≡ torn → TwoToKey S gens
    torn-shown p = on-listing-torn (listing S limit gens) refl p

-- ---- what is answered of a list
module _ (S : Growing) (gens : List S.Element) (limit : ℕ) where
  open S use {Element, same, alike, fine, product, unit, keyed}

  on-list-listed : (k : List Element) (l : List Element) (steps : List ℕ) → on_list same alike fine product gens k ≡ listed l steps
      → (k ≡ l) × (steps ≡ steps_of S gens l)
  on-list-listed k l steps p = by_tests (all fine k) (steady_from same alike fine product gens k k) p
    where
      by_tests : (a b : Bool) → cond a (cond b (listed k (steps_of S gens k)) torn) overgrown ≡ listed l steps → (k ≡ l) × (steps ≡ steps_of S gens l)
      by_tests true true q =
          let e : k ≡ l = cc in
          let f : steps_of S gens k ≡ steps = cc in
          (e, sym f ∙ ap (steps_of S gens) e)
      by_tests true false q = let z : ◌≡◌ {A = ℕ} 0 1 = cc in absurd (omega arith)
      by_tests false b q = let z : ◌≡◌ {A = ℕ} 0 1 = cc in absurd (omega arith)

  on-listing-listed : (o : Option (List Element)) (l : List Element) (steps : List ℕ) → on_listing same alike fine product gens o ≡ listed l steps
      → (o ≡ some l) × (steps ≡ steps_of S gens l)
  on-listing-listed none l steps p = let z : ◌≡◌ {A = ℕ} 0 1 = cc in absurd (omega arith)
  on-listing-listed (some k) l steps p = let (e, f) = on-list-listed k l steps p in (ap some e, f)

  -- A list that is answered is the listing, with its steps,
  pub listed-listing : (l : List Element) (steps : List ℕ) → verdict S limit gens ≡ listed l steps
      → (listing S limit gens ≡ some l) × (steps ≡ steps_of S gens l)
  listed-listing l steps p = on-listing-listed (listing S limit gens) l steps p

  -- and no longer than the limit.
  pub listed-length : (l : List Element) (steps : List ℕ) → verdict S limit gens ≡ listed l steps → length l ≤ limit
  listed-length l steps p = closure-length same product unit gens limit l (listed-listing l steps p).0

  -- ---- other limits
  -- Under a higher limit the same list is answered,
  pub limit-raised : (l : List Element) (steps : List ℕ) (higher : ℕ) → limit ≤ higher → verdict S limit gens ≡ listed l steps
      → verdict S higher gens ≡ listed l steps
  limit-raised l steps higher h p =
      let e = (listed-listing l steps p).0 in
      let f = closure-limit same product unit gens limit higher l h e in
      ap (on_listing same alike fine product gens) (f ∙ sym e) ∙ p

  -- and under a lower one, where it is no longer than that.
  pub limit-lowered : KeyKept S gens → (l : List Element) (steps : List ℕ) (lower : ℕ) → length l ≤ lower → verdict S limit gens ≡ listed l steps
      → verdict S lower gens ≡ listed l steps
  limit-lowered kept l steps lower h p =
      let e = (listed-listing l steps p).0 in
      let (k, f) = closure-bounded same product unit gens keyed.key-equivalence kept lower l (lists S gens kept limit l e).complete h in
      let z = closure-unique same product unit gens lower limit k l f e in
      ap (on_listing same alike fine product gens) (f ∙ ap some z ∙ sym e) ∙ p

-- What is known of a list that is answered.
pub record Whole (S : Growing) (gens : List S.Element) (limit : ℕ) (l : List S.Element) (steps : List ℕ) : Type 0 where
  pub is-listing : listing S limit gens ≡ some l
  pub steps-are : steps ≡ steps_of S gens l
  pub few : Few S gens limit
  pub all-fine : AllFine S gens
  pub one : OneToUnit S gens

-- The ways in which the answer comes about.
data Course (S : Growing) (gens : List S.Element) (limit : ℕ) : Verdict S.Element → Type 0 where
  growing : ¬ (Few S gens limit × AllFine S gens) → Course S gens limit overgrown
  tearing : Few S gens limit → AllFine S gens → ¬ OneToUnit S gens → Course S gens limit torn
  ending : {l : List S.Element} {steps : List ℕ} → Whole S gens limit l steps → Course S gens limit (listed l steps)

module _ (S : Growing) (gens : List S.Element) (ok : OkGenerators S gens) (limit : ℕ) where
  open S use {Element, same, alike, fine, product, unit, Alike, Ok, keyed}

  -- Two generated elements of one key are alike, where that holds at the key of the unit.
  pub one-to-key : (l : List Element) → listing S limit gens ≡ some l → OneToUnit S gens
      → (x y : Element) → Generated S gens x → Generated S gens y → T (same x y) → Alike x y
  one-to-key l e one =
      let L = lists S gens (key-kept S gens ok) limit l e in
      let back = (steady-unit-key same Alike Ok product unit keyed gens ok L).1 one in
      (steady-each-key same Alike Ok product unit keyed gens ok L).0 back

  -- The test of all steps passes exactly if whatever is generated with the key of the unit is alike to it.
  steady-exactly : (l : List Element) (e : listing S limit gens ≡ some l) → T (steady S gens (key-kept S gens ok) limit l e) ↔ OneToUnit S gens
  steady-exactly l e =
      let L = lists S gens (key-kept S gens ok) limit l e in
      let back = steady-steps S gens (key-kept S gens ok) limit l e in
      let one = steady-unit-key same Alike Ok product unit keyed gens ok L in
      ((λ t. one.0 (back.0 t)), λ h. back.1 (one.1 h))

  -- Of the list.
  course-list : (l : List Element) → listing S limit gens ≡ some l → Course S gens limit (on_list same alike fine product gens l)
  course-list l e = by_tests (all fine l) refl (steady S gens kept limit l e) refl
    where
      kept : KeyKept S gens
      kept = key-kept S gens ok

      by_tests : (a : Bool) → all fine l ≡ a → (b : Bool) → steady S gens kept limit l e ≡ b
          → Course S gens limit (cond a (cond b (listed l (steps_of S gens l)) torn) overgrown)
      by_tests false p b q = growing (λ (_, h). false≢true (sym p ∙ T_true ((listed-fine S gens kept limit l e).1 h)))
      by_tests true p false q =
          tearing ((ends-exactly S gens kept limit).0 (l, e)) ((listed-fine S gens kept limit l e).0 (true-T p))
          (λ h. false≢true (sym q ∙ T_true ((steady-exactly l e).1 h)))
      by_tests true p true q = ending (record {
        is-listing = e;
        steps-are = refl;
        few = (ends-exactly S gens kept limit).0 (l, e);
        all-fine = (listed-fine S gens kept limit l e).0 (true-T p);
        one = (steady-exactly l e).0 (true-T q);
      })

  course-listing : (o : Option (List Element)) → listing S limit gens ≡ o → Course S gens limit (on_listing same alike fine product gens o)
  course-listing none e = growing (λ (few, _).
      let (l, p) = (ends-exactly S gens (key-kept S gens ok) limit).1 few in
      let both = sym e ∙ p in
      let z : ◌≡◌ {A = ℕ} 0 1 = cc in omega arith)
  course-listing (some l) e = course-list l e

  -- Every answer comes about in one of them.
  course : Course S gens limit (verdict S limit gens)
  course = course-listing (listing S limit gens) refl

module _ {S : Growing} {gens : List S.Element} {limit : ℕ} where
  course-whole : {v : Verdict S.Element} → Course S gens limit v → (l : List S.Element) (steps : List ℕ) → v ≡ listed l steps → Whole S gens limit l steps
  course-whole (growing n) l steps e = let z : ◌≡◌ {A = ℕ} 0 1 = cc in absurd (omega arith)
  course-whole (tearing few fine n) l steps e = let z : ◌≡◌ {A = ℕ} 0 1 = cc in absurd (omega arith)
  course-whole (ending {l = k} {steps = t} W) l steps e = let p : k ≡ l = cc in let q : t ≡ steps = cc in rw (← p, ← q) W

  course-listed : {v : Verdict S.Element} → Course S gens limit v → Few S gens limit × AllFine S gens × OneToUnit S gens
      → (l : List S.Element) × (steps : List ℕ) × (v ≡ listed l steps)
  course-listed (growing n) (few, fine, one) = absurd (n (few, fine))
  course-listed (tearing _ _ n) (few, fine, one) = absurd (n one)
  course-listed (ending W) _ = (_, _, refl)

  course-overgrown : {v : Verdict S.Element} → Course S gens limit v → (v ≡ overgrown) ↔ (¬ (Few S gens limit × AllFine S gens))
  course-overgrown (growing n) = ((λ _. n), λ _. refl)
  course-overgrown (tearing few fine n) = ((λ e. let z : ◌≡◌ {A = ℕ} 0 1 = cc in absurd (omega arith)), λ h. absurd (h (few, fine)))
  course-overgrown (ending W) = ((λ e. let z : ◌≡◌ {A = ℕ} 0 1 = cc in absurd (omega arith)), λ h. absurd (h (W.few, W.all-fine)))

  course-torn : {v : Verdict S.Element} → Course S gens limit v → (v ≡ torn) ↔ (Few S gens limit × AllFine S gens × (¬ OneToUnit S gens))
  course-torn (growing n) = ((λ e. let z : ◌≡◌ {A = ℕ} 0 1 = cc in absurd (omega arith)), λ (few, fine, _). absurd (n (few, fine)))
  course-torn (tearing few fine n) = ((λ _. (few, fine, n)), λ _. refl)
  course-torn (ending W) = ((λ e. let z : ◌≡◌ {A = ℕ} 0 1 = cc in absurd (omega arith)), λ (_, _, n). absurd (n W.one))

-- ---- each answer, exactly
module _ (S : Growing) (gens : List S.Element) (ok : OkGenerators S gens) (limit : ℕ) where
  open S use {Element}

  -- A list is answered exactly if the generated keys number at most as many as the limit, all that is generated passes the test, and what has the key of
  -- the unit is alike to it.
  pub listed-exactly : ((l : List Element) × (steps : List ℕ) × (verdict S limit gens ≡ listed l steps))
      ↔ (Few S gens limit × AllFine S gens × OneToUnit S gens)
  listed-exactly = (
    (λ (l, steps, e). let W = course-whole (course S gens ok limit) l steps e in (W.few, W.all-fine, W.one)),
    course-listed (course S gens ok limit),
  )

  -- What is answered then.
  pub listed-whole : (l : List Element) (steps : List ℕ) → verdict S limit gens ≡ listed l steps → Whole S gens limit l steps
  listed-whole l steps e = course-whole (course S gens ok limit) l steps e

  -- The first refusal: exactly if not both hold, the limit of keys and the test.
  pub overgrown-exactly : (verdict S limit gens ≡ overgrown) ↔ (¬ (Few S gens limit × AllFine S gens))
  overgrown-exactly = course-overgrown (course S gens ok limit)

  -- Or: exactly if more keys are generated, or something that fails the test.
  pub overgrown-refused : (verdict S limit gens ≡ overgrown) ↔ (Many S gens limit ⊎ Unfit S gens)
  overgrown-refused = (
    overgrown-shown S gens (key-kept S gens ok) limit,
    λ shown. overgrown-exactly.1 (λ (few, fine). elim shown [
      | inl (l, distinct, each, more) ↦ omega (arith, few l distinct each)
      | inr (x, r, n) ↦ n (fine x r)
    ]),
  )

  -- The second: exactly if both hold, and not everything with the key of the unit is alike to it.
  pub torn-exactly : (verdict S limit gens ≡ torn) ↔ (Few S gens limit × AllFine S gens × (¬ OneToUnit S gens))
  torn-exactly = course-torn (course S gens ok limit)

  -- Or: exactly if both hold, and two generated elements of one key are not alike.
  pub torn-refused : (verdict S limit gens ≡ torn) ↔ (Few S gens limit × AllFine S gens × TwoToKey S gens)
  torn-refused = (
    (λ e. let (few, fine, _) = torn-exactly.0 e in (few, fine, torn-shown S gens (key-kept S gens ok) limit e)),
    λ (few, fine, (x, y, r, t, near, apart)). torn-exactly.1 (
      few,
      fine,
      λ one.
          let (l, e) = (ends-exactly S gens (key-kept S gens ok) limit).1 few in
          apart (one-to-key S gens ok limit l e one x y r t near),
    ),
  )
