-- What a growth is: the closure, where that ends within the limit and has only allowed members; and nothing otherwise. The idea:
-- growth and closure go in step, and the steps of what is listed at the end meet no element that is not allowed.
use Rattle.std.proofs.Math.Path.{◌≡◌, refl, sym, ap}
use Rattle.std.proofs.Common.{◌∙◌, arith}
use Rattle.std.proofs.Math.Logic.{inl, inr}
use Rattle.std.specs.Prelude.{Bool, ◌&&◌, ◌||◌, get_or}
use Rattle.std.proofs.Math.Bool.{true, false, cond, false≢true, and-true, and_assoc}
use Rattle.std.proofs.Math.Option.{Option, some, none, bind, bind-eq-some_iff, some-injective}
use mathlib.Core.List.Memᴰ.{append_cases as mem-append-cases}
use mathlib.Core.List.Memᴰ.{append_left as mem-append_left}
use mathlib.Core.List.Memᴰ.{append_right as mem-append_right}
use mathlib.Core.List.Memᴰ.{cases_cons as cases}
use mathlib.Core.List.Memᴰ.{head as here}
use mathlib.Core.List.Memᴰ.{not-nil}
use mathlib.Core.List.Memᴰ.{of_map as mem-of-map}
use mathlib.Core.List.Memᴰ.{tail as there}
use mathlib.Core.List.{List, [], ◌∷◌, ◌++◌, map, append_assoc, append-nil, Memᴰ as Mem}
use Prim.Native.Nat.{ℕ, zero, suc, ◌+◌, ◌≤◌, ◌<◌}
use Rattle.std.proofs.Math.Dec.{T, ltb, leb-suc-suc}
use Rattle.std.proofs.Math.ListN.{length, length-append, get_or-append}
use Rattle.std.proofs.Math.Seq.{append_snoc, get_or-append_seam}
use borrow.Author.Tests.{lt-ltb, le-ltb, ltb-true, ltb-false}
use Rattle.laws.specs.Distinct.{has, Equivalence, has-member}
use Rattle.laws.specs.Closure.{fresh, Fresh, fresh_meets, fresh-candidate, done, old, new, run, closure, closure-length, closure-lists, Congruence, regroup, step}
use Rattle.laws.specs.Growth.{Growth, place, recurring, lengthened, taken_up, turns, grow, grown}
use Rattle.laws.specs.Truth.{all, all-member, member-all, T_true, true-T}

-- ---- the place of an element

module _ {A : Type 0} (same : A → A → Bool) where
  -- the place is in the list exactly if the list has the element
  pub place-test : (x : A) (l : List A) → ltb (place same x l) (length l) ≡ has same x l
  unfolding place has
  place-test x [] = refl
  place-test x (y ∷ l) = by-test (same x y) (place-test x l)
    where
      by-test : (b : Bool) → ltb (place same x l) (length l) ≡ has same x l → ltb (cond b zero (suc (place same x l))) (suc (length l)) ≡ (b || has same x l)
      by-test true e = lt-ltb 0 (suc (length l)) (omega arith)
      by-test false e = leb-suc-suc (suc (place same x l)) (length l) ∙ e

  -- an element that the list has stands in it
  pub place-lt : (x : A) (l : List A) → T (has same x l) → place same x l < length l
  place-lt x l t = ltb-true (place same x l) (length l) (place-test x l ∙ T_true t)

  -- where it stays if the list is lengthened
  pub place-stays : (x : A) (l r : List A) → T (has same x l) → place same x (l ++ r) ≡ place same x l
  unfolding place has
  place-stays x (y ∷ l) r t = by-test (same x y) (place-stays x l r) t
    where
      by-test : (b : Bool) → (T (has same x l) → place same x (l ++ r) ≡ place same x l) → T (b || has same x l)
          → cond b zero (suc (place same x (l ++ r))) ≡ cond b zero (suc (place same x l))
      by-test true stays u = refl
      by-test false stays u = ap suc (stays u)
  place-stays x [] r t = elim t [ ]

  -- the place of an element that the list does not have is behind it
  pub place-behind : (x : A) (l : List A) → ¬ T (has same x l) → place same x l ≡ length l
  unfolding place has
  place-behind x [] n = refl
  place-behind x (y ∷ l) n = by-test (same x y) (place-behind x l) n
    where
      by-test : (b : Bool) → (¬ T (has same x l) → place same x l ≡ length l) → ¬ T (b || has same x l) → cond b zero (suc (place same x l)) ≡ suc (length l)
      by-test true behind u = absurd (u tt)
      by-test false behind u = ap suc (behind u)

  -- where it then is put
  pub place-put : Equivalence same → (x : A) (l r : List A) → ¬ T (has same x l) → place same x (l ++ x ∷ r) ≡ length l
  unfolding place has
  place-put E x [] r n = let e : same x x ≡ true = T_true (E.reflexive x) in rw e
  place-put E x (y ∷ l) r n = by-test (same x y) (place-put E x l r) n
    where
      by-test : (b : Bool) → (¬ T (has same x l) → place same x (l ++ x ∷ r) ≡ length l) → ¬ T (b || has same x l)
          → cond b zero (suc (place same x (l ++ x ∷ r))) ≡ suc (length l)
      by-test true put u = absurd (u tt)
      by-test false put u = ap suc (put u)

  -- the element at the place of x is equivalent to x
  pub place_same : (x : A) (l : List A) (d : A) → T (has same x l) → T (same x (get_or l (place same x l) d))
  unfolding place has
  place_same x (y ∷ l) d t = by-test (same x y) refl (place_same x l d) t
    where
      by-test : (b : Bool) → same x y ≡ b → (T (has same x l) → T (same x (get_or l (place same x l) d))) → T (b || has same x l)
          → T (same x (get_or (y ∷ l) (cond b zero (suc (place same x l))) d))
      by-test true e later u = true-T e
      by-test false e later u = later u
  place_same x [] d t = elim t [ ]

  -- what is fresh is determined
  fresh-unique : {l candidates r q : List A} → Fresh same l candidates r → Fresh same l candidates q → r ≡ q
  fresh-unique done done = refl
  fresh-unique (old t f) (old u h) = fresh-unique f h
  fresh-unique (old t f) (new n h) = absurd (n t)
  fresh-unique (new n f) (old u h) = absurd (n u)
  fresh-unique (new {x} n f) (new m h) = ap (λ r. x ∷ r) (fresh-unique f h)

-- ---- what a closure says of a growth

module _ {A G : Type 0} (same alike : A → A → Bool) (fine : A → Bool) (◌∗◌ : A → G → A) where
  infixl 70 ◌∗◌
  -- the product, if it is allowed
  unfoldable pub allowed : A → G → Option A
  allowed x g = cond (fine (x ∗ g)) (some (x ∗ g)) none

  -- p is alike to the listed element of its class
  unfoldable pub agrees : List A → A → Bool
  agrees l p = alike p (get_or l (place same p l) p)

  module _ (gens : List G) where
    -- the indices in l of the products of some elements and the generators
    unfoldable pub steps_from : List A → List A → List ℕ
    steps_from l [] = []
    steps_from l (x ∷ xs) = map (λ g. place same (x ∗ g) l) gens ++ steps_from l xs

    -- whether each of these products is alike to the listed element of its class
    unfoldable pub steady_from : List A → List A → Bool
    steady_from l xs = all (λ x. all (λ g. agrees l (x ∗ g)) gens) xs

    -- the growth that ends with the list l
    abbrev pub described : List A → Growth A
    described l = record { found = l; steps = steps_from l l; steady = steady_from l l }

  module _ (limit : ℕ) where
    -- the cases of one element's steps
    data Turned (x : A) : List G → Growth A → Option (Growth A) → Type 0 where
      finished : {s : Growth A} → Turned x [] s (some s)
      outside : {g : G} {gens : List G} {s : Growth A} → fine (x ∗ g) ≡ false → Turned x (g ∷ gens) s none
      again : {g : G} {gens : List G} {s : Growth A} {r : Option (Growth A)} → fine (x ∗ g) ≡ true → T (has same (x ∗ g) s.found)
          → Turned x gens (recurring same alike (x ∗ g) s) r → Turned x (g ∷ gens) s r
      full : {g : G} {gens : List G} {s : Growth A} → fine (x ∗ g) ≡ true → ¬ T (has same (x ∗ g) s.found) → limit ≤ length s.found
          → Turned x (g ∷ gens) s none
      more : {g : G} {gens : List G} {s : Growth A} {r : Option (Growth A)} → fine (x ∗ g) ≡ true → ¬ T (has same (x ∗ g) s.found)
          → length s.found < limit → Turned x gens (lengthened same alike (x ∗ g) s) r → Turned x (g ∷ gens) s r

    -- the steps meet one of them
    turned : (x : A) (gens : List G) (s : Growth A) → Turned x gens s (turns same alike allowed limit x gens s)
    unfolding turns allowed taken_up bind
    turned x [] s = finished
    turned x (g ∷ gens) s = by-test (fine (x ∗ g)) refl (has same (x ∗ g) s.found) refl (ltb (length s.found) limit) refl (turned x gens)
      where
        next : Growth A → Option (Growth A)
        next = turns same alike allowed limit x gens

        by-test : (a : Bool) → fine (x ∗ g) ≡ a → (b : Bool) → has same (x ∗ g) s.found ≡ b → (c : Bool) → ltb (length s.found) limit ≡ c
            → ((t : Growth A) → Turned x gens t (next t))
            → Turned x (g ∷ gens) s (bind (cond a (some (x ∗ g)) none) (λ p. bind (cond (ltb (place same p s.found) (length s.found))
            (some (recurring same alike p s)) (cond c (some (lengthened same alike p s)) none)) next))
        by-test false e b f c h later = outside e
        by-test true e true f c h later = rw (place-test same (x ∗ g) s.found, f) (again e (true-T f) (later (recurring same alike (x ∗ g) s)))
        by-test true e false f true h later =
            rw (place-test same (x ∗ g) s.found, f) (more e (λ t. false≢true (sym f ∙ T_true t)) (ltb-true _ _ h) (later (lengthened same alike (x ∗ g) s)))
        by-test true e false f false h later = rw (place-test same (x ∗ g) s.found, f) (full e (λ t. false≢true (sym f ∙ T_true t)) (ltb-false _ _ h))

    module _ (E : Equivalence same) (Alike-self : (x : A) → alike x x ≡ true) where
      -- what one element's steps do, told by the list that they end with and whatever comes behind it
      record Extends (x : A) (gens : List G) (s t : Growth A) : Type 0 where
        added : List A
        grows : t.found ≡ s.found ++ added
        is-fresh : Fresh same s.found (map (λ g. x ∗ g) gens) added
        each-fine : (g : G) → Mem g gens → fine (x ∗ g) ≡ true
        within : length s.found ≤ limit → length t.found ≤ limit
        each_step : (r : List A) → t.steps ≡ s.steps ++ map (λ g. place same (x ∗ g) (t.found ++ r)) gens
        each-steady : (r : List A) → t.steady ≡ (s.steady && all (λ g. agrees (t.found ++ r) (x ∗ g)) gens)

      -- an element that was found before agrees with the one at its place
      agrees-again : (p : A) (l r : List A) → T (has same p l) → agrees (l ++ r) p ≡ alike p (get_or l (place same p l) p)
      unfolding agrees
      agrees-again p l r t = rw (place-stays same p l r t, get_or-append l r p (place same p l) (place-lt same p l t))

      -- a new element agrees with itself
      agrees-new : (p : A) (l r : List A) → ¬ T (has same p l) → agrees (l ++ p ∷ r) p ≡ true
      unfolding agrees
      agrees-new p l r n = rw (place-put same E p l r n, get_or-append_seam l p r p) (Alike-self p)

      -- the index of an element that was found before, once the list has grown
      again-at : (p : A) (l added m r : List A) → m ≡ l ++ added → T (has same p l) → place same p (m ++ r) ≡ place same p l
      again-at p l added m r e t = rw (e, append_assoc l added r) (place-stays same p l (added ++ r) t)

      -- and of a new one
      new-at : (p : A) (l added m r : List A) → m ≡ (l ++ p ∷ []) ++ added → ¬ T (has same p l) → place same p (m ++ r) ≡ place same p l
      new-at p l added m r e n = rw (e, append_snoc l p added, append_assoc l (p ∷ added) r, place-behind same p l n) (place-put same E p l (added ++ r) n)

      -- both agree with what is listed then
      again-agrees : (p : A) (l added m r : List A) → m ≡ l ++ added → T (has same p l) → agrees (m ++ r) p ≡ alike p (get_or l (place same p l) p)
      again-agrees p l added m r e t = rw (e, append_assoc l added r) (agrees-again p l (added ++ r) t)

      new-agrees : (p : A) (l added m r : List A) → m ≡ (l ++ p ∷ []) ++ added → ¬ T (has same p l) → agrees (m ++ r) p ≡ true
      new-agrees p l added m r e n = rw (e, append_snoc l p added, append_assoc l (p ∷ added) r) (agrees-new p l (added ++ r) n)

      -- what the steps do
      turned-extends : {x : A} {gens : List G} {s t : Growth A} {r : Option (Growth A)} → Turned x gens s r → r ≡ some t → Extends x gens s t
      unfolding all
      turned-extends {x} {t} (finished {s}) e =
          let z : s ≡ t = cc in
          rw (← z) (record {
            added = [];
            grows = sym (append-nil s.found);
            is-fresh = done;
            each-fine = λ g m. absurd (not-nil m);
            within = λ h. h;
            each_step = λ r. sym (append-nil s.steps);
            each-steady = λ r. sym (and-true s.steady);
          })
      turned-extends (outside h) e = let z : ◌≡◌ {A = ℕ} 0 1 = cc in absurd (omega arith)
      turned-extends (full h n k) e = let z : ◌≡◌ {A = ℕ} 0 1 = cc in absurd (omega arith)
      turned-extends {x} {t} (again {g} {gens} {s} f h later) e =
          let X = turned-extends later e in
          let p = x ∗ g in
          record {
            added = X.added;
            grows = X.grows;
            is-fresh = old h X.is-fresh;
            each-fine = λ k m. elim (cases m) [ inl q ↦ rw q f | inr q ↦ X.each-fine k q ];
            within = X.within;
            each_step = λ r. X.each_step r ∙ append_snoc s.steps (place same p s.found) (map (λ k. place same (x ∗ k) (t.found ++ r)) gens)
                ∙ ap (λ n. s.steps ++ n ∷ map (λ k. place same (x ∗ k) (t.found ++ r)) gens) (sym
                (again-at p s.found X.added t.found r X.grows h));
            each-steady = λ r. X.each-steady r ∙ and_assoc s.steady (alike p (get_or s.found (place same p s.found) p)) (all
                (λ k. agrees (t.found ++ r) (x ∗ k)) gens)
                ∙ ap (λ b. s.steady && (b && all (λ k. agrees (t.found ++ r) (x ∗ k)) gens)) (sym
                (again-agrees p s.found X.added t.found r X.grows h));
          }
      turned-extends {x} {t} (more {g} {gens} {s} f n h later) e =
          let X = turned-extends later e in
          let p = x ∗ g in
          record {
            added = p ∷ X.added;
            grows = X.grows ∙ append_snoc s.found p X.added;
            is-fresh = new n X.is-fresh;
            each-fine = λ k m. elim (cases m) [ inl q ↦ rw q f | inr q ↦ X.each-fine k q ];
            within = λ k. X.within (simp length-append (omega arith));
            each_step = λ r. X.each_step r ∙ append_snoc s.steps (place same p s.found) (map (λ k. place same (x ∗ k) (t.found ++ r)) gens)
                ∙ ap (λ n. s.steps ++ n ∷ map (λ k. place same (x ∗ k) (t.found ++ r)) gens) (sym (new-at p s.found X.added t.found r X.grows n));
            each-steady = λ r. X.each-steady r
                ∙ ap (λ b. s.steady && (b && all (λ k. agrees (t.found ++ r) (x ∗ k)) gens)) (sym
                (new-agrees p s.found X.added t.found r X.grows n));
          }

      -- where every product is allowed and the list stays within the limit, the steps give an answer
      turned-ends : {x : A} {gens : List G} {s : Growth A} {r : Option (Growth A)} {added : List A} → Turned x gens s r
          → ((g : G) → Mem g gens → fine (x ∗ g) ≡ true) → Fresh same s.found (map (λ g. x ∗ g) gens) added → length (s.found ++ added) ≤ limit
          → (t : Growth A) × (r ≡ some t)
      turned-ends (finished {s}) each f k = (s, refl)
      turned-ends (outside {g} h) each f k = absurd (false≢true (sym h ∙ each g (here refl)))
      turned-ends (again a h later) each (old t f) k = turned-ends later (λ g m. each g (there m)) f k
      turned-ends (again a h later) each (new n f) k = absurd (n h)
      turned-ends (full a n k) each (old t f) within = absurd (n t)
      turned-ends (full a n k) each (new m f) within = absurd (omega (arith, simp length-append at within))
      turned-ends (more a n k later) each (old t f) within = absurd (n t)
      turned-ends {x} (more {g} {s} a n k later) each (new {r} m f) within =
          turned-ends later (λ h q. each h (there q)) f (rw (append_snoc s.found (x ∗ g) r) within)

      module _ (unit : A) (gens : List G) where
        -- what a growth from the elements that wait does, beside the run of the closure
        record Grew (n : ℕ) (taken waiting : List A) (s t : Growth A) : Type 0 where
          later : List A
          grows : t.found ≡ s.found ++ later
          runs : run same ◌∗◌ unit gens n taken waiting ≡ some t.found
          later-fine : (y : A) → Mem y later → fine y ≡ true
          all-steps : t.steps ≡ s.steps ++ steps_from gens t.found (waiting ++ later)
          all-steady : t.steady ≡ (s.steady && steady_from gens t.found (waiting ++ later))

        -- nothing waits
        grew-done : (n : ℕ) (taken : List A) (s : Growth A) → s.found ≡ taken ++ [] → run same ◌∗◌ unit gens n taken [] ≡ some taken → Grew n taken [] s s
        unfolding steps_from steady_from all
        grew-done n taken s e r = record {
          later = [];
          grows = sym (append-nil s.found);
          runs = r ∙ ap some (sym (e ∙ append-nil taken));
          later-fine = λ y m. absurd (not-nil m);
          all-steps = sym (append-nil s.steps);
          all-steady = sym (and-true s.steady);
        }

        -- the first that waits takes its steps, and the others go on
        grew-more : (n : ℕ) (taken waiting : List A) (x : A) (s u t : Growth A) → s.found ≡ taken ++ x ∷ waiting → (X : Extends x gens s u)
            → Grew n (taken ++ x ∷ []) (waiting ++ X.added) u t → Grew (suc n) taken (x ∷ waiting) s t
        unfolding run steps_from steady_from all
        grew-more n taken waiting x s u t e X W =
            let joined : t.found ≡ u.found ++ W.later = W.grows in
            let regrouped : (waiting ++ X.added) ++ W.later ≡ waiting ++ (X.added ++ W.later) = append_assoc waiting X.added W.later in
            let fresh_added : fresh same (taken ++ x ∷ waiting) (map (λ g. x ∗ g) gens) ≡ X.added =
            fresh-unique same (fresh_meets same _ _) (rw e at X.is-fresh) in
            record {
              later = X.added ++ W.later;
              grows = W.grows ∙ ap (λ l. l ++ W.later) X.grows ∙ append_assoc s.found X.added W.later;
              runs = ap (λ l. run same ◌∗◌ unit gens n (taken ++ x ∷ []) (waiting ++ l)) fresh_added ∙ W.runs;
              later-fine = λ y m. elim (mem-append-cases X.added m) [
                | inl k ↦ let (g, h, q) = mem-of-map (λ g. x ∗ g) gens (fresh-candidate same X.is-fresh k) in rw (← q) (X.each-fine g h)
                | inr k ↦ W.later-fine y k
              ];
              all-steps = W.all-steps
                  ∙ ap (λ l. l ++ steps_from gens t.found ((waiting ++ X.added) ++ W.later)) (X.each_step W.later)
                  ∙ append_assoc s.steps _ _
                  ∙ rw (← joined, regrouped);
              all-steady = W.all-steady
                  ∙ ap (λ b. b && steady_from gens t.found ((waiting ++ X.added) ++ W.later)) (X.each-steady W.later)
                  ∙ and_assoc s.steady _ _
                  ∙ rw (← joined, regrouped);
            }

        -- the element whose turn it is
        turn-of : (taken waiting : List A) (x : A) (s : Growth A) → s.found ≡ taken ++ x ∷ waiting
            → (get_or s.found (length taken) unit ≡ x) × (ltb (length taken) (length s.found) ≡ true)
        turn-of taken waiting x s e = rw e (get_or-append_seam taken x waiting unit, lt-ltb (length taken) _ (simp length-append (omega arith)))

        -- the length of a list with one more element
        one_more : (taken : List A) (x : A) → length (taken ++ x ∷ []) ≡ suc (length taken)
        one_more taken x = simp length-append (omega arith)

        -- a growth that ends goes with the run of the closure
        grow-sound : (n : ℕ) (taken waiting : List A) (s t : Growth A) → s.found ≡ taken ++ waiting → length taken + n ≡ limit → length s.found ≤ limit
            → grow same alike allowed limit unit gens n (length taken) s ≡ some t → Grew n taken waiting s t
        unfolding grow run
        grow-sound zero taken [] s t e total h q = let z : s ≡ t = cc in rw (← z) (grew-done zero taken s e refl)
        grow-sound zero taken (x ∷ waiting) s t e total h q = let long = rw (e, length-append) at h in absurd (omega arith)
        grow-sound (suc n) taken [] s t e total h q =
            let last : ltb (length taken) (length s.found) ≡ false = rw (e, append-nil) (le-ltb (length taken) (length taken) (omega arith)) in
            let z : s ≡ t = some-injective s t (rw last at q) in
            rw (← z) (grew-done (suc n) taken s e refl)
        grow-sound (suc n) taken (x ∷ waiting) s t e total h q =
            let (at_x, in_List) = turn-of taken waiting x s e in
            let (u, first, rest) = (bind-eq-some_iff (turns same alike allowed limit x gens s) (grow same alike allowed limit unit gens n
            (suc (length taken)))).0 (rw (in_List, at_x) at q) in
            let X = turned-extends (turned x gens s) first in
            let joined : u.found ≡ (taken ++ x ∷ []) ++ (waiting ++ X.added) =
            X.grows ∙ ap (λ l. l ++ X.added) e ∙ sym (regroup taken waiting X.added x) in
            grew-more n taken waiting x s u t e X
            (grow-sound n (taken ++ x ∷ []) (waiting ++ X.added) u t joined (omega (arith, one_more taken x)) (X.within h) (rw (one_more taken x) rest))

        -- what a run ends with begins with what was found
        run-prefix : (n : ℕ) (taken waiting l : List A) → run same ◌∗◌ unit gens n taken waiting ≡ some l → (r : List A) × (l ≡ (taken ++ waiting) ++ r)
        unfolding run
        run-prefix zero taken [] l p = let z : taken ≡ l = cc in ([], sym (append-nil (taken ++ []) ∙ append-nil taken ∙ z))
        run-prefix zero taken (x ∷ waiting) l p = let z : ◌≡◌ {A = ℕ} 0 1 = cc in absurd (omega arith)
        run-prefix (suc n) taken [] l p = let z : taken ≡ l = cc in ([], sym (append-nil (taken ++ []) ∙ append-nil taken ∙ z))
        run-prefix (suc n) taken (x ∷ waiting) l p =
            let f = fresh same (taken ++ x ∷ waiting) (map (λ g. x ∗ g) gens) in
            let (r, e) = run-prefix n (taken ++ x ∷ []) (waiting ++ f) l p in
            (f ++ r, e ∙ ap (λ m. m ++ r) (regroup taken waiting f x) ∙ append_assoc (taken ++ x ∷ waiting) f r)

        -- where the run ends with a list within the limit whose members have only allowed steps, the growth ends
        grow-ends : (n : ℕ) (taken waiting l : List A) (s : Growth A) → s.found ≡ taken ++ waiting
            → run same ◌∗◌ unit gens n taken waiting ≡ some l → length l ≤ limit → ((x : A) (g : G) → Mem x l → Mem g gens → fine (x ∗ g) ≡ true)
            → (t : Growth A) × (grow same alike allowed limit unit gens n (length taken) s ≡ some t)
        unfolding grow run
        grow-ends zero taken waiting l s e p h each = (s, refl)
        grow-ends (suc n) taken [] l s e p h each =
            let last : ltb (length taken) (length s.found) ≡ false = rw (e, append-nil) (le-ltb (length taken) (length taken) (omega arith)) in
            (s, rw last)
        grow-ends (suc n) taken (x ∷ waiting) l s e p h each =
            let f = fresh same (taken ++ x ∷ waiting) (map (λ g. x ∗ g) gens) in
            let (r, z) = run-prefix n (taken ++ x ∷ []) (waiting ++ f) l p in
            let whole : l ≡ ((taken ++ x ∷ waiting) ++ f) ++ r = z ∙ ap (λ m. m ++ r) (regroup taken waiting f x) in
            let is-fresh : Fresh same s.found (map (λ g. x ∗ g) gens) f = rw e (fresh_meets same (taken ++ x ∷ waiting) (map (λ g. x ∗ g) gens)) in
            let member : Mem x l = rw whole (mem-append_left r (mem-append_left f (mem-append_right taken (here refl)))) in
            let few : length (s.found ++ f) ≤ limit = rw e (omega (arith, ap length whole, length-append ((taken ++ x ∷ waiting) ++ f) r)) in
            let (u, first) = turned-ends (turned x gens s) (λ g m. each x g member m) is-fresh few in
            let X = turned-extends (turned x gens s) first in
            let added : X.added ≡ f = fresh-unique same X.is-fresh is-fresh in
            let joined : u.found ≡ (taken ++ x ∷ []) ++ (waiting ++ f) = X.grows ∙ rw added (ap (λ l. l ++ f) e) ∙ sym (regroup taken waiting f x) in
            let (t, rest) = grow-ends n (taken ++ x ∷ []) (waiting ++ f) l u joined p h each in
            let (at_x, in_List) = turn-of taken waiting x s e in (
              t,
              rw (in_List, at_x) ((bind-eq-some_iff (turns same alike allowed limit x gens s)
                  (grow same alike allowed limit unit gens n (suc (length taken)))).1
                  (u, first, rw (one_more taken x) at rest)),
            )

        -- ---- the whole growth

        module _ (unit-fine : fine unit ≡ true) (fine-same : (x y : A) → T (same x y) → fine y ≡ true → fine x ≡ true)
            (congruence : Congruence same ◌∗◌ unit gens) (positive : 1 ≤ limit) where
          -- where the growth ends, so does the closure, with allowed members
          grown→closure : (t : Growth A) → grown same alike allowed limit unit gens ≡ some t
              → (closure same ◌∗◌ unit gens limit ≡ some t.found) × T (all fine t.found) × (t ≡ described gens t.found)
          unfolding grown closure
          grown→closure t q =
              let W = grow-sound limit [] (unit ∷ []) (record { found = unit ∷ []; steps = []; steady = true }) t refl (omega arith) (omega arith) q in
              let whole : t.found ≡ unit ∷ W.later = W.grows in
              let steps : t.steps ≡ steps_from gens t.found t.found = W.all-steps ∙ ap (steps_from gens t.found) (sym whole) in
              let steady : t.steady ≡ steady_from gens t.found t.found = W.all-steady ∙ ap (steady_from gens t.found) (sym whole) in (
                W.runs,
                member-all fine t.found (λ y m. elim (cases (rw whole at m)) [ inl e ↦ rw e (true-T unit-fine) | inr k ↦ true-T (W.later-fine y k) ]),
                λ i. record { found = t.found; steps = steps i; steady = steady i },
              )

          -- where the closure ends and its members have only allowed steps, the growth ends
          grown-ends : (l : List A) → closure same ◌∗◌ unit gens limit ≡ some l → ((x : A) (g : G) → Mem x l → Mem g gens → fine (x ∗ g) ≡ true)
              → (t : Growth A) × (grown same alike allowed limit unit gens ≡ some t)
          unfolding grown closure
          grown-ends l p each = grow-ends limit [] (unit ∷ []) l (record {
            found = unit ∷ [];
            steps = [];
            steady = true;
          }) refl p (closure-length same ◌∗◌ unit gens limit l p) each

          -- where the closure ends with allowed members, the growth ends with them
          closure→grown : (l : List A) → closure same ◌∗◌ unit gens limit ≡ some l → T (all fine l)
              → grown same alike allowed limit unit gens ≡ some (described gens l)
          closure→grown l p h =
              let (t, q) = ends in
              let (c, f, e) = grown→closure t q in
              let list : t.found ≡ l = some-injective t.found l (sym c ∙ p) in
              q ∙ ap some (e ∙ ap (described gens) list)
            where
              each : (x : A) (g : G) → Mem x l → Mem g gens → fine (x ∗ g) ≡ true
              each x g m k =
                  let L = closure-lists same ◌∗◌ unit gens E congruence limit l p in
                  let (y, n, s) = has-member same (x ∗ g) l (L.complete (x ∗ g) (step (L.sound x m) k)) in
                  fine-same (x ∗ g) y s (T_true (all-member fine h n))

              ends : (t : Growth A) × (grown same alike allowed limit unit gens ≡ some t)
              ends = grown-ends l p each

          -- a growth that ends in nothing has no answer
          no-growth : ((t : Growth A) → grown same alike allowed limit unit gens ≡ some t → ⊥) → grown same alike allowed limit unit gens ≡ none
          no-growth h = by_answer (grown same alike allowed limit unit gens) refl
            where
              by_answer : (o : Option (Growth A)) → grown same alike allowed limit unit gens ≡ o → grown same alike allowed limit unit gens ≡ none
              by_answer none e = e
              by_answer (some t) e = absurd (h t e)

          -- a growth is the closure, if that ends within the limit and all its members are allowed
          pub grown-closure : grown same alike allowed limit unit gens
              ≡ bind (closure same ◌∗◌ unit gens limit) (λ l. cond (all fine l) (some (described gens l)) none)
          unfolding bind
          grown-closure = by-closure (closure same ◌∗◌ unit gens limit) refl
            where
              by-test : (l : List A) → closure same ◌∗◌ unit gens limit ≡ some l → (b : Bool) → all fine l ≡ b
                  → grown same alike allowed limit unit gens ≡ cond b (some (described gens l)) none
              by-test l p true e = closure→grown l p (true-T e)
              by-test l p false e = no-growth (λ t q.
                  let (c, f, _) = grown→closure t q in
                  let list : t.found ≡ l = some-injective t.found l (sym c ∙ p) in
                  false≢true (sym e ∙ T_true (rw list at f)))

              by-closure : (o : Option (List A)) → closure same ◌∗◌ unit gens limit ≡ o
                  → grown same alike allowed limit unit gens ≡ bind o (λ l. cond (all fine l) (some (described gens l)) none)
              by-closure none p = no-growth (λ t q. let (c, f, _) = grown→closure t q in let both = sym c ∙ p in let z : ◌≡◌ {A = ℕ} 0 1 = cc in omega arith)
              by-closure (some l) p = by-test l p (all fine l) refl
