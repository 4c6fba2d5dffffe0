-- The axis rules a second time, sentence by sentence of R2.1 to R2.5: a rule settles an axis, and the table `axis_of` has it exactly then.
use Rattle.std.specs.Prelude.{◌≡◌, refl, ◌⊎◌, ◌↔◌, ◌≢◌, Bool, true, false, cond, ℕ, ◌<◌, eqb, None, Option, Some}
use Rattle.std.proofs.Common.{sym, ◌∙◌, ap, subst, inl, inr, true≢false, arith, eqb-true}
use Rattle.std.proofs.lemmas.Bool.{eqb-false}
use Rattle.hall_axes.specs.declared.Fold.{Fold}
use Rattle.hall_axes.specs.declared.Fold.TheVariants.{One, Two, Three, Four, Six}
use Rattle.hall_axes.specs.declared.Mark.{Mark}
use Rattle.hall_axes.specs.declared.Mark.TheVariants.{Unmarked, Single, Double}
use Rattle.hall_axes.specs.declared.Direction.{Direction}
use Rattle.hall_axes.specs.declared.Direction.TheVariants.{X, Y, Z, Diagonal}
use Rattle.hall_axes.specs.declared.Axis.{Axis}
use Rattle.hall_axes.specs.declared.Place.{Place}
use Rattle.hall_axes.specs.declared.Place.TheVariants.{First, Second, Third, Later}
use Rattle.hall_axes.specs.declared.Previous.{Previous}
use Rattle.hall_axes.specs.Axes.{axis, plain, token_place, default_axis, plain_direction, second_direction, marked_direction, with_mark, turning_axis, axis_of}

-- ---- the rules

-- There is an N token to the left, and its axis is plain, along d, and not the diagonal.
pub record HandsOn (p : Previous) (d : Direction) : Type 0 where
  pub stands : 0 < p.count
  pub is_plain : p.axis ≡ plain d
  pub is-letter : d ≢ Diagonal

pub data Settles (own : Fold) (m : Mark) (l : Option Direction) (p : Previous) (a : Axis) : Type 0 where
  -- Fold 1 takes no mark and no axis and counts as plain z at any place; the rules below pass it by.
  fold-one : own ≡ One → m ≡ Unmarked → l ≡ None → a ≡ plain Z → Settles own m l p a
  -- A letter is the axis, with its mark.
  letter : own ≢ One → (d : Direction) → l ≡ Some d → a ≡ axis m d → Settles own m l p a
  -- A mark without a letter takes the axis before if that is plain x, y or z.
  mark-handed : own ≢ One → m ≢ Unmarked → l ≡ None → (d : Direction) → HandsOn p d → a ≡ axis m d → Settles own m l p a
  -- Otherwise: first N token z; second token after fold 2, x.
  mark-first : own ≢ One → m ≢ Unmarked → l ≡ None → p.count ≡ 0 → a ≡ axis m Z → Settles own m l p a
  mark-second : own ≢ One → m ≢ Unmarked → l ≡ None → ((d : Direction) → ¬ (HandsOn p d)) → p.count ≡ 1 → p.fold ≡ Two → a ≡ axis m X → Settles own m l p a
  -- Neither mark nor letter: first token z; second token after fold 2 or 4, x, after 3 or 6, `^z`; third token only fold 3, `*`.
  bare-first : own ≢ One → m ≡ Unmarked → l ≡ None → p.count ≡ 0 → a ≡ plain Z → Settles own m l p a
  bare-second : own ≢ One → m ≡ Unmarked → l ≡ None → p.count ≡ 1 → (p.fold ≡ Two) ⊎ (p.fold ≡ Four) → a ≡ plain X → Settles own m l p a
  bare-second-oblique : own ≢ One → m ≡ Unmarked → l ≡ None → p.count ≡ 1 → (p.fold ≡ Three) ⊎ (p.fold ≡ Six) → a ≡ axis Single Z → Settles own m l p a
  bare-third : m ≡ Unmarked → l ≡ None → p.count ≡ 2 → own ≡ Three → a ≡ plain Diagonal → Settles own m l p a

-- ---- places

PlacedAt : ℕ → Place → Type 0
PlacedAt n First = n ≡ 0
PlacedAt n Second = n ≡ 1
PlacedAt n Third = n ≡ 2
PlacedAt n Later = 2 < n

placed : (n : ℕ) → PlacedAt n (token_place n)
unfolding token_place PlacedAt
placed n = first (eqb n 0) refl
  where
    third : (t : Bool) → eqb n 2 ≡ t → (n ≡ 0 → ⊥) → (n ≡ 1 → ⊥) → PlacedAt n (cond t Third Later)
    third true h a b = eqb-true n 2 h
    third false h a b = let c = eqb-false n 2 h in omega arith

    second : (t : Bool) → eqb n 1 ≡ t → (n ≡ 0 → ⊥) → PlacedAt n (cond t Second (cond (eqb n 2) Third Later))
    second true h a = eqb-true n 1 h
    second false h a = third (eqb n 2) refl a (eqb-false n 1 h)

    first : (t : Bool) → eqb n 0 ≡ t → PlacedAt n (cond t First (cond (eqb n 1) Second (cond (eqb n 2) Third Later)))
    first true h = eqb-true n 0 h
    first false h = second (eqb n 1) refl (eqb-false n 0 h)

-- ---- what the table settles, a rule settles

abbrev ByRule : Fold → Mark → Option Direction → Previous → Option Axis → Type 0
ByRule own m l p (Some a) = Settles own m l p a
ByRule own m l p None = Unit {0}

-- Without mark and letter.
bare-by-rule : (own : Fold) → own ≢ One → (p : Previous) → ByRule own Unmarked None p (default_axis (token_place p.count) p.fold own)
unfolding PlacedAt
bare-by-rule own t p = go (token_place p.count) (placed p.count) p.fold refl own refl
  where
    go : (w : Place) → PlacedAt p.count w → (before : Fold) → p.fold ≡ before → (f : Fold) → own ≡ f → ByRule own Unmarked None p (default_axis w before f)
    go First h before e f i = bare-first t refl refl h refl
    go Second h One e f i = tt
    go Second h Two e f i = bare-second t refl refl h (inl e) refl
    go Second h Three e f i = bare-second-oblique t refl refl h (inl e) refl
    go Second h Four e f i = bare-second t refl refl h (inr e) refl
    go Second h Six e f i = bare-second-oblique t refl refl h (inr e) refl
    go Third h before e One i = tt
    go Third h before e Two i = tt
    go Third h before e Three i = bare-third refl refl h i refl
    go Third h before e Four i = tt
    go Third h before e Six i = tt
    go Later h before e f i = tt

is_diagonal : Direction → Bool
is_diagonal X = false
is_diagonal Y = false
is_diagonal Z = false
is_diagonal Diagonal = true

not-diagonal : (d : Direction) → is_diagonal d ≡ false → d ≢ Diagonal
unfolding is_diagonal
not-diagonal d h e = true≢false (sym (ap is_diagonal e) ∙ h)

-- The direction that an axis hands on, or none.
abbrev Handed : Axis → Option Direction → Type 0
Handed a (Some d) = (a ≡ plain d) × (d ≢ Diagonal)
Handed a None = (d : Direction) → a ≡ plain d → d ≢ Diagonal → ⊥

handed : (a : Axis) → Handed a (plain_direction a.mark a.direction)
unfolding is_diagonal
handed a = go a.mark refl a.direction refl
  where
    at : {m : Mark} {d : Direction} → a.mark ≡ m → a.direction ≡ d → a ≡ axis m d
    at p q = λ i. record { mark = p i; direction = q i }

    go : (m : Mark) → a.mark ≡ m → (d : Direction) → a.direction ≡ d → Handed a (plain_direction m d)
    go Unmarked e X i = (at e i, not-diagonal X refl)
    go Unmarked e Y i = (at e i, not-diagonal Y refl)
    go Unmarked e Z i = (at e i, not-diagonal Z refl)
    go Unmarked e Diagonal i = λ d h k. k (sym (ap (λ (b : Axis). b.direction) h) ∙ i)
    go Single e d i = λ c h k. let z : ◌≡◌ {A = Mark} Unmarked Single = sym (ap (λ (b : Axis). b.mark) h) ∙ e in let w : ◌≡◌ {A = ℕ} 0 1 = cc in
        absurd (omega arith)
    go Double e d i = λ c h k. let z : ◌≡◌ {A = Mark} Unmarked Double = sym (ap (λ (b : Axis). b.mark) h) ∙ e in let w : ◌≡◌ {A = ℕ} 0 1 = cc in
        absurd (omega arith)

-- With a mark and no letter.
marked-by-rule : (own : Fold) → own ≢ One → (m : Mark) → m ≢ Unmarked → (p : Previous)
    → ByRule own m None p (with_mark m (marked_direction (token_place p.count) p.fold p.axis))
unfolding PlacedAt
marked-by-rule own t m k p = go (token_place p.count) (placed p.count)
  where
    passed_on : 0 < p.count → (l : Option Direction) → Handed p.axis l → ByRule own m None p (with_mark m l)
    passed_on h (Some d) g = mark-handed t k refl d (record { stands = h; is_plain = g.0; is-letter = g.1 }) refl
    passed_on h None g = tt

    second : p.count ≡ 1 → (l : Option Direction) → Handed p.axis l → (before : Fold) → p.fold ≡ before
        → ByRule own m None p (with_mark m (second_direction l before))
    second h (Some d) g before e = passed_on (omega arith) (Some d) g
    second h None g One e = tt
    second h None g Two e = mark-second t k refl (λ d w. g d w.is_plain w.is-letter) h e refl
    second h None g Three e = tt
    second h None g Four e = tt
    second h None g Six e = tt

    go : (w : Place) → PlacedAt p.count w → ByRule own m None p (with_mark m (marked_direction w p.fold p.axis))
    go First h = mark-first t k refl h refl
    go Second h = second h (plain_direction p.axis.mark p.axis.direction) (handed p.axis) p.fold refl
    go Third h = passed_on (omega arith) (plain_direction p.axis.mark p.axis.direction) (handed p.axis)
    go Later h = passed_on (omega arith) (plain_direction p.axis.mark p.axis.direction) (handed p.axis)

is_none : Mark → Bool
is_none Unmarked = true
is_none Single = false
is_none Double = false

not_none : (m : Mark) → is_none m ≡ false → m ≢ Unmarked
unfolding is_none
not_none m h e = true≢false (sym (ap is_none e) ∙ h)

turning-by-rule : (own : Fold) → own ≢ One → (m : Mark) (l : Option Direction) (p : Previous) → ByRule own m l p (turning_axis own m l p)
unfolding is_none
turning-by-rule own t m (Some d) p = letter t d refl refl
turning-by-rule own t Unmarked None p = bare-by-rule own t p
turning-by-rule own t Single None p = marked-by-rule own t Single (not_none Single refl) p
turning-by-rule own t Double None p = marked-by-rule own t Double (not_none Double refl) p

is_one : Fold → Bool
is_one One = true
is_one Two = false
is_one Three = false
is_one Four = false
is_one Six = false

not-one : (f : Fold) → is_one f ≡ false → f ≢ One
unfolding is_one
not-one f h e = true≢false (sym (ap is_one e) ∙ h)

by-rule : (own : Fold) (m : Mark) (l : Option Direction) (p : Previous) → ByRule own m l p (axis_of own m l p)
unfolding is_one
by-rule One Unmarked (Some d) p = tt
by-rule One Unmarked None p = fold-one refl refl refl refl
by-rule One Single l p = tt
by-rule One Double l p = tt
by-rule Two m l p = turning-by-rule Two (not-one Two refl) m l p
by-rule Three m l p = turning-by-rule Three (not-one Three refl) m l p
by-rule Four m l p = turning-by-rule Four (not-one Four refl) m l p
by-rule Six m l p = turning-by-rule Six (not-one Six refl) m l p

-- ---- what a rule settles, the table settles

turning-axis : (own : Fold) → own ≢ One → (m : Mark) (l : Option Direction) (p : Previous) → axis_of own m l p ≡ turning_axis own m l p
turning-axis One t m l p = absurd (t refl)
turning-axis Two t m l p = refl
turning-axis Three t m l p = refl
turning-axis Four t m l p = refl
turning-axis Six t m l p = refl

marked-axis : (own : Fold) (m : Mark) → m ≢ Unmarked → (p : Previous)
    → turning_axis own m None p ≡ with_mark m (marked_direction (token_place p.count) p.fold p.axis)
marked-axis own Unmarked k p = absurd (k refl)
marked-axis own Single k p = refl
marked-axis own Double k p = refl

-- The axis of folds 2, 3, 4, 6 with a mark and no letter.
marked-table : (own : Fold) (m : Mark) (l : Option Direction) (p : Previous) → own ≢ One → m ≢ Unmarked → l ≡ None → (w : Option Direction)
    → marked_direction (token_place p.count) p.fold p.axis ≡ w → axis_of own m l p ≡ with_mark m w
marked-table own m l p t k e w h = ap (λ (x : Option Direction). axis_of own m x p) e ∙ turning-axis own t m None p ∙ marked-axis own m k p ∙ ap (with_mark m) h

-- The same without a mark.
bare-table : (own : Fold) (m : Mark) (l : Option Direction) (p : Previous) → own ≢ One → m ≡ Unmarked → l ≡ None
    → axis_of own m l p ≡ default_axis (token_place p.count) p.fold own
bare-table own m l p t k e = rw (e, k) (turning-axis own t Unmarked None p)

handed-direction : (a : Axis) (d : Direction) → a ≡ plain d → d ≢ Diagonal → plain_direction a.mark a.direction ≡ Some d
handed-direction a d e k = ap (λ (b : Axis). plain_direction b.mark b.direction) e ∙ go d k
  where
    go : (c : Direction) → c ≢ Diagonal → plain_direction Unmarked c ≡ Some c
    go X h = refl
    go Y h = refl
    go Z h = refl
    go Diagonal h = absurd (h refl)

-- Where an axis is handed on, the place does not matter.
handed-marked : (p : Previous) (d : Direction) → HandsOn p d → marked_direction (token_place p.count) p.fold p.axis ≡ Some d
unfolding PlacedAt
handed-marked p d h = go (token_place p.count) (placed p.count)
  where
    e : plain_direction p.axis.mark p.axis.direction ≡ Some d
    e = handed-direction p.axis d h.is_plain h.is-letter

    go : (w : Place) → PlacedAt p.count w → marked_direction w p.fold p.axis ≡ Some d
    go First k = let z = h.stands in absurd (omega arith)
    go Second k = ap (λ (l : Option Direction). second_direction l p.fold) e
    go Third k = e
    go Later k = e

-- Where none is, a second token after fold 2 takes x.
second-marked : (p : Previous) → ((d : Direction) → ¬ (HandsOn p d)) → p.count ≡ 1 → p.fold ≡ Two
    → marked_direction (token_place p.count) p.fold p.axis ≡ Some X
unfolding token_place
second-marked p n h f = rw (h, f) (go (plain_direction p.axis.mark p.axis.direction) (handed p.axis))
  where
    go : (l : Option Direction) → Handed p.axis l → second_direction l Two ≡ Some X
    go (Some d) g = absurd (n d (record { stands = omega arith; is_plain = g.0; is-letter = g.1 }))
    go None g = refl

by-table : (own : Fold) (m : Mark) (l : Option Direction) (p : Previous) (a : Axis) → Settles own m l p a → axis_of own m l p ≡ Some a
unfolding token_place
by-table own m l p a (fold-one o k e q) = rw (o, k, e, q)
by-table own m l p a (letter t d e q) = rw (e, q) (turning-axis own t m (Some d) p)
by-table own m l p a (mark-handed t k e d h q) = rw q (marked-table own m l p t k e (Some d) (handed-marked p d h))
by-table own m l p a (mark-first t k e h q) = rw q (marked-table own m l p t k e (Some Z) (rw h))
by-table own m l p a (mark-second t k e n h f q) = rw q (marked-table own m l p t k e (Some X) (second-marked p n h f))
by-table own m l p a (bare-first t k e h q) = rw q (bare-table own m l p t k e ∙ rw h)
by-table own m l p a (bare-second t k e h (inl f) q) = rw q (bare-table own m l p t k e ∙ rw (h, f))
by-table own m l p a (bare-second t k e h (inr f) q) = rw q (bare-table own m l p t k e ∙ rw (h, f))
by-table own m l p a (bare-second-oblique t k e h (inl f) q) = rw q (bare-table own m l p t k e ∙ rw (h, f))
by-table own m l p a (bare-second-oblique t k e h (inr f) q) = rw q (bare-table own m l p t k e ∙ rw (h, f))
by-table own m l p a (bare-third k e h o q) = rw (q, o, k, e, h)

-- ---- the two are one

-- The table has an axis exactly if a rule settles it; so the rules settle at most one.
pub settles-exact : (own : Fold) (m : Mark) (l : Option Direction) (p : Previous) (a : Axis) → (axis_of own m l p ≡ Some a) ↔ Settles own m l p a
settles-exact own m l p a = (λ e. subst (ByRule own m l p) e (by-rule own m l p), by-table own m l p a)

pub settles-once : (own : Fold) (m : Mark) (l : Option Direction) (p : Previous) (a b : Axis) → Settles own m l p a → Settles own m l p b → a ≡ b
settles-once own m l p a b s t =
    let e = by-table own m l p a s in
    let f = by-table own m l p b t in
    cc
