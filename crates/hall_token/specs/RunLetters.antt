-- The letters of a run, of which each may stand there once: where a letter first repeats an earlier one.
use Rattle.std.specs.Prelude.{◌≡◌, refl, Bool, true, false, cond, ◌&&◌, ◌||◌, ℕ, suc, ◌+◌, ◌<◌, ◌≤◌, eqb, length, get_or, take, drop, Option}
use Rattle.std.specs.List.{list_any}
use Rattle.std.proofs.Common.{sym, ◌∙◌, ap, ⊎_elim, arith, add-one, eqb-true, eq-eqb, ne_eqb, length-append, drop-cons, take-suc}
use Rattle.std.proofs.lemmas.Bool.{false≢true}
use Rattle.std.proofs.Math.Bool.{and-eq-true_iff}
use mathlib.Core.List.Memᴰ.{cases_cons as member-cases}
use mathlib.Core.List.Memᴰ.{head as here}
use mathlib.Core.List.Memᴰ.{not-nil as not-in-nil}
use mathlib.Core.List.Memᴰ.{tail as there}
use mathlib.Core.List.{List, [], ◌∷◌, ◌++◌, append_assoc, Memᴰ as Mem}
use Rattle.std.proofs.Math.Seq.{drop-length, take-append_seam, drop-append_seam}
use Rattle.hall_token.specs.declared.RunByte.{RunByte}
use Rattle.hall_token.specs.declared.RunByte.TheVariants.{Screw, Letter, Prime, Foreign}
use Rattle.hall_token.specs.Bytes.{run_bytes, run_byte_of, value_at, passes, value_at-passes, eqb-flipped}
use Rattle.hall_token.specs.Front.{found_place}

-- a b c n u v w d
abbrev pub letters : List ℕ
letters = 97 ∷ 98 ∷ 99 ∷ 110 ∷ 117 ∷ 118 ∷ 119 ∷ 100 ∷ []

-- A letter of the run that stands before it too.
pub record Repeated (run : List ℕ) : Type 0 where
  pub before : List ℕ
  pub byte : ℕ
  pub after : List ℕ
  pub split : run ≡ before ++ (byte ∷ after)
  pub letter : Mem byte letters
  pub again : Mem byte before

-- The first such stands at place i of the run.
pub record FirstRepeated (run : List ℕ) (i : ℕ) : Type 0 where
  pub repeated : Repeated run
  pub place : i ≡ length repeated.before
  pub first : (r : Repeated run) → i ≤ length r.before

-- ---- as the reader finds it
abbrev pub is_letter : RunByte → Bool
is_letter (Screw s) = false
is_letter (Letter t) = true
is_letter Prime = false
is_letter Foreign = false

unfoldable pub occurs : ℕ → List ℕ → Bool
occurs b [] = false
occurs b (c ∷ cs) = cond (eqb b c) true (occurs b cs)

-- A letter that stands in what is before it.
unfoldable pub repeats : ℕ → List ℕ → Bool
repeats b before = cond (is_letter (run_byte_of b)) (occurs b before) false

-- How far a run goes behind `before` until a letter repeats an earlier one.
unfoldable pub repeat_from : List ℕ → List ℕ → ℕ
repeat_from before [] = 0
repeat_from before (b ∷ bs) = cond (repeats b before) 0 (suc (repeat_from (before ++ (b ∷ [])) bs))

abbrev pub repeat_at : List ℕ → ℕ
repeat_at run = repeat_from [] run

-- Where it does, if it does.
abbrev pub repeat_place : List ℕ → Option ℕ
repeat_place run = found_place (repeat_at run) (length run)

-- What the library's search finds among bytes.
pub contains-occurs : (b : ℕ) (l : List ℕ) → list_any (λ c. eqb c b) l ≡ occurs b l
unfolding occurs
contains-occurs b [] = refl
contains-occurs b (c ∷ cs) = rw (eqb-flipped c b, contains-occurs b cs) (or-cond (eqb b c) (occurs b cs))
  where
    or-cond : (t u : Bool) → (t || u) ≡ cond t true u
    or-cond true u = refl
    or-cond false u = refl

-- ---- a run passed byte by byte
pub occurs-end : (b : ℕ) (l : List ℕ) → occurs b (drop (length l) l) ≡ false
unfolding occurs
occurs-end b l = rw drop-length

pub occurs-stop : (b : ℕ) (l : List ℕ) (i : ℕ) → i < length l → b ≡ get_or l i 0 → occurs b (drop i l) ≡ true
unfolding occurs
occurs-stop b l i h e = rw (drop-cons l i 0 h, eq-eqb b (get_or l i 0) e)

pub occurs-next : (b : ℕ) (l : List ℕ) (i : ℕ) → i < length l → (b ≡ get_or l i 0 → ⊥) → occurs b (drop i l) ≡ occurs b (drop (i + 1) l)
unfolding occurs
occurs-next b l i h e = rw (drop-cons l i 0 h, ne_eqb b (get_or l i 0) e, add-one i)

pub repeat-end : (run : List ℕ) (i : ℕ) → i ≡ length run → repeat_from (take i run) (drop i run) ≡ 0
unfolding repeat_from
repeat-end run i e = ap (λ (l : List ℕ). repeat_from (take i run) l) (ap (λ (n : ℕ). drop n run) e ∙ drop-length run)

pub repeat-stop : (run : List ℕ) (i : ℕ) → i < length run → repeats (get_or run i 0) (take i run) ≡ true → repeat_from (take i run) (drop i run) ≡ 0
unfolding repeat_from
repeat-stop run i h e = rw (drop-cons run i 0 h, e)

pub repeat-next : (run : List ℕ) (i : ℕ) → i < length run → repeats (get_or run i 0) (take i run) ≡ false
    → repeat_from (take i run) (drop i run) ≡ 1 + repeat_from (take (i + 1) run) (drop (i + 1) run)
unfolding repeat_from
repeat-next run i h e = rw (drop-cons run i 0 h, e, add-one i, take-suc run i 0 h) (omega arith)

-- ---- what it says of a run
occurs-member : (b : ℕ) (l : List ℕ) → occurs b l ≡ true → Mem b l
unfolding occurs
occurs-member b [] e = absurd (false≢true e)
occurs-member b (c ∷ cs) e = go (eqb b c) refl (occurs-member b cs)
  where
    go : (t : Bool) → eqb b c ≡ t → (occurs b cs ≡ true → Mem b cs) → Mem b (c ∷ cs)
    go true h below = here (eqb-true b c h)
    go false h below = there (below (sym (ap (λ (x : Bool). cond x true (occurs b cs)) h) ∙ e))

member-occurs : (b : ℕ) (l : List ℕ) → Mem b l → occurs b l ≡ true
unfolding occurs
member-occurs b [] m = absurd (not-in-nil m)
member-occurs b (c ∷ cs) m = go (eqb b c) refl (member-occurs b cs)
  where
    go : (t : Bool) → eqb b c ≡ t → (Mem b cs → occurs b cs ≡ true) → cond t true (occurs b cs) ≡ true
    go true h below = refl
    go false h below = ⊎_elim (λ e. absurd (false≢true (sym h ∙ eq-eqb b c e))) below (member-cases m)

-- Every byte that says a letter is one of the eight, and each of the eight says one.
letter_test : ℕ → RunByte → Bool
letter_test b v = cond (is_letter v) (occurs b letters) true

letter-listed : (b : ℕ) → is_letter (run_byte_of b) ≡ true → Mem b letters
unfolding run_byte_of letter_test passes occurs
letter-listed b e =
    occurs-member b letters (sym (ap (λ (x : Bool). cond x (occurs b letters) true) e) ∙ value_at-passes letter_test Foreign run_bytes (λ c. refl) refl b)

all_letters : List ℕ → Bool
all_letters [] = true
all_letters (b ∷ bs) = is_letter (run_byte_of b) && all_letters bs

listed-among : (b : ℕ) (l : List ℕ) → all_letters l ≡ true → Mem b l → is_letter (run_byte_of b) ≡ true
unfolding all_letters
listed-among b [] e m = absurd (not-in-nil m)
listed-among b (c ∷ cs) e m =
    ⊎_elim
    (λ h. rw h ((and-eq-true_iff (is_letter (run_byte_of c)) (all_letters cs)).0 e).0)
    (λ h. listed-among b cs ((and-eq-true_iff (is_letter (run_byte_of c)) (all_letters cs)).0 e).1 h)
    (member-cases m)

listed-letter : (b : ℕ) → Mem b letters → is_letter (run_byte_of b) ≡ true
unfolding all_letters run_byte_of value_at
listed-letter b m = listed-among b letters refl m

repeats-shown : (b : ℕ) (before : List ℕ) → repeats b before ≡ true → Mem b letters × Mem b before
unfolding repeats
repeats-shown b before e = go (is_letter (run_byte_of b)) refl e
  where
    go : (t : Bool) → is_letter (run_byte_of b) ≡ t → cond t (occurs b before) false ≡ true → Mem b letters × Mem b before
    go true h d = (letter-listed b h, occurs-member b before d)
    go false h d = absurd (false≢true d)

shown-repeats : (b : ℕ) (before : List ℕ) → Mem b letters → Mem b before → repeats b before ≡ true
unfolding repeats
shown-repeats b before l m = rw (listed-letter b l, member-occurs b before m)

-- One byte more stands before.
longer : (run before : List ℕ) (b : ℕ) (bs : List ℕ) → run ≡ before ++ (b ∷ bs) → run ≡ (before ++ (b ∷ [])) ++ bs
longer run before b bs e = e ∙ sym (append_assoc before (b ∷ []) bs)

found : (run before rest : List ℕ) → run ≡ before ++ rest → repeat_from before rest < length rest → (r : Repeated run)
    × (length r.before ≡ length before + repeat_from before rest)
unfolding repeat_from
found run before [] e h = absurd (omega arith)
found run before (b ∷ bs) e h = go (repeats b before) refl h (found run (before ++ (b ∷ [])) bs (longer run before b bs e))
  where
    go : (t : Bool) → repeats b before ≡ t → cond t 0 (suc (repeat_from (before ++ (b ∷ [])) bs)) < suc (length bs)
        → (repeat_from (before ++ (b ∷ [])) bs < length bs → (r : Repeated run)
        × (length r.before ≡ length (before ++ (b ∷ [])) + repeat_from (before ++ (b ∷ [])) bs)) → (r : Repeated run)
        × (length r.before ≡ length before + cond t 0 (suc (repeat_from (before ++ (b ∷ [])) bs)))
    go true t less below =
        let (letter, again) = repeats-shown b before t in
        (record { before = before; byte = b; after = bs; split = e; letter = letter; again = again }, omega arith)
    go false t less below =
        let (r, place) = below (omega arith) in
        let long = length-append before (b ∷ []) in
        (r, omega arith)

-- What is split at the same place is split alike.
same-split : (run s t : List ℕ) (b c : ℕ) (bs cs : List ℕ) → run ≡ s ++ (b ∷ bs) → run ≡ t ++ (c ∷ cs) → length s ≡ length t → (s ≡ t) × (b ≡ c)
same-split run s t b c bs cs e d h =
    let front : s ≡ t = sym (take-append_seam s (b ∷ bs)) ∙ ap (take (length s)) (sym e ∙ d) ∙ ap (λ (n : ℕ). take n (t ++ (c ∷ cs))) h
    ∙ take-append_seam t (c ∷ cs) in
    let back : b ∷ bs ≡ c ∷ cs = sym (drop-append_seam s (b ∷ bs)) ∙ ap (drop (length s)) (sym e ∙ d) ∙ ap (λ (n : ℕ). drop n (t ++ (c ∷ cs))) h
    ∙ drop-append_seam t (c ∷ cs) in
    (front, (cc))

not-sooner : (run before rest : List ℕ) → run ≡ before ++ rest → (r : Repeated run) → length before ≤ length r.before
    → length before + repeat_from before rest ≤ length r.before
unfolding repeat_from
not-sooner run before [] e r h = omega arith
not-sooner run before (b ∷ bs) e r h = go (repeats b before) refl (not-sooner run (before ++ (b ∷ [])) bs (longer run before b bs e) r)
  where
    here-not : repeats b before ≡ false → length before ≡ length r.before → ⊥
    here-not t same =
        let (fronts, bytes) = same-split run before r.before b r.byte bs r.after e r.split same in
        false≢true (sym t ∙ ap (λ (c : ℕ). repeats c before) bytes ∙ ap (repeats r.byte) fronts ∙ shown-repeats r.byte r.before r.letter r.again)

    go : (t : Bool) → repeats b before ≡ t → (length (before ++ (b ∷ [])) ≤ length r.before
        → length (before ++ (b ∷ [])) + repeat_from (before ++ (b ∷ [])) bs ≤ length r.before)
        → length before + cond t 0 (suc (repeat_from (before ++ (b ∷ [])) bs)) ≤ length r.before
    go true t below = omega arith
    go false t below =
        let long = length-append before (b ∷ []) in
        let other = here-not t in
        let rest = below (omega (arith, other)) in
        omega arith

-- A run that is not passed to its end has a letter twice, and it is pointed at.
pub repeat-found : (run : List ℕ) → repeat_at run < length run → FirstRepeated run (repeat_at run)
repeat-found run h =
    let (r, place) = found run [] run refl h in
    record { repeated = r; place = omega (arith, place); first = λ other. omega (arith, not-sooner run [] run refl other (omega arith)) }

-- One that is has each letter once.
pub repeat-none : (run : List ℕ) → length run ≤ repeat_at run → ¬ (Repeated run)
repeat-none run h r =
    let low = not-sooner run [] run refl r (omega arith) in
    let long = ap length r.split ∙ length-append r.before (r.byte ∷ r.after) in
    omega arith

pub repeat-within : (before rest : List ℕ) → repeat_from before rest ≤ length rest
unfolding repeat_from
repeat-within before [] = omega arith
repeat-within before (b ∷ bs) = go (repeats b before) (repeat-within (before ++ (b ∷ [])) bs)
  where
    go : (t : Bool) → repeat_from (before ++ (b ∷ [])) bs ≤ length bs → cond t 0 (suc (repeat_from (before ++ (b ∷ [])) bs)) ≤ suc (length bs)
    go true h = omega arith
    go false h = omega arith
