-- The grammar of an N token a second time, as spelling rules: sign, fold, mark, letter and run in this order, each by its own bytes.
-- The reader and these rules are one: a token is read into parts exactly if it spells them, so its parts are unique.
use Rattle.std.specs.Prelude.{◌≡◌, refl, Bool, true, false, cond, ◌&&◌, ◌↔◌, ℕ, ◌+◌, eqb, Option, Some, None}
use Rattle.std.proofs.Common.{sym, ◌∙◌, ap, subst, true≢false, ⊎_elim, eqb-true}
use Rattle.std.proofs.Math.Bool.{and-eq-true_iff}
use mathlib.Core.List.Memᴰ.{cases_cons as member-cases}
use mathlib.Core.List.Memᴰ.{head as here}
use mathlib.Core.List.Memᴰ.{not-nil as not-in-nil}
use mathlib.Core.List.Memᴰ.{tail as there}
use mathlib.Core.List.{List, [], ◌∷◌, ◌++◌, Memᴰ as Mem}
use Rattle.hall_axes.specs.declared.Fold.{Fold}
use Rattle.hall_axes.specs.declared.Fold.TheVariants.{One, Two, Three, Four, Six}
use Rattle.hall_axes.specs.declared.Mark.{Mark}
use Rattle.hall_axes.specs.declared.Mark.TheVariants.{Unmarked, Single, Double}
use Rattle.hall_axes.specs.declared.Direction.{Direction}
use Rattle.hall_axes.specs.declared.Direction.TheVariants.{X, Y, Z, Diagonal}
use Rattle.hall_token.specs.declared.RunByte.{RunByte}
use Rattle.hall_token.specs.declared.RunByte.TheVariants.{Foreign}
use Rattle.hall_token.specs.Bytes.{value_at, folds, marks, axis_letters, run_bytes, fold_of, mark_of, letter_of, run_byte_of, passes, value_at-passes}
use Rattle.hall_token.specs.Runs.{every, may_stand, every-member, member-every}
use Rattle.hall_token.specs.Offsets.{run_start, passing}
use Rattle.hall_token.specs.Reader.{Parts, parts, no-parts, read_run, letter_then, read_letter, mark_then, read_mark, fold_then, read_fold, read_token}

-- ---- the rules

abbrev pub sign_bytes : Bool → List ℕ
sign_bytes true = 45 ∷ []
sign_bytes false = []

abbrev pub fold_byte : Fold → ℕ
fold_byte One = 49
fold_byte Two = 50
fold_byte Three = 51
fold_byte Four = 52
fold_byte Six = 54

abbrev pub mark_bytes : Mark → List ℕ
mark_bytes Unmarked = []
mark_bytes Single = 94 ∷ []
mark_bytes Double = 61 ∷ []

abbrev pub direction_byte : Direction → ℕ
direction_byte X = 120
direction_byte Y = 121
direction_byte Z = 122
direction_byte Diagonal = 42

abbrev pub letter_bytes : Option Direction → List ℕ
letter_bytes (Some d) = direction_byte d ∷ []
letter_bytes None = []

-- 1 2 3 4 5 6 a b c n u v w d `'`
abbrev pub run_alphabet : List ℕ
run_alphabet = 49 ∷ 50 ∷ 51 ∷ 52 ∷ 53 ∷ 54 ∷ 97 ∷ 98 ∷ 99 ∷ 110 ∷ 117 ∷ 118 ∷ 119 ∷ 100 ∷ 39 ∷ []

-- A token that spells a sign, a fold, a mark, a letter and a run.
pub record Spells (token : List ℕ) (negative : Bool) (fold : Fold) (mark : Mark) (letter : Option Direction) (run : List ℕ) : Type 0 where
  pub text : token ≡ sign_bytes negative ++ (fold_byte fold ∷ (mark_bytes mark ++ (letter_bytes letter ++ run)))
  pub of-alphabet : (b : ℕ) → Mem b run → Mem b run_alphabet

-- ---- the tables of bytes say what the rules spell

fold_spelt : ℕ → Option Fold → Bool
fold_spelt b (Some f) = eqb b (fold_byte f)
fold_spelt b Option.None = true

fold-spelt : (b : ℕ) (f : Fold) → fold_of b ≡ Some f → b ≡ fold_byte f
unfolding fold_of value_at fold_spelt passes
fold-spelt b f e =
    eqb-true b (fold_byte f) (subst (λ (v : Option Fold). fold_spelt b v ≡ true) e (value_at-passes fold_spelt Option.None folds (λ c. refl) refl b))

mark_spelt : ℕ → Mark → Bool
mark_spelt b Unmarked = true
mark_spelt b Single = eqb b 94
mark_spelt b Double = eqb b 61

mark-spelt : (b : ℕ) → mark_spelt b (mark_of b) ≡ true
unfolding mark_of mark_spelt passes
mark-spelt b = value_at-passes mark_spelt Unmarked marks (λ c. refl) refl b

letter_spelt : ℕ → Option Direction → Bool
letter_spelt b (Some d) = eqb b (direction_byte d)
letter_spelt b None = true

letter-spelt : (b : ℕ) → letter_spelt b (letter_of b) ≡ true
unfolding letter_of letter_spelt passes
letter-spelt b = value_at-passes letter_spelt None axis_letters (λ c. refl) refl b

-- ---- the alphabet of a run

holds : ℕ → List ℕ → Bool
holds b [] = false
holds b (c ∷ cs) = cond (eqb b c) true (holds b cs)

holds-member : (b : ℕ) (l : List ℕ) → holds b l ≡ true → Mem b l
unfolding holds
holds-member b [] e = absurd (true≢false (sym e))
holds-member b (c ∷ cs) e = go (eqb b c) refl (holds-member b cs)
  where
    go : (t : Bool) → eqb b c ≡ t → (holds b cs ≡ true → Mem b cs) → Mem b (c ∷ cs)
    go true h below = here (eqb-true b c h)
    go false h below = there (below (sym (ap (λ (x : Bool). cond x true (holds b cs)) h) ∙ e))

alphabet_test : ℕ → RunByte → Bool
alphabet_test b v = cond (may_stand v) (holds b run_alphabet) true

-- What may stand in a run is of the alphabet, by one test over the table.
pub may-stand-alphabet : (b : ℕ) → may_stand (run_byte_of b) ≡ true → Mem b run_alphabet
unfolding run_byte_of alphabet_test passes holds
may-stand-alphabet b e =
    holds-member b run_alphabet
    (sym (ap (λ (x : Bool). cond x (holds b run_alphabet) true) e) ∙ value_at-passes alphabet_test Foreign run_bytes (λ c. refl) refl b)

-- A test that each of some bytes passes.
passed_by : (ℕ → Bool) → List ℕ → Bool
passed_by test [] = true
passed_by test (b ∷ bs) = test b && passed_by test bs

passed-member : (test : ℕ → Bool) (l : List ℕ) → passed_by test l ≡ true → (b : ℕ) → Mem b l → test b ≡ true
unfolding passed_by
passed-member test [] e b m = absurd (not-in-nil m)
passed-member test (c ∷ cs) e b m =
    ⊎_elim
    (λ h. rw h ((and-eq-true_iff (test c) (passed_by test cs)).0 e).0)
    (λ h. passed-member test cs ((and-eq-true_iff (test c) (passed_by test cs)).0 e).1 b h)
    (member-cases m)

no_mark : Mark → Bool
no_mark Unmarked = true
no_mark Single = false
no_mark Double = false

no-mark : (m : Mark) → no_mark m ≡ true → m ≡ Unmarked
unfolding no_mark
no-mark Unmarked e = refl
no-mark Single e = absurd (true≢false (sym e))
no-mark Double e = absurd (true≢false (sym e))

no_letter : Option Direction → Bool
no_letter (Some d) = false
no_letter None = true

no-letter : (l : Option Direction) → no_letter l ≡ true → l ≡ None
unfolding no_letter
no-letter (Some d) e = absurd (true≢false (sym e))
no-letter None e = refl

-- A byte of the alphabet may stand in a run, and is no mark and no axis letter.
alphabet-may-stand : (b : ℕ) → Mem b run_alphabet → may_stand (run_byte_of b) ≡ true
unfolding run_byte_of value_at passed_by
alphabet-may-stand b m = passed-member (λ c. may_stand (run_byte_of c)) run_alphabet refl b m

alphabet-no-mark : (b : ℕ) → Mem b run_alphabet → mark_of b ≡ Unmarked
unfolding mark_of value_at no_mark passed_by
alphabet-no-mark b m = no-mark (mark_of b) (passed-member (λ c. no_mark (mark_of c)) run_alphabet refl b m)

alphabet-no-letter : (b : ℕ) → Mem b run_alphabet → letter_of b ≡ None
unfolding letter_of value_at no_letter passed_by
alphabet-no-letter b m = no-letter (letter_of b) (passed-member (λ c. no_letter (letter_of c)) run_alphabet refl b m)

-- ---- what is read is spelt

-- The parts, if there are any, are spelt by the token.
abbrev Spelt : List ℕ → Parts → Type 0
Spelt token (parts n f m l run) = Spells token n f m l run
Spelt token (no-parts k) = Unit {0}

run-read : (token : List ℕ) (n : Bool) (f : Fold) (m : Mark) (l : Option Direction) (run : List ℕ)
    → token ≡ sign_bytes n ++ (fold_byte f ∷ (mark_bytes m ++ (letter_bytes l ++ run))) → Spelt token (read_run n f m l run)
unfolding read_run
run-read token n f m l run e = go (every may_stand run) refl
  where
    go : (t : Bool) → every may_stand run ≡ t → Spelt token (cond t (parts n f m l run) (no-parts (run_start n m l + passing may_stand run)))
    go true h = record { text = e; of-alphabet = λ b i. may-stand-alphabet b (every-member may_stand run h b i) }
    go false h = tt

letter-read : (token : List ℕ) (n : Bool) (f : Fold) (m : Mark) (rest : List ℕ) → token ≡ sign_bytes n ++ (fold_byte f ∷ (mark_bytes m ++ rest))
    → Spelt token (read_letter n f m rest)
unfolding read_letter letter_then letter_spelt
letter-read token n f m [] e = run-read token n f m None [] e
letter-read token n f m (b ∷ bs) e = go (letter_of b) (letter-spelt b)
  where
    go : (l : Option Direction) → letter_spelt b l ≡ true → Spelt token (letter_then n f m l b bs)
    go (Some d) h = run-read token n f m (Some d) bs (e
        ∙ ap (λ (c : ℕ). sign_bytes n ++ (fold_byte f ∷ (mark_bytes m ++ (c ∷ bs)))) (eqb-true b (direction_byte d) h))
    go None h = run-read token n f m None (b ∷ bs) e

mark-read : (token : List ℕ) (n : Bool) (f : Fold) (rest : List ℕ) → token ≡ sign_bytes n ++ (fold_byte f ∷ rest) → Spelt token (read_mark n f rest)
unfolding read_mark mark_then mark_spelt
mark-read token n f [] e = letter-read token n f Unmarked [] e
mark-read token n f (b ∷ bs) e = go (mark_of b) (mark-spelt b)
  where
    go : (m : Mark) → mark_spelt b m ≡ true → Spelt token (mark_then n f m b bs)
    go Unmarked h = letter-read token n f Unmarked (b ∷ bs) e
    go Single h = letter-read token n f Single bs (e ∙ ap (λ (c : ℕ). sign_bytes n ++ (fold_byte f ∷ (c ∷ bs))) (eqb-true b 94 h))
    go Double h = letter-read token n f Double bs (e ∙ ap (λ (c : ℕ). sign_bytes n ++ (fold_byte f ∷ (c ∷ bs))) (eqb-true b 61 h))

fold-read : (token : List ℕ) (n : Bool) (rest : List ℕ) → token ≡ sign_bytes n ++ rest → Spelt token (read_fold n rest)
unfolding read_fold fold_then
fold-read token n [] e = tt
fold-read token n (b ∷ bs) e = go (fold_of b) refl
  where
    go : (v : Option Fold) → fold_of b ≡ v → Spelt token (fold_then n v bs)
    go (Some f) h = mark-read token n f bs (e ∙ ap (λ (c : ℕ). sign_bytes n ++ (c ∷ bs)) (fold-spelt b f h))
    go Option.None h = tt

token-read : (token : List ℕ) → Spelt token (read_token token)
unfolding read_token
token-read [] = tt
token-read (b ∷ bs) = go (eqb b 45) refl
  where
    go : (t : Bool) → eqb b 45 ≡ t → Spelt (b ∷ bs) (cond t (read_fold true bs) (read_fold false (b ∷ bs)))
    go true h = fold-read (b ∷ bs) true bs (ap (λ (c : ℕ). c ∷ bs) (eqb-true b 45 h))
    go false h = fold-read (b ∷ bs) false (b ∷ bs) refl

-- ---- what is spelt is read

sign-fold-again : (n : Bool) (f : Fold) (rest : List ℕ) → read_token (sign_bytes n ++ (fold_byte f ∷ rest)) ≡ read_mark n f rest
unfolding read_token read_fold fold_then fold_of value_at
sign-fold-again true One rest = refl
sign-fold-again true Two rest = refl
sign-fold-again true Three rest = refl
sign-fold-again true Four rest = refl
sign-fold-again true Six rest = refl
sign-fold-again false One rest = refl
sign-fold-again false Two rest = refl
sign-fold-again false Three rest = refl
sign-fold-again false Four rest = refl
sign-fold-again false Six rest = refl

-- Where no mark stands, none is read: a letter is no mark, and no byte of the alphabet is one.
no-mark-again : (n : Bool) (f : Fold) (l : Option Direction) (run : List ℕ) → ((b : ℕ) → Mem b run → Mem b run_alphabet)
    → read_mark n f (letter_bytes l ++ run) ≡ read_letter n f Unmarked (letter_bytes l ++ run)
unfolding read_mark mark_then mark_of value_at
no-mark-again n f (Some X) run h = refl
no-mark-again n f (Some Y) run h = refl
no-mark-again n f (Some Z) run h = refl
no-mark-again n f (Some Diagonal) run h = refl
no-mark-again n f None [] h = refl
no-mark-again n f None (b ∷ bs) h = ap (λ (m : Mark). mark_then n f m b bs) (alphabet-no-mark b (h b (here refl)))

mark-again : (n : Bool) (f : Fold) (m : Mark) (l : Option Direction) (run : List ℕ) → ((b : ℕ) → Mem b run → Mem b run_alphabet)
    → read_mark n f (mark_bytes m ++ (letter_bytes l ++ run)) ≡ read_letter n f m (letter_bytes l ++ run)
unfolding read_mark mark_then mark_of value_at
mark-again n f Unmarked l run h = no-mark-again n f l run h
mark-again n f Single l run h = refl
mark-again n f Double l run h = refl

letter-again : (n : Bool) (f : Fold) (m : Mark) (l : Option Direction) (run : List ℕ) → ((b : ℕ) → Mem b run → Mem b run_alphabet)
    → read_letter n f m (letter_bytes l ++ run) ≡ read_run n f m l run
unfolding read_letter letter_then letter_of value_at
letter-again n f m (Some X) run h = refl
letter-again n f m (Some Y) run h = refl
letter-again n f m (Some Z) run h = refl
letter-again n f m (Some Diagonal) run h = refl
letter-again n f m None [] h = refl
letter-again n f m None (b ∷ bs) h = ap (λ (l : Option Direction). letter_then n f m l b bs) (alphabet-no-letter b (h b (here refl)))

run-again : (n : Bool) (f : Fold) (m : Mark) (l : Option Direction) (run : List ℕ) → ((b : ℕ) → Mem b run → Mem b run_alphabet)
    → read_run n f m l run ≡ parts n f m l run
unfolding read_run
run-again n f m l run h = rw (member-every may_stand run (λ b i. alphabet-may-stand b (h b i)))

spelt-again : (n : Bool) (f : Fold) (m : Mark) (l : Option Direction) (run : List ℕ) → ((b : ℕ) → Mem b run → Mem b run_alphabet)
    → read_token (sign_bytes n ++ (fold_byte f ∷ (mark_bytes m ++ (letter_bytes l ++ run)))) ≡ parts n f m l run
spelt-again n f m l run h =
    sign-fold-again n f (mark_bytes m ++ (letter_bytes l ++ run)) ∙ mark-again n f m l run h ∙ letter-again n f m l run h ∙ run-again n f m l run h

-- ---- the two are one

-- A token is read into parts exactly if it spells them.
pub read-exact : (token : List ℕ) (n : Bool) (f : Fold) (m : Mark) (l : Option Direction) (run : List ℕ)
    → (read_token token ≡ parts n f m l run) ↔ Spells token n f m l run
read-exact token n f m l run =
    (λ e. subst (Spelt token) e (token-read token), λ s. ap read_token s.text ∙ spelt-again n f m l run s.of-alphabet)

-- A token's parts are unique.
pub spells-once : (token : List ℕ) (n n' : Bool) (f f' : Fold) (m m' : Mark) (l l' : Option Direction) (run run' : List ℕ) → Spells token n f m l run
    → Spells token n' f' m' l' run' → (n ≡ n') × (f ≡ f') × (m ≡ m') × (l ≡ l') × (run ≡ run')
spells-once token n n' f f' m m' l l' run run' s t =
    let e = (read-exact token n f m l run).1 s in
    let e' = (read-exact token n' f' m' l' run').1 t in
    ((cc), (cc), (cc), (cc), (cc))
