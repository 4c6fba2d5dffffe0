-- What each answer says of a token and of what stands to its left, without the reader: when an N token is misspelt, primed, unsettled, has a wrong
-- digit, or is an operation. The reader answers exactly so, and of any token exactly one answer holds.
use Rattle.std.specs.Prelude.{◌≡◌, refl, Bool, true, false, cond, ◌&&◌, ◌↔◌, ℕ, zero, suc, ◌+◌, ◌<◌, ◌≤◌, length, eqb, ltb, leb, Option, Some, Err, None, Ok, Result}
use Rattle.std.proofs.Common.{sym, ◌∙◌, ap, subst, true≢false, inl, inr, arith, length-append, eqb-true, ltb-true, ltb-false, leb-true, lt-ltb}
use Rattle.std.proofs.lemmas.Bool.{false≢true}
use Rattle.std.proofs.Math.Bool.{and-eq-true_iff}
use mathlib.Core.List.Memᴰ.{append_right as after-all}
use mathlib.Core.List.Memᴰ.{head as here}
use mathlib.Core.List.{List, [], ◌∷◌, ◌++◌, append_assoc, Memᴰ as Mem}
use Rattle.operation.specs.Meaning.{Digits}
use Rattle.operation.specs.declared.Rotation.{Rotation}
use Rattle.operation.specs.declared.Operation as operation
use Rattle.hall_axes.specs.declared.Fold.{Fold}
use Rattle.hall_axes.specs.declared.Mark.{Mark}
use Rattle.hall_axes.specs.declared.Mark.TheVariants.{Unmarked, Single, Double}
use Rattle.hall_axes.specs.declared.Direction.TheVariants.{Z}
use Rattle.hall_axes.specs.declared.Axis.{Axis}
use Rattle.hall_axes.specs.declared.Previous.{Previous}
use Rattle.hall_token.specs.declared.RunByte.{RunByte}
use Rattle.hall_token.specs.declared.RunByte.TheVariants.{Screw, Letter, Prime, Foreign}
use Rattle.hall_token.specs.declared.refusal.Refusal.{Refusal}
use Rattle.hall_token.specs.declared.refusal.Refusal.TheVariants.{Misspelt, Primed, Unsettled, Digit, Doubled}
use Rattle.hall_token.specs.Bytes.{run_bytes, run_byte_of, value_at, passes, value_at-passes}
use Rattle.hall_token.specs.Runs.{every, no_prime, no_screw, every-member, member-every, every-fails, prime-byte, prime-here, no-prime-here}
use Rattle.hall_axes.specs.Axes.{fold_number, plain, plain_z, plain-z, axis_of}
use Rattle.hall_axes.specs.AxisRules.{Settles, settles-exact}
use Rattle.hall_axes.specs.Matrices.{turn_of, signed}
use Rattle.hall_axes.specs.Turns.{turn-rule, signed-digits}
use Rattle.hall_token.specs.Translations.{screw_right, front_right, digits_right, translation_of, moved_by}
use Rattle.hall_token.specs.Reader.{Parts, parts, no-parts, read_token, once_then, moved_then, turn_then, axis_then, operation_of_parts, operation_token, read_fold}
use Rattle.hall_token.specs.RunLetters.{letters, Repeated, FirstRepeated, repeat_at, repeat-found, repeat-none}
use Rattle.hall_token.specs.Refusals.{number_of, number-once}
use Rattle.hall_token.specs.Offsets.{sign_length, mark_length, letter_length, run_start, passing, wrong_digit_at, FirstFails, first-fails, passing-before}
use Rattle.hall_token.specs.Spelling.{sign_bytes, fold_byte, mark_bytes, letter_bytes, read-exact}
use Rattle.laws.specs.Prefixes.{FirstOffending, first-unique, offending-misspelt}
use Rattle.hall_token.specs.Misspelt.{Spelling, FoldMissing, offending, missing-end}
use Rattle.hall_axes.specs.declared.Direction.{Direction}
use Rattle.operation.specs.declared.Operation.{Operation}

-- ---- the answers

-- A `'` stands in the run.
abbrev pub HasPrime : {token : List ℕ} → Spelling token → Type 0
HasPrime s = Mem 39 s.run

-- The axis is settled, and the fold has a matrix about it.
pub record Turning {token : List ℕ} (s : Spelling token) (p : Previous) : Type 0 where
  pub about : Axis
  pub rotation : Rotation
  pub settled : Settles s.fold s.mark s.letter p about
  pub listed : turn_of s.fold about ≡ Some rotation

-- A digit, byte 48 + digit, that does not stand first, or not on unmarked axis z, or is not below the fold.
pub record DigitWrong (f : Fold) (a : Axis) (run : List ℕ) : Type 0 where
  pub before : List ℕ
  pub digit : ℕ
  pub after : List ℕ
  pub at_least_one : 1 ≤ digit
  pub at-most-six : digit ≤ 6
  pub split : run ≡ before ++ ((48 + digit) ∷ after)
  pub wrong : ¬ ((before ≡ []) × (a ≡ plain Z) × (digit < fold_number f))

-- The first such stands at place i of the run.
pub record FirstDigitWrong (f : Fold) (a : Axis) (run : List ℕ) (i : ℕ) : Type 0 where
  pub digit : DigitWrong f a run
  pub place : i ≡ length digit.before
  pub first : (d : DigitWrong f a run) → i ≤ length d.before

-- Place i of the run is offset k of the token.
abbrev pub InRun : {token : List ℕ} → Spelling token → ℕ → ℕ → Type 0
InRun {token} s i k = (front : List ℕ) × (token ≡ front ++ s.run) × (k ≡ length front + i)

-- Refusal 5: the token spells no parts, and offset k is the first at which it does not go on as one that does.
abbrev pub IsMisspelt : List ℕ → ℕ → Type 0
IsMisspelt token k = FirstOffending Spelling token k

-- Refusal 8: it spells parts, with a `'`.
abbrev pub IsPrimed : List ℕ → Type 0
IsPrimed token = (s : Spelling token) × HasPrime s

-- Refusal 6: no `'`, and no axis is settled that the fold has a matrix about.
abbrev pub IsUnsettled : List ℕ → Previous → Type 0
IsUnsettled token p = (s : Spelling token) × ¬ (HasPrime s) × ¬ (Turning s p)

-- Refusal 7: an axis with a matrix, and the first wrong digit is at offset k.
abbrev pub HasWrongDigit : List ℕ → Previous → ℕ → Type 0
HasWrongDigit token p k = (s : Spelling token) × ¬ (HasPrime s) × (t : Turning s p) × (i : ℕ) × FirstDigitWrong s.fold t.about s.run i × InRun s i k

-- Refusal 17: no wrong digit, and at offset k the first letter that repeats an earlier one.
abbrev pub HasRepeat : List ℕ → Previous → ℕ → Type 0
HasRepeat token p k = (s : Spelling token) × ¬ (HasPrime s) × (t : Turning s p) × ¬ (DigitWrong s.fold t.about s.run) × (i : ℕ)
    × FirstRepeated s.run i × InRun s i k

-- Read: the token's fold and settled axis, the matrix with its sign, and the translation of its run.
pub record IsOperation (token : List ℕ) (p : Previous) (o : operation.Operation) (f : Fold) (a : Axis) : Type 0 where
  pub spelling : Spelling token
  pub unprimed : ¬ (HasPrime spelling)
  pub turning : Turning spelling p
  pub digits : ¬ (DigitWrong spelling.fold turning.about spelling.run)
  pub once : ¬ (Repeated spelling.run)
  pub is-fold : f ≡ spelling.fold
  pub is-axis : a ≡ turning.about
  pub is-operation : o ≡ record { rotation = signed spelling.negative turning.rotation; translation = translation_of spelling.fold spelling.run }

-- What holds of a token where a refusal at offset k is right. 6 and 8 are told of the token as a whole.
abbrev pub Refuses : List ℕ → Previous → ℕ → Refusal → Type 0
Refuses token p k Misspelt = IsMisspelt token k
Refuses token p k Primed = (k ≡ 0) × IsPrimed token
Refuses token p k Unsettled = (k ≡ 0) × IsUnsettled token p
Refuses token p k Digit = HasWrongDigit token p k
Refuses token p k Doubled = HasRepeat token p k

-- The same of an answer.
abbrev pub Answers : List ℕ → Previous → Result (Operation × Fold × Axis) (ℕ × Refusal) → Type 0
Answers token p (Ok (o, f, a)) = IsOperation token p o f a
Answers token p (Err (k, r)) = Refuses token p k r

-- ---- primes

-- A run passes the test exactly if no `'` stands in it.
no-prime : (run : List ℕ) → ¬ (Mem 39 run) → every no_prime run ≡ true
no-prime run h = member-every no_prime run (λ b m. no-prime-here b (λ e. h (subst (λ (c : ℕ). Mem c run) e m)))

some-prime : (run : List ℕ) → every no_prime run ≡ false → Mem 39 run
some-prime run e =
    let w = every-fails no_prime run e in
    rw w.split (after-all w.before (here (sym (prime-byte w.byte w.fails))))

prime-there : (run : List ℕ) → Mem 39 run → every no_prime run ≡ true → ⊥
prime-there run m e = false≢true (sym (prime-here 39 refl) ∙ every-member no_prime run e 39 m)

-- ---- digits

screw_test : ℕ → RunByte → Bool
screw_test b (Screw s) = eqb b (48 + s) && (leb 1 s && leb s 6)
screw_test b (Letter t) = true
screw_test b Prime = true
screw_test b Foreign = true

screw-byte : (b s : ℕ) → run_byte_of b ≡ Screw s → (b ≡ 48 + s) × (1 ≤ s) × (s ≤ 6)
unfolding screw_test passes run_byte_of
screw-byte b s e =
    let h = subst (λ (v : RunByte). screw_test b v ≡ true) e (value_at-passes screw_test Foreign run_bytes (λ c. refl) refl b) in
    let first = (and-eq-true_iff (eqb b (48 + s)) (leb 1 s && leb s 6)).0 h in
    let rest = (and-eq-true_iff (leb 1 s) (leb s 6)).0 first.1 in
    (eqb-true b (48 + s) first.0, leb-true 1 s rest.0, leb-true s 6 rest.1)

screw-of-digit : (s : ℕ) → 1 ≤ s → s ≤ 6 → run_byte_of (48 + s) ≡ Screw s
unfolding run_byte_of value_at
screw-of-digit zero h k = absurd (omega arith)
screw-of-digit (suc zero) h k = refl
screw-of-digit (suc (suc zero)) h k = refl
screw-of-digit (suc (suc (suc zero))) h k = refl
screw-of-digit (suc (suc (suc (suc zero)))) h k = refl
screw-of-digit (suc (suc (suc (suc (suc zero))))) h k = refl
screw-of-digit (suc (suc (suc (suc (suc (suc zero)))))) h k = refl
screw-of-digit (suc (suc (suc (suc (suc (suc (suc n))))))) h k = absurd (omega arith)

screw-right : (f : Fold) (a : Axis) (s : ℕ) → screw_right f a s ≡ true → (a ≡ plain Z) × (s < fold_number f)
unfolding screw_right
screw-right f a s e =
    let h = (and-eq-true_iff (plain_z a.mark a.direction) (ltb s (fold_number f))).0 e in
    ((plain-z a.mark a.direction).0 h.0, ltb-true s (fold_number f) h.1)

right-screw : (f : Fold) (a : Axis) (s : ℕ) → a ≡ plain Z → s < fold_number f → screw_right f a s ≡ true
unfolding screw_right
right-screw f a s e h = rw (e, lt-ltb s (fold_number f) h)

-- A front that is not right is a wrong digit.
front-wrong : (f : Fold) (a : Axis) (b : ℕ) (bs : List ℕ) (v : RunByte) → run_byte_of b ≡ v → front_right f a v ≡ false → (d : DigitWrong f a (b ∷ bs))
    × (length d.before ≡ 0)
unfolding front_right
front-wrong f a b bs (Screw s) e h =
    let w = screw-byte b s e in (
      record {
        before = [];
        digit = s;
        after = bs;
        at_least_one = w.1;
        at-most-six = w.2;
        split = ap (λ (c : ℕ). c ∷ bs) w.0;
        wrong = λ g. true≢false (sym (right-screw f a s g.1 g.2) ∙ h);
      },
      refl,
    )
front-wrong f a b bs (Letter t) e h = absurd (true≢false h)
front-wrong f a b bs Prime e h = absurd (true≢false h)
front-wrong f a b bs Foreign e h = absurd (true≢false h)

-- A digit after the first byte is a wrong digit.
later-wrong : (f : Fold) (a : Axis) (b : ℕ) (bs : List ℕ) (w : FirstFails no_screw bs) → (d : DigitWrong f a (b ∷ bs))
    × (length d.before ≡ suc (length w.before))
later-wrong f a b bs w = go (run_byte_of w.byte) refl w.fails
  where
    not_first : (l : List ℕ) → b ∷ l ≡ [] → ⊥
    not_first l e = let z : ◌≡◌ {A = ℕ} 0 1 = cc in absurd (omega arith)

    go : (v : RunByte) → run_byte_of w.byte ≡ v → no_screw v ≡ false → (d : DigitWrong f a (b ∷ bs)) × (length d.before ≡ suc (length w.before))
    go (Screw s) e h =
        let d = screw-byte w.byte s e in (
          record {
            before = b ∷ w.before;
            digit = s;
            after = w.after;
            at_least_one = d.1;
            at-most-six = d.2;
            split = ap (λ (l : List ℕ). b ∷ l) (w.split ∙ ap (λ (c : ℕ). w.before ++ (c ∷ w.after)) d.0);
            wrong = λ g. not_first w.before g.0;
          },
          refl,
        )
    go (Letter t) e h = absurd (true≢false h)
    go Prime e h = absurd (true≢false h)
    go Foreign e h = absurd (true≢false h)

-- With a right front, a wrong digit stands behind it, and none before the first digit there.
later_first : (f : Fold) (a : Axis) (b : ℕ) (bs : List ℕ) → front_right f a (run_byte_of b) ≡ true → (d : DigitWrong f a (b ∷ bs))
    → 1 + passing no_screw bs ≤ length d.before
unfolding front_right
later_first f a b bs right d = go d.before refl
  where
    screw : run_byte_of (48 + d.digit) ≡ Screw d.digit
    screw = screw-of-digit d.digit d.at_least_one d.at-most-six

    go : (l : List ℕ) → d.before ≡ l → 1 + passing no_screw bs ≤ length d.before
    go [] h =
        let split : b ∷ bs ≡ (48 + d.digit) ∷ d.after = d.split ∙ ap (λ (l : List ℕ). l ++ ((48 + d.digit) ∷ d.after)) h in
        let same : b ≡ 48 + d.digit = cc in
        let s = screw-right f a d.digit (sym (ap (front_right f a) (ap run_byte_of same ∙ screw)) ∙ right) in
        absurd (d.wrong (h, s.0, s.1))
    go (c ∷ cs) h =
        let split : b ∷ bs ≡ c ∷ (cs ++ ((48 + d.digit) ∷ d.after)) = d.split ∙ ap (λ (l : List ℕ). l ++ ((48 + d.digit) ∷ d.after)) h in
        let behind : bs ≡ cs ++ ((48 + d.digit) ∷ d.after) = cc in
        let low : passing no_screw bs ≤ length cs = rw behind (passing-before no_screw cs (48 + d.digit) d.after (ap no_screw screw)) in
        rw h (omega (arith, low))

some-wrong : (f : Fold) (a : Axis) (run : List ℕ) → digits_right f a run ≡ false → FirstDigitWrong f a run (wrong_digit_at f a run)
unfolding digits_right wrong_digit_at
some-wrong f a [] e = absurd (true≢false e)
some-wrong f a (b ∷ bs) e = go (front_right f a (run_byte_of b)) refl
  where
    go : (t : Bool) → front_right f a (run_byte_of b) ≡ t → FirstDigitWrong f a (b ∷ bs) (cond t (1 + passing no_screw bs) 0)
    go true h =
        let w = first-fails no_screw bs (sym (ap (λ (x : Bool). x && every no_screw bs) h) ∙ e) in
        let (digit, place) = later-wrong f a b bs w in
        record { digit = digit; place = omega (arith, place, w.place); first = later_first f a b bs h }
    go false h =
        let (digit, place) = front-wrong f a b bs (run_byte_of b) refl h in
        record { digit = digit; place = sym place; first = λ d. omega arith }

none-wrong : (f : Fold) (a : Axis) (run : List ℕ) → digits_right f a run ≡ true → ¬ (DigitWrong f a run)
unfolding digits_right front_right
none-wrong f a run e w = go w.before refl
  where
    d : run_byte_of (48 + w.digit) ≡ Screw w.digit
    d = screw-of-digit w.digit w.at_least_one w.at-most-six

    right : digits_right f a (w.before ++ ((48 + w.digit) ∷ w.after)) ≡ true
    right = ap (digits_right f a) (sym w.split) ∙ e

    go : (l : List ℕ) → w.before ≡ l → ⊥
    go [] h =
        let r = ap (λ (k : List ℕ). digits_right f a (k ++ ((48 + w.digit) ∷ w.after))) (sym h) ∙ right in
        let first = (and-eq-true_iff (front_right f a (run_byte_of (48 + w.digit))) (every no_screw w.after)).0 r in
        let s = screw-right f a w.digit (sym (ap (front_right f a) d) ∙ first.0) in
        w.wrong (h, s.0, s.1)
    go (c ∷ cs) h =
        let r = ap (λ (k : List ℕ). digits_right f a (k ++ ((48 + w.digit) ∷ w.after))) (sym h) ∙ right in
        let rest = (and-eq-true_iff (front_right f a (run_byte_of c)) (every no_screw (cs ++ ((48 + w.digit) ∷ w.after)))).0 r in
        false≢true (sym (ap no_screw d) ∙ every-member no_screw (cs ++ ((48 + w.digit) ∷ w.after)) rest.1 (48 + w.digit) (after-all cs (here refl)))

-- ---- the run in its token
sign-long : (n : Bool) → length (sign_bytes n) ≡ sign_length n
sign-long true = refl
sign-long false = refl

mark-long : (m : Mark) → length (mark_bytes m) ≡ mark_length m
mark-long Unmarked = refl
mark-long Single = refl
mark-long Double = refl

letter-long : (l : Option Direction) → length (letter_bytes l) ≡ letter_length l
letter-long (Some d) = refl
letter-long None = refl

abbrev start_of : {token : List ℕ} → Spelling token → ℕ
start_of s = run_start s.negative s.mark s.letter

in-run : {token : List ℕ} (s : Spelling token) (i : ℕ) → InRun s i (start_of s + i)
in-run {token} s i =
    let m = mark_bytes s.mark in
    let l = letter_bytes s.letter in
    let front = sign_bytes s.negative ++ (fold_byte s.fold ∷ (m ++ l)) in
    let parted : sign_bytes s.negative ++ (fold_byte s.fold ∷ (m ++ (l ++ s.run))) ≡ front ++ s.run =
    ap (λ (t : List ℕ). sign_bytes s.negative ++ (fold_byte s.fold ∷ t)) (sym (append_assoc m l s.run))
    ∙ sym (append_assoc (sign_bytes s.negative) (fold_byte s.fold ∷ (m ++ l)) s.run) in
    let long = length-append (sign_bytes s.negative) (fold_byte s.fold ∷ (m ++ l)) in
    let rest = length-append m l in
    (front, s.spells.text ∙ parted, omega (arith, sign-long s.negative, mark-long s.mark, letter-long s.letter))

in-run-once : {token : List ℕ} (s : Spelling token) (i k : ℕ) → InRun s i k → start_of s + i ≡ k
in-run-once {token} s i k (front, split, place) =
    let (own, parted, start) = in-run s i in
    let long = ap length split ∙ length-append front s.run in
    let same = ap length parted ∙ length-append own s.run in
    omega arith

-- ---- the reader's answer holds

once-holds : (token : List ℕ) (p : Previous) (s : Spelling token) → ¬ (HasPrime s) → (t : Turning s p) → ¬ (DigitWrong s.fold t.about s.run)
    → Answers token p (once_then (start_of s) s.run
    (Ok ((record { rotation = signed s.negative t.rotation; translation = translation_of s.fold s.run }), s.fold, t.about)))
unfolding once_then
once-holds token p s u t d = go (ltb (repeat_at s.run) (length s.run)) refl
  where
    go : (b : Bool) → ltb (repeat_at s.run) (length s.run) ≡ b
        → Answers token p (cond b (Err ((start_of s + repeat_at s.run), Doubled))
        (Ok ((record { rotation = signed s.negative t.rotation; translation = translation_of s.fold s.run }), s.fold, t.about)))
    go true h = (s, u, t, d, repeat_at s.run, repeat-found s.run (ltb-true (repeat_at s.run) (length s.run) h), in-run s (repeat_at s.run))
    go false h =
        record {
          spelling = s;
          unprimed = u;
          turning = t;
          digits = d;
          once = repeat-none s.run (ltb-false (repeat_at s.run) (length s.run) h);
          is-fold = refl;
          is-axis = refl;
          is-operation = refl;
        }

moved_holds : (token : List ℕ) (p : Previous) (s : Spelling token) → ¬ (HasPrime s) → (t : Turning s p)
    → Answers token p (moved_then (start_of s) s.negative s.fold t.about s.run t.rotation (moved_by s.fold t.about s.run))
unfolding moved_then moved_by
moved_holds token p s u t = go (digits_right s.fold t.about s.run) refl
  where
    go : (b : Bool) → digits_right s.fold t.about s.run ≡ b
        → Answers token p (moved_then (start_of s) s.negative s.fold t.about s.run t.rotation
        (cond b (Some (translation_of s.fold s.run)) Option.None))
    go true h = once-holds token p s u t (none-wrong s.fold t.about s.run h)
    go false h =
        let i = wrong_digit_at s.fold t.about s.run in
        (s, u, t, i, some-wrong s.fold t.about s.run h, in-run s i)

turn_holds : (token : List ℕ) (p : Previous) (s : Spelling token) → ¬ (HasPrime s) → (a : Axis) → axis_of s.fold s.mark s.letter p ≡ Some a
    → Answers token p (turn_then (start_of s) s.negative s.fold a s.run (turn_of s.fold a))
unfolding turn_then
turn_holds token p s u a e = go (turn_of s.fold a) refl
  where
    go : (r : Option Rotation) → turn_of s.fold a ≡ r → Answers token p (turn_then (start_of s) s.negative s.fold a s.run r)
    go (Some r) h = moved_holds token p s u (record { about = a; rotation = r; settled = (settles-exact s.fold s.mark s.letter p a).0 e; listed = h })
    go None h = (refl, (s, u, none))
      where
        none : ¬ (Turning s p)
        none t =
            let f = (settles-exact s.fold s.mark s.letter p t.about).1 t.settled in
            let same : t.about ≡ a = cc in
            let g = ap (turn_of s.fold) same in
            let l = t.listed in
            let z : ◌≡◌ {A = ℕ} 0 1 = cc in
            absurd (omega arith)

axis-holds : (token : List ℕ) (p : Previous) (s : Spelling token) → ¬ (HasPrime s)
    → Answers token p (axis_then (start_of s) s.negative s.fold s.run (axis_of s.fold s.mark s.letter p))
unfolding axis_then
axis-holds token p s u = go (axis_of s.fold s.mark s.letter p) refl
  where
    go : (a : Option Axis) → axis_of s.fold s.mark s.letter p ≡ a → Answers token p (axis_then (start_of s) s.negative s.fold s.run a)
    go (Some a) h = turn_holds token p s u a h
    go None h = (refl, (s, u, none))
      where
        none : ¬ (Turning s p)
        none t =
            let f = (settles-exact s.fold s.mark s.letter p t.about).1 t.settled in
            let z : ◌≡◌ {A = ℕ} 0 1 = cc in
            absurd (omega arith)

-- What the reader answers is right.
answer-holds : (token : List ℕ) (p : Previous) → Answers token p (operation_token token p)
unfolding operation_token operation_of_parts
answer-holds token p = go (read_token token) refl
  where
    go : (w : Parts) → read_token token ≡ w → Answers token p (operation_of_parts w p)
    go (parts n f m l run) h = prime (every no_prime run) refl
      where
        s : Spelling token
        s = record { negative = n; fold = f; mark = m; letter = l; run = run; spells = (read-exact token n f m l run).0 h }

        prime : (t : Bool) → every no_prime run ≡ t → Answers token p (cond t (axis_then (run_start n m l) n f run (axis_of f m l p)) (Err (0, Primed)))
        prime true e = axis-holds token p s (λ i. prime-there run i e)
        prime false e = (refl, (s, some-prime run e))
    go (no-parts k) h = offending token k h

-- ---- what holds is the reader's answer

spelt-answer : (token : List ℕ) (p : Previous) (s : Spelling token)
    → operation_token token p ≡ cond (every no_prime s.run) (axis_then (start_of s) s.negative s.fold s.run
    (axis_of s.fold s.mark s.letter p)) (Err (0, Primed))
unfolding operation_token operation_of_parts
spelt-answer token p s =
    ap (λ (w : Parts). operation_of_parts w p) ((read-exact token s.negative s.fold s.mark s.letter s.run).1 s.spells)

primed-answer : (token : List ℕ) (p : Previous) (s : Spelling token) → HasPrime s → operation_token token p ≡ Err (0, Primed)
primed-answer token p s h = spelt-answer token p s ∙ go (every no_prime s.run) refl
  where
    go : (t : Bool) → every no_prime s.run ≡ t → cond t (axis_then (start_of s) s.negative s.fold s.run
        (axis_of s.fold s.mark s.letter p)) (Err (0, Primed)) ≡ Err (0, Primed)
    go true e = absurd (prime-there s.run h e)
    go false e = refl

unprimed-answer : (token : List ℕ) (p : Previous) (s : Spelling token) → ¬ (HasPrime s)
    → operation_token token p ≡ axis_then (start_of s) s.negative s.fold s.run (axis_of s.fold s.mark s.letter p)
unprimed-answer token p s u = spelt-answer token p s ∙ rw (no-prime s.run u)

turning-answer : (token : List ℕ) (p : Previous) (s : Spelling token) → ¬ (HasPrime s) → (t : Turning s p)
    → operation_token token p ≡ moved_then (start_of s) s.negative s.fold t.about s.run t.rotation (moved_by s.fold t.about s.run)
unfolding axis_then turn_then
turning-answer token p s u t =
    unprimed-answer token p s u
    ∙ ap (axis_then (start_of s) s.negative s.fold s.run) ((settles-exact s.fold s.mark s.letter p t.about).1 t.settled)
    ∙ ap (turn_then (start_of s) s.negative s.fold t.about s.run) t.listed

unsettled-answer : (token : List ℕ) (p : Previous) (s : Spelling token) → ¬ (HasPrime s) → ¬ (Turning s p) → operation_token token p ≡ Err (0, Unsettled)
unfolding axis_then turn_then
unsettled-answer token p s u n = unprimed-answer token p s u ∙ go (axis_of s.fold s.mark s.letter p) refl
  where
    turn : (a : Axis) → axis_of s.fold s.mark s.letter p ≡ Some a → (r : Option Rotation) → turn_of s.fold a ≡ r
        → turn_then (start_of s) s.negative s.fold a s.run r ≡ Err (0, Unsettled)
    turn a e (Some r) h = absurd (n (record { about = a; rotation = r; settled = (settles-exact s.fold s.mark s.letter p a).0 e; listed = h }))
    turn a e None h = refl

    go : (a : Option Axis) → axis_of s.fold s.mark s.letter p ≡ a → axis_then (start_of s) s.negative s.fold s.run a ≡ Err (0, Unsettled)
    go (Some a) h = turn a h (turn_of s.fold a) refl
    go None h = refl

digit-answer : (token : List ℕ) (p : Previous) (k : ℕ) → HasWrongDigit token p k → operation_token token p ≡ Err (k, Digit)
unfolding moved_then moved_by
digit-answer token p k (s, u, t, i, w, run) = turning-answer token p s u t ∙ go (digits_right s.fold t.about s.run) refl
  where
    go : (b : Bool) → digits_right s.fold t.about s.run ≡ b
        → moved_then (start_of s) s.negative s.fold t.about s.run t.rotation (cond b (Some (translation_of s.fold s.run)) Option.None)
        ≡ Err (k, Digit)
    go true h = absurd (none-wrong s.fold t.about s.run h w.digit)
    go false h =
        let own = some-wrong s.fold t.about s.run h in
        let same : i ≡ wrong_digit_at s.fold t.about s.run = omega (arith, w.first own.digit, own.place, own.first w.digit, w.place) in
        ap (λ (o : ℕ). (Err (o, Digit))) (ap (λ (o : ℕ). start_of s + o) (sym same) ∙ in-run-once s i k run)

right_answer : (token : List ℕ) (p : Previous) (s : Spelling token) → ¬ (HasPrime s) → (t : Turning s p) → ¬ (DigitWrong s.fold t.about s.run)
    → operation_token token p ≡ once_then (start_of s) s.run
    (Ok ((record { rotation = signed s.negative t.rotation; translation = translation_of s.fold s.run }), s.fold, t.about))
unfolding moved_then moved_by
right_answer token p s u t w = turning-answer token p s u t ∙ go (digits_right s.fold t.about s.run) refl
  where
    go : (b : Bool) → digits_right s.fold t.about s.run ≡ b
        → moved_then (start_of s) s.negative s.fold t.about s.run t.rotation (cond b (Some (translation_of s.fold s.run)) Option.None)
        ≡ once_then (start_of s) s.run (Ok (
          (record {
            rotation = signed s.negative t.rotation;
            translation = translation_of s.fold s.run;
          }),
          s.fold,
          t.about,
        ))
    go true h = refl
    go false h = absurd (w (some-wrong s.fold t.about s.run h).digit)

moved-answer : (token : List ℕ) (p : Previous) (s : Spelling token) → ¬ (HasPrime s) → (t : Turning s p) → ¬ (DigitWrong s.fold t.about s.run)
    → ¬ (Repeated s.run) → operation_token token p ≡ Ok (
      (record {
        rotation = signed s.negative t.rotation;
        translation = translation_of s.fold s.run;
      }),
      s.fold,
      t.about,
    )
unfolding once_then
moved-answer token p s u t w once = right_answer token p s u t w ∙ go (ltb (repeat_at s.run) (length s.run)) refl
  where
    go : (b : Bool) → ltb (repeat_at s.run) (length s.run) ≡ b
        → cond {A = Result (operation.Operation × Fold × Axis) (ℕ × Refusal)} b (Err ((start_of s + repeat_at s.run), Doubled))
        (Ok ((record { rotation = signed s.negative t.rotation; translation = translation_of s.fold s.run }), s.fold, t.about))
        ≡ Ok ((record { rotation = signed s.negative t.rotation; translation = translation_of s.fold s.run }), s.fold, t.about)
    go true h = absurd (once (repeat-found s.run (ltb-true (repeat_at s.run) (length s.run) h)).repeated)
    go false h = refl

repeat-answer : (token : List ℕ) (p : Previous) (k : ℕ) → HasRepeat token p k → operation_token token p ≡ Err (k, Doubled)
unfolding once_then
repeat-answer token p k (s, u, t, d, i, w, run) = right_answer token p s u t d ∙ go (ltb (repeat_at s.run) (length s.run)) refl
  where
    go : (b : Bool) → ltb (repeat_at s.run) (length s.run) ≡ b
        → cond {A = Result (operation.Operation × Fold × Axis) (ℕ × Refusal)} b (Err ((start_of s + repeat_at s.run), Doubled))
        (Ok ((record { rotation = signed s.negative t.rotation; translation = translation_of s.fold s.run }), s.fold, t.about)) ≡ Err (k, Doubled)
    go true h =
        let own = repeat-found s.run (ltb-true (repeat_at s.run) (length s.run) h) in
        let same : i ≡ repeat_at s.run = omega (arith, w.first own.repeated, own.place, own.first w.repeated, w.place) in
        ap (λ (o : ℕ). (Err (o, Doubled))) (ap (λ (o : ℕ). start_of s + o) (sym same) ∙ in-run-once s i k run)
    go false h = absurd (repeat-none s.run (ltb-false (repeat_at s.run) (length s.run) h) w.repeated)

misspelt-answer : (token : List ℕ) (p : Previous) (k : ℕ) → IsMisspelt token k → operation_token token p ≡ Err (k, Misspelt)
unfolding operation_token operation_of_parts
misspelt-answer token p k w = go (read_token token) refl
  where
    go : (q : Parts) → read_token token ≡ q → operation_of_parts q p ≡ Err (k, Misspelt)
    go (parts n f m l run) h =
        absurd (offending-misspelt Spelling token k w (record {
          negative = n;
          fold = f;
          mark = m;
          letter = l;
          run = run;
          spells = (read-exact token n f m l run).0 h;
        }))
    go (no-parts j) h = ap (λ (o : ℕ). (Err (o, Misspelt))) (first-unique Spelling token j k (offending token j h) w)

holds-answer : (token : List ℕ) (p : Previous) (r : Result (Operation × Fold × Axis) (ℕ × Refusal)) → Answers token p r → operation_token token p ≡ r
holds-answer token p (Ok (o, f, a)) h = rw (
  h.is-fold,
  h.is-axis,
  h.is-operation,
) (moved-answer token p h.spelling h.unprimed h.turning h.digits h.once)
holds-answer token p (Err (k, Misspelt)) h = misspelt-answer token p k h
holds-answer token p (Err (k, Primed)) h = rw h.0 (primed-answer token p h.1.0 h.1.1)
holds-answer token p (Err (k, Unsettled)) h = rw h.0 (unsettled-answer token p h.1.0 h.1.1 h.1.2)
holds-answer token p (Err (k, Digit)) h = digit-answer token p k h
holds-answer token p (Err (k, Doubled)) h = repeat-answer token p k h

-- ---- the two are one

-- The reader gives an answer exactly if it holds of the token and what stands to its left.
pub answers-exact : (token : List ℕ) (p : Previous) (r : Result (Operation × Fold × Axis) (ℕ × Refusal)) → (operation_token token p ≡ r) ↔ Answers token p r
answers-exact token p r = (λ e. subst (Answers token p) e (answer-holds token p), holds-answer token p r)

-- Of any token one answer holds, and no other.
pub one_answer : (token : List ℕ) (p : Previous) → (r : Result (Operation × Fold × Axis) (ℕ × Refusal)) × Answers token p r
one_answer token p = (operation_token token p, answer-holds token p)

pub no-other-answer : (token : List ℕ) (p : Previous) (r s : Result (Operation × Fold × Axis) (ℕ × Refusal)) → Answers token p r → Answers token p s → r ≡ s
no-other-answer token p r s h k = sym (holds-answer token p r h) ∙ holds-answer token p s k

-- ---- by number

-- An answer is a refusal with this number at this offset in the token.
abbrev pub Tells : Result (Operation × Fold × Axis) (ℕ × Refusal) → ℕ → ℕ → Type 0
Tells answer n k = (r : Refusal) × (answer ≡ Err (k, r)) × (number_of r ≡ n)

module _ (token : List ℕ) (p : Previous) (k : ℕ) where
  tells-exactly : (r : Refusal) → Tells (operation_token token p) (number_of r) k ↔ Refuses token p k r
  tells-exactly r = (
    (λ (s, e, n). (answers-exact token p (Err (k, r))).0 (e ∙ ap ((λ y. Err (k, y))) (number-once s r n))),
    λ h. (r, (answers-exact token p (Err (k, r))).1 h, refl),
  )

  pub five-exactly : Tells (operation_token token p) 5 k ↔ FirstOffending Spelling token k
  five-exactly = tells-exactly Misspelt

  pub six-exactly : Tells (operation_token token p) 6 k ↔ ((k ≡ 0) × IsUnsettled token p)
  six-exactly = tells-exactly Unsettled

  pub seven-exactly : Tells (operation_token token p) 7 k ↔ HasWrongDigit token p k
  seven-exactly = tells-exactly Digit

  pub eight-exactly : Tells (operation_token token p) 8 k ↔ ((k ≡ 0) × IsPrimed token)
  eight-exactly = tells-exactly Primed

  pub seventeen-exactly : Tells (operation_token token p) 17 k ↔ HasRepeat token p k
  seventeen-exactly = tells-exactly Doubled

-- An offset lies in the token, or is its length.
pub refused-within : (token : List ℕ) (p : Previous) (k : ℕ) (r : Refusal) → Refuses token p k r → k ≤ length token
refused-within token p k Misspelt h = h.within
refused-within token p k Primed h = omega (arith, h.0)
refused-within token p k Unsettled h = omega (arith, h.0)
refused-within token p k Digit (s, u, t, i, w, (front, split, place)) =
    let d = w.digit in
    let whole = ap length split ∙ length-append front s.run in
    let within = ap length d.split ∙ length-append d.before ((48 + d.digit) ∷ d.after) in
    omega (arith, w.place)
refused-within token p k Doubled (s, u, t, d, i, w, (front, split, place)) =
    let r = w.repeated in
    let whole = ap length split ∙ length-append front s.run in
    let within = ap length r.split ∙ length-append r.before (r.byte ∷ r.after) in
    omega (arith, w.place)

-- An accepted token has each letter at most once.
pub once-each : (token : List ℕ) (p : Previous) (o : operation.Operation) (f : Fold) (a : Axis) → operation_token token p ≡ Ok (o, f, a)
    → (s : Spelling token) × ((before : List ℕ) (b : ℕ) (after : List ℕ) → s.run ≡ before ++ (b ∷ after) → Mem b letters → ¬ (Mem b before))
once-each token p o f a e =
    let h = (answers-exact token p (Ok (o, f, a))).0 e in (
      h.spelling,
      λ before b after split letter again. h.once
          (record { before = before; byte = b; after = after; split = split; letter = letter; again = again }),
    )

-- 5 is told of the token's end exactly if the fold is missing there.
pub missing-exactly : (token : List ℕ) (p : Previous) → Tells (operation_token token p) 5 (length token) ↔ FoldMissing token
unfolding operation_token operation_of_parts read_token read_fold
missing-exactly token p = ((λ (r, e, n). go (read_token token) refl (e ∙ ap ((λ y. Err ((length token), y))) (number-once r Misspelt n))), back)
  where
    go : (q : Parts) → read_token token ≡ q → operation_token token p ≡ Err ((length token), Misspelt) → FoldMissing token
    go (parts n f m l run) h e =
        let w = (answers-exact token p (Err ((length token), Misspelt))).0 e in
        absurd (offending-misspelt Spelling token (length token) w
        (record { negative = n; fold = f; mark = m; letter = l; run = run; spells = (read-exact token n f m l run).0 h }))
    go (no-parts k) h e =
        let w = (answers-exact token p (Err ((length token), Misspelt))).0 e in
        missing-end token k h (first-unique Spelling token k (length token) (offending token k h) w)

    back : FoldMissing token → Tells (operation_token token p) 5 (length token)
    back (inl none) = (Misspelt, rw none, refl)
    back (inr sign) = (Misspelt, rw sign, refl)

-- ---- what is read

-- What is read is an operation: entries in −1..1, and its translation in twelfths is reduced.
pub record Reduced (o : operation.Operation) : Type 0 where
  pub digits : Digits o.rotation
  pub x : o.translation.x < 12
  pub y : o.translation.y < 12
  pub z : o.translation.z < 12

pub read-reduced : (token : List ℕ) (p : Previous) (o : operation.Operation) (f : Fold) (a : Axis) → operation_token token p ≡ Ok (o, f, a) → Reduced o
unfolding translation_of
read-reduced token p o f a e =
    let h = (answers-exact token p (Ok (o, f, a))).0 e in
    let t = h.turning in
    rw h.is-operation
    (record {
      digits = signed-digits h.spelling.negative t.rotation (turn-rule h.spelling.fold t.about t.rotation t.listed).digits;
      x = omega arith;
      y = omega arith;
      z = omega arith;
    })
