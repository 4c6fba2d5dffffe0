-- Offsets in an N token: where its run starts, and the first byte of the run that offends.
use Rattle.std.specs.Prelude.{◌≡◌, refl, Bool, true, false, cond, ◌&&◌, ℕ, suc, ◌+◌, ◌<◌, ◌≤◌, length, get_or, take, drop, not, ltb, Option, Some, None}
use Rattle.std.specs.List.{position_or_len}
use Rattle.std.proofs.Math.Bool.{and-eq-true_iff}
use Rattle.std.proofs.Common.{sym, ◌∙◌, true≢false, arith, add-one, drop-cons, ltb-true, ltb-false}
use Rattle.std.proofs.Math.Path.{ap}
use mathlib.Core.List.{List, [], ◌∷◌, ◌++◌}
use Rattle.std.proofs.Math.Seq.{drop-length}
use Rattle.hall_axes.specs.declared.Fold.{Fold}
use Rattle.hall_axes.specs.declared.Mark.{Mark}
use Rattle.hall_axes.specs.declared.Mark.TheVariants.{Unmarked, Single, Double}
use Rattle.hall_axes.specs.declared.Axis.{Axis}
use Rattle.operation.specs.declared.Translation.{Translation}
use Rattle.hall_token.specs.declared.RunByte.{RunByte}
use Rattle.hall_token.specs.Bytes.{run_byte_of}
use Rattle.hall_token.specs.Runs.{every, no_screw}
use Rattle.hall_token.specs.Front.{rest, front, nothing, found_place}
use Rattle.hall_token.specs.Translations.{front_right, digits_right, translation_of, moved_by}
use Rattle.hall_axes.specs.declared.Direction.{Direction}

-- ---- where the run starts
abbrev pub sign_length : Bool → ℕ
sign_length true = 1
sign_length false = 0

abbrev pub mark_length : Mark → ℕ
mark_length Unmarked = 0
mark_length Single = 1
mark_length Double = 1

abbrev pub letter_length : Option Direction → ℕ
letter_length (Some d) = 1
letter_length None = 0

-- Behind the sign, the fold, the mark and the letter.
abbrev pub run_start : Bool → Mark → Option Direction → ℕ
run_start n m l = sign_length n + 1 + mark_length m + letter_length l

-- ---- the first byte that offends
-- How many bytes at a run's front pass a test.
unfoldable pub passing : (RunByte → Bool) → List ℕ → ℕ
passing p [] = 0
passing p (b ∷ bs) = cond (p (run_byte_of b)) (suc (passing p bs)) 0

-- The place of the first byte that does not, if there is one.
abbrev pub failing_place : (RunByte → Bool) → List ℕ → Option ℕ
failing_place p run = found_place (passing p run) (length run)

-- The first digit that breaks the rule: the front byte, or else the first digit behind it.
unfoldable pub wrong_digit_at : Fold → Axis → List ℕ → ℕ
wrong_digit_at f a [] = 0
wrong_digit_at f a (b ∷ bs) = cond (front_right f a (run_byte_of b)) (1 + passing no_screw bs) 0

-- ---- a run passed byte by byte
pub passing-end : (p : RunByte → Bool) (run : List ℕ) → passing p (drop (length run) run) ≡ 0
unfolding passing
passing-end p run = rw drop-length

pub passing-stop : (p : RunByte → Bool) (run : List ℕ) (i : ℕ) → i < length run → p (run_byte_of (get_or run i 0)) ≡ false → passing p (drop i run) ≡ 0
unfolding passing
passing-stop p run i h e = rw (drop-cons run i 0, e)

pub passing-next : (p : RunByte → Bool) (run : List ℕ) (i : ℕ) → i < length run → p (run_byte_of (get_or run i 0)) ≡ true
    → passing p (drop i run) ≡ 1 + passing p (drop (i + 1) run)
unfolding passing
passing-next p run i h e = rw (drop-cons run i 0, e, add-one i) (omega arith)

-- ---- what it says of a run
pub passing-within : (p : RunByte → Bool) (run : List ℕ) → passing p run ≤ length run
unfolding passing
passing-within p [] = omega arith
passing-within p (b ∷ bs) = go (p (run_byte_of b)) (passing-within p bs)
  where
    go : (t : Bool) → passing p bs ≤ length bs → cond t (suc (passing p bs)) 0 ≤ suc (length bs)
    go true h = omega arith
    go false h = omega arith

-- A run that passes as a whole is passed to its end.
passing_whole : (p : RunByte → Bool) (run : List ℕ) → every p run ≡ true → length run ≤ passing p run
unfolding passing every
passing_whole p [] e = omega arith
passing_whole p (b ∷ bs) e =
    let (here, below) = (and-eq-true_iff (p (run_byte_of b)) (every p bs)).0 e in
    let more = passing_whole p bs below in
    rw here (omega arith)

-- A run that does not pass as a whole has a byte that does not.
pub passing-short : (p : RunByte → Bool) (run : List ℕ) → every p run ≡ false → passing p run < length run
unfolding passing every
passing-short p [] e = absurd (true≢false e)
passing-short p (b ∷ bs) e = go (p (run_byte_of b)) refl (passing-short p bs)
  where
    go : (t : Bool) → p (run_byte_of b) ≡ t → (every p bs ≡ false → passing p bs < length bs) → passing p (b ∷ bs) < length (b ∷ bs)
    go true h below = let less = below (sym (ap (λ (x : Bool). x && every p bs) h) ∙ e) in rw h (omega arith)
    go false h below = rw h (omega arith)

-- The bytes up to there pass,
pub passing-good : (p : RunByte → Bool) (run : List ℕ) → every p (take (passing p run) run ++ []) ≡ true
unfolding passing every
passing-good p [] = refl
passing-good p (b ∷ bs) = go (p (run_byte_of b)) refl (passing-good p bs)
  where
    go : (t : Bool) → p (run_byte_of b) ≡ t → every p (take (passing p bs) bs ++ []) ≡ true → every p (take (cond t (suc (passing p bs)) 0) (b ∷ bs) ++ [])
        ≡ true
    go true h below = rw (h, below)
    go false h below = refl

-- and with the next one, whatever follows, the run fails at the same place.
pub passing-stays : (p : RunByte → Bool) (run w : List ℕ) → every p run ≡ false → (every p (take (suc (passing p run)) run ++ w) ≡ false)
    × (passing p (take (suc (passing p run)) run ++ w) ≡ passing p run)
unfolding passing every
passing-stays p [] w e = absurd (true≢false e)
passing-stays p (b ∷ bs) w e = go (p (run_byte_of b)) refl (passing-stays p bs w)
  where
    Stays : ℕ → Type 0
    Stays k = (every p (take (suc k) (b ∷ bs) ++ w) ≡ false) × (passing p (take (suc k) (b ∷ bs) ++ w) ≡ k)

    go : (t : Bool) → p (run_byte_of b) ≡ t → (every p bs ≡ false → (every p (take (suc (passing p bs)) bs ++ w) ≡ false)
        × (passing p (take (suc (passing p bs)) bs ++ w) ≡ passing p bs)) → Stays (cond t (suc (passing p bs)) 0)
    go true h below =
        let s = below (sym (ap (λ (x : Bool). x && every p bs) h) ∙ e) in
        (rw (h, s.0), rw (h, s.1))
    go false h below = (rw h, rw h)

-- The library's search for a byte that does not pass finds that place.
pub found-failing : (p : RunByte → Bool) (run : List ℕ) → found_place (position_or_len (λ b. not (p (run_byte_of b))) run) (length run) ≡ failing_place p run
unfolding passing
found-failing p run = ap (λ (k : ℕ). found_place k (length run)) (same run)
  where
    by-test : (t : Bool) (k n : ℕ) → k ≡ n → cond (not (not t)) (1 + k) 0 ≡ cond t (suc n) 0
    by-test true k n e = omega arith
    by-test false k n e = refl

    same : (l : List ℕ) → position_or_len (λ b. not (p (run_byte_of b))) l ≡ passing p l
    same [] = refl
    same (b ∷ bs) = by-test (p (run_byte_of b)) _ _ (same bs)

-- A run is passed to its end exactly if it passes as a whole.
pub every-short : (p : RunByte → Bool) (run : List ℕ) → ltb (passing p run) (length run) ≡ true → every p run ≡ false
every-short p run h = go (every p run) refl
  where
    go : (t : Bool) → every p run ≡ t → every p run ≡ false
    go true e =
        let whole = passing_whole p run e in
        let short = ltb-true (passing p run) (length run) h in
        absurd (omega arith)
    go false e = e

pub every-whole : (p : RunByte → Bool) (run : List ℕ) → ltb (passing p run) (length run) ≡ false → every p run ≡ true
every-whole p run h = go (every p run) refl
  where
    go : (t : Bool) → every p run ≡ t → every p run ≡ true
    go true e = e
    go false e =
        let short = passing-short p run e in
        let whole = ltb-false (passing p run) (length run) h in
        absurd (omega arith)

-- The byte that stops it.
pub record FirstFails (p : RunByte → Bool) (run : List ℕ) : Type 0 where
  pub before : List ℕ
  pub byte : ℕ
  pub after : List ℕ
  pub split : run ≡ before ++ (byte ∷ after)
  pub fails : p (run_byte_of byte) ≡ false
  pub place : passing p run ≡ length before

pub first-fails : (p : RunByte → Bool) (run : List ℕ) → every p run ≡ false → FirstFails p run
unfolding every passing
first-fails p [] e = absurd (true≢false e)
first-fails p (c ∷ cs) e = go (p (run_byte_of c)) refl (first-fails p cs)
  where
    go : (t : Bool) → p (run_byte_of c) ≡ t → (every p cs ≡ false → FirstFails p cs) → FirstFails p (c ∷ cs)
    go true h below =
        let w = below (sym (ap (λ (x : Bool). x && every p cs) h) ∙ e) in
        record {
          before = c ∷ w.before;
          byte = w.byte;
          after = w.after;
          split = ap (λ (l : List ℕ). c ∷ l) w.split;
          fails = w.fails;
          place = ap (λ (x : Bool). cond x (suc (passing p cs)) 0) h ∙ ap (λ (n : ℕ). suc n) w.place;
        }
    go false h below = record { before = []; byte = c; after = cs; split = refl; fails = h; place = ap (λ (x : Bool). cond x (suc (passing p cs)) 0) h }

-- A byte that fails is not passed.
pub passing-before : (p : RunByte → Bool) (before : List ℕ) (b : ℕ) (after : List ℕ) → p (run_byte_of b) ≡ false
    → passing p (before ++ (b ∷ after)) ≤ length before
unfolding passing
passing-before p [] b after e = rw e (omega arith)
passing-before p (c ∷ cs) b after e = go (p (run_byte_of c)) (passing-before p cs b after e)
  where
    go : (t : Bool) → passing p (cs ++ (b ∷ after)) ≤ length cs → cond t (suc (passing p (cs ++ (b ∷ after)))) 0 ≤ suc (length cs)
    go true h = omega arith
    go false h = omega arith

-- A wrong digit stands within its run.
pub wrong-within : (f : Fold) (a : Axis) (run : List ℕ) → wrong_digit_at f a run ≤ length run
unfolding wrong_digit_at
wrong-within f a [] = omega arith
wrong-within f a (b ∷ bs) = go (front_right f a (run_byte_of b)) (passing-within no_screw bs)
  where
    go : (t : Bool) → passing no_screw bs ≤ length bs → cond t (1 + passing no_screw bs) 0 ≤ suc (length bs)
    go true h = omega arith
    go false h = omega arith

pub wrong-nothing : (f : Fold) (a : Axis) (run : List ℕ) → length run ≡ 0 → wrong_digit_at f a run ≡ 0
unfolding wrong_digit_at
wrong-nothing f a run h = ap (wrong_digit_at f a) (nothing run h)

-- ---- found from the answer to the front byte alone
module _ (f : Fold) (a : Axis) (run : List ℕ) (v : Option Translation) (some : length run ≡ 0 → ⊥) (alone : v ≡ moved_by f a (take 1 run)) where
  byte : ℕ
  byte = get_or run 0 0

  front-alone : v ≡ cond (front_right f a (run_byte_of byte) && true) (Some (translation_of f (byte ∷ []))) Option.None
  unfolding byte moved_by digits_right every
  front-alone = alone ∙ ap (λ (l : List ℕ). moved_by f a (take 1 l)) (front run some)

  front_at : wrong_digit_at f a run ≡ cond (front_right f a (run_byte_of byte)) (1 + passing no_screw (rest run)) 0
  unfolding byte wrong_digit_at
  front_at = ap (wrong_digit_at f a) (front run some)

  pub alone-wrong : v ≡ Option.None → wrong_digit_at f a run ≡ 0
  alone-wrong e = front_at ∙ go (front_right f a (run_byte_of byte)) (sym front-alone ∙ e)
    where
      go : (t : Bool) → cond (t && true) (Some (translation_of f (byte ∷ []))) Option.None ≡ Option.None → cond t (1 + passing no_screw (rest run)) 0 ≡ 0
      go true h = let z : ◌≡◌ {A = ℕ} 0 1 = cc in absurd (omega arith)
      go false h = refl

  pub alone-right : (t : Translation) → v ≡ Some t → wrong_digit_at f a run ≡ 1 + passing no_screw (rest run)
  alone-right t e = front_at ∙ go (front_right f a (run_byte_of byte)) (sym front-alone ∙ e)
    where
      go : (u : Bool) → cond (u && true) (Some (translation_of f (byte ∷ []))) Option.None ≡ Some t
          → cond u (1 + passing no_screw (rest run)) 0 ≡ 1 + passing no_screw (rest run)
      go true h = refl
      go false h = let z : ◌≡◌ {A = ℕ} 0 1 = cc in absurd (omega arith)

-- ---- how long the parts are
pub start-few : (n : Bool) (m : Mark) (l : Option Direction) → (sign_length n ≤ 1) × (mark_length m ≤ 1) × (letter_length l ≤ 1)
start-few n m l = (sign n, mark m, letter l)
  where
    sign : (n : Bool) → sign_length n ≤ 1
    sign true = omega arith
    sign false = omega arith

    mark : (m : Mark) → mark_length m ≤ 1
    mark Unmarked = omega arith
    mark Single = omega arith
    mark Double = omega arith

    letter : (l : Option Direction) → letter_length l ≤ 1
    letter (Some d) = omega arith
    letter None = omega arith
