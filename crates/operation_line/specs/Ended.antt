-- What the code answers: at the end of a line the operation of the numbers it holds, which is that of the line's terms; and at each byte before, where it
-- goes on and where it stops.
use Rattle.std.specs.Prelude.{◌≡◌, Bool, ℕ, suc, ◌+◌, ◌*◌, ◌/◌, ◌%◌, ◌<◌, ◌≤◌, length, get_or, Err, Option}
use Rattle.std.proofs.Math.Path.{refl, sym, ap}
use Rattle.std.proofs.Common.{◌∙◌, subst, add-one, take-suc, length-take-le, lt-ltb, le-ltb}
use Rattle.std.proofs.Math.Bool.{cond}
use mathlib.Core.List.{List, [], ◌∷◌, ◌++◌}
use native.Mathlib.Omega.{arith}
use Rattle.std.proofs.Math.ListN.{take, drop}
use Rattle.std.proofs.Math.Seq.{take-length, split_at}
use Rattle.operation.specs.Meaning.{Digits}
use Rattle.operation.specs.Code.{code_of, rotation_of, decoded_of, code_lt, rotation-code}
use Rattle.operation_line.specs.declared.Letter.TheVariants.{X, Y, Z}
use Rattle.operation_line.specs.declared.reader.Mode.{Mode}
use Rattle.operation_line.specs.declared.reader.Mode.TheVariants.{Start, Owed, Told, Numerator, Behind, Twelfth}
use Rattle.operation_line.specs.declared.reader.State.{State}
use Rattle.std.specs.Prelude.{Some, None}
use Rattle.operation_line.specs.Spelling.{Term, Line}
use Rattle.operation_line.specs.Denoted.{digit_in, twelfths_in, rotation_of_line, translation_of_line, operation_of_line}
use Rattle.operation_line.specs.Reading.{Reading, Reached, at, stopped, step, onwards, reach, passed, readable, begin, decided, line_of, whole_line, ended, answered, read_line}
use Rattle.operation_line.specs.Numbers.{numbered, decoded_then, decoded_line, whole_numbers, ended_by, ended_numbers, step_numbers, Within}
use Rattle.operation_line.specs.Beginnings.{Done, nothing, more, Ends, Begun, reached-begun}
use Rattle.operation_line.specs.SpeltRead.{reach-append}
use Rattle.operation_line.specs.Held.{row_code, rows_code, ranks, numbers_of, numbers_next, digit-small, twelfths-small, terms-proper, begun-within, step-held}
use Rattle.operation_line.specs.declared.ReadingRefusal.TheVariants.{Misspelt, TooLong}
use Rattle.operation.specs.declared.Rotation.{Rotation}

-- ---- the end

-- The entries of a line's rotation are −1, 0 and 1.
pub line-digits : (l : Line) → Digits (rotation_of_line l)
unfolding rotation_of_line
line-digits l =
    record {
      xx = digit-small X l.x;
      xy = digit-small Y l.x;
      xz = digit-small Z l.x;
      yx = digit-small X l.y;
      yy = digit-small Y l.y;
      yz = digit-small Z l.y;
      zx = digit-small X l.z;
      zy = digit-small Y l.z;
      zz = digit-small Z l.z;
    }

module _ (x y z : List Term) where
  line_code : rows_code (y ∷ (x ∷ [])) * 27 + row_code z ≡ code_of (rotation_of_line (line_of x y z))
  unfolding rows_code code_of rotation_of_line
  line_code = omega arith

  line-decoded : decoded_of (rows_code (y ∷ (x ∷ [])) * 27 + row_code z) ≡ Some (rotation_of_line (line_of x y z))
  line-decoded =
      let r = rotation_of_line (line_of x y z) in
      let d = line-digits (line_of x y z) in
      ap decoded_of line_code
      ∙ ap (λ (t : Bool). cond t (Some (rotation_of (code_of r))) None) (lt-ltb (code_of r) 19683 (code_lt r d)) ∙ ap Some (rotation-code r d)

  module _ (x-small : twelfths_in x < 12) (y-small : twelfths_in y < 12) (z-small : twelfths_in z < 12) where
    abbrev twelfths : ℕ
    twelfths = ranks (y ∷ (x ∷ [])) * 12 + twelfths_in z

    line-numbered : numbered (rotation_of_line (line_of x y z)) twelfths ≡ operation_of_line (line_of x y z)
    unfolding operation_of_line translation_of_line ranks
    line-numbered = λ i. record { rotation = rotation_of_line (line_of x y z); translation = record { x = one i; y = two i; z = three i } }
      where
        one : twelfths / 144 % 12 ≡ twelfths_in x
        one = omega arith

        two : twelfths / 12 % 12 ≡ twelfths_in y
        two = omega arith

        three : twelfths % 12 ≡ twelfths_in z
        three = omega arith

    whole-held : decoded_line (rows_code (y ∷ (x ∷ [])) * 27 + row_code z) twelfths ≡ decided (operation_of_line (line_of x y z))
    unfolding decoded_then
    whole-held = ap (λ (d : Option Rotation). decoded_then d twelfths) line-decoded ∙ ap decided line-numbered

-- Behind a term.
told-held : (size : ℕ) (front q : List ℕ) (done : List (List Term)) (ts : List Term) → Done front done → length done ≤ 2 → Ends q ts Told
    → whole_numbers size (numbers_of (record { done = done; terms = ts; mode = Told })) ≡ whole_line size done ts
unfolding whole_numbers whole_line
told-held size front q [] ts h few p = refl
told-held size front q (y ∷ []) ts h few p = refl
told-held size front q (y ∷ (x ∷ [])) ts (more (more nothing px) py) few p =
    whole-held x y ts (twelfths-small x (terms-proper px.spelt)) (twelfths-small y (terms-proper py.spelt)) (twelfths-small ts (terms-proper p.spelt))
told-held size front q (y ∷ (x ∷ (w ∷ ps))) ts h few p = absurd (omega arith)

pub ended_held : (size : ℕ) (text : List ℕ) (s : Reading) → Begun text s → ended_numbers size (numbers_of s) ≡ ended size s s.mode
unfolding ended whole_numbers
ended_held size text s h = go s.mode h.ends
  where
    go : (m : Mode) → Ends h.part s.terms m → ended_by size (numbers_of s) m ≡ ended size s m
    go Start e = refl
    go (Owed n) e = refl
    go Told e = told-held size h.front h.part s.done s.terms h.finished h.few e
    go (Numerator n m) e = refl
    go (Behind n m) e = refl
    go (Twelfth n m) e = refl

-- ---- the loop

-- After i bytes the code holds the numbers of a reading that they reach.
pub record Holds (line : List ℕ) (i : ℕ) (state : State) : Type 0 where
  pub within : i ≤ length line
  pub reading : Reading
  pub reached : reach (take i line) begin ≡ at reading
  pub numbers : state ≡ numbers_of reading

pub holds-begin : (line : List ℕ) → Holds line 0 (record { part = 0; mode = Start; code = 13; rank = 0 })
unfolding reach rows_code ranks digit_in twelfths_in
holds-begin line = record { within = omega arith; reading = begin; reached = refl; numbers = refl }

onwards-end : (w : Reached) → onwards w (reach []) ≡ w
unfolding onwards reach
onwards-end (at s) = refl
onwards-end stopped = refl

reach-one : (b : ℕ) (s : Reading) → reach (b ∷ []) s ≡ step s b
unfolding reach
reach-one b s = onwards-end (step s b)

reach-stop : (b : ℕ) (bs : List ℕ) (s : Reading) → step s b ≡ stopped → reach (b ∷ bs) s ≡ stopped
unfolding reach onwards
reach-stop b bs s e = ap (λ (w : Reached). onwards w (reach bs)) e

readable-stop : (p : List ℕ) (b : ℕ) (q : List ℕ) (s r : Reading) → reach p s ≡ at r → step r b ≡ stopped → readable (p ++ (b ∷ q)) s ≡ length p
unfolding readable passed reach onwards
readable-stop [] b q s r e h =
    let same : s ≡ r = cc in
    ap (λ (w : Reached). passed w (readable q)) (ap (λ (t : Reading). step t b) same ∙ h)
readable-stop (a ∷ rest) b q s r e h = go (step s a) e (λ s' e'. readable-stop rest b q s' r e' h)
  where
    go : (w : Reached) → onwards w (reach rest) ≡ at r → ((s' : Reading) → reach rest s' ≡ at r → readable (rest ++ (b ∷ q)) s' ≡ length rest)
        → passed w (readable (rest ++ (b ∷ q))) ≡ suc (length rest)
    go (at s') e' below = ap suc (below s' e')
    go stopped e' below = let z : ◌≡◌ {A = ℕ} 0 1 = cc in absurd (omega arith)

module _ (line : List ℕ) (i : ℕ) (state : State) (h : Holds line i state) where
  begun : Begun (take i line) h.reading
  begun = reached-begun (take i line) h.reading h.reached

  pub holds-within : Within state
  holds-within = subst Within (sym h.numbers) (begun-within (take i line) h.reading begun)

  -- At the end.
  pub holds-end : i ≡ length line → length line ≤ 64 → ended_numbers i state ≡ read_line line
  unfolding read_line answered
  holds-end last short =
      ap (ended_numbers i) h.numbers ∙ ended_held i (take i line) h.reading begun ∙ ap (λ (n : ℕ). ended n h.reading h.reading.mode) last
      ∙ ap (answered line) (sym (ap (λ (l : List ℕ). reach l begin) (sym (take-length line) ∙ ap (λ (n : ℕ). take n line) (sym last)) ∙ h.reached))
      ∙ sym (ap (λ (t : Bool). cond t (Err TooLong) (answered line (reach line begin))) (le-ltb 64 (length line) short))

  module _ (more : i < length line) where
    abbrev byte : ℕ
    byte = get_or line i 0

    next : step_numbers state byte ≡ numbers_next (step h.reading byte)
    next = ap (λ (t : State). step_numbers t byte) h.numbers ∙ step-held (take i line) h.reading byte begun

    -- Where the code goes on.
    pub holds_on : (on : State) → step_numbers state byte ≡ Some on → Holds line (i + 1) on
    holds_on on e = go (step h.reading byte) refl (sym next ∙ e)
      where
        go : (w : Reached) → step h.reading byte ≡ w → numbers_next w ≡ Some on → Holds line (i + 1) on
        go (at s) is same =
            record {
              within = omega arith;
              reading = s;
              reached =
                  rw (add-one i, take-suc line i 0 more)
                  (reach-append (take i line) (byte ∷ []) begin h.reading h.reached ∙ reach-one byte h.reading ∙ is);
              numbers = cc;
            }
        go stopped is same = let z : ◌≡◌ {A = ℕ} 0 1 = cc in absurd (omega arith)

    -- Where it stops.
    pub holds-stop : step_numbers state byte ≡ None → length line ≤ 64 → Err (Misspelt i) ≡ read_line line
    unfolding read_line answered
    holds-stop e short = go (step h.reading byte) refl (sym next ∙ e)
      where
        split : line ≡ take i line ++ (byte ∷ drop (suc i) line)
        split = split_at line i 0 more

        go : (w : Reached) → step h.reading byte ≡ w → numbers_next w ≡ None → Err (Misspelt i) ≡ read_line line
        go (at s) is same = let z : ◌≡◌ {A = ℕ} 0 1 = cc in absurd (omega arith)
        go stopped is same =
            let place : readable line begin ≡ i =
            ap (λ (l : List ℕ). readable l begin) split
            ∙ readable-stop (take i line) byte (drop (suc i) line) begin h.reading h.reached is
            ∙ length-take-le i line h.within in
            let ends : reach line begin ≡ stopped =
            ap (λ (l : List ℕ). reach l begin) split
            ∙ reach-append (take i line) (byte ∷ drop (suc i) line) begin h.reading h.reached
            ∙ reach-stop byte (drop (suc i) line) h.reading is in
            ap (λ x. Err (Misspelt x)) (sym place) ∙ ap (answered line) (sym ends)
            ∙ sym (ap (λ (t : Bool). cond t (Err TooLong) (answered line (reach line begin))) (le-ltb 64 (length line) short))
