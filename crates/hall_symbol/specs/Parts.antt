-- The reader's parts against the spelling rules: the first token, a shift's number, its three numbers, the shift. Each is read exactly as it is spelled.
use Rattle.std.proofs.lemmas.Option.{some_pair_parts}
use Rattle.std.specs.Prelude.{◌≡◌, refl, Bool, true, false, cond, not, ◌&&◌, ◌↔◌, ◌≢◌, ℕ, suc, ◌+◌, ◌-◌, ◌%◌, ◌<◌, ◌≤◌, eqb, leb, ltb, ℤ, pos, neg_ℤ, length, get_or, take, drop, Option, Some, None}
use Rattle.std.proofs.Common.{◌∙◌, ap, arith, add-one, eqb-true, leb-true, ltb-true, ltb-false, ne_eqb, le-leb, lt-ltb, le-ltb, length-append}
use Rattle.std.proofs.lemmas.Bool.{false≢true, not-false}
use Rattle.std.proofs.Math.Bool.{and-eq-true_iff}
use mathlib.Core.List.Memᴰ.{head as here}
use mathlib.Core.List.{List, [], ◌∷◌, ◌++◌, Memᴰ as Mem}
use Rattle.std.proofs.Math.Seq.{take-append_seam, drop-append-add, drop-length, split_at}
use Rattle.laws.specs.Matrix.{Vector}
use Rattle.laws.specs.Residue.{residue, residue-pos, residue-neg}
use Rattle.operation.specs.declared.Translation.{Translation}
use Rattle.centering.specs.Letters.{byte_of, letter_of}
use Rattle.centering.specs.LatticeLaws.{letter-by-byte, letter-byte, letter-capital}
use Rattle.centering.specs.declared.Centering.{Centering}
use Rattle.hall_symbol.specs.Bytes.{whitespace, unclosed, opening}
use Rattle.hall_symbol.specs.Runs.{run, Every, run-seam, run_at, run-all, every-run, every_append}
use Rattle.hall_symbol.specs.Tokens.{trimmed, first_word, behind_word}
use Rattle.hall_symbol.specs.Cut.{Cut, FirstToken, blank, token, first-token, cut-firstword, cut-behind}
use Rattle.hall_symbol.specs.Lattice.{lattice_of, letter_token, lattice_token}
use Rattle.hall_symbol.specs.Shift.{one_digit, two_digits, digits_of, below_zero, opposed, shift_number, triple, numbers_of, closed_shift, shift_of}
use Rattle.hall_symbol.specs.Generators.{shift_by}
use Rattle.hall_symbol.specs.Spelling.{lattice_spelling, decimal, NumberSpelled, above, below, NumbersSpelled, ShiftSpelled, Opens}

-- ---- the first token
-- No letter's byte is `-`.
letter-unsigned : (c : Centering) → eqb (byte_of c) 45 ≡ false
letter-unsigned c = ne_eqb (byte_of c) 45 (omega (arith, letter-capital c))

-- The spelling of a first token is read as what it spells.
pub lattice-read : (inverted : Bool) (c : Centering) → lattice_token (lattice_spelling inverted c) ≡ Some (inverted, c)
unfolding lattice_token letter_token
lattice-read true c = rw (letter-by-byte c)
lattice-read false c = rw (letter-unsigned c, letter-by-byte c)

-- Exactly one letter.
lattice-letter : (inverted again : Bool) (l : Option Centering) (c : Centering) → lattice_of inverted l ≡ Some (again, c) → (inverted ≡ again) × (l ≡ Some c)
lattice-letter inverted again (Some d) c h = let p = some_pair_parts inverted again d c h in (p.0, ap Some p.1)
-- A letter with its sign comes from that letter.
lattice-letter inverted again None c h = let z : ◌≡◌ {A = ℕ} 0 1 = cc in absurd (omega arith)

-- Two bytes are not one.
two_bytes : (a b : ℕ) (s : List ℕ) → eqb (length (a ∷ b ∷ s)) 1 ≡ false
two_bytes a b s = ne_eqb (suc (suc (length s))) 1 (omega arith)

-- Three bytes are not two.
three-bytes : (a b c : ℕ) (s : List ℕ) → eqb (length (a ∷ b ∷ c ∷ s)) 2 ≡ false
three-bytes a b c s = ne_eqb (suc (suc (suc (length s)))) 2 (omega arith)

-- A token read as one letter is that letter's byte.
letter-spelled : (inverted again : Bool) (c : Centering) (t : List ℕ) → letter_token inverted t ≡ Some (again, c) → (inverted ≡ again) × (t ≡ byte_of c ∷ [])
unfolding letter_token
-- A token read as one letter is that letter's byte.
letter-spelled inverted again c [] h = let z : ◌≡◌ {A = ℕ} 0 1 = cc in absurd (omega arith)
letter-spelled inverted again c (b ∷ []) h =
    let (same, l) = lattice-letter inverted again (letter_of b) c h in (same, ap (λ (x : ℕ). x ∷ []) (letter-byte b c l))
letter-spelled inverted again c (b ∷ d ∷ t) h =
    let wrong : ◌≡◌ {A = Option (Bool × Centering)} None (Some (again, c)) = rw (two_bytes b d t) at h in
    let z : ◌≡◌ {A = ℕ} 0 1 = cc in
    absurd (omega arith)

-- A first token that is read is the spelling.
pub lattice-spelled : (t : List ℕ) (inverted : Bool) (c : Centering) → lattice_token t ≡ Some (inverted, c) → t ≡ lattice_spelling inverted c
unfolding lattice_token
lattice-spelled [] inverted c h = let (same, t) = letter-spelled false inverted c [] h in rw (← same) t
lattice-spelled (b ∷ s) inverted c h = go (eqb b 45) refl h
  where
    go : (d : Bool) → eqb b 45 ≡ d → cond d (letter_token true s) (letter_token false (b ∷ s)) ≡ Some (inverted, c) → b ∷ s ≡ lattice_spelling inverted c
    go true e k =
        let (same, t) = letter-spelled true inverted c s k in
        let minus = eqb-true b 45 e in
        rw (← same, minus, t)
    go false e k = let (same, t) = letter-spelled false inverted c (b ∷ s) k in rw (← same) t

-- ---- a number
one-digit : (n : ℕ) → n < 10 → one_digit (48 + n) ≡ Some n
unfolding one_digit
-- The digit of a number below 10.
one-digit n h = let e : 48 + n - 48 ≡ n = omega arith in rw (le-leb 48 (48 + n) (omega arith), le-leb (48 + n) 57 (omega arith), e)

-- The digits of 10 and 11.
two_digits_lem : (n : ℕ) → 10 ≤ n → n < 12 → two_digits 49 (38 + n) ≡ Some n
unfolding two_digits
two_digits_lem n h k =
    let e : 38 + n - 38 ≡ n = omega arith in rw (le-leb 48 (38 + n) (omega arith), le-leb (38 + n) 49 (omega arith), e)

-- The spelling of a number is read as the number.
digits-read : (w : List ℕ) (n : ℕ) → n < 12 → w ≡ decimal n → digits_of w ≡ Some n
unfolding digits_of
digits-read w n h e = go (ltb n 10) refl e
  where
    go : (b : Bool) → ltb n 10 ≡ b → w ≡ cond b ((48 + n) ∷ []) (49 ∷ (38 + n) ∷ []) → digits_of w ≡ Some n
    go true t k = rw k (one-digit n (ltb-true n 10 t))
    go false t k = rw k (two_digits_lem n (ltb-false n 10 t) h)

-- Digits start with no `-`.
decimal-front : (n : ℕ) → eqb (get_or (decimal n) 0 0) 45 ≡ false
decimal-front n = go (ltb n 10)
  where
    go : (b : Bool) → eqb (get_or (cond b ((48 + n) ∷ []) (49 ∷ (38 + n) ∷ [])) 0 0) 45 ≡ false
    go true = ne_eqb (48 + n) 45 (omega arith)
    go false = refl

-- −k modulo 12.
pub minus-residue : (k : ℕ) → 1 ≤ k → k ≤ 11 → residue (neg_ℤ (pos k)) ≡ 12 - k
minus-residue k h l = residue-neg (pos k) ∙ rw (residue-pos k) (omega arith)

-- The spelling of an integer is read as its residue.
pub number_read : (w : List ℕ) (z : ℤ) → NumberSpelled w z → shift_number w ≡ Some (residue z)
unfolding shift_number below_zero
number_read w z' (above n h e) =
    let small : n % 12 ≡ n = omega arith in
    rw (e, decimal-front n, digits-read (decimal n) n h refl, residue-pos n, small)
number_read w z' (below k h l e) =
    rw (e, digits-read (decimal k) k (omega arith) refl, le-leb 1 k h, le-leb k 11 l, minus-residue k h l)

-- A digit that is read is the spelling.
one-spelled : (b n : ℕ) → one_digit b ≡ Some n → (n < 12) × (b ∷ [] ≡ decimal n)
unfolding one_digit
one-spelled b n h = go (leb 48 b && leb b 57) refl h
  where
    go : (t : Bool) → leb 48 b && leb b 57 ≡ t → cond t (Some (b - 48)) None ≡ Some n → (n < 12) × (b ∷ [] ≡ decimal n)
    go true e k =
        let (low, high) = (and-eq-true_iff (leb 48 b) (leb b 57)).0 e in
        let same : b - 48 ≡ n = cc in
        let above = leb-true 48 b low in
        let below = leb-true b 57 high in
        let digit : b ≡ 48 + n = omega arith in
        (omega arith, rw (lt-ltb n 10 (omega arith)) (ap (λ (x : ℕ). x ∷ []) digit))
    go false e k = let z : ◌≡◌ {A = ℕ} 0 1 = cc in absurd (omega arith)

-- Two digits that are read are the spelling.
two-spelled : (a b n : ℕ) → two_digits a b ≡ Some n → (n < 12) × (a ∷ b ∷ [] ≡ decimal n)
unfolding two_digits
two-spelled a b n h = go (eqb a 49 && (leb 48 b && leb b 49)) refl h
  where
    go : (t : Bool) → eqb a 49 && (leb 48 b && leb b 49) ≡ t → cond t (Some (b - 38)) None ≡ Some n → (n < 12) × (a ∷ b ∷ [] ≡ decimal n)
    go true e k =
        let (lead, rest) = (and-eq-true_iff (eqb a 49) (leb 48 b && leb b 49)).0 e in
        let (low, high) = (and-eq-true_iff (leb 48 b) (leb b 49)).0 rest in
        let same : b - 38 ≡ n = cc in
        let above = leb-true 48 b low in
        let below = leb-true b 49 high in
        let digit : b ≡ 38 + n = omega arith in
        let tens = eqb-true a 49 lead in
        (omega arith, rw (le-ltb n 10 (omega arith), tens) (ap (λ (x : ℕ). 49 ∷ x ∷ []) digit))
    go false e k = let z : ◌≡◌ {A = ℕ} 0 1 = cc in absurd (omega arith)

-- Digits that are read are the spelling.
digits-spelled : (w : List ℕ) (n : ℕ) → digits_of w ≡ Some n → (n < 12) × (w ≡ decimal n)
unfolding digits_of
digits-spelled [] n h = let z : ◌≡◌ {A = ℕ} 0 1 = cc in absurd (omega arith)
digits-spelled (a ∷ []) n h = one-spelled a n h
digits-spelled (a ∷ b ∷ []) n h = two-spelled a b n h
digits-spelled (a ∷ b ∷ c ∷ s) n h =
    let none : None ≡ Some n = rw (two_bytes a b (c ∷ s), three-bytes a b c s) at h in
    let z : ◌≡◌ {A = ℕ} 0 1 = cc in
    absurd (omega arith)

-- An integer that a word spells, with its residue.
abbrev pub Spelling : List ℕ → ℕ → Type 0
Spelling w n = (z : ℤ) × NumberSpelled w z × (residue z ≡ n)

-- What is read behind a `-`.
below-spelled : (w : List ℕ) (n : ℕ) (r : Option ℕ) → digits_of w ≡ r → opposed r ≡ Some n → Spelling (45 ∷ w) n
unfolding below_zero
below-spelled w n None e h = let z : ◌≡◌ {A = ℕ} 0 1 = cc in absurd (omega arith)
below-spelled w n (Some k) e h = go (leb 1 k && leb k 11) refl h
  where
    go : (t : Bool) → leb 1 k && leb k 11 ≡ t → cond t (Some (12 - k)) None ≡ Some n → Spelling (45 ∷ w) n
    go true f g =
        let (low, high) = (and-eq-true_iff (leb 1 k) (leb k 11)).0 f in
        let (small, same) = digits-spelled w k e in
        let value : 12 - k ≡ n = cc in (
          neg_ℤ (pos k),
          below k (leb-true 1 k low) (leb-true k 11 high) (ap (λ (l : List ℕ). 45 ∷ l) same),
          minus-residue k (leb-true 1 k low) (leb-true k 11 high) ∙ value,
        )
    go false f g = let z : ◌≡◌ {A = ℕ} 0 1 = cc in absurd (omega arith)

-- What is read without one.
above-spelled : (w : List ℕ) (n : ℕ) → digits_of w ≡ Some n → Spelling w n
above-spelled w n h =
    let (small, same) = digits-spelled w n h in
    (pos n, above n small same, residue-pos n ∙ omega arith)

-- A word that is read as a number spells an integer with that residue.
pub number_spelled : (w : List ℕ) (n : ℕ) → shift_number w ≡ Some n → Spelling w n
unfolding shift_number
number_spelled [] n h = above-spelled [] n h
number_spelled (b ∷ w) n h = go (eqb b 45) refl h
  where
    go : (t : Bool) → eqb b 45 ≡ t → cond t (opposed (digits_of w)) (digits_of (b ∷ w)) ≡ Some n → Spelling (b ∷ w) n
    go true e k = rw (eqb-true b 45 e) (below-spelled w n (digits_of w) refl k)
    go false e k = above-spelled (b ∷ w) n k

-- A word without `-` is read as the numbers 0 to 11 are, and as nothing else.
pub plain-numbers : (w : List ℕ) (n : ℕ) → ((b : ℕ) → Mem b w → b ≢ 45) → (shift_number w ≡ Some n) ↔ ((n < 12) × (w ≡ decimal n))
unfolding shift_number
plain-numbers [] n h = (digits-spelled [] n, λ k. digits-read [] n k.0 k.1)
plain-numbers (b ∷ w) n h =
    let plain = ne_eqb b 45 (h b (here refl)) in
    ((λ e. digits-spelled (b ∷ w) n (rw plain at e)), λ k. rw plain (digits-read (b ∷ w) n k.0 k.1))

-- ---- three numbers
triple-by : (x y z : Option ℕ) (v : Translation) → triple x y z ≡ Some v → (x ≡ Some v.x) × (y ≡ Some v.y) × (z ≡ Some v.z)
triple-by (Some x) (Some y) (Some z) v h =
    let same : record { x = x; y = y; z = z } ≡ v = cc in
    (ap (λ (u : Translation). Some u.x) same, ap (λ (u : Translation). Some u.y) same, ap (λ (u : Translation). Some u.z) same)
-- Three numbers, if all are there.
triple-by (Some x) (Some y) None v h = let z : ◌≡◌ {A = ℕ} 0 1 = cc in absurd (omega arith)
-- Three numbers, if all are there.
triple-by (Some x) None n v h = let z : ◌≡◌ {A = ℕ} 0 1 = cc in absurd (omega arith)
-- Three numbers, if all are there.
triple-by None m n v h = let z : ◌≡◌ {A = ℕ} 0 1 = cc in absurd (omega arith)

-- Where the next word is a number, there is a token.
word_cut : (s : List ℕ) (n : ℕ) → shift_number (first_word s) ≡ Some n → (w : List ℕ) × Cut s w (first_word s) (behind_word s)
unfolding shift_number digits_of run
word_cut s n h = go (first-token s)
  where
    go : FirstToken s → (w : List ℕ) × Cut s w (first_word s) (behind_word s)
    go (blank e) =
        let nothing : trimmed s ≡ [] = ap (λ (k : ℕ). drop k s) (every-run whitespace s e) ∙ drop-length s in
        let none : None ≡ Some n = rw nothing at h in
        let z : ◌≡◌ {A = ℕ} 0 1 = cc in
        absurd (omega arith)
    go (token w t after cut) = (w, rw (cut-firstword s w t after cut, cut-behind s w t after cut) cut)

-- Three spelled numbers are read.
pub numbers-read : (s : List ℕ) (v : Vector) → NumbersSpelled s v → numbers_of s ≡ Some (shift_by v)
unfolding numbers_of
numbers-read s v n =
    let all = every-run whitespace n.behind-z n.blank in
    rw (
      cut-firstword s _ _ _ n.cut-x,
      cut-behind s _ _ _ n.cut-x,
      cut-firstword n.behind-x _ _ _ n.cut-y,
      cut-behind n.behind-x _ _ _ n.cut-y,
      cut-firstword n.behind-y _ _ _ n.cut-z,
      cut-behind n.behind-y _ _ _ n.cut-z,
      le-leb (length n.behind-z) (run whitespace n.behind-z) (omega arith),
      number_read n.word-x v.x n.number-x,
      number_read n.word-y v.y n.number-y,
      number_read n.word-z v.z n.number-z,
    )

-- Three numbers that are read are spelled, by integers with those residues.
pub numbers-spelled : (s : List ℕ) (t : Translation) → numbers_of s ≡ Some t → (v : Vector) × NumbersSpelled s v × (shift_by v ≡ t)
unfolding numbers_of
numbers-spelled s t h = go (leb (length r) (run whitespace r)) refl h
  where
    q : List ℕ
    q = behind_word (behind_word s)

    r : List ℕ
    r = behind_word q

    go : (b : Bool) → leb (length r) (run whitespace r) ≡ b
        → cond b (triple (shift_number (first_word s)) (shift_number (first_word (behind_word s))) (shift_number (first_word q))) None ≡ Some t
        → (v : Vector)
        × NumbersSpelled s v × (shift_by v ≡ t)
    go true e k =
        let (x, y, z) = triple-by (shift_number (first_word s)) (shift_number (first_word (behind_word s))) (shift_number (first_word q)) t k in
        let (wx, cx) = word_cut s t.x x in
        let (wy, cy) = word_cut (behind_word s) t.y y in
        let (wz, cz) = word_cut q t.z z in
        let (vx, sx, rx) = number_spelled (first_word s) t.x x in
        let (vy, sy, ry) = number_spelled (first_word (behind_word s)) t.y y in
        let (vz, sz, rz) = number_spelled (first_word q) t.z z in (
          record { x = vx; y = vy; z = vz },
          record {
            gap-x = wx;
            word-x = first_word s;
            behind-x = behind_word s;
            gap-y = wy;
            word-y = first_word (behind_word s);
            behind-y = q;
            gap-z = wz;
            word-z = first_word q;
            behind-z = r;
            cut-x = cx;
            cut-y = cy;
            cut-z = cz;
            blank = run-all whitespace r (leb-true (length r) (run whitespace r) e);
            number-x = sx;
            number-y = sy;
            number-z = sz;
          },
          λ i. record { x = rx i; y = ry i; z = rz i },
        )
    go false e k = let z : ◌≡◌ {A = ℕ} 0 1 = cc in absurd (omega arith)

-- ---- the shift
-- Neither whitespace nor a number holds `)`.
whitespace-unclosed : (b : ℕ) → whitespace b ≡ true → unclosed b ≡ true
unfolding whitespace unclosed
whitespace-unclosed b h = go (eqb b 41) refl
  where
    go : (t : Bool) → eqb b 41 ≡ t → not t ≡ true
    go true e = absurd (false≢true (rw (eqb-true b 41 e) at h))
    go false e = refl

-- Whitespace holds no `)`.
blank-unclosed : (w : List ℕ) → Every whitespace w → Every unclosed w
blank-unclosed [] h = tt
blank-unclosed (b ∷ w) h = (whitespace-unclosed b h.0, blank-unclosed w h.1)

-- A digit is no `)`.
digit-unclosed : (b : ℕ) → 48 ≤ b → unclosed b ≡ true
unfolding unclosed
digit-unclosed b h = rw (ne_eqb b 41 (omega arith))

-- Nor do digits hold one.
digits-unclosed : (n : ℕ) → Every unclosed (decimal n)
digits-unclosed n = go (ltb n 10) refl
  where
    go : (b : Bool) → ltb n 10 ≡ b → Every unclosed (cond b ((48 + n) ∷ []) (49 ∷ (38 + n) ∷ []))
    go true t = (digit-unclosed (48 + n) (omega arith), tt)
    go false t = let low = ltb-false n 10 t in (digit-unclosed 49 (omega arith), (digit-unclosed (38 + n) (omega arith), tt))

-- Nor does a number.
number-unclosed : (w : List ℕ) (z : ℤ) → NumberSpelled w z → Every unclosed w
unfolding unclosed
number-unclosed w z' (above n h e) = rw e (digits-unclosed n)
number-unclosed w z' (below k h l e) = rw e (refl, digits-unclosed k)

-- Nor a cut text of such parts.
cut-unclosed : (s w t after : List ℕ) → Cut s w t after → Every unclosed t → Every unclosed after → Every unclosed s
cut-unclosed s w t after cut h k =
    rw cut.text (every_append unclosed w (t ++ after) (blank-unclosed w cut.blank) (every_append unclosed t after h k))

-- Nor three numbers.
numbers-unclosed : (s : List ℕ) (v : Vector) → NumbersSpelled s v → Every unclosed s
numbers-unclosed s v n =
    cut-unclosed s _ _ _ n.cut-x (number-unclosed n.word-x v.x n.number-x)
    (cut-unclosed n.behind-x _ _ _ n.cut-y (number-unclosed n.word-y v.y n.number-y)
    (cut-unclosed n.behind-y _ _ _ n.cut-z (number-unclosed n.word-z v.z n.number-z) (blank-unclosed n.behind-z n.blank)))

-- The first `)` is the one that closes the shift.
closed-read : (inside after : List ℕ) (v : Vector) → NumbersSpelled inside v → Every whitespace after
    → closed_shift (inside ++ (41 ∷ after)) ≡ Some (shift_by v)
unfolding closed_shift unclosed
closed-read inside after v n b =
    let close : run unclosed (inside ++ (41 ∷ after)) ≡ length inside = run-seam unclosed inside (41 ∷ after) (numbers-unclosed inside v n) refl in
    let behind : drop (suc (length inside)) (inside ++ (41 ∷ after)) ≡ after = rw (← add-one (length inside)) (drop-append-add inside (41 ∷ after) 1) in
    let within : length inside < length (inside ++ (41 ∷ after)) = omega (arith, length-append inside (41 ∷ after)) in
    let all = every-run whitespace after b in
    rw (
      close,
      lt-ltb (length inside) (length (inside ++ (41 ∷ after))) within,
      behind,
      le-leb (length after) (run whitespace after) (omega arith),
      take-append_seam inside (41 ∷ after),
    )
    (numbers-read inside v n)

-- A spelled shift is read.
pub shift-read : (s : List ℕ) (v : Vector) → ShiftSpelled s v → shift_of s ≡ Some (shift_by v)
shift-read s v h = rw h.brackets (closed-read h.inside h.after v h.numbers h.blank)

-- The byte that closes is 41.
closed-byte : (b : ℕ) → unclosed b ≡ false → b ≡ 41
unfolding unclosed
closed-byte b h = eqb-true b 41 (not-false (eqb b 41) h)

-- The byte that opens is 40.
opening-byte : (b : ℕ) → opening b ≡ true → b ≡ 40
unfolding opening
opening-byte b h = eqb-true b 40 h

-- A closed shift that is read is spelled.
closed-spelled : (s : List ℕ) (t : Translation) → closed_shift s ≡ Some t → (v : Vector) × ShiftSpelled (40 ∷ s) v × (shift_by v ≡ t)
unfolding closed_shift
closed-spelled s t h = go (ltb close (length s) && leb (length after) (run whitespace after)) refl h
  where
    close : ℕ
    close = run unclosed s

    after : List ℕ
    after = drop (suc close) s

    go : (b : Bool) → ltb close (length s) && leb (length after) (run whitespace after) ≡ b → cond b (numbers_of (take close s)) None ≡ Some t
        → (v : Vector) × ShiftSpelled (40 ∷ s) v × (shift_by v ≡ t)
    go true e k =
        let (there, only) = (and-eq-true_iff (ltb close (length s)) (leb (length after) (run whitespace after))).0 e in
        let within = ltb-true close (length s) there in
        let bracket = closed-byte (get_or s close 0) (run_at unclosed s within) in
        let (v, numbers, same) = numbers-spelled (take close s) t k in (
          v,
          record {
            inside = take close s;
            after = after;
            brackets = ap (λ (l : List ℕ). 40 ∷ l) (split_at s close 0 within ∙ ap (λ (b : ℕ). take close s ++ (b ∷ after)) bracket);
            numbers = numbers;
            blank = run-all whitespace after (leb-true (length after) (run whitespace after) only);
          },
          same,
        )
    go false e k = let z : ◌≡◌ {A = ℕ} 0 1 = cc in absurd (omega arith)

-- A shift that is read is spelled.
pub shift-spelled : (s : List ℕ) (t : Translation) → Opens s → shift_of s ≡ Some t → (v : Vector) × ShiftSpelled s v × (shift_by v ≡ t)
shift-spelled [] t h k = absurd h
shift-spelled (b ∷ s) t h k = rw (opening-byte b h) (closed-spelled s t k)
