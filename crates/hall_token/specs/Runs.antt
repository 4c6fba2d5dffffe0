-- The run of an N token, byte by byte: which bytes may stand there, which is the prime, which are digits.
use Rattle.std.specs.Prelude.{◌≡◌, refl, Bool, true, false, cond, not, ◌&&◌, ◌||◌, ℕ, ◌+◌, ◌<◌, length, get_or, drop, eqb}
use Rattle.std.specs.List.{list_any}
use Rattle.std.proofs.Common.{sym, ◌∙◌, ap, true≢false, ⊎_elim, add-one, eqb-true, eq-eqb, drop-cons}
use Rattle.std.proofs.Math.Bool.{and-eq-true_iff}
use mathlib.Core.List.Memᴰ.{cases_cons as member-cases}
use mathlib.Core.List.Memᴰ.{head as here}
use mathlib.Core.List.Memᴰ.{not-nil as not-in-nil}
use mathlib.Core.List.Memᴰ.{tail as there}
use mathlib.Core.List.{List, [], ◌∷◌, ◌++◌, Memᴰ as Mem}
use Rattle.std.proofs.lemmas.Bool.{not-true, not-false}
use Rattle.std.proofs.Math.Seq.{drop-length}
use Rattle.hall_token.specs.declared.RunByte.{RunByte}
use Rattle.hall_token.specs.declared.RunByte.TheVariants.{Screw, Letter, Prime, Foreign}
use Rattle.hall_token.specs.Bytes.{run_bytes, run_byte_of, value_at, passes, value_at-passes}

-- A byte that may stand in a run.
abbrev pub may_stand : RunByte → Bool
may_stand (Screw s) = true
may_stand (Letter t) = true
may_stand Prime = true
may_stand Foreign = false

-- A byte other than `'`.
abbrev pub no_prime : RunByte → Bool
no_prime (Screw s) = true
no_prime (Letter t) = true
no_prime Prime = false
no_prime Foreign = true

-- A byte other than a digit.
abbrev pub no_screw : RunByte → Bool
no_screw (Screw s) = false
no_screw (Letter t) = true
no_screw Prime = true
no_screw Foreign = true

-- Every byte of a run passes a test.
unfoldable pub every : (RunByte → Bool) → List ℕ → Bool
every p [] = true
every p (b ∷ bs) = p (run_byte_of b) && every p bs

-- ---- the prime

-- Byte 39 is the prime, and no other byte is, by one test over the table.
prime_test : ℕ → RunByte → Bool
prime_test b v = cond (no_prime v) true (eqb b 39)

pub prime-byte : (b : ℕ) → no_prime (run_byte_of b) ≡ false → b ≡ 39
unfolding prime_test passes run_byte_of
prime-byte b e =
    eqb-true b 39 (sym (ap (λ (x : Bool). cond x true (eqb b 39)) e) ∙ value_at-passes prime_test Foreign run_bytes (λ c. refl) refl b)

pub prime-here : (b : ℕ) → b ≡ 39 → no_prime (run_byte_of b) ≡ false
unfolding run_byte_of value_at
prime-here b e = rw e

pub no-prime-here : (b : ℕ) → (b ≡ 39 → ⊥) → no_prime (run_byte_of b) ≡ true
no-prime-here b h = go (no_prime (run_byte_of b)) refl
  where
    go : (t : Bool) → no_prime (run_byte_of b) ≡ t → no_prime (run_byte_of b) ≡ true
    go true e = e
    go false e = absurd (h (prime-byte b e))

-- ---- laws of `every`

-- Each byte of a run that passes as a whole passes.
pub every-member : (p : RunByte → Bool) (run : List ℕ) → every p run ≡ true → (b : ℕ) → Mem b run → p (run_byte_of b) ≡ true
unfolding every
every-member p [] e b m = absurd (not-in-nil m)
every-member p (c ∷ cs) e b m =
    ⊎_elim
    (λ h. rw h ((and-eq-true_iff (p (run_byte_of c)) (every p cs)).0 e).0)
    (λ h. every-member p cs ((and-eq-true_iff (p (run_byte_of c)) (every p cs)).0 e).1 b h)
    (member-cases m)

-- A run each of whose bytes passes does so as a whole.
pub member-every : (p : RunByte → Bool) (run : List ℕ) → ((b : ℕ) → Mem b run → p (run_byte_of b) ≡ true) → every p run ≡ true
unfolding every
member-every p [] h = refl
member-every p (c ∷ cs) h = rw (h c (here refl)) (member-every p cs (λ b m. h b (there m)))

-- A byte that fails stands somewhere in a run that fails.
pub record Fails (p : RunByte → Bool) (run : List ℕ) : Type 0 where
  pub before : List ℕ
  pub byte : ℕ
  pub after : List ℕ
  pub split : run ≡ before ++ (byte ∷ after)
  pub fails : p (run_byte_of byte) ≡ false

pub every-fails : (p : RunByte → Bool) (run : List ℕ) → every p run ≡ false → Fails p run
unfolding every
every-fails p [] e = absurd (true≢false e)
every-fails p (c ∷ cs) e = go (p (run_byte_of c)) refl (every-fails p cs)
  where
    go : (t : Bool) → p (run_byte_of c) ≡ t → (every p cs ≡ false → Fails p cs) → Fails p (c ∷ cs)
    go true h below =
        let w = below (sym (ap (λ (x : Bool). x && every p cs) h) ∙ e) in
        record { before = c ∷ w.before; byte = w.byte; after = w.after; split = ap (λ (l : List ℕ). c ∷ l) w.split; fails = w.fails }
    go false h below = record { before = []; byte = c; after = cs; split = refl; fails = h }

-- ---- a run passed byte by byte

pub every-end : (p : RunByte → Bool) (run : List ℕ) → every p (drop (length run) run) ≡ true
unfolding every
every-end p run = rw drop-length

-- At a byte that fails the whole fails; after one that passes it is up to the rest.
pub every-stop : (p : RunByte → Bool) (run : List ℕ) (i : ℕ) → i < length run → p (run_byte_of (get_or run i 0)) ≡ false → every p (drop i run) ≡ false
unfolding every
every-stop p run i h e = rw (drop-cons run i 0, e)

pub every-next : (p : RunByte → Bool) (run : List ℕ) (i : ℕ) → i < length run → p (run_byte_of (get_or run i 0)) ≡ true
    → every p (drop i run) ≡ every p (drop (i + 1) run)
unfolding every
every-next p run i h e = rw (drop-cons run i 0, e, add-one i)

-- What a test t of v, which a byte says, tells of the byte.
pub test-fails : (p : RunByte → Bool) (b : ℕ) (v : RunByte) (t : Bool) → v ≡ run_byte_of b → t ≡ p v → not t ≡ true → p (run_byte_of b) ≡ false
test-fails p b v t w e n = sym (e ∙ ap p w) ∙ not-true t n

pub test-passes : (p : RunByte → Bool) (b : ℕ) (v : RunByte) (t : Bool) → v ≡ run_byte_of b → t ≡ p v → not t ≡ false → p (run_byte_of b) ≡ true
test-passes p b v t w e n = sym (e ∙ ap p w) ∙ not-false t n

-- No prime stands in a run where the library finds no byte 39.
pub none-primed : (run : List ℕ) → not (list_any (λ b. eqb b 39) run) ≡ every no_prime run
unfolding every
none-primed [] = refl
none-primed (b ∷ bs) = go (eqb b 39) refl (none-primed bs)
  where
    go : (t : Bool) → eqb b 39 ≡ t → not (list_any (λ c. eqb c 39) bs) ≡ every no_prime bs
        → not (eqb b 39 || list_any (λ c. eqb c 39) bs) ≡ (no_prime (run_byte_of b) && every no_prime bs)
    go true e below = rw (e, prime-here b (eqb-true b 39 e))
    go false e below = rw (e, no-prime-here b (λ h. true≢false (sym (eq-eqb b 39 h) ∙ e))) below
