-- One token's bytes and its copy: a token without a time reversal stays, and one with it loses its last byte; and the flag that it gives.
use Rattle.std.specs.Prelude.{◌≡◌, refl, Bool, true, false, cond, List, [], ◌∷◌, ◌++◌, ℕ, eqb}
use Rattle.std.proofs.Common.{sym, ◌∙◌, ap, subst, true≢false, eqb-true}
use Rattle.std.proofs.Math.Bool.{and-false}
use Rattle.std.proofs.lemmas.Bool.{not-true, not-false}
use Rattle.hall_symbol.specs.Bytes.{whitespace, solid, opening}
use Rattle.hall_symbol.specs.Runs.{Every, Stops}
use Rattle.hall_symbol.specs.Cut.{solid-not-whitespace}
use Rattle.magnetic_symbol.specs.TimeReversals.{prime, unprimed}
use Rattle.magnetic_symbol.specs.Reversals.{after, ends, reverses, gives, copied_byte, blanked_from, flags_from}
use Rattle.magnetic_symbol.specs.declared.reversals.Mode.{Mode}
use Rattle.magnetic_symbol.specs.declared.reversals.Mode.TheVariants.{Between, Unmarked, Marked, Rest}

pub not-solid-whitespace : (b : ℕ) → solid b ≡ false → whitespace b ≡ true
unfolding solid
not-solid-whitespace b h = not-false (whitespace b) h

-- Whitespace is no `'`.
whitespace-unprimed : (b : ℕ) → whitespace b ≡ true → prime b ≡ false
unfolding prime whitespace
whitespace-unprimed b h = go (eqb b 39) refl
  where
    go : (t : Bool) → eqb b 39 ≡ t → t ≡ false
    go true e = let z : whitespace 39 ≡ true = subst (λ (x : ℕ). whitespace x ≡ true) (eqb-true b 39 e) h in absurd (true≢false (sym z))
    go false e = refl

-- Behind a token no token goes on.
ends-stop : (s : List ℕ) → Stops solid s → ends s ≡ true
ends-stop [] h = refl
ends-stop (b ∷ s) h = not-solid-whitespace b h

-- ---- one byte
copy_step : (m : Mode) (b : ℕ) (s : List ℕ) → blanked_from m (b ∷ s) ≡ copied_byte b (reverses m b (ends s)) ∷ blanked_from (after m b) s
unfolding blanked_from
copy_step m b s = refl

flags-step : (m : Mode) (b : ℕ) (s : List ℕ)
    → flags_from m (b ∷ s) ≡ cond (gives m b (ends s)) (reverses m b (ends s) ∷ flags_from (after m b) s) (flags_from (after m b) s)
unfolding flags_from
flags-step m b s = refl

prime-not-blank : whitespace 39 ≡ false
unfolding whitespace
prime-not-blank = refl

-- ---- whitespace
pub blank-copy : (w s : List ℕ) → Every whitespace w → blanked_from Between (w ++ s) ≡ w ++ blanked_from Between s
unfolding blanked_from
blank-copy [] s h = refl
blank-copy (b ∷ w) s h = rw h.0 (ap (λ (l : List ℕ). b ∷ l) (blank-copy w s h.1))

pub blank-flags : (w s : List ℕ) → Every whitespace w → flags_from Between (w ++ s) ≡ flags_from Between s
unfolding flags_from
blank-flags [] s h = refl
blank-flags (b ∷ w) s h = rw (h.0, and-false (ends (w ++ s))) (blank-flags w s h.1)

-- ---- from a token that starts with `(` on
rest-copy : (s : List ℕ) → blanked_from Rest s ≡ s
unfolding blanked_from
rest-copy [] = refl
rest-copy (b ∷ s) = ap (λ (l : List ℕ). b ∷ l) (rest-copy s)

rest-flags : (s : List ℕ) → flags_from Rest s ≡ []
unfolding flags_from
rest-flags [] = refl
rest-flags (b ∷ s) = rw (and-false (ends s)) (rest-flags s)

pub open-copy : (b : ℕ) (s : List ℕ) → solid b ≡ true → opening b ≡ true → blanked_from Between (b ∷ s) ≡ b ∷ s
unfolding blanked_from
open-copy b s h k = rw (solid-not-whitespace b h, k) (ap (λ (l : List ℕ). b ∷ l) (rest-copy s))

pub open-flags : (b : ℕ) (s : List ℕ) → solid b ≡ true → opening b ≡ true → flags_from Between (b ∷ s) ≡ []
unfolding flags_from
open-flags b s h k = rw (solid-not-whitespace b h, k, and-false (ends s)) (rest-flags s)

-- ---- behind a token
unmarked-stop : (s : List ℕ) → Stops solid s → (blanked_from Unmarked s ≡ blanked_from Between s) × (flags_from Unmarked s ≡ flags_from Between s)
unfolding blanked_from flags_from
unmarked-stop [] h = (refl, refl)
unmarked-stop (b ∷ s) h =
    let w = not-solid-whitespace b h in
    let u = whitespace-unprimed b w in
    (rw (w, u), rw (w, and-false (ends s)))

marked-stop : (s : List ℕ) → Stops solid s → (blanked_from Marked s ≡ blanked_from Between s) × (flags_from Marked s ≡ flags_from Between s)
unfolding blanked_from flags_from
marked-stop [] h = (refl, refl)
marked-stop (b ∷ s) h = let w = not-solid-whitespace b h in (rw w, rw (w, and-false (ends s)))

-- ---- behind a `'`
pub marked-copy : (t after : List ℕ) → Every solid t → Stops solid after → blanked_from Marked (t ++ after) ≡ t ++ blanked_from Between after
unfolding blanked_from
marked-copy [] after h k = (marked-stop after k).0
marked-copy (b ∷ t) after h k = rw (solid-not-whitespace b h.0) (ap (λ (l : List ℕ). b ∷ l) (marked-copy t after h.1 k))

pub marked-flags : (b : ℕ) (t after : List ℕ) → solid b ≡ true → Every solid t → Stops solid after
    → flags_from Marked (b ∷ (t ++ after)) ≡ false ∷ flags_from Between after
marked-flags b [] after s h k =
    flags-step Marked b after
    ∙ rw (solid-not-whitespace b s, ends-stop after k) (ap (λ (l : List Bool). false ∷ l) (marked-stop after k).1)
marked-flags b (c ∷ t) after s h k =
    flags-step Marked b (c ∷ (t ++ after))
    ∙ rw (solid-not-whitespace b s, solid-not-whitespace c h.0) (marked-flags c t after h.0 h.1 k)

-- ---- before a `'`
pub plain_copy : (u r : List ℕ) → Every solid u → Every unprimed u → blanked_from Unmarked (u ++ r) ≡ u ++ blanked_from Unmarked r
unfolding blanked_from
plain_copy [] r h k = refl
plain_copy (b ∷ u) r h k =
    let n = not-true (prime b) k.0 in
    rw (solid-not-whitespace b h.0, n) (ap (λ (l : List ℕ). b ∷ l) (plain_copy u r h.1 k.1))

pub plain-flags : (u : List ℕ) (c : ℕ) (r : List ℕ) → Every solid u → Every unprimed u → solid c ≡ true
    → flags_from Unmarked (u ++ (c ∷ r)) ≡ flags_from Unmarked (c ∷ r)
plain-flags [] c r h k s = refl
plain-flags (b ∷ []) c r h k s =
    let n = not-true (prime b) k.0 in
    flags-step Unmarked b (c ∷ r) ∙ rw (solid-not-whitespace b h.0, n, solid-not-whitespace c s)
plain-flags (b ∷ d ∷ u) c r h k s =
    let n = not-true (prime b) k.0 in
    flags-step Unmarked b (d ∷ (u ++ (c ∷ r)))
    ∙ rw (solid-not-whitespace b h.0, n, solid-not-whitespace d h.1.0) (plain-flags (d ∷ u) c r h.1 k.1 s)

-- A token without `'` to its end.
pub plain_end : (b : ℕ) (t after : List ℕ) → Every solid (b ∷ t) → Every unprimed (b ∷ t) → Stops solid after
    → flags_from Unmarked (b ∷ (t ++ after)) ≡ false ∷ flags_from Between after
plain_end b [] after h k s =
    let n = not-true (prime b) k.0 in
    flags-step Unmarked b after ∙ rw (solid-not-whitespace b h.0, n, ends-stop after s) (ap (λ (l : List Bool). false ∷ l) (unmarked-stop after s).1)
plain_end b (c ∷ t) after h k s =
    let n = not-true (prime b) k.0 in
    flags-step Unmarked b (c ∷ (t ++ after))
    ∙ rw (solid-not-whitespace b h.0, n, solid-not-whitespace c h.1.0) (plain_end c t after h.1 k.1 s)

pub plain-stop : (t after : List ℕ) → Every solid t → Every unprimed t → Stops solid after
    → blanked_from Unmarked (t ++ after) ≡ t ++ blanked_from Between after
plain-stop t after h k s = plain_copy t after h k ∙ ap (λ (l : List ℕ). t ++ l) (unmarked-stop after s).0

-- ---- the `'`
pub last-copy : (after : List ℕ) → Stops solid after → blanked_from Unmarked (39 ∷ after) ≡ 32 ∷ blanked_from Between after
unfolding blanked_from prime whitespace
last-copy after s = rw (ends-stop after s) (ap (λ (l : List ℕ). 32 ∷ l) (marked-stop after s).0)

pub last-flag : (after : List ℕ) → Stops solid after → flags_from Unmarked (39 ∷ after) ≡ true ∷ flags_from Between after
unfolding flags_from prime whitespace
last-flag after s = rw (ends-stop after s) (ap (λ (l : List Bool). true ∷ l) (marked-stop after s).1)

-- A `'` with a byte behind it in its token.
prime-inside : (c : ℕ) (r : List ℕ) → whitespace c ≡ false → blanked_from Unmarked (39 ∷ c ∷ r) ≡ 39 ∷ blanked_from Marked (c ∷ r)
unfolding prime
prime-inside c r e = copy_step Unmarked 39 (c ∷ r) ∙ rw (e, prime-not-blank)

flag-inside : (c : ℕ) (r : List ℕ) → whitespace c ≡ false → flags_from Unmarked (39 ∷ c ∷ r) ≡ flags_from Marked (c ∷ r)
unfolding prime
flag-inside c r e = flags-step Unmarked 39 (c ∷ r) ∙ rw (e, prime-not-blank)

pub inner-copy : (c : ℕ) (v after : List ℕ) → Every solid (c ∷ v) → Stops solid after
    → blanked_from Unmarked (39 ∷ c ∷ (v ++ after)) ≡ 39 ∷ c ∷ (v ++ blanked_from Between after)
inner-copy c v after h s =
    prime-inside c (v ++ after) (solid-not-whitespace c h.0) ∙ ap (λ (l : List ℕ). 39 ∷ l) (marked-copy (c ∷ v) after h s)

pub inner-flag : (c : ℕ) (v after : List ℕ) → Every solid (c ∷ v) → Stops solid after
    → flags_from Unmarked (39 ∷ c ∷ (v ++ after)) ≡ false ∷ flags_from Between after
inner-flag c v after h s = flag-inside c (v ++ after) (solid-not-whitespace c h.0) ∙ marked-flags c v after h.0 h.1 s
