-- Runs of bytes that pass a test: the longest one that a text starts with, and how it lies in the text.
use Rattle.std.specs.Prelude.{◌≡◌, refl, Bool, true, false, cond, List, [], ◌∷◌, ◌++◌, ℕ, zero, suc, ◌+◌, ◌<◌, ◌≤◌, length, get_or, take, drop, ltb, max}
use Rattle.std.proofs.Common.{sym, ap, arith, add-one, drop_of_length-le, drop-cons, ltb-true, ltb-false}

-- How many bytes at a text's start pass the test.
unfoldable pub run : (ℕ → Bool) → List ℕ → ℕ
run f [] = 0
run f (b ∷ s) = cond (f b) (suc (run f s)) 0

-- Every byte passes.
abbrev pub Every : (ℕ → Bool) → List ℕ → Type 0
Every f [] = Unit {0}
Every f (b ∷ s) = (f b ≡ true) × Every f s

-- The text ends here, or a byte follows that does not pass.
abbrev pub Stops : (ℕ → Bool) → List ℕ → Type 0
Stops f [] = Unit {0}
Stops f (b ∷ s) = f b ≡ false

-- A text that stops at once has no run.
pub run-stop : (f : ℕ → Bool) (s : List ℕ) → Stops f s → run f s ≡ 0
unfolding run
run-stop f [] h = refl
run-stop f (b ∷ s) h = rw h

-- A run is no longer than the text.
pub run-within : (f : ℕ → Bool) (s : List ℕ) → run f s ≤ length s
unfolding run
run-within f [] = omega arith
run-within f (b ∷ s) = go (f b) refl (run-within f s)
  where
    go : (t : Bool) → f b ≡ t → run f s ≤ length s → cond t (suc (run f s)) 0 ≤ suc (length s)
    go true e h = omega arith
    go false e h = omega arith

-- The run's bytes pass, and what follows stops it.
pub run-every : (f : ℕ → Bool) (s : List ℕ) → Every f (take (run f s) s)
unfolding run
run-every f [] = tt
run-every f (b ∷ s) = go (f b) refl (run-every f s)
  where
    go : (t : Bool) → f b ≡ t → Every f (take (run f s) s) → Every f (take (cond t (suc (run f s)) 0) (b ∷ s))
    go true e h = (e, h)
    go false e h = tt

-- What follows stops it.
pub run-stops : (f : ℕ → Bool) (s : List ℕ) → Stops f (drop (run f s) s)
unfolding run
run-stops f [] = tt
run-stops f (b ∷ s) = go (f b) refl (run-stops f s)
  where
    go : (t : Bool) → f b ≡ t → Stops f (drop (run f s) s) → Stops f (drop (cond t (suc (run f s)) 0) (b ∷ s))
    go true e h = h
    go false e h = e

-- Bytes that pass, and then a stop: that is the run.
pub run-seam : (f : ℕ → Bool) (w s : List ℕ) → Every f w → Stops f s → run f (w ++ s) ≡ length w
unfolding run
run-seam f [] s h k = run-stop f s k
run-seam f (b ∷ w) s h k = rw h.0 (ap suc (run-seam f w s h.1 k))

-- A text of passing bytes is all run, and the other way round.
pub every-run : (f : ℕ → Bool) (s : List ℕ) → Every f s → run f s ≡ length s
unfolding run
every-run f [] h = refl
every-run f (b ∷ s) h = rw h.0 (ap suc (every-run f s h.1))

-- A text that is all run passes.
pub run-all : (f : ℕ → Bool) (s : List ℕ) → length s ≤ run f s → Every f s
unfolding run
run-all f [] h = tt
run-all f (b ∷ s) h = go (f b) refl h (λ k. run-all f s k)
  where
    go : (t : Bool) → f b ≡ t → suc (length s) ≤ cond t (suc (run f s)) 0 → (length s ≤ run f s → Every f s) → (f b ≡ true) × Every f s
    go true e k r = (e, r (omega arith))
    go false e k r = absurd (omega arith)

-- Where the run is shorter than the text, the byte that it ends at is the first that does not pass.
pub run-below : (f : ℕ → Bool) (s : List ℕ) (i : ℕ) → i < run f s → f (get_or s i 0) ≡ true
unfolding run
run-below f [] i h = absurd (omega arith)
run-below f (b ∷ s) i h = go (f b) refl i h (run-below f s)
  where
    go : (t : Bool) → f b ≡ t → (i : ℕ) → i < cond t (suc (run f s)) 0 → ((j : ℕ) → j < run f s → f (get_or s j 0) ≡ true) → f (get_or (b ∷ s) i 0) ≡ true
    go true e zero k r = e
    go true e (suc j) k r = r j (omega arith)
    go false e j k r = absurd (omega arith)

-- The byte at its end does not pass.
pub run_at : (f : ℕ → Bool) (s : List ℕ) → run f s < length s → f (get_or s (run f s) 0) ≡ false
unfolding run
run_at f [] h = absurd (omega arith)
run_at f (b ∷ s) h = go (f b) refl h (run_at f s)
  where
    go : (t : Bool) → f b ≡ t → cond t (suc (run f s)) 0 < suc (length s) → (run f s < length s → f (get_or s (run f s) 0) ≡ false)
        → f (get_or (b ∷ s) (cond t (suc (run f s)) 0) 0) ≡ false
    go true e k r = r (omega arith)
    go false e k r = e

-- The first byte that does not pass ends it.
pub first_run : (f : ℕ → Bool) (s : List ℕ) (p : ℕ) → p < length s → f (get_or s p 0) ≡ false → ((i : ℕ) → i < p → f (get_or s i 0) ≡ true) → run f s ≡ p
unfolding run
first_run f [] p h e k = absurd (omega arith)
first_run f (b ∷ s) zero h e k = rw e
first_run f (b ∷ s) (suc p) h e k =
    rw (k 0 (omega arith)) (ap suc (first_run f s p (omega arith) e (λ i l. k (suc i) (omega arith))))

-- Bytes that pass, and again such bytes.
pub every_append : (f : ℕ → Bool) (w s : List ℕ) → Every f w → Every f s → Every f (w ++ s)
every_append f [] s h k = k
every_append f (b ∷ w) s h k = (h.0, every_append f w s h.1 k)

-- ---- runs from a place of a text on, as a scan meets them
pub run_end : (f : ℕ → Bool) (s : List ℕ) (i : ℕ) → length s ≤ i → run f (drop i s) ≡ 0
unfolding run
run_end f s i h = rw (drop_of_length-le s h)

-- A byte that does not pass starts none.
pub run-here : (f : ℕ → Bool) (s : List ℕ) (i : ℕ) → i < length s → f (get_or s i 0) ≡ false → run f (drop i s) ≡ 0
unfolding run
run-here f s i h e = rw (drop-cons s i 0, e)

-- One that passes makes the run behind it longer by one.
pub run_on : (f : ℕ → Bool) (s : List ℕ) (i : ℕ) → i < length s → f (get_or s i 0) ≡ true → run f (drop i s) ≡ run f (drop (i + 1) s) + 1
unfolding run
run_on f s i h e = rw (drop-cons s i 0, e, add-one i) (sym (add-one _))

-- A scan that meets no byte to stop at ends at the text's end, or where it began, if that is further on.
pub scan_end : (f : ℕ → Bool) (s : List ℕ) (p i : ℕ) → length s ≤ i → (p ≤ length s → i ≤ length s) → p + run f (drop p s) ≡ i + run f (drop i s)
    → max p (length s) ≡ p + run f (drop p s)
scan_end f s p i h k e = go (ltb (length s) p) refl
  where
    go : (t : Bool) → ltb (length s) p ≡ t → max p (length s) ≡ p + run f (drop p s)
    go true behind =
        let less = ltb-true (length s) p behind in
        let none = run_end f s p (omega arith) in
        omega arith
    go false within =
        let less : p ≤ length s = ltb-false (length s) p within in
        let ends = k less in
        let none = run_end f s i h in
        omega arith
