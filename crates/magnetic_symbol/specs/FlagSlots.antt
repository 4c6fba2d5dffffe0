-- Flags in nine slots: as long as there are at most nine, they stand there in order, and the slots past them are false.
use Rattle.std.specs.Prelude.{◌≡◌, refl, Bool, true, false, cond, List, [], ◌∷◌, ◌++◌, ℕ, zero, suc, ◌+◌, ◌-◌, ◌≤◌, leb, length, set, replicate}
use Rattle.std.proofs.Common.{sym, ◌∙◌, ap, append_assoc, arith, length-append}
use Rattle.std.proofs.lemmas.Bool.{lt-leb}
use Rattle.std.proofs.Math.Seq.{set-append_seam}
use Rattle.magnetic_symbol.specs.Reversals.{noted, noted_all, no_flags}
use Rattle.magnetic_symbol.specs.declared.reversals.Flags.{Flags}

-- The flags, and false past them.
abbrev pub flags_in : List Bool → List Bool
flags_in fs = fs ++ replicate (9 - length fs) false

-- So many noted, and room for n + 1 more.
filled : (xs : List Bool) (n : ℕ) → Flags
filled xs n = record { count = length xs; flags = xs ++ replicate n false }

one_more : (xs : List Bool) (f : Bool) (n : ℕ) → length xs + suc n ≡ 9 → noted (filled xs (suc n)) true f ≡ filled (xs ++ (f ∷ [])) n
unfolding filled
one_more xs f n h =
    let placed = set-append_seam xs false (replicate n false) f in
    rw (lt-leb 9 (length xs) (omega arith), length-append xs (f ∷ []), placed, append_assoc xs (f ∷ []) (replicate n false))

noted-filled : (xs fs : List Bool) (n : ℕ) → length xs + (length fs + n) ≡ 9 → noted_all (filled xs (length fs + n)) fs ≡ xs ++ (fs ++ replicate n false)
unfolding filled
noted-filled xs [] n h = let e : 0 + n ≡ n = omega arith in rw e
noted-filled xs (f ∷ fs) n h =
    let e : suc (length fs) + n ≡ suc (length fs + n) = omega arith in
    let long : length (xs ++ (f ∷ [])) + (length fs + n) ≡ 9 = omega (arith, length-append xs (f ∷ [])) in
    rw e (ap (λ (l : Flags). noted_all l fs) (one_more xs f (length fs + n) (omega arith)) ∙ noted-filled (xs ++ (f ∷ [])) fs n long
    ∙ append_assoc xs (f ∷ []) (fs ++ replicate n false))

pub slots-flags : (fs : List Bool) → length fs ≤ 9 → noted_all no_flags fs ≡ flags_in fs
unfolding filled
slots-flags fs h =
    let e : length fs + (9 - length fs) ≡ 9 = omega arith in
    ap (λ (n : ℕ). noted_all (filled [] n) fs) (sym e) ∙ noted-filled [] fs (9 - length fs) (omega arith)

-- ---- flags that are not set
abbrev pub AllFalse : List Bool → Type 0
AllFalse [] = Unit {0}
AllFalse (f ∷ fs) = (f ≡ false) × AllFalse fs

set-false : (n i : ℕ) → set (replicate n false) i false ≡ replicate n false
set-false zero i = refl
set-false (suc n) zero = refl
set-false (suc n) (suc i) = ap (λ (l : List Bool). false ∷ l) (set-false n i)

-- Noted, they leave the slots false, however many they are.
pub slots-false : (fs : List Bool) → AllFalse fs → noted_all no_flags fs ≡ replicate 9 false
slots-false fs h = go fs h 0
  where
    go : (fs : List Bool) → AllFalse fs → (k : ℕ) → noted_all (record { count = k; flags = replicate 9 false }) fs ≡ replicate 9 false
    go [] h k = refl
    go (f ∷ fs) h k = by-room (leb 9 k) (λ j. go fs h.1 j)
      where
        by-room : (full : Bool) → ((j : ℕ) → noted_all (record { count = j; flags = replicate 9 false }) fs ≡ replicate 9 false)
            → noted_all (cond full (record { count = k; flags = replicate 9 false }) (record { count = k + 1; flags = set (replicate 9 false) k f })) fs
            ≡ replicate 9 false
        by-room true later = later k
        by-room false later = rw (h.0, set-false 9 k) (later (k + 1))
