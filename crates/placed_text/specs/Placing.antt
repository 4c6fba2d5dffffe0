-- Texts written into a buffer one behind the other: what the buffer holds, and where the next one goes.
use Rattle.std.specs.Prelude.{◌≡◌, refl, List, [], ◌∷◌, ◌++◌, ℕ, ◌+◌, ◌<◌, ◌≤◌, length, get_or, take, drop, set}
use Rattle.std.proofs.Common.{sym, ◌∙◌, ap, arith, add-one, add-zero, length-append, take-suc}
use Rattle.std.proofs.lemmas.List.Edits.{sets, sets-eq}
use Rattle.std.proofs.Math.Seq.{take-length}

-- The buffer with a text written over it from a place on.
unfoldable pub put : List ℕ → ℕ → List ℕ → List ℕ
put out at [] = out
put out at (b ∷ text) = put (set out at b) (at + 1) text

-- Two texts in a row.
pub put-append : (out : List ℕ) (at : ℕ) (a b : List ℕ) → put (put out at a) (at + length a) b ≡ put out at (a ++ b)
unfolding put
put-append out at [] b = ap (λ (k : ℕ). put out k b) (add-zero at)
put-append out at (c ∷ a) b =
    let e : at + length (c ∷ a) ≡ at + 1 + length a = omega arith in
    ap (λ (k : ℕ). put (put (set out at c) (at + 1) a) k b) e ∙ put-append (set out at c) (at + 1) a b

-- A run of stores.
put-sets : (out : List ℕ) (at : ℕ) (text : List ℕ) → put out at text ≡ sets out at text
unfolding put
put-sets out at [] = refl
put-sets out at (b ∷ text) = put-sets (set out at b) (at + 1) text ∙ ap (λ (k : ℕ). sets (set out at b) k text) (add-one at)

-- A text written from the start stands before what was there behind it.
pub put_front : (out text : List ℕ) → length text ≤ length out → put out 0 text ≡ text ++ drop (length text) out
put_front out text h =
    let e : 0 + length text ≡ length text = omega arith in
    put-sets out 0 text ∙ sets-eq text out 0 (omega arith) ∙ ap (λ (k : ℕ). text ++ drop k out) e

-- A text was written from a place on, and the next place is behind it.
pub record Put (before : List ℕ) (at : ℕ) (text after : List ℕ) (end : ℕ) : Type 0 where
  pub bytes : after ≡ put before at text
  pub place : end ≡ at + length text

-- Nothing written yet.
pub put-nothing : (out : List ℕ) (at : ℕ) → Put out at [] out at
unfolding put
put-nothing out at = record { bytes = refl; place = omega arith }

-- One behind the other.
pub put_then : {a b c : List ℕ} {at mid end : ℕ} {s t : List ℕ} → Put a at s b mid → Put b mid t c end → Put a at (s ++ t) c end
put_then {a} {b} {c} {at} {mid} {end} {s} {t} p q =
    record {
      bytes = q.bytes ∙ ap (λ (l : List ℕ). put l mid t) p.bytes ∙ ap (λ (k : ℕ). put (put a at s) k t) p.place ∙ put-append a at s t;
      place = omega (arith, p.place, q.place, length-append s t);
    }

-- The text by another name.
pub put-named : {a b : List ℕ} {at end : ℕ} {s t : List ℕ} → s ≡ t → Put a at s b end → Put a at t b end
put-named {a} {b} {at} {end} {s} {t} e p = rw (← e) p

-- One byte.
pub put_byte : (out : List ℕ) (at b : ℕ) → Put out at (b ∷ []) (set out at b) (at + 1)
unfolding put
put_byte out at b = record { bytes = refl; place = refl }

-- Two bytes.
pub put_two : (out : List ℕ) (at p q : ℕ) → Put out at (p ∷ q ∷ []) (set (set out at p) (at + 1) q) (at + 2)
unfolding put
put_two out at p q = record { bytes = refl; place = refl }

-- Three.
pub put_three : (out : List ℕ) (at p q r : ℕ) → Put out at (p ∷ q ∷ r ∷ []) (set (set (set out at p) (at + 1) q) (at + 2) r) (at + 3)
unfolding put
put_three out at p q r =
    let e : at + 2 ≡ at + 1 + 1 = omega arith in
    record { bytes = ap (λ (k : ℕ). set (set (set out at p) (at + 1) q) k r) e; place = refl }

-- A text written byte by byte: before the first,
pub put-start : (out : List ℕ) (at : ℕ) (text : List ℕ) → Put out at (take 0 text) out (at + 0)
unfolding put
put-start out at text = record { bytes = refl; place = refl }

-- at each,
pub put_next : (out : List ℕ) (at : ℕ) (text now : List ℕ) (i : ℕ) → i < length text → Put out at (take i text) now (at + i)
    → Put out at (take (i + 1) text) (set now (at + i) (get_or text i 0)) (at + (i + 1))
put_next out at text now i h p =
    let more : take i text ++ (get_or text i 0 ∷ []) ≡ take (i + 1) text = sym (ap (λ (k : ℕ). take k text) (add-one i) ∙ take-suc text i 0 h) in
    let end : at + i + 1 ≡ at + (i + 1) = omega arith in
    rw (← end) (put-named more (put_then p (put_byte now (at + i) (get_or text i 0))))

-- and behind the last.
pub put_whole : (out : List ℕ) (at : ℕ) (text now : List ℕ) (i : ℕ) → i ≡ length text → Put out at (take i text) now (at + i) → Put out at text now (at + i)
put_whole out at text now i e p = put-named (ap (λ (k : ℕ). take k text) e ∙ take-length text) p
