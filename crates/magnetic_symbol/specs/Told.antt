-- What the answer on a magnetic symbol's text says: which symbol with which flags, and each refusal, exactly when. A text without `'` is read as the
-- plain reader reads it.
use Rattle.std.specs.Prelude.{◌≡◌, refl, ◌⊎◌, ◌↔◌, Bool, true, false, cond, List, [], ◌∷◌, ◌++◌, ℕ, ◌-◌, ◌<◌, length, take, replicate}
use Rattle.std.proofs.Common.{sym, ◌∙◌, ap, subst, inl, inr, append-nil, arith}
use Rattle.std.proofs.lemmas.Bool.{not-true}
use Rattle.std.proofs.lemmas.List.{length-map}
use Rattle.std.proofs.Math.Seq.{take-append_seam}
use Rattle.laws.specs.Matrix.{Vector}
use Rattle.operation.specs.declared.Operation.{Operation}
use Rattle.centering.specs.declared.Centering.{Centering}
use Rattle.hall_symbol.specs.Bytes.{whitespace, opening}
use Rattle.hall_symbol.specs.Runs.{Every}
use Rattle.hall_symbol.specs.Cut.{Cut}
use Rattle.hall_symbol.specs.Generators.{shift_by, shifted}
use Rattle.hall_symbol.specs.Reader.{Reading, symbol, refusal, read_symbol, refused_answer, answer_of}
use Rattle.hall_symbol.specs.Spelling.{Opens, ShiftSpelled, Ending, plain, moved, Spells, Refuses, Says}
use Rattle.hall_symbol.specs.Agreement.{symbol-exactly, refusal-exactly, read-says}
use Rattle.hall_symbol.specs.Answers.{answer-once, answer-spells, answer-refuses, symbol-count}
use Rattle.hall_symbol.specs.declared.refusal.Refusal.{Refusal}
use Rattle.magnetic_symbol.specs.TimeReversals.{prime, unprimed, TakenOff}
use Rattle.magnetic_symbol.specs.Reversals.{after, ends, reverses, gives, blanked_from, blanked, flags_from, flags_of, flag_slots}
use Rattle.magnetic_symbol.specs.Answer.{kept_flags, magnetic_answer}
use Rattle.magnetic_symbol.specs.Texts.{taken-off-exactly, blank_none, shift-flags}
use Rattle.magnetic_symbol.specs.FlagSlots.{flags_in, AllFalse, slots-flags, slots-false}
use Rattle.magnetic_symbol.specs.Places.{OwnToken, own-shift, own-rotation, own-token, not-both, blank-rest, read-stops, Stands, begins-stands}
use Rattle.magnetic_symbol.specs.declared.MagneticSymbol.{MagneticSymbol}
use Rattle.magnetic_symbol.specs.declared.reversals.Mode.{Mode}
use Rattle.magnetic_symbol.specs.declared.reversals.Mode.TheVariants.{Before, First, Between, Unmarked, Marked, Rest}

-- ---- the rules of magnetic symbols
-- The text, its time reversals taken off, spells the letter c and the generators gs, which have the flags fs.
pub record MagneticSpells (text : List ℕ) (c : Centering) (gs : List Operation) (fs : List Bool) : Type 0 where
  pub copy : List ℕ
  pub taken : TakenOff text copy fs
  pub spells : Spells copy c gs

-- The text, its time reversals taken off, is refused. Lengths and places are the text's own.
pub record MagneticRefuses (text : List ℕ) (r : Refusal) : Type 0 where
  pub copy : List ℕ
  pub flags : List Bool
  pub taken : TakenOff text copy flags
  pub refuses : Refuses copy r

-- The answer for a symbol: the flags stand in nine slots, as the generators do.
abbrev pub magnetic_symbol : Centering → List Operation → List Bool → MagneticSymbol
magnetic_symbol c gs fs = record { symbol = answer_of (symbol c gs); flags = flags_in fs }

-- The answer for a refused text, without any flag.
abbrev pub magnetic_refusal : Refusal → MagneticSymbol
magnetic_refusal r = record { symbol = refused_answer r; flags = replicate 9 false }

-- ---- as many flags as generators
opens-shift : (t after : List ℕ) (v : Vector) → 0 < length t → ShiftSpelled (t ++ after) v → Opens t
unfolding opening
opens-shift [] after v l h = absurd (omega arith)
opens-shift (b ∷ t) after v l h = let e = h.brackets in let z : b ≡ 40 = cc in ap opening z

module _ (text : List ℕ) {found : List Operation} {p : ℕ} {s : List ℕ} (h : Stands text found p s) where
  -- Behind the last N token the text gives none.
  end-flags : (v : Vector) → Ending s v → flags_from Between h.rest ≡ []
  end-flags v (plain blank) = blank_none h.rest (blank-rest h.rest h.gap (subst (Every whitespace) h.copy_is blank))
  end-flags v (moved {w} {t} {after} _ d shift) =
      go (own-token h.rest h.gap w t after h.blank (subst (λ (l : List ℕ). Cut l w t after) h.copy_is d))
    where
      go : OwnToken h.rest h.gap w t after → flags_from Between h.rest ≡ []
      go (own-shift u k place opens) = shift-flags h.rest u t after k opens
      go (own-rotation u own behind flag k place start read next flags) =
          absurd (not-both t (opens-shift t after v d.some shift) (read-stops own t flag read start))

flags-count : (text : List ℕ) (c : Centering) (gs : List Operation) → Spells (blanked text) c gs → length (flags_of text) ≡ length gs
flags-count text c gs h =
    let st = begins-stands text h.begins in
    let whole = st.flags ∙ ap (λ (l : List Bool). st.given ++ l) (end-flags text st h.v h.ending) ∙ append-nil st.given in
    ap length whole ∙ st.as_many ∙ sym (ap length h.generators ∙ length-map h.found (shifted (shift_by h.v)))

-- So they fit into nine slots, and lose nothing there.
slots-of : (text : List ℕ) (c : Centering) (gs : List Operation) → Spells (blanked text) c gs → flag_slots text ≡ flags_in (flags_of text)
slots-of text c gs h = slots-flags (flags_of text) (omega (arith, flags-count text c gs h, symbol-count (blanked text) c gs h))

flags-once : (fs es : List Bool) → length fs ≡ length es → flags_in fs ≡ flags_in es → fs ≡ es
flags-once fs es n e =
    sym (take-append_seam fs (replicate (9 - length fs) false)) ∙ ap (λ (k : ℕ). take k (flags_in fs)) n ∙ ap (take (length es)) e
    ∙ take-append_seam es (replicate (9 - length es) false)

-- ---- each exactly when
-- A text is read as a symbol with so many flags exactly if, its time reversals taken off, it spells the symbol, and the flags are those of its generators.
pub magnetic-exactly : (text : List ℕ) (c : Centering) (gs : List Operation) (fs : List Bool)
    → ((length fs ≡ length gs) × (magnetic_answer text ≡ magnetic_symbol c gs fs)) ↔ MagneticSpells text c gs fs
magnetic-exactly text c gs fs = (there, back)
  where
    there : (length fs ≡ length gs) × (magnetic_answer text ≡ magnetic_symbol c gs fs) → MagneticSpells text c gs fs
    there (n, e) =
        let s : answer_of (read_symbol (blanked text)) ≡ answer_of (symbol c gs) = ap (λ (m : MagneticSymbol). m.symbol) e in
        let read : read_symbol (blanked text) ≡ symbol c gs = answer-once (read_symbol (blanked text)) (symbol c gs) s in
        let slots : kept_flags (answer_of (read_symbol (blanked text))).answer (flag_slots text) ≡ flags_in fs = ap (λ (m : MagneticSymbol). m.flags) e in
        let h = (answer-spells (blanked text) c gs).0 s in
        let same = flags-once fs (flags_of text) (n ∙ sym (flags-count text c gs h)) (sym (rw read at slots) ∙ slots-of text c gs h) in
        record { copy = blanked text; taken = (taken-off-exactly text (blanked text) fs).1 (refl, same); spells = h }

    back : MagneticSpells text c gs fs → (length fs ≡ length gs) × (magnetic_answer text ≡ magnetic_symbol c gs fs)
    back m =
        let (bytes, given) = (taken-off-exactly text m.copy fs).0 m.taken in
        let h : Spells (blanked text) c gs = rw bytes at m.spells in
        let read = (symbol-exactly (blanked text) c gs).1 h in
        (ap length given ∙ flags-count text c gs h, rw (read, given, slots-of text c gs h))

-- A text is refused exactly if, its time reversals taken off, it is refused so.
pub magnetic-refused : (text : List ℕ) (r : Refusal) → (magnetic_answer text ≡ magnetic_refusal r) ↔ MagneticRefuses text r
magnetic-refused text r = (there, back)
  where
    there : magnetic_answer text ≡ magnetic_refusal r → MagneticRefuses text r
    there e =
        record {
          copy = blanked text;
          flags = flags_of text;
          taken = (taken-off-exactly text (blanked text) (flags_of text)).1 (refl, refl);
          refuses = (answer-refuses (blanked text) r).0 (ap (λ (m : MagneticSymbol). m.symbol) e);
        }

    back : MagneticRefuses text r → magnetic_answer text ≡ magnetic_refusal r
    back m =
        let (bytes, given) = (taken-off-exactly text m.copy m.flags).0 m.taken in
        let read = (refusal-exactly (blanked text) r).1 (rw bytes at m.refuses) in
        rw read

-- Every text spells a symbol or is refused.
pub magnetic-says : (text : List ℕ)
    → ((c : Centering) × (gs : List Operation) × (fs : List Bool) × MagneticSpells text c gs fs) ⊎ ((r : Refusal) × MagneticRefuses text r)
magnetic-says text = go (read_symbol (blanked text)) (read-says (blanked text))
  where
    taken : TakenOff text (blanked text) (flags_of text)
    taken = (taken-off-exactly text (blanked text) (flags_of text)).1 (refl, refl)

    go : (r : Reading) → Says (blanked text) r
        → ((c : Centering) × (gs : List Operation) × (fs : List Bool) × MagneticSpells text c gs fs) ⊎ ((r : Refusal) × MagneticRefuses text r)
    go (symbol c gs) h = inl (c, gs, flags_of text, record { copy = blanked text; taken = taken; spells = h })
    go (refusal r) h = inr (r, record { copy = blanked text; flags = flags_of text; taken = taken; refuses = h })

-- ---- texts without time reversals
-- Only a `'` is a time reversal.
pub unprimed-kept : (m : Mode) (b : ℕ) (last : Bool) → prime b ≡ false → reverses m b last ≡ false
unprimed-kept Before b last h = refl
unprimed-kept First b last h = refl
unprimed-kept Between b last h = refl
unprimed-kept Unmarked b last h = rw h
unprimed-kept Marked b last h = refl
unprimed-kept Rest b last h = refl

pub unprimed-from : (m : Mode) (s : List ℕ) → Every unprimed s → blanked_from m s ≡ s
unfolding blanked_from
unprimed-from m [] h = refl
unprimed-from m (b ∷ s) h =
    rw (unprimed-kept m b (ends s) (not-true (prime b) h.0)) (ap (λ (l : List ℕ). b ∷ l) (unprimed-from (after m b) s h.1))

-- No flag of it is true,
unprimed-flags : (m : Mode) (s : List ℕ) → Every unprimed s → AllFalse (flags_from m s)
unfolding flags_from
unprimed-flags m [] h = tt
unprimed-flags m (b ∷ s) h = go (gives m b (ends s)) (unprimed-kept m b (ends s) (not-true (prime b) h.0)) (unprimed-flags (after m b) s h.1)
  where
    go : (given : Bool) → reverses m b (ends s) ≡ false → AllFalse (flags_from (after m b) s)
        → AllFalse (cond given (reverses m b (ends s) ∷ flags_from (after m b) s) (flags_from (after m b) s))
    go true e k = (e, k)
    go false e k = k

-- so that the plain reader and this one answer the same, and no flag is set.
pub unprimed-same : (text : List ℕ) → Every unprimed text
    → ◌≡◌ {A = MagneticSymbol} (magnetic_answer text) (record { symbol = answer_of (read_symbol text); flags = replicate 9 false })
unprimed-same text h = go (read_symbol text) refl
  where
    own : blanked text ≡ text
    own = unprimed-from Before text h

    go : (r : Reading) → read_symbol text ≡ r
        → ◌≡◌ {A = MagneticSymbol} (magnetic_answer text) (record { symbol = answer_of (read_symbol text); flags = replicate 9 false })
    go (symbol c gs) e = rw (own, e, slots-false (flags_of text) (unprimed-flags Before text h))
    go (refusal r) e = rw (own, e)
