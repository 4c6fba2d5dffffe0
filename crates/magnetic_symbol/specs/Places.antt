-- Where the reader of the copy stands in the text itself: at the same places, in front of the same tokens, with as many flags as generators.
-- The idea: what the copy has from a place on is some spaces and the copy of what the text has there, so the copy's next token is what the text's is read as.
use Rattle.std.specs.Prelude.{◌≡◌, refl, ◌⊎◌, Bool, true, false, List, [], ◌∷◌, ◌++◌, ℕ, ◌+◌, length}
use Rattle.std.proofs.Common.{sym, ◌∙◌, ap, subst, inl, inr, true≢false, append_assoc, arith, length-append}
use Rattle.operation.specs.declared.Operation.{Operation}
use Rattle.centering.specs.declared.Centering.{Centering}
use Rattle.centering.specs.declared.Centering.TheVariants.{P, A, B, C, I, R, F, H}
use Rattle.hall_axes.specs.declared.Previous.{Previous}
use Rattle.hall_symbol.specs.Bytes.{whitespace, opening}
use Rattle.hall_symbol.specs.Runs.{Every, Stops, every_append, every-run}
use Rattle.hall_symbol.specs.Cut.{Cut, FirstToken, cut-blank, cut-firstword, cut-behind, cut-length}
use Rattle.hall_symbol.specs.Cut as cut
use Rattle.hall_symbol.specs.Generators.{leading}
use Rattle.hall_symbol.specs.Spelling.{lattice_spelling, Opens, Begins, lattice, rotation}
use Rattle.magnetic_symbol.specs.TimeReversals.{ReadAs, reversal, same, gap_of, inversion_flag}
use Rattle.magnetic_symbol.specs.Reversals.{blanked_from, blanked, flags_from, flags_of}
use Rattle.magnetic_symbol.specs.Tokens.{every-right}
use Rattle.magnetic_symbol.specs.Texts.{blank-same, opens-or-not, copy_of, cut-copy, cut-flags, shift-copy, text-copy, text-blank, unreversed, gap-blank, cut_later, read_length, read-cut, first-cut}
use Rattle.magnetic_symbol.specs.declared.reversals.Mode.TheVariants.{Between}

-- ---- one cut
pub cut-once : (s w t after v u behind : List ℕ) → Cut s w t after → Cut s v u behind → (length w ≡ length v) × (t ≡ u) × (after ≡ behind)
cut-once s w t after v u behind a b = (
  sym (cut-blank s w t after a) ∙ cut-blank s v u behind b,
  sym (cut-firstword s w t after a) ∙ cut-firstword s v u behind b,
  sym (cut-behind s w t after a) ∙ cut-behind s v u behind b,
)

pub blank-uncut : (s w t after : List ℕ) → Every whitespace s → Cut s w t after → ⊥
blank-uncut s w t after h c =
    absurd (omega (arith, every-run whitespace s h, cut-blank s w t after c, cut-length s w t after c, c.some))

-- No token starts with `(` and does not.
pub not-both : (t : List ℕ) → Opens t → Stops opening t → ⊥
not-both [] a b = a
not-both (b ∷ t) a c = true≢false (sym a ∙ c)

-- ---- the text's own token
-- The copy goes on with some spaces and the copy of `rest`, and its next token is t: the text's own token is a shift's, or it is read as t.
pub data OwnToken (rest gap w t after : List ℕ) : Type 0 where
  own-shift : (v : List ℕ) → Cut rest v t after → length w ≡ length gap + length v → Opens t → OwnToken rest gap w t after
  own-rotation : (v own behind : List ℕ) (flag : Bool) → Cut rest v own behind → length w ≡ length gap + length v → Stops opening own → ReadAs own t flag
      → after ≡ gap_of flag ++ blanked_from Between behind → flags_from Between rest ≡ flag ∷ flags_from Between behind → OwnToken rest gap w t after

pub own-token : (rest gap w t after : List ℕ) → Every whitespace gap → Cut (gap ++ blanked_from Between rest) w t after → OwnToken rest gap w t after
own-token rest gap w t after g c = go (cut.first-token rest)
  where
    go : FirstToken rest → OwnToken rest gap w t after
    go (cut.blank h) = absurd (blank-uncut _ w t after (every_append whitespace gap (blanked_from Between rest) g (rw (blank-same rest h) h)) c)
    go (cut.token v own behind d) = by-start (opens-or-not own d.some)
      where
        by-start : Opens own ⊎ Stops opening own → OwnToken rest gap w t after
        by-start (inl o) =
            let there : Cut (gap ++ rest) w t after = subst (λ (l : List ℕ). Cut (gap ++ l) w t after) (shift-copy rest v own behind d o) c in
            let (places, tokens, behinds) = cut-once (gap ++ rest) w t after (gap ++ v) own behind there (cut_later gap rest v own behind g d) in
            own-shift v (rw (tokens, behinds) d) (places ∙ length-append gap v) (rw tokens o)
        by-start (inr o) =
            let k = copy_of own behind d.some d.whole o d.apart in
            let bytes = cut-copy rest v own behind d ∙ ap (λ (l : List ℕ). v ++ l) k.bytes in
            let there = subst (λ (l : List ℕ). Cut (gap ++ l) w t after) bytes c in
            let new = read-cut rest v own behind k.copy _ k.flag _ d k.copied (unreversed behind) in
            let (places, tokens, behinds) = cut-once _ w t after (gap ++ v) k.copy _ there (cut_later gap _ v k.copy _ g new) in
            own-rotation v own behind k.flag d (places ∙ length-append gap v) o (rw tokens k.copied) behinds (cut-flags rest v own behind d ∙ k.flags)

-- Where only whitespace is left of the copy, only whitespace is left of the text.
pub blank-rest : (rest gap : List ℕ) → Every whitespace (gap ++ blanked_from Between rest) → Every whitespace rest
blank-rest rest gap h = go (cut.first-token rest)
  where
    copy-blank : Every whitespace (blanked_from Between rest)
    copy-blank = every-right whitespace gap (blanked_from Between rest) h

    go : FirstToken rest → Every whitespace rest
    go (cut.blank b) = b
    go (cut.token v own behind d) = by-start (opens-or-not own d.some)
      where
        by-start : Opens own ⊎ Stops opening own → Every whitespace rest
        by-start (inl o) = subst (Every whitespace) (shift-copy rest v own behind d o) copy-blank
        by-start (inr o) =
            let k = copy_of own behind d.some d.whole o d.apart in
            let bytes = cut-copy rest v own behind d ∙ ap (λ (l : List ℕ). v ++ l) k.bytes in
            let new = read-cut rest v own behind k.copy _ k.flag _ d k.copied (unreversed behind) in
            absurd (blank-uncut _ v k.copy _ (subst (Every whitespace) bytes copy-blank) new)

-- What an N token is read as starts as the token does.
pub read-stops : (own t : List ℕ) (flag : Bool) → ReadAs own t flag → Stops opening own → Stops opening t
read-stops own [] flag read h = tt
read-stops own (b ∷ t) flag (reversal _ r) h = subst (Stops opening) r.text h
read-stops own (b ∷ t) flag (same never) h = h

-- ---- where the reader stands
-- In the copy s follows place p; in the text `rest` follows, some bytes on where the copy has as many spaces. The flags so far are as many as the generators.
pub record Stands (text : List ℕ) (found : List Operation) (p : ℕ) (s : List ℕ) : Type 0 where
  pub before : List ℕ
  pub rest : List ℕ
  pub gap : List ℕ
  pub given : List Bool
  pub text-is : text ≡ before ++ rest
  pub copy_is : s ≡ gap ++ blanked_from Between rest
  pub blank : Every whitespace gap
  pub place : length before ≡ p + length gap
  pub flags : flags_of text ≡ given ++ flags_from Between rest
  pub as_many : length given ≡ length found

letter-no-minus : (inverted : Bool) (c : Centering) → length (inversion_flag (lattice_spelling inverted c)) ≡ length (leading inverted)
letter-no-minus true c = refl
letter-no-minus false P = refl
letter-no-minus false A = refl
letter-no-minus false B = refl
letter-no-minus false C = refl
letter-no-minus false I = refl
letter-no-minus false R = refl
letter-no-minus false F = refl
letter-no-minus false H = refl

module _ (text : List ℕ) where
  stands-first : (w after : List ℕ) (inverted : Bool) (c : Centering) → Cut (blanked text) w (lattice_spelling inverted c) after
      → Stands text (leading inverted) (length w + length (lattice_spelling inverted c)) after
  stands-first w after inverted c k = go (cut.first-token text)
    where
      go : FirstToken text → Stands text (leading inverted) (length w + length (lattice_spelling inverted c)) after
      go (cut.blank h) = absurd (blank-uncut _ w _ after (rw (text-blank text h).0 h) k)
      go (cut.token v own behind d) =
          let (bytes, given) = text-copy text v own behind d in
          let new = first-cut text v own behind d in
          let there = subst (λ (l : List ℕ). Cut l w (lattice_spelling inverted c) after) bytes k in
          let (places, tokens, behinds) = cut-once _ w (lattice_spelling inverted c) after v own _ there new in
          record {
            before = v ++ own;
            rest = behind;
            gap = [];
            given = inversion_flag own;
            text-is = d.text ∙ sym (append_assoc v own behind);
            copy_is = behinds;
            blank = tt;
            place = omega (arith, length-append v own, places, ap length tokens);
            flags = given;
            as_many = ap (λ (l : List ℕ). length (inversion_flag l)) (sym tokens) ∙ letter-no-minus inverted c;
          }

  -- A token further.
  stands-next : {found : List Operation} {p : ℕ} {s : List ℕ} (w t after : List ℕ) (o : Operation) → Stands text found p s → Cut s w t after → Stops opening t
      → Stands text (found ++ (o ∷ [])) (p + length w + length t) after
  stands-next {found} {p} {s} w t after o h k stops =
      go (own-token h.rest h.gap w t after h.blank (subst (λ (l : List ℕ). Cut l w t after) h.copy_is k))
    where
      go : OwnToken h.rest h.gap w t after → Stands text (found ++ (o ∷ [])) (p + length w + length t) after
      go (own-shift v d place opens) = absurd (not-both t opens stops)
      go (own-rotation v own behind flag d place start read next flags) =
          record {
            before = h.before ++ (v ++ own);
            rest = behind;
            gap = gap_of flag;
            given = h.given ++ (flag ∷ []);
            text-is = h.text-is ∙ ap (λ (l : List ℕ). h.before ++ l) (d.text ∙ sym (append_assoc v own behind))
                ∙ sym (append_assoc h.before (v ++ own) behind);
            copy_is = next;
            blank = gap-blank flag;
            place = omega (arith, length-append h.before (v ++ own), length-append v own, h.place, place, read_length own d.some d.whole t flag read);
            flags = h.flags ∙ ap (λ (l : List Bool). h.given ++ l) flags ∙ sym (append_assoc h.given (flag ∷ []) (flags_from Between behind));
            as_many = length-append h.given (flag ∷ []) ∙ ap (λ (n : ℕ). n + 1) h.as_many ∙ sym (length-append found (o ∷ []));
          }

  -- Wherever the copy begins well.
  pub begins-stands : {c : Centering} {found : List Operation} {previous : Previous} {p : ℕ} {s : List ℕ} → Begins (blanked text) c found previous p s
      → Stands text found p s
  begins-stands (lattice {w} {after} inverted c fit k) = stands-first w after inverted c k
  begins-stands (rotation {w = w} {t} {after} o f a begins k stops few says) = stands-next w t after o (begins-stands begins) k stops
