-- Refusals of a magnetic symbol in the words of its own text: 8 exactly at the first N token at fault that spells parts and has a `'` with a byte behind it,
-- and 1 to 4 exactly as in a plain symbol.
-- The idea: a token that is read without its time reversal has no `'` left, and one that spells parts starts with none.
use Rattle.std.specs.Prelude.{◌≡◌, refl, ◌↔◌, Bool, true, false, cond, ◌&&◌, ℕ, zero, suc, ◌+◌, ◌<◌, length, get_or}
use Rattle.std.proofs.Common.{sym, ◌∙◌, ap, subst, arith, eqb-true, length-append}
use mathlib.Core.List.Memᴰ.{head as here}
use mathlib.Core.List.Memᴰ.{tail as there}
use mathlib.Core.List.{List, [], ◌∷◌, ◌++◌, append_assoc, Memᴰ as Mem}
use Rattle.hall_token.specs.Answers.{HasPrime, IsPrimed}
use Rattle.hall_token.specs.Misspelt.{Spelling}
use Rattle.hall_token.specs.Spelling.{sign_bytes, fold_byte, mark_bytes, letter_bytes}
use Rattle.hall_axes.specs.declared.Fold.{Fold}
use Rattle.hall_axes.specs.declared.Fold.TheVariants.{One, Two, Three, Four, Six}
use Rattle.hall_axes.specs.declared.Previous.{Previous}
use Rattle.hall_token.specs.declared.refusal.Refusal.TheVariants.{Primed}
use Rattle.hall_symbol.specs.Bytes.{whitespace, solid, allowed, opening}
use Rattle.hall_symbol.specs.Runs.{Every, Stops}
use Rattle.hall_symbol.specs.Cut.{Cut, FirstToken}
use Rattle.hall_symbol.specs.Cut as cut
use Rattle.hall_symbol.specs.Spelling.{Fit, FirstForbidden, LatticeWrong, Next, TokenRefused}
use Rattle.hall_symbol.specs.Told.{Tells, one-exactly, two-exactly, three-exactly, four-exactly, eight-exactly}
use Rattle.magnetic_symbol.specs.TimeReversals.{prime, unprimed, Reversed, ReadAs, reversal, same, TakenOff}
use Rattle.magnetic_symbol.specs.Reversals.{after, ends, reverses, copied_byte, blanked_from, blanked, flags_of}
use Rattle.magnetic_symbol.specs.Answer.{magnetic_answer}
use Rattle.magnetic_symbol.specs.Copying.{blanked-length}
use Rattle.magnetic_symbol.specs.Tokens.{primed-not, every-right, Split, all, at, split}
use Rattle.magnetic_symbol.specs.Texts.{text-blank, text-copy, first-cut, taken-off-exactly}
use Rattle.magnetic_symbol.specs.Places.{OwnToken, own-shift, own-rotation, own-token, not-both, cut-once, blank-uncut, Stands, begins-stands}
use Rattle.magnetic_symbol.specs.declared.reversals.Mode.{Mode}
use Rattle.magnetic_symbol.specs.declared.reversals.Mode.TheVariants.{Before, First, Between, Unmarked, Marked, Rest}

-- ---- the rule
-- Some `'` of the token is not its last byte. If there are two, that holds of the first.
abbrev pub PrimeInside : List ℕ → Type 0
PrimeInside t = (u : List ℕ) × (b : ℕ) × (v : List ℕ) × (t ≡ u ++ (39 ∷ b ∷ v))

-- The text's token at a place is t.
pub record OwnAt (text : List ℕ) (place : ℕ) (t : List ℕ) : Type 0 where
  pub before : List ℕ
  pub behind : List ℕ
  pub stands : text ≡ before ++ (t ++ behind)
  pub place_is : length before ≡ place
  pub whole : Every solid t
  pub apart : Stops solid behind

-- 8: without time reversals the text begins well, and its next token, at the place, is an N token and not the ninth. The token stands so in the text; it
-- spells parts with a `'` in its run, and some `'` of it is not its last byte.
pub record WrongPrime (text : List ℕ) (place : ℕ) : Type 0 where
  pub copy : List ℕ
  pub flags : List Bool
  pub taken : TakenOff text copy flags
  pub previous : Previous
  pub t : List ℕ
  pub after : List ℕ
  pub next : Next copy previous place t after
  pub rotation : Stops opening t
  pub few : previous.count < 8
  pub own : OwnAt text place t
  pub primed : IsPrimed t
  pub inside : PrimeInside t

-- ---- a `'` in a token that spells parts
fold-unprimed : (f : Fold) → unprimed (fold_byte f) ≡ true
unfolding prime
fold-unprimed One = refl
fold-unprimed Two = refl
fold-unprimed Three = refl
fold-unprimed Four = refl
fold-unprimed Six = refl

member-unprimed : (l : List ℕ) → Every unprimed l → Mem 39 l → ⊥
member-unprimed l h (here e) = primed-not (subst (λ (b : ℕ). unprimed b ≡ true) (sym e) h.0)
member-unprimed l h (there m) = member-unprimed _ h.1 m

module _ (t : List ℕ) (s : Spelling t) where
  -- A token without any has none in its run.
  primed-run : Every unprimed t → Every unprimed s.run
  primed-run h =
      let whole = subst (Every unprimed) s.spells.text h in
      every-right unprimed (letter_bytes s.letter) s.run
      (every-right unprimed (mark_bytes s.mark) _ (every-right unprimed (sign_bytes s.negative) _ whole).1)

  -- A token that spells parts is no lone `'`.
  not-lone : t ≡ 39 ∷ [] → ⊥
  not-lone e = go s.negative s.fold _ (sym e ∙ s.spells.text)
    where
      go : (n : Bool) (f : Fold) (l : List ℕ) → 39 ∷ [] ≡ sign_bytes n ++ (fold_byte f ∷ l) → ⊥
      go true f l k = let z : ◌≡◌ {A = ℕ} 39 45 = cc in absurd (omega arith)
      go false f l k = let z : 39 ≡ fold_byte f = cc in primed-not (subst (λ (b : ℕ). unprimed b ≡ true) (sym z) (fold-unprimed f))

  -- If it has one there and is not read without it, some `'` is not its last byte.
  primed-inside : HasPrime s → ((u : List ℕ) → Reversed t u → ⊥) → PrimeInside t
  primed-inside m never = go (split t)
    where
      go : Split t → PrimeInside t
      go (all h) = absurd (member-unprimed s.run (primed-run h) m)
      go (at [] [] e h) = absurd (not-lone e)
      go (at (c ∷ u) [] e h) = absurd (never (c ∷ u) (record { text = e; some = omega arith; only = h }))
      go (at u (b ∷ v) e h) = (u, b, v, e)

-- ---- 8
module _ (text : List ℕ) (k : ℕ) where
  eight-there : TokenRefused (blanked text) k Primed → WrongPrime text k
  eight-there h =
      let there = subst (λ (l : List ℕ). Cut l h.next.w h.t h.after) st.copy_is h.next.cut in
      go (own-token st.rest st.gap h.next.w h.t h.after st.blank there)
    where
      st : Stands text h.next.found h.next.p h.next.s
      st = begins-stands text h.next.begins

      here-is : k ≡ h.start
      here-is = omega (arith, h.stands, h.says.0)

      spelled : Spelling h.t
      spelled = h.says.1.0

      primed : HasPrime spelled
      primed = h.says.1.1

      told : (v own behind : List ℕ) → Cut st.rest v own behind → length h.next.w ≡ length st.gap + length v → (flag : Bool)
          → ReadAs own h.t flag → WrongPrime text k
      told v own behind d place flag (reversal _ r) = absurd (member-unprimed spelled.run (primed-run h.t spelled r.only) primed)
      told v own behind d place flag (same never) =
          record {
            copy = blanked text;
            flags = flags_of text;
            taken = (taken-off-exactly text (blanked text) (flags_of text)).1 (refl, refl);
            previous = h.previous;
            t = h.t;
            after = h.after;
            next = rw here-is h.next;
            rotation = h.rotation;
            few = h.few;
            own = record {
              before = st.before ++ v;
              behind = behind;
              stands = st.text-is ∙ ap (λ (l : List ℕ). st.before ++ l) d.text ∙ sym (append_assoc st.before v (h.t ++ behind));
              place_is = omega (arith, length-append st.before v, st.place, place, here-is, h.next.stands);
              whole = d.whole;
              apart = d.apart;
            };
            primed = h.says.1;
            inside = primed-inside h.t spelled primed never;
          }

      go : OwnToken st.rest st.gap h.next.w h.t h.after → WrongPrime text k
      go (own-shift v d place opens) = absurd (not-both h.t opens h.rotation)
      go (own-rotation v own behind flag d place start read next flags) = told v own behind d place flag read

  eight-back : WrongPrime text k → TokenRefused (blanked text) k Primed
  eight-back m =
      let (bytes, given) = (taken-off-exactly text m.copy m.flags).0 m.taken in
      record {
        previous = m.previous;
        start = k;
        offset = 0;
        t = m.t;
        after = m.after;
        next = rw bytes at m.next;
        stands = omega arith;
        rotation = m.rotation;
        few = m.few;
        says = (refl, m.primed);
      }

  -- 8: more than one `'`, or one that is not last, at the token.
  pub magnetic-eight : Tells (magnetic_answer text).symbol 8 k ↔ WrongPrime text k
  magnetic-eight = (
    (λ e. eight-there ((eight-exactly (blanked text) k).0 e)),
    λ m. (eight-exactly (blanked text) k).1 (eight-back m),
  )

-- ---- 1 to 4
prime-allowed : (b : ℕ) → prime b ≡ true → allowed 32 ≡ allowed b
unfolding prime allowed
prime-allowed b e = sym (ap allowed (eqb-true b 39 e))

-- A space may stand where a `'` may.
copied-allowed : (m : Mode) (b : ℕ) (last : Bool) → allowed (copied_byte b (reverses m b last)) ≡ allowed b
copied-allowed Before b last = refl
copied-allowed First b last = refl
copied-allowed Between b last = refl
copied-allowed Unmarked b last = go (prime b) last refl
  where
    go : (p l : Bool) → prime b ≡ p → allowed (cond (p && l) 32 b) ≡ allowed b
    go true true e = prime-allowed b e
    go true false e = refl
    go false l e = refl
copied-allowed Marked b last = refl
copied-allowed Rest b last = refl

same_from : (m : Mode) (s : List ℕ) (i : ℕ) → allowed (get_or (blanked_from m s) i 0) ≡ allowed (get_or s i 0)
unfolding blanked_from
same_from m [] i = refl
same_from m (b ∷ s) zero = copied-allowed m b (ends s)
same_from m (b ∷ s) (suc i) = same_from (after m b) s i

every-from : (m : Mode) (s : List ℕ) → Every allowed s ↔ Every allowed (blanked_from m s)
unfolding blanked_from
every-from m [] = ((λ h. h), λ h. h)
every-from m (b ∷ s) =
    let (later, earlier) = every-from (after m b) s in (
      (λ h. (copied-allowed m b (ends s) ∙ h.0, later h.1)),
      λ h. (sym (copied-allowed m b (ends s)) ∙ h.0, earlier h.1),
    )

module _ (text : List ℕ) where
  same-fit : Fit text ↔ Fit (blanked text)
  same-fit = (
    (λ h. (rw (blanked-length text) h.0, (every-from Before text).0 h.1)),
    λ h. (rw (blanked-length text) at h.0, (every-from Before text).1 h.1),
  )

  -- 1: over 80 bytes, at 80.
  pub magnetic-one : (k : ℕ) → Tells (magnetic_answer text).symbol 1 k ↔ ((80 < length text) × (k ≡ 80))
  magnetic-one k = let e = one-exactly (blanked text) k in rw (← blanked-length text) e

  -- 2: a byte not 9 to 13 or 32 to 126, at the first such.
  pub magnetic-two : (k : ℕ) → Tells (magnetic_answer text).symbol 2 k ↔ FirstForbidden text k
  magnetic-two k = (
    (λ e. moved (λ i. same_from Before text i) (sym (blanked-length text)) ((two-exactly (blanked text) k).0 e)),
    λ h. (two-exactly (blanked text) k).1 (moved (λ i. sym (same_from Before text i)) (blanked-length text) h),
  )
    where
      moved : {a b : List ℕ} → ((i : ℕ) → allowed (get_or a i 0) ≡ allowed (get_or b i 0)) → length b ≡ length a → FirstForbidden a k → FirstForbidden b k
      moved {a} {b} same_byte long h =
          record {
            short = rw long h.short;
            within = rw long h.within;
            forbidden = sym (same_byte k) ∙ h.forbidden;
            first = λ i l. sym (same_byte i) ∙ h.first i l;
          }

  -- 3: no token, at 0.
  pub magnetic-three : (k : ℕ) → Tells (magnetic_answer text).symbol 3 k ↔ ((Fit text × Every whitespace text) × (k ≡ 0))
  magnetic-three k = (
    (λ e. let ((fit, blank), place) = (three-exactly (blanked text) k).0 e in ((same-fit.1 fit, blank-text blank), place)),
    λ ((fit, blank), place). (three-exactly (blanked text) k).1 ((same-fit.0 fit, rw (text-blank text blank).0 blank), place),
  )
    where
      blank-text : Every whitespace (blanked text) → Every whitespace text
      blank-text h = go (cut.first-token text)
        where
          go : FirstToken text → Every whitespace text
          go (cut.blank b) = b
          go (cut.token v own behind d) =
              absurd (blank-uncut _ v own _ (subst (Every whitespace) (text-copy text v own behind d).0 h) (first-cut text v own behind d))

  -- 4: the first token wrong, at the token.
  pub magnetic-four : (k : ℕ) → Tells (magnetic_answer text).symbol 4 k ↔ LatticeWrong text k
  magnetic-four k = (
    (λ e. there-four ((four-exactly (blanked text) k).0 e)),
    λ h. (four-exactly (blanked text) k).1 (back-four h),
  )
    where
      there-four : LatticeWrong (blanked text) k → LatticeWrong text k
      there-four h = go (cut.first-token text)
        where
          go : FirstToken text → LatticeWrong text k
          go (cut.blank b) = absurd (blank-uncut _ h.w h.t h.after (rw (text-blank text b).0 b) h.cut)
          go (cut.token v own behind d) =
              let bytes = (text-copy text v own behind d).0 in
              let there = subst (λ (l : List ℕ). Cut l h.w h.t h.after) bytes h.cut in
              let (places, tokens, behinds) = cut-once _ h.w h.t h.after v own _ there (first-cut text v own behind d) in
              record {
                w = v;
                t = own;
                after = behind;
                fit = same-fit.1 h.fit;
                cut = d;
                stands = h.stands ∙ places;
                wrong = λ inverted c e. h.wrong inverted c (tokens ∙ e);
              }

      back-four : LatticeWrong text k → LatticeWrong (blanked text) k
      back-four h =
          record {
            w = h.w;
            t = h.t;
            after = blanked_from Between h.after;
            fit = same-fit.0 h.fit;
            cut = rw (text-copy text h.w h.t h.after h.cut).0 (first-cut text h.w h.t h.after h.cut);
            stands = h.stands;
            wrong = h.wrong;
          }
