-- The copy as the loop makes it: a byte more of it, and a flag more if one is given.
use Rattle.std.specs.Prelude.{◌≡◌, refl, true, false, ℕ, suc, ◌+◌, ◌<◌, ◌≤◌, length, get_or, drop, set, replicate}
use Rattle.std.proofs.Common.{sym, ◌∙◌, arith, add-one, drop_of_length-le, drop-cons, take-suc-set}
use Rattle.std.proofs.Math.Path.{ap}
use Rattle.std.proofs.Math.Bool.{Bool}
use mathlib.Core.List.{List, [], ◌∷◌, ◌++◌}
use Rattle.std.proofs.Math.ListN.{take}
use Rattle.std.proofs.Math.Seq.{append_snoc}
use Rattle.hall_symbol.specs.Reader.{refusal, read_symbol, answer_of}
use Rattle.hall_symbol.specs.Walk.{read-long}
use Rattle.hall_symbol.specs.declared.refusal.Refusal.TheVariants.{TooLong}
use Rattle.magnetic_symbol.specs.Reversals.{after, ends, reverses, gives, copied_byte, blanked_from, flags_from, blanked, noted, noted_all, flag_slots}
use Rattle.hall_symbol.specs.declared.HallSymbol.{HallSymbol}
use Rattle.magnetic_symbol.specs.Answer.{kept_flags, magnetic_answer}
use Rattle.magnetic_symbol.specs.declared.MagneticSymbol.{MagneticSymbol}
use Rattle.magnetic_symbol.specs.declared.reversals.Mode.{Mode}
use Rattle.magnetic_symbol.specs.declared.reversals.Flags.{Flags}

-- The copy has the text's length.
pub blanked-from-length : (m : Mode) (s : List ℕ) → length (blanked_from m s) ≡ length s
unfolding blanked_from
blanked-from-length m [] = refl
blanked-from-length m (b ∷ s) = ap suc (blanked-from-length (after m b) s)

pub blanked-length : (text : List ℕ) → length (blanked text) ≡ length text
blanked-length text = blanked-from-length _ text

-- ---- one byte more
module _ (text : List ℕ) (i : ℕ) (there : i < length text) (m : Mode) where
  here : drop i text ≡ get_or text i 0 ∷ drop (i + 1) text
  here = drop-cons text i 0 there ∙ ap (λ (n : ℕ). get_or text i 0 ∷ drop n text) (sym (add-one i))

  pub copy_more : (copy : List ℕ) → i < length copy
      → take (i + 1) (set copy i (copied_byte (get_or text i 0) (reverses m (get_or text i 0) (ends (drop (i + 1) text)))))
      ++ blanked_from (after m (get_or text i 0)) (drop (i + 1) text) ≡ take i copy ++ blanked_from m (drop i text)
  unfolding blanked_from
  copy_more copy room =
      let b = copied_byte (get_or text i 0) (reverses m (get_or text i 0) (ends (drop (i + 1) text))) in
      let later = blanked_from (after m (get_or text i 0)) (drop (i + 1) text) in
      ap (λ (n : ℕ). take n (set copy i b) ++ later) (add-one i)
      ∙ ap (λ (l : List ℕ). l ++ later) (take-suc-set copy i b room)
      ∙ append_snoc (take i copy) b later
      ∙ ap (λ (l : List ℕ). take i copy ++ blanked_from m l) (sym here)

  pub flag-more : (l : Flags) (given : Bool) → given ≡ gives m (get_or text i 0) (ends (drop (i + 1) text))
      → noted_all (noted l given (reverses m (get_or text i 0) (ends (drop (i + 1) text)))) (flags_from (after m (get_or text i 0)) (drop (i + 1) text))
      ≡ noted_all l (flags_from m (drop i text))
  unfolding flags_from
  flag-more l given e = go given e ∙ ap (λ (s : List ℕ). noted_all l (flags_from m s)) (sym here)
    where
      f : Bool
      f = reverses m (get_or text i 0) (ends (drop (i + 1) text))

      later : List Bool
      later = flags_from (after m (get_or text i 0)) (drop (i + 1) text)

      go : (g : Bool) → g ≡ gives m (get_or text i 0) (ends (drop (i + 1) text))
          → noted_all (noted l g f) later ≡ noted_all l (flags_from m (get_or text i 0 ∷ drop (i + 1) text))
      go true h = rw (← h)
      go false h = rw (← h)

-- At the end of the text nothing is left to copy or to note.
pub flags-end : (m : Mode) (text : List ℕ) (i : ℕ) → length text ≤ i → flags_from m (drop i text) ≡ []
unfolding flags_from
flags-end m text i h = rw (drop_of_length-le text h)

pub copy-end : (m : Mode) (text : List ℕ) (i : ℕ) → length text ≤ i → blanked_from m (drop i text) ≡ []
unfolding blanked_from
copy-end m text i h = rw (drop_of_length-le text h)

-- Over 80 bytes the copy is refused as the text is.
pub long-read : (text : List ℕ) → 80 < length text → read_symbol (blanked text) ≡ refusal TooLong
long-read text h = read-long (blanked text) (omega (arith, blanked-length text))

pub long-answer : (text : List ℕ) (h : HallSymbol) → 80 < length text → h ≡ answer_of (read_symbol text)
    → ◌≡◌ {A = MagneticSymbol} (record { symbol = h; flags = replicate 9 false }) (magnetic_answer text)
long-answer text h l e = rw (e, read-long text l, long-read text l)

-- Of any other text the copy is read, and the flags are kept where it is a symbol.
pub short-answer : (text : List ℕ) (h : HallSymbol) (fs gs : List Bool) → h ≡ answer_of (read_symbol (blanked text)) → gs ≡ flag_slots text
    → fs ≡ kept_flags h.answer gs → ◌≡◌ {A = MagneticSymbol} (record { symbol = h; flags = fs }) (magnetic_answer text)
short-answer text h fs gs e g k = rw (k, g, e)
