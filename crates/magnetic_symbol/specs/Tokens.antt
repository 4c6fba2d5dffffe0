-- One N token and its copy, by the rule of time reversal: a token that ends with its only `'`, behind other bytes, becomes the token without it, and any
-- other stays. So nobody has to believe the copy byte by byte.
use Rattle.std.specs.Prelude.{◌≡◌, refl, Bool, true, false, not, List, [], ◌∷◌, ◌++◌, ℕ, eqb, length}
use Rattle.std.proofs.Common.{sym, ◌∙◌, ap, subst, true≢false, append_assoc, arith, eqb-true}
use Rattle.hall_symbol.specs.Bytes.{whitespace, solid, opening}
use Rattle.hall_symbol.specs.Runs.{Every, Stops}
use Rattle.magnetic_symbol.specs.TimeReversals.{prime, unprimed, Reversed, ReadAs, reversal, same, gap_of}
use Rattle.magnetic_symbol.specs.Reversals.{blanked_from, flags_from}
use Rattle.magnetic_symbol.specs.TokenCopies.{marked-copy, marked-flags, plain_copy, plain-flags, plain_end, plain-stop, last-copy, last-flag, inner-copy, inner-flag}
use Rattle.magnetic_symbol.specs.declared.reversals.Mode.TheVariants.{Between, Unmarked, Marked}

-- What the copy of a text holds in a token's place: what the token is read as, and a space for its time reversal, if it has one.
pub record TokenCopy (t after : List ℕ) : Type 0 where
  pub copy : List ℕ
  pub flag : Bool
  pub copied : ReadAs t copy flag
  pub bytes : blanked_from Between (t ++ after) ≡ copy ++ (gap_of flag ++ blanked_from Between after)
  pub flags : flags_from Between (t ++ after) ≡ flag ∷ flags_from Between after

-- ---- the first `'`
pub primed-not : {A : Type 0} → unprimed 39 ≡ true → A
unfolding prime
primed-not h = absurd (true≢false (sym h))

-- Of bytes that all pass, those in front do and those behind do.
pub every-left : (f : ℕ → Bool) (u v : List ℕ) → Every f (u ++ v) → Every f u
every-left f [] v h = tt
every-left f (b ∷ u) v h = (h.0, every-left f u v h.1)

pub every-right : (f : ℕ → Bool) (u v : List ℕ) → Every f (u ++ v) → Every f v
every-right f [] v h = h
every-right f (b ∷ u) v h = every-right f u v h.1

-- What stands behind the first `'` is determined.
first-prime : (a d v w : List ℕ) → Every unprimed a → Every unprimed d → a ++ (39 ∷ v) ≡ d ++ (39 ∷ w) → v ≡ w
first-prime [] [] v w h k e = cc
first-prime [] (c ∷ d) v w h k e = let z : 39 ≡ c = cc in primed-not (subst (λ (x : ℕ). unprimed x ≡ true) (sym z) k.0)
first-prime (b ∷ a) [] v w h k e = let z : 39 ≡ b = cc in primed-not (subst (λ (x : ℕ). unprimed x ≡ true) (sym z) h.0)
first-prime (b ∷ a) (c ∷ d) v w h k e = let z : a ++ (39 ∷ v) ≡ d ++ (39 ∷ w) = cc in first-prime a d v w h.1 k.1 z

-- Any bytes hold no `'`, or a first one.
pub data Split (t : List ℕ) : Type 0 where
  all : Every unprimed t → Split t
  at : (u v : List ℕ) → t ≡ u ++ (39 ∷ v) → Every unprimed u → Split t

pub split : (t : List ℕ) → Split t
unfolding prime
split [] = all tt
split (b ∷ t) = go (eqb b 39) refl (split t)
  where
    go : (p : Bool) → eqb b 39 ≡ p → Split t → Split (b ∷ t)
    go true e r = at [] t (ap (λ (c : ℕ). c ∷ t) (eqb-true b 39 e)) tt
    go false e (all h) = all (rw e, h)
    go false e (at u v s h) = at (b ∷ u) v (ap (λ (l : List ℕ). b ∷ l) s) (rw e, h)

-- ---- the token's first byte
start_plain : (b : ℕ) (r : List ℕ) → solid b ≡ true → opening b ≡ false → unprimed b ≡ true
    → (blanked_from Between (b ∷ r) ≡ blanked_from Unmarked (b ∷ r)) × (flags_from Between (b ∷ r) ≡ flags_from Unmarked (b ∷ r))
unfolding blanked_from flags_from
start_plain b r s o n = go (prime b) refl n
  where
    go : (p : Bool) → prime b ≡ p → not p ≡ true
        → (blanked_from Between (b ∷ r) ≡ blanked_from Unmarked (b ∷ r)) × (flags_from Between (b ∷ r) ≡ flags_from Unmarked (b ∷ r))
    go true e k = absurd (true≢false (sym k))
    go false e k = (rw (o, e), rw (o, e))

start-primed : (r : List ℕ)
    → (blanked_from Between (39 ∷ r) ≡ blanked_from Marked (39 ∷ r)) × (flags_from Between (39 ∷ r) ≡ flags_from Marked (39 ∷ r))
unfolding blanked_from flags_from prime opening whitespace
start-primed r = (refl, refl)

-- A `'` belongs to a token, and a space does not.
prime-solid : solid 39 ≡ true
unfolding solid whitespace
prime-solid = refl

space-blank : whitespace 32 ≡ true
unfolding whitespace
space-blank = refl

not-nil : (c : ℕ) (v : List ℕ) → c ∷ v ≡ [] → ⊥
not-nil c v e = let z = ap length e in absurd (omega arith)

-- ---- a token's copy
module _ (after : List ℕ) (stop : Stops solid after) where
  -- A token that starts with `'` stays.
  copy-primed : (t : List ℕ) → Every solid (39 ∷ t) → TokenCopy (39 ∷ t) after
  copy-primed t h =
      record {
        copy = 39 ∷ t;
        flag = false;
        copied = same kept;
        bytes = (start-primed (t ++ after)).0 ∙ marked-copy (39 ∷ t) after h stop;
        flags = (start-primed (t ++ after)).1 ∙ marked-flags 39 t after h.0 h.1 stop;
      }
    where
      kept : (u : List ℕ) → Reversed (39 ∷ t) u → ⊥
      kept [] r = let z = r.some in absurd (omega arith)
      kept (c ∷ u) r =
          let e = r.text in
          let z : 39 ≡ c = cc in
          primed-not (subst (λ (x : ℕ). unprimed x ≡ true) (sym z) r.only.0)

  module _ (b : ℕ) (o : opening b ≡ false) where
    -- A token without `'` stays.
    copy-plain : (t : List ℕ) → Every solid (b ∷ t) → Every unprimed (b ∷ t) → TokenCopy (b ∷ t) after
    copy-plain t h k =
        let start = start_plain b (t ++ after) h.0 o k.0 in
        record {
          copy = b ∷ t;
          flag = false;
          copied = same (λ u r. primed-not (every-right unprimed u (39 ∷ []) (subst (Every unprimed) r.text k)).0);
          bytes = start.0 ∙ plain-stop (b ∷ t) after h k stop;
          flags = start.1 ∙ plain_end b t after h k stop;
        }

    -- A token that ends with its first `'` loses it.
    copy-reversed : (u : List ℕ) → Every solid (b ∷ (u ++ (39 ∷ []))) → Every unprimed (b ∷ u) → TokenCopy (b ∷ (u ++ (39 ∷ []))) after
    copy-reversed u h k =
        let start = start_plain b ((u ++ (39 ∷ [])) ++ after) h.0 o k.0 in
        let joined = append_assoc u (39 ∷ []) after in
        let own : Every solid (b ∷ u) = (h.0, every-left solid u (39 ∷ []) h.1) in
        record {
          copy = b ∷ u;
          flag = true;
          copied = reversal (b ∷ u) (record { text = refl; some = omega arith; only = k });
          bytes = start.0 ∙ ap (λ (l : List ℕ). blanked_from Unmarked (b ∷ l)) joined ∙ plain_copy (b ∷ u) (39 ∷ after) own k
              ∙ ap (λ (l : List ℕ). b ∷ (u ++ l)) (last-copy after stop);
          flags = start.1 ∙ ap (λ (l : List ℕ). flags_from Unmarked (b ∷ l)) joined ∙ plain-flags (b ∷ u) 39 after own k prime-solid
              ∙ last-flag after stop;
        }

    -- A token whose first `'` is not its last byte stays.
    copy-inner : (u : List ℕ) (c : ℕ) (v : List ℕ) → Every solid (b ∷ (u ++ (39 ∷ c ∷ v))) → Every unprimed (b ∷ u)
        → TokenCopy (b ∷ (u ++ (39 ∷ c ∷ v))) after
    copy-inner u c v h k =
        let start = start_plain b ((u ++ (39 ∷ c ∷ v)) ++ after) h.0 o k.0 in
        let joined = append_assoc u (39 ∷ c ∷ v) after in
        let own : Every solid (b ∷ u) = (h.0, every-left solid u (39 ∷ c ∷ v) h.1) in
        let tail : Every solid (c ∷ v) = (every-right solid u (39 ∷ c ∷ v) h.1).1 in
        record {
          copy = b ∷ (u ++ (39 ∷ c ∷ v));
          flag = false;
          copied = same (λ d r. absurd (not-nil c v (first-prime (b ∷ u) d (c ∷ v) [] k r.only r.text)));
          bytes = start.0 ∙ ap (λ (l : List ℕ). blanked_from Unmarked (b ∷ l)) joined ∙ plain_copy (b ∷ u) (39 ∷ c ∷ (v ++ after)) own k
              ∙ ap (λ (l : List ℕ). b ∷ (u ++ l)) (inner-copy c v after tail stop)
              ∙ ap (λ (l : List ℕ). b ∷ l) (sym (append_assoc u (39 ∷ c ∷ v) (blanked_from Between after)));
          flags = start.1 ∙ ap (λ (l : List ℕ). flags_from Unmarked (b ∷ l)) joined
              ∙ plain-flags (b ∷ u) 39 (c ∷ (v ++ after)) own k prime-solid ∙ inner-flag c v after tail stop;
        }

  -- Every N token's copy, and its flag.
  pub token-copy : (b : ℕ) (t : List ℕ) → Every solid (b ∷ t) → opening b ≡ false → TokenCopy (b ∷ t) after
  token-copy b t h o = go (split (b ∷ t))
    where
      go : Split (b ∷ t) → TokenCopy (b ∷ t) after
      go (all k) = copy-plain b o t h k
      go (at [] v e k) = subst (λ (l : List ℕ). TokenCopy l after) (sym e) (copy-primed v (subst (Every solid) e h))
      go (at (c ∷ u) [] e k) =
          let same_byte : b ≡ c = cc in
          subst (λ (l : List ℕ). TokenCopy l after) (sym e) (copy-reversed c (rw (← same_byte) o) u (subst (Every solid) e h) k)
      go (at (c ∷ u) (d ∷ v) e k) =
          let same_byte : b ≡ c = cc in
          subst (λ (l : List ℕ). TokenCopy l after) (sym e) (copy-inner c (rw (← same_byte) o) u d v (subst (Every solid) e h) k)
