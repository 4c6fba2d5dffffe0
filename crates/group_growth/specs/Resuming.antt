-- A growth as a loop makes it, product by product: what is left to do at element i and generator j, and what each product leaves.
use Rattle.std.specs.Prelude.{◌≡◌, Bool, cond, true, List, [], ◌∷◌, ◌++◌, ltb, length, get_or, drop}
use Rattle.std.proofs.Math.Path.{refl}
use Rattle.std.proofs.Common.{◌∙◌}
use Rattle.std.proofs.Math.Option.{Option, some, none, bind}
use Prim.Native.Nat.{ℕ, zero, suc, ◌+◌, ◌-◌, ◌≤◌, ◌<◌}
use Rattle.std.proofs.Math.Numerals.{add-one}
use native.Mathlib.Omega.{arith}
use Rattle.std.proofs.Math.ListN.{length-append, get_or-append}
use Rattle.std.proofs.Math.Seq.{drop-cons, drop-length}
use borrow.Author.Tests.{lt-ltb, le-ltb}
use Rattle.laws.specs.Growth.{Growth, place, recurring, lengthened, taken_up, turns, grow, grown}

-- Where a growth starts.
abbrev pub seed : {A : Type 0} → A → Growth A
seed unit = record { found = unit ∷ []; steps = []; steady = true }

module _ {A G : Type 0} (same alike : A → A → Bool) (◌·◌ : A → G → Option A) (limit : ℕ) (unit : A) (gens : List G) where
  infixl 70 ◌·◌
  -- From element i and generator j on.
  unfoldable pub resume : ℕ → ℕ → Growth A → Option (Growth A)
  resume i j s =
      cond (ltb i (length s.found))
      (bind (turns same alike ◌·◌ limit (get_or s.found i unit) (drop j gens) s) (grow same alike ◌·◌ limit unit gens (limit - suc i) (suc i)))
      (some s)

  -- At the start all is left.
  pub resume-start : 1 ≤ limit → grown same alike ◌·◌ limit unit gens ≡ resume 0 0 (seed unit)
  unfolding grown grow resume
  resume-start positive = from limit refl
    where
      from : (n : ℕ) → limit ≡ n → grow same alike ◌·◌ limit unit gens n 0 (seed unit) ≡ resume 0 0 (seed unit)
      from zero e = absurd (omega arith)
      from (suc n) e = let left : limit - 1 ≡ n = omega arith in rw left

  module _ (s : Growth A) (i j : ℕ) where
    -- At the end nothing is.
    pub resume-end : length s.found ≤ i → resume i j s ≡ some s
    unfolding resume
    resume-end h = rw (le-ltb i (length s.found) h)

    module _ (h : i < length s.found) where
      -- Behind the last generator comes the next element.
      over : length s.found ≤ limit → (m : ℕ) → limit - suc i ≡ m → grow same alike ◌·◌ limit unit gens m (suc i) s ≡ resume (i + 1) 0 s
      unfolding resume grow
      over few zero e = rw (le-ltb (i + 1) (length s.found) (omega arith))
      over few (suc m) e = let left : limit - suc (i + 1) ≡ m = omega arith in rw (left, add-one i)

      behind-last : j ≡ length gens → resume i j s ≡ grow same alike ◌·◌ limit unit gens (limit - suc i) (suc i) s
      unfolding resume turns bind
      behind-last e = rw (e, lt-ltb i (length s.found) h, drop-length gens)

      pub resume-over : j ≡ length gens → length s.found ≤ limit → resume i j s ≡ resume (i + 1) 0 s
      resume-over e few = behind-last e ∙ over few (limit - suc i) refl

      module _ (d : G) (k : j < length gens) where
        -- A product that is not allowed leaves nothing.
        pub resume-outside : get_or s.found i unit · get_or gens j d ≡ none → resume i j s ≡ none
        unfolding resume turns bind
        resume-outside e = rw (lt-ltb i (length s.found) h, drop-cons gens j d k, e)

        module _ (p : A) (e : get_or s.found i unit · get_or gens j d ≡ some p) where
          -- The product is to be taken up.
          taking : resume i j s
              ≡ bind (bind (taken_up same alike limit p s) (turns same alike ◌·◌ limit (get_or s.found i unit) (drop (j + 1) gens)))
              (grow same alike ◌·◌ limit unit gens (limit - suc i) (suc i))
          unfolding resume turns bind
          taking = rw (lt-ltb i (length s.found) h, drop-cons gens j d k, e, add-one j)

          -- Its key is listed.
          pub resume-again : place same p s.found < length s.found → resume i j s ≡ resume i (j + 1) (recurring same alike p s)
          unfolding resume taken_up bind
          resume-again in_List = taking ∙ rw (lt-ltb (place same p s.found) (length s.found) in_List, lt-ltb i (length s.found) h)

          -- It is not, and there is no room for it.
          pub resume-full : length s.found ≤ place same p s.found → limit ≤ length s.found → resume i j s ≡ none
          unfolding taken_up bind
          resume-full new full = taking ∙ rw (le-ltb (place same p s.found) (length s.found) new, le-ltb (length s.found) limit full)

          -- It is not, and there is room.
          pub resume-new : length s.found ≤ place same p s.found → length s.found < limit → resume i j s ≡ resume i (j + 1) (lengthened same alike p s)
          unfolding resume taken_up bind
          resume-new new free =
              taking ∙
              rw (
                le-ltb (place same p s.found) (length s.found) new,
                lt-ltb (length s.found) limit free,
                get_or-append s.found (p ∷ []) unit i h,
                lt-ltb i (length (s.found ++ p ∷ [])) (simp length-append (omega arith)),
              )
