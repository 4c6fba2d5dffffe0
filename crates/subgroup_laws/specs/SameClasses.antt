-- The Rust's representatives of the classes are ours. It goes through the subgroups in list order; one remains when its turn comes exactly if no
-- conjugate of it had its turn before, and that is: if no conjugate of it stands before it in the list.
use Rattle.std.specs.Prelude.{◌≡◌, ◌↔◌, Bool, cond, ℕ, ◌^◌, ◌<◌}
use Rattle.std.proofs.Math.Path.{refl, sym}
use Rattle.std.proofs.Common.{ap, ◌∙◌, subst, inl, inr, true≢false}
use Rattle.std.proofs.Math.Bool.{true, false, not}
use mathlib.Core.List.Memᴰ.{append_cases}
use mathlib.Core.List.Memᴰ.{append_left as mem-left}
use mathlib.Core.List.Memᴰ.{append_right as mem-right}
use mathlib.Core.List.Memᴰ.{cases_cons as cases}
use mathlib.Core.List.Memᴰ.{cast as mem-cast}
use mathlib.Core.List.Memᴰ.{head as here}
use mathlib.Core.List.Memᴰ.{map as mem-map}
use mathlib.Core.List.Memᴰ.{not-nil}
use mathlib.Core.List.Memᴰ.{tail as there}
use mathlib.Core.List.{List, [], ◌∷◌, ◌++◌, map, append_assoc, Memᴰ as Mem}
use Rattle.std.proofs.lemmas.Bool.{not-true}
use Rattle.laws.specs.Distinct.{has}
use Rattle.laws.specs.ListOrder.{Precedes, precedes-irreflexive, precedes-transitive, earlier, earlier-precedes, one_list}
use Rattle.laws.specs.Sets.{members}
use Rattle.laws.specs.Sorted.{Sorted, head_first, append-sorted-right, append-sorted-across, keep, kept-member, member-kept, sorted-keep}
use Rattle.laws.specs.Truth.{not-passing}
use Rattle.subgroup_laws.specs.Bounded.{every-fails}
use Rattle.subgroup_laws.specs.Conjugation.{inverse-below, conjugate-subgroup, conjugate-set-back, conjugate-set-twice}
use Rattle.subgroup_laws.specs.Groups.{Group, inverse_of}
use Rattle.subgroup_laws.specs.ListedSubgroups.{only-subgroups, subgroup-listed, subgroups-sorted, representatives, representatives-sorted}
use Rattle.subgroup_laws.specs.Lists.{is_first, first_passes, passes-first, subgroups_of, representatives_of}
use Rattle.subgroup_laws.specs.RustProcedures.{same_list, keys, witnesses, representatives_among}
use Rattle.subgroup_laws.specs.SameConjugates.{witnessed-conjugates}
use Rattle.subgroup_laws.specs.SameSubgroups.{had, has-it}
use Rattle.subgroup_laws.specs.Subsets.{Subgroup, conjugate_of}

module _ (n : ℕ) (◌·◌ : ℕ → ℕ → ℕ) (e : ℕ) (G : Group n ◌·◌ e) where
  infixl 70 ◌·◌
  -- a conjugate is conjugated back
  conjugated-back : (s r g : ℕ) → s < 2 ^ n → g < n → conjugate_of n ◌·◌ e s g ≡ r → conjugate_of n ◌·◌ e r (inverse_of n ◌·◌ e g) ≡ s
  conjugated-back s r g small l q = ap (λ (z : ℕ). conjugate_of n ◌·◌ e z (inverse_of n ◌·◌ e g)) (sym q) ∙ conjugate-set-back n ◌·◌ e G s g small l

  -- no conjugate of s had its turn
  abbrev Untouched : List ℕ → ℕ → Type 0
  Untouched front s = (g : ℕ) → g < n → Mem (conjugate_of n ◌·◌ e s g) front → ⊥

  -- front had its turn, then comes r
  module _ (front : List ℕ) (r : ℕ) (back : List ℕ) (split : subgroups_of n ◌·◌ e ≡ front ++ r ∷ back) where
    -- r is a subgroup
    turn-subgroup : Subgroup n ◌·◌ e r
    turn-subgroup = only-subgroups n ◌·◌ e G r (rw split (mem-right front (here refl)))

    -- the whole is in list order
    turn-sorted : Sorted Precedes (front ++ r ∷ back)
    turn-sorted = rw split at (subgroups-sorted n ◌·◌ e G)

    -- where no conjugate of r stands before it, none had its turn
    first-untouched : is_first n ◌·◌ e r ≡ true → Untouched front r
    first-untouched p g l m = first_passes n ◌·◌ e G r p g l (append-sorted-across Precedes front (r ∷ back) turn-sorted _ r m (here refl))

    -- a subgroup that stands before r had its turn
    before-front : (s : ℕ) → Subgroup n ◌·◌ e s → Precedes s r → Mem s front
    before-front s S p = elim (append_cases front {t = r ∷ back} (subst (λ (l : List ℕ). Mem s l) split (subgroup-listed n ◌·◌ e G s S))) [
      | inl m ↦ m
      | inr m ↦ elim (cases m) [
        | inl q ↦ absurd (precedes-irreflexive r (subst (λ (z : ℕ). Precedes z r) q p))
        | inr k ↦
            let after = head_first Precedes (append-sorted-right Precedes front (r ∷ back) turn-sorted) s k in
            absurd (precedes-irreflexive r (precedes-transitive r s r after p))
      ]
    ]

    -- so where one stands before it, one had its turn
    touched : is_first n ◌·◌ e r ≡ false → (g : ℕ) × (g < n) × Mem (conjugate_of n ◌·◌ e r g) front
    unfolding is_first
    touched p =
        let (g, l, q) = every-fails (λ g. not (earlier n (conjugate_of n ◌·◌ e r g) r)) n p in
        (g, l, before-front _ (conjugate-subgroup n ◌·◌ e G r g l turn-subgroup) (earlier-precedes n _ r (not-false _ q)))
      where
        not-false : (b : Bool) → not b ≡ false → b ≡ true
        not-false true q = refl
        not-false false q = absurd (true≢false q)

    module _ (s : ℕ) (S : Subgroup n ◌·◌ e s) where
      -- nothing had its turn, r included
      untouched-more : Untouched front s → ((g : ℕ) → g < n → conjugate_of n ◌·◌ e s g ≡ r → ⊥) → Untouched (front ++ r ∷ []) s
      untouched-more u v g l m = elim (append_cases front {t = r ∷ []} m) [
        | inl i ↦ u g l i
        | inr i ↦ elim (cases i) [ inl q ↦ v g l q | inr j ↦ not-nil j ]
      ]

      -- less
      untouched-less : Untouched (front ++ r ∷ []) s → Untouched front s
      untouched-less u g l m = u g l (mem-left (r ∷ []) m)

      -- no conjugate of s is r
      not_last : Untouched (front ++ r ∷ []) s → (g : ℕ) → g < n → conjugate_of n ◌·◌ e s g ≡ r → ⊥
      not_last u g l q = u g l (mem-right front (here q))

      -- r had a conjugate before it, so where r is a conjugate of s, so had s
      touched-too : is_first n ◌·◌ e r ≡ false → Untouched front s → (g : ℕ) → g < n → conjugate_of n ◌·◌ e s g ≡ r → ⊥
      touched-too p u g l q =
          let (f, k, m) = touched p in
          let same = sym (conjugate-set-twice n ◌·◌ e G s g f S.small l k) ∙ ap (λ (z : ℕ). conjugate_of n ◌·◌ e z f) q in
          u (g · f) (G.product-below g f l k) (mem-cast same m)

  -- what r does not take
  abbrev spared : ℕ → List ℕ → Bool
  spared r s = not (has same_list s (keys (witnesses n ◌·◌ e (members n r) n)))

  -- the representatives among those that are left, where what remains is what is untouched
  representatives-left : (back front : List ℕ) (remaining : List (List ℕ)) → subgroups_of n ◌·◌ e ≡ front ++ back
      → ((s : ℕ) → Mem s back → Mem (members n s) remaining ↔ Untouched front s)
      → representatives_among n ◌·◌ e (map (members n) back) remaining ≡ map (members n) (keep (is_first n ◌·◌ e) back)
  unfolding representatives_among keep
  representatives-left [] front remaining split left = refl
  representatives-left (r ∷ back) front remaining split left =
      by (is_first n ◌·◌ e r) refl (λ rest. representatives-left back (front ++ r ∷ []) rest (split ∙ sym (append_assoc front (r ∷ []) back)))
    where
      R : Subgroup n ◌·◌ e r
      R = turn-subgroup front r back split

      known : (s : ℕ) → Mem s back → Subgroup n ◌·◌ e s
      known s m = only-subgroups n ◌·◌ e G s (rw split (mem-right front (there m)))

      by : (b : Bool) → is_first n ◌·◌ e r ≡ b
          → ((rest : List (List ℕ)) → ((s : ℕ) → Mem s back → Mem (members n s) rest ↔ Untouched (front ++ r ∷ []) s)
          → representatives_among n ◌·◌ e (map (members n) back) rest ≡ map (members n) (keep (is_first n ◌·◌ e) back))
          → cond (has same_list (members n r) remaining)
          (members n r ∷ representatives_among n ◌·◌ e (map (members n) back) (keep (spared r) remaining))
          (representatives_among n ◌·◌ e (map (members n) back) remaining)
          ≡ map (members n) (cond b (r ∷ keep (is_first n ◌·◌ e) back) (keep (is_first n ◌·◌ e) back))
      by true p later = rw (had ((left r (here refl)).1 (first-untouched front r back split p)))
          (ap (λ (l : List (List ℕ)). members n r ∷ l) (later (keep (spared r) remaining) (λ s m. (
            λ k.
                let S = known s m in
                let (i, q) = kept-member (spared r) remaining k in
                untouched-more front r back split s S ((left s (there m)).0 i)
                (λ g l w. true≢false (sym (had ((witnessed-conjugates n ◌·◌ e G r R s S.small).1
                (inverse_of n ◌·◌ e g, inverse-below n ◌·◌ e G g l, conjugated-back s r g S.small l w))) ∙ not-true _ q)),
            λ u.
                let S = known s m in
                member-kept (spared r) remaining ((left s (there m)).1 (untouched-less front r back split s S u))
                (ap not (not-passing _ (λ q.
                let (g, l, w) = (witnessed-conjugates n ◌·◌ e G r R s S.small).0 (has-it q) in
                not_last front r back split s S u (inverse_of n ◌·◌ e g) (inverse-below n ◌·◌ e G g l) (conjugated-back r s g R.small l w)))),
          ))))
      by false p later = rw (not-passing (has same_list (members n r) remaining) (λ q.
          let (g, l, m) = touched front r back split p in (left r (here refl)).0 (has-it q) g l m))
          (later remaining (λ s m.
          let S = known s m in (
            λ k. untouched-more front r back split s S ((left s (there m)).0 k) (touched-too front r back split s S p ((left s (there m)).0 k)),
            λ u. (left s (there m)).1 (untouched-less front r back split s S u),
          )))

  -- those of which no conjugate stands before are our representatives
  first-representatives : keep (is_first n ◌·◌ e) (subgroups_of n ◌·◌ e) ≡ representatives_of n ◌·◌ e
  first-representatives = one_list (sorted-keep Precedes (is_first n ◌·◌ e) (subgroups-sorted n ◌·◌ e G)) (representatives-sorted n ◌·◌ e G)
      (λ s m.
      let (k, p) = kept-member (is_first n ◌·◌ e) (subgroups_of n ◌·◌ e) m in
      (representatives n ◌·◌ e G s).1 (record { subgroup = only-subgroups n ◌·◌ e G s k; first = λ q. first_passes n ◌·◌ e G s p }))
      (λ s m.
      let C = (representatives n ◌·◌ e G s).0 m in
      member-kept (is_first n ◌·◌ e) (subgroups_of n ◌·◌ e) (subgroup-listed n ◌·◌ e G s C.subgroup) (passes-first n ◌·◌ e G s (C.first refl)))

  -- The representatives that the Rust takes from its list of subgroups are ours, in our order.
  pub representatives-as-taken : representatives_among n ◌·◌ e (map (members n) (subgroups_of n ◌·◌ e)) (map (members n) (subgroups_of n ◌·◌ e))
      ≡ map (members n) (representatives_of n ◌·◌ e)
  representatives-as-taken =
      representatives-left (subgroups_of n ◌·◌ e) [] (map (members n) (subgroups_of n ◌·◌ e)) refl (λ s m. (λ k g l j. not-nil j, λ u. mem-map (members n) m))
      ∙ ap (map (members n)) first-representatives
