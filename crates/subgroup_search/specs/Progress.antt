-- What a step of the search answers: sets were put in before the one that is extended; or there are too many.
use Rattle.std.specs.Prelude.{◌≡◌, Bool, ℕ, ◌+◌, ◌/◌, ◌<◌, ◌≤◌, length}
use Rattle.std.proofs.Common.{sym, subst, arith}
use mathlib.Core.List.{List, ◌∷◌, ◌++◌, Memᴰ as Mem}
use Rattle.std.proofs.Math.Decide.{dec_lt}
use Rattle.std.proofs.Math.Seq.{get_or-append_seam}
use Rattle.laws.specs.ListOrder.{Precedes, precedes-irreflexive, precedes-transitive}
use Rattle.subgroup_laws.specs.Lists.{Chosen}
use Rattle.subgroup_laws.specs.Search.{Holding, TooMany, place-before, holding-full, holding-added, holding-present, insert-front, insert-member, insert-here}
use Rattle.subgroup_laws.specs.Slots.{Place, insert_at}
use Rattle.element_sets.specs.Insertion.{Inserted, present, full, added}
use Rattle.std.specs.Prelude.{Option, Some, None}
use Rattle.element_sets.specs.declared.slots.Insertion.TheVariants.{Present, Full, Added}

module _ (n : ℕ) (◌·◌ : ℕ → ℕ → ℕ) (e : ℕ) (classes : Bool) where
  -- what a step of the search answers: sets were put in before h, and Done holds of the new list; or there are too many
  pub data Progress (came front tail b : List ℕ) (h : ℕ) (Done : List ℕ → Type 0) : Option ℕ → Type 0 where
    counted : (front' : List ℕ) {count : ℕ} → Holding n ◌·◌ e classes came b (front' ++ h ∷ tail) count
        → ((s : ℕ) → Mem s (front ++ h ∷ tail) → Mem s (front' ++ h ∷ tail)) → Done (front' ++ h ∷ tail)
        → Progress came front tail b h Done (Some count)
    overflow : (l : List ℕ) (count : ℕ) → Holding n ◌·◌ e classes came b l count → TooMany n ◌·◌ e classes (length came / 8)
        → Progress came front tail b h Done None

  module _ (limit : n ≤ 48) where
    -- putting in a set that stands before h, and what Done then says
    module _ (came b front tail : List ℕ) (h count : ℕ) (H : Holding n ◌·◌ e classes came b (front ++ h ∷ tail) count) (same : length came ≡ length b)
        (m : ℕ) (C : Chosen n ◌·◌ e classes m) (P : Precedes m h) (Done : List ℕ → Type 0) (done : (l : List ℕ) → Mem m l
        → ((s : ℕ) → Mem s (front ++ h ∷ tail) → Mem s l) → Done l) where
      -- it belongs among those in front of h
      place-front : (p : ℕ) → Place b count m p → p ≤ length front
      place-front p Q = elim (dec_lt (length front) p) [
        | no k ↦ omega arith
        | yes k ↦
            absurd (precedes-irreflexive m (precedes-transitive m h m P (subst (λ (z : ℕ). Precedes z m) (get_or-append_seam front h tail 0)
            (place-before n ◌·◌ e classes limit came b (front ++ h ∷ tail) count H m p Q (length front) k))))
      ]

      -- each outcome of the insertion is progress
      pub inserted-present : {exit : List ℕ} → Inserted b count m exit Present → Progress came front tail exit h Done (Some count)
      inserted-present (present q p k s) =
          counted front (subst (λ (x : List ℕ). Holding n ◌·◌ e classes came x (front ++ h ∷ tail) count) (sym q) H) (λ z i. i) (done _
          (holding-present n ◌·◌ e classes limit came b (front ++ h ∷ tail) count H m p k s) (λ z i. i))

      -- no slot was free
      pub inserted-full : {exit : List ℕ} → Inserted b count m exit Full → Progress came front tail exit h Done None
      inserted-full (full q none p Q apart) =
          overflow (front ++ h ∷ tail) count (subst (λ (x : List ℕ). Holding n ◌·◌ e classes came x (front ++ h ∷ tail) count)
          (sym q) H) (holding-full n ◌·◌ e classes limit came b (front ++ h ∷ tail) count H m p C Q apart same none)

      -- the set was put in
      pub inserted-added : {exit : List ℕ} → Inserted b count m exit Added → Progress came front tail exit h Done (Some (count + 1))
      inserted-added {exit} (added room p Q apart q) =
          let at = place-front p Q in
          let joint : insert_at p m (front ++ h ∷ tail) ≡ insert_at p m front ++ h ∷ tail = insert-front p m front (h ∷ tail) at in
          let slots : count < length came / 8 = rw same room in
          counted (insert_at p m front)
          (subst (λ (l : List ℕ). Holding n ◌·◌ e classes came exit l (count + 1)) joint
          (holding-added n ◌·◌ e classes limit came b (front ++ h ∷ tail) count H m p C Q apart exit slots q))
          (λ z i. subst (λ (l : List ℕ). Mem z l) joint (insert-member p m (front ++ h ∷ tail) i))
          (done _ (subst (λ (l : List ℕ). Mem m l) joint (insert-here p m (front ++ h ∷ tail)))
          (λ z i. subst (λ (l : List ℕ). Mem z l) joint (insert-member p m (front ++ h ∷ tail) i)))
