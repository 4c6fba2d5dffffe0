-- The same where the bytes are known to be the table of a group, as those of symbols and records are: 26 to 29 exactly when, in terms of its identity.
use Rattle.std.specs.Prelude.{◌≡◌, ◌↔◌, List, ℕ, ◌≤◌}
use Rattle.std.proofs.Common.{◌∙◌, inl, inr, arith}
use Rattle.operation.specs.Answer.{Answer, given, refused, Nothing}
use Rattle.subgroup_laws.specs.GroupLaws.{TwoSidedIdentity, one-identity, group-identity}
use Rattle.subgroup_laws.specs.Table.{product, GroupTable}
use Rattle.table_answers.specs.Reasons.{Question, Reason, no-order, no_cells, no-identity, no-inverse, not-associative, no_room, no-subgroup, no-element, outside-normalizer, Says, refusing, answering, Exactly, one-group}

-- each number exactly if its reason holds, always at 0
pub record OnGroup (q : Question) (a : Answer ℕ Nothing) : Type 0 where
  pub place : (k p : ℕ) → a ≡ refused k p tt → p ≡ 0
  pub number : (k p : ℕ) → a ≡ refused k p tt → (26 ≤ k) × (k ≤ 29)
  pub slots : (a ≡ refused 26 0 tt) ↔ (q.subgroup × q.element × q.normalizes × ¬ q.room)
  pub subgroup : (a ≡ refused 27 0 tt) ↔ (¬ q.subgroup)
  pub element : (a ≡ refused 28 0 tt) ↔ (q.subgroup × ¬ q.element)
  pub normalizer : (a ≡ refused 29 0 tt) ↔ (q.subgroup × q.element × ¬ q.normalizes)
  pub value : (v : ℕ) → (a ≡ given v) ↔ (q.subgroup × q.element × q.normalizes × q.room × (v ≡ q.value))

module _ (n : ℕ) (t : List ℕ) (ask : ℕ → Question) (e : ℕ) (T : GroupTable n t e) where
  identity : TwoSidedIdentity n (product n t) e
  identity = group-identity n (product n t) e T.group

  -- no reason of 21 to 25
  of-group : {k : ℕ} → Reason n t ask k → 26 ≤ k
  of-group (no-order (inl h)) = absurd (omega (arith, T.group.identity-below))
  of-group (no-order (inr h)) = absurd (omega (arith, T.cells.limit))
  of-group (no_cells (h, l, none)) = absurd (none T.cells)
  of-group (no-identity (h, C, none)) = absurd (none e identity)
  of-group (no-inverse (h, C, (f, I, (x, l, none)))) =
      let same : e ≡ f = one-identity n (product n t) e f identity I in
      let (y, below, right, left) = T.group.inverse x l in
      absurd (none y (record { below = below; right = right ∙ same; left = left ∙ same }))
  of-group (not-associative (h, C, (f, I, K, (x, y, z, k, l, m, differ)))) = absurd (differ (T.group.associative x y z k l m))
  of-group (no_room c) = omega arith
  of-group (no-subgroup c) = omega arith
  of-group (no-element c) = omega arith
  of-group (outside-normalizer c) = omega arith

  beyond : {a : Answer ℕ Nothing} → Says n t ask a → (k p : ℕ) → a ≡ refused k p tt → 26 ≤ k
  beyond (refusing j R) k p q = let same : j ≡ k = cc in let low : 26 ≤ j = of-group R in rw same at low
  beyond (answering v A) k p q = let z : ◌≡◌ {A = ℕ} 0 1 = cc in absurd (omega arith)

  pub on-group : {a : Answer ℕ Nothing} → Exactly n t ask a → OnGroup (ask e) a
  on-group E = record {
    place = E.place;
    number = λ k p q. (beyond E.says k p q, (E.number k p q).1);
    slots = (λ q. let (f, U, s, g, m, none) = E.slots.0 q in rw (one-group n t e f T U) (s, g, m, none), λ c. E.slots.1 (e, T, c.0, c.1, c.2, c.3));
    subgroup = (λ q. let (f, U, none) = E.subgroup.0 q in rw (one-group n t e f T U) none, λ c. E.subgroup.1 (e, T, c));
    element = (λ q. let (f, U, s, none) = E.element.0 q in rw (one-group n t e f T U) (s, none), λ c. E.element.1 (e, T, c.0, c.1));
    normalizer = (
      λ q. let (f, U, s, g, none) = E.normalizer.0 q in rw (one-group n t e f T U) (s, g, none),
      λ c. E.normalizer.1 (e, T, c.0, c.1, c.2),
    );
    value = λ v. (
      λ q. let (f, U, s, g, m, r, same) = (E.value v).0 q in rw (one-group n t e f T U) (s, g, m, r, same),
      λ c. (E.value v).1 (e, T, c.0, c.1, c.2, c.3, c.4),
    );
  }
