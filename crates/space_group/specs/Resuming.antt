-- Lists in slots: one element more, what stands in a slot, and a generator among those that are used.
use Rattle.std.specs.Prelude.{◌≡◌, refl, List, [], ◌∷◌, ◌++◌, ℕ, suc, ◌-◌, ◌≤◌, ◌<◌, min, length, get_or, take, set, replicate}
use Rattle.std.proofs.Common.{sym, ◌∙◌, arith, length-append, take_all}
use Rattle.std.proofs.Math.Decide.{dec_lt}
use Rattle.std.proofs.lemmas.List.{length-replicate, set_at}
use Rattle.std.proofs.Math.ListN.{get_or-append}
use Rattle.std.proofs.Math.Seq.{append_snoc}
use Rattle.space_group.specs.Traversal.{padded}

-- ---- slots
-- One more element in the first slot that is free.
pub padded-set : {A : Type 0} (n : ℕ) (e : A) (l : List A) (x : A) → length l < n → set (padded n e l) (length l) x ≡ padded n e (l ++ x ∷ [])
padded-set n e l x h =
    let rest = n - length (l ++ x ∷ []) in
    let one : n - length l ≡ suc rest = simp length-append (omega arith) in
    rw one (set_at l e (replicate rest e) x (length l) refl ∙ sym (append_snoc l x (replicate rest e)))

-- What stands in a slot of the list.
pub padded-at : {A : Type 0} (n : ℕ) (e : A) (l : List A) (i : ℕ) (d : A) → i < length l → get_or (padded n e l) i d ≡ get_or l i d
padded-at n e l i d h = get_or-append l (replicate (n - length l) e) d i h

-- As many slots as there should be.
pub padded-length : {A : Type 0} (n : ℕ) (e : A) (l : List A) → length l ≤ n → length (padded n e l) ≡ n
padded-length n e l h = simp (length-append, length-replicate) (omega arith)

-- The first n of nine, or all nine where n is over 9.
pub first-nine : {A : Type 0} (n : ℕ) (l : List A) → length l ≡ 9 → take (min n 9) l ≡ take n l
first-nine n l e = elim (dec_lt 9 n) [
  | yes h ↦
      let nine : min n 9 ≡ 9 = omega arith in
      rw nine (take_all 9 l (omega arith) ∙ sym (take_all n l (omega arith)))
  | no h ↦ let own : min n 9 ≡ n = omega arith in rw own refl
]
