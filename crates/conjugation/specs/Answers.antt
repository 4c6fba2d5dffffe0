-- What is answered on a subgroup of a table's group: its conjugates, its normalizer, and the permutations of its members.
use Rattle.std.specs.Prelude.{cond, List, ◌++◌, ℕ, eqb, ltb, length, drop, replicate, Err, Ok, Result}
use Rattle.std.specs.Int.Count.{ones}
use Rattle.subgroup_laws.specs.Conjugates.{conjugates_of, conjugators_of}
use Rattle.subgroup_laws.specs.Permutations.{permutation_of}
use Rattle.subgroup_laws.specs.Slots.{written, cleared}
use Rattle.subgroup_laws.specs.Subsets.{is_subgroup, conjugate_of, normalizer_of}
use Rattle.subgroup_laws.specs.Table.{product}
use Rattle.conjugation.specs.LentConjugates.{too_short}
use Rattle.table_check.specs.OnGroup.{on_group, on_bytes}
use Rattle.table_check.specs.CheckAnswers.{check_of}
use Rattle.table_check.specs.declared.Refusal.{Refusal}
use Rattle.table_check.specs.declared.Refusal.TheVariants.{Slots, Subgroup, Element, Normalizer}

-- the conjugate of a subgroup: 27 goes before 28
unfoldable pub conjugate_answer : ℕ → (ℕ → ℕ → ℕ) → ℕ → ℕ → ℕ → Result ℕ Refusal
conjugate_answer n times e s g =
    cond (is_subgroup n times e s) (cond (ltb g n) (Ok (conjugate_of n times e s g)) (Err Element)) (Err Subgroup)

-- the normalizer of a subgroup
unfoldable pub normalizer_answer : ℕ → (ℕ → ℕ → ℕ) → ℕ → ℕ → Result ℕ Refusal
normalizer_answer n times e s = cond (is_subgroup n times e s) (Ok (normalizer_of n times e s)) (Err Subgroup)

-- one of three for each way that a permutation is not asked for rightly, or what follows
abbrev pub of_normalizer : {A : Type 0} → ℕ → (ℕ → ℕ → ℕ) → ℕ → ℕ → ℕ → (Refusal → A) → A → A
of_normalizer n times e s g refuse answer =
    cond (is_subgroup n times e s) (cond (ltb g n) (cond (eqb (conjugate_of n times e s g) s) answer (refuse Normalizer)) (refuse Element)) (refuse Subgroup)

-- the permutation by an element of the normalizer: 27 to 29 go before 26
unfoldable pub permutation_answer : ℕ → (ℕ → ℕ → ℕ) → ℕ → ℕ → ℕ → List ℕ → Result ℕ Refusal
permutation_answer n times e s g b = of_normalizer n times e s g Err (cond (ltb (length b) (ones s)) (Err Slots) (Ok (ones s)))

-- what the lent list holds then: the positions, or zeros
unfoldable pub permutation_bytes : ℕ → (ℕ → ℕ → ℕ) → ℕ → ℕ → ℕ → List ℕ → List ℕ
permutation_bytes n times e s g b =
    of_normalizer n times e s g (λ r. b) (cond (ltb (length b) (ones s)) (replicate (length b) 0) (permutation_of n times e s g ++ drop (ones s) b))

-- the same on the group of a table
abbrev pub conjugate_entry : ℕ → List ℕ → ℕ → ℕ → Result ℕ Refusal
conjugate_entry n t s g = on_group (check_of n t) (λ e. conjugate_answer n (product n t) e s g)

-- the normalizer on the group of a table
abbrev pub normalizer_entry : ℕ → List ℕ → ℕ → Result ℕ Refusal
normalizer_entry n t s = on_group (check_of n t) (λ e. normalizer_answer n (product n t) e s)

-- the permutation on the group of a table
abbrev pub permutation_entry : ℕ → List ℕ → ℕ → ℕ → List ℕ → Result ℕ Refusal
permutation_entry n t s g b = on_group (check_of n t) (λ e. permutation_answer n (product n t) e s g b)

-- and what the lent list holds then
abbrev pub permutation_list : ℕ → List ℕ → ℕ → ℕ → List ℕ → List ℕ
permutation_list n t s g b = on_bytes (check_of n t) b (λ e. permutation_bytes n (product n t) e s g b)

-- the conjugates of a subgroup: 27 goes before 26
unfoldable pub conjugates_answer : ℕ → (ℕ → ℕ → ℕ) → ℕ → ℕ → List ℕ → List ℕ → Result ℕ Refusal
conjugates_answer n times e s b c =
    cond (is_subgroup n times e s) (cond (too_short n times e s b c) (Err Slots) (Ok (length (conjugates_of n times e s)))) (Err Subgroup)

-- what the list of sets holds then
unfoldable pub conjugates_bytes : ℕ → (ℕ → ℕ → ℕ) → ℕ → ℕ → List ℕ → List ℕ → List ℕ
conjugates_bytes n times e s b c =
    cond (is_subgroup n times e s) (cond (too_short n times e s b c) (cleared b) (written (conjugates_of n times e s) b)) b

-- and the list of conjugators
unfoldable pub conjugators_bytes : ℕ → (ℕ → ℕ → ℕ) → ℕ → ℕ → List ℕ → List ℕ → List ℕ
conjugators_bytes n times e s b c =
    cond (is_subgroup n times e s)
    (cond (too_short n times e s b c) (replicate (length c) 0) (conjugators_of n times e s ++ drop (length (conjugates_of n times e s)) c))
    c

-- the same on the group of a table
abbrev pub conjugates_entry : ℕ → List ℕ → ℕ → List ℕ → List ℕ → Result ℕ Refusal
conjugates_entry n t s b c = on_group (check_of n t) (λ e. conjugates_answer n (product n t) e s b c)

-- and what the list of sets holds then
abbrev pub conjugates_list : ℕ → List ℕ → ℕ → List ℕ → List ℕ → List ℕ
conjugates_list n t s b c = on_bytes (check_of n t) b (λ e. conjugates_bytes n (product n t) e s b c)

-- and the list of conjugators
abbrev pub conjugators_list : ℕ → List ℕ → ℕ → List ℕ → List ℕ → List ℕ
conjugators_list n t s b c = on_bytes (check_of n t) c (λ e. conjugators_bytes n (product n t) e s b c)
