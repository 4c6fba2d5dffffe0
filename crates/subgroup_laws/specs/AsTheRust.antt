-- For every table of a group, what the Rust's own procedures give is what the definitions give by which the entries answer.
use Rattle.std.specs.Prelude.{◌≡◌, true, List, map, ℕ, ◌^◌, ◌<◌}
use Rattle.std.proofs.Common.{arith}
use Rattle.laws.specs.Sets.{members}
use Rattle.subgroup_laws.specs.Conjugates.{conjugates_of, conjugators_of}
use Rattle.subgroup_laws.specs.GroupLaws.{identity-found, group-identity, group-inverses}
use Rattle.subgroup_laws.specs.Groups.{identity_of, has_inverses}
use Rattle.subgroup_laws.specs.Lists.{subgroups_of, representatives_of}
use Rattle.subgroup_laws.specs.Permutations.{permutation_of}
use Rattle.subgroup_laws.specs.RustProcedures.{Witnessed, keys, EnumeratedSubgroups, conjugate_list, ClassConjugates, representatives_among, normalizer_indices, normalizer_permutations}
use Rattle.subgroup_laws.specs.SameClasses.{representatives-as-taken}
use Rattle.subgroup_laws.specs.SameConjugates.{conjugate-as-sorted, conjugates-as-sorted, conjugates-exist, normalizer-as-looped, permutations-as-looped}
use Rattle.subgroup_laws.specs.SameSubgroups.{subgroups-as-enumerated, search-ends}
use Rattle.subgroup_laws.specs.Subsets.{Subgroup, conjugate_of, normalizer_of}
use Rattle.subgroup_laws.specs.Table.{product, good_cells, GroupTable}
use Rattle.subgroup_laws.specs.TableCells.{cells-good}

module _ (n : ℕ) (t : List ℕ) (e : ℕ) where
  -- what the Rust makes of the table
  pub record AsTheRust : Type 0 where
    -- it takes the table, with our identity
    pub taken : (0 < n) × (good_cells n t ≡ true) × (identity_of n (product n t) ≡ e) × (has_inverses n (product n t) e ≡ true)
    -- its search ends, and gives our subgroups in our order
    pub search : EnumeratedSubgroups n (product n t) e (map (members n) (subgroups_of n (product n t) e))
    pub subgroups : (l : List (List ℕ)) → EnumeratedSubgroups n (product n t) e l → l ≡ map (members n) (subgroups_of n (product n t) e)
    -- its conjugate of a set is ours
    pub conjugate : (s g : ℕ) → s < 2 ^ n → g < n → conjugate_list n (product n t) e (members n s) g ≡ members n (conjugate_of n (product n t) e s g)
    -- its representatives are ours in our order
    pub representatives :
        representatives_among n (product n t) e (map (members n) (subgroups_of n (product n t) e)) (map (members n) (subgroups_of n (product n t) e))
        ≡ map (members n) (representatives_of n (product n t) e)
    -- its conjugates of a subgroup are ours in our order, with our conjugators
    pub class : (h : ℕ) → Subgroup n (product n t) e h → (l : List Witnessed) × ClassConjugates n (product n t) e (members n h) l
    pub conjugates : (h : ℕ) → Subgroup n (product n t) e h → (l : List Witnessed) → ClassConjugates n (product n t) e (members n h) l
        → (keys l ≡ map (members n) (conjugates_of n (product n t) e h)) × (map (λ (w : Witnessed). w.conjugator) l ≡ conjugators_of n (product n t) e h)
    -- its normalizer is ours, with our permutations
    pub normalizer : (h : ℕ) → Subgroup n (product n t) e h → normalizer_indices n (product n t) e (members n h) n
        ≡ members n (normalizer_of n (product n t) e h)
    pub permutations : (h : ℕ) → Subgroup n (product n t) e h
        → normalizer_permutations n (product n t) e (members n h) n ≡ map (permutation_of n (product n t) e h) (members n (normalizer_of n (product n t) e h))

  -- every table of a group
  pub as-the-rust : GroupTable n t e → AsTheRust
  as-the-rust T =
      let G = T.group in
      record {
        taken = (
          let low = G.identity-below in omega arith,
          cells-good n t T.cells,
          identity-found n (product n t) e (group-identity n (product n t) e G),
          group-inverses n (product n t) e G,
        );
        search = search-ends n (product n t) e G;
        subgroups = subgroups-as-enumerated n (product n t) e G;
        conjugate = conjugate-as-sorted n (product n t) e G;
        representatives = representatives-as-taken n (product n t) e G;
        class = λ h H. (_, conjugates-exist n (product n t) e G h H);
        conjugates = conjugates-as-sorted n (product n t) e G;
        normalizer = normalizer-as-looped n (product n t) e G;
        permutations = permutations-as-looped n (product n t) e G;
      }
