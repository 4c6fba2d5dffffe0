-- The permutation of a subgroup's members by an element that conjugates it to itself (R7.7): entry i is the
-- position of g⁻¹ x g among the members, x being member i.
use Rattle.std.specs.Prelude.{◌≡◌, refl, Bool, true, false, cond, List, [], ◌∷◌, ◌++◌, map, ℕ, zero, suc, ◌+◌, ◌^◌, ◌%◌, ◌<◌, drop, set}
use Rattle.std.proofs.Math.Path.{sym, ap}
use Rattle.std.proofs.Common.{ap₂, ◌∙◌, subst, append_assoc, add-one, mod-lt, pow_pos, drop-cons}
use Rattle.std.proofs.lemmas.List.{map-append, set_at}
use native.Mathlib.Omega.{arith}
use Rattle.std.specs.Int.Count.{ones, ones_in}
use Rattle.std.proofs.Math.ListN.{length, get_or, length-map}
use Rattle.laws.specs.Sets.{member, members, members-in, members-out, members-length, members-position, position-below, listed-member, ones_in-suc, ones_below}
use Rattle.laws.specs.Indices.{member-at, image-at}
use Rattle.subgroup_laws.specs.Conjugation.{conjugate-holds, conjugate-element-below}
use Rattle.subgroup_laws.specs.Groups.{Group}
use Rattle.subgroup_laws.specs.LowMembers.{member-remainder}
use Rattle.subgroup_laws.specs.Subsets.{conjugate_element, conjugate_of}

module _ (n : ℕ) (◌·◌ : ℕ → ℕ → ℕ) (e : ℕ) where
  -- the position of g⁻¹ x g among the members of s: how many of them are lower
  unfoldable pub position_of : ℕ → ℕ → ℕ → ℕ
  position_of s g x = ones_in (conjugate_element n ◌·◌ e x g) s

  -- the positions in ascending order of the members
  unfoldable pub permutation_of : ℕ → ℕ → List ℕ
  permutation_of s g = map (position_of s g) (members n s)

  -- there are as many as members
  pub permutation-length : (s g : ℕ) → s < 2 ^ n → length (permutation_of s g) ≡ ones s
  unfolding permutation_of
  permutation-length s g h = length-map (members n s) (position_of s g) ∙ members-length n s ∙ sym (ones_below n s h)

  -- entry i says where g⁻¹ x g stands in the list of members, x being member i
  pub permutation-entry : Group n ◌·◌ e → (s g i : ℕ) → s < 2 ^ n → g < n → conjugate_of n ◌·◌ e s g ≡ s → i < ones s
      → get_or (members n s) (get_or (permutation_of s g) i 0) 0 ≡ conjugate_element n ◌·◌ e (get_or (members n s) i 0) g
  unfolding permutation_of position_of
  permutation-entry G s g i small h keeps k =
      let long : i < length (members n s) = let q = ones_below n s small in let r = members-length n s in omega arith in
      let x = get_or (members n s) i 0 in
      let (l, m) = listed-member n s x (member-at (members n s) i 0 long) in
      let y = conjugate_element n ◌·◌ e x g in
      ap (λ (j : ℕ). get_or (members n s) j 0) (image-at (position_of s g) (members n s) i 0 0 long)
      ∙ members-position n s y 0 (conjugate-element-below n ◌·◌ e G x g l h)
      (subst (λ (z : ℕ). member z y ≡ true) keeps (conjugate-holds n ◌·◌ e G s g x small h m))

-- only the members below n are counted
pub ones_in-agree : (n s t : ℕ) → ((i : ℕ) → i < n → member s i ≡ member t i) → ones_in n s ≡ ones_in n t
unfolding ones_in
ones_in-agree zero s t f = refl
ones_in-agree (suc n) s t f =
    ones_in-suc n s ∙ ap (λ (b : Bool). ones_in n s + cond b 1 0) (f n (omega arith))
    ∙ ap (λ (k : ℕ). k + cond (member t n) 1 0) (ones_in-agree n s t (λ i h. f i (omega arith))) ∙ sym (ones_in-suc n t)

-- the ones of the remainder are the members below y
pub position-ones : (s y : ℕ) → ones (s % 2 ^ y) ≡ ones_in y s
position-ones s y = ones_below y (s % 2 ^ y) (mod-lt s (pow_pos y)) ∙ ones_in-agree y (s % 2 ^ y) s (member-remainder y s)

module _ (n : ℕ) (◌·◌ : ℕ → ℕ → ℕ) (e s g : ℕ) where
  -- the positions of the members below x stand in front
  abbrev pub permuted : ℕ → List ℕ → List ℕ
  permuted x b = map (position_of n ◌·◌ e s g) (members x s) ++ drop (ones_in x s) b

  -- a member counts one, and its position is put behind
  pub permuted-in : (x : ℕ) (b : List ℕ) → member s x ≡ true → ones_in x s < length b
      → set (permuted x b) (ones_in x s) (position_of n ◌·◌ e s g x) ≡ permuted (x + 1) b
  permuted-in x b m h =
      let long : length (map (position_of n ◌·◌ e s g) (members x s)) ≡ ones_in x s = length-map (members x s) (position_of n ◌·◌ e s g) ∙ members-length x s in
      let more : ones_in (x + 1) s ≡ suc (ones_in x s) = ones-in x m in
      ap (λ (l : List ℕ). set (map (position_of n ◌·◌ e s g) (members x s) ++ l) (ones_in x s) (position_of n ◌·◌ e s g x)) (drop-cons b (ones_in x s) 0 h)
      ∙ set_at (map (position_of n ◌·◌ e s g) (members x s)) (get_or b (ones_in x s) 0) (drop (suc (ones_in x s)) b) (position_of n ◌·◌ e s g x) (ones_in x s)
      long
      ∙ sym (append_assoc (map (position_of n ◌·◌ e s g) (members x s)) (position_of n ◌·◌ e s g x ∷ []) (drop (suc (ones_in x s)) b))
      ∙ ap₂ (λ (l : List ℕ) (i : ℕ). l ++ drop i b)
      (sym (ap (map (position_of n ◌·◌ e s g)) (members-in x s m) ∙ map-append (position_of n ◌·◌ e s g) (members x s) (x ∷ []))) (sym more)
    where
      ones-in : (x : ℕ) → member s x ≡ true → ones_in (x + 1) s ≡ suc (ones_in x s)
      ones-in x m = ap (λ (i : ℕ). ones_in i s) (add-one x) ∙ ones_in-suc x s ∙ ap (λ (b : Bool). ones_in x s + cond b 1 0) m ∙ add-one (ones_in x s)

  -- what is no member is passed over
  pub permuted-out : (x : ℕ) (b : List ℕ) → member s x ≡ false → permuted x b ≡ permuted (x + 1) b
  permuted-out x b m =
      let same : ones_in (x + 1) s ≡ ones_in x s = ap (λ (i : ℕ). ones_in i s) (add-one x) ∙ ones_in-suc x s ∙ ap (λ (b : Bool). ones_in x s + cond b 1 0) m
      ∙ omega arith in
      ap₂ (λ (l : List ℕ) (i : ℕ). map (position_of n ◌·◌ e s g) l ++ drop i b) (sym (members-out x s m)) (sym same)

  -- how the count goes on
  pub count-in : (x : ℕ) → member s x ≡ true → ones_in (x + 1) s ≡ ones_in x s + 1
  count-in x m = ap (λ (i : ℕ). ones_in i s) (add-one x) ∙ ones_in-suc x s ∙ ap (λ (b : Bool). ones_in x s + cond b 1 0) m

  -- what is no member counts nothing
  pub count-out : (x : ℕ) → member s x ≡ false → ones_in (x + 1) s ≡ ones_in x s
  count-out x m = ap (λ (i : ℕ). ones_in i s) (add-one x) ∙ ones_in-suc x s ∙ ap (λ (b : Bool). ones_in x s + cond b 1 0) m ∙ omega arith

  -- a member's position has room
  pub count_room : (x : ℕ) → x < n → s < 2 ^ n → member s x ≡ true → ones_in x s < ones s
  count_room x h small m = let p = position-below n s x h m in let q = ones_below n s small in let r = members-length n s in omega arith
