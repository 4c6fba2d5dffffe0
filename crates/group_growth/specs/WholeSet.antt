-- The whole set that generators and what is free stand for, all finite products of the generators and of what is free (as translations by a lattice are),
-- is the list with what is free added: whatever is alike to a member.
use Rattle.std.specs.Prelude.{◌≡◌, ◌↔◌, ℕ}
use Rattle.std.proofs.Common.{subst}
use mathlib.Core.List.{List, Memᴰ as Mem}
use Rattle.laws.specs.Closure.{start, step}
use Rattle.group_growth.specs.Growing.{Growing, OkGenerators, Generated}
use Rattle.group_growth.specs.Acceptance.{Whole}
use Rattle.group_growth.specs.Forms.{Forms}
use Rattle.group_growth.specs.Members.{generated-ok, forms, near-member, member-near}

-- What is free: as a right factor it makes of an element what is alike to it, and so all that is.
pub record Freedom (S : Growing) (Free : S.Element → Type 0) : Type 0 where
  pub free-alike : (x t : S.Element) → S.Ok x → Free t → S.Alike (S.product x t) x
  pub alike-free : (x y : S.Element) → S.Ok y → S.Alike x y → (t : S.Element) × Free t × (S.product y t ≡ x)

module _ (S : Growing) (Free : S.Element → Type 0) (gens : List S.Element) where
  open S use {Element, product, unit, Alike, keyed, ok-alike}

  -- The least set with the unit and closed under a generator, or something free, as right factor.
  pub data InWholeSet : Element → Type 0 where
    origin : InWholeSet unit
    by-generator : {x g : Element} → InWholeSet x → Mem g gens → InWholeSet (product x g)
    by-free : {x t : Element} → InWholeSet x → Free t → InWholeSet (product x t)

  -- What is generated is in the set.
  pub generated-in : {x : Element} → Generated S gens x → InWholeSet x
  generated-in start = origin
  generated-in (step r m) = by-generator (generated-in r) m

  module _ (D : Freedom S Free) (ok : OkGenerators S gens) where
    -- What is in the set is alike to something generated.
    set-near : {x : Element} → InWholeSet x → (y : Element) × Generated S gens y × Alike x y
    set-near origin = (unit, start, keyed.alike-reflexive unit)
    set-near (by-generator {x} {g} s m) =
        let (y, r, near) = set-near s in
        let ok-y = generated-ok S gens ok y r in
        let ok-x = ok-alike y x (keyed.alike-symmetric x y near) ok-y in
        (product y g, step r m, keyed.alike_right x y g ok-x ok-y (ok g m) near)
    set-near (by-free {x} {t} s f) =
        let (y, r, near) = set-near s in
        let ok-x = ok-alike y x (keyed.alike-symmetric x y near) (generated-ok S gens ok y r) in
        (y, r, keyed.alike-transitive (product x t) x y (D.free-alike x t ok-x f) near)

    -- What is alike to something generated is that times something free.
    near-set : (x y : Element) → Generated S gens y → Alike x y → InWholeSet x
    near-set x y r near =
        let (t, f, e) = D.alike-free x y (generated-ok S gens ok y r) near in
        subst InWholeSet e (by-free (generated-in r) f)

    -- The set is the list with what is free added.
    pub set-exactly : (limit : ℕ) (l : List Element) (steps : List ℕ) (W : Whole S gens limit l steps) (F : Forms S)
        → (x : Element) → InWholeSet x ↔ ((b : F.Form) × Mem b (forms S gens ok limit l steps W F) × Alike x (F.meaning b))
    set-exactly limit l steps W F x = (
      (λ s. let (y, r, near) = set-near s in near-member S gens ok limit l steps W F x y near r),
      λ (b, m, near).
          let (y, r, close) = member-near S gens ok limit l steps W F b m in
          near-set x y r (keyed.alike-transitive x (F.meaning b) y near (keyed.alike-symmetric y (F.meaning b) close)),
    )
