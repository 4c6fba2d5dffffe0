-- What elements are multiplied, told apart and tested by, and what generators generate: the sets in whose words each answer is promised.
use Rattle.std.specs.Prelude.{◌≡◌, ◌↔◌, Bool, true, ℕ, ◌≤◌, ◌<◌, T, length}
use Rattle.std.proofs.Math.Option.{Option}
use mathlib.Core.List.{List, Memᴰ as Mem}
use Rattle.laws.specs.Distinct.{Distinct}
use Rattle.laws.specs.Closure.{Reached, closure}
use Rattle.laws.specs.Keyed.{KeyedMonoid}
use Rattle.laws.specs.GrowthClosure.{allowed, steps_from}
use Rattle.group_growth.specs.Verdicts as verdicts
use Rattle.group_growth.specs.Verdicts.{Verdict}

-- A keyed monoid, a decision of "alike" for two elements of one key, and a test of elements that the key decides and the unit passes.
pub record Growing : Type 1 where
  pub Element : Type 0
  -- whether two elements have one key
  pub same : Element → Element → Bool
  -- whether two elements of one key are alike
  pub alike : Element → Element → Bool
  -- the test of an element
  pub fine : Element → Bool
  pub product : Element → Element → Element
  pub unit : Element
  -- what `alike` decides
  pub Alike : Element → Element → Type 0
  -- the elements of which the laws are said
  pub Ok : Element → Type 0
  pub keyed : KeyedMonoid same Alike Ok product unit
  pub ok-alike : (x y : Element) → Alike x y → Ok x → Ok y
  pub alike-decided : (x y : Element) → T (same x y) → T (alike x y) ↔ Alike x y
  pub fine-key : (x y : Element) → T (same x y) → fine y ≡ true → fine x ≡ true
  pub fine-unit : fine unit ≡ true

module _ (S : Growing) where
  open S use {Element, same, alike, fine, product, unit, Alike, Ok}

  -- The generators are such as the laws of the monoid speak of.
  abbrev pub OkGenerators : List Element → Type 0
  OkGenerators gens = (g : Element) → Mem g gens → Ok g

  -- Breadth first from the unit, right factor running over the generators in order, each key once, at most `limit`.
  abbrev pub listing : ℕ → List Element → Option (List Element)
  listing limit gens = closure same product unit gens limit

  -- A product, where it passes the test.
  abbrev pub fine_product : Element → Element → Option Element
  fine_product = allowed same alike fine product

  -- The index of each product of a listed element with a generator.
  abbrev pub steps_of : List Element → List Element → List ℕ
  steps_of gens l = steps_from same alike fine product gens l l

  abbrev pub verdict : ℕ → List Element → Verdict Element
  verdict limit gens = verdicts.verdict same alike fine product unit limit gens

  module _ (gens : List Element) where
    -- The least set with the unit and closed under a generator as right factor.
    abbrev pub Generated : Element → Type 0
    Generated = Reached product unit gens

    -- The generated keys number at most `limit`,
    abbrev pub Few : ℕ → Type 0
    Few limit = (l : List Element) → Distinct same l → ((x : Element) → Mem x l → Generated x) → length l ≤ limit

    -- or more.
    abbrev pub Many : ℕ → Type 0
    Many limit = (l : List Element) × Distinct same l × ((x : Element) → Mem x l → Generated x) × (limit < length l)

    -- All that is generated passes the test,
    abbrev pub AllFine : Type 0
    AllFine = (x : Element) → Generated x → T (fine x)

    -- or something does not.
    abbrev pub Unfit : Type 0
    Unfit = (x : Element) × Generated x × (¬ T (fine x))

    -- Whatever is generated with the key of the unit is alike to the unit.
    abbrev pub OneToUnit : Type 0
    OneToUnit = (x : Element) → Generated x → T (same x unit) → Alike x unit

    -- Two generated elements have one key and are not alike.
    abbrev pub TwoToKey : Type 0
    TwoToKey = (x y : Element) × Generated x × Generated y × T (same x y) × (¬ Alike x y)
