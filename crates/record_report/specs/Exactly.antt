-- What is reported of two records under one letter, said of the motions of their groups: each rotation that only one of them has, and each that both have with
-- translations that differ by no vector of the lattice; and only one list of entries says so in the order of codes.
use Rattle.std.specs.Prelude.{◌≡◌, refl, ◌↔◌, false, ℕ}
use Rattle.std.proofs.Common.{sym, ◌∙◌, subst, true≢false}
use Rattle.std.proofs.Math.Path.{ap}
use mathlib.Core.List.Memᴰ.{map as mem-map}
use mathlib.Core.List.Memᴰ.{of_map as mem-of-map}
use mathlib.Core.List.{List, map, Memᴰ as Mem}
use Rattle.laws.specs.Lattice.{Congruent}
use Rattle.laws.specs.Matrix.{Matrix}
use Rattle.laws.specs.Motion.{SpaceMotion}
use Rattle.laws.specs.Sorted.{Sorted}
use Rattle.laws.specs.Truth.{not-passing}
use Rattle.operation.specs.Code.{code_of}
use Rattle.operation.specs.Entries.{Entries}
use Rattle.operation.specs.Meaning.{matrix_of, motion_of}
use Rattle.operation.specs.declared.Operation.{Operation}
use Rattle.operation.specs.declared.Translation.{Translation}
use Rattle.centering.specs.Letters.{points_of}
use Rattle.centering.specs.Lattices.{congruent_of}
use Rattle.centering.specs.LatticeLaws.{congruent-lattice}
use Rattle.centering.specs.declared.Centering.{Centering}
use Rattle.group_record.specs.Groups.{InSet, Form}
use Rattle.group_record.specs.ListedForm.{alike-reflexive, matrix-injective, code-matrix}
use Rattle.group_record.specs.OperationItems.{item_of}
use Rattle.group_record.specs.declared.items.Item.{Item}
use Rattle.record_report.specs.Sheets.{operations_in, sheet_of}
use Rattle.record_report.specs.Report.{Entry, entries_of}
use Rattle.record_report.specs.Differences.{EntryLower, Found, first-only, second-only, in-both, listed_found, found-listed, ascends, only-list}
use Rattle.record_report.specs.Lent.{Read, read-form, read-good, sheet-items}

-- The set of motions of a list, with L added, has a motion with this rotation.
abbrev pub Turns : Centering → List Operation → Matrix → Type 0
Turns c l r = (m : SpaceMotion) × InSet c (map motion_of l) m × (m.rotation ≡ r)

-- What stands in an entry: its kind, the code of an operation's rotation, the first's triple and the second's.
pub record Says (e : Entry) (kind : ℕ) (f : Operation) (t u : Translation) : Type 0 where
  pub its-kind : e.kind ≡ kind
  pub its-code : e.code ≡ code_of f.rotation
  pub its-first : e.first ≡ t
  pub its-second : e.second ≡ u

-- The triple 0 0 0.
abbrev pub none : Translation
none = record { x = 0; y = 0; z = 0 }

-- What an entry says of two groups, c being the first's lattice: 1, a rotation that only the first has; 2, one that only the second has; 3, one that both
-- have, with translations that differ by no vector of c.
pub data Difference (c d : Centering) (l k : List Operation) (e : Entry) : Type 0 where
  only-first : (f : Operation) → Mem f l → ¬ (Turns d k (motion_of f).rotation) → Says e 1 f f.translation none → Difference c d l k e
  only-second : (g : Operation) → Mem g k → ¬ (Turns c l (motion_of g).rotation) → Says e 2 g none g.translation → Difference c d l k e
  both-differ : (f g : Operation) → Mem f l → Mem g k → (motion_of f).rotation ≡ (motion_of g).rotation
      → ¬ (Congruent (points_of c) (motion_of f).translation (motion_of g).translation) → Says e 3 f f.translation g.translation → Difference c d l k e

-- What stands in an entry is the entry.
said : (e : Entry) (kind : ℕ) (f : Operation) (t u : Translation) → Says e kind f t u → record
    { kind = kind; code = code_of f.rotation; first = t; second = u } ≡ e
said e kind f t u h = sym (λ i. record { kind = h.its-kind i; code = h.its-code i; first = h.its-first i; second = h.its-second i })

-- A rotation of the set is that of a listed operation.
turns-listed : (c : Centering) (l : List Operation) (r : Matrix) → Turns c l r → (g : Operation) × Mem g l × ((motion_of g).rotation ≡ r)
turns-listed c l r (m, (h, n, (p, q)), e) =
    let (g, o, z) = mem-of-map motion_of l n in
    (g, o, ap (λ (x : SpaceMotion). x.rotation) z ∙ sym p ∙ e)

listed-turns : (c : Centering) (l : List Operation) (g : Operation) → Mem g l → Turns c l (motion_of g).rotation
listed-turns c l g m = (motion_of g, (motion_of g, mem-map motion_of m, alike-reflexive c (motion_of g)), refl)

-- Codes say rotations.
module _ (f g : Operation) (F : Entries (matrix_of f.rotation)) (G : Entries (matrix_of g.rotation)) where
  code-turn : code_of f.rotation ≡ code_of g.rotation → (motion_of f).rotation ≡ (motion_of g).rotation
  unfolding motion_of
  code-turn e = ap matrix_of (code-matrix f.rotation g.rotation F G e)

  turn-code : (motion_of f).rotation ≡ (motion_of g).rotation → code_of f.rotation ≡ code_of g.rotation
  unfolding motion_of
  turn-code e = ap code_of (matrix-injective f.rotation g.rotation F G e)

-- The test on two triples says whether they differ by a vector of the lattice.
not-congruent : (c : Centering) (f g : Operation)
    → (congruent_of c f.translation g.translation ≡ false) ↔ (¬ (Congruent (points_of c) (motion_of f).translation (motion_of g).translation))
unfolding motion_of
not-congruent c f g = (
  (λ e h. true≢false (sym ((congruent-lattice c f.translation g.translation).1 h) ∙ e)),
  λ h. not-passing (congruent_of c f.translation g.translation) (λ e. h ((congruent-lattice c f.translation g.translation).0 e)),
)

module _ (c d : Centering) (l k : List Operation) (F : Form c l) (G : Form d k) where
  found-difference : (e : Entry) → Found (congruent_of c) (map item_of l) (map item_of k) e → Difference c d l k e
  found-difference e (first-only i m apart) =
      let (f, n, q) = mem-of-map item_of l m in
      only-first f n
      (λ t.
      let (g, o, z) = turns-listed d k (motion_of f).rotation t in
      apart (item_of g) (mem-map item_of o) (sym (ap (λ (x : Item). x.code) q) ∙ sym (turn-code g f (G.entries g o) (F.entries f n) z)))
      (record { its-kind = refl; its-code = sym (ap (λ (x : Item). x.code) q); its-first = sym (ap (λ (x : Item). x.translation) q); its-second = refl })
  found-difference e (second-only j m apart) =
      let (g, n, q) = mem-of-map item_of k m in
      only-second g n
      (λ t.
      let (f, o, z) = turns-listed c l (motion_of g).rotation t in
      apart (item_of f) (mem-map item_of o) (turn-code f g (F.entries f o) (G.entries g n) z ∙ ap (λ (x : Item). x.code) q))
      (record { its-kind = refl; its-code = sym (ap (λ (x : Item). x.code) q); its-first = refl; its-second = sym (ap (λ (x : Item). x.translation) q) })
  found-difference e (in-both i j m n same differ) =
      let (f, o, q) = mem-of-map item_of l m in
      let (g, p, r) = mem-of-map item_of k n in
      let codes : code_of f.rotation ≡ code_of g.rotation = ap (λ (x : Item). x.code) q ∙ same ∙ sym (ap (λ (x : Item). x.code) r) in
      let left : f.translation ≡ i.translation = ap (λ (x : Item). x.translation) q in
      let right : g.translation ≡ j.translation = ap (λ (x : Item). x.translation) r in
      let apart : congruent_of c f.translation g.translation ≡ false = rw (left, right) differ in
      both-differ f g o p (code-turn f g (F.entries f o) (G.entries g p) codes) ((not-congruent c f g).0 apart)
      (record { its-kind = refl; its-code = sym (ap (λ (x : Item). x.code) q); its-first = sym left; its-second = sym right })

  difference-found : (e : Entry) → Difference c d l k e → Found (congruent_of c) (map item_of l) (map item_of k) e
  difference-found e (only-first f m apart says) =
      subst (Found (congruent_of c) (map item_of l) (map item_of k)) (said e 1 f f.translation none says) (first-only (item_of f) (mem-map item_of m) (λ j n q.
      let (g, o, r) = mem-of-map item_of k n in
      apart (subst (Turns d k) (code-turn g f (G.entries g o) (F.entries f m) (ap (λ (x : Item). x.code) r ∙ sym q)) (listed-turns d k g o))))
  difference-found e (only-second g m apart says) =
      subst (Found (congruent_of c) (map item_of l) (map item_of k)) (said e 2 g none g.translation says) (second-only (item_of g) (mem-map item_of m) (λ i n q.
      let (f, o, r) = mem-of-map item_of l n in
      apart (subst (Turns c l) (code-turn f g (F.entries f o) (G.entries g m) (ap (λ (x : Item). x.code) r ∙ q)) (listed-turns c l f o))))
  difference-found e (both-differ f g m n turn differ says) =
      subst (Found (congruent_of c) (map item_of l) (map item_of k)) (said e 3 f f.translation g.translation says)
      (in-both (item_of f) (item_of g) (mem-map item_of m) (mem-map item_of n) (turn-code f g (F.entries f m) (G.entries g n) turn)
      ((not-congruent c f g).1 differ))

-- ---- two records
module _ (first second : List ℕ) (R : Read first) (S : Read second) where
  -- What an entry says of them.
  abbrev pub Reported : Entry → Type 0
  Reported e = Difference (sheet_of first).lattice (sheet_of second).lattice (operations_in first) (operations_in second) e

  as-found : (e : Entry) → Reported e ↔ Found (congruent_of (sheet_of first).lattice) (sheet_of first).items (sheet_of second).items e
  as-found e = rw (sheet-items first, sheet-items second) (
    difference-found (sheet_of first).lattice (sheet_of second).lattice (operations_in first) (operations_in second) (read-form first R) (read-form second S) e,
    found-difference (sheet_of first).lattice (sheet_of second).lattice (operations_in first) (operations_in second) (read-form first R) (read-form second S) e,
  )

  -- An entry is reported exactly if what it says is so,
  pub report-exactly : (e : Entry) → Mem e (entries_of (sheet_of first) (sheet_of second)) ↔ Reported e
  unfolding entries_of
  report-exactly e = (
    (λ m. (as-found e).1 (listed_found (congruent_of (sheet_of first).lattice) (sheet_of first).items (sheet_of second).items (read-good first R).ascend
        (read-good second S).ascend e m)),
    λ h. found-listed (congruent_of (sheet_of first).lattice) (sheet_of first).items (sheet_of second).items (read-good first R).ascend
        (read-good second S).ascend e ((as-found e).0 h),
  )

  -- entries ascend by code,
  pub report-ascends : Sorted EntryLower (entries_of (sheet_of first) (sheet_of second))
  unfolding entries_of
  report-ascends = ascends (congruent_of (sheet_of first).lattice) (sheet_of first).items (sheet_of second).items (read-good first R).ascend
      (read-good second S).ascend

  -- and only one list is so.
  pub report-unique : (l : List Entry) → Sorted EntryLower l → ((e : Entry) → Mem e l ↔ Reported e) → l ≡ entries_of (sheet_of first) (sheet_of second)
  unfolding entries_of
  report-unique l L exact =
      only-list (congruent_of (sheet_of first).lattice) (sheet_of first).items (sheet_of second).items (read-good first R).ascend (read-good second S).ascend
      l L
      (λ e. ((λ m. (as-found e).0 ((exact e).0 m)), λ h. (exact e).1 ((as-found e).1 h)))
