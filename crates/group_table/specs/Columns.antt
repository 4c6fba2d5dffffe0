-- A table filled column by column in place: what a filled column is, how far columns are filled, and that a column composed of two is that of their product.
-- The idea: products associate, so operation i times the product of p and g stands where the product of i and p leads in the column of g.
use Rattle.std.specs.Prelude.{◌≡◌, refl, Bool, true, false, List, map, ◌++◌, ℕ, ◌+◌, ◌*◌, ◌/◌, ◌%◌, ◌<◌, ◌≤◌, length, get_or, set, take, drop, replicate}
use Rattle.std.proofs.Common.{sym, ◌∙◌, ap, arith, div-add-mod', div-lt_iff_lt-mul, mod-lt, length-set, take-append-drop, get_or-set_same, get_or-set_other, get_or-take, length-take-le, drop-set-lt, ext_get_or}
use Rattle.std.proofs.Math.Decide.{ℕ_discrete}
use Rattle.std.proofs.lemmas.List.{get_or-replicate}
use Rattle.std.proofs.lemmas.Bool.{false≢true}
use Rattle.operation.specs.Meaning.{motion_of}
use Rattle.operation.specs.declared.Operation.{Operation}
use Rattle.centering.specs.declared.Centering.{Centering}
use Rattle.group_record.specs.Groups.{Allowed, Listing}
use Rattle.subgroup_laws.specs.Table.{product}
use Rattle.group_table.specs.Tables.{table_of, overlaid}
use Rattle.group_table.specs.StepTables.{divisor}
use Rattle.group_table.specs.TableGroups.{group-table}
use Rattle.group_table.specs.declared.record.FilledColumns.{FilledColumns}

-- ---- what is filled
-- A table of n rows whose products are indices and associate.
pub record Products (n : ℕ) (table : List ℕ) : Type 0 where
  pub few : n ≤ 48
  pub below : (i j : ℕ) → i < n → j < n → get_or table (i * n + j) 0 < n
  pub associative : (i j k : ℕ) → i < n → j < n → k < n → get_or table (get_or table (i * n + j) 0 * n + k) 0
      ≡ get_or table (i * n + get_or table (j * n + k) 0) 0

-- Column j of the cells holds the products with the right factor j.
abbrev pub Correct : ℕ → List ℕ → List ℕ → ℕ → Type 0
Correct n table cells j = (j < n) × ((i : ℕ) → i < n → get_or cells (i * n + j) 0 ≡ get_or table (i * n + j) 0)

-- What is noted as filled is: the members, and what is known.
pub record Sound (n : ℕ) (table cells : List ℕ) (filled : FilledColumns) : Type 0 where
  pub broad : length filled.known ≡ 48
  pub wide : length filled.members ≡ 48
  pub few : filled.count ≤ 48
  pub member : (t : ℕ) → t < filled.count → Correct n table cells (get_or filled.members t 0)
  pub sure : (k : ℕ) → k < n → get_or filled.known k false ≡ true → Correct n table cells k

-- No cell that was right is lost.
abbrev pub Kept : List ℕ → List ℕ → List ℕ → Type 0
Kept table before after = (k : ℕ) → get_or before k 0 ≡ get_or table k 0 → get_or after k 0 ≡ get_or table k 0

-- There are as many slots as before, and those behind the table are as they were.
pub record Within (n : ℕ) (before after : List ℕ) : Type 0 where
  pub long : length after ≡ length before
  pub behind : drop (n * n) after ≡ drop (n * n) before

-- One column more is noted as filled.
abbrev pub Noted : FilledColumns → ℕ → FilledColumns → Type 0
Noted filled j wider = (n : ℕ) (table cells : List ℕ) → Sound n table cells filled → Correct n table cells j → Sound n table cells wider

-- ---- what goes on from there
-- The columns of p and g are there, and q is their product.
pub record Composing (n : ℕ) (table cells : List ℕ) (p g q : ℕ) : Type 0 where
  pub products : Products n table
  pub room : n * n ≤ length cells
  pub first : Correct n table cells p
  pub second : Correct n table cells g
  pub leads : get_or table (p * n + g) 0 ≡ q

-- For some table it starts so, and for every such table it ends so.
abbrev pub Composable : ℕ → List ℕ → ℕ → ℕ → ℕ → Type 0
Composable n cells p g q = (table : List ℕ) × Composing n table cells p g q

abbrev pub ComposedTo : ℕ → List ℕ → ℕ → ℕ → ℕ → List ℕ → Type 0
ComposedTo n cells p g q after = Within n cells after × ((table : List ℕ) → Composing n table cells p g q → Kept table cells after × Correct n table after q)

-- Some columns are there, and among them those of generators.
pub record Widening (n : ℕ) (table cells : List ℕ) (filled : FilledColumns) (generators : List ℕ) : Type 0 where
  pub products : Products n table
  pub room : n * n ≤ length cells
  pub sound : Sound n table cells filled
  pub generator : (s : ℕ) → s < length generators → Correct n table cells (get_or generators s 0)

abbrev pub Widenable : ℕ → List ℕ → FilledColumns → List ℕ → Type 0
Widenable n cells filled generators = (table : List ℕ) × Widening n table cells filled generators

-- Right cells stay, and as many slots.
pub record Widened (n : ℕ) (table cells after : List ℕ) (filled : FilledColumns) : Type 0 where
  pub sound : Sound n table after filled
  pub kept : Kept table cells after

abbrev pub WidenedTo : ℕ → List ℕ → FilledColumns → List ℕ → List ℕ → FilledColumns → Type 0
WidenedTo n cells filled generators after wider =
    Within n cells after × ((table : List ℕ) → Widening n table cells filled generators → Widened n table cells after wider)

-- ---- cells on the way
-- No column is noted at first.
abbrev pub none_filled : FilledColumns
none_filled = record { known = replicate 48 false; members = replicate 48 0; count = 0 }

nothing-sound : (n : ℕ) (table cells : List ℕ) → n ≤ 48 → Sound n table cells none_filled
nothing-sound n table cells few =
    record {
      broad = refl;
      wide = refl;
      few = omega arith;
      member = λ t h. absurd (omega arith);
      sure = λ k h is. absurd (false≢true (sym (get_or-replicate {A = Bool} 48 k false false (omega arith)) ∙ is));
    }

pub within_same : (n : ℕ) (cells : List ℕ) → Within n cells cells
within_same n cells = record { long = refl; behind = refl }

pub within-onward : (n : ℕ) (cells more after : List ℕ) → Within n cells more → Within n more after → Within n cells after
within-onward n cells more after first then = record { long = then.long ∙ first.long; behind = then.behind ∙ first.behind }

pub within-set : (n : ℕ) (cells : List ℕ) (at x : ℕ) → at < n * n → Within n cells (set cells at x)
within-set n cells at x h = record { long = length-set cells at x; behind = drop-set-lt (n * n) cells at x h }

module _ (table cells : List ℕ) where
  -- A cell that is set right loses none,
  pub set-kept : (at x : ℕ) → at < length cells → x ≡ get_or table at 0 → Kept table cells (set cells at x)
  set-kept at x inside e k right = elim (ℕ_discrete k at) [
    | yes q ↦ rw (q, get_or-set_same cells at x 0 inside) e
    | no q ↦ get_or-set_other cells at k x 0 q ∙ right
  ]

  module _ (n : ℕ) (after : List ℕ) (kept : Kept table cells after) where
    -- no column is lost then,
    pub correct-kept : (k : ℕ) → Correct n table cells k → Correct n table after k
    correct-kept k (h, C) = (h, λ i lt. kept (i * n + k) (C i lt))

    -- and what was filled is.
    pub sound-kept : (filled : FilledColumns) → Sound n table cells filled → Sound n table after filled
    sound-kept filled S =
        record {
          broad = S.broad;
          wide = S.wide;
          few = S.few;
          member = λ t h. correct-kept (get_or filled.members t 0) (S.member t h);
          sure = λ k h is. correct-kept k (S.sure k h is);
        }

-- One cell more of a column.
pub column-next : (n : ℕ) (table cells : List ℕ) (j i x : ℕ) → i < n → i * n + j < length cells → x ≡ get_or table (i * n + j) 0
    → ((k : ℕ) → k < i → get_or cells (k * n + j) 0 ≡ get_or table (k * n + j) 0)
    → (k : ℕ) → k < i + 1 → get_or (set cells (i * n + j) x) (k * n + j) 0 ≡ get_or table (k * n + j) 0
column-next n table cells j i x h inside e before k lt = elim (ℕ_discrete k i) [
  | yes q ↦ rw (q, get_or-set_same cells (i * n + j) x 0 inside) e
  | no q ↦ set-kept table cells (i * n + j) x inside e (k * n + j) (before k (omega arith))
]

-- A column that is filled may be noted.
abbrev pub noted : FilledColumns → ℕ → FilledColumns
noted filled q = record { known = set filled.known q true; members = set filled.members filled.count q; count = filled.count + 1 }

pub sound-next : (filled : FilledColumns) (q : ℕ) → filled.count < 48 → Noted filled q (noted filled q)
sound-next filled q room n table cells S C =
    record {
      broad = length-set filled.known q true ∙ S.broad;
      wide = length-set filled.members filled.count q ∙ S.wide;
      few = omega arith;
      member = λ t lt. elim (ℕ_discrete t filled.count) [
        | yes e ↦ rw (e, get_or-set_same filled.members filled.count q 0 (omega (arith, S.wide))) C
        | no e ↦ rw (get_or-set_other filled.members filled.count t q 0 e) (S.member t (omega arith))
      ];
      sure = λ k lt is. elim (ℕ_discrete k q) [
        | yes e ↦ rw e C
        | no e ↦ S.sure k lt (sym (get_or-set_other filled.known q k true false e) ∙ is)
      ];
    }

-- ---- a column composed of two
module _ (n : ℕ) (table cells : List ℕ) (p g q : ℕ) (D : Composing n table cells p g q) (now : List ℕ) (kept : Kept table cells now) (i : ℕ) (h : i < n) where
  -- What the column of p holds is an index,
  first-is : get_or now (i * n + p) 0 ≡ get_or table (i * n + p) 0
  first-is = kept (i * n + p) (D.first.1 i h)

  pub first_below : get_or now (i * n + p) 0 < n
  first_below = rw first-is (D.products.below i p h D.first.0)

  -- and what stands at it in the column of g is the product with q.
  pub through-both : get_or now (get_or now (i * n + p) 0 * n + g) 0 ≡ get_or table (i * n + q) 0
  through-both =
      kept (get_or now (i * n + p) 0 * n + g) (D.second.1 (get_or now (i * n + p) 0) first_below)
      ∙ ap (λ (x : ℕ). get_or table (x * n + g) 0) first-is
      ∙ D.products.associative i p g h D.first.0 D.second.0
      ∙ ap (λ (x : ℕ). get_or table (i * n + x) 0) D.leads

-- A product is an index.
pub composing-below : (n : ℕ) (table cells : List ℕ) (p g q : ℕ) → Composing n table cells p g q → q < n
composing-below n table cells p g q D = rw D.leads at (D.products.below p g D.first.0 D.second.0)

-- ---- the table of allowed operations
module _ (c : Centering) (n : ℕ) (operations : List Operation) (there : n ≤ length operations) (few : n ≤ 48) (L : Listing (take n operations))
    (A : Allowed c (map motion_of (take n operations))) where
  count : length (take n operations) ≡ n
  count = length-take-le n operations there

  -- Its products are indices and associate.
  pub allowed-products : Products n (table_of c (take n operations))
  unfolding product
  allowed-products =
      let G = (group-table c L A).group in
      record {
        few = few;
        below = λ i j h k. rw count at (G.product-below i j (omega (arith, count)) (omega (arith, count)));
        associative = λ i j k a b e. rw count at (G.associative i j k (omega (arith, count)) (omega (arith, count)) (omega (arith, count)));
      }

-- ---- all columns
-- What is filled when the columns before j are: among all those of generators, the first m of their slots.
pub record Filling (n : ℕ) (table cells : List ℕ) (filled : FilledColumns) (generators : List ℕ) (m j : ℕ) : Type 0 where
  pub sound : Sound n table cells filled
  pub generator : (s : ℕ) → s < m → Correct n table cells (get_or generators s 0)
  pub before : (k : ℕ) → k < j → Correct n table cells k

-- What is filled while column j is: its first i cells too.
pub record FillingColumn (n : ℕ) (table cells : List ℕ) (filled : FilledColumns) (generators : List ℕ) (m i j : ℕ) : Type 0 where
  pub whole : Filling n table cells filled generators m j
  pub begun : (k : ℕ) → k < i → get_or cells (k * n + j) 0 ≡ get_or table (k * n + j) 0

-- Nothing is at first,
pub filling-none : (n : ℕ) (table cells generators : List ℕ) → n ≤ 48 → Filling n table cells none_filled generators 0 0
filling-none n table cells generators few =
    record {
      sound = nothing-sound n table cells few;
      generator = λ s h. absurd (omega arith);
      before = λ k h. absurd (omega arith);
    }

module _ (n : ℕ) (table cells : List ℕ) (filled : FilledColumns) (generators : List ℕ) (m j : ℕ) where
  -- a column that is known is passed over,
  pub filling-known : j < n → get_or filled.known j false ≡ true → Filling n table cells filled generators m j
      → Filling n table cells filled generators m (j + 1)
  filling-known h is F =
      record {
        sound = F.sound;
        generator = F.generator;
        before = λ k lt. elim (ℕ_discrete k j) [
          | yes e ↦ rw e (F.sound.sure j h is)
          | no e ↦ F.before k (omega arith)
        ];
      }

  -- another is begun,
  pub filling-begun : Filling n table cells filled generators m j → FillingColumn n table cells filled generators m 0 j
  filling-begun F = record { whole = F; begun = λ k lt. absurd (omega arith) }

  module _ (i : ℕ) (F : FillingColumn n table cells filled generators m i j) where
    -- filled cell by cell,
    pub filling-cell : i < n → (x : ℕ) → i * n + j < length cells → x ≡ get_or table (i * n + j) 0
        → FillingColumn n table (set cells (i * n + j) x) filled generators m (i + 1) j
    filling-cell h x inside e =
        let kept = set-kept table cells (i * n + j) x inside e in
        let after = set cells (i * n + j) x in
        let W = F.whole in
        record {
          whole = record {
            sound = sound-kept table cells n after kept filled W.sound;
            generator = λ s lt. correct-kept table cells n after kept (get_or generators s 0) (W.generator s lt);
            before = λ k lt. correct-kept table cells n after kept k (W.before k lt);
          };
          begun = column-next n table cells j i x h inside e F.begun;
        }

    -- and is filled at its end;
    filling-column : j < n → n ≤ i → Correct n table cells j
    filling-column h all = (h, λ k lt. F.begun k (omega arith))

    -- by it others are.
    module _ (P : Products n table) (room : n * n ≤ length cells) (long : length generators ≡ 48) (short : m < 48) (h : j < n) (all : n ≤ i)
        (wider : FilledColumns) (N : Noted filled j wider) where
      pub filling-widens : Widening n table cells wider (take (m + 1) (set generators m j))
      filling-widens =
          let count = length-take-le (m + 1) (set generators m j) (omega (arith, length-set generators m j)) in
          record {
            products = P;
            room = room;
            sound = N n table cells F.whole.sound (filling-column h all);
            generator = λ s lt. rw (get_or-take (m + 1) (set generators m j) s 0 (omega arith)) (generator-next s (omega arith));
          }
        where
          generator-next : (s : ℕ) → s < m + 1 → Correct n table cells (get_or (set generators m j) s 0)
          generator-next s lt = elim (ℕ_discrete s m) [
            | yes e ↦ rw (e, get_or-set_same generators m j 0 (omega (arith, long))) (filling-column h all)
            | no e ↦ rw (get_or-set_other generators m s j 0 e) (F.whole.generator s (omega arith))
          ]

      pub filling-next : (after : List ℕ) (widest : FilledColumns) → WidenedTo n cells wider (take (m + 1) (set generators m j)) after widest
          → Filling n table after widest (set generators m j) (m + 1) (j + 1)
      filling-next after widest D =
          let W = D.1 table filling-widens in
          let kept = W.kept in
          record {
            sound = W.sound;
            generator = λ s lt. elim (ℕ_discrete s m) [
              | yes e ↦ rw (e, get_or-set_same generators m j 0 (omega (arith, long))) (correct-kept table cells n after kept j (filling-column h all))
              | no e ↦ rw (get_or-set_other generators m s j 0 e)
                  (correct-kept table cells n after kept (get_or generators s 0) (F.whole.generator s (omega arith)))
            ];
            before = λ k lt. elim (ℕ_discrete k j) [
              | yes e ↦ rw e (correct-kept table cells n after kept j (filling-column h all))
              | no e ↦ correct-kept table cells n after kept k (F.whole.before k (omega arith))
            ];
          }

-- When every column is filled, the cells are the table.
pub all-filled : (n : ℕ) (table lent cells : List ℕ) → length table ≡ n * n → n * n ≤ length lent → Within n lent cells
    → ((k : ℕ) → k < n → Correct n table cells k) → cells ≡ overlaid table lent
all-filled n table lent cells size room W all =
    let front : take (n * n) cells ≡ table =
    ext_get_or 0 (take (n * n) cells) table (length-take-le (n * n) cells (omega (arith, W.long)) ∙ sym size) cell in
    sym (take-append-drop (n * n) cells) ∙ ap (λ (l : List ℕ). l ++ drop (n * n) cells) front
    ∙ ap (λ (l : List ℕ). table ++ l) W.behind ∙ ap (λ (k : ℕ). table ++ drop k lent) (sym size)
  where
    cell : (k : ℕ) → k < length (take (n * n) cells) → get_or (take (n * n) cells) k 0 ≡ get_or table k 0
    cell k lt =
        let low : k < n * n = omega (arith, length-take-le (n * n) cells (omega (arith, W.long))) in
        let positive = divisor k n n low in
        let right = (all (k % n) (mod-lt k positive)).1 (k / n) ((div-lt_iff_lt-mul positive).1 low) in
        get_or-take (n * n) cells k 0 low ∙ rw (div-add-mod' k n) at right
