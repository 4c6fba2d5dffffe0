-- What the code's four tests for a point say: the points are filled up to four with (0,0,0), so the tests find a point exactly if there is one.
use Rattle.std.specs.Prelude.{◌≡◌, refl, Bool, true, false, ◌&&◌, ◌||◌, List, [], ◌∷◌, map, ℕ, zero, suc, min, ◌-◌, ◌<◌, T, eqb, get_or, take, drop}
use Rattle.std.specs.List.{list_any, list_all}
use Rattle.std.proofs.Math.Path.{sym, ap}
use Rattle.std.proofs.Common.{◌∙◌, ◌+◌, add-one, arith, eq-eqb, ne_eqb, eqb-true, eqb→eq, true≢false}
use Rattle.std.proofs.Math.Bool.{or-false}
use Rattle.std.proofs.Math.ListN.{length}
use Rattle.std.proofs.Math.Seq.{drop-cons, drop-length}
use Rattle.laws.specs.Residue.{Triple, ◌⊕◌, ⊕-reduced}
use Rattle.laws.specs.Distinct.{has}
use Rattle.laws.specs.Lattice.{same_triple, filled, has-filled-same, rank, unrank, rank_lt, least_rank, smallest, smallest-filled}
use Rattle.laws.specs.Truth.{all, all-member, or-holds-right}
use Rattle.operation.specs.declared.Translation.{Translation}
use Rattle.centering.specs.Letters.{letters, points_of}
use Rattle.centering.specs.Lattices.{listed, points, triple_of, translation_of, lattice_points_of, smallest_of}
use Rattle.centering.specs.declared.Centering.{Centering}
use Rattle.centering.specs.declared.Centering.TheVariants.{P, A, B, C, I, R, F, H}
use Rattle.centering.specs.declared.LatticePoints.{LatticePoints}

-- Two triples that agree in x and y are the same exactly if they agree in z.
pub same-by-last : (s t : Triple) → s.x ≡ t.x → s.y ≡ t.y → eqb s.z t.z ≡ same_triple s t
unfolding same_triple
same-by-last s t p q = rw (eq-eqb s.x t.x p, eq-eqb s.y t.y q)

four-test : T (all (λ c. eqb (length (filled 4 (points_of c))) 4) letters)
unfolding all filled
four-test = tt

back-again : (l : List Triple) → map triple_of (map translation_of l) ≡ l
back-again [] = refl
back-again (t ∷ l) = ap (λ r. t ∷ r) (back-again l)

length-points : (l : List Triple) → length (map translation_of l) ≡ length l
length-points [] = refl
length-points (t ∷ l) = ap suc (length-points l)

-- There are four, and a triple is among them exactly if it is a point.
pub four-points : (c : Centering) → length (lattice_points_of c).points ≡ 4
unfolding lattice_points_of
four-points c =
    length-points (filled 4 (points_of c)) ∙ eqb→eq _ _ (all-member (λ c. eqb (length (filled 4 (points_of c))) 4) four-test (listed c))

pub among-points : (c : Centering) (u : Triple) → has same_triple u (map triple_of (lattice_points_of c).points) ≡ has same_triple u (points_of c)
unfolding lattice_points_of
among-points c u = ap (has same_triple u) (back-again (filled 4 (points_of c))) ∙ has-filled-same (points_of c) (points c) 4 u

pub found : (l : List Translation) (u : Triple) (d : Translation) (i : ℕ) → i < length l → same_triple u (triple_of (get_or l i d)) ≡ true
    → has same_triple u (map triple_of l) ≡ true
unfolding has
found (t ∷ l) u d zero h e = rw e refl
found (t ∷ l) u d (suc i) h e = or-holds-right (same_triple u (triple_of t)) _ (found l u d i (omega arith) e)
found [] u d i h e = elim h [ ]

pub fourth : (l : List Translation) (u : Triple) (d : Translation) → length l ≡ 4 → same_triple u (triple_of (get_or l 0 d)) ≡ false
    → same_triple u (triple_of (get_or l 1 d)) ≡ false → same_triple u (triple_of (get_or l 2 d)) ≡ false
    → has same_triple u (map triple_of l) ≡ same_triple u (triple_of (get_or l 3 d))
unfolding has
fourth (p ∷ q ∷ r ∷ s ∷ []) u d h e f g = rw (e, f, g) (or-false (same_triple u (triple_of s)))
fourth [] u d h e f g = absurd (omega arith)
fourth (p ∷ []) u d h e f g = absurd (omega arith)
fourth (p ∷ q ∷ []) u d h e f g = absurd (omega arith)
fourth (p ∷ q ∷ r ∷ []) u d h e f g = absurd (omega arith)
fourth (p ∷ q ∷ r ∷ s ∷ t ∷ l) u d h e f g = absurd (omega arith)

-- The same of what `lattice_points` answers.
module _ (c : Centering) (r : LatticePoints) (answer : r ≡ lattice_points_of c) (u : Triple) (d : Translation) where
  four : length r.points ≡ 4
  four = ap (λ (p : LatticePoints). length p.points) answer ∙ four-points c

  among : has same_triple u (map triple_of r.points) ≡ has same_triple u (points_of c)
  among = ap (λ (p : LatticePoints). has same_triple u (map triple_of p.points)) answer ∙ among-points c u

  pub search-found : (i : ℕ) → i < 4 → same_triple u (triple_of (get_or r.points i d)) ≡ true → true ≡ has same_triple u (points_of c)
  search-found i h e = sym (sym among ∙ found r.points u d i (omega (arith, four)) e)

  pub search-fourth : same_triple u (triple_of (get_or r.points 0 d)) ≡ false → same_triple u (triple_of (get_or r.points 1 d)) ≡ false
      → same_triple u (triple_of (get_or r.points 2 d)) ≡ false → same_triple u (triple_of (get_or r.points 3 d)) ≡ has same_triple u (points_of c)
  search-fourth e f g = sym (sym among ∙ fourth r.points u d four e f g)

-- ---- the smallest triple
smallest-points : (c : Centering) (u : Triple) → unrank (least_rank (map triple_of (lattice_points_of c).points) u) ≡ smallest (points_of c) u
unfolding lattice_points_of smallest
smallest-points c u = ap (λ l. unrank (least_rank l u)) (back-again (filled 4 (points_of c))) ∙ smallest-filled (points_of c) (points c) 4 u

-- The least rank over four is the least of the four ranks.
least-of-four : (l : List Translation) (u : Triple) (d : Translation) → length l ≡ 4
    → least_rank (map triple_of l) u ≡ min (rank (u ⊕ triple_of (get_or l 0 d))) (min (rank (u ⊕ triple_of (get_or l 1 d)))
    (min (rank (u ⊕ triple_of (get_or l 2 d))) (rank (u ⊕ triple_of (get_or l 3 d)))))
unfolding least_rank
least-of-four (p ∷ q ∷ r ∷ s ∷ []) u d h =
    let last : min (rank (u ⊕ triple_of s)) 1728 ≡ rank (u ⊕ triple_of s) = omega (arith, rank_lt (u ⊕ triple_of s) (⊕-reduced u (triple_of s))) in
    rw last
least-of-four [] u d h = absurd (omega arith)
least-of-four (p ∷ []) u d h = absurd (omega arith)
least-of-four (p ∷ q ∷ []) u d h = absurd (omega arith)
least-of-four (p ∷ q ∷ r ∷ []) u d h = absurd (omega arith)
least-of-four (p ∷ q ∷ r ∷ s ∷ t ∷ l) u d h = absurd (omega arith)

module _ (c : Centering) (r : LatticePoints) (answer : r ≡ lattice_points_of c) (t d : Translation) where
  -- What the code makes of the four ranks is the smallest triple of the class.
  pub smallest-of-four : (n : ℕ) → n ≡ min (rank (triple_of t ⊕ triple_of (get_or r.points 0 d))) (min
      (rank (triple_of t ⊕ triple_of (get_or r.points 1 d))) (min (rank (triple_of t ⊕ triple_of (get_or r.points 2 d)))
      (rank (triple_of t ⊕ triple_of (get_or r.points 3 d))))) → translation_of (unrank n) ≡ smallest_of c t
  unfolding smallest_of
  smallest-of-four n e =
      ap translation_of
      (ap unrank (e ∙ sym (least-of-four r.points (triple_of t) d (ap (λ (p : LatticePoints). length p.points) answer ∙ four-points c))) ∙ whole)
    where
      whole : unrank (least_rank (map triple_of r.points) (triple_of t)) ≡ smallest (points_of c) (triple_of t)
      whole = ap (λ (p : LatticePoints). unrank (least_rank (map triple_of p.points) (triple_of t))) answer ∙ smallest-points c (triple_of t)

-- ---- the library's searches through the points
eqb-flipped : (a b : ℕ) → eqb a b ≡ eqb b a
eqb-flipped a b = go (eqb a b) refl
  where
    go : (t : Bool) → eqb a b ≡ t → eqb a b ≡ eqb b a
    go true e = e ∙ sym (eq-eqb b a (sym (eqb-true a b e)))
    go false e = e ∙ sym (ne_eqb b a (λ h. true≢false (sym (eq-eqb a b (sym h)) ∙ e)))

-- Two translations are equal exactly if their triples are.
pub same-flipped : (s t : Translation) → (eqb s.x t.x && (eqb s.y t.y && eqb s.z t.z)) ≡ same_triple (triple_of t) (triple_of s)
unfolding same_triple
same-flipped s t = rw (eqb-flipped s.x t.x, eqb-flipped s.y t.y, eqb-flipped s.z t.z)

any-has : (same : Translation → Bool) (u : Triple) → ((s : Translation) → same s ≡ same_triple u (triple_of s)) → (l : List Translation)
    → list_any same l ≡ has same_triple u (map triple_of l)
unfolding has
any-has same u e [] = refl
any-has same u e (s ∷ l) = rw (e s) (ap (λ (b : Bool). same_triple u (triple_of s) || b) (any-has same u e l))

-- Each point passes exactly if its triple does.
pub all-points : (test : Translation → Bool) (pass : Triple → Bool) → ((s : Translation) → test s ≡ pass (triple_of s)) → (l : List Translation)
    → list_all test l ≡ all pass (map triple_of l)
unfolding all
all-points test pass e [] = refl
all-points test pass e (s ∷ l) = rw (e s) (ap (λ (b : Bool). pass (triple_of s) && b) (all-points test pass e l))

-- The points behind the first, and no more than there are.
pub others-listed : (c : Centering) → map triple_of (take ((lattice_points_of c).count - 1) (drop 1 (lattice_points_of c).points)) ≡ drop 1 (points_of c)
unfolding lattice_points_of filled
others-listed P = refl
others-listed A = refl
others-listed B = refl
others-listed C = refl
others-listed I = refl
others-listed R = refl
others-listed F = refl
others-listed H = refl

module _ (c : Centering) (r : LatticePoints) (answer : r ≡ lattice_points_of c) where
  pub found-among : (same : Translation → Bool) (t : Translation) → ((s : Translation) → same s ≡ same_triple (triple_of t) (triple_of s))
      → list_any same r.points ≡ has same_triple (triple_of t) (points_of c)
  found-among same t e =
      any-has same (triple_of t) e r.points ∙ ap (λ (p : LatticePoints). has same_triple (triple_of t) (map triple_of p.points)) answer
      ∙ among-points c (triple_of t)

  pub others-pass : (test : Translation → Bool) (pass : Triple → Bool) → ((s : Translation) → test s ≡ pass (triple_of s))
      → list_all test (take (r.count - 1) (drop 1 r.points)) ≡ all pass (drop 1 (points_of c))
  others-pass test pass e =
      all-points test pass e (take (r.count - 1) (drop 1 r.points))
      ∙ ap (λ (p : LatticePoints). all pass (map triple_of (take (p.count - 1) (drop 1 p.points)))) answer ∙ ap (all pass) (others-listed c)

  -- What is left behind the first point, as the loop sees it.
  pub rest-listed : take 3 (drop 1 r.points) ≡ drop 1 (lattice_points_of c).points
  unfolding lattice_points_of filled
  rest-listed = ap (λ (p : LatticePoints). take 3 (drop 1 p.points)) answer ∙ three c
    where
      three : (c : Centering) → take 3 (drop 1 (lattice_points_of c).points) ≡ drop 1 (lattice_points_of c).points
      three P = refl
      three A = refl
      three B = refl
      three C = refl
      three I = refl
      three R = refl
      three F = refl
      three H = refl

-- ---- the least rank, a point at a time
pub least-first : (c : Centering) (u : Triple) (d : Translation) → min (rank (u ⊕ triple_of (get_or (lattice_points_of c).points 0 d)))
    (least_rank (map triple_of (drop 1 (lattice_points_of c).points)) u) ≡ least_rank (map triple_of (lattice_points_of c).points) u
unfolding least_rank
least-first c u d = go (lattice_points_of c).points (four-points c)
  where
    go : (l : List Translation) → length l ≡ 4
        → min (rank (u ⊕ triple_of (get_or l 0 d))) (least_rank (map triple_of (drop 1 l)) u) ≡ least_rank (map triple_of l) u
    go [] h = absurd (omega arith)
    go (p ∷ l) h = refl

pub least-next : (l : List Translation) (u : Triple) (i : ℕ) → i < length l → least_rank (map triple_of (drop i l)) u
    ≡ min (rank (u ⊕ triple_of (get_or l i (record { x = 0; y = 0; z = 0 })))) (least_rank (map triple_of (drop (i + 1) l)) u)
unfolding least_rank
least-next l u i h = rw (add-one i, drop-cons l i (record { x = 0; y = 0; z = 0 }))

pub least_end : (l : List Translation) (u : Triple) → least_rank (map triple_of (drop (length l) l)) u ≡ 1728
unfolding least_rank
least_end l u = rw drop-length

pub least-smallest : (c : Centering) (t : Translation) (n : ℕ) → n ≡ least_rank (map triple_of (lattice_points_of c).points) (triple_of t)
    → translation_of (unrank n) ≡ smallest_of c t
unfolding smallest_of
least-smallest c t n e = ap translation_of (ap unrank e ∙ smallest-points c (triple_of t))
