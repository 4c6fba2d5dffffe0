-- Which integer matrices map a lattice onto itself: exactly those of determinant 1 or −1 that take its points to points.
-- Into and invertible gives onto, since an injection of the finitely many points is onto; onto gives determinant ±1, since all powers are onto too.
use Rattle.std.specs.Prelude.{◌≡◌, refl, ◌⊎◌, ◌↔◌, Bool, ℕ, zero, suc, ◌*◌, ◌^◌, T, ℤ, pos, negsuc, neg_ℤ, nat_abs}
use Rattle.std.proofs.Math.Path.{sym}
use Rattle.std.proofs.Common.{◌∙◌, ap, inl, inr, arith, mul-le-mul, mul-zero}
use mathlib.Core.List.Memᴰ.{cast as mem-cast}
use mathlib.Core.List.Memᴰ.{of_map as mem-of-map}
use mathlib.Core.List.{List, Memᴰ as Mem}
use Rattle.std.proofs.Math.Nat.{pow-zero, pow-succ', pow-le-pow_left}
use Rattle.std.proofs.Math.IntN.{one}
use Rattle.laws.specs.Integer.{nought, ◌⊖◌, natAbs-*ℤ}
use Rattle.laws.specs.Matrix.{Matrix, Vector, act, times, unit, scalar, inverse, determinant, Unimodular, act-times, act-unit, times-inverse, inverse-times, determinant-times}
use Rattle.laws.specs.Residue.{residue, Triple, Reduced, reduced, lifted, turned, reduced-act, reduced-lifted, turned-times, turned-unit}
use Rattle.laws.specs.Distinct.{has, Equivalence, equality-equivalence, has→Mem, Mem→has, injection-onto}
use Rattle.laws.specs.Lattice.{same_triple, triple-decides, Points, InLattice}
use Rattle.laws.specs.Truth.{all, all-member, member-all}

abbrev pub MapsInto : List Triple → Matrix → Type 0
MapsInto l R = (v : Vector) → InLattice l v → InLattice l (act R v)

abbrev pub Reaches : List Triple → Matrix → Type 0
Reaches l R = (w : Vector) → InLattice l w → (v : Vector) × InLattice l v × (act R v ≡ w)

-- R maps the lattice onto itself.
abbrev pub MapsOnto : List Triple → Matrix → Type 0
MapsOnto l R = MapsInto l R × Reaches l R

-- The test over the points.
unfoldable pub keeps_points : List Triple → Matrix → Bool
keeps_points l R = all (λ p. has same_triple (turned R p) l) l

module _ (l : List Triple) (L : Points l) where
  -- Points go to points exactly if the lattice goes into itself.
  pub keeps-into : (R : Matrix) → T (keeps_points l R) ↔ MapsInto l R
  unfolding keeps_points
  keeps-into R = (
    (λ t v m. mem-cast (reduced-act R v) (has→Mem same_triple triple-decides (all-member (λ p. has same_triple (turned R p) l) t m))),
    λ into. member-all _ l (λ p m.
        Mem→has same_triple (equality-equivalence same_triple triple-decides)
        (mem-cast (ap (turned R) (sym (reduced-lifted p (L.below m))) ∙ sym (reduced-act R (lifted p)))
        (into (lifted p) (mem-cast (reduced-lifted p (L.below m)) m)))),
  )

  into-point : (R : Matrix) → MapsInto l R → (p : Triple) → Mem p l → T (has same_triple (turned R p) l)
  unfolding keeps_points
  into-point R into p m = all-member (λ q. has same_triple (turned R q) l) ((keeps-into R).1 into) m

  -- A matrix of determinant 1 or −1 that maps the lattice into itself maps it onto itself.
  pub into-onto : (R : Matrix) → Unimodular R → MapsInto l R → MapsOnto l R
  into-onto R h into = (into, λ w m. (act (inverse R) w, back w m, sym (act-times R (inverse R) w) ∙ ap (λ A. act A w) (times-inverse R h) ∙ act-unit w))
    where
      undone : (p : Triple) → Reduced p → turned (inverse R) (turned R p) ≡ p
      undone p k = sym (turned-times (inverse R) R p) ∙ ap (λ A. turned A p) (inverse-times R h) ∙ turned-unit p k

      injective : (p q : Triple) → Mem p l → Mem q l → T (same_triple (turned R p) (turned R q)) → T (same_triple p q)
      injective p q m k t =
          let e : p ≡ q = sym (undone p (L.below m)) ∙ ap (turned (inverse R)) (triple-decides.exact (turned R p) (turned R q) t) ∙ undone q (L.below k) in
          rw e (triple-decides.reflexive q)

      same : Equivalence same_triple
      same = equality-equivalence same_triple triple-decides

      back : (w : Vector) → InLattice l w → InLattice l (act (inverse R) w)
      back w m =
          let hit =
          injection-onto same_triple same (turned R) l injective L.distinct
          (into-point R into) (reduced w) (Mem→has same_triple same m) in
          let (p, k, e) = mem-of-map (turned R) l (has→Mem same_triple triple-decides hit) in
          mem-cast (reduced-act (inverse R) w ∙ ap (turned (inverse R)) (sym e) ∙ undone p (L.below k)) k

-- ---- the other way: what maps the lattice onto itself has determinant 1 or −1
-- The n-th power of a matrix.
unfoldable pub power : Matrix → ℕ → Matrix
power R zero = unit
power R (suc n) = times R (power R n)

power-reaches : (l : List Triple) (R : Matrix) → Reaches l R → (n : ℕ) → Reaches l (power R n)
unfolding power
power-reaches l R onto zero w m = (w, m, act-unit w)
power-reaches l R onto (suc n) w m =
    let (u, k, e) = onto w m in
    let (v, j, f) = power-reaches l R onto n u k in
    (v, j, act-times R (power R n) v ∙ ap (act R) f ∙ e)

abs-unit : nat_abs (determinant unit) ≡ 1
unfolding determinant unit ◌⊖◌ one nought
abs-unit = refl

abs-power : (R : Matrix) (n : ℕ) → nat_abs (determinant (power R n)) ≡ nat_abs (determinant R) ^ n
unfolding power
abs-power R zero = abs-unit ∙ sym (pow-zero (nat_abs (determinant R)))
abs-power R (suc n) = ap nat_abs (determinant-times R (power R n)) ∙ natAbs-*ℤ (determinant R) (determinant (power R n))
    ∙ ap (λ (k : ℕ). nat_abs (determinant R) * k) (abs-power R n) ∙ sym (pow-succ' (nat_abs (determinant R)) n)

-- Three times the edge of twelve: 12³ = 1728.
abs-cells : nat_abs (determinant (scalar (pos 12))) ≡ 1728
unfolding determinant ◌⊖◌ nought
abs-cells = refl

abs-one : (e : ℤ) → nat_abs e ≡ 1 → (e ≡ one) ⊎ (e ≡ neg_ℤ one)
unfolding one
abs-one (pos n) h = inl (ap pos h)
abs-one (negsuc n) h = let z : n ≡ 0 = omega arith in inr (ap negsuc z)

-- A number whose eleventh power divides 1728 is 1: 2¹¹ is 2048.
eleventh-power : (d k : ℕ) → d ^ 11 * k ≡ 1728 → d ≡ 1
eleventh-power zero k h = absurd (omega arith)
eleventh-power (suc zero) k h = refl
eleventh-power (suc (suc d)) zero h = absurd (omega (arith, mul-zero (suc (suc d) ^ 11)))
eleventh-power (suc (suc d)) (suc k) h =
    absurd (omega (
      arith,
      mul-le-mul {n₁ = 2 ^ 11} {m₁ = 1} {n₂ = suc (suc d) ^ 11} {m₂ = suc k}
          (pow-le-pow_left {n = 2} {m = suc (suc d)} (omega arith) 11) (omega arith),
    ))

-- Three vectors as the columns of a matrix.
columns : Vector → Vector → Vector → Matrix
columns a b c =
    record { xx = a.x; xy = b.x; xz = c.x; yx = a.y; yy = b.y; yz = c.y; zx = a.z; zy = b.z; zz = c.z }

times-columns : (R : Matrix) (a b c : Vector) → times R (columns a b c) ≡ columns (act R a) (act R b) (act R c)
unfolding times columns act
times-columns R a b c = refl

edge-x : Vector
edge-x = record { x = pos 12; y = nought; z = nought }

edge-y : Vector
edge-y = record { x = nought; y = pos 12; z = nought }

edge-z : Vector
edge-z = record { x = nought; y = nought; z = pos 12 }

edges : columns edge-x edge-y edge-z ≡ scalar (pos 12)
unfolding columns edge-x edge-y edge-z
edges = refl

module _ (l : List Triple) (L : Points l) where
  edge-in-x : InLattice l edge-x
  unfolding edge-x nought residue
  edge-in-x = L.holds-zero

  edge-in-y : InLattice l edge-y
  unfolding edge-y nought residue
  edge-in-y = L.holds-zero

  edge-in-z : InLattice l edge-z
  unfolding edge-z nought residue
  edge-in-z = L.holds-zero

  pub onto-unimodular : (R : Matrix) → MapsOnto l R → Unimodular R
  onto-unimodular R (into, onto) =
      let P = power R 11 in
      let (a, ma, ea) = power-reaches l R onto 11 edge-x edge-in-x in
      let (b, mb, eb) = power-reaches l R onto 11 edge-y edge-in-y in
      let (c, mc, ec) = power-reaches l R onto 11 edge-z edge-in-z in
      let product : times P (columns a b c) ≡ scalar (pos 12) =
      times-columns P a b c ∙ ap (λ v. columns v (act P b) (act P c)) ea ∙ ap (λ v. columns edge-x v (act P c)) eb ∙ ap (columns edge-x edge-y) ec ∙ edges in
      let volume : nat_abs (determinant R) ^ 11 * nat_abs (determinant (columns a b c)) ≡ 1728 =
      ap (λ (k : ℕ). k * nat_abs (determinant (columns a b c))) (sym (abs-power R 11)) ∙
      sym (natAbs-*ℤ (determinant P) (determinant (columns a b c))) ∙
      ap nat_abs (sym (determinant-times P (columns a b c))) ∙
      ap (λ A. nat_abs (determinant A)) product ∙
      abs-cells in
      abs-one (determinant R) (eleventh-power (nat_abs (determinant R)) (nat_abs (determinant (columns a b c))) volume)

  -- R maps the lattice onto itself exactly if its determinant is 1 or −1 and it takes points to points.
  pub maps-onto : (R : Matrix) → MapsOnto l R ↔ (Unimodular R × T (keeps_points l R))
  maps-onto R = ((λ h. (onto-unimodular R h, (keeps-into l L R).1 h.0)), λ (u, t). into-onto l L R u ((keeps-into l L R).0 t))
