-- 3×3 integer matrices and integer vectors: product, action, determinant, adjugate, and the inverse where the determinant is 1 or −1.
-- An entry is named by its row and its column. Every law is an identity of polynomials, so `ring` shows it.
use Rattle.std.specs.Prelude.{◌≡◌, ◌⊎◌, ℤ, neg_ℤ, ◌+ℤ◌, ◌-ℤ◌, ◌*ℤ◌}
use Rattle.std.proofs.Common.{sym, ◌∙◌, ap, inl, inr}
use Rattle.std.proofs.Math.IntN.{one, +ℤ_invr}
use Rattle.laws.specs.Integer.{ring, nought, *ℤ-nought, ◌⊖◌, outer, cross, cross-nought}

pub record Vector : Type 0 where
  pub x : ℤ
  pub y : ℤ
  pub z : ℤ

pub record Matrix : Type 0 where
  pub xx : ℤ
  pub xy : ℤ
  pub xz : ℤ
  pub yx : ℤ
  pub yy : ℤ
  pub yz : ℤ
  pub zx : ℤ
  pub zy : ℤ
  pub zz : ℤ

-- Two vectors, or two matrices, are equal where their entries are.
pub vector≡ : {v w : Vector} → v.x ≡ w.x → v.y ≡ w.y → v.z ≡ w.z → v ≡ w
vector≡ p q r = λ i. record { x = p i; y = q i; z = r i }

pub matrix≡ : {A B : Matrix} → A.xx ≡ B.xx → A.xy ≡ B.xy → A.xz ≡ B.xz → A.yx ≡ B.yx → A.yy ≡ B.yy → A.yz ≡ B.yz → A.zx ≡ B.zx
    → A.zy ≡ B.zy → A.zz ≡ B.zz → A ≡ B
matrix≡ xx xy xz yx yy yz zx zy zz =
    λ i. record { xx = xx i; xy = xy i; xz = xz i; yx = yx i; yy = yy i; yz = yz i; zx = zx i; zy = zy i; zz = zz i }

-- A row times a column.
abbrev pub dot : ℤ → ℤ → ℤ → ℤ → ℤ → ℤ → ℤ
dot a b c x y z = a *ℤ x +ℤ b *ℤ y +ℤ c *ℤ z

-- The matrix product.
unfoldable pub times : Matrix → Matrix → Matrix
times A B =
    record {
      xx = dot A.xx A.xy A.xz B.xx B.yx B.zx;
      xy = dot A.xx A.xy A.xz B.xy B.yy B.zy;
      xz = dot A.xx A.xy A.xz B.xz B.yz B.zz;
      yx = dot A.yx A.yy A.yz B.xx B.yx B.zx;
      yy = dot A.yx A.yy A.yz B.xy B.yy B.zy;
      yz = dot A.yx A.yy A.yz B.xz B.yz B.zz;
      zx = dot A.zx A.zy A.zz B.xx B.yx B.zx;
      zy = dot A.zx A.zy A.zz B.xy B.yy B.zy;
      zz = dot A.zx A.zy A.zz B.xz B.yz B.zz;
    }

-- A matrix applied to a vector.
unfoldable pub act : Matrix → Vector → Vector
act A v =
    record {
      x = dot A.xx A.xy A.xz v.x v.y v.z;
      y = dot A.yx A.yy A.yz v.x v.y v.z;
      z = dot A.zx A.zy A.zz v.x v.y v.z;
    }

unfoldable pub plus : Vector → Vector → Vector
plus v w = record { x = v.x +ℤ w.x; y = v.y +ℤ w.y; z = v.z +ℤ w.z }

unfoldable pub opposite : Vector → Vector
opposite v = record { x = neg_ℤ v.x; y = neg_ℤ v.y; z = neg_ℤ v.z }

unfoldable pub origin : Vector
origin = record { x = nought; y = nought; z = nought }

-- The matrix that multiplies each vector by k.
abbrev pub scalar : ℤ → Matrix
scalar k = record { xx = k; xy = nought; xz = nought; yx = nought; yy = k; yz = nought; zx = nought; zy = nought; zz = k }

unfoldable pub unit : Matrix
unit = scalar one

-- ---- products and action
pub times-assoc : (A B C : Matrix) → times (times A B) C ≡ times A (times B C)
unfolding times
times-assoc A B C = simp ring

pub unit-times : (A : Matrix) → times unit A ≡ A
unfolding times unit
unit-times A = simp ring

pub times-unit : (A : Matrix) → times A unit ≡ A
unfolding times unit
times-unit A = simp ring

pub act-times : (A B : Matrix) (v : Vector) → act (times A B) v ≡ act A (act B v)
unfolding times act
act-times A B v = simp ring

pub act-unit : (v : Vector) → act unit v ≡ v
unfolding act unit
act-unit v = simp ring

pub act-plus : (A : Matrix) (v w : Vector) → act A (plus v w) ≡ plus (act A v) (act A w)
unfolding plus act
act-plus A v w = simp ring

pub act-origin : (A : Matrix) → act A origin ≡ origin
unfolding act origin
act-origin A = simp ring

pub act-opposite : (A : Matrix) (v : Vector) → act A (opposite v) ≡ opposite (act A v)
unfolding act opposite
act-opposite A v = simp ring

-- ---- vectors
pub plus_assoc : (u v w : Vector) → plus (plus u v) w ≡ plus u (plus v w)
unfolding plus
plus_assoc u v w = simp ring

pub plus_comm : (v w : Vector) → plus v w ≡ plus w v
unfolding plus
plus_comm v w = simp ring

pub origin-plus : (v : Vector) → plus origin v ≡ v
unfolding plus origin
origin-plus v = simp ring

pub plus-origin : (v : Vector) → plus v origin ≡ v
unfolding plus origin
plus-origin v = simp ring

-- A vector less itself; a difference turned round; two differences in a row.
pub plus-opposite : (v : Vector) → plus v (opposite v) ≡ origin
unfolding plus opposite origin nought
plus-opposite v = vector≡ (+ℤ_invr v.x) (+ℤ_invr v.y) (+ℤ_invr v.z)

pub opposite-difference : (v w : Vector) → opposite (plus v (opposite w)) ≡ plus w (opposite v)
unfolding plus opposite
opposite-difference v w = simp ring

pub difference-chain : (u v w : Vector) → plus (plus u (opposite v)) (plus v (opposite w)) ≡ plus u (opposite w)
difference-chain u v w =
    plus_assoc u (opposite v) (plus v (opposite w)) ∙
    ap (plus u) (sym (plus_assoc (opposite v) v (opposite w)) ∙ ap (λ x. plus x (opposite w)) (plus_comm (opposite v) v ∙ plus-opposite v)
    ∙ origin-plus (opposite w))

-- ---- determinant and trace
unfoldable pub trace : Matrix → ℤ
trace A = A.xx +ℤ A.yy +ℤ A.zz

-- By the first row.
unfoldable pub determinant : Matrix → ℤ
determinant A =
    A.xx *ℤ (A.yy *ℤ A.zz ⊖ A.yz *ℤ A.zy) ⊖ A.xy *ℤ (A.yx *ℤ A.zz ⊖ A.yz *ℤ A.zx) +ℤ A.xz *ℤ (A.yx *ℤ A.zy ⊖ A.yy *ℤ A.zx)

-- The transposed matrix of cofactors.
unfoldable pub adjugate : Matrix → Matrix
adjugate A =
    record {
      xx = A.yy *ℤ A.zz ⊖ A.yz *ℤ A.zy;
      xy = A.xz *ℤ A.zy ⊖ A.xy *ℤ A.zz;
      xz = A.xy *ℤ A.yz ⊖ A.xz *ℤ A.yy;
      yx = A.yz *ℤ A.zx ⊖ A.yx *ℤ A.zz;
      yy = A.xx *ℤ A.zz ⊖ A.xz *ℤ A.zx;
      yz = A.xz *ℤ A.yx ⊖ A.xx *ℤ A.yz;
      zx = A.yx *ℤ A.zy ⊖ A.yy *ℤ A.zx;
      zy = A.xy *ℤ A.zx ⊖ A.xx *ℤ A.zy;
      zz = A.xx *ℤ A.yy ⊖ A.xy *ℤ A.yx;
    }

-- A matrix times its adjugate, either way round, is its determinant.
pub times-adjugate : (A : Matrix) → times A (adjugate A) ≡ scalar (determinant A)
unfolding times adjugate determinant
times-adjugate A =
    matrix≡
    (simp outer (cross _ _ _ _ (simp ring)))
    (simp outer (cross-nought _ _ (simp ring)))
    (simp outer (cross-nought _ _ (simp ring)))
    (simp outer (cross-nought _ _ (simp ring)))
    (simp outer (cross _ _ _ _ (simp ring)))
    (simp outer (cross-nought _ _ (simp ring)))
    (simp outer (cross-nought _ _ (simp ring)))
    (simp outer (cross-nought _ _ (simp ring)))
    (simp outer (cross _ _ _ _ (simp ring)))

pub adjugate-times : (A : Matrix) → times (adjugate A) A ≡ scalar (determinant A)
unfolding times adjugate determinant
adjugate-times A =
    matrix≡
    (simp outer (cross _ _ _ _ (simp ring)))
    (simp outer (cross-nought _ _ (simp ring)))
    (simp outer (cross-nought _ _ (simp ring)))
    (simp outer (cross-nought _ _ (simp ring)))
    (simp outer (cross _ _ _ _ (simp ring)))
    (simp outer (cross-nought _ _ (simp ring)))
    (simp outer (cross-nought _ _ (simp ring)))
    (simp outer (cross-nought _ _ (simp ring)))
    (simp outer (cross _ _ _ _ (simp ring)))

-- ---- the determinant is multiplicative: by rows, as a form that is linear in each row and 0 where two rows are equal
-- The volume spanned by three rows.
unfoldable pub volume : Vector → Vector → Vector → ℤ
volume u v w =
    u.x *ℤ (v.y *ℤ w.z ⊖ v.z *ℤ w.y) ⊖ u.y *ℤ (v.x *ℤ w.z ⊖ v.z *ℤ w.x) +ℤ u.z *ℤ (v.x *ℤ w.y ⊖ v.y *ℤ w.x)

-- a·u + b·v + c·w
unfoldable pub mix : ℤ → ℤ → ℤ → Vector → Vector → Vector → Vector
mix a b c u v w =
    record {
      x = dot a b c u.x v.x w.x;
      y = dot a b c u.y v.y w.y;
      z = dot a b c u.z v.z w.z;
    }

volume-turn : (u v w : Vector) → volume u v w ≡ volume v w u
unfolding volume
volume-turn u v w = simp outer (cross _ _ _ _ (simp ring))

volume-swap : (u v w : Vector) → volume u v w ≡ neg_ℤ (volume v u w)
unfolding volume
volume-swap u v w = simp outer (cross _ _ _ _ (simp ring))

volume-twice : (u w : Vector) → volume u u w ≡ nought
unfolding volume
volume-twice u w = simp outer (cross-nought _ _ (simp ring))

volume-first : (a b c : ℤ) (u v w s t : Vector) → volume (mix a b c u v w) s t ≡ a *ℤ volume u s t +ℤ b *ℤ volume v s t +ℤ c *ℤ volume w s t
unfolding volume mix
volume-first a b c u v w s t = simp outer (cross _ _ _ _ (simp ring))

volume-second : (a b c : ℤ) (u v w s t : Vector) → volume s (mix a b c u v w) t ≡ a *ℤ volume s u t +ℤ b *ℤ volume s v t +ℤ c *ℤ volume s w t
volume-second a b c u v w s t =
    volume-turn s (mix a b c u v w) t ∙ volume-first a b c u v w t s ∙ rw (volume-turn s u t, volume-turn s v t, volume-turn s w t)

volume-third : (a b c : ℤ) (u v w s t : Vector) → volume s t (mix a b c u v w) ≡ a *ℤ volume s t u +ℤ b *ℤ volume s t v +ℤ c *ℤ volume s t w
volume-third a b c u v w s t =
    volume-turn s t (mix a b c u v w) ∙ volume-second a b c u v w t s ∙ rw (volume-turn s t u, volume-turn s t v, volume-turn s t w)

-- The rows of a matrix.
abbrev row-x : Matrix → Vector
row-x A = record { x = A.xx; y = A.xy; z = A.xz }

abbrev row-y : Matrix → Vector
row-y A = record { x = A.yx; y = A.yy; z = A.yz }

abbrev row-z : Matrix → Vector
row-z A = record { x = A.zx; y = A.zy; z = A.zz }

-- What three mixtures of the same three rows span.
volume-mixed : (a b c d e f g h i : ℤ) (u v w : Vector)
    → volume (mix a b c u v w) (mix d e f u v w) (mix g h i u v w)
    ≡ (a *ℤ (e *ℤ i -ℤ f *ℤ h) -ℤ b *ℤ (d *ℤ i -ℤ f *ℤ g) +ℤ c *ℤ (d *ℤ h -ℤ e *ℤ g)) *ℤ volume u v w
volume-mixed a b c d e f g h i u v w =
    let uuw = volume-twice u w in
    let uuv = volume-twice u v in
    let vvu = volume-twice v u in
    let vvw = volume-twice v w in
    let wwu = volume-twice w u in
    let wwv = volume-twice w v in
    let uvu = sym (volume-turn u u v) ∙ uuv in
    let uwu = sym (volume-turn u u w) ∙ uuw in
    let vuv = sym (volume-turn v v u) ∙ vvu in
    let vwv = sym (volume-turn v v w) ∙ vvw in
    let wuw = sym (volume-turn w w u) ∙ wwu in
    let wvw = sym (volume-turn w w v) ∙ wwv in
    let uww = volume-turn u w w ∙ wwu in
    let vww = volume-turn v w w ∙ wwv in
    let uvv = volume-turn u v v ∙ vvu in
    let wvv = volume-turn w v v ∙ vvw in
    let vuu = volume-turn v u u ∙ uuv in
    let wuu = volume-turn w u u ∙ uuw in
    let uuu = volume-twice u u in
    let vvv = volume-twice v v in
    let www = volume-twice w w in
    let vwu = sym (volume-turn u v w) in
    let wuv = sym (volume-turn v w u) ∙ vwu in
    let vuw = volume-swap v u w in
    let uwv = volume-turn u w v ∙ volume-turn w v u ∙ vuw in
    let wvu = volume-turn w v u ∙ vuw in
    simp (
      volume-first,
      volume-second,
      volume-third,
      uuw,
      uuv,
      vvu,
      vvw,
      wwu,
      wwv,
      uvu,
      uwu,
      vuv,
      vwv,
      wuw,
      wvw,
      uww,
      vww,
      uvv,
      wvv,
      vuu,
      wuu,
      uuu,
      vvv,
      www,
      vwu,
      wuv,
      vuw,
      uwv,
      wvu,
    ) (simp ring)

-- The determinant of a product is the product of the determinants.
pub determinant-times : (A B : Matrix) → determinant (times A B) ≡ determinant A *ℤ determinant B
unfolding determinant times volume mix ◌⊖◌
determinant-times A B =
    volume-mixed A.xx A.xy A.xz A.yx A.yy A.yz A.zx A.zy A.zz (row-x B) (row-y B) (row-z B)

-- ---- the inverse of a matrix whose determinant is 1 or −1
-- The determinant is 1 or −1.
abbrev pub Unimodular : Matrix → Type 0
Unimodular A = (determinant A ≡ one) ⊎ (determinant A ≡ neg_ℤ one)

-- Each entry multiplied by k.
unfoldable pub scaled : ℤ → Matrix → Matrix
scaled k A =
    record {
      xx = k *ℤ A.xx;
      xy = k *ℤ A.xy;
      xz = k *ℤ A.xz;
      yx = k *ℤ A.yx;
      yy = k *ℤ A.yy;
      yz = k *ℤ A.yz;
      zx = k *ℤ A.zx;
      zy = k *ℤ A.zy;
      zz = k *ℤ A.zz;
    }

-- The adjugate with the determinant's sign.
unfoldable pub inverse : Matrix → Matrix
inverse A = scaled (determinant A) (adjugate A)

times-scaled : (k : ℤ) (A B : Matrix) → times A (scaled k B) ≡ scaled k (times A B)
unfolding times scaled
times-scaled k A B = simp ring

scaled-times : (k : ℤ) (A B : Matrix) → times (scaled k A) B ≡ scaled k (times A B)
unfolding times scaled
scaled-times k A B = simp ring

square-unit : (A : Matrix) → Unimodular A → determinant A *ℤ determinant A ≡ one
square-unit A (inl p) = rw p (simp ring)
square-unit A (inr p) = rw p (simp ring)

scaled-unit : (A : Matrix) → Unimodular A → scaled (determinant A) (scalar (determinant A)) ≡ unit
unfolding scaled unit
scaled-unit A h =
    let s = square-unit A h in
    let n = *ℤ-nought (determinant A) in
    matrix≡ s n n n s n n n s

-- An integer matrix with determinant 1 or −1 has an integer inverse, on both sides.
pub times-inverse : (A : Matrix) → Unimodular A → times A (inverse A) ≡ unit
unfolding inverse
times-inverse A h =
    times-scaled (determinant A) A (adjugate A) ∙ ap (scaled (determinant A)) (times-adjugate A) ∙ scaled-unit A h

pub inverse-times : (A : Matrix) → Unimodular A → times (inverse A) A ≡ unit
unfolding inverse
inverse-times A h =
    scaled-times (determinant A) (adjugate A) A ∙ ap (scaled (determinant A)) (adjugate-times A) ∙ scaled-unit A h
