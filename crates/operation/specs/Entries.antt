-- Entries in −1..1, as R3.5 asks of the rotations of a group: their digits say them and nothing else, so a rotation and its matrix determine one another.
use Rattle.std.specs.Prelude.{◌≡◌, refl, ◌⊎◌, ◌↔◌, Bool, true, false, ◌&&◌, ℕ, zero, suc, ◌<◌, ◌≤◌, ltb, ℤ, pos, negsuc, neg_ℤ}
use Rattle.std.proofs.Common.{sym, ◌∙◌, ap, inl, inr, arith, ltb-true, lt-ltb}
use Rattle.std.proofs.lemmas.Bool.{false≢true, lt-leb}
use Rattle.std.proofs.Math.IntN.{suc_ℤ, one, +ℤ_one, -ℤ_one}
use Rattle.laws.specs.Integer.{nought}
use Rattle.laws.specs.Matrix.{Matrix, matrix≡}
use Rattle.operation.specs.Meaning.{entry_of, digit_of, digit_above, matrix_of, digits_of, Digits, inside, row_inside, all_inside, rotation≡}
use Rattle.operation.specs.declared.Rotation.{Rotation}

-- An entry is −1, 0 or 1.
abbrev pub Entry : ℤ → Type 0
Entry e = (e ≡ neg_ℤ one) ⊎ ((e ≡ nought) ⊎ (e ≡ one))

-- All nine entries of a matrix are.
pub record Entries (A : Matrix) : Type 0 where
  pub xx : Entry A.xx
  pub xy : Entry A.xy
  pub xz : Entry A.xz
  pub yx : Entry A.yx
  pub yy : Entry A.yy
  pub yz : Entry A.yz
  pub zx : Entry A.zx
  pub zy : Entry A.zy
  pub zz : Entry A.zz

-- The digit of an integer is below 3 exactly if it is an entry.
digit-next : (e : ℤ) → digit_of e ≡ digit_above (suc_ℤ e)
unfolding digit_of one
digit-next e = ap digit_above (+ℤ_one e)

digit-entry : (e : ℤ) → digit_of e < 3 → Entry e
unfolding digit_above one nought
digit-entry (pos zero) h = inr (inl refl)
digit-entry (pos (suc zero)) h = inr (inr refl)
digit-entry (pos (suc (suc n))) h = absurd (omega (arith, digit-next (pos (suc (suc n)))))
digit-entry (negsuc zero) h = inl refl
digit-entry (negsuc (suc n)) h = absurd (omega (arith, digit-next (negsuc (suc n))))

entry-digit : (e : ℤ) → Entry e → digit_of e < 3
unfolding digit_of digit_above one nought
entry-digit e (inl p) = rw p (omega arith)
entry-digit e (inr (inl p)) = rw p (omega arith)
entry-digit e (inr (inr p)) = rw p (omega arith)

-- An entry's digit stands for it.
pub digit-stands : (e : ℤ) → Entry e → entry_of (digit_of e) ≡ e
unfolding digit_of digit_above entry_of one nought
digit-stands e (inl p) = rw p refl
digit-stands e (inr (inl p)) = rw p refl
digit-stands e (inr (inr p)) = rw p refl

-- A digit below 3 is the digit of what it stands for.
pub digit-again : (d : ℕ) → d < 3 → digit_of (entry_of d) ≡ d
unfolding digit_of digit_above entry_of one
digit-again zero h = refl
digit-again (suc zero) h = refl
digit-again (suc (suc zero)) h = refl
digit-again (suc (suc (suc d))) h = absurd (omega arith)

below-three : (d : ℕ) → Entry (entry_of d) → d ≤ 2
unfolding digit_above entry_of one
below-three zero h = omega arith
below-three (suc zero) h = omega arith
below-three (suc (suc zero)) h = omega arith
below-three (suc (suc (suc d))) h =
    let large : digit_of (entry_of (suc (suc (suc d)))) ≡ 3 =
    digit-next (entry_of (suc (suc (suc d)))) ∙ ap (λ e. digit_above (suc_ℤ e)) (-ℤ_one (pos (suc (suc (suc d))))) in
    absurd (omega (arith, entry-digit _ h))

-- The test of an entry, by its digit.
pub inside-digit : (e : ℤ) → inside e ≡ ltb (digit_of e) 3
unfolding inside digit_above digit_of one
inside-digit (pos zero) = refl
inside-digit (pos (suc zero)) = refl
inside-digit (pos (suc (suc n))) = rw (digit-next (pos (suc (suc n)))) (lt-leb (suc (suc n)) 1 (omega arith))
inside-digit (negsuc zero) = refl
inside-digit (negsuc (suc n)) = rw (digit-next (negsuc (suc n))) (lt-leb (suc (suc n)) 1 (omega arith))

pub inside-entry : (e : ℤ) → (inside e ≡ true) ↔ Entry e
inside-entry e = ((λ t. digit-entry e (ltb-true (digit_of e) 3 (sym (inside-digit e) ∙ t))), λ h. inside-digit e ∙ lt-ltb (digit_of e) 3 (entry-digit e h))

-- ---- all nine
-- Three tests that pass together pass each.
pub three-true : (a b c : Bool) → a && b && c ≡ true → (a ≡ true) × (b ≡ true) × (c ≡ true)
three-true true true c h = (refl, refl, h)
three-true true false c h = absurd (false≢true h)
three-true false b c h = absurd (false≢true h)

row-entries : (p q r : ℤ) → (row_inside p q r ≡ true) ↔ (Entry p × Entry q × Entry r)
unfolding row_inside
row-entries p q r = (
  (λ h.
      let (hp, hq, hr) = three-true (inside p) (inside q) (inside r) h in
      ((inside-entry p).0 hp, (inside-entry q).0 hq, (inside-entry r).0 hr)),
  λ (p', q', r'). rw ((inside-entry p).1 p', (inside-entry q).1 q', (inside-entry r).1 r'),
)

-- The test passes exactly if all nine entries are in −1..1.
pub all-entries : (A : Matrix) → (all_inside A ≡ true) ↔ Entries A
unfolding all_inside
all-entries A = (
  (λ h.
      let (hx, hy, hz) = three-true (row_inside A.xx A.xy A.xz) (row_inside A.yx A.yy A.yz) (row_inside A.zx A.zy A.zz) h in
      let x = (row-entries A.xx A.xy A.xz).0 hx in
      let y = (row-entries A.yx A.yy A.yz).0 hy in
      let z = (row-entries A.zx A.zy A.zz).0 hz in
      record { xx = x.0; xy = x.1; xz = x.2; yx = y.0; yy = y.1; yz = y.2; zx = z.0; zy = z.1; zz = z.2 }),
  λ e.
      rw (
        (row-entries A.xx A.xy A.xz).1 (e.xx, e.xy, e.xz),
        (row-entries A.yx A.yy A.yz).1 (e.yx, e.yy, e.yz),
        (row-entries A.zx A.zy A.zz).1 (e.zx, e.zy, e.zz),
      ),
)

-- A rotation's digits are below 3 exactly if its matrix has all entries in −1..1.
pub digits-entries : (r : Rotation) → Digits r ↔ Entries (matrix_of r)
unfolding matrix_of
digits-entries r = (
  (λ d.
      record {
        xx = stands d.xx;
        xy = stands d.xy;
        xz = stands d.xz;
        yx = stands d.yx;
        yy = stands d.yy;
        yz = stands d.yz;
        zx = stands d.zx;
        zy = stands d.zy;
        zz = stands d.zz;
      }),
  λ e.
      record {
        xx = below-three _ e.xx;
        xy = below-three _ e.xy;
        xz = below-three _ e.xz;
        yx = below-three _ e.yx;
        yy = below-three _ e.yy;
        yz = below-three _ e.yz;
        zx = below-three _ e.zx;
        zy = below-three _ e.zy;
        zz = below-three _ e.zz;
      },
)
  where
    stands : {d : ℕ} → d ≤ 2 → Entry (entry_of d)
    stands {d} h = digit-entry (entry_of d) (omega (arith, digit-again d (omega arith)))

-- A matrix with all entries in −1..1 is that of its digits.
pub digits-stand : (A : Matrix) → Entries A → matrix_of (digits_of A) ≡ A
unfolding matrix_of
digits-stand A e =
    matrix≡
    (digit-stands _ e.xx)
    (digit-stands _ e.xy)
    (digit-stands _ e.xz)
    (digit-stands _ e.yx)
    (digit-stands _ e.yy)
    (digit-stands _ e.yz)
    (digit-stands _ e.zx)
    (digit-stands _ e.zy)
    (digit-stands _ e.zz)

-- The digits of a rotation's matrix are the rotation's.
pub digits-again : (r : Rotation) → Digits r → digits_of (matrix_of r) ≡ r
unfolding matrix_of
digits-again r d =
    rotation≡
    (digit-again _ (omega (arith, d.xx)))
    (digit-again _ (omega (arith, d.xy)))
    (digit-again _ (omega (arith, d.xz)))
    (digit-again _ (omega (arith, d.yx)))
    (digit-again _ (omega (arith, d.yy)))
    (digit-again _ (omega (arith, d.yz)))
    (digit-again _ (omega (arith, d.zx)))
    (digit-again _ (omega (arith, d.zy)))
    (digit-again _ (omega (arith, d.zz)))
