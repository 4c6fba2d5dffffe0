-- What the number that a product answers says: the product itself, with the flag.
use Rattle.std.specs.Prelude.{◌≡◌, Bool, true, false, cond, ℕ, zero, suc, ◌≤◌, ℤ, pos, negsuc, ◌+ℤ◌, None, Some}
use Rattle.std.proofs.Common.{sym, ◌∙◌, ap, arith}
use Rattle.std.proofs.Math.IntN.{one}
use Rattle.laws.specs.Motion.{SpaceMotion, compose}
use Rattle.laws.specs.Residue.{residue, residue-lt}
use Rattle.operation.specs.Meaning.{digit_of, digit_above, motion_of, all_inside}
use Rattle.operation.specs.Product.{product_of, operation_of}
use Rattle.operation.specs.declared.Operation.{Operation}
use Rattle.packed_operation.specs.Number.{said_by, flag_of, packed_of, numbered}
use Rattle.packed_operation.specs.Rows.{Narrow}
use Rattle.packed_operation.specs.Moved.{Short}
use Rattle.packed_operation.specs.RoundTrip.{number-says, flag-said}

digit-above : (e : ℤ) → digit_above e ≤ 3
unfolding digit_above
digit-above (pos zero) = omega arith
digit-above (pos (suc zero)) = omega arith
digit-above (pos (suc (suc zero))) = omega arith
digit-above (pos (suc (suc (suc n)))) = omega arith
digit-above (negsuc n) = omega arith

digit-narrow : (e : ℤ) → digit_of e ≤ 3
unfolding digit_of
digit-narrow e = digit-above (e +ℤ one)

residue-short : (e : ℤ) → residue e ≤ 15
residue-short e = omega (arith, residue-lt e)

-- A composed motion fits the fields.
motion-narrow : (m : SpaceMotion) → Narrow (operation_of m).rotation
unfolding operation_of
motion-narrow m =
    record {
      xx = digit-narrow _;
      xy = digit-narrow _;
      xz = digit-narrow _;
      yx = digit-narrow _;
      yy = digit-narrow _;
      yz = digit-narrow _;
      zx = digit-narrow _;
      zy = digit-narrow _;
      zz = digit-narrow _;
    }

motion-short : (m : SpaceMotion) → Short (operation_of m).translation
unfolding operation_of
motion-short m = record { x = residue-short _; y = residue-short _; z = residue-short _ }

told : (b : Bool) (o : Operation) (flag n : ℕ) → Narrow o.rotation → Short o.translation → flag ≤ 1
    → numbered (cond b (Some o) None) flag ≡ Some n
    → (cond b (Some o) None ≡ Some (said_by n)) × (flag_of n ≡ flag)
unfolding numbered
told true o flag n narrow short small p =
    let e : packed_of o flag ≡ n = cc in
    (ap Some (sym (number-says o flag narrow short) ∙ ap said_by e), sym (ap flag_of e) ∙ flag-said o flag narrow short small)
told false o flag n narrow short small p = let h : ◌≡◌ {A = ℕ} 0 1 = cc in absurd (omega arith)

pub inside-says : (f g : Operation) (flag n : ℕ) → flag ≤ 1 → numbered (product_of f g) flag ≡ Some n
    → (product_of f g ≡ Some (said_by n)) × (flag_of n ≡ flag)
unfolding product_of
inside-says f g flag n small p =
    let m = compose (motion_of f) (motion_of g) in
    told (all_inside m.rotation) (operation_of m) flag n (motion-narrow m) (motion-short m) small p
