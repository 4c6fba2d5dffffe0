-- The axis rules of R2.1 to R2.5: what an N token's fold, mark and letter, and the token before it, say of its axis.
use Rattle.std.specs.Prelude.{◌≡◌, refl, Bool, true, false, cond, ◌↔◌, ℕ, eqb, None, Option, Some}
use Rattle.std.proofs.Common.{sym, ap, true≢false}
use Rattle.hall_axes.specs.declared.Fold.{Fold}
use Rattle.hall_axes.specs.declared.Fold.TheVariants.{One, Two, Three, Four, Six}
use Rattle.hall_axes.specs.declared.Mark.{Mark}
use Rattle.hall_axes.specs.declared.Mark.TheVariants.{Unmarked, Single, Double}
use Rattle.hall_axes.specs.declared.Direction.{Direction}
use Rattle.hall_axes.specs.declared.Direction.TheVariants.{X, Y, Z, Diagonal}
use Rattle.hall_axes.specs.declared.Axis.{Axis}
use Rattle.hall_axes.specs.declared.Place.{Place}
use Rattle.hall_axes.specs.declared.Place.TheVariants.{First, Second, Third, Later}
use Rattle.hall_axes.specs.declared.Previous.{Previous}

abbrev pub axis : Mark → Direction → Axis
axis m d = record { mark = m; direction = d }

abbrev pub plain : Direction → Axis
plain d = axis Unmarked d

-- The number of a fold.
abbrev pub fold_number : Fold → ℕ
fold_number One = 1
fold_number Two = 2
fold_number Three = 3
fold_number Four = 4
fold_number Six = 6

-- Whether an axis is z without a mark: true of that one, and of no other.
abbrev pub plain_z : Mark → Direction → Bool
plain_z Unmarked X = false
plain_z Unmarked Y = false
plain_z Unmarked Z = true
plain_z Unmarked Diagonal = false
plain_z Single d = false
plain_z Double d = false

pub plain-z : (m : Mark) (d : Direction) → (plain_z m d ≡ true) ↔ (axis m d ≡ plain Z)
plain-z Unmarked X = ((λ e. absurd (true≢false (sym e))), λ h. ap (λ (b : Axis). plain_z b.mark b.direction) h)
plain-z Unmarked Y = ((λ e. absurd (true≢false (sym e))), λ h. ap (λ (b : Axis). plain_z b.mark b.direction) h)
plain-z Unmarked Z = ((λ e. refl), λ h. refl)
plain-z Unmarked Diagonal = ((λ e. absurd (true≢false (sym e))), λ h. ap (λ (b : Axis). plain_z b.mark b.direction) h)
plain-z Single d = ((λ e. absurd (true≢false (sym e))), λ h. ap (λ (b : Axis). plain_z b.mark b.direction) h)
plain-z Double d = ((λ e. absurd (true≢false (sym e))), λ h. ap (λ (b : Axis). plain_z b.mark b.direction) h)

-- Which N token it is, by how many stand before it.
unfoldable pub token_place : ℕ → Place
token_place n = cond (eqb n 0) First (cond (eqb n 1) Second (cond (eqb n 2) Third Later))

-- Neither mark nor letter, second token: by the fold before.
abbrev pub second_axis : Fold → Option Axis
second_axis One = None
second_axis Two = Some (plain X)
second_axis Three = Some (axis Single Z)
second_axis Four = Some (plain X)
second_axis Six = Some (axis Single Z)

-- Neither mark nor letter, third token: by its own fold.
abbrev pub third_axis : Fold → Option Axis
third_axis One = None
third_axis Two = None
third_axis Three = Some (plain Diagonal)
third_axis Four = None
third_axis Six = None

-- Neither mark nor letter: by the place, the fold before and the token's own fold.
abbrev pub default_axis : Place → Fold → Fold → Option Axis
default_axis First before own = Some (plain Z)
default_axis Second before own = second_axis before
default_axis Third before own = third_axis own
default_axis Later before own = None

-- The direction that a token hands on to a mark without a letter: its axis if that is plain x, y or z.
abbrev pub plain_direction : Mark → Direction → Option Direction
plain_direction Unmarked X = Some X
plain_direction Unmarked Y = Some Y
plain_direction Unmarked Z = Some Z
plain_direction Unmarked Diagonal = None
plain_direction Single d = None
plain_direction Double d = None

-- Where nothing is handed on, a second token takes x after fold 2, and no other direction.
abbrev pub second_direction : Option Direction → Fold → Option Direction
second_direction (Some d) before = Some d
second_direction None One = None
second_direction None Two = Some X
second_direction None Three = None
second_direction None Four = None
second_direction None Six = None

-- A mark without a letter: by the place, and the fold and axis before. The first token has none before it and takes z.
abbrev pub marked_direction : Place → Fold → Axis → Option Direction
marked_direction First before a = Some Z
marked_direction Second before a = second_direction (plain_direction a.mark a.direction) before
marked_direction Third before a = plain_direction a.mark a.direction
marked_direction Later before a = plain_direction a.mark a.direction

abbrev pub with_mark : Mark → Option Direction → Option Axis
with_mark m (Some d) = Some (axis m d)
with_mark m None = None

-- Folds 2, 3, 4 and 6: a letter settles the axis; without one the mark, or its absence, picks the rule.
abbrev pub turning_axis : Fold → Mark → Option Direction → Previous → Option Axis
turning_axis own m (Some d) p = Some (axis m d)
turning_axis own Unmarked None p = default_axis (token_place p.count) p.fold own
turning_axis own Single None p = with_mark Single (marked_direction (token_place p.count) p.fold p.axis)
turning_axis own Double None p = with_mark Double (marked_direction (token_place p.count) p.fold p.axis)

-- Fold 1 takes no mark and no axis, and counts as plain z at any place.
abbrev pub identity_axis : Mark → Option Direction → Option Axis
identity_axis Unmarked (Some d) = None
identity_axis Unmarked None = Some (plain Z)
identity_axis Single l = None
identity_axis Double l = None

-- The axis of an N token.
abbrev pub axis_of : Fold → Mark → Option Direction → Previous → Option Axis
axis_of One m l p = identity_axis m l
axis_of Two m l p = turning_axis Two m l p
axis_of Three m l p = turning_axis Three m l p
axis_of Four m l p = turning_axis Four m l p
axis_of Six m l p = turning_axis Six m l p
