-- Shifts that differ by whole cells are one shift: −k twelfths are 12 − k, and two texts that begin alike and whose shifts agree modulo 12 have one reading.
use Rattle.std.specs.Prelude.{◌≡◌, refl, List, map, ℕ, ◌<◌, ℤ, pos, ◌+ℤ◌, ◌*ℤ◌}
use Rattle.std.proofs.Common.{sym, ◌∙◌, ap, arith}
use Rattle.laws.specs.Matrix.{Vector}
use Rattle.laws.specs.Residue.{residue, residue-add, residue-mul, residue-lt, residue-pos}
use Rattle.operation.specs.declared.Translation.{Translation}
use Rattle.operation.specs.declared.Operation.{Operation}
use Rattle.centering.specs.declared.Centering.{Centering}
use Rattle.hall_axes.specs.declared.Previous.{Previous}
use Rattle.hall_symbol.specs.Generators.{shift_by, shifted}
use Rattle.hall_symbol.specs.Reader.{symbol, read_symbol}
use Rattle.hall_symbol.specs.Spelling.{Begins, Ending}
use Rattle.hall_symbol.specs.Agreement.{symbol-exactly}

-- A text that begins with the letter c and the generators found, and ends with the shift v.
pub record Shifted (text : List ℕ) (c : Centering) (found : List Operation) (v : Vector) : Type 0 where
  pub previous : Previous
  pub p : ℕ
  pub s : List ℕ
  pub begins : Begins text c found previous p s
  pub some : 0 < previous.count
  pub ending : Ending s v

-- It is read as its generators, shifted.
pub shifted-read : (text : List ℕ) (c : Centering) (found : List Operation) (v : Vector) → Shifted text c found v
    → read_symbol text ≡ symbol c (map (shifted (shift_by v)) found)
shifted-read text c found v h =
    (symbol-exactly text c (map (shifted (shift_by v)) found)).1
    (record { found = found; previous = h.previous; p = h.p; s = h.s; v = v; begins = h.begins; some = h.some; ending = h.ending; generators = refl })

-- Integers that differ by a multiple of 12 have one residue.
pub whole_cells : (a k : ℤ) → residue (a +ℤ pos 12 *ℤ k) ≡ residue a
whole_cells a k =
    let small = residue-lt a in
    let cells = residue-mul (pos 12) k in
    let twelve : residue (pos 12) ≡ 0 = residue-pos 12 in
    residue-add a (pos 12 *ℤ k) ∙ rw (cells, twelve) (omega arith)

-- Two texts with one letter and one list of generators, whose shifts differ by whole cells, have one reading.
pub minus-same : (text other : List ℕ) (c : Centering) (found : List Operation) (v w cells : Vector) → v.x ≡ w.x +ℤ pos 12 *ℤ cells.x
    → v.y ≡ w.y +ℤ pos 12 *ℤ cells.y → v.z ≡ w.z +ℤ pos 12 *ℤ cells.z → Shifted text c found v → Shifted other c found w
    → read_symbol text ≡ read_symbol other
minus-same text other c found v w cells ex ey ez h k =
    let x : residue v.x ≡ residue w.x = ap residue ex ∙ whole_cells w.x cells.x in
    let y : residue v.y ≡ residue w.y = ap residue ey ∙ whole_cells w.y cells.y in
    let z : residue v.z ≡ residue w.z = ap residue ez ∙ whole_cells w.z cells.z in
    let same : shift_by v ≡ shift_by w = λ i. record { x = x i; y = y i; z = z i } in
    shifted-read text c found v h
    ∙ ap (λ (t : Translation). symbol c (map (shifted t) found)) same
    ∙ sym (shifted-read other c found w k)
