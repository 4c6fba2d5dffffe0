-- Nothing, or the entry of the two items, by what differs.
use mathlib.Core.Path.{◌≡◌, refl, sym, ◌∙◌, ap, subst}
use mathlib.Core.List.{◌++◌}
use Prim.Native.Nat.{ℕ}
use native.Mathlib.Omega.{arith}
use lib.ListN.{length, drop}
use Rattle.record_report.specs.Report.{absent}
use Rattle.record_report.specs.Cursors.{item_at, bytes_at, code-small, none-at, number_of, kind_of_difference}
use Rattle.record_report.specs.Writing.{entry-room, put-found}
use Rattle.record_report.proofs.entries.put_difference.Goals as goal

pub put_entry-requires : goal.put_entry-requires
put_entry-requires c =
    let kind : kind_of_difference c.args.difference ≡ 1 = ap kind_of_difference c.in-Some.is ∙ ap number_of c.in-First.is in (
      entry-room (kind_of_difference c.args.difference) (item_at c.args.first.now c.args.i) (item_at c.args.second.now c.args.j) c.args.out.now
          (λ z. omega arith) c.requires.2,
      omega (arith, code-small c.args.first.now c.args.i (λ k. omega (arith, c.type_inv.first k)), c.item_code.ensures),
    )

pub returns-in-First : goal.returns-in-First
returns-in-First c =
    let a = item_at c.args.first.now c.args.i in
    let b = item_at c.args.second.now c.args.j in
    let out = c.args.out.now in
    let kind : kind_of_difference c.args.difference ≡ 1 = ap kind_of_difference c.in-Some.is ∙ ap number_of c.in-First.is in
    subst (λ (k : ℕ). c.put_entry.new.out ≡ bytes_at k a b ++ drop (length (bytes_at k a b)) out) (sym kind)
    (put-found 1 a b c.item_code.result c.item_translation-only.result absent out c.put_entry.new.out (λ z. omega arith) c.item_code.ensures
    c.item_translation-only.ensures refl c.put_entry.ensures)

pub put_entry-requires-in-Second : goal.put_entry-requires-in-Second
put_entry-requires-in-Second c =
    let kind : kind_of_difference c.args.difference ≡ 2 = ap kind_of_difference c.in-Some.is ∙ ap number_of c.in-Second.is in (
      entry-room (kind_of_difference c.args.difference) (item_at c.args.first.now c.args.i) (item_at c.args.second.now c.args.j) c.args.out.now
          (λ z. omega arith) c.requires.2,
      omega (arith, code-small c.args.second.now c.args.j (λ k. omega (arith, c.type_inv.second k)), c.item_code-in-Second.ensures),
    )

pub returns-in-Second : goal.returns-in-Second
returns-in-Second c =
    let a = item_at c.args.first.now c.args.i in
    let b = item_at c.args.second.now c.args.j in
    let out = c.args.out.now in
    let kind : kind_of_difference c.args.difference ≡ 2 = ap kind_of_difference c.in-Some.is ∙ ap number_of c.in-Second.is in
    subst (λ (k : ℕ). c.put_entry-in-Second.new.out ≡ bytes_at k a b ++ drop (length (bytes_at k a b)) out) (sym kind)
    (put-found 2 a b c.item_code-in-Second.result absent c.item_translation-only-in-Second.result out c.put_entry-in-Second.new.out (λ z. omega arith)
    c.item_code-in-Second.ensures
    refl c.item_translation-only-in-Second.ensures c.put_entry-in-Second.ensures)

pub put_entry-requires-in-Both : goal.put_entry-requires-in-Both
put_entry-requires-in-Both c =
    let kind : kind_of_difference c.args.difference ≡ 3 = ap kind_of_difference c.in-Some.is ∙ ap number_of c.in-Both.is in (
      entry-room (kind_of_difference c.args.difference) (item_at c.args.first.now c.args.i) (item_at c.args.second.now c.args.j) c.args.out.now
          (λ z. omega arith) c.requires.2,
      omega (arith, code-small c.args.first.now c.args.i (λ k. omega (arith, c.type_inv.first k)), c.item_code-in-Both.ensures),
    )

pub returns-in-Both : goal.returns-in-Both
returns-in-Both c =
    let a = item_at c.args.first.now c.args.i in
    let b = item_at c.args.second.now c.args.j in
    let out = c.args.out.now in
    let kind : kind_of_difference c.args.difference ≡ 3 = ap kind_of_difference c.in-Some.is ∙ ap number_of c.in-Both.is in
    subst (λ (k : ℕ). c.put_entry-in-Both.new.out ≡ bytes_at k a b ++ drop (length (bytes_at k a b)) out) (sym kind)
    (put-found 3 a b c.item_code-in-Both.result c.item_translation-from.result c.item_translation-to.result out c.put_entry-in-Both.new.out (λ z. omega arith)
    c.item_code-in-Both.ensures
    c.item_translation-from.ensures c.item_translation-to.ensures c.put_entry-in-Both.ensures)

pub returns-in_default : goal.returns-in_default
returns-in_default c =
    rw (none-at (kind_of_difference c.args.difference) (item_at c.args.first.now c.args.i) (item_at c.args.second.now c.args.j)
    (ap kind_of_difference c.in_default.is)) refl
