use Rattle.std.specs.Prelude.{◌≡◌, ◌-ℤ◌, nat_abs}
use mir.Val.{SFits}
use mir.Syntax.{w128}
use Rattle.std.proofs.Common.{ap, sym, ◌∙◌, arith, rules}
use Rattle.std.proofs.lemmas.Int.{to_z-of_z}
use Rattle.fv_bits.specs.Bits.{as_int}
use Rattle.vl_size.specs.Table.{is_between}
use Rattle.vl_size.specs.Size.{cells_in, index_of, operand_of}
use Rattle.vl_mean.specs.FlatLaw.{flat_scopes}
use Rattle.vl_mean.specs.Scopes.{operand_in}
use Rattle.vl_flow_cells.proofs.Numbers.{memory_bounds}
use Rattle.vl_flow_cells.proofs.Ranges.{passed, taken, word_at}
use Rattle.vl_lower_stmt.proofs.Contexts.{index_in}
use Rattle.vl_lower_stmt.proofs.Held.{held_nowhere, held_word, unpassed}
use Rattle.vl_lower_stmt.proofs.Named.{first_within, kept_at, words_within}
use Rattle.vl_lower_stmt.proofs.word.fixed_word.Goals as goal

pub words_before-requires-clause-left : goal.words_before-requires-clause-left
words_before-requires-clause-left c =
    (memory_bounds c.args.decl.now c.args.words c.requires.words
    (kept_at c.args.layout.decls.now c.args.layout.places.now c.args.decl.now c.args.first c.requires.layout
    c.requires.first)).0

pub words_before-requires-clause-right : goal.words_before-requires-clause-right
words_before-requires-clause-right c =
    (memory_bounds c.args.decl.now c.args.words c.requires.words
    (kept_at c.args.layout.decls.now c.args.layout.places.now c.args.decl.now c.args.first c.requires.layout
    c.requires.first)).1

pub words_before-requires-clause-between : goal.words_before-requires-clause-between
words_before-requires-clause-between c =
    let own = c.constant.result in
    let i = as_int own.width own.signed own.number in
    let j = c.in-Some.index in
    let e = sym c.word_of.ensures ∙ c.in-Some.is in
    let fits : SFits w128 j = search rules in
    ap (is_between c.args.words.0 c.args.words.1) (to_z-of_z w128 j fits ∙ sym (taken _ i j e)) ∙ passed _ i j e

pub overflow_add-result : goal.overflow_add-result
overflow_add-result c =
    let own = c.constant.result in
    let i = as_int own.width own.signed own.number in
    let j = c.in-Some.index in
    let e = sym c.word_of.ensures ∙ c.in-Some.is in
    let fits : SFits w128 j = search rules in
    let first = first_within c.args.layout.decls.now c.args.layout.places.now c.args.decl.now c.args.first
    c.requires.layout c.requires.first in
    let words = words_within c.args.layout.decls.now c.args.layout.places.now c.args.decl.now c.args.first c.args.words
    c.requires.layout c.requires.first c.requires.words in
    let less = (word_at c.args.words.0 c.args.words.1 i (passed _ i j e)).0 in
    let before : c.words_before.result ≡ nat_abs (i -ℤ c.args.words.0) =
    c.words_before.ensures ∙ ap (λ z. nat_abs (z -ℤ c.args.words.0)) (to_z-of_z w128 j fits ∙ sym (taken _ i j e)) in
    omega (arith, first, words, less, before)

pub returns-in-None : goal.returns-in-None
returns-in-None c = λ net.
    let ds = c.args.layout.decls.now in
    let own = c.requires.layout in
    let at = c.requires.first in
    let d = c.args.decl.now in
    let e = c.args.index.now in
    let x = c.constant.result in
    let i = as_int x.width x.signed x.number in
    held_nowhere ds own.different own.apart own.kept at.0 d at.1 c.args.words c.requires.words
    (λ v. index_of (operand_in (flat_scopes ds) v e)) net c.args.cells.now i
    (λ v. sym (c.constant.ensures (cells_in v) ∙ ap (λ b. index_of (operand_of b.decls (cells_in v) e))
    c.names_over.ensures
    ∙ index_in ds v e))
    (unpassed _ i (sym c.word_of.ensures ∙ c.in-None.is))

pub returns-in-Some : goal.returns-in-Some
returns-in-Some c = λ net.
    let ds = c.args.layout.decls.now in
    let own = c.requires.layout in
    let at = c.requires.first in
    let d = c.args.decl.now in
    let e = c.args.index.now in
    let x = c.constant.result in
    let i = as_int x.width x.signed x.number in
    let j = c.in-Some.index in
    let found = sym c.word_of.ensures ∙ c.in-Some.is in
    let fits : SFits w128 j = search rules in
    held_word ds own.different own.apart own.kept at.0 d at.1 c.args.words c.requires.words
    (λ v. index_of (operand_in (flat_scopes ds) v e)) net c.args.cells.now c.args.first c.words_before.result i
    (λ v. sym (c.constant.ensures (cells_in v) ∙ ap (λ b. index_of (operand_of b.decls (cells_in v) e))
    c.names_over.ensures
    ∙ index_in ds v e))
    (passed _ i j found)
    (c.words_before.ensures ∙ ap (λ z. nat_abs (z -ℤ c.args.words.0)) (to_z-of_z w128 j fits ∙ sym (taken _ i j
    found)))
    at.2
