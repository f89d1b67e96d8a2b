use Rattle.std.specs.Prelude.{◌≡◌, ℤ}
use mir.Syntax.{w64}
use mir.Val.{to_z, of_z}
use Rattle.std.proofs.Common.{ap, sym, ◌∙◌, arith, subst}
use Rattle.std.proofs.lemmas.Int.{ints}
use Rattle.fv_bits.specs.Bits.{as_int}
use Rattle.vl_size.specs.Size.{index_of}
use Rattle.vl_mean.specs.FlatLaw.{flat_scopes}
use Rattle.vl_mean.specs.Scopes.{operand_in}
use Rattle.wn_net.specs.Net.{value_at}
use Rattle.wn_net.proofs.Laws.{adds_on, given_on}
use Rattle.vl_flow_cells.proofs.Numbers.{memory_bounds}
use Rattle.vl_lower_nodes.specs.Points.{IsAddress, distance, is_base}
use Rattle.vl_lower_expr.proofs.Finding.{bound_base}
use Rattle.vl_lower_stmt.proofs.Contexts.{sign_in, size_in}
use Rattle.vl_lower_stmt.proofs.Held.{held_varying}
use Rattle.vl_lower_stmt.proofs.Named.{kept_at, words_within}
use Rattle.vl_lower_stmt.proofs.word.word_holder.Goals as goal

pub address-requires-clause-base : goal.address-requires-clause-base
address-requires-clause-base c =
    let bounds = memory_bounds c.args.decl.now c.args.words c.requires.words
    (kept_at c.args.layout.decls.now c.args.layout.places.now c.args.decl.now c.args.first c.requires.layout
    c.requires.first) in
    let l_is : to_z w64 (of_z w64 c.args.words.0) ≡ c.args.words.0 = omega (arith, ints) in
    ap is_base l_is ∙ bound_base c.args.words.0 bounds.0

pub word_count-requires-clause-left : goal.word_count-requires-clause-left
word_count-requires-clause-left c =
    (memory_bounds c.args.decl.now c.args.words c.requires.words
    (kept_at c.args.layout.decls.now c.args.layout.places.now c.args.decl.now c.args.first c.requires.layout
    c.requires.first)).0

pub word_count-requires-clause-right : goal.word_count-requires-clause-right
word_count-requires-clause-right c =
    (memory_bounds c.args.decl.now c.args.words c.requires.words
    (kept_at c.args.layout.decls.now c.args.layout.places.now c.args.decl.now c.args.first c.requires.layout
    c.requires.first)).1

pub returns : goal.returns
returns c =
    let ds = c.args.layout.decls.now in
    let own = c.requires.layout in
    let at = c.requires.first in
    let d = c.args.decl.now in
    let e = c.args.index.now in
    let old = c.args.net.now in
    let mid = c.own_number.new.net in
    let new = c.address.new.net in
    let node = c.in_ok-node.node in
    let one = c.in_ok-node.ensures in
    let two = c.in_ok-address.ensures in
    let l_is : to_z w64 (of_z w64 c.args.words.0) ≡ c.args.words.0 = omega (arith, ints) in
    let words = words_within ds c.args.layout.places.now d c.args.first c.args.words own at c.requires.words in
    held_varying ds own.different own.apart own.kept at.0 d at.1 c.args.words c.requires.words
    (λ v. index_of (operand_in (flat_scopes ds) v e)) old new c.args.cells.now c.args.first c.word_count.result
    c.in_ok-address.address (adds_on old mid new one.adds two.adds) two.there words at.2 c.word_count.ensures
    (λ g v given has.
    let wide = one.node.1 ∙ sym (size_in ds v e) in
    let sign = c.sign_of-signed.ensures ∙ sym (sign_in ds v e) in
    let is = one.value g v given has in
    let P : ℤ → Type 0 = λ z. IsAddress (value_at new g c.in_ok-address.address) z in
    subst P (λ i. distance (c.ascends.ensures i) (l_is i) (as_int (wide i) (sign i) (is i)))
    (two.value g (given_on old mid g one.adds given)))

pub returns-then-fixed : goal.returns-then-fixed
returns-then-fixed c = c.fixed_word.ensures c.args.net.now
