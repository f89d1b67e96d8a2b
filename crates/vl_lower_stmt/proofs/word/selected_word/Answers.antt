use Rattle.std.specs.Prelude.{◌≡◌, IsSome, is_some}
use Rattle.std.proofs.Common.{ap, sym, ◌∙◌, subst, true≢false, rules}
use Rattle.vl_tree.specs.Expr.{Selects, bit, whole}
use Rattle.vl_tree.specs.ExprView.{selects, with_select}
use Rattle.vl_size.specs.Size.{or_none, word_size}
use Rattle.vl_mean.specs.FlatLaw.{flat_scopes}
use Rattle.vl_mean.specs.Targets.{are_fixed, word_spots}
use Rattle.vl_flow_cells.proofs.FixedSelects.{bit_fixed}
use Rattle.vl_lower_stmt.specs.Located.{IsLocated}
use Rattle.vl_lower_stmt.proofs.Bits.{word_behind, word_index_sized}
use Rattle.vl_lower_stmt.proofs.word.selected_word.Goals as goal

pub indexed_word-requires-clause-sized : goal.indexed_word-requires-clause-sized
indexed_word-requires-clause-sized c =
    let ds = c.args.layout.decls.now in
    let d = c.args.decl.now in
    let rest = selects c.args.behind.now in
    let inner : c.deref.result.now ≡ c.in-Bit.index.value = search rules in
    let all : with_select c.args.select.now rest ≡ bit c.in-Bit.field-0 c.deref.result.now rest =
    ap (λ x. with_select x rest) c.in-Bit.is ∙ ap (λ e. bit c.in-Bit.field-0 e rest) (sym inner) in
    let P : Selects → Type 0 = λ ss. IsSome (word_size ds d ss) in
    word_index_sized ds d c.in-Bit.field-0 c.deref.result.now rest (subst P all c.requires.sized)

pub indexed_word-requires-clause-behind : goal.indexed_word-requires-clause-behind
indexed_word-requires-clause-behind c =
    let ds = c.args.layout.decls.now in
    let d = c.args.decl.now in
    let rest = selects c.args.behind.now in
    let inner : c.deref.result.now ≡ c.in-Bit.index.value = search rules in
    let all : with_select c.args.select.now rest ≡ bit c.in-Bit.field-0 c.deref.result.now rest =
    ap (λ x. with_select x rest) c.in-Bit.is ∙ ap (λ e. bit c.in-Bit.field-0 e rest) (sym inner) in
    let P : Selects → Type 0 = λ ss. IsSome (word_size ds d ss) in
    word_behind ds d c.in-Bit.field-0 c.deref.result.now rest (subst P all c.requires.sized)

pub indexed_word-requires-clause-fixed : goal.indexed_word-requires-clause-fixed
indexed_word-requires-clause-fixed c = λ fix.
    let ds = c.args.layout.decls.now in
    let inner : c.deref.result.now ≡ c.in-Bit.index.value = search rules in
    let all : with_select c.args.select.now whole ≡ bit c.in-Bit.field-0 c.deref.result.now whole =
    ap (λ x. with_select x whole) c.in-Bit.is ∙ ap (λ e. bit c.in-Bit.field-0 e whole) (sym inner) in
    (bit_fixed ds c.in-Bit.field-0 c.deref.result.now whole
    (ap (are_fixed (flat_scopes ds)) (sym all) ∙ c.requires.fixed fix)).0

pub returns : goal.returns
returns c =
    let ds = c.args.layout.decls.now in
    let d = c.args.decl.now in
    let rest = selects c.args.behind.now in
    let inner : c.deref.result.now ≡ c.in-Bit.index.value = search rules in
    let all : with_select c.args.select.now rest ≡ bit c.in-Bit.field-0 c.deref.result.now rest =
    ap (λ x. with_select x rest) c.in-Bit.is ∙ ap (λ e. bit c.in-Bit.field-0 e rest) (sym inner) in
    let P : Selects → Type 0 = λ ss. IsLocated ds c.args.net.now c.indexed_word.new.net c.args.cells.now
    c.in_ok-slot-in-Bit.slot (or_none (word_size ds d ss)) (λ v. word_spots (flat_scopes ds) v d ss) in
    subst P (sym all) (c.in_ok-slot-in-Bit.ensures c.in-Bit.field-0)

pub unreachable-requires : goal.unreachable-requires
unreachable-requires c =
    let ds = c.args.layout.decls.now in
    let d = c.args.decl.now in
    true≢false (sym c.requires.sized
    ∙ ap (λ x. is_some (word_size ds d (with_select x (selects c.args.behind.now)))) c.in-Part.is)

pub unreachable-requires-in-Indexed : goal.unreachable-requires-in-Indexed
unreachable-requires-in-Indexed c =
    let ds = c.args.layout.decls.now in
    let d = c.args.decl.now in
    true≢false (sym c.requires.sized
    ∙ ap (λ x. is_some (word_size ds d (with_select x (selects c.args.behind.now)))) c.in-Indexed.is)
