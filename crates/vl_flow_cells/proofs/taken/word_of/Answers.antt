use Rattle.std.proofs.Common.{rules, ◌≡◌, ap, sym, ◌∙◌, subst, true}
use Rattle.vl_tree.specs.Expr.{bit}
use Rattle.vl_tree.specs.ExprView.{selects, with_select}
use Rattle.vl_size.specs.Size.{word_size}
use Rattle.vl_mean.specs.FlatLaw.{flat_scopes}
use Rattle.vl_mean.specs.Targets.{are_fixed}
use Rattle.vl_flow_spec.specs.Reads.{selected}
use Rattle.vl_flow_cells.specs.Numbered.{HasSize, Shows, some_takes}
use Rattle.vl_flow_cells.proofs.Lists.{declared_own}
use Rattle.vl_flow_cells.proofs.Sizes.{none_sized, words_sized}
use Rattle.vl_flow_cells.proofs.taken.word_of.Goals as goal

pub returns-in-Bit : goal.returns-in-Bit
returns-in-Bit c ds begins sized fix =
    let d = c.args.decl.now in
    let rest = selects c.args.others.now in
    let p = c.in-Bit.field-0 in
    let inner : c.deref.result.now ≡ c.in-Bit.index.value = search rules in
    let view : bit p c.deref.result.now rest ≡ with_select c.args.select.now rest =
    (λ j. bit p (inner j) rest) ∙ ap (λ s. with_select s rest) (sym c.in-Bit.is) in
    subst (λ xs. Shows ds (some_takes c.word_run.result) (selected ds d.name xs)) view
    (c.word_run.ensures ds p begins (subst (λ xs. HasSize ds d.name xs) (sym view) sized)
    (subst (λ xs. are_fixed (flat_scopes ds) xs ≡ true) (sym view) fix))

pub returns-in-Part : goal.returns-in-Part
returns-in-Part c ds begins sized fix =
    let d = c.args.decl.now in
    let rest = selects c.args.others.now in
    let own = declared_own ds begins.different begins.place d begins.at in
    let some = words_sized ds d.name (with_select c.args.select.now rest) d c.args.words own c.requires.words sized in
    let none = ap (λ s. word_size ds d (with_select s rest)) c.in-Part.is in
    absurd (none_sized (word_size ds d (with_select c.args.select.now rest)) none some)

pub returns-in-Indexed : goal.returns-in-Indexed
returns-in-Indexed c ds begins sized fix =
    let d = c.args.decl.now in
    let rest = selects c.args.others.now in
    let own = declared_own ds begins.different begins.place d begins.at in
    let some = words_sized ds d.name (with_select c.args.select.now rest) d c.args.words own c.requires.words sized in
    let none = ap (λ s. word_size ds d (with_select s rest)) c.in-Indexed.is in
    absurd (none_sized (word_size ds d (with_select c.args.select.now rest)) none some)
