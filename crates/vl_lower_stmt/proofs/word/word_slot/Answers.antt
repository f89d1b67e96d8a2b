use Rattle.std.specs.Prelude.{IsSome}
use Rattle.std.proofs.Common.{ap, sym, subst}
use Rattle.vl_tree.specs.Expr.{Selects}
use Rattle.vl_tree.specs.ExprView.{selects}
use Rattle.vl_size.specs.Size.{or_none, word_size}
use Rattle.vl_mean.specs.FlatLaw.{flat_scopes}
use Rattle.vl_mean.specs.Targets.{word_spots}
use Rattle.vl_lower_stmt.specs.Located.{IsLocated}
use Rattle.vl_lower_stmt.proofs.Bits.{no_words}
use Rattle.vl_lower_stmt.proofs.word.word_slot.Goals as goal

pub unreachable-requires-in-None : goal.unreachable-requires-in-None
unreachable-requires-in-None c =
    no_words c.args.layout.decls.now c.args.decl.now c.args.all.now c.in-None.ensures.cases c.requires.sized

pub selected_word-requires-clause-sized : goal.selected_word-requires-clause-sized
selected_word-requires-clause-sized c =
    let P : Selects → Type 0 = λ ss. IsSome (word_size c.args.layout.decls.now c.args.decl.now ss) in
    subst P (ap selects c.in-Some-split_first.ensures.cases.0) c.requires.sized

pub returns : goal.returns
returns c =
    let ds = c.args.layout.decls.now in
    let d = c.args.decl.now in
    let P : Selects → Type 0 = λ ss. IsLocated ds c.args.net.now c.selected_word.new.net c.args.cells.now
    c.in_ok-slot-in-Some-split_first.slot (or_none (word_size ds d ss)) (λ v. word_spots (flat_scopes ds) v d ss) in
    subst P (sym (ap selects c.in-Some-split_first.ensures.cases.0)) c.in_ok-slot-in-Some-split_first.ensures
