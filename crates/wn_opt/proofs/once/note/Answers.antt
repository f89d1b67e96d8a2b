use Rattle.std.specs.Prelude.{is_none}
use Rattle.std.proofs.Common.{refl, ap, sym, ◌∙◌, true≢false}
use Rattle.wn_opt.proofs.Tables.{table_more, table_same}
use Rattle.wn_opt.proofs.once.note.Goals as goal

pub returns-then-is_source : goal.returns-then-is_source
returns-then-is_source c =
    table_same c.args.nodes.now c.args.table.now c.args.node.now c.requires (λ op none.
    true≢false (sym c.if-is_source.true ∙ c.is_source.ensures ∙ op))

pub returns-in-Some : goal.returns-in-Some
returns-in-Some c =
    table_same c.args.nodes.now c.args.table.now c.args.node.now c.requires (λ op none.
    true≢false (ap is_none (sym none ∙ sym c.find.ensures ∙ c.in-Some.is)))

pub returns-in_ok-put-in-None : goal.returns-in_ok-put-in-None
returns-in_ok-put-in-None c =
    table_more c.args.nodes.now c.args.table.now c.put.new.self c.args.node.now _ c.requires
    (sym c.is_source.ensures ∙ c.if-is_source.false) (sym c.find.ensures ∙ c.in-None.is) refl
    c.in_ok-put-in-None.ensures.here c.in_ok-put-in-None.ensures.others
