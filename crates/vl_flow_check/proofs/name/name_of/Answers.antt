use Rattle.std.proofs.Common.{ap, sym, ◌∙◌, true≢false}
use Rattle.std.proofs.lemmas.Option.{same_Some}
use Rattle.std.specs.Prelude.{is_none}
use Rattle.std.specs.Option.{option_copied}
use Rattle.vl_flow_cells.proofs.Lists.{get_some}
use Rattle.vl_flow_check.proofs.name.name_of.Goals as goal

pub unreachable-requires : goal.unreachable-requires
unreachable-requires c =
    let r = get_some c.args.decls.now c.args.place c.requires in
    true≢false (ap is_none (sym (ap option_copied c.in-None.is) ∙ c.get.ensures ∙ r.1))

pub returns : goal.returns
returns c d at =
    c.in_ok-copied-in-Some.ensures
    ∙ ap (λ x. x.name) (same_Some c.in-Some.decl.now d
    (sym (sym c.get.ensures ∙ ap option_copied c.in-Some.is) ∙ at))
