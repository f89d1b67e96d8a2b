use Rattle.std.proofs.Common.{sym, ◌∙◌}
use Rattle.vl_flow_check.proofs.OpenBits.{named_told, none_told}
use Rattle.vl_flow_check.proofs.nets.named_bit.Goals as goal

pub name_of-requires : goal.name_of-requires
name_of-requires c =
    c.requires.below.known c.args.cell c.in-Some.place (sym c.group_of.ensures ∙ c.in-Some.is)

pub returns-in_default : goal.returns-in_default
returns-in_default c =
    none_told c.args.decls.now c.args.groups.now c.args.cell c.requires (sym c.group_of.ensures ∙ c.in_default.is)

pub returns : goal.returns
returns c =
    named_told c.args.decls.now c.args.groups.now c.args.cell c.requires c.args.bit c.in-Some.place c.in_ok-name.name
    (sym c.group_of.ensures ∙ c.in-Some.is) c.in_ok-name.ensures
