use Rattle.std.specs.Prelude.{is_some}
use Rattle.std.specs.Option.{option_copied}
use Rattle.std.proofs.Common.{ap, sym, ◌∙◌, true≢false}
use Rattle.std.proofs.lemmas.Option.{slice_get-get_or}
use Rattle.vl_flow_cells.proofs.Taking.{place_none, place_some}
use Rattle.vl_lower_expr.proofs.Finding.{other_there}
use Rattle.vl_lower_expr.proofs.names.found.Goals as goal

pub unreachable-requires : goal.unreachable-requires
unreachable-requires c =
    true≢false (sym c.requires.declared
    ∙ ap is_some (place_none c.args.names.decls.now c.args.text.now (sym c.find.ensures ∙ c.in_default.is)))

pub returns-clause-declared : goal.returns-clause-declared
returns-clause-declared c =
    place_some c.args.names.decls.now c.args.text.now c.in-Some.index (sym c.find.ensures ∙ c.in-Some.is)
    ∙ sym c.get.ensures ∙ ap option_copied c.in-Some-get.is

pub returns-clause-place : goal.returns-clause-place
returns-clause-place c =
    let names = c.args.names in
    let decl = sym c.get.ensures ∙ ap option_copied c.in-Some-get.is in
    let there = other_there names.decls.now names.places.now c.in-Some.index c.in-Some-get.decl.now
    c.requires.each decl in
    (c.in-Some.index, (decl, slice_get-get_or _ _ _ there))
