use Rattle.std.proofs.Common.{[], refl, sym, ap, ◌∙◌}
use Rattle.fv_text.specs.declared.kind.Kind.TheVariants as k
use Rattle.fv_text.specs.declared.keyword.Keyword.TheVariants as w
use Rattle.vl_tree.specs.DeclarationSpelling.{net_word, parameter_word}
use Rattle.vl_tree.specs.Item.{declaration, integer, genvar, parameter, assign, initial}
use Rattle.vl_parse.proofs.ItemLeads.{kind_integer, kind_genvar, kind_assign, kind_always, kind_initial, kind_net}
use Rattle.vl_parse.proofs.ItemLeads.{kind_parameter}
use Rattle.vl_parse.proofs.PlainSpelled.{plain_found, always_found, instance_found}
use Rattle.vl_parse.proofs.plain.read_plain.Goals as goal

pub returns-in_ok-declaration-in-Net-clause-found : goal.returns-in_ok-declaration-in-Net-clause-found
returns-in_ok-declaration-in-Net-clause-found c =
    let first = c.in-Some.first.now in
    let d = c.in_ok-declaration-in-Net.declaration in
    plain_found c.bare.result (declaration [] first.pos d) _ (net_word d.net) first c.args.tokens.now c.in-Some.rest.now
    c.in_ok-declaration-in-Net.rest.now c.bare.ensures refl c.in-Some.ensures.some
    (kind_net first.kind c.in-Net.net (sym c.item_lead_of.ensures ∙ c.in-Net.is)
    ∙ ap (λ net. k.Keyword (net_word net)) (sym c.in_ok-declaration-in-Net.ensures.net))
    c.in_ok-declaration-in-Net.ensures.found

pub returns-in_ok-names-in-Integer-clause-found : goal.returns-in_ok-names-in-Integer-clause-found
returns-in_ok-names-in-Integer-clause-found c =
    let first = c.in-Some.first.now in
    plain_found c.bare-in-Integer.result
    (integer [] first.pos c.in_ok-names-in-Integer.names) _ w.Integer first c.args.tokens.now c.in-Some.rest.now
    c.in_ok-names-in-Integer.rest.now c.bare-in-Integer.ensures refl c.in-Some.ensures.some
    (kind_integer first.kind (sym c.item_lead_of.ensures ∙ c.in-Integer.is)) c.in_ok-names-in-Integer.ensures.found

pub returns-in_ok-names-in-Genvar-clause-found : goal.returns-in_ok-names-in-Genvar-clause-found
returns-in_ok-names-in-Genvar-clause-found c =
    let first = c.in-Some.first.now in
    plain_found c.bare-in-Genvar.result
    (genvar [] first.pos c.in_ok-names-in-Genvar.names) _ w.Genvar first c.args.tokens.now c.in-Some.rest.now
    c.in_ok-names-in-Genvar.rest.now c.bare-in-Genvar.ensures refl c.in-Some.ensures.some
    (kind_genvar first.kind (sym c.item_lead_of.ensures ∙ c.in-Genvar.is)) c.in_ok-names-in-Genvar.ensures.found

pub returns-in_ok-all-in-Parameter-clause-found : goal.returns-in_ok-all-in-Parameter-clause-found
returns-in_ok-all-in-Parameter-clause-found c =
    let first = c.in-Some.first.now in
    plain_found c.bare-in-Parameter.result
    (parameter [] first.pos c.in-Parameter.kind c.in_ok-all-in-Parameter.all) _ (parameter_word c.in-Parameter.kind)
    first c.args.tokens.now c.in-Some.rest.now c.in_ok-all-in-Parameter.rest.now c.bare-in-Parameter.ensures refl
    c.in-Some.ensures.some
    (kind_parameter first.kind c.in-Parameter.kind
    (sym c.item_lead_of.ensures ∙ c.in-Parameter.is)) c.in_ok-all-in-Parameter.ensures.found

pub returns-in_ok-all-in-Assign-clause-found : goal.returns-in_ok-all-in-Assign-clause-found
returns-in_ok-all-in-Assign-clause-found c =
    let first = c.in-Some.first.now in
    plain_found c.bare-in-Assign.result
    (assign [] first.pos c.in_ok-all-in-Assign.all) _ w.Assign first c.args.tokens.now c.in-Some.rest.now
    c.in_ok-all-in-Assign.rest.now c.bare-in-Assign.ensures refl c.in-Some.ensures.some
    (kind_assign first.kind (sym c.item_lead_of.ensures ∙ c.in-Assign.is)) c.in_ok-all-in-Assign.ensures.found

pub returns-in_ok-stmt-in-Always-clause-found : goal.returns-in_ok-stmt-in-Always-clause-found
returns-in_ok-stmt-in-Always-clause-found c =
    let first = c.in-Some.first.now in
    always_found c.bare-in-Always.result c.in_ok-event-in-Always.event c.in_ok-stmt-in-Always.stmt first
    c.args.tokens.now c.in-Some.rest.now
    c.in_ok-rest-in-Always.rest.now c.in_ok-event-in-Always.rest.now c.in_ok-stmt-in-Always.rest.now
    c.bare-in-Always.ensures c.in-Some.ensures.some
    (kind_always first.kind (sym c.item_lead_of.ensures ∙ c.in-Always.is)) c.in_ok-rest-in-Always.ensures.found
    c.in_ok-event-in-Always.ensures.found c.in_ok-stmt-in-Always.ensures.found

pub returns-in_ok-stmt-in-Initial-clause-found : goal.returns-in_ok-stmt-in-Initial-clause-found
returns-in_ok-stmt-in-Initial-clause-found c =
    let first = c.in-Some.first.now in
    plain_found c.bare-in-Initial.result
    (initial [] first.pos c.in_ok-stmt-in-Initial.stmt) _ w.Initial first c.args.tokens.now c.in-Some.rest.now
    c.in_ok-stmt-in-Initial.rest.now c.bare-in-Initial.ensures refl c.in-Some.ensures.some
    (kind_initial first.kind (sym c.item_lead_of.ensures ∙ c.in-Initial.is)) c.in_ok-stmt-in-Initial.ensures.found

pub returns-in_ok-instance-in-Instance-clause-found : goal.returns-in_ok-instance-in-Instance-clause-found
returns-in_ok-instance-in-Instance-clause-found c =
    instance_found c.bare-in-Instance.result c.in_ok-instance-in-Instance.instance c.in-Some.first.now
    c.args.tokens.now c.in-Some.rest.now
    c.in_ok-instance-in-Instance.rest.now c.bare-in-Instance.ensures c.in-Some.ensures.some
    c.in_ok-instance-in-Instance.ensures.found
