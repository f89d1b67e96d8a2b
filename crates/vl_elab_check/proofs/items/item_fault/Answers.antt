use Rattle.std.proofs.Common.{◌∙◌, ap, sym, refl}
use Rattle.std.specs.Prelude.{None}
use Rattle.std.proofs.lemmas.Result.{IfOk-weaker, on_ok_weaker}
use Rattle.vl_tree.specs.ItemView.{block, shown}
use Rattle.vl_tree.specs.Item.{
  declaration,
  integer,
  genvar,
  parameter,
  assign,
  always,
  initial,
  instance,
  generate,
  for_loop,
}
use Rattle.vl_elab_spec.specs.Meanings.{meanings_at}
use Rattle.vl_elab_check.proofs.ItemKinds.{on_ok_always, refused_as, named_as, reached_as, no_names, none_reached}
use Rattle.vl_elab_check.proofs.ItemKinds.{loop_refused, if_refused, if_named, if_reached}
use Rattle.vl_elab_check.proofs.items.item_fault.Goals as goal

pub returns-in-Declaration-clause-fault : goal.returns-in-Declaration-clause-fault
returns-in-Declaration-clause-fault c =
    let x = c.args.item.now in
    let attrs = c.item.inside.attributes in
    let p = c.item.inside.pos in
    let y = declaration c.as_slice-attributes.result.now p c.in-Declaration.declaration in
    let same = sym c.item.view_is ∙ ap (shown attrs p) c.in-Declaration.is
    ∙ ap (λ list. declaration list p c.in-Declaration.declaration) (sym c.as_slice-attributes.ensures) in
    IfOk-weaker c.declaration_fault.result _ _ (λ g h at here said path.
    refused_as x y same c.args.source.now.modules.now at g
    (h (meanings_at at) at.earlier here.alike here.before)) c.declaration_fault.ensures.fault

pub returns-in-Declaration-clause-earlier : goal.returns-in-Declaration-clause-earlier
returns-in-Declaration-clause-earlier c =
    let x = c.args.item.now in
    let attrs = c.item.inside.attributes in
    let p = c.item.inside.pos in
    let y = declaration c.as_slice-attributes.result.now p c.in-Declaration.declaration in
    let same = sym c.item.view_is ∙ ap (shown attrs p) c.in-Declaration.is
    ∙ ap (λ list. declaration list p c.in-Declaration.declaration) (sym c.as_slice-attributes.ensures) in
    on_ok_weaker c.declaration_fault.result (λ h before names.
    named_as x y same c.declaration_fault.new.earlier before (h before names)) c.declaration_fault.ensures.names

pub returns-in-Declaration-clause-reached : goal.returns-in-Declaration-clause-reached
returns-in-Declaration-clause-reached c =
    let x = c.args.item.now in
    let attrs = c.item.inside.attributes in
    let p = c.item.inside.pos in
    let y = declaration c.as_slice-attributes.result.now p c.in-Declaration.declaration in
    let same = sym c.item.view_is ∙ ap (shown attrs p) c.in-Declaration.is
    ∙ ap (λ list. declaration list p c.in-Declaration.declaration) (sym c.as_slice-attributes.ensures) in
    on_ok_always c.declaration_fault.result _ (λ at before alike reached.
    reached_as x y same c.args.here.now.reached at before (none_reached c.args.here.now.reached at before reached))

pub returns-in-Integer-clause-fault : goal.returns-in-Integer-clause-fault
returns-in-Integer-clause-fault c =
    let x = c.args.item.now in
    let attrs = c.item.inside.attributes in
    let p = c.item.inside.pos in
    let y = integer c.as_slice-attributes-in-Integer.result.now p c.as_slice.result.now in
    let same = sym c.item.view_is ∙ ap (shown attrs p) c.in-Integer.is
    ∙ (λ i. integer (sym c.as_slice-attributes-in-Integer.ensures i) p (sym c.as_slice.ensures i)) in
    IfOk-weaker c.integer_fault.result _ _ (λ g h at here said path.
    refused_as x y same c.args.source.now.modules.now at g
    (h (meanings_at at) at.earlier here.alike here.before)) c.integer_fault.ensures.fault

pub returns-in-Integer-clause-earlier : goal.returns-in-Integer-clause-earlier
returns-in-Integer-clause-earlier c =
    let x = c.args.item.now in
    let attrs = c.item.inside.attributes in
    let p = c.item.inside.pos in
    let y = integer c.as_slice-attributes-in-Integer.result.now p c.as_slice.result.now in
    let same = sym c.item.view_is ∙ ap (shown attrs p) c.in-Integer.is
    ∙ (λ i. integer (sym c.as_slice-attributes-in-Integer.ensures i) p (sym c.as_slice.ensures i)) in
    on_ok_weaker c.integer_fault.result (λ h before names.
    named_as x y same c.integer_fault.new.earlier before (h before names)) c.integer_fault.ensures.names

pub returns-in-Integer-clause-reached : goal.returns-in-Integer-clause-reached
returns-in-Integer-clause-reached c =
    let x = c.args.item.now in
    let attrs = c.item.inside.attributes in
    let p = c.item.inside.pos in
    let y = integer c.as_slice-attributes-in-Integer.result.now p c.as_slice.result.now in
    let same = sym c.item.view_is ∙ ap (shown attrs p) c.in-Integer.is
    ∙ (λ i. integer (sym c.as_slice-attributes-in-Integer.ensures i) p (sym c.as_slice.ensures i)) in
    on_ok_always c.integer_fault.result _ (λ at before alike reached.
    reached_as x y same c.args.here.now.reached at before (none_reached c.args.here.now.reached at before reached))

pub returns-in-Genvar-clause-fault : goal.returns-in-Genvar-clause-fault
returns-in-Genvar-clause-fault c =
    let x = c.args.item.now in
    let attrs = c.item.inside.attributes in
    let p = c.item.inside.pos in
    let y = genvar attrs p c.as_slice-in-Genvar.result.now in
    let same = sym c.item.view_is ∙ ap (shown attrs p) c.in-Genvar.is
    ∙ ap (genvar attrs p) (sym c.as_slice-in-Genvar.ensures) in
    IfOk-weaker c.genvar_names_fault.result _ _ (λ g h at here said path.
    refused_as x y same c.args.source.now.modules.now at g
    (h at.earlier here.before)) c.genvar_names_fault.ensures.fault

pub returns-in-Genvar-clause-earlier : goal.returns-in-Genvar-clause-earlier
returns-in-Genvar-clause-earlier c =
    let x = c.args.item.now in
    let attrs = c.item.inside.attributes in
    let p = c.item.inside.pos in
    let y = genvar attrs p c.as_slice-in-Genvar.result.now in
    let same = sym c.item.view_is ∙ ap (shown attrs p) c.in-Genvar.is
    ∙ ap (genvar attrs p) (sym c.as_slice-in-Genvar.ensures) in
    on_ok_weaker c.genvar_names_fault.result (λ h before names.
    named_as x y same c.genvar_names_fault.new.earlier before (h before names)) c.genvar_names_fault.ensures.names

pub returns-in-Genvar-clause-reached : goal.returns-in-Genvar-clause-reached
returns-in-Genvar-clause-reached c =
    let x = c.args.item.now in
    let attrs = c.item.inside.attributes in
    let p = c.item.inside.pos in
    let y = genvar attrs p c.as_slice-in-Genvar.result.now in
    let same = sym c.item.view_is ∙ ap (shown attrs p) c.in-Genvar.is
    ∙ ap (genvar attrs p) (sym c.as_slice-in-Genvar.ensures) in
    on_ok_always c.genvar_names_fault.result _ (λ at before alike reached.
    reached_as x y same c.args.here.now.reached at before (none_reached c.args.here.now.reached at before reached))

pub returns-in-Parameter-clause-fault : goal.returns-in-Parameter-clause-fault
returns-in-Parameter-clause-fault c =
    let x = c.args.item.now in
    let attrs = c.item.inside.attributes in
    let p = c.item.inside.pos in
    let y = parameter attrs p c.in-Parameter.kind c.as_slice-in-Parameter.result.now in
    let same = sym c.item.view_is ∙ ap (shown attrs p) c.in-Parameter.is
    ∙ ap (parameter attrs p c.in-Parameter.kind) (sym c.as_slice-in-Parameter.ensures) in
    IfOk-weaker c.parameters_fault.result _ _ (λ g h at here said path.
    refused_as x y same c.args.source.now.modules.now at g
    (h at at.earlier here.alike said here.before here.parameters here.overrides)) c.parameters_fault.ensures.fault

pub returns-in-Parameter-clause-earlier : goal.returns-in-Parameter-clause-earlier
returns-in-Parameter-clause-earlier c =
    let x = c.args.item.now in
    let attrs = c.item.inside.attributes in
    let p = c.item.inside.pos in
    let y = parameter attrs p c.in-Parameter.kind c.as_slice-in-Parameter.result.now in
    let same = sym c.item.view_is ∙ ap (shown attrs p) c.in-Parameter.is
    ∙ ap (parameter attrs p c.in-Parameter.kind) (sym c.as_slice-in-Parameter.ensures) in
    on_ok_weaker c.parameters_fault.result (λ h before names.
    named_as x y same c.parameters_fault.new.earlier before (h before names)) c.parameters_fault.ensures.earlier

pub returns-in-Parameter-clause-reached : goal.returns-in-Parameter-clause-reached
returns-in-Parameter-clause-reached c =
    let x = c.args.item.now in
    let attrs = c.item.inside.attributes in
    let p = c.item.inside.pos in
    let y = parameter attrs p c.in-Parameter.kind c.as_slice-in-Parameter.result.now in
    let same = sym c.item.view_is ∙ ap (shown attrs p) c.in-Parameter.is
    ∙ ap (parameter attrs p c.in-Parameter.kind) (sym c.as_slice-in-Parameter.ensures) in
    on_ok_weaker c.parameters_fault.result (λ h at before alike reached.
    reached_as x y same c.parameters_fault.new.reached at before (h at before alike reached))
    c.parameters_fault.ensures.reached

pub returns-in-Assign-clause-fault : goal.returns-in-Assign-clause-fault
returns-in-Assign-clause-fault c =
    let x = c.args.item.now in
    let attrs = c.item.inside.attributes in
    let p = c.item.inside.pos in
    let y = assign attrs p c.as_slice-in-Assign.result.now in
    let same = sym c.item.view_is ∙ ap (shown attrs p) c.in-Assign.is
    ∙ ap (assign attrs p) (sym c.as_slice-in-Assign.ensures) in
    IfOk-weaker c.assign_fault.result _ _ (λ g h at here said path.
    refused_as x y same c.args.source.now.modules.now at g
    (h (meanings_at at) here.alike)) c.assign_fault.ensures

pub returns-in-Assign-clause-earlier : goal.returns-in-Assign-clause-earlier
returns-in-Assign-clause-earlier c =
    let x = c.args.item.now in
    let attrs = c.item.inside.attributes in
    let p = c.item.inside.pos in
    let y = assign attrs p c.as_slice-in-Assign.result.now in
    let same = sym c.item.view_is ∙ ap (shown attrs p) c.in-Assign.is
    ∙ ap (assign attrs p) (sym c.as_slice-in-Assign.ensures) in
    on_ok_always c.assign_fault.result _ (λ before names.
    named_as x y same c.args.here.now.earlier before (no_names c.args.here.now.earlier before names))

pub returns-in-Assign-clause-reached : goal.returns-in-Assign-clause-reached
returns-in-Assign-clause-reached c =
    let x = c.args.item.now in
    let attrs = c.item.inside.attributes in
    let p = c.item.inside.pos in
    let y = assign attrs p c.as_slice-in-Assign.result.now in
    let same = sym c.item.view_is ∙ ap (shown attrs p) c.in-Assign.is
    ∙ ap (assign attrs p) (sym c.as_slice-in-Assign.ensures) in
    on_ok_always c.assign_fault.result _ (λ at before alike reached.
    reached_as x y same c.args.here.now.reached at before (none_reached c.args.here.now.reached at before reached))

pub returns-in-Always-clause-fault : goal.returns-in-Always-clause-fault
returns-in-Always-clause-fault c =
    let x = c.args.item.now in
    let attrs = c.item.inside.attributes in
    let p = c.item.inside.pos in
    let y = always attrs p c.in-Always.event c.in-Always.stmt in
    let same = sym c.item.view_is ∙ ap (shown attrs p) c.in-Always.is in
    IfOk-weaker c.always_fault.result _ _ (λ g h at here said path.
    refused_as x y same c.args.source.now.modules.now at g
    (h (meanings_at at) here.alike)) c.always_fault.ensures

pub returns-in-Always-clause-earlier : goal.returns-in-Always-clause-earlier
returns-in-Always-clause-earlier c =
    let x = c.args.item.now in
    let attrs = c.item.inside.attributes in
    let p = c.item.inside.pos in
    let y = always attrs p c.in-Always.event c.in-Always.stmt in
    let same = sym c.item.view_is ∙ ap (shown attrs p) c.in-Always.is in
    on_ok_always c.always_fault.result _ (λ before names.
    named_as x y same c.args.here.now.earlier before (no_names c.args.here.now.earlier before names))

pub returns-in-Always-clause-reached : goal.returns-in-Always-clause-reached
returns-in-Always-clause-reached c =
    let x = c.args.item.now in
    let attrs = c.item.inside.attributes in
    let p = c.item.inside.pos in
    let y = always attrs p c.in-Always.event c.in-Always.stmt in
    let same = sym c.item.view_is ∙ ap (shown attrs p) c.in-Always.is in
    on_ok_always c.always_fault.result _ (λ at before alike reached.
    reached_as x y same c.args.here.now.reached at before (none_reached c.args.here.now.reached at before reached))

pub returns-in-Initial-clause-fault : goal.returns-in-Initial-clause-fault
returns-in-Initial-clause-fault c =
    let x = c.args.item.now in
    let attrs = c.item.inside.attributes in
    let p = c.item.inside.pos in
    let y = initial attrs p c.in-Initial.stmt in
    let same = sym c.item.view_is ∙ ap (shown attrs p) c.in-Initial.is in
    IfOk-weaker c.initial_block_fault.result _ _ (λ g h at here said path.
    refused_as x y same c.args.source.now.modules.now at g
    (h (meanings_at at) here.alike)) c.initial_block_fault.ensures

pub returns-in-Initial-clause-earlier : goal.returns-in-Initial-clause-earlier
returns-in-Initial-clause-earlier c =
    let x = c.args.item.now in
    let attrs = c.item.inside.attributes in
    let p = c.item.inside.pos in
    let y = initial attrs p c.in-Initial.stmt in
    let same = sym c.item.view_is ∙ ap (shown attrs p) c.in-Initial.is in
    on_ok_always c.initial_block_fault.result _ (λ before names.
    named_as x y same c.args.here.now.earlier before (no_names c.args.here.now.earlier before names))

pub returns-in-Initial-clause-reached : goal.returns-in-Initial-clause-reached
returns-in-Initial-clause-reached c =
    let x = c.args.item.now in
    let attrs = c.item.inside.attributes in
    let p = c.item.inside.pos in
    let y = initial attrs p c.in-Initial.stmt in
    let same = sym c.item.view_is ∙ ap (shown attrs p) c.in-Initial.is in
    on_ok_always c.initial_block_fault.result _ (λ at before alike reached.
    reached_as x y same c.args.here.now.reached at before (none_reached c.args.here.now.reached at before reached))

pub returns-in-Instance-clause-fault : goal.returns-in-Instance-clause-fault
returns-in-Instance-clause-fault c =
    let x = c.args.item.now in
    let attrs = c.item.inside.attributes in
    let p = c.item.inside.pos in
    let y = instance attrs p c.in-Instance.instance in
    let same = sym c.item.view_is ∙ ap (shown attrs p) c.in-Instance.is in
    IfOk-weaker c.instance_fault.result _ _ (λ g h at here said path.
    refused_as x y same c.args.source.now.modules.now at g
    (h at here.before path)) c.instance_fault.ensures

pub returns-in-Instance-clause-earlier : goal.returns-in-Instance-clause-earlier
returns-in-Instance-clause-earlier c =
    let x = c.args.item.now in
    let attrs = c.item.inside.attributes in
    let p = c.item.inside.pos in
    let y = instance attrs p c.in-Instance.instance in
    let same = sym c.item.view_is ∙ ap (shown attrs p) c.in-Instance.is in
    on_ok_always c.instance_fault.result _ (λ before names.
    named_as x y same c.args.here.now.earlier before (no_names c.args.here.now.earlier before names))

pub returns-in-Instance-clause-reached : goal.returns-in-Instance-clause-reached
returns-in-Instance-clause-reached c =
    let x = c.args.item.now in
    let attrs = c.item.inside.attributes in
    let p = c.item.inside.pos in
    let y = instance attrs p c.in-Instance.instance in
    let same = sym c.item.view_is ∙ ap (shown attrs p) c.in-Instance.is in
    on_ok_always c.instance_fault.result _ (λ at before alike reached.
    reached_as x y same c.args.here.now.reached at before (none_reached c.args.here.now.reached at before reached))

pub returns-in-Generate-clause-fault : goal.returns-in-Generate-clause-fault
returns-in-Generate-clause-fault c at here said path =
    let x = c.args.item.now in
    let attrs = c.item.inside.attributes in
    let p = c.item.inside.pos in
    let y = generate attrs p c.in-Generate.field-0 in
    let same = sym c.item.view_is ∙ ap (shown attrs p) c.in-Generate.is in
    refused_as x y same c.args.source.now.modules.now at None refl

pub returns-in-Generate-clause-earlier : goal.returns-in-Generate-clause-earlier
returns-in-Generate-clause-earlier c before names =
    let x = c.args.item.now in
    let attrs = c.item.inside.attributes in
    let p = c.item.inside.pos in
    let y = generate attrs p c.in-Generate.field-0 in
    let same = sym c.item.view_is ∙ ap (shown attrs p) c.in-Generate.is in
    named_as x y same c.args.here.now.earlier before (no_names c.args.here.now.earlier before names)

pub returns-in-Generate-clause-reached : goal.returns-in-Generate-clause-reached
returns-in-Generate-clause-reached c at before alike reached =
    let x = c.args.item.now in
    let attrs = c.item.inside.attributes in
    let p = c.item.inside.pos in
    let y = generate attrs p c.in-Generate.field-0 in
    let same = sym c.item.view_is ∙ ap (shown attrs p) c.in-Generate.is in
    reached_as x y same c.args.here.now.reached at before
    (none_reached c.args.here.now.reached at before reached)

pub returns-in-For-clause-fault : goal.returns-in-For-clause-fault
returns-in-For-clause-fault c =
    let x = c.args.item.now in
    let attrs = c.item.inside.attributes in
    let p = c.item.inside.pos in
    let y = for_loop attrs p c.in-For.head (block c.in-For.field-1) in
    let same = sym c.item.view_is ∙ ap (shown attrs p) c.in-For.is in
    IfOk-weaker c.loop_fault.result _ _ (λ g h at here said path.
    loop_refused x attrs p c.in-For.head (block c.in-For.field-1) same c.args.source.now.modules.now at g
    (h at here.alike here.constants here.before)) c.loop_fault.ensures.fault

pub returns-in-For-clause-earlier : goal.returns-in-For-clause-earlier
returns-in-For-clause-earlier c =
    let x = c.args.item.now in
    let attrs = c.item.inside.attributes in
    let p = c.item.inside.pos in
    let y = for_loop attrs p c.in-For.head (block c.in-For.field-1) in
    let same = sym c.item.view_is ∙ ap (shown attrs p) c.in-For.is in
    on_ok_always c.loop_fault.result _ (λ before names.
    named_as x y same c.args.here.now.earlier before (no_names c.args.here.now.earlier before names))

pub returns-in-For-clause-reached : goal.returns-in-For-clause-reached
returns-in-For-clause-reached c =
    let x = c.args.item.now in
    let attrs = c.item.inside.attributes in
    let p = c.item.inside.pos in
    let y = for_loop attrs p c.in-For.head (block c.in-For.field-1) in
    let same = sym c.item.view_is ∙ ap (shown attrs p) c.in-For.is in
    on_ok_always c.loop_fault.result _ (λ at before alike reached.
    reached_as x y same c.args.here.now.reached at before (none_reached c.args.here.now.reached at before reached))

pub returns-in-If-default-default-None-clause-fault : goal.returns-in-If-default-default-None-clause-fault
returns-in-If-default-default-None-clause-fault c =
    let x = c.args.item.now in
    let arm = c.in-If-default-default-None in
    let attrs = c.item.inside.attributes in
    let p = c.item.inside.pos in
    let same = sym c.item.view_is ∙ ap (shown attrs p) arm.is in
    IfOk-weaker c.if_fault.result _ _ (λ g h at here said path.
    if_refused x attrs p arm.condition arm.field-1 arm.field-2 same c.args.source.now.modules.now at g
    (h (meanings_at at) at.earlier here.alike here.before)) c.if_fault.ensures

pub returns-in-If-default-default-None-clause-earlier : goal.returns-in-If-default-default-None-clause-earlier
returns-in-If-default-default-None-clause-earlier c =
    let x = c.args.item.now in
    let arm = c.in-If-default-default-None in
    let attrs = c.item.inside.attributes in
    let p = c.item.inside.pos in
    let same = sym c.item.view_is ∙ ap (shown attrs p) arm.is in
    on_ok_always c.if_fault.result _ (λ before names.
    if_named x attrs p arm.condition arm.field-1 arm.field-2 same c.args.here.now.earlier before names)

pub returns-in-If-default-default-None-clause-reached : goal.returns-in-If-default-default-None-clause-reached
returns-in-If-default-default-None-clause-reached c =
    let x = c.args.item.now in
    let arm = c.in-If-default-default-None in
    let attrs = c.item.inside.attributes in
    let p = c.item.inside.pos in
    let same = sym c.item.view_is ∙ ap (shown attrs p) arm.is in
    on_ok_always c.if_fault.result _ (λ at before alike reached.
    if_reached x attrs p arm.condition arm.field-1 arm.field-2 same c.args.here.now.reached at before reached)

pub returns-in-If-default-default-Some-clause-fault : goal.returns-in-If-default-default-Some-clause-fault
returns-in-If-default-default-Some-clause-fault c =
    let x = c.args.item.now in
    let arm = c.in-If-default-default-Some in
    let attrs = c.item.inside.attributes in
    let p = c.item.inside.pos in
    let same = sym c.item.view_is ∙ ap (shown attrs p) arm.is in
    IfOk-weaker c.if_fault-in-If-default-default-Some.result _ _ (λ g h at here said path.
    if_refused x attrs p arm.condition arm.field-1 arm.field-2 same c.args.source.now.modules.now at g
    (h (meanings_at at) at.earlier here.alike here.before)) c.if_fault-in-If-default-default-Some.ensures

pub returns-in-If-default-default-Some-clause-earlier : goal.returns-in-If-default-default-Some-clause-earlier
returns-in-If-default-default-Some-clause-earlier c =
    let x = c.args.item.now in
    let arm = c.in-If-default-default-Some in
    let attrs = c.item.inside.attributes in
    let p = c.item.inside.pos in
    let same = sym c.item.view_is ∙ ap (shown attrs p) arm.is in
    on_ok_always c.if_fault-in-If-default-default-Some.result _ (λ before names.
    if_named x attrs p arm.condition arm.field-1 arm.field-2 same c.args.here.now.earlier before names)

pub returns-in-If-default-default-Some-clause-reached : goal.returns-in-If-default-default-Some-clause-reached
returns-in-If-default-default-Some-clause-reached c =
    let x = c.args.item.now in
    let arm = c.in-If-default-default-Some in
    let attrs = c.item.inside.attributes in
    let p = c.item.inside.pos in
    let same = sym c.item.view_is ∙ ap (shown attrs p) arm.is in
    on_ok_always c.if_fault-in-If-default-default-Some.result _ (λ at before alike reached.
    if_reached x attrs p arm.condition arm.field-1 arm.field-2 same c.args.here.now.reached at before reached)
