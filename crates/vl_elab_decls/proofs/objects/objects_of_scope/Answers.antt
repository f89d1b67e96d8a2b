use Rattle.std.specs.Prelude.{◌≡◌, ◌++◌, List, None}
use Rattle.std.proofs.Common.{sym, subst}
use Rattle.std.proofs.lemmas.Result.{IfOk-weaker}
use Rattle.vl_tree.specs.Item.{items}
use Rattle.vl_mean.specs.Declarations.{full_ports}
use Rattle.vl_mean.specs.Scopes.{Scope}
use Rattle.vl_mean.specs.Walk.{Use}
use Rattle.vl_elab_spec.specs.Meanings.{Names, port_meanings, items_meanings}
use Rattle.vl_elab_scope.specs.Alike.{Alike}
use Rattle.vl_elab_decls.specs.Inputs.{AreInputs}
use Rattle.vl_elab_decls.specs.Objects.{scope_objects}
use Rattle.vl_elab_decls.specs.Shaped.{IsDeclared, AreShaped}
use Rattle.vl_elab_decls.proofs.ShapeWhole.{all_objects_shaped}
use Rattle.vl_elab_decls.proofs.objects.objects_of_scope.Goals as goal

pub returns : goal.returns
returns c =
    let ns = c.args.names.now in
    let inputs = c.args.inputs.now in
    let ports = c.args.ports.now in
    let xs = items c.args.all.now in
    IfOk-weaker c.all_objects.result (λ level. level ≡ scope_objects ns inputs ports xs)
    (λ level. (s : Scope) (outer known : List Names) (ss : List Scope) (u : Use) → AreInputs inputs u → Alike ns known
    → IsDeclared s known ss u (full_ports None ports) xs
    → AreShaped level (port_meanings s outer known (full_ports None ports) ++ items_meanings s outer known xs) s.decls)
    (λ level e s outer known ss u g h d.
    subst (λ l. AreShaped l
    (port_meanings s outer known (full_ports None ports) ++ items_meanings s outer known xs) s.decls)
    (sym e) (all_objects_shaped s outer ns known ss inputs u ports xs g h d)) c.all_objects.ensures
