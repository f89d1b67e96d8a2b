use Rattle.std.specs.Prelude.{◌≡◌, ℕ, List, None, false}
use Rattle.std.proofs.Common.{◌∙◌}
use Rattle.std.proofs.lemmas.Result.{IfOk-weaker}
use Rattle.vl_size.specs.Table.{declared_as}
use Rattle.vl_mean.specs.Declarations.{declared_ports, full_ports}
use Rattle.vl_mean.specs.Scopes.{Scope, is_clock_decl}
use Rattle.vl_mean.specs.Walk.{Use}
use Rattle.vl_elab_names.specs.Known.{contains}
use Rattle.vl_elab_decls.specs.Inputs.{AreInputs}
use Rattle.vl_elab_decls.specs.Clocks.{clocks_of}
use Rattle.vl_elab_decls.proofs.PortClocks.{clocks_are}
use Rattle.vl_elab_decls.proofs.clocks.clock_inputs.Goals as goal

pub returns : goal.returns
returns c =
    let inputs = c.args.inputs.now in
    let ps = c.args.all.now in
    IfOk-weaker c.all_clocks.result
    (λ set. (other : List ℕ) → contains set other ≡ clocks_of inputs None ps (λ text. false) (λ text. false) other)
    (λ set. (ss : List Scope) (u : Use) → AreInputs inputs u → (text : List ℕ) → contains set text
    ≡ is_clock_decl (declared_as (declared_ports ss u.is_top u.input (full_ports None ps)) text))
    (λ set h ss u g text. h text ∙ clocks_are inputs ss u g ps text) c.all_clocks.ensures
