use Rattle.std.proofs.Common.{sym, subst}
use Rattle.std.specs.Prelude.{◌++◌, ◌∷◌, []}
use Rattle.std.proofs.lemmas.Result.{on_ok_weaker}
use Rattle.vl_elab_spec.specs.Meanings.{meanings_at}
use Rattle.vl_elab_params.specs.Reached.{AreReached, parameters_at}
use Rattle.vl_elab_params.proofs.Next.{passed_reached}
use Rattle.vl_elab_params.proofs.reached.Reached.pass.Goals as goal

pub returns : goal.returns
returns c =
    let old = c.args.self.now in
    let names = c.args.names.now in
    let texts = c.args.text.now ∷ [] in
    on_ok_weaker c.pass_name.result
    (λ e at earlier a r. subst (λ p. AreReached p old.pending (meanings_at at) (parameters_at at) (earlier ++ texts))
    (sym e) (passed_reached old.passed old.pending names at earlier texts a r))
    c.pass_name.ensures
