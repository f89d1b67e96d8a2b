use Rattle.std.specs.Prelude.{if◌then◌else◌}
use Rattle.std.proofs.Common.{refl, ap, sym, ◌∙◌}
use Rattle.wn_net.specs.Net.{value_at}
use Rattle.wn_net.proofs.Laws.{built_node}
use Rattle.vl_lower_assign.proofs.Tests.{path_node, path_none, path_some}
use Rattle.vl_lower_assign.proofs.path.where_taken.Goals as goal

pub returns-in-None-clause-shows : goal.returns-in-None-clause-shows
returns-in-None-clause-shows c =
    let net = c.args.net.now in
    record {
      node = (c.requires.taken, refl);
      value = λ g given.
          ap (λ b. if b then value_at net g c.args.taken else value_at net g c.args.other)
          (sym (path_none net g c.args.path c.in-None.is));
    }

pub mux-requires-clause-cond : goal.mux-requires-clause-cond
mux-requires-clause-cond c = path_node c.args.net.now c.args.path c.in-Some.test c.in-Some.is c.requires.path

pub returns-in_ok-node-in-Some-clause-shows : goal.returns-in_ok-node-in-Some-clause-shows
returns-in_ok-node-in-Some-clause-shows c =
    let net = c.args.net.now in
    let built = c.in_ok-node-in-Some.ensures.built in
    record {
      node = built_node _ _ _ _ _ _ built;
      value = λ g given.
          built.value g
          ∙ ap (λ b. if b then value_at net g c.args.taken else value_at net g c.args.other)
          (sym (path_some net g c.args.path c.in-Some.test c.in-Some.is));
    }
