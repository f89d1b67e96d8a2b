use Rattle.vl_elab_names.proofs.ModulesNames.{popped}
use Rattle.vl_elab_names.proofs.path.ModulePath.pop.Goals as goal

pub returns-in-None : goal.returns-in-None
returns-in-None c names name e =
    popped c.pop.result c.self.inside.map.entries c.pop.new.self.entries c.args.self.now names name
    c.pop.ensures.entries c.pop.ensures.found c.self.view_is e

pub returns-in-Some : goal.returns-in-Some
returns-in-Some c names name e =
    popped c.pop.result c.self.inside.map.entries c.pop.new.self.entries c.args.self.now names name
    c.pop.ensures.entries c.pop.ensures.found c.self.view_is e
