use Rattle.std.proofs.Common.{sym, ◌∙◌, ap}
use Rattle.vl_size.proofs.Entries.{place-keyed}
use Rattle.vl_size.specs.Entries.{decls_of}
use Rattle.vl_size.specs.Table.{place}
use Rattle.vl_size.proofs.decls.Decls.find.Goals as goal

pub returns-in-Some : goal.returns-in-Some
returns-in-Some c =
    sym c.in-Some.is ∙ c.get_index_of.ensures.index
    ∙ place-keyed c.bytes.result.now c.self.inside.map.entries c.self.invariant.keyed
    ∙ ap (λ n. place (decls_of c.self.inside.map.entries) n) c.bytes.ensures
    ∙ ap (λ ds. place ds c.args.name.now) c.self.view_is

pub returns-in-None : goal.returns-in-None
returns-in-None c =
    sym c.in-None.is ∙ c.get_index_of.ensures.index
    ∙ place-keyed c.bytes.result.now c.self.inside.map.entries c.self.invariant.keyed
    ∙ ap (λ n. place (decls_of c.self.inside.map.entries) n) c.bytes.ensures
    ∙ ap (λ ds. place ds c.args.name.now) c.self.view_is
