use Rattle.std.proofs.Common.{sym, ◌∙◌, ap}
use Rattle.std.specs.Prelude.{slice_get}
use Rattle.std.specs.Option.{option_map}
use Rattle.std.proofs.lemmas.Option.{slice_get-map}
use Rattle.vl_size.specs.Entries.{Entry}
use Rattle.vl_size.proofs.Entries.{seconds}
use Rattle.vl_size.proofs.decls.Decls.get.Goals as goal

pub returns-in-Some : goal.returns-in-Some
returns-in-Some c =
    ap (option_map (λ p. p.1.now)) (sym c.in-Some.is) ∙ seconds c.get_index.result
    ∙ ap (option_map (λ (e : Entry). e.1)) c.get_index.ensures.entry
    ∙ sym (slice_get-map (λ (e : Entry). e.1) c.self.inside.map.entries c.args.index)
    ∙ ap (λ ds. slice_get ds c.args.index) c.self.view_is

pub returns-in-None : goal.returns-in-None
returns-in-None c =
    ap (option_map (λ p. p.1.now)) (sym c.in-None.is) ∙ seconds c.get_index.result
    ∙ ap (option_map (λ (e : Entry). e.1)) c.get_index.ensures.entry
    ∙ sym (slice_get-map (λ (e : Entry). e.1) c.self.inside.map.entries c.args.index)
    ∙ ap (λ ds. slice_get ds c.args.index) c.self.view_is
