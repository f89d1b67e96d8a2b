use Rattle.std.specs.Prelude.{length, map, List, []}
use Rattle.std.specs.List.{AllByRecursion}
use Rattle.std.proofs.Common.{ap, sym, ◌∙◌, subst}
use Rattle.std.proofs.lemmas.List.{length-map}
use Rattle.wn_net.specs.declared.parts.Init.{Init}
use Rattle.wn_net.specs.Net.{IsInitOf}
use Rattle.wn_net.specs.Changes.{with_mem}
use Rattle.bm_induct.specs.Rebuilt.{start_for}
use Rattle.bm_induct.proofs.Begun.{starts_fit}
use Rattle.bm_induct.proofs.begin.put_mem.Goals as goal

pub mem-requires-clause-each : goal.mem-requires-clause-each
mem-requires-clause-each c =
    ap length (c.in_ok-begins.ensures ∙ ap (map (start_for c.args.how)) c.as_slice.ensures)
    ∙ length-map c.args.own.now.init (start_for c.args.how) ∙ c.requires.each

pub mem-requires-clause-init : goal.mem-requires-clause-init
mem-requires-clause-init c =
    let own = c.args.own.now in
    let P : List Init → Type 0 = λ xs. AllByRecursion (IsInitOf own.width) xs in
    subst P (sym (c.in_ok-begins.ensures ∙ ap (map (start_for c.args.how)) c.as_slice.ensures))
    (starts_fit c.args.how own.width own.init c.requires.init)

pub returns : goal.returns
returns c =
    let own = c.args.own.now in
    c.in_ok-mem.ensures.new ∙ ap (λ (xs : List Init). with_mem c.args.made.now
    (record { width = own.width; words = own.words; init = xs; writes = [] }))
    (c.in_ok-begins.ensures ∙ ap (map (start_for c.args.how)) c.as_slice.ensures)
