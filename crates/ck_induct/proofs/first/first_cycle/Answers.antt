use Rattle.std.specs.Prelude.{◌≡◌, refl, ℕ, ◌+◌, List, [], ◌∷◌}
use Rattle.std.proofs.Common.{ap, sym, ◌∙◌, subst}
use Rattle.fv_text.specs.declared.trace.Trace.{Trace}
use Rattle.wn_net.specs.declared.names.Names.{Names}
use Rattle.wn_net.specs.Names.{AreNamesOf}
use Rattle.tr_replay.specs.Traces.{choices_of, cycle_of, first_cycles}
use Rattle.ck_induct.specs.Traces.{IsFirstOther, first_in, name_of}
use Rattle.ck_induct.proofs.Firsts.{first_of_rows, names_are}
use Rattle.ck_induct.proofs.first.first_cycle.Goals as goal

pub replay-requires-clause-names : goal.replay-requires-clause-names
replay-requires-clause-names c =
    let P : Names → Type 0 = λ n. AreNamesOf c.args.net.now n in
    subst P (sym c.in_ok-names.ensures) (names_are c.args.net.now c.args.node c.requires.node)

pub returns : goal.returns
returns c =
    let net = c.args.net.now in
    let ch = choices_of c.args.chosen.now in
    let rows : c.as_slice.result.now ≡ first_cycles net (name_of c.args.node ∷ []) (cycle_of net ch) (c.args.k + 1) =
    c.as_slice.ensures ∙ ap (λ (t : Trace). t.cycles) c.in_ok-trace.ensures.run
    ∙ ap (λ (n : Names). first_cycles net n.list (cycle_of net ch) (c.args.k + 1)) c.in_ok-names.ensures in
    let P : List (List ℕ) → Type 0 = λ rs. IsFirstOther (first_in rs) c.args.k c.first_other.result in
    first_of_rows net (name_of c.args.node) c.args.node (cycle_of net ch) c.args.k c.first_other.result refl
    (subst P rows c.first_other.ensures)
