use Rattle.std.specs.Prelude.{◌≡◌, ℕ}
use Rattle.std.proofs.Common.{ap, sym, ◌∙◌, subst}
use Rattle.wn_net.specs.declared.names.Names.{Names}
use Rattle.wn_net.specs.Net.{Netlist}
use Rattle.wn_net.specs.Names.{AreNamesOf}
use Rattle.bm_induct.specs.declared.how.Rebuild.TheVariants.{Freed}
use Rattle.bm_induct.specs.Rebuilt.{offset}
use Rattle.tr_replay.specs.Traces.{choices_of, trace_of}
use Rattle.bm_induct.specs.MovedNames.{moved_names}
use Rattle.bm_induct.proofs.Anew.{same_choices}
use Rattle.bm_induct.proofs.Shown.{names_anew, names_below, trace_anew}
use Rattle.bm_induct.proofs.trace.step_trace.Goals as goal

-- the names by the offset of the net
by_offset : (net : Netlist) (names higher : Names) (more : ℕ) → more ≡ offset net → higher ≡ moved_names more names
    → higher ≡ moved_names (offset net) names
by_offset net names higher more e is = is ∙ ap (λ m. moved_names m names) e

pub moved_names-requires-clause-places : goal.moved_names-requires-clause-places
moved_names-requires-clause-places c =
    names_below c.args.net.now c.args.names.now.list c.in_ok-made.ensures.few c.requires.names.placed

pub replay-requires-clause-names : goal.replay-requires-clause-names
replay-requires-clause-names c =
    let net = c.args.net.now in
    let made = c.in_ok-made.made in
    let P : Names → Type 0 = λ n. AreNamesOf made n in
    subst P (sym (by_offset net c.args.names.now c.in_ok-higher.higher c.offset_of-more.result
    c.offset_of-more.ensures.value c.in_ok-higher.ensures))
    (names_anew net made c.in_ok-made.ensures.anew c.args.names.now c.requires.names)

pub replay-requires-clause-chosen : goal.replay-requires-clause-chosen
replay-requires-clause-chosen c =
    same_choices Freed c.args.net.now c.in_ok-made.made (choices_of c.args.chosen.now) c.in_ok-made.ensures.anew
    c.requires.chosen

pub returns : goal.returns
returns c =
    let net = c.args.net.now in
    let made = c.in_ok-made.made in
    c.in_ok-trace.ensures.run
    ∙ ap (λ (n : Names). trace_of made n (choices_of c.args.chosen.now) c.args.k)
    (by_offset net c.args.names.now c.in_ok-higher.higher c.offset_of-more.result c.offset_of-more.ensures.value
    c.in_ok-higher.ensures)
    ∙ trace_anew net made c.in_ok-made.ensures.anew c.args.names.now (choices_of c.args.chosen.now) c.args.k
    c.requires.names
