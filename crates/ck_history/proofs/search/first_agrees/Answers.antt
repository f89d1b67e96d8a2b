use Rattle.std.specs.Prelude.{◌≡◌, ◌+◌, ◌-◌, ◌<◌, true, if◌then◌else◌, length, drop, slice_index}
use Rattle.std.proofs.Common.{ap, sym, ◌∙◌, arith}
use Rattle.wn_net.proofs.Laws.{adds_on, given_on, value_on}
use Rattle.ck_history.proofs.Laws.{told}
use Rattle.ck_history.specs.Entries.{entry_at}
use Rattle.ck_history.proofs.Lines.{node_here}
use Rattle.ck_history.proofs.Entries.{entry_on, show_long, shown_at}
use Rattle.ck_history.specs.Searches.{is_sought, agrees, first_agrees}
use Rattle.ck_history.proofs.Found.{agrees_at_end, agrees_from}
use Rattle.ck_history.proofs.search.first_agrees.Goals as goal

pub loop-place-init : goal.loop-place-init
loop-place-init c =
    let old = c.args.net.now in
    let words = c.args.words.now in
    let made = c.in_ok-id.ensures in
    record {
      adds = made.adds;
      there = made.tells.node;
      within = omega arith;
      tells = λ g es given show.
          told old c.constant.new.net (λ h. true) c.in_ok-id.id g made.tells given
          ∙ sym (agrees_at_end c.args.sought (entry_at old g c.args.own) (length words) es
          (show_long old g words es show));
    }

pub loop-place-preserved : goal.loop-place-preserved
loop-place-preserved c =
    let old = c.args.net.now in
    let now = c.loop-place.net in
    let new = c.agrees_or.new.net in
    let words = c.args.words.now in
    let own = c.args.own in
    let s = c.args.sought in
    let inv = c.loop-place.invariant in
    let one = c.in_ok-id-2.ensures in
    let i = c.loop-place.place - 1 in
    let below : i < length words = omega (arith, inv.within, c.loop-place-test.true) in
    let same : c.loop-place.place ≡ i + 1 = omega (arith, c.loop-place-test.true) in
    record {
      adds = adds_on old now new inv.adds one.adds;
      there = one.there;
      within = omega (arith, inv.within);
      tells = λ g es given show.
          let at = shown_at old g words es i show below in
          let word = slice_index words i in
          one.tells g at.entry (given_on old now g inv.adds given) at.own
          (value_on old now g word inv.adds (node_here old 102 words i c.requires.words below).0 ∙ at.value)
          ∙ (λ j. if is_sought s (entry_on old now g own inv.adds c.requires.own j) at.entry
          then agrees s.word (entry_on old now g own inv.adds c.requires.own j) at.entry
          else (inv.tells g es given show ∙ ap (λ k. first_agrees s (entry_at old g own) (drop k es)) same) j)
          ∙ sym (agrees_from s (entry_at old g own) at.entry i es at.here);
    }
