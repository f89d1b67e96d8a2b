use Rattle.std.specs.Prelude.{◌≡◌, ◌+◌, ◌-◌, ◌*◌, ℕ, List, length, map, slice_index_or}
use Rattle.std.proofs.Common.{ap, sym, ◌∙◌, arith, subst}
use Rattle.wn_net.specs.Net.{AreNodesOf, value_at}
use Rattle.wn_net.proofs.Laws.{adds_on, adds_regs, regs_on}
use Rattle.rvfi_port.specs.Channels.{retire_at}
use Rattle.ck_history.specs.Entries.{packed}
use Rattle.ck_gen.specs.Retirements.{dmem_addr_at}
use Rattle.ck_gen.specs.Around.{earlier_of}
use Rattle.ck_gen.specs.Kept.{kept_in, holds_over}
use Rattle.ck_gen.proofs.Monitored.{is_among}
use Rattle.ck_gen.specs.Monitors.{TellsOver}
use Rattle.ck_gen.proofs.Back.{IsBuilt, fails}
use Rattle.ck_gen.proofs.EarlierWords.{earlier_nodes}
use Rattle.ck_gen.proofs.Places.{channel_at}
use Rattle.ck_gen.proofs.Recalled.{IsRecalled, to_new}
use Rattle.ck_gen.proofs.Counts.{known_between, own_within}
use Rattle.ck_gen.proofs.Once.{no_channel}
use Rattle.ck_gen.proofs.watch.look_back.Goals.{After-drop-words-2}
use Rattle.ck_gen.proofs.watch.look_back.Goals as goal

recalled : (c : After-drop-words-2)
    → IsRecalled c.args.net.now c.kept_words.new.net c.history.new.net c.violates.new.net c.args.port.now
    c.args.check.now c.as_slice.result.now c.in_ok-shown.shown.items
recalled c =
    let old = c.args.net.now in
    let worded = c.kept_words.new.net in
    let check = c.args.check.now in
    let channels : c.as_slice-channels.result.now ≡ c.args.port.now.channels = c.as_slice-channels.ensures in
    let words : c.as_slice.result.now ≡ c.in_ok-words.words.items = c.as_slice.ensures.value in
    let lawful = c.requires.check.lawful in
    let made = c.in_ok-words.ensures in
    let line = c.in_ok-shown.ensures in
    let P : List ℕ → Type 0 = λ ws. AreNodesOf worded 102 ws in
    record {
      port_nodes = c.requires.port;
      order = omega (arith, lawful.start, lawful.trig);
      words_added = made.adds;
      word_nodes = subst P (sym words) made.nodes;
      many = ap length words ∙ made.many ∙ ap length channels;
      values = λ g.
          ap (map (value_at worded g)) words ∙ made.values g
          ∙ ap (λ xs. map packed (kept_in check.kind old g xs)) channels;
      history_added = line.adds;
      history_nodes = line.nodes;
      long = line.many;
      front = line.first;
      behind = line.behind;
      kept_whole = c.nodes.ensures.whole;
      added = adds_on c.history.new.net c.holds.new.net c.violates.new.net c.in_ok-held.ensures.adds
          c.in_ok-id.ensures.adds;
      whole = c.nodes-2.ensures.whole;
    }

built : (c : After-drop-words-2)
    → IsBuilt c.args.net.now c.kept_words.new.net c.history.new.net c.holds.new.net c.violates.new.net
    c.args.port.now c.args.check.now (slice_index_or c.as_slice-channels.result.now c.args.check.now.channel no_channel)
    c.as_slice.result.now c.in_ok-shown.shown.items c.in_ok-held.held c.in_ok-id.id
built c =
    let kept = c.history.new.net in
    let check = c.args.check.now in
    let port = c.args.port.now in
    let channels : c.as_slice-channels.result.now ≡ port.channels = c.as_slice-channels.ensures in
    let shown : c.as_slice-2.result.now ≡ c.in_ok-shown.shown.items = c.as_slice-2.ensures.value in
    let x = slice_index_or c.as_slice-channels.result.now check.channel no_channel in
    let Q : List ℕ → Type 0 = λ ws. TellsOver kept c.holds.new.net ws
    (λ g es. holds_over (value_at kept g x.valid) (retire_at kept g x) es (dmem_addr_at kept g port.dmem) check.kind)
    c.in_ok-held.held in
    record {
      kind = c.requires.kind;
      recalled = recalled c;
      among = is_among port.channels check.channel x no_channel c.requires.check.channel
          (ap (λ xs. slice_index_or xs check.channel no_channel) channels);
      judged_added = c.in_ok-held.ensures.adds;
      judges = subst Q (c.as_slice-3.ensures.value ∙ c.in_ok-earlier.ensures
          ∙ (λ i. earlier_of check.kind (length (channels i) - 1 - check.channel) (shown i)))
          c.in_ok-held.ensures.tells;
      added = c.in_ok-id.ensures.adds;
      tells = c.in_ok-id.ensures.tells;
    }

pub returns-clause-known : goal.returns-clause-known
returns-clause-known c =
    let b = recalled c in
    known_between c.args.net.now c.kept_words.new.net c.history.new.net c.violates.new.net
    (length c.as_slice.result.now * (c.args.check.now.cycle - c.args.check.now.start)) _
    b.words_added c.in_ok-shown.ensures.known
    b.added
    (ap (λ n. n * (c.args.check.now.cycle - c.args.check.now.start)) b.many)

pub returns-clause-fails : goal.returns-clause-fails
returns-clause-fails c = λ opts inputs start run.
    fails c.args.net.now c.kept_words.new.net c.history.new.net c.holds.new.net c.violates.new.net c.args.port.now
    c.args.check.now _ c.as_slice.result.now c.in_ok-shown.shown.items c.in_ok-held.held c.in_ok-id.id (built c)
    inputs start run opts

pub holds-requires-clause-channel : goal.holds-requires-clause-channel
holds-requires-clause-channel c =
    let old = c.args.net.now in
    let worded = c.kept_words.new.net in
    let kept = c.history.new.net in
    channel_at old kept c.args.port.now.channels c.as_slice-channels.result.now c.args.check.now.channel no_channel
    (regs_on old worded kept (adds_regs old worded c.in_ok-words.ensures.adds) c.in_ok-shown.ensures.adds)
    c.requires.port.channels c.as_slice-channels.ensures c.requires.check.channel

pub violates-requires-clause-there : goal.violates-requires-clause-there
violates-requires-clause-there c =
    let old = c.args.net.now in
    let worded = c.kept_words.new.net in
    let kept = c.history.new.net in
    let judged = c.holds.new.net in
    let to_kept = regs_on old worded kept (adds_regs old worded c.in_ok-words.ensures.adds)
    c.in_ok-shown.ensures.adds in
    (channel_at old judged c.args.port.now.channels c.as_slice-channels.result.now c.args.check.now.channel no_channel
    (regs_on old kept judged to_kept (adds_regs kept judged c.in_ok-held.ensures.adds))
    c.requires.port.channels c.as_slice-channels.ensures c.requires.check.channel).valid

pub returns-in_err-id-clause-adds : goal.returns-in_err-id-clause-adds
returns-in_err-id-clause-adds c =
    let old = c.args.net.now in
    let worded = c.kept_words.new.net in
    let kept = c.history.new.net in
    let judged = c.holds.new.net in
    let to_kept = regs_on old worded kept (adds_regs old worded c.in_ok-words.ensures.adds)
    c.in_ok-shown.ensures.adds in
    regs_on old kept c.violates.new.net to_kept
    (adds_regs kept c.violates.new.net
    (adds_on kept judged c.violates.new.net c.in_ok-held.ensures.adds c.violates.ensures.adds))

pub returns-clause-adds : goal.returns-clause-adds
returns-clause-adds c =
    to_new c.args.net.now c.kept_words.new.net c.history.new.net c.violates.new.net c.args.port.now c.args.check.now
    c.as_slice.result.now c.in_ok-shown.shown.items (recalled c)

-- the words are there
pub holds-requires-clause-words : goal.holds-requires-clause-words
holds-requires-clause-words c =
    let kept = c.history.new.net in
    let kind = c.args.check.now.kind in
    let place = length c.as_slice-channels.result.now - 1 - c.args.check.now.channel in
    let P : List ℕ → Type 0 = λ ids. AreNodesOf kept 102 ids in
    subst P (sym (c.as_slice-3.ensures.value ∙ c.in_ok-earlier.ensures
    ∙ ap (earlier_of kind place) c.as_slice-2.ensures.value))
    (earlier_nodes kept 102 kind place c.in_ok-shown.shown.items c.in_ok-shown.ensures.nodes)

-- the own word is one of them
pub earlier_words-requires : goal.earlier_words-requires
earlier_words-requires c =
    let check = c.args.check.now in
    let port = c.args.port.now in
    let channels : c.as_slice-channels.result.now ≡ port.channels = c.as_slice-channels.ensures in
    let words : c.as_slice.result.now ≡ c.in_ok-words.words.items = c.as_slice.ensures.value in
    let long : length c.in_ok-shown.shown.items ≡ length port.channels * (check.cycle - check.start + 1) =
    c.in_ok-shown.ensures.many
    ∙ ap (λ n. n * (check.cycle - check.start + 1))
    (ap length words ∙ c.in_ok-words.ensures.many ∙ ap length channels) in
    let own = own_within check (length port.channels) c.requires.check c.requires.few in
    omega (arith, own, long, ap length channels, ap length c.as_slice-2.ensures.value)
