use Rattle.std.specs.Prelude.{◌≡◌, ◌+◌, ◌-◌, ◌*◌, ◌<◌, ℕ, List, refl, length, map, slice_index, slice_index_or}
use Rattle.std.proofs.Common.{ap, sym, ◌∙◌, arith, subst}
use Rattle.std.proofs.lemmas.List.{get_or_read}
use Rattle.wn_net.specs.Net.{AreNodesOf, value_at}
use Rattle.wn_net.proofs.Laws.{adds_on}
use Rattle.ck_history.specs.Entries.{Show, entry_at, packed}
use Rattle.ck_gen.specs.Kept.{kept_in}
use Rattle.ck_gen.proofs.Monitored.{is_among}
use Rattle.ck_gen.specs.Around.{holds_around, place_of}
use Rattle.ck_gen.proofs.Counts.{known_between}
use Rattle.ck_gen.proofs.Once.{no_channel}
use Rattle.ck_gen.proofs.Recalled.{IsRecalled, to_new}
use Rattle.ck_gen.proofs.GenTrigger.{IsTriggered, turned_fails}
use Rattle.ck_gen.proofs.watch.turn_around.Goals.{After-drop-words-2}
use Rattle.ck_gen.proofs.watch.turn_around.Goals as goal

recalled : (c : After-drop-words-2)
    → IsRecalled c.args.net.now c.kept_words.new.net c.history.new.net c.violates.new.net c.args.port.now
    c.args.check.now c.as_slice.result.now c.in_ok-shown.shown.items
recalled c =
    let old = c.args.net.now in
    let worded = c.kept_words.new.net in
    let kept = c.history.new.net in
    let opened = c.unpack.new.net in
    let judged = c.look_around.new.net in
    let check = c.args.check.now in
    let channels : c.as_slice-channels.result.now ≡ c.args.port.now.channels = c.as_slice-channels.ensures in
    let words : c.as_slice.result.now ≡ c.in_ok-words.words.items = c.as_slice.ensures.value in
    let lawful = c.requires.check.lawful in
    let made = c.in_ok-words.ensures in
    let line = c.in_ok-shown.ensures in
    let P : List ℕ → Type 0 = λ ws. AreNodesOf worded 102 ws in
    record {
      port_nodes = c.requires.port;
      order = omega (arith, lawful.start, lawful.trig);
      words_added = made.adds;
      word_nodes = subst P (sym words) made.nodes;
      many = ap length words ∙ made.many ∙ ap length channels;
      values = λ g.
          ap (map (value_at worded g)) words ∙ made.values g
          ∙ ap (λ xs. map packed (kept_in check.kind old g xs)) channels;
      history_added = line.adds;
      history_nodes = line.nodes;
      long = line.many;
      front = line.first;
      behind = line.behind;
      kept_whole = c.nodes.ensures.whole;
      added = adds_on kept opened c.violates.new.net c.in_ok-own.ensures.adds
          (adds_on opened judged c.violates.new.net c.in_ok-held.ensures.adds c.in_ok-id.ensures.adds);
      whole = c.nodes-2.ensures.whole;
    }

place_is : (c : After-drop-words-2)
    → c.trigger_place-place.result ≡ place_of c.args.check.now (length c.args.port.now.channels)
place_is c =
    c.trigger_place-place.ensures.value ∙ ap (λ xs. place_of c.args.check.now (length xs)) c.as_slice-channels.ensures

triggered : (c : After-drop-words-2)
    → IsTriggered c.args.net.now c.kept_words.new.net c.history.new.net c.unpack.new.net c.look_around.new.net
    c.violates.new.net c.args.port.now c.args.check.now
    (slice_index_or c.args.port.now.channels c.args.check.now.channel no_channel)
    c.as_slice.result.now c.in_ok-shown.shown.items c.in_ok-own.own c.in_ok-held.held c.in_ok-id.id
triggered c =
    let kept = c.history.new.net in
    let opened = c.unpack.new.net in
    let judged = c.look_around.new.net in
    let check = c.args.check.now in
    let port = c.args.port.now in
    let ids = c.in_ok-shown.shown.items in
    let place = c.trigger_place-place.result in
    let lawful = c.requires.check.lawful in
    let shown : c.as_slice-2.result.now ≡ ids = c.as_slice-2.ensures.value in
    let words : c.as_slice.result.now ≡ c.in_ok-words.words.items = c.as_slice.ensures.value in
    let channels : c.as_slice-channels.result.now ≡ port.channels = c.as_slice-channels.ensures in
    let long : length ids ≡ length c.as_slice-channels.result.now * (check.cycle - check.start + 1) =
    c.in_ok-shown.ensures.many
    ∙ ap (λ n. n * (check.cycle - check.start + 1)) (ap length words ∙ c.in_ok-words.ensures.many) in
    let below : place < length ids = omega (arith, long, c.trigger_place-place.ensures.within) in
    let read : c.index.result.now ≡ slice_index ids place =
    get_or_read ids place c.index.result.now below c.index.ensures 0 in
    record {
      kind = c.requires.kind;
      recalled = recalled c;
      among = is_among port.channels check.channel _ no_channel c.requires.check.channel refl;
      low = lawful.start;
      high = lawful.trig;
      within = omega (arith, below, place_is c);
      opened_added = c.in_ok-own.ensures.adds;
      own_nodes = c.in_ok-own.ensures.nodes;
      opens = λ g e own value.
          c.in_ok-own.ensures.value g e own
          (ap (value_at kept g) (read ∙ ap (slice_index ids) (place_is c)) ∙ value);
      judged_added = c.in_ok-held.ensures.adds;
      judges = λ g es given show.
          let P : List ℕ → Type 0 = λ ws. Show opened g ws es in
          c.in_ok-held.ensures.tells g es given (subst P (sym shown) show)
          ∙ ap (λ n. holds_around check.kind n (entry_at opened g c.in_ok-own.own) es) (place_is c);
      added = c.in_ok-id.ensures.adds;
      tells = c.in_ok-id.ensures.tells;
    }

pub returns-clause-known : goal.returns-clause-known
returns-clause-known c =
    let b = recalled c in
    known_between c.args.net.now c.kept_words.new.net c.history.new.net c.violates.new.net
    (length c.as_slice.result.now * (c.args.check.now.cycle - c.args.check.now.start)) _
    b.words_added c.in_ok-shown.ensures.known b.added
    (ap (λ n. n * (c.args.check.now.cycle - c.args.check.now.start)) b.many)

pub returns-clause-fails : goal.returns-clause-fails
returns-clause-fails c = λ opts inputs start run.
    turned_fails c.args.net.now c.kept_words.new.net c.history.new.net c.unpack.new.net c.look_around.new.net
    c.violates.new.net c.args.port.now c.args.check.now _ c.as_slice.result.now c.in_ok-shown.shown.items
    c.in_ok-own.own c.in_ok-held.held c.in_ok-id.id (triggered c) inputs start run opts

pub returns-clause-adds : goal.returns-clause-adds
returns-clause-adds c =
    to_new c.args.net.now c.kept_words.new.net c.history.new.net c.violates.new.net c.args.port.now c.args.check.now
    c.as_slice.result.now c.in_ok-shown.shown.items (recalled c)
