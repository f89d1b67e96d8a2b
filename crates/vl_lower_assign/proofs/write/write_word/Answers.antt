use Rattle.std.specs.Prelude.{◌+◌, ℕ}
use Rattle.std.proofs.Common.{refl, ◌∙◌}
use Rattle.wn_net.proofs.Laws.{adds_on, given_on, there_on, value_on}
use Rattle.vl_lower_assign.specs.declared.slot.Holder.TheVariants as of
use Rattle.vl_lower_assign.specs.Slots.{IsToldBy, Stores}
use Rattle.vl_lower_assign.proofs.Memories.{known_leads}
use Rattle.vl_lower_assign.proofs.WordWrites.{cell_written, word_stored}
use Rattle.vl_lower_assign.proofs.write.write_word.Goals as goal

pub returns-in-Some-clause-writes : goal.returns-in-Some-clause-writes
returns-in-Some-clause-writes c =
    let net = c.args.net.now in
    let first = c.number.new.net in
    let mid = c.number-2.new.net in
    let zero = c.in_ok-zero.zero in
    let one = c.in_ok-zero.ensures in
    let two = c.in_ok-addr.ensures in
    cell_written net mid c.write_slot.new.net c.args.cells.now c.write_slot.new.cells c.args.path c.args.slot c.args.value
    (c.args.word.first + c.args.word.address) zero c.requires.holder (adds_on net first mid one.adds two.adds)
    c.requires.path c.requires.cells c.requires.slot.place c.requires.value.0
    (there_on first mid zero two.adds one.shows.node.0)
    (λ g given. value_on first mid g zero two.adds one.shows.node.0 ∙ one.shows.value g given)
    c.in_ok-made.ensures.writes

pub returns-in-Some-clause-stores : goal.returns-in-Some-clause-stores
returns-in-Some-clause-stores c =
    let net = c.args.net.now in
    let first = c.number.new.net in
    let mid = c.number-2.new.net in
    let new = c.write_slot.new.net in
    let cells = c.args.cells.now in
    let after = c.write_slot.new.cells in
    let slot = c.args.slot in
    let at : ℕ = c.args.word.first + c.args.word.address in
    let zero = c.in_ok-zero.zero in
    let one = c.in_ok-zero.ensures in
    let two = c.in_ok-addr.ensures in
    let made = c.in_ok-made.field-0 in
    let stored : Stores mid new cells after slot.width (of.Word at 1 zero) c.in-Some.made =
    known_leads (Stores mid new cells after slot.width (of.Word at 1 zero)) made c.in-Some.made c.in-Some.is
    c.in_ok-made.ensures.stores in
    let told : IsToldBy (of.Word at 1 zero) c.in-Some.made =
    known_leads (IsToldBy (of.Word at 1 zero)) made c.in-Some.made c.in-Some.is c.in_ok-made.ensures.told in
    word_stored net mid new cells after c.args.path slot c.args.value at zero c.requires.holder
    (adds_on net first mid one.adds two.adds) c.requires.path c.requires.cells c.requires.slot.place c.requires.value.0
    (there_on first mid zero two.adds one.shows.node.0)
    (λ g given. value_on first mid g zero two.adds one.shows.node.0 ∙ one.shows.value g given)
    c.in_ok-made.ensures.writes c.args.word c.in_ok-addr.addr c.in-Some.made refl c.requires.word two.shows.node.0
    (λ g given. two.shows.value g (given_on net first g one.adds given) ∙ c.from.ensures) stored told

pub returns-in-None-clause-writes : goal.returns-in-None-clause-writes
returns-in-None-clause-writes c =
    let net = c.args.net.now in
    let first = c.number.new.net in
    let mid = c.number-2.new.net in
    let zero = c.in_ok-zero.zero in
    let one = c.in_ok-zero.ensures in
    let two = c.in_ok-addr.ensures in
    cell_written net mid c.write_slot.new.net c.args.cells.now c.write_slot.new.cells c.args.path c.args.slot c.args.value
    (c.args.word.first + c.args.word.address) zero c.requires.holder (adds_on net first mid one.adds two.adds)
    c.requires.path c.requires.cells c.requires.slot.place c.requires.value.0
    (there_on first mid zero two.adds one.shows.node.0)
    (λ g given. value_on first mid g zero two.adds one.shows.node.0 ∙ one.shows.value g given)
    c.in_ok-made.ensures.writes
