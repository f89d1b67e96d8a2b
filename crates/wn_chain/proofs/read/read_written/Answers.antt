use Rattle.wn_net.proofs.Laws.{there_on, given_on}
use Rattle.wn_mem.specs.Words.{words_width}
use Rattle.wn_chain.proofs.Chains.{read_value, writes_on}
use Rattle.wn_chain.proofs.read.read_written.Goals as goal

pub word_after_all-requires-clause-writes : goal.word_after_all-requires-clause-writes
word_after_all-requires-clause-writes c =
    let net = c.args.net.now in
    writes_on net c.read_after.new.net (words_width net c.args.words.now) _ c.args.writes.now c.in_ok-first.ensures.adds
    c.in_ok-first.ensures.there.1 c.requires.writes

pub returns-clause-value : goal.returns-clause-value
returns-clause-value c = λ g given.
    let net = c.args.net.now in
    let one = c.read_after.new.net in
    let two = c.word_after_all.new.net in
    let first = c.in_ok-first.ensures in
    let found = c.in_ok-found.ensures in
    read_value net one two c.where_below.new.net g c.args.words.now c.args.writes.now (words_width net c.args.words.now)
    c.args.addr c.in_ok-first.first c.in_ok-found.found c.in_ok-read.read first.adds found.adds c.requires.addr
    (there_on net one c.args.addr first.adds c.requires.addr) first.there.0 c.requires.writes first.there.1
    (first.value g given)
    (λ us below is. found.value g us (given_on net one g first.adds given) below is)
    (c.in_ok-read.ensures.shows.value g
    (given_on one two g found.adds (given_on net one g first.adds given)))
