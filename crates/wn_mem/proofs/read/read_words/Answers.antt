use Rattle.std.specs.Prelude.{ℕ}
use Rattle.std.proofs.Common.{subst, sym, ◌∙◌}
use Rattle.wn_net.specs.Net.{AreNodesOf}
use Rattle.wn_net.specs.Value.{word_at}
use Rattle.wn_net.proofs.Laws.{value_on, given_on, nodes_on}
use Rattle.wn_mem.specs.Words.{words_width}
use Rattle.wn_mem.proofs.Memories.{read_whole}
use Rattle.wn_mem.proofs.Tree.{numbers_on}
use Rattle.wn_mem.proofs.read.read_words.Goals as goal

pub returns-in-Some-memory_of-clause-value : goal.returns-in-Some-memory_of-clause-value
returns-in-Some-memory_of-clause-value c = λ g given.
    let net = c.args.net.now in
    let one = c.zero_of.new.net in
    let words = c.args.words.now in
    let mem = c.in-Some-memory_of.mem in
    let adds = c.in_ok-zero.ensures.adds in
    c.in_ok-word.ensures.built.value g
    ∙ read_whole one g words mem _ (given_on net one g adds given) c.in-Some-memory_of.ensures
    ∙ (λ i. word_at (numbers_on net one (words_width net words) g words adds c.requires.words i)
    (value_on net one g c.args.addr adds c.requires.addr i))

pub read_tree-requires-clause-words : goal.read_tree-requires-clause-words
read_tree-requires-clause-words c =
    let net = c.args.net.now in
    let one = c.zero_of.new.net in
    let words = c.args.words.now in
    let P : ℕ → Type 0 = λ w. AreNodesOf one w words in
    subst P (sym c.in_ok-zero.ensures.there.1)
    (nodes_on net one (words_width net words) words c.in_ok-zero.ensures.adds c.requires.words)

pub returns-clause-value : goal.returns-clause-value
returns-clause-value c = λ g given.
    let net = c.args.net.now in
    let one = c.zero_of.new.net in
    let adds = c.in_ok-zero.ensures.adds in
    c.in_ok-found.ensures.value g (given_on net one g adds given)
    ∙ (λ i. word_at (numbers_on net one
    (words_width net c.args.words.now) g c.args.words.now adds c.requires.words i)
    (value_on net one g c.args.addr adds c.requires.addr i))
