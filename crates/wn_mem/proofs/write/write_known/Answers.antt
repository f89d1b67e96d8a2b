use Rattle.std.specs.Prelude.{◌≡◌, ℕ}
use Rattle.std.proofs.Common.{sym, ◌∙◌, subst}
use Rattle.wn_net.specs.Next.{written}
use Rattle.wn_net.specs.Net.{AreNodesOf, width_at, value_at}
use Rattle.wn_net.proofs.Laws.{nodes_on, value_on}
use Rattle.wn_mem.specs.Words.{ShareWrite, words_width}
use Rattle.wn_mem.proofs.Tree.{numbers_on}
use Rattle.wn_mem.proofs.write.write_known.Goals as goal

pub write_word-requires-clause-words : goal.write_word-requires-clause-words
write_word-requires-clause-words c =
    let net = c.args.net.now in
    let one = c.share.new.net in
    let words = c.args.words.now in
    let share = c.in_ok-shared.ensures in
    let P : ℕ → Type 0 = λ u. AreNodesOf one u words in
    subst P (sym (share.there.0.1 ∙ c.requires.write.mask.1))
    (nodes_on net one (words_width net words) words share.adds c.requires.words)

pub returns-clause-value : goal.returns-clause-value
returns-clause-value c = λ g given.
    let net = c.args.net.now in
    let one = c.share.new.net in
    let words = c.args.words.now in
    let write = c.args.write.now in
    let w = words_width net words in
    let put = c.in_ok-shared.shared.written in
    let kept = c.in_ok-shared.shared.kept in
    let share = c.in_ok-shared.ensures in
    let mask = value_at net g write.mask in
    let number = value_at net g write.value in
    let wide : width_at one put ≡ w = share.there.0.1 ∙ c.requires.write.mask.1 in
    let P : ℕ → Type 0 = λ u. ShareWrite one g u mask number put kept in
    c.in_ok-write_word.ensures.value g mask number (subst P (sym share.there.0.1) (share.value g))
    ∙ (λ i. written (wide i) (numbers_on net one w g words share.adds c.requires.words i)
    (value_on net one g write.enable share.adds c.requires.write.enable.0 i) (sym (c.requires.known g) i) mask number)
