use Rattle.std.specs.Prelude.{bit_and}
use Rattle.std.specs.List.{list_all}
use Rattle.std.proofs.Common.{◌∙◌, sym}
use Rattle.fv_bits.specs.Bits.{bit}
use Rattle.rv_table.specs.Compressed.{meets}
use Rattle.wn_net.specs.Net.{value_at}
use Rattle.wn_net.proofs.Laws.{built_node, node_on}
use Rattle.rv_words.proofs.BitLemmas.{both_is}
use Rattle.rv_words.proofs.matching.+are_met.Goals as goal

pub returns-clause-shows : goal.returns-clause-shows
returns-clause-shows t c =
    let old = c.args.net.now in
    let word = c.args.word in
    let first = c.in-Some.first.now in
    let rest = c.in-Some.rest.now in
    let met = c.in_ok-met.ensures in
    let others = c.in_ok-others.ensures in
    let test = c.in_ok-test.ensures.built in
    let there = node_on _ _ 1 c.in_ok-met.met others.adds met.shows.node in
    let made = built_node _ _ _ _ _ _ test in
    record {
      node = (made.0, made.1 ∙ there.1);
      value = λ g given.
          let left = others.adds.keeps.values g c.in_ok-met.met met.shows.node.0 ∙ met.shows.value g given in
          let right = others.shows.value g (met.adds.keeps.given g given)
          ∙ (λ i. bit (list_all (meets (met.adds.keeps.values g word c.requires.word.0 i)) rest)) in
          test.value g
          ∙ (λ i. bit_and (left i) (right i))
          ∙ both_is (meets (value_at old g word) first) (list_all (meets (value_at old g word)) rest)
          ∙ (λ i. bit (list_all (meets (value_at old g word)) (sym c.in-Some.ensures.cases.0 i)));
    }
