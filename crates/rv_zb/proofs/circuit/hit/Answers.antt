use Rattle.std.specs.Prelude.{◌==◌, bit_and}
use Rattle.std.specs.List.{list_all}
use Rattle.std.proofs.Common.{◌∙◌, sym}
use Rattle.fv_bits.specs.Bits.{bit}
use Rattle.rv_table.specs.Fields.{field}
use Rattle.rv_table.specs.Compressed.{meets}
use Rattle.wn_net.specs.Net.{value_at}
use Rattle.wn_net.proofs.Laws.{adds_on, node_on, given_on, built_node}
use Rattle.rv_zb.specs.Rows.{zb_matches}
use Rattle.rv_zb.proofs.NodeLemmas.{three_are}
use Rattle.rv_zb.proofs.circuit.hit.Goals as goal

pub returns-clause-shows : goal.returns-clause-shows
unfolding zb_matches
returns-clause-shows c =
    let word = c.args.word in
    let w = value_at c.args.net.now in
    let code = c.code-code.result in
    let opcode = c.in_ok-opcode.ensures in
    let funct3 = c.in_ok-funct3.ensures in
    let funct7 = c.in_ok-funct7.ensures in
    let rest = c.in_ok-rest.ensures.built in
    let test = c.in_ok-test.ensures.built in
    let to2 = adds_on _ _ _ opcode.adds funct3.adds in
    let behind3 = adds_on _ _ _ funct7.adds rest.adds in
    let behind2 = adds_on _ _ _ funct3.adds behind3 in
    let made = built_node _ _ _ _ _ _ test in
    let there = node_on _ _ 1 c.in_ok-opcode.opcode behind2 opcode.shows.node in
    record {
      node = (made.0, made.1 ∙ there.1);
      value = λ g given.
          let given1 = given_on _ _ g opcode.adds given in
          let given2 = given_on _ _ g funct3.adds given1 in
          let first = behind2.keeps.values g c.in_ok-opcode.opcode opcode.shows.node.0
          ∙ opcode.shows.value g given in
          let second = funct7.adds.keeps.values g c.in_ok-funct3.funct3 funct3.shows.node.0
          ∙ funct3.shows.value g given1
          ∙ (λ i. bit (field 14 12 (opcode.adds.keeps.values g word c.requires.0 i) == code.funct3)) in
          let third = funct7.shows.value g given2
          ∙ (λ i. bit (field 31 25 (to2.keeps.values g word c.requires.0 i) == code.funct7)) in
          let both = rest.value g ∙ (λ i. bit_and (second i) (third i)) in
          test.value g
          ∙ (λ i. bit_and (first i) (both i))
          ∙ three_are (field 6 0 (w g word) == code.opcode) (field 14 12 (w g word) == code.funct3)
          (field 31 25 (w g word) == code.funct7)
          ∙ (λ i. bit (list_all (meets (w g word)) (sym c.code-code.ensures.asked i)));
    }
