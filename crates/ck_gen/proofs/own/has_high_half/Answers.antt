use Rattle.std.specs.Prelude.{◌==◌}
use Rattle.std.proofs.Common.{◌∙◌}
use Rattle.fv_bits.specs.Bits.{bit}
use Rattle.wn_net.specs.Net.{value_at}
use Rattle.wn_net.proofs.Laws.{given_on, value_on}
use Rattle.wn_net.proofs.Moved.{value_within}
use Rattle.ck_gen.proofs.Halves.{upper_half}
use Rattle.ck_gen.proofs.own.has_high_half.Goals as goal

pub returns-clause-tells : goal.returns-clause-tells
returns-clause-tells c =
    let old = c.args.net.now in
    let one = c.slice.new.self in
    let half = c.in_ok-half.ensures.built in
    let id = c.in_ok-id.ensures.tells in
    let insn = c.args.insn in
    record {
      node = id.node;
      value = λ g given.
          id.value g (given_on old one g half.adds given)
          ∙ (λ i. bit ((half.value g
          ∙ upper_half (value_at old g insn) (value_within old g 32 insn c.width.ensures.whole given c.requires.insn)) i
          == value_on old one g c.args.half_word half.adds c.requires.half_word.0 i));
    }
