use Rattle.std.specs.Prelude.{◌==◌, bit_or, ℕ, Option}
use Rattle.std.specs.Int.Bits.{or_zero_r}
use Rattle.std.proofs.Common.{ap, sym, ◌∙◌, subst}
use Rattle.fv_bits.specs.Bits.{bit}
use Rattle.wn_net.specs.Net.{value_at, width_at}
use Rattle.wn_net.proofs.Laws.{built_node}
use Rattle.vl_lower_stmt.specs.StepsArms.{IsNodeOr, number_or}
use Rattle.vl_lower_stmt.proofs.labels.equal_but.Goals as goal

pub returns-in_ok-same-in-None-clause-shows : goal.returns-in_ok-same-in-None-clause-shows
returns-in_ok-same-in-None-clause-shows c =
    let net = c.args.net.now in
    let built = c.in_ok-same-in-None.ensures.built in
    record {
      node = built_node _ _ _ _ _ _ built;
      value = λ g given.
          let a = value_at net g c.args.a in
          let b = value_at net g c.args.b in
          built.value g
          ∙ (λ i. bit (sym (or_zero_r a) i == sym (or_zero_r b) i))
          ∙ ap (λ o. bit (bit_or a (number_or net g o) == bit_or b (number_or net g o))) (sym c.in-None.is);
    }

pub or-requires-clause-right : goal.or-requires-clause-right
or-requires-clause-right c =
    let P : Option ℕ → Type 0 = λ o. IsNodeOr c.args.net.now (width_at c.args.net.now c.args.a) o in
    subst P c.in-Some.is c.requires.wild
