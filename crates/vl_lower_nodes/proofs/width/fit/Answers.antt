use Rattle.std.proofs.Common.{arith, sym, ◌∙◌, ap}
use Rattle.fv_bits.specs.Bits.{extended}
use Rattle.wn_net.specs.Net.{width_at, value_at}
use Rattle.wn_net.proofs.Laws.{built_node}
use Rattle.wn_net.proofs.Moved.{value_below}
use Rattle.vl_lower_nodes.proofs.FitLemmas.{extended_cut, extended_same, extended_zeros, extended_signs}
use Rattle.vl_lower_nodes.proofs.width.fit.Goals as goal

pub returns-then-own-width-clause-shows : goal.returns-then-own-width-clause-shows
returns-then-own-width-clause-shows c =
    let net = c.args.net.now in
    let id = c.args.id in
    let same = sym c.width-own.ensures.value ∙ c.if-own-width.true in
    record {
      node = (c.requires.there, same);
      value = λ g given. extended_same (width_at net id) c.args.width c.args.signed (value_at net g id) same
          (value_below net g c.width-own.ensures.whole given id);
    }

pub returns-then-width-own-clause-shows : goal.returns-then-width-own-clause-shows
returns-then-width-own-clause-shows c =
    let net = c.args.net.now in
    let id = c.args.id in
    record {
      node = built_node _ _ _ _ _ _ c.in_ok-cut.ensures.built;
      value = λ g given. c.in_ok-cut.ensures.built.value g
          ∙ extended_cut (width_at net id) c.args.width c.args.signed (value_at net g id)
          (omega (arith, c.width-own.ensures.value));
    }

pub returns-then-signed-clause-shows : goal.returns-then-signed-clause-shows
returns-then-signed-clause-shows c =
    let net = c.args.net.now in
    let id = c.args.id in
    record {
      node = built_node _ _ _ _ _ _ c.in_ok-wide.ensures.built;
      value = λ g given. c.in_ok-wide.ensures.built.value g
          ∙ extended_signs (width_at net id) c.args.width (value_at net g id)
          (omega (arith, c.width-own.ensures.value)) (value_below net g c.width-own.ensures.whole given id)
          ∙ ap (λ s. extended (width_at net id) c.args.width s (value_at net g id)) (sym c.if-signed.true);
    }

pub returns-clause-shows : goal.returns-clause-shows
returns-clause-shows c =
    let net = c.args.net.now in
    let id = c.args.id in
    record {
      node = built_node _ _ _ _ _ _ c.in_ok-wide-2.ensures.built;
      value = λ g given. c.in_ok-wide-2.ensures.built.value g
          ∙ extended_zeros (width_at net id) c.args.width (value_at net g id)
          (omega (arith, c.width-own.ensures.value)) (value_below net g c.width-own.ensures.whole given id)
          ∙ ap (λ s. extended (width_at net id) c.args.width s (value_at net g id)) (sym c.if-signed.false);
    }
