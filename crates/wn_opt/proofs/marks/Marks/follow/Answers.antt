use Rattle.std.specs.Prelude.{◌<◌, Some, length}
use Rattle.std.proofs.Common.{refl, ap, sym, ◌∙◌, subst, arith}
use Rattle.std.proofs.lemmas.Option.{same_Some}
use Rattle.wn_net.specs.declared.node.Node.TheVariants as n
use Rattle.wn_opt.specs.Needed.{operands}
use Rattle.wn_opt.specs.Marks.{AreIn, AreNeeded, IsFollowed}
use Rattle.wn_opt.proofs.Begun.{item_at}
use Rattle.wn_opt.proofs.Walking.{are_in_more, operands_needed, other_followed, read_followed}
use Rattle.wn_opt.proofs.marks.Marks.follow.Goals as goal

pub mark_all-requires-clause-needed : goal.mark_all-requires-clause-needed
mark_all-requires-clause-needed c =
    let net = c.args.net.now in
    let x = c.index-nodes-user.result in
    let inside : c.args.user < length c.nodes.result.now = omega (arith, c.requires.there, ap length c.nodes.ensures.value) in
    let at = item_at net.nodes c.nodes.result.now c.args.user c.args.user x x c.nodes.ensures.value refl inside
    c.index-nodes-user.is in
    let need = c.requires.walks.needed c.args.user c.requires.listed in
    subst (AreNeeded net c.args.roots.now) (sym c.operands_of-operands.ensures.ids)
    (operands_needed net c.args.roots.now c.args.user x need at)

pub mark_reg-requires-clause-reads : goal.mark_reg-requires-clause-reads
mark_reg-requires-clause-reads c =
    let net = c.args.net.now in
    let x = c.index-nodes-user.result in
    let inside : c.args.user < length c.nodes.result.now = omega (arith, c.requires.there, ap length c.nodes.ensures.value) in
    item_at net.nodes c.nodes.result.now c.args.user c.args.user x x c.nodes.ensures.value refl inside
    c.index-nodes-user.is
    ∙ ap Some c.in-Reg.is

pub mark_mem-requires-clause-reads : goal.mark_mem-requires-clause-reads
mark_mem-requires-clause-reads c =
    let net = c.args.net.now in
    let x = c.index-nodes-user.result in
    let inside : c.args.user < length c.nodes.result.now = omega (arith, c.requires.there, ap length c.nodes.ensures.value) in
    item_at net.nodes c.nodes.result.now c.args.user c.args.user x x c.nodes.ensures.value refl inside
    c.index-nodes-user.is
    ∙ ap Some c.in-Read.is

pub returns-in_ok-mark_reg-in-Reg-clause-followed : goal.returns-in_ok-mark_reg-in-Reg-clause-followed
returns-in_ok-mark_reg-in-Reg-clause-followed c = λ z e.
    let net = c.args.net.now in
    let x = c.index-nodes-user.result in
    let inside : c.args.user < length c.nodes.result.now = omega (arith, c.requires.there, ap length c.nodes.ensures.value) in
    let at = item_at net.nodes c.nodes.result.now c.args.user c.args.user x x c.nodes.ensures.value refl inside
    c.index-nodes-user.is in
    let same = same_Some (n.Reg c.in-Reg.reg) z (sym (at ∙ ap Some c.in-Reg.is) ∙ e) in
    subst (λ y. IsFollowed net c.mark_reg.new.self y) same c.in_ok-mark_reg-in-Reg.ensures.followed

pub returns-in_ok-mark_mem-in-Read-clause-followed : goal.returns-in_ok-mark_mem-in-Read-clause-followed
returns-in_ok-mark_mem-in-Read-clause-followed c = λ z e.
    let net = c.args.net.now in
    let x = c.index-nodes-user.result in
    let inside : c.args.user < length c.nodes.result.now = omega (arith, c.requires.there, ap length c.nodes.ensures.value) in
    let at = item_at net.nodes c.nodes.result.now c.args.user c.args.user x x c.nodes.ensures.value refl inside
    c.index-nodes-user.is in
    let same = same_Some (n.Read c.in-Read.mem c.in-Read.addr) z (sym (at ∙ ap Some c.in-Read.is) ∙ e) in
    let mid = c.mark_all.new.self in
    let first = subst (AreIn mid.list.items) (c.operands_of-operands.ensures.ids ∙ ap operands c.in-Read.is)
    c.in_ok-mark_all.ensures.listed in
    subst (λ y. IsFollowed net c.mark_mem.new.self y) same
    (read_followed net c.mark_mem.new.self c.in-Read.mem c.in-Read.addr
    (are_in_more mid c.mark_mem.new.self (operands (n.Read c.in-Read.mem c.in-Read.addr))
    c.in_ok-mark_mem-in-Read.ensures.goes.more first) c.in_ok-mark_mem-in-Read.ensures.marked)

pub returns-in_default : goal.returns-in_default
returns-in_default c =
    let net = c.args.net.now in
    let x = c.index-nodes-user.result in
    let inside : c.args.user < length c.nodes.result.now = omega (arith, c.requires.there, ap length c.nodes.ensures.value) in
    let at = item_at net.nodes c.nodes.result.now c.args.user c.args.user x x c.nodes.ensures.value refl inside
    c.index-nodes-user.is in
    let mid = c.mark_all.new.self in
    let first = subst (AreIn mid.list.items) c.operands_of-operands.ensures.ids c.in_ok-mark_all.ensures.listed in
    record {
      goes = c.in_ok-mark_all.ensures.goes;
      followed = λ z e.
          subst (λ y. IsFollowed net mid y) (same_Some x z (sym at ∙ e))
          (other_followed net mid x first c.in_default.not-Reg c.in_default.not-Read);
    }
