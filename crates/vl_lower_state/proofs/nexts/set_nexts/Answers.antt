use Rattle.std.specs.Prelude.{◌≡◌, ℕ, ◌<◌, ◌≤◌, List, length, map, take, slice_index}
use Rattle.std.proofs.Common.{ap, sym, ◌∙◌, arith, subst}
use Rattle.std.proofs.lemmas.List.{take_all}
use Rattle.std.proofs.lemmas.Option.{get_or_from_slice_get}
use Rattle.wn_net.specs.declared.parts.Reg.{Reg}
use Rattle.wn_net.specs.Changes.{reg_width, with_next}
use Rattle.wn_net.specs.Net.{Netlist, IsNodeOf}
use Rattle.wn_net.proofs.Laws.{keeps_on}
use Rattle.vl_lower_state.specs.Nexts.{with_nexts}
use Rattle.vl_lower_state.proofs.Setting.{as_many, next_at, nexts_many, one_more, widths_stay}
use Rattle.vl_lower_state.proofs.nexts.set_nexts.Goals as goal

pub bounds-nodes-at : goal.bounds-nodes-at
bounds-nodes-at c =
    let many = nexts_many c.args.net.now c.args.net.now.regs c.args.nodes.now c.requires in
    omega (arith, many, c.loop-at-test.true, ap (λ (rs : List Reg). length rs) c.regs-count.ensures.value)

pub set_next-requires-clause-reg : goal.set_next-requires-clause-reg
set_next-requires-clause-reg c =
    let long = ap (λ (n : Netlist). length n.regs) c.loop-at.invariant.new
    ∙ as_many (take c.loop-at.at c.args.nodes.now) c.args.net.now.regs in
    omega (arith, long, c.loop-at-test.true, ap (λ (rs : List Reg). length rs) c.regs-count.ensures.value)

pub set_next-requires-clause-next : goal.set_next-requires-clause-next
set_next-requires-clause-next c =
    let old = c.args.net.now in
    let less : c.loop-at.at < length old.regs =
    omega (arith, c.loop-at-test.true, ap (λ (rs : List Reg). length rs) c.regs-count.ensures.value) in
    let r = next_at old old.regs c.args.nodes.now c.requires c.loop-at.at less in
    let keeps = c.loop-at.invariant.keeps in
    let same = sym (get_or_from_slice_get c.args.nodes.now c.loop-at.at r.0 0 r.1) in
    let wide : reg_width c.loop-at.net c.loop-at.at ≡ reg_width old c.loop-at.at =
    ap (λ (n : Netlist). slice_index (map (λ (x : Reg). x.width) n.regs) c.loop-at.at) c.loop-at.invariant.new
    ∙ ap (λ ws. slice_index ws c.loop-at.at) (widths_stay (take c.loop-at.at c.args.nodes.now) old.regs) in
    subst (λ n. IsNodeOf c.loop-at.net (reg_width c.loop-at.net c.loop-at.at) n) same
    (omega (arith, r.2.0, keeps.longer), keeps.widths r.0 r.2.0 ∙ r.2.1 ∙ sym wide)

pub loop-at-preserved : goal.loop-at-preserved
loop-at-preserved c =
    let old = c.args.net.now in
    let less : c.loop-at.at < length old.regs =
    omega (arith, c.loop-at-test.true, ap (λ (rs : List Reg). length rs) c.regs-count.ensures.value) in
    let r = next_at old old.regs c.args.nodes.now c.requires c.loop-at.at less in
    let same = get_or_from_slice_get c.args.nodes.now c.loop-at.at r.0 0 r.1 in
    let so_far = take c.loop-at.at c.args.nodes.now in
    let Set : ℕ → Netlist = λ n. record c.loop-at.net { regs = with_next c.loop-at.at n c.loop-at.net.regs } in
    let Of : List Reg → Netlist = λ rs. record old { regs = rs } in
    record {
      new =
          c.set_next.ensures.new ∙ ap Set same
          ∙ ap (λ (m : Netlist). record m { regs = with_next c.loop-at.at r.0 m.regs }) c.loop-at.invariant.new
          ∙ ap Of (one_more c.args.nodes.now old.regs c.loop-at.at r.0 r.1);
      keeps = keeps_on old c.loop-at.net c.set_next.new.self c.loop-at.invariant.keeps c.set_next.ensures.keeps;
    }

pub returns-clause-new : goal.returns-clause-new
returns-clause-new c =
    let old = c.args.net.now in
    let many = nexts_many old old.regs c.args.nodes.now c.requires in
    let past : length c.args.nodes.now ≤ c.loop-at.at =
    omega (arith, c.loop-at-test.false, many, ap (λ (rs : List Reg). length rs) c.regs-count.ensures.value) in
    c.loop-at.invariant.new
    ∙ ap (λ (ns : List ℕ). record old { regs = with_nexts ns old.regs }) (take_all c.loop-at.at c.args.nodes.now past)
