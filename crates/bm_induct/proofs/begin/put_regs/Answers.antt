use Rattle.std.specs.Prelude.{length, slice_index_or}
use Rattle.std.proofs.Common.{arith, refl, subst, sym}
use Rattle.wn_net.specs.declared.parts.Init.{Init}
use Rattle.wn_net.specs.declared.parts.Init.TheVariants.{Free}
use Rattle.wn_net.specs.declared.parts.Reg.{Reg}
use Rattle.wn_net.specs.Changes.{BuildsReg}
use Rattle.wn_net.specs.Net.{IsInitOf, IsRegOf}
use Rattle.bm_induct.proofs.Items.{all_in, at_place, get_within}
use Rattle.bm_induct.proofs.Begun.{regs_next, regs_many, start_fits}
use Rattle.bm_induct.proofs.begin.put_regs.Goals as goal

-- what a read past the last register would give
abbrev no_reg : Reg
no_reg = record { width = 0; init = Free; next = 0 }

pub reg-requires-clause-some : goal.reg-requires-clause-some
reg-requires-clause-some c =
    let net = c.args.net.now in
    let i = c.loop-own.own-index in
    let items = c.regs-own-items.result.now in
    (all_in (IsRegOf net) net.regs i (slice_index_or items i no_reg) c.regs-own-items.ensures.whole.regs
    (at_place items net.regs i (slice_index_or items i no_reg) no_reg c.regs-own-items.ensures.value (omega arith)
    refl)).width.0

pub reg-requires-clause-few : goal.reg-requires-clause-few
reg-requires-clause-few c =
    let net = c.args.net.now in
    let i = c.loop-own.own-index in
    let items = c.regs-own-items.result.now in
    (all_in (IsRegOf net) net.regs i (slice_index_or items i no_reg) c.regs-own-items.ensures.whole.regs
    (at_place items net.regs i (slice_index_or items i no_reg) no_reg c.regs-own-items.ensures.value (omega arith)
    refl)).width.1

pub reg-requires-clause-init : goal.reg-requires-clause-init
reg-requires-clause-init c =
    let net = c.args.net.now in
    let i = c.loop-own.own-index in
    let items = c.regs-own-items.result.now in
    let x = slice_index_or items i no_reg in
    let own = all_in (IsRegOf net) net.regs i x c.regs-own-items.ensures.whole.regs
    (at_place items net.regs i x no_reg c.regs-own-items.ensures.value (omega arith) refl) in
    let P : Init → Type 0 = λ start. IsInitOf x.width start in
    subst P (sym c.start-begins.ensures) (start_fits c.args.how x.width x.init own.init)

pub reg-requires-clause-room : goal.reg-requires-clause-room
reg-requires-clause-room c =
    let net = c.args.net.now in
    let i = c.loop-own.own-index in
    let items = c.regs-own-items.result.now in
    let x = slice_index_or items i no_reg in
    let at = at_place items net.regs i x no_reg c.regs-own-items.ensures.value (omega arith) refl in
    let many = regs_many c.args.how net c.loop-own.made i x c.loop-own.invariant at in
    let below = get_within net.regs i x at in
    let few = c.regs-own-items.ensures.whole.few_regs in
    omega (arith, many, below, few)

pub loop-own-preserved : goal.loop-own-preserved
loop-own-preserved c =
    let net = c.args.net.now in
    let i = c.loop-own.own-index in
    let items = c.regs-own-items.result.now in
    let x = slice_index_or items i no_reg in
    let at = at_place items net.regs i x no_reg c.regs-own-items.ensures.value (omega arith) refl in
    let made = c.loop-own.made in
    let P : Init → Type 0 = λ start. BuildsReg made c.reg.new.self
    (record { width = x.width; init = start; next = length made.nodes }) c.in_ok-reg.field-0 in
    regs_next c.args.how net made c.reg.new.self i _ x c.loop-own.invariant at
    (subst P c.start-begins.ensures c.in_ok-reg.ensures.built)
