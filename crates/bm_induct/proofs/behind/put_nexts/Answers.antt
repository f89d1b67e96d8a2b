use Rattle.std.specs.Prelude.{◌≡◌, ◌+◌, ℕ, slice_index_or}
use Rattle.std.proofs.Common.{arith, ap, refl, subst, sym}
use Rattle.wn_net.specs.declared.parts.Init.TheVariants.{Free}
use Rattle.wn_net.specs.declared.parts.Reg.{Reg}
use Rattle.wn_net.specs.Net.{IsNodeOf, IsRegOf}
use Rattle.wn_net.specs.Changes.{reg_width}
use Rattle.bm_induct.specs.Rebuilt.{moved_id}
use Rattle.bm_induct.proofs.Items.{all_in, at_place}
use Rattle.bm_induct.proofs.Rest.{next_fits, nexts_next, stand_on}
use Rattle.bm_induct.proofs.behind.put_nexts.Goals as goal

-- what a read past the last register would give
abbrev no_reg : Reg
no_reg = record { width = 0; init = Free; next = 0 }

pub overflow_add-next : goal.overflow_add-next
overflow_add-next c =
    let net = c.args.net.now in
    let i = c.loop-index.index in
    let items = c.regs-own-items.result.now in
    let x = slice_index_or items i no_reg in
    let own = all_in (IsRegOf net) net.regs i x c.regs-own-items.ensures.whole.regs
    (at_place items net.regs i x no_reg c.regs-own-items.ensures.value (omega arith) refl) in
    omega (arith, own.next.0, c.requires.few, c.requires.long)

pub set_next-requires-clause-reg : goal.set_next-requires-clause-reg
set_next-requires-clause-reg c =
    let net = c.args.net.now in
    let i = c.loop-index.index in
    let items = c.regs-own-items.result.now in
    let x = slice_index_or items i no_reg in
    (next_fits c.args.how net c.loop-index.made i x c.regs-own-items.ensures.whole c.loop-index.invariant.nexts
    (at_place items net.regs i x no_reg c.regs-own-items.ensures.value (omega arith) refl)
    c.loop-index.invariant.stand).0

pub set_next-requires-clause-next : goal.set_next-requires-clause-next
set_next-requires-clause-next c =
    let net = c.args.net.now in
    let i = c.loop-index.index in
    let items = c.regs-own-items.result.now in
    let x = slice_index_or items i no_reg in
    let made = c.loop-index.made in
    let P : ℕ → Type 0 = λ id. IsNodeOf made (reg_width made i) id in
    let to : moved_id net x.next ≡ x.next + c.args.more = ap (λ k. x.next + k) (sym c.requires.more) in
    subst P to
    (next_fits c.args.how net made i x c.regs-own-items.ensures.whole c.loop-index.invariant.nexts
    (at_place items net.regs i x no_reg c.regs-own-items.ensures.value (omega arith) refl)
    c.loop-index.invariant.stand).1

pub loop-index-preserved : goal.loop-index-preserved
loop-index-preserved c =
    let net = c.args.net.now in
    let i = c.loop-index.index in
    let items = c.regs-own-items.result.now in
    let x = slice_index_or items i no_reg in
    let to : x.next + c.args.more ≡ moved_id net x.next = ap (λ k. x.next + k) c.requires.more in
    record {
      nexts =
          nexts_next c.args.how net c.loop-index.made c.set_next.new.self i _ x c.loop-index.invariant.nexts
          (at_place items net.regs i x no_reg c.regs-own-items.ensures.value (omega arith) refl) to
          c.set_next.ensures.new;
      stand =
          stand_on net c.loop-index.made c.set_next.new.self c.set_next.ensures.keeps c.loop-index.invariant.stand;
    }
