use Rattle.std.specs.Prelude.{refl, length, map, sum}
use Rattle.std.proofs.Common.{arith}
use Rattle.wn_net.specs.declared.parts.Mem.{Mem}
use Rattle.bm_unroll.proofs.Drafting.{extends_on, room_left, room_less}
use Rattle.bm_unroll.proofs.FirstState.{start_made}
use Rattle.bm_unroll.proofs.starts.starts.Goals as goal

pub reg_starts-requires-clause-room : goal.reg_starts-requires-clause-room
reg_starts-requires-clause-room c =
    room_less c.args.draft.now (length c.args.net.now.regs) 100000000 (omega (arith, c.requires.few)) c.requires.room

pub mem_starts-requires-clause-room : goal.mem_starts-requires-clause-room
mem_starts-requires-clause-room c =
    let net = c.args.net.now in
    room_left c.args.draft.now c.reg_starts.new.draft (length net.regs) (sum (map (λ (m : Mem). m.words) net.mems))
    100000000 c.requires.few c.in_ok-regs.ensures.extends c.requires.room

pub returns-clause-extends : goal.returns-clause-extends
returns-clause-extends c =
    let net = c.args.net.now in
    extends_on c.args.draft.now c.reg_starts.new.draft c.mem_starts.new.draft (length net.regs)
    (sum (map (λ (m : Mem). m.words) net.mems)) 100000000 c.requires.few c.in_ok-regs.ensures.extends
    c.in_ok-mems.ensures.extends

pub returns-clause-start : goal.returns-clause-start
returns-clause-start c =
    let net = c.args.net.now in
    start_made net c.reg_starts.new.draft c.mem_starts.new.draft (sum (map (λ (m : Mem). m.words) net.mems)) _
    c.in_ok-regs.regs c.in_ok-mems.mems c.in_ok-mems.ensures.extends c.in_ok-regs.ensures.means
    c.in_ok-mems.ensures.means refl refl

pub returns-clause-draft : goal.returns-clause-draft
returns-clause-draft c = λ cycle h. c.in_ok-mems.ensures.draft cycle (c.in_ok-regs.ensures.draft cycle h)
