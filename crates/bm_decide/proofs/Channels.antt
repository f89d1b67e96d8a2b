-- The nodes of a check's channel.
use Rattle.std.specs.Prelude.{◌≡◌, refl, ℕ, zero, suc, ◌<◌, List, [], ◌∷◌, length, map, slice_index_or}
use Rattle.std.proofs.Common.{arith}
use Rattle.wn_net.specs.Net.{Netlist, AreNodes}
use Rattle.rvfi_port.specs.declared.port.Channel.{Channel}
use Rattle.rvfi_port.specs.Channels.{nodes_of}
use Rattle.rvfi_port.specs.Ports.{AreChannelNodes}

pub nodes_there : (net : Netlist) (c : Channel) → AreChannelNodes net c → AreNodes net (nodes_of c)
nodes_there net c own = (
  own.valid.0,
  (
    own.order.0,
    (
      own.insn.0,
      (
        own.trap.0,
        (
          own.halt.0,
          (
            own.intr.0,
            (
              own.rs1_addr.0,
              (
                own.rs2_addr.0,
                (
                  own.rs1_rdata.0,
                  (
                    own.rs2_rdata.0,
                    (
                      own.rd_addr.0,
                      (
                        own.rd_wdata.0,
                        (
                          own.pc_rdata.0,
                          (
                            own.pc_wdata.0,
                            (own.mem_addr.0, (own.mem_rmask.0, (own.mem_wmask.0, (own.mem_rdata.0, (own.mem_wdata.0, tt))))),
                          ),
                        ),
                      ),
                    ),
                  ),
                ),
              ),
            ),
          ),
        ),
      ),
    ),
  ),
)

pub nodes_at : (cs : List Channel) (i : ℕ) (d : Channel) → i < length cs
    → nodes_of (slice_index_or cs i d) ≡ slice_index_or (map nodes_of cs) i []
nodes_at [] i d less = absurd (omega (arith, less))
nodes_at (c ∷ cs) zero d less = refl
nodes_at (c ∷ cs) (suc i) d less = nodes_at cs i d (omega (arith, less))
