use Rattle.std.specs.Prelude.{ℕ, List, length}
use Rattle.std.proofs.Common.{sym, ◌∙◌, ap, subst}
use Rattle.rvfi_port.specs.Fields.{channel_fields}
use Rattle.rvfi_port.specs.Parts.{AreParts}
use Rattle.rvfi_port.proofs.Cut.{parts_long}
use Rattle.rvfi_port.proofs.channel.bind_channel.Goals as goal

pub channel_of-channel-requires : goal.channel_of-channel-requires
channel_of-channel-requires c =
    ap length c.as_slice.ensures.value
    ∙ parts_long c.args.net.now c.field_nodes.new.net c.args.channel channel_fields c.args.wholes.now
    c.in_ok-nodes.nodes.items c.in_ok-nodes.ensures.parts

pub returns-clause-parts : goal.returns-clause-parts
returns-clause-parts c =
    let P : List ℕ → Type 0 = λ ids. AreParts c.args.net.now c.field_nodes.new.net c.args.channel channel_fields c.args.wholes.now ids in
    subst P (sym (c.channel_of-channel.ensures ∙ c.as_slice.ensures.value)) c.in_ok-nodes.ensures.parts
