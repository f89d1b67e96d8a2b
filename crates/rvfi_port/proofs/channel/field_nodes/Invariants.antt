use Rattle.std.proofs.Common.{take}
use Rattle.wn_net.specs.Changes.{AddsNodes}
use Rattle.rvfi_port.specs.Parts.{AreParts}
use Rattle.rvfi_port.proofs.channel.field_nodes.Given as goal

abbrev pub invariant-loop-place : goal.invariant-loop-place
invariant-loop-place l = record {
  adds : AddsNodes l.fn.net l.net;
  parts : AreParts l.fn.net l.net l.channel (take l.place l.fields) (take l.place l.wholes) l.made.items;
}
