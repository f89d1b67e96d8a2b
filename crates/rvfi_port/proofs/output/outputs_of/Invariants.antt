use Rattle.std.proofs.Common.{take}
use Rattle.rvfi_port.specs.Outputs.{AreOutputs}
use Rattle.rvfi_port.proofs.output.outputs_of.Given as goal

abbrev pub invariant-loop-field : goal.invariant-loop-field
invariant-loop-field l = AreOutputs l.net l.names l.channels (take l.field-index l.fields) l.made.items
