use Rattle.vcd_text.proofs.Readers.{takes_scale, takes_scope, takes_definitions, takes_start, takes_dump}
use Rattle.vcd_text.proofs.reader.Reader.take.Goals as goal

pub returns-in-Scale : goal.returns-in-Scale
returns-in-Scale c = takes_scale c.args.self.now c.take_fixed.new.self c.args.line.now c.take_fixed.result
    c.in-Scale.is c.requires c.take_fixed.ensures

pub returns-in-Scope : goal.returns-in-Scope
returns-in-Scope c = takes_scope c.args.self.now c.take_fixed-in-Scope.new.self c.args.line.now
    c.take_fixed-in-Scope.result c.in-Scope.is c.requires c.take_fixed-in-Scope.ensures

pub returns-in-Definitions : goal.returns-in-Definitions
returns-in-Definitions c =
    takes_definitions c.args.self.now c.take_fixed-in-Definitions.new.self c.args.line.now
    c.take_fixed-in-Definitions.result c.in-Definitions.is c.requires c.take_fixed-in-Definitions.ensures

pub returns-in-Start : goal.returns-in-Start
returns-in-Start c = takes_start c.args.self.now c.take_fixed-in-Start.new.self c.args.line.now
    c.take_fixed-in-Start.result c.in-Start.is c.requires c.take_fixed-in-Start.ensures

pub returns-in-Dump : goal.returns-in-Dump
returns-in-Dump c = takes_dump c.args.self.now c.take_fixed-in-Dump.new.self c.args.line.now
    c.take_fixed-in-Dump.result c.in-Dump.is c.requires c.take_fixed-in-Dump.ensures
