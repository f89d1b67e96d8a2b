-- Meaning: What passed between a program and the outside, in order: each read that was answered, each file that was
-- written whole, and each put that was taken whole. Want of memory, and a write or a put that failed, are no event.
-- Rule of this project.
use Rattle.std.specs.Prelude.{List, [], ◌∷◌, ℕ, Result, Ok, Err, Vec}
use Rattle.std.specs.declared.alloc.Global.{Global}
use Rattle.fv_base.specs.declared.event.Event.{Event}
use Rattle.fv_base.specs.declared.event.Event.TheVariants.{Gave, Lacked, Failed, Wrote, Put}
use Rattle.fv_base.specs.declared.event.Happening.{Happening}
use Rattle.fv_base.specs.declared.event.Happening.TheVariants as happening
use Rattle.fv_base.specs.declared.files.FileFault.{FileFault}
use Rattle.fv_base.specs.declared.files.FileFault.TheVariants as file
use Rattle.fv_base.specs.declared.out.OutFault.{OutFault}

-- what a read of the name adds, by its answer
abbrev pub read_events : List ℕ → Result (Vec ℕ Global) FileFault → List Event
read_events name (Ok bytes) = Gave name bytes.items ∷ []
read_events name (Err file.Absent) = Lacked name ∷ []
read_events name (Err file.Failed) = Failed name ∷ []
read_events name (Err file.Memory) = []

-- and a write of the bytes to the name
abbrev pub write_events : List ℕ → List ℕ → Result (Unit {0}) FileFault → List Event
write_events name bytes (Ok u) = Wrote name bytes ∷ []
write_events name bytes (Err fault) = []

-- and a put of the bytes
abbrev pub put_events : List ℕ → Result (Unit {0}) OutFault → List Event
put_events bytes (Ok u) = Put bytes ∷ []
put_events bytes (Err fault) = []

-- the event, of bytes that stand elsewhere
abbrev pub event_of : Happening → Event
event_of (happening.Gave name bytes) = Gave name.now bytes.now
event_of (happening.Lacked name) = Lacked name.now
event_of (happening.Failed name) = Failed name.now
event_of (happening.Wrote name bytes) = Wrote name.now bytes.now
event_of (happening.Put bytes) = Put bytes.now
