-- Meaning: What a run delivers, in the order of its work: files that are made to hold bytes, and lines on the output;
-- and how far it came with them. Rules of this project.
use Rattle.std.specs.Prelude.{◌≡◌, ℕ, List, [], ◌∷◌, ◌++◌, Option, Some, None, Result, Ok, Err}
use Rattle.fv_base.specs.Outside.{FilesState, OutState, Told, Rose, IsPrefix, SameFiles, Holds, HoldsPart, Appends}
use Rattle.fv_base.specs.Outside.{AppendsPart, with_file}
use Rattle.fv_base.specs.declared.event.Event.{Event}
use Rattle.fv_base.specs.declared.event.Event.TheVariants.{Wrote, Put}
use Rattle.fv_base.specs.declared.out.OutFault.{OutFault}
use Rattle.fv_base.specs.declared.out.OutFault.TheVariants as out
use Rattle.rvf_report.specs.declared.delivery.Delivery.{Delivery}
use Rattle.rvf_report.specs.declared.delivery.Delivery.TheVariants.{File, Line}

-- what is told of the files and of the output, how often calls on them failed, and what passed
pub record Outside : Type 0 where
  pub held : Told
  pub misses : ℕ
  pub faults : ℕ
  -- each read that was answered, and each file that was written whole
  pub heard : List Event
  pub written : List Event
  pub sent : Option (List ℕ)
  pub out_faults : ℕ
  -- each put that was taken whole
  pub taken : List Event

abbrev pub outside : FilesState → OutState → Outside
outside files out = record {
  held = files.held;
  misses = files.misses;
  faults = files.faults;
  heard = files.heard;
  written = files.written;
  sent = out.sent;
  out_faults = out.faults;
  taken = out.taken;
}

-- what is told of the files once the name holds these bytes
abbrev pub told_with : Told → List ℕ → List ℕ → Told
told_with None name bytes = None
told_with (Some names) name bytes = Some (with_file names name bytes)

-- what is told of the files behind deliveries
abbrev pub held_after : Told → List Delivery → Told
held_after held [] = held
held_after held (File name bytes ∷ more) = held_after (told_with held name bytes) more
held_after held (Line bytes ∷ more) = held_after held more

-- the lines among deliveries, one behind the other
abbrev pub lines_of : List Delivery → List ℕ
lines_of [] = []
lines_of (File name bytes ∷ more) = lines_of more
lines_of (Line bytes ∷ more) = bytes ++ lines_of more

-- a write for each file among deliveries
abbrev pub writes_of : List Delivery → List Event
writes_of [] = []
writes_of (File name bytes ∷ more) = Wrote name bytes ∷ writes_of more
writes_of (Line bytes ∷ more) = writes_of more

-- and a put for each line
abbrev pub puts_of : List Delivery → List Event
puts_of [] = []
puts_of (File name bytes ∷ more) = puts_of more
puts_of (Line bytes ∷ more) = Put bytes ∷ puts_of more

-- exactly these were written and put whole, each file by one write and each line by one put
pub record Pass (before now : Outside) (deliveries : List Delivery) : Type 0 where
  pub written : now.written ≡ before.written ++ writes_of deliveries
  pub taken : now.taken ≡ before.taken ++ puts_of deliveries

-- each of them came through in this order, and nothing else changed
pub record Delivers (before now : Outside) (deliveries : List Delivery) : Type 0 where
  pub files : SameFiles (held_after before.held deliveries) now.held
  pub lines : Appends before.sent now.sent (lines_of deliveries)
  pub pass : Pass before now deliveries

-- no call on the files and none on the output failed
abbrev pub IsQuiet : Outside → Outside → Type 0
IsQuiet before now = (now.faults ≡ before.faults) × (now.out_faults ≡ before.out_faults)

-- the lines were put, and then a prefix of the next one
pub record PutsPart (sent sent_now : Option (List ℕ)) (lines line : List ℕ) : Type 0 where
  pub part : List ℕ
  pub is_part : IsPrefix part line
  pub put : Appends sent sent_now (lines ++ part)

-- Those that are done came through. The next one failed, which was counted: the file holds what it held or a prefix
-- of the bytes, or a prefix of the line was put; and nothing else changed.
abbrev pub LeavesPart : Outside → Outside → List Delivery → Delivery → Type 0
LeavesPart before now done (File name bytes) =
    HoldsPart (held_after before.held done) now.held name bytes × Appends before.sent now.sent (lines_of done)
    × Rose before.faults now.faults × Pass before now done
LeavesPart before now done (Line bytes) =
    SameFiles (held_after before.held done) now.held × PutsPart before.sent now.sent (lines_of done) bytes
    × Rose before.out_faults now.out_faults × Pass before now done

-- one of them failed, and none behind it was begun
pub record Fails (before now : Outside) (deliveries : List Delivery) : Type 0 where
  pub done : List Delivery
  pub failing : Delivery
  pub rest : List Delivery
  pub order : done ++ failing ∷ rest ≡ deliveries
  pub part : LeavesPart before now done failing

-- the first of them came through, and none of the others was begun
pub record Stops (before now : Outside) (deliveries : List Delivery) : Type 0 where
  pub done : List Delivery
  pub rest : List Delivery
  pub order : done ++ rest ≡ deliveries
  pub delivered : Delivers before now done

-- what a call left that delivers
abbrev pub IsDelivered : Result (Unit {0}) OutFault → Outside → Outside → List Delivery → Type 0
IsDelivered (Ok u) before now deliveries = Delivers before now deliveries
IsDelivered (Err out.Failed) before now deliveries = Fails before now deliveries
IsDelivered (Err out.Memory) before now deliveries = Stops before now deliveries

-- the first of them came through, and neither the next one nor any behind it was begun
pub record StopsBefore (before now : Outside) (deliveries : List Delivery) : Type 0 where
  pub done : List Delivery
  pub next : Delivery
  pub rest : List Delivery
  pub order : done ++ next ∷ rest ≡ deliveries
  pub delivered : Delivers before now done

-- where memory was wanted, one of them was left
abbrev pub LeavesOne : Result (Unit {0}) OutFault → Outside → Outside → List Delivery → Type 0
LeavesOne (Ok u) before now deliveries = Unit {0}
LeavesOne (Err out.Failed) before now deliveries = Unit {0}
LeavesOne (Err out.Memory) before now deliveries = StopsBefore before now deliveries

-- what a call left that delivers one
abbrev pub IsDone : Result (Unit {0}) OutFault → Outside → Outside → Delivery → Type 0
IsDone (Ok u) before now delivery = Delivers before now (delivery ∷ [])
IsDone (Err out.Failed) before now delivery = LeavesPart before now [] delivery
IsDone (Err out.Memory) before now delivery = Delivers before now []

-- what a call left that writes a file
abbrev pub IsWritten : Result (Unit {0}) OutFault → FilesState → FilesState → List ℕ → List ℕ → Type 0
IsWritten (Ok u) before now name bytes =
    Holds before.held now.held name bytes × (now.written ≡ before.written ++ Wrote name bytes ∷ [])
IsWritten (Err out.Failed) before now name bytes =
    HoldsPart before.held now.held name bytes × Rose before.faults now.faults × (now.written ≡ before.written)
IsWritten (Err out.Memory) before now name bytes =
    SameFiles before.held now.held × (now.written ≡ before.written)

-- what a call left that puts a line
abbrev pub IsPut : Result (Unit {0}) OutFault → OutState → OutState → List ℕ → Type 0
IsPut (Ok u) before now line =
    Appends before.sent now.sent line × (now.taken ≡ before.taken ++ Put line ∷ [])
IsPut (Err out.Failed) before now line =
    AppendsPart before.sent now.sent line × Rose before.faults now.faults × (now.taken ≡ before.taken)
IsPut (Err out.Memory) before now line = (now.sent ≡ before.sent) × (now.taken ≡ before.taken)
