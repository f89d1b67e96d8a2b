-- Meaning: The outside as a caller knows it: what files hold, what was put out, counts of faults, and what passed.
-- Rules of this project.
use Rattle.std.specs.Prelude.{
  ◌≡◌,
  ℕ,
  ◌+◌,
  ◌-◌,
  ◌^◌,
  ◌≤◌,
  min,
  List,
  ◌++◌,
  Option,
  Some,
  None,
  bytes_eq,
  if◌then◌else◌,
  Result,
  Ok,
  Err,
}
use Rattle.fv_base.specs.declared.event.Event.{Event}
use Rattle.fv_base.specs.declared.files.FileFault.{FileFault}
use Rattle.fv_base.specs.declared.files.FileFault.TheVariants as file
use Rattle.fv_base.specs.declared.out.OutFault.{OutFault}
use Rattle.fv_base.specs.declared.out.OutFault.TheVariants as out

-- what each name holds, if anything
abbrev pub Names : Type 0
Names = List ℕ → Option (List ℕ)

-- what is told of the files: what each name holds, or nothing
abbrev pub Told : Type 0
Told = Option Names

-- what is known of files at a moment
pub record FilesState : Type 0 where
  pub held : Told
  -- how often a call failed; the count never falls, and stands still at 2 ^ 64 - 1
  pub faults : ℕ
  -- how often a name wasn't held; the same of this count
  pub misses : ℕ
  -- each read that was answered, in order
  pub heard : List Event
  -- each file that was written whole, in order
  pub written : List Event

-- what is known of an output at a moment
pub record OutState : Type 0 where
  -- the bytes put so far, or nothing where that isn't told
  pub sent : Option (List ℕ)
  -- how often a call failed, as above
  pub faults : ℕ
  -- each put that was taken whole, in order
  pub taken : List Event

-- a count went up in a call, or stands at its end, where it stays
abbrev pub Rose : ℕ → ℕ → Type 0
Rose before now = min (before + 1) (2 ^ 64 - 1) ≤ now

-- a fact of a call on a file, unless the file failed: it answered, or the name isn't held, or no memory is left
abbrev pub UnlessFailed : {A : Type 0} → Result A FileFault → Type 0 → Type 0
UnlessFailed (Ok x) P = P
UnlessFailed (Err file.Absent) P = P
UnlessFailed (Err file.Failed) P = Unit {0}
UnlessFailed (Err file.Memory) P = P

-- and of a call that puts bytes out
abbrev pub UnlessNotPut : Result Unit OutFault → Type 0 → Type 0
UnlessNotPut (Ok x) P = P
UnlessNotPut (Err out.Failed) P = Unit {0}
UnlessNotPut (Err out.Memory) P = P

-- where files are told, the name holds exactly these bytes
abbrev pub ReadGives : Told → List ℕ → List ℕ → Type 0
ReadGives None name bytes = Unit {0}
ReadGives (Some names) name bytes = names name ≡ Some bytes

-- where files are told, the name isn't held
abbrev pub Lacks : Told → List ℕ → Type 0
Lacks None name = Unit {0}
Lacks (Some names) name = names name ≡ None

-- the same names with one of them holding these bytes
abbrev pub with_file : Names → List ℕ → List ℕ → Names
with_file names name bytes other = if bytes_eq name other then Some bytes else names other

-- two meanings of files agree on every name; neither tells, or both do
abbrev pub SameFiles : Told → Told → Type 0
SameFiles None None = Unit {0}
SameFiles (Some old) (Some new) = (name : List ℕ) → new name ≡ old name
SameFiles None (Some new) = ⊥
SameFiles (Some old) None = ⊥

-- now the name holds the bytes, and every other name what it held
abbrev pub Holds : Told → Told → List ℕ → List ℕ → Type 0
Holds None new name bytes = SameFiles None new
Holds (Some old) new name bytes = SameFiles (Some (with_file old name bytes)) new

-- the list is a beginning of the other one
pub record IsPrefix (part whole : List ℕ) : Type 0 where
  pub rest : List ℕ
  pub joined : part ++ rest ≡ whole

-- a part that was written, if any, is a beginning of the bytes
abbrev pub IsPartOf : Option (List ℕ) → List ℕ → Type 0
IsPartOf None bytes = Unit {0}
IsPartOf (Some part) bytes = IsPrefix part bytes

-- the name holds the part where there is one, and all else is as it was
abbrev pub HoldsSome : Told → Told → List ℕ → Option (List ℕ) → Type 0
HoldsSome old new name None = SameFiles old new
HoldsSome old new name (Some part) = Holds old new name part

-- the name holds what it held, or a prefix of the bytes, and every other name what it held
pub record HoldsPart (old new : Told) (name bytes : List ℕ) : Type 0 where
  pub part : Option (List ℕ)
  pub is_part : IsPartOf part bytes
  pub now : HoldsSome old new name part

-- where the output is told, the bytes were put behind what was there
abbrev pub Appends : Option (List ℕ) → Option (List ℕ) → List ℕ → Type 0
Appends None None bytes = Unit {0}
Appends (Some old) (Some new) bytes = new ≡ old ++ bytes
Appends None (Some new) bytes = ⊥
Appends (Some old) None bytes = ⊥

-- a prefix of the bytes was put behind what was there
pub record AppendsPart (old new : Option (List ℕ)) (bytes : List ℕ) : Type 0 where
  pub part : List ℕ
  pub is_part : IsPrefix part bytes
  pub now : Appends old new part
