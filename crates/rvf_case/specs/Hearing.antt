-- Meaning: What is read before the questions of a configuration are answered, as the files themselves tell it: the file
-- of the configuration, and then the files that it names, each by one read, in order, up to the first that gives
-- nothing. Rules of this project.
use Rattle.std.specs.Prelude.{◌≡◌, List, [], ◌∷◌, ◌++◌, ℕ, Result, Ok, Err}
use Rattle.fv_base.specs.Outside.{Told}
use Rattle.fv_base.specs.declared.event.Event.{Event}
use Rattle.fv_base.specs.declared.event.Event.TheVariants.{Gave, Lacked, Failed, Wrote, Put}
use Rattle.ck_cfg.specs.declared.config.Config.{Config}
use Rattle.ck_cfg.specs.declared.fault.CfgFault.{CfgFault}
use Rattle.ck_cfg.specs.declared.kind.CheckKind.{CheckKind}
use Rattle.ck_cfg.specs.Reading.{config_of}
use Rattle.rvf_load.specs.declared.fault.LoadFault.{LoadFault}
use Rattle.rvf_load.specs.declared.fault.LoadFault.TheVariants as load
use Rattle.rvf_case.specs.Cases.{Comes, IsCause, IsNext, IsRefusedText, Request, Seen, configuration, names_in, verilog}
use Rattle.rvf_case.specs.declared.case.Case.{Case}
use Rattle.rvf_case.specs.declared.refusal.Refusal.{Refusal}
use Rattle.rvf_case.specs.declared.refusal.Refusal.TheVariants as refusal

-- ---- what is read

-- these files gave these bytes, one after the other
abbrev pub gave : List (List ℕ) → List (List ℕ) → List Event
gave [] files = []
gave (name ∷ names) [] = []
gave (name ∷ names) (bytes ∷ files) = Gave name bytes ∷ gave names files

-- the file of the configuration gave bytes, and then these files theirs
abbrev pub all_gave : Request → List ℕ → List (List ℕ) → List (List ℕ) → List Event
all_gave r bytes names files = Gave r.cfg bytes ∷ gave names files

-- what is read before the next file
abbrev pub before_next : (r : Request) (held : Told) (name : List ℕ) → IsNext r held name → List Event
before_next r held name (configuration is) = []
before_next r held name (verilog c configured before behind files order read) = all_gave r configured.bytes before files

-- what is read before a text is refused
abbrev pub before_refused : (r : Request) (held : Told) (c : Config) (kind : CheckKind) (f : LoadFault)
    → IsRefusedText r held c kind f → List Event
before_refused r held c kind f h = all_gave r h.configured.bytes (names_in r c) h.files

-- what a cause says of what is read: the file that isn't held, or could not be read, is the last one
abbrev pub cause_reads : (r : Request) (seen : Seen) (f : Refusal) → IsCause r seen f → List Event
cause_reads r seen (refusal.Absent name) h = before_next r seen.held name h.next ++ Lacked name ∷ []
cause_reads r seen (refusal.Unread name) h = before_next r seen.held name h.next ++ Failed name ∷ []
cause_reads r seen (refusal.Config f) h = Gave r.cfg h.bytes ∷ []
cause_reads r seen (refusal.NoCheck name) h = Gave r.cfg h.bytes ∷ []
cause_reads r seen (refusal.Source (load.Heavy place number) names) h = []
cause_reads r seen (refusal.Source f names) h = before_refused r seen.held h.config h.kind f h.refused
cause_reads r seen (refusal.Heavy name number) h =
    before_refused r seen.held h.config h.kind (load.Heavy h.place number) h.refused
cause_reads r seen refusal.Memory h = []

-- ---- as far as it goes

-- of these files the first ones were read, one after the other; behind one that gave nothing none was
abbrev pub AreReadOn : List (List ℕ) → List Event → Type 0
AreReadOn names [] = Unit {0}
AreReadOn [] (event ∷ events) = ⊥
AreReadOn (name ∷ names) (Gave other bytes ∷ events) = (other ≡ name) × AreReadOn names events
AreReadOn (name ∷ names) (Lacked other ∷ events) = (other ≡ name) × (events ≡ [])
AreReadOn (name ∷ names) (Failed other ∷ events) = (other ≡ name) × (events ≡ [])
AreReadOn (name ∷ names) (Wrote other bytes ∷ events) = ⊥
AreReadOn (name ∷ names) (Put bytes ∷ events) = ⊥

-- the files that a configuration names, where there is one
abbrev pub named_by : Request → Result Config CfgFault → List (List ℕ)
named_by r (Ok c) = names_in r c
named_by r (Err f) = []

-- of the file of the configuration and those that it names the first ones were read
abbrev pub IsReadOn : Request → List Event → Type 0
IsReadOn r [] = Unit {0}
IsReadOn r (Gave name bytes ∷ events) = (name ≡ r.cfg) × AreReadOn (named_by r (config_of bytes)) events
IsReadOn r (event ∷ events) = AreReadOn (r.cfg ∷ []) (event ∷ events)

-- ---- what was read for an answer

-- so much was read more
pub record HeardMore (before now : List Event) (Is : List Event → Type 0) : Type 0 where
  pub events : List Event
  pub behind : now ≡ before ++ events
  pub are : Is events

-- exactly what the answer speaks of; where memory was wanted, as far as it went
abbrev pub Hears : (r : Request) (seen : Seen) (result : Result Case Refusal) → Comes r seen result → List Event
    → Type 0
Hears r seen (Ok case) came events = events ≡ all_gave r came.configured.bytes (names_in r case.config) came.files
Hears r seen (Err refusal.Memory) came events = IsReadOn r events
Hears r seen (Err f) came events = events ≡ cause_reads r seen f came

-- an answer with what was read for it
pub record Answered (r : Request) (seen : Seen) (before now : List Event) (result : Result Case Refusal) : Type 0 where
  pub came : Comes r seen result
  pub heard : HeardMore before now (λ events. Hears r seen result came events)
