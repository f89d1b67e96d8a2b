-- Between functions: What each step of the work comes to, for what stands above it. Rules of this project.
use Rattle.std.specs.Prelude.{◌≡◌, ◌<◌, ℕ, Bool, false, ◌&&◌, List, [], ◌∷◌, ◌++◌, length, map, slice_get, Some}
use Rattle.std.specs.Prelude.{Result, Ok, Err}
use Rattle.std.specs.List.{AllByRecursion, filter, list_any}
use Rattle.fv_base.specs.Outside.{Told, Lacks, ReadGives, Rose}
use Rattle.fv_base.specs.declared.event.Event.{Event}
use Rattle.fv_base.specs.declared.event.Event.TheVariants.{Gave, Lacked, Failed}
use Rattle.fv_base.specs.declared.files.FileFault.{FileFault}
use Rattle.fv_base.specs.declared.files.FileFault.TheVariants as file
use Rattle.ck_cfg.specs.declared.check.Check.{Check}
use Rattle.ck_cfg.specs.declared.config.Config.{Config}
use Rattle.ck_cfg.specs.declared.config.KindPiece.{KindPiece}
use Rattle.ck_cfg.specs.declared.fault.CfgFault.{CfgFault}
use Rattle.ck_cfg.specs.declared.fault.CfgFault.TheVariants as cfg
use Rattle.ck_cfg.specs.declared.kind.CheckKind.{CheckKind}
use Rattle.ck_cfg.specs.Kind.{is_kind}
use Rattle.ck_cfg.specs.Reading.{config_of}
use Rattle.rvf_load.specs.Loads.{Answers, Asked, IsTheRefusal}
use Rattle.rvf_load.specs.declared.fault.LoadFault.{LoadFault}
use Rattle.rvf_load.specs.declared.fault.LoadFault.TheVariants as load
use Rattle.rvf_case.specs.Cases.{AreRead, IsAbsent, IsConfigured, IsMisconfigured, IsUnread, Request, Seen, names_in}
use Rattle.rvf_case.specs.Askings.{Asking, IsThere, One, has_check}
use Rattle.rvf_case.specs.Cases.{IsUnnamed, questions_in}
use Rattle.ck_ask.specs.Questions.{question_name}
use Rattle.ck_ask.specs.declared.question.Question.{Question}
use Rattle.rvf_case.specs.Hearing.{AreReadOn, IsReadOn, all_gave, before_next, gave}
use Rattle.rvf_case.specs.Texts.{asked_for, is_same_text, leaders, with_text}
use Rattle.rvf_case.specs.declared.case.Case.{Case}
use Rattle.rvf_case.specs.declared.case.LoadedText.{LoadedText}
use Rattle.rvf_case.specs.declared.loading.Stop.{Stop}
use Rattle.rvf_case.specs.declared.loading.Stop.TheVariants as stop
use Rattle.rvf_case.specs.declared.refusal.Refusal.{Refusal}
use Rattle.rvf_case.specs.declared.refusal.Refusal.TheVariants as refusal

-- ---- texts

-- the bytes of those lines that are for a kind
abbrev pub kind_lines : List KindPiece → CheckKind → List (List ℕ)
kind_lines lines kind = map (λ x. x.piece.text) (filter (λ x. is_kind x.kind kind) lines)

-- one of these kinds has the text of that kind
abbrev pub has_same : Config → List CheckKind → CheckKind → Bool
has_same c kinds kind = list_any (λ k. is_same_text c k kind) kinds

-- of these checks those that have the text of a kind
abbrev pub kept_for : Config → CheckKind → List Check → List Check
kept_for c kind checks = filter (λ x. is_same_text c kind x.kind) checks

-- one of these checks is of the wanted kind, and has the text of a kind
abbrev pub has_asking : Config → CheckKind → CheckKind → List Check → Bool
has_asking c kind wanted checks = list_any (λ x. is_kind x.kind wanted && is_same_text c kind x.kind) checks

-- the question at this place has the name
pub record IsNameAt (qs : List Question) (place : ℕ) (name : List ℕ) : Type 0 where
  pub question : Question
  pub there : slice_get qs place ≡ Some question
  pub name_is : name ≡ question_name question

-- ---- files

-- what a fault of a file becomes; memory may be wanted for the name
abbrev pub Becomes : Refusal → FileFault → List ℕ → Type 0
Becomes refusal.Memory fault name = Unit {0}
Becomes (refusal.Absent other) file.Absent name = other ≡ name
Becomes (refusal.Unread other) file.Failed name = other ≡ name
Becomes f fault name = ⊥

-- the file isn't held, which was counted
pub record IsLacking (seen : Seen) (name : List ℕ) : Type 0 where
  pub lacks : Lacks seen.held name
  pub counted : Rose seen.misses seen.misses_now

-- what reading one file comes to, with what was read
abbrev pub ReadsFile : List ℕ → Seen → List Event → Result (List ℕ) Refusal → Type 0
ReadsFile name seen events (Ok bytes) = ReadGives seen.held name bytes × (events ≡ Gave name bytes ∷ [])
ReadsFile name seen events (Err (refusal.Absent other)) =
    (other ≡ name) × IsLacking seen name × (events ≡ Lacked name ∷ [])
ReadsFile name seen events (Err (refusal.Unread other)) =
    (other ≡ name) × Rose seen.faults seen.faults_now × (events ≡ Failed name ∷ [])
ReadsFile name seen events (Err refusal.Memory) = AreReadOn (name ∷ []) events
ReadsFile name seen events (Err f) = ⊥

-- of some files this one is next: those before it gave bytes, and the last read was of it
pub record IsNextOf (held : Told) (names : List (List ℕ)) (name : List ℕ) (events : List Event) (last : Event)
    : Type 0 where
  pub before : List (List ℕ)
  pub behind : List (List ℕ)
  pub order : names ≡ before ++ name ∷ behind
  pub files : List (List ℕ)
  pub read : AreRead held before files
  pub events_are : events ≡ gave before files ++ last ∷ []

-- what reading some files comes to
abbrev pub ReadsFiles : List (List ℕ) → Seen → List Event → Result (List (List ℕ)) Refusal → Type 0
ReadsFiles names seen events (Ok files) = AreRead seen.held names files × (events ≡ gave names files)
ReadsFiles names seen events (Err (refusal.Absent name)) =
    IsNextOf seen.held names name events (Lacked name) × IsLacking seen name
ReadsFiles names seen events (Err (refusal.Unread name)) =
    IsNextOf seen.held names name events (Failed name) × Rose seen.faults seen.faults_now
ReadsFiles names seen events (Err refusal.Memory) = AreReadOn names events
ReadsFiles names seen events (Err f) = ⊥

-- the refusal of a configuration
abbrev pub of_config : CfgFault → Refusal
of_config cfg.Memory = refusal.Memory
of_config f = refusal.Config f

-- the file of this name says the configuration, and it alone was read
pub record Says (name : List ℕ) (held : Told) (events : List Event) (wanted : Result Config CfgFault)
    : Type 0 where
  pub bytes : List ℕ
  pub gives : ReadGives held name bytes
  pub says : config_of bytes ≡ wanted
  pub events_are : events ≡ Gave name bytes ∷ []

-- what the file of a configuration comes to
abbrev pub Configures : List ℕ → Seen → List Event → Result Config Refusal → Type 0
Configures name seen events (Ok c) = Says name seen.held events (Ok c)
Configures name seen events (Err (refusal.Absent other)) =
    (other ≡ name) × IsLacking seen name × (events ≡ Lacked name ∷ [])
Configures name seen events (Err (refusal.Unread other)) =
    (other ≡ name) × Rose seen.faults seen.faults_now × (events ≡ Failed name ∷ [])
Configures name seen events (Err (refusal.Config f)) = Says name seen.held events (Err f)
Configures name seen events (Err refusal.Memory) = AreReadOn (name ∷ []) events
Configures name seen events (Err f) = ⊥

-- the configuration lacks the check of the name that is asked for
pub record LacksCheck (asked : Asking) (c : Config) (name : List ℕ) : Type 0 where
  pub asked_is : asked ≡ One name
  pub none : has_check name c ≡ false

-- whether what is asked of a configuration is there
abbrev pub Finds : Asking → Config → Result (Unit {0}) Refusal → Type 0
Finds asked c (Ok u) = IsThere asked c
Finds asked c (Err (refusal.NoCheck name)) = LacksCheck asked c name
Finds asked c (Err refusal.Memory) = Unit {0}
Finds asked c (Err f) = ⊥

-- memory may be wanted for the name
abbrev pub IsRefusedName : Refusal → List ℕ → Type 0
IsRefusedName (refusal.NoCheck other) name = other ≡ name
IsRefusedName refusal.Memory name = Unit {0}
IsRefusedName f name = ⊥

-- ---- loading

-- why the text of a kind isn't loaded
abbrev pub stop_of : CheckKind → LoadFault → Stop
stop_of kind load.Memory = stop.Memory
stop_of kind f = stop.Refused kind f

-- what one text comes to, where the texts of kinds are those
abbrev pub LoadsOne : (CheckKind → Asked) → CheckKind → Result LoadedText Stop → Type 0
LoadsOne ask kind (Ok t) = (t.kind ≡ kind) × Answers (ask kind) (Ok t.loaded)
LoadsOne ask kind (Err (stop.Refused other f)) = (other ≡ kind) × IsTheRefusal (ask kind) f
LoadsOne ask kind (Err stop.Memory) = Unit {0}

-- the texts of these kinds are loaded, and no part refuses one
pub record AreLoadedInTurn (ask : CheckKind → Asked) (kinds : List CheckKind) (texts : List LoadedText) : Type 0 where
  pub kinds_are : map (λ x. x.kind) texts ≡ kinds
  pub each : AllByRecursion (λ x. Answers (ask x.kind) (Ok x.loaded)) texts

-- the texts before that of this kind are loaded, and this one has this refusal and no other
pub record StopsAt (ask : CheckKind → Asked) (kinds : List CheckKind) (kind : CheckKind) (f : LoadFault) : Type 0 where
  pub before : List LoadedText
  pub behind : List CheckKind
  pub order : kinds ≡ map (λ x. x.kind) before ++ kind ∷ behind
  pub each : AllByRecursion (λ x. Answers (ask x.kind) (Ok x.loaded)) before
  pub refused : IsTheRefusal (ask kind) f

-- what the texts of these kinds come to
abbrev pub LoadsInTurn : (CheckKind → Asked) → List CheckKind → Result (List LoadedText) Stop → Type 0
LoadsInTurn ask kinds (Ok texts) = AreLoadedInTurn ask kinds texts
LoadsInTurn ask kinds (Err (stop.Refused kind f)) = StopsAt ask kinds kind f
LoadsInTurn ask kinds (Err stop.Memory) = Unit {0}

-- a design that is too heavy is that for one of these questions
abbrev pub IsAtQuestion : List Question → LoadFault → Type 0
IsAtQuestion qs (load.Heavy place product) = place < length qs
IsAtQuestion qs f = Unit {0}

abbrev pub IsNotHeavy : LoadFault → Type 0
IsNotHeavy (load.Heavy place product) = ⊥
IsNotHeavy f = Unit {0}

pub record IsLoadedCase (c : Config) (files : List (List ℕ)) (qs : List Question) (case : Case) : Type 0 where
  pub config_is : case.config ≡ c
  pub questions_are : case.questions ≡ qs
  pub loaded : AreLoadedInTurn (asked_for c files qs) (leaders c qs) case.texts

pub record IsStopped (c : Config) (files : List (List ℕ)) (qs : List Question) (f : LoadFault) : Type 0 where
  pub kind : CheckKind
  pub stops : StopsAt (asked_for c files qs) (leaders c qs) kind f
  pub light : IsNotHeavy f

pub record IsStoppedHeavy (c : Config) (files : List (List ℕ)) (qs : List Question) (name : List ℕ) (number : ℕ)
    : Type 0 where
  pub kind : CheckKind
  pub place : ℕ
  pub stops : StopsAt (asked_for c files qs) (leaders c qs) kind (load.Heavy place number)
  pub named : IsNameAt (with_text c kind qs) place name

-- what loading comes to, by the names of all files
abbrev pub Loads : List (List ℕ) → Config → List (List ℕ) → List Question → Result Case Refusal → Type 0
Loads names c files qs (Ok case) = IsLoadedCase c files qs case
Loads names c files qs (Err (refusal.Source f others)) = IsStopped c files qs f × (others ≡ names)
Loads names c files qs (Err (refusal.Heavy name number)) = IsStoppedHeavy c files qs name number
Loads names c files qs (Err refusal.Memory) = Unit {0}
Loads names c files qs (Err f) = ⊥

-- ---- all of it

-- configuration and files are read, and loading comes to this
pub record Stands (r : Request) (held : Told) (events : List Event) (result : Result Case Refusal) : Type 0 where
  pub config : Config
  pub configured : IsConfigured r held config
  pub files : List (List ℕ)
  pub read : AreRead held (names_in r config) files
  pub loads : Loads (r.cfg ∷ names_in r config) config files (questions_in r config) result
  pub events_are : events ≡ all_gave r configured.bytes (names_in r config) files

-- what the whole work comes to, with what was read
abbrev pub Prepares : Request → Seen → List Event → Result Case Refusal → Type 0
Prepares r seen events (Ok case) = Stands r seen.held events (Ok case)
Prepares r seen events (Err (refusal.Absent name)) =
    (h : IsAbsent r seen name) × (events ≡ before_next r seen.held name h.next ++ Lacked name ∷ [])
Prepares r seen events (Err (refusal.Unread name)) =
    (h : IsUnread r seen name) × (events ≡ before_next r seen.held name h.next ++ Failed name ∷ [])
Prepares r seen events (Err (refusal.Config f)) =
    (h : IsMisconfigured r seen.held f) × (events ≡ Gave r.cfg h.bytes ∷ [])
Prepares r seen events (Err (refusal.NoCheck name)) =
    (h : IsUnnamed r seen.held name) × (events ≡ Gave r.cfg h.bytes ∷ [])
Prepares r seen events (Err (refusal.Source f names)) = Stands r seen.held events (Err (refusal.Source f names))
Prepares r seen events (Err (refusal.Heavy name number)) =
    Stands r seen.held events (Err (refusal.Heavy name number))
Prepares r seen events (Err refusal.Memory) = IsReadOn r events
