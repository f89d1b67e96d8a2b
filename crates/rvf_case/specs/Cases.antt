-- Meaning: What stands before the questions of a configuration are answered: the configuration, its files and what is
-- loaded of each text; or the first cause in the order of work why that doesn't stand. Rules of this project.
use Rattle.std.specs.Prelude.{◌≡◌, ℕ, ◌≤◌, ◌+◌, false, List, [], ◌∷◌, ◌++◌, length, map, sum, Option, Some, None, Result}
use Rattle.std.specs.Prelude.{Ok, Err, slice_get, if◌then◌else◌}
use Rattle.std.specs.List.{AllByRecursion}
use Rattle.fv_base.specs.Outside.{FilesState, Told, Lacks, ReadGives, Rose}
use Rattle.ck_cfg.specs.declared.config.Config.{Config}
use Rattle.ck_cfg.specs.declared.fault.CfgFault.{CfgFault}
use Rattle.ck_cfg.specs.declared.kind.CheckKind.{CheckKind}
use Rattle.ck_cfg.specs.Files.{file_names_of}
use Rattle.ck_cfg.specs.Reading.{config_of}
use Rattle.wn_net.specs.Names.{AreNamesOf}
use Rattle.vl_lower_spec.specs.Graphic.{AreGraphic}
use Rattle.rvfi_port.specs.Ports.{ArePortNodes}
use Rattle.rvf_load.specs.Loads.{IsLoadedFrom, IsRefused, IsSame, NoneRefuses}
use Rattle.rvf_load.specs.declared.fault.LoadFault.{LoadFault}
use Rattle.rvf_load.specs.declared.fault.LoadFault.TheVariants as load
use Rattle.rvf_load.specs.declared.loaded.Loaded.{Loaded}
use Rattle.ck_ask.specs.Asked.{HasItsProbe, IsQuestion}
use Rattle.ck_ask.specs.Questions.{question_kind, question_name}
use Rattle.ck_ask.specs.declared.question.Question.{Question}
use Rattle.rvf_case.specs.Askings.{Asking, IsThere, One, asking_seen, has_check}
use Rattle.rvf_case.specs.Texts.{asked_for, is_same_text, leaders, questions_of, with_text}
use Rattle.rvf_case.specs.declared.case.Case.{Case}
use Rattle.rvf_case.specs.declared.case.LoadedText.{LoadedText}
use Rattle.rvf_case.specs.declared.preparing.Request.{Request as RunRequest}
use Rattle.rvf_case.specs.declared.refusal.Refusal.{Refusal}
use Rattle.rvf_case.specs.declared.refusal.Refusal.TheVariants as refusal

-- what a run is asked for that reads a configuration: its file, the names that are put in, and which questions
pub record Request : Type 0 where
  pub cfg : List ℕ
  pub core : List ℕ
  pub basedir : List ℕ
  pub asking : Asking

-- as a call was given it
abbrev pub request_seen : RunRequest → Request
request_seen r =
    record { cfg = r.cfg.now; core = r.core.now; basedir = r.basedir.now; asking = asking_seen r.asking }

-- what a call saw of the files: what is told of them as it began, and how their counts moved
pub record Seen : Type 0 where
  pub held : Told
  pub misses : ℕ
  pub misses_now : ℕ
  pub faults : ℕ
  pub faults_now : ℕ

-- as the files stood before and stand now
abbrev pub seen_between : FilesState → FilesState → Seen
seen_between before now = record {
  held = before.held;
  misses = before.misses;
  misses_now = now.misses;
  faults = before.faults;
  faults_now = now.faults;
}

-- ---- the configuration and its files

-- the file of the configuration gave bytes, which say this; and what is asked of it is there
pub record IsConfigured (r : Request) (held : Told) (c : Config) : Type 0 where
  pub bytes : List ℕ
  pub gives : ReadGives held r.cfg bytes
  pub config_is : config_of bytes ≡ Ok c
  pub there : IsThere r.asking c

-- each of these files gave these bytes
abbrev pub AreRead : Told → List (List ℕ) → List (List ℕ) → Type 0
AreRead held [] [] = Unit {0}
AreRead held (name ∷ names) (bytes ∷ files) = ReadGives held name bytes × AreRead held names files
AreRead held names files = ⊥

abbrev pub names_in : Request → Config → List (List ℕ)
names_in r c = file_names_of c r.core r.basedir

-- the questions that are asked of a configuration
abbrev pub questions_in : Request → Config → List Question
questions_in r c = questions_of r.asking c

-- ---- what stands in the end

-- no part refuses the texts of these kinds
abbrev pub AreUnrefused : Config → List (List ℕ) → List Question → List CheckKind → Type 0
AreUnrefused c files qs kinds = AllByRecursion (λ kind. NoneRefuses (asked_for c files qs kind)) kinds

-- of each distinct text of these questions what is loaded of it, in the order of their first ones; and no part refuses
-- one
pub record AreLoaded (c : Config) (files : List (List ℕ)) (qs : List Question) (texts : List LoadedText)
    : Type 0 where
  pub kinds_are : map (λ x. x.kind) texts ≡ leaders c qs
  pub each : AllByRecursion (λ x. IsLoadedFrom (asked_for c files qs x.kind) x.loaded) texts
  pub unrefused : AreUnrefused c files qs (leaders c qs)

pub record IsCase (r : Request) (held : Told) (case : Case) : Type 0 where
  pub configured : IsConfigured r held case.config
  pub questions_are : case.questions ≡ questions_in r case.config
  pub files : List (List ℕ)
  pub read : AreRead held (names_in r case.config) files
  pub loaded : AreLoaded case.config files case.questions case.texts

-- ---- why it doesn't stand: the first cause in the order of work

-- all files before this one in the order of work gave bytes: the file of the configuration, and then those that it
-- names; this one didn't
pub data IsNext (r : Request) (held : Told) (name : List ℕ) : Type 0 where
  configuration : name ≡ r.cfg → IsNext r held name
  verilog : (c : Config) → IsConfigured r held c → (before behind files : List (List ℕ))
      → names_in r c ≡ before ++ name ∷ behind → AreRead held before files → IsNext r held name

-- the next file isn't held, which was counted
pub record IsAbsent (r : Request) (seen : Seen) (name : List ℕ) : Type 0 where
  pub next : IsNext r seen.held name
  pub lacks : Lacks seen.held name
  pub counted : Rose seen.misses seen.misses_now

-- the next file could not be read, which was counted
pub record IsUnread (r : Request) (seen : Seen) (name : List ℕ) : Type 0 where
  pub next : IsNext r seen.held name
  pub counted : Rose seen.faults seen.faults_now

-- the configuration is refused
pub record IsMisconfigured (r : Request) (held : Told) (f : CfgFault) : Type 0 where
  pub bytes : List ℕ
  pub gives : ReadGives held r.cfg bytes
  pub refused : config_of bytes ≡ Err f

-- the configuration has no check of the name that is asked for
pub record IsUnnamed (r : Request) (held : Told) (name : List ℕ) : Type 0 where
  pub bytes : List ℕ
  pub gives : ReadGives held r.cfg bytes
  pub config : Config
  pub config_is : config_of bytes ≡ Ok config
  pub asked : r.asking ≡ One name
  pub none : has_check name config ≡ false

-- all files are read, no text before the one of this kind is refused, and this one is
pub record IsRefusedText (r : Request) (held : Told) (c : Config) (kind : CheckKind) (f : LoadFault) : Type 0 where
  pub configured : IsConfigured r held c
  pub files : List (List ℕ)
  pub read : AreRead held (names_in r c) files
  pub before : List CheckKind
  pub behind : List CheckKind
  pub order : leaders c (questions_in r c) ≡ before ++ kind ∷ behind
  pub unrefused : AreUnrefused c files (questions_in r c) before
  pub refused : IsRefused (asked_for c files (questions_in r c) kind) f

-- a part refuses a text, under the names of its files, that of the configuration first
pub record IsRefusedSource (r : Request) (held : Told) (f : LoadFault) (names : List (List ℕ)) : Type 0 where
  pub config : Config
  pub kind : CheckKind
  pub refused : IsRefusedText r held config kind f
  pub names_are : names ≡ r.cfg ∷ names_in r config

-- the weight of a text's design is too much for a question that has the text, the first such
pub record IsHeavy (r : Request) (held : Told) (name : List ℕ) (number : ℕ) : Type 0 where
  pub config : Config
  pub kind : CheckKind
  pub place : ℕ
  pub refused : IsRefusedText r held config kind (load.Heavy place number)
  pub question : Question
  pub there : slice_get (with_text config kind (questions_in r config)) place ≡ Some question
  pub name_is : name ≡ question_name question

-- a refusal has its cause; that of a text which is too heavy names the question
abbrev pub IsCause : Request → Seen → Refusal → Type 0
IsCause r seen (refusal.Absent name) = IsAbsent r seen name
IsCause r seen (refusal.Unread name) = IsUnread r seen name
IsCause r seen (refusal.Config f) = IsMisconfigured r seen.held f
IsCause r seen (refusal.NoCheck name) = IsUnnamed r seen.held name
IsCause r seen (refusal.Source (load.Heavy place number) names) = ⊥
IsCause r seen (refusal.Source f names) = IsRefusedSource r seen.held f names
IsCause r seen (refusal.Heavy name number) = IsHeavy r seen.held name number
IsCause r seen refusal.Memory = ⊥

-- ---- what an answer says, both ways

abbrev pub Comes : Request → Seen → Result Case Refusal → Type 0
Comes r seen (Ok case) = IsCase r seen.held case
Comes r seen (Err refusal.Memory) = Unit {0}
Comes r seen (Err f) = IsCause r seen f

-- Two answers that the same files give: the same refusal, of several loops of drivers any one. That a file could not be
-- read, and want of memory, say nothing.
abbrev pub Alike : Result Case Refusal → Result Case Refusal → Type 0
Alike (Err refusal.Memory) other = Unit {0}
Alike (Err (refusal.Unread name)) other = Unit {0}
Alike result (Err refusal.Memory) = Unit {0}
Alike result (Err (refusal.Unread name)) = Unit {0}
Alike (Ok case) (Ok other) = Unit {0}
Alike (Err (refusal.Absent name)) (Err (refusal.Absent other)) = other ≡ name
Alike (Err (refusal.Config f)) (Err (refusal.Config g)) = g ≡ f
Alike (Err (refusal.NoCheck name)) (Err (refusal.NoCheck other)) = other ≡ name
Alike (Err (refusal.Source f names)) (Err (refusal.Source g others)) = IsSame f g × (others ≡ names)
Alike (Err (refusal.Heavy name number)) (Err (refusal.Heavy other n)) = (other ≡ name) × (n ≡ number)
Alike result other = ⊥

-- a fact, unless a file could not be read, or memory was wanted
abbrev pub UnlessFault : Refusal → Type 0 → Type 0
UnlessFault (refusal.Unread name) P = Unit {0}
UnlessFault refusal.Memory P = Unit {0}
UnlessFault f P = P

abbrev pub UnlessUnread : {A : Type 0} → Result A Refusal → Type 0 → Type 0
UnlessUnread (Ok x) P = P
UnlessUnread (Err f) P = UnlessFault f P

-- ---- that the questions of a case may be answered

-- what is loaded of the question's text is fit for the question
pub record IsFit (channels : ℕ) (q : Question) (l : Loaded) : Type 0 where
  pub names : AreNamesOf l.net l.names
  pub graphic : AreGraphic l.names
  pub port : ArePortNodes l.net l.port
  pub many : length l.port.channels ≡ channels
  pub lawful : IsQuestion channels q
  pub few : channels ≤ 2
  pub probe : HasItsProbe l.port q
  pub inputs : length l.net.inputs ≤ 1000000
  pub state : length l.net.regs + sum (map (λ m. m.words) l.net.mems) ≤ 50000000

-- the text among these that stands for that of a kind, if any
abbrev pub text_among : Config → CheckKind → List LoadedText → Option Loaded
text_among c kind [] = None
text_among c kind (t ∷ ts) = if is_same_text c t.kind kind then Some t.loaded else text_among c kind ts

abbrev pub loaded_for : Case → Question → Option Loaded
loaded_for case q = text_among case.config (question_kind q) case.texts

-- each question has a text, and what is loaded of it is fit
abbrev pub IsReady : Case → Type 0
IsReady case =
    AllByRecursion (λ q. (l : Loaded) × (loaded_for case q ≡ Some l) × IsFit case.config.nret q l) case.questions
