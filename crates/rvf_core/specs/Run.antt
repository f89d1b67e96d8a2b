-- Meaning: What an answer of the top call means: its cause, and its report. Rules of this project.
use Rattle.std.specs.Prelude.{◌≡◌, ℕ, ◌<◌, ◌≤◌, ◌+◌, ◌-◌, ◌^◌, Bool, true, false, ◌||◌, ◌==◌, nat_le, min, List, []}
use Rattle.std.specs.Prelude.{◌∷◌, ◌++◌, ◌↔◌, Option, Some, None, codes}
use Rattle.std.specs.List.{All, Contains}
use Rattle.fv_base.specs.Outside.{Names, ReadGives, Told}
use Rattle.fv_base.specs.declared.event.Event.{Event}
use Rattle.fv_base.specs.declared.event.Event.TheVariants.{Failed}
use Rattle.aiger_text.specs.Profile.{IsOfProfile}
use Rattle.aiger_text.specs.Said.{Said}
use Rattle.vl_size.specs.Size.{Values}
use Rattle.ck_cfg.specs.declared.check.Check.{Check}
use Rattle.ck_cfg.specs.declared.config.Config.{Config}
use Rattle.ck_cfg.specs.Checks.{checks_of}
use Rattle.ck_gen.specs.Monitors.{is_of_one_cycle}
use Rattle.ck_ask.specs.declared.question.Question.{Question}
use Rattle.rvf_graph.specs.Clauses.{IsClauseText}
use Rattle.rvf_words.specs.declared.line.Line.{Line as Words}
use Rattle.rvf_words.specs.declared.line.Line.TheVariants as words
use Rattle.rvf_words.specs.declared.line.Options.{Options}
use Rattle.rvf_words.specs.Line.{line_of}
use Rattle.rvf_case.specs.Cases.{Seen, AreUnrefused, IsCause, questions_in}
use Rattle.rvf_case.specs.Hearing.{AreReadOn, HeardMore}
use Rattle.rvf_case.specs.Hearing as hearing
use Rattle.rvf_case.specs.Texts.{leaders}
use Rattle.rvf_case.specs.Askings as asking
use Rattle.rvf_case.specs.declared.refusal.Refusal.{Refusal}
use Rattle.rvf_report.specs.Outcome.{Outside, Delivers, Fails, IsQuiet, Stops}
use Rattle.rvf_report.specs.Status.{code_of}
use Rattle.rvf_report.specs.declared.delivery.Delivery.{Delivery}
use Rattle.rvf_report.specs.declared.delivery.Delivery.TheVariants.{Line}
use Rattle.rvf_report.specs.declared.status.Status.{Status}
use Rattle.rvf_report.specs.declared.status.Status.TheVariants as s
use Rattle.rvf_core.specs.Bench as bench
use Rattle.rvf_core.specs.Certifies.{Certifies, certifies_reads}
use Rattle.rvf_core.specs.Checks.{Checks, HasRead, IsBegun, checks_reads, has_reads, refused_status}
use Rattle.rvf_core.specs.Encodes.{Encodes, encodes_reads, graph_report}
use Rattle.rvf_core.specs.Exports.{Exports, IsExported, check_request, exports_reads}
use Rattle.rvf_core.specs.Lengths.{AreBegun, LengthsAre, ViolatesWithin, length_request, lengths_reads}
use Rattle.rvf_core.specs.Lists.{Lists, lists_reads}
use Rattle.rvf_core.specs.Tasks.{Task, bench_task, task_asked, task_of}
use Rattle.rvf_core.specs.Verdicts.{QuestionFails, Violates}

-- all that a run was given, and what it left
pub record Run : Type 0 where
  -- the words behind the program's name
  pub words : List (List ℕ)
  pub before : Outside
  pub now : Outside

-- what a run saw of the files
abbrev pub seen_in : Run → Seen
seen_in r = record {
  held = r.before.held;
  misses = r.before.misses;
  misses_now = r.now.misses;
  faults = r.before.faults;
  faults_now = r.now.faults;
}

-- ---- what the words ask for, and what is reported on it

-- the numbers of a line are in their ranges
abbrev pub IsLine : Words → Type 0
IsLine (words.Run cfg outdir core basedir budget jobs cubes) =
    (0 < budget) × (1 ≤ jobs) × (jobs ≤ 64) × (cubes ≤ 6)
IsLine (words.Cover o) = (0 < o.budget) × (1 ≤ o.jobs) × (o.jobs ≤ 64)
IsLine (words.Zb o) = (0 < o.budget) × (1 ≤ o.jobs) × (o.jobs ≤ 64)
IsLine (words.Induct o steps) =
    (0 < o.budget) × (1 ≤ o.jobs) × (o.jobs ≤ 64) × (1 ≤ steps) × (steps ≤ 100)
IsLine line = Unit {0}

-- the operands and options of a word that asks for questions of a configuration
abbrev pub options_text : List ℕ
options_text = codes "CFG OUTDIR [--core NAME] [--basedir DIR] [--budget N] [--jobs N]"

abbrev pub usage_line : List ℕ
usage_line =
    codes "usage: rvf run " ++ (options_text
    ++ (codes " [--cubes N] | list CFG | lrat CNF PROOF | bench N | cover " ++ (options_text
    ++ (codes " | zb " ++ (options_text
    ++ (codes " | induct " ++ (options_text
    ++ codes " [--steps K] | toaig CFG CHECK FILE [--core NAME] [--basedir DIR] | fromaig AAG CNF\n")))))))

-- other words
pub record Misuses (status : Status) (report : List Delivery) : Type 0 where
  pub status_is : status ≡ s.Usage
  pub report_is : report ≡ Line usage_line ∷ []

-- a status has its cause where this is asked for, and this is its report
abbrev pub Answered : Task → Seen → Status → List Delivery → Type 0
Answered t seen status report = Checks t.request seen t.wording t.folder t.budget t.cubes status report

-- a report on it of which not all is known yet: the questions are answered one by one
abbrev pub AnswersBegin : Task → Told → List Delivery → Type 0
AnswersBegin t held report = IsBegun t.request held t.wording t.folder t.budget t.cubes report

-- a status has its cause where `bench` asks for the checks of the design that it makes, and this is its report
pub record Benches (size : ℕ) (status : Status) (report : List Delivery) : Type 0 where
  pub misses : ℕ
  pub misses_now : ℕ
  pub checks : Answered (bench_task size) (bench.seen_of size misses misses_now) status report

-- the same of words that put no questions of given files
abbrev pub SaysOther : Words → Seen → Status → List Delivery → Type 0
SaysOther (words.List cfg) seen status report = Lists cfg seen status report
SaysOther (words.Lrat cnf proof) seen status report = Certifies cnf proof seen status report
SaysOther (words.Bench size) seen status report = Benches size status report
SaysOther (words.Induct o steps) seen status report =
    LengthsAre (length_request o steps) seen o.outdir steps o.budget status report
SaysOther (words.Toaig cfg check file core basedir) seen status report =
    Exports cfg check file core basedir seen status report
SaysOther (words.Fromaig aag cnf) seen status report = Encodes aag cnf seen status report
SaysOther asked seen status report = ⊥

-- of words with this task, if they have one
abbrev pub SaysBy : Option Task → Words → Seen → Status → List Delivery → Type 0
SaysBy (Some t) asked seen status report = Answered t seen status report
SaysBy None asked seen status report = SaysOther asked seen status report

-- a status has its cause, under what the words ask for, and this is its report
abbrev pub Says : Option Words → Seen → Status → List Delivery → Type 0
Says None seen status report = Misuses status report
Says (Some asked) seen status report = SaysBy (task_of asked) asked seen status report

-- a report of which not all is known yet, of words with this task
abbrev pub BeginsBy : Option Task → Words → Seen → List Delivery → Type 0
BeginsBy (Some t) asked seen report = AnswersBegin t seen.held report
BeginsBy None (words.Bench size) seen report = AnswersBegin (bench_task size) (Some (bench.held_of size)) report
BeginsBy None (words.Induct o steps) seen report =
    AreBegun (length_request o steps) seen.held o.outdir steps o.budget report
BeginsBy None asked seen report = ⊥

abbrev pub Begins : Option Words → Seen → List Delivery → Type 0
Begins None seen report = ⊥
Begins (Some asked) seen report = BeginsBy (task_of asked) asked seen report

-- the report of some status, or as far as it is known
pub data IsReport (asked : Option Words) (seen : Seen) (report : List Delivery) : Type 0 where
  whole : (status : Status) → Says asked seen status report → IsReport asked seen report
  begun : Begins asked seen report → IsReport asked seen report
  nothing : report ≡ [] → IsReport asked seen report

-- ---- what was read

-- what a status and its report speak of where questions of a configuration are asked
abbrev pub answered_reads : (t : Task) (seen : Seen) (status : Status) (report : List Delivery)
    → Answered t seen status report → List Event
answered_reads t seen status report says =
    checks_reads t.request seen t.wording t.folder t.budget t.cubes status report says

-- and what a report speaks of that has begun
abbrev pub begun_reads : (t : Task) (held : Told) (report : List Delivery) → AnswersBegin t held report → List Event
begun_reads t held report h = has_reads t.request held h.config h.files h.read

-- what the others speak of; `bench` reads only what it makes itself
abbrev pub other_reads : (asked : Words) (seen : Seen) (status : Status) (report : List Delivery)
    → SaysOther asked seen status report → List Event
other_reads (words.List cfg) seen status report says = lists_reads cfg seen status report says
other_reads (words.Lrat cnf proof) seen status report says = certifies_reads cnf proof seen status report says
other_reads (words.Induct o steps) seen status report says =
    lengths_reads (length_request o steps) seen o.outdir steps o.budget status report says
other_reads (words.Toaig cfg check file core basedir) seen status report says =
    exports_reads cfg check file core basedir seen status report says
other_reads (words.Fromaig aag cnf) seen status report says = encodes_reads aag cnf seen status report says
other_reads asked seen status report says = []

abbrev pub reads_by : (task : Option Task) (asked : Words) (seen : Seen) (status : Status) (report : List Delivery)
    → SaysBy task asked seen status report → List Event
reads_by (Some t) asked seen status report says = answered_reads t seen status report says
reads_by None asked seen status report says = other_reads asked seen status report says

-- what a status and its report speak of
abbrev pub says_reads : (asked : Option Words) (seen : Seen) (status : Status) (report : List Delivery)
    → Says asked seen status report → List Event
says_reads None seen status report says = []
says_reads (Some asked) seen status report says = reads_by (task_of asked) asked seen status report says

-- what a report speaks of that has begun
abbrev pub begun_by : (task : Option Task) (asked : Words) (seen : Seen) (report : List Delivery)
    → BeginsBy task asked seen report → List Event
begun_by (Some t) asked seen report h = begun_reads t seen.held report h
begun_by None (words.Induct o steps) seen report h =
    has_reads (length_request o steps) seen.held h.config h.files h.read
begun_by None asked seen report h = []

abbrev pub begins_reads : (asked : Option Words) (seen : Seen) (report : List Delivery) → Begins asked seen report
    → List Event
begins_reads None seen report h = []
begins_reads (Some asked) seen report h = begun_by (task_of asked) asked seen report h

-- of the files that are asked for the first ones were read, each by one read and in their order
abbrev pub IsOtherReadOn : Words → List Event → Type 0
IsOtherReadOn (words.List cfg) events = AreReadOn (cfg ∷ []) events
IsOtherReadOn (words.Lrat cnf proof) events = AreReadOn (cnf ∷ (proof ∷ [])) events
IsOtherReadOn (words.Induct o steps) events = hearing.IsReadOn (length_request o steps) events
IsOtherReadOn (words.Toaig cfg check file core basedir) events =
    hearing.IsReadOn (check_request cfg check core basedir) events
IsOtherReadOn (words.Fromaig aag cnf) events = AreReadOn (aag ∷ []) events
IsOtherReadOn asked events = events ≡ []

abbrev pub IsReadOnBy : Option Task → Words → List Event → Type 0
IsReadOnBy (Some t) asked events = hearing.IsReadOn t.request events
IsReadOnBy None asked events = IsOtherReadOn asked events

abbrev pub IsReadOn : Option Words → List Event → Type 0
IsReadOn None events = events ≡ []
IsReadOn (Some asked) events = IsReadOnBy (task_of asked) asked events

-- exactly what a report speaks of; where there is none, as far as it went
abbrev pub Hears : (asked : Option Words) (seen : Seen) (report : List Delivery) → IsReport asked seen report
    → List Event → Type 0
Hears asked seen report (whole status says) events = events ≡ says_reads asked seen status report says
Hears asked seen report (begun begins) events = events ≡ begins_reads asked seen report begins
Hears asked seen report (nothing none) events = IsReadOn asked events

-- ---- how a run ends

module _ (asked : Option Words) (r : Run) where
  -- the status has its cause, exactly what it speaks of was read, and all of its report was delivered
  pub record Reports (status : Status) : Type 0 where
    pub report : List Delivery
    pub says : Says asked (seen_in r) status report
    pub heard : r.now.heard ≡ r.before.heard ++ says_reads asked (seen_in r) status report says
    pub delivered : Delivers r.before r.now report

  -- something of a report could not be delivered
  pub record Breaks : Type 0 where
    pub report : List Delivery
    pub is : IsReport asked (seen_in r) report
    pub heard : HeardMore r.before.heard r.now.heard (Hears asked (seen_in r) report is)
    pub fails : Fails r.before r.now report

  -- memory was wanted, behind a front of a report
  pub record WantsMemory : Type 0 where
    pub report : List Delivery
    pub is : IsReport asked (seen_in r) report
    pub heard : HeardMore r.before.heard r.now.heard (Hears asked (seen_in r) report is)
    pub stops : Stops r.before r.now report

  abbrev pub Ends : Status → Type 0
  Ends s.WriteFault = Breaks
  Ends s.Memory = WantsMemory
  Ends status = Reports status

-- what each status means of a run
abbrev pub Answers : Status → Run → Type 0
Answers status r = Ends (line_of r.words) r status

-- ---- each cause has its status

-- a count went up, or stands at its end
abbrev pub rose : ℕ → ℕ → Bool
rose before now = nat_le (min (before + 1) (2 ^ 64 - 1)) now

-- the words ask for questions of a configuration, the files are told, and no read or write failed
pub record Asks (r : Run) (t : Task) : Type 0 where
  pub asked : task_asked (line_of r.words) ≡ Some t
  pub names : Names
  pub told : r.before.held ≡ Some names
  pub no_fault : rose r.before.faults r.now.faults ≡ false

-- a cause is there why no question is answered
pub record HasCause (r : Run) (f : Refusal) : Type 0 where
  pub task : Task
  pub asks : Asks r task
  pub cause : IsCause task.request (seen_in r) f

-- no part refuses the texts of these questions
abbrev pub AreAccepted : Config → List (List ℕ) → List Question → Type 0
AreAccepted c files qs = AreUnrefused c files qs (leaders c qs)

-- all is read that the task asks for, and no text is refused: of the files that the words name, or of what `bench`
-- makes
pub data IsAccepted (r : Run) (t : Task) (c : Config) (files : List (List ℕ)) : Type 0 where
  of_files : Asks r t → HasRead t.request r.before.held c files → AreAccepted c files (questions_in t.request c)
      → IsAccepted r t c files
  of_bench : (size : ℕ) → line_of r.words ≡ Some (words.Bench size) → t ≡ bench_task size
      → HasRead t.request (Some (bench.held_of size)) c files → AreAccepted c files (questions_in t.request c)
      → IsAccepted r t c files

-- the words ask for names of checks, for the check of a certificate or for the clauses of a graph, the files are told,
-- and no read or write failed
abbrev pub IsOther : Words → Type 0
IsOther (words.Run cfg outdir core basedir budget jobs cubes) = ⊥
IsOther (words.Bench size) = ⊥
IsOther (words.Cover o) = ⊥
IsOther (words.Zb o) = ⊥
IsOther (words.Induct o steps) = ⊥
IsOther (words.Toaig cfg check file core basedir) = ⊥
IsOther asked = Unit {0}

pub record AsksOther (r : Run) (asked : Words) : Type 0 where
  pub asked_is : line_of r.words ≡ Some asked
  pub other : IsOther asked
  pub names : Names
  pub told : r.before.held ≡ Some names
  pub no_fault : rose r.before.faults r.now.faults ≡ false

-- the words ask for runs of every length, the files are told, and no read or write failed
pub record AsksLengths (r : Run) (o : Options) (steps : ℕ) : Type 0 where
  pub asked : line_of r.words ≡ Some (words.Induct o steps)
  pub names : Names
  pub told : r.before.held ≡ Some names
  pub no_fault : rose r.before.faults r.now.faults ≡ false

-- the words ask for the graph of a check, the files are told, and no read or write failed
pub record AsksGraph (r : Run) (cfg check file core basedir : List ℕ) : Type 0 where
  pub asked : line_of r.words ≡ Some (words.Toaig cfg check file core basedir)
  pub names : Names
  pub told : r.before.held ≡ Some names
  pub no_fault : rose r.before.faults r.now.faults ≡ false

-- the file of the graph of a check was made to hold its text, and the line of the graph was put
pub record IsMade (cfg check file core basedir : List ℕ) (r : Run) : Type 0 where
  pub report : List Delivery
  pub exported : IsExported cfg check file core basedir r.before.held s.Passed report
  pub delivered : Delivers r.before r.now report

-- the file of the clauses of a graph was made to hold them, and the line of the graph was put
pub record IsEncoded (graph cnf : List ℕ) (r : Run) : Type 0 where
  pub bytes : List ℕ
  pub gives : ReadGives r.before.held graph bytes
  pub said : Said
  pub says : IsOfProfile bytes said
  pub text : List ℕ
  pub clauses : IsClauseText said text
  pub delivered : Delivers r.before r.now (graph_report cnf said text)

-- the wanted status came, or what may take its place: a delivery that failed (8), or want of memory (11)
abbrev pub comes : Status → Status → Bool
comes wanted status = (code_of status == code_of wanted) || ((code_of status == 8) || (code_of status == 11))

-- or a budget was used up before (2)
abbrev pub comes_in_budget : Status → Status → Bool
comes_in_budget wanted status = comes wanted status || (code_of status == 2)

-- no call on the files failed, or one did before anything was delivered
pub data FailsFirst (before now : Outside) : Type 0 where
  none_failed : now.faults ≡ before.faults → FailsFirst before now
  none_delivered : Delivers before now [] → FailsFirst before now

-- Which calls failed, by the status. Under 7 a read did, and no put. Under 8 a write or a put did. Under 11 no put did,
-- and a read only where nothing was delivered. Under all others none did.
abbrev pub HasCounts : Status → Outside → Outside → Type 0
HasCounts s.ReadFault before now = now.out_faults ≡ before.out_faults
HasCounts s.WriteFault before now = Unit {0}
HasCounts s.Memory before now = (now.out_faults ≡ before.out_faults) × FailsFirst before now
HasCounts status before now = IsQuiet before now

-- all questions were answered, or what may take its place came
abbrev pub comes_judged : Status → Bool
comes_judged status = comes_in_budget s.Passed status || comes s.Failing status

pub record IsExact (status : Status) (r : Run) : Type 0 where
  -- a call that failed has its status, 7 or 8, or memory was wanted
  pub counts : HasCounts status r.before r.now
  -- so has a file that could not be read, which its line names
  pub unread : (events : List Event) (name : List ℕ) → r.now.heard ≡ r.before.heard ++ events
      → Contains events (Failed name) → comes s.ReadFault status ≡ true
  pub usage : line_of r.words ≡ None → comes s.Usage status ≡ true
  pub refusal : (f : Refusal) → HasCause r f → comes (refused_status f) status ≡ true
  -- where no question fails, and where one does
  pub none_fails : (t : Task) (c : Config) (files : List (List ℕ)) → IsAccepted r t c files
      → All (λ q. QuestionFails c files (questions_in t.request c) q → ⊥) (questions_in t.request c)
      → comes_in_budget s.Passed status ≡ true
  pub one_fails : (t : Task) (c : Config) (files : List (List ℕ)) (q : Question) → IsAccepted r t c files
      → Contains (questions_in t.request c) q → QuestionFails c files (questions_in t.request c) q
      → comes_in_budget s.Failing status ≡ true
  pub judged : (t : Task) (c : Config) (files : List (List ℕ)) → IsAccepted r t c files
      → comes_judged status ≡ true
  -- so where the checks are asked for, and no run violates one, or one does
  pub pass : (t : Task) (c : Config) (files : List (List ℕ)) → IsAccepted r t c files
      → t.request.asking ≡ asking.Checks
      → All (λ x. (run : List Values) → Violates c files x run → ⊥) (checks_of c)
      → comes_in_budget s.Passed status ≡ true
  pub fail : (t : Task) (c : Config) (files : List (List ℕ)) (x : Check) (run : List Values)
      → IsAccepted r t c files
      → t.request.asking ≡ asking.Checks → Contains (checks_of c) x → Violates c files x run
      → comes_in_budget s.Failing status ≡ true
  -- the clauses of a graph pass exactly where their file and the line came through
  pub encoded : (graph cnf : List ℕ) → line_of r.words ≡ Some (words.Fromaig graph cnf)
      → (status ≡ s.Passed) ↔ IsEncoded graph cnf r
  -- a status that has its cause under the other words
  pub other : (asked : Words) (wanted : Status) (report : List Delivery) → AsksOther r asked
      → Says (Some asked) (seen_in r) wanted report → comes wanted status ≡ true
  -- the graph of a check passes exactly where its file and the line came through
  pub exported : (cfg check file core basedir : List ℕ)
      → line_of r.words ≡ Some (words.Toaig cfg check file core basedir)
      → (status ≡ s.Passed) ↔ IsMade cfg check file core basedir r
  -- each cause why there is none has its status, that the check isn't there among them
  pub no_graph : (cfg check file core basedir : List ℕ) (f : Refusal) → AsksGraph r cfg check file core basedir
      → IsCause (check_request cfg check core basedir) (seen_in r) f → comes (refused_status f) status ≡ true
  -- and where no cause is there, there is one
  pub graph : (cfg check file core basedir : List ℕ) (c : Config) (files : List (List ℕ))
      → AsksGraph r cfg check file core basedir
      → HasRead (check_request cfg check core basedir) r.before.held c files
      → AreAccepted c files (questions_in (check_request cfg check core basedir) c) → comes s.Passed status ≡ true
  -- of runs of every length: each cause why no check is answered has its status
  pub no_length : (o : Options) (steps : ℕ) (f : Refusal) → AsksLengths r o steps
      → IsCause (length_request o steps) (seen_in r) f → comes (refused_status f) status ≡ true
  -- where no cause is there, all checks are answered
  pub lengths : (o : Options) (steps : ℕ) (c : Config) (files : List (List ℕ)) → AsksLengths r o steps
      → HasRead (length_request o steps) r.before.held c files
      → AreAccepted c files (questions_in (length_request o steps) c) → comes_judged status ≡ true
  -- and where some run up to the last cycle of the base violates a check of one cycle, it fails
  pub length_fails : (o : Options) (steps : ℕ) (c : Config) (files : List (List ℕ)) (x : Check)
      → AsksLengths r o steps
      → HasRead (length_request o steps) r.before.held c files
      → AreAccepted c files (questions_in (length_request o steps) c) → Contains (checks_of c) x
      → is_of_one_cycle x.kind ≡ true → ViolatesWithin c files (questions_in (length_request o steps) c) steps x
      → comes_in_budget s.Failing status ≡ true
