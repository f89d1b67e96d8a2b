-- A file that could not be read has its status.
use Rattle.std.proofs.Common.{◌≡◌, ℕ, true, List, [], ◌∷◌, ◌++◌, Option, Some, None}
use Rattle.std.proofs.lemmas.List.Elements.{All-contains, All-from_recursion}
use Rattle.std.specs.List.{AllByRecursion, Contains}
use Rattle.fv_base.specs.Outside.{Told}
use Rattle.fv_base.specs.declared.event.Event.{Event}
use Rattle.fv_base.specs.declared.event.Event.TheVariants.{Gave, Lacked, Failed, Wrote, Put}
use Rattle.rvf_words.specs.declared.line.Line.{Line as Words}
use Rattle.rvf_words.specs.declared.line.Line.TheVariants as words
use Rattle.rvf_case.specs.Cases.{IsCause, IsNext, Request, Seen, configuration, names_in, verilog}
use Rattle.rvf_case.specs.Hearing.{all_gave, before_next, cause_reads, gave}
use Rattle.rvf_case.specs.Loading.load as load
use Rattle.rvf_case.specs.Loading.{LoadFault}
use Rattle.rvf_case.specs.declared.refusal.Refusal.{Refusal}
use Rattle.rvf_case.specs.declared.refusal.Refusal.TheVariants as refusal
use Rattle.rvf_checks.specs.declared.wording.Wording.{Wording}
use Rattle.rvf_report.specs.declared.delivery.Delivery.{Delivery}
use Rattle.rvf_report.specs.declared.status.Status.{Status}
use Rattle.rvf_report.specs.declared.status.Status.TheVariants as s
use Rattle.rvf_core.specs.Certifies as certifies
use Rattle.rvf_core.specs.Checks.{Checks, checks_reads}
use Rattle.rvf_core.specs.Checks as checks
use Rattle.rvf_core.specs.Encodes as encodes
use Rattle.rvf_core.specs.Exports as exports
use Rattle.rvf_core.specs.Lengths.{LengthsAre, length_request, lengths_reads}
use Rattle.rvf_core.specs.Lengths as lengths
use Rattle.rvf_core.specs.Lists.{Lists, lists_reads}
use Rattle.rvf_core.specs.Lists as lists
use Rattle.rvf_core.specs.Run.{Answered, Says, answered_reads, comes, says_reads}
use Rattle.rvf_core.specs.Tasks.{Task, cover_task, run_task, zb_task}
use Rattle.rvf_core.proofs.Statuses.{comes_itself}

-- no read that failed
abbrev IsAnswered : Event → Type 0
IsAnswered (Gave name bytes) = Unit {0}
IsAnswered (Lacked name) = Unit {0}
IsAnswered (Failed name) = ⊥
IsAnswered (Wrote name bytes) = Unit {0}
IsAnswered (Put bytes) = Unit {0}

abbrev AreAnswered : List Event → Type 0
AreAnswered events = AllByRecursion IsAnswered events

none_failed : (events : List Event) (name : List ℕ) → AreAnswered events → Contains events (Failed name) → ⊥
none_failed events name are there =
    All-contains IsAnswered events (Failed name) (All-from_recursion IsAnswered events are) there

gave_answered : (names files : List (List ℕ)) → AreAnswered (gave names files)
gave_answered [] files = tt
gave_answered (n ∷ ns) [] = tt
gave_answered (n ∷ ns) (f ∷ fs) = (tt, gave_answered ns fs)

all_answered : (q : Request) (bytes : List ℕ) (names files : List (List ℕ)) → AreAnswered (all_gave q bytes names files)
all_answered q bytes names files = (tt, gave_answered names files)

behind_answered : (events : List Event) (last : Event) → AreAnswered events → IsAnswered last
    → AreAnswered (events ++ last ∷ [])
behind_answered [] last are is = (is, tt)
behind_answered (e ∷ es) last are is = (are.0, behind_answered es last are.1 is)

next_answered : (q : Request) (held : Told) (name : List ℕ) (next : IsNext q held name)
    → AreAnswered (before_next q held name next)
next_answered q held name (configuration is) = tt
next_answered q held name (verilog c configured before behind files order read) =
    all_answered q configured.bytes before files

-- ---- questions of a configuration

source_answered : (f : LoadFault) (q : Request) (seen : Seen) (names : List (List ℕ))
    (x : IsCause q seen (refusal.Source f names)) → AreAnswered (cause_reads q seen (refusal.Source f names) x)
source_answered (load.Text f) q seen names x =
    all_answered q x.refused.configured.bytes (names_in q x.config) x.refused.files
source_answered (load.Elab f) q seen names x =
    all_answered q x.refused.configured.bytes (names_in q x.config) x.refused.files
source_answered (load.Flow f) q seen names x =
    all_answered q x.refused.configured.bytes (names_in q x.config) x.refused.files
source_answered (load.Heavy place number) q seen names x = absurd x
source_answered (load.Port f) q seen names x =
    all_answered q x.refused.configured.bytes (names_in q x.config) x.refused.files
source_answered load.Memory q seen names x =
    all_answered q x.refused.configured.bytes (names_in q x.config) x.refused.files

refused_comes : (f : Refusal) (q : Request) (seen : Seen) (status : Status) (x : IsCause q seen f) (name : List ℕ)
    → status ≡ checks.refused_status f → Contains (cause_reads q seen f x) (Failed name)
    → comes s.ReadFault status ≡ true
refused_comes (refusal.Absent n) q seen status x name is there =
    absurd (none_failed (before_next q seen.held n x.next ++ Lacked n ∷ []) name
    (behind_answered (before_next q seen.held n x.next) (Lacked n) (next_answered q seen.held n x.next) tt) there)
refused_comes (refusal.Unread n) q seen status x name is there = comes_itself s.ReadFault status is
refused_comes (refusal.Config f) q seen status x name is there =
    absurd (none_failed (Gave q.cfg x.bytes ∷ []) name (tt, tt) there)
refused_comes (refusal.NoCheck n) q seen status x name is there =
    absurd (none_failed (Gave q.cfg x.bytes ∷ []) name (tt, tt) there)
refused_comes (refusal.Source f names) q seen status x name is there =
    absurd (none_failed (cause_reads q seen (refusal.Source f names) x) name (source_answered f q seen names x) there)
refused_comes (refusal.Heavy n number) q seen status x name is there =
    absurd (none_failed (all_gave q x.refused.configured.bytes (names_in q x.config) x.refused.files) name
    (all_answered q x.refused.configured.bytes (names_in q x.config) x.refused.files) there)
refused_comes refusal.Memory q seen status x name is there = absurd x

checks_comes : (q : Request) (seen : Seen) (told : Wording) (folder : List ℕ) (budget cubes : ℕ) (status : Status)
    (report : List Delivery) (x : Checks q seen told folder budget cubes status report) (name : List ℕ)
    → Contains (checks_reads q seen told folder budget cubes status report x) (Failed name)
    → comes s.ReadFault status ≡ true
checks_comes q seen told folder budget cubes status report (checks.judged x) name there =
    absurd (none_failed (all_gave q x.read.configured.bytes (names_in q x.config) x.files) name
    (all_answered q x.read.configured.bytes (names_in q x.config) x.files) there)
checks_comes q seen told folder budget cubes status report (checks.refused x) name there =
    refused_comes x.refusal q seen status x.cause name x.status_is there

task_comes : (t : Task) (seen : Seen) (status : Status) (report : List Delivery) (x : Answered t seen status report)
    (name : List ℕ) → Contains (answered_reads t seen status report x) (Failed name) → comes s.ReadFault status ≡ true
task_comes t seen status report x name there =
    checks_comes t.request seen t.wording t.folder t.budget t.cubes status report x name there

-- ---- names of checks

listed_comes : (f : Refusal) (cfg : List ℕ) (seen : Seen) (status : Status) (x : lists.IsCause cfg seen f)
    (name : List ℕ) → status ≡ checks.refused_status f → Contains (lists.cause_reads cfg seen f x) (Failed name)
    → comes s.ReadFault status ≡ true
listed_comes (refusal.Absent n) cfg seen status x name is there =
    absurd (none_failed (Lacked n ∷ []) name (tt, tt) there)
listed_comes (refusal.Unread n) cfg seen status x name is there = comes_itself s.ReadFault status is
listed_comes (refusal.Config f) cfg seen status x name is there =
    absurd (none_failed (Gave cfg x.bytes ∷ []) name (tt, tt) there)
listed_comes (refusal.NoCheck n) cfg seen status x name is there = absurd x
listed_comes (refusal.Source f names) cfg seen status x name is there = absurd x
listed_comes (refusal.Heavy n number) cfg seen status x name is there = absurd x
listed_comes refusal.Memory cfg seen status x name is there = absurd x

lists_comes : (cfg : List ℕ) (seen : Seen) (status : Status) (report : List Delivery)
    (x : Lists cfg seen status report) (name : List ℕ)
    → Contains (lists_reads cfg seen status report x) (Failed name) → comes s.ReadFault status ≡ true
lists_comes cfg seen status report (lists.listed x) name there =
    absurd (none_failed (Gave cfg x.configured.bytes ∷ []) name (tt, tt) there)
lists_comes cfg seen status report (lists.refused x) name there =
    listed_comes x.refusal cfg seen status x.cause name x.status_is there

-- ---- certificates

first_answered : (cnf proof : List ℕ) (held : Told) (name : List ℕ) (next : certifies.IsNext cnf proof held name)
    → AreAnswered (certifies.before_next cnf proof held name next)
first_answered cnf proof held name (certifies.first is) = tt
first_answered cnf proof held name (certifies.second clauses gives is) = (tt, tt)

certifies_comes : (cnf proof : List ℕ) (seen : Seen) (status : Status) (report : List Delivery)
    (x : certifies.Certifies cnf proof seen status report) (name : List ℕ)
    → Contains (certifies.certifies_reads cnf proof seen status report x) (Failed name)
    → comes s.ReadFault status ≡ true
certifies_comes cnf proof seen status report (certifies.judged x) name there =
    absurd (none_failed (Gave cnf x.clauses ∷ (Gave proof x.steps ∷ [])) name (tt, (tt, tt)) there)
certifies_comes cnf proof seen status report (certifies.absent x) name there =
    absurd (none_failed (certifies.before_next cnf proof seen.held x.name x.next ++ Lacked x.name ∷ []) name
    (behind_answered (certifies.before_next cnf proof seen.held x.name x.next) (Lacked x.name)
    (first_answered cnf proof seen.held x.name x.next) tt) there)
certifies_comes cnf proof seen status report (certifies.unread x) name there =
    comes_itself s.ReadFault status x.status_is

-- ---- clauses of graphs

encodes_comes : (graph cnf : List ℕ) (seen : Seen) (status : Status) (report : List Delivery)
    (x : encodes.Encodes graph cnf seen status report) (name : List ℕ)
    → Contains (encodes.encodes_reads graph cnf seen status report x) (Failed name)
    → comes s.ReadFault status ≡ true
encodes_comes graph cnf seen status report (encodes.read x) name there =
    absurd (none_failed (Gave graph x.bytes ∷ []) name (tt, tt) there)
encodes_comes graph cnf seen status report (encodes.absent x) name there =
    absurd (none_failed (Lacked graph ∷ []) name (tt, tt) there)
encodes_comes graph cnf seen status report (encodes.unread x) name there =
    comes_itself s.ReadFault status x.status_is

-- ---- the graph of a check

exports_comes : (cfg check file core basedir : List ℕ) (seen : Seen) (status : Status) (report : List Delivery)
    (x : exports.Exports cfg check file core basedir seen status report) (name : List ℕ)
    → Contains (exports.exports_reads cfg check file core basedir seen status report x) (Failed name)
    → comes s.ReadFault status ≡ true
exports_comes cfg check file core basedir seen status report (exports.exported x) name there =
    let q = exports.check_request cfg check core basedir in
    absurd (none_failed (all_gave q x.read.configured.bytes (names_in q x.config) x.files) name
    (all_answered q x.read.configured.bytes (names_in q x.config) x.files) there)
exports_comes cfg check file core basedir seen status report (exports.refused x) name there =
    refused_comes x.refusal (exports.check_request cfg check core basedir) seen status x.cause name x.status_is there

-- ---- runs of every length

lengths_come : (q : Request) (seen : Seen) (folder : List ℕ) (steps budget : ℕ) (status : Status)
    (report : List Delivery) (x : LengthsAre q seen folder steps budget status report) (name : List ℕ)
    → Contains (lengths_reads q seen folder steps budget status report x) (Failed name)
    → comes s.ReadFault status ≡ true
lengths_come q seen folder steps budget status report (lengths.answered x) name there =
    absurd (none_failed (all_gave q x.read.configured.bytes (names_in q x.config) x.files) name
    (all_answered q x.read.configured.bytes (names_in q x.config) x.files) there)
lengths_come q seen folder steps budget status report (lengths.refused x) name there =
    refused_comes x.refusal q seen status x.cause name x.status_is there

-- ---- all

pub failure_comes : (asked : Option Words) (seen : Seen) (status : Status) (report : List Delivery)
    (x : Says asked seen status report) (name : List ℕ)
    → Contains (says_reads asked seen status report x) (Failed name) → comes s.ReadFault status ≡ true
failure_comes None seen status report x name there = absurd (none_failed [] name tt there)
failure_comes (Some (words.Run cfg outdir core basedir budget jobs cubes)) seen status report x name there =
    task_comes (run_task cfg outdir core basedir budget cubes) seen status report x name there
failure_comes (Some (words.List cfg)) seen status report x name there =
    lists_comes cfg seen status report x name there
failure_comes (Some (words.Lrat cnf proof)) seen status report x name there =
    certifies_comes cnf proof seen status report x name there
failure_comes (Some (words.Bench size)) seen status report x name there = absurd (none_failed [] name tt there)
failure_comes (Some (words.Cover o)) seen status report x name there =
    task_comes (cover_task o) seen status report x name there
failure_comes (Some (words.Zb o)) seen status report x name there =
    task_comes (zb_task o) seen status report x name there
failure_comes (Some (words.Induct o steps)) seen status report x name there =
    lengths_come (length_request o steps) seen o.outdir steps o.budget status report x name there
failure_comes (Some (words.Toaig cfg check file core basedir)) seen status report x name there =
    exports_comes cfg check file core basedir seen status report x name there
failure_comes (Some (words.Fromaig aag cnf)) seen status report x name there =
    encodes_comes aag cnf seen status report x name there
