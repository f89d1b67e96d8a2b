-- From what was read to the report on it.
use Rattle.std.proofs.Common.{◌≡◌, ℕ, ◌≤◌, false, List, [], ◌∷◌, ◌++◌, map, Some, None, Result, Ok, Err, IfOk}
use Rattle.std.proofs.Common.{refl, sym, ap, ◌∙◌, subst, arith}
use Rattle.fv_base.specs.Events.{read_events}
use Rattle.fv_base.specs.Outside.{FilesState, Lacks, ReadGives, Rose, SameFiles, Told}
use Rattle.fv_base.specs.declared.event.Event.{Event}
use Rattle.fv_base.specs.declared.event.Event.TheVariants.{Gave, Lacked, Failed}
use Rattle.fv_base.specs.declared.files.FileFault.{FileFault}
use Rattle.fv_base.specs.declared.files.FileFault.TheVariants as file
use Rattle.ck_cfg.specs.declared.config.Config.{Config}
use Rattle.ck_cfg.specs.Checks.{checks_of}
use Rattle.cnf_form.specs.Cnf.{Cnf}
use Rattle.cnf_text.specs.Dimacs.{formula_of}
use Rattle.cnf_text.specs.declared.fault.DimacsFault.{DimacsFault}
use Rattle.lrat_check.specs.Steps.{judged}
use Rattle.lrat_check.specs.Texts.{steps_of}
use Rattle.lrat_check.specs.declared.lrat_fault.LratFault.{LratFault}
use Rattle.lrat_check.specs.declared.step.Refuted.{Refuted}
use Rattle.lrat_check.specs.declared.step.Step.{Step}
use Rattle.lrat_check.specs.declared.step.StepFault.{StepFault}
use Rattle.lrat_texts.proofs.Formulas.{formula_law}
use Rattle.lrat_texts.proofs.Steps.{steps_law}
use Rattle.rvf_report.specs.Lines.{refusal_line}
use Rattle.rvf_case.specs.Cases.{Seen, seen_between}
use Rattle.rvf_case.specs.Hearing.{AreReadOn, HeardMore}
use Rattle.rvf_case.specs.Steps.{Configures}
use Rattle.rvf_case.specs.declared.refusal.Refusal.{Refusal}
use Rattle.rvf_case.specs.declared.refusal.Refusal.TheVariants as refusal
use Rattle.rvf_case.proofs.Files.{heard_both}
use Rattle.rvf_report.specs.declared.delivery.Delivery.{Delivery}
use Rattle.rvf_report.specs.declared.status.Status.{Status}
use Rattle.rvf_report.specs.declared.status.Status.TheVariants as s
use Rattle.rvf_core.specs.Certificate.{formula_report, judgement, one_line, outcome, proof_report}
use Rattle.rvf_core.specs.Certifies.{AreReadRefuted, AreRefuted, Certifies, IsNext, IsProved, IsSaid, before_next}
use Rattle.rvf_core.specs.Certifies.{first, second}
use Rattle.rvf_core.specs.Certifies as certifies
use Rattle.rvf_core.specs.Checks.{refused_status}
use Rattle.rvf_core.specs.Lists.{Lists, name_line}
use Rattle.rvf_core.specs.Lists as lists
use Rattle.rvf_core.specs.Steps.{CertifiesFor, ListsFor, is_memory}
use Rattle.rvf_core.specs.Unread.{IsUnreadReport}
use Rattle.rvf_core.specs.declared.report.Report.{Report}
use Rattle.rvf_core.proofs.Apart.{true_false}
use Rattle.rvf_core.proofs.Endings.{IsOwn}

pub if_ok : {A E : Type 0} (P Q : A → Type 0) → ((a : A) → P a → Q a) → (r : Result A E) → IfOk r P → IfOk r Q
if_ok P Q f (Ok a) p = f a p
if_ok P Q f (Err e) p = tt

pub if_both : {A E : Type 0} (P Q : A → Type 0) → (r : Result A E) → IfOk r P → IfOk r Q → IfOk r (λ a. P a × Q a)
if_both P Q (Ok a) p q = (p, q)
if_both P Q (Err e) p q = tt

-- ---- one file

lacks_earlier : (old new : Told) (name : List ℕ) → SameFiles old new → Lacks new name → Lacks old name
lacks_earlier None new name same lacks = tt
lacks_earlier (Some f) (Some g) name same lacks = sym (same name) ∙ lacks
lacks_earlier (Some f) None name same lacks = absurd same

rose_earlier : (old before now : ℕ) → old ≤ before → Rose before now → Rose old now
rose_earlier old before now le rose = omega arith

-- a file that is next gave no bytes
module _ (cnf proof name : List ℕ) (before now : FilesState) (report : Report)
    (next : IsNext cnf proof before.held name) where
  unread_said : (fault : FileFault) → (fault ≡ file.Absent → Lacks before.held name)
      → (fault ≡ file.Absent → Rose before.misses now.misses) → (fault ≡ file.Failed → Rose before.faults now.faults)
      → now.heard
      ≡ before.heard ++ (before_next cnf proof before.held name next ++ read_events name (Err fault))
      → IsUnreadReport fault name report → CertifiesFor cnf proof before now report
  unread_said file.Absent lacks missed failed heard u = (
    certifies.absent (record {
      name = name;
      next = next;
      lacks = lacks refl;
      counted = missed refl;
      status_is = ap (λ (r : Report). r.status) u;
      report_is = ap (λ (r : Report). r.deliveries) u;
    }),
    heard,
  )
  unread_said file.Failed lacks missed failed heard u = (
    certifies.unread (record {
      name = name;
      next = next;
      counted = failed refl;
      status_is = ap (λ (r : Report). r.status) u;
      report_is = ap (λ (r : Report). r.deliveries) u;
    }),
    heard,
  )
  unread_said file.Memory lacks missed failed heard u = absurd u

pub first_unread : (fault : FileFault) (cnf proof : List ℕ) (before now : FilesState) (report : Report)
    → (fault ≡ file.Absent → Lacks before.held cnf) → (fault ≡ file.Absent → Rose before.misses now.misses)
    → (fault ≡ file.Failed → Rose before.faults now.faults)
    → now.heard ≡ before.heard ++ read_events cnf (Err fault) → IsUnreadReport fault cnf report
    → CertifiesFor cnf proof before now report
first_unread fault cnf proof before now report lacks missed failed heard u =
    unread_said cnf proof cnf before now report (first refl) fault lacks missed failed heard u

-- the first file gave bytes, as it was before the second one was read
pub second_unread : (fault : FileFault) (cnf proof bytes : List ℕ) (before middle now : FilesState) (report : Report)
    → ReadGives before.held cnf bytes → SameFiles before.held middle.held → before.misses ≤ middle.misses
    → before.faults ≤ middle.faults → middle.heard ≡ before.heard ++ Gave cnf bytes ∷ []
    → (fault ≡ file.Absent → Lacks middle.held proof) → (fault ≡ file.Absent → Rose middle.misses now.misses)
    → (fault ≡ file.Failed → Rose middle.faults now.faults)
    → now.heard ≡ middle.heard ++ read_events proof (Err fault) → IsUnreadReport fault proof report
    → CertifiesFor cnf proof before now report
second_unread fault cnf proof bytes before middle now report gives same more_misses more_faults first_heard lacks missed
    failed heard u =
    unread_said cnf proof proof before now report (second bytes gives refl) fault
    (λ e. lacks_earlier before.held middle.held proof same (lacks e))
    (λ e. rose_earlier before.misses middle.misses now.misses more_misses (missed e))
    (λ e. rose_earlier before.faults middle.faults now.faults more_faults (failed e))
    (heard_both before.heard middle.heard now.heard (Gave cnf bytes ∷ []) (read_events proof (Err fault)) first_heard
    heard) u

-- the files were read in their order, as far as it went
pub unread_on : (name : List ℕ) (rest : List (List ℕ)) (fault : FileFault)
    → AreReadOn (name ∷ rest) (read_events name (Err fault))
unread_on name rest file.Absent = (refl, refl)
unread_on name rest file.Failed = (refl, refl)
unread_on name rest file.Memory = tt

pub first_on : (fault : FileFault) (cnf proof : List ℕ) (before now : List Event)
    → now ≡ before ++ read_events cnf (Err fault) → HeardMore before now (AreReadOn (cnf ∷ (proof ∷ [])))
first_on fault cnf proof before now heard =
    record { events = read_events cnf (Err fault); behind = heard; are = unread_on cnf (proof ∷ []) fault }

pub second_on : (fault : FileFault) (cnf proof bytes : List ℕ) (before middle now : List Event)
    → middle ≡ before ++ Gave cnf bytes ∷ [] → now ≡ middle ++ read_events proof (Err fault)
    → HeardMore before now (AreReadOn (cnf ∷ (proof ∷ [])))
second_on fault cnf proof bytes before middle now first_heard heard = record {
  events = Gave cnf bytes ∷ read_events proof (Err fault);
  behind = heard_both before middle now (Gave cnf bytes ∷ []) (read_events proof (Err fault)) first_heard heard;
  are = (refl, unread_on proof [] fault);
}

pub both_on : (cnf proof clauses steps : List ℕ) (before middle now : List Event)
    → middle ≡ before ++ Gave cnf clauses ∷ [] → now ≡ middle ++ Gave proof steps ∷ []
    → HeardMore before now (AreReadOn (cnf ∷ (proof ∷ [])))
both_on cnf proof clauses steps before middle now first_heard heard = record {
  events = Gave cnf clauses ∷ (Gave proof steps ∷ []);
  behind = heard_both before middle now (Gave cnf clauses ∷ []) (Gave proof steps ∷ []) first_heard heard;
  are = (refl, (refl, tt));
}

gives_earlier : (old new : Told) (name bytes : List ℕ) → SameFiles old new → ReadGives new name bytes
    → ReadGives old name bytes
gives_earlier None new name bytes same gives = tt
gives_earlier (Some f) (Some g) name bytes same gives = sym (same name) ∙ gives
gives_earlier (Some f) None name bytes same gives = absurd same

-- what is known of the texts as they were read is known of what they say
said_refuted : (clauses steps : List ℕ) (id : ℕ) → AreReadRefuted clauses steps id → AreRefuted clauses steps id
said_refuted clauses steps id r = record {
  formula = r.formula;
  says_formula = (formula_law clauses r.formula).0 r.formula_is;
  list = r.list;
  says_steps = (steps_law steps r.list).0 r.list_is;
  refutes = r.refutes;
  unsatisfiable = r.unsatisfiable;
}

said : (status : Status) (clauses steps : List ℕ) (report : List Delivery) → IsProved status clauses steps report
    → IsSaid status clauses steps report
said s.Passed clauses steps report p = (p.0, said_refuted clauses steps p.0 p.1, p.2)
said status clauses steps report p = tt

-- both gave bytes, and these were certified
pub both_read : (cnf proof clauses steps first_bytes second_bytes : List ℕ) (before middle now : FilesState)
    (report : Report) → ReadGives before.held cnf clauses → SameFiles before.held middle.held
    → ReadGives middle.held proof steps → middle.heard ≡ before.heard ++ Gave cnf clauses ∷ []
    → now.heard ≡ middle.heard ++ Gave proof steps ∷ [] → first_bytes ≡ clauses → second_bytes ≡ steps
    → (report ≡ outcome first_bytes second_bytes)
    × IsProved report.status first_bytes second_bytes report.deliveries → CertifiesFor cnf proof before now report
both_read cnf proof clauses steps first_bytes second_bytes before middle now report gives same also first_heard heard
    one two p = (
      certifies.judged (record {
        clauses = first_bytes;
        gives_clauses = subst (λ bytes. ReadGives before.held cnf bytes) (sym one) gives;
        steps = second_bytes;
        gives_steps = subst (λ bytes. ReadGives before.held proof bytes) (sym two)
            (gives_earlier before.held middle.held proof steps same also);
        found = sym p.0;
        proved = said report.status first_bytes second_bytes report.deliveries p.1;
      }),
      heard_both before.heard middle.heard now.heard (Gave cnf clauses ∷ []) (Gave proof steps ∷ []) first_heard heard
          ∙ ap (λ bytes. before.heard ++ Gave cnf bytes ∷ (Gave proof steps ∷ [])) (sym one)
          ∙ ap (λ bytes. before.heard ++ Gave cnf first_bytes ∷ (Gave proof bytes ∷ [])) (sym two),
    )

-- ---- the outcomes of certificates stand for causes of their own

own_judgement : (r : Result Refuted StepFault) → IsOwn (judgement r).status
own_judgement (Ok refuted) = tt
own_judgement (Err fault) = tt

own_proof : (clauses : _) (r : Result (List Step) LratFault) → IsOwn (proof_report clauses r).status
own_proof clauses (Ok steps) = own_judgement (judged clauses steps)
own_proof clauses (Err fault) = tt

own_formula : (r : Result Cnf DimacsFault) (proof : List ℕ) → IsOwn (formula_report r proof).status
own_formula (Ok formula) proof = own_proof formula.clauses (steps_of proof)
own_formula (Err fault) proof = tt

pub own_certified : (cnf proof : List ℕ) (seen : Seen) (status : Status) (report : List Delivery)
    → Certifies cnf proof seen status report → IsOwn status
own_certified cnf proof seen status report (certifies.judged x) =
    subst IsOwn (ap (λ (r : Report). r.status) x.found) (own_formula (formula_of x.clauses) x.steps)
own_certified cnf proof seen status report (certifies.absent x) = subst IsOwn (sym x.status_is) tt
own_certified cnf proof seen status report (certifies.unread x) = subst IsOwn (sym x.status_is) tt

-- ---- configurations

pub own_refusal : (f : Refusal) → is_memory f ≡ false → IsOwn (refused_status f)
own_refusal (refusal.Absent name) e = tt
own_refusal (refusal.Unread name) e = tt
own_refusal (refusal.Config f) e = tt
own_refusal (refusal.NoCheck name) e = tt
own_refusal (refusal.Source f names) e = tt
own_refusal (refusal.Heavy name number) e = tt
own_refusal refusal.Memory e = true_false e

pub listed_said : (cfg : List ℕ) (before now : FilesState) (c : Config) (report : Report)
    → HeardMore before.heard now.heard (λ events. Configures cfg (seen_between before now) events (Ok c))
    → (report.status ≡ s.Passed) × (report.deliveries ≡ map name_line (checks_of c)) → ListsFor cfg before now report
listed_said cfg before now c report h p = (
  lists.listed (record {
    config = c;
    configured = record { bytes = h.are.bytes; gives = h.are.gives; config_is = h.are.says; there = tt };
    status_is = p.0;
    report_is = p.1;
  }),
  h.behind ∙ ap (λ l. before.heard ++ l) h.are.events_are,
)

listed_cause : (cfg : List ℕ) (seen : Seen) (events : List Event) (f : Refusal) → Configures cfg seen events (Err f)
    → is_memory f ≡ false → (cause : lists.IsCause cfg seen f) × (events ≡ lists.cause_reads cfg seen f cause)
listed_cause cfg seen events (refusal.Absent name) x e =
    ((x.0, subst (λ n. Lacks seen.held n) (sym x.0) x.1.lacks, x.1.counted), x.2 ∙ ap (λ n. Lacked n ∷ []) (sym x.0))
listed_cause cfg seen events (refusal.Unread name) x e = ((x.0, x.1), x.2 ∙ ap (λ n. Failed n ∷ []) (sym x.0))
listed_cause cfg seen events (refusal.Config f) x e =
    (record { bytes = x.bytes; gives = x.gives; refused = x.says }, x.events_are)
listed_cause cfg seen events (refusal.NoCheck name) x e = absurd x
listed_cause cfg seen events (refusal.Source f names) x e = absurd x
listed_cause cfg seen events (refusal.Heavy name number) x e = absurd x
listed_cause cfg seen events refusal.Memory x e = absurd (true_false e)

pub refused_said : (cfg : List ℕ) (before now : FilesState) (f : Refusal) (report : Report)
    → HeardMore before.heard now.heard (λ events. Configures cfg (seen_between before now) events (Err f))
    → (report ≡ one_line (refused_status f) (refusal_line f)) × (is_memory f ≡ false) → ListsFor cfg before now report
refused_said cfg before now f report h p =
    let x = listed_cause cfg (seen_between before now) h.events f h.are p.1 in (
      lists.refused (record {
        refusal = f;
        cause = x.0;
        status_is = ap (λ (r : Report). r.status) p.0;
        report_is = ap (λ (r : Report). r.deliveries) p.0;
      }),
      h.behind ∙ ap (λ l. before.heard ++ l) x.1,
    )

-- the file was read, as far as it went
pub config_on : (result : Result Config Refusal) (cfg : List ℕ) (seen : Seen) (events : List Event)
    → Configures cfg seen events result → AreReadOn (cfg ∷ []) events
config_on (Ok c) cfg seen events x = subst (AreReadOn (cfg ∷ [])) (sym x.events_are) (refl, tt)
config_on (Err (refusal.Absent name)) cfg seen events x = subst (AreReadOn (cfg ∷ [])) (sym x.2) (refl, refl)
config_on (Err (refusal.Unread name)) cfg seen events x = subst (AreReadOn (cfg ∷ [])) (sym x.2) (refl, refl)
config_on (Err (refusal.Config f)) cfg seen events x = subst (AreReadOn (cfg ∷ [])) (sym x.events_are) (refl, tt)
config_on (Err (refusal.NoCheck name)) cfg seen events x = absurd x
config_on (Err (refusal.Source f names)) cfg seen events x = absurd x
config_on (Err (refusal.Heavy name number)) cfg seen events x = absurd x
config_on (Err refusal.Memory) cfg seen events x = x

-- a refusal of a list isn't want of memory
cause_some : (cfg : List ℕ) (seen : Seen) (f : Refusal) → lists.IsCause cfg seen f → is_memory f ≡ false
cause_some cfg seen (refusal.Absent name) x = refl
cause_some cfg seen (refusal.Unread name) x = refl
cause_some cfg seen (refusal.Config f) x = refl
cause_some cfg seen (refusal.NoCheck name) x = refl
cause_some cfg seen (refusal.Source f names) x = refl
cause_some cfg seen (refusal.Heavy name number) x = refl
cause_some cfg seen refusal.Memory x = absurd x

pub own_listed : (cfg : List ℕ) (seen : Seen) (status : Status) (report : List Delivery)
    → Lists cfg seen status report → IsOwn status
own_listed cfg seen status report (lists.listed x) = subst IsOwn (sym x.status_is) tt
own_listed cfg seen status report (lists.refused x) =
    subst IsOwn (sym x.status_is) (own_refusal x.refusal (cause_some cfg seen x.refusal x.cause))
