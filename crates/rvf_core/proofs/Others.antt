-- Where files are told, causes under the words of a list, of a certificate or of a graph have one status.
use Rattle.std.proofs.Common.{◌≡◌, ℕ, false, List, Some, None, Ok, Err, refl, sym, ap, ◌∙◌, subst}
use Rattle.aiger_text.proofs.AnswerLaws.{refused_by}
use Rattle.aiger_text.specs.Profile.{HasCause, IsOfProfile}
use Rattle.aiger_text.specs.Said.{Said}
use Rattle.aiger_text.specs.declared.fault.AagFault.{AagFault}
use Rattle.fv_base.specs.Outside.{Names}
use Rattle.ck_cfg.specs.declared.config.Config.{Config}
use Rattle.rvf_words.specs.declared.line.Line.{Line as Words}
use Rattle.rvf_words.specs.declared.line.Line.TheVariants as words
use Rattle.rvf_case.specs.Cases.{IsConfigured, Seen}
use Rattle.rvf_case.specs.declared.refusal.Refusal.{Refusal}
use Rattle.rvf_case.specs.declared.refusal.Refusal.TheVariants as refusal
use Rattle.rvf_report.specs.declared.delivery.Delivery.{Delivery}
use Rattle.rvf_report.specs.declared.status.Status.{Status}
use Rattle.rvf_core.specs.Certificate.{outcome}
use Rattle.rvf_core.specs.Certifies.{Certifies, IsNext, first, second}
use Rattle.rvf_core.specs.Certifies as certifies
use Rattle.rvf_core.specs.Checks.{refused_status}
use Rattle.rvf_core.specs.Encodes.{Encodes, IsEncoding}
use Rattle.rvf_core.specs.Encodes as encodes
use Rattle.rvf_core.specs.Lists.{Lists, alone}
use Rattle.rvf_core.specs.Lists as lists
use Rattle.rvf_core.specs.Run.{IsOther, Run, Says, rose, seen_in}
use Rattle.rvf_core.specs.declared.report.Report.{Report}
use Rattle.rvf_core.proofs.Causes.{not_both, ok_err, same_says, same_some, unrisen}

-- a text that says a graph has no cause of a refusal
said_uncaused : (bytes : List ℕ) (said : Said) (fault : AagFault) → IsOfProfile bytes said → HasCause bytes fault → ⊥
said_uncaused bytes said fault is cause =
    refused_by {X = Unit {0}} (λ s u. Unit {0}) bytes fault (Ok tt) (said, is, tt) cause

same_encoding : (bytes cnf : List ℕ) (status wanted : Status) (report other : List Delivery)
    → IsEncoding bytes cnf status report → IsEncoding bytes cnf wanted other → status ≡ wanted
same_encoding bytes cnf status wanted report other (encodes.clauses said text is c e r)
    (encodes.clauses said_too text_too is_too c_too e_too r_too) = e ∙ sym e_too
same_encoding bytes cnf status wanted report other (encodes.clauses said text is c e r)
    (encodes.refused fault cause e_too r_too) = absurd (said_uncaused bytes said fault is cause)
same_encoding bytes cnf status wanted report other (encodes.refused fault cause e r)
    (encodes.clauses said text is c e_too r_too) = absurd (said_uncaused bytes said fault is cause)
same_encoding bytes cnf status wanted report other (encodes.refused fault cause e r)
    (encodes.refused fault_too cause_too e_too r_too) = e ∙ sym e_too

module _ (names : Names) (misses misses_now faults faults_now : ℕ) (no_fault : rose faults faults_now ≡ false) where
  abbrev told_seen : Seen
  told_seen = record {
    held = Some names;
    misses = misses;
    misses_now = misses_now;
    faults = faults;
    faults_now = faults_now;
  }

  -- ---- names of checks

  absent_says : (cfg name bytes : List ℕ) → name ≡ cfg → names name ≡ None → names cfg ≡ Some bytes → ⊥
  absent_says cfg name bytes is none gives = not_both (names cfg) bytes gives (ap names (sym is) ∙ none)

  listed_refused : (cfg : List ℕ) (c : Config) → IsConfigured (alone cfg) (Some names) c → (f : Refusal)
      → lists.IsCause cfg told_seen f → ⊥
  listed_refused cfg c x (refusal.Absent name) y = absent_says cfg name x.bytes y.0 y.1 x.gives
  listed_refused cfg c x (refusal.Unread name) y = unrisen faults faults_now no_fault y.1
  listed_refused cfg c x (refusal.Config f) y =
      ok_err c f (same_says (names cfg) x.bytes y.bytes (Ok c) (Err f) x.gives y.gives x.config_is y.refused)
  listed_refused cfg c x (refusal.NoCheck name) y = y
  listed_refused cfg c x (refusal.Source f ns) y = y
  listed_refused cfg c x (refusal.Heavy name number) y = y
  listed_refused cfg c x refusal.Memory y = y

  module _ (cfg : List ℕ) where
    same_refusals : (f g : Refusal) → lists.IsCause cfg told_seen f → lists.IsCause cfg told_seen g
        → refused_status f ≡ refused_status g
    same_refusals (refusal.Absent name) (refusal.Absent other_name) x y = refl
    same_refusals (refusal.Absent name) (refusal.Unread other_name) x y =
        absurd (unrisen faults faults_now no_fault y.1)
    same_refusals (refusal.Absent name) (refusal.Config other_f) x y =
        absurd (absent_says cfg name y.bytes x.0 x.1 y.gives)
    same_refusals (refusal.Absent name) (refusal.NoCheck other_name) x y = absurd y
    same_refusals (refusal.Absent name) (refusal.Source other_f other_names) x y = absurd y
    same_refusals (refusal.Absent name) (refusal.Heavy other_name other_number) x y = absurd y
    same_refusals (refusal.Absent name) refusal.Memory x y = absurd y
    same_refusals (refusal.Unread name) (refusal.Absent other_name) x y =
        absurd (unrisen faults faults_now no_fault x.1)
    same_refusals (refusal.Unread name) (refusal.Unread other_name) x y =
        absurd (unrisen faults faults_now no_fault x.1)
    same_refusals (refusal.Unread name) (refusal.Config other_f) x y = absurd (unrisen faults faults_now no_fault x.1)
    same_refusals (refusal.Unread name) (refusal.NoCheck other_name) x y = absurd (unrisen faults faults_now no_fault x.1)
    same_refusals (refusal.Unread name) (refusal.Source other_f other_names) x y =
        absurd (unrisen faults faults_now no_fault x.1)
    same_refusals (refusal.Unread name) (refusal.Heavy other_name other_number) x y =
        absurd (unrisen faults faults_now no_fault x.1)
    same_refusals (refusal.Unread name) refusal.Memory x y = absurd (unrisen faults faults_now no_fault x.1)
    same_refusals (refusal.Config f) (refusal.Absent other_name) x y =
        absurd (absent_says cfg other_name x.bytes y.0 y.1 x.gives)
    same_refusals (refusal.Config f) (refusal.Unread other_name) x y = absurd (unrisen faults faults_now no_fault y.1)
    same_refusals (refusal.Config f) (refusal.Config other_f) x y = refl
    same_refusals (refusal.Config f) (refusal.NoCheck other_name) x y = absurd y
    same_refusals (refusal.Config f) (refusal.Source other_f other_names) x y = absurd y
    same_refusals (refusal.Config f) (refusal.Heavy other_name other_number) x y = absurd y
    same_refusals (refusal.Config f) refusal.Memory x y = absurd y
    same_refusals (refusal.NoCheck name) (refusal.Absent other_name) x y = absurd x
    same_refusals (refusal.NoCheck name) (refusal.Unread other_name) x y = absurd x
    same_refusals (refusal.NoCheck name) (refusal.Config other_f) x y = absurd x
    same_refusals (refusal.NoCheck name) (refusal.NoCheck other_name) x y = absurd x
    same_refusals (refusal.NoCheck name) (refusal.Source other_f other_names) x y = absurd x
    same_refusals (refusal.NoCheck name) (refusal.Heavy other_name other_number) x y = absurd x
    same_refusals (refusal.NoCheck name) refusal.Memory x y = absurd x
    same_refusals (refusal.Source f names) (refusal.Absent other_name) x y = absurd x
    same_refusals (refusal.Source f names) (refusal.Unread other_name) x y = absurd x
    same_refusals (refusal.Source f names) (refusal.Config other_f) x y = absurd x
    same_refusals (refusal.Source f names) (refusal.NoCheck other_name) x y = absurd x
    same_refusals (refusal.Source f names) (refusal.Source other_f other_names) x y = absurd x
    same_refusals (refusal.Source f names) (refusal.Heavy other_name other_number) x y = absurd x
    same_refusals (refusal.Source f names) refusal.Memory x y = absurd x
    same_refusals (refusal.Heavy name number) (refusal.Absent other_name) x y = absurd x
    same_refusals (refusal.Heavy name number) (refusal.Unread other_name) x y = absurd x
    same_refusals (refusal.Heavy name number) (refusal.Config other_f) x y = absurd x
    same_refusals (refusal.Heavy name number) (refusal.NoCheck other_name) x y = absurd x
    same_refusals (refusal.Heavy name number) (refusal.Source other_f other_names) x y = absurd x
    same_refusals (refusal.Heavy name number) (refusal.Heavy other_name other_number) x y = absurd x
    same_refusals (refusal.Heavy name number) refusal.Memory x y = absurd x
    same_refusals refusal.Memory (refusal.Absent other_name) x y = absurd x
    same_refusals refusal.Memory (refusal.Unread other_name) x y = absurd x
    same_refusals refusal.Memory (refusal.Config other_f) x y = absurd x
    same_refusals refusal.Memory (refusal.NoCheck other_name) x y = absurd x
    same_refusals refusal.Memory (refusal.Source other_f other_names) x y = absurd x
    same_refusals refusal.Memory (refusal.Heavy other_name other_number) x y = absurd x
    same_refusals refusal.Memory refusal.Memory x y = absurd x

    same_lists : (status wanted : Status) (report other : List Delivery) → Lists cfg told_seen status report
        → Lists cfg told_seen wanted other → status ≡ wanted
    same_lists status wanted report other (lists.listed x) (lists.listed y) = x.status_is ∙ sym y.status_is
    same_lists status wanted report other (lists.listed x) (lists.refused y) =
        absurd (listed_refused cfg x.config x.configured y.refusal y.cause)
    same_lists status wanted report other (lists.refused x) (lists.listed y) =
        absurd (listed_refused cfg y.config y.configured x.refusal x.cause)
    same_lists status wanted report other (lists.refused x) (lists.refused y) =
        x.status_is ∙ same_refusals x.refusal y.refusal x.cause y.cause ∙ sym y.status_is

  -- ---- certificates

  -- both files are held, so none of them is absent
  next_held : (cnf proof clauses steps name : List ℕ) → names cnf ≡ Some clauses → names proof ≡ Some steps
      → IsNext cnf proof (Some names) name → names name ≡ None → ⊥
  next_held cnf proof clauses steps name p q (first e) none =
      not_both (names cnf) clauses p (ap names (sym e) ∙ none)
  next_held cnf proof clauses steps name p q (second some gives e) none =
      not_both (names proof) steps q (ap names (sym e) ∙ none)

  same_outcomes : (a b c d : List ℕ) (x y : Report) → a ≡ b → c ≡ d → outcome a c ≡ x → outcome b d ≡ y → x ≡ y
  same_outcomes a b c d x y p q e f =
      sym e ∙ ap (λ t. outcome t c) p ∙ ap (λ t. outcome b t) q ∙ f

  same_certificates : (cnf proof : List ℕ) (status wanted : Status) (report other : List Delivery)
      → Certifies cnf proof told_seen status report → Certifies cnf proof told_seen wanted other → status ≡ wanted
  same_certificates cnf proof status wanted report other (certifies.judged x) (certifies.judged y) =
      ap (λ (r : Report). r.status)
      (same_outcomes x.clauses y.clauses x.steps y.steps (record { status = status; deliveries = report })
      (record { status = wanted; deliveries = other })
      (same_some (names cnf) x.clauses y.clauses x.gives_clauses y.gives_clauses)
      (same_some (names proof) x.steps y.steps x.gives_steps y.gives_steps) x.found y.found)
  same_certificates cnf proof status wanted report other (certifies.judged x) (certifies.absent y) =
      absurd (next_held cnf proof x.clauses x.steps y.name x.gives_clauses x.gives_steps y.next y.lacks)
  same_certificates cnf proof status wanted report other (certifies.judged x) (certifies.unread y) =
      absurd (unrisen faults faults_now no_fault y.counted)
  same_certificates cnf proof status wanted report other (certifies.absent x) (certifies.judged y) =
      absurd (next_held cnf proof y.clauses y.steps x.name y.gives_clauses y.gives_steps x.next x.lacks)
  same_certificates cnf proof status wanted report other (certifies.absent x) (certifies.absent y) =
      x.status_is ∙ sym y.status_is
  same_certificates cnf proof status wanted report other (certifies.absent x) (certifies.unread y) =
      absurd (unrisen faults faults_now no_fault y.counted)
  same_certificates cnf proof status wanted report other (certifies.unread x) y =
      absurd (unrisen faults faults_now no_fault x.counted)

  -- ---- clauses of graphs

  same_encodings : (graph cnf : List ℕ) (status wanted : Status) (report other : List Delivery)
      → Encodes graph cnf told_seen status report → Encodes graph cnf told_seen wanted other → status ≡ wanted
  same_encodings graph cnf status wanted report other (encodes.read x) (encodes.read y) =
      same_encoding y.bytes cnf status wanted report other
      (subst (λ bytes. IsEncoding bytes cnf status report) (same_some (names graph) x.bytes y.bytes x.gives y.gives)
      x.encoding) y.encoding
  same_encodings graph cnf status wanted report other (encodes.read x) (encodes.absent y) =
      absurd (not_both (names graph) x.bytes x.gives y.lacks)
  same_encodings graph cnf status wanted report other (encodes.read x) (encodes.unread y) =
      absurd (unrisen faults faults_now no_fault y.counted)
  same_encodings graph cnf status wanted report other (encodes.absent x) (encodes.read y) =
      absurd (not_both (names graph) y.bytes y.gives x.lacks)
  same_encodings graph cnf status wanted report other (encodes.absent x) (encodes.absent y) =
      x.status_is ∙ sym y.status_is
  same_encodings graph cnf status wanted report other (encodes.absent x) (encodes.unread y) =
      absurd (unrisen faults faults_now no_fault y.counted)
  same_encodings graph cnf status wanted report other (encodes.unread x) y =
      absurd (unrisen faults faults_now no_fault x.counted)

  same_told : (asked : Words) → IsOther asked → (status wanted : Status) (report other : List Delivery)
      → Says (Some asked) told_seen status report → Says (Some asked) told_seen wanted other → status ≡ wanted
  same_told (words.Run cfg outdir core basedir budget jobs cubes) is status wanted report other x y = absurd is
  same_told (words.List cfg) is status wanted report other x y = same_lists cfg status wanted report other x y
  same_told (words.Lrat cnf proof) is status wanted report other x y =
      same_certificates cnf proof status wanted report other x y
  same_told (words.Bench size) is status wanted report other x y = absurd is
  same_told (words.Cover o) is status wanted report other x y = absurd is
  same_told (words.Zb o) is status wanted report other x y = absurd is
  same_told (words.Induct o steps) is status wanted report other x y = absurd is
  same_told (words.Toaig cfg check file core basedir) is status wanted report other x y = absurd is
  same_told (words.Fromaig aag cnf) is status wanted report other x y =
      same_encodings aag cnf status wanted report other x y

-- the same, of a run whose files are told
module _ (r : Run) (names : Names) (told : r.before.held ≡ Some names)
    (no_fault : rose r.before.faults r.now.faults ≡ false) where
  told_says : (asked : Words) (status : Status) (report : List Delivery) → Says (Some asked) (seen_in r) status report
      → Says (Some asked) (told_seen names r.before.misses r.now.misses r.before.faults r.now.faults no_fault) status
      report
  told_says asked status report x = subst (λ held. Says (Some asked) (record {
    held = held;
    misses = r.before.misses;
    misses_now = r.now.misses;
    faults = r.before.faults;
    faults_now = r.now.faults;
  }) status report) told x

  pub same_said : (asked : Words) → IsOther asked → (status wanted : Status) (report other : List Delivery)
      → Says (Some asked) (seen_in r) status report → Says (Some asked) (seen_in r) wanted other → status ≡ wanted
  same_said asked is status wanted report other x y =
      same_told names r.before.misses r.now.misses r.before.faults r.now.faults no_fault asked is status wanted report
      other (told_says asked status report x) (told_says asked wanted other y)
