-- What is read for a refusal are the first files in the order of work.
use Rattle.std.proofs.Common.{◌≡◌, ℕ, List, [], ◌∷◌, ◌++◌, Err, refl, sym, subst}
use Rattle.fv_base.specs.Outside.{Told}
use Rattle.fv_base.specs.declared.event.Event.{Event}
use Rattle.fv_base.specs.declared.event.Event.TheVariants.{Lacked, Failed}
use Rattle.ck_cfg.specs.declared.config.Config.{Config}
use Rattle.ck_cfg.specs.declared.kind.CheckKind.{CheckKind}
use Rattle.rvf_load.specs.declared.fault.LoadFault.{LoadFault}
use Rattle.rvf_load.specs.declared.fault.LoadFault.TheVariants as load
use Rattle.rvf_case.specs.Cases.{Comes, IsCase, IsCause, IsNext, IsRefusedText, Request, Seen, configuration, names_in}
use Rattle.rvf_case.specs.Cases.{verilog}
use Rattle.rvf_case.specs.Hearing.{AreReadOn, Hears, IsReadOn, all_gave, before_next, before_refused, cause_reads, gave}
use Rattle.rvf_case.specs.declared.case.Case.{Case}
use Rattle.rvf_case.specs.declared.refusal.Refusal.{Refusal}
use Rattle.rvf_case.specs.declared.refusal.Refusal.TheVariants as refusal
use Rattle.rvf_case.proofs.Files.{all_read_on, more_first, read_on_behind}

module _ (r : Request) (held : Told) where
  lacked_on : (name : List ℕ) (next : IsNext r held name)
      → IsReadOn r (before_next r held name next ++ Lacked name ∷ [])
  lacked_on name (configuration is) = (is, refl)
  lacked_on name (verilog c configured before behind files order read) =
      more_first r c configured.bytes (gave before files ++ Lacked name ∷ []) configured.config_is
      (subst (λ ns. AreReadOn ns (gave before files ++ Lacked name ∷ [])) (sym order)
      (read_on_behind before (name ∷ behind) files (Lacked name ∷ []) held read (refl, refl)))

  failed_on : (name : List ℕ) (next : IsNext r held name)
      → IsReadOn r (before_next r held name next ++ Failed name ∷ [])
  failed_on name (configuration is) = (is, refl)
  failed_on name (verilog c configured before behind files order read) =
      more_first r c configured.bytes (gave before files ++ Failed name ∷ []) configured.config_is
      (subst (λ ns. AreReadOn ns (gave before files ++ Failed name ∷ [])) (sym order)
      (read_on_behind before (name ∷ behind) files (Failed name ∷ []) held read (refl, refl)))

  refused_on : (c : Config) (kind : CheckKind) (f : LoadFault) (h : IsRefusedText r held c kind f)
      → IsReadOn r (before_refused r held c kind f h)
  refused_on c kind f h =
      more_first r c h.configured.bytes (gave (names_in r c) h.files) h.configured.config_is
      (all_read_on (names_in r c) h.files held h.read)

-- and for a case all of them
pub case_on : (r : Request) (held : Told) (case : Case) (is : IsCase r held case)
    → IsReadOn r (all_gave r is.configured.bytes (names_in r case.config) is.files)
case_on r held case is =
    more_first r case.config is.configured.bytes (gave (names_in r case.config) is.files) is.configured.config_is
    (all_read_on (names_in r case.config) is.files held is.read)

source_on : (f : LoadFault) (r : Request) (seen : Seen) (names : List (List ℕ))
    (x : IsCause r seen (refusal.Source f names)) → IsReadOn r (cause_reads r seen (refusal.Source f names) x)
source_on (load.Text f) r seen names x = refused_on r seen.held x.config x.kind (load.Text f) x.refused
source_on (load.Elab f) r seen names x = refused_on r seen.held x.config x.kind (load.Elab f) x.refused
source_on (load.Flow f) r seen names x = refused_on r seen.held x.config x.kind (load.Flow f) x.refused
source_on (load.Heavy place number) r seen names x = absurd x
source_on (load.Port f) r seen names x = refused_on r seen.held x.config x.kind (load.Port f) x.refused
source_on load.Memory r seen names x = refused_on r seen.held x.config x.kind load.Memory x.refused

cause_on : (f : Refusal) (r : Request) (seen : Seen) (x : IsCause r seen f) → IsReadOn r (cause_reads r seen f x)
cause_on (refusal.Absent name) r seen x = lacked_on r seen.held name x.next
cause_on (refusal.Unread name) r seen x = failed_on r seen.held name x.next
cause_on (refusal.Config f) r seen x = (refl, tt)
cause_on (refusal.NoCheck name) r seen x = (refl, tt)
cause_on (refusal.Source f names) r seen x = source_on f r seen names x
cause_on (refusal.Heavy name number) r seen x =
    refused_on r seen.held x.config x.kind (load.Heavy x.place number) x.refused
cause_on refusal.Memory r seen x = absurd x

pub read_on : (f : Refusal) (r : Request) (seen : Seen) (came : Comes r seen (Err f)) (events : List Event)
    → Hears r seen (Err f) came events → IsReadOn r events
read_on refusal.Memory r seen came events h = h
read_on (refusal.Absent name) r seen came events h =
    subst (IsReadOn r) (sym h) (cause_on (refusal.Absent name) r seen came)
read_on (refusal.Unread name) r seen came events h =
    subst (IsReadOn r) (sym h) (cause_on (refusal.Unread name) r seen came)
read_on (refusal.Config f) r seen came events h =
    subst (IsReadOn r) (sym h) (cause_on (refusal.Config f) r seen came)
read_on (refusal.NoCheck name) r seen came events h =
    subst (IsReadOn r) (sym h) (cause_on (refusal.NoCheck name) r seen came)
read_on (refusal.Source f names) r seen came events h =
    subst (IsReadOn r) (sym h) (cause_on (refusal.Source f names) r seen came)
read_on (refusal.Heavy name number) r seen came events h =
    subst (IsReadOn r) (sym h) (cause_on (refusal.Heavy name number) r seen came)
