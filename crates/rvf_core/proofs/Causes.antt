-- Where files are told, what they give is one, and what was read and isn't refused has no cause against it.
use Rattle.std.proofs.Common.{◌≡◌, ℕ, true, false, List, [], ◌∷◌, ◌++◌, Option, Some, None, Result, Ok}
use Rattle.std.proofs.Common.{Err, refl, sym, ap, ◌∙◌, subst, arith}
use Rattle.std.proofs.lemmas.Bool.Decides.{nat_tests}
use Rattle.std.specs.List.{AllByRecursion}
use Rattle.fv_base.specs.Outside.{Names, Rose}
use Rattle.ck_cfg.specs.declared.config.Config.{Config}
use Rattle.ck_cfg.specs.declared.fault.CfgFault.{CfgFault}
use Rattle.ck_cfg.specs.declared.kind.CheckKind.{CheckKind}
use Rattle.ck_cfg.specs.Reading.{config_of}
use Rattle.rvf_case.specs.Loads.{NoneRefuses}
use Rattle.rvf_case.specs.Loading.{LoadFault}
use Rattle.rvf_case.specs.Loading.load as load
use Rattle.rvf_case.specs.Cases.{AreRead, AreUnrefused, IsCause, IsConfigured, IsNext, IsRefusedText, Request, Seen}
use Rattle.rvf_case.specs.Cases.{configuration, names_in, questions_in, verilog}
use Rattle.rvf_case.specs.Texts.{asked_for, leaders}
use Rattle.rvf_case.specs.declared.refusal.Refusal.{Refusal}
use Rattle.rvf_case.specs.declared.refusal.Refusal.TheVariants as refusal
use Rattle.rvf_case.specs.Askings.{Asking, IsThere, has_check}
use Rattle.rvf_core.specs.Checks.{HasRead}
use Rattle.rvf_core.specs.Run.{rose}
use Rattle.rvf_core.proofs.Apart.{true_false}

pub unrisen : (before now : ℕ) → rose before now ≡ false → Rose before now → ⊥
unrisen before now not_rose is_risen = grind (arith, nat_tests)

pub same_some : {A : Type 0} (found : Option A) (a b : A) → found ≡ Some a → found ≡ Some b → a ≡ b
same_some found a b p q = cc

pub not_both : {A : Type 0} (found : Option A) (a : A) → found ≡ Some a → found ≡ None → ⊥
not_both found a p q = cc

pub ok_err : (c : Config) (f : CfgFault) → ◌≡◌ {A = Result Config CfgFault} (Ok c) (Err f) → ⊥
ok_err c f e = cc

same_ok : (c d : Config) → ◌≡◌ {A = Result Config CfgFault} (Ok c) (Ok d) → c ≡ d
same_ok c d e = cc

pub same_says : (found : Option (List ℕ)) (a b : List ℕ) (x y : Result Config CfgFault) → found ≡ Some a
    → found ≡ Some b → config_of a ≡ x → config_of b ≡ y → x ≡ y
same_says found a b x y p q is also = sym is ∙ ap config_of (same_some found a b p q) ∙ also

module _ (q : Request) (names : Names) where
  same_config : (c d : Config) → IsConfigured q (Some names) c → IsConfigured q (Some names) d → c ≡ d
  same_config c d x y =
      same_ok c d (same_says (names q.cfg) x.bytes y.bytes (Ok c) (Ok d) x.gives y.gives x.config_is y.config_is)

  same_files : (ns fs gs : List (List ℕ)) → AreRead (Some names) ns fs → AreRead (Some names) ns gs → fs ≡ gs
  same_files [] [] [] x y = refl
  same_files [] [] (g ∷ gs) x y = absurd y
  same_files [] (f ∷ fs) gs x y = absurd x
  same_files (n ∷ ns) [] gs x y = absurd x
  same_files (n ∷ ns) (f ∷ fs) [] x y = absurd y
  same_files (n ∷ ns) (f ∷ fs) (g ∷ gs) x y =
      ap (λ h. h ∷ fs) (same_some (names n) f g x.0 y.0) ∙ ap (λ l. g ∷ l) (same_files ns fs gs x.1 y.1)

  -- what holds of what was read holds of what is read
  pub moved : (P : Config → List (List ℕ) → Type 0) (c d : Config) (fs gs : List (List ℕ))
      → HasRead q (Some names) c fs → HasRead q (Some names) d gs → P d gs → P c fs
  moved P c d fs gs x y p =
      let same : d ≡ c = same_config d c y.configured x.configured in
      subst (λ l. P c l)
      (same_files (names_in q c) gs fs (subst (λ k. AreRead (Some names) (names_in q k) gs) same y.read) x.read)
      (subst (λ k. P k gs) same p)

  read_among : (before : List (List ℕ)) (name : List ℕ) (behind fs : List (List ℕ))
      → AreRead (Some names) (before ++ name ∷ behind) fs → (bytes : List ℕ) × (names name ≡ Some bytes)
  read_among [] name behind [] x = absurd x
  read_among [] name behind (f ∷ fs) x = (f, x.0)
  read_among (n ∷ before) name behind [] x = absurd x
  read_among (n ∷ before) name behind (f ∷ fs) x = read_among before name behind fs x.1

  next_read : (c : Config) (fs : List (List ℕ)) (name : List ℕ) → HasRead q (Some names) c fs
      → IsNext q (Some names) name → (bytes : List ℕ) × (names name ≡ Some bytes)
  next_read c fs name x (configuration e) = (x.configured.bytes, ap names e ∙ x.configured.gives)
  next_read c fs name x (verilog d configured before behind some order read) =
      let same : d ≡ c = same_config d c configured x.configured in
      read_among before name behind fs
      (subst (λ ns. AreRead (Some names) ns fs) (subst (λ k. names_in q k ≡ before ++ name ∷ behind) same order)
      x.read)

  among : {A : Type 0} (P : A → Type 0) (before : List A) (x : A) (behind : List A)
      → AllByRecursion P (before ++ x ∷ behind) → P x
  among P [] x behind each = each.0
  among P (y ∷ before) x behind each = among P before x behind each.1

  text_unrefused : (c d : Config) (fs : List (List ℕ)) (kind : CheckKind) (f : LoadFault)
      → HasRead q (Some names) c fs → AreUnrefused c fs (questions_in q c) (leaders c (questions_in q c))
      → IsRefusedText q (Some names) d kind f → ⊥
  text_unrefused c d fs kind f x unrefused refused =
      let there : AreUnrefused d refused.files (questions_in q d) (leaders d (questions_in q d)) =
      moved (λ e gs. AreUnrefused e gs (questions_in q e) (leaders e (questions_in q e))) d c refused.files fs
      (record { configured = refused.configured; read = refused.read }) x unrefused in
      among (λ k. NoneRefuses (asked_for d refused.files (questions_in q d) k)) refused.before kind refused.behind
      (subst (λ ks. AllByRecursion (λ k. NoneRefuses (asked_for d refused.files (questions_in q d) k)) ks)
      refused.order there) f
      refused.refused

  module _ (misses misses_now faults faults_now : ℕ) where
    abbrev seen : Seen
    seen = record {
      held = Some names;
      misses = misses;
      misses_now = misses_now;
      faults = faults;
      faults_now = faults_now;
    }

    pub uncaused : (c : Config) (fs : List (List ℕ)) → rose faults faults_now ≡ false → HasRead q (Some names) c fs
        → AreUnrefused c fs (questions_in q c) (leaders c (questions_in q c)) → (f : Refusal) → IsCause q seen f → ⊥
    uncaused c fs no_fault x unrefused (refusal.Absent name) cause =
        let found : (bytes : List ℕ) × (names name ≡ Some bytes) = next_read c fs name x cause.next in
        not_both (names name) found.0 found.1 cause.lacks
    uncaused c fs no_fault x unrefused (refusal.Unread name) cause = unrisen faults faults_now no_fault cause.counted
    uncaused c fs no_fault x unrefused (refusal.Config f) cause =
        ok_err c f (same_says (names q.cfg) x.configured.bytes cause.bytes (Ok c) (Err f) x.configured.gives
        cause.gives x.configured.config_is cause.refused)
    uncaused c fs no_fault x unrefused (refusal.NoCheck name) cause =
        let same : c ≡ cause.config =
        same_ok c cause.config (same_says (names q.cfg) x.configured.bytes cause.bytes (Ok c) (Ok cause.config)
        x.configured.gives cause.gives x.configured.config_is cause.config_is) in
        let there : has_check name c ≡ true = subst (λ (a : Asking). IsThere a c) cause.asked x.configured.there in
        true_false (sym there ∙ ap (has_check name) same ∙ cause.none)
    uncaused c fs no_fault x unrefused (refusal.Source (load.Text f) ns) cause =
        text_unrefused c cause.config fs cause.kind (load.Text f) x unrefused
        cause.refused
    uncaused c fs no_fault x unrefused (refusal.Source (load.Elab f) ns) cause =
        text_unrefused c cause.config fs cause.kind (load.Elab f) x unrefused
        cause.refused
    uncaused c fs no_fault x unrefused (refusal.Source (load.Flow f) ns) cause =
        text_unrefused c cause.config fs cause.kind (load.Flow f) x unrefused
        cause.refused
    uncaused c fs no_fault x unrefused (refusal.Source (load.Heavy place number) ns) cause = cause
    uncaused c fs no_fault x unrefused (refusal.Source (load.Port f) ns) cause =
        text_unrefused c cause.config fs cause.kind (load.Port f) x unrefused
        cause.refused
    uncaused c fs no_fault x unrefused (refusal.Source load.Memory ns) cause =
        text_unrefused c cause.config fs cause.kind load.Memory x unrefused
        cause.refused
    uncaused c fs no_fault x unrefused (refusal.Heavy name number) cause =
        text_unrefused c cause.config fs cause.kind (load.Heavy cause.place number) x unrefused
        cause.refused
    uncaused c fs no_fault x unrefused refusal.Memory cause = cause
