-- One name after another that is passed.
use Rattle.std.specs.Prelude.{◌≡◌, refl, ℕ, List, [], ◌∷◌, ◌++◌, Bool, true, false, ◌&&◌, ◌||◌, bytes_eq}
use Rattle.std.specs.Prelude.{if◌then◌else◌}
use Rattle.std.proofs.Common.{ap, sym, ◌∙◌, subst, append_assoc, append-nil}
use Rattle.std.proofs.lemmas.Slice.Eq.{bytes_eq-Decides}
use Rattle.vl_mean.specs.Cells.{contains_name}
use Rattle.vl_mean.specs.Scopes.{Scope}
use Rattle.vl_mean.specs.Walk.{Contents, Place}
use Rattle.vl_elab_spec.specs.Meanings.{Meaning, undeclared, constant, loop_variable, object, faulty, shapeless, later}
use Rattle.vl_elab_spec.specs.Meanings.{Names, is_undeclared, meaning_of, meaning_in, all_meanings, meanings_at}
use Rattle.vl_elab_spec.specs.Meanings.{reached, scope_meanings}
use Rattle.vl_elab_scope.specs.Seen.{IsNamed, AreNamed, with_name}
use Rattle.vl_elab_scope.specs.Alike.{Alike}
use Rattle.vl_elab_params.specs.Entered.{with_later}
use Rattle.vl_elab_params.proofs.LaterNames.{later_named}
use Rattle.vl_elab_params.proofs.Listed.{inner_or, inner_assoc, named_only, meaning_with, named_with}
use Rattle.vl_elab_params.specs.Passed.{parameter_meaning, with_passed, with_all_passed, all_pending}
use Rattle.vl_elab_params.specs.Reached.{AreReached, innermost_parameters, parameters_at}
use Rattle.vl_elab_params.proofs.Listing.{is_parameter, parameter_found}

-- ---- before the first step

without : (m : Meaning) → inner_or m undeclared ≡ m
without undeclared = refl
without (constant c selected) = refl
without loop_variable = refl
without (object d role scalar) = refl
without faulty = refl
without shapeless = refl
without later = refl

both_later : (b c : Bool) → inner_or (if b then later else undeclared) (if c then later else undeclared)
    ≡ (if b || c then later else undeclared)
both_later true c = refl
both_later false c = refl

-- with names that are later, behind others
later_mean : (ns : Names) (texts : List (List ℕ)) → AreNamed ns → (text : List ℕ)
    → meaning_of (with_later ns texts) text
    ≡ inner_or (meaning_of ns text) (if contains_name texts text then later else undeclared)
later_mean ns [] h text = sym (without (meaning_of ns text))
later_mean ns (x ∷ texts) h text =
    let rest = if contains_name texts text then later else undeclared in
    later_mean (with_name ns x later) texts (named_with ns x later h tt) text
    ∙ ap (λ m. inner_or m rest) (meaning_with ns x later h text)
    ∙ sym (inner_assoc (meaning_of ns text) (named_only x later text) rest)
    ∙ ap (inner_or (meaning_of ns text)) (both_later (bytes_eq text x) (contains_name texts text))

none_before : (p : Bool) (m : Meaning) → undeclared ≡ (if p && false then m else undeclared)
none_before true m = refl
none_before false m = refl

none_reached : (known : List Names) (parameters : List (List ℕ))
    → AreReached [] (all_pending parameters) known parameters []
none_reached known parameters = record {
  before_named = tt;
  behind_named = later_named [] parameters tt;
  before_mean = λ text. none_before (contains_name parameters text) (meaning_in known text);
  behind_mean = λ text. later_mean [] parameters tt text;
}

pub none_reached_at : (before behind : Names) (known : List Names) (parameters texts : List (List ℕ))
    → parameters ≡ texts → before ≡ [] → behind ≡ all_pending texts → AreReached before behind known parameters []
none_reached_at before behind known parameters texts e h k =
    subst (λ ns. AreReached ns behind known parameters []) (sym h)
    (subst (λ ns. AreReached [] ns known parameters []) (sym (k ∙ ap all_pending (sym e)))
    (none_reached known parameters))

-- ---- a name more

pub parameter_named : (text : List ℕ) (m : Meaning) → IsNamed (text, parameter_meaning m)
parameter_named text undeclared = tt
parameter_named text (constant c selected) = tt
parameter_named text loop_variable = tt
parameter_named text (object d role scalar) = tt
parameter_named text faulty = tt
parameter_named text shapeless = tt
parameter_named text later = tt

contains_last : (names : List (List ℕ)) (x text : List ℕ)
    → contains_name (names ++ x ∷ []) text ≡ (bytes_eq text x || contains_name names text)
contains_last [] x text = refl
contains_last (n ∷ names) x text =
    ap (λ b. bytes_eq text n || b) (contains_last names x text)
    ∙ swap (bytes_eq text n) (bytes_eq text x) (contains_name names text)
  where
    swap : (a b c : Bool) → (a || (b || c)) ≡ (b || (a || c))
    swap true true c = refl
    swap true false c = refl
    swap false true c = refl
    swap false false c = refl

-- a name that isn't pending is no parameter, and the others are
no_parameter : (p : Bool) (m : Meaning) → m ≡ (if p then later else undeclared) → is_undeclared m ≡ true → p ≡ false
no_parameter false m e h = refl
no_parameter true m e h = absurd (differ (sym h ∙ ap is_undeclared e))
  where
    differ : true ≡ false → ⊥
    differ e = cc

is_one : (p : Bool) (m : Meaning) → m ≡ (if p then later else undeclared) → is_undeclared m ≡ false → p ≡ true
is_one true m e h = refl
is_one false m e h = absurd (differ (sym h ∙ ap is_undeclared e))
  where
    differ : false ≡ true → ⊥
    differ e = cc

-- of a name by whether it is a parameter, stands before, and is the new one
kept_meaning : (p e t : Bool) (m : Meaning) → (t ≡ true → p ≡ false)
    → (if p && e then m else undeclared) ≡ (if p && (t || e) then m else undeclared)
kept_meaning false e t m h = refl
kept_meaning true e false m h = refl
kept_meaning true e true m h = absurd (differ (h refl))
  where
    differ : true ≡ false → ⊥
    differ e = cc

twice : (b : Bool) (m : Meaning) → (if b then m else m) ≡ m
twice true m = refl
twice false m = refl

added_meaning : (p e t : Bool) (m n : Meaning) → (t ≡ true → p ≡ true) → (t ≡ true → n ≡ m)
    → inner_or (if p && e then m else undeclared) (if t then n else undeclared)
    ≡ (if p && (t || e) then m else undeclared)
added_meaning p e false m n h k = without (if p && e then m else undeclared)
added_meaning false e true m n h k = absurd (differ (h refl))
  where
    differ : false ≡ true → ⊥
    differ e = cc
added_meaning true false true m n h k = k refl
added_meaning true true true m n h k = ap (inner_or m) (k refl) ∙ twice (is_undeclared m) m

module _ (before behind : Names) (names known : List Names) (parameters : List (List ℕ))
    (same : (text : List ℕ) → meaning_in names text ≡ meaning_in known text)
    (mean : (text : List ℕ) → contains_name parameters text ≡ true
    → parameter_meaning (meaning_in known text) ≡ meaning_in known text) where
  module _ (earlier : List (List ℕ)) (text : List ℕ) (r : AreReached before behind known parameters earlier) where
    abbrev new : Meaning
    new = parameter_meaning (meaning_in names text)

    next_named : AreNamed (with_passed behind names before text)
    next_named = by (is_undeclared (meaning_of behind text))
      where
        by : (b : Bool) → AreNamed (if b then before else with_name before text new)
        by true = r.before_named
        by false = named_with before text new r.before_named (parameter_named text (meaning_in names text))

    is_meaning : contains_name parameters text ≡ true → (other : List ℕ) → bytes_eq other text ≡ true
        → new ≡ meaning_in known other
    is_meaning p other e =
        ap parameter_meaning (same text) ∙ mean text p
        ∙ ap (meaning_in known) (sym ((bytes_eq-Decides other text).0 e))

    next_mean : (other : List ℕ) → meaning_of (with_passed behind names before text) other
        ≡ (if contains_name parameters other && contains_name (earlier ++ text ∷ []) other then meaning_in known other
        else undeclared)
    next_mean other =
        by (is_undeclared (meaning_of behind text)) refl
        ∙ ap (λ b. if contains_name parameters other && b then meaning_in known other else undeclared)
        (sym (contains_last earlier text other))
      where
        like : bytes_eq other text ≡ true → contains_name parameters other ≡ contains_name parameters text
        like e = ap (contains_name parameters) ((bytes_eq-Decides other text).0 e)

        by : (b : Bool) → is_undeclared (meaning_of behind text) ≡ b
            → meaning_of (if b then before else with_name before text new) other
            ≡ (if contains_name parameters other && (bytes_eq other text || contains_name earlier other)
            then meaning_in known other else undeclared)
        by true h =
            let p = no_parameter (contains_name parameters text) (meaning_of behind text) (r.behind_mean text) h in
            r.before_mean other
            ∙ kept_meaning (contains_name parameters other) (contains_name earlier other) (bytes_eq other text)
            (meaning_in known other) (λ e. like e ∙ p)
        by false h =
            let p = is_one (contains_name parameters text) (meaning_of behind text) (r.behind_mean text) h in
            meaning_with before text new r.before_named other
            ∙ ap (λ m. inner_or m (named_only text new other)) (r.before_mean other)
            ∙ added_meaning (contains_name parameters other) (contains_name earlier other) (bytes_eq other text)
            (meaning_in known other) new (λ e. like e ∙ p) (λ e. is_meaning p other e)

    next_reached : AreReached (with_passed behind names before text) behind known parameters (earlier ++ text ∷ [])
    next_reached = record {
      before_named = next_named;
      behind_named = r.behind_named;
      before_mean = next_mean;
      behind_mean = r.behind_mean;
    }

module _ (behind : Names) (names known : List Names) (parameters : List (List ℕ))
    (same : (text : List ℕ) → meaning_in names text ≡ meaning_in known text)
    (mean : (text : List ℕ) → contains_name parameters text ≡ true
    → parameter_meaning (meaning_in known text) ≡ meaning_in known text) where
  all_reached : (before : Names) (earlier texts : List (List ℕ)) → AreReached before behind known parameters earlier
      → AreReached (with_all_passed behind names before texts) behind known parameters (earlier ++ texts)
  all_reached before earlier [] r = subst (AreReached before behind known parameters) (sym (append-nil earlier)) r
  all_reached before earlier (text ∷ texts) r =
      subst (AreReached (with_all_passed behind names (with_passed behind names before text) texts) behind known
      parameters) (append_assoc earlier (text ∷ []) texts)
      (all_reached (with_passed behind names before text) (earlier ++ text ∷ []) texts
      (next_reached before behind names known parameters same mean earlier text r))

-- ---- at a place

is_its_meaning : (m around : Meaning) → is_parameter m ≡ true
    → parameter_meaning (inner_or m around) ≡ inner_or m around
is_its_meaning undeclared around h = cc
is_its_meaning (constant c selected) around h = refl
is_its_meaning loop_variable around h = cc
is_its_meaning (object d role scalar) around h = cc
is_its_meaning faulty around h = refl
is_its_meaning shapeless around h = cc
is_its_meaning later around h = cc

parameters_mean : (ss : List Scope) (cs : List Contents) (text : List ℕ)
    → contains_name (innermost_parameters ss cs) text ≡ true
    → parameter_meaning (meaning_in (all_meanings ss cs) text) ≡ meaning_in (all_meanings ss cs) text
parameters_mean [] [] text e = cc
parameters_mean [] (c ∷ cs) text e = cc
parameters_mean (s ∷ ss) [] text e = cc
parameters_mean (s ∷ ss) (c ∷ cs) text e =
    let outer = all_meanings ss cs in
    let before = reached cs c.earlier outer in
    is_its_meaning (meaning_of (scope_meanings s before outer c) text) (meaning_in outer text)
    (parameter_found s before outer c text e)

pub passed_reached : (before behind : Names) (names : List Names) (at : Place) (earlier texts : List (List ℕ))
    → Alike names (meanings_at at) → AreReached before behind (meanings_at at) (parameters_at at) earlier
    → AreReached (with_all_passed behind names before texts) behind (meanings_at at) (parameters_at at)
    (earlier ++ texts)
passed_reached before behind names at earlier texts h r =
    all_reached behind names (meanings_at at) (parameters_at at) h.meaning (parameters_mean at.scopes at.contents)
    before earlier texts r
