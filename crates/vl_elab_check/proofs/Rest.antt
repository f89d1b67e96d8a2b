-- Steps that are left, one behind the other.
use Rattle.std.specs.Prelude.{◌≡◌, refl, ℕ, ◌==◌, List, [], ◌∷◌, ◌++◌, length, Bool, true, false, is_some}
use Rattle.std.specs.Prelude.{Option, Some, None, option_to_list}
use Rattle.std.proofs.Common.{ap, sym, ◌∙◌, subst, arith}
use Rattle.std.proofs.lemmas.Bool.Decides.{nat_tests}
use Rattle.std.proofs.lemmas.List.{append_assoc, nil_from_length}
use Rattle.vl_tree.specs.declared.declaration.FullPort.{FullPort}
use Rattle.vl_tree.specs.declared.declaration.Port.{Port}
use Rattle.vl_tree.specs.declared.declaration.PortKind.{PortKind}
use Rattle.vl_tree.specs.declared.declaration.PortKind.TheVariants as port
use Rattle.vl_tree.specs.declared.source.Module.{Module}
use Rattle.vl_tree.specs.Expr.{Expr}
use Rattle.vl_mean.specs.Declarations.{full_port, full_ports}
use Rattle.vl_mean.specs.Walk.{Place, Use, Step, optional_name, port_names, port_step, port_steps, with_earlier}
use Rattle.vl_elab_spec.specs.declared.elab_fault.ElabFault.{ElabFault}
use Rattle.vl_elab_spec.specs.Refused.{Totals, all_counted, counted, first_refused, lower_of, or_later}
use Rattle.vl_elab_spec.proofs.LowestFirst.{first_append}
use Rattle.vl_elab_spec.specs.declared.totals.Totals as kept
use Rattle.vl_elab_spec.specs.Walked.{AreTotals, AreWalked}
use Rattle.vl_elab_decls.specs.Clocks.{port_text}
use Rattle.vl_elab_check_scope.specs.Short.{renamed}
use Rattle.vl_elab_check.specs.Left.{AreLeft}
use Rattle.vl_elab_check.specs.Ports.{next_full, port_value}

counted_append : (t : Totals) (xs ys : List Step) → all_counted t (xs ++ ys) ≡ all_counted (all_counted t xs) ys
counted_append t [] ys = refl
counted_append t (x ∷ xs) ys = counted_append (counted t x) xs ys

-- ---- whether something was found

pub found_none : (g : Option ElabFault) (b : Bool) → b ≡ is_some g → b ≡ false → g ≡ None
found_none None b h k = refl
found_none (Some g) b h k = cc

pub none_found : (g : Option ElabFault) (b : Bool) → b ≡ is_some g → b ≡ true → g ≡ None → ⊥
none_found None b h k e = cc
none_found (Some g) b h k e = cc

-- a refusal beside none
pub lower_alone : (g : Option ElabFault) → g ≡ lower_of g None
lower_alone None = refl
lower_alone (Some g) = refl

module _ (ms : List Module) (t : Totals) (all : List Step) where
  pub left_start : (old : kept.Totals) → AreTotals old t → AreLeft ms t all old all
  left_start old h = record { now = t; known = h; fault = refl; totals = refl }

  -- some more that aren't refused
  pub left_on : (old new : kept.Totals) (xs rest : List Step) (g : Option ElabFault)
      → (h : AreLeft ms t all old (xs ++ rest)) → AreWalked ms h.now new xs g → g ≡ None → AreLeft ms t all new rest
  left_on old new xs rest g h w e = record {
    now = all_counted h.now xs;
    known = w.totals e;
    fault =
        h.fault ∙ first_append ms h.now xs rest
        ∙ ap (λ o. or_later o (first_refused ms (all_counted h.now xs) rest)) (sym w.fault ∙ e);
    totals = h.totals ∙ counted_append h.now xs rest;
  }

  later_some : (g h : Option ElabFault) → is_some g ≡ true → or_later g h ≡ g
  later_some None h e = cc
  later_some (Some g) h e = refl

  -- some more of which one is
  pub left_stop : (old new : kept.Totals) (xs rest : List Step) (g : Option ElabFault)
      → (h : AreLeft ms t all old (xs ++ rest)) → AreWalked ms h.now new xs g → is_some g ≡ true
      → AreWalked ms t new all g
  left_stop old new xs rest g h w e = record {
    fault =
        w.fault
        ∙ sym (h.fault ∙ first_append ms h.now xs rest
        ∙ later_some (first_refused ms h.now xs) (first_refused ms (all_counted h.now xs) rest)
        (ap is_some (sym w.fault) ∙ e));
    totals = λ k. absurd (none_found g true (sym e) refl k);
  }

  pub left_end : (old : kept.Totals) (rest : List Step) → rest ≡ [] → AreLeft ms t all old rest
      → AreWalked ms t old all None
  left_end old rest e h = record {
    fault = sym (h.fault ∙ ap (first_refused ms h.now) e);
    totals = λ k. subst (AreTotals old) (sym (h.totals ∙ ap (all_counted h.now) e)) h.known;
  }

-- of none at all nothing is left
pub none_at_all : {A : Type 0} (ms : List Module) (t : Totals) (steps : List A → List Step) (xs : List A) (b : Bool)
    (old : kept.Totals) → b ≡ (length xs == 0) → b ≡ true → steps [] ≡ [] → AreTotals old t
    → AreWalked ms t old (steps xs) None
none_at_all ms t steps xs b old e h none known =
    let gone : xs ≡ [] = nil_from_length xs (let z : (length xs == 0) ≡ true = sym e ∙ h in grind (arith, nat_tests)) in
    left_end ms t (steps xs) old (steps xs) (ap steps gone ∙ none) (left_start ms t (steps xs) old known)

-- ---- ports

-- with all that a port takes from the full one before it
pub full_of : (last : Option FullPort) (kind : PortKind) (p : FullPort) → next_full last kind ≡ Some p
    → full_port last kind ≡ Some (renamed p (port_text kind) (port_value kind))
full_of last (port.Full q) p e = ap (λ o. by o) e
  where
    by : Option FullPort → Option FullPort
    by None = None
    by (Some p) = Some (renamed p q.name q.value)
full_of None (port.Short text value) p e = cc
full_of (Some q) (port.Short text value) p e = ap (λ o. by o) e
  where
    by : Option FullPort → Option FullPort
    by None = None
    by (Some p) = Some (renamed p text value)

pub none_of : (last : Option FullPort) (kind : PortKind) → next_full last kind ≡ None → full_port last kind ≡ None
none_of last (port.Full q) e = cc
none_of None (port.Short text value) e = refl
none_of (Some q) (port.Short text value) e = cc

-- what stands behind a port depends on the full one before it alone
same_port : (last : Option FullPort) (kind next : PortKind)
    → full_port (full_port last kind) next ≡ full_port (next_full last kind) next
same_port last (port.Full q) next = refl
same_port None (port.Short text value) next = refl
same_port (Some q) (port.Short text value) (port.Full p) = refl
same_port (Some q) (port.Short text value) (port.Short other given) = refl

pub same_steps : (at : Place) (u : Use) (last : Option FullPort) (kind : PortKind) (ps : List Port)
    → port_steps at u (full_port last kind) ps ≡ port_steps at u (next_full last kind) ps
same_steps at u last kind [] = refl
same_steps at u last kind (p ∷ ps) = ap (λ q. behind q) (same_port last kind p.kind)
  where
    behind : Option FullPort → List Step
    behind q = port_step at u p q ++ port_steps (with_earlier at (optional_name q)) u q ps

pub same_ports : (last : Option FullPort) (kind : PortKind) (ps : List Port)
    → full_ports (full_port last kind) ps ≡ full_ports (next_full last kind) ps
same_ports last kind [] = refl
same_ports last kind (p ∷ ps) = ap (λ q. option_to_list q ++ full_ports q ps) (same_port last kind p.kind)

-- names of a port and of those behind it
pub more_names : (q : Option FullPort) (ps : List FullPort)
    → port_names (option_to_list q ++ ps) ≡ optional_name q ++ port_names ps
more_names None ps = refl
more_names (Some q) ps = refl

pub full_is : (last : Option FullPort) (kind : PortKind) (p : FullPort) (text : List ℕ) (value : Option Expr)
    → next_full last kind ≡ Some p → text ≡ port_text kind → value ≡ port_value kind
    → full_port last kind ≡ Some (renamed p text value)
full_is last kind p text value e n v = full_of last kind p e ∙ (λ i. Some (renamed p (sym n i) (sym v i)))

-- ---- one port more

pub next_steps : (at : Place) (u : Use) (last : Option FullPort) (kind : PortKind) (full : Option FullPort)
    (ps : List Port) → full ≡ next_full last kind
    → port_steps at u (full_port last kind) ps ≡ port_steps at u full ps
next_steps at u last kind full ps e = same_steps at u last kind ps ∙ ap (λ q. port_steps at u q ps) (sym e)

pub next_names : (last : Option FullPort) (kind : PortKind) (full : Option FullPort) (names : List (List ℕ))
    (ps : List Port) → full ≡ next_full last kind
    → (names ++ optional_name (full_port last kind)) ++ port_names (full_ports full ps)
    ≡ names ++ port_names (option_to_list (full_port last kind) ++ full_ports (full_port last kind) ps)
next_names last kind full names ps e =
    append_assoc names (optional_name (full_port last kind)) (port_names (full_ports full ps))
    ∙ ap (λ l. names ++ l) (ap (λ qs. optional_name (full_port last kind) ++ port_names qs)
    (ap (λ q. full_ports q ps) e ∙ sym (same_ports last kind ps))
    ∙ sym (more_names (full_port last kind) (full_ports (full_port last kind) ps)))
