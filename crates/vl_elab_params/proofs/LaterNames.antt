-- The names of a scope before its parameters.
use Rattle.std.specs.Prelude.{◌≡◌, refl, ℕ, List, [], ◌∷◌, ◌++◌, Bool, true, false, ◌||◌, is_some}
use Rattle.std.specs.Prelude.{Option, Some, None, option_to_list}
use Rattle.std.proofs.Common.{ap, sym, ◌∙◌}
use Rattle.vl_tree.specs.declared.declaration.FullPort.{FullPort}
use Rattle.vl_tree.specs.declared.declaration.HeaderParameter.{HeaderParameter}
use Rattle.vl_tree.specs.declared.declaration.Port.{Port}
use Rattle.vl_tree.specs.declared.declaration.PortKind.{PortKind}
use Rattle.vl_tree.specs.declared.declaration.PortKind.TheVariants as port
use Rattle.vl_tree.specs.Item.{Item, items}
use Rattle.vl_mean.specs.Declarations.{Overrides, header_parameters, full_port, full_ports}
use Rattle.vl_mean.specs.Walk.{Contents, parameter_names, port_names}
use Rattle.vl_elab_spec.specs.Meanings.{Meaning, undeclared, constant, loop_variable, object, faulty, shapeless, later}
use Rattle.vl_elab_spec.specs.Meanings.{Names, meaning_of, all_later, items_names}
use Rattle.vl_elab_scope.specs.Seen.{AreNamed, with_name}
use Rattle.vl_elab_params.specs.Among.{contents}
use Rattle.vl_elab_params.specs.Entered.{with_later, all_are_later, port_text, is_full, port_texts, names_behind}
use Rattle.vl_elab_params.proofs.Listed.{inner_or, inner_assoc, named_only, meaning_with, named_with, meaning_one}

pub later_append : (ns : Names) (xs ys : List (List ℕ)) → with_later ns (xs ++ ys) ≡ with_later (with_later ns xs) ys
later_append ns [] ys = refl
later_append ns (x ∷ xs) ys = later_append (with_name ns x later) xs ys

pub later_three : (ns : Names) (xs ys zs : List (List ℕ))
    → with_later (with_later (with_later ns xs) ys) zs ≡ with_later ns (xs ++ ys ++ zs)
later_three ns xs ys zs =
    ap (λ l. with_later l zs) (sym (later_append ns xs ys)) ∙ sym (later_append ns (xs ++ ys) zs)

pub later_named : (ns : Names) (texts : List (List ℕ)) → AreNamed ns → AreNamed (with_later ns texts)
later_named ns [] h = h
later_named ns (text ∷ texts) h = later_named (with_name ns text later) texts (named_with ns text later h tt)

pub all_later_named : (texts : List (List ℕ)) → AreNamed (all_are_later texts)
all_later_named [] = tt
all_later_named (text ∷ texts) = (tt, all_later_named texts)

later_meaning : (ns : Names) (texts : List (List ℕ)) → AreNamed ns → (text : List ℕ)
    → meaning_of (with_later ns texts) text ≡ inner_or (meaning_of ns text) (meaning_of (all_are_later texts) text)
later_meaning ns [] h text = alone (meaning_of ns text)
  where
    alone : (m : Meaning) → m ≡ inner_or m undeclared
    alone undeclared = refl
    alone (constant c selected) = refl
    alone loop_variable = refl
    alone (object d role scalar) = refl
    alone faulty = refl
    alone shapeless = refl
    alone later = refl
later_meaning ns (x ∷ xs) h text =
    later_meaning (with_name ns x later) xs (named_with ns x later h tt) text
    ∙ ap (λ m. inner_or m (meaning_of (all_are_later xs) text)) (meaning_with ns x later h text)
    ∙ sym (inner_assoc (meaning_of ns text) (named_only x later text) (meaning_of (all_are_later xs) text))
    ∙ ap (inner_or (meaning_of ns text)) (meaning_one x later (all_are_later xs) refl text)

-- ---- ports

port_names_are : (last : Option FullPort) (b : Bool) → b ≡ is_some last → (ps : List Port)
    → port_texts b ps ≡ port_names (full_ports last ps)
port_names_are last b h [] = refl
port_names_are last b h (p ∷ ps) = by last b h p.kind (λ last b h. port_names_are last b h ps)
  where
    by : (last : Option FullPort) (b : Bool) → b ≡ is_some last → (kind : PortKind)
        → ((last : Option FullPort) (b : Bool) → b ≡ is_some last → port_texts b ps ≡ port_names (full_ports last ps))
        → port_text b kind ++ port_texts (b || is_full kind) ps
        ≡ port_names (option_to_list (full_port last kind) ++ full_ports (full_port last kind) ps)
    by last true h (port.Full q) f = ap (λ l. q.name ∷ l) (f (Some q) true refl)
    by last false h (port.Full q) f = ap (λ l. q.name ∷ l) (f (Some q) true refl)
    by None true h (port.Short text value) f = cc
    by None false h (port.Short text value) f = f None false refl
    by (Some q) true h (port.Short text value) f =
        ap (λ l. text ∷ l) (f (Some (record q { name = text; value = value })) true refl)
    by (Some q) false h (port.Short text value) f = cc

-- ---- all names

module _ (parameters : List HeaderParameter) (ports : List Port) (all : List Item) where
  abbrev texts : List (List ℕ)
  texts = parameter_names (header_parameters parameters) ++ port_texts false ports ++ items_names (items all)

  pub behind_named : AreNamed (names_behind parameters ports all)
  behind_named = later_named [] texts tt

pub all_named : (c : Contents) → AreNamed (all_later c)
all_named c = all_later_named (parameter_names c.parameters ++ port_names c.ports ++ items_names c.items)

module _ (os : Overrides) (parameters : List HeaderParameter) (ports : List Port) (all : List Item) where
  same_texts : all_are_later (texts parameters ports all) ≡ all_later (contents os parameters ports all)
  same_texts =
      ap (λ l. all_are_later (parameter_names (header_parameters parameters) ++ l ++ items_names (items all)))
      (port_names_are None false refl ports)

  pub behind_meaning : (text : List ℕ) → meaning_of (names_behind parameters ports all) text
      ≡ meaning_of (all_later (contents os parameters ports all)) text
  behind_meaning text =
      later_meaning [] (texts parameters ports all) tt text ∙ ap (λ ns. meaning_of ns text) same_texts
