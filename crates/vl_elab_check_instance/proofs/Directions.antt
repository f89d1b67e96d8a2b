-- The directions of ports, one behind the other.
use Rattle.std.specs.Prelude.{◌≡◌, refl, ℕ, List, [], ◌∷◌, ◌++◌, Bool, true, false, bytes_eq, is_some, option_to_list}
use Rattle.std.specs.Prelude.{Option, Some, None, if◌then◌else◌}
use Rattle.std.specs.Option.{option_copied}
use Rattle.std.proofs.Common.{ap, sym, ◌∙◌, Bor}
use Rattle.std.proofs.lemmas.Slice.Eq.{bytes_eq-Decides}
use Rattle.vl_tree.specs.declared.declaration.Direction.{Direction}
use Rattle.vl_tree.specs.declared.declaration.FullPort.{FullPort}
use Rattle.vl_tree.specs.declared.declaration.Port.{Port}
use Rattle.vl_tree.specs.declared.declaration.PortKind.{PortKind}
use Rattle.vl_tree.specs.declared.declaration.PortKind.TheVariants as port
use Rattle.vl_size.proofs.Entries.{copied_some}
use Rattle.fv_text.proofs.Lookups.{bytes_eq-swap}
use Rattle.vl_mean.specs.Declarations.{full_port, full_ports, ports_of, port_named}
use Rattle.vl_mean.specs.Walk.{written_ports}
use Rattle.vl_elab_scope.specs.Texts.{or_else}
use Rattle.vl_elab_decls.specs.Clocks.{next_direction, port_text}
use Rattle.vl_elab_check_instance.specs.declared.ports.PortTable.{PortTable}
use Rattle.vl_elab_check_instance.specs.Ports.{direction_in, direction_of, named_value, direction_if, direction_behind}

or_none : (o : Option Direction) → or_else o None ≡ o
or_none None = refl
or_none (Some d) = refl

or_or : (a b c : Option Direction) → or_else (or_else a b) c ≡ or_else a (or_else b c)
or_or None b c = refl
or_or (Some d) b c = refl

-- ---- one more

some_kept : (o t : Option Direction) → is_some o ≡ true → o ≡ or_else o t
some_kept None t h = cc
some_kept (Some d) t h = refl

none_put : (o t : Option Direction) → is_some o ≡ false → t ≡ or_else o t
none_put None t h = refl
none_put (Some d) t h = cc

module _ (old : List ℕ → Option Direction) (name other : List ℕ) (d : Direction) where
  pub direction_kept : is_some (old name) ≡ true → old other ≡ or_else (old other) (named_value name d other)
  direction_kept h = by (bytes_eq name other) refl
    where
      by : (b : Bool) → bytes_eq name other ≡ b → old other ≡ or_else (old other) (if b then Some d else None)
      by true e =
          some_kept (old other) (Some d) (ap (λ t. is_some (old t)) (sym ((bytes_eq-Decides name other).0 e)) ∙ h)
      by false e = sym (or_none (old other))

  pub direction_put : (new : Option Direction) → is_some (old name) ≡ false
      → new ≡ (if bytes_eq name other then Some d else old other)
      → new ≡ or_else (old other) (named_value name d other)
  direction_put new h made = made ∙ by (bytes_eq name other) refl
    where
      by : (b : Bool) → bytes_eq name other ≡ b
          → (if b then Some d else old other) ≡ or_else (old other) (if b then Some d else None)
      by true e =
          none_put (old other) (Some d) (ap (λ t. is_some (old t)) (sym ((bytes_eq-Decides name other).0 e)) ∙ h)
      by false e = sym (or_none (old other))

pub said : (table : PortTable) (text key : List ℕ) (b t : Bool) (r : Option (Bor Direction)) → b ≡ is_some r → b ≡ t
    → option_copied r ≡ direction_in table text → text ≡ key → is_some (direction_in table key) ≡ t
said table text key b t r h k v n =
    ap (λ n. is_some (direction_in table n)) (sym n) ∙ ap is_some (sym v) ∙ sym (copied_some r) ∙ sym h ∙ k

-- a port that is none
pub none_more : (o : Option Direction) → o ≡ or_else o None
none_more o = sym (or_none o)

-- ---- the loop

pub ports_on : (old new : Option Direction) (last to : Option Direction) (p : Port) (front rest : List Port)
    (whole : Option Direction) (text other : List ℕ) → front ≡ p ∷ rest → to ≡ next_direction last p.kind
    → text ≡ port_text p.kind → new ≡ or_else old (direction_if to text other)
    → or_else old (direction_behind last front other) ≡ whole → or_else new (direction_behind to rest other) ≡ whole
ports_on old new last to p front rest whole text other e n t made h =
    ap (λ o. or_else o (direction_behind to rest other)) made
    ∙ or_or old (direction_if to text other) (direction_behind to rest other)
    ∙ (λ i. or_else old (or_else (direction_if (n i) (t i) other) (direction_behind (n i) rest other)))
    ∙ ap (λ l. or_else old (direction_behind last l other)) (sym e) ∙ h

pub ports_end : (made last : Option Direction) (front : List Port) (whole : Option Direction) (other : List ℕ)
    → front ≡ [] → or_else made (direction_behind last front other) ≡ whole → made ≡ whole
ports_end made last front whole other e h =
    sym (or_none made) ∙ ap (λ l. or_else made (direction_behind last l other)) (sym e) ∙ h

-- ---- the whole

module _ (text : List ℕ) where
  first_port : (p : FullPort) (rest : List FullPort) (more : Option Direction)
      → more ≡ direction_of (port_named rest text)
      → or_else (named_value p.name p.direction text) more ≡ direction_of (port_named (p ∷ rest) text)
  first_port p rest more h = by (bytes_eq p.name text) (bytes_eq text p.name) (bytes_eq-swap p.name text)
    where
      by : (a b : Bool) → a ≡ b → or_else (if a then Some p.direction else None) more
          ≡ direction_of (if b then Some p else port_named rest text)
      by true true k = refl
      by true false k = cc
      by false true k = cc
      by false false k = h

  pub directions_are : (ps : List Port) (last : Option FullPort)
      → direction_behind (direction_of last) ps text ≡ direction_of (port_named (full_ports last ps) text)
  directions_are [] last = refl
  directions_are (p ∷ ps) last = by last p.kind (λ last. directions_are ps last)
    where
      by : (last : Option FullPort) (kind : PortKind)
          → ((last : Option FullPort) → direction_behind (direction_of last) ps text
          ≡ direction_of (port_named (full_ports last ps) text))
          → or_else (direction_if (next_direction (direction_of last) kind) (port_text kind) text)
          (direction_behind (next_direction (direction_of last) kind) ps text)
          ≡ direction_of (port_named (option_to_list (full_port last kind) ++ full_ports (full_port last kind) ps) text)
      by last (port.Full p) f =
          first_port p (full_ports (Some p) ps) (direction_behind (Some p.direction) ps text) (f (Some p))
      by None (port.Short name value) f = f None
      by (Some q) (port.Short name value) f =
          let p : FullPort = record q { name = name; value = value } in
          first_port p (full_ports (Some p) ps) (direction_behind (Some q.direction) ps text) (f (Some p))

-- ---- ports of a module

pub ports_are : (o : Option (List Port)) → full_ports None (written_ports o) ≡ ports_of o
ports_are None = refl
ports_are (Some ps) = refl
