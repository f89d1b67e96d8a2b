-- Names that aren't refused for standing twice.
use Rattle.std.specs.Prelude.{◌≡◌, refl, ℕ, List, [], ◌∷◌, ◌++◌, map, Bool, true, false}
use Rattle.std.specs.Prelude.{Option, Some, None, is_none, if◌then◌else◌, option_to_list}
use Rattle.std.proofs.Common.{ap, sym, ◌∙◌, true≢false, subst}
use Rattle.fv_text.specs.declared.pos.Pos.{Pos}
use Rattle.vl_tree.specs.declared.declaration.DeclaredName.{DeclaredName}
use Rattle.vl_tree.specs.declared.declaration.FullPort.{FullPort}
use Rattle.vl_tree.specs.declared.declaration.Parameter.{Parameter}
use Rattle.vl_tree.specs.declared.declaration.ParameterKind.{ParameterKind}
use Rattle.vl_tree.specs.declared.declaration.Port.{Port}
use Rattle.vl_tree.specs.declared.part.Instance.{Instance}
use Rattle.vl_tree.specs.declared.source.Module.{Module}
use Rattle.vl_tree.specs.Attributes.{Attributes}
use Rattle.vl_tree.specs.Item.{Item, Block, declaration, integer, genvar, parameter, assign, always, initial, instance}
use Rattle.vl_tree.specs.Item.{generate, for_loop, if_only, if_else, begin, region, single}
use Rattle.vl_mean.specs.Cells.{contains_name}
use Rattle.vl_mean.specs.Declarations.{names_of, labels_of, is_if}
use Rattle.vl_mean.specs.Declarations.{block_labels as labels_of_block, full_port, full_ports}
use Rattle.vl_mean.specs.Runs.{Each}
use Rattle.vl_mean.specs.Walk.{Place, Use, Step, item, with_earlier, port_step, port_steps, port_names}
use Rattle.vl_mean.specs.Walk.{optional_name, module_named}
use Rattle.vl_elab_spec.specs.declared.elab_fault.ElabFault.{ElabFault}
use Rattle.vl_elab_spec.specs.declared.elab_fault.ElabFault.TheVariants as f
use Rattle.vl_elab_spec.specs.Expressions.{refused_if}
use Rattle.vl_elab_spec.specs.Items.{twice, labels_twice, optional_label, placed_labels, block_labels, placed_names}
use Rattle.vl_elab_spec.specs.Items.{parameters_refusals, step_refusals}
use Rattle.vl_mean_flat.proofs.EachOf.{each_map, front, back}
use Rattle.vl_elab_accepted_laws.proofs.Contained.{Lacks, Different, clash, has-first, has-back, lacks-front}
use Rattle.vl_elab_accepted_laws.proofs.Contained.{lacks-each}
use Rattle.vl_elab_accepted_laws.proofs.Declared.{name_list}

-- ---- no refusals

abbrev pub NoneOf : List ElabFault → Type 0
NoneOf gs = gs ≡ []

is_some_fault : List ElabFault → Bool
is_some_fault [] = false
is_some_fault (g ∷ gs) = true

pub some-fault : (g : ElabFault) (gs : List ElabFault) → NoneOf (g ∷ gs) → ⊥
unfolding is_some_fault
some-fault g gs h = true≢false (ap is_some_fault h)

pub none-front : (gs hs : List ElabFault) → NoneOf (gs ++ hs) → NoneOf gs
none-front [] hs h = refl
none-front (g ∷ gs) hs h = absurd (some-fault g (gs ++ hs) h)

pub none-back : (gs hs : List ElabFault) → NoneOf (gs ++ hs) → NoneOf hs
none-back [] hs h = h
none-back (g ∷ gs) hs h = absurd (some-fault g (gs ++ hs) h)

pub not-refused : (b : Bool) (g : ElabFault) → NoneOf (refused_if b g) → b ≡ false
not-refused true g h = absurd (some-fault g [] h)
not-refused false g h = refl

-- ---- names

abbrev first_names : List (List ℕ × Pos) → List (List ℕ)
first_names [] = []
first_names (n ∷ ns) = n.0 ∷ first_names ns

-- names that aren't there before, and differ
pub record AreNew (earlier ns : List (List ℕ)) : Type 0 where
  pub new : Each (Lacks earlier) ns
  pub different : Different ns

new-next : (earlier : List (List ℕ)) (n : List ℕ) (ns : List (List ℕ)) → Lacks earlier n
    → AreNew (earlier ++ n ∷ []) ns → AreNew earlier (n ∷ ns)
new-next earlier n ns h k = record {
  new = (h, each_map (λ m l. lacks-front earlier (n ∷ []) m l) ns k.new);
  different = (
    lacks-each (Lacks (earlier ++ n ∷ [])) ns n
        (λ l. clash (has-back earlier (n ∷ []) n (has-first n [])) l) k.new,
    k.different,
  );
}

twice-new : (earlier : List (List ℕ)) (ns : List (List ℕ × Pos)) → NoneOf (twice earlier ns)
    → AreNew earlier (first_names ns)
twice-new earlier [] h = record { new = tt; different = tt }
twice-new earlier (n ∷ ns) h =
    let rest : List ElabFault = twice (earlier ++ n.0 ∷ []) ns in
    new-next earlier n.0 (first_names ns)
    (not-refused (contains_name earlier n.0) _ (none-front (refused_if (contains_name earlier n.0) _) rest h))
    (twice-new (earlier ++ n.0 ∷ []) ns (none-back (refused_if (contains_name earlier n.0) _) rest h))

first-placed : (xs : List DeclaredName) → first_names (placed_names xs) ≡ name_list xs
first-placed [] = refl
first-placed (x ∷ xs) = ap (λ l. x.name ∷ l) (first-placed xs)

first-genvars : (p : Pos) (xs : List (List ℕ)) → first_names (map (λ text. (text, p)) xs) ≡ xs
first-genvars p [] = refl
first-genvars p (x ∷ xs) = ap (λ l. x ∷ l) (first-genvars p xs)

pub names-new : (earlier : List (List ℕ)) (xs : List DeclaredName) → NoneOf (twice earlier (placed_names xs))
    → AreNew earlier (name_list xs)
names-new earlier xs h = subst (AreNew earlier) (first-placed xs) (twice-new earlier (placed_names xs) h)

genvars-new : (earlier : List (List ℕ)) (p : Pos) (xs : List (List ℕ))
    → NoneOf (twice earlier (map (λ text. (text, p)) xs))
    → Each (Lacks earlier) xs
genvars-new earlier p xs h =
    subst (Each (Lacks earlier)) (first-genvars p xs) (twice-new earlier (map (λ text. (text, p)) xs) h).new

pub parameters-new : (at : Place) (kind : ParameterKind) (earlier : List (List ℕ)) (xs : List Parameter)
    → NoneOf (parameters_refusals at kind earlier xs)
    → Each (Lacks earlier) (map (λ x. x.name) xs)
parameters-new at kind earlier [] h = tt
parameters-new at kind earlier (x ∷ xs) h = (
  not-refused (contains_name earlier x.name) _
      (none-front _ _ (none-front _ _ (none-front _ _
      (none-front _ (parameters_refusals at kind (earlier ++ x.name ∷ []) xs) h)))),
  each_map (λ m l. lacks-front earlier (x.name ∷ []) m l) (map (λ x. x.name) xs)
      (parameters-new at kind (earlier ++ x.name ∷ []) xs (none-back _ _ h)),
)

-- ---- labels

labels-new : (earlier : List (List ℕ)) (ns : List (List ℕ × Pos)) → NoneOf (labels_twice earlier ns)
    → Each (Lacks earlier) (first_names ns)
labels-new earlier [] h = tt
labels-new earlier (n ∷ ns) h = (
  not-refused (contains_name earlier n.0) _
      (none-front (refused_if (contains_name earlier n.0) _) (labels_twice earlier ns) h),
  labels-new earlier ns (none-back (refused_if (contains_name earlier n.0) _) (labels_twice earlier ns) h),
)

first-append : (ms ns : List (List ℕ × Pos)) → first_names (ms ++ ns) ≡ first_names ms ++ first_names ns
first-append [] ns = refl
first-append (m ∷ ms) ns = ap (λ l. m.0 ∷ l) (first-append ms ns)

first-label : (p : Pos) (label : Option (List ℕ)) → first_names (optional_label p label) ≡ option_to_list label
first-label p None = refl
first-label p (Some text) = refl

chosen-labels : (b : Bool) (ns : List (List ℕ × Pos)) (labels : List (List ℕ)) → first_names ns ≡ labels
    → first_names (if b then ns else []) ≡ (if b then labels else [])
chosen-labels true ns labels h = h
chosen-labels false ns labels h = refl

mutual
  first-labels : (x : Item) → first_names (placed_labels x) ≡ labels_of x
  first-labels (declaration attrs p d) = refl
  first-labels (integer attrs p xs) = refl
  first-labels (genvar attrs p xs) = refl
  first-labels (parameter attrs p kind xs) = refl
  first-labels (assign attrs p xs) = refl
  first-labels (always attrs p event s) = refl
  first-labels (initial attrs p s) = refl
  first-labels (instance attrs p x) = refl
  first-labels (generate attrs p mark) = refl
  first-labels (for_loop attrs p head (begin q label xs)) = first-label q label
  first-labels (for_loop attrs p head (region q xs)) = refl
  first-labels (for_loop attrs p head (single x)) = refl
  first-labels (if_only attrs p c b) = first-block b
  first-labels (if_else attrs p c b d) =
      first-append (block_labels b) (block_labels d) ∙ (λ i. first-block b i ++ first-block d i)

  first-block : (b : Block) → first_names (block_labels b) ≡ labels_of_block b
  first-block (begin p label xs) = first-label p label
  first-block (region p xs) = refl
  first-block (single x) = chosen-labels (is_if x) (placed_labels x) (labels_of x) (first-labels x)

item-labels : (earlier : List (List ℕ)) (x : Item) → NoneOf (labels_twice earlier (placed_labels x))
    → Each (Lacks earlier) (labels_of x)
item-labels earlier x h = subst (Each (Lacks earlier)) (first-labels x) (labels-new earlier (placed_labels x) h)

-- ---- items

module _ (ms : List Module) where
  abbrev pub IsFine : Step → Type 0
  IsFine x = NoneOf (step_refusals ms x)

  instance-new : (at : Place) (attrs : Attributes) (p : Pos) (x : Instance) → IsFine (item at (instance attrs p x))
      → Lacks at.earlier x.name
  instance-new at attrs p x h =
      not-refused (contains_name at.earlier x.name) _
      (none-back (refused_if (is_none (module_named ms x.definition)) _) _ (none-front _ _ h))

  pub item-new : (at : Place) (x : Item) → IsFine (item at x) → Each (Lacks at.earlier) (names_of x)
  item-new at (declaration attrs p d) h =
      (names-new at.earlier d.names (none-front _ _ (none-front _ _ h))).new
  item-new at (integer attrs p xs) h = (names-new at.earlier xs (none-front _ _ h)).new
  item-new at (genvar attrs p xs) h = genvars-new at.earlier p xs h
  item-new at (parameter attrs p kind xs) h = parameters-new at kind at.earlier xs h
  item-new at (assign attrs p xs) h = tt
  item-new at (always attrs p event s) h = tt
  item-new at (initial attrs p s) h = tt
  item-new at (instance attrs p x) h = (instance-new at attrs p x h, tt)
  item-new at (generate attrs p mark) h = tt
  item-new at (for_loop attrs p head b) h =
      item-labels at.earlier (for_loop attrs p head b) (none-front _ _ h)
  item-new at (if_only attrs p c b) h = item-labels at.earlier (if_only attrs p c b) (none-front _ _ h)
  item-new at (if_else attrs p c b d) h = item-labels at.earlier (if_else attrs p c b d) (none-front _ _ h)

  -- ---- ports

  port-next : (at : Place) (u : Use) (p : Port) (q : Option FullPort) (ns : List (List ℕ))
      → Each IsFine (port_step at u p q)
      → AreNew (at.earlier ++ optional_name q) ns → AreNew at.earlier (port_names (option_to_list q) ++ ns)
  port-next at u p None ns h k =
      record { new = each_map (λ m l. lacks-front at.earlier [] m l) ns k.new; different = k.different }
  port-next at u p (Some q) ns h k =
      new-next at.earlier q.name ns
      (not-refused (contains_name at.earlier q.name) _
      (none-front _ _ (none-front _ _ (none-front _ _ h.0)))) k

  port-names : (q : Option FullPort) (qs : List FullPort)
      → port_names (option_to_list q ++ qs) ≡ port_names (option_to_list q) ++ port_names qs
  port-names None qs = refl
  port-names (Some q) qs = refl

  pub ports-new : (at : Place) (u : Use) (last : Option FullPort) (ps : List Port)
      → Each IsFine (port_steps at u last ps)
      → AreNew at.earlier (port_names (full_ports last ps))
  ports-new at u last [] h = record { new = tt; different = tt }
  ports-new at u last (p ∷ ps) h =
      let q : Option FullPort = full_port last p.kind in
      let more : List Step = port_steps (with_earlier at (optional_name q)) u q ps in
      subst (AreNew at.earlier) (sym (port-names q (full_ports q ps)))
      (port-next at u p q (port_names (full_ports q ps)) (front IsFine (port_step at u p q) more h)
      (ports-new (with_earlier at (optional_name q)) u q ps (back IsFine (port_step at u p q) more h)))
