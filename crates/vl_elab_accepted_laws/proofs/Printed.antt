-- Full names have neither a blank nor a control byte in them.
use Rattle.std.specs.Prelude.{◌≡◌, refl, ℕ, ◌+◌, ◌≤◌, List, [], ◌∷◌, ◌++◌, length, Bool, true, false}
use Rattle.std.specs.Prelude.{◌&&◌, not, All}
use Rattle.std.proofs.Common.{sym, subst, true≢false, arith}
use Rattle.std.proofs.lemmas.List.Elements.{All-nil, All-cons}
use Rattle.vl_tree.specs.declared.declaration.DeclaredName.{DeclaredName}
use Rattle.vl_tree.specs.declared.declaration.NetKind.TheVariants as net
use Rattle.vl_tree.specs.declared.source.Module.{Module}
use Rattle.vl_tree.specs.DeclarationWellFormed.{IsDeclaredName}
use Rattle.vl_tree.specs.Item.{Item, declaration, integer, genvar, parameter, assign, always, initial, instance}
use Rattle.vl_tree.specs.Item.{generate, for_loop, if_only, if_else}
use Rattle.vl_tree.specs.WellFormed.{IsModule, IsWellFormed}
use Rattle.vl_size.specs.declared.decl.Class.{Class}
use Rattle.vl_size.specs.declared.decl.Class.TheVariants as class
use Rattle.vl_size.specs.declared.decl.Decl.{Decl}
use Rattle.vl_mean.specs.Declarations.{class_of_attributes, class_of_kind, declared_by, joined_attributes, port_named}
use Rattle.vl_mean.specs.Declarations.{ports_of}
use Rattle.vl_mean.specs.FlatLaw.{is_graphic}
use Rattle.vl_mean.specs.Parts.{Part, declares, equation, combinational, clocked, starts, declares_all, design}
use Rattle.vl_mean.specs.Parts.{item_parts}
use Rattle.vl_mean.specs.Parts.{parts_of_steps, port_kind, step_parts, values_of}
use Rattle.vl_mean.specs.Runs.{Each}
use Rattle.vl_mean.specs.Walk.{block_step}
use Rattle.vl_mean.specs.Walk.{Place, Step, header, port, item, override, connection, module_named}
use Rattle.vl_mean.specs.Walk.{top_input}
use Rattle.vl_mean.specs.Walk.{walk}
use Rattle.vl_mean_flat.specs.Flattened.{decls_of}
use Rattle.vl_mean_flat.proofs.EachOf.{both}
use Rattle.vl_elab_accepted_laws.proofs.Declared.{assignments-none, block-none, connection-none, initial-none}
use Rattle.vl_elab_accepted_laws.proofs.Declared.{integers-under}
use Rattle.vl_elab_accepted_laws.proofs.Declared.{name_list}
use Rattle.vl_elab_accepted_laws.proofs.Declared.{optional-none, part-append, part_names, under, values-none}
use Rattle.vl_elab_accepted_laws.proofs.Declared.{vectors-under}
use Rattle.vl_elab_accepted_laws.specs.Unrefused.{NoStepRefused}
use Rattle.vl_elab_accepted_laws.proofs.Items.{found-module}
use Rattle.vl_elab_accepted_laws.proofs.Loops.{AreFew, weight}
use Rattle.vl_elab_accepted_laws.proofs.NoneRefused.{walk-counted}
use Rattle.vl_elab_accepted_laws.proofs.Plain.{all-each}
use Rattle.vl_elab_accepted_laws.proofs.Texts.{is_free}
use Rattle.vl_elab_accepted_laws.proofs.Letters.{Clean, clean_both, is_hidden, name_clean}
use Rattle.vl_elab_accepted_laws.proofs.Paths.{IsClean, found_module, unfolded_clean}

-- ---- names of steps

under_clean : (path : List ℕ) (xs : List DeclaredName) → Clean path → Each IsDeclaredName xs
    → Each Clean (under path (name_list xs))
under_clean path [] h w = tt
under_clean path (x ∷ xs) h w =
    (clean_both path x.name h (name_clean x.name w.0.0), under_clean path xs h w.1)

none_clean : (ns : List (List ℕ)) → ns ≡ [] → Each Clean ns
none_clean ns e = subst (Each Clean) (sym e) tt

both_clean : (ps qs : List Part) → Each Clean (part_names ps) → Each Clean (part_names qs)
    → Each Clean (part_names (ps ++ qs))
both_clean ps qs h k = subst (Each Clean) (sym (part-append ps qs)) (both Clean (part_names ps) (part_names qs) h k)

item_names_clean : (at : Place) (x : Item) → Clean at.path → IsWellFormed x
    → Each Clean (part_names (item_parts at x))
item_names_clean at (declaration attrs p d) h w =
    let c : Class = class_of_attributes (class_of_kind d.net) (joined_attributes attrs) in
    both_clean (declares_all at.path (declared_by at.around (declaration attrs p d))) (values_of at.scopes d.net d.names)
    (subst (Each Clean) (sym (vectors-under at.path at.around c d.shape d.names))
    (under_clean at.path d.names h (all-each IsDeclaredName d.names w.1.1.1)))
    (none_clean _ (values-none at.scopes d.net d.names))
item_names_clean at (integer attrs p xs) h w =
    let c : Class = class_of_attributes class.Variable (joined_attributes attrs) in
    both_clean (declares_all at.path (declared_by at.around (integer attrs p xs))) (values_of at.scopes net.Reg xs)
    (subst (Each Clean) (sym (integers-under at.path at.around c xs))
    (under_clean at.path xs h (all-each IsDeclaredName xs w.1.1)))
    (none_clean _ (values-none at.scopes net.Reg xs))
item_names_clean at (genvar attrs p xs) h w = tt
item_names_clean at (parameter attrs p kind xs) h w = tt
item_names_clean at (assign attrs p xs) h w = none_clean _ (assignments-none at.scopes xs)
item_names_clean at (always attrs p e s) h w = none_clean _ (block-none at.scopes e.kind s)
item_names_clean at (initial attrs p s) h w = none_clean _ (initial-none at.scopes s)
item_names_clean at (instance attrs p x) h w = tt
item_names_clean at (generate attrs p mark) h w = tt
item_names_clean at (for_loop attrs p head b) h w = tt
item_names_clean at (if_only attrs p c b) h w = tt
item_names_clean at (if_else attrs p c b d) h w = tt

step_names_clean : (x : Step) → IsClean x → Each Clean (part_names (step_parts x))
step_names_clean (header at x) h = tt
step_names_clean (port at u p q) h = (
  clean_both at.path q.name h.0 (name_clean q.name h.1),
  none_clean _ (optional-none at.scopes (port_kind q.net) q.name q.value),
)
step_names_clean (item at x) h = item_names_clean at x h.0 h.1
step_names_clean (override at m u given x) h = tt
step_names_clean (block_step at b) h = tt
step_names_clean (connection at m u inside given x) h =
    none_clean _ (connection-none at.scopes inside (port_named (ports_of m.ports) x.port) x.value)

steps_names_clean : (xs : List Step) → Each IsClean xs → Each Clean (part_names (parts_of_steps xs))
steps_names_clean [] h = tt
steps_names_clean (x ∷ xs) h =
    both_clean (step_parts x) (parts_of_steps xs) (step_names_clean x h.0) (steps_names_clean xs h.1)

decls_clean : (ps : List Part) → Each Clean (part_names ps) → Each (λ d. Clean d.name) (decls_of ps)
decls_clean [] h = tt
decls_clean (declares d ∷ ps) h = (h.0, decls_clean ps h.1)
decls_clean (equation ts l ss e ∷ ps) h = decls_clean ps h
decls_clean (combinational ss s ∷ ps) h = decls_clean ps h
decls_clean (clocked ss s ∷ ps) h = decls_clean ps h
decls_clean (starts ss l e ∷ ps) h = decls_clean ps h

-- ---- each byte is graphic

not_twice : (b rest : Bool) → (not (not b) && rest) ≡ true → b ≡ true
not_twice true rest h = refl
not_twice false rest h = absurd (true≢false (sym h))

rest_true : (b rest : Bool) → (not (not b) && rest) ≡ true → rest ≡ true
rest_true true rest h = h
rest_true false rest h = absurd (true≢false (sym h))

abbrev IsShown : ℕ → Type 0
IsShown c = is_graphic c ≡ true

shown : (text : List ℕ) → Clean text → All IsShown text
shown [] h = All-nil IsShown
shown (c ∷ cs) h =
    All-cons IsShown c cs (not_twice (is_graphic c) (is_free is_hidden cs) h)
    (shown cs (rest_true (is_graphic c) (is_free is_hidden cs) h))

abbrev pub IsPrinted : Decl → Type 0
IsPrinted d = All (λ c. is_graphic c ≡ true) d.name

all_shown : (ds : List Decl) → Each (λ d. Clean d.name) ds → All IsPrinted ds
all_shown [] h = All-nil IsPrinted
all_shown (d ∷ ds) h = All-cons IsPrinted d ds (shown d.name h.0) (all_shown ds h.1)

-- ---- there are few nodes

walk_few : (ms : List Module) (top : List ℕ) → NoStepRefused ms top → 0 + weight (walk ms top) ≤ 4000000
walk_few ms top e = (walk-counted ms top e).few

few_of : (xs : List Step) → 0 + weight xs ≤ 4000000 → AreFew 1 xs
few_of xs h = omega arith

-- ---- the design

pub walk_clean : (ms : List Module) (top : List ℕ) → All IsModule ms → NoStepRefused ms top → Each IsClean (walk ms top)
walk_clean ms top formed e =
    found_module (module_named ms top) _
    (λ m k. unfolded_clean ms formed (length ms) m (record { is_top = true; overrides = []; input = top_input }) [] [] []
    (found-module ms top m formed k) refl tt) (few_of (walk ms top) (walk_few ms top e))

pub design_printed : (ms : List Module) (top : List ℕ) → All IsModule ms → NoStepRefused ms top
    → All IsPrinted (decls_of (design ms top))
design_printed ms top formed e =
    all_shown (decls_of (design ms top)) (decls_clean (design ms top)
    (steps_names_clean (walk ms top) (walk_clean ms top formed e)))
