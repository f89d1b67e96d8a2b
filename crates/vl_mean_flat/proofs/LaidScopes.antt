-- At each step of a walk, each scope's names are declared by the design under their full names.
use Rattle.std.specs.Prelude.{◌≡◌, refl, ℕ, zero, suc, ◌+◌, Bool, true, false, ◌||◌, List, [], ◌∷◌, ◌++◌}
use Rattle.std.specs.Prelude.{length, cond, option_to_list, Option, Some, None, bytes_eq, if◌then◌else◌}
use Rattle.std.proofs.Common.{ap, sym, ◌∙◌, true≢false}
use Rattle.std.proofs.Math.Path.{transport}
use Rattle.std.proofs.lemmas.Slice.Eq.{bytes_eq-Decides}
use Rattle.std.proofs.lemmas.Bool.Decides.{same_from_decides, Decides-like}
use Rattle.vl_tree.specs.declared.declaration.NetKind.TheVariants as net
use Rattle.vl_tree.specs.declared.declaration.FullPort.{FullPort}
use Rattle.vl_tree.specs.declared.declaration.Parameter.{Parameter}
use Rattle.vl_tree.specs.declared.declaration.Port.{Port}
use Rattle.vl_tree.specs.declared.part.Connection.{Connection}
use Rattle.vl_tree.specs.declared.part.LoopHead.{LoopHead}
use Rattle.vl_tree.specs.declared.source.Module.{Module}
use Rattle.vl_tree.specs.Item.{
  Item,
  Items,
  Block,
  declaration,
  integer,
  genvar,
  parameter,
  assign,
  always,
  initial,
  instance,
  generate,
  for_loop,
  if_only,
  if_else,
  no_items,
  more_items,
  begin,
  region,
  single,
  items,
}
use Rattle.vl_size.specs.declared.decl.Decl.{Decl}
use Rattle.vl_size.specs.Size.{is_true}
use Rattle.vl_size.specs.Table.{is_declared, declared_as, AreDifferent}
use Rattle.vl_mean.specs.declared.const_number.Const.{Const}
use Rattle.vl_mean.specs.Constants.{constant_operand}
use Rattle.vl_mean.specs.Declarations.{declared_by, declared, declared_ports, full_port, full_ports, ports_of, is_if}
use Rattle.vl_mean.specs.Declarations.{label_of, names_of, block_name, constructs}
use Rattle.vl_mean.specs.Parts.{Part, declares, equation, combinational, clocked, starts, declares_all, values_of}
use Rattle.vl_mean.specs.Parts.{step_parts, parts_of_steps, design}
use Rattle.vl_mean.specs.Runs.{Each}
use Rattle.vl_mean.specs.Scopes.{Scope, constant_in}
use Rattle.vl_mean.specs.Walk.{has_any}
use Rattle.vl_mean.specs.Walk.{Place, Use, Step, Unfolding, with_earlier, module_named, module_parameters}
use Rattle.vl_mean.specs.Walk.{module_place, module_scope, parameter_names, port_names, written_ports, header_steps}
use Rattle.vl_mean.specs.Walk.{port_step, optional_name, port_steps, use_of, connections_of, override_steps}
use Rattle.vl_mean.specs.Walk.{connection_steps, with_module, turn_place, turns, goes_on, next_turn, first_turn}
use Rattle.vl_mean.specs.Walk.{loop_turns, turn_path, block_place, block_path, single_number, item_steps, items_steps}
use Rattle.vl_mean.specs.Walk.{turn_steps, block_steps, unfolded, walk}
use Rattle.vl_mean_flat.specs.Flattened.{decls_of}
use Rattle.vl_mean_flat.specs.StepScopes.{StepScopes}
use Rattle.vl_mean_flat.proofs.EachOf.{both, front, back}
use Rattle.vl_mean_flat.proofs.FoundNames.{AreOf, AreScopes}

pub decls_append : (ps qs : List Part) → decls_of (ps ++ qs) ≡ decls_of ps ++ decls_of qs
decls_append [] qs = refl
decls_append (declares d ∷ ps) qs = ap (λ ds. d ∷ ds) (decls_append ps qs)
decls_append (equation ts l ss e ∷ ps) qs = decls_append ps qs
decls_append (combinational ss s ∷ ps) qs = decls_append ps qs
decls_append (clocked ss s ∷ ps) qs = decls_append ps qs
decls_append (starts ss l e ∷ ps) qs = decls_append ps qs

module _ (es : List Decl) where
  abbrev IsThere : Decl → Type 0
  IsThere d = declared_as es d.name ≡ Some d

  -- what the parts declare stands there
  abbrev AreThere : List Part → Type 0
  AreThere ps = Each IsThere (decls_of ps)

  -- what the steps declare stands there
  abbrev In : List Step → Type 0
  In xs = Each (λ x. AreThere (step_parts x)) xs

  -- the scopes of the steps have all their names there
  abbrev pub Laid : List Step → Type 0
  Laid xs = Each (StepScopes (AreScopes es)) xs

  there_front : (ps qs : List Part) → AreThere (ps ++ qs) → AreThere ps
  there_front ps qs h =
      front IsThere (decls_of ps) (decls_of qs) (transport (λ i. Each IsThere (decls_append ps qs i)) h)

  there_back : (ps qs : List Part) → AreThere (ps ++ qs) → AreThere qs
  there_back ps qs h = back IsThere (decls_of ps) (decls_of qs) (transport (λ i. Each IsThere (decls_append ps qs i)) h)

  in_steps : (xs : List Step) → AreThere (parts_of_steps xs) → In xs
  in_steps [] h = tt
  in_steps (x ∷ xs) h = (
    there_front (step_parts x) (parts_of_steps xs) h,
    in_steps xs
        (there_back (step_parts x) (parts_of_steps xs) h),
  )

  in_front : (xs ys : List Step) → In (xs ++ ys) → In xs
  in_front xs ys h = front (λ x. AreThere (step_parts x)) xs ys h

  in_back : (xs ys : List Step) → In (xs ++ ys) → In ys
  in_back xs ys h = back (λ x. AreThere (step_parts x)) xs ys h

  laid_both : (xs ys : List Step) → (In xs → Laid xs) → (In ys → Laid ys) → In (xs ++ ys) → Laid (xs ++ ys)
  laid_both xs ys f g h = both (StepScopes (AreScopes es)) xs ys (f (in_front xs ys h)) (g (in_back xs ys h))

  -- ---- what a scope declares

  of_append : (path : List ℕ) (xs ys : List Decl) → AreOf es path xs → AreOf es path ys → AreOf es path (xs ++ ys)
  of_append path [] ys h k = k
  of_append path (x ∷ xs) ys h k = (h.0, of_append path xs ys h.1 k)

  of_declared : (path : List ℕ) (ds : List Decl) → AreThere (declares_all path ds) → AreOf es path ds
  of_declared path [] h = tt
  of_declared path (d ∷ ds) h = (h.0, of_declared path ds h.1)

  -- ---- a choice, and turns

  laid_if : (b : Bool) (xs ys : List Step) → (In xs → Laid xs) → (In ys → Laid ys) → In (if b then xs else ys)
      → Laid (if b then xs else ys)
  laid_if true xs ys f g h = f h
  laid_if false xs ys f g h = g h

  laid_turns : (n : ℕ) (goes : Const → Bool) (next : Const → Const) (body : Const → List Step)
      → ((c : Const) → In (body c) → Laid (body c))
      → (c : Const) → In (turns n goes next body c) → Laid (turns n goes next body c)
  laid_turns zero goes next body f c h = tt
  laid_turns (suc n) goes next body f c h =
      laid_if (goes c) (body c ++ turns n goes next body (next c)) []
      (λ k. laid_both (body c) (turns n goes next body (next c)) (f c) (laid_turns n goes next body f (next c)) k)
      (λ k. tt) h

  laid_loop : (head : LoopHead) (ss : List Scope) (body : Const → List Step)
      → ((c : Const) → In (body c) → Laid (body c))
      → In (loop_turns head ss body) → Laid (loop_turns head ss body)
  laid_loop head ss body f h = laid_turns 4096 (goes_on head ss) (next_turn head ss) body f (first_turn head ss) h

  -- ---- instances

  laid_overrides : (at : Place) (m : Module) (u : Use) (given : List (List ℕ)) (xs : List Connection)
      → AreScopes es at.scopes → Laid (override_steps at m u given xs)
  laid_overrides at m u given [] s = tt
  laid_overrides at m u given (x ∷ xs) s = (s, laid_overrides at m u (given ++ x.port ∷ []) xs s)

  laid_connections : (at : Place) (m : Module) (u : Use) (inside : List Scope) (given : List (List ℕ))
      (xs : List Connection)
      → AreScopes es at.scopes → AreScopes es inside → Laid (connection_steps at m u inside given xs)
  laid_connections at m u inside given [] s k = tt
  laid_connections at m u inside given (x ∷ xs) s k =
      ((s, k), laid_connections at m u inside (given ++ x.port ∷ []) xs s k)

  -- steps behind which a module stands are laid where the module's scope is
  abbrev Given : Unfolding → Type 0
  Given inner =
      (m : Module) (u : Use) (path : List ℕ) (modules : List (List ℕ)) (before : List Step)
      → (AreScopes es (module_scope m u path ∷ []) → Laid before)
      → In (inner m u path modules before) → Laid (inner m u path modules before)

  laid_module : (o : Option Module) (f : Module → List Step) → ((m : Module) → In (f m) → Laid (f m))
      → In (with_module o f) → Laid (with_module o f)
  laid_module None f g h = tt
  laid_module (Some m) f g h = g m h

  -- ---- items

  module _ (ms : List Module) (inner : Unfolding) (given : Given inner) where
    declared_item : (x : Item) (at : Place) (n : ℕ) → In (item_steps ms inner x at n)
        → AreOf es at.path (declared_by at.around x)
    declared_item (declaration attrs p d) at n h =
        of_declared at.path _ (there_front (declares_all at.path (declared_by at.around (declaration attrs p d)))
        (values_of at.scopes d.net d.names) h.0)
    declared_item (integer attrs p xs) at n h =
        of_declared at.path _ (there_front (declares_all at.path (declared_by at.around (integer attrs p xs)))
        (values_of at.scopes net.Reg xs) h.0)
    declared_item (genvar attrs p xs) at n h = tt
    declared_item (parameter attrs p kind xs) at n h = tt
    declared_item (assign attrs p xs) at n h = tt
    declared_item (always attrs p event s) at n h = tt
    declared_item (initial attrs p s) at n h = tt
    declared_item (instance attrs p x) at n h = tt
    declared_item (generate attrs p mark) at n h = tt
    declared_item (for_loop attrs p head b) at n h = tt
    declared_item (if_only attrs p c b) at n h = tt
    declared_item (if_else attrs p c b d) at n h = tt

    declared_items : (xs : Items) (at : Place) (n : ℕ) → In (items_steps ms inner xs at n)
        → AreOf es at.path (declared at.around xs)
    declared_items no_items at n h = tt
    declared_items (more_items x xs) at n h =
        let more : List Step = items_steps ms inner xs (with_earlier at (names_of x)) (n + constructs x) in
        of_append at.path (declared_by at.around x) (declared at.around xs)
        (declared_item x at n (in_front (item_steps ms inner x at n) more h))
        (declared_items xs (with_earlier at (names_of x)) (n + constructs x)
        (in_back (item_steps ms inner x at n) more h))

    laid_place : (b : Bool) (x : Item) (at inside : Place) (n : ℕ)
        → (In (item_steps ms inner x at n) → Laid (item_steps ms inner x at n))
        → (In (item_steps ms inner x inside n) → Laid (item_steps ms inner x inside n))
        → In (item_steps ms inner x (if b then at else inside) n)
        → Laid (item_steps ms inner x (if b then at else inside) n)
    laid_place true x at inside n f g h = f h
    laid_place false x at inside n f g h = g h

    mutual
      laid_item : (x : Item) (at : Place) (n : ℕ) → AreScopes es at.scopes → In (item_steps ms inner x at n)
          → Laid (item_steps ms inner x at n)
      laid_item (declaration attrs p d) at n s h = (s, tt)
      laid_item (integer attrs p xs) at n s h = (s, tt)
      laid_item (genvar attrs p xs) at n s h = (s, tt)
      laid_item (parameter attrs p kind xs) at n s h = (s, tt)
      laid_item (assign attrs p xs) at n s h = (s, tt)
      laid_item (always attrs p event b) at n s h = (s, tt)
      laid_item (initial attrs p b) at n s h = (s, tt)
      laid_item (instance attrs p x) at n s h = (
        s,
        laid_module (module_named ms x.definition) _ (λ m k.
            let u : Use = use_of has_any at.scopes x in
            given m u _ at.modules _ (λ j.
            both (StepScopes (AreScopes es)) (override_steps at m u [] (connections_of x.overrides)) _
            (laid_overrides at m u [] (connections_of x.overrides) s)
            (laid_connections at m u _ [] x.connections s j)) k) h.1,
      )
      laid_item (generate attrs p mark) at n s h = (s, tt)
      laid_item (for_loop attrs p head b) at n s h =
          let path : Const → List ℕ = λ c. turn_path at.path (block_name at.names n (label_of b)) c in (
            s,
            laid_loop head at.scopes (λ c. turn_steps ms inner b (turn_place at head.variable c) (path c))
                (λ c k. laid_turn b (turn_place at head.variable c) (path c) (tt, s) k) h.1,
          )
      laid_item (if_only attrs p c b) at n s h = (
        s,
        laid_if (is_true (constant_operand (constant_in at.scopes) c)) (block_steps ms inner b at n) []
            (λ k. laid_inside b at n s k) (λ k. tt) h.1,
      )
      laid_item (if_else attrs p c b d) at n s h = (
        s,
        laid_if (is_true (constant_operand (constant_in at.scopes) c)) (block_steps ms inner b at n)
            (block_steps ms inner d at n)
            (λ k. laid_inside b at n s k) (λ k. laid_inside d at n s k) h.1,
      )

      laid_items : (xs : Items) (at : Place) (n : ℕ) → AreScopes es at.scopes → In (items_steps ms inner xs at n)
          → Laid (items_steps ms inner xs at n)
      laid_items no_items at n s h = tt
      laid_items (more_items x xs) at n s h =
          laid_both (item_steps ms inner x at n) (items_steps ms inner xs (with_earlier at (names_of x))
          (n + constructs x))
          (λ k. laid_item x at n s k) (λ k. laid_items xs (with_earlier at (names_of x)) (n + constructs x) s k) h

      laid_turn : (b : Block) (at : Place) (path : List ℕ) → AreScopes es at.scopes
          → In (turn_steps ms inner b at path) → Laid (turn_steps ms inner b at path)
      laid_turn (begin p label xs) at path s h =
          (s, laid_items xs (block_place at path xs) 1 (declared_items xs (block_place at path xs) 1 h.1, s) h.1)
      laid_turn (region p xs) at path s h =
          (s, laid_items xs (block_place at path xs) 1 (declared_items xs (block_place at path xs) 1 h.1, s) h.1)
      laid_turn (single x) at path s h =
          let inside : Place = block_place at path (more_items x no_items) in
          (s, laid_item x inside 1 (of_append path (declared_by inside.around x) [] (declared_item x inside 1 h.1) tt, s) h.1)

      laid_inside : (b : Block) (at : Place) (n : ℕ) → AreScopes es at.scopes → In (block_steps ms inner b at n)
          → Laid (block_steps ms inner b at n)
      laid_inside (begin p label xs) at n s h =
          let inside : Place = block_place at (block_path at (block_name at.names n label)) xs in
          (s, laid_items xs inside 1 (declared_items xs inside 1 h.1, s) h.1)
      laid_inside (region p xs) at n s h =
          let inside : Place = block_place at (block_path at (block_name at.names n None)) xs in
          (s, laid_items xs inside 1 (declared_items xs inside 1 h.1, s) h.1)
      laid_inside (single x) at n s h =
          let inside : Place = block_place at (block_path at (block_name at.names n None)) (more_items x no_items) in (
            s,
            laid_place (is_if x) x at inside (single_number n x) (λ k. laid_item x at (single_number n x) s k)
                (λ k. laid_item x inside (single_number n x) (
                  of_append inside.path (declared_by inside.around x) []
                      (declared_item x inside (single_number n x) k) tt,
                  s,
                ) k)
                h.1,
          )

  -- ---- modules

  laid_header : (at : Place) (xs : List Parameter) → AreScopes es at.scopes → Laid (header_steps at xs)
  laid_header at [] s = tt
  laid_header at (x ∷ xs) s = (s, laid_header (with_earlier at (x.name ∷ [])) xs s)

  laid_port : (at : Place) (u : Use) (p : Port) (q : Option FullPort) → AreScopes es at.scopes
      → Laid (port_step at u p q)
  laid_port at u p None s = tt
  laid_port at u p (Some q) s = (s, tt)

  laid_ports : (at : Place) (u : Use) (last : Option FullPort) (ps : List Port) → AreScopes es at.scopes
      → Laid (port_steps at u last ps)
  laid_ports at u last [] s = tt
  laid_ports at u last (p ∷ ps) s =
      let q : Option FullPort = full_port last p.kind in
      both (StepScopes (AreScopes es)) (port_step at u p q) (port_steps (with_earlier at (optional_name q)) u q ps)
      (laid_port at u p q s) (laid_ports (with_earlier at (optional_name q)) u q ps s)

  declared_port : (at : Place) (u : Use) (p : Port) (q : Option FullPort) (qs : List FullPort) → In (port_step at u p q)
      → AreOf es at.path (declared_ports at.around u.is_top u.input qs)
      → AreOf es at.path (declared_ports at.around u.is_top u.input (option_to_list q ++ qs))
  declared_port at u p None qs h k = k
  declared_port at u p (Some q) qs h k = (h.0.0, k)

  declared_all_ports : (at : Place) (u : Use) (last : Option FullPort) (ps : List Port) → In (port_steps at u last ps)
      → AreOf es at.path (declared_ports at.around u.is_top u.input (full_ports last ps))
  declared_all_ports at u last [] h = tt
  declared_all_ports at u last (p ∷ ps) h =
      let q : Option FullPort = full_port last p.kind in
      let more : List Step = port_steps (with_earlier at (optional_name q)) u q ps in
      declared_port at u p q (full_ports q ps) (in_front (port_step at u p q) more h)
      (declared_all_ports (with_earlier at (optional_name q)) u q ps (in_back (port_step at u p q) more h))

  declared_of_ports : (at : Place) (u : Use) (ps : Option (List Port)) → In (port_steps at u None (written_ports ps))
      → AreOf es at.path (declared_ports at.around u.is_top u.input (ports_of ps))
  declared_of_ports at u None h = tt
  declared_of_ports at u (Some ps) h = declared_all_ports at u None ps h

  laid_unfolded : (n : ℕ) (ms : List Module) → Given (λ m u path modules before. unfolded n ms m u path modules before)
  laid_unfolded zero ms m u path modules before f h = tt
  laid_unfolded (suc n) ms m u path modules before f h =
      let at : Place = module_place m u path modules in
      let inner : Unfolding = λ m u path modules before. unfolded n ms m u path modules before in
      let names : List (List ℕ) = parameter_names (module_parameters m) in
      let at_ports : Place = with_earlier at names in
      let at_items : Place = with_earlier at (names ++ port_names (ports_of m.ports)) in
      let head : List Step = header_steps at (module_parameters m) in
      let ports : List Step = port_steps at_ports u None (written_ports m.ports) in
      let rest : List Step = items_steps ms inner (items m.items) at_items 1 in
      let in_ports : In ports = in_back (before ++ head) ports (in_front (before ++ head ++ ports) rest h) in
      let in_rest : In rest = in_back (before ++ head ++ ports) rest h in
      let scoped : AreScopes es at.scopes = (
        of_append path (declared_ports at.around u.is_top u.input (ports_of m.ports))
            (declared at.around (items m.items))
            (declared_of_ports at_ports u m.ports in_ports)
            (declared_items ms inner (laid_unfolded n ms) (items m.items) at_items 1 in_rest),
        tt,
      ) in
      both (StepScopes (AreScopes es)) (before ++ head ++ ports) rest
      (both (StepScopes (AreScopes es)) (before ++ head) ports
      (both (StepScopes (AreScopes es)) before head (f scoped) (laid_header at (module_parameters m) scoped))
      (laid_ports at_ports u None (written_ports m.ports) scoped))
      (laid_items ms inner (laid_unfolded n ms) (items m.items) at_items 1 scoped in_rest)

-- ---- the design

bytes_eq-swap : (xs ys : List ℕ) → bytes_eq xs ys ≡ bytes_eq ys xs
bytes_eq-swap xs ys =
    same_from_decides (bytes_eq xs ys) (bytes_eq ys xs) (bytes_eq-Decides xs ys)
    (Decides-like (bytes_eq ys xs) (λ e. sym e) (λ e. sym e) (bytes_eq-Decides ys xs))

or_first : (a b : Bool) → (a || b) ≡ false → a ≡ false
or_first true b h = h
or_first false b h = refl

or_second : (a b : Bool) → (a || b) ≡ false → b ≡ false
or_second true b h = absurd (true≢false h)
or_second false b h = h

behind : (d : Decl) (es xs : List Decl) → is_declared xs d.name ≡ false → Each (λ x. declared_as es x.name ≡ Some x) xs
    → Each (λ x. declared_as (d ∷ es) x.name ≡ Some x) xs
behind d es [] h k = tt
behind d es (x ∷ xs) h k = (
  ap (λ b. cond b (Some d) (declared_as es x.name))
      (bytes_eq-swap x.name d.name ∙ or_first (bytes_eq d.name x.name) (is_declared xs d.name) h) ∙ k.0,
  behind d es xs (or_second (bytes_eq d.name x.name) (is_declared xs d.name) h) k.1,
)

all_there : (es : List Decl) → AreDifferent es → Each (λ d. declared_as es d.name ≡ Some d) es
all_there [] h = tt
all_there (d ∷ es) h = (
  ap (λ b. cond b (Some d) (declared_as es d.name)) ((bytes_eq-Decides d.name d.name).1 refl),
  behind d es es h.0
      (all_there es h.1),
)

-- where the names of a design differ, each step's scopes have all their names in it
pub laid_walk : (ms : List Module) (top : List ℕ) → AreDifferent (decls_of (design ms top))
    → Laid (decls_of (design ms top)) (walk ms top)
laid_walk ms top different =
    let es : List Decl = decls_of (design ms top) in
    laid_module es (module_named ms top) _ (λ m k. laid_unfolded es (length ms) ms m _ [] [] [] (λ j. tt) k)
    (in_steps es (walk ms top) (all_there es different))
