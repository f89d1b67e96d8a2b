-- The path of each step of a walk has neither a blank nor a control byte in it.
use Rattle.std.specs.Prelude.{◌≡◌, refl, ℕ, zero, suc, ◌+◌, ◌<◌, ◌≤◌, ◌^◌, List, [], ◌∷◌, ◌++◌, codes}
use Rattle.std.specs.Prelude.{Bool, true, false, Option, Some, None, option_to_list, All, if◌then◌else◌}
use Rattle.std.proofs.Common.{ap, sym, subst, arith}
use Rattle.vl_tree.specs.declared.declaration.FullPort.{FullPort}
use Rattle.vl_tree.specs.declared.declaration.Parameter.{Parameter}
use Rattle.vl_tree.specs.declared.declaration.Port.{Port}
use Rattle.vl_tree.specs.declared.declaration.PortKind.{PortKind}
use Rattle.vl_tree.specs.declared.declaration.PortKind.TheVariants as kinds
use Rattle.vl_tree.specs.declared.part.Connection.{Connection}
use Rattle.vl_tree.specs.declared.part.Instance.{Instance}
use Rattle.vl_tree.specs.declared.part.LoopHead.{LoopHead}
use Rattle.vl_tree.specs.declared.source.Module.{Module}
use Rattle.vl_tree.specs.DeclarationWellFormed.{IsOptionalRange, IsPort, IsPortKind}
use Rattle.vl_tree.specs.ExprWellFormed.{IsName}
use Rattle.vl_tree.specs.StmtWellFormed.{IsOptionalName}
use Rattle.vl_tree.specs.Item.{
  Item,
  Items,
  Block,
  declaration,
  integer,
  genvar,
  parameter,
  assign,
  always,
  initial,
  instance,
  generate,
  for_loop,
  if_only,
  if_else,
  no_items,
  more_items,
  begin,
  region,
  single,
  items,
}
use Rattle.vl_tree.specs.WellFormed.{AreOptionalPorts, AreWellFormed, IsBlock, IsModule, IsWellFormed}
use Rattle.vl_size.specs.Size.{is_true}
use Rattle.vl_mean.specs.declared.const_number.Const.{Const}
use Rattle.vl_mean.specs.Constants.{constant_operand}
use Rattle.vl_mean.specs.Declarations.{block_name, constructs, full_port, is_if, label_of, names_of, ports_of}
use Rattle.vl_mean.specs.Runs.{Each}
use Rattle.vl_mean.specs.Scopes.{Scope, constant_in}
use Rattle.vl_mean.specs.Walk.{block_step}
use Rattle.vl_mean.specs.Walk.{all_valued}
use Rattle.vl_mean.specs.Walk.{has_any}
use Rattle.vl_mean.specs.Walk.{Place, Use, Step, Unfolding, header, port, item, override, connection, with_earlier}
use Rattle.vl_mean.specs.Walk.{module_named, module_parameters, module_place, module_scope, parameter_names, port_names}
use Rattle.vl_mean.specs.Walk.{written_ports, header_steps, port_step, optional_name, port_steps, use_of}
use Rattle.vl_mean.specs.Walk.{connections_of}
use Rattle.vl_mean.specs.Walk.{override_steps, connection_steps, with_module, instance_steps, turn_place, turns}
use Rattle.vl_mean.specs.Walk.{goes_on, next_turn, first_turn, loop_turns, turn_path, block_place, block_path}
use Rattle.vl_mean.specs.Walk.{single_place, item_steps, items_steps, turn_steps, block_steps, unfolded}
use Rattle.vl_mean_flat.proofs.EachOf.{both}
use Rattle.vl_elab_accepted_laws.proofs.Items.{found-module, genvar-turn, label-named, start-turn}
use Rattle.vl_elab_accepted_laws.proofs.Loops.{AreFew, few-back, few-front, few-next, few-one, few-rest, few-start}
use Rattle.vl_elab_accepted_laws.proofs.Loops.{else-counts, few-tail, if-counts, loop-counts, weight}
use Rattle.vl_elab_accepted_laws.proofs.Loops.{none-or-more, one-or-more, positive-one, positive-sum}
use Rattle.vl_elab_accepted_laws.proofs.Plain.{all-each}
use Rattle.vl_elab_accepted_laws.proofs.Turns.{IsTurn}
use Rattle.vl_elab_accepted_laws.proofs.Letters.{Clean, clean_both, label_clean, name_clean, turn_clean}

-- where a step declares names, its path is clean, and the names are names
abbrev pub IsClean : Step → Type 0
IsClean (header at x) = Unit {0}
IsClean (port at u p q) = Clean at.path × IsName q.name × IsOptionalRange q.shape.range
IsClean (item at x) = Clean at.path × IsWellFormed x
IsClean (override at m u given x) = Unit {0}
IsClean (block_step at b) = Unit {0}
IsClean (connection at m u inside given x) = Unit {0}

abbrev AreClean : List Step → Type 0
AreClean xs = Each IsClean xs

join : (xs ys : List Step) → AreClean xs → AreClean ys → AreClean (xs ++ ys)
join xs ys h k = both IsClean xs ys h k

headers : (at : Place) (xs : List Parameter) → AreClean (header_steps at xs)
headers at [] = tt
headers at (x ∷ xs) = (tt, headers (with_earlier at (x.name ∷ [])) xs)

abbrev IsNamedPort : Option FullPort → Type 0
IsNamedPort None = Unit {0}
IsNamedPort (Some p) = IsName p.name × IsOptionalRange p.shape.range

port_named_so : (last : Option FullPort) (kind : PortKind) → IsNamedPort last → IsPortKind kind
    → IsNamedPort (full_port last kind)
port_named_so last (kinds.Full p) l w = (w.2, w.1)
port_named_so None (kinds.Short text value) l w = tt
port_named_so (Some p) (kinds.Short text value) l w = (w.0, l.1)

port_clean : (at : Place) (u : Use) (p : Port) (q : Option FullPort) → Clean at.path → IsNamedPort q
    → AreClean (port_step at u p q)
port_clean at u p None h w = tt
port_clean at u p (Some q) h w = ((h, w.0, w.1), tt)

ports_clean : (at : Place) (u : Use) (last : Option FullPort) (ps : List Port) → Clean at.path → IsNamedPort last
    → Each IsPort ps → AreClean (port_steps at u last ps)
ports_clean at u last [] h l w = tt
ports_clean at u last (p ∷ ps) h l w =
    let q : Option FullPort = full_port last p.kind in
    let next : IsNamedPort q = port_named_so last p.kind l w.0 in
    join (port_step at u p q) (port_steps (with_earlier at (optional_name q)) u q ps)
    (port_clean at u p q h next) (ports_clean (with_earlier at (optional_name q)) u q ps h next w.1)

written_formed : (ps : Option (List Port)) → AreOptionalPorts ps → Each IsPort (written_ports ps)
written_formed None h = tt
written_formed (Some ps) h = all-each IsPort ps h.1

overrides_clean : (at : Place) (m : Module) (u : Use) (given : List (List ℕ)) (xs : List Connection)
    → AreClean (override_steps at m u given xs)
overrides_clean at m u given [] = tt
overrides_clean at m u given (x ∷ xs) = (tt, overrides_clean at m u (given ++ x.port ∷ []) xs)

connections_clean : (at : Place) (m : Module) (u : Use) (inside : List Scope) (given : List (List ℕ))
    (xs : List Connection) → AreClean (connection_steps at m u inside given xs)
connections_clean at m u inside given [] = tt
connections_clean at m u inside given (x ∷ xs) = (tt, connections_clean at m u inside (given ++ x.port ∷ []) xs)

-- steps, where they are few
abbrev Follows : ℕ → List Step → Type 0
Follows n xs = AreFew n xs → AreClean xs

choice_clean : (b : Bool) (n : ℕ) (xs ys : List Step) → Follows n xs → Follows n ys
    → Follows n (if b then xs else ys)
choice_clean true n xs ys f g l = f l
choice_clean false n xs ys f g l = g l

turns_clean : (n : ℕ) (goes : Const → Bool) (next : Const → Const) (body : Const → List Step)
    → ((c : Const) → IsTurn (next c)) → ((c : Const) → IsTurn c → Follows 1 (body c)) → (c : Const) → IsTurn c
    → Follows 1 (turns n goes next body c)
turns_clean zero goes next body t f c h l = tt
turns_clean (suc n) goes next body t f c h l =
    choice_clean (goes c) 1 (body c ++ turns n goes next body (next c)) []
    (λ l. join (body c) (turns n goes next body (next c))
    (f c h (few-front 1 (body c) (turns n goes next body (next c)) l))
    (turns_clean n goes next body t f (next c) (t c) (few-back 1 (body c) (turns n goes next body (next c)) l)))
    (λ l. tt) l

abbrev Unfolds : Unfolding → Type 0
Unfolds inner =
    (m : Module) (u : Use) (path : List ℕ) (modules : List (List ℕ)) (before : List Step) → IsModule m → Clean path
    → AreClean before → Follows 1 (inner m u path modules before)

pub found_module : (o : Option Module) (g : Module → List Step) → ((m : Module) → o ≡ Some m → Follows 1 (g m))
    → Follows 1 (with_module o g)
found_module None g f l = tt
found_module (Some m) g f l = f m refl l

module _ (ms : List Module) (formed : All IsModule ms) (inner : Unfolding) (unfolds : Unfolds inner) where
  abbrev Steps : Item → Place → ℕ → List Step
  Steps x at n = item_steps ms inner x at n

  abbrev bodies : LoopHead → Block → Place → ℕ → Const → List Step
  bodies head b at n c =
      turn_steps ms inner b (turn_place at head.variable c)
      (turn_path at.path (block_name at.names n (label_of b)) c)

  instance_clean : (at : Place) (x : Instance) → Clean at.path → IsName x.name
      → Follows 1 (instance_steps all_valued ms inner at x)
  instance_clean at x h w l =
      let u : Use = use_of has_any at.scopes x in
      let inside : List ℕ = at.path ++ x.name ++ codes "." in
      found_module (module_named ms x.definition) _
      (λ m e. unfolds m u inside at.modules _ (found-module ms x.definition m formed e)
      (clean_both (at.path ++ x.name) (codes ".") (clean_both at.path x.name h (name_clean x.name w)) refl)
      (join (override_steps at m u [] (connections_of x.overrides))
      (connection_steps at m u (module_scope m u inside ∷ []) [] x.connections)
      (overrides_clean at m u [] (connections_of x.overrides))
      (connections_clean at m u (module_scope m u inside ∷ []) [] x.connections))) l

  block_clean : (at : Place) (n : ℕ) (label : Option (List ℕ)) → Clean at.path → n < 2 ^ 64 → IsOptionalName label
      → Clean (block_path at (block_name at.names n label))
  block_clean at n label h k w =
      clean_both (at.path ++ block_name at.names n label) (codes ".")
      (clean_both at.path (block_name at.names n label) h (label_clean at.names n label k w)) refl

  constructs_few : (x : Item) (at : Place) (n : ℕ) → constructs x ≤ weight (Steps x at n)
  constructs_few (declaration attrs p d) at n = none-or-more (Steps (declaration attrs p d) at n)
  constructs_few (integer attrs p xs) at n = none-or-more (Steps (integer attrs p xs) at n)
  constructs_few (genvar attrs p xs) at n = none-or-more (Steps (genvar attrs p xs) at n)
  constructs_few (parameter attrs p kind xs) at n = none-or-more (Steps (parameter attrs p kind xs) at n)
  constructs_few (assign attrs p xs) at n = none-or-more (Steps (assign attrs p xs) at n)
  constructs_few (always attrs p event s) at n = none-or-more (Steps (always attrs p event s) at n)
  constructs_few (initial attrs p s) at n = none-or-more (Steps (initial attrs p s) at n)
  constructs_few (instance attrs p x) at n = none-or-more (Steps (instance attrs p x) at n)
  constructs_few (generate attrs p mark) at n = none-or-more (Steps (generate attrs p mark) at n)
  constructs_few (for_loop attrs p head b) at n =
      one-or-more (item at (for_loop attrs p head b)) (loop_turns head at.scopes (bodies head b at n))
      (loop-counts at attrs p head b)
  constructs_few (if_only attrs p c b) at n = one-or-more (item at (if_only attrs p c b)) _ (if-counts at attrs p c b)
  constructs_few (if_else attrs p c b d) at n =
      one-or-more (item at (if_else attrs p c b d)) _ (else-counts at attrs p c b d)

  -- the item of a block without `begin`
  single_clean : (b : Bool) (x : Item) (at inside : Place) (n : ℕ) → 0 < n → Follows n (Steps x at n)
      → Follows 1 (Steps x inside 1) → Follows n (Steps x (if b then at else inside) (if b then n else 1))
  single_clean true x at inside n z f g l = f l
  single_clean false x at inside n z f g l = g (few-one n (Steps x inside 1) z l)

  mutual
    item_clean : (x : Item) (at : Place) (n : ℕ) → IsWellFormed x → Clean at.path → 0 < n → Follows n (Steps x at n)
    item_clean (declaration attrs p d) at n w h z l = ((h, w), tt)
    item_clean (integer attrs p xs) at n w h z l = ((h, w), tt)
    item_clean (genvar attrs p xs) at n w h z l = ((h, w), tt)
    item_clean (parameter attrs p kind xs) at n w h z l = ((h, w), tt)
    item_clean (assign attrs p xs) at n w h z l = ((h, w), tt)
    item_clean (always attrs p event s) at n w h z l = ((h, w), tt)
    item_clean (initial attrs p s) at n w h z l = ((h, w), tt)
    item_clean (instance attrs p x) at n w h z l =
        ((h, w), instance_clean at x h w.1.2 (few-next n (item at (instance attrs p x)) (instance_steps all_valued ms inner at x) z l))
    item_clean (generate attrs p mark) at n w h z l = ((h, w), tt)
    item_clean (for_loop attrs p head b) at n w h z l =
        let few : n < 2 ^ 64 = few-start n (Steps (for_loop attrs p head b) at n) l in
        let label : List ℕ = block_name at.names n (label_of b) in
        let named : Clean label = label_clean at.names n (label_of b) few (label-named b w.2) in (
          (h, w),
          turns_clean 4096 (goes_on head at.scopes) (next_turn head at.scopes) (bodies head b at n)
              (genvar-turn head at.scopes)
              (λ c t. turn_so b (turn_place at head.variable c) (turn_path at.path label c) w.2
              (turn_clean at.path label c h named t)) (first_turn head at.scopes) (start-turn head at.scopes)
              (few-next n (item at (for_loop attrs p head b)) (loop_turns head at.scopes (bodies head b at n)) z l),
        )
    item_clean (if_only attrs p c b) at n w h z l = (
      (h, w),
      choice_clean (is_true (constant_operand (constant_in at.scopes) c)) n (block_steps ms inner b at n) []
          (block_so b at n w.2 h z) (λ k. tt) (few-tail n (item at (if_only attrs p c b)) _ l),
    )
    item_clean (if_else attrs p c b d) at n w h z l = (
      (h, w),
      choice_clean (is_true (constant_operand (constant_in at.scopes) c)) n (block_steps ms inner b at n)
          (block_steps ms inner d at n) (block_so b at n w.3 h z) (block_so d at n w.4 h z)
          (few-tail n (item at (if_else attrs p c b d)) _ l),
    )

    pub items_clean : (xs : Items) (at : Place) (n : ℕ) → AreWellFormed xs → Clean at.path → 0 < n
        → Follows n (items_steps ms inner xs at n)
    items_clean no_items at n w h z l = tt
    items_clean (more_items x xs) at n w h z l =
        let here : List Step = Steps x at n in
        let more : List Step = items_steps ms inner xs (with_earlier at (names_of x)) (n + constructs x) in
        join here more (item_clean x at n w.0 h z (few-front n here more l))
        (items_clean xs (with_earlier at (names_of x)) (n + constructs x) w.1 h (positive-sum n (constructs x) z)
        (few-rest n (constructs x) here more (constructs_few x at n) l))

    turn_so : (b : Block) (at : Place) (path : List ℕ) → IsBlock b → Clean path
        → Follows 1 (turn_steps ms inner b at path)
    turn_so (begin p label xs) at path w h l =
        (tt, items_clean xs (block_place at path xs) 1 w.2 h positive-one (few-tail 1 (block_step at (begin p label xs)) _ l))
    turn_so (region p xs) at path w h l =
        (tt, items_clean xs (block_place at path xs) 1 w.1 h positive-one (few-tail 1 (block_step at (region p xs)) _ l))
    turn_so (single x) at path w h l = (
      tt,
      item_clean x (block_place at path (more_items x no_items)) 1 w.2 h positive-one
          (few-tail 1 (block_step at (single x)) _ l),
    )

    block_so : (b : Block) (at : Place) (n : ℕ) → IsBlock b → Clean at.path → 0 < n
        → Follows n (block_steps ms inner b at n)
    block_so (begin p label xs) at n w h z l =
        let path : List ℕ = block_path at (block_name at.names n label) in (
          tt,
          items_clean xs (block_place at path xs) 1 w.2 (block_clean at n label h (few-start n _ l) w.0) positive-one
              (few-next n (block_step at (begin p label xs)) _ z l),
        )
    block_so (region p xs) at n w h z l =
        let path : List ℕ = block_path at (block_name at.names n None) in (
          tt,
          items_clean xs (block_place at path xs) 1 w.1 (block_clean at n None h (few-start n _ l) tt) positive-one
              (few-next n (block_step at (region p xs)) _ z l),
        )
    block_so (single x) at n w h z l =
        let path : List ℕ = block_path at (block_name at.names n None) in
        let inside : Place = block_place at path (more_items x no_items) in (
          tt,
          single_clean (is_if x) x at inside n z (λ k. item_clean x at n w.2 h z k)
              (λ k. item_clean x inside 1 w.2
              (block_clean at n None h (few-start n (block_steps ms inner (single x) at n) l) tt) positive-one k)
              (few-tail n (block_step at (single x)) _ l),
        )

module _ (ms : List Module) (formed : All IsModule ms) where
  pub unfolded_clean : (n : ℕ) → Unfolds (λ m u path modules before. unfolded n ms m u path modules before)
  unfolded_clean zero m u path modules before w h f l = tt
  unfolded_clean (suc n) m u path modules before w h f l =
      let at : Place = module_place m u path modules in
      let inner : Unfolding = λ m u path modules before. unfolded n ms m u path modules before in
      let names : List (List ℕ) = parameter_names (module_parameters m) in
      let heads : List Step = header_steps at (module_parameters m) in
      let ports : List Step = port_steps (with_earlier at names) u None (written_ports m.ports) in
      let at_items : Place = with_earlier at (names ++ port_names (ports_of m.ports)) in
      let rest : List Step = items_steps ms inner (items m.items) at_items 1 in
      join (before ++ heads ++ ports) rest
      (join (before ++ heads) ports (join before heads f (headers at (module_parameters m)))
      (ports_clean (with_earlier at names) u None (written_ports m.ports) h tt (written_formed m.ports w.2)))
      (items_clean ms formed inner (unfolded_clean n) (items m.items) at_items 1 w.4 h positive-one
      (few-back 1 (before ++ heads ++ ports) rest l))
