-- What is drawn from a design that isn't refused has no more nodes and names than its steps.
use Rattle.std.specs.Prelude.{◌≡◌, refl, ℕ, ◌+◌, ◌≤◌, List, [], ◌∷◌, ◌++◌, map, Bool, true, false, nat_lt}
use Rattle.std.specs.Prelude.{is_none, Option, Some, None, if◌then◌else◌}
use Rattle.std.proofs.Common.{ap, sym, ◌∙◌, subst, true≢false, arith}
use Rattle.std.proofs.lemmas.Bool.Decides.{nat_tests}
use Rattle.fv_text.specs.declared.pos.Pos.{Pos}
use Rattle.vl_tree.specs.declared.declaration.DeclaredName.{DeclaredName}
use Rattle.vl_tree.specs.declared.declaration.Direction.{Direction}
use Rattle.vl_tree.specs.declared.declaration.Direction.TheVariants as direction
use Rattle.vl_tree.specs.declared.declaration.FullPort.{FullPort}
use Rattle.vl_tree.specs.declared.declaration.NetKind.{NetKind}
use Rattle.vl_tree.specs.declared.declaration.NetKind.TheVariants as net
use Rattle.vl_tree.specs.declared.part.Assignment.{Assignment}
use Rattle.vl_tree.specs.declared.part.EventKind.{EventKind}
use Rattle.vl_tree.specs.declared.part.EventKind.TheVariants as event
use Rattle.vl_tree.specs.declared.source.Module.{Module}
use Rattle.vl_tree.specs.Expr.{Expr, Exprs, number, name, paren, unary, binary, conditional, concat, repeat, cast}
use Rattle.vl_tree.specs.Expr.{none, more}
use Rattle.vl_tree.specs.Item.{Item, declaration, integer, genvar, parameter, assign, always, initial, instance}
use Rattle.vl_tree.specs.Item.{generate, for_loop, if_only, if_else}
use Rattle.vl_tree.specs.Lval.{Lval, Lvals, joined, more_lvals}
use Rattle.vl_tree.specs.Stmt as stmt
use Rattle.vl_tree.specs.Stmt.{Stmt, Stmts, no_stmts, more_stmts}
use Rattle.vl_size.specs.declared.decl.Decl.{Decl}
use Rattle.vl_size.specs.Size.{◌>>=◌}
use Rattle.vl_mean.specs.declared.driver.Driver.{Driver}
use Rattle.vl_mean.specs.declared.driver.DriverKind.{DriverKind}
use Rattle.vl_mean.specs.declared.driver.Start.{Start}
use Rattle.vl_mean.specs.Declarations.{declared_by, port_decl, port_named, ports_of}
use Rattle.vl_mean.specs.FlatLaw.{all_names_count, all_nodes, all_stmt_nodes, all_target_nodes, driver_nodes}
use Rattle.vl_mean.specs.FlatLaw.{name_count}
use Rattle.vl_mean.specs.FlatLaw.{node_count, nodes, stmt_nodes, target_nodes}
use Rattle.vl_mean.specs.Parts.{Part, declares, equation, combinational, clocked, starts, all_initial_parts}
use Rattle.vl_mean.specs.Parts.{assignments}
use Rattle.vl_mean.specs.Parts.{block_part, connection_part, declares_all, design, initial_parts, item_parts}
use Rattle.vl_mean.specs.Parts.{optional_value, parts_of_steps, plain, plain_target, port_kind, port_part, step_parts}
use Rattle.vl_mean.specs.Parts.{target_of, targets_of, values_of, with_target}
use Rattle.vl_mean.specs.Scopes.{Scope, is_clock}
use Rattle.vl_mean.specs.Walk.{Place, Step, header, port, item, override, connection, block_step, walk}
use Rattle.vl_mean_flat.specs.Flattened.{decls_of}
use Rattle.vl_elab_spec.specs.declared.elab_fault.ElabFault.{ElabFault}
use Rattle.vl_elab_spec.specs.declared.elab_fault.ElabFault.TheVariants as f
use Rattle.vl_elab_spec.specs.Counts.{assignment_nodes, item_nodes, name_nodes, step_names, step_nodes}
use Rattle.vl_elab_spec.specs.Counts.{loop_nodes, value_nodes}
use Rattle.vl_elab_spec.specs.Items.{step_refusals}
use Rattle.vl_elab_spec.specs.Refused.{Totals, counted, first_refused, is_too_large, lowest}
use Rattle.vl_elab_spec.specs.Refused.{or_later, refusals_at}
use Rattle.vl_elab_accepted_laws.specs.Unrefused.{NoStepRefused}
use Rattle.vl_elab_accepted_laws.proofs.Contained.{or_first, or_second}
use Rattle.vl_elab_accepted_laws.proofs.Fresh.{NoneOf, none-back, not-refused}
use Rattle.vl_elab_draft.specs.Drawn.{drivers_of, starts_of}
use Rattle.vl_elab_flatten_laws.proofs.Nodes.{flat_nodes, flat_target_nodes, flat_stmt_nodes}

-- ---- nodes of parts

-- of what is drawn from a part
abbrev part_nodes : Part → ℕ
part_nodes (declares d) = 0
part_nodes (equation ts l ss e) = target_nodes l + nodes e
part_nodes (combinational ss s) = stmt_nodes s
part_nodes (clocked ss s) = stmt_nodes s
part_nodes (starts ss l e) = target_nodes l

abbrev parts_nodes : List Part → ℕ
parts_nodes [] = 0
parts_nodes (p ∷ ps) = part_nodes p + parts_nodes ps

parts_both : (ps qs : List Part) → parts_nodes (ps ++ qs) ≡ parts_nodes ps + parts_nodes qs
parts_both [] qs = omega arith
parts_both (p ∷ ps) qs = let rest : parts_nodes (ps ++ qs) ≡ parts_nodes ps + parts_nodes qs = parts_both ps qs in omega (arith, rest)

abbrev kinds_nodes : List DriverKind → ℕ
kinds_nodes [] = 0
kinds_nodes (k ∷ ks) = driver_nodes k + kinds_nodes ks

abbrev starts_nodes : List Start → ℕ
starts_nodes xs = node_count [] xs

count_is : (ds : List Driver) (xs : List Start)
    → node_count ds xs ≡ kinds_nodes (map (λ x. x.what) ds) + starts_nodes xs
count_is [] xs = omega arith
count_is (d ∷ ds) xs =
    let rest : node_count ds xs ≡ kinds_nodes (map (λ x. x.what) ds) + starts_nodes xs = count_is ds xs in
    omega (arith, rest)

drawn_few : (ps : List Part) → kinds_nodes (drivers_of ps) + starts_nodes (starts_of ps) ≤ parts_nodes ps
drawn_few [] = omega arith
drawn_few (declares d ∷ ps) = let rest = drawn_few ps in omega (arith, rest)
drawn_few (equation ts l ss e ∷ ps) =
    let rest = drawn_few ps in let target = flat_target_nodes ts l in let value = flat_nodes ss e in
    omega (arith, rest, target, value)
drawn_few (combinational ss s ∷ ps) =
    let rest = drawn_few ps in let here = flat_stmt_nodes ss s in omega (arith, rest, here)
drawn_few (clocked ss s ∷ ps) =
    let rest = drawn_few ps in let here = flat_stmt_nodes ss s in omega (arith, rest, here)
drawn_few (starts ss l e ∷ ps) =
    let rest = drawn_few ps in let target = flat_target_nodes ss l in omega (arith, rest, target)

-- ---- nodes of steps

declares_none : (path : List ℕ) (ds : List Decl) → parts_nodes (declares_all path ds) ≡ 0
declares_none path [] = refl
declares_none path (d ∷ ds) =
    let rest : parts_nodes (declares_all path ds) ≡ 0 = declares_none path ds in omega (arith, rest)

value_few : (ss : List Scope) (kind : NetKind) (text : List ℕ) (value : Option Expr)
    → parts_nodes (optional_value ss kind text value) ≤ value_nodes value + 1
value_few ss kind text None = omega arith
value_few ss net.Wire text (Some e) = omega arith
value_few ss net.Reg text (Some e) = omega arith

values_few : (ss : List Scope) (kind : NetKind) (xs : List DeclaredName)
    → parts_nodes (values_of ss kind xs) ≤ name_nodes xs
values_few ss kind [] = omega arith
values_few ss kind (x ∷ xs) =
    let both = parts_both (optional_value ss kind x.name x.value) (values_of ss kind xs) in
    let here = value_few ss kind x.name x.value in let rest = values_few ss kind xs in
    omega (arith, both, here, rest)

assignments_few : (ss : List Scope) (xs : List Assignment) → parts_nodes (assignments ss xs) ≤ assignment_nodes xs
assignments_few ss [] = omega arith
assignments_few ss (x ∷ xs) = let rest = assignments_few ss xs in omega (arith, rest)

block_few : (ss : List Scope) (kind : EventKind) (s : Stmt) → parts_nodes (block_part ss kind s ∷ []) ≤ stmt_nodes s
block_few ss event.Bare s = omega arith
block_few ss event.Spaced s = omega arith
block_few ss event.OpenJoined s = omega arith
block_few ss event.CloseJoined s = omega arith
block_few ss (event.Posedge text) s = omega arith

mutual
  initial_few : (ss : List Scope) (s : Stmt) → parts_nodes (initial_parts ss s) ≤ stmt_nodes s
  initial_few ss (stmt.begin attrs p label xs) = let inner = all_initial_few ss xs in omega (arith, inner)
  initial_few ss (stmt.assign attrs p l kind e) = omega arith
  initial_few ss (stmt.if_only attrs p e x) = omega arith
  initial_few ss (stmt.if_else attrs p e x y) = omega arith
  initial_few ss (stmt.case attrs p kind e arms) = omega arith
  initial_few ss (stmt.assume attrs p e) = omega arith
  initial_few ss (stmt.empty attrs p) = omega arith

  all_initial_few : (ss : List Scope) (xs : Stmts) → parts_nodes (all_initial_parts ss xs) ≤ all_stmt_nodes xs
  all_initial_few ss no_stmts = omega arith
  all_initial_few ss (more_stmts x xs) =
      let both = parts_both (initial_parts ss x) (all_initial_parts ss xs) in
      let here = initial_few ss x in let rest = all_initial_few ss xs in omega (arith, both, here, rest)

-- a target has no more nodes than the expression that it is
abbrev of_target : Option Lval → ℕ
of_target None = 0
of_target (Some l) = target_nodes l

abbrev of_targets : Option Lvals → ℕ
of_targets None = 0
of_targets (Some ls) = all_target_nodes ls

joined_few : (p : Pos) (o : Option Lvals) → of_target (o >>= λ ls. Some (joined p ls)) ≤ of_targets o + 1
joined_few p None = omega arith
joined_few p (Some ls) = omega arith

one_more : (l : Lval) (o : Option Lvals)
    → of_targets (o >>= λ ls. Some (more_lvals l ls)) ≤ target_nodes l + of_targets o
one_more l None = omega arith
one_more l (Some ls) = omega arith

more_few : (o : Option Lval) (q : Option Lvals)
    → of_targets (o >>= λ l. q >>= λ ls. Some (more_lvals l ls)) ≤ of_target o + of_targets q
more_few None q = omega arith
more_few (Some l) q = one_more l q

mutual
  target_few : (e : Expr) → of_target (target_of e) ≤ nodes e
  target_few (name p text ss) = omega arith
  target_few (concat p es) =
      let inner = targets_few es in let here = joined_few p (targets_of es) in omega (arith, inner, here)
  target_few (number p n) = omega arith
  target_few (paren p x) = omega arith
  target_few (unary p op x) = omega arith
  target_few (binary p op x y) = omega arith
  target_few (conditional p c x y) = omega arith
  target_few (repeat p n es) = omega arith
  target_few (cast p to x) = omega arith

  targets_few : (es : Exprs) → of_targets (targets_of es) ≤ all_nodes es
  targets_few none = omega arith
  targets_few (more e es) =
      let first = target_few e in let rest = targets_few es in
      let here = more_few (target_of e) (targets_of es) in omega (arith, first, rest, here)

output_few : (ss inside : List Scope) (text : List ℕ) (o : Option Lval)
    → parts_nodes (with_target o (λ l. equation ss l inside (plain text) ∷ [])) ≤ of_target o + 1
output_few ss inside text None = omega arith
output_few ss inside text (Some l) = omega arith

input_few : (clock : Bool) (ss inside : List Scope) (text : List ℕ) (e : Expr)
    → parts_nodes (if clock then [] else equation inside (plain_target text) ss e ∷ []) ≤ nodes e + 1
input_few true ss inside text e = omega arith
input_few false ss inside text e = omega arith

connection_few : (ss inside : List Scope) (k : Direction) (text : List ℕ) (e : Expr)
    → parts_nodes (connection_part ss inside k text e) ≤ nodes e + 1
connection_few ss inside direction.Input text e = input_few (is_clock ss (Some e)) ss inside text e
connection_few ss inside direction.Output text e =
    let here = output_few ss inside text (target_of e) in let target = target_few e in omega (arith, here, target)

port_few : (ss inside : List Scope) (q : Option FullPort) (value : Option Expr)
    → parts_nodes (port_part ss inside q value) ≤ value_nodes value + 1
port_few ss inside None value = omega arith
port_few ss inside (Some q) None = omega arith
port_few ss inside (Some q) (Some e) = connection_few ss inside q.direction q.name e

none_few : (n : ℕ) → 0 ≤ n
none_few n = omega arith

item_few : (at : Place) (x : Item) → parts_nodes (item_parts at x) ≤ item_nodes at x
item_few at (declaration attrs p d) =
    let both = parts_both (declares_all at.path (declared_by at.around (declaration attrs p d)))
    (values_of at.scopes d.net d.names) in
    let first = declares_none at.path (declared_by at.around (declaration attrs p d)) in
    let rest = values_few at.scopes d.net d.names in omega (arith, both, first, rest)
item_few at (integer attrs p xs) =
    let both = parts_both (declares_all at.path (declared_by at.around (integer attrs p xs)))
    (values_of at.scopes net.Reg xs) in
    let first = declares_none at.path (declared_by at.around (integer attrs p xs)) in
    let rest = values_few at.scopes net.Reg xs in omega (arith, both, first, rest)
item_few at (genvar attrs p xs) = omega arith
item_few at (parameter attrs p kind xs) = omega arith
item_few at (assign attrs p xs) = let here = assignments_few at.scopes xs in omega (arith, here)
item_few at (always attrs p e s) = let here = block_few at.scopes e.kind s in omega (arith, here)
item_few at (initial attrs p s) = let here = initial_few at.scopes s in omega (arith, here)
item_few at (instance attrs p x) = omega arith
item_few at (generate attrs p mark) = omega arith
item_few at (for_loop attrs p head b) =
    none_few (nodes head.start + loop_nodes head at + 1)
item_few at (if_only attrs p c b) = omega arith
item_few at (if_else attrs p c b d) = omega arith

step_few : (x : Step) → parts_nodes (step_parts x) ≤ step_nodes x
step_few (header at x) = omega arith
step_few (port at u p q) =
    let here = value_few at.scopes (port_kind q.net) q.name q.value in omega (arith, here)
step_few (item at x) = item_few at x
step_few (override at m u given x) = omega arith
step_few (block_step at b) = omega arith
step_few (connection at m u inside given x) =
    port_few at.scopes inside (port_named (ports_of m.ports) x.port) x.value

-- ---- names

names_both : (ds es : List Decl) → all_names_count (ds ++ es) ≡ all_names_count ds + all_names_count es
names_both [] es = omega arith
names_both (d ∷ ds) es =
    let rest : all_names_count (ds ++ es) ≡ all_names_count ds + all_names_count es = names_both ds es in
    omega (arith, rest)

abbrev names_in_parts : List Part → ℕ
names_in_parts ps = all_names_count (decls_of ps)

declared_both : (ps qs : List Part) → names_in_parts (ps ++ qs) ≡ names_in_parts ps + names_in_parts qs
declared_both [] qs = omega arith
declared_both (declares d ∷ ps) qs =
    let rest : names_in_parts (ps ++ qs) ≡ names_in_parts ps + names_in_parts qs = declared_both ps qs in
    omega (arith, rest)
declared_both (equation ts l ss e ∷ ps) qs = declared_both ps qs
declared_both (combinational ss s ∷ ps) qs = declared_both ps qs
declared_both (clocked ss s ∷ ps) qs = declared_both ps qs
declared_both (starts ss l e ∷ ps) qs = declared_both ps qs

under_path : (path : List ℕ) (ds : List Decl) → names_in_parts (declares_all path ds) ≡ all_names_count ds
under_path path [] = refl
under_path path (d ∷ ds) = ap (λ n. name_count d.words + n) (under_path path ds)

value_names : (ss : List Scope) (kind : NetKind) (text : List ℕ) (value : Option Expr)
    → names_in_parts (optional_value ss kind text value) ≡ 0
value_names ss kind text None = refl
value_names ss net.Wire text (Some e) = refl
value_names ss net.Reg text (Some e) = refl

values_names : (ss : List Scope) (kind : NetKind) (xs : List DeclaredName) → names_in_parts (values_of ss kind xs) ≡ 0
values_names ss kind [] = refl
values_names ss kind (x ∷ xs) =
    declared_both (optional_value ss kind x.name x.value) (values_of ss kind xs)
    ∙ (λ i. value_names ss kind x.name x.value i + values_names ss kind xs i)

assignments_names : (ss : List Scope) (xs : List Assignment) → names_in_parts (assignments ss xs) ≡ 0
assignments_names ss [] = refl
assignments_names ss (x ∷ xs) = assignments_names ss xs

block_names : (ss : List Scope) (kind : EventKind) (s : Stmt) → names_in_parts (block_part ss kind s ∷ []) ≡ 0
block_names ss event.Bare s = refl
block_names ss event.Spaced s = refl
block_names ss event.OpenJoined s = refl
block_names ss event.CloseJoined s = refl
block_names ss (event.Posedge text) s = refl

mutual
  initial_names : (ss : List Scope) (s : Stmt) → names_in_parts (initial_parts ss s) ≡ 0
  initial_names ss (stmt.begin attrs p label xs) = all_initial_names ss xs
  initial_names ss (stmt.assign attrs p l kind e) = refl
  initial_names ss (stmt.if_only attrs p e x) = refl
  initial_names ss (stmt.if_else attrs p e x y) = refl
  initial_names ss (stmt.case attrs p kind e arms) = refl
  initial_names ss (stmt.assume attrs p e) = refl
  initial_names ss (stmt.empty attrs p) = refl

  all_initial_names : (ss : List Scope) (xs : Stmts) → names_in_parts (all_initial_parts ss xs) ≡ 0
  all_initial_names ss no_stmts = refl
  all_initial_names ss (more_stmts x xs) =
      declared_both (initial_parts ss x) (all_initial_parts ss xs)
      ∙ (λ i. initial_names ss x i + all_initial_names ss xs i)

output_names : (ss inside : List Scope) (text : List ℕ) (o : Option Lval)
    → names_in_parts (with_target o (λ l. equation ss l inside (plain text) ∷ [])) ≡ 0
output_names ss inside text None = refl
output_names ss inside text (Some l) = refl

input_names : (clock : Bool) (ss inside : List Scope) (text : List ℕ) (e : Expr)
    → names_in_parts (if clock then [] else equation inside (plain_target text) ss e ∷ []) ≡ 0
input_names true ss inside text e = refl
input_names false ss inside text e = refl

port_part_names : (ss inside : List Scope) (q : Option FullPort) (value : Option Expr)
    → names_in_parts (port_part ss inside q value) ≡ 0
port_part_names ss inside None value = refl
port_part_names ss inside (Some q) None = refl
port_part_names ss inside (Some q) (Some e) = by q.direction
  where
    by : (k : Direction) → names_in_parts (connection_part ss inside k q.name e) ≡ 0
    by direction.Input = input_names (is_clock ss (Some e)) ss inside q.name e
    by direction.Output = output_names ss inside q.name (target_of e)

none_after : (path : List ℕ) (ds : List Decl) (ps : List Part) → names_in_parts ps ≡ 0
    → names_in_parts (declares_all path ds ++ ps) ≡ all_names_count ds
none_after path ds ps h =
    let both = declared_both (declares_all path ds) ps in let first = under_path path ds in omega (arith, both, first, h)

item_declares : (at : Place) (x : Item)
    → names_in_parts (item_parts at x) ≡ all_names_count (declared_by at.around x)
item_declares at (declaration attrs p d) =
    none_after at.path (declared_by at.around (declaration attrs p d)) (values_of at.scopes d.net d.names)
    (values_names at.scopes d.net d.names)
item_declares at (integer attrs p xs) =
    none_after at.path (declared_by at.around (integer attrs p xs)) (values_of at.scopes net.Reg xs)
    (values_names at.scopes net.Reg xs)
item_declares at (genvar attrs p xs) = refl
item_declares at (parameter attrs p kind xs) = refl
item_declares at (assign attrs p xs) = assignments_names at.scopes xs
item_declares at (always attrs p e s) = block_names at.scopes e.kind s
item_declares at (initial attrs p s) = initial_names at.scopes s
item_declares at (instance attrs p x) = refl
item_declares at (generate attrs p mark) = refl
item_declares at (for_loop attrs p head b) = refl
item_declares at (if_only attrs p c b) = refl
item_declares at (if_else attrs p c b d) = refl

step_declares : (x : Step) → names_in_parts (step_parts x) ≡ step_names x
step_declares (header at x) = refl
step_declares (port at u p q) =
    none_after at.path (port_decl at.around u.is_top u.input q ∷ [])
    (optional_value at.scopes (port_kind q.net) q.name q.value)
    (value_names at.scopes (port_kind q.net) q.name q.value)
step_declares (item at x) = item_declares at x
step_declares (override at m u given x) = refl
step_declares (block_step at b) = refl
step_declares (connection at m u inside given x) =
    port_part_names at.scopes inside (port_named (ports_of m.ports) x.port) x.value

-- ---- no step is refused for its size

later-first : (g h : Option ElabFault) → or_later g h ≡ None → g ≡ None
later-first None h e = refl
later-first (Some g) h e = e

later-second : (g h : Option ElabFault) → or_later g h ≡ None → h ≡ None
later-second None h e = e
later-second (Some g) h e = absurd (true≢false (sym (ap is_none e)))

lowest-none : (gs : List ElabFault) → lowest gs ≡ None → NoneOf gs
lowest-none [] e = refl
lowest-none (g ∷ gs) e = absurd (true≢false (sym (ap is_none e)))

record AreFew (t : Totals) (xs : List Step) : Type 0 where
  nodes_few : t.nodes + parts_nodes (parts_of_steps xs) ≤ 4000000
  names_few : t.names + names_in_parts (parts_of_steps xs) ≤ 200000

not_past : (limit n : ℕ) → nat_lt limit n ≡ false → n ≤ limit
not_past limit n h = grind (arith, nat_tests)

few_steps : (ms : List Module) (t : Totals) (xs : List Step) → t.nodes ≤ 4000000 → t.names ≤ 200000
    → first_refused ms t xs ≡ None → AreFew t xs
few_steps ms t [] h k e = record { nodes_few = omega (arith, h); names_few = omega (arith, k) }
few_steps ms t (x ∷ xs) h k e =
    let here : NoneOf (refusals_at ms t x)
    = lowest-none (refusals_at ms t x) (later-first (lowest (refusals_at ms t x))
    (first_refused ms (counted t x) xs) e) in
    let small : is_too_large (counted t x) ≡ false
    = not-refused (is_too_large (counted t x)) _ (none-back (step_refusals ms x) _ here) in
    let few : t.nodes + step_nodes x ≤ 4000000
    = not_past 4000000 (t.nodes + step_nodes x) (or_first _ _ small) in
    let fewer : t.names + step_names x ≤ 200000
    = not_past 200000 (t.names + step_names x) (or_second (nat_lt 4000000 (t.nodes + step_nodes x)) _ small) in
    let rest : AreFew (counted t x) xs
    = few_steps ms (counted t x) xs few fewer
    (later-second (lowest (refusals_at ms t x)) (first_refused ms (counted t x) xs) e) in
    let more : t.nodes + step_nodes x + parts_nodes (parts_of_steps xs) ≤ 4000000 = rest.nodes_few in
    let names : t.names + step_names x + names_in_parts (parts_of_steps xs) ≤ 200000 = rest.names_few in
    let first : parts_nodes (step_parts x) ≤ step_nodes x = step_few x in
    let declares_so : names_in_parts (step_parts x) ≡ step_names x = step_declares x in
    let two : parts_nodes (parts_of_steps (x ∷ xs)) ≡ parts_nodes (step_parts x) + parts_nodes (parts_of_steps xs)
    = parts_both (step_parts x) (parts_of_steps xs) in
    let both : names_in_parts (parts_of_steps (x ∷ xs))
    ≡ names_in_parts (step_parts x) + names_in_parts (parts_of_steps xs)
    = declared_both (step_parts x) (parts_of_steps xs) in
    record { nodes_few = omega (arith, more, first, two); names_few = omega (arith, names, declares_so, both) }

walk_few : (ms : List Module) (top : List ℕ) → NoStepRefused ms top
    → AreFew (record { nodes = 0; names = 0 }) (walk ms top)
walk_few ms top e = few_steps ms (record { nodes = 0; names = 0 }) (walk ms top) (omega arith) (omega arith) e

pub design_names : (ms : List Module) (top : List ℕ) → NoStepRefused ms top
    → all_names_count (decls_of (design ms top)) ≤ 200000
design_names ms top e =
    let few : 0 + names_in_parts (design ms top) ≤ 200000 = (walk_few ms top e).names_few in omega (arith, few)

pub design_nodes : (ms : List Module) (top : List ℕ) (xs : List Driver) → NoStepRefused ms top
    → map (λ x. x.what) xs ≡ drivers_of (design ms top) → node_count xs (starts_of (design ms top)) ≤ 4000000
design_nodes ms top xs e h =
    let few : 0 + parts_nodes (design ms top) ≤ 4000000 = (walk_few ms top e).nodes_few in
    let drawn = drawn_few (design ms top) in
    let is : node_count xs (starts_of (design ms top))
    ≡ kinds_nodes (drivers_of (design ms top)) + starts_nodes (starts_of (design ms top))
    = count_is xs (starts_of (design ms top)) ∙ (λ i. kinds_nodes (h i) + starts_nodes (starts_of (design ms top))) in
    subst (λ n. n ≤ 4000000) (sym is) (omega (arith, few, drawn))
