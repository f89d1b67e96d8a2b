-- The full names that the items of a scope declare differ.
use Rattle.std.specs.Prelude.{◌≡◌, refl, ℕ, ◌+◌, ◌<◌, ◌≤◌, ◌^◌, List, [], ◌∷◌, ◌++◌}
use Rattle.std.specs.Prelude.{Bool, true, false, Option, Some, None, option_to_list, bytes_eq, All, if◌then◌else◌}
use Rattle.std.specs.Prelude.{◌⊎◌}
use Rattle.std.proofs.Common.{ap, sym, ◌∙◌, true≢false, subst, arith, append-nil, inl, inr, ⊎_elim}
use Rattle.std.proofs.lemmas.Option.{same_Some}
use Rattle.vl_tree.specs.declared.declaration.NetKind.TheVariants as net
use Rattle.vl_tree.specs.declared.part.Connection.{Connection}
use Rattle.vl_tree.specs.declared.part.LoopHead.{LoopHead}
use Rattle.vl_tree.specs.declared.source.Module.{Module}
use Rattle.vl_tree.specs.StmtWellFormed.{IsOptionalName}
use Rattle.vl_tree.specs.WellFormed.{IsBlock, IsModule}
use Rattle.vl_tree.specs.Item.{
  Item,
  Block,
  declaration,
  integer,
  genvar,
  parameter,
  assign,
  always,
  initial,
  instance,
  generate,
  for_loop,
  if_only,
  if_else,
  begin,
  region,
  single,
}
use Rattle.vl_mean.specs.declared.const_number.Const.{Const}
use Rattle.vl_mean.specs.Declarations.{names_of, labels_of, constructs, is_if, label_of, block_labels}
use Rattle.vl_mean.specs.Declarations.{block_name, unlabelled, declared_by, port_named, ports_of, class_of_attributes}
use Rattle.vl_mean.specs.Declarations.{class_of_kind, joined_attributes}
use Rattle.vl_size.specs.declared.decl.Class.TheVariants as class
use Rattle.vl_mean.specs.Parts.{declares_all, values_of, item_parts}
use Rattle.vl_mean.specs.Runs.{Each}
use Rattle.vl_mean.specs.Walk.{Place, Use, Step, Unfolding, item, module_named, with_module}
use Rattle.vl_mean.specs.Walk.{override_steps, connection_steps}
use Rattle.vl_mean.specs.Walk.{next_turn, first_turn}
use Rattle.vl_mean.specs.Scopes.{Scope}
use Rattle.vl_elab_accepted_laws.proofs.Contained.{Has, Lacks, Different, clash, has-first, lacks-front}
use Rattle.vl_elab_accepted_laws.proofs.Contained.{lacks-back, each-has, each-of}
use Rattle.vl_elab_accepted_laws.proofs.Declared.{part_names, full_names, full-append, part-append, values-none}
use Rattle.vl_elab_accepted_laws.proofs.Declared.{assignments-none}
use Rattle.vl_elab_accepted_laws.proofs.Declared.{block-none, initial-none, connection-none, under, name_list}
use Rattle.vl_elab_accepted_laws.proofs.Declared.{vectors-under}
use Rattle.vl_elab_accepted_laws.proofs.Declared.{integers-under}
use Rattle.vl_elab_accepted_laws.proofs.Genblk.{is_mark, unlabelled-lacks, unlabelled-number, unlabelled-free}
use Rattle.vl_elab_accepted_laws.proofs.Good.{Good, good-none, Under, Any, good-under}
use Rattle.vl_elab_accepted_laws.proofs.Loops.{AreClear, AreFew}
use Rattle.vl_elab_accepted_laws.proofs.Plain.{Plain, name-plain, all-head, all-tail}
use Rattle.vl_elab_accepted_laws.proofs.Texts.{until, until-free}
use Rattle.vl_elab_accepted_laws.proofs.Turns.{IsTurn}

-- ---- with what the names of an item begin

-- the name of a generate construct's block without a label
pub record IsNumbered (names : List (List ℕ)) (count n : ℕ) (h : List ℕ) : Type 0 where
  pub one : count ≡ 1
  pub is : h ≡ unlabelled names n

abbrev pub ItemHead : List (List ℕ) → Item → ℕ → List ℕ → Type 0
ItemHead names x n h = Has (names_of x) h ⊎ IsNumbered names (constructs x) n h

abbrev pub BlockHead : List (List ℕ) → Block → ℕ → List ℕ → Type 0
BlockHead names b n h = Has (block_labels b) h ⊎ (h ≡ unlabelled names n)

-- a name of the scope that isn't declared before
pub record IsNew (names earlier : List (List ℕ)) (h : List ℕ) : Type 0 where
  pub here : Has names h
  pub new : Lacks earlier h

-- of a construct that isn't before
pub record IsBehind (names : List (List ℕ)) (n : ℕ) (h : List ℕ) : Type 0 where
  pub number : ℕ
  pub from : n ≤ number
  pub few : number < 2 ^ 64
  pub is : h ≡ unlabelled names number

abbrev pub ItemsHead : List (List ℕ) → List (List ℕ) → ℕ → List ℕ → Type 0
ItemsHead names earlier n h = IsNew names earlier h ⊎ IsBehind names n h

-- no unlabelled block has a name of the scope
pub not-numbered : (names : List (List ℕ)) (n : ℕ) (h : List ℕ) → h ≡ unlabelled names n → Has names h
    → ⊥
not-numbered names n h e k = clash (subst (Has names) e k) (unlabelled-lacks names n)

module _ (names earlier : List (List ℕ)) (x : Item) (n : ℕ) (positive : 0 < n) (few : n < 2 ^ 64)
    (here : Each (Has names) (names_of x)) where
  pub item-apart : (h : List ℕ) → ItemHead names x n h
      → ItemsHead names (earlier ++ names_of x) (n + constructs x) h → ⊥
  item-apart h p q =
      ⊎_elim (λ (a : Has (names_of x) h).
      ⊎_elim (λ (b : IsNew names (earlier ++ names_of x) h). clash a (lacks-back earlier (names_of x) h b.new))
      (λ (b : IsBehind names (n + constructs x) h).
      not-numbered names b.number h b.is (each-has (Has names) (names_of x) h here a)) q)
      (λ (a : IsNumbered names (constructs x) n h).
      ⊎_elim (λ (b : IsNew names (earlier ++ names_of x) h). not-numbered names n h a.is b.here)
      (λ (b : IsBehind names (n + constructs x) h).
      let from : n + constructs x ≤ b.number = b.from in
      let one : constructs x ≡ 1 = a.one in
      let some : 0 < b.number = omega arith in
      let same : n ≡ b.number = unlabelled-number names n b.number positive some few b.few (sym a.is ∙ b.is) in
      absurd (omega arith)) q) p

  pub item-first : Each (Lacks earlier) (names_of x) → (h : List ℕ) → ItemHead names x n h
      → ItemsHead names earlier n h
  item-first new h p =
      ⊎_elim (λ (a : Has (names_of x) h). inl (record {
        here = each-has (Has names) (names_of x) h here a;
        new = each-has (Lacks earlier) (names_of x) h new a;
      }))
      (λ (a : IsNumbered names (constructs x) n h).
      inr (record { number = n; from = omega arith; few = few; is = a.is })) p

  pub item-rest : (h : List ℕ) → ItemsHead names (earlier ++ names_of x) (n + constructs x) h
      → ItemsHead names earlier n h
  item-rest h q =
      ⊎_elim (λ (b : IsNew names (earlier ++ names_of x) h).
      inl (record { here = b.here; new = lacks-front earlier (names_of x) h b.new }))
      (λ (b : IsBehind names (n + constructs x) h).
      let from : n + constructs x ≤ b.number = b.from in
      inr (record { number = b.number; from = omega arith; few = b.few; is = b.is })) q

-- ---- what an item declares by itself

abbrev object_names : Item → List (List ℕ)
object_names (declaration attrs p d) = name_list d.names
object_names (integer attrs p xs) = name_list xs
object_names x = []

own-parts : (at : Place) (x : Item) → part_names (item_parts at x) ≡ under at.path (object_names x)
own-parts at (declaration attrs p d) =
    part-append (declares_all at.path (declared_by at.around (declaration attrs p d)))
    (values_of at.scopes d.net d.names)
    ∙ (λ i. vectors-under at.path at.around (class_of_attributes (class_of_kind d.net) (joined_attributes attrs))
    d.shape d.names i ++ values-none at.scopes d.net d.names i)
    ∙ append-nil _
own-parts at (integer attrs p xs) =
    part-append (declares_all at.path (declared_by at.around (integer attrs p xs))) (values_of at.scopes net.Reg xs)
    ∙ (λ i. integers-under at.path at.around (class_of_attributes class.Variable (joined_attributes attrs)) xs i
    ++ values-none at.scopes net.Reg xs i)
    ∙ append-nil _
own-parts at (genvar attrs p xs) = refl
own-parts at (parameter attrs p kind xs) = refl
own-parts at (assign attrs p xs) = assignments-none at.scopes xs
own-parts at (always attrs p event s) = block-none at.scopes event.kind s
own-parts at (initial attrs p s) = initial-none at.scopes s
own-parts at (instance attrs p x) = refl
own-parts at (generate attrs p mark) = refl
own-parts at (for_loop attrs p head b) = refl
own-parts at (if_only attrs p c b) = refl
own-parts at (if_else attrs p c b d) = refl

-- the item alone
alone : (at : Place) (x : Item) → full_names (item at x ∷ []) ≡ under at.path (object_names x)
alone at x = append-nil (part_names (item_parts at x)) ∙ own-parts at x

module _ (ms : List Module) where
  pub good-objects : (names : List (List ℕ)) (n : ℕ) (at : Place) (x : Item) → object_names x ≡ names_of x
      → Each Plain (names_of x) → Different (names_of x)
      → Good (Under at.path (ItemHead names x n)) (full_names (item at x ∷ []))
  good-objects names n at x same plain different =
      let ns : List (List ℕ) = names_of x in
      let each : Each (λ m. ItemHead names x n (until is_mark m)) ns
      = each-of (λ m. ItemHead names x n (until is_mark m)) ns (λ m h.
      inl (subst (Has ns) (sym (until-free is_mark m (each-has Plain ns m plain h))) h)) in
      subst (Good (Under at.path (ItemHead names x n))) (ap (under at.path) (sym same) ∙ sym (alone at x))
      (good-under at.path (ItemHead names x n) ns each different)

  -- one that declares nothing
  pub good-nothing : (P : List ℕ → Type 0) (at : Place) (x : Item) → object_names x ≡ []
      → Good P (full_names (item at x ∷ []))
  good-nothing P at x e =
      subst (Good P) (ap (under at.path) (sym e) ∙ sym (alone at x)) (good-none P)

-- ---- instances

overrides-none : (at : Place) (m : Module) (u : Use) (given : List (List ℕ)) (xs : List Connection)
    → full_names (override_steps at m u given xs) ≡ []
overrides-none at m u given [] = refl
overrides-none at m u given (x ∷ xs) = overrides-none at m u (given ++ x.port ∷ []) xs

connections-none : (at : Place) (m : Module) (u : Use) (inside : List Scope) (given : List (List ℕ))
    (xs : List Connection) → full_names (connection_steps at m u inside given xs) ≡ []
connections-none at m u inside given [] = refl
connections-none at m u inside given (x ∷ xs) =
    λ i. connection-none at.scopes inside (port_named (ports_of m.ports) x.port) x.value i
    ++ connections-none at m u inside (given ++ x.port ∷ []) xs i

pub front-none : (at : Place) (m : Module) (u : Use) (inside : List Scope) (xs ys : List Connection)
    → full_names (override_steps at m u [] xs ++ connection_steps at m u inside [] ys) ≡ []
front-none at m u inside xs ys =
    full-append (override_steps at m u [] xs) (connection_steps at m u inside [] ys)
    ∙ (λ i. overrides-none at m u [] xs i ++ connections-none at m u inside [] ys i)

pub found-module : (ms : List Module) (text : List ℕ) (m : Module) → All IsModule ms → module_named ms text ≡ Some m
    → IsModule m
found-module [] text m h e = absurd (none_some e)
  where
    none_some : None ≡ Some m → ⊥
    none_some e = cc
found-module (x ∷ ms) text m h e =
    by (bytes_eq text x.name) (found-module ms text m (all-tail IsModule x ms h)) e
  where
    by : (b : Bool) → (module_named ms text ≡ Some m → IsModule m)
        → (if b then Some x else module_named ms text) ≡ Some m → IsModule m
    by true next e = subst IsModule (same_Some x m e) (all-head IsModule x ms h)
    by false next e = next e

pub good-module : (ms : List Module) (P : List ℕ → Type 0) (text : List ℕ) (F : Module → List Step)
    → All IsModule ms
    → ((m : Module) → IsModule m → AreClear ms (F m) → AreFew 1 (F m) → Good P (full_names (F m)))
    → AreClear ms (with_module (module_named ms text) F) → AreFew 1 (with_module (module_named ms text) F)
    → Good P (full_names (with_module (module_named ms text) F))
good-module ms P text F formed g h l = by (module_named ms text) refl h l
  where
    by : (o : Option Module) → module_named ms text ≡ o → AreClear ms (with_module o F)
        → AreFew 1 (with_module o F)
        → Good P (full_names (with_module o F))
    by None e h l = good-none P
    by (Some m) e h l = g m (found-module ms text m formed e) h l

-- the steps of a module behind steps that declare nothing
abbrev pub Given : List Module → Unfolding → Type 0
Given ms inner =
    (m : Module) (u : Use) (path : List ℕ) (modules : List (List ℕ)) (before : List Step) → IsModule m
    → full_names before ≡ [] → AreClear ms (inner m u path modules before)
    → AreFew 1 (inner m u path modules before)
    → Good (Under path Any) (full_names (inner m u path modules before))

-- ---- labels

pub label-plain : (names : List (List ℕ)) (n : ℕ) (label : Option (List ℕ)) → n < 2 ^ 64
    → IsOptionalName label
    → Plain (block_name names n label)
label-plain names n None h w = unlabelled-free names n h
label-plain names n (Some text) h w = name-plain text w

pub label-head : (names : List (List ℕ)) (n : ℕ) (label : Option (List ℕ))
    → Has (option_to_list label) (block_name names n label) ⊎ (block_name names n label ≡ unlabelled names n)
label-head names n None = inr refl
label-head names n (Some text) = inl (has-first text [])

pub label-named : (b : Block) → IsBlock b → IsOptionalName (label_of b)
label-named (begin p label xs) w = w.0
label-named (region p xs) w = tt
label-named (single x) w = tt

pub loop-head : (names : List (List ℕ)) (x : Item) (n : ℕ) (label : Option (List ℕ))
    → names_of x ≡ option_to_list label
    → constructs x ≡ 1 → ItemHead names x n (block_name names n label)
loop-head names x n label e one =
    ⊎_elim (λ (a : Has (option_to_list label) (block_name names n label)).
    inl (subst (λ ns. Has ns (block_name names n label)) (sym e) a))
    (λ (a : block_name names n label ≡ unlabelled names n). inr (record { one = one; is = a }))
    (label-head names n label)

pub if-names : (x : Item) → is_if x ≡ true → names_of x ≡ labels_of x
if-names (declaration attrs p d) h = absurd (true≢false (sym h))
if-names (integer attrs p xs) h = absurd (true≢false (sym h))
if-names (genvar attrs p xs) h = absurd (true≢false (sym h))
if-names (parameter attrs p kind xs) h = absurd (true≢false (sym h))
if-names (assign attrs p xs) h = absurd (true≢false (sym h))
if-names (always attrs p event s) h = absurd (true≢false (sym h))
if-names (initial attrs p s) h = absurd (true≢false (sym h))
if-names (instance attrs p x) h = absurd (true≢false (sym h))
if-names (generate attrs p mark) h = absurd (true≢false (sym h))
if-names (for_loop attrs p head b) h = absurd (true≢false (sym h))
if-names (if_only attrs p c b) h = refl
if-names (if_else attrs p c b d) h = refl

pub self : (ns : List (List ℕ)) → Each (Has ns) ns
self ns = each-of (Has ns) ns (λ n h. h)

pub genvar-turn : (head : LoopHead) (ss : List Scope) (c : Const) → IsTurn (next_turn head ss c)
genvar-turn head ss c = record { number = _; is = refl }

pub start-turn : (head : LoopHead) (ss : List Scope) → IsTurn (first_turn head ss)
start-turn head ss = record { number = _; is = refl }
