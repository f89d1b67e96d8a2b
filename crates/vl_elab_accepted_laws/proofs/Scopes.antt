-- The full names that the items of a scope, its blocks and its instances declare differ.
use Rattle.std.specs.Prelude.{◌≡◌, refl, ℕ, ◌+◌, ◌<◌, ◌≤◌, ◌^◌, List, [], ◌∷◌}
use Rattle.std.specs.Prelude.{◌++◌, codes}
use Rattle.std.specs.Prelude.{Bool, true, false, Option, None, option_to_list, All, if◌then◌else◌}
use Rattle.std.proofs.Common.{sym, ◌∙◌, subst, inl, inr, ⊎_elim}
use Rattle.vl_tree.specs.declared.part.LoopHead.{LoopHead}
use Rattle.vl_tree.specs.declared.source.Module.{Module}
use Rattle.vl_tree.specs.Attributes.{Attributes}
use Rattle.fv_text.specs.declared.pos.Pos.{Pos}
use Rattle.vl_tree.specs.WellFormed.{IsHead, IsWellFormed, AreWellFormed, IsBlock, IsModule}
use Rattle.vl_tree.specs.Item.{
  Item,
  Items,
  Block,
  declaration,
  integer,
  genvar,
  parameter,
  assign,
  always,
  initial,
  instance,
  generate,
  for_loop,
  if_only,
  if_else,
  no_items,
  more_items,
  begin,
  region,
  single,
}
use Rattle.vl_tree.specs.StmtWellFormed.{IsOptionalName}
use Rattle.vl_size.specs.Size.{is_true}
use Rattle.vl_mean.specs.declared.const_number.Const.{Const}
use Rattle.vl_mean.specs.Constants.{constant_operand}
use Rattle.vl_mean.specs.Declarations.{names_of, labels_of, all_names, constructs, is_if, label_of, block_labels}
use Rattle.vl_mean.specs.Declarations.{block_name, unlabelled}
use Rattle.vl_mean.specs.Runs.{Each}
use Rattle.vl_mean.specs.Scopes.{constant_in}
use Rattle.vl_mean.specs.Walk.{block_step}
use Rattle.vl_mean.specs.Walk.{has_any}
use Rattle.vl_mean.specs.Walk.{Place, Use, Step, Unfolding, item, connections_of, use_of, goes_on}
use Rattle.vl_mean.specs.Walk.{override_steps, connection_steps, module_scope, loop_turns, next_turn, first_turn}
use Rattle.vl_mean.specs.Walk.{turn_place, turn_path, block_place, block_path, item_steps, items_steps, turn_steps}
use Rattle.vl_mean.specs.Walk.{block_steps, with_earlier}
use Rattle.vl_mean_flat.proofs.EachOf.{front, back}
use Rattle.vl_elab_accepted_laws.proofs.Contained.{Has, Lacks, has-first, has-front, has-back}
use Rattle.vl_elab_accepted_laws.proofs.Declared.{full_names}
use Rattle.vl_elab_accepted_laws.proofs.Fresh.{names-new, item-new, none-front}
use Rattle.vl_elab_accepted_laws.proofs.Ends.{Ends, loop-ends}
use Rattle.vl_elab_accepted_laws.proofs.Good.{Good, good-none, good-map, good-both, Under, Any, under-map, under-apart}
use Rattle.vl_elab_accepted_laws.proofs.Good.{deeper}
use Rattle.vl_elab_accepted_laws.proofs.Items.{IsNumbered, ItemHead, BlockHead, ItemsHead, item-apart, item-first}
use Rattle.vl_elab_accepted_laws.proofs.Items.{item-rest}
use Rattle.vl_elab_accepted_laws.proofs.Items.{good-objects, good-nothing, front-none, good-module, Given, label-plain}
use Rattle.vl_elab_accepted_laws.proofs.Items.{label-head}
use Rattle.vl_elab_accepted_laws.proofs.Items.{label-named, loop-head, if-names, self, genvar-turn, start-turn}
use Rattle.vl_elab_accepted_laws.proofs.Loops.{IsClear, AreClear, AreFew, few-front, few-start, few-tail, few-one}
use Rattle.vl_elab_accepted_laws.proofs.Loops.{else-counts, few-next, if-counts, loop-counts, weight}
use Rattle.vl_elab_accepted_laws.proofs.Loops.{few-rest}
use Rattle.vl_elab_accepted_laws.proofs.Loops.{none-or-more, one-or-more, positive-sum, positive-one, good-turns}
use Rattle.vl_elab_accepted_laws.proofs.Loops.{later-under}
use Rattle.vl_elab_accepted_laws.proofs.Plain.{name-plain, names-plain}

-- of a block in the scope around it
in-block : {H : List ℕ → Type 0} → (path : List ℕ) (names : List (List ℕ)) (b : Block) (n : ℕ)
    (label : Option (List ℕ)) → n < 2 ^ 64 → IsOptionalName label → block_labels b ≡ option_to_list label
    → (text : List ℕ)
    → Under (path ++ block_name names n label ++ codes ".") H text → Under path (BlockHead names b n) text
in-block path names b n label few named e text u =
    deeper path (block_name names n label) (label-plain names n label few named)
    (⊎_elim (λ (a : Has (option_to_list label) (block_name names n label)).
    inl (subst (λ ns. Has ns (block_name names n label)) (sym e) a))
    (λ (a : block_name names n label ≡ unlabelled names n). inr a) (label-head names n label)) text u

of-block : (path : List ℕ) (names : List (List ℕ)) (b : Block) (x : Item) (n : ℕ) → constructs x ≡ 1
    → ((h : List ℕ) → Has (block_labels b) h → Has (names_of x) h) → (text : List ℕ)
    → Under path (BlockHead names b n) text → Under path (ItemHead names x n) text
of-block path names b x n one f text u =
    under-map path (λ h p.
    ⊎_elim (λ (a : Has (block_labels b) h). inl (f h a))
    (λ (a : h ≡ unlabelled names n). inr (record { one = one; is = a })) p) text u

-- of an `if` alone in a block of another one, which makes no scope
directly : (names : List (List ℕ)) (x : Item) (n : ℕ) (h : List ℕ) → is_if x ≡ true → ItemHead names x n h
    → BlockHead names (single x) n h
directly names x n h e p =
    ⊎_elim (λ (a : Has (names_of x) h).
    inl (subst (λ ns. Has ns h) (if-names x e ∙ (λ i. if sym e i then labels_of x else [])) a))
    (λ (a : IsNumbered names (constructs x) n h). inr a.is) p

no_labels : (x : Item) → is_if x ≡ false → block_labels (single x) ≡ option_to_list None
no_labels x e = λ i. if e i then labels_of x else []

module _ (ms : List Module) (formed : All IsModule ms) (inner : Unfolding) (given : Given ms inner) where
  abbrev Steps : Item → Place → ℕ → List Step
  Steps x at n = item_steps ms inner x at n

  -- what each turn of a loop is
  abbrev bodies : LoopHead → Block → Place → ℕ → Const → List Step
  bodies head b at n c =
      turn_steps ms inner b (turn_place at head.variable c)
      (turn_path at.path (block_name at.names n (label_of b)) c)

  first-clear : (x : Item) (at : Place) (n : ℕ) → AreClear ms (Steps x at n) → IsClear ms (item at x)
  first-clear (declaration attrs p d) at n h = h.0
  first-clear (integer attrs p xs) at n h = h.0
  first-clear (genvar attrs p xs) at n h = h.0
  first-clear (parameter attrs p kind xs) at n h = h.0
  first-clear (assign attrs p xs) at n h = h.0
  first-clear (always attrs p event s) at n h = h.0
  first-clear (initial attrs p s) at n h = h.0
  first-clear (instance attrs p x) at n h = h.0
  first-clear (generate attrs p mark) at n h = h.0
  first-clear (for_loop attrs p head b) at n h = h.0
  first-clear (if_only attrs p c b) at n h = h.0
  first-clear (if_else attrs p c b d) at n h = h.0

  constructs-few : (x : Item) (at : Place) (n : ℕ) → constructs x ≤ weight (Steps x at n)
  constructs-few (declaration attrs p d) at n = none-or-more (Steps (declaration attrs p d) at n)
  constructs-few (integer attrs p xs) at n = none-or-more (Steps (integer attrs p xs) at n)
  constructs-few (genvar attrs p xs) at n = none-or-more (Steps (genvar attrs p xs) at n)
  constructs-few (parameter attrs p kind xs) at n = none-or-more (Steps (parameter attrs p kind xs) at n)
  constructs-few (assign attrs p xs) at n = none-or-more (Steps (assign attrs p xs) at n)
  constructs-few (always attrs p event s) at n = none-or-more (Steps (always attrs p event s) at n)
  constructs-few (initial attrs p s) at n = none-or-more (Steps (initial attrs p s) at n)
  constructs-few (instance attrs p x) at n = none-or-more (Steps (instance attrs p x) at n)
  constructs-few (generate attrs p mark) at n = none-or-more (Steps (generate attrs p mark) at n)
  constructs-few (for_loop attrs p head b) at n =
      one-or-more (item at (for_loop attrs p head b)) (loop_turns head at.scopes (bodies head b at n))
      (loop-counts at attrs p head b)
  constructs-few (if_only attrs p c b) at n = one-or-more (item at (if_only attrs p c b)) _ (if-counts at attrs p c b)
  constructs-few (if_else attrs p c b d) at n =
      one-or-more (item at (if_else attrs p c b d)) _ (else-counts at attrs p c b d)

  good-choice : (c : Bool) (P : List ℕ → Type 0) (n : ℕ) (xs ys : List Step)
      → (AreClear ms xs → AreFew n xs → Good P (full_names xs))
      → (AreClear ms ys → AreFew n ys → Good P (full_names ys)) → AreClear ms (if c then xs else ys)
      → AreFew n (if c then xs else ys)
      → Good P (full_names (if c then xs else ys))
  good-choice true P n xs ys f g h l = f h l
  good-choice false P n xs ys f g h l = g h l

  -- the item of a block without `begin`
  good-single : (c : Bool) (x : Item) (at inside : Place) (P : List ℕ → Type 0) (n : ℕ) → is_if x ≡ c
      → 0 < n → (is_if x ≡ true → AreClear ms (Steps x at n) → AreFew n (Steps x at n)
      → Good P (full_names (Steps x at n)))
      → (is_if x ≡ false → AreClear ms (Steps x inside 1) → AreFew 1 (Steps x inside 1)
      → Good P (full_names (Steps x inside 1)))
      → AreClear ms (Steps x (if c then at else inside) (if c then n else 1))
      → AreFew n (Steps x (if c then at else inside) (if c then n else 1))
      → Good P (full_names (Steps x (if c then at else inside) (if c then n else 1)))
  good-single true x at inside P n e z f g h l = f e h l
  good-single false x at inside P n e z f g h l = g e h (few-one n (Steps x inside 1) z l)

  good-loop : (attrs : Attributes) (p : Pos) (head : LoopHead) (b : Block) (at : Place) (n : ℕ)
      → IsHead head → IsOptionalName (label_of b) → n < 2 ^ 64 → IsClear ms (item at (for_loop attrs p head b))
      → ((c : Const) (path : List ℕ) → AreClear ms (turn_steps ms inner b (turn_place at head.variable c) path)
      → AreFew 1 (turn_steps ms inner b (turn_place at head.variable c) path)
      → Good (Under path Any) (full_names (turn_steps ms inner b (turn_place at head.variable c) path)))
      → AreClear ms (loop_turns head at.scopes (bodies head b at n))
      → AreFew 1 (loop_turns head at.scopes (bodies head b at n))
      → Good (Under at.path (ItemHead at.names (for_loop attrs p head b) n))
      (full_names (loop_turns head at.scopes (bodies head b at n)))
  good-loop attrs p head b at n w named few clear f h l =
      let x : Item = for_loop attrs p head b in
      let label : List ℕ = block_name at.names n (label_of b) in
      let goes : Const → Bool = goes_on head at.scopes in
      let next : Const → Const = next_turn head at.scopes in
      let body : Const → List Step = bodies head b at n in
      let ends : Ends (goes_on head at.scopes) (next_turn head at.scopes) (first_turn head at.scopes)
      = loop-ends ms at attrs p head b clear.1 w clear.0 in
      good-map (later-under ms goes next at.path label body (ItemHead at.names x n) ends.count
      (label-plain at.names n (label_of b) few named) (loop-head at.names x n (label_of b) refl refl))
      (full_names (loop_turns head at.scopes body))
      (good-turns ms goes next at.path label body 4096 (first_turn head at.scopes) ends.count
      (start-turn head at.scopes) (genvar-turn head at.scopes) ends.ends
      (λ d h l. f d (turn_path at.path label d) h l) h l)

  mutual
    good-item : (x : Item) (at : Place) (n : ℕ) → IsWellFormed x → 0 < n → AreFew n (Steps x at n)
        → AreClear ms (Steps x at n)
        → Good (Under at.path (ItemHead at.names x n)) (full_names (Steps x at n))
    good-item (declaration attrs p d) at n w z l h =
        good-objects ms at.names n at (declaration attrs p d) refl (names-plain d.names w.1.1.1)
        (names-new at.earlier d.names (none-front _ _ (none-front _ _ h.0.0))).different
    good-item (integer attrs p xs) at n w z l h =
        good-objects ms at.names n at (integer attrs p xs) refl (names-plain xs w.1.1)
        (names-new at.earlier xs (none-front _ _ h.0.0)).different
    good-item (genvar attrs p xs) at n w z l h = good-none _
    good-item (parameter attrs p kind xs) at n w z l h = good-none _
    good-item (assign attrs p xs) at n w z l h = good-nothing ms _ at (assign attrs p xs) refl
    good-item (always attrs p event s) at n w z l h = good-nothing ms _ at (always attrs p event s) refl
    good-item (initial attrs p s) at n w z l h = good-nothing ms _ at (initial attrs p s) refl
    good-item (instance attrs p x) at n w z l h =
        let u : Use = use_of has_any at.scopes x in
        let inside : List ℕ = at.path ++ x.name ++ codes "." in
        let before : Module → List Step = λ m. override_steps at m u [] (connections_of x.overrides)
        ++ connection_steps at m u (module_scope m u inside ∷ []) [] x.connections in
        good-map (deeper at.path x.name (name-plain x.name w.1.2) (inl (has-first x.name []))) _
        (good-module ms (Under inside Any) x.definition (λ m. inner m u inside at.modules (before m)) formed
        (λ m f h l.
        given m u inside at.modules (before m) f
        (front-none at m u (module_scope m u inside ∷ []) (connections_of x.overrides) x.connections) h l) h.1
        (few-next n (item at (instance attrs p x)) _ z l))
    good-item (generate attrs p mark) at n w z l h = good-none _
    good-item (for_loop attrs p head b) at n w z l h =
        good-loop attrs p head b at n w.1 (label-named b w.2) (few-start n (Steps (for_loop attrs p head b) at n) l) h.0
        (λ c path h l. good-turn b (turn_place at head.variable c) path w.2 l h) h.1
        (few-next n (item at (for_loop attrs p head b)) (loop_turns head at.scopes (bodies head b at n)) z l)
    good-item (if_only attrs p c b) at n w z l h =
        good-choice (is_true (constant_operand (constant_in at.scopes) c)) _ n (block_steps ms inner b at n) []
        (λ h l. good-map (of-block at.path at.names b (if_only attrs p c b) n refl (λ m a. a))
        (full_names (block_steps ms inner b at n)) (good-block b at n w.2 z l h)) (λ h l. good-none _) h.1
        (few-tail n (item at (if_only attrs p c b)) _ l)
    good-item (if_else attrs p c b d) at n w z l h =
        good-choice (is_true (constant_operand (constant_in at.scopes) c)) _ n (block_steps ms inner b at n)
        (block_steps ms inner d at n)
        (λ h l. good-map (of-block at.path at.names b (if_else attrs p c b d) n refl
        (λ m a. has-front (block_labels b) (block_labels d) m a))
        (full_names (block_steps ms inner b at n)) (good-block b at n w.3 z l h))
        (λ h l. good-map (of-block at.path at.names d (if_else attrs p c b d) n refl
        (λ m a. has-back (block_labels b) (block_labels d) m a))
        (full_names (block_steps ms inner d at n)) (good-block d at n w.4 z l h)) h.1
        (few-tail n (item at (if_else attrs p c b d)) _ l)

    pub good-items : (xs : Items) (at : Place) (n : ℕ) → AreWellFormed xs → Each (Has at.names) (all_names xs)
        → 0 < n
        → AreFew n (items_steps ms inner xs at n) → AreClear ms (items_steps ms inner xs at n)
        → Good (Under at.path (ItemsHead at.names at.earlier n)) (full_names (items_steps ms inner xs at n))
    good-items no_items at n w s z l h = good-none _
    good-items (more_items x xs) at n w s z l h =
        let one : List Step = Steps x at n in
        let rest_place : Place = with_earlier at (names_of x) in
        let more : List Step = items_steps ms inner xs rest_place (n + constructs x) in
        let here : Each (Has at.names) (names_of x) = front (Has at.names) (names_of x) (all_names xs) s in
        let clear : AreClear ms one = front (IsClear ms) one more h in
        let new : Each (Lacks at.earlier) (names_of x) = item-new ms at x (first-clear x at n clear).0 in
        let few : n < 2 ^ 64 = few-start n (one ++ more) l in
        good-both (Under at.path (ItemHead at.names x n))
        (Under at.path (ItemsHead at.names (at.earlier ++ names_of x) (n + constructs x)))
        (Under at.path (ItemsHead at.names at.earlier n)) one more
        (under-apart at.path (item-apart at.names at.earlier x n z few here))
        (under-map at.path (item-first at.names at.earlier x n z few here new))
        (under-map at.path (item-rest at.names at.earlier x n z few here))
        (good-item x at n w.0 z (few-front n one more l) clear)
        (good-items xs rest_place (n + constructs x) w.1 (back (Has at.names) (names_of x) (all_names xs) s)
        (positive-sum n (constructs x) z) (few-rest n (constructs x) one more (constructs-few x at n) l)
        (back (IsClear ms) one more h))

    good-turn : (b : Block) (at : Place) (path : List ℕ) → IsBlock b → AreFew 1 (turn_steps ms inner b at path)
        → AreClear ms (turn_steps ms inner b at path)
        → Good (Under path Any) (full_names (turn_steps ms inner b at path))
    good-turn (begin p label xs) at path w l h =
        good-map (under-map path (λ h p. tt)) _
        (good-items xs (block_place at path xs) 1 w.2 (self (all_names xs)) positive-one
        (few-tail 1 (block_step at (begin p label xs)) _ l) h.1)
    good-turn (region p xs) at path w l h =
        good-map (under-map path (λ h p. tt)) _
        (good-items xs (block_place at path xs) 1 w.1 (self (all_names xs)) positive-one
        (few-tail 1 (block_step at (region p xs)) _ l) h.1)
    good-turn (single x) at path w l h =
        good-map (under-map path (λ h p. tt)) _
        (good-item x (block_place at path (more_items x no_items)) 1 w.2 positive-one
        (few-tail 1 (block_step at (single x)) _ l) h.1)

    good-block : (b : Block) (at : Place) (n : ℕ) → IsBlock b → 0 < n → AreFew n (block_steps ms inner b at n)
        → AreClear ms (block_steps ms inner b at n)
        → Good (Under at.path (BlockHead at.names b n)) (full_names (block_steps ms inner b at n))
    good-block (begin p label xs) at n w z l h =
        good-map (in-block at.path at.names (begin p label xs) n label (few-start n _ l) w.0 refl) _
        (good-items xs (block_place at (block_path at (block_name at.names n label)) xs) 1 w.2 (self (all_names xs))
        positive-one (few-next n (block_step at (begin p label xs)) _ z l) h.1)
    good-block (region p xs) at n w z l h =
        good-map (in-block at.path at.names (region p xs) n None (few-start n _ l) tt refl) _
        (good-items xs (block_place at (block_path at (block_name at.names n None)) xs) 1 w.1 (self (all_names xs))
        positive-one (few-next n (block_step at (region p xs)) _ z l) h.1)
    good-block (single x) at n w z l h =
        let path : List ℕ = block_path at (block_name at.names n None) in
        let inside : Place = block_place at path (more_items x no_items) in
        let few : n < 2 ^ 64 = few-start n (block_steps ms inner (single x) at n) l in
        good-single (is_if x) x at inside (Under at.path (BlockHead at.names (single x) n)) n refl z
        (λ e h l. good-map (under-map at.path (λ m p. directly at.names x n m e p)) _ (good-item x at n w.2 z l h))
        (λ e h l. good-map (in-block at.path at.names (single x) n None few tt (no_labels x e)) _
        (good-item x inside 1 w.2 positive-one l h)) h.1 (few-tail n (block_step at (single x)) _ l)
