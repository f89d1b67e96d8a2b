-- The steps within an item, and those of its blocks.
use Rattle.std.specs.Prelude.{◌≡◌, refl, ℕ, List, [], ◌∷◌, ◌++◌, Bool, true, false, Option, Some, None}
use Rattle.std.specs.Prelude.{if◌then◌else◌, is_none, ◌+◌, ◌≤◌}
use Rattle.std.specs.Option.{option_map}
use Rattle.std.proofs.Common.{ap, sym, ◌∙◌, arith, subst, true≢false}
use Rattle.std.proofs.lemmas.List.{append-nil}
use Rattle.fv_text.specs.declared.pos.Pos.{Pos}
use Rattle.vl_tree.specs.declared.item.Block as declared
use Rattle.vl_tree.specs.declared.item.ItemKind.TheVariants as k
use Rattle.vl_tree.specs.declared.source.Module.{Module}
use Rattle.vl_tree.specs.Attributes.{Attributes}
use Rattle.vl_tree.specs.Expr.{Expr}
use Rattle.vl_tree.specs.Item.{Item, Block, declaration, integer, genvar, parameter, assign, always, initial}
use Rattle.vl_tree.specs.Item.{instance, generate, for_loop, if_only, if_else, no_items, more_items, begin, region}
use Rattle.vl_tree.specs.Item.{single, depth, items_depth, block_depth}
use Rattle.vl_tree.specs.ItemView.{block, shown}
use Rattle.vl_tree.specs.WellFormed.{IsWellFormed, AreWellFormed, IsBlock}
use Rattle.vl_size.specs.Size.{is_true}
use Rattle.vl_mean.specs.Cells.{contains_name}
use Rattle.vl_mean.specs.Constants.{constant_operand}
use Rattle.vl_mean.specs.Declarations.{block_name, is_if, label_of}
use Rattle.vl_mean.specs.Scopes.{constant_in}
use Rattle.vl_mean.specs.Walk.{Place, Step, Unfolding, Valued, item, block_step, with_earlier, module_named}
use Rattle.vl_mean.specs.Walk.{block_path, block_place, item_walk, items_walk, turn_walk, block_walk}
use Rattle.vl_elab_spec.specs.declared.elab_fault.ElabFault.{ElabFault}
use Rattle.vl_elab_spec.specs.declared.elab_fault.ElabFault.TheVariants as f
use Rattle.vl_elab_spec.specs.Expressions.{refused_if}
use Rattle.vl_elab_spec.specs.Items.{instance_refusals}
use Rattle.vl_elab_spec.specs.Meanings.{item_names}
use Rattle.vl_elab_spec.specs.Refused.{Totals, counted, is_too_large, large_pos, lowest, or_later}
use Rattle.vl_elab_spec.specs.declared.totals.Totals as kept
use Rattle.vl_elab_spec.specs.Walked.{AreWalked}
use Rattle.vl_elab_spec.specs.Within.{block_items, nested_if, chosen_block, chosen_by, chosen_walk, inner_walk}
use Rattle.vl_elab_spec.specs.Within.{IsNotRecursive}

-- ---- an instance that isn't refused

-- that there is a refusal
some_fault : List ElabFault → Bool
some_fault [] = false
some_fault (g ∷ gs) = true

none_passed : (gs : List ElabFault) → None ≡ or_later (lowest gs) None → some_fault gs ≡ false
unfolding some_fault
none_passed [] e = refl
none_passed (g ∷ gs) e = cc

none_first : (gs hs : List ElabFault) → some_fault (gs ++ hs) ≡ false → some_fault gs ≡ false
unfolding some_fault
none_first [] hs e = refl
none_first (g ∷ gs) hs e = e

none_second : (gs hs : List ElabFault) → some_fault (gs ++ hs) ≡ false → some_fault hs ≡ false
unfolding some_fault
none_second [] hs e = e
none_second (g ∷ gs) hs e = absurd (true≢false e)

test_false : (b : Bool) (g : ElabFault) → some_fault (refused_if b g) ≡ false → b ≡ false
unfolding some_fault
test_false true g e = absurd (true≢false e)
test_false false g e = refl

module _ (ms : List Module) where
  pub not_recursive : (t : Totals) (new : kept.Totals) (at : Place) (x : Item)
      → AreWalked ms t new (item at x ∷ []) None → IsNotRecursive x at
  not_recursive t new at (declaration attrs p d) h = tt
  not_recursive t new at (integer attrs p xs) h = tt
  not_recursive t new at (genvar attrs p xs) h = tt
  not_recursive t new at (parameter attrs p kind xs) h = tt
  not_recursive t new at (assign attrs p xs) h = tt
  not_recursive t new at (always attrs p event s) h = tt
  not_recursive t new at (initial attrs p s) h = tt
  not_recursive t new at (generate attrs p mark) h = tt
  not_recursive t new at (for_loop attrs p head b) h = tt
  not_recursive t new at (if_only attrs p c b) h = tt
  not_recursive t new at (if_else attrs p c b d) h = tt
  not_recursive t new at (instance attrs p x) h =
      let step : Step = item at (instance attrs p x) in
      let own : List ElabFault = instance_refusals ms at p x in
      let first : List ElabFault = refused_if (is_none (module_named ms x.definition)) (f.NoModule x.definition) in
      let second : List ElabFault = refused_if (contains_name at.earlier x.name) (f.Twice x.name p) in
      let third : List ElabFault =
      refused_if (contains_name at.modules x.definition) (f.Recursive at.modules) in
      let size : List ElabFault = refused_if (is_too_large (counted t step)) (f.TooLarge (large_pos t step)) in
      let all : some_fault (own ++ size) ≡ false = none_passed (own ++ size) h.fault in
      test_false (contains_name at.modules x.definition) (f.Recursive at.modules)
      (none_second (first ++ second) third (none_first own size all))

-- ---- the steps within an item, behind its own

pub nothing_earlier : (at : Place) → with_earlier at [] ≡ at
nothing_earlier at = ap (λ (es : List (List ℕ)). record at { earlier = es }) (append-nil at.earlier)

module _ (valued : Valued) (ms : List Module) (inner : Unfolding) where
  pub own_and_inner : (x : Item) (at : Place) (n : ℕ)
      → (item at x ∷ []) ++ inner_walk valued ms inner x at n ≡ item_walk valued ms inner x at n
  own_and_inner (declaration attrs p d) at n = refl
  own_and_inner (integer attrs p xs) at n = refl
  own_and_inner (genvar attrs p xs) at n = refl
  own_and_inner (parameter attrs p kind xs) at n = refl
  own_and_inner (assign attrs p xs) at n = refl
  own_and_inner (always attrs p event s) at n = refl
  own_and_inner (initial attrs p s) at n = refl
  own_and_inner (instance attrs p x) at n = refl
  own_and_inner (generate attrs p mark) at n = refl
  own_and_inner (for_loop attrs p head b) at n = refl
  own_and_inner (if_only attrs p c b) at n = refl
  own_and_inner (if_else attrs p c b d) at n = refl

  -- of an `if`, by its condition, which has a value
  pub if_steps : (attrs : Attributes) (p : Pos) (c : Expr) (first : declared.Block) (second : Option declared.Block)
      (at : Place) (n : ℕ) (holds : Bool) → valued at c ≡ true
      → is_true (constant_operand (constant_in at.scopes) c) ≡ holds
      → chosen_walk valued ms inner (chosen_block holds (block first) (option_map block second)) at n
      ≡ inner_walk valued ms inner (shown attrs p (k.If c first second)) at n
  if_steps attrs p c first None at n holds v e =
      by holds
      ∙ (λ i. if sym v i then (if sym e i then block_walk valued ms inner (block first) at n else []) else [])
    where
      by : (b : Bool) → chosen_walk valued ms inner (chosen_block b (block first) None) at n
          ≡ (if b then block_walk valued ms inner (block first) at n else [])
      by true = refl
      by false = refl
  if_steps attrs p c first (Some second) at n holds v e =
      by holds
      ∙ (λ i. if sym v i then (if sym e i then block_walk valued ms inner (block first) at n
      else block_walk valued ms inner (block second) at n) else [])
    where
      by : (b : Bool) → chosen_walk valued ms inner (chosen_block b (block first) (Some (block second))) at n
          ≡ (if b then block_walk valued ms inner (block first) at n else block_walk valued ms inner (block second) at n)
      by true = refl
      by false = refl

  -- without one there is no block
  pub no_if_steps : (attrs : Attributes) (p : Pos) (c : Expr) (first : declared.Block)
      (second : Option declared.Block) (at : Place) (n : ℕ) → valued at c ≡ false
      → inner_walk valued ms inner (shown attrs p (k.If c first second)) at n ≡ []
  no_if_steps attrs p c first None at n v =
      let block : List Step = block_walk valued ms inner (block first) at n in
      λ i. if v i then (if is_true (constant_operand (constant_in at.scopes) c) then block else []) else []
  no_if_steps attrs p c first (Some second) at n v =
      let one : List Step = block_walk valued ms inner (block first) at n in
      let other : List Step = block_walk valued ms inner (block second) at n in
      λ i. if v i then (if is_true (constant_operand (constant_in at.scopes) c) then one else other) else []

  pub if_by : (attrs : Attributes) (p : Pos) (c : Expr) (first : declared.Block) (second : Option declared.Block)
      (at : Place) (n : ℕ) (o : Option Bool)
      → o ≡ (if valued at c then Some (is_true (constant_operand (constant_in at.scopes) c)) else None)
      → chosen_walk valued ms inner (chosen_by o (block first) (option_map block second)) at n
      ≡ inner_walk valued ms inner (shown attrs p (k.If c first second)) at n
  if_by attrs p c first second at n o e =
      ap (λ q. chosen_walk valued ms inner (chosen_by q (block first) (option_map block second)) at n) e
      ∙ by (valued at c) refl
    where
      holds : Bool
      holds = is_true (constant_operand (constant_in at.scopes) c)

      by : (v : Bool) → valued at c ≡ v
          → chosen_walk valued ms inner (chosen_by (if v then Some holds else None) (block first)
          (option_map block second)) at n
          ≡ inner_walk valued ms inner (shown attrs p (k.If c first second)) at n
      by true v = if_steps attrs p c first second at n holds v refl
      by false v = sym (no_if_steps attrs p c first second at n v)

  -- ---- the steps of a block, by its items

  pub one_item : (x : Item) (at : Place) (n : ℕ)
      → items_walk valued ms inner (more_items x no_items) at n ≡ item_walk valued ms inner x at n
  one_item x at n = append-nil (item_walk valued ms inner x at n)

  -- behind the block's own step
  pub turn_items : (b : Block) (at : Place) (path : List ℕ)
      → (block_step at b ∷ []) ++ items_walk valued ms inner (block_items b) (block_place at path (block_items b)) 1
      ≡ turn_walk valued ms inner b at path
  turn_items (begin p label xs) at path = refl
  turn_items (region p xs) at path = refl
  turn_items (single x) at path =
      ap (λ ys. block_step at (single x) ∷ ys) (one_item x (block_place at path (more_items x no_items)) 1)

  -- a block that makes a scope
  pub scope_items : (b : Block) (at : Place) (n : ℕ) → nested_if b ≡ None
      → (block_step at b ∷ []) ++ items_walk valued ms inner (block_items b)
      (block_place at (block_path at (block_name at.names n (label_of b))) (block_items b)) 1
      ≡ block_walk valued ms inner b at n
  scope_items (begin p label xs) at n e = refl
  scope_items (region p xs) at n e = refl
  scope_items (single x) at n e =
      let inside : Place = block_place at (block_path at (block_name at.names n None)) (more_items x no_items) in
      ap (λ ys. block_step at (single x) ∷ ys)
      (one_item x inside 1
      ∙ ap (λ b. item_walk valued ms inner x (if b then at else inside) (if b then n else 1)) (sym (alone (is_if x) e)))
    where
      alone : (b : Bool) → (if b then Some x else None) ≡ None → b ≡ false
      alone true h = cc
      alone false h = refl

  -- one that makes none
  pub nested_item : (b : Block) (x : Item) (at : Place) (n : ℕ) → nested_if b ≡ Some x
      → (block_step at b ∷ []) ++ item_walk valued ms inner x at n ≡ block_walk valued ms inner b at n
  nested_item (begin p label xs) x at n e = cc
  nested_item (region p xs) x at n e = cc
  nested_item (single y) x at n e =
      let inside : Place = block_place at (block_path at (block_name at.names n None)) (more_items y no_items) in
      ap (λ ys. block_step at (single y) ∷ ys)
      (ap (λ z. item_walk valued ms inner z at n) (sym (same (is_if y) e))
      ∙ ap (λ b. item_walk valued ms inner y (if b then at else inside) (if b then n else 1)) (sym (nested (is_if y) e)))
    where
      nested : (b : Bool) → (if b then Some y else None) ≡ Some x → b ≡ true
      nested true h = refl
      nested false h = cc

      same : (b : Bool) → (if b then Some y else None) ≡ Some x → y ≡ x
      same true h = cc
      same false h = cc

-- ---- parts of well formed ones, and how deep they are

-- a directly nested `if`
pub record IsNested (b : Block) (x : Item) : Type 0 where
  pub formed : IsBlock b → IsWellFormed x
  pub falls : depth x ≤ block_depth b
  pub names : item_names x ≡ []

if_names : (x : Item) → is_if x ≡ true → item_names x ≡ []
if_names (declaration attrs p d) e = cc
if_names (integer attrs p xs) e = cc
if_names (genvar attrs p xs) e = cc
if_names (parameter attrs p kind xs) e = cc
if_names (assign attrs p xs) e = cc
if_names (always attrs p event s) e = cc
if_names (initial attrs p s) e = cc
if_names (instance attrs p x) e = cc
if_names (generate attrs p mark) e = cc
if_names (for_loop attrs p head b) e = cc
if_names (if_only attrs p c b) e = refl
if_names (if_else attrs p c b d) e = refl

pub nested_is : (b : Block) (x : Item) → nested_if b ≡ Some x → IsNested b x
nested_is (begin p label xs) x e = cc
nested_is (region p xs) x e = cc
nested_is (single y) x e = by (is_if y) refl e
  where
    by : (b : Bool) → is_if y ≡ b → (if b then Some y else None) ≡ Some x → IsNested (single y) x
    by true k h =
        let same : y ≡ x = cc in
        subst (IsNested (single y)) same
        (record { formed = λ w. w.2; falls = omega arith; names = if_names y k })
    by false k h = cc

pub block_formed : (b : Block) → IsBlock b → AreWellFormed (block_items b)
block_formed (begin p label xs) w = w.2
block_formed (region p xs) w = w.1
block_formed (single x) w = (w.2, tt)

pub block_falls : (b : Block) → items_depth (block_items b) ≤ block_depth b
block_falls (begin p label xs) = omega arith
block_falls (region p xs) = omega arith
block_falls (single x) = omega arith

-- the chosen block of an `if`
pub record IsChosen (x : Item) (b : Block) : Type 0 where
  pub formed : IsWellFormed x → IsBlock b
  pub falls : block_depth b + 1 ≤ depth x

pub chosen_is : (attrs : Attributes) (p : Pos) (c : Expr) (first : declared.Block) (second : Option declared.Block)
    (holds : Bool) (b : Block) → Some b ≡ chosen_block holds (block first) (option_map block second)
    → IsChosen (shown attrs p (k.If c first second)) b
chosen_is attrs p c first None true b e =
    let same : block first ≡ b = cc in
    subst (IsChosen (if_only attrs p c (block first))) same
    (record { formed = λ w. w.2; falls = omega arith })
chosen_is attrs p c first None false b e = cc
chosen_is attrs p c first (Some second) true b e =
    let same : block first ≡ b = cc in
    subst (IsChosen (if_else attrs p c (block first) (block second))) same
    (record { formed = λ w. w.3; falls = omega arith })
chosen_is attrs p c first (Some second) false b e =
    let same : block second ≡ b = cc in
    subst (IsChosen (if_else attrs p c (block first) (block second))) same
    (record { formed = λ w. w.4; falls = omega arith })

pub by_is : (attrs : Attributes) (p : Pos) (c : Expr) (first : declared.Block) (second : Option declared.Block)
    (o : Option Bool) (b : Block) → Some b ≡ chosen_by o (block first) (option_map block second)
    → IsChosen (shown attrs p (k.If c first second)) b
by_is attrs p c first second None b e = cc
by_is attrs p c first second (Some holds) b e = chosen_is attrs p c first second holds b e
